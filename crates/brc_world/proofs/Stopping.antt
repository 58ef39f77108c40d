-- What the open calls of a thread that stops give up.
use Rattle.std.proofs.Common.{◌≡◌, ℕ, suc, ◌+◌, ◌<◌, ◌≤◌, true, List, [], ◌∷◌, ◌++◌, length, Option, refl, sym, ap, ◌∙◌, subst, arith}
use Rattle.std.proofs.Common.{append_assoc, append-nil}
use Rattle.std.specs.Prelude.{zero, is_some, slice_set, map, reverse, take, drop}
use Rattle.std.specs.List.{slice_index_or}
use Rattle.std.proofs.lemmas.List.{reverse-append, take_all, drop_all}
use Rattle.brc_lang.specs.declared.module.Function.{Function}
use Rattle.brc_model.specs.declared.actor.OpenCall.{OpenCall as ModelCall}
use Rattle.brc_model.specs.declared.state.State.{State}
use Rattle.brc_model.specs.Threads.{number_under}
use Rattle.brc_model.specs.Actions.{given_up, owned_by, waiting_state}
use Rattle.brc_machine.specs.declared.open_call.OpenCall.{OpenCall}
use Rattle.brc_world.specs.OpenCalls.{calls_around, rows_of, AreKnown}
use Rattle.brc_machine.specs.OpenCalls.{open_of}

-- the items, pushed one after another onto the others
abbrev onto : {A : Type 0} → List A → List A → List A
onto [] outer = outer
onto (o ∷ inner) outer = onto inner (o ∷ outer)

onto_appends : {A : Type 0} (inner outer : List A) → onto inner outer ≡ reverse inner ++ outer
onto_appends [] outer = refl
onto_appends (o ∷ inner) outer =
    onto_appends inner (o ∷ outer) ∙ sym (append_assoc (reverse inner) (o ∷ []) outer)
    ∙ ap (λ l. l ++ outer) (sym (reverse-append (o ∷ []) inner))

map_onto : {A B : Type 0} (f : A → B) (inner outer : List A)
    → map f (onto inner outer) ≡ onto (map f inner) (map f outer)
map_onto f [] outer = refl
map_onto f (o ∷ inner) outer = map_onto f inner (o ∷ outer)

around_onto : (calls : List OpenCall) → calls_around calls ≡ onto (map open_of calls) []
around_onto calls =
    ap (map open_of) (sym (onto_appends calls [] ∙ append-nil (reverse calls))) ∙ map_onto open_of calls []

module _ (functions : List Function) (states : ℕ → ℕ → Option State) where
  -- the open call, of the function `number`, with the rows alone that it owns
  abbrev pub with_owned : ℕ → OpenCall → OpenCall
  with_owned number o = record {
    callee = o.callee;
    at = o.at;
    variables = owned_by (waiting_state functions states number (open_of o)) o.variables;
    turns = o.turns;
    to = o.to;
    otherwise = o.otherwise;
    next = o.next;
  }

  -- the calls with the rows alone that they own, where the first of them is a call of the function `number`
  abbrev pub each_owned : ℕ → List OpenCall → List OpenCall
  each_owned number [] = []
  each_owned number (o ∷ inner) = with_owned number o ∷ each_owned o.callee inner

  -- The states say in which state each of the calls waits, where the first of them is a call of the function `number`.
  abbrev pub EachKnown : ℕ → List OpenCall → Type 0
  EachKnown number [] = Unit {0}
  EachKnown number (o ∷ inner) =
      (is_some (waiting_state functions states number (open_of o)) ≡ true) × EachKnown o.callee inner

  known_onto : (first : ℕ) (inner : List OpenCall) (outer : List ModelCall)
      → AreKnown functions states first (onto (map open_of inner) outer)
      → AreKnown functions states first outer × EachKnown (number_under first outer) inner
  known_onto first [] outer known = (known, tt)
  known_onto first (o ∷ inner) outer known =
      let both = known_onto first inner (open_of o ∷ outer) known in
      (both.0.1, (both.0.0, both.1))

  pub each_known : (first : ℕ) (calls : List OpenCall) → AreKnown functions states first (calls_around calls)
      → EachKnown first calls
  each_known first calls known =
      (known_onto first calls [] (subst (AreKnown functions states first) (around_onto calls) known)).1

  -- What is known of the calls from the index on is known of the next one, and of those behind it.
  pub known_more : (number index : ℕ) (calls : List OpenCall) (o : OpenCall) → index < length calls
      → o ≡ slice_index_or calls index o → EachKnown number (drop index calls)
      → (is_some (waiting_state functions states number (open_of o)) ≡ true)
      × EachKnown o.callee (drop (suc index) (slice_set calls index (with_owned number o)))
  known_more number index [] o low is known = absurd (omega (arith, low))
  known_more number zero (x ∷ calls) o low is known = rw is known
  known_more number (suc index) (x ∷ calls) o low is known =
      known_more number index calls o (omega (arith, low)) is known

  -- One call more has its owned rows alone.
  pub owned_more : (number index : ℕ) (calls : List OpenCall) (o : OpenCall) → index < length calls
      → o ≡ slice_index_or calls index o
      → take index calls ++ each_owned number (drop index calls)
      ≡ take (suc index) (slice_set calls index (with_owned number o))
      ++ each_owned o.callee (drop (suc index) (slice_set calls index (with_owned number o)))
  owned_more number index [] o low is = absurd (omega (arith, low))
  owned_more number zero (x ∷ calls) o low is = rw is refl
  owned_more number (suc index) (x ∷ calls) o low is =
      ap (λ (l : List OpenCall). x ∷ l) (owned_more number index calls o (omega (arith, low)) is)

  -- What the calls own, pushed one after another onto what those further out give up, is what all of them give up.
  rows_onto : (first : ℕ) (inner : List OpenCall) (outer : List ModelCall)
      → onto (map rows_of (map open_of (each_owned (number_under first outer) inner)))
      (given_up functions states first outer)
      ≡ given_up functions states first (onto (map open_of inner) outer)
  rows_onto first [] outer = refl
  rows_onto first (o ∷ inner) outer = rows_onto first inner (open_of o ∷ outer)

  -- The rows that the calls own are what they give up.
  pub owned_given : (first : ℕ) (calls : List OpenCall)
      → map rows_of (calls_around (each_owned first calls))
      ≡ given_up functions states first (calls_around calls)
  owned_given first calls =
      ap (map rows_of) (around_onto (each_owned first calls))
      ∙ map_onto rows_of (map open_of (each_owned first calls)) []
      ∙ rows_onto first calls [] ∙ ap (given_up functions states first) (sym (around_onto calls))

  -- After all calls each has its owned rows alone.
  pub owned_all : (number index : ℕ) (calls : List OpenCall) → length calls ≤ index
      → take index calls ++ each_owned number (drop index calls) ≡ calls
  owned_all number index calls past =
      (λ i. take_all index calls past i ++ each_owned number (drop_all index calls past i)) ∙ append-nil calls
