-- A call hands on the references that it steals, one after another, from the variables of the function that makes it to
-- those of the callee.
use Rattle.std.proofs.Common.{◌≡◌, ◌≢◌, ℕ, zero, suc, ◌+◌, ◌<◌, Bool, true, false, cond, List, [], ◌∷◌, ◌++◌, length, Option, None, Some, inl, inr, refl, sym, ap, ◌∙◌, subst, arith}
use Rattle.std.specs.Prelude.{◌==◌, ◌&&◌, ◌||◌, fold, filter, map, slice_set, if◌then◌else◌}
use Rattle.std.specs.List.{AllByRecursion, list_any}
use Rattle.std.proofs.lemmas.Bool.{eq-eqb, ne_eqb, false≢true}
use Rattle.std.proofs.lemmas.Bool.Decides.{eqb_tells}
use Rattle.std.proofs.lemmas.List.{append-nil}
use Rattle.brc_lang.specs.declared.parameter.Argument.{Argument}
use Rattle.brc_model.specs.declared.state.Slot.TheVariants.{Empty}
use Rattle.brc_model.specs.declared.state.State.{State}
use Rattle.brc_model.specs.declared.duty.Holding.{Holding}
use Rattle.brc_model.specs.declared.duty.Holding.TheVariants.{ByVariable, AsCaller, InFlight}
use Rattle.brc_model.specs.AbstractState.{Reference, Move, same, same_holding, without}
use Rattle.brc_model.specs.Moves.{pass_on}
use Rattle.brc_model.specs.References.{held, one_if, reference_of}
use Rattle.brc_model.specs.SlotStates.{var_of, is_owned, names, put, emptied, is_stolen, stolen, clash}
use Rattle.brc_model.specs.Threads.{row_of}
use Rattle.brc_model.specs.Actions.{without_row, handed_row, handed_rows}
use Rattle.brc_model.proofs.Basics.Below.{get_next, next_length, next_then}
use Rattle.brc_model.proofs.Basics.Bag.{held_has, held-without, held-cons}
use Rattle.brc_model.proofs.Stepping.Counts.{same_is, flip_eqb}
use Rattle.brc_model.proofs.Keeping.SilentMoves.{SilentMoves, Stays, PassesOn, bag_after}
use Rattle.brc_model.proofs.Dispatch.Holds.{Activation, of_variables, Holds, own_depth}
use Rattle.brc_model.proofs.Dispatch.Grounded.{var_of-put_other, row_of-set_other}
use Rattle.brc_model.proofs.Dispatch.Calls.{AreSixteen, put_sixteen}
use Rattle.brc_model.proofs.Dispatch.OneMoreOrLess.{emptied_says}
use Rattle.brc_model.specs.declared.layout.Layout.{Layout}

-- ---- what the callee's variables own so far

-- The references of a thread that hands on what a call steals: those of the function that makes the call, and those
-- that variables of the callee own so far, which has one more call open around it.
abbrev pub of_both : Activation → State → List (Option ℕ) → List (Option ℕ) → Holding → ℕ → Bool
of_both call s rows own (ByVariable depth v) object =
    if depth == suc call.depth then names (row_of own v) object
    else of_variables call s rows (ByVariable depth v) object
of_both call s rows own AsCaller object = of_variables call s rows AsCaller object
of_both call s rows own InFlight object = of_variables call s rows InFlight object

-- the row that the callee's variable owns for the argument, if it is stolen
abbrev pub given : List (Option ℕ) → Argument → Option ℕ
given variables a = cond (is_stolen a) (row_of variables a.from) None

-- One more variable that owns a row makes no difference to the others.
own_same : (own : List (Option ℕ)) (row : Option ℕ) (v : ℕ) → v ≢ length own
    → row_of (own ++ row ∷ []) v ≡ row_of own v
own_same [] row zero apart = absurd (apart refl)
own_same [] row (suc v) apart = refl
own_same (o ∷ own) row zero apart = refl
own_same (o ∷ own) row (suc v) apart = own_same own row v (λ e. apart (ap suc e))

-- Behind the last variable that is filled nothing is owned yet.
own_none : (own : List (Option ℕ)) → row_of own (length own) ≡ None
own_none [] = refl
own_none (o ∷ own) = own_none own

-- One more variable that owns nothing makes no difference.
own_nothing : (own : List (Option ℕ)) (v : ℕ) → row_of (own ++ None ∷ []) v ≡ row_of own v
own_nothing [] zero = refl
own_nothing [] (suc v) = refl
own_nothing (o ∷ own) zero = refl
own_nothing (o ∷ own) (suc v) = own_nothing own v

-- ---- one reference

-- At the callee's depth, and at any other one.
at_callee : (call : Activation) (s : State) (rows own : List (Option ℕ)) (v object : ℕ)
    → of_both call s rows own (ByVariable (suc call.depth) v) object ≡ names (row_of own v) object
at_callee call s rows own v object =
    ap (λ (b : Bool). cond b (names (row_of own v) object)
    (of_variables call s rows (ByVariable (suc call.depth) v) object))
    (eq-eqb (suc call.depth) (suc call.depth) refl)

elsewhere : (call : Activation) (s : State) (rows own : List (Option ℕ)) (depth v object : ℕ)
    → (depth == suc call.depth) ≡ false
    → of_both call s rows own (ByVariable depth v) object ≡ of_variables call s rows (ByVariable depth v) object
elsewhere call s rows own depth v object apart =
    ap (λ (b : Bool). cond b (names (row_of own v) object) (of_variables call s rows (ByVariable depth v) object)) apart

-- What the thread is to hold changes by the reference that goes from a variable to the callee's next one.
handed_says : (call : Activation) (s : State) (rows own : List (Option ℕ)) (from row : ℕ)
    → from < length s.slots → is_owned (var_of s from) ≡ true → row_of rows from ≡ Some row
    → (k : Holding) (object : ℕ)
    → one_if (of_both call s rows own k object)
    + one_if (same_holding (ByVariable (suc call.depth) (length own)) k && (row == object))
    ≡ one_if (of_both call (put s from Empty) (slice_set rows from None) (own ++ Some row ∷ []) k object)
    + one_if (same_holding (ByVariable call.depth from) k && (row == object))
handed_says call s rows own from row in_slots owned is AsCaller object = omega arith
handed_says call s rows own from row in_slots owned is InFlight object = omega arith
handed_says call s rows own from row in_slots owned is (ByVariable depth v) object =
    let after = put s from Empty in
    let left = slice_set rows from None in
    let more = own ++ Some row ∷ [] in
    let gained = one_if (same_holding (ByVariable (suc call.depth) (length own)) (ByVariable depth v)
    && (row == object)) in
    let lost = one_if (same_holding (ByVariable call.depth from) (ByVariable depth v) && (row == object)) in
    elim (eqb_tells depth (suc call.depth)) [
      | inl this ↦
          let none : lost ≡ 0 =
          ap (λ (b : Bool). one_if ((b && (from == v)) && (row == object)))
          (ne_eqb call.depth depth (λ e. absurd (omega (arith, e, this.1)))) in
          let some : gained ≡ one_if ((length own == v) && (row == object)) =
          ap (λ (b : Bool). one_if ((b && (length own == v)) && (row == object)))
          (eq-eqb (suc call.depth) depth (sym this.1)) in
          let before : one_if (of_both call s rows own (ByVariable depth v) object)
          ≡ one_if (names (row_of own v) object) =
          ap (λ (b : Bool). one_if (cond b (names (row_of own v) object)
          (of_variables call s rows (ByVariable depth v) object))) this.0 in
          let now : one_if (of_both call after left more (ByVariable depth v) object)
          ≡ one_if (names (row_of more v) object) =
          ap (λ (b : Bool). one_if (cond b (names (row_of more v) object)
          (of_variables call after left (ByVariable depth v) object))) this.0 in
          elim (eqb_tells v (length own)) [
            | inl here ↦
                let empty : one_if (names (row_of own v) object) ≡ 0 =
                ap (λ (o : Option ℕ). one_if (names o object)) (ap (row_of own) here.1 ∙ own_none own) in
                let named : one_if (names (row_of more v) object) ≡ one_if (row == object) =
                ap (λ (o : Option ℕ). one_if (names o object)) (ap (row_of more) here.1 ∙ get_next own (Some row) None)
                ∙ ap one_if (flip_eqb object row) in
                let one : one_if ((length own == v) && (row == object)) ≡ one_if (row == object) =
                ap (λ (b : Bool). one_if (b && (row == object))) (eq-eqb (length own) v (sym here.1)) in
                omega (arith, none, some, before, now, empty, named, one)
            | inr apart ↦
                let still : one_if (names (row_of more v) object) ≡ one_if (names (row_of own v) object) =
                ap (λ (o : Option ℕ). one_if (names o object)) (own_same own (Some row) v apart.1) in
                let zero_more : one_if ((length own == v) && (row == object)) ≡ 0 =
                ap (λ (b : Bool). one_if (b && (row == object))) (flip_eqb (length own) v ∙ apart.0) in
                omega (arith, none, some, before, now, still, zero_more)
          ]
      | inr apart ↦
          let none : gained ≡ 0 =
          ap (λ (b : Bool). one_if ((b && (length own == v)) && (row == object)))
          (flip_eqb (suc call.depth) depth ∙ apart.0) in
          let before = ap one_if (elsewhere call s rows own depth v object apart.0) in
          let now = ap one_if (elsewhere call after left more depth v object apart.0) in
          omega (
            arith,
            none,
            before,
            now,
            emptied_says call s rows from row in_slots owned is (ByVariable depth v) object,
          )
    ]

-- So the bag fits once the reference is passed on.
one_handed : (bag : List Reference) (t : ℕ) (call : Activation) (s : State) (rows own : List (Option ℕ))
    (from row : ℕ)
    → from < length s.slots → is_owned (var_of s from) ≡ true → row_of rows from ≡ Some row
    → Holds bag t (of_both call s rows own)
    → list_any (same (reference_of t (ByVariable call.depth from) row)) bag ≡ true
    → Holds (reference_of t (ByVariable (suc call.depth) (length own)) row
    ∷ without (reference_of t (ByVariable call.depth from) row) bag) t
    (of_both call (put s from Empty) (slice_set rows from None) (own ++ Some row ∷ []))
one_handed bag t call s rows own from row in_slots owned is holds has = record {
  each = λ k object.
      let r = reference_of t k object in
      let out = ByVariable call.depth from in
      let to = ByVariable (suc call.depth) (length own) in
      let lost : one_if (same r (reference_of t out row)) ≡ one_if (same_holding out k && (row == object)) =
      ap one_if (same_is t row out k object) in
      let gained : one_if (same r (reference_of t to row)) ≡ one_if (same_holding to k && (row == object)) =
      ap one_if (same_is t row to k object) in
      omega (
        arith,
        holds.each k object,
        handed_says call s rows own from row in_slots owned is k object,
        held-without r (reference_of t out row) bag has,
        held-cons r (reference_of t to row) (without (reference_of t out row) bag),
        lost,
        gained,
      );
}

-- The thread has the reference.
has_owned : (bag : List Reference) (t : ℕ) (call : Activation) (s : State) (rows own : List (Option ℕ))
    (from row : ℕ) → is_owned (var_of s from) ≡ true → row_of rows from ≡ Some row
    → Holds bag t (of_both call s rows own)
    → list_any (same (reference_of t (ByVariable call.depth from) row)) bag ≡ true
has_owned bag t call s rows own from row owned is holds =
    let r = reference_of t (ByVariable call.depth from) row in
    let one : held r bag ≡ 1 =
    holds.each (ByVariable call.depth from) row
    ∙ ap one_if (elsewhere call s rows own call.depth from row
    (ne_eqb call.depth (suc call.depth) (λ e. absurd (omega (arith, e))))
    ∙ own_depth call s rows from row ∙ ap (λ (b : Bool). b && names (row_of rows from) row) owned
    ∙ ap (λ (o : Option ℕ). names o row) is ∙ eq-eqb row row refl) in
    held_has r bag (omega (arith, one))

-- ---- all references of a call

-- So it makes no difference to what the thread holds.
nothing_more : (call : Activation) (s : State) (rows own : List (Option ℕ)) (k : Holding) (object : ℕ)
    → of_both call s rows (own ++ None ∷ []) k object ≡ of_both call s rows own k object
nothing_more call s rows own AsCaller object = refl
nothing_more call s rows own InFlight object = refl
nothing_more call s rows own (ByVariable depth v) object =
    ap (λ (o : Option ℕ). cond (depth == suc call.depth) (names o object)
    (of_variables call s rows (ByVariable depth v) object)) (own_nothing own v)

-- What a call needs of an argument to hand it on: it names a row, the one that it named at first, and owns its
-- reference if that is stolen.
pub record IsReady (s : State) (rows variables : List (Option ℕ)) (a : Argument) : Type 0 where
  pub low : a.from < 16
  pub row : ℕ
  pub named : row_of rows a.from ≡ Some row
  pub first : row_of variables a.from ≡ Some row
  pub owned : is_stolen a ≡ true → is_owned (var_of s a.from) ≡ true

abbrev pub AreReady : State → List (Option ℕ) → List (Option ℕ) → List Argument → Type 0
AreReady s rows variables arguments = AllByRecursion (IsReady s rows variables) arguments

-- No argument clashes with a later one.
abbrev pub AreApart : List Argument → Type 0
AreApart [] = Unit {0}
AreApart (a ∷ others) = AllByRecursion (λ b. clash a b ≡ false) others × AreApart others

-- A stolen argument's variable isn't that of one with which it doesn't clash.
pub apart_from : (a b : Argument) → is_stolen a ≡ true → clash a b ≡ false → a.from ≢ b.from
apart_from a b steals free e =
    let wrong : clash a b ≡ true =
    ap (λ (c : Bool). (c || is_stolen b) && (a.from == b.from)) steals ∙ eq-eqb a.from b.from e in
    false≢true (sym free ∙ wrong)

-- The other arguments are ready still, once one is stolen.
ready_still : (s : State) (rows variables : List (Option ℕ)) (a : Argument) (others : List Argument)
    → is_stolen a ≡ true → AllByRecursion (λ b. clash a b ≡ false) others
    → AreReady s rows variables others → AreReady (put s a.from Empty) (slice_set rows a.from None) variables others
ready_still s rows variables a [] steals apart ready = tt
ready_still s rows variables a (b ∷ others) steals apart ready =
    let ne : b.from ≢ a.from = λ e. apart_from a b steals apart.0 (sym e) in (
      record {
        low = ready.0.low;
        row = ready.0.row;
        named = row_of-set_other rows a.from b.from None ne ∙ ready.0.named;
        first = ready.0.first;
        owned = λ taken. ap is_owned (var_of-put_other s a.from b.from Empty ne) ∙ ready.0.owned taken;
      },
      ready_still s rows variables a others steals apart.1 ready.1,
    )

-- The moves are the thread's, and after them it holds what is to be held.
pub record Handed (call : Activation) (bag : List Reference) (t : ℕ) (moves : List Move) (s : State)
    (rows own : List (Option ℕ)) : Type 0 where
  pub moves_fit : (layout : Layout) → SilentMoves layout bag t moves
  pub holds : Holds (bag_after bag moves) t (of_both call s rows own)

-- Handing on the stolen references of all arguments leaves the thread what it is to hold.
pub handed : (bag : List Reference) (t : ℕ) (call : Activation) (s : State) (rows variables own : List (Option ℕ))
    (to : ℕ) (arguments : List Argument) → length own ≡ to → AreSixteen s rows → AreReady s rows variables arguments
    → AreApart arguments → Holds bag t (of_both call s rows own)
    → Handed call bag t (handed_rows t call.depth variables to arguments) (fold emptied s (stolen arguments))
    (fold without_row rows (stolen arguments)) (own ++ map (given variables) arguments)
handed bag t call s rows variables own to [] next sixteen ready apart holds = record {
  moves_fit = λ layout. Stays;
  holds = subst (λ (l : List (Option ℕ)). Holds bag t (of_both call s rows l)) (sym (append-nil own)) holds;
}
handed bag t call s rows variables own to (a ∷ others) next sixteen ready apart holds =
    let row = ready.0.row in
    let rest = handed_rows t call.depth variables (suc to) others in
    let fs = filter is_stolen others in
    let froms : List Argument → List ℕ = λ l. map (λ (x : Argument). x.from) l in
    let moved : (b : Bool) → is_stolen a ≡ b
    → Handed call bag t
    (cond b (pass_on t (ByVariable call.depth a.from) (ByVariable (suc call.depth) to) row) [] ++ rest)
    (fold emptied s (froms (cond b (a ∷ fs) fs))) (fold without_row rows (froms (cond b (a ∷ fs) fs)))
    (own ++ cond b (Some row) None ∷ map (given variables) others) = λ b.
    elim b as (λ c. is_stolen a ≡ c
    → Handed call bag t
    (cond c (pass_on t (ByVariable call.depth a.from) (ByVariable (suc call.depth) to) row) [] ++ rest)
    (fold emptied s (froms (cond c (a ∷ fs) fs))) (fold without_row rows (froms (cond c (a ∷ fs) fs)))
    (own ++ cond c (Some row) None ∷ map (given variables) others)) [
      | true ↦ λ steals.
          let owned = ready.0.owned steals in
          let in_slots : a.from < length s.slots = omega (arith, ready.0.low, sixteen.slots) in
          let has = has_owned bag t call s rows own a.from row owned ready.0.named holds in
          let r = reference_of t (ByVariable call.depth a.from) row in
          let now : Holds (reference_of t (ByVariable (suc call.depth) to) row ∷ without r bag) t
          (of_both call (put s a.from Empty) (slice_set rows a.from None) (own ++ Some row ∷ [])) =
          subst (λ (w : ℕ). Holds (reference_of t (ByVariable (suc call.depth) w) row ∷ without r bag) t
          (of_both call (put s a.from Empty) (slice_set rows a.from None) (own ++ Some row ∷ []))) next
          (one_handed bag t call s rows own a.from row in_slots owned ready.0.named holds has) in
          let further =
          handed (reference_of t (ByVariable (suc call.depth) to) row ∷ without r bag) t call (put s a.from Empty)
          (slice_set rows a.from None) variables (own ++ Some row ∷ []) (suc to) others
          (next_length own (Some row) ∙ ap suc next) (put_sixteen s rows a.from sixteen)
          (ready_still s rows variables a others steals apart.0 ready.1) apart.1 now in
          record {
            moves_fit = λ layout.
                PassesOn (ByVariable call.depth a.from) (ByVariable (suc call.depth) to) row rest has
                (further.moves_fit layout);
            holds = subst (λ (l : List (Option ℕ)). Holds
                (bag_after (reference_of t (ByVariable (suc call.depth) to) row ∷ without r bag) rest) t
                (of_both call (fold emptied (put s a.from Empty) (stolen others))
                (fold without_row (slice_set rows a.from None) (stolen others)) l))
                (next_then own (Some row) (map (given variables) others)) further.holds;
          }
      | false ↦ λ borrows.
          let now : Holds bag t (of_both call s rows (own ++ None ∷ [])) = record {
            each = λ k object. holds.each k object ∙ ap one_if (sym (nothing_more call s rows own k object));
          } in
          let further =
          handed bag t call s rows variables (own ++ None ∷ []) (suc to) others (next_length own None ∙ ap suc next)
          sixteen ready.1 apart.1 now in
          record {
            moves_fit = further.moves_fit;
            holds = subst (λ (l : List (Option ℕ)). Holds (bag_after bag rest) t
                (of_both call (fold emptied s (stolen others)) (fold without_row rows (stolen others)) l))
                (next_then own None (map (given variables) others)) further.holds;
          }
    ] in
    subst (λ (o : Option ℕ). Handed call bag t (handed_row t call.depth to a o ++ rest)
    (fold emptied s (stolen (a ∷ others))) (fold without_row rows (stolen (a ∷ others)))
    (own ++ cond (is_stolen a) o None ∷ map (given variables) others)) (sym ready.0.first)
    (moved (is_stolen a) refl)
