-- The references to an object are those that cells hold and those that the hands list, without those that hands are
-- making, and with those that hands are giving up.
use Rattle.std.proofs.Common.{◌≡◌, ℕ, ◌+◌, ◌<◌, ◌≤◌, Bool, true, false, cond, ◌&&◌, List, [], ◌∷◌, ◌++◌, length, inl, inr, refl, sym, ap, ◌∙◌, subst, arith}
use Rattle.std.specs.Prelude.{◌==◌, sum_by}
use Rattle.std.proofs.lemmas.Bool.{eq-eqb, ne_eqb, cases_lt}
use Rattle.std.proofs.lemmas.Bool.Decides.{eqb_tells}
use Rattle.std.proofs.lemmas.List.{length-append}
use Rattle.brc_model.specs.declared.duty.Holding.{Holding}
use Rattle.brc_model.specs.declared.duty.Holding.TheVariants.{ByVariable, AsCaller, InFlight}
use Rattle.brc_model.specs.AbstractState.{Holder, ByThread, ByCell, Reference, same_holding, same_holder, references_to}
use Rattle.brc_model.specs.References.{held, one_if, reference_of}
use Rattle.brc_model.specs.declared.actor.Actor.{Actor}
use Rattle.brc_model.specs.Accounts.{Account, HoldsAt}
use Rattle.brc_model.specs.OpenWork.{AgendaFits}
use Rattle.brc_model.specs.CountingLaws.{over_threads, is_in_cell, in_cells}
use Rattle.brc_model.proofs.Basics.Bag.{same_holding-swapped, held-cons, held_itself, references_to-cons}
use Rattle.brc_model.proofs.Limits.CellShares.{this_object, no_object, in_cells-cons}
use Rattle.brc_table.specs.Agreeing.{gives_up, makes}
use Rattle.brc_table.proofs.Summing.{over_each, over_sum, over_none, over_one}
use Rattle.brc_table.proofs.Tally.{tally, tally_both, same_length, callers, callers_long, callers_here, callers_else}
use Rattle.brc_table.proofs.Claims.{held_if, all_true, all_false, held_if_tally, gives, making, gives_holdings, makes_holdings, all_holdings, all_long, all_tallied, actor_tallied, makes_first, gives_first}

-- ---- the bag

-- the holder's holding, if the holder is the thread
abbrev holdings_of : ℕ → Holder → List Holding
holdings_of t (ByThread u k) = held_if (t == u) k
holdings_of t (ByCell y i) = []

-- the reference's holding, if it is the thread's and to the object
abbrev holding_in : ℕ → ℕ → Reference → List Holding
holding_in t x r = cond (x == r.object) (holdings_of t r.holder) []

-- the holdings of the thread's references to the object
abbrev holdings_in : ℕ → ℕ → List Reference → List Holding
holdings_in t x [] = []
holdings_in t x (r ∷ bag) = holding_in t x r ++ holdings_in t x bag

and_back : (a b : Bool) → (a && b) ≡ (b && a)
and_back true true = refl
and_back true false = refl
and_back false true = refl
and_back false false = refl

-- What a thread holds is as often among its holdings as in the bag: one holder, and then the whole bag.
holder_tallied : (t : ℕ) (k : Holding) (h : Holder)
    → tally k (holdings_of t h) ≡ one_if (same_holder (ByThread t k) h)
holder_tallied t k (ByThread u l) =
    held_if_tally (t == u) l k
    ∙ ap one_if (and_back (same_holding l k) (t == u) ∙ ap (λ (b : Bool). (t == u) && b) (same_holding-swapped l k))
holder_tallied t k (ByCell y i) = refl

guarded : (c : Holding) (b s : Bool) (l : List Holding) → tally c l ≡ one_if s → tally c (cond b l []) ≡ one_if (s && b)
guarded c true s l e = e ∙ sym (all_true s)
guarded c false s l e = sym (all_false s)

held_tallied : (t x : ℕ) (k : Holding) (bag : List Reference)
    → held (reference_of t k x) bag ≡ tally k (holdings_in t x bag)
held_tallied t x k [] = refl
held_tallied t x k (r ∷ bag) =
    omega (
      arith,
      held-cons (reference_of t k x) r bag,
      held_tallied t x k bag,
      tally_both k (holding_in t x r) (holdings_in t x bag),
      guarded k (x == r.object) (same_holder (ByThread t k) r.holder) (holdings_of t r.holder)
          (holder_tallied t k r.holder),
    )

-- Of the threads, nothing but those below the number holds the object.
pub record IsOfThreads (x n : ℕ) (bag : List Reference) : Type 0 where
  pub beyond : (t : ℕ) → n ≤ t → (k : Holding) → held (reference_of t k x) bag ≡ 0

-- What holds of a bag holds of the bag without its first reference.
of_rest : (x n : ℕ) (q : Reference) (bag : List Reference) → IsOfThreads x n (q ∷ bag) → IsOfThreads x n bag
of_rest x n q bag are = record {
  beyond = λ t past k. omega (arith, are.beyond t past k, held-cons (reference_of t k x) q bag);
}

-- A reference is of one thread, once, or a cell's.
holder_once : (x n : ℕ) (h : Holder) (bag : List Reference) → IsOfThreads x n (record { holder = h; object = x } ∷ bag)
    → over_threads (λ t. length (holdings_of t h)) n + one_if (is_in_cell h) ≡ 1
holder_once x n (ByCell y i) bag are = let none = over_none n in omega (arith, none)
holder_once x n (ByThread u k) bag are =
    let low : u < n = elim (cases_lt u n) [
      | inl low ↦ low
      | inr past ↦ absurd (omega (arith, are.beyond u past k, held_itself (reference_of u k x) bag))
    ] in
    let one =
    over_one (λ t. length (held_if (t == u) k)) u n low
    (λ t ne. ap (λ (b : Bool). length (held_if b k)) (ne_eqb t u ne))
    ∙ ap (λ (b : Bool). length (held_if b k)) (eq-eqb u u refl) in
    omega (arith, one)

reference_once : (x n : ℕ) (q : Reference) (bag : List Reference) → IsOfThreads x n (q ∷ bag)
    → over_threads (λ t. length (holding_in t x q)) n + one_if (is_in_cell q.holder && (q.object == x))
    ≡ one_if (q.object == x)
reference_once x n q bag are = elim (eqb_tells q.object x) [
  | inl this ↦
      let here : IsOfThreads x n (record { holder = q.holder; object = x } ∷ bag) =
      subst (λ (y : ℕ). IsOfThreads x n (record { holder = q.holder; object = y } ∷ bag)) this.1 are in
      let all =
      over_each (λ t. length (holding_in t x q)) (λ t. length (holdings_of t q.holder)) n
      (λ t low. ap (λ (b : Bool). length (cond b (holdings_of t q.holder) [])) (eq-eqb x q.object (sym this.1))) in
      omega (
        arith,
        all,
        holder_once x n q.holder bag here,
        ap one_if this.0,
        this_object (is_in_cell q.holder) (q.object == x) this.0,
      )
  | inr apart ↦
      let all =
      over_each (λ t. length (holding_in t x q)) (λ t. 0) n
      (λ t low. ap (λ (b : Bool). length (cond b (holdings_of t q.holder) []))
      (ne_eqb x q.object (λ e. apart.1 (sym e))))
      in
      omega (
        arith,
        all,
        over_none n,
        ap one_if apart.0,
        no_object (is_in_cell q.holder) (q.object == x) apart.0,
      )
]

-- the number of the thread's references to the object
abbrev pub share : ℕ → List Reference → ℕ → ℕ
share x bag t = length (holdings_in t x bag)

-- The references to an object are those of the threads, and those that cells hold.
pub share_all : (x n : ℕ) (bag : List Reference) → IsOfThreads x n bag
    → references_to x bag ≡ over_threads (share x bag) n + in_cells x bag
share_all x n [] are = let none = over_none n in omega (arith, none)
share_all x n (q ∷ bag) are =
    let both =
    over_each (share x (q ∷ bag)) (λ t. length (holding_in t x q) + share x bag t) n
    (λ t low. length-append (holding_in t x q) (holdings_in t x bag))
    ∙ over_sum (λ t. length (holding_in t x q)) (share x bag) n in
    omega (
      arith,
      references_to-cons x q bag,
      share_all x n bag (of_rest x n q bag are),
      reference_once x n q bag are,
      in_cells-cons x q bag,
      both,
    )

-- ---- one thread

-- An account without other holdings is as many references as the caller.
callers_tallied : (x : ℕ) (account : Account) → ((depth v : ℕ) → account (ByVariable depth v) x ≡ 0)
    → account InFlight x ≡ 0 → (k : Holding) → tally k (callers (account AsCaller x)) ≡ account k x
callers_tallied x account none flight AsCaller = callers_here (account AsCaller x)
callers_tallied x account none flight InFlight = callers_else InFlight (account AsCaller x) refl ∙ sym flight
callers_tallied x account none flight (ByVariable depth v) =
    callers_else (ByVariable depth v) (account AsCaller x) refl ∙ sym (none depth v)

-- A thread's references are those of its account as the caller, without those that its work makes, and with those that
-- its work gives up, if its account has no other holding.
pub share_one : (x t : ℕ) (bag : List Reference) (account : Account) (a : Actor)
    → HoldsAt bag t account a.agenda a.aside → AgendaFits a a.status
    → ((depth v : ℕ) → account (ByVariable depth v) x ≡ 0)
    → account InFlight x ≡ 0
    → share x bag t + (sum_by (makes x) a.agenda + sum_by (makes x) a.aside)
    ≡ account AsCaller x + (sum_by (gives_up x) a.agenda + sum_by (gives_up x) a.aside)
share_one x t bag account a holds fits none flight =
    let made = all_holdings (makes_holdings x) a.agenda in
    let made_aside = all_holdings (makes_holdings x) a.aside in
    let given = all_holdings (gives_holdings x) a.agenda in
    let given_aside = all_holdings (gives_holdings x) a.aside in
    let left = holdings_in t x bag ++ (made ++ made_aside) in
    let right = callers (account AsCaller x) ++ (given ++ given_aside) in
    let at : (k : Holding) → tally k left ≡ tally k right =
    λ k. omega (
      arith,
      tally_both k (holdings_in t x bag) (made ++ made_aside),
      tally_both k made made_aside,
      tally_both k (callers (account AsCaller x)) (given ++ given_aside),
      tally_both k given given_aside,
      held_tallied t x k bag,
      actor_tallied (making x) a a.status k fits,
      actor_tallied (gives x) a a.status k fits,
      ap one_if (makes_first x k a.agenda),
      ap one_if (gives_first x k a.agenda),
      all_tallied (making x) k a.aside,
      all_tallied (gives x) k a.aside,
      callers_tallied x account none flight k,
      holds.each k x,
    ) in
    let long = same_length left right at in
    omega (
      arith,
      long,
      length-append (holdings_in t x bag) (made ++ made_aside),
      length-append made made_aside,
      length-append (callers (account AsCaller x)) (given ++ given_aside),
      length-append given given_aside,
      callers_long (account AsCaller x),
      all_long (making x) a.agenda,
      all_long (making x) a.aside,
      all_long (gives x) a.agenda,
      all_long (gives x) a.aside,
    )
