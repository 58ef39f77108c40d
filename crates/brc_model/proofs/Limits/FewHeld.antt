-- A thread holds an object in few ways, in each way within a bound, and there are few cells, so an object
-- has few references.
use Rattle.std.proofs.Common.{◌≡◌, ℕ, zero, suc, ◌+◌, ◌*◌, ◌<◌, ◌≤◌, true, false, cond, List, [], ◌∷◌, Option, Some, inl, inr, refl, sym, ap, ◌∙◌, subst, arith}
use Rattle.std.specs.Prelude.{◌==◌, if◌then◌else◌, slice_get, count_by}
use Rattle.std.specs.List.{list_any}
use Rattle.std.proofs.lemmas.Bool.{cases_lt}
use Rattle.std.proofs.lemmas.Bool.Decides.{eqb_tells}
use Rattle.std.proofs.lemmas.Option.{slice_get_cases}
use Rattle.std.proofs.lemmas.List.Sums.{sum_by-cons}
use Rattle.brc_word.specs.declared.values.TheConstants.{EMPTY}
use Rattle.brc_model.specs.declared.duty.Holding.{Holding}
use Rattle.brc_model.specs.declared.duty.Holding.TheVariants.{ByVariable, AsCaller, InFlight}
use Rattle.brc_model.specs.declared.duty.Reason.TheVariants.{Own}
use Rattle.brc_model.specs.declared.duty.Duty.{Duty}
use Rattle.brc_model.specs.declared.duty.Duty.TheVariants.{ReleaseLoad, ReleaseStore, SharedLoad, SharedExchange, CellSwap}
use Rattle.brc_model.specs.AbstractState.{Holder, ByThread, ByCell, Reference, same, references_to}
use Rattle.brc_model.specs.declared.actor.Actor.{Actor}
use Rattle.brc_model.specs.Machine.{Life, Machine}
use Rattle.brc_model.proofs.Basics.Bag.{same_holding-true, one_if_true, one_if_low}
use Rattle.brc_model.specs.References.{held, one_if, reference_of, word_holds, cell_reference}
use Rattle.brc_model.specs.Accounts.{Account, Accounts, extra, extra_of, extra_aside, most_lent, IsBounded}
use Rattle.brc_model.specs.Invariant.{CellFits, CoreInvariant}
use Rattle.brc_model.specs.declared.address.Address.TheVariants.{Cell}
use Rattle.brc_model.specs.Ranges.{HasFewCells}
use Rattle.brc_model.specs.Limits.{cell_limit, depth_limit, total_limit}
use Rattle.brc_model.proofs.Basics.Blocks.{born_within, rows_low}
use Rattle.brc_model.specs.declared.layout.Layout.{Layout}
use Rattle.brc_model.specs.Layout.{row_count, IsCounted}
use Rattle.brc_model.proofs.Basics.Lists.{and_first}
use Rattle.brc_model.proofs.Frame.Aside.{gives, gives_of, gives_one, extra_gives, extra_counted}
use Rattle.brc_model.proofs.Limits.Ways.{Covers, covered, most_by, most_held, sum_below, ways, most_each, ways_are_of, most_of_ways, among_own, is_low, among_low, among_all, cell_ways, cell_ways_are_of, most_of_cells, among_cells_tail, among_cells}

-- ---- the references of one thread

-- A thread that holds an object by a variable holds it by one of the sixteen of one of its open calls.
account_low : (layout : Layout) (account : Account) (h : Holding) (object : ℕ) → IsBounded layout account
    → 0 < account h object → is_low h
account_low layout account (ByVariable depth v) object bounded some = (
  elim (cases_lt depth depth_limit) [
    | inl lt ↦ lt
    | inr deep ↦ absurd (omega (arith, some, bounded.shallow depth v object deep))
  ],
  elim (cases_lt v 16) [
    | inl lt ↦ lt
    | inr past ↦ absurd (omega (arith, some, bounded.sixteen depth v object past))
  ],
)
account_low layout account AsCaller object bounded some = tt
account_low layout account InFlight object bounded some = tt

account_most : (layout : Layout) (account : Account) (t : ℕ) (h : Holding) (object : ℕ) → IsBounded layout account
    → IsCounted layout object → account h object + 1 ≤ most_by (ByThread t h)
account_most layout account t (ByVariable depth v) object bounded counted =
    omega (arith, bounded.by_variable depth v object)
account_most layout account t AsCaller object bounded counted = omega (arith, bounded.lent object counted)
account_most layout account t InFlight object bounded counted = omega (arith, bounded.in_flight object)

-- How the thread holds the reference that a duty gives up.
abbrev given_by : Duty → Holding
given_by (ReleaseLoad x h) = h
given_by (CellSwap x i y h) = h
given_by _ = InFlight

extra_given : (d : Duty) (k : Holding) (object : ℕ) → extra d k object ≡ true → k ≡ given_by d
extra_given (ReleaseLoad x h) k object e = sym (same_holding-true h k (and_first _ _ e))
extra_given (ReleaseStore x w) k object e = sym (same_holding-true InFlight k (and_first _ _ e))
extra_given (SharedLoad x Own) k object e = sym (same_holding-true InFlight k (and_first _ _ e))
extra_given (SharedExchange x Own w) k object e = sym (same_holding-true InFlight k (and_first _ _ e))
extra_given (CellSwap x i y h) k object e = sym (same_holding-true h k (and_first _ _ e))
extra_given _ k object e = absurd cc

-- How the thread holds the reference to the object that the first of the duties gives up. It is in flight if no duty
-- gives one up.
abbrev given_in : ℕ → List Duty → Holding
given_in x [] = InFlight
given_in x (d ∷ rest) = if gives x d then given_by d else given_in x rest

given_as : (x : ℕ) (ds : List Duty) (k : Holding) → count_by (gives x) ds ≤ 1
    → 0 < count_by (λ d. extra d k x) ds → k ≡ given_in x ds
given_as x [] k few some = absurd (omega (arith, some))
given_as x (d ∷ rest) k few some =
    let all = sum_by-cons (λ (e : Duty). cond (gives x e) 1 0) d rest in
    let given = sum_by-cons (λ (e : Duty). cond (extra e k x) 1 0) d rest in
    elim (gives x d) as (λ b. gives x d ≡ b → k ≡ cond b (given_by d) (given_in x rest)) [
      | true ↦ λ e.
          let one : one_if (gives x d) ≡ 1 = ap one_if e in
          extra_given d k x (one_if_true (extra d k x) (omega (
            arith,
            all,
            given,
            few,
            some,
            one,
            extra_counted rest k x,
          )))
      | false ↦ λ e.
          let none : one_if (gives x d) ≡ 0 = ap one_if e in
          given_as x rest k (omega (arith, all, few)) (omega (arith, given, some, none, extra_gives d k x))
    ] refl

-- The first duty of an agenda, and the duties put aside.
abbrev opened : List Duty → List Duty → List Duty
opened [] aside = aside
opened (d ∷ rest) aside = d ∷ aside

opened_gives : (x : ℕ) (agenda aside : List Duty)
    → count_by (gives x) (opened agenda aside) ≡ one_if (gives_of x agenda) + count_by (gives x) aside
opened_gives x [] aside = omega arith
opened_gives x (d ∷ rest) aside = sum_by-cons (λ (e : Duty). cond (gives x e) 1 0) d aside

opened_extra : (x : ℕ) (k : Holding) (agenda aside : List Duty)
    → count_by (λ d. extra d k x) (opened agenda aside) ≡ one_if (extra_of agenda k x) + extra_aside aside k x
opened_extra x k [] aside = omega arith
opened_extra x k (d ∷ rest) aside = sum_by-cons (λ (e : Duty). cond (extra e k x) 1 0) d aside

abbrev opened_by : Option Actor → List Duty
opened_by (Some a) = opened a.agenda a.aside
opened_by _ = []

abbrev own_way : Machine → ℕ → ℕ → Holding
own_way m x t = given_in x (opened_by (slice_get m.actors t))

word_holds_one : (w object : ℕ) → word_holds w object ≤ 1
word_holds_one zero object = omega arith
word_holds_one (suc y) object = one_if_low (y == object)

module _ {p : Accounts} {n : ℕ} {m : Machine} where
  within_most : (h : Holder) (object : ℕ) → CoreInvariant p n m → IsCounted m.layout object
      → held (record { holder = h; object = object }) m.abstract.references ≤ most_by h
  within_most (ByCell x i) object core counted =
      omega (arith, core.cells_hold x i object, word_holds_one (m.memory (Cell x i)) object)
  within_most (ByThread t k) object core counted =
      elim (slice_get_cases m.actors t).1 [
        | inl found ↦
            let a = found.0 in
            let fits = core.each t a found.2 in
            let extra = extra_counted (opened a.agenda a.aside) k object in
            omega (
              arith,
              fits.0.holds.each k object,
              extra,
              opened_extra object k a.agenda a.aside,
              opened_gives object a.agenda a.aside,
              gives_one m t a object fits.2,
              account_most m.layout (p t) t k object fits.0.bounded counted,
            )
        | inr past ↦ omega (arith, core.beyond t (omega (arith, past.0, core.threads)) k object)
      ]

  thread_way : (t : ℕ) (k : Holding) (object : ℕ) → CoreInvariant p n m
      → 0 < held (reference_of t k object) m.abstract.references
      → list_any (same (reference_of t k object)) (ways (own_way m object) object n) ≡ true
  thread_way t k object core some =
      let r = reference_of t k object in
      elim (slice_get_cases m.actors t).1 [
        | inl found ↦
            let a = found.0 in
            let fits = core.each t a found.2 in
            let within : t < n = omega (arith, found.1, core.threads) in
            let all = opened a.agenda a.aside in
            let given = opened_gives object a.agenda a.aside in
            let extra = opened_extra object k a.agenda a.aside in
            let at_thread : list_any (same r) (ways (own_way m object) object (suc t)) ≡ true =
            elim (eqb_tells (count_by (λ d. Rattle.brc_model.specs.Accounts.extra d k object) all) 0) [
              | inl none ↦
                  let said : 0 < p t k object = omega (arith, fits.0.holds.each k object, some, none.1, extra) in
                  among_low (own_way m object) object t k (account_low m.layout (p t) k object fits.0.bounded said)
              | inr more ↦
                  let own : own_way m object t ≡ given_in object all =
                  ap (λ (o : Option Actor). given_in object (opened_by o)) found.2 in
                  among_own (own_way m object) object t k
                  (given_as object all k (omega (arith, given, gives_one m t a object fits.2)) (omega (arith, more.1))
                  ∙ sym own)
            ] in
            among_all (own_way m object) r object t n within at_thread
        | inr past ↦ absurd (omega (arith, core.beyond t (omega (arith, past.0, core.threads)) k object, some))
      ]

  -- A cell that holds an object is one of the few cells of a row that there is.
  cell_there : (y i object : ℕ) → CoreInvariant p n m → HasFewCells m
      → 0 < held (cell_reference y i object) m.abstract.references → (y < row_count m.layout) × (i < cell_limit)
  cell_there y i object core few some =
      let full : m.memory (Cell y i) ≡ EMPTY → ⊥ = λ empty.
      let none : word_holds (m.memory (Cell y i)) object ≡ 0 = ap (λ (w : ℕ). word_holds w object) empty in
      absurd (omega (arith, core.cells_hold y i object, none, some)) in (
        born_within y core
            (λ unborn. full (subst (λ (l : Life). CellFits l (m.memory (Cell y i))) unborn (core.cells y i))),
        elim (cases_lt i cell_limit) [
          | inl low ↦ low
          | inr past ↦ absurd (full (core.cells_end y i (omega (arith, past, few y, core.few_cells))))
        ],
      )

-- the ways in which the object may be held
abbrev keys_of : Machine → ℕ → ℕ → List Reference
keys_of m object n = cell_ways object (row_count m.layout) (ways (own_way m object) object n)

module _ {p : Accounts} {n : ℕ} {m : Machine} where
  held_way : (h : Holder) (object : ℕ) → CoreInvariant p n m → HasFewCells m
      → 0 < held (record { holder = h; object = object }) m.abstract.references
      → list_any (same (record { holder = h; object = object })) (keys_of m object n) ≡ true
  held_way (ByCell y i) object core few some =
      let there = cell_there y i object core few some in
      among_cells object y i (row_count m.layout) (ways (own_way m object) object n) there.0 there.1
  held_way (ByThread t k) object core few some =
      among_cells_tail (reference_of t k object) object (row_count m.layout) (ways (own_way m object) object n)
      (thread_way t k object core some)

  -- ---- all references to an object

  -- A counted object has at most `most_each` references for each thread, and one for each cell.
  pub references_few : (x : ℕ) → CoreInvariant p n m → HasFewCells m → IsCounted m.layout x
      → references_to x m.abstract.references ≤ most_each * n + cell_limit * total_limit
  references_few x core few counted =
      let keys = keys_of m x n in
      let covers : Covers keys m.abstract.references x =
      record {
        each = λ r is some. subst (λ (y : ℕ). list_any (same r) (keys_of m y n) ≡ true) is
            (held_way r.holder r.object core few some);
      } in
      omega (
        arith,
        covered keys m.abstract.references x covers,
        sum_below (λ (r : Reference). held r m.abstract.references) most_held x keys
            (cell_ways_are_of x (row_count m.layout) (ways (own_way m x) x n) (ways_are_of (own_way m x) x n))
            (λ r is. within_most r.holder r.object core (subst (IsCounted m.layout) (sym is) counted)),
        most_of_cells x (row_count m.layout) (ways (own_way m x) x n),
        most_of_ways (own_way m x) x n,
        rows_low core,
      )
