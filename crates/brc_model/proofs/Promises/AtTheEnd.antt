-- Once no thread has anything to do, each object to which no reference is left is closed, and a cell of a list that
-- isn't closed holds each reference that is left.
use Rattle.std.proofs.Common.{◌≡◌, ℕ, ◌<◌, true, false, List, [], ◌∷◌, inl, inr, Some, refl, sym, ap, ◌∙◌, subst, arith, ◌≢◌}
use Rattle.std.specs.Prelude.{◌==◌, ◌⊎◌, slice_get, count_by, sum_by}
use Rattle.std.specs.List.{All}
use Rattle.std.proofs.lemmas.List.Elements.{All-nil, All-cons}
use Rattle.std.proofs.lemmas.Bool.{eq-eqb, false≢true}
use Rattle.std.proofs.lemmas.Option.{slice_get_cases}
use Rattle.brc_model.specs.declared.duty.Holding.{Holding}
use Rattle.brc_model.specs.AbstractState.{Holder, ByThread, ByCell, Reference, is_among, references_to}
use Rattle.brc_model.specs.declared.duty.Duty.{Duty}
use Rattle.brc_model.specs.declared.address.Address.TheVariants.{Cell, ThreadWord}
use Rattle.brc_model.specs.declared.actor.Actor.{Actor}
use Rattle.brc_model.specs.Machine.{Life, Unborn, Live, Dying, Closed, Machine, mark_of}
use Rattle.brc_model.specs.Safety.{IsHeldByOpenList}
use Rattle.brc_model.proofs.Basics.Bag.{held-cons, held_itself}
use Rattle.brc_model.specs.References.{held, one_if, reference_of, word_holds, cell_reference}
use Rattle.brc_model.specs.RowInvariant.{waits, carries, merges, decides, agenda_weight, weight, IsDefault, IsQueued, AtZero, AboveZero, InOwned, InSwapped, InMerged, IsLive, RowInvariant}
use Rattle.brc_model.specs.Accounts.{Account, Accounts, HoldsAt, HoldsNone}
use Rattle.brc_model.proofs.Stepping.Exits.{marked_born}
use Rattle.brc_model.specs.Invariant.{numbers_of, looks, ByRunning, ByExit, ByLook, CellFits, CoreInvariant}
use Rattle.brc_model.specs.OpenWork.{scans, Linked, dies_by, finalised}
use Rattle.brc_model.proofs.Work.Deciders.{sum_zero}
use Rattle.brc_model.proofs.Basics.Blocks.{born_used}
use Rattle.std.proofs.lemmas.Bool.{cases_Bool}
use Rattle.brc_word.specs.declared.values.TheConstants.{RUNNING, UNSET, EMPTY}
use Rattle.brc_model.specs.Layout.{block_of, index_of, is_immortal_row, IsCounted}

-- ---- each reference of a bag

-- What holds of each reference that the bag has holds of all of them.
each_held : (P : Reference → Type 0) (bag : List Reference) → ((r : Reference) → 0 < held r bag → P r) → All P bag
each_held P [] each = All-nil P
each_held P (q ∷ qs) each =
    All-cons P q qs (each q (omega (arith, held_itself q qs)))
    (each_held P qs (λ r some. each r (omega (arith, some, held-cons r q qs))))

-- ---- when no thread has anything to do

-- The thread has nothing to do, and holds nothing. It doesn't run, or it has used no row.
pub record IsAtEnd (account : Account) (m : Machine) (t : ℕ) (a : Actor) : Type 0 where
  pub agenda : a.agenda ≡ []
  pub aside : a.aside ≡ []
  pub head : a.head ≡ 0
  pub none : HoldsNone account
  pub stopped : (m.memory (ThreadWord t) ≢ RUNNING) ⊎ (a.used ≡ 0)

abbrev pub AreAtEnd : Accounts → Machine → Type 0
AreAtEnd p m = (t : ℕ) (a : Actor) → slice_get m.actors t ≡ Some a → IsAtEnd (p t) m t a

module _ {p : Accounts} {n : ℕ} {m : Machine} where
  pub held_by_none : (t : ℕ) (k : Holding) (object : ℕ) → CoreInvariant p n m → AreAtEnd p m
      → held (reference_of t k object) m.abstract.references ≡ 0
  held_by_none t k object core done =
      elim (slice_get_cases m.actors t).1 [
        | inl found ↦
            let a = found.0 in
            let ended = done t a found.2 in
            let old = (core.each t a found.2).0 in
            let agenda : HoldsAt m.abstract.references t (p t) [] a.aside =
            subst (λ (l : List Duty). HoldsAt m.abstract.references t (p t) l a.aside) ended.agenda old.holds in
            let holds : HoldsAt m.abstract.references t (p t) [] [] =
            subst (HoldsAt m.abstract.references t (p t) []) ended.aside agenda in
            omega (arith, holds.each k object, ended.none k object)
        | inr past ↦ core.beyond t (omega (arith, past.0, core.threads)) k object
      ]

  -- A list whose cell holds a reference isn't closed.
  cell_open : (x i object : ℕ) → CoreInvariant p n m → 0 < held (cell_reference x i object) m.abstract.references
      → is_among x m.abstract.closed ≡ false
  cell_open x i object core some =
      elim (cases_Bool (is_among x m.abstract.closed)) [
        | inl closed ↦
            let empty : m.memory (Cell x i) ≡ EMPTY =
            subst (λ (l : Life). CellFits l (m.memory (Cell x i))) (core.closed_is x closed) (core.cells x i) in
            let none : word_holds (m.memory (Cell x i)) object ≡ 0 = ap (λ (w : ℕ). word_holds w object) empty in
            absurd (omega (arith, some, core.cells_hold x i object, none))
        | inr open_still ↦ open_still
      ]

  -- Then a cell of an open list holds each reference that is left.
  held_left : (h : Holder) (object : ℕ) → CoreInvariant p n m → AreAtEnd p m
      → 0 < held (record { holder = h; object = object }) m.abstract.references
      → IsHeldByOpenList m.abstract (record { holder = h; object = object })
  held_left (ByThread t k) object core done some = absurd (omega (arith, some, held_by_none t k object core done))
  held_left (ByCell x i) object core done some =
      record { list = x; cell = i; holder = refl; not_closed = cell_open x i object core some }

  pub left_in_lists : CoreInvariant p n m → AreAtEnd p m → All (IsHeldByOpenList m.abstract) m.abstract.references
  left_in_lists core done =
      each_held (IsHeldByOpenList m.abstract) m.abstract.references
      (λ r some. held_left r.holder r.object core done some)

  no_weights : (f : Duty → ℕ) → CoreInvariant p n m → AreAtEnd p m → weight f m.actors ≡ 0
  no_weights f core done = sum_zero (agenda_weight f) m.actors (λ t a found.
      let ended = done t a found in
      let agenda : sum_by f a.agenda ≡ 0 = ap (sum_by f) ended.agenda in
      let aside : sum_by f a.aside ≡ 0 = ap (sum_by f) ended.aside in
      omega (arith, agenda, aside))

  -- No mark is set, since no thread would watch it.
  no_mark : (x : ℕ) → CoreInvariant p n m → AreAtEnd p m → mark_of m.layout m.memory x ≡ UNSET
  no_mark x core done =
      elim (core.marks x) [
        | inl none ↦ none
        | inr set ↦
            elim set.2 [
              | ByRunning one ↦
                  let used = born_used x core (marked_born x core set.0) in
                  elim (done (block_of m.layout x) used.by used.found).stopped [
                    | inl stopped ↦ absurd (stopped one)
                    | inr unused ↦ absurd (omega (arith, used.low, unused))
                  ]
              | ByExit b found scanned ↦
                  absurd (false≢true (sym
                  (ap (scans (index_of m.layout (block_of m.layout x) x)) (done (block_of m.layout x) b found).agenda)
                  ∙ scanned))
              | ByLook some ↦ absurd (omega (arith, some, no_weights (looks x) core done))
            ]
      ]

  -- A live row has a reference.
  pub live_referenced : (x : ℕ) → CoreInvariant p n m → AreAtEnd p m → IsLive (block_of m.layout x) (numbers_of m x)
      → 0 < references_to x m.abstract.references
  live_referenced x core done live =
      let mark = no_mark x core done in
      let waiting = no_weights (waits x) core done in
      let carried = no_weights (carries x) core done in
      let merging = no_weights (merges x) core done in
      let deciding = no_weights (decides x) core done in
      elim live.mode [
        | InOwned o ↦
            elim o.decided [
              | AtZero z d ↦ absurd (omega (arith, d, deciding))
              | AboveZero z d ↦ elim o.phased [
                | IsDefault q w b ↦ omega (arith, live.sum, z, b, mark, waiting)
                | IsQueued q w ↦ absurd (omega (arith, w, mark, waiting))
              ]
            ]
        | InSwapped s ↦ absurd (omega (arith, s.merging, merging))
        | InMerged g ↦ omega (arith, live.sum, g.counted, mark, waiting)
      ]

  -- No row is dying, since every chain is empty.
  pub none_dying : (x t : ℕ) → CoreInvariant p n m → AreAtEnd p m → m.life x ≡ Dying t → ⊥
  none_dying x t core done dying =
      let dies : dies_by (m.life x) t ≡ true = ap (λ (l : Life). dies_by l t) dying ∙ eq-eqb t t refl in
      elim (slice_get_cases m.actors t).1 [
        | inl found ↦
            let ended = done t found.0 found.2 in
            let chain = (core.each t found.0 found.2).0.chain in
            let hand : finalised found.0.agenda x ≡ 0 = ap (λ (l : List Duty). finalised l x) ended.agenda in
            let one : one_if (dies_by (m.life x) t) ≡ 1 = ap one_if dies in
            elim chain.chained as (λ l. chain.chained ≡ l → Linked m.memory t found.0.head l → ⊥) [
              | [] ↦ λ e linked.
                  let none : count_by (λ y. y == x) chain.chained ≡ 0 = ap (count_by (λ y. y == x)) e in
                  absurd (omega (arith, chain.once x, hand, one, none))
              | y ∷ ys ↦ λ e linked. absurd (omega (arith, linked.0, ended.head))
            ] refl chain.linked
        | inr past ↦ false≢true (sym (core.dying x t (omega (arith, past.0, core.threads))) ∙ dies)
      ]

  -- A born row without references is closed.
  pub born_closed : (x : ℕ) (l : Life) → CoreInvariant p n m → AreAtEnd p m → IsCounted m.layout x
      → references_to x m.abstract.references ≡ 0 → (m.life x ≢ Unborn) → m.life x ≡ l → m.life x ≡ Closed
  born_closed x Unborn core done pos none born is = absurd (born is)
  born_closed x Live core done pos none born is =
      let live : IsLive (block_of m.layout x) (numbers_of m x) =
      subst (λ (l : Life). RowInvariant (block_of m.layout x) l (numbers_of m x)) is (core.rows x pos) in
      absurd (omega (arith, live_referenced x core done live, none))
  born_closed x (Dying t) core done pos none born is = absurd (none_dying x t core done is)
  born_closed x Closed core done pos none born is = is

  -- A closed row was born, and is counted.
  pub closed_born : (x : ℕ) → CoreInvariant p n m → m.life x ≡ Closed → (IsCounted m.layout x) × (m.life x ≢ Unborn)
  closed_born x core closed =
      elim (cases_Bool (is_immortal_row m.layout x)) [
        | inl immortal ↦ absurd (let wrong : Live ≡ Closed = sym (core.immortals_live x immortal) ∙ closed in cc)
        | inr counted ↦ (counted, λ e. let wrong : Closed ≡ Unborn = sym closed ∙ e in cc)
      ]

  -- A closed row has no reference.
  pub closed_free : (x : ℕ) → CoreInvariant p n m → IsCounted m.layout x → m.life x ≡ Closed
      → references_to x m.abstract.references ≡ 0
  closed_free x core counted closed =
      (subst (λ (l : Life). RowInvariant (block_of m.layout x) l (numbers_of m x)) closed
      (core.rows x counted)).references
