-- A thread's first duty touches no freed row, and makes no move of references that isn't allowed.
use Rattle.std.proofs.Common.{◌≡◌, ℕ, zero, suc, ◌-◌, ◌<◌, Bool, true, false, cond, not, List, [], ◌∷◌, ◌++◌, refl, sym, ap, ◌∙◌, subst, arith, inl, inr}
use Rattle.std.specs.Prelude.{◌==◌, ◌&&◌, ◌||◌, count_by, slice_get, Option, None, Some}
use Rattle.std.specs.List.{list_any}
use Rattle.std.proofs.lemmas.Bool.{eq-eqb, lt-ltb}
use Rattle.std.proofs.lemmas.List.Sums.{sum_by-cons}
use Rattle.brc_model.specs.declared.duty.Holding.{Holding}
use Rattle.brc_model.specs.declared.duty.Holding.TheVariants.{ByVariable, AsCaller, InFlight}
use Rattle.brc_model.specs.AbstractState.{is_counted, is_among, AbstractState, same_holding, same, references_to, Move, Gain, Lose, PassOn, Finalise, is_allowed, are_allowed, Born, ByThread, holds_by_cells, move, without}
use Rattle.brc_word.specs.Words.{is_immortal_word}
use Rattle.brc_model.specs.declared.duty.Reason.TheVariants.{Own, Handed}
use Rattle.brc_model.specs.declared.duty.Duty.{Duty}
use Rattle.brc_model.specs.declared.duty.Duty.TheVariants.{RetainLoad, RetainStore, RetainAdd, ReleaseLoad, ReleaseStore, DecideAtZero, SharedLoad, SharedExchange, MergeSwap, MergeLoad, MergeExchange, Die, Settle, SettleKind, SettleCell, SettleEnd, TakeField, CloseResource, BirthKind, BirthField, BirthLocal, KindLoad, LockGate, UnlockGate, CellLoad, CellSwap, LendField, ReturnField}
use Rattle.brc_lang.specs.declared.kind.Kind.{Kind}
use Rattle.brc_model.specs.Kinds.{kind_of_word, is_counted_kind}
use Rattle.brc_model.specs.declared.address.Address.TheVariants.{Local, KindOf, Cell}
use Rattle.brc_model.specs.Duties.{address_of}
use Rattle.brc_model.specs.declared.actor.Actor.{Actor}
use Rattle.brc_model.specs.Machine.{Unborn, Live, Dying, Closed, Machine}
use Rattle.brc_model.specs.Moves.{put_in_flight, gain, lose, reference_effects, birth, take_out, put_in}
use Rattle.brc_model.specs.BadDuties.{touched_row, is_freed_for, touches_freed, is_bad_duty}
use Rattle.brc_model.proofs.Basics.Lists.{either}
use Rattle.brc_model.proofs.Basics.Bag.{same_holding-refl, held_has, no_cell_holds, same-refl, one_if_true}
use Rattle.brc_model.specs.References.{held, one_if, reference_of, word_holds, cell_reference}
use Rattle.brc_model.specs.RowInvariant.{decides}
use Rattle.brc_model.specs.Accounts.{Accounts, extra_of, lacks_of}
use Rattle.brc_model.specs.Knowledge.{IsBacked, MayRead, IsNext, IsEmpty}
use Rattle.brc_model.specs.OpenWork.{Linked, dies_by}
use Rattle.brc_model.specs.Invariant.{AtDuty, CoreInvariant, numbers_of}
use Rattle.brc_model.proofs.Promises.Agreeing.{is_free_of}
use Rattle.brc_model.proofs.Frame.Alive.{Alive, first_weighs, alive_deciding, alive_backed, backed_referenced, backed_lives}
use Rattle.brc_model.proofs.Frame.CellsHeld.{cell_held}
use Rattle.brc_model.proofs.Frame.Cells.{filled, filled_held}
use Rattle.brc_model.proofs.Frame.Others.{is_dying}
use Rattle.brc_model.proofs.Frame.Leaves.{head_of, load_alive, exchange_alive, decide_alive, merge_load_alive, merge_alive, claim_alive, gives_held, given_alive, locked_lives}
use Rattle.brc_model.proofs.Basics.Blocks.{next_counted, next_unborn}
use Rattle.brc_model.proofs.Stepping.Nones.{immortal_row}
use Rattle.std.proofs.lemmas.Bool.{cases_Bool}
use Rattle.brc_model.specs.declared.layout.Layout.{Layout}
use Rattle.brc_model.specs.Layout.{is_immortal_row, IsCounted, block_of}
use Rattle.brc_model.proofs.Objects.RowsAfterOwn.{counted_word}

-- ---- references given up

holder_same : (h : Holding) (x : ℕ) → (same_holding h h && (x == x)) ≡ true
holder_same h x = ap (λ (b : Bool). b && (x == x)) (same_holding-refl h) ∙ eq-eqb x x refl

-- ---- freed rows

alive_free : (m : Machine) (t x : ℕ) → Alive m x → is_freed_for t (m.life x) ≡ false
alive_free m t x alive = ap (is_freed_for t) alive.life

dying_free : (m : Machine) (t x : ℕ) → m.life x ≡ Dying t → is_freed_for t (m.life x) ≡ false
dying_free m t x dying = ap (is_freed_for t) dying ∙ ap not (eq-eqb t t refl)

one_at : (x : ℕ) → one_if (x == x) ≡ 1
one_at x = ap one_if (eq-eqb x x refl)

module _ {p : Accounts} {n : ℕ} {m : Machine} {t : ℕ} {a : Actor} {rest : List Duty} where
  -- The head of a thread's chain is a row that the thread is finalising.
  pub chain_head_dies : AtDuty p n m t a Settle rest → m.life (a.head - 1) ≡ Dying t
  chain_head_dies here =
      let chain = (here.core.each t a here.found).0.chain in
      let some : 0 < a.head = head_of here in
      elim chain.chained as (λ l. chain.chained ≡ l → Linked m.memory t a.head l → m.life (a.head - 1) ≡ Dying t) [
        | [] ↦ λ e linked. absurd (omega (arith, some, linked))
        | x ∷ xs ↦ λ e linked.
            let row : a.head - 1 ≡ x = omega (arith, linked.0) in
            let first : 0 < count_by (λ y. y == x) (x ∷ xs) =
            omega (arith, sum_by-cons (λ y. cond (y == x) 1 0) x xs, one_at x) in
            let counted : 0 < count_by (λ y. y == x) chain.chained =
            subst (λ (l : List ℕ). 0 < count_by (λ y. y == x) l) (sym e) first in
            let dies : dies_by (m.life x) t ≡ true = one_if_true _ (omega (arith, chain.once x, counted)) in
            ap m.life row ∙ is_dying (m.life x) t dies
      ] refl chain.linked

module _ {p : Accounts} {n : ℕ} {m : Machine} where
  -- The next row of a thread's block isn't freed, since it isn't born yet.
  next_free : (t : ℕ) (a : Actor) (x : ℕ) → CoreInvariant p n m → slice_get m.actors t ≡ Some a → IsNext m t a x
      → touches_freed m t (Some x) ≡ false
  next_free t a x core found next = ap (is_freed_for t) (next_unborn p n m t a x core found next)

  -- An object that something keeps alive for the thread's duty isn't freed.
  backed_free : (t : ℕ) (a : Actor) (x : ℕ) → CoreInvariant p n m → IsBacked m t a x → is_freed_for t (m.life x) ≡ false
  backed_free t a x core backed = ap (is_freed_for t) (backed_lives t a x core backed)

  -- Nor is an object that the thread has chained itself.
  look_free : (t : ℕ) (a : Actor) (x : ℕ) → CoreInvariant p n m → MayRead m t a x → is_freed_for t (m.life x) ≡ false
  look_free t a x core (inl backed) = backed_free t a x core backed
  look_free t a x core (inr chained) = dying_free m t x chained.0

  -- Nor is an object whose resource the thread has lent to a call of the host, since the thread has locked it.
  pub lent_free : (t : ℕ) (a : Actor) (row : Option ℕ) → CoreInvariant p n m → slice_get m.actors t ≡ Some a
      → a.lent ≡ row → touches_freed m t row ≡ false
  lent_free t a None core found lent = refl
  lent_free t a (Some x) core found lent =
      ap (is_freed_for t) (locked_lives t a x core found ((core.each t a found).0.lent x lent))

module _ {p : Accounts} {n : ℕ} {m : Machine} {t : ℕ} {a : Actor} {rest : List Duty} where
  touches_none : (d : Duty) → AtDuty p n m t a d rest
      → touches_freed m t (touched_row (address_of m.layout t a.head d)) ≡ false
  touches_none (RetainLoad x h) here = backed_free t a x here.core (head_of here)
  touches_none (RetainStore x h w) here =
      let fits = head_of here in
      alive_free m t x (alive_backed t a x here.core fits.0 fits.1)
  touches_none (RetainAdd x h) here =
      let fits = head_of here in
      alive_free m t x (alive_backed t a x here.core fits.0 fits.1)
  touches_none (ReleaseLoad x h) here =
      elim (cases_Bool (is_immortal_row m.layout x)) [
        | inl immortal ↦ ap (is_freed_for t) (here.core.immortals_live x immortal)
        | inr counted ↦ alive_free m t x (given_alive h x here counted (holder_same h x) refl)
      ]
  touches_none (ReleaseStore x w) here =
      alive_free m t x (given_alive InFlight x here (head_of here).0 (holder_same InFlight x) refl)
  touches_none (DecideAtZero x) here = alive_free m t x (decide_alive x here)
  touches_none (SharedLoad x r) here = alive_free m t x (load_alive x r here)
  touches_none (SharedExchange x r w) here = alive_free m t x (exchange_alive x w r here)
  touches_none (MergeSwap x Own) here =
      alive_free m t x (alive_deciding x here.core (head_of here).0
      (omega (arith, first_weighs (decides x) m.actors t a (MergeSwap x Own) rest here.found here.agenda, one_at x)))
  touches_none (MergeSwap x Handed) here = alive_free m t x (claim_alive x here)
  touches_none (MergeLoad x c r) here = alive_free m t x (merge_load_alive x c r here)
  touches_none (MergeExchange x c w r) here = alive_free m t x (merge_alive x c w r here)
  touches_none (Die x) here = dying_free m t x (head_of here).1
  touches_none Settle here = dying_free m t (a.head - 1) (chain_head_dies here)
  touches_none (SettleKind x) here = dying_free m t x (head_of here).1
  touches_none (SettleCell x i k) here = dying_free m t x (head_of here).1
  touches_none (TakeField x) here = dying_free m t x (head_of here).1
  touches_none (CloseResource x) here = dying_free m t x (head_of here).1
  touches_none (BirthKind x h w) here = next_free t a x here.core here.found (head_of here).0
  touches_none (BirthField x h) here = next_free t a x here.core here.found (head_of here).0
  touches_none (BirthLocal x h) here = next_free t a x here.core here.found (head_of here).0
  touches_none (SettleEnd x) here = dying_free m t x (head_of here).1
  touches_none (KindLoad x) here = look_free t a x here.core (head_of here)
  touches_none (LockGate x) here = backed_free t a x here.core (head_of here).0
  touches_none (UnlockGate x) here = backed_free t a x here.core (head_of here).0
  touches_none (CellLoad x i) here = look_free t a x here.core (head_of here).0
  touches_none (CellSwap x i y h) here =
      let locked = (head_of here).0 in
      ap (is_freed_for t) (locked_lives t a x here.core here.found locked)
  touches_none (LendField x) here =
      let locked = (head_of here).1 in
      ap (is_freed_for t) (locked_lives t a x here.core here.found locked)
  touches_none (ReturnField x) here =
      let lent = head_of here in
      ap (is_freed_for t)
      (locked_lives t a x here.core here.found ((here.core.each t a here.found).0.lent x lent))
  touches_none _ here = refl

-- ---- moves of references

one_allowed : (layout : Layout) (p : AbstractState) (mv : Move) → is_allowed layout p mv ≡ true
    → are_allowed layout p (mv ∷ []) ≡ true
one_allowed layout p mv e = ap (λ (b : Bool). b && true) e

or_true : (a : Bool) → (a || true) ≡ true
or_true true = refl
or_true false = refl

module _ {p : Accounts} {n : ℕ} {m : Machine} where
  backed_gain : (t : ℕ) (a : Actor) (x : ℕ) (h : Holding) → CoreInvariant p n m → IsBacked m t a x
      → are_allowed m.layout m.abstract (gain t h x) ≡ true
  backed_gain t a x h core backed =
      let some = backed_referenced p n m t a x core backed in
      one_allowed m.layout m.abstract (Gain (reference_of t h x))
      (ap (λ (b : Bool). is_immortal_row m.layout x || b) (lt-ltb 0 _ some) ∙ or_true (is_immortal_row m.layout x))

module _ {p : Accounts} {n : ℕ} {m : Machine} {t : ℕ} {a : Actor} {d : Duty} {rest : List Duty} where
  given_in_bag : (k : Holding) (x : ℕ) → AtDuty p n m t a d rest → extra_of (d ∷ rest) k x ≡ true
      → lacks_of (d ∷ rest) k x ≡ false → list_any (same (reference_of t k x)) m.abstract.references ≡ true
  given_in_bag k x here more less = held_has (reference_of t k x) m.abstract.references (gives_held k x here more less)

mortal_row : (m : Machine) (x : ℕ) → Alive m x → is_immortal_word (m.memory (Local x)) ≡ false
mortal_row m x alive = counted_word (block_of m.layout x) (numbers_of m x) alive.live

-- If the bag has a reference, putting it in flight is allowed.
put_in_flight_allowed : (layout : Layout) (p : AbstractState) (t x : ℕ) (h : Holding)
    → list_any (same (reference_of t h x)) p.references ≡ true
    → are_allowed layout p (put_in_flight t h x ++ []) ≡ true
put_in_flight_allowed layout p t x (ByVariable depth v) has =
    one_allowed layout p (PassOn (reference_of t (ByVariable depth v) x) (ByThread t InFlight)) has
put_in_flight_allowed layout p t x AsCaller has =
    one_allowed layout p (PassOn (reference_of t AsCaller x) (ByThread t InFlight)) has
put_in_flight_allowed layout p t x InFlight has = refl

-- If the bag has a reference, putting it in flight and losing it at once is allowed.
both_allowed : (layout : Layout) (p : AbstractState) (t x : ℕ) (h : Holding)
    → list_any (same (reference_of t h x)) p.references ≡ true
    → are_allowed layout p (PassOn (reference_of t h x) (ByThread t InFlight) ∷ lose t x) ≡ true
both_allowed layout p t x h has =
    let r = reference_of t InFlight x in
    ap (λ (b : Bool). b && are_allowed layout (move p (PassOn (reference_of t h x) (ByThread t InFlight)))
    (lose t x)) has
    ∙ one_allowed layout (move p (PassOn (reference_of t h x) (ByThread t InFlight))) (Lose r)
    (ap (λ (b : Bool). b || list_any (same r) (without (reference_of t h x) p.references)) (same-refl r))

let_go_allowed : (layout : Layout) (p : AbstractState) (t x : ℕ) (h : Holding)
    → list_any (same (reference_of t h x)) p.references ≡ true
    → are_allowed layout p (put_in_flight t h x ++ lose t x) ≡ true
let_go_allowed layout p t x (ByVariable depth v) has = both_allowed layout p t x (ByVariable depth v) has
let_go_allowed layout p t x AsCaller has = both_allowed layout p t x AsCaller has
let_go_allowed layout p t x InFlight has = one_allowed layout p (Lose (reference_of t InFlight x)) has

dying_is_not_live : (m : Machine) (t x : ℕ) → m.life x ≡ Dying t → (m.life x ≡ Live → ⊥)
dying_is_not_live m t x dying e = let wrong : Dying t ≡ Live = sym dying ∙ e in cc

dying_is_not_unborn : (m : Machine) (t x : ℕ) → m.life x ≡ Dying t → (m.life x ≡ Unborn → ⊥)
dying_is_not_unborn m t x dying e = let wrong : Dying t ≡ Unborn = sym dying ∙ e in cc

module _ {p : Accounts} {n : ℕ} {m : Machine} where
  -- Finalising a dying row is allowed: it has no reference, its cells hold none, and it wasn't closed before.
  finalise_allowed : (t x : ℕ) → CoreInvariant p n m → IsCounted m.layout x → m.life x ≡ Dying t → IsEmpty m.memory x
      → are_allowed m.layout m.abstract (Finalise x ∷ []) ≡ true
  finalise_allowed t x core pos dying cells =
      let free = is_free_of x core pos (dying_is_not_live m t x dying) (dying_is_not_unborn m t x dying) in
      let counted : is_counted m.layout x ≡ true = ap not pos in
      let none : (references_to x m.abstract.references == 0) ≡ true = eq-eqb _ _ free.references in
      let open_still : is_among x m.abstract.closed ≡ false =
      elim (is_among x m.abstract.closed) as (λ b. is_among x m.abstract.closed ≡ b → b ≡ false) [
        | true ↦ λ e. absurd (let wrong : Dying t ≡ Closed = sym dying ∙ core.closed_is x e in cc)
        | false ↦ λ e. refl
      ] refl in
      let empty : holds_by_cells x m.abstract.references ≡ false =
      no_cell_holds x m.abstract.references
      (λ i object. core.cells_hold x i object ∙ ap (λ (w : ℕ). word_holds w object) (cells i)) in
      one_allowed m.layout m.abstract (Finalise x) (rw (counted, none, open_still, empty) refl)

-- Taking out what a cell holds is allowed.
taken_allowed : (layout : Layout) (p : AbstractState) (t x i w : ℕ)
    → ((y : ℕ) → w ≡ suc y → 0 < held (cell_reference x i y) p.references)
    → are_allowed layout p (take_out t x i w) ≡ true
taken_allowed layout p t x i zero has = refl
taken_allowed layout p t x i (suc y) has =
    one_allowed layout p (PassOn (cell_reference x i y) (ByThread t InFlight))
    (held_has (cell_reference x i y) p.references (has y refl))

-- So is putting a reference in its place.
swap_allowed : (layout : Layout) (p : AbstractState) (t y x i w : ℕ) (h : Holding)
    → list_any (same (reference_of t h y)) p.references ≡ true
    → ((z : ℕ) → w ≡ suc z → 0 < held (cell_reference x i z) p.references)
    → are_allowed layout p (put_in t h y x i ++ take_out t x i w) ≡ true
swap_allowed layout p t y x i w h some has =
    ap (λ (b : Bool). b && are_allowed layout (filled p t h y x i) (take_out t x i w)) some
    ∙ taken_allowed layout (filled p t h y x i) t x i w
    (λ z is. omega (arith, has z is, filled_held p t y x i h x i z))

module _ {p : Accounts} {n : ℕ} {m : Machine} where
  -- The birth of the next row is allowed: the row wasn't born before, and its kind is counted.
  birth_allowed : (t : ℕ) (a : Actor) (x : ℕ) (h : Holding) (kind : Kind) → CoreInvariant p n m
      → slice_get m.actors t ≡ Some a → IsNext m t a x → is_counted_kind kind ≡ true
      → are_allowed m.layout m.abstract (birth t h x kind) ≡ true
  birth_allowed t a x h kind core found next counts =
      let counted : is_counted m.layout x ≡ true = ap not (next_counted m t a x next) in
      let new : is_among x m.abstract.born ≡ false =
      elim (is_among x m.abstract.born) as (λ b. is_among x m.abstract.born ≡ b → b ≡ false) [
        | true ↦ λ e. absurd ((core.born_is x e).1 (next_unborn p n m t a x core found next))
        | false ↦ λ e. refl
      ] refl in
      one_allowed m.layout m.abstract (Born (reference_of t h x) kind) (rw (counted, counts, new) refl)

module _ {p : Accounts} {n : ℕ} {m : Machine} {t : ℕ} {a : Actor} {rest : List Duty} where
  moves_allowed : (d : Duty) → AtDuty p n m t a d rest
      → are_allowed m.layout m.abstract (reference_effects m.memory t d (m.memory (address_of m.layout t a.head d)))
      ≡ true
  moves_allowed (RetainLoad x h) here =
      either (λ mvs. are_allowed m.layout m.abstract mvs ≡ true) (is_immortal_word (m.memory (Local x))) (gain t h x) []
      (λ e. backed_gain t a x h here.core (head_of here)) refl
  moves_allowed (RetainStore x h w) here = backed_gain t a x h here.core (head_of here).1
  moves_allowed (RetainAdd x h) here = backed_gain t a x h here.core (head_of here).1
  moves_allowed (ReleaseLoad x h) here =
      let has = given_in_bag h x here (holder_same h x) refl in
      elim (cases_Bool (is_immortal_row m.layout x)) [
        | inl immortal ↦
            ap (λ (b : Bool). are_allowed m.layout m.abstract (put_in_flight t h x ++ cond b (lose t x) []))
            (immortal_row x here.core immortal) ∙ let_go_allowed m.layout m.abstract t x h has
        | inr counted ↦
            let alive = given_alive h x here counted (holder_same h x) refl in
            ap (λ (b : Bool). are_allowed m.layout m.abstract (put_in_flight t h x ++ cond b (lose t x) []))
            (mortal_row m x alive) ∙ put_in_flight_allowed m.layout m.abstract t x h has
      ]
  moves_allowed (ReleaseStore x w) here =
      one_allowed m.layout m.abstract (Lose (reference_of t InFlight x))
      (given_in_bag InFlight x here (holder_same InFlight x) refl)
  moves_allowed (SharedExchange x Own w) here =
      either (λ mvs. are_allowed m.layout m.abstract mvs ≡ true) _ (lose t x) []
      (λ e. one_allowed m.layout m.abstract (Lose (reference_of t InFlight x))
      (given_in_bag InFlight x here (holder_same InFlight x) refl)) refl
  moves_allowed (SettleCell x i k) here =
      taken_allowed m.layout m.abstract t x i (m.memory (Cell x i))
      (λ y is. omega (arith, cell_held x i y here.core is))
  moves_allowed (SettleEnd x) here =
      let fits = head_of here in finalise_allowed t x here.core fits.0 fits.1 fits.3
  moves_allowed (BirthLocal x h) here =
      let fits = head_of here in
      birth_allowed t a x h (kind_of_word (m.memory (KindOf x))) here.core here.found fits.0 fits.2
  moves_allowed (CellSwap x i y h) here =
      swap_allowed m.layout m.abstract t y x i (m.memory (Cell x i)) h (given_in_bag h y here (holder_same h y) refl)
      (λ z is. omega (arith, cell_held x i z here.core is))
  moves_allowed _ here = refl

module _ {p : Accounts} {n : ℕ} {m : Machine} {t : ℕ} {a : Actor} {d : Duty} {rest : List Duty} where
  pub duty_not_bad : AtDuty p n m t a d rest → is_bad_duty m t a d ≡ false
  duty_not_bad here =
      ap (λ (b : Bool). b || not
      (are_allowed m.layout m.abstract (reference_effects m.memory t d (m.memory (address_of m.layout t a.head d)))))
      (touches_none d here) ∙ ap not (moves_allowed d here)
