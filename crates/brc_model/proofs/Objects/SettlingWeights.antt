-- What the duties that settle a row weigh after a step: nothing but a step about the dying row changes it.
use Rattle.std.proofs.Common.{◌≡◌, ℕ, zero, suc, ◌+◌, ◌-◌, ◌≤◌, Bool, true, false, List, [], ◌∷◌, ◌++◌, refl, ap, ◌∙◌, arith}
use Rattle.std.specs.Prelude.{◌==◌, nat_lt, sum_by}
use Rattle.std.proofs.lemmas.List.Sums.{sum_by-cons, sum_by-append}
use Rattle.brc_model.specs.declared.duty.Holding.TheVariants.{InFlight}
use Rattle.brc_model.specs.declared.duty.Reason.TheVariants.{Handed}
use Rattle.brc_model.specs.declared.duty.Duty.{Duty}
use Rattle.brc_model.specs.declared.duty.Duty.TheVariants.{ReleaseLoad, MergeSwap, Settle, SettleKind, SettleCell, TakeField, CloseResource, SettleEnd, Leave, Scan, TakeFound, Finish, ClaimMark, MarksLoad, CellSwap}
use Rattle.brc_word.specs.Words.{marks_of_word, mark_at, unmarked_word, lowest_mark, first_marks}
use Rattle.brc_model.specs.declared.layout.Layout.{Layout}
use Rattle.brc_model.specs.Layout.{mark_bit}
use Rattle.brc_model.specs.Duties.{found_row, address_of, new_head, continuation, has_resource, cells_of, cells_from, release_found, claimed}
use Rattle.brc_model.specs.declared.actor.Actor.{Actor}
use Rattle.brc_model.specs.Machine.{Machine, is_running, actor_by, machine_by_duty}
use Rattle.brc_model.specs.References.{one_if}
use Rattle.brc_model.specs.RowInvariant.{weight}
use Rattle.brc_model.specs.Accounts.{Accounts}
use Rattle.brc_model.specs.OpenWork.{is_finalising, is_piece}
use Rattle.brc_model.specs.Invariant.{AtDuty}
use Rattle.brc_model.specs.Resources.{closing, ending}
use Rattle.brc_model.proofs.Basics.Bag.{one_if_low}
use Rattle.brc_model.proofs.Basics.Continuation.{Continuation, GoesOn, Traits, continues}
use Rattle.brc_model.proofs.Basics.Lists.{either}
use Rattle.brc_model.proofs.Frame.Lives.{next_of}
use Rattle.brc_model.proofs.Objects.Weights.{IsLight, weight-stepped}
use Rattle.brc_model.proofs.Objects.Finalisers.{Finalises}

-- ---- the weights

-- Says whether the duty settles the row, after the row's kind has been read.
abbrev pub settles : Duty → ℕ → Bool
settles (SettleCell y i n) x = y == x
settles (TakeField y) x = y == x
settles (CloseResource y) x = y == x
settles (SettleEnd y) x = y == x
settles _ x = false

-- the same of the duty that reads the kind too
abbrev pub settles_row : Duty → ℕ → Bool
settles_row (SettleKind y) x = y == x
settles_row (SettleCell y i n) x = y == x
settles_row (TakeField y) x = y == x
settles_row (CloseResource y) x = y == x
settles_row (SettleEnd y) x = y == x
settles_row _ x = false

-- The weight counts some of these duties.
pub record IsOfSettling (x : ℕ) (f : Duty → ℕ) : Type 0 where
  pub others : (d : Duty) → settles d x ≡ false → f d ≡ 0
  pub low : (d : Duty) → f d ≤ 1
  pub light : IsLight f

settles_finalises : (d : Duty) (x : ℕ) → settles d x ≡ true → is_finalising d x ≡ true
settles_finalises (SettleCell y i n) x e = e
settles_finalises _ x e = cc

pub finalises : (x : ℕ) (f : Duty → ℕ) → IsOfSettling x f → Finalises x f
finalises x f of d =
    elim (settles d x) as (λ b. settles d x ≡ b → f d ≤ one_if (is_finalising d x)) [
      | true ↦ λ e.
          let this : one_if (is_finalising d x) ≡ 1 = ap one_if (settles_finalises d x e) in
          omega (arith, of.low d, this)
      | false ↦ λ e. omega (arith, of.others d e)
    ] refl

closing_none : (x : ℕ) (d : Duty) → settles d x ≡ false → closing x d ≡ 0
closing_none x (CloseResource y) e = ap one_if e
closing_none x _ e = refl

closing_low : (x : ℕ) (d : Duty) → closing x d ≤ 1
closing_low x (CloseResource y) = one_if_low (y == x)
closing_low x _ = omega arith

pub of_closing : (x : ℕ) → IsOfSettling x (closing x)
of_closing x = record {
  others = closing_none x;
  low = closing_low x;
  light = record { settle = refl; scan = λ w n. refl; take = λ w n. refl };
}

ending_none : (x : ℕ) (d : Duty) → settles d x ≡ false → ending x d ≡ 0
ending_none x (SettleEnd y) e = ap one_if e
ending_none x _ e = refl

ending_low : (x : ℕ) (d : Duty) → ending x d ≤ 1
ending_low x (SettleEnd y) = one_if_low (y == x)
ending_low x _ = omega arith

pub of_ending : (x : ℕ) → IsOfSettling x (ending x)
of_ending x = record {
  others = ending_none x;
  low = ending_low x;
  light = record { settle = refl; scan = λ w n. refl; take = λ w n. refl };
}

-- ---- the duties that follow a step

piece_settles : (d : Duty) (x : ℕ) → is_piece d ≡ true → settles d x ≡ false
piece_settles (SettleCell y i n) x piece = absurd cc
piece_settles _ x piece = cc

module _ (x : ℕ) (f : Duty → ℕ) (of : IsOfSettling x f) where
  one_light : (d : Duty) → settles d x ≡ false → sum_by f (d ∷ []) ≡ 0
  one_light d e = omega (arith, sum_by-cons f d [], of.others d e)

  -- After a piece of work comes one.
  piece_next : {layout : Layout} {t head found : ℕ} (d : Duty) (next : List Duty)
      → Continuation layout t head found d next → is_piece d ≡ true → sum_by f next ≡ 0
  piece_next d next (GoesOn e leads) piece =
      one_light e (piece_settles e x (ap (λ (s : Traits). s.piece) leads.same ∙ piece))
  piece_next d next _ piece = cc

  pub cells_light : (y i n : ℕ) → (y == x) ≡ false → sum_by f (cells_from y i n) ≡ 0
  cells_light y i n apart =
      either (λ (l : List Duty). sum_by f l ≡ 0) (nat_lt i n) (SettleCell y i n ∷ []) (SettleEnd y ∷ [])
      (λ e. one_light (SettleCell y i n) apart) (one_light (SettleEnd y) apart)

  pub released_light : (found : ℕ) (ds : List Duty) → sum_by f (release_found found ++ ds) ≡ sum_by f ds
  released_light zero ds = refl
  released_light (suc y) ds =
      omega (arith, sum_by-cons f (ReleaseLoad y InFlight) ds, of.others (ReleaseLoad y InFlight) refl)

  claimed_light : (y mark : ℕ) → sum_by f (claimed y mark) ≡ 0
  claimed_light y mark =
      either (λ (l : List Duty). sum_by f l ≡ 0) (mark == 1) (MergeSwap y Handed ∷ []) []
      (λ e. one_light (MergeSwap y Handed) refl) refl

  -- What follows a duty that doesn't settle the row doesn't settle it either.
  pub next_light : (layout : Layout) (t : ℕ) (running : Bool) (head : ℕ) (d : Duty) (found : ℕ)
      → settles_row d x ≡ false → sum_by f (continuation layout t running head d found) ≡ 0
  next_light layout t running head Settle found apart =
      omega (
        arith,
        sum_by-cons f (SettleKind (head - 1)) (Settle ∷ []),
        of.others (SettleKind (head - 1)) refl,
        one_light Settle refl,
      )
  next_light layout t running head (SettleKind y) found apart =
      either (λ (l : List Duty). sum_by f l ≡ 0) (has_resource found) (TakeField y ∷ [])
      (cells_from y 0 (cells_of found)) (λ e. one_light (TakeField y) apart)
      (cells_light y 0 (cells_of found) apart)
  next_light layout t running head (SettleCell y i n) found apart =
      released_light found (cells_from y (i + 1) n) ∙ cells_light y (i + 1) n apart
  next_light layout t running head (TakeField y) found apart = one_light (CloseResource y) apart
  next_light layout t running head (CloseResource y) found apart = one_light (SettleEnd y) apart
  next_light layout t running head (SettleEnd y) found apart = refl
  next_light layout t running head (Leave i n) found apart =
      omega (arith, sum_by-cons f (Scan i n) (Finish ∷ []), of.others (Scan i n) refl, one_light Finish refl)
  next_light layout t running head (Scan w n) found apart =
      let later : List Duty = Scan (w + 1) (n - marks_of_word) ∷ [] in
      omega (
        arith,
        sum_by-cons f (TakeFound w (first_marks found n)) later,
        of.others (TakeFound w (first_marks found n)) refl,
        one_light (Scan (w + 1) (n - marks_of_word)) refl,
      )
  next_light layout t running head (TakeFound w marks) found apart =
      let y = found_row layout t w marks in
      let mark = mark_at found (mark_bit layout y) in
      let last : Duty = TakeFound w (unmarked_word marks (lowest_mark marks)) in
      omega (
        arith,
        sum_by-append f (claimed y mark) (Settle ∷ last ∷ []),
        claimed_light y mark,
        sum_by-cons f Settle (last ∷ []),
        of.others Settle refl,
        one_light last refl,
      )
  next_light layout t running head Finish found apart = refl
  next_light layout t running head (ClaimMark y) found apart =
      let mark = mark_at found (mark_bit layout y) in
      omega (
        arith,
        sum_by-append f (claimed y mark) (Settle ∷ []),
        claimed_light y mark,
        one_light Settle refl,
      )
  next_light layout t running head (MarksLoad w) found apart = refl
  next_light layout t running head (CellSwap y i z h) zero apart = refl
  next_light layout t running head (CellSwap y i z h) (suc w) apart = one_light (ReleaseLoad w InFlight) refl
  next_light layout t running head d found apart =
      piece_next d (continuation layout t running head d found) (continues layout t running head d found) refl

  -- ---- after a step

  -- The step replaces the weight of its duty by that of the duties that follow.
  pub settling_stepped : (p : Accounts) (n : ℕ) (m : Machine) (t : ℕ) (a : Actor) (d : Duty) (rest next : List Duty)
      → AtDuty p n m t a d rest → next_of m t a d ≡ next
      → weight f (machine_by_duty m t a d rest).actors + f d ≡ weight f m.actors + sum_by f next
  settling_stepped p n m t a d rest next here is =
      let word = m.memory (address_of m.layout t a.head d) in
      let all =
      weight-stepped f of.light m.actors t a (actor_by m.layout t a d rest word) d (next_of m t a d) rest
      (new_head a.head d word) here.found here.agenda refl refl in
      let same : sum_by f (next_of m t a d) ≡ sum_by f next = ap (sum_by f) is in
      omega (arith, all, same)

  -- So a step that doesn't settle the row leaves the weight as it is.
  pub settling_kept : (p : Accounts) (n : ℕ) (m : Machine) (t : ℕ) (a : Actor) (d : Duty) (rest : List Duty)
      → AtDuty p n m t a d rest → settles_row d x ≡ false → settles d x ≡ false
      → weight f (machine_by_duty m t a d rest).actors ≡ weight f m.actors
  settling_kept p n m t a d rest here apart not =
      omega (
        arith,
        settling_stepped p n m t a d rest (next_of m t a d) here refl,
        of.others d not,
        next_light m.layout t (is_running a.status) a.head d (m.memory (address_of m.layout t a.head d)) apart,
      )
