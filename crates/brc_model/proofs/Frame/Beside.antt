-- A duty that a thread has put aside keeps what it knows while the thread does another duty, about another row.
use Rattle.std.proofs.Common.{◌≡◌, ℕ, true, false, List, [], ◌∷◌, refl, sym, ap, ◌∙◌, arith}
use Rattle.std.specs.Prelude.{◌==◌}
use Rattle.std.proofs.lemmas.Bool.{ne_eqb, eqb-false, and_right}
use Rattle.brc_word.specs.Words.{phase_part}
use Rattle.brc_model.specs.declared.duty.Duty.{Duty}
use Rattle.brc_model.specs.declared.duty.Duty.TheVariants.{SettleCell, CellSwap}
use Rattle.brc_model.specs.declared.address.Address.TheVariants.{Local, Shared}
use Rattle.brc_model.specs.AbstractState.{Reference, AbstractState, same, same_holder, without, Move, Born, Gain, Lose, PassOn, Finalise, move}
use Rattle.brc_model.specs.declared.actor.Actor.{Actor}
use Rattle.brc_model.specs.Machine.{Machine, status_by, actor_by, machine_by_duty}
use Rattle.brc_model.proofs.Basics.Bag.{held-cons}
use Rattle.brc_model.specs.References.{held, one_if, reference_of}
use Rattle.brc_model.specs.Accounts.{Accounts}
use Rattle.brc_model.specs.OpenWork.{is_about, is_piece, may_wait}
use Rattle.brc_model.specs.Knowledge.{is_retain, HeadFits}
use Rattle.brc_model.proofs.Frame.Known.{LeavesRow, known_kept}
use Rattle.brc_model.proofs.Frame.Aside.{AreApart, apart_swapped}
use Rattle.brc_model.proofs.Basics.Written.{written_apart, other_local, other_shared}
use Rattle.brc_model.proofs.Basics.MovesApart.{held-without_apart}
use Rattle.brc_model.proofs.Basics.Moves.{IsOfOther, effects_elsewhere, moved_keeps, changes_cell}
use Rattle.brc_model.proofs.Frame.Items.{drops_items, own_list_kept}
use Rattle.brc_model.proofs.Frame.Leaves.{stopped_left}
use Rattle.brc_model.proofs.Frame.Lives.{born_left, next_of}
use Rattle.brc_model.proofs.Stepping.FitsAfter.{found_by}
use Rattle.brc_model.specs.Invariant.{AtDuty}

-- ---- moves of references to other objects

other_object : (q r : Reference) → (r.object == q.object) ≡ false → same q r ≡ false
other_object q r other =
    and_right (same_holder q.holder r.holder) (q.object == r.object)
    (ne_eqb q.object r.object (λ e. eqb-false r.object q.object other (sym e)))

-- A further reference to another object changes nothing of how often this one is in the bag.
pub one_more_elsewhere : (q r : Reference) (bag : List Reference) → (r.object == q.object) ≡ false
    → held q (r ∷ bag) ≡ held q bag
one_more_elsewhere q r bag other =
    let none : one_if (same q r) ≡ 0 = ap one_if (other_object q r other) in omega (arith, held-cons q r bag, none)

move_elsewhere : (q : Reference) (p : AbstractState) (mv : Move) → IsOfOther q.object mv
    → held q (move p mv).references ≡ held q p.references
move_elsewhere q p (Born r kind) other = one_more_elsewhere q r p.references other
move_elsewhere q p (Gain r) other = one_more_elsewhere q r p.references other
move_elsewhere q p (Lose r) other = held-without_apart q r p.references (other_object q r other)
move_elsewhere q p (PassOn r h) other =
    one_more_elsewhere q (record { holder = h; object = r.object }) (without r p.references) other
    ∙ held-without_apart q r p.references (other_object q r other)
move_elsewhere q p (Finalise y) other = refl

-- ---- words of other rows

-- No duty that other work may wait beside changes a cell.
piece_no_cell : (d : Duty) → is_piece d ≡ true → (x i : ℕ) → changes_cell x i d ≡ false
piece_no_cell (SettleCell y j k) piece x i = absurd cc
piece_no_cell (CellSwap y j z h) piece x i = absurd cc
piece_no_cell _ piece x i = refl

module _ {p : Accounts} {n : ℕ} {m : Machine} {t : ℕ} {a : Actor} where
  -- A step leaves what a duty about another row relies on.
  pub leaves_beside : (d : Duty) (rest : List Duty) (x : ℕ) → AtDuty p n m t a d rest
      → is_piece d ≡ true → status_by a.status d ≡ a.status → is_about x d ≡ false
      → LeavesRow m (machine_by_duty m t a d rest) t a (actor_by m.layout t a d rest (found_by m t a d)) x
  leaves_beside d rest x here piece status apart = record {
    layout = refl;
    status = status;
    local = λ owns. written_apart m.memory _ (Local x) _ (other_local m.layout t a.head d x apart);
    merged = λ was.
        ap phase_part (written_apart m.memory _ (Shared x) _ (other_shared m.layout t a.head d x apart)) ∙ was;
    references = λ k.
        omega (
          arith,
          moved_keeps (λ q. held (reference_of t k x) q.references) (IsOfOther x) (move_elsewhere (reference_of t k x))
              m.abstract _ (effects_elsewhere m.memory t d (found_by m t a d) x apart (piece_no_cell d piece)),
        );
    stopped = λ u was. stopped_left m t a d u was;
    born = λ was. born_left m.life t d (next_of m t a d) x was;
  }

  -- A duty that the thread has put aside keeps what it knows through a step of a duty about another row. The step drops
  -- no items if the duty is one of a retain.
  pub beside : (d : Duty) (rest : List Duty) → AtDuty p n m t a d rest → is_piece d ≡ true
      → status_by a.status d ≡ a.status
      → (e : Duty) → AreApart d e → may_wait e ≡ true → (is_retain e ≡ true → drops_items d ≡ false)
      → HeadFits m t a e []
      → HeadFits (machine_by_duty m t a d rest) t (actor_by m.layout t a d rest (found_by m t a d)) e []
  beside d rest here piece status e apart waits keeps fits =
      known_kept m (machine_by_duty m t a d rest) t a (actor_by m.layout t a d rest (found_by m t a d)) e [] waits
      (λ x about. leaves_beside d rest x here piece status (apart_swapped d e apart x about))
      (λ retains. own_list_kept p n m t a d rest here (keeps retains)) fits
