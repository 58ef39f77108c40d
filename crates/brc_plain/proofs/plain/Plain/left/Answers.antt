use Rattle.std.proofs.Common.{refl, sym, ◌∙◌, arith}
use Rattle.brc_plain.specs.Plains.{machine_in}
use Rattle.brc_plain.proofs.Tallying.{left_here, none_here}
use Rattle.brc_plain.proofs.plain.Plain.left.Goals.{then-is_left+in_ok-push, else-is_left}
use Rattle.brc_plain.proofs.plain.Plain.left.Goals as goal

pub loop-row-preserved : goal.loop-row-preserved
loop-row-preserved c =
    let p = (machine_in c.args.self.now).abstract in
    record {
      first = omega arith;
      left = elim c.if-is_left.branch [
        | then-is_left+in_ok-push w ↦
            w.left-is ∙ w.in_ok-push.ensures.ok ∙ (rw (w.kind_of.ensures, c.loop-row.invariant.left) refl)
            ∙ sym (left_here p c.loop-row.row c.loop-row.invariant.first (sym c.is_left.ensures ∙ w.if-is_left.true))
        | else-is_left w ↦
            w.left-is ∙ c.loop-row.invariant.left
            ∙ sym (none_here p c.loop-row.row c.loop-row.invariant.first
            (sym c.is_left.ensures ∙ w.if-is_left.false))
      ];
    }
