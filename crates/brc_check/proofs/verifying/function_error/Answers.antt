use Rattle.std.proofs.Common.{arith, refl, ap, ◌∙◌, subst}
use Rattle.brc_model.specs.declared.state.State.{State}
use Rattle.brc_model.specs.SlotStates.{entry_of}
use Rattle.brc_model.specs.Paths.{At}
use Rattle.brc_check.specs.Lookups.{MeetsKept}
use Rattle.brc_check.proofs.Comparing.{entry_closed, all_closed}
use Rattle.brc_check.proofs.verifying.function_error.Goals as goal

pub loop-at-init : goal.loop-at-init
loop-at-init c = record {
  begins = entry_closed c.args.function.now c.args.kept.now c.requires.points c.requires.some
      (subst (λ (s : State). MeetsKept c.args.kept.now (At 0 s))
      (c.entry_of-entry.ensures ∙ ap entry_of c.as_slice.ensures) c.in_default.ensures);
  here = refl;
  closed = λ k lt. absurd (omega (arith, lt));
}

pub returns : goal.returns
returns c =
    all_closed c.args.function.now c.args.kept.now c.loop-at.at c.requires.points c.requires.some
    (let past = c.loop-at-test.false in let count = c.len-at-end.ensures in omega (arith, past, count))
    c.loop-at.invariant.begins c.loop-at.invariant.closed
