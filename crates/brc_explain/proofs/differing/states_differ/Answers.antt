use Rattle.std.proofs.Common.{ap, get_or}
use Rattle.brc_model.specs.declared.state.State.{State}
use Rattle.brc_model.specs.declared.state.Slot.TheVariants.{Empty}
use Rattle.brc_explain.proofs.differing.states_differ.Goals as goal

pub returns-then-slots_differ : goal.returns-then-slots_differ
returns-then-slots_differ c =
    λ _ same. c.slots_differ.ensures c.if-slots_differ.true
    (ap (λ (s : State). get_or s.slots c.loop-number.number Empty) same)
