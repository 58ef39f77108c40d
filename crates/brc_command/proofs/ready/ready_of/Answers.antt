use Rattle.std.proofs.Common.{sym, subst}
use Rattle.brc_lang.specs.declared.module.Module.{Module}
use Rattle.brc_lang.specs.Grammar.{Spells}
use Rattle.brc_command.specs.Calls.{AreKnown}
use Rattle.brc_command.proofs.ready.ready_of.Goals as goal

pub returns-clause-ready : goal.returns-clause-ready
returns-clause-ready c = record {
  module_read = subst (Spells c.args.module.now) (sym c.in_ok-checked.ensures.0) c.in_ok-module.ensures;
  schedule_read = c.in_ok-schedule.ensures;
  accepted = c.states_are_true.ensures.acceptable;
  states_true = c.states_are_true.ensures.truth;
  known = subst (λ (p : Module). AreKnown p c.in_ok-schedule.schedule.calls) c.module.ensures.value
      c.in_ok-calls.ensures.known;
}
