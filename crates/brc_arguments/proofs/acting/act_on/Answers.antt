use Rattle.std.proofs.Common.{sym, ◌∙◌, inl, inr}
use Rattle.brc_command.specs.declared.asked.Asked.TheVariants.{Run as ToRun}
use Rattle.brc_arguments.proofs.acting.act_on.Goals as goal

pub returns-in-Some-Counted-clause-done : goal.returns-in-Some-Counted-clause-done
returns-in-Some-Counted-clause-done g c = λ is. inr (inl (record {
  word = sym c.any_asks_for_counts.ensures ∙ c.if-any_asks_for_counts.true;
  asked = c.in-Some-Counted.asked;
  done = c.execute_counted.ensures.done is;
}))

pub returns-in-Some-Counted-clause-stopped : goal.returns-in-Some-Counted-clause-stopped
returns-in-Some-Counted-clause-stopped g c = λ fails. inl (record {
  asked = ToRun c.in-Some-Counted.asked;
  stopped = c.execute_counted.ensures.stopped fails;
})
