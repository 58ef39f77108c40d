use Rattle.brc_plain.specs.Acts.{act_in}
use Rattle.brc_plain.specs.Plains.{machine_in}
use Rattle.brc_plain.proofs.Steps.{found_at, stepped_by}
use Rattle.brc_plain.proofs.plain.Plain.step.Goals as goal

pub returns : goal.returns
returns c =
    stepped_by c.args.self.now (machine_in c.follow.new.self) c.args.number c.in_ok-numbered.field-0 c.args.choice
    c.exit_of.result c.in-Some.thread.now (act_in c.in_ok-act.act)
    (found_at c.args.self.now.threads.items c.deref.result.now c.args.number c.in-Some.thread.now c.deref.ensures.value
    c.in-Some.ensures.lookup.3.0 c.in-Some.ensures.lookup.1)
    c.in_ok-numbered.ensures.0 c.in_ok-act.ensures c.exit_of.ensures c.in_ok-follow.ensures
