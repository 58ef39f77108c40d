use Rattle.brc_plain.specs.Plains.{machine_in}
use Rattle.brc_plain.specs.Threads.{actor_of}
use Rattle.brc_plain.proofs.Looking.{duty_seen}
use Rattle.brc_plain.proofs.plain.Plain.duty_event.Goals as goal

pub returns : goal.returns
returns c =
    let touch = c.in_ok-touch.touch in
    duty_seen (machine_in c.args.self.now).layout c.args.number (machine_in c.args.self.now).memory
    (actor_of c.args.thread.now) c.args.duty.now touch.address touch.found touch.left c.in_ok-touch.ensures.there
    c.in_ok-touch.ensures.found c.in_ok-touch.ensures.left
