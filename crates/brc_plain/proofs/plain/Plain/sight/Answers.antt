use Rattle.std.proofs.Common.{◌≡◌, refl, subst}
use Rattle.std.specs.Prelude.{Option, IfOk}
use Rattle.brc_machine.specs.declared.sight.Sight.{Sight}
use Rattle.brc_machine.specs.Sights.{sight_by}
use Rattle.brc_plain.specs.Acts.{act_in}
use Rattle.brc_plain.specs.Plains.{machine_in}
use Rattle.brc_plain.specs.Threads.{actor_of}
use Rattle.brc_plain.proofs.Looking.{seen_by}
use Rattle.brc_plain.proofs.Steps.{found_at}
use Rattle.brc_plain.proofs.plain.Plain.sight.Goals as goal

pub returns : goal.returns
returns c =
    let m = machine_in c.args.self.now in
    subst (λ (s : Option Sight). IfOk c.sight_of_act.result (λ sight. sight ≡ s))
    (seen_by c.args.self.now c.args.number c.in_ok-own.own c.args.choice c.in-Some.thread.now (act_in c.in_ok-act.act)
    (sight_by m.layout c.in_ok-own.own m.memory (actor_of c.in-Some.thread.now) c.args.choice
    (act_in c.in_ok-act.act))
    (found_at c.args.self.now.threads.items c.deref.result.now c.args.number c.in-Some.thread.now c.deref.ensures.value
    c.in-Some.ensures.lookup.3.0 c.in-Some.ensures.lookup.1)
    c.in_ok-own.ensures.0 c.in_ok-act.ensures refl)
    c.sight_of_act.ensures
