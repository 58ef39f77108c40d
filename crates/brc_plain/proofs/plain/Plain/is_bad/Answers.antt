use Rattle.std.proofs.Common.{◌≡◌, Bool, refl, subst}
use Rattle.std.specs.Prelude.{IfOk}
use Rattle.brc_model.specs.Events.{chooses_unfit, is_bad_action}
use Rattle.brc_plain.specs.Acts.{act_in}
use Rattle.brc_plain.specs.Plains.{machine_in}
use Rattle.brc_plain.specs.Threads.{actor_of}
use Rattle.brc_plain.proofs.Steps.{bad_by, found_at}
use Rattle.brc_plain.proofs.plain.Plain.is_bad.Goals as goal

pub returns : goal.returns
returns c =
    let m = machine_in c.args.self.now in
    let actor = actor_of c.in-Some.thread.now in
    subst (λ (bad : Bool). IfOk c.is_bad_by.result (λ b. b ≡ bad))
    (bad_by c.args.self.now c.args.number c.in_ok-own.own c.args.choice c.in-Some.thread.now (act_in c.in_ok-act.act)
    (is_bad_action m c.in_ok-own.own actor (act_in c.in_ok-act.act)) (chooses_unfit m actor c.args.choice)
    (found_at c.args.self.now.threads.items c.deref.result.now c.args.number c.in-Some.thread.now c.deref.ensures.value
    c.in-Some.ensures.lookup.3.0 c.in-Some.ensures.lookup.1)
    c.in_ok-own.ensures.0 c.in_ok-act.ensures refl refl)
    c.is_bad_by.ensures
