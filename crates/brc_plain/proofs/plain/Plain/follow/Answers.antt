use Rattle.std.proofs.Common.{◌∙◌, List, ap, map, refl}
use Rattle.brc_model.specs.declared.actor.Place.{Place}
use Rattle.brc_model.specs.AbstractState.{moved}
use Rattle.brc_model.specs.StepMachine.{at_place}
use Rattle.brc_plain.specs.declared.bag.Move.{Move}
use Rattle.brc_plain.specs.Acts.{act_in, place_by}
use Rattle.brc_plain.specs.Bags.{bag_in, move_in}
use Rattle.brc_plain.specs.Places.{place_in}
use Rattle.brc_plain.specs.Threads.{actor_of}
use Rattle.brc_plain.proofs.Steps.{call_step, silent_step}
use Rattle.brc_plain.proofs.plain.Plain.follow.Goals as goal

pub returns-in_ok-make_all-in-Silent : goal.returns-in_ok-make_all-in-Silent
returns-in_ok-make_all-in-Silent c = λ a here.
    silent_step c.args.self.now c.args.number c.index_mut.result.now
    (record c.index_mut.result.now { place = c.in-Silent.place }) a c.args.exit (act_in c.args.act)
    (map move_in c.in-Silent.moves.items) (place_in c.in-Silent.place) (bag_in c.make_all.new.self)
    c.index_mut.ensures.value c.requires here refl
    (c.in_ok-make_all-in-Silent.ensures
    ∙ ap (λ (l : List Move). moved (bag_in c.args.self.now.bag) (map move_in l)) c.as_slice.ensures.value)
    (ap act_in c.in-Silent.is)

pub returns-in-Calls : goal.returns-in-Calls
returns-in-Calls c = λ a here.
    call_step c.args.self.now c.args.number c.index_mut-in-Calls.result.now
    (record c.index_mut-in-Calls.result.now { place = c.at.result }) a c.args.exit (act_in c.args.act) c.in-Calls.row
    (place_by c.in-Calls.after) c.count_call.new.self c.index_mut-in-Calls.ensures.value c.requires here
    (ap (λ (p : Place). at_place (actor_of c.index_mut-in-Calls.result.now) p) c.at.ensures) c.count_call.ensures
    (ap act_in c.in-Calls.is)

pub returns-in_ok-does-in-Does : goal.returns-in_ok-does-in-Does
returns-in_ok-does-in-Does c = λ a here. rw c.in-Does.is (c.in_ok-does-in-Does.ensures a here)
