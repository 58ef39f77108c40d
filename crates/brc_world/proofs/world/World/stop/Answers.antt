use Rattle.std.proofs.Common.{◌≡◌, Some, Ok, refl, sym}
use Rattle.std.specs.Prelude.{slice_get}
use Rattle.brc_model.specs.declared.thread.Choice.TheVariants.{Stop}
use Rattle.brc_model.specs.World.{World}
use Rattle.brc_world.specs.Actors.{actor_of, action_stopped, silently}
use Rattle.brc_machine.specs.Storage.{word_in}
use Rattle.brc_world.specs.Worlds.{model_of}
use Rattle.brc_world.specs.Doing.{Turned}
use Rattle.brc_world.proofs.Outcomes.{contents, Outcome, outcome, answered, thread_at}
use Rattle.brc_world.proofs.Answering.{stop_answers}
use Rattle.brc_world.proofs.Stepping.{can_stop, stop_is}
use Rattle.brc_world.proofs.world.World.stop.Goals.{After-index_mut}
use Rattle.brc_world.proofs.world.World.stop.Goals as goal

-- The world that the model sees before the step.
abbrev old_world : After-index_mut → World
old_world c =
    model_of (contents c.self.inside.accepted.now c.self.inside.blocks c.self.inside.memory
    c.self.inside.threads.items c.self.inside.faults)

-- The thread is there.
here : (c : After-index_mut)
    → slice_get (old_world c).actors c.args.thread ≡ Some (actor_of c.index_mut.result.now)
here c =
    thread_at c.self.inside.accepted.now c.self.inside.blocks c.self.inside.memory
    c.self.inside.threads.items c.args.thread c.self.inside.faults c.index_mut.result.now c.index_mut.ensures.value
    (rw (sym c.self.view_is) at c.requires)

-- The table has a state for each call that waits where the thread may stop.
pub stop-requires : goal.stop-requires
stop-requires c =
    let place = (goal.at.stop-requires c).After-index_mut in
    let w = old_world place in
    let a = actor_of c.index_mut.result.now in
    can_stop w c.args.thread a
    (λ at context variables may is. c.stops_give_up_what_is_owned.ensures.in_call
    c.self.inside.accepted.now.module w c.args.thread at a context variables c.self.invariant.reachable (here place) may
    is)

-- The world after the stop is the model's next world.
outcome_of : (c : goal.After-self-1)
    → Outcome c.self.inside.accepted.now c.self.inside.blocks c.self.inside.memory c.self.inside.memory
    c.self.inside.threads.items c.args.thread Stop c.stop.new.thread c.self.inside.faults c.self.inside.faults
    (Ok c.stop.result)
outcome_of c =
    let p = c.self.inside.accepted.now in
    let layout = c.self.inside.blocks in
    let words = c.self.inside.memory in
    let threads = c.self.inside.threads.items in
    let t = c.args.thread in
    let before = c.index_mut.result.now in
    let after = c.stop.new.thread in
    let f = c.self.inside.faults in
    let w = model_of (contents p layout words threads f) in
    let next = silently (actor_of before) (action_stopped w.functions w.states (actor_of before)) in
    let turned : Turned words words (actor_of before) (actor_of after) f f (Ok c.stop.result) (word_in words) next f =
    record {
      words = refl;
      actor = c.stop.ensures.actor;
      faults_are = refl;
      same_words = tt;
      same_actor = tt;
      same_faults = tt;
      rows = refl;
      threads = refl;
      cells = refl;
    } in
    let within = rw (sym c.self.view_is) at c.requires in
    let here = thread_at p layout words threads t f before c.index_mut.ensures.value within in
    outcome p layout words words threads t Stop before after f f (Ok c.stop.result) (word_in words) next f turned
    c.index_mut.ensures.value (stop_is w t (actor_of before) here) c.self.invariant
    (c.worlds_lead_on.ensures.step p.module w t Stop c.self.invariant.reachable)

pub invariant_of-self : goal.invariant_of-self
invariant_of-self c = (outcome_of c).world

pub returns-clause-made : goal.returns-clause-made
returns-clause-made c = rw (sym c.self.view_is) (outcome_of c).made

pub returns-clause-answer : goal.returns-clause-answer
returns-clause-answer c =
    let place = (goal.at.returns-clause-answer c).After-index_mut in
    let w = old_world place in
    let t = c.args.thread in
    let a = actor_of c.index_mut.result.now in
    rw (sym c.self.view_is) (answered w _ _ t (Ok c.stop.result) _ (outcome_of c).made c.stop.ensures.did
    (stop_answers w t a a.actor.status (here place) refl
    (λ may. c.steps_move.ensures.stops c.self.inside.accepted.now.module w t a c.self.invariant.reachable (here place)
    may)))
