use Rattle.std.proofs.Common.{◌≡◌, ◌≢◌, false, Some, refl, sym, arith}
use Rattle.std.specs.Prelude.{slice_get}
use Rattle.brc_model.specs.declared.actor.Status.TheVariants.{Gone}
use Rattle.brc_model.specs.declared.thread.Choice.TheVariants.{Ok}
use Rattle.brc_model.specs.Dispatch.{status_action}
use Rattle.brc_world.specs.Actors.{actor_of, memory_by, actor_by, faults_by, waits}
use Rattle.brc_machine.specs.Storage.{word_in}
use Rattle.brc_world.specs.Worlds.{model_of, choice_of}
use Rattle.brc_world.specs.Doing.{Turned}
use Rattle.brc_world.proofs.Outcomes.{contents, are_of, Outcome, outcome, answered, refusal, thread_at}
use Rattle.brc_world.proofs.Answering.{going_answers}
use Rattle.brc_world.proofs.Waiting.{waits_locked, moves_unless_waiting}
use Rattle.brc_model.specs.World.{World, step}
use Rattle.brc_world.proofs.Stepping.{going_on, at_exit, StepsOpenFew, can_step}
use Rattle.brc_world.proofs.world.World.go_on.Goals.{After-index_mut}
use Rattle.brc_world.proofs.world.World.go_on.Goals as goal

-- The world that the model sees before the step.
abbrev old_world : After-index_mut → World
old_world c =
    model_of (contents c.self.inside.accepted.now c.self.inside.blocks c.self.inside.memory
    c.self.inside.threads.items c.self.inside.faults)

-- The thread is there.
here : (c : After-index_mut)
    → slice_get (old_world c).actors c.args.thread ≡ Some (actor_of c.index_mut.result.now)
here c =
    thread_at c.self.inside.accepted.now c.self.inside.blocks c.self.inside.memory
    c.self.inside.threads.items c.args.thread c.self.inside.faults c.index_mut.result.now c.index_mut.ensures.value
    (rw (sym c.self.view_is) at c.requires)

-- Unless it is gone or waits, it changes the world.
moves : (c : After-index_mut) → let a = actor_of c.index_mut.result.now in a.actor.status ≢ Gone
    → waits (old_world c).memory a.actor.agenda
    (status_action (old_world c).functions (old_world c).layout c.args.thread a a.actor.status) ≡ false
    → step (old_world c) c.args.thread (choice_of c.args.exit) ≢ old_world c
moves c = λ alive quiet.
    let a = actor_of c.index_mut.result.now in
    moves_unless_waiting (old_world c) c.args.thread a c.args.exit (here c)
    (λ free. at_exit (λ choice. step (old_world c) c.args.thread choice ≢ old_world c) c.args.exit
    (c.steps_move.ensures.goes_on c.self.inside.accepted.now.module (old_world c) c.args.thread a
    c.self.invariant.reachable (here c) alive free)) alive quiet

pub overflow_cast-thread : goal.overflow_cast-thread
overflow_cast-thread c =
    let few = c.worlds_are_small.ensures.few_threads _ _ c.self.invariant.reachable in
    let within = rw (sym c.self.view_is) at c.requires in
    omega (arith, few, within)

pub act-requires-clause-columns : goal.act-requires-clause-columns
act-requires-clause-columns c =
    are_of _ _ c.self.invariant (c.worlds_are_small.ensures.few_rows _ _ c.self.invariant.reachable)
    (c.worlds_are_small.ensures.workers _ _ c.self.invariant.reachable)

pub act-requires-clause-small : goal.act-requires-clause-small
act-requires-clause-small c =
    let few_rows = c.worlds_are_small.ensures.few_in_all _ _ c.self.invariant.reachable in
    rw c.self.invariant.rows few_rows

pub act-requires-clause-known : goal.act-requires-clause-known
act-requires-clause-known c =
    let few = c.worlds_are_small.ensures.few_threads _ _ c.self.invariant.reachable in
    let within = rw (sym c.self.view_is) at c.requires in
    omega (arith, few, within)

pub act-requires-clause-can : goal.act-requires-clause-can
act-requires-clause-can c =
    let place = (goal.at.act-requires-clause-can c).After-index_mut in
    let steps = c.steps_are_within.ensures _ _ c.args.thread _ c.self.invariant.reachable (here place) in
    let few : StepsOpenFew (old_world place) c.args.thread = λ choice b.
    c.worlds_are_small.ensures.few_calls c.self.inside.accepted.now.module
    (step (old_world place) c.args.thread choice) c.args.thread b
    (c.worlds_lead_on.ensures.step c.self.inside.accepted.now.module (old_world place) c.args.thread choice
    c.self.invariant.reachable) in
    rw (c.as_slice.ensures, c.module.ensures.value, c.self.invariant.rows)
    (can_step (old_world place) c.args.thread (actor_of c.index_mut.result.now) Ok (here place) steps few)

-- The world after the step is the model's next world or, if memory was refused, the same world.
outcome_of : (c : goal.After-self-1)
    → Outcome c.self.inside.accepted.now c.self.inside.blocks c.self.inside.memory c.act.new.memory
    c.self.inside.threads.items c.args.thread (choice_of c.args.exit) c.act.new.thread c.self.inside.faults
    c.act.new.faults c.act.result
outcome_of c =
    let p = c.self.inside.accepted.now in
    let layout = c.self.inside.blocks in
    let words = c.self.inside.memory in
    let threads = c.self.inside.threads.items in
    let t = c.args.thread in
    let before = c.index_mut.result.now in
    let after = c.act.new.thread in
    let f = c.self.inside.faults in
    let w = model_of (contents p layout words threads f) in
    let action = status_action p.module.functions layout t (actor_of before) before.status in
    let memory = memory_by layout t (word_in words) (actor_of before) action in
    let next = actor_by layout t (word_in words) (actor_of before) c.args.exit action in
    let faults = faults_by c.args.exit action f in
    let turned : Turned words c.act.new.memory (actor_of before) (actor_of after) f c.act.new.faults c.act.result memory
    next faults = rw (c.as_slice.ensures, c.module.ensures.value) at c.act.ensures.turned in
    let within = rw (sym c.self.view_is) at c.requires in
    let here = thread_at p layout words threads t f before c.index_mut.ensures.value within in
    let is = going_on w t (actor_of before) c.args.exit here in
    outcome p layout words c.act.new.memory threads t (choice_of c.args.exit) before after f c.act.new.faults
    c.act.result memory next faults turned c.index_mut.ensures.value is c.self.invariant
    (c.worlds_lead_on.ensures.step p.module w t (choice_of c.args.exit) c.self.invariant.reachable)

pub invariant_of-self : goal.invariant_of-self
invariant_of-self c = (outcome_of c).world

pub returns-clause-made : goal.returns-clause-made
returns-clause-made c = rw (sym c.self.view_is) (outcome_of c).made

pub returns-clause-unchanged : goal.returns-clause-unchanged
returns-clause-unchanged c = rw (sym c.self.view_is) (outcome_of c).stays

pub returns-clause-answer : goal.returns-clause-answer
returns-clause-answer c =
    let place = (goal.at.returns-clause-answer c).After-index_mut in
    let p = c.self.inside.accepted.now in
    let t = c.args.thread in
    let a = actor_of c.index_mut.result.now in
    let w = old_world place in
    rw (sym c.self.view_is) (answered w _ _ t c.act.result _ (outcome_of c).made
    (rw (c.as_slice.ensures, c.module.ensures.value) at c.act.ensures.did)
    (going_answers w t c.args.exit a a.actor.status (here place) refl (moves place)
    (λ waiting. at_exit (λ choice. step w t choice ≡ w) c.args.exit
    (c.steps_move.ensures.waits p.module w t a c.self.invariant.reachable (here place)
    (waits_locked w.memory a.actor.agenda (status_action w.functions w.layout t a a.actor.status) waiting)))
    (going_on w t a c.args.exit (here place))))

pub returns-clause-refused : goal.returns-clause-refused
returns-clause-refused c =
    rw (sym c.self.view_is) (refusal c.act.result
    (λ refused. moves (goal.at.returns-clause-refused c).After-index_mut refused.0 refused.1)
    (rw (c.as_slice.ensures, c.module.ensures.value) at c.act.ensures.refused))
