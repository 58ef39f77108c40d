-- The thread's state and the words are a reachable world's, so the step's word is there.
use Rattle.std.proofs.Common.{◌≡◌, Option, None, IfOk, Result, Ok, Err, sym, ap, ◌∙◌, arith}
use Rattle.std.specs.Prelude.{slice_get}
use Rattle.brc_model.specs.Actions.{StepActor}
use Rattle.brc_model.specs.Dispatch.{action_of}
use Rattle.brc_model.specs.StepMachine.{of_thread}
use Rattle.brc_machine.specs.declared.sight.Sight.{Sight}
use Rattle.brc_machine.specs.declared.no_memory.NoMemory.{NoMemory}
use Rattle.brc_world.specs.Actors.{actor_of}
use Rattle.brc_machine.specs.Sights.{sight_by}
use Rattle.brc_world.specs.Worlds.{model_of}
use Rattle.brc_world.proofs.Outcomes.{contents, are_of, thread_at}
use Rattle.brc_model.specs.World.{step}
use Rattle.brc_world.proofs.Stepping.{StepsOpenFew, can_step}
use Rattle.brc_world.proofs.world.World.next_event.Goals as goal

pub overflow_cast-thread : goal.overflow_cast-thread
overflow_cast-thread c =
    let few = c.worlds_are_small.ensures.few_threads _ _ c.self.invariant.reachable in
    let within = rw (sym c.self.view_is) at c.requires in
    omega (arith, few, within)

pub peek-requires-clause-columns : goal.peek-requires-clause-columns
peek-requires-clause-columns c =
    are_of _ _ c.self.invariant (c.worlds_are_small.ensures.few_rows _ _ c.self.invariant.reachable)
    (c.worlds_are_small.ensures.workers _ _ c.self.invariant.reachable)

pub peek-requires-clause-small : goal.peek-requires-clause-small
peek-requires-clause-small c =
    let few_rows = c.worlds_are_small.ensures.few_in_all _ _ c.self.invariant.reachable in
    rw c.self.invariant.rows few_rows

pub peek-requires-clause-known : goal.peek-requires-clause-known
peek-requires-clause-known c =
    let few = c.worlds_are_small.ensures.few_threads _ _ c.self.invariant.reachable in
    let within = rw (sym c.self.view_is) at c.requires in
    omega (arith, few, within)

pub peek-requires-clause-can : goal.peek-requires-clause-can
peek-requires-clause-can c =
    let within = rw (sym c.self.view_is) at c.requires in
    let here =
    thread_at c.self.inside.accepted.now c.self.inside.blocks c.self.inside.memory
    c.self.inside.threads.items c.args.thread c.self.inside.faults c.index.result.now c.index.ensures within in
    let w = model_of (contents c.self.inside.accepted.now c.self.inside.blocks c.self.inside.memory
    c.self.inside.threads.items c.self.inside.faults) in
    let steps = c.steps_are_within.ensures _ _ c.args.thread _ c.self.invariant.reachable here in
    let few : StepsOpenFew w c.args.thread = λ choice b.
    c.worlds_are_small.ensures.few_calls c.self.inside.accepted.now.module (step w c.args.thread choice) c.args.thread b
    (c.worlds_lead_on.ensures.step c.self.inside.accepted.now.module w c.args.thread choice
    c.self.invariant.reachable) in
    rw c.self.invariant.rows
    (can_step w c.args.thread (actor_of c.index.result.now) c.args.choice here steps few)

found_is : (r : Result (Option Sight) NoMemory) (one other : Option Sight) → one ≡ other → IfOk r (λ sight. sight ≡ one)
    → IfOk r (λ sight. sight ≡ other)
found_is (Ok sight) one other same is = is ∙ same
found_is (Err e) one other same is = tt

pub returns : goal.returns
returns c =
    let p = c.self.inside.accepted.now in
    let threads = c.self.inside.threads.items in
    let w = model_of (contents p c.self.inside.blocks c.self.inside.memory threads c.self.inside.faults) in
    let within = rw (sym c.self.view_is) at c.requires in
    let here =
    thread_at p c.self.inside.blocks c.self.inside.memory threads c.args.thread c.self.inside.faults
    c.index.result.now c.index.ensures within in
    let sight : Option StepActor → Option Sight =
    of_thread None (λ a. sight_by w.layout c.args.thread w.memory a c.args.choice
    (action_of w.functions w.states w.layout c.args.thread a c.args.choice)) in
    rw (sym c.self.view_is)
    (found_is c.peek.result _ (sight (slice_get w.actors c.args.thread)) (sym (ap sight here))
    c.peek.ensures)
