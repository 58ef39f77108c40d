use Rattle.std.proofs.Common.{◌≡◌, ◌≢◌, true, Some, refl, sym, arith}
use Rattle.std.specs.Prelude.{slice_get}
use Rattle.brc_model.specs.World.{World, step}
use Rattle.brc_model.specs.declared.thread.Choice.TheVariants.{Claim}
use Rattle.brc_world.specs.Actors.{actor_of, finds_mark, memory_claimed, actor_claimed}
use Rattle.brc_machine.specs.Storage.{word_in}
use Rattle.brc_world.specs.Worlds.{model_of}
use Rattle.brc_world.specs.Doing.{Turned}
use Rattle.brc_world.proofs.Outcomes.{contents, are_of, Outcome, outcome, on_ok, on_err, answered, refusal, thread_at}
use Rattle.brc_world.proofs.Answering.{claim_answers}
use Rattle.brc_world.proofs.Stepping.{can_claim, claim_is, claim_moves, claim_stays}
use Rattle.brc_world.proofs.world.World.look_for.Goals.{After-index_mut}
use Rattle.brc_world.proofs.world.World.look_for.Goals as goal

-- The world that the model sees before the step.
abbrev old_world : After-index_mut → World
old_world c =
    model_of (contents c.self.inside.accepted.now c.self.inside.blocks c.self.inside.memory
    c.self.inside.threads.items c.self.inside.faults)

-- The thread is there.
here : (c : After-index_mut)
    → slice_get (old_world c).actors c.args.thread ≡ Some (actor_of c.index_mut.result.now)
here c =
    thread_at c.self.inside.accepted.now c.self.inside.blocks c.self.inside.memory
    c.self.inside.threads.items c.args.thread c.self.inside.faults c.index_mut.result.now c.index_mut.ensures.value
    (rw (sym c.self.view_is) at c.requires)

-- If it finds a mark, it changes the world.
moves : (c : After-index_mut)
    → finds_mark (old_world c).layout c.args.thread (old_world c).memory (actor_of c.index_mut.result.now) c.args.row
    ≡ true
    → step (old_world c) c.args.thread (Claim c.args.row) ≢ old_world c
moves c found =
    let a = actor_of c.index_mut.result.now in
    claim_moves (old_world c) c.args.thread a c.args.row found
    (λ may marked. c.steps_move.ensures.claims (old_world c) c.args.thread a c.args.row (here c) may marked)

pub overflow_cast-thread : goal.overflow_cast-thread
overflow_cast-thread c =
    let few = c.worlds_are_small.ensures.few_threads _ _ c.self.invariant.reachable in
    let within = rw (sym c.self.view_is) at c.requires in
    omega (arith, few, within)

pub claim-requires-clause-columns : goal.claim-requires-clause-columns
claim-requires-clause-columns c =
    are_of _ _ c.self.invariant (c.worlds_are_small.ensures.few_rows _ _ c.self.invariant.reachable)
    (c.worlds_are_small.ensures.workers _ _ c.self.invariant.reachable)

pub claim-requires-clause-small : goal.claim-requires-clause-small
claim-requires-clause-small c =
    let few_rows = c.worlds_are_small.ensures.few_in_all _ _ c.self.invariant.reachable in
    rw c.self.invariant.rows few_rows

pub claim-requires-clause-known : goal.claim-requires-clause-known
claim-requires-clause-known c =
    let few = c.worlds_are_small.ensures.few_threads _ _ c.self.invariant.reachable in
    let within = rw (sym c.self.view_is) at c.requires in
    omega (arith, few, within)

pub claim-requires-clause-can : goal.claim-requires-clause-can
claim-requires-clause-can c =
    let steps = c.steps_are_within.ensures _ _ c.args.thread _ c.self.invariant.reachable
    (here (goal.at.claim-requires-clause-can c).After-index_mut) in
    rw c.self.invariant.rows (can_claim _ _ _ c.args.row steps)

-- The world after the claim is the model's next world or, if memory was refused, the same world.
outcome_of : (c : goal.After-self-1)
    → Outcome c.self.inside.accepted.now c.self.inside.blocks c.self.inside.memory c.claim.new.memory
    c.self.inside.threads.items c.args.thread (Claim c.args.row) c.claim.new.thread c.self.inside.faults
    c.self.inside.faults c.claim.result
outcome_of c =
    let p = c.self.inside.accepted.now in
    let layout = c.self.inside.blocks in
    let words = c.self.inside.memory in
    let threads = c.self.inside.threads.items in
    let t = c.args.thread in
    let before = c.index_mut.result.now in
    let after = c.claim.new.thread in
    let f = c.self.inside.faults in
    let w = model_of (contents p layout words threads f) in
    let memory = memory_claimed layout t (word_in words) (actor_of before) c.args.row in
    let next = actor_claimed layout t (word_in words) (actor_of before) c.args.row in
    let turned : Turned words c.claim.new.memory (actor_of before) (actor_of after) f f c.claim.result memory next f =
    record {
      words = c.claim.ensures.words;
      actor = c.claim.ensures.actor;
      faults_are = on_ok c.claim.result refl;
      same_words = c.claim.ensures.same_words;
      same_actor = c.claim.ensures.same_actor;
      same_faults = on_err c.claim.result refl;
      rows = c.claim.ensures.as_many_rows;
      threads = c.claim.ensures.as_many_threads;
      cells = c.claim.ensures.as_many_cells;
    } in
    let within = rw (sym c.self.view_is) at c.requires in
    let here = thread_at p layout words threads t f before c.index_mut.ensures.value within in
    let is =
    claim_is p.module w t (actor_of before) c.args.row c.self.invariant.reachable here
    (c.steps_move.ensures.misses p.module w t (actor_of before) c.args.row c.self.invariant.reachable here)
    (c.steps_move.ensures.stays w t (actor_of before) c.args.row here) in
    outcome p layout words c.claim.new.memory threads t
    (Claim c.args.row) before after f f c.claim.result memory next f turned
    c.index_mut.ensures.value is c.self.invariant
    (c.worlds_lead_on.ensures.step p.module w t (Claim c.args.row) c.self.invariant.reachable)

pub invariant_of-self : goal.invariant_of-self
invariant_of-self c = (outcome_of c).world

pub returns-clause-made : goal.returns-clause-made
returns-clause-made c = rw (sym c.self.view_is) (outcome_of c).made

pub returns-clause-unchanged : goal.returns-clause-unchanged
returns-clause-unchanged c = rw (sym c.self.view_is) (outcome_of c).stays

pub returns-clause-answer : goal.returns-clause-answer
returns-clause-answer c =
    let place = (goal.at.returns-clause-answer c).After-index_mut in
    let p = c.self.inside.accepted.now in
    let t = c.args.thread in
    let a = actor_of c.index_mut.result.now in
    let w = old_world place in
    rw (sym c.self.view_is) (answered w _ _ t c.claim.result _ (outcome_of c).made c.claim.ensures.did
    (claim_answers w t a c.args.row a.actor.status (here place) refl (moves place)
    (λ missed. claim_stays w t a c.args.row missed
    (c.steps_move.ensures.misses p.module w t a c.args.row c.self.invariant.reachable (here place))
    (c.steps_move.ensures.stays w t a c.args.row (here place)))))

pub returns-clause-refused : goal.returns-clause-refused
returns-clause-refused c =
    rw (sym c.self.view_is) (refusal c.claim.result (moves (goal.at.returns-clause-refused c).After-index_mut)
    c.claim.ensures.refused)
