-- An idle thread with calls left dispatches the first instruction of its next call.
use Rattle.std.proofs.Common.{ℕ, ◌≤◌, sym, ap, ◌∙◌, subst}
use Rattle.std.specs.Prelude.{vec_capacity}
use Rattle.brc_world.specs.declared.thread.Thread.{Thread}
use Rattle.brc_world.proofs.Calling.{idle_dispatches, idle_few}
use Rattle.brc_world.proofs.dispatch.dispatch.Goals as goal

pub next_instruction-requires-in-Idle-clause-empty : goal.next_instruction-requires-in-Idle-clause-empty
next_instruction-requires-in-Idle-clause-empty c =
    ap (λ (t : Thread). t.agenda.items) c.begin_call.ensures ∙ c.requires.empty

pub next_instruction-requires-in-Idle-clause-room : goal.next_instruction-requires-in-Idle-clause-room
next_instruction-requires-in-Idle-clause-room c =
    subst (λ (n : ℕ). 8 ≤ n) (sym (ap (λ (t : Thread). vec_capacity t.agenda) c.begin_call.ensures)) c.requires.room

pub next_instruction-requires-in-Idle-clause-few : goal.next_instruction-requires-in-Idle-clause-few
next_instruction-requires-in-Idle-clause-few c =
    idle_few c.args.functions.now c.args.layout c.args.number c.args.thread.now c.in-Idle.is c.if-thread-eq0.false
    c.begin_call.new.self _ c.begin_call.ensures (search) c.requires.few

pub returns-else-thread-eq0 : goal.returns-else-thread-eq0
returns-else-thread-eq0 c =
    idle_dispatches c.args.functions.now c.args.layout c.args.number c.args.thread.now c.in-Idle.is
    c.if-thread-eq0.false c.begin_call.new.self c.next_instruction-in-Idle.new.thread
    c.next_instruction-in-Idle.new.start _ c.begin_call.ensures (search) c.next_instruction-in-Idle.ensures

-- With no call left it dispatches its exit.
pub returns-then-thread-eq0 : goal.returns-then-thread-eq0
returns-then-thread-eq0 c =
    let exit = c.exit.ensures in
    record {
      starts = rw (c.in-Idle.is, c.if-thread-eq0.true) exit.starts;
      question = exit.question;
      actor = λ by found. rw (c.in-Idle.is, c.if-thread-eq0.true) (exit.actor by found);
      room = exit.room;
    }
