-- The step is that of what the thread dispatches.
use Rattle.std.proofs.Common.{◌≡◌, ℕ, [], length, Some, refl, ap, ◌∙◌, subst, reverse}
use Rattle.brc_model.specs.declared.duty.Duty.{Duty}
use Rattle.brc_model.specs.declared.duty.Duty.TheVariants.{LockGate}
use Rattle.brc_world.proofs.Starting.{duty_of, entering}
use Rattle.brc_world.proofs.Acting.{agenda_few, HasStarted, dispatched, stuck_step, moved_step, called_step, duty_step, goes_on, can_do, answerable}
use Rattle.brc_world.specs.declared.dispatch.Start.{Start}
use Rattle.brc_world.specs.declared.dispatch.Start.TheVariants as starts
use Rattle.brc_model.specs.StepMachine.{at_place}
use Rattle.brc_machine.specs.Storage.{word_in}
use Rattle.brc_world.specs.Actors.{actor_of, actor_after, CanDo}
use Rattle.brc_world.specs.Starts.{place_after}
use Rattle.brc_world.proofs.doing.act_by_dispatch.Goals.{After-dispatch}
use Rattle.brc_world.proofs.doing.act_by_dispatch.Goals as goal

-- What the thread dispatches opens few calls.
pub dispatch-requires : goal.dispatch-requires
dispatch-requires c = record {
  empty = c.requires.empty;
  room = c.requires.room;
  few =
      rw c.layout.ensures
      (agenda_few c.args.functions.now c.args.blocks c.args.number _ (word_in c.args.memory.now)
      (actor_of c.args.thread.now) [] c.requires.alive (ap reverse c.requires.empty) c.requires.can);
}

-- The thread has started its step so.
begun : (c : After-dispatch) (start : Start) → c.dispatch.new.start ≡ start
    → HasStarted c.args.functions.now c.args.blocks c.args.number (actor_of c.args.thread.now)
    c.dispatch.new.thread start
begun c start is =
    subst (HasStarted c.args.functions.now c.args.blocks c.args.number (actor_of c.args.thread.now)
    c.dispatch.new.thread) is
    (dispatched c.args.functions.now c.args.blocks c.args.number c.args.thread.now c.dispatch.new.thread
    c.dispatch.new.start c.requires.alive c.requires.empty (rw c.layout.ensures at c.dispatch.ensures))

-- The thread can do the duty with which its step has started.
able : (c : After-dispatch) (start : Start) (d : Duty) → c.dispatch.new.start ≡ start
    → duty_of start ≡ Some d
    → CanDo c.args.blocks c.args.number (length c.args.memory.now.local)
    (word_in c.args.memory.now) (actor_of c.dispatch.new.thread) d
able c start d is does =
    can_do c.args.functions.now c.args.blocks c.args.number (word_in c.args.memory.now) (actor_of c.args.thread.now)
    c.args.exit c.dispatch.new.thread _ start d (begun c start is) does c.requires.can

-- ---- no duty

pub returns-in-Stuck : goal.returns-in-Stuck
returns-in-Stuck c =
    let step =
    stuck_step c.args.functions.now c.args.blocks c.args.number (word_in c.args.memory.now)
    (actor_of c.args.thread.now) c.args.exit c.dispatch.new.thread
    (begun (goal.at.returns-in-Stuck c).After-dispatch starts.Stuck c.in-Stuck.is) in
    record {
      did = step.answer;
      turned = record {
        words = step.memory_is;
        actor = step.actor;
        faults_are = step.faults c.args.faults.now;
        same_words = tt;
        same_actor = tt;
        same_faults = tt;
        rows = refl;
        threads = refl;
        cells = refl;
      };
    }

pub returns-in-Moved : goal.returns-in-Moved
returns-in-Moved c =
    let step =
    moved_step c.args.functions.now c.args.blocks c.args.number (word_in c.args.memory.now)
    (actor_of c.args.thread.now) c.args.exit c.dispatch.new.thread
    (begun (goal.at.returns-in-Moved c).After-dispatch starts.Moved c.in-Moved.is) in
    record {
      did = step.answer;
      turned = record {
        words = step.memory_is;
        actor = step.actor;
        faults_are = step.faults c.args.faults.now;
        same_words = tt;
        same_actor = tt;
        same_faults = tt;
        rows = refl;
        threads = refl;
        cells = refl;
      };
    }

pub returns-in-Calling : goal.returns-in-Calling
returns-in-Calling c =
    let step =
    called_step c.args.functions.now c.args.blocks c.args.number (word_in c.args.memory.now)
    (actor_of c.args.thread.now) c.args.exit c.dispatch.new.thread c.in-Calling.call
    (begun (goal.at.returns-in-Calling c).After-dispatch (starts.Calling c.in-Calling.call) c.in-Calling.is) in
    record {
      did = step.answer;
      turned = record {
        words = step.memory_is;
        actor = c.end_call.ensures ∙ step.actor;
        faults_are = c.count_call.ensures ∙ step.faults c.args.faults.now;
        same_words = tt;
        same_actor = tt;
        same_faults = tt;
        rows = refl;
        threads = refl;
        cells = refl;
      };
    }

-- ---- a duty

pub do_duty-requires : goal.do_duty-requires
do_duty-requires c =
    let can = able (goal.at.do_duty-requires c).After-dispatch (starts.Doing c.in-Doing.duty) c.in-Doing.duty
    c.in-Doing.is refl in
    record {
      columns = c.requires.columns;
      small = c.requires.small;
      known = c.requires.known;
      there = can.there;
      suits = can.suits;
      uses = can.uses;
      room = c.dispatch.ensures.room;
    }

pub returns-in-Doing : goal.returns-in-Doing
returns-in-Doing c =
    let start = starts.Doing c.in-Doing.duty in
    let before = c.dispatch.new.thread in
    let duty = c.do_duty.ensures in
    let step =
    duty_step c.args.functions.now c.args.blocks c.args.number (word_in c.args.memory.now)
    (actor_of c.args.thread.now) c.args.exit before start c.in-Doing.duty
    (begun (goal.at.returns-in-Doing c).After-dispatch start c.in-Doing.is) refl in
    record {
      did = step.answer;
      turned = record {
        words = duty.word.words ∙ step.memory_is;
        actor =
            goes_on start c.args.exit c.do_duty.result before c.do_duty.new.thread
            (actor_after c.args.blocks c.args.number (word_in c.args.memory.now) (actor_of before) c.in-Doing.duty)
            duty.actor duty.mode duty.calls duty.turns duty.outer duty.point duty.variables
            ∙ step.actor;
        faults_are = c.count_duty.ensures ∙ step.faults c.args.faults.now;
        same_words = tt;
        same_actor = tt;
        same_faults = tt;
        rows = duty.word.rows;
        threads = duty.word.threads;
        cells = duty.word.width;
      };
    }

-- ---- a duty whose word answers a question

pub do_duty-found-requires : goal.do_duty-found-requires
do_duty-found-requires c =
    let can = able (goal.at.do_duty-found-requires c).After-dispatch
    (starts.Asking c.in-Asking.duty c.in-Asking.question) c.in-Asking.duty c.in-Asking.is refl in
    record {
      columns = c.requires.columns;
      small = c.requires.small;
      known = c.requires.known;
      there = can.there;
      suits = can.suits;
      uses = can.uses;
      room = c.dispatch.ensures.room;
    }

pub answer-requires : goal.answer-requires
answer-requires c =
    let can = able (goal.at.answer-requires c).After-dispatch
    (starts.Asking c.in-Asking.duty c.in-Asking.question) c.in-Asking.duty c.in-Asking.is refl in
    rw c.do_duty-found.ensures.found
    (answerable c.in-Asking.question c.in-Asking.duty _ _ _ _ c.requires.small
    (rw c.in-Asking.is at c.dispatch.ensures.question) can.suits)

pub returns-in-Asking : goal.returns-in-Asking
returns-in-Asking c =
    let start = starts.Asking c.in-Asking.duty c.in-Asking.question in
    let before = c.dispatch.new.thread in
    let duty = c.do_duty-found.ensures in
    let done =
    actor_after c.args.blocks c.args.number (word_in c.args.memory.now) (actor_of before) c.in-Asking.duty in
    let step =
    duty_step c.args.functions.now c.args.blocks c.args.number (word_in c.args.memory.now)
    (actor_of c.args.thread.now) c.args.exit before start c.in-Asking.duty
    (begun (goal.at.returns-in-Asking c).After-dispatch start c.in-Asking.is) refl in
    record {
      did = step.answer;
      turned = record {
        words = duty.word.words ∙ step.memory_is;
        actor = c.answer.ensures
            ∙ goes_on start c.args.exit c.do_duty-found.result before c.do_duty-found.new.thread
            done duty.actor duty.mode
            duty.calls duty.turns duty.outer duty.point duty.variables
            ∙ ap (λ (found : ℕ). at_place done (place_after start c.args.exit found before)) duty.found
            ∙ step.actor;
        faults_are = c.count_duty-in-Asking.ensures ∙ step.faults c.args.faults.now;
        same_words = tt;
        same_actor = tt;
        same_faults = tt;
        rows = duty.word.rows;
        threads = duty.word.threads;
        cells = duty.word.width;
      };
    }

-- ---- a lock

pub do_duty-found-requires-in-Locking : goal.do_duty-found-requires-in-Locking
do_duty-found-requires-in-Locking c =
    let can = able (goal.at.do_duty-found-requires-in-Locking c).After-dispatch
    (starts.Locking c.in-Locking.row c.in-Locking.left c.in-Locking.next) (LockGate c.in-Locking.row)
    c.in-Locking.is refl in
    record {
      columns = c.requires.columns;
      small = c.requires.small;
      known = c.requires.known;
      there = can.there;
      suits = can.suits;
      uses = can.uses;
      room = c.dispatch.ensures.room;
    }

pub returns-in-Locking : goal.returns-in-Locking
returns-in-Locking c =
    let start = starts.Locking c.in-Locking.row c.in-Locking.left c.in-Locking.next in
    let before = c.dispatch.new.thread in
    let duty = c.do_duty-found-in-Locking.ensures in
    let done =
    actor_after c.args.blocks c.args.number (word_in c.args.memory.now) (actor_of before)
    (LockGate c.in-Locking.row) in
    let step =
    duty_step c.args.functions.now c.args.blocks c.args.number (word_in c.args.memory.now)
    (actor_of c.args.thread.now) c.args.exit before start (LockGate c.in-Locking.row)
    (begun (goal.at.returns-in-Locking c).After-dispatch start c.in-Locking.is) refl in
    record {
      did = c.enter.ensures.did ∙ ap entering duty.found ∙ step.answer;
      turned = record {
        words = duty.word.words ∙ step.memory_is;
        actor = c.enter.ensures.actor
            ∙ goes_on start c.args.exit c.do_duty-found-in-Locking.result before c.do_duty-found-in-Locking.new.thread
            done duty.actor duty.mode duty.calls duty.turns duty.outer duty.point duty.variables
            ∙ ap (λ (found : ℕ). at_place done (place_after start c.args.exit found before)) duty.found
            ∙ step.actor;
        faults_are = step.faults c.args.faults.now;
        same_words = tt;
        same_actor = tt;
        same_faults = tt;
        rows = duty.word.rows;
        threads = duty.word.threads;
        cells = duty.word.width;
      };
    }
