-- The copy's step starts with the thread's action.
use Rattle.std.proofs.Common.{◌≡◌, Some, refl, sym, ap, ◌∙◌, subst}
use Rattle.brc_model.specs.Actions.{StepActor}
use Rattle.brc_model.specs.Dispatch.{agenda_action}
use Rattle.brc_world.specs.declared.dispatch.Start.TheVariants.{Doing, Asking}
use Rattle.brc_world.specs.Actors.{actor_of, OpensFew}
use Rattle.brc_world.specs.Starts.{first_start}
use Rattle.brc_machine.specs.Storage.{word_in}
use Rattle.brc_world.proofs.Acting.{agenda_few}
use Rattle.brc_world.proofs.Peeking.{start_seen, start_can}
use Rattle.brc_world.proofs.peek.peek_ahead.Goals.{In-Doing, In-Asking}
use Rattle.brc_world.proofs.peek.peek_ahead.Goals as goal

-- The copy is as the thread, so it has room for the same call,
pub first_duty-requires : goal.first_duty-requires
first_duty-requires c =
    let acts = λ (a : StepActor). agenda_action c.args.functions.now c.args.blocks c.args.number a a.actor.agenda in
    record {
      room = c.in_ok-copy_thread.ensures.room;
      few =
          rw c.layout-layout.ensures
          (subst (λ (a : StepActor). OpensFew (acts a)) (sym c.in_ok-copy_thread.ensures.actor)
          (agenda_few c.args.functions.now c.args.blocks c.args.number _ (word_in c.args.memory.now)
          (actor_of c.args.thread.now) _ c.in_default.not-Gone refl c.requires.can));
    }

-- and the thread's step starts with the same duty,
starts_doing : (c : In-Doing) → Doing c.in-Doing.duty ≡ first_start c.args.functions.now c.args.blocks c.args.number
    (actor_of c.args.thread.now) (actor_of c.args.thread.now).actor.agenda
starts_doing c =
    (rw c.layout-layout.ensures at c.in-Doing.ensures.starts)
    ∙ ap (λ (a : StepActor). first_start c.args.functions.now c.args.blocks c.args.number a a.actor.agenda)
    c.in_ok-copy_thread.ensures.actor

-- also where an answer decides what comes next.
starts_asking : (c : In-Asking) → Doing c.in-Asking.duty ≡ first_start c.args.functions.now c.args.blocks c.args.number
    (actor_of c.args.thread.now) (actor_of c.args.thread.now).actor.agenda
starts_asking c =
    (rw c.layout-layout.ensures at c.in-Asking.ensures.starts)
    ∙ ap (λ (a : StepActor). first_start c.args.functions.now c.args.blocks c.args.number a a.actor.agenda)
    c.in_ok-copy_thread.ensures.actor

pub see_duty-requires : goal.see_duty-requires
see_duty-requires c =
    let starts = starts_doing (goal.at.see_duty-requires c).In-Doing in
    record {
      columns = c.requires.columns;
      small = c.requires.small;
      known = c.requires.known;
      can =
          start_can c.args.blocks c.args.number _ (word_in c.args.memory.now) (actor_of c.args.thread.now)
          c.args.functions.now (Doing c.in-Doing.duty) c.in_default.not-Gone starts c.requires.can;
    }

pub see_duty-requires-in-Asking : goal.see_duty-requires-in-Asking
see_duty-requires-in-Asking c =
    let starts = starts_asking (goal.at.see_duty-requires-in-Asking c).In-Asking in
    record {
      columns = c.requires.columns;
      small = c.requires.small;
      known = c.requires.known;
      can =
          start_can c.args.blocks c.args.number _ (word_in c.args.memory.now) (actor_of c.args.thread.now)
          c.args.functions.now (Asking c.in-Asking.duty c.in-Asking.question) c.in_default.not-Gone starts
          c.requires.can;
    }

pub returns-in-Doing : goal.returns-in-Doing
returns-in-Doing c =
    let starts = starts_doing (goal.at.returns-in-Doing c).In-Doing in
    ap Some c.see_duty.ensures
    ∙ start_seen c.args.blocks c.args.number (word_in c.args.memory.now) (actor_of c.args.thread.now) c.args.choice
    c.args.functions.now (Doing c.in-Doing.duty) c.in_default.not-Gone starts

pub returns-in-Asking : goal.returns-in-Asking
returns-in-Asking c =
    let starts = starts_asking (goal.at.returns-in-Asking c).In-Asking in
    ap Some c.see_duty-in-Asking.ensures
    ∙ start_seen c.args.blocks c.args.number (word_in c.args.memory.now) (actor_of c.args.thread.now) c.args.choice
    c.args.functions.now (Asking c.in-Asking.duty c.in-Asking.question) c.in_default.not-Gone starts
