-- Calls that hold nothing are passed over.
use Rattle.std.proofs.Common.{◌≡◌, ℕ, ◌≤◌, true, false, sym, ap, ◌∙◌, subst}
use Rattle.std.specs.Prelude.{is_some}
use Rattle.std.specs.List.{list_any}
use Rattle.std.specs.Vec.{vec_capacity}
use Rattle.brc_world.specs.declared.thread.Thread.{Thread}
use Rattle.brc_world.proofs.Giving.{goes_further, given_first}
use Rattle.brc_world.proofs.dispatch.stops.give_up.Goals as goal

pub loop-thread-preserved : goal.loop-thread-preserved
loop-thread-preserved c =
    let old = c.loop-thread.thread in
    let new = c.go_back.new.self in
    let none : list_any is_some old.variables ≡ false = sym c.names_some.ensures ∙ c.loop-thread-test.true in
    let further = goes_further old new c.go_back.result c.go_back.ensures none c.loop-thread.invariant.some in
    record {
      gives = further.gives ∙ c.loop-thread.invariant.gives;
      some = further.some;
      rest = further.rest
          ∙ (λ i. record (c.loop-thread.invariant.rest i) {
            variables = new.variables;
            turns = new.turns;
            outer = new.outer;
          });
    }

pub loop-thread-smaller : goal.loop-thread-smaller
loop-thread-smaller c =
    let old = c.loop-thread.thread in
    let none : list_any is_some old.variables ≡ false = sym c.names_some.ensures ∙ c.loop-thread-test.true in
    (goes_further old c.go_back.new.self c.go_back.result c.go_back.ensures none c.loop-thread.invariant.some).shorter

pub give_up_first-requires : goal.give_up_first-requires
give_up_first-requires c = record {
  empty = ap (λ (t : Thread). t.agenda.items) c.loop-thread.invariant.rest ∙ c.requires.empty;
  room =
      subst (λ (n : ℕ). 8 ≤ n) (sym (ap (λ (t : Thread). vec_capacity t.agenda) c.loop-thread.invariant.rest))
      c.requires.room;
  some = sym c.names_some.ensures ∙ c.loop-thread-test.false;
}

pub returns : goal.returns
returns c =
    let some : list_any is_some c.loop-thread.thread.variables ≡ true =
    sym c.names_some.ensures ∙ c.loop-thread-test.false in
    given_first c.args.thread.now c.loop-thread.thread c.give_up_first.new.thread c.give_up_first.new.start
    c.loop-thread.invariant.gives c.loop-thread.invariant.rest some c.give_up_first.ensures
