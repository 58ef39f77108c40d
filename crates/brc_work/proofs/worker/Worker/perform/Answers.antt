use Rattle.std.proofs.Common.{[], sym, subst}
use Rattle.brc_lang.specs.declared.module.Instr.{Instr}
use Rattle.brc_model.specs.declared.state.Exit.TheVariants.{Success}
use Rattle.brc_work.specs.Fits.{HasDone, LayoutAllows}
use Rattle.brc_work.specs.Performs.{PerformsAt}
use Rattle.brc_lang.specs.declared.module.Instr.TheVariants as instructions
use Rattle.brc_model.specs.SlotStates.{var_of, is_empty, is_borrowed, names}
use Rattle.brc_model.proofs.Dispatch.Passing.{are_met}
use Rattle.brc_work.proofs.Conditions.{kept, can_give}
use Rattle.brc_work.proofs.Counting.{asked_as, asked_nothing}
use Rattle.brc_work.proofs.Traces.References.{at_point, makes_drop}
use Rattle.brc_work.proofs.Traces.Turns.{makes_goto}
use Rattle.brc_work.proofs.worker.Worker.perform.Goals as goal

pub returns-in-Drop-clause-done : goal.returns-in-Drop-clause-done
returns-in-Drop-clause-done g c =
    let from = c.in-Drop.from in
    let rows = c.args.rows.now in
    let hand = c.args.hand.now in
    let dropped : HasDone (instructions.Drop from) Success rows hand c.give_up.new.rows c.give_up.new.hand =
    λ base s fits passes.
    let met = are_met (instructions.Drop from) s passes in
    c.give_up.ensures.goes base s fits
    (can_give s from (kept (is_empty (var_of s from)) met.not_empty) (kept (is_borrowed (var_of s from)) met.owned)
    (kept (names s.locked from) met.unlocked)) in
    subst (λ (i : Instr). HasDone i Success rows hand c.give_up.new.rows c.give_up.new.hand) (sym c.in-Drop.is) dropped

pub list-requires-clause-few : goal.list-requires-clause-few
list-requires-clause-few g c = subst (LayoutAllows c.args.self.now.layout) c.in-List.is c.requires.allowed

pub take-requires-clause-there : goal.take-requires-clause-there
take-requires-clause-there g c = subst (LayoutAllows c.args.self.now.layout) c.in-Take.is c.requires.allowed

pub returns-in-Take-clause-asked : goal.returns-in-Take-clause-asked
returns-in-Take-clause-asked g c =
    asked_nothing (at_point _ _ _ _ _ _ _ _ _ c.in-Take.is c.take.ensures.made)

pub returns-in-Num-clause-asked : goal.returns-in-Num-clause-asked
returns-in-Num-clause-asked g c =
    asked_nothing (at_point _ _ _ _ _ _ _ _ _ c.in-Num.is c.num.ensures.made)

pub returns-in-List-clause-asked : goal.returns-in-List-clause-asked
returns-in-List-clause-asked g c =
    asked_nothing (at_point _ _ _ _ _ _ _ _ _ c.in-List.is c.list.ensures.made)

pub returns-in-NoneObject-clause-asked : goal.returns-in-NoneObject-clause-asked
returns-in-NoneObject-clause-asked g c =
    asked_nothing (at_point _ _ _ _ _ _ _ _ _ c.in-NoneObject.is c.none.ensures.made)

pub returns-in-Newref-clause-asked : goal.returns-in-Newref-clause-asked
returns-in-Newref-clause-asked g c =
    asked_nothing (at_point _ _ _ _ _ _ _ _ _ c.in-Newref.is c.newref.ensures.made)

pub returns-in-Move-clause-asked : goal.returns-in-Move-clause-asked
returns-in-Move-clause-asked g c =
    asked_nothing (at_point _ _ _ _ _ _ _ _ _ c.in-Move.is c.hand_on.ensures.made)

pub returns-in-Lock-clause-asked : goal.returns-in-Lock-clause-asked
returns-in-Lock-clause-asked g c =
    asked_nothing (at_point _ _ _ _ _ _ _ _ _ c.in-Lock.is c.lock.ensures.made)

pub returns-in-Unlock-clause-asked : goal.returns-in-Unlock-clause-asked
returns-in-Unlock-clause-asked g c =
    asked_nothing (at_point _ _ _ _ _ _ _ _ _ c.in-Unlock.is c.unlock.ensures.made)

pub returns-in-Borrow-clause-asked : goal.returns-in-Borrow-clause-asked
returns-in-Borrow-clause-asked g c =
    asked_nothing (at_point _ _ _ _ _ _ _ _ _ c.in-Borrow.is c.borrow.ensures.made)

pub returns-in-Fetch-clause-asked : goal.returns-in-Fetch-clause-asked
returns-in-Fetch-clause-asked g c =
    asked_nothing (at_point _ _ _ _ _ _ _ _ _ c.in-Fetch.is c.fetch.ensures.made)

pub returns-in-Set-clause-asked : goal.returns-in-Set-clause-asked
returns-in-Set-clause-asked g c =
    asked_as (λ cs. at_point {cs = cs} _ _ _ _ _ _ _ _ _ c.in-Set.is) c.set.ensures.asked

pub returns-in-Put-clause-asked : goal.returns-in-Put-clause-asked
returns-in-Put-clause-asked g c =
    asked_as (λ cs. at_point {cs = cs} _ _ _ _ _ _ _ _ _ c.in-Put.is) c.put.ensures.asked

pub returns-in-Open-clause-asked : goal.returns-in-Open-clause-asked
returns-in-Open-clause-asked g c =
    asked_as (λ cs. at_point {cs = cs} _ _ _ _ _ _ _ _ _ c.in-Open.is) c.open.ensures.asked

pub returns-in-Connect-clause-asked : goal.returns-in-Connect-clause-asked
returns-in-Connect-clause-asked g c =
    asked_as (λ cs. at_point {cs = cs} _ _ _ _ _ _ _ _ _ c.in-Connect.is) c.connect.ensures.asked

pub returns-in-Read-clause-asked : goal.returns-in-Read-clause-asked
returns-in-Read-clause-asked g c =
    asked_as (λ cs. at_point {cs = cs} _ _ _ _ _ _ _ _ _ c.in-Read.is) c.read.ensures.asked

pub returns-in-Write-clause-asked : goal.returns-in-Write-clause-asked
returns-in-Write-clause-asked g c =
    asked_as (λ cs. at_point {cs = cs} _ _ _ _ _ _ _ _ _ c.in-Write.is) c.write.ensures.asked

pub returns-in-As-clause-asked : goal.returns-in-As-clause-asked
returns-in-As-clause-asked g c =
    asked_nothing (at_point _ _ _ _ _ _ _ _ _ c.in-As.is c.is_of_kind.ensures.made)

pub returns-in-Drop-clause-asked : goal.returns-in-Drop-clause-asked
returns-in-Drop-clause-asked g c =
    asked_as (λ cs gives.
    at_point {cs = cs} _ _ _ _ _ _ _ _ _ c.in-Drop.is (makes_drop c.in-Drop.from _ _ _ _ gives)) c.give_up.ensures.asked

pub returns-in-Goto-clause-asked : goal.returns-in-Goto-clause-asked
returns-in-Goto-clause-asked g c =
    asked_nothing (at_point _ _ _ _ _ _ _ _ _ c.in-Goto.is (makes_goto c.in-Goto.target c.args.rows.now
    c.args.hand.now.view))

pub returns-in-Again-clause-asked : goal.returns-in-Again-clause-asked
returns-in-Again-clause-asked g c =
    let rows = c.args.rows.now in
    let v = c.args.hand.now.view in
    asked_nothing
    (subst (λ (i : Instr). PerformsAt [] c.args.at i c.again.result c.args.turns.now rows v c.again.new.turns rows v)
    (sym c.in-Again.is) (c.again.ensures _ rows v))
