use Rattle.std.proofs.Common.{◌≡◌, ℕ, ◌<◌, List, [], Option, None, Some, sym, ap, ◌∙◌, subst, arith}
use Rattle.std.specs.Prelude.{slice_set, replicate}
use Rattle.brc_free.specs.Works.{ComesToSettle, AtOnce, HasWorked, to_settle}
use Rattle.brc_free.proofs.Working.{works_close}
use Rattle.brc_lang.specs.Limits.{function_limit}
use Rattle.brc_model.specs.Layout.{root_row}
use Rattle.brc_model.specs.Threads.{function_at, entry_variables}
use Rattle.brc_table.specs.Hands.{TableState}
use Rattle.brc_work.specs.declared.end.End.TheVariants.{Returned, Failed, Stopped}
use Rattle.brc_work.specs.Calls.{Begins}
use Rattle.brc_work.specs.Fits.{outermost}
use Rattle.brc_work.specs.Runs.{Runs}
use Rattle.brc_work.proofs.Calling.{returned_held, returned_keeps, given_back, settled_returned}
use Rattle.brc_work.proofs.Counting.{asked_as, asked_then, asked_closes}
use Rattle.brc_work.proofs.Stepping.{begins}
use Rattle.brc_work.proofs.Traces.Calls.{ends_released, ends_alone, ends_stopped}
use Rattle.brc_work.proofs.worker.Worker.call_from_outside.Given as given
use Rattle.brc_work.proofs.worker.Worker.call_from_outside.Goals.{After-name}
use Rattle.brc_work.proofs.worker.Worker.call_from_outside.Goals as goal

-- At first v0 names the root, and the other variables are empty.
entered : (g : given.Over) (c : After-name g) → c.name.new.rows ≡ entry_variables
entered g c =
    c.name.ensures.named ∙ ap (λ (i : ℕ). slice_set (replicate 16 None) i (Some root_row)) c.new.ensures

-- Variables and hand are as the call finds them.
begun : (g : given.Over) (c : After-name g)
    → Begins (outermost c.args.hand.now) (function_at c.args.checked.now.module.functions c.args.function)
    c.args.function c.name.new.rows c.args.hand.now
begun g c =
    let f = function_at c.args.checked.now.module.functions c.args.function in
    let hand = c.args.hand.now in
    let low : c.args.function < function_limit =
    omega (arith, c.requires.function, c.states_are_true.ensures.fits.most) in
    subst (λ (rows : List (Option ℕ)). Begins (outermost hand) f c.args.function rows hand) (sym (entered g c))
    (begins hand f c.args.function c.requires.ready c.requires.parameters low)

pub call-requires-clause-may : goal.call-requires-clause-may
call-requires-clause-may g c κs lives = record {
  base = outermost c.args.hand.now;
  of = c.requires.of;
  begins = begun g (goal.at.call-requires-clause-may g c).After-name;
}

-- ---- a reference is returned

pub release-requires-clause-rests : goal.release-requires-clause-rests
release-requires-clause-rests g c κs lives =
    (c.in-Returned.ensures.ends (outermost c.args.hand.now)
    (begun g (goal.at.release-requires-clause-rests g c).After-name)).rests

pub release-requires-clause-held : goal.release-requires-clause-held
release-requires-clause-held g c κs lives =
    let base = outermost c.args.hand.now in
    returned_held base c.in-Returned.row c.call.new.hand
    (c.in-Returned.ensures.ends base (begun g (goal.at.release-requires-clause-held g c).After-name))

pub release-requires-clause-keeps : goal.release-requires-clause-keeps
release-requires-clause-keeps g c κs lives =
    let base = outermost c.args.hand.now in
    returned_keeps base c.in-Returned.row c.call.new.hand
    (c.in-Returned.ensures.ends base (begun g (goal.at.release-requires-clause-keeps g c).After-name))

pub returns-in-Returned-clause-called : goal.returns-in-Returned-clause-called
returns-in-Returned-clause-called g c =
    let base = outermost c.args.hand.now in
    given_back base c.in-Returned.row c.call.new.hand c.release.new.hand
    (c.in-Returned.ensures.ends base (begun g (goal.at.returns-in-Returned-clause-called g c).After-name))
    c.release.ensures.acts c.release.ensures.less

pub returns-in-Returned-clause-asked : goal.returns-in-Returned-clause-asked
returns-in-Returned-clause-asked g c =
    let functions = c.args.checked.now.module.functions in
    let row = c.in-Returned.row in
    let is = entered g (goal.at.returns-in-Returned-clause-asked g c).After-name in
    asked_then (λ cs ds runs releases.
    ends_released functions c.args.function c.args.left.now c.call.new.left c.requires.some cs c.args.hand.now.view
    c.call.new.hand.view row ds c.release.new.hand.view
    (subst (λ (rows : List (Option ℕ)). Runs functions c.args.function rows c.args.left.now c.call.new.left
    (Returned row) cs c.args.hand.now.view c.call.new.hand.view) is runs) releases)
    c.in-Returned.ensures.asked c.release.ensures.asked

-- ---- none is

pub returns-in-Failed-clause-called : goal.returns-in-Failed-clause-called
returns-in-Failed-clause-called g c =
    c.in-Failed.ensures.ends (outermost c.args.hand.now)
    (begun g (goal.at.returns-in-Failed-clause-called g c).After-name)

pub returns-in-Failed-clause-asked : goal.returns-in-Failed-clause-asked
returns-in-Failed-clause-asked g c =
    let functions = c.args.checked.now.module.functions in
    let is = entered g (goal.at.returns-in-Failed-clause-asked g c).After-name in
    asked_as (λ cs runs.
    ends_alone functions c.args.function c.args.left.now c.call.new.left c.requires.some cs c.args.hand.now.view
    c.call.new.hand.view
    (subst (λ (rows : List (Option ℕ)). Runs functions c.args.function rows c.args.left.now c.call.new.left Failed cs
    c.args.hand.now.view c.call.new.hand.view) is runs)) c.in-Failed.ensures.asked

-- ---- a stop

pub settle-failed-requires-clause-duty : goal.settle-failed-requires-clause-duty
settle-failed-requires-clause-duty g c κs lives =
    let ended =
    c.in-Stopped.ensures.ends (outermost c.args.hand.now)
    (begun g (goal.at.settle-failed-requires-clause-duty g c).After-name) in
    ([], AtOnce ended.rests.running ended.rests.aside ended.rests.agenda)

pub returns-in-Stopped-clause-called : goal.returns-in-Stopped-clause-called
returns-in-Stopped-clause-called g c =
    let base = outermost c.args.hand.now in
    let ended =
    c.in-Stopped.ensures.ends base (begun g (goal.at.returns-in-Stopped-clause-called g c).After-name) in
    let comes : ComesToSettle c.call.new.hand.view [] =
    AtOnce ended.rests.running ended.rests.aside ended.rests.agenda in
    let work = c.settle-failed.ensures.work [] comes in
    settled_returned base c.call.new.hand c.settle-failed.new.hand work.0 ended work.1 c.settle-failed.ensures.chain
    (c.settle-failed.ensures.table.0
    ∙ (ap (λ (w : TableState). w.table) (c.new-in-Stopped.ensures ∙ c.self.view_is) ∙ sym c.in-Stopped.ensures.of.0))
    c.settle-failed.ensures.carried c.settle-failed.ensures.fields

pub returns-in-Stopped-clause-asked : goal.returns-in-Stopped-clause-asked
returns-in-Stopped-clause-asked g c =
    let functions = c.args.checked.now.module.functions in
    let here = (goal.at.returns-in-Stopped-clause-asked g c).After-name in
    let is = entered g here in
    let ended = c.in-Stopped.ensures.ends (outermost c.args.hand.now) (begun g here) in
    let comes : ComesToSettle c.call.new.hand.view [] =
    AtOnce ended.rests.running ended.rests.aside ended.rests.agenda in
    let work = c.settle-failed.ensures.work [] comes in
    let u = c.call.new.hand.view in
    let w = c.settle-failed.new.hand.view in
    asked_then (λ cs ds runs worked.
    ends_stopped functions c.args.function c.args.left.now c.call.new.left c.requires.some cs c.args.hand.now.view u ds
    w
    (subst (λ (rows : List (Option ℕ)). Runs functions c.args.function rows c.args.left.now c.call.new.left Stopped cs
    c.args.hand.now.view u) is runs) ended.rests.agenda worked c.settle-failed.ensures.chain)
    c.in-Stopped.ensures.asked
    (asked_closes {Made = λ ds. HasWorked (to_settle [] u) ds [] w} work.0 c.settle-failed.result
    (works_close _ _ work.0 work.1.works) work.2 c.count_close_faults.ensures work.3 work.1)
