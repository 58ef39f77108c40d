use Rattle.std.proofs.Common.{refl, subst, arith, List}
use Rattle.std.proofs.lemmas.Option.{slice_get_within}
use Rattle.brc_check.specs.declared.kept_entry.KeptEntry.{KeptEntry}
use Rattle.brc_check.specs.Entries.{IsErrorAt}
use Rattle.brc_check.specs.Tables.{state_at}
use Rattle.brc_check.proofs.Comparing.{HasClosed, each_more, function_error, points_to, same_points}
use Rattle.brc_check.proofs.verifying.first_error.Goals as goal

pub function_error-requires-clause-points : goal.function_error-requires-clause-points
function_error-requires-clause-points c =
    points_to c.index-functions-number.result c.index-lists-number.result c.as_slice.result.now
    c.index-functions-number.result.code refl c.as_slice.ensures
    (same_points c.args.functions.now c.args.lists.now c.loop-number.number c.index-functions-number.result
    c.index-lists-number.result c.requires.shape c.loop-number-test.true c.index-functions-number.is
    c.index-lists-number.is)

pub returns-in-Some : goal.returns-in-Some
returns-in-Some c =
    let f = c.index-functions-number.result in
    let at = c.in-Some.reported.at in
    let reported = c.in-Some.reported.code in
    let error =
    subst (λ (kept : List KeptEntry). IsErrorAt f (state_at f.code kept) at reported)
    c.as_slice.ensures c.in-Some.ensures in
    function_error c.args.functions.now c.args.lists.now c.loop-number.number f
    c.index-lists-number.result c.in_function.result at reported
    c.requires.shape c.loop-number-test.true c.index-functions-number.is c.index-lists-number.is c.in_function.ensures
    error

pub loop-number-preserved : goal.loop-number-preserved
loop-number-preserved c =
    let f = c.index-functions-number.result in
    let closed = subst (HasClosed f) c.as_slice.ensures c.in_default.ensures in
    each_more HasClosed c.args.functions.now c.args.lists.now c.loop-number.number f c.index-lists-number.result
    c.requires.shape.lists c.loop-number-test.true c.index-functions-number.is c.index-lists-number.is
    c.loop-number.invariant closed

pub returns : goal.returns
returns c =
    λ k f e. c.loop-number.invariant k f
    (let within = slice_get_within c.args.functions.now k f e in omega (arith, within)) e
