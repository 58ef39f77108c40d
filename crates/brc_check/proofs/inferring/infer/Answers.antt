use Rattle.std.proofs.Common.{◌≡◌, ◌+◌, List, length, subst, sym, arith, refl}
use Rattle.std.specs.List.{AllByRecursion}
use Rattle.std.proofs.lemmas.Option.{slice_get_read}
use Rattle.std.proofs.lemmas.Result.{err_from_is_err_and}
use Rattle.brc_lang.specs.declared.module.Function.{Function}
use Rattle.brc_model.specs.Paths.{IsAcceptableFunction}
use Rattle.brc_check.specs.declared.kept_entry.KeptEntry.{KeptEntry}
use Rattle.brc_check.specs.Refusal.{IsRefusal}
use Rattle.brc_check.specs.Tables.{IsTrueTable}
use Rattle.brc_check.proofs.Tables.{AreInferred, one_more_inferred, inferred_true, inferred_acceptable, refused_for}
use Rattle.brc_check.proofs.Tables.{for_memory}
use Rattle.brc_check.proofs.inferring.infer.Goals as goal

pub returns-in_err-kept-clause-refused : goal.returns-in_err-kept-clause-refused
returns-in_err-kept-clause-refused c =
    let p = err_from_is_err_and c.from_residual.result c.from_residual.ensures.1 in
    let here : IsRefusal c.as_slice-function-items.result.now c.in_err-kept.field-0.0 =
    refused_for c.as_slice-function-items.result.now c.loop-function.function-index c.function-item.result
    c.in_err-kept.field-0.0 c.loop-function-test.true c.function-item.is c.in_err-kept.ensures in
    rw (p.1, p.2) (subst (λ (fs : List Function). IsRefusal fs c.in_err-kept.field-0.0)
    c.as_slice-function-items.ensures here)

pub returns-in_err-kept-clause-complete : goal.returns-in_err-kept-clause-complete
returns-in_err-kept-clause-complete c =
    let p = err_from_is_err_and c.from_residual.result c.from_residual.ensures.1 in
    λ accepted. rw (p.1, p.2) (for_memory c.as_slice-function-items.result.now c.loop-function.function-index
    c.function-item.result c.in_err-kept.field-0.0 c.loop-function-test.true c.function-item.is
    c.in_err-kept.ensures
    (subst (AllByRecursion IsAcceptableFunction) (sym c.as_slice-function-items.ensures)
    accepted))

pub loop-function-preserved : goal.loop-function-preserved
loop-function-preserved c =
    let functions = c.as_slice-function-items.result.now in
    let listed =
    slice_get_read functions (length functions) c.loop-function.function-index c.function-item.result refl
    c.loop-function-test.true c.function-item.is in
    subst (λ (lists : List (List KeptEntry)). AreInferred functions lists (c.loop-function.function-index + 1))
    (sym c.in_default.ensures.items)
    (one_more_inferred functions c.loop-function.lists.items c.loop-function.function-index c.function-item.result
    c.in_ok-kept.kept c.loop-function.invariant listed c.in_ok-kept.ensures)

pub returns-clause-table : goal.returns-clause-table
returns-clause-table c =
    let last : c.loop-function.function-index ≡ length c.as_slice-function-items.result.now = omega arith in
    let all : AreInferred c.args.module.now.functions c.loop-function.lists.items (length c.args.module.now.functions) =
    subst (λ (fs : List Function). AreInferred fs c.loop-function.lists.items (length fs))
    c.as_slice-function-items.ensures
    (subst (AreInferred c.as_slice-function-items.result.now c.loop-function.lists.items) last
    c.loop-function.invariant) in
    subst (IsTrueTable c.args.module.now) (sym c.new.ensures)
    (inferred_true c.args.module.now c.loop-function.lists.items all)

pub returns-clause-acceptable : goal.returns-clause-acceptable
returns-clause-acceptable c =
    let last : c.loop-function.function-index ≡ length c.as_slice-function-items.result.now = omega arith in
    let all : AreInferred c.args.module.now.functions c.loop-function.lists.items (length c.args.module.now.functions) =
    subst (λ (fs : List Function). AreInferred fs c.loop-function.lists.items (length fs))
    c.as_slice-function-items.ensures
    (subst (AreInferred c.as_slice-function-items.result.now c.loop-function.lists.items) last
    c.loop-function.invariant) in
    inferred_acceptable c.args.module.now c.loop-function.lists.items all
