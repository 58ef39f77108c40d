use Rattle.std.proofs.Common.{refl, sym, ◌∙◌}
use Rattle.std.proofs.lemmas.Result.{IfOk-weaker, IfErr-weaker}
use Rattle.brc_lang.proofs.Functions.{cut_off_below, static_below, heading_below, body_below, reads_static, reads_function}
use Rattle.brc_lang.proofs.reading.read_part.Goals as goal

pub returns-in_default-clause-err : goal.returns-in_default-clause-err
returns-in_default-clause-err c =
    let above = c.args.above.now in
    cut_off_below above.version above.statics above.functions c.args.cursor c.requires.fits c.requires.some
    c.in_default.ensures

pub returns-in-Ok-clause-ok : goal.returns-in-Ok-clause-ok
returns-in-Ok-clause-ok c =
    reads_static c.args.above.now _ c.args.cursor c.requires.fits c.in-Some.text.now c.in-Some.rest c.in-Some.ensures
    (sym c.is_static.ensures ∙ c.if-is_static.true) c.in-Ok.ensures.ok refl refl

pub returns-in-Err-clause-err : goal.returns-in-Err-clause-err
returns-in-Err-clause-err c =
    let above = c.args.above.now in
    static_below above.version above.statics above.functions c.args.cursor c.requires.fits c.in-Some.text.now
    c.in-Some.rest.now c.in-Some.ensures c.in-Err.code (sym c.is_static.ensures ∙ c.if-is_static.true)
    c.in-Err.ensures.err

pub returns-in-Ok-heading-clause-ok : goal.returns-in-Ok-heading-clause-ok
returns-in-Ok-heading-clause-ok c =
    IfOk-weaker c.read_function.result _ _
    (λ after. reads_function c.args.above.now c.read_function.new.above c.args.cursor c.requires.fits
    c.in-Some.text.now c.in-Some.rest c.in-Some.ensures _ _ after c.in-Ok-heading.ensures.ok)
    c.read_function.ensures.ok

pub returns-in-Ok-heading-clause-err : goal.returns-in-Ok-heading-clause-err
returns-in-Ok-heading-clause-err c =
    let above = c.args.above.now in
    IfErr-weaker c.read_function.result _ _
    (λ e. body_below above.version above.statics above.functions c.args.cursor c.requires.fits c.in-Some.text.now
    _ _ c.in-Some.rest e c.in-Some.ensures c.in-Ok-heading.ensures.ok)
    c.read_function.ensures.err

pub returns-in-Err-heading-clause-err : goal.returns-in-Err-heading-clause-err
returns-in-Err-heading-clause-err c =
    let above = c.args.above.now in
    heading_below above.version above.statics above.functions c.args.cursor c.requires.fits c.in-Some.text.now
    c.in-Some.rest.now c.in-Some.ensures c.in-Err-heading.code (sym c.is_static.ensures ∙ c.if-is_static.false)
    c.in-Err-heading.ensures.err
