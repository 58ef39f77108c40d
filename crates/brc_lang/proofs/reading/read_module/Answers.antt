use Rattle.std.proofs.Common.{length, ap, arith}
use Rattle.std.proofs.lemmas.List.{length-append}
use Rattle.std.proofs.lemmas.Result.{err_from_is_err_and}
use Rattle.brc_lang.proofs.Functions.{fault_below, knows_on}
use Rattle.brc_lang.proofs.reading.read_module.Goals as goal

pub returns-in_err-cursor : goal.returns-in_err-cursor
returns-in_err-cursor c =
    let p = err_from_is_err_and c.from_residual.result c.from_residual.ensures.1 in
    rw (p.1, p.2) (fault_below c.loop-alloc.above.version c.loop-alloc.above.statics c.args.bytes.now
    c.loop-alloc.above.functions c.loop-alloc.cursor c.in_err-cursor.field-0.0 c.loop-alloc.invariant.read
    c.in_err-cursor.ensures.err)

pub loop-alloc-preserved : goal.loop-alloc-preserved
loop-alloc-preserved c =
    knows_on c.args.bytes.now _ c.loop-alloc.above c.read_part.new.above c.loop-alloc.cursor
    c.in_ok-cursor.cursor c.loop-alloc.invariant c.in_ok-cursor.ensures.ok c.in_ok-cursor.ensures.known

pub loop-alloc-smaller : goal.loop-alloc-smaller
loop-alloc-smaller c =
    let more = c.in_ok-cursor.ensures.ok in
    omega (arith, more.some, ap length more.passed.parts, length-append more.lines c.in_ok-cursor.cursor.rest.now)
