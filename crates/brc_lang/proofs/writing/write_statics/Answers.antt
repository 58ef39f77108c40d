use Rattle.std.proofs.Common.{suc, take, drop}
use Rattle.brc_lang.specs.Grammar.{static_line, static_lines}
use Rattle.brc_lang.proofs.Written.{stops_between, flat_map_around}
use Rattle.brc_lang.proofs.writing.write_statics.Goals as goal

pub returns-in_err-write_static-clause-begun : goal.returns-in_err-write_static-clause-begun
returns-in_err-write_static-clause-begun g c =
    let statics = c.args.statics.now in
    let i = c.loop-numbers.numbers-index in
    stops_between _ _ _ _ _ (static_lines (take i statics)) (static_line c.numbers-item.result)
    (static_lines (drop (suc i) statics))
    (flat_map_around static_line statics i c.numbers-item.result c.numbers-item.result c.loop-numbers-test.true
    c.numbers-item.is)
    c.loop-numbers.invariant (rw c.as_slice.ensures at c.in_err-write_static.ensures.begun)
