use Rattle.std.proofs.Common.{◌≡◌, length, rules, ap, ◌∙◌, arith}
use Rattle.brc_lang.specs.Grammar.{depth_of, depths}
use Rattle.brc_lang.proofs.Depths.{knows_one_more}
use Rattle.brc_lang.proofs.reading.read_function.Goals as goal

pub returns-in-Ok-clause-known : goal.returns-in-Ok-clause-known
returns-in-Ok-clause-known c number inside =
    let above = c.args.above.now in
    let full : length above.depths ≡ 64 = search rules in
    let depth : c.depth-depth.result ≡ depth_of (depths above.functions) c.in_ok-code.code =
    c.depth-depth.ensures ∙ ap (depth_of (depths above.functions)) c.as_slice.ensures in
    rw (c.in-Ok.ensures.ok, c.len-number.ensures)
    (knows_one_more above.depths above.functions _ _ c.requires.known (omega (arith, full, c.requires.room))
    depth number (rw c.in-Ok.ensures.ok at inside))
