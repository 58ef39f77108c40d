-- Each call of the writer moves its bytes from the rest to what is written.
use Rattle.brc_lang.proofs.Written.{leaves_less}
use Rattle.brc_lang.proofs.output.write_bytes.Goals as goal

pub loop-rest-preserved : goal.loop-rest-preserved
loop-rest-preserved g c =
    leaves_less _ _ _ c.args.bytes.now c.loop-rest.rest.now c.in_ok-taken.taken c.loop-rest.invariant
    c.in_ok-taken.ensures.bytes
