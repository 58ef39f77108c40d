use Rattle.std.proofs.Common.{arith}
use Rattle.std.proofs.lemmas.Fmt.{length-decimal-le}
use Rattle.brc_work.proofs.line.line_of.Goals as goal

pub write_digits-start-requires : goal.write_digits-start-requires
write_digits-start-requires c = (
  length-decimal-le 10 _ (omega arith) (omega (arith, c.ranges.value.fits, c.from.ensures))
      (omega (arith, c.ranges.value.fits, c.from.ensures)),
  omega arith,
)
