use Rattle.std.proofs.Common.{◌++◌, codes, decimal, refl}
use Rattle.brc_lang.proofs.Written.{stops_early, stops_late}
use Rattle.brc_lang.proofs.instruction_text.write_again.Goals as goal

pub returns-in_err-write_numeral-clause-begun : goal.returns-in_err-write_numeral-clause-begun
returns-in_err-write_numeral-clause-begun g c =
    stops_early _ _ _ _ (codes "again @" ++ decimal c.args.target) (codes " " ++ decimal c.args.times) refl
    (rw c.from.ensures at c.in_err-write_numeral.ensures.begun)

pub returns-clause-begun : goal.returns-clause-begun
returns-clause-begun g c =
    stops_late _ _ _ _ _ (codes "again @" ++ decimal c.args.target) (codes " " ++ decimal c.args.times) refl
    (rw c.from.ensures at c.in_ok-write_numeral.ensures.whole) (rw c.from-2.ensures at c.write_numeral-2.ensures.begun)
