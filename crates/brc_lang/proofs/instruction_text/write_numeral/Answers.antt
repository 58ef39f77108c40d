use Rattle.std.proofs.Common.{decimal, refl}
use Rattle.brc_lang.proofs.Written.{stops_early, stops_late}
use Rattle.brc_lang.proofs.instruction_text.write_numeral.Goals as goal

pub returns-in_err-write_bytes-clause-begun : goal.returns-in_err-write_bytes-clause-begun
returns-in_err-write_bytes-clause-begun g c =
    stops_early _ _ _ _ c.args.before.now (decimal c.args.number) refl c.in_err-write_bytes.ensures.begun

pub returns-clause-begun : goal.returns-clause-begun
returns-clause-begun g c =
    stops_late _ _ _ _ _ c.args.before.now (decimal c.args.number) refl c.in_ok-write_bytes.ensures.whole
    c.write_number.ensures.begun
