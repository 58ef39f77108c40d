use Rattle.std.proofs.Common.{◌++◌, codes, refl}
use Rattle.brc_lang.specs.Grammar.{passing_name, kind_name}
use Rattle.brc_lang.proofs.Written.{stops_early, stops_late}
use Rattle.brc_lang.proofs.writing.write_parameter.Goals as goal

pub returns-in_err-write_word-clause-begun : goal.returns-in_err-write_word-clause-begun
returns-in_err-write_word-clause-begun g c =
    stops_early _ _ _ _ (codes " " ++ passing_name c.args.parameter.passing)
    (codes " " ++ kind_name c.args.parameter.kind) refl (rw c.name.ensures at c.in_err-write_word.ensures.begun)

pub returns-clause-begun : goal.returns-clause-begun
returns-clause-begun g c =
    stops_late _ _ _ _ _ (codes " " ++ passing_name c.args.parameter.passing)
    (codes " " ++ kind_name c.args.parameter.kind) refl (rw c.name.ensures at c.in_ok-write_word.ensures.whole)
    (rw c.name-2.ensures at c.write_word-2.ensures.begun)
