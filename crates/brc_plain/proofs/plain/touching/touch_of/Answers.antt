use Rattle.std.proofs.Common.{◌∙◌, arith}
use Rattle.brc_plain.proofs.plain.touching.touch_of.Goals as goal

pub returns-clause-left : goal.returns-clause-left
returns-clause-left c =
    c.leaves.ensures ∙ c.access_of-access.ensures.word _ _ _ (omega arith) c.in_ok-ask_suits.ensures.suits
