use Rattle.brc_word.proofs.Words.{packed, unpacked, one_shared}
use Rattle.brc_word.proofs.laws.pack_and_unpack.Goals as goal

pub returns-clause-packed : goal.returns-clause-packed
returns-clause-packed c = packed

pub returns-clause-unpacked : goal.returns-clause-unpacked
returns-clause-unpacked c = unpacked

pub returns-clause-one : goal.returns-clause-one
returns-clause-one c = one_shared
