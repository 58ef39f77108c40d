-- A word that is read is the word of a shared field.
use Rattle.std.proofs.Common.{refl, arith}
use Rattle.brc_word.proofs.Words.{unpacked}
use Rattle.brc_word.proofs.shared.unpack.Goals as goal

pub returns-in-0-clause-some : goal.returns-in-0-clause-some
returns-in-0-clause-some c = (λ _. unpacked c.args.word (omega arith) (omega arith), λ _. refl)

pub returns-in-2-clause-some : goal.returns-in-2-clause-some
returns-in-2-clause-some c = (λ _. unpacked c.args.word (omega arith) (omega arith), λ _. refl)

pub returns-in_default-clause-some : goal.returns-in_default-clause-some
returns-in_default-clause-some c = (λ _. unpacked c.args.word (omega arith) (omega arith), λ _. refl)
