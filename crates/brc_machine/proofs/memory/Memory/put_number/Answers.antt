-- The three words of a number are stored.
use Rattle.std.proofs.Common.{refl}
use Rattle.brc_machine.proofs.memory.Memory.put_number.Goals as goal

pub returns-clause-words : goal.returns-clause-words
returns-clause-words c =
    rw (
      c.store-3.ensures.words,
      c.store-2.ensures.words,
      c.store.ensures.words,
      c.local_word.ensures.word,
      c.kind_word.ensures.word,
      c.from.ensures,
    ) refl
