-- The stored word is written.
use Rattle.std.proofs.Common.{ℕ, set, sym, subst, arith}
use Rattle.brc_model.specs.Machine.{written}
use Rattle.brc_table.specs.Opening.{AreWordsOf}
use Rattle.brc_table.proofs.Places.{place_within}
use Rattle.brc_table.proofs.WrittenWords.{written_are}
use Rattle.brc_table.proofs.first_words.put.Goals as goal

pub index_mut-requires : goal.index_mut-requires
index_mut-requires c =
    omega (
      arith,
      c.place_at.ensures,
      place_within c.args.cells c.args.address c.requires.plain c.requires.few c.requires.there,
      c.requires.long,
    )

pub returns-clause-words : goal.returns-clause-words
returns-clause-words c = λ memory are.
    subst (λ (k : ℕ). AreWordsOf c.args.cells (set c.args.words.now.items k c.args.word)
    (written memory c.args.address c.args.word)) (sym c.place_at.ensures)
    (written_are c.args.cells c.args.words.now.items memory c.args.address c.args.word c.requires.plain c.requires.few
    c.requires.long c.requires.there are)
