-- The three words of a number are stored.
use Rattle.std.proofs.Common.{ℕ, ◌+◌, ◌*◌, subst}
use Rattle.brc_model.specs.declared.address.Address.TheVariants.{Local, KindOf, Cell}
use Rattle.brc_model.specs.Machine.{written}
use Rattle.brc_word.specs.declared.values.TheConstants.{NUM}
use Rattle.brc_word.specs.Words.{half}
use Rattle.brc_table.specs.Opening.{AreWordsOf}
use Rattle.brc_table.proofs.first_words.put_number.Goals as goal

pub returns-clause-words : goal.returns-clause-words
returns-clause-words c = λ memory are.
    let local = Local c.args.row in
    let kind = KindOf c.args.row in
    let cell = Cell c.args.list c.args.cell in
    let owned = written memory local c.local_word.result in
    let named = written owned kind c.kind_word.result in
    let stored = c.put-3.ensures.words named (c.put-2.ensures.words owned (c.put.ensures.words memory are)) in
    subst (λ (w : ℕ). AreWordsOf c.args.cells c.put-3.new.words.items
    (written (written (written memory local w) kind (NUM * half + c.args.value)) cell (c.args.row + 1)))
    c.local_word.ensures.word
    (subst (λ (w : ℕ). AreWordsOf c.args.cells c.put-3.new.words.items
    (written (written (written memory local c.local_word.result) kind w) cell (c.args.row + 1)))
    c.kind_word.ensures.word
    (subst (λ (w : ℕ). AreWordsOf c.args.cells c.put-3.new.words.items (written named cell (w + 1))) c.from-item.ensures
    stored))
