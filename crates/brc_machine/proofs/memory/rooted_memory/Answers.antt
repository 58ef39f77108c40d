use Rattle.std.proofs.Common.{ℕ, ◌+◌, ◌*◌, ◌∙◌, ap, replicate, arith}
use Rattle.brc_machine.specs.FirstWords.{plain_words}
use Rattle.brc_model.specs.Layout.{worker_rows, rear_rows}
use Rattle.brc_machine.proofs.Storing.{words_as, fresh_is}
use Rattle.brc_machine.proofs.memory.rooted_memory.Goals as goal

pub returns-clause-words : goal.returns-clause-words
returns-clause-words c =
    let more = worker_rows c.args.layout + rear_rows c.args.layout in
    let n = c.row_count-n.result in
    words_as c.from-workers.result c.args.layout.cells n more _ _ _ _ _ _ _ _ _ _ _ _ _
    (omega (arith, c.row_count-n.ensures))
    (c.in_ok-local.ensures.items_if_clones_equal (λ _ e. e)) c.local_word.ensures.word c.local_word-2.ensures.word
    (c.in_ok-kind.ensures.items_if_clones_equal (λ _ e. e)) c.kind_word.ensures.word c.kind_word-2.ensures.word
    ((c.in_ok-vec.ensures.items_if_clones_equal (λ _ e. e)) ∙ ap (replicate n) (fresh_is _ c.pack-fresh.ensures.word))
    (c.in_ok-vec-2.ensures.items_if_clones_equal (λ _ e. e)) (c.in_ok-vec-3.ensures.items_if_clones_equal (λ _ e. e))
    ((c.in_ok-vec-4.ensures.items_if_clones_equal (λ _ e. e))
    ∙ ap (λ (width : ℕ). replicate (width * n) 0) c.from.ensures)
    (c.in_ok-vec-5.ensures.items_if_clones_equal (λ _ e. e))
    (c.in_ok-vec-6.ensures.items_if_clones_equal (λ _ e. e)) (c.in_ok-vec-7.ensures.items_if_clones_equal (λ _ e. e))
    ∙ ap plain_words c.from-workers.ensures
