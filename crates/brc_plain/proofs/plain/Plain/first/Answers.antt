use Rattle.std.proofs.Common.{◌≡◌, ℕ, ◌+◌, List, length, map, refl, sym, ap, ◌∙◌, arith}
use Rattle.brc_model.specs.StepMachine.{first_abstract, first_memory}
use Rattle.brc_plain.specs.Bags.{bag_in}
use Rattle.brc_plain.specs.Lives.{life_at}
use Rattle.brc_machine.specs.Storage.{word_in}
use Rattle.brc_plain.specs.Threads.{actor_of}
use Rattle.brc_plain.proofs.Beginning.{few_rows_of, first_is, lines_of}
use Rattle.brc_plain.proofs.plain.Plain.first.Goals as goal

pub first_memory-requires-clause-small : goal.first_memory-requires-clause-small
first_memory-requires-clause-small c =
    few_rows_of c.args.module.now c.layout_of-layout.result _ c.args.rows c.requires.fits (omega arith)
    c.requires.most_rows c.layout_of-layout.ensures

pub first_bag-requires-clause-lines : goal.first_bag-requires-clause-lines
first_bag-requires-clause-lines c =
    rw c.as_slice-statics.ensures
    (lines_of c.args.module.now c.layout_of-layout.result _ c.args.rows c.requires.fits c.layout_of-layout.ensures)

pub first_bag-requires-clause-small : goal.first_bag-requires-clause-small
first_bag-requires-clause-small c =
    few_rows_of c.args.module.now c.layout_of-layout.result _ c.args.rows c.requires.fits (omega arith)
    c.requires.most_rows c.layout_of-layout.ensures

pub first_lives-requires : goal.first_lives-requires
first_lives-requires c =
    few_rows_of c.args.module.now c.layout_of-layout.result _ c.args.rows c.requires.fits (omega arith)
    c.requires.most_rows c.layout_of-layout.ensures

pub returns : goal.returns
returns c =
    let lines : c.as_slice-statics.result.now ≡ c.args.module.now.statics = c.as_slice-statics.ensures in
    let workers : ℕ = length c.args.calls.now in
    sym (first_is c.args.module.now c.args.rows workers (1 + workers) c.args.calls.now c.layout_of-layout.result
    c.new.result (word_in c.in_ok-first_memory.field-0) (map actor_of c.in_ok-first_threads.field-0.items)
    (bag_in c.in_ok-first_bag.field-0) (life_at c.in_ok-first_lives.field-0.items) refl refl c.layout_of-layout.ensures
    c.new.ensures
    (c.in_ok-first_memory.ensures.words
    ∙ ap (λ (l : List (List ℕ)). first_memory l c.layout_of-layout.result) lines)
    c.in_ok-first_threads.ensures
    (c.in_ok-first_bag.ensures
    ∙ ap (λ (l : List (List ℕ)). first_abstract l c.layout_of-layout.result (1 + workers)) lines)
    c.in_ok-first_lives.ensures)
