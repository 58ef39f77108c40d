use Rattle.std.proofs.Common.{ap, ◌∙◌}
use Rattle.brc_table.specs.Hands.{HandState}
use Rattle.brc_heap.proofs.Bearing.{owns_after}
use Rattle.brc_heap.proofs.heap.Heap.birth_steps.Goals as goal
use Rattle.brc_heap.proofs.heap.Heap.birth_steps.Goals.{in-Some, in_default}

pub first_local_store-requires-clause-duty : goal.first_local_store-requires-clause-duty
first_local_store-requires-clause-duty g c = elim c.match-resource.branch [
  | in-Some put ↦
      owns_after c.args.hand.now.view c.args.word
      (ap (λ (h : HandState). h.view) put.hand-is ∙ (put.field_put.ensures.view ∙ c.kind_store-row.ensures.view))
      c.kind_store-row.ensures.row
  | in_default none ↦
      owns_after c.args.hand.now.view c.args.word
      (ap (λ (h : HandState). h.view) none.hand-is ∙ c.kind_store-row.ensures.view) c.kind_store-row.ensures.row
]
