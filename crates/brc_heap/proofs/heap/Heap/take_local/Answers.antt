use Rattle.std.proofs.Common.{Bool, None, Some, sym, ap, ◌∙◌}
use Rattle.std.specs.Prelude.{if◌then◌else◌}
use Rattle.std.proofs.lemmas.Bool.{eq-eqb, ne_eqb}
use Rattle.brc_word.specs.Words.{local_part}
use Rattle.brc_heap.proofs.MergeTries.{swapped}
use Rattle.brc_heap.proofs.heap.Heap.take_local.Goals as goal

pub returns-then-local-eq0-clause-left : goal.returns-then-local-eq0-clause-left
returns-then-local-eq0-clause-left g c = λ r rest next.
    swapped c.go_on-local.result c.go_on-local.ensures.view
    (ap (λ (b : Bool). if b then None else Some (local_part c.go_on-local.result))
    (eq-eqb c.go_on-local.result 0 c.if-local-eq0.true)) next

pub returns-clause-left : goal.returns-clause-left
returns-clause-left g c = λ r rest next.
    swapped c.go_on-local.result c.go_on-local.ensures.view
    (ap (λ (b : Bool). if b then None else Some (local_part c.go_on-local.result))
    (ne_eqb c.go_on-local.result 0 c.if-local-eq0.false) ∙ ap Some (sym c.local_count.ensures.word)) next
