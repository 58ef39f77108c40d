use Rattle.brc_model.specs.Layout.{root_row}
use Rattle.brc_heap_tests.proofs.Marking.{looks, still_marks}
use Rattle.brc_heap_tests.proofs.queue.marked.Goals as goal

pub go_on-requires-2-clause-may : goal.go_on-requires-2-clause-may
go_on-requires-2-clause-may c =
    still_marks c.args.hand.now.view c.go_on.new.hand.view root_row c.go_on.result c.requires.acts c.requires.duty
    c.go_on.ensures.view

pub go_on-requires-2-clause-next : goal.go_on-requires-2-clause-next
go_on-requires-2-clause-next c =
    looks c.args.hand.now.view c.go_on.new.hand.view root_row c.go_on.result c.requires.duty c.go_on.ensures.view
