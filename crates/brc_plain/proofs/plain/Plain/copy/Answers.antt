use Rattle.std.proofs.Common.{◌∙◌, List, ap, map}
use Rattle.std.proofs.lemmas.List.{take_all}
use Rattle.brc_plain.specs.declared.thread.Thread.{Thread}
use Rattle.brc_plain.specs.Bags.{bag_in}
use Rattle.brc_plain.specs.Lives.{life_at}
use Rattle.brc_plain.specs.Plains.{machine_in}
use Rattle.brc_machine.specs.Storage.{word_in}
use Rattle.brc_plain.specs.Threads.{actor_of}
use Rattle.brc_plain.proofs.Steps.{made_of}
use Rattle.brc_plain.proofs.plain.Plain.copy.Goals as goal

pub returns : goal.returns
returns c =
    made_of (machine_in c.args.self.now) (word_in c.in_ok-copy-2.field-0) (map actor_of c.loop-thread.threads.items)
    (bag_in c.in_ok-copy-3.field-0) (life_at c.in_ok-from_slice.field-0.items) (ap word_in c.in_ok-copy-2.ensures)
    (c.loop-thread.invariant
    ∙ ap (λ (l : List Thread). map actor_of l)
    (take_all c.loop-thread.thread-index c.as_slice-thread-items.result.now c.loop-thread-test.false
    ∙ c.as_slice-thread-items.ensures.value))
    c.in_ok-copy-3.ensures (ap life_at (c.in_ok-from_slice.ensures.items ∙ c.as_slice.ensures.value))
