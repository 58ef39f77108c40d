use Rattle.std.proofs.Common.{length, sym, ◌∙◌, arith}
use Rattle.brc_c_store.specs.Stores.{contents_of}
use Rattle.brc_c_paths.specs.Lenders.{with_known_as_lent}
use Rattle.brc_c_paths.proofs.Turns.{turns_first, turns_next, turns_end}
use Rattle.brc_c_paths.proofs.lenders.know_all_as_lent.Goals as goal

pub loop-at-init : goal.loop-at-init
loop-at-init c = turns_first with_known_as_lent (contents_of c.args.store.now) (length c.args.store.now.objects.items)

pub loop-at-preserved : goal.loop-at-preserved
loop-at-preserved c =
    turns_next with_known_as_lent (contents_of c.loop-at.store) (contents_of c.know_as_lent.new.store)
    c.loop-at.at (length c.args.store.now.objects.items) c.know_as_lent.ensures (omega arith)
    ∙ c.loop-at.invariant

pub returns : goal.returns
returns c =
    sym (turns_end with_known_as_lent (contents_of c.loop-at.store) c.loop-at.at
    (length c.args.store.now.objects.items) (omega arith))
    ∙ c.loop-at.invariant
