use Rattle.std.proofs.Common.{length, sym, ◌∙◌, arith}
use Rattle.brc_c_store.specs.Stores.{contents_of}
use Rattle.brc_c_paths.specs.Lenders.{with_lender_forgotten}
use Rattle.brc_c_paths.proofs.Turns.{turns_first, turns_next, turns_end}
use Rattle.brc_c_paths.proofs.lenders.forget_all_lenders.Goals as goal

pub loop-at-init : goal.loop-at-init
loop-at-init c =
    turns_first with_lender_forgotten (contents_of c.args.store.now) (length c.args.store.now.objects.items)

pub loop-at-preserved : goal.loop-at-preserved
loop-at-preserved c =
    turns_next with_lender_forgotten (contents_of c.loop-at.store) (contents_of c.forget_lender.new.store)
    c.loop-at.at (length c.args.store.now.objects.items) c.forget_lender.ensures (omega arith)
    ∙ c.loop-at.invariant

pub returns : goal.returns
returns c =
    sym (turns_end with_lender_forgotten (contents_of c.loop-at.store) c.loop-at.at
    (length c.args.store.now.objects.items) (omega arith))
    ∙ c.loop-at.invariant
