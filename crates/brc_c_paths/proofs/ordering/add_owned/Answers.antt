use Rattle.std.proofs.Common.{length, sym, ◌∙◌, arith}
use Rattle.brc_c_store.specs.Stores.{contents_of}
use Rattle.brc_c_paths.specs.Order.{with_owned}
use Rattle.brc_c_paths.proofs.Turns.{turns_first, turns_next, turns_end}
use Rattle.brc_c_paths.proofs.ordering.add_owned.Goals as goal

pub loop-at-init : goal.loop-at-init
loop-at-init c =
    turns_first (with_owned (contents_of c.args.store.now)) c.args.order.now.items
    (length c.args.store.now.objects.items)

pub loop-at-preserved : goal.loop-at-preserved
loop-at-preserved c =
    turns_next (with_owned (contents_of c.args.store.now)) c.loop-at.order.items c.add_if_owned.new.order.items
    c.loop-at.at (length c.args.store.now.objects.items) c.in_ok-add_if_owned.ensures (omega arith)
    ∙ c.loop-at.invariant

pub returns : goal.returns
returns c =
    sym (turns_end (with_owned (contents_of c.args.store.now)) c.loop-at.order.items c.loop-at.at
    (length c.args.store.now.objects.items) (omega arith))
    ∙ c.loop-at.invariant
