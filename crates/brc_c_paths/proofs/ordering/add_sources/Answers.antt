use Rattle.std.proofs.Common.{length, sym, ◌∙◌, arith}
use Rattle.brc_c_store.specs.Stores.{contents_of}
use Rattle.brc_c_paths.specs.Order.{with_sources_at}
use Rattle.brc_c_paths.proofs.Turns.{turns_first, turns_next, turns_end}
use Rattle.brc_c_paths.proofs.ordering.add_sources.Goals as goal

pub loop-turn-init : goal.loop-turn-init
loop-turn-init c =
    turns_first (with_sources_at (contents_of c.args.store.now)) c.args.order.now.items
    (length c.args.store.now.objects.items)

pub loop-turn-preserved : goal.loop-turn-preserved
loop-turn-preserved c =
    turns_next (with_sources_at (contents_of c.args.store.now)) c.loop-turn.order.items c.add_sources_at.new.order.items
    c.loop-turn.turn (length c.args.store.now.objects.items) c.in_ok-add_sources_at.ensures (omega arith)
    ∙ c.loop-turn.invariant

pub returns : goal.returns
returns c =
    sym (turns_end (with_sources_at (contents_of c.args.store.now)) c.loop-turn.order.items c.loop-turn.turn
    (length c.args.store.now.objects.items) (omega arith))
    ∙ c.loop-turn.invariant
