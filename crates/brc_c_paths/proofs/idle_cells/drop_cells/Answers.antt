use Rattle.std.proofs.Common.{length, sym, ◌-◌, ◌∙◌, arith}
use Rattle.brc_c_store.specs.Stores.{contents_of}
use Rattle.brc_c_paths.proofs.Rounds.{round_first, round_next, round_end, rounds_end}
use Rattle.brc_c_paths.proofs.idle_cells.drop_cells.Goals as goal

pub loop-round-init : goal.loop-round-init
loop-round-init c =
    round_first c.args.live.now c.args.node (contents_of c.args.store.now) (length c.args.store.now.cells.items)

pub loop-round-preserved : goal.loop-round-preserved
loop-round-preserved c =
    round_next c.args.live.now c.args.node (contents_of c.loop-round.store) (contents_of c.drop_idle.new.store)
    c.loop-round._round (length c.args.store.now.cells.items) c.in_ok-drop_idle.ensures.dropped (omega arith)
    ∙ c.loop-round.invariant

pub returns-then-not-branch : goal.returns-then-not-branch
returns-then-not-branch c =
    rounds_end c.args.live.now c.args.node (contents_of c.loop-round.store) (contents_of c.drop_idle.new.store)
    (length c.args.store.now.cells.items - c.loop-round._round) c.in_ok-drop_idle.ensures.dropped
    (sym c.in_ok-drop_idle.ensures.changed ∙ c.if-not-branch.true)
    ∙ c.loop-round.invariant

pub returns : goal.returns
returns c =
    sym (round_end c.args.live.now c.args.node (contents_of c.loop-round.store) c.loop-round._round
    (length c.args.store.now.cells.items) (omega arith))
    ∙ c.loop-round.invariant
