use Rattle.std.proofs.Common.{arith, ap, ◌∙◌}
use Rattle.brc_model.specs.SlotStates.{entry_of}
use Rattle.brc_check.specs.Searching.{first_visits}
use Rattle.brc_check.proofs.Searches.{searched-first, searched-all}
use Rattle.brc_check.proofs.finding.search.Goals as goal

pub loop-turn-init : goal.loop-turn-init
loop-turn-init c =
    searched-first c.args.function.now c.args.wanted.at c.args.wanted.code c.in_ok-visits.visits c.requires
    (c.in_ok-visits.ensures
    ∙ λ i. first_visits ((c.entry_of-entry.ensures ∙ ap entry_of c.as_slice.ensures) i) (c.len.ensures i))

pub returns : goal.returns
returns c =
    searched-all c.args.function.now c.args.wanted.at c.args.wanted.code c.loop-turn.visits c.loop-turn.turn
    c.loop-turn.invariant (omega arith)
