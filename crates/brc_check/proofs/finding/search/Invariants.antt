use Rattle.std.proofs.Common.{◌-◌, ◌^◌}
use Rattle.brc_check.specs.Searching.{IsSearchedTo}
use Rattle.brc_check.proofs.finding.search.Given as goal

abbrev pub invariant-loop-turn : goal.invariant-loop-turn
invariant-loop-turn l = IsSearchedTo l.function l.wanted.at l.wanted.code l.visits l.turn

-- the turns that numbers are left for
abbrev pub decreases-loop-turn : goal.decreases-loop-turn
decreases-loop-turn l = 2 ^ 64 - l.turn
