use Rattle.std.proofs.Common.{ℕ, List, refl, sym, ap}
use Rattle.std.specs.Prelude.{Option, None}
use Rattle.std.specs.List.{slice_index_or}
use Rattle.brc_check.proofs.Passing.{rival-found}
use Rattle.brc_check.proofs.finding.rival.Goals as goal

pub returns : goal.returns
returns c =
    let wanted = c.if-not-is_wanted.ensures.0 refl in
    rival-found c.args.visits.now c.args.wanted.at c.args.at c.args.wanted.code
    (slice_index_or c.as_slice.result.now c.args.at None) c.requires.firsts c.requires.within (sym wanted.1)
    wanted.0 (ap (λ (l : List (Option ℕ)). slice_index_or l c.args.at None) (sym c.as_slice.ensures))
