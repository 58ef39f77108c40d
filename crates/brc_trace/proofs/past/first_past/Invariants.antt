-- So many threads do what they do first.
use Rattle.std.proofs.Common.{◌≡◌, replicate}
use Rattle.brc_trace.specs.TraceText.{first_doing}
use Rattle.brc_trace.proofs.past.first_past.Given as goal

abbrev pub invariant-loop : goal.invariant-loop
invariant-loop l = l.first ≡ replicate l.counter first_doing
