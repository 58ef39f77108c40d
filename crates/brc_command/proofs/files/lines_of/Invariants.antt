-- The lines so far are those of refusals.
use Rattle.brc_command.specs.Files.{AreRefusalLines}
use Rattle.brc_command.proofs.files.lines_of.Given as goal

abbrev pub invariant-loop-number : goal.invariant-loop-number
invariant-loop-number l = AreRefusalLines l.«module».functions l.named l.file l.text.items
