-- The files so far have their outcomes, and the loader promises no more than at first.
use Rattle.std.specs.Prelude.{ℕ, List, ◌≤◌, map, take}
use Rattle.brc_command.specs.Files.{AreWritten, IsOutcome}
use Rattle.brc_command.proofs.files.check_files.Given as goal

abbrev pub invariant-loop-file : goal.invariant-loop-file
invariant-loop-file g l = record {
  written : AreWritten (IsOutcome (g.L.Load.may_give l.fn.load) (g.L.Load.may_lack l.fn.load) l.named l.format)
      (map (λ file. file.now) (take l.file-index l.files)) (g.W.Write.contents l.fn.out) (g.W.Write.contents l.out)
      (g.E.Write.contents l.fn.err) (g.E.Write.contents l.err) l.greatest;
  known : l.greatest ≤ 3;
  gives_no_more : (p bytes : List ℕ) → g.L.Load.may_give l.load p bytes → g.L.Load.may_give l.fn.load p bytes;
  lacks_no_more : (p : List ℕ) → g.L.Load.may_lack l.load p → g.L.Load.may_lack l.fn.load p;
}
