use Rattle.std.proofs.Common.{rules}
use Rattle.std.specs.Prelude.{nat_lt, length}
use Rattle.brc_command.specs.Files.{IsOutcome}
use Rattle.brc_command.proofs.FilesLater.{outcome_now}
use Rattle.brc_command.proofs.FilesWritten.{next_file, widened}
use Rattle.brc_command.proofs.files.check_files.Goals as goal

pub loop-file-preserved : goal.loop-file-preserved
loop-file-preserved g c =
    let gives = g.L.Load.may_give c.args.load.now in
    let lacks = g.L.Load.may_lack c.args.load.now in
    let later_gives = g.L.Load.may_give c.loop-file.load in
    let later_lacks = g.L.Load.may_lack c.loop-file.load in
    let files = c.args.files.now in
    let named = nat_lt 1 (length files) in
    let before = c.loop-file.invariant in
    let here = c.check_one-status.ensures in
    let more = widened (IsOutcome later_gives later_lacks named c.args.format)
    (IsOutcome gives lacks named c.args.format) _ _ _ _ _ _
    (outcome_now gives later_gives lacks later_lacks before.gives_no_more before.lacks_no_more named c.args.format)
    here.written in
    record {
      written = rw c.greater-greatest.ensures
          (next_file (IsOutcome gives lacks named c.args.format) files c.loop-file.file-index _ _ _ _ _ _ _ _ _
          c.loop-file-test.true before.written more);
      known = search rules;
      gives_no_more = λ p bytes may. before.gives_no_more p bytes (here.gives_no_more p bytes may);
      lacks_no_more = λ p may. before.lacks_no_more p (here.lacks_no_more p may);
    }
