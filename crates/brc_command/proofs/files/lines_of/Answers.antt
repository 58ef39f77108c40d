use Rattle.std.proofs.Common.{ℕ, ◌++◌, Vec, Global, ap, subst, sym, ◌∙◌}
use Rattle.brc_command.specs.Files.{AreRefusalLines}
use Rattle.brc_command.proofs.RefusalLines.{first_line, line_more}
use Rattle.brc_command.proofs.files.lines_of.Goals.{in-Some+in_ok-extend_from_slice, in_default}
use Rattle.brc_command.proofs.files.lines_of.Goals as goal

pub loop-number-init : goal.loop-number-init
loop-number-init c =
    first_line c.args.module.now.functions c.args.named c.args.file.now c.args.first.now c.in_ok-text.text.items
    c.requires.refusal c.in_ok-text.ensures

pub loop-number-preserved : goal.loop-number-preserved
loop-number-preserved c =
    let functions = c.args.module.now.functions in
    let file = c.args.file.now in
    elim c.match-found.branch [
      | in-Some+in_ok-extend_from_slice w ↦
          line_more functions c.args.named file c.loop-number.text.items w.in-Some.line.items _
          c.loop-number.invariant (rw w.in-Some.is at c.in_ok-found.ensures)
          (ap (λ (t : Vec ℕ Global). t.items) w.text-is ∙ (w.in_ok-extend_from_slice.ensures.items
          ∙ ap (λ l. c.loop-number.text.items ++ l) w.as_slice.ensures.value))
      | in_default w ↦
          subst (λ (t : Vec ℕ Global). AreRefusalLines functions c.args.named file t.items) (sym w.text-is)
          c.loop-number.invariant
    ]
