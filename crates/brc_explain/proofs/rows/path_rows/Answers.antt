use Rattle.std.proofs.Common.{◌≡◌, List, ◌++◌, append-nil, length, take, get_or, sym, ap, ◌∙◌, arith}
use native.Mathlib.Numerals.{unary_clauses}
use Rattle.brc_model.specs.declared.state.Exit.TheVariants.{Success}
use Rattle.brc_model.specs.Paths.{At, path_end}
use Rattle.brc_explain.specs.declared.rows.StepRow.{StepRow}
use Rattle.brc_explain.specs.Rows.{first_steps, step_rows}
use Rattle.brc_explain.proofs.RowsOfSteps.{no_row, row_from}
use Rattle.brc_explain.proofs.rows.path_rows.Goals.{in-Some+in_ok-push_step, in_default}
use Rattle.brc_explain.proofs.rows.path_rows.Goals as goal

pub loop-taken-preserved : goal.loop-taken-preserved
loop-taken-preserved c =
    let f = c.args.function.now in
    let code = f.code in
    let exits = c.args.exits.now in
    let taken = c.loop-taken.taken in
    let end = path_end f (take taken exits) in
    let exit = get_or exits taken Success in
    elim c.match-reached.branch [
      | in-Some+in_ok-push_step w ↦
          let at = w.in-Some.at in
          let before = w.in-Some.before in
          simp unary_clauses (w.rows-is ∙ rw c.as_slice-code.ensures at w.in_ok-push_step.ensures
          ∙ ap (λ (rows : List StepRow). rows ++ step_rows code (At at before) exit) c.loop-taken.invariant
          ∙ ap (λ (rows : List StepRow). first_steps f exits taken ++ rows)
          (sym (row_from code end at before exit (sym c.reached.ensures ∙ w.in-Some.is))))
      | in_default w ↦
          simp unary_clauses (w.rows-is ∙ c.loop-taken.invariant ∙ sym (append-nil (first_steps f exits taken))
          ∙ ap (λ (rows : List StepRow). first_steps f exits taken ++ rows)
          (sym (no_row code end exit (sym c.reached.ensures ∙ w.in_default.is))))
    ]

pub returns : goal.returns
returns c =
    let ended = c.loop-taken-test.false in
    let within = c.loop-taken.auto.taken-end in
    let all : c.loop-taken.taken ≡ length c.args.exits.now = omega (arith, ended, within) in
    c.loop-taken.invariant ∙ ap (first_steps c.args.function.now c.args.exits.now) all
