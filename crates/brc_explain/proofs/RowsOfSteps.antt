-- The rows of a path, step by step.
use Rattle.std.proofs.Common.{◌≡◌, ℕ, List, [], ◌∷◌, refl, sym, ap, ◌∙◌}
use Rattle.std.specs.Prelude.{Option, None, Some, slice_get}
use Rattle.std.proofs.lemmas.Option.{same_Some}
use Rattle.brc_lang.specs.declared.check_code.CheckCode.{CheckCode}
use Rattle.brc_lang.specs.declared.module.Instr.{Instr}
use Rattle.brc_model.specs.declared.state.State.{State}
use Rattle.brc_model.specs.declared.state.Exit.{Exit}
use Rattle.brc_model.specs.Paths.{PathEnd, At, Ended, Reports, follow}
use Rattle.brc_explain.specs.declared.rows.StepRow.{StepRow}
use Rattle.brc_explain.specs.declared.rows.Way.{Way}
use Rattle.brc_explain.specs.Rows.{way_of, state_of, reported_by, step_row, step_rows}
use Rattle.brc_explain.specs.Walking.{place_of}

-- the row of the step from a point that the code has
pub row_there : (code : List Instr) (at : ℕ) (s : State) (exit : Exit) (i : Instr) (end : PathEnd) (way : Way)
    (after : Option State) (reported : Option CheckCode)
    → slice_get code at ≡ Some i → end ≡ follow code (At at s) exit
    → way ≡ way_of i exit → after ≡ state_of end → reported ≡ reported_by end
    → record { at = at; way = way; after = after; reported = reported } ∷ [] ≡ step_rows code (At at s) exit
row_there code at s exit i end way after reported here leads is_way is_after is_reported =
    let row : Way → Option State → Option CheckCode → List StepRow =
    λ w a r. record { at = at; way = w; after = a; reported = r } ∷ [] in
    ap (λ (w : Way). row w after reported) is_way
    ∙ ap (λ (a : Option State). row (way_of i exit) a reported) is_after
    ∙ ap (λ (r : Option CheckCode). row (way_of i exit) (state_of end) r) is_reported
    ∙ ap (step_row at (Some i) exit) leads
    ∙ ap (λ (o : Option Instr). step_row at o exit (follow code (At at s) exit)) (sym here)

-- a path that has ended has no further row
pub no_row : (code : List Instr) (end : PathEnd) (exit : Exit) → place_of end ≡ None → step_rows code end exit ≡ []
no_row code (At at s) exit e = absurd cc
no_row code Ended exit e = refl
no_row code (Reports at reported) exit e = refl

-- the row from the point where a path stands
pub row_from : (code : List Instr) (end : PathEnd) (at : ℕ) (s : State) (exit : Exit) → place_of end ≡ Some (at, s)
    → step_rows code end exit ≡ step_rows code (At at s) exit
row_from code (At here t) at s exit e =
    ap (λ (p : ℕ × State). step_rows code (At p.0 p.1) exit) (same_Some (here, t) (at, s) e)
row_from code Ended at s exit e = absurd cc
row_from code (Reports here reported) at s exit e = absurd cc
