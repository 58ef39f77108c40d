use Rattle.std.proofs.Common.{◌∙◌, ℕ, get_or, sym, ap}
use Rattle.std.specs.Prelude.{Option}
use Rattle.brc_model.specs.declared.state.State.{State}
use Rattle.brc_model.specs.declared.state.Exit.TheVariants.{Success}
use Rattle.brc_explain.specs.Walking.{onward}
use Rattle.brc_explain.proofs.Walks.{reached-more}
use Rattle.brc_explain.proofs.walking.reached.Goals as goal

pub loop-exit-preserved : goal.loop-exit-preserved
loop-exit-preserved c =
    let f = c.args.function.now in
    let exits = c.args.exits.now in
    let i = c.loop-exit.exit-index in
    rw c.as_slice-code.ensures at c.onward-place.ensures
    ∙ ap (λ (p : Option (ℕ × State)). onward f.code p (get_or exits i Success)) c.loop-exit.invariant
    ∙ sym (reached-more f exits i Success c.loop-exit-test.true)
