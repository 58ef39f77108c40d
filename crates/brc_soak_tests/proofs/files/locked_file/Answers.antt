use Rattle.std.proofs.Common.{ℕ, ◌∷◌, inr, sym, ap, ◌∙◌}
use Rattle.brc_fixtures.proofs.Resting.{holds_first}
use Rattle.brc_soak_tests.proofs.files.locked_file.Goals as goal

pub try_lock-requires-clause-held : goal.try_lock-requires-clause-held
try_lock-requires-clause-held c =
    let rows = c.args.hand.now.view.references in
    inr (holds_first c.birth-row.new.hand.view c.birth-row.result rows
    (c.birth-row.ensures.born.keeps.references ∙ ap (λ (x : ℕ). x ∷ rows) (sym c.birth-row.ensures.row)))
