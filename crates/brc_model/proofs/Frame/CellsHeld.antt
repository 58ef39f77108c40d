-- The bag has the reference that a cell's word names.
use Rattle.std.proofs.Common.{◌≡◌, ℕ, suc, refl, ap, ◌∙◌}
use Rattle.std.proofs.lemmas.Bool.{eq-eqb}
use Rattle.brc_model.specs.declared.address.Address.TheVariants.{Cell}
use Rattle.brc_model.specs.Machine.{Machine}
use Rattle.brc_model.specs.References.{held, one_if, word_holds, cell_reference}
use Rattle.brc_model.specs.Accounts.{Accounts}
use Rattle.brc_model.specs.Invariant.{CoreInvariant}

module _ {p : Accounts} {n : ℕ} {m : Machine} where
  pub cell_held : (x i y : ℕ) → CoreInvariant p n m → m.memory (Cell x i) ≡ suc y
      → held (cell_reference x i y) m.abstract.references ≡ 1
  cell_held x i y core is = core.cells_hold x i y ∙ ap (λ (w : ℕ). word_holds w y) is ∙ ap one_if (eq-eqb y y refl)
