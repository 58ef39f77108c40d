use Rattle.std.proofs.Common.{◌≡◌, ◌<◌, ◌*◌, ◌+◌, ◌^◌, ℕ, ◌/◌, sym, ap, ◌∙◌, subst, arith}
use Rattle.brc_model.specs.declared.layout.Layout.{Layout}
use Rattle.brc_effect.proofs.Reciprocal.{product_fits, quotient}
use Rattle.brc_effect.proofs.blocks.Blocks.worker_of.Goals as goal

pub overflow_mul-result : goal.overflow_mul-result
overflow_mul-result c =
    let layout = c.self.inside.layout in
    let low : c.args.back < layout.workers * layout.rows =
    subst (λ (l : Layout). c.args.back < l.workers * l.rows) (sym c.self.view_is) c.requires.there in
    let same : c.from.result * c.self.inside.reciprocal ≡ c.args.back * (2 ^ 40 / layout.rows + 1) =
    ap (λ (k : ℕ). k * c.self.inside.reciprocal) c.from.ensures
    ∙ ap (λ (k : ℕ). c.args.back * k) c.self.invariant.1 in
    let fits =
    product_fits c.args.back layout.workers layout.rows c.self.invariant.0 c.self.invariant.2 c.self.invariant.3 low in
    omega (arith, same, fits)

pub returns : goal.returns
returns c =
    let layout = c.self.inside.layout in
    let low : c.args.back < layout.workers * layout.rows =
    subst (λ (l : Layout). c.args.back < l.workers * l.rows) (sym c.self.view_is) c.requires.there in
    ap (λ (k : ℕ). k * c.self.inside.reciprocal / 2 ^ 40) c.from.ensures
    ∙ ap (λ (k : ℕ). c.args.back * k / 2 ^ 40) c.self.invariant.1
    ∙ quotient c.args.back layout.workers layout.rows c.self.invariant.0 c.self.invariant.2 c.self.invariant.3 low
    ∙ ap (λ (l : Layout). c.args.back / l.rows) c.self.view_is
