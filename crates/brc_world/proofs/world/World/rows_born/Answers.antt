use Rattle.std.proofs.Common.{ℕ, List, [], ◌∷◌, ◌++◌, Vec, Global, ap, sym, ◌∙◌, arith}
use Rattle.brc_world.specs.Worlds.{model_of}
use Rattle.brc_world.proofs.Tallying.{born_here, unborn_here}
use Rattle.brc_world.proofs.world.World.rows_born.Goals.{then-is_born+in_ok-push, else-is_born}
use Rattle.brc_world.proofs.world.World.rows_born.Goals as goal

pub overflow_cast-row-end : goal.overflow_cast-row-end
overflow_cast-row-end c =
    let few_rows = c.worlds_are_small.ensures.few_in_all _ _ c.self.invariant.reachable in
    omega (arith, c.rows-row-end.ensures, c.self.invariant.rows, few_rows)

pub loop-row-preserved : goal.loop-row-preserved
loop-row-preserved c = record {
  first = omega arith;
  born = elim c.if-is_born.branch [
    | then-is_born+in_ok-push w ↦
        ap (λ (v : Vec ℕ Global). v.items) w.born-is ∙ w.in_ok-push.ensures.items
        ∙ ap (λ (l : List ℕ). l ++ c.loop-row.row ∷ []) c.loop-row.invariant.born
        ∙ sym (born_here (model_of c.args.self.now) c.loop-row.row c.loop-row.invariant.first
        (sym c.is_born.ensures ∙ w.if-is_born.true))
    | else-is_born w ↦
        ap (λ (v : Vec ℕ Global). v.items) w.born-is ∙ c.loop-row.invariant.born
        ∙ sym (unborn_here (model_of c.args.self.now) c.loop-row.row c.loop-row.invariant.first
        (sym c.is_born.ensures ∙ w.if-is_born.false))
  ];
}
