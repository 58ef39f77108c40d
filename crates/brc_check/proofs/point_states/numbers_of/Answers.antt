use Rattle.std.proofs.Common.{◌-◌, ◌+◌, ◌≡◌, ℕ, length, arith, refl, ap, subst, sym, ◌∙◌}
use Rattle.std.specs.Prelude.{None, Some, replicate, slice_set}
use Rattle.std.proofs.lemmas.List.{get_or-replicate, length-set}
use Rattle.brc_lang.specs.Limits.{instruction_limit}
use Rattle.brc_check.specs.Tables.{point_of}
use Rattle.brc_check.proofs.Lookups.{AreNumbersFrom, numbers_first, numbers_more}
use Rattle.brc_check.proofs.point_states.numbers_of.Goals as goal

pub loop-number-init : goal.loop-number-init
loop-number-init c = record {
  count = refl;
  are = numbers_first c.args.kept.now (replicate instruction_limit None) (length c.args.kept.now) (omega arith)
      (λ at lt. get_or-replicate instruction_limit at None None lt);
}

pub loop-number-preserved-then-at-lt-POINTS : goal.loop-number-preserved-then-at-lt-POINTS
loop-number-preserved-then-at-lt-POINTS c =
    let kept = c.args.kept.now in
    let k = c.loop-number.number - 1 in
    let e = c.index-kept-number.result in
    let positive = c.loop-number-test.true in
    let more : k + 1 ≡ c.loop-number.number = omega (arith, positive) in
    let at_read = ap point_of c.index-kept-number.is in
    record {
      count = length-set c.loop-number.numbers _ (Some k) ∙ c.loop-number.invariant.count;
      are =
          subst (λ (n : ℕ). AreNumbersFrom kept k (slice_set c.loop-number.numbers n (Some k))) at_read
          (numbers_more kept c.loop-number.numbers k e
          (subst (λ (n : ℕ). AreNumbersFrom kept n c.loop-number.numbers) (sym more) c.loop-number.invariant.are)
          (let upto = c.loop-number.auto.number in omega (arith, positive, upto)) c.index-kept-number.is
          c.loop-number.invariant.count
          (let small = c.if-at-lt-POINTS.true in omega (arith, small, at_read)));
    }
