use Rattle.std.proofs.Common.{sym, ◌+◌, arith}
use Rattle.brc_lang.proofs.Numbers.{digits_next, digits_all, too_high}
use Rattle.brc_lang.proofs.lexing.numeral.Goals as goal

pub returns-then-value-from : goal.returns-then-value-from
returns-then-value-from c =
    let next =
    digits_next c.args.digits.now c.loop-digit.digit-index c.loop-digit.value c.from.result c.loop-digit-test.true
    c.loop-digit.invariant.0 c.if-not-is_ascii_digit.ensures.cases c.from.ensures in
    too_high c.args.digits.now (c.loop-digit.digit-index + 1) c.args.high (omega arith)

pub loop-digit-preserved : goal.loop-digit-preserved
loop-digit-preserved c =
    let next =
    digits_next c.args.digits.now c.loop-digit.digit-index c.loop-digit.value c.from.result c.loop-digit-test.true
    c.loop-digit.invariant.0 c.if-not-is_ascii_digit.ensures.cases c.from.ensures in (
      next,
      omega arith,
      digits_all c.args.digits.now c.loop-digit.digit-index c.loop-digit-test.true
          c.loop-digit.invariant.2 (sym c.if-not-is_ascii_digit.ensures.value),
    )
