use Rattle.std.proofs.Common.{length, refl, sym, ap, ◌∙◌, inr, arith}
use Rattle.std.proofs.lemmas.Bool.{lt-leb}
use Rattle.brc_lang.specs.Fault.{opening_fault_of}
use Rattle.brc_lang.specs.Limits.{function_limit}
use Rattle.brc_lang.proofs.Headings.{has_name}
use Rattle.brc_lang.proofs.heading.heading.Goals as goal

pub returns-then-has_name-clause-err : goal.returns-then-has_name-clause-err
returns-then-has_name-clause-err c =
    let done = c.args.above.now.functions in
    inr (ap (opening_fault_of done) c.in_ok-name.ensures.ok
    ∙ rw (
      lt-leb function_limit (length done) (omega (arith, c.len.ensures, c.if-len-ge-MOST_FUNCTIONS.false)),
      ap (has_name c.in_ok-name.name.now) (sym c.as_slice.ensures) ∙ sym c.has_name.ensures ∙ c.if-has_name.true,
    ) refl)
