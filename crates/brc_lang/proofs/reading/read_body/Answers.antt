use Rattle.std.proofs.Common.{sym, ap, ◌∙◌}
use Rattle.brc_lang.specs.Fault.{end_fault_of}
use Rattle.brc_lang.proofs.Bodies.{goes_on, ends, end_fault, other_fault}
use Rattle.brc_lang.proofs.reading.read_body.Goals as goal

pub returns-in-Some-end_fault-clause-err : goal.returns-in-Some-end_fault-clause-err
returns-in-Some-end_fault-clause-err c =
    end_fault c.args.above.now.version c.args.above.now.statics c.args.above.now.functions c.args.start
    c.loop-text.cursor c.loop-text.code c.in-Some.text.now c.in-Some.rest.now
    c.in-Some-end_fault.code c.loop-text.invariant c.in-Some.ensures (sym c.is_word.ensures ∙ c.if-is_word.true)
    (ap end_fault_of (sym c.as_slice.ensures) ∙ sym c.end_fault.ensures ∙ c.in-Some-end_fault.is)

pub returns-then-is_word-clause-ok : goal.returns-then-is_word-clause-ok
returns-then-is_word-clause-ok c =
    ends c.args.above.now.version c.args.above.now.statics c.args.above.now.functions c.args.start
    c.loop-text.cursor c.loop-text.code c.in-Some.text.now c.in-Some.rest
    c.loop-text.invariant c.in-Some.ensures (sym c.is_word.ensures ∙ c.if-is_word.true)
    (ap end_fault_of (sym c.as_slice.ensures) ∙ sym c.end_fault.ensures ∙ c.in_default-end_fault.is)

pub returns-in-Err-clause-err : goal.returns-in-Err-clause-err
returns-in-Err-clause-err c =
    other_fault c.args.above.now.version c.args.above.now.statics c.args.above.now.functions c.args.start
    c.loop-text.cursor c.loop-text.code c.in-Some.text.now c.in-Some.rest.now
    c.in-Err.code c.loop-text.invariant c.in-Some.ensures (sym c.is_word.ensures ∙ c.if-is_word.false)
    c.in-Err.ensures.err

pub loop-text-preserved : goal.loop-text-preserved
loop-text-preserved c =
    goes_on c.args.above.now.version c.args.above.now.statics c.args.above.now.functions c.args.start
    c.loop-text.cursor c.loop-text.code c.read_instruction.new.code c.in-Some.text.now
    c.in-Some.rest c.requires.few c.loop-text.invariant c.in-Some.ensures c.in_default-read_instruction.ensures.ok
