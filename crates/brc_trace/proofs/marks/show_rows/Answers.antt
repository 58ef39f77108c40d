-- Each set mark adds its row.
use Rattle.std.proofs.Common.{ℕ, List, ◌++◌, ◌∙◌, arith, ap, refl, sym, append-nil}
use Rattle.brc_trace.proofs.MarkRows.{has_some, first_rows, row_same, text_more, some_more, whole, none}
use Rattle.brc_trace.specs.WordTexts.{rows_text}
use Rattle.brc_trace.proofs.marks.show_rows.Goals.{then-mark_at-eq-SET+in_ok-show_next, else-mark_at-eq-SET}
use Rattle.brc_trace.proofs.marks.show_rows.Goals as goal

pub loop-bit-init : goal.loop-bit-init
loop-bit-init c =
    let empty = first_rows c.args.layout c.args.thread c.args.word c.args.found in
    record {
      text = rw empty (sym (append-nil c.args.line.now));
      some = rw empty refl;
    }

pub loop-bit-preserved : goal.loop-bit-preserved
loop-bit-preserved c = elim c.if-mark_at-eq-SET.branch [
  | then-mark_at-eq-SET+in_ok-show_next w ↦
      let set = sym c.mark_at.ensures ∙ w.if-mark_at-eq-SET.true in
      record {
        text =
            text_more c.args.layout c.args.thread c.args.word c.args.found c.loop-bit.bit w.row_of_mark.result
            c.loop-bit.some c.args.line.now c.loop-bit.line c.if-mark_at-eq-SET.line set w.row_of_mark.ensures
            c.loop-bit.invariant.text c.loop-bit.invariant.some (w.line-is ∙ w.in_ok-show_next.ensures);
        some =
            w.some-is ∙ some_more c.args.layout c.args.thread c.args.word c.args.found c.loop-bit.bit set;
      }
  | else-mark_at-eq-SET w ↦
      let same =
      row_same c.args.layout c.args.thread c.args.word c.args.found c.loop-bit.bit
      (λ e. w.if-mark_at-eq-SET.false (c.mark_at.ensures ∙ e)) in
      record {
        text =
            w.line-is ∙ c.loop-bit.invariant.text
            ∙ ap (λ (rows : List ℕ). c.args.line.now ++ rows_text rows) (sym same);
        some = w.some-is ∙ c.loop-bit.invariant.some ∙ ap has_some (sym same);
      }
]

pub returns-then-some : goal.returns-then-some
returns-then-some c =
    whole c.args.layout c.args.thread c.args.word c.args.found c.loop-bit.bit _ c.loop-bit.some c.args.line.now
    c.loop-bit.line (omega (arith, c.loop-bit.auto.bit-end, c.loop-bit-test.false)) c.if-some.true
    c.loop-bit.invariant.text c.loop-bit.invariant.some

pub returns : goal.returns
returns c =
    none c.args.layout c.args.thread c.args.word c.args.found c.text.result c.loop-bit.bit _ c.loop-bit.some
    c.args.line.now c.loop-bit.line c.text.new.self
    (omega (arith, c.loop-bit.auto.bit-end, c.loop-bit-test.false)) c.if-some.false c.loop-bit.invariant.text
    c.loop-bit.invariant.some c.text.ensures
