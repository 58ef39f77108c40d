use Rattle.std.proofs.Common.{rules, ◌≡◌, List, ◌++◌, length, OnOk, refl, subst}
use Rattle.std.proofs.lemmas.Option.{slice_get_past, slice_get_read}
use Rattle.brc_check.specs.Entries.{end_of}
use Rattle.brc_explain.specs.declared.rows.StepRow.{StepRow}
use Rattle.brc_explain.proofs.RowsOfSteps.{row_there}
use Rattle.brc_explain.proofs.rows.push_step.Goals as goal

pub returns-then-at-code : goal.returns-then-at-code
returns-then-at-code c = let past = slice_get_past c.args.code.now c.args.at c.if-at-code.true in rw past (search rules)

pub returns : goal.returns
returns c =
    let code = c.args.code.now in
    let at = c.args.at in
    let end = end_of at c.follow-step.result in
    subst (λ (rows : List StepRow). OnOk c.push.result (c.push.new.self ≡ c.args.rows.now ++ rows))
    (row_there code at c.args.before.now c.args.exit c.index-code-at.result end c.way_of.result c.after_of.result
    c.reported_of.result
    (slice_get_read code (length code) at c.index-code-at.result refl c.if-at-code.false c.index-code-at.is)
    c.follow-step.ensures c.way_of.ensures (c.after_of.ensures at) (c.reported_of.ensures at))
    c.push.ensures.ok
