use Rattle.std.proofs.Common.{List, length, ap, sym, ◌∙◌, ◌≡◌, arith}
use Rattle.brc_lang.specs.declared.module.Function.{Function}
use Rattle.brc_lang.specs.declared.module.Instr.{Instr}
use Rattle.brc_check.specs.declared.kept_entry.KeptEntry.{KeptEntry}
use Rattle.brc_check.specs.Tables.{state_at}
use Rattle.brc_check.proofs.Tables.{given_state, past_module, past_table}
use Rattle.brc_check.proofs.table.Table.at.Goals as goal

pub returns-then-function-functions : goal.returns-then-function-functions
returns-then-function-functions c =
    let past = c.if-function-functions.true in
    let same = ap length c.as_slice-functions.ensures in
    sym (past_module c.args.module.now c.args.self.now c.args.function c.args.at (omega (arith, past, same)))

pub returns-then-function-lists : goal.returns-then-function-lists
returns-then-function-lists c =
    let past = c.if-function-lists.true in
    let same = ap length c.lists-lists.ensures in
    sym (past_table c.args.module.now c.args.self.now c.args.function c.args.at (omega (arith, past, same)))

pub returns : goal.returns
returns c =
    let f = c.index-functions-function.result in
    let kept = c.index-lists-function.result in
    let is_code : c.as_slice-code.result.now ≡ f.code =
    c.as_slice-code.ensures ∙ sym (ap (λ (g : Function). g.code) c.index-functions-function.is) in
    c.state_at.ensures
    ∙ ap (λ (code : List Instr). state_at code c.as_slice.result.now c.args.at) is_code
    ∙ ap (λ (k : List KeptEntry). state_at f.code k c.args.at) c.as_slice.ensures
    ∙ given_state c.args.module.now c.args.self.now c.as_slice-functions.result.now c.lists-lists.result.now
    c.args.function c.args.at f kept c.as_slice-functions.ensures c.lists-lists.ensures c.if-function-functions.false
    c.index-functions-function.is c.if-function-lists.false c.index-lists-function.is
