use Rattle.std.proofs.Common.{sym, ◌∙◌}
use Rattle.std.proofs.lemmas.Bool.{both_ways}
use Rattle.brc_lang.proofs.Numbers.{name_parts}
use Rattle.brc_lang.proofs.lexing.is_name.Goals as goal
use Rattle.brc_lang.proofs.lexing.is_name.Goals.{then-is_ascii_lowercase, else-is_ascii_lowercase}

pub returns-then-are_name_bytes : goal.returns-then-are_name_bytes
returns-then-are_name_bytes c =
    let parts = name_parts c.args.word.now c.in-len1-up.len_at_least in
    elim c.if-is_ascii_lowercase.branch [
      | then-is_ascii_lowercase w ↦
          let first = w.if-is_ascii_lowercase.ensures.value in
          let others = sym w.are_name_bytes.ensures ∙ sym w.value-is ∙ c.if-are_name_bytes.true in
          rw (sym first, others) at parts
      | else-is_ascii_lowercase w ↦
          absurd (both_ways _ (w.value-is ∙ w.if-is_ascii_lowercase.false) c.if-are_name_bytes.true)
    ]
