use Rattle.std.proofs.Common.{◌∙◌, sym, ap, List, ℕ, Bor, Some, option_map}
use Rattle.brc_command.proofs.Calling.{found_at, looked_up, named_there, none_named}
use Rattle.brc_command.specs.Calls.{is_named}
use Rattle.brc_command.proofs.explaining.number_asked.Goals as goal

pub returns-in-Some-number_of-clause-known : goal.returns-in-Some-number_of-clause-known
returns-in-Some-number_of-clause-known c =
    let m = c.args.module.now in
    let name = c.in-Some.name.now in
    rw c.in-Some.is (named_there m name c.in-Some-number_of.number (sym (looked_up is_named m name _ _ _
    c.as_slice.ensures c.as_bytes.ensures.value c.number_of.ensures) ∙ c.in-Some-number_of.is))

pub returns-in-None-clause-unknown : goal.returns-in-None-clause-unknown
returns-in-None-clause-unknown c =
    let m = c.args.module.now in
    let name = c.in-Some.name.now in (
      ap (option_map (λ (word : Bor (List ℕ)). word.now)) c.in-Some.is,
      none_named m name (sym (looked_up is_named m name _ _ _ c.as_slice.ensures c.as_bytes.ensures.value
          c.number_of.ensures) ∙ c.in-None.is),
    )

pub returns-in-Some-number_of-clause-number : goal.returns-in-Some-number_of-clause-number
returns-in-Some-number_of-clause-number c =
    let m = c.args.module.now in
    let name = c.in-Some.name.now in
    rw c.in-Some.is (ap Some (sym (found_at (is_named name) m.functions c.in-Some-number_of.number
    (sym (looked_up is_named m name _ _ _ c.as_slice.ensures c.as_bytes.ensures.value c.number_of.ensures)
    ∙ c.in-Some-number_of.is)).1))
