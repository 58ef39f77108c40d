use Rattle.std.proofs.Common.{ℕ, rules, tests, ◌∙◌}
use Rattle.std.proofs.lemmas.Iterator.{YieldsList-from_slice}
use Rattle.std.proofs.lemmas.Iterator.Search.{find_from_yields_List}
use Rattle.brc_plain.specs.Lost.{is_lost}
use Rattle.brc_plain.specs.Plains.{machine_in}
use Rattle.brc_plain.proofs.plain.Plain.lost.Goals as goal

pub returns-clause-first : goal.returns-clause-first
returns-clause-first c =
    let plain = c.args.self.now in
    let p = (machine_in plain).abstract in
    c.copied.ensures
    ∙ find_from_yields_List (λ (row : ℕ). is_lost p row) _ _ c.find-found.result c.find-found.ensures.ran
    (YieldsList-from_slice p.born (cc)) (λ x b q k. search (rules, tests))
