use Rattle.std.proofs.Common.{List, ℕ, ◌∷◌, suc, take, drop, get_or, decimal, refl}
use Rattle.std.specs.List.{flat_map}
use Rattle.brc_lang.proofs.Written.{stops_between, flat_map_around}
use Rattle.brc_lang.proofs.writing.write_numbers.Goals as goal

abbrev written : ℕ → List ℕ
written n = 32 ∷ decimal n

pub returns-in_err-write_numeral-clause-begun : goal.returns-in_err-write_numeral-clause-begun
returns-in_err-write_numeral-clause-begun g c =
    let numbers = c.args.numbers.now in
    let i = c.loop-number.number-index in
    let number = get_or numbers i 0 in
    stops_between _ _ _ _ _ (flat_map written (take i numbers)) (written number)
    (flat_map written (drop (suc i) numbers))
    (flat_map_around written numbers i 0 number c.loop-number-test.true refl)
    c.loop-number.invariant (rw c.from.ensures at c.in_err-write_numeral.ensures.begun)
