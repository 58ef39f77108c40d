use Rattle.std.proofs.Common.{◌≡◌, ◌++◌, ◌∙◌, [], ◌∷◌, List, ℕ, map, codes, decimal, ap, sym, append_assoc, append-nil}
use Rattle.std.proofs.KnownBytes.{Appends-trans}
use Rattle.std.specs.List.{flat_map}
use Rattle.brc_lang.specs.Grammar.{spaced, static_line}
use Rattle.brc_lang.proofs.Written.{stops_early, stops_between, stops_late, ends_whole}
use Rattle.brc_lang.proofs.writing.write_static.Goals as goal

-- what is written of the numbers
abbrev written : List ℕ → List ℕ
written numbers = flat_map (λ n. 32 ∷ decimal n) numbers

-- behind any word, `static` or the number before, each number is behind a space
behind : (word : List ℕ) (ns : List ℕ) → spaced (word ∷ map decimal ns) ≡ word ++ written ns
behind word [] = sym (append-nil word)
behind word (n ∷ ns) = ap (λ l. word ++ 32 ∷ l) (behind (decimal n) ns)

-- the line, parted behind the numbers
after_numbers : (ns : List ℕ) → static_line ns ≡ (codes "static" ++ written ns) ++ codes "\n"
after_numbers ns = ap (λ l. l ++ codes "\n") (behind (codes "static") ns)

pub returns-in_err-write_bytes-clause-begun : goal.returns-in_err-write_bytes-clause-begun
returns-in_err-write_bytes-clause-begun g c =
    let numbers = c.args.numbers.now in
    stops_early _ _ _ _ (codes "static") (written numbers ++ codes "\n")
    (after_numbers numbers ∙ append_assoc (codes "static") (written numbers) (codes "\n"))
    c.in_err-write_bytes.ensures.begun

pub returns-in_err-write_numbers-clause-begun : goal.returns-in_err-write_numbers-clause-begun
returns-in_err-write_numbers-clause-begun g c =
    stops_between _ _ _ _ _ (codes "static") (written c.args.numbers.now) (codes "\n")
    (after_numbers c.args.numbers.now) c.in_ok-write_bytes.ensures.whole c.in_err-write_numbers.ensures.begun

pub returns-clause-whole : goal.returns-clause-whole
returns-clause-whole g c =
    let numbers = c.args.numbers.now in
    let front =
    Appends-trans _ _ _ (codes "static") (written numbers) c.in_ok-write_bytes.ensures.whole
    c.in_ok-write_numbers.ensures.whole in
    ends_whole _ _ _ _ _ (codes "static" ++ written numbers) (codes "\n") (after_numbers numbers) front
    c.write_bytes-2.ensures.whole

pub returns-clause-begun : goal.returns-clause-begun
returns-clause-begun g c =
    let numbers = c.args.numbers.now in
    let front =
    Appends-trans _ _ _ (codes "static") (written numbers) c.in_ok-write_bytes.ensures.whole
    c.in_ok-write_numbers.ensures.whole in
    stops_late _ _ _ _ _ (codes "static" ++ written numbers) (codes "\n") (after_numbers numbers) front
    c.write_bytes-2.ensures.begun
