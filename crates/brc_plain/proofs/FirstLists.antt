-- What is left of the lists that the first machine is made of, element by element.
use Rattle.std.proofs.Common.{◌≡◌, ℕ, zero, suc, ◌+◌, ◌-◌, ◌<◌, ◌≤◌, List, [], ◌∷◌, ◌++◌, length, get_or, drop, map, sym, ap, ◌∙◌, arith}
use Rattle.std.proofs.lemmas.List.{append-nil, append_assoc, drop_all, drop_more, map_push}
use Rattle.brc_model.specs.AbstractState as model
use Rattle.brc_model.specs.FirstRows.{line_references, list_references, rows_from}
use Rattle.brc_model.specs.References.{cell_reference}
use Rattle.brc_model.specs.StepMachine.{caller_reference, callers_below}
use Rattle.brc_plain.specs.declared.bag.Reference.{Reference}
use Rattle.brc_plain.specs.Bags.{reference_in}

-- The rows left begin with the next one.
pub next_row : (first n k : ℕ) → k < n
    → rows_from (first + k) (n - k) ≡ (first + k) ∷ rows_from (first + (k + 1)) (n - (k + 1))
next_row first n k low =
    let more : n - k ≡ suc (n - (k + 1)) = omega (arith, low) in
    let next : suc (first + k) ≡ first + (k + 1) = omega arith in
    ap (rows_from (first + k)) more
    ∙ ap (λ (x : ℕ). (first + k) ∷ rows_from x (n - (k + 1))) next

-- Past the last row no rows are left.
pub no_row : (first n k : ℕ) (before : List ℕ) → n ≤ k → before ++ rows_from first (n - k) ≡ before
no_row first n k before past =
    let none : n - k ≡ 0 = omega (arith, past) in
    ap (λ (m : ℕ). before ++ rows_from first m) none ∙ append-nil before

-- The references of a line's first cells begin with that of the last of these cells.
pub last_cell : (list first left : ℕ) → 0 < left
    → line_references list first left
    ≡ cell_reference list (left - 1) (first + (left - 1)) ∷ line_references list first (left - 1)
last_cell list first zero some = absurd (omega (arith, some))
last_cell list first (suc left) some =
    let same : left ≡ suc left - 1 = omega arith in
    ap (λ (i : ℕ). cell_reference list i (first + i) ∷ line_references list first i) same

pub last_caller : (left : ℕ) → 0 < left
    → callers_below left ≡ caller_reference (left - 1) ∷ callers_below (left - 1)
last_caller zero some = absurd (omega (arith, some))
last_caller (suc left) some =
    let same : left ≡ suc left - 1 = omega arith in
    ap (λ (t : ℕ). caller_reference t ∷ callers_below t) same

-- The references of the lines left begin with those of the next line.
pub next_line : (list first : ℕ) (lines : List (List ℕ)) (s : ℕ) (line : List ℕ) → s < length lines
    → line ≡ get_or lines s line
    → list_references list first (drop s lines)
    ≡ line_references list first (length line)
    ++ list_references (list + 1) (first + length line) (drop (s + 1) lines)
next_line list first lines s line low is =
    let next : suc list ≡ list + 1 = omega arith in
    let left : drop s lines ≡ line ∷ drop (s + 1) lines =
    drop_more lines s line low ∙ ap (λ (l : List ℕ). l ∷ drop (s + 1) lines) (sym is) in
    ap (list_references list first) left
    ∙ ap (λ (x : ℕ). line_references list first (length line)
    ++ list_references x (first + length line) (drop (s + 1) lines)) next

-- Past the last line no references are left.
pub no_line : (list first : ℕ) (lines : List (List ℕ)) (s : ℕ) (before : List model.Reference) → length lines ≤ s
    → before ++ list_references list first (drop s lines) ≡ before
no_line list first lines s before past =
    ap (λ (left : List (List ℕ)). before ++ list_references list first left) (drop_all s lines past)
    ∙ append-nil before

-- One reference more, and those left without it.
pub reference_more : (references : List Reference) (r : Reference) (first : model.Reference)
    (left more : List model.Reference) → more ≡ first ∷ left → reference_in r ≡ first
    → map reference_in (references ++ r ∷ []) ++ left ≡ map reference_in references ++ more
reference_more references r first left more is same =
    ap (λ (those : List model.Reference). those ++ left) (map_push reference_in references r)
    ∙ append_assoc (map reference_in references) (reference_in r ∷ []) left
    ∙ ap (λ (q : model.Reference). map reference_in references ++ q ∷ left) same
    ∙ ap (λ (those : List model.Reference). map reference_in references ++ those) (sym is)
