-- Whether each target leads the way that its instruction leads, found instruction by instruction.
use Rattle.std.proofs.Common.{◌≡◌, ℕ, zero, suc, ◌+◌, ◌<◌, ◌≤◌, true, ltb, ◌&&◌, List, [], ◌∷◌, length, Option}
use Rattle.std.proofs.Common.{Some, None, refl, ap, ◌∙◌, arith}
use Rattle.std.specs.Prelude.{slice_get}
use Rattle.std.proofs.lemmas.Bool.{and_parts, and_from, ltb-true, lt-ltb, leb-true, le-leb}
use Rattle.brc_lang.specs.declared.module.Instr.{Instr}
use Rattle.brc_lang.specs.Grammar.{jump, turn, LeadsForward, LeadsBack, TargetsFit}
use Rattle.brc_lang.specs.Fault.{jump_fits, turn_fits, targets_fit_from, targets_fit}

-- ---- one target

jump_means : (at count target : ℕ) → jump_fits at count (Some target) ≡ true → (at < target) × (target < count)
jump_means at count target e =
    let h = and_parts (ltb at target) (ltb target count) e in
    (ltb-true at target h.0, ltb-true target count h.1)

jump_from : (at count : ℕ) (o : Option ℕ) → ((target : ℕ) → o ≡ Some target → (at < target) × (target < count))
    → jump_fits at count o ≡ true
jump_from at count None h = refl
jump_from at count (Some target) h =
    let q = h target refl in
    and_from (ltb at target) (ltb target count) (lt-ltb at target q.0) (lt-ltb target count q.1)

turn_from : (at : ℕ) (o : Option ℕ) → ((target : ℕ) → o ≡ Some target → target ≤ at) → turn_fits at o ≡ true
turn_from at None h = refl
turn_from at (Some target) h = le-leb target at (h target refl)

-- the tests of the first instruction, and those of the others
first_parts : (at count : ℕ) (i : Instr) (code : List Instr) → targets_fit_from at count (i ∷ code) ≡ true
    → (jump_fits at count (jump i) ≡ true) × (turn_fits at (turn i) ≡ true)
    × (targets_fit_from (at + 1) count code ≡ true)
first_parts at count i code e =
    let h = and_parts (jump_fits at count (jump i) && turn_fits at (turn i)) (targets_fit_from (at + 1) count code) e in
    let first = and_parts (jump_fits at count (jump i)) (turn_fits at (turn i)) h.0 in
    (first.0, first.1, h.1)

-- ---- those from one number on

forward_from : (at count : ℕ) (code : List Instr) → targets_fit_from at count code ≡ true
    → (k : ℕ) (i : Instr) (target : ℕ) → slice_get code k ≡ Some i → jump i ≡ Some target
    → (at + k < target) × (target < count)
forward_from at count [] e k i target here leads = absurd cc
forward_from at count (j ∷ code) e zero i target here leads =
    let h = first_parts at count j code e in
    let same : j ≡ i = cc in
    let q = jump_means at count target (rw (ap jump same ∙ leads) at h.0) in
    (omega (arith, q.0), q.1)
forward_from at count (j ∷ code) e (suc k) i target here leads =
    let h = first_parts at count j code e in
    let q = forward_from (at + 1) count code h.2 k i target here leads in
    (omega (arith, q.0), q.1)

back_from : (at count : ℕ) (code : List Instr) → targets_fit_from at count code ≡ true
    → (k : ℕ) (i : Instr) (target : ℕ) → slice_get code k ≡ Some i → turn i ≡ Some target → target ≤ at + k
back_from at count [] e k i target here leads = absurd cc
back_from at count (j ∷ code) e zero i target here leads =
    let h = first_parts at count j code e in
    let same : j ≡ i = cc in
    let q = leb-true target at (rw (ap turn same ∙ leads) at h.1) in
    omega (arith, q)
back_from at count (j ∷ code) e (suc k) i target here leads =
    let h = first_parts at count j code e in
    let q = back_from (at + 1) count code h.2 k i target here leads in
    omega (arith, q)

fit_from : (at count : ℕ) (code : List Instr)
    → ((k : ℕ) (i : Instr) (target : ℕ) → slice_get code k ≡ Some i → jump i ≡ Some target → (at + k < target)
    × (target < count))
    → ((k : ℕ) (i : Instr) (target : ℕ) → slice_get code k ≡ Some i → turn i ≡ Some target → target ≤ at + k)
    → targets_fit_from at count code ≡ true
fit_from at count [] forward back = refl
fit_from at count (j ∷ code) forward back =
    and_from (jump_fits at count (jump j) && turn_fits at (turn j)) (targets_fit_from (at + 1) count code)
    (and_from (jump_fits at count (jump j)) (turn_fits at (turn j))
    (jump_from at count (jump j) (λ target leads. let q = forward 0 j target refl leads in (omega (arith, q.0), q.1)))
    (turn_from at (turn j) (λ target leads. let q = back 0 j target refl leads in omega (arith, q))))
    (fit_from (at + 1) count code
    (λ k i target here leads. let q = forward (suc k) i target here leads in (omega (arith, q.0), q.1))
    (λ k i target here leads. let q = back (suc k) i target here leads in omega (arith, q)))

-- ---- all of them

leads_forward : (code : List Instr) → targets_fit code ≡ true → LeadsForward code
leads_forward code e at i target here leads =
    let q = forward_from 0 (length code) code e at i target here leads in
    (omega (arith, q.0), q.1)

leads_back : (code : List Instr) → targets_fit code ≡ true → LeadsBack code
leads_back code e at i target here leads =
    let q = back_from 0 (length code) code e at i target here leads in
    omega (arith, q)

pub fit_means : (code : List Instr) → targets_fit code ≡ true → TargetsFit code
fit_means code e = record { forward = leads_forward code e; back = leads_back code e }

pub means_fit : (code : List Instr) → TargetsFit code → targets_fit code ≡ true
means_fit code h =
    fit_from 0 (length code) code
    (λ k i target here leads. let q = h.forward k i target here leads in (omega (arith, q.0), q.1))
    (λ k i target here leads. let q = h.back k i target here leads in omega (arith, q))
