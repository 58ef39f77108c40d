-- The born rows of a world, row by row, and the number of closed ones among them.
use Rattle.std.proofs.Common.{◌≡◌, ℕ, ◌+◌, ◌-◌, ◌<◌, ◌≤◌, Bool, true, false, cond, List, [], ◌∷◌, ◌++◌, length, map, inl, inr, refl, sym, ap, ◌∙◌, subst, arith}
use Rattle.std.specs.Prelude.{filter, not, count_by}
use Rattle.std.specs.List.{All, range_with_len}
use Rattle.std.proofs.lemmas.Bool.{cases_Bool}
use Rattle.std.proofs.lemmas.List.{map-id, append-nil, length-map}
use Rattle.std.proofs.lemmas.List.FromFn.{map-range_with_len_more, length-range_with_len, get_or-range_with_len}
use Rattle.std.proofs.lemmas.List.Elements.{filter-append, All-filter}
use Rattle.brc_model.specs.World.{World}
use Rattle.brc_report.specs.declared.tally.Tally.{Tally}
use Rattle.brc_report.specs.declared.tally.Left.{Left}
use Rattle.brc_machine.specs.MachineTallies.{still_runs}
use Rattle.brc_world.specs.Tallies.{is_born, is_closed_row, born_below, rows_born, rows_closed, rows_left, left_in, tally_of}
use Rattle.brc_model.specs.Layout.{row_count}

more_rows : (a n : ℕ) → range_with_len a (n + 1) ≡ range_with_len a n ++ (a + n) ∷ []
more_rows a n =
    let each : ℕ → ℕ = λ x. x in
    sym (map-id (range_with_len a (n + 1))) ∙ map-range_with_len_more each a n (a + n) refl
    ∙ ap (λ (l : List ℕ). l ++ (a + n) ∷ []) (map-id (range_with_len a n))

born_more : (w : World) (row : ℕ) → 1 ≤ row
    → born_below w (row + 1 - 1) ≡ born_below w (row - 1) ++ filter (is_born w) (row ∷ [])
born_more w row low =
    let next : row + 1 - 1 ≡ (row - 1) + 1 = omega (arith, low) in
    let here : 1 + (row - 1) ≡ row = omega (arith, low) in
    ap (born_below w) next ∙ ap (filter (is_born w)) (more_rows 1 (row - 1))
    ∙ filter-append (is_born w) (range_with_len 1 (row - 1)) ((1 + (row - 1)) ∷ [])
    ∙ ap (λ (n : ℕ). born_below w (row - 1) ++ filter (is_born w) (n ∷ [])) here

-- A born row is added to the born rows below it.
pub born_here : (w : World) (row : ℕ) → 1 ≤ row → is_born w row ≡ true
    → born_below w (row + 1 - 1) ≡ born_below w (row - 1) ++ row ∷ []
born_here w row low born = born_more w row low ∙ ap (λ (b : Bool). born_below w (row - 1) ++ cond b (row ∷ []) []) born

-- An unborn row adds nothing to the born rows below it.
pub unborn_here : (w : World) (row : ℕ) → 1 ≤ row → is_born w row ≡ false
    → born_below w (row + 1 - 1) ≡ born_below w (row - 1)
unborn_here w row low unborn =
    born_more w row low ∙ ap (λ (b : Bool). born_below w (row - 1) ++ cond b (row ∷ []) []) unborn
    ∙ append-nil (born_below w (row - 1))

-- The elements that pass a test and those that don't are together as many as all elements.
pub parts : (p : ℕ → Bool) (xs : List ℕ) → length (filter p xs) + length (filter (λ x. not (p x)) xs) ≡ length xs
parts p [] = refl
parts p (x ∷ xs) = elim (cases_Bool (p x)) [
  | inl e ↦ rw e (omega (arith, parts p xs))
  | inr e ↦ rw e (omega (arith, parts p xs))
]

-- The elements that pass a test are as many as all elements less those that don't.
pub passed : (p : ℕ → Bool) (xs : List ℕ) → length xs - length (filter (λ x. not (p x)) xs) ≡ length (filter p xs)
passed p xs = omega (arith, parts p xs)

-- ---- rows of the world

rows_there : (a n : ℕ) → All (λ row. row < a + n) (range_with_len a n)
rows_there a n k d lt =
    let within : k < n = subst (λ (m : ℕ). k < m) (length-range_with_len a n) lt in
    rw (get_or-range_with_len a n k d within) (omega (arith, within))

-- Each born row is a row of the world.
pub born_there : (w : World) → 1 ≤ row_count w.layout → All (λ row. row < row_count w.layout) (rows_born w)
born_there w some =
    let all : 1 + (row_count w.layout - 1) ≡ row_count w.layout = omega (arith, some) in
    All-filter (is_born w) (λ row. row < row_count w.layout) (range_with_len 1 (row_count w.layout - 1))
    (subst (λ (m : ℕ). All (λ row. row < m) (range_with_len 1 (row_count w.layout - 1))) all
    (rows_there 1 (row_count w.layout - 1)))

-- ---- the tally

-- The tally that the code puts together is the tally of the world.
pub tally_as : (w : World) (all running created closed alive calls closes : ℕ) (left : List Left) (born : List ℕ)
    → all ≡ length w.actors → running ≡ count_by still_runs w.actors → born ≡ rows_born w → created ≡ length born
    → left ≡ map (left_in w) (filter (λ row. not (is_closed_row w row)) born) → closed ≡ created - length left
    → alive ≡ length left → calls ≡ w.host_faults → closes ≡ w.close_faults
    → ◌≡◌ {A = Tally} (record {
      threads = all - 1;
      running = running;
      created = created;
      closed = closed;
      alive = alive;
      host_faults = calls;
      close_faults = closes;
      left = left;
    }) (tally_of w)
tally_as w all running created closed alive calls closes left born all_is running_is born_is created_is left_is
    closed_is alive_is calls_is closes_is =
    let left_now : left ≡ map (left_in w) (rows_left w) = rw born_is at left_is in
    let alive_now : alive ≡ length (rows_left w) =
    alive_is ∙ ap (λ (l : List Left). length l) left_now ∙ length-map (rows_left w) (left_in w) in
    let created_now : created ≡ length (rows_born w) = rw born_is at created_is in
    let left_many : length left ≡ length (rows_left w) = sym alive_is ∙ alive_now in
    let closed_now : closed ≡ length (rows_closed w) =
    closed_is ∙ (rw (created_now, left_many) (passed (is_closed_row w) (rows_born w))) in
    rw (all_is, running_is, created_now, closed_now, alive_now, left_now, calls_is, closes_is) refl
