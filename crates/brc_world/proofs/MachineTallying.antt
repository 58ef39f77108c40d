-- The tally of a machine's world, which is read from words, is the tally of the machine's abstract state.
use Rattle.std.proofs.Common.{◌≡◌, ◌≢◌, ℕ, zero, suc, ◌+◌, ◌-◌, ◌<◌, ◌≤◌, Bool, true, false, cond, List, [], ◌∷◌}
use Rattle.std.proofs.Common.{length, map, inl, inr, refl, sym, ap, ◌∙◌, subst, arith}
use Rattle.std.specs.Prelude.{◌==◌, ◌&&◌, ◌||◌, not, nat_lt, slice_get, filter, count_by}
use Rattle.std.specs.List.{range_with_len}
use Rattle.std.proofs.lemmas.Bool.{cases_Bool, cases_lt, eq-eqb, eqb-true, lt-ltb, ltb-true}
use Rattle.std.proofs.lemmas.Bool.Decides.{eqb_tells}
use Rattle.std.proofs.lemmas.Option.{slice_get_cases}
use Rattle.std.proofs.lemmas.List.{map-id}
use Rattle.std.proofs.lemmas.List.Sums.{sum_by-cons, length-filter}
use Rattle.brc_lang.specs.declared.kind.Kind.{Kind}
use Rattle.brc_lang.specs.declared.kind.Kind.TheVariants as kinds
use Rattle.brc_lang.specs.declared.module.Module.{Module}
use Rattle.brc_word.specs.Words.{closed_word, kind_part}
use Rattle.brc_model.specs.declared.address.Address.TheVariants.{Gate, KindOf}
use Rattle.brc_model.specs.Kinds.{kind_number, kind_numbered}
use Rattle.brc_model.specs.AbstractState.{is_among}
use Rattle.brc_model.specs.Progress.{Always, BornOnce, BornListed, BornAreThere, BornAreUsed, UsedAreBorn}
use Rattle.brc_model.specs.Progress.{ClosedWereBorn, ClosedOnce, GatesTell}
use Rattle.brc_model.specs.Machine.{Unborn}
use Rattle.brc_model.specs.World.{world_of, IsReachable}
use Rattle.brc_model.specs.StepMachine.{StepMachine}
use Rattle.brc_world.specs.Tallies.{used_of, is_born, is_closed_row, rows_born, rows_closed, rows_left}
use Rattle.brc_world.specs.Tallies.{left_in, tally_of}
use Rattle.brc_machine.specs.MachineTallies.{is_left, objects_left, left_object, machine_tally}
use Rattle.brc_world.specs.MachineTallies.{IsMachineOf}
use Rattle.brc_world.proofs.Tallying.{parts}
use Rattle.brc_effect.proofs.Indices.{block_there, counted_above}
use Rattle.brc_model.specs.Layout.{row_count, block_of, index_of, is_immortal_row}

-- ---- tests

-- Two tests that imply each other are equal.
same_test : (b c : Bool) → (b ≡ true → c ≡ true) → (c ≡ true → b ≡ true) → b ≡ c
same_test true true f g = refl
same_test true false f g = sym (f refl)
same_test false true f g = g refl
same_test false false f g = refl

second_of : (b c : Bool) → (b && c) ≡ true → c ≡ true
second_of true c e = e
second_of false c e = absurd cc

not_so : (b : Bool) → not b ≡ true → b ≡ false
not_so true e = absurd cc
not_so false e = refl

first_of : (b c : Bool) → (b && c) ≡ true → b ≡ true
first_of true c e = refl
first_of false c e = absurd cc

both_of : (b c : Bool) → b ≡ true → c ≡ true → (b && c) ≡ true
both_of true c e f = f
both_of false c e f = absurd cc

-- ---- picking rows

-- If p and q together pick the rows that r picks, and f and g agree on these, then both lists of values are the same.
picked : {X : Type 0} (f g : ℕ → X) (p q r : ℕ → Bool) (a n : ℕ)
    → ((x : ℕ) → a ≤ x → x < a + n → (p x && q x) ≡ r x) → ((x : ℕ) → r x ≡ true → f x ≡ g x)
    → map f (filter q (filter p (range_with_len a n))) ≡ map g (filter r (range_with_len a n))
picked f g p q r a zero same says = refl
picked f g p q r a (suc n) same says =
    let behind = picked f g p q r (a + 1) n (λ x low high. same x (omega (arith, low)) (omega (arith, high))) says in
    let here : (p a && q a) ≡ r a = same a (omega arith) (omega arith) in
    elim (cases_Bool (p a)) [
      | inl passes ↦ elim (cases_Bool (q a)) [
        | inl both ↦
            let third : r a ≡ true = sym here ∙ both_of (p a) (q a) passes both in
            rw (passes, both, third, says a third, behind) refl
        | inr one ↦
            let third : r a ≡ false = sym here ∙ (rw (passes, one) refl) in
            rw (passes, one, third, behind) refl
      ]
      | inr fails ↦
          let third : r a ≡ false = sym here ∙ (rw fails refl) in
          rw (fails, third, behind) refl
    ]

-- Two tests that agree on the rows pick the same rows.
picked_once : (p r : ℕ → Bool) (a n : ℕ) → ((x : ℕ) → a ≤ x → x < a + n → p x ≡ r x)
    → filter p (range_with_len a n) ≡ filter r (range_with_len a n)
picked_once p r a zero same = refl
picked_once p r a (suc n) same =
    let behind = picked_once p r (a + 1) n (λ x low high. same x (omega (arith, low)) (omega (arith, high))) in
    rw (same a (omega arith) (omega arith), behind) refl

-- ---- lists without repetitions

abbrev times : List ℕ → ℕ → ℕ
times xs row = count_by (λ y. y == row) xs

abbrev one_if : Bool → ℕ
one_if b = cond b 1 0

times-cons : (y : ℕ) (ys : List ℕ) (row : ℕ) → times (y ∷ ys) row ≡ one_if (y == row) + times ys row
times-cons y ys row = sum_by-cons (λ (z : ℕ). cond (z == row) 1 0) y ys

-- the sum over the n rows from a on: how often each is in the list
abbrev times_in : List ℕ → ℕ → ℕ → ℕ
times_in xs a zero = 0
times_in xs a (suc n) = times xs a + times_in xs (a + 1) n

abbrev ones_in : ℕ → ℕ → ℕ → ℕ
ones_in y a zero = 0
ones_in y a (suc n) = one_if (y == a) + ones_in y (a + 1) n

none_below : (y a n : ℕ) → y < a → ones_in y a n ≡ 0
none_below y a zero low = refl
none_below y a (suc n) low =
    elim (eqb_tells y a) [
      | inl same ↦ absurd (omega (arith, low, same.1))
      | inr other ↦
          let none : one_if (y == a) ≡ 0 = ap one_if other.0 in
          omega (arith, none, none_below y (a + 1) n (omega (arith, low)))
    ]

one_within : (y a n : ℕ) → a ≤ y → y < a + n → ones_in y a n ≡ 1
one_within y a zero low high = absurd (omega (arith, low, high))
one_within y a (suc n) low high =
    elim (eqb_tells y a) [
      | inl same ↦
          let one : one_if (y == a) ≡ 1 = ap one_if same.0 in
          omega (arith, one, none_below y (a + 1) n (omega (arith, same.1)))
      | inr other ↦
          let none : one_if (y == a) ≡ 0 = ap one_if other.0 in
          let above : a < y = elim (cases_lt a y) [
            | inl less ↦ less
            | inr not_less ↦ absurd (other.1 (omega (arith, low, not_less)))
          ] in
          omega (arith, none, one_within y (a + 1) n (omega (arith, above)) (omega (arith, high)))
    ]

times_none : (a n : ℕ) → times_in [] a n ≡ 0
times_none a zero = refl
times_none a (suc n) = omega (arith, times_none (a + 1) n)

times_more : (y : ℕ) (ys : List ℕ) (a n : ℕ) → times_in (y ∷ ys) a n ≡ ones_in y a n + times_in ys a n
times_more y ys a zero = refl
times_more y ys a (suc n) = omega (arith, times-cons y ys a, times_more y ys (a + 1) n)

head_among : (y : ℕ) (ys : List ℕ) → is_among y (y ∷ ys) ≡ true
head_among y ys = ap (λ (b : Bool). b || is_among y ys) (eq-eqb y y refl)

tail_among : (x y : ℕ) (ys : List ℕ) → is_among x ys ≡ true → is_among x (y ∷ ys) ≡ true
tail_among x y ys e = elim (y == x) as (λ b. (b || is_among x ys) ≡ true) [ true ↦ refl | false ↦ e ]

-- each element of the list is one of the n rows from a on
abbrev AreRows : List ℕ → ℕ → ℕ → Type 0
AreRows xs a n = (x : ℕ) → is_among x xs ≡ true → (a ≤ x) × (x < a + n)

all_counted : (xs : List ℕ) (a n : ℕ) → AreRows xs a n → times_in xs a n ≡ length xs
all_counted [] a n within = times_none a n
all_counted (y ∷ ys) a n within =
    let here = within y (head_among y ys) in
    let behind = all_counted ys a n (λ x is. within x (tail_among x y ys is)) in
    omega (arith, times_more y ys a n, one_within y a n here.0 here.1, behind)

-- A row that is in the list once at most is counted once if it is among the list's elements, and else not.
among_times : (x : ℕ) (xs : List ℕ) → times xs x ≤ 1 → one_if (is_among x xs) ≡ times xs x
among_times x [] once = refl
among_times x (y ∷ ys) once =
    elim (y == x) as (λ b. (y == x) ≡ b → one_if (b || is_among x ys) ≡ times (y ∷ ys) x) [
      | true ↦ λ e.
          let one : one_if (y == x) ≡ 1 = ap one_if e in
          omega (arith, times-cons y ys x, one, once)
      | false ↦ λ e.
          let none : one_if (y == x) ≡ 0 = ap one_if e in
          omega (arith, times-cons y ys x, none, among_times x ys (omega (arith, times-cons y ys x, none, once)))
    ] refl

count-cons : (p : ℕ → Bool) (x : ℕ) (xs : List ℕ) → count_by p (x ∷ xs) ≡ one_if (p x) + count_by p xs
count-cons p x xs = sum_by-cons (λ (z : ℕ). cond (p z) 1 0) x xs

counted_in : (xs : List ℕ) (a n : ℕ) → ((x : ℕ) → times xs x ≤ 1)
    → count_by (λ x. is_among x xs) (range_with_len a n) ≡ times_in xs a n
counted_in xs a zero once = refl
counted_in xs a (suc n) once =
    let first = count-cons (λ x. is_among x xs) a (range_with_len (a + 1) n) in
    omega (arith, first, among_times a xs (once a), counted_in xs (a + 1) n once)

-- A list without repetitions is as long as the list of the rows that are among its elements.
as_long : (xs : List ℕ) (a n : ℕ) → ((x : ℕ) → times xs x ≤ 1) → AreRows xs a n
    → length (filter (λ x. is_among x xs) (range_with_len a n)) ≡ length xs
as_long xs a n once within =
    length-filter (λ x. is_among x xs) (range_with_len a n) ∙ counted_in xs a n once ∙ all_counted xs a n within

-- ---- the laws of a machine

-- what the model's laws say of a reachable machine
pub record Facts (m : StepMachine) : Type 0 where
  pub some_rows : 0 < m.layout.rows
  pub workers : length m.actors ≡ 1 + m.layout.workers
  pub used : BornAreUsed m
  pub born : UsedAreBorn m
  pub listed : BornListed m
  pub there : BornAreThere m
  pub born_once : BornOnce m
  pub were_born : ClosedWereBorn m
  pub closed_once : ClosedOnce m
  pub gates : GatesTell m
  pub kinds : (x : ℕ) → m.life x ≢ Unborn → kind_part (m.memory (KindOf x)) ≡ kind_number (m.abstract.kinds x)

-- A law of each machine of a module holds of a reachable one.
pub at_machine : (P : StepMachine → Type 0) (p : Module) (m : StepMachine) → IsMachineOf p m → Always P p → P m
at_machine P p m of always =
    subst P (sym of.reached)
    (always of.states of.rows of.calls of.events of.states_true of.some_rows of.most_rows of.calls_fit)

-- The world of a reachable machine is reachable.
pub is_reachable : (p : Module) (m : StepMachine) → IsMachineOf p m → IsReachable p (world_of m)
is_reachable p m of = record {
  fits = of.fits;
  accepted = of.accepted;
  states = of.states;
  rows = of.rows;
  calls = of.calls;
  events = of.events;
  states_true = of.states_true;
  some_rows = of.some_rows;
  most_rows = of.most_rows;
  calls_fit = of.calls_fit;
  reached = ap world_of of.reached;
}

-- the number of rows without none's
abbrev others : StepMachine → ℕ
others m = row_count m.layout - 1

-- ---- born rows

born_is_listed : (m : StepMachine) (x : ℕ) → Facts m → is_born (world_of m) x ≡ true → is_among x m.abstract.born ≡ true
born_is_listed m x facts e =
    let t = block_of m.layout x in
    let used = nat_lt (index_of m.layout t x) (used_of (slice_get m.actors t)) in
    let counted = not_so (is_immortal_row m.layout x) (first_of (not (is_immortal_row m.layout x)) used e) in
    elim (slice_get_cases m.actors t).1 [
      | inl found ↦
          let count : used_of (slice_get m.actors t) ≡ found.0.actor.used = ap used_of found.2 in
          let high = ltb-true _ _ (second_of (not (is_immortal_row m.layout x)) used e) in
          (facts.listed x).1 (counted, facts.born x found.0 found.2 (omega (arith, high, count)))
      | inr past ↦
          let block = block_there m.layout x facts.some_rows in
          absurd (omega (arith, past.0, block, facts.workers))
    ]

listed_is_born : (m : StepMachine) (x : ℕ) → Facts m → is_among x m.abstract.born ≡ true → is_born (world_of m) x ≡ true
listed_is_born m x facts listed =
    let was = (facts.listed x).0 listed in
    let used = facts.used x was.1 in
    let count : used_of (slice_get m.actors (block_of m.layout x)) ≡ used.0.actor.used = ap used_of used.1 in
    both_of (not (is_immortal_row m.layout x)) _ (ap not was.0) (lt-ltb _ _ (omega (arith, used.2, count)))

-- The rows that a world counts as born are those that the abstract state lists as born.
born_same : (m : StepMachine) → Facts m → (x : ℕ) → 1 ≤ x → x < 1 + others m
    → is_born (world_of m) x ≡ is_among x m.abstract.born
born_same m facts x above within =
    same_test (is_born (world_of m) x) (is_among x m.abstract.born) (born_is_listed m x facts)
    (listed_is_born m x facts)

born_within : (m : StepMachine) → Facts m → AreRows m.abstract.born 1 (others m)
born_within m facts = λ x listed.
    let was = (facts.listed x).0 listed in
    let there = facts.there x was.1 in
    (omega (arith, counted_above m.layout x was.0), omega (arith, there))

-- The world counts as many born rows as the abstract state lists.
created : (m : StepMachine) → Facts m → length (rows_born (world_of m)) ≡ length m.abstract.born
created m facts =
    let born = picked_once (is_born (world_of m)) (λ x. is_among x m.abstract.born) 1 (others m) (born_same m facts) in
    ap (λ (l : List ℕ). length l) born
    ∙ as_long m.abstract.born 1 (others m) facts.born_once (born_within m facts)

-- ---- closed rows

-- A row's gate says that it is closed exactly if the abstract state lists the row as closed.
closed_test : (m : StepMachine) → Facts m → (x : ℕ) → is_closed_row (world_of m) x ≡ is_among x m.abstract.closed
closed_test m facts x =
    same_test (is_closed_row (world_of m) x) (is_among x m.abstract.closed)
    (λ e. (facts.gates x).0 (eqb-true (m.memory (Gate x)) closed_word e))
    (λ e. eq-eqb (m.memory (Gate x)) closed_word ((facts.gates x).1 e))

closed_same : (m : StepMachine) → Facts m → (x : ℕ) → 1 ≤ x → x < 1 + others m
    → (is_born (world_of m) x && is_closed_row (world_of m) x) ≡ is_among x m.abstract.closed
closed_same m facts x above within =
    same_test (is_born (world_of m) x && is_closed_row (world_of m) x) (is_among x m.abstract.closed)
    (λ e. sym (closed_test m facts x) ∙ second_of (is_born (world_of m) x) (is_closed_row (world_of m) x) e)
    (λ e. both_of (is_born (world_of m) x) (is_closed_row (world_of m) x)
    (listed_is_born m x facts (facts.were_born x e)) (closed_test m facts x ∙ e))

-- The world counts as many closed rows as the abstract state lists.
closed : (m : StepMachine) → Facts m → length (rows_closed (world_of m)) ≡ length m.abstract.closed
closed m facts =
    let each : ℕ → ℕ = λ x. x in
    let is_it : ℕ → Bool = λ x. is_among x m.abstract.closed in
    let rows = picked each each (is_born (world_of m)) (is_closed_row (world_of m)) is_it 1 (others m)
    (closed_same m facts) (λ x e. refl) in
    let same = sym (map-id (rows_closed (world_of m))) ∙ rows ∙ map-id (filter is_it (range_with_len 1 (others m))) in
    ap (λ (l : List ℕ). length l) same
    ∙ as_long m.abstract.closed 1 (others m) facts.closed_once (λ x e. born_within m facts x (facts.were_born x e))

-- The world counts as many rows that are left as the abstract state has.
alive : (m : StepMachine) → Facts m
    → length (rows_left (world_of m)) ≡ length m.abstract.born - length m.abstract.closed
alive m facts =
    omega (arith, parts (is_closed_row (world_of m)) (rows_born (world_of m)), created m facts, closed m facts)

-- ---- rows that are left

-- The kind of a kind's number is that kind.
kind_back : (k : Kind) → kind_numbered (kind_number k) ≡ k
kind_back kinds.Any = refl
kind_back kinds.None = refl
kind_back kinds.Num = refl
kind_back kinds.List = refl
kind_back kinds.File = refl
kind_back kinds.Sock = refl

left_same : (m : StepMachine) → Facts m → (x : ℕ) → 1 ≤ x → x < 1 + others m
    → (is_born (world_of m) x && not (is_closed_row (world_of m) x)) ≡ is_left m.abstract x
left_same m facts x above within = rw (born_same m facts x above within, closed_test m facts x) refl

left_kind : (m : StepMachine) → Facts m → (x : ℕ) → is_left m.abstract x ≡ true
    → left_in (world_of m) x ≡ left_object m.abstract x
left_kind m facts x left =
    let listed = first_of (is_among x m.abstract.born) (not (is_among x m.abstract.closed)) left in
    let was = (facts.listed x).0 listed in
    let kind : kind_numbered (kind_part (m.memory (KindOf x))) ≡ m.abstract.kinds x =
    ap kind_numbered (facts.kinds x was.1) ∙ kind_back (m.abstract.kinds x) in
    λ i. record { row = x; kind = kind i }

-- The world lists the rows that are left, and their kinds, as the abstract state does.
left : (m : StepMachine) → Facts m
    → map (left_in (world_of m)) (rows_left (world_of m)) ≡ map (left_object m.abstract) (objects_left m)
left m facts =
    picked (left_in (world_of m)) (left_object m.abstract) (is_born (world_of m))
    (λ x. not (is_closed_row (world_of m) x))
    (is_left m.abstract) 1 (others m) (left_same m facts) (left_kind m facts)

-- ---- the tally

-- The tally of a reachable machine's world is the tally of the machine.
pub tally_same : (m : StepMachine) → Facts m → tally_of (world_of m) ≡ machine_tally m
tally_same m facts = λ i. record {
  threads = length m.actors - 1;
  running = (machine_tally m).running;
  created = created m facts i;
  closed = closed m facts i;
  alive = alive m facts i;
  host_faults = m.host_faults;
  close_faults = m.close_faults;
  left = left m facts i;
}
