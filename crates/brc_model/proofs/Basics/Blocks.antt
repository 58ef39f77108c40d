-- The rows of each thread's block: where they are, which of them the thread has used, which are born, and which is born
-- next. No other file depends on how the rows of a block are numbered.
use Rattle.std.proofs.Common.{◌≡◌, ◌≢◌, ◌⊎◌, ℕ, zero, suc, ◌+◌, ◌-◌, ◌*◌, ◌<◌, ◌≤◌, Bool, true, false, cond, Some, get_or, refl, sym, ap, ◌∙◌, subst, arith, inl, inr}
use Rattle.std.specs.Prelude.{◌/◌, ◌&&◌, ◌||◌, ◌==◌, nat_le, nat_lt, slice_get}
use Rattle.std.proofs.Math.Nat.{div-mul-le_self, lt-div-mul-add, div-lt_iff_lt-mul, mul-le-mul, mul-le-mul_right}
use Rattle.std.proofs.lemmas.Nat.{div-mul-add}
use Rattle.std.proofs.lemmas.Bool.{cases_Bool, cases_lt, and_parts, eqb-true, leb-true, ltb-true, lt-ltb, le-ltb, le-leb, lt-leb, ne_eqb, false≢true}
use Rattle.std.proofs.lemmas.Option.{slice_get_within, slice_get-get_or}
use Rattle.brc_model.specs.declared.layout.Layout.{Layout}
use Rattle.brc_model.specs.Limits.{row_limit, worker_limit, total_limit}
use Rattle.brc_model.specs.declared.actor.Actor.{Actor}
use Rattle.brc_model.specs.Machine.{Unborn, Machine, idle_actor}
use Rattle.brc_model.specs.Accounts.{Accounts}
use Rattle.brc_model.specs.Knowledge.{IsNext}
use Rattle.brc_model.specs.Invariant.{CoreInvariant}
use Rattle.brc_model.proofs.Basics.Lists.{either_true, or_second}
use Rattle.brc_model.specs.Layout.{none_row, root_row, front_rows, worker_rows, row_count, is_worker_row, block_of, block_size, row_at, index_of, first_immortal_list, first_number, is_immortal_row, IsCounted}

-- ---- main's rows and the workers'

-- The block of a row, by whether the row is a worker's.
abbrev block_if : Layout → ℕ → Bool → ℕ
block_if layout x b = cond b ((x - front_rows) / layout.rows + 1) 0

and_false : (b c : Bool) → c ≡ false → (b && c) ≡ false
and_false true c e = e
and_false false c e = refl

-- Main's rows are before the workers' and after them.
pub data IsMains (layout : Layout) (x : ℕ) : Type 0 where
  InFront : x < front_rows → IsMains layout x
  InRear : front_rows + worker_rows layout ≤ x → IsMains layout x

pub record IsWorkers (layout : Layout) (x : ℕ) : Type 0 where
  pub low : front_rows ≤ x
  pub high : x < front_rows + worker_rows layout

row_place : (layout : Layout) (x : ℕ) → IsMains layout x ⊎ IsWorkers layout x
row_place layout x =
    elim (cases_lt x front_rows) [
      | inl front ↦ inl (InFront front)
      | inr low ↦
          elim (cases_lt x (front_rows + worker_rows layout)) [
            | inl high ↦ inr (record { low = low; high = high })
            | inr rear ↦ inl (InRear rear)
          ]
    ]

mains_block : (layout : Layout) (x : ℕ) → IsMains layout x → block_of layout x ≡ 0
mains_block layout x (InFront front) =
    let no : is_worker_row layout x ≡ false =
    ap (λ (b : Bool). b && nat_lt x (front_rows + worker_rows layout))
    (le-ltb 1 x (omega (arith, front))) in
    ap (block_if layout x) no
mains_block layout x (InRear rear) =
    let no : is_worker_row layout x ≡ false =
    and_false _ _ (le-ltb x (front_rows + worker_rows layout) rear) in
    ap (block_if layout x) no

workers_block : (layout : Layout) (x : ℕ) → IsWorkers layout x
    → block_of layout x ≡ (x - front_rows) / layout.rows + 1
workers_block layout x worker =
    let yes : is_worker_row layout x ≡ true =
    ap (λ (b : Bool). b && nat_lt x (front_rows + worker_rows layout))
    (le-leb front_rows x worker.low)
    ∙ lt-ltb x (front_rows + worker_rows layout) worker.high in
    ap (block_if layout x) yes

-- ---- a thread's rows by their indices

-- Main's row at an index, before the workers' rows and after them.
front_row : (layout : Layout) (i : ℕ) → i < front_rows → row_at layout 0 i ≡ i
front_row layout i front = ap (λ (b : Bool). cond b i (worker_rows layout + i)) (lt-ltb i front_rows front)

rear_row : (layout : Layout) (i : ℕ) → front_rows ≤ i → row_at layout 0 i ≡ worker_rows layout + i
rear_row layout i rear = ap (λ (b : Bool). cond b i (worker_rows layout + i)) (le-ltb i front_rows rear)

-- The index of a row of main's, before the workers' rows and after them.
front_index : (layout : Layout) (x : ℕ) → x < front_rows → index_of layout 0 x ≡ x
front_index layout x front = ap (λ (b : Bool). cond b x (x - worker_rows layout)) (lt-ltb x front_rows front)

rear_index : (layout : Layout) (x : ℕ) → front_rows ≤ x → index_of layout 0 x ≡ x - worker_rows layout
rear_index layout x rear = ap (λ (b : Bool). cond b x (x - worker_rows layout)) (le-ltb x front_rows rear)

-- The row at an index of a thread's block is in that block.
pub block_at : (layout : Layout) (t i : ℕ) → t ≤ layout.workers → i < block_size layout t
    → block_of layout (row_at layout t i) ≡ t
block_at layout zero i there within =
    elim (cases_lt i front_rows) [
      | inl front ↦ ap (block_of layout) (front_row layout i front) ∙ mains_block layout i (InFront front)
      | inr rear ↦
          ap (block_of layout) (rear_row layout i rear)
          ∙ mains_block layout (worker_rows layout + i) (InRear (omega (arith, rear)))
    ]
block_at layout (suc t) i there within =
    let x = row_at layout (suc t) i in
    let more : suc t * layout.rows ≤ layout.workers * layout.rows = mul-le-mul_right layout.rows there in
    let shifted : x - front_rows ≡ t * layout.rows + i = omega arith in
    let quotient = div-mul-add t layout.rows i within in
    workers_block layout x (record { low = omega arith; high = omega (arith, within, more) })
    ∙ ap (λ (y : ℕ). y / layout.rows + 1) shifted ∙ omega (arith, quotient)

-- The row at an index has that index.
pub index_at : (layout : Layout) (t i : ℕ) → index_of layout t (row_at layout t i) ≡ i
index_at layout zero i =
    elim (cases_lt i front_rows) [
      | inl front ↦ ap (index_of layout 0) (front_row layout i front) ∙ front_index layout i front
      | inr rear ↦
          ap (index_of layout 0) (rear_row layout i rear)
          ∙ rear_index layout (worker_rows layout + i) (omega (arith, rear)) ∙ omega arith
    ]
index_at layout (suc t) i = omega arith

workers_quotient : (layout : Layout) (t x : ℕ) → block_of layout x ≡ suc t → IsWorkers layout x
    → (x - front_rows) / layout.rows ≡ t
workers_quotient layout t x is worker = omega (arith, is, workers_block layout x worker)

-- The row at a row's index is that row.
pub row_back : (layout : Layout) (t x : ℕ) → block_of layout x ≡ t → row_at layout t (index_of layout t x) ≡ x
row_back layout zero x is =
    elim (row_place layout x) [
      | inl (InFront front) ↦
          let same = front_index layout x front in
          ap (row_at layout 0) same ∙ front_row layout x front
      | inl (InRear rear) ↦
          let same = rear_index layout x (omega (arith, rear)) in
          ap (row_at layout 0) same ∙ rear_row layout (x - worker_rows layout) (omega (arith, rear))
          ∙ omega (arith, rear)
      | inr worker ↦ absurd (omega (arith, is, workers_block layout x worker))
    ]
row_back layout (suc t) x is =
    elim (row_place layout x) [
      | inl mains ↦ absurd (omega (arith, is, mains_block layout x mains))
      | inr worker ↦
          let below : t * layout.rows ≤ x - front_rows =
          subst (λ (q : ℕ). q * layout.rows ≤ x - front_rows) (workers_quotient layout t x is worker)
          (div-mul-le_self (x - front_rows) layout.rows) in
          omega (arith, below, worker.low)
    ]

-- The index of an existing row is below the size of its block.
pub index_within : (layout : Layout) (t x : ℕ) → 0 < layout.rows → block_of layout x ≡ t → x < row_count layout
    → index_of layout t x < block_size layout t
index_within layout zero x some is low =
    elim (row_place layout x) [
      | inl (InFront front) ↦ let same = front_index layout x front in omega (arith, same, front)
      | inl (InRear rear) ↦
          let same = rear_index layout x (omega (arith, rear)) in
          omega (arith, same, rear, low)
      | inr worker ↦ absurd (omega (arith, is, workers_block layout x worker))
    ]
index_within layout (suc t) x some is low =
    elim (row_place layout x) [
      | inl mains ↦ absurd (omega (arith, is, mains_block layout x mains))
      | inr worker ↦
          let above : x - front_rows < t * layout.rows + layout.rows =
          subst (λ (q : ℕ). x - front_rows < q * layout.rows + layout.rows) (workers_quotient layout t x is worker)
          (lt-div-mul-add some) in
          omega (arith, above, worker.low, some)
    ]

-- Each row of a block exists.
pub row_within : (layout : Layout) (t i : ℕ) → t ≤ layout.workers → i < block_size layout t
    → row_at layout t i < row_count layout
row_within layout zero i there within =
    elim (cases_lt i front_rows) [
      | inl front ↦ let same = front_row layout i front in omega (arith, same, front)
      | inr rear ↦ let same = rear_row layout i rear in omega (arith, same, within)
    ]
row_within layout (suc t) i there within =
    let more : suc t * layout.rows ≤ layout.workers * layout.rows = mul-le-mul_right layout.rows there in
    omega (arith, within, more)

-- A block has at most as many rows as exist.
pub size_within : (layout : Layout) (t : ℕ) → t ≤ layout.workers → block_size layout t ≤ row_count layout
size_within layout zero there = omega arith
size_within layout (suc t) there =
    let more : suc t * layout.rows ≤ layout.workers * layout.rows = mul-le-mul_right layout.rows there in
    omega (arith, more)

-- The block of each row is the block of an existing thread.
pub block_within : (layout : Layout) (x : ℕ) → 0 < layout.rows → block_of layout x ≤ layout.workers
block_within layout x some =
    elim (row_place layout x) [
      | inl mains ↦ omega (arith, mains_block layout x mains)
      | inr worker ↦
          let below : (x - front_rows) / layout.rows < layout.workers =
          (div-lt_iff_lt-mul some).1 (omega (arith, worker.low, worker.high)) in
          omega (arith, below, workers_block layout x worker)
    ]

-- The rows in front are main's.
pub front_block : (layout : Layout) (x : ℕ) → x < front_rows → block_of layout x ≡ 0
front_block layout x front = mains_block layout x (InFront front)

-- Main's other rows are after the workers', and a worker's rows are between.
pub rear_block : (layout : Layout) (x : ℕ) → first_immortal_list layout ≤ x → block_of layout x ≡ 0
rear_block layout x rear = mains_block layout x (InRear rear)

pub mains_rows : (layout : Layout) (x : ℕ) → block_of layout x ≡ 0 → (x < front_rows) ⊎ (first_immortal_list layout ≤ x)
mains_rows layout x block =
    elim (row_place layout x) [
      | inl (InFront front) ↦ inl front
      | inl (InRear rear) ↦ inr rear
      | inr worker ↦ absurd (omega (arith, block, workers_block layout x worker))
    ]

pub workers_rows : (layout : Layout) (t x : ℕ) → block_of layout x ≡ suc t
    → (front_rows ≤ x) × (x < first_immortal_list layout)
workers_rows layout t x block =
    elim (row_place layout x) [
      | inl mains ↦ absurd (omega (arith, block, mains_block layout x mains))
      | inr worker ↦ (worker.low, worker.high)
    ]

-- A row of main's exists exactly if its index is below the size of main's block.
pub mains_within : (layout : Layout) (x : ℕ) → block_of layout x ≡ 0 → index_of layout 0 x < block_size layout 0
    → x < row_count layout
mains_within layout x block low =
    let back = row_back layout 0 x block in
    let within = row_within layout 0 (index_of layout 0 x) (omega arith) low in
    omega (arith, back, within)

pub mains_past : (layout : Layout) (x : ℕ) → 0 < layout.rows → block_of layout x ≡ 0
    → block_size layout 0 ≤ index_of layout 0 x → row_count layout ≤ x
mains_past layout x some block past =
    elim (cases_lt x (row_count layout)) [
      | inl low ↦ absurd (omega (arith, past, index_within layout 0 x some block low))
      | inr past ↦ past
    ]

-- ---- immortal rows

-- The rows of the immortal lists are immortal.
pub list_immortal : (layout : Layout) (x : ℕ) → first_immortal_list layout ≤ x → x < first_number layout
    → is_immortal_row layout x ≡ true
list_immortal layout x low high =
    or_second (x == none_row) (nat_le (first_immortal_list layout) x && nat_lt x (first_number layout))
    (ap (λ (b : Bool). b && nat_lt x (first_number layout)) (le-leb (first_immortal_list layout) x low)
    ∙ lt-ltb x (first_number layout) high)

-- The other rows after none's are counted.
pub others_counted : (layout : Layout) (x : ℕ) → 0 < x → (x < first_immortal_list layout) ⊎ (first_number layout ≤ x)
    → IsCounted layout x
others_counted layout x some (inl low) =
    ap (λ (b : Bool). b || (nat_le (first_immortal_list layout) x && nat_lt x (first_number layout)))
    (ne_eqb x none_row (λ e. absurd (omega (arith, some, e))))
    ∙ ap (λ (b : Bool). b && nat_lt x (first_number layout)) (lt-leb (first_immortal_list layout) x low)
others_counted layout x some (inr past) =
    ap (λ (b : Bool). b || (nat_le (first_immortal_list layout) x && nat_lt x (first_number layout)))
    (ne_eqb x none_row (λ e. absurd (omega (arith, some, e))))
    ∙ and_false _ _ (le-ltb x (first_number layout) past)

-- An immortal row is none's, or that of an immortal list.
pub immortal_rows : (layout : Layout) (x : ℕ) → is_immortal_row layout x ≡ true
    → (x ≡ none_row) ⊎ ((first_immortal_list layout ≤ x) × (x < first_number layout))
immortal_rows layout x immortal =
    elim (either_true (x == none_row) _ immortal) [
      | inl none ↦ inl (eqb-true x none_row none)
      | inr list ↦
          let parts = and_parts (nat_le (first_immortal_list layout) x) (nat_lt x (first_number layout)) list in
          inr (leb-true (first_immortal_list layout) x parts.0, ltb-true x (first_number layout) parts.1)
    ]

-- Immortal rows are main's.
pub immortal_block : (layout : Layout) (x : ℕ) → is_immortal_row layout x ≡ true → block_of layout x ≡ 0
immortal_block layout x immortal =
    elim (immortal_rows layout x immortal) [
      | inl none ↦ mains_block layout x (InFront (omega (arith, none)))
      | inr list ↦ mains_block layout x (InRear list.0)
    ]

-- A counted row isn't none's.
pub counted_above : (layout : Layout) (x : ℕ) → IsCounted layout x → 0 < x
counted_above layout zero counted = absurd cc
counted_above layout (suc x) counted = omega arith

-- The root is counted.
pub root_counted : (layout : Layout) → IsCounted layout root_row
root_counted layout = others_counted layout root_row (omega arith) (inl (omega arith))

-- A counted row isn't an immortal one.
pub immortal_apart : (layout : Layout) (y x : ℕ) → IsCounted layout y → is_immortal_row layout x ≡ true → y ≡ x → ⊥
immortal_apart layout y x counted immortal e =
    absurd (false≢true (sym counted ∙ ap (is_immortal_row layout) e ∙ immortal))

-- ---- used rows

module _ {p : Accounts} {n : ℕ} {m : Machine} where
  -- An actor's number is main's or a worker's.
  pub thread_there : (t : ℕ) (a : Actor) → CoreInvariant p n m → slice_get m.actors t ≡ Some a → t ≤ m.layout.workers
  thread_there t a core found = omega (arith, slice_get_within m.actors t a found, core.threads, core.workers)

  -- A row that a thread has used is in that thread's block.
  pub used_block : (t : ℕ) (a : Actor) (i : ℕ) → CoreInvariant p n m → slice_get m.actors t ≡ Some a → i < a.used
      → block_of m.layout (row_at m.layout t i) ≡ t
  used_block t a i core found low =
      let few = (core.uses t a found).few in
      block_at m.layout t i (thread_there t a core found) (omega (arith, low, few))

-- The thread of the row's block exists and has used the row. `born_used` shows this of each born row.
pub record IsUsed (m : Machine) (x : ℕ) : Type 0 where
  pub by : Actor
  pub found : slice_get m.actors (block_of m.layout x) ≡ Some by
  pub low : index_of m.layout (block_of m.layout x) x < by.used

module _ {p : Accounts} {n : ℕ} {m : Machine} where
  pub born_used : (x : ℕ) → CoreInvariant p n m → (m.life x ≢ Unborn) → IsUsed m x
  born_used x core born =
      let t = block_of m.layout x in
      let within = block_within m.layout x core.some_rows in
      let a = get_or m.actors t (idle_actor 0) in
      let found = slice_get-get_or m.actors t (idle_actor 0) (omega (arith, within, core.threads, core.workers)) in
      elim (cases_lt (index_of m.layout t x) a.used) [
        | inl low ↦ record { by = a; found = found; low = low }
        | inr past ↦ absurd (born ((core.uses t a found).unborn x refl past))
      ]

  -- A row that a thread has used exists. The row is given by its index.
  pub used_low : (t : ℕ) (a : Actor) (i : ℕ) → CoreInvariant p n m → slice_get m.actors t ≡ Some a → i < a.used
      → row_at m.layout t i < row_count m.layout
  used_low t a i core found low =
      let few = (core.uses t a found).few in
      row_within m.layout t i (thread_there t a core found) (omega (arith, low, few))

  -- A row that a thread has used exists. The row is given by its number.
  pub used_row : (t : ℕ) (a : Actor) (x : ℕ) → CoreInvariant p n m → slice_get m.actors t ≡ Some a
      → block_of m.layout x ≡ t → index_of m.layout t x < a.used → x < row_count m.layout
  used_row t a x core found block low =
      subst (λ (y : ℕ). y < row_count m.layout) (row_back m.layout t x block)
      (used_low t a (index_of m.layout t x) core found low)

  pub born_within : (x : ℕ) → CoreInvariant p n m → (m.life x ≢ Unborn) → x < row_count m.layout
  born_within x core born =
      let used = born_used x core born in
      let t = block_of m.layout x in
      used_row t used.by x core used.found refl used.low

  -- A bound on the number of all rows.
  pub rows_low : CoreInvariant p n m → row_count m.layout ≤ total_limit
  rows_low core =
      let most : m.layout.workers * m.layout.rows ≤ worker_limit * row_limit =
      mul-le-mul {n₂ = worker_limit} {m₂ = row_limit} (omega (arith, core.few_threads, core.workers)) core.few_rows in
      omega (arith, most, core.few_immortals, core.few_numbers)

  pub born_low : (x : ℕ) → CoreInvariant p n m → (m.life x ≢ Unborn) → x < total_limit
  born_low x core born = omega (arith, born_within x core born, rows_low core)

-- ---- the row that is born next

pub next_block : (m : Machine) (t : ℕ) (a : Actor) (x : ℕ) → IsNext m t a x → block_of m.layout x ≡ t
next_block m t a x next = ap (block_of m.layout) next.row ∙ block_at m.layout t a.used next.there next.room

pub next_counted : (m : Machine) (t : ℕ) (a : Actor) (x : ℕ) → IsNext m t a x → IsCounted m.layout x
next_counted m t a x next =
    elim (cases_Bool (is_immortal_row m.layout x)) [
      | inl immortal ↦
          absurd (omega (arith, immortal_block m.layout x immortal, next_block m t a x next, next.worker))
      | inr counted ↦ counted
    ]

pub next_index : (m : Machine) (t : ℕ) (a : Actor) (x : ℕ) → IsNext m t a x → index_of m.layout t x ≡ a.used
next_index m t a x next = ap (index_of m.layout t) next.row ∙ index_at m.layout t a.used

pub next_unborn : (p : Accounts) (n : ℕ) (m : Machine) (t : ℕ) (a : Actor) (x : ℕ) → CoreInvariant p n m
    → slice_get m.actors t ≡ Some a → IsNext m t a x → m.life x ≡ Unborn
next_unborn p n m t a x core found next =
    (core.uses t a found).unborn x (next_block m t a x next) (omega (arith, next_index m t a x next))

module _ {p : Accounts} {n : ℕ} {m : Machine} where
  pub next_within : (t : ℕ) (a : Actor) → CoreInvariant p n m → slice_get m.actors t ≡ Some a
      → a.used < block_size m.layout t → row_at m.layout t a.used < row_count m.layout
  next_within t a core found room = row_within m.layout t a.used (thread_there t a core found) room
