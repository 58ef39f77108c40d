-- The columns have each word of their layout, a word that is stored in a column is the word written at its address, and
-- the first columns have the first words.
use Rattle.std.proofs.Common.{◌≡◌, ℕ, zero, suc, ◌+◌, ◌*◌, ◌<◌, ◌≤◌, Bool, true, false, List, ◌∷◌, length, inl, inr, refl, sym, arith, get_or, get_or-set_same, replicate}
use Rattle.std.specs.Prelude.{pos, nat_lt, nat_le, ◌==◌, ◌&&◌, if◌then◌else◌}
use Rattle.std.specs.List.{slice_set, slice_index_or}
use Rattle.std.proofs.Math.Path.{fun_ext}
use Rattle.std.proofs.lemmas.Bool.Decides.{eqb_tells, leb_tells}
use Rattle.std.proofs.lemmas.List.{get_or-replicate, get_or-set_other, get_or_past, length-replicate}
use Rattle.std.proofs.lemmas.Nat.{mul-add-lt, same_from_place}
use Rattle.std.proofs.lemmas.Grind.{common_steps}
use Rattle.brc_word.specs.declared.shared.Phase.TheVariants.{Default}
use Rattle.brc_word.specs.Header.{IsSharedWord}
use Rattle.brc_word.specs.Words.{half, immortal_local, fresh_word, local_word}
use Rattle.brc_model.specs.declared.address.Address.{Address}
use Rattle.brc_model.specs.declared.address.Address.TheVariants.{Local, Shared, Gate, KindOf, Marks, Cell, Field, Resource, ThreadWord}
use Rattle.brc_model.specs.declared.layout.Layout.{Layout}
use Rattle.brc_model.specs.Layout.{mark_words_of}
use Rattle.brc_model.specs.Limits.{root_cells, row_limit, immortal_limit, number_limit}
use Rattle.brc_model.specs.Within.{IsThere}
use Rattle.brc_model.specs.Machine.{written}
use Rattle.brc_machine.specs.FirstWords.{plain_words}
use Rattle.brc_machine.specs.Storage.{mark_room, Columns, word_in, AreColumns, HasWord, AreOf, IsStored}

-- ---- the words of a layout

-- There is room for the mark words of each block.
few_words : (layout : Layout) (t : ℕ) → layout.rows ≤ row_limit → layout.immortal_lists ≤ immortal_limit
    → layout.numbers ≤ number_limit → mark_words_of layout t ≤ mark_room
few_words layout zero rows lists numbers = omega (arith, lists, numbers)
few_words layout (suc t) rows lists numbers = omega (arith, rows)

-- The columns of a world have each word that its layout has.
pub has_word : (layout : Layout) (c : Columns) (a : Address) → AreOf layout c → IsThere layout a → HasWord c a
has_word layout c (Local x) of there = omega (arith, of.rows, there)
has_word layout c (Shared x) of there = omega (arith, of.rows, there)
has_word layout c (Gate x) of there = omega (arith, of.rows, there)
has_word layout c (KindOf x) of there = omega (arith, of.rows, there)
has_word layout c (Marks t w) of there = (
  omega (arith, of.threads, there.0),
  omega (arith, few_words layout t of.few_rows of.few_lists of.few_numbers, there.1),
)
has_word layout c (Cell x i) of there = (omega (arith, of.rows, there.0), omega (arith, of.cells, there.1))
has_word layout c (Field x) of there = omega (arith, of.rows, there)
has_word layout c (Resource x) of there = omega (arith, of.rows, there)
has_word layout c (ThreadWord t) of there = omega (arith, of.threads, there)

-- ---- a cell or a mark word

-- The place of cell i of row x is in the column of cells.
cell_there : (c : Columns) (x i : ℕ) → AreColumns c → x < length c.local → i < c.width
    → c.width * x + i < length c.cell
cell_there c x i columns there low =
    omega (arith, columns.cell, mul-add-lt x c.width i (length c.local) there low)

-- A column has groups of words, `size` each: word i of group x is stored there and nowhere else.
group_word : (size : ℕ) (words : List ℕ) (x i y j word : ℕ) → size * x + i < length words → i < size
    → (j < size → size * x + i ≡ size * y + j → (x ≡ y) × (i ≡ j))
    → (if nat_lt j size then slice_index_or (slice_set words (size * x + i) word) (size * y + j) 0 else 0)
    ≡ (if (x == y) && (i == j) then word else if nat_lt j size then slice_index_or words (size * y + j) 0 else 0)
group_word size words x i y j word there low one =
    elim (leb_tells (suc j) size) [
      | inl inside ↦ elim (eqb_tells x y) [
        | inl same ↦ elim (eqb_tells i j) [
          | inl here ↦
              rw (inside.0, same.0, here.0, sym same.1, sym here.1)
              (get_or-set_same words (size * x + i) word 0 there)
          | inr other ↦
              rw (inside.0, same.0, other.0)
              (get_or-set_other words (size * x + i) (size * y + j) word 0 (λ e. other.1 (one inside.1 (sym e)).1))
        ]
        | inr apart ↦
            rw (inside.0, apart.0)
            (get_or-set_other words (size * x + i) (size * y + j) word 0 (λ e. apart.1 (one inside.1 (sym e)).0))
      ]
      | inr outside ↦ elim (eqb_tells i j) [
        | inl here ↦ absurd (omega (arith, here.1, low, outside.1))
        | inr other ↦ elim (eqb_tells x y) [
          | inl same ↦ rw (outside.0, other.0, same.0) refl
          | inr apart ↦ rw (outside.0, apart.0) refl
        ]
      ]
    ]

-- ---- one word stored

-- Each column after the word is stored at the address.
abbrev local_with : Columns → Address → ℕ → List ℕ
local_with c (Local x) word = slice_set c.local x word
local_with c _ word = c.local

abbrev shared_with : Columns → Address → ℕ → List ℕ
shared_with c (Shared x) word = slice_set c.shared x word
shared_with c _ word = c.shared

abbrev gate_with : Columns → Address → ℕ → List ℕ
gate_with c (Gate x) word = slice_set c.gate x word
gate_with c _ word = c.gate

abbrev kind_with : Columns → Address → ℕ → List ℕ
kind_with c (KindOf x) word = slice_set c.kind x word
kind_with c _ word = c.kind

abbrev mark_with : Columns → Address → ℕ → List ℕ
mark_with c (Marks t w) word = slice_set c.mark (mark_room * t + w) word
mark_with c _ word = c.mark

abbrev cell_with : Columns → Address → ℕ → List ℕ
cell_with c (Cell x i) word = slice_set c.cell (c.width * x + i) word
cell_with c _ word = c.cell

abbrev field_with : Columns → Address → ℕ → List ℕ
field_with c (Field x) word = slice_set c.field x word
field_with c _ word = c.field

abbrev resource_with : Columns → Address → ℕ → List ℕ
resource_with c (Resource x) word = slice_set c.resource x word
resource_with c _ word = c.resource

abbrev thread_with : Columns → Address → ℕ → List ℕ
thread_with c (ThreadWord t) word = slice_set c.thread t word
thread_with c _ word = c.thread

-- The columns after the word is stored at the address.
abbrev pub with_word : Columns → Address → ℕ → Columns
with_word c a word =
    record {
      local = local_with c a word;
      shared = shared_with c a word;
      gate = gate_with c a word;
      kind = kind_with c a word;
      mark = mark_with c a word;
      cell = cell_with c a word;
      field = field_with c a word;
      resource = resource_with c a word;
      thread = thread_with c a word;
      width = c.width;
    }

-- A word stored in the column of cells is written at its cell's address, and nowhere else.
stored_cell : (c : Columns) (x i word : ℕ) → AreColumns c → x < length c.local → i < c.width
    → IsStored c (Cell x i) word (with_word c (Cell x i) word)
stored_cell c x i word columns there low = record {
  rows = refl;
  threads = refl;
  width = refl;
  words =
      fun_ext (λ a. elim a as (λ b. word_in (with_word c (Cell x i) word) b ≡ written (word_in c) (Cell x i) word b) [
        | Local y ↦ refl
        | Shared y ↦ refl
        | Gate y ↦ refl
        | KindOf y ↦ refl
        | Marks t w ↦ refl
        | Cell y j ↦ group_word c.width c.cell x i y j word (cell_there c x i columns there low) low
            (λ inside e. same_from_place x i y j c.width low inside (omega (arith, e)))
        | Field y ↦ refl
        | Resource y ↦ refl
        | ThreadWord t ↦ refl
      ]);
}

-- A word stored in the column of mark words is written at its address, and nowhere else.
stored_marks : (c : Columns) (t w word : ℕ) → AreColumns c → t < length c.thread → w < mark_room
    → IsStored c (Marks t w) word (with_word c (Marks t w) word)
stored_marks c t w word columns there low = record {
  rows = refl;
  threads = refl;
  width = refl;
  words =
      fun_ext (λ a. elim a as (λ b. word_in (with_word c (Marks t w) word) b ≡ written (word_in c) (Marks t w) word b) [
        | Local y ↦ refl
        | Shared y ↦ refl
        | Gate y ↦ refl
        | KindOf y ↦ refl
        | Marks u v ↦ group_word mark_room c.mark t w u v word (omega (arith, columns.mark, there, low)) low
            (λ inside e. (omega (arith, e, low, inside), omega (arith, e, low, inside)))
        | Cell y j ↦ refl
        | Field y ↦ refl
        | Resource y ↦ refl
        | ThreadWord u ↦ refl
      ]);
}

-- A word stored in its column is written at its address, and nowhere else.
pub stored : (c : Columns) (a : Address) (word : ℕ) → AreColumns c → HasWord c a
    → IsStored c a word (with_word c a word)
stored c (Local x) word columns there = grind (arith, common_steps)
stored c (Shared x) word columns there = grind (arith, common_steps)
stored c (Gate x) word columns there = grind (arith, common_steps)
stored c (KindOf x) word columns there = grind (arith, common_steps)
stored c (Marks t w) word columns there = stored_marks c t w word columns there.0 there.1
stored c (Cell x i) word columns there = stored_cell c x i word columns there.0 there.1
stored c (Field x) word columns there = grind (arith, common_steps)
stored c (Resource x) word columns there = grind (arith, common_steps)
stored c (ThreadWord t) word columns there = grind (arith, common_steps)

-- ---- the first words

all_alike : (n x v : ℕ) → get_or (replicate n v) x v ≡ v
all_alike zero x v = refl
all_alike (suc n) zero v = refl
all_alike (suc n) (suc x) v = all_alike n x v

running_word : (workers t : ℕ)
    → ◌≡◌ {A = ℕ} (get_or (replicate (1 + workers) 1) t 0) (if nat_le t workers then 1 else 0)
running_word workers t =
    let one : ℕ = 1 in
    elim (leb_tells t workers) [
      | inl within ↦ rw within.0 (get_or-replicate (1 + workers) t 1 0 (omega (arith, within.1)))
      | inr past ↦
          rw past.0 (get_or_past (replicate (1 + workers) 1) t 0
          (omega (arith, length-replicate (1 + workers) one, past.1)))
    ]

abbrev first_columns : ℕ → ℕ → ℕ → ℕ → Columns
first_columns workers width n more = record {
  local = local_word 0 immortal_local ∷ local_word 0 (1 + workers) ∷ replicate more 0;
  shared = replicate n fresh_word;
  gate = replicate n 1;
  kind = half ∷ (3 * half + root_cells) ∷ replicate more 0;
  mark = replicate (mark_room * (1 + workers)) 0;
  cell = replicate (width * n) 0;
  field = replicate n 0;
  resource = replicate n 0;
  thread = replicate (1 + workers) 1;
  width = width;
}

no_word : (n i : ℕ) (b : Bool) → ◌≡◌ {A = ℕ} (if b then get_or (replicate n 0) i 0 else 0) 0
no_word n i true = all_alike n i 0
no_word n i false = refl

-- The first columns have the first words of a world without immortal lists.
first_words : (workers width n more : ℕ) → word_in (first_columns workers width n more) ≡ plain_words workers
first_words workers width n more =
    fun_ext (λ a. elim a as (λ b. word_in (first_columns workers width n more) b ≡ plain_words workers b) [
      | Local zero ↦ refl
      | Local (suc zero) ↦ refl
      | Local (suc (suc x)) ↦ all_alike more x 0
      | Shared x ↦ all_alike n x fresh_word
      | Gate x ↦ all_alike n x 1
      | KindOf zero ↦ refl
      | KindOf (suc zero) ↦ refl
      | KindOf (suc (suc x)) ↦ all_alike more x 0
      | Marks t w ↦ no_word (mark_room * (1 + workers)) (mark_room * t + w) (nat_lt w mark_room)
      | Cell x i ↦ no_word (width * n) (width * x + i) (nat_lt i width)
      | Field x ↦ all_alike n x 0
      | Resource x ↦ all_alike n x 0
      | ThreadWord t ↦ running_word workers t
    ])

-- A column of equal values, in which the first two are replaced.
two_set : (n more v a b : ℕ) → n ≡ suc (suc more)
    → slice_set (slice_set (replicate n v) 0 a) 1 b ≡ a ∷ b ∷ replicate more v
two_set n more v a b e = rw e refl

-- The columns that the code makes have the first words of a world without immortal lists.
pub words_as : (workers width n more : ℕ) (local kind shared gate mark cell field resource thread : List ℕ)
    (none root none_kind root_kind : ℕ)
    → n ≡ suc (suc more)
    → local ≡ replicate n 0 → none ≡ local_word 0 immortal_local → root ≡ local_word 0 (1 + workers)
    → kind ≡ replicate n 0
    → none_kind ≡ half → root_kind ≡ 3 * half + root_cells
    → shared ≡ replicate n fresh_word → gate ≡ replicate n 1 → mark ≡ replicate (mark_room * (1 + workers)) 0
    → cell ≡ replicate (width * n) 0
    → field ≡ replicate n 0 → resource ≡ replicate n 0 → thread ≡ replicate (1 + workers) 1
    → word_in (record {
      local = slice_set (slice_set local 0 none) 1 root;
      shared = shared;
      gate = gate;
      kind =
          slice_set (slice_set kind 0 none_kind) 1 root_kind;
      mark = mark;
      cell = cell;
      field = field;
      resource = resource;
      thread = thread;
      width = width;
    }) ≡ plain_words workers
words_as workers width n more local kind shared gate mark cell field resource thread none root none_kind root_kind e l v
    r k nk rk s g m c o p t =
    rw (
      l,
      v,
      r,
      k,
      nk,
      rk,
      s,
      g,
      m,
      c,
      o,
      p,
      t,
      two_set n more 0 (local_word 0 immortal_local) (local_word 0 (1 + workers)) e,
      two_set n more 0 half (3 * half + root_cells) e,
    ) (first_words workers width n more)

-- The packed word of count 0 and state default is the fresh word.
pub fresh_is : (word : ℕ) → IsSharedWord word (record { count = pos 0; phase = Default }) → word ≡ fresh_word
fresh_is word h = let e : pos word ≡ pos fresh_word = h in cc
