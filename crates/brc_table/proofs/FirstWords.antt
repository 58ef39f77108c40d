-- The first words of a table, but for those of immortal lists.
use Rattle.std.proofs.Common.{◌≡◌, ◌≢◌, ℕ, zero, suc, ◌+◌, ◌*◌, ◌/◌, ◌%◌, ◌-◌, ◌<◌, ◌≤◌, ◌⊎◌, Bool, true, false, List, ◌++◌, length, replicate, inl, inr, refl, sym, ap, ◌∙◌, arith}
use Rattle.std.specs.Prelude.{◌==◌, nat_lt, if◌then◌else◌, slice_index}
use Rattle.std.specs.List.{slice_range}
use Rattle.std.proofs.Math.ListN.{get_or}
use Rattle.std.proofs.Math.Nat.{div-add-mod, mod-lt}
use Rattle.std.proofs.Math.ListN.{drop}
use Rattle.std.proofs.Math.Seq.{get_or-append_right}
use Rattle.std.proofs.lemmas.Bool.{cases_lt, ne_eqb, le-ltb, lt-ltb}
use Rattle.std.proofs.lemmas.List.{get_or-drop, get_or-replicate, get_or-take, get_or_append_left, length-append, length-drop, length-replicate, length-take-le}
use Rattle.brc_model.specs.declared.address.Address.{Address}
use Rattle.brc_model.specs.declared.address.Address.TheVariants.{Local, Shared, Gate, KindOf, Marks, Cell, Field, Resource, ThreadWord}
use Rattle.brc_model.specs.declared.layout.Layout.{Layout}
use Rattle.brc_model.specs.Layout.{row_count, none_row, root_row}
use Rattle.brc_model.specs.Counting.{IsPlainLayout}
use Rattle.brc_model.specs.Machine.{same_address}
use Rattle.brc_table.specs.Places.{line, front, tile_lines, tile, in_tile, cells_front, cell_place, place, HasWord, FewFirstRows}
use Rattle.brc_table.specs.Opening.{blank_line, blank_word, first_word, ArePlain, AreWordsOf, plain_memory}
use Rattle.brc_table.proofs.Places.{is_cell, in_front, place_apart, place_front, place_within}

-- ---- lines

-- A place behind the thread words is in the line that its tile's number, line and column say.
line_of : (q l c : ℕ) → l < tile_lines → c < line
    → ((front + tile * q + line * l + c) - front) % tile / line ≡ l
line_of q l c low small =
    let n = (front + tile * q + line * l + c) - front in
    let one = div-add-mod n tile in let below = mod-lt n (let h : 0 < tile = omega arith in h) in
    let other = div-add-mod (n % tile) line in
    let under = mod-lt (n % tile) (let h : 0 < line = omega arith in h) in
    omega (arith, one, below, other, under, low, small)

-- So the first value of a blank word is that of its line.
blank_behind : (q l c : ℕ) → l < tile_lines → c < line
    → blank_word (front + tile * q + line * l + c) ≡ blank_line l
blank_behind q l c low small =
    let index = front + tile * q + line * l + c in
    let behind : nat_lt index front ≡ false = le-ltb index front (omega arith) in
    ap (λ (b : Bool). if b then (if index == 0 then 1 else 0) else blank_line ((index - front) % tile / line)) behind
    ∙ ap blank_line (line_of q l c low small)

-- ---- none and the root

-- All other words than none's and the root's local words and kind words have the value of a blank word.
first_else : (index : ℕ) → index ≢ in_tile 0 none_row → index ≢ in_tile 0 root_row → index ≢ in_tile 3 none_row
    → index ≢ in_tile 3 root_row → first_word index ≡ blank_word index
first_else index a b c d = rw (ne_eqb index _ a, ne_eqb index _ b, ne_eqb index _ c, ne_eqb index _ d) refl

-- ---- tiles without a born row

-- Behind the first tile, the first value of a word is that of its line.
tile_first : (q j : ℕ) → 0 < q → j < tile → first_word (front + tile * q + j) ≡ blank_line (j / line)
tile_first q j some low =
    let index = front + tile * q + j in
    let n = index - front in
    let one = div-add-mod n tile in let below = mod-lt n (let h : 0 < tile = omega arith in h) in
    let column : n % tile ≡ j = omega (arith, one, below, low) in
    let behind : nat_lt index front ≡ false = le-ltb index front (omega arith) in
    first_else index (λ e. omega (arith, e, some)) (λ e. omega (arith, e, some)) (λ e. omega (arith, e, some))
    (λ e. omega (arith, e, some))
    ∙ ap (λ (b : Bool). if b then (if index == 0 then 1 else 0) else blank_line (n % tile / line)) behind
    ∙ ap (λ (m : ℕ). blank_line (m / line)) column

-- First words, with a copy of the second tile behind them, are the first words of one tile more.
module _ (ws : List ℕ) (q : ℕ) (two : 2 ≤ q) (long : length ws ≡ front + tile * q)
    (first : (k : ℕ) → k < length ws → slice_index ws k ≡ first_word k) where
  abbrev pub second : List ℕ
  second = slice_range ws (front + tile) (front + 2 * tile)

  behind_second : length (drop (front + tile) ws) ≡ length ws - (front + tile)
  behind_second = length-drop (front + tile) ws

  second_length : length second ≡ tile
  second_length =
      length-take-le (front + 2 * tile - (front + tile)) (drop (front + tile) ws)
      (let is = behind_second in omega (arith, is, long, two))

  pub copied_length : length (ws ++ second) ≡ front + tile * (q + 1)
  copied_length = let is = second_length in let both = length-append ws second in omega (arith, both, is, long)

  -- a word of the copy
  copied_word : (j : ℕ) → j < tile → get_or second j 0 ≡ first_word (front + tile * q + j)
  copied_word j low =
      get_or-take (front + 2 * tile - (front + tile)) (drop (front + tile) ws) j 0 (omega (arith, low))
      ∙ get_or-drop (front + tile) ws j 0
      ∙ first (front + tile + j) (omega (arith, low, long, two))
      ∙ tile_first 1 j (omega arith) low
      ∙ sym (tile_first q j (omega (arith, two)) low)

  pub copied_first : (k : ℕ) → k < length (ws ++ second) → slice_index (ws ++ second) k ≡ first_word k
  copied_first k low = at (cases_lt k (length ws)) where
    at : (k < length ws) ⊎ (length ws ≤ k) → slice_index (ws ++ second) k ≡ first_word k
    at (inl before) = get_or_append_left ws second 0 k before ∙ first k before
    at (inr behind) =
        let here : k < front + tile * (q + 1) = let is = copied_length in omega (arith, low, is) in
        let j = k - length ws in
        let is : front + tile * q + j ≡ k = omega (arith, behind, long) in
        get_or-append_right ws second k 0 behind
        ∙ copied_word j (omega (arith, here, behind, long))
        ∙ ap first_word is

-- ---- cells

-- First words in front of the cells, and then empty cells, are the first words of a table.
pub tiles_and_cells : (layout : Layout) (words cells : List ℕ) → length words ≡ cells_front layout
    → ((k : ℕ) → k < length words → slice_index words k ≡ first_word k)
    → cells ≡ replicate (layout.cells * row_count layout) 0 → ArePlain layout (words ++ cells)
tiles_and_cells layout words cells long first empty =
    let n = layout.cells * row_count layout in
    let many : length cells ≡ n = ap (λ (ws : List ℕ). length ws) empty ∙ length-replicate n 0 in
    record {
      length_is = omega (arith, length-append words cells, long, many);
      each = λ k low.
          let here : k < length words = omega (arith, low, long) in
          get_or_append_left words cells 0 k here ∙ first k here;
      cells = λ k behind low.
          get_or-append_right words cells k 0 (omega (arith, behind, long))
          ∙ (ap (λ (ws : List ℕ). get_or ws (k - length words) 0) empty
          ∙ get_or-replicate n (k - length words) 0 0 (omega (arith, behind, low, long)));
    }

-- ---- addresses

-- The same of an address.
module _ (layout : Layout) (plain : IsPlainLayout layout) (few : FewFirstRows layout) where
  none_there : none_row < row_count layout
  none_there = omega arith

  root_there : root_row < row_count layout
  root_there = omega arith

  first_apart : (a : Address) → HasWord layout a → same_address a (Local none_row) ≡ false
      → same_address a (Local root_row) ≡ false → same_address a (KindOf none_row) ≡ false
      → same_address a (KindOf root_row) ≡ false → first_word (place layout a)
      ≡ blank_word (place layout a)
  first_apart a has b c d e =
      first_else (place layout a) (place_apart layout a (Local none_row) plain few has none_there b)
      (place_apart layout a (Local root_row) plain few has root_there c)
      (place_apart layout a (KindOf none_row) plain few has none_there d)
      (place_apart layout a (KindOf root_row) plain few has root_there e)

  rest_low : (x : ℕ) → x % line < line
  rest_low x = mod-lt x (omega arith)

  -- The first word of main says that it runs, and those of the workers are 0.
  pub thread_first : (t : ℕ) → HasWord layout (ThreadWord t) → first_word t ≡ (if t == 0 then 1 else 0)
  thread_first t has =
      let in_front : nat_lt t front ≡ true = lt-ltb t front (omega (arith, plain.few_workers, has)) in
      first_apart (ThreadWord t) has refl refl refl refl
      ∙ ap (λ (b : Bool). if b then (if t == 0 then 1 else 0) else blank_line ((t - front) % tile / line)) in_front

  -- ---- addresses

  -- The first words by place are those by address, but for the cells.
  pub first_reads : (a : Address) → HasWord layout a → is_cell a ≡ false
      → plain_memory a ≡ first_word (place layout a)
  first_reads (Local zero) has other = refl
  first_reads (Local (suc zero)) has other = refl
  first_reads (Local (suc (suc x))) has other =
      let row = suc (suc x) in
      sym (first_apart (Local row) has (ne_eqb row none_row (λ e. omega (arith, e)))
      (ne_eqb row root_row (λ e. omega (arith, e))) refl refl
      ∙ blank_behind (row / line) 0 (row % line) (omega arith) (rest_low row))
  first_reads (Shared x) has other =
      sym (first_apart (Shared x) has refl refl refl refl
      ∙ blank_behind (x / line) 1 (x % line) (omega arith) (rest_low x))
  first_reads (Gate x) has other =
      sym (first_apart (Gate x) has refl refl refl refl
      ∙ blank_behind (x / line) 2 (x % line) (omega arith) (rest_low x))
  first_reads (KindOf zero) has other = refl
  first_reads (KindOf (suc zero)) has other = refl
  first_reads (KindOf (suc (suc x))) has other =
      let row = suc (suc x) in
      sym (first_apart (KindOf row) has refl refl (ne_eqb row none_row (λ e. omega (arith, e)))
      (ne_eqb row root_row (λ e. omega (arith, e)))
      ∙ blank_behind (row / line) 3 (row % line) (omega arith) (rest_low row))
  first_reads (Marks t w) has other =
      let at = place layout (Marks t w) in
      let before : nat_lt at front ≡ true = lt-ltb at front (in_front layout t w plain few has) in
      let behind : (at == 0) ≡ false = ne_eqb at 0 (λ e. omega (arith, e)) in
      sym (first_apart (Marks t w) has refl refl refl refl
      ∙ (ap (λ (b : Bool). if b then (if at == 0 then 1 else 0) else blank_line ((at - front) % tile / line)) before
      ∙ ap (λ (b : Bool). if b then 1 else 0) behind))
  first_reads (Cell x i) has other = absurd cc
  first_reads (Field x) has other = absurd has
  first_reads (Resource x) has other = absurd has
  first_reads (ThreadWord t) has other = sym (thread_first t has)

  -- So are words that are the first ones at each place, and whose cells are all empty.
  pub plain_words_are : (words : List ℕ) → ArePlain layout words → AreWordsOf layout words plain_memory
  plain_words_are words first (Cell x i) has =
      first.cells (cell_place layout x i) (omega arith) (place_within layout (Cell x i) plain few has)
  plain_words_are words first a has =
      first.each (place layout a) (place_front layout a plain few has refl) ∙ sym (first_reads a has refl)
