-- Two addresses that have words have different places, unless they are one address.
use Rattle.std.proofs.Common.{◌≡◌, ◌≢◌, ◌==◌, ◌&&◌, ℕ, zero, suc, ◌+◌, ◌*◌, ◌/◌, ◌%◌, ◌<◌, ◌≤◌, Bool, true, false, inl, inr, refl, sym, ap, ◌∙◌, arith}
use Rattle.std.proofs.Math.Nat.{div-add-mod, mod-lt, mul-le-mul_left}
use Rattle.std.proofs.lemmas.Bool.{eq-eqb, cases_lt}
use Rattle.brc_model.specs.declared.address.Address.{Address}
use Rattle.brc_model.specs.declared.address.Address.TheVariants.{Local, Shared, Gate, KindOf, Marks, Cell, Field, Resource, ThreadWord}
use Rattle.brc_model.specs.declared.layout.Layout.{Layout}
use Rattle.brc_model.specs.Layout.{row_count, mark_words_of}
use Rattle.brc_model.specs.Counting.{IsPlainLayout}
use Rattle.brc_model.specs.Duties.{mark_place}
use Rattle.brc_model.specs.Machine.{same_address}
use Rattle.brc_model.proofs.Basics.Blocks.{block_within}
use Rattle.brc_model.proofs.Basics.Marks.{word_within}
use Rattle.brc_table.specs.Places.{line, mark_room, front, tile_lines, tile, local_line, shared_line, gate_line, kind_line, in_tile, tiles, cells_front, cell_place, place, HasWord, word_count, FewFirstRows}

-- Says whether the address is a cell's.
abbrev pub is_cell : Address → Bool
is_cell (Cell x i) = true
is_cell _ = false

-- ---- numbers

-- A row is known by its tile and its place in the tile.
same_row : (x y : ℕ) → x / line ≡ y / line → x % line ≡ y % line → x ≡ y
same_row x y tiles rests =
    let one = div-add-mod x line in let other = div-add-mod y line in omega (arith, one, other, tiles, rests)

-- A place in the tiles has one tile, one line and one column.
same_coordinates : (q l c q' l' c' : ℕ) → l < tile_lines → c < line → l' < tile_lines → c' < line
    → front + tile * q + line * l + c ≡ front + tile * q' + line * l' + c' → (q ≡ q') × (l ≡ l') × (c ≡ c')
same_coordinates q l c q' l' c' low small low' small' e = (
  omega (arith, low, small, low', small', e),
  omega (arith, low, small, low', small', e),
  omega (arith, low, small, low', small', e),
)

rest_low : (x : ℕ) → x % line < line
rest_low x = mod-lt x (omega arith)

header_row : (k x y : ℕ) → k < tile_lines → in_tile k x ≡ in_tile k y → x ≡ y
header_row k x y low e =
    let same = same_coordinates (x / line) k (x % line) (y / line) k (y % line) low (rest_low x) low (rest_low y) e in
    same_row x y same.0 same.2

header_line : (k j x y : ℕ) → k < tile_lines → j < tile_lines → in_tile k x ≡ in_tile j y → k ≡ j
header_line k j x y low low' e =
    (same_coordinates (x / line) k (x % line) (y / line) j (y % line) low (rest_low x) low' (rest_low y) e).1

-- A multiple of a number, and a smaller number, are known by their sum.
behind_apart : (n x i y j : ℕ) → x < y → i < n → n * x + i ≢ n * y + j
behind_apart n x i y j before low e =
    let more : n * suc x ≤ n * y = mul-le-mul_left n (omega (arith, before)) in absurd (omega (arith, more, low, e))

multiple_apart : (n x i y j : ℕ) → i < n → j < n → n * x + i ≡ n * y + j → (x ≡ y) × (i ≡ j)
multiple_apart n x i y j low low' e = elim (cases_lt x y) [
  | inl before ↦ absurd (behind_apart n x i y j before low e)
  | inr not_before ↦ elim (cases_lt y x) [
    | inl behind ↦ absurd (behind_apart n y j x i behind low' (sym e))
    | inr not_behind ↦
        let same : x ≡ y = omega (arith, not_before, not_behind) in
        (same, omega (arith, ap (λ (z : ℕ). n * z) same, e))
  ]
]

row_tile : (layout : Layout) (x : ℕ) → x < row_count layout → x / line < tiles layout
row_tile layout x low =
    let n = row_count layout in
    let a = div-add-mod x line in let r = rest_low x in
    let b = div-add-mod (n + 7) line in let s = rest_low (n + 7) in
    omega (arith, low, a, r, b, s)

-- A row's words but for its cells are in front of all cells.
pub header_front : (layout : Layout) (k x : ℕ) → k < tile_lines → x < row_count layout
    → in_tile k x < cells_front layout
header_front layout k x low there = omega (arith, low, row_tile layout x there, rest_low x)

header_cell : (layout : Layout) (k x y i : ℕ) → k < tile_lines → x < row_count layout
    → in_tile k x ≢ cell_place layout y i
header_cell layout k x y i low there e = absurd (omega (arith, header_front layout k x low there, e))

cell_apart : (layout : Layout) (x i y j : ℕ) → i < layout.cells → j < layout.cells
    → cell_place layout x i ≡ cell_place layout y j → (x ≡ y) × (i ≡ j)
cell_apart layout x i y j small small' e = multiple_apart layout.cells x i y j small small' (omega (arith, e))

-- ---- mark words

-- The mark words of a block have room in front of those of the next one.
marks_low : (layout : Layout) (t : ℕ) → IsPlainLayout layout → FewFirstRows layout → mark_words_of layout t ≤ mark_room
marks_low layout zero plain few = omega (arith, few)
marks_low layout (suc t) plain few = omega (arith, plain.few_rows)

-- They are in front of the tiles,
pub in_front : (layout : Layout) (t w : ℕ) → IsPlainLayout layout → FewFirstRows layout → HasWord layout (Marks t w)
    → place layout (Marks t w) < front
in_front layout t w plain few has = omega (arith, has.0, has.1, marks_low layout t plain few, plain.few_workers)

-- and each has a place of its own.
marks_apart : (layout : Layout) (t w u z : ℕ) → IsPlainLayout layout → FewFirstRows layout → HasWord layout (Marks t w)
    → HasWord layout (Marks u z) → place layout (Marks t w) ≡ place layout (Marks u z) → (t ≡ u) × (w ≡ z)
marks_apart layout t w u z plain few one other e =
    let low : w < mark_room = omega (arith, one.1, marks_low layout t plain few) in
    let low' : z < mark_room = omega (arith, other.1, marks_low layout u plain few) in
    (omega (arith, low, low', e), omega (arith, low, low', e))

-- The mark word of a row is there, if the row is.
pub mark_has : (layout : Layout) (x : ℕ) → IsPlainLayout layout → x < row_count layout
    → HasWord layout (mark_place layout x)
mark_has layout x plain there =
    (omega (arith, block_within layout x plain.some_rows), word_within layout x plain.some_rows there)

-- ---- addresses

not_same : (x y : ℕ) → (x == y) ≡ false → x ≢ y
not_same x y apart e = absurd (let both : true ≡ false = sym (eq-eqb x y e) ∙ apart in cc)

-- Different addresses have different places.
pub place_apart : (layout : Layout) (a b : Address) → IsPlainLayout layout → FewFirstRows layout → HasWord layout a
    → HasWord layout b
    → same_address a b ≡ false → place layout a ≢ place layout b
place_apart layout (Local x) (Local y) plain few one other apart e =
    not_same x y apart (header_row 0 x y (omega arith) e)
place_apart layout (Local x) (Shared y) plain few one other apart e = absurd
    (omega (arith, header_line 0 1 x y (omega arith) (omega arith) e))
place_apart layout (Local x) (Gate y) plain few one other apart e = absurd
    (omega (arith, header_line 0 2 x y (omega arith) (omega arith) e))
place_apart layout (Local x) (KindOf y) plain few one other apart e = absurd
    (omega (arith, header_line 0 3 x y (omega arith) (omega arith) e))
place_apart layout (Local x) (Cell y i) plain few one other apart e =
    header_cell layout 0 x y i (omega arith) one e
place_apart layout (Local x) (ThreadWord u) plain few one other apart e = absurd
    (omega (arith, plain.few_workers, other, e))
place_apart layout (Cell y i) (Local x) plain few one other apart e =
    header_cell layout 0 x y i (omega arith) other (sym e)
place_apart layout (ThreadWord u) (Local x) plain few one other apart e = absurd
    (omega (arith, plain.few_workers, one, e))
place_apart layout (Shared x) (Local y) plain few one other apart e = absurd
    (omega (arith, header_line 1 0 x y (omega arith) (omega arith) e))
place_apart layout (Shared x) (Shared y) plain few one other apart e =
    not_same x y apart (header_row 1 x y (omega arith) e)
place_apart layout (Shared x) (Gate y) plain few one other apart e = absurd
    (omega (arith, header_line 1 2 x y (omega arith) (omega arith) e))
place_apart layout (Shared x) (KindOf y) plain few one other apart e = absurd
    (omega (arith, header_line 1 3 x y (omega arith) (omega arith) e))
place_apart layout (Shared x) (Cell y i) plain few one other apart e =
    header_cell layout 1 x y i (omega arith) one e
place_apart layout (Shared x) (ThreadWord u) plain few one other apart e = absurd
    (omega (arith, plain.few_workers, other, e))
place_apart layout (Cell y i) (Shared x) plain few one other apart e =
    header_cell layout 1 x y i (omega arith) other (sym e)
place_apart layout (ThreadWord u) (Shared x) plain few one other apart e = absurd
    (omega (arith, plain.few_workers, one, e))
place_apart layout (Gate x) (Local y) plain few one other apart e = absurd
    (omega (arith, header_line 2 0 x y (omega arith) (omega arith) e))
place_apart layout (Gate x) (Shared y) plain few one other apart e = absurd
    (omega (arith, header_line 2 1 x y (omega arith) (omega arith) e))
place_apart layout (Gate x) (Gate y) plain few one other apart e = not_same x y apart (header_row 2 x y (omega arith) e)
place_apart layout (Gate x) (KindOf y) plain few one other apart e = absurd
    (omega (arith, header_line 2 3 x y (omega arith) (omega arith) e))
place_apart layout (Gate x) (Cell y i) plain few one other apart e =
    header_cell layout 2 x y i (omega arith) one e
place_apart layout (Gate x) (ThreadWord u) plain few one other apart e = absurd
    (omega (arith, plain.few_workers, other, e))
place_apart layout (Cell y i) (Gate x) plain few one other apart e =
    header_cell layout 2 x y i (omega arith) other (sym e)
place_apart layout (ThreadWord u) (Gate x) plain few one other apart e = absurd
    (omega (arith, plain.few_workers, one, e))
place_apart layout (KindOf x) (Local y) plain few one other apart e = absurd
    (omega (arith, header_line 3 0 x y (omega arith) (omega arith) e))
place_apart layout (KindOf x) (Shared y) plain few one other apart e = absurd
    (omega (arith, header_line 3 1 x y (omega arith) (omega arith) e))
place_apart layout (KindOf x) (Gate y) plain few one other apart e = absurd
    (omega (arith, header_line 3 2 x y (omega arith) (omega arith) e))
place_apart layout (KindOf x) (KindOf y) plain few one other apart e =
    not_same x y apart (header_row 3 x y (omega arith) e)
place_apart layout (KindOf x) (Cell y i) plain few one other apart e =
    header_cell layout 3 x y i (omega arith) one e
place_apart layout (KindOf x) (ThreadWord u) plain few one other apart e = absurd
    (omega (arith, plain.few_workers, other, e))
place_apart layout (Cell y i) (KindOf x) plain few one other apart e =
    header_cell layout 3 x y i (omega arith) other (sym e)
place_apart layout (ThreadWord u) (KindOf x) plain few one other apart e = absurd
    (omega (arith, plain.few_workers, one, e))
place_apart layout (Cell x i) (Cell y j) plain few one other apart e =
    let same = cell_apart layout x i y j one.1 other.1 e in
    absurd (let both : ((x == y) && (i == j)) ≡ true = rw (eq-eqb x y same.0, eq-eqb i j same.1) refl in let wrong :
    true ≡ false = sym both ∙ apart in cc)
place_apart layout (Cell x i) (ThreadWord u) plain few one other apart e = absurd
    (omega (arith, plain.few_workers, other, e))
place_apart layout (ThreadWord u) (Cell x i) plain few one other apart e = absurd
    (omega (arith, plain.few_workers, one, e))
place_apart layout (Marks t w) (Marks u z) plain few one other apart e =
    let same = marks_apart layout t w u z plain few one other e in
    absurd (let both : ((t == u) && (w == z)) ≡ true = rw (eq-eqb t u same.0, eq-eqb w z same.1) refl in let wrong :
    true ≡ false = sym both ∙ apart in cc)
place_apart layout (Marks t w) (Local y) plain few one other apart e = absurd
    (omega (arith, in_front layout t w plain few one, e))
place_apart layout (Local y) (Marks t w) plain few one other apart e = absurd
    (omega (arith, in_front layout t w plain few other, e))
place_apart layout (Marks t w) (Shared y) plain few one other apart e = absurd
    (omega (arith, in_front layout t w plain few one, e))
place_apart layout (Shared y) (Marks t w) plain few one other apart e = absurd
    (omega (arith, in_front layout t w plain few other, e))
place_apart layout (Marks t w) (Gate y) plain few one other apart e = absurd
    (omega (arith, in_front layout t w plain few one, e))
place_apart layout (Gate y) (Marks t w) plain few one other apart e = absurd
    (omega (arith, in_front layout t w plain few other, e))
place_apart layout (Marks t w) (KindOf y) plain few one other apart e = absurd
    (omega (arith, in_front layout t w plain few one, e))
place_apart layout (KindOf y) (Marks t w) plain few one other apart e = absurd
    (omega (arith, in_front layout t w plain few other, e))
place_apart layout (Marks t w) (Cell y i) plain few one other apart e = absurd
    (omega (arith, in_front layout t w plain few one, e))
place_apart layout (Cell y i) (Marks t w) plain few one other apart e = absurd
    (omega (arith, in_front layout t w plain few other, e))
place_apart layout (Marks t w) (ThreadWord u) plain few one other apart e = absurd
    (omega (arith, plain.few_workers, other, e))
place_apart layout (ThreadWord u) (Marks t w) plain few one other apart e = absurd
    (omega (arith, plain.few_workers, one, e))
place_apart layout (ThreadWord t) (ThreadWord u) plain few one other apart e = not_same t u apart e
place_apart layout (Field x) b plain few one other apart e = one
place_apart layout (Resource x) b plain few one other apart e = one
place_apart layout a (Field y) plain few one other apart e = other
place_apart layout a (Resource y) plain few one other apart e = other

-- ---- places are within the table

pub header_within : (layout : Layout) (k x : ℕ) → k < tile_lines → x < row_count layout
    → in_tile k x < word_count layout
header_within layout k x low there = omega (arith, header_front layout k x low there)

pub cell_within : (layout : Layout) (x i : ℕ) → i < layout.cells → x < row_count layout
    → cell_place layout x i < word_count layout
cell_within layout x i low there =
    let more : layout.cells * suc x ≤ layout.cells * row_count layout =
    mul-le-mul_left layout.cells (omega (arith, there)) in
    omega (arith, more, low)

-- Words but for cells are in front of the cells.
pub place_front : (layout : Layout) (a : Address) → IsPlainLayout layout → FewFirstRows layout → HasWord layout a
    → is_cell a ≡ false
    → place layout a < cells_front layout
place_front layout (Local x) plain few has other = header_front layout local_line x (omega arith) has
place_front layout (Shared x) plain few has other = header_front layout shared_line x (omega arith) has
place_front layout (Gate x) plain few has other = header_front layout gate_line x (omega arith) has
place_front layout (KindOf x) plain few has other = header_front layout kind_line x (omega arith) has
place_front layout (Cell x i) plain few has other = absurd cc
place_front layout (ThreadWord t) plain few has other = omega (arith, plain.few_workers, has)
place_front layout (Marks t w) plain few has other = omega (arith, in_front layout t w plain few has)
place_front layout (Field x) plain few has other = absurd has
place_front layout (Resource x) plain few has other = absurd has

pub place_within : (layout : Layout) (a : Address) → IsPlainLayout layout → FewFirstRows layout → HasWord layout a
    → place layout a < word_count layout
place_within layout (Cell x i) plain few has = cell_within layout x i has.1 has.0
place_within layout a plain few has = omega (arith, place_front layout a plain few has refl)
