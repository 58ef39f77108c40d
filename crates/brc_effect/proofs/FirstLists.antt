-- Where the values of a line are among all values, and what one list or one number more does to the words.
use Rattle.std.proofs.Common.{◌≡◌, ℕ, zero, suc, ◌+◌, ◌-◌, ◌<◌, ◌≤◌, List, [], ◌∷◌, length, get_or, inl, inr, refl, ap, ◌∙◌, arith}
use Rattle.std.proofs.lemmas.Bool.Decides.{eqb_tells, leb_tells}
use Rattle.std.proofs.lemmas.List.{get_or_read_under}
use Rattle.std.proofs.lemmas.List.Sums.{sum_by-cons}
use Rattle.brc_model.specs.declared.address.Address.{Address}
use Rattle.brc_model.specs.declared.layout.Layout.{Layout}
use Rattle.brc_model.specs.FirstRows.{line_at, start, value_count, value_of}
use Rattle.brc_model.specs.Layout.{first_immortal_list, first_number}
use Rattle.brc_effect.specs.FirstLists.{with_number, with_numbers, with_list, with_lists}

-- ---- lines

-- The values in front of the next line are those in front of this one and this one's.
pub start_next : (lines : List (List ℕ)) (s : ℕ) → start lines (suc s) ≡ start lines s + length (line_at lines s)
start_next [] zero = refl
start_next [] (suc s) = refl
start_next (line ∷ lines) zero = omega arith
start_next (line ∷ lines) (suc s) = omega (arith, start_next lines s)

-- In front of the end are all values.
pub start_all : (lines : List (List ℕ)) → start lines (length lines) ≡ value_count lines
start_all [] = refl
start_all (line ∷ lines) = omega (arith, start_all lines, sum_by-cons length line lines)

-- The values of a line come before those of the later lines.
pub start_low : (lines : List (List ℕ)) (s j : ℕ) → j < s → start lines j + length (line_at lines j) ≤ start lines s
start_low lines zero j low = absurd (omega (arith, low))
start_low lines (suc s) j low =
    elim (eqb_tells s j) [
      | inl here ↦ rw here.1 (omega (arith, start_next lines j))
      | inr apart ↦
          omega (arith, start_next lines s, start_low lines s j (omega (arith, low, apart.1)))
    ]

-- The value k is this one of this line.
pub record Placed (lines : List (List ℕ)) (k : ℕ) : Type 0 where
  pub line : ℕ
  pub cell : ℕ
  pub low_line : line < length lines
  pub low_cell : cell < length (line_at lines line)
  pub is : k ≡ start lines line + cell
  pub value : value_of lines k ≡ get_or (line_at lines line) cell 0

pub placed : (lines : List (List ℕ)) (k : ℕ) → k < value_count lines → Placed lines k
placed [] k low = absurd (omega (arith, low))
placed (line ∷ lines) k low =
    elim (leb_tells (suc k) (length line)) [
      | inl inside ↦ record {
        line = 0;
        cell = k;
        low_line = omega arith;
        low_cell = inside.1;
        is = omega arith;
        value = rw inside.0 refl;
      }
      | inr past ↦
          let p = placed lines (k - length line) (omega (arith, low, sum_by-cons length line lines, past.1)) in
          record {
            line = suc p.line;
            cell = p.cell;
            low_line = omega (arith, p.low_line);
            low_cell = p.low_cell;
            is = omega (arith, p.is, past.1);
            value = rw past.0 p.value;
          }
    ]

-- The values of each line are among all values.
pub line_within : (lines : List (List ℕ)) (s : ℕ) → s < length lines
    → start lines s + length (line_at lines s) ≤ value_count lines
line_within lines s low = omega (arith, start_low lines (length lines) s low, start_all lines)

-- ---- one list and one number more

-- Once the next cell names its number, one cell more does.
pub number_next : (memory : Address → ℕ) (list first : ℕ) (line : List ℕ) (i cell row : ℕ)
    → cell ≡ i → row ≡ first + i
    → with_number (with_numbers memory list first line i) list cell row (get_or line i 0)
    ≡ with_numbers memory list first line (i + 1)
number_next memory list first line i cell row this place =
    let next : suc i ≡ i + 1 = omega arith in
    let one : with_number (with_numbers memory list first line i) list cell row (get_or line i 0)
    ≡ with_numbers memory list first line (suc i) = rw (this, place) refl in
    one ∙ ap (with_numbers memory list first line) next

-- The line has its length.
pub line_length : (lines : List (List ℕ)) (s : ℕ) (line : List ℕ) → s < length lines → line ≡ get_or lines s line
    → length line ≡ length (line_at lines s)
line_length lines s line low is =
    ap (λ (l : List ℕ). length l) (get_or_read_under lines s (length lines) line [] is low refl)

-- Once the next line is an immortal list, one line more is.
pub list_next : (memory : Address → ℕ) (lines : List (List ℕ)) (layout : Layout) (s list first : ℕ) (line : List ℕ)
    → s < length lines → list ≡ first_immortal_list layout + s → first ≡ first_number layout + start lines s
    → line ≡ get_or lines s line
    → with_list (with_lists memory lines layout s) list first line ≡ with_lists memory lines layout (s + 1)
list_next memory lines layout s list first line low this place is =
    let read : line ≡ line_at lines s = get_or_read_under lines s (length lines) line [] is low refl in
    let next : suc s ≡ s + 1 = omega arith in
    let one : with_list (with_lists memory lines layout s) list first line ≡ with_lists memory lines layout (suc s) =
    rw (this, place, read) refl in
    one ∙ ap (with_lists memory lines layout) next
