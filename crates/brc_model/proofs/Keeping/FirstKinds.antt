-- In the rooted machine (`FirstThreads`) each row's kind word says its kind, its cells hold what their words say, and
-- no row has a resource.
use Rattle.std.proofs.Common.{◌≡◌, ◌≢◌, ℕ, ◌+◌, ◌<◌, ◌≤◌, Bool, true, cond, List, length, inl, inr, refl, ap, ◌∙◌, arith}
use Rattle.std.specs.Prelude.{◌==◌, ◌||◌}
use Rattle.std.proofs.lemmas.Bool.{eq-eqb, le-ltb}
use Rattle.brc_word.specs.declared.values.TheConstants.{LIST, FILE, SOCK}
use Rattle.brc_word.specs.Words.{immortal_local, local_word, kind_part, argument_part}
use Rattle.brc_model.specs.declared.address.Address.TheVariants.{Cell}
use Rattle.brc_model.specs.declared.layout.Layout.{Layout}
use Rattle.brc_model.specs.Limits.{cell_limit}
use Rattle.brc_model.specs.Layout.{first_immortal_list, first_number}
use Rattle.brc_model.specs.Kinds.{kind_number, kind_numbered}
use Rattle.brc_model.specs.References.{one_if, held, word_holds, cell_reference}
use Rattle.brc_model.specs.Duties.{cells_of, resources_of}
use Rattle.brc_model.specs.Machine.{Unborn, Live}
use Rattle.brc_model.specs.FirstRows.{HasLines, FirstRow, NoneRow, RootRow, ImmortalList, Number, UnbornRow, first_row, line_at, start, local_of_first, kind_word_of_first, cell_of_first, life_of_first, kind_of_first, list_references}
use Rattle.brc_model.specs.StepMachine.{callers_below, rooted_memory, first_abstract}
use Rattle.brc_model.specs.RowInvariant.{weight}
use Rattle.brc_model.specs.Resources.{lenders, closing, ending, Resources, ResourcesFit}
use Rattle.brc_model.specs.Invariant.{CellFits, IsImmortalKind}
use Rattle.brc_model.proofs.Keeping.Callers.{callers_off_cells}
use Rattle.brc_model.proofs.Keeping.FirstRows.{IsAt, first_at, is_immortal_first, line_short, value_small}
use Rattle.brc_model.proofs.Keeping.FirstReferences.{held-append, lists_off, lists_hold}
use Rattle.brc_model.proofs.Keeping.FirstThreads.{idle_actors, no_weight, none_lend}

-- ---- kinds

-- The kind word of each row that is there from the start says its kind.
pub kind_named : (lines : List (List ℕ)) (layout : Layout) → HasLines lines layout → layout.cells ≤ cell_limit
    → (r : FirstRow) → life_of_first r ≢ Unborn → kind_part (kind_word_of_first lines r) ≡ kind_number (kind_of_first r)
kind_named lines layout has few NoneRow born = omega arith
kind_named lines layout has few RootRow born = omega arith
kind_named lines layout has few (ImmortalList s) born =
    omega (arith, line_short layout.cells lines s has.each, few)
kind_named lines layout has few (Number k) born = omega (arith, value_small layout.cells lines k has.each)
kind_named lines layout has few UnbornRow born = absurd (born refl)

pub kind_stored : (lines : List (List ℕ)) (r : FirstRow) → life_of_first r ≢ Unborn → 0 < kind_word_of_first lines r
kind_stored lines NoneRow born = omega arith
kind_stored lines RootRow born = omega arith
kind_stored lines (ImmortalList s) born = omega arith
kind_stored lines (Number k) born = omega arith
kind_stored lines UnbornRow born = absurd (born refl)

-- An immortal row's kind word is that of none or of a list.
pub immortal_kind : (lines : List (List ℕ)) (layout : Layout) → HasLines lines layout → layout.cells ≤ cell_limit
    → (r : FirstRow) → is_immortal_first r ≡ true → IsImmortalKind (kind_word_of_first lines r)
immortal_kind lines layout has few NoneRow immortal = inl refl
immortal_kind lines layout has few RootRow immortal = absurd cc
immortal_kind lines layout has few (ImmortalList s) immortal =
    inr (ap kind_numbered (kind_named lines layout has few (ImmortalList s)
    (λ e. let wrong : Live ≡ Unborn = e in cc)))
immortal_kind lines layout has few (Number k) immortal = absurd cc
immortal_kind lines layout has few UnbornRow immortal = absurd cc

pub immortal_local_word : (callers : ℕ) (r : FirstRow) → is_immortal_first r ≡ true
    → local_of_first callers r ≡ local_word 0 immortal_local
immortal_local_word callers NoneRow immortal = refl
immortal_local_word callers RootRow immortal = absurd cc
immortal_local_word callers (ImmortalList s) immortal = refl
immortal_local_word callers (Number k) immortal = absurd cc
immortal_local_word callers UnbornRow immortal = absurd cc

-- ---- cells

-- What a cell holds is what its word says.
cell_holds : (lines : List (List ℕ)) (layout : Layout) (callers x i o : ℕ) → HasLines lines layout
    → (r : FirstRow) → IsAt layout x r
    → held (cell_reference x i o) (list_references (first_immortal_list layout) (first_number layout) lines)
    ≡ word_holds (cell_of_first lines layout i r) o
cell_holds lines layout callers x i o has NoneRow at =
    lists_off (first_immortal_list layout) (first_number layout) lines x i o (inl (omega (arith, at)))
cell_holds lines layout callers x i o has RootRow at =
    lists_off (first_immortal_list layout) (first_number layout) lines x i o (inl (omega (arith, at)))
cell_holds lines layout callers x i o has (ImmortalList s) at =
    ap (λ (y : ℕ). held (cell_reference y i o)
    (list_references (first_immortal_list layout) (first_number layout) lines)) at.1
    ∙ lists_hold (first_immortal_list layout) (first_number layout) lines s i o
cell_holds lines layout callers x i o has (Number k) at =
    lists_off (first_immortal_list layout) (first_number layout) lines x i o (inr (omega (arith, at.1, has.lists)))
cell_holds lines layout callers x i o has UnbornRow at =
    lists_off (first_immortal_list layout) (first_number layout) lines x i o (elim at.1 [
      | inl before ↦ inl before
      | inr past ↦ inr (omega (arith, past, has.lists))
    ])

pub rooted_holds : (lines : List (List ℕ)) (layout : Layout) (callers x i o : ℕ) → HasLines lines layout
    → held (cell_reference x i o) (first_abstract lines layout callers).references
    ≡ word_holds (rooted_memory lines layout callers (Cell x i)) o
rooted_holds lines layout callers x i o has =
    omega (
      arith,
      held-append (cell_reference x i o)
          (list_references (first_immortal_list layout) (first_number layout) lines) (callers_below callers),
      cell_holds lines layout callers x i o has (first_row layout x) (first_at layout x),
      callers_off_cells callers x i o,
    )

pub cell_fits : (lines : List (List ℕ)) (layout : Layout) (i : ℕ) (r : FirstRow)
    → CellFits (life_of_first r) (cell_of_first lines layout i r)
cell_fits lines layout i NoneRow = tt
cell_fits lines layout i RootRow = tt
cell_fits lines layout i (ImmortalList s) = tt
cell_fits lines layout i (Number k) = tt
cell_fits lines layout i UnbornRow = refl

-- A list has as many cells as its line has values.
pub list_cells : (lines : List (List ℕ)) (layout : Layout) (s : ℕ) → HasLines lines layout → layout.cells ≤ cell_limit
    → cells_of (kind_word_of_first lines (ImmortalList s)) ≡ length (line_at lines s)
list_cells lines layout s has few =
    let short = line_short layout.cells lines s has.each in
    let word = kind_word_of_first lines (ImmortalList s) in
    let list : kind_part word ≡ LIST = omega (arith, short, few) in
    let part : argument_part word ≡ length (line_at lines s) = omega (arith, short, few) in
    ap (λ (b : Bool). cond b (argument_part word) 0) (eq-eqb (kind_part word) LIST list) ∙ part

-- A number has none.
pub number_cells : (lines : List (List ℕ)) (layout : Layout) (k : ℕ) → HasLines lines layout
    → layout.cells ≤ cell_limit → cells_of (kind_word_of_first lines (Number k)) ≡ 0
number_cells lines layout k has few =
    let word = kind_word_of_first lines (Number k) in
    ap (λ (n : ℕ). cond (n == LIST) (argument_part word) 0)
    (kind_named lines layout has few (Number k) (λ e. let wrong : Live ≡ Unborn = e in cc))

pub cell_ends : (lines : List (List ℕ)) (layout : Layout) (i : ℕ) → HasLines lines layout → layout.cells ≤ cell_limit
    → (r : FirstRow) → cells_of (kind_word_of_first lines r) ≤ i → cell_of_first lines layout i r ≡ 0
cell_ends lines layout i has few NoneRow past = refl
cell_ends lines layout i has few RootRow past = refl
cell_ends lines layout i has few (ImmortalList s) past =
    ap (λ (b : Bool). cond b (first_number layout + start lines s + i + 1) 0)
    (le-ltb i (length (line_at lines s)) (omega (arith, past, list_cells lines layout s has few)))
cell_ends lines layout i has few (Number k) past = refl
cell_ends lines layout i has few UnbornRow past = refl

-- ---- resources

-- No row that is there from the start has a resource.
first_resources : (lines : List (List ℕ)) (layout : Layout) → HasLines lines layout → layout.cells ≤ cell_limit
    → (r : FirstRow) → resources_of (kind_word_of_first lines r) ≡ 0
first_resources lines layout has few NoneRow = refl
first_resources lines layout has few RootRow = refl
first_resources lines layout has few (ImmortalList s) =
    ap (λ (n : ℕ). one_if ((n == FILE) || (n == SOCK)))
    (kind_named lines layout has few (ImmortalList s) (λ e. let wrong : Live ≡ Unborn = e in cc))
first_resources lines layout has few (Number k) =
    ap (λ (n : ℕ). one_if ((n == FILE) || (n == SOCK)))
    (kind_named lines layout has few (Number k) (λ e. let wrong : Live ≡ Unborn = e in cc))
first_resources lines layout has few UnbornRow = refl

-- the resources of a row with this kind word, while all threads are idle
abbrev idle_resources : Layout → ℕ → ℕ → Resources
idle_resources layout x word = record {
  all = resources_of word;
  field = 0;
  lent = lenders x (idle_actors layout);
  closing = weight (closing x) (idle_actors layout);
  closed = 0;
  ending = weight (ending x) (idle_actors layout);
}

live_resources : (layout : Layout) (x word : ℕ) → resources_of word ≡ 0
    → ResourcesFit Live (idle_resources layout x word)
live_resources layout x word none = (omega (arith, none_lend x layout, no_weight (closing x) layout, none), refl)

pub resources_fit : (lines : List (List ℕ)) (layout : Layout) (x : ℕ) → HasLines lines layout
    → layout.cells ≤ cell_limit → (r : FirstRow)
    → ResourcesFit (life_of_first r) (idle_resources layout x (kind_word_of_first lines r))
resources_fit lines layout x has few NoneRow =
    live_resources layout x (kind_word_of_first lines NoneRow) (first_resources lines layout has few NoneRow)
resources_fit lines layout x has few RootRow =
    live_resources layout x (kind_word_of_first lines RootRow) (first_resources lines layout has few RootRow)
resources_fit lines layout x has few (ImmortalList s) =
    live_resources layout x (kind_word_of_first lines (ImmortalList s))
    (first_resources lines layout has few (ImmortalList s))
resources_fit lines layout x has few (Number k) =
    live_resources layout x (kind_word_of_first lines (Number k)) (first_resources lines layout has few (Number k))
resources_fit lines layout x has few UnbornRow = refl
