-- In the rooted machine (`FirstThreads`) each row's counts are its references: the root has as many as threads hold it,
-- a number has one, and a row in which no object is born has none.
use Rattle.std.proofs.Common.{◌≡◌, ℕ, ◌+◌, ◌<◌, false, List, inl, inr, refl, sym, ap, ◌∙◌, arith}
use Rattle.brc_word.specs.Words.{local_word, most_local, fresh_word, mark_at}
use Rattle.brc_model.specs.declared.layout.Layout.{Layout}
use Rattle.brc_model.specs.Layout.{root_row, block_of, mark_bit, first_immortal_list, first_number, IsCounted}
use Rattle.brc_model.specs.AbstractState.{references_to}
use Rattle.brc_model.specs.Machine.{Live}
use Rattle.brc_model.specs.FirstRows.{HasLines, FirstRow, NoneRow, RootRow, ImmortalList, Number, UnbornRow, first_row, local_of_first, life_of_first, first_life, list_references}
use Rattle.brc_model.specs.StepMachine.{callers_below, first_abstract}
use Rattle.brc_model.specs.RowInvariant.{waits, carries, merges, decides, weight, Numbers, IsDefault, AboveZero, InOwned, RowInvariant}
use Rattle.brc_model.specs.Invariant.{numbers_of}
use Rattle.brc_model.proofs.Basics.Marks.{blank_mark}
use Rattle.brc_model.proofs.Basics.Blocks.{front_block, rear_block}
use Rattle.brc_model.proofs.Keeping.Callers.{root_references, other_references}
use Rattle.brc_model.proofs.Keeping.FirstRows.{IsAt, first_at, is_immortal_first, immortal_first}
use Rattle.brc_model.proofs.Keeping.FirstReferences.{references_to-append, lists_name_none, lists_name_one}
use Rattle.brc_model.proofs.Keeping.FirstThreads.{idle_actors, rooted_machine, IsRooted, no_weight}

-- How many references the bag has to a row: the callers' to the root, and one to each number.
references_at : (lines : List (List ℕ)) (layout : Layout) (callers x : ℕ)
    → references_to x (first_abstract lines layout callers).references
    ≡ references_to x (list_references (first_immortal_list layout) (first_number layout) lines)
    + references_to x (callers_below callers)
references_at lines layout callers x =
    references_to-append x (list_references (first_immortal_list layout) (first_number layout) lines)
    (callers_below callers)

root_is_held : (lines : List (List ℕ)) (layout : Layout) (callers : ℕ)
    → references_to root_row (first_abstract lines layout callers).references ≡ callers
root_is_held lines layout callers =
    omega (
      arith,
      references_at lines layout callers root_row,
      lists_name_none (first_immortal_list layout) (first_number layout) lines root_row (inl (omega arith)),
      root_references callers,
    )

number_is_held : (lines : List (List ℕ)) (layout : Layout) (callers k x : ℕ) → HasLines lines layout
    → k < layout.numbers → x ≡ first_number layout + k
    → references_to x (first_abstract lines layout callers).references ≡ 1
number_is_held lines layout callers k x has low at =
    omega (
      arith,
      references_at lines layout callers x,
      lists_name_one (first_immortal_list layout) (first_number layout) lines x (omega (arith, at))
          (omega (arith, at, low, has.numbers)),
      other_references callers x (λ e. absurd (omega (arith, at, e))),
    )

unborn_is_free : (lines : List (List ℕ)) (layout : Layout) (callers x : ℕ) → HasLines lines layout
    → IsAt layout x UnbornRow → references_to x (first_abstract lines layout callers).references ≡ 0
unborn_is_free lines layout callers x has at =
    omega (
      arith,
      references_at lines layout callers x,
      lists_name_none (first_immortal_list layout) (first_number layout) lines x (elim at.1 [
        | inl before ↦ inl (omega (arith, before))
        | inr past ↦ inr (omega (arith, past, has.numbers))
      ]),
      other_references callers x (λ e. absurd (omega (arith, at.0, e))),
    )

-- the numbers of a row with this local word and that many references, while all threads are idle
abbrev idle_numbers : Layout → ℕ → ℕ → ℕ → Numbers
idle_numbers layout x local references = record {
  local = local;
  shared = fresh_word;
  mark = mark_at 0 (mark_bit layout x);
  references = references;
  waiting = weight (waits x) (idle_actors layout);
  carried = weight (carries x) (idle_actors layout);
  merging = weight (merges x) (idle_actors layout);
  deciding = weight (decides x) (idle_actors layout);
}

-- A live row of main's has as many references as its local count says.
owned_row : (layout : Layout) (x count references : ℕ) → block_of layout x ≡ 0 → references ≡ count → 0 < count
    → count < most_local → RowInvariant (block_of layout x) Live (idle_numbers layout x (local_word 0 count) references)
owned_row layout x count references block same some few =
    let mark = blank_mark (mark_bit layout x) in
    record {
      sum = omega (arith, few, same, mark, no_weight (waits x) layout, no_weight (carries x) layout);
      mode = InOwned (record {
        owned = omega (arith, few, block);
        low = omega (arith, few);
        merging = no_weight (merges x) layout;
        carried = no_weight (carries x) layout;
        decided = AboveZero (omega (arith, few, some)) (no_weight (decides x) layout);
        phased = IsDefault (omega arith) (omega (arith, mark, no_weight (waits x) layout)) (omega arith);
      });
    }

-- Each row's counts are its references: the root has as many as threads hold it, a number has one, and a row in which
-- no object is born has none.
row_fits : (lines : List (List ℕ)) (layout : Layout) (callers x : ℕ) → IsRooted lines layout callers
    → (r : FirstRow) → IsAt layout x r → is_immortal_first r ≡ false
    → RowInvariant (block_of layout x) (life_of_first r)
    (idle_numbers layout x (local_of_first callers r)
    (references_to x (first_abstract lines layout callers).references))
row_fits lines layout callers x is NoneRow at counted = absurd cc
row_fits lines layout callers x is RootRow at counted =
    let few : callers < most_local = omega (arith, is.few_callers, is.few_workers) in
    let held_by : references_to x (first_abstract lines layout callers).references ≡ callers =
    ap (λ (y : ℕ). references_to y (first_abstract lines layout callers).references) at
    ∙ root_is_held lines layout callers in
    owned_row layout x callers _ (front_block layout x (omega (arith, at))) held_by is.some_callers few
row_fits lines layout callers x is (ImmortalList s) at counted = absurd cc
row_fits lines layout callers x is (Number k) at counted =
    owned_row layout x 1 _ (rear_block layout x (omega (arith, at.1)))
    (number_is_held lines layout callers k x is.has_lines at.0 at.1) (omega arith) (omega arith)
row_fits lines layout callers x is UnbornRow at counted = record {
  local = refl;
  shared = refl;
  mark = blank_mark (mark_bit layout x);
  references = unborn_is_free lines layout callers x is.has_lines at;
  waiting = no_weight (waits x) layout;
  carried = no_weight (carries x) layout;
  merging = no_weight (merges x) layout;
  deciding = no_weight (decides x) layout;
}

pub rooted_rows : (lines : List (List ℕ)) (layout : Layout) (callers : ℕ) → IsRooted lines layout callers → (x : ℕ)
    → IsCounted layout x
    → RowInvariant (block_of layout x) (first_life layout x) (numbers_of (rooted_machine lines layout callers) x)
rooted_rows lines layout callers is x counted =
    row_fits lines layout callers x is (first_row layout x) (first_at layout x)
    (sym (immortal_first layout x) ∙ counted)
