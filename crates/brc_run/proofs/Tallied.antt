-- What the end of a heap has in front of its static lists and behind them is what it has in all.
use Rattle.std.proofs.Common.{◌≡◌, ℕ, ◌+◌, Bool, List, ◌++◌, map, sym, ap, ◌∙◌}
use Rattle.std.proofs.lemmas.List.{map-append}
use Rattle.std.specs.Prelude.{◌&&◌, not, filter, count_by}
use Rattle.brc_model.specs.declared.layout.Layout.{Layout}
use Rattle.brc_model.specs.Layout.{root_row, row_count, first_immortal_list, first_number}
use Rattle.brc_table.specs.Ending.{EndState}
use Rattle.brc_heap.specs.Ends.{was_born, is_closed}
use Rattle.brc_run.specs.Tallies.{rows_between, rows_behind_none, is_created, has_closed, is_open, is_left, left_at}
use Rattle.brc_run.proofs.Rows.{kept_in_two, count_in_two}

module _ (end : EndState) (layout : Layout) (same : layout ≡ end.layout) where
  -- The two stretches, by the layout that is passed, are those of the end.
  stretches : {A : Type 0} (f : List ℕ → List ℕ → A)
      → f (rows_between root_row (first_immortal_list layout))
      (rows_between (first_number layout) (row_count end.layout))
      ≡ f (rows_between root_row (first_immortal_list end.layout))
      (rows_between (first_number end.layout) (row_count end.layout))
  stretches f =
      ap (λ (l : Layout). f (rows_between root_row (first_immortal_list l))
      (rows_between (first_number l) (row_count end.layout))) same

  pub created_in_two : count_by (was_born end) (rows_between root_row (first_immortal_list layout))
      + count_by (was_born end) (rows_between (first_number layout) (row_count end.layout))
      ≡ count_by (is_created end) (rows_behind_none end)
  created_in_two =
      stretches (λ front rear. count_by (was_born end) front + count_by (was_born end) rear)
      ∙ sym (count_in_two end.layout (is_created end) (was_born end)
      (λ x e. ap (λ (b : Bool). not b && was_born end x) e) (λ x e. ap (λ (b : Bool). not b && was_born end x) e))

  pub closed_in_two : count_by (is_closed end) (rows_between root_row (first_immortal_list layout))
      + count_by (is_closed end) (rows_between (first_number layout) (row_count end.layout))
      ≡ count_by (has_closed end) (rows_behind_none end)
  closed_in_two =
      stretches (λ front rear. count_by (is_closed end) front + count_by (is_closed end) rear)
      ∙ sym (count_in_two end.layout (has_closed end) (is_closed end)
      (λ x e. ap (λ (b : Bool). not b && is_closed end x) e) (λ x e. ap (λ (b : Bool). not b && is_closed end x) e))

  pub left_in_two : map (left_at end) (filter (is_open end) (rows_between root_row (first_immortal_list layout)))
      ++ map (left_at end) (filter (is_open end) (rows_between (first_number layout) (row_count end.layout)))
      ≡ map (left_at end) (filter (is_left end) (rows_behind_none end))
  left_in_two =
      stretches (λ front rear. map (left_at end) (filter (is_open end) front)
      ++ map (left_at end) (filter (is_open end) rear))
      ∙ sym (map-append (left_at end) (filter (is_open end) (rows_between root_row (first_immortal_list end.layout)))
      (filter (is_open end) (rows_between (first_number end.layout) (row_count end.layout))))
      ∙ ap (map (left_at end)) (sym (kept_in_two end.layout (is_left end) (is_open end)
      (λ x e. ap (λ (b : Bool). (not b && was_born end x) && not (is_closed end x)) e)
      (λ x e. ap (λ (b : Bool). (not b && was_born end x) && not (is_closed end x)) e)))
