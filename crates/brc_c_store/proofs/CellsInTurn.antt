-- Cells, and places, that are gone through in turn.
use Rattle.std.proofs.Common.{◌≡◌, ℕ, zero, suc, ◌+◌, ◌<◌, ◌≤◌, true, false, List, [], ◌∷◌, drop, fold}
use Rattle.std.proofs.Common.{slice_get, cond, Option, None, Some, refl, sym, ap, ◌∙◌, add-one}
use Rattle.std.proofs.lemmas.List.{drop-drop}
use Rattle.std.specs.List.{range_with_len}
use Rattle.brc_c_store.specs.declared.value.ObjectId.{ObjectId}
use Rattle.brc_c_store.specs.declared.cell.Touched.{Touched}
use Rattle.brc_c_store.specs.Values.{object_in, has_one}
use Rattle.brc_c_store.specs.Stores.{Contents, object_at, with_object}
use Rattle.brc_c_store.specs.Cells.{given_object, with_object_given, with_given, handed_back, handed_back_at}
use Rattle.brc_c_store.specs.Cells.{handed_back_of, is_meant}
use Rattle.brc_c_store.proofs.Ranges.{numbers_from, from_first, from_next, from_end}

-- ---- a reference for a cell changes no cell

cells_of_given : (c : Contents) (t : Touched) (o : Option ObjectId) → (with_object_given c t o).cells ≡ c.cells
cells_of_given c t None = refl
cells_of_given c t (Some id) =
    let given = with_object c id (given_object t (object_at c id)) in
    elim (has_one (object_at c id)) as (λ b. (cond b given c).cells ≡ c.cells)
    [ true ↦ refl | false ↦ refl ]

pub cells_of_handed_back : (c : Contents) (t : Touched) → (handed_back c t).cells ≡ c.cells
cells_of_handed_back c t =
    elim t.is_owner as (λ b. (cond b c (with_given c t)).cells ≡ c.cells)
    [ true ↦ refl | false ↦ cells_of_given c t (object_in t.value) ]

pub cells_of_handed_back_at : (c : Contents) (o : Option Touched) → (handed_back_at c o).cells ≡ c.cells
cells_of_handed_back_at c None = refl
cells_of_handed_back_at c (Some t) = cells_of_handed_back c t

pub cells_of_handed_back_of : (c : Contents) (id : ObjectId) (o : Option Touched)
    → (handed_back_of c id o).cells ≡ c.cells
cells_of_handed_back_of c id o =
    elim (is_meant (Some id) o) as (λ b. (cond b (handed_back_at c o) c).cells ≡ c.cells)
    [ true ↦ cells_of_handed_back_at c o | false ↦ refl ]

-- ---- the cell at a place is the next one

module _ (f : Contents → Option Touched → Contents) (none : (c : Contents) → f c None ≡ c) where
  next_suc : (c : Contents) (ts : List Touched) (at : ℕ)
      → fold (λ d t. f d (Some t)) (f c (slice_get ts at)) (drop (suc at) ts)
      ≡ fold (λ d t. f d (Some t)) c (drop at ts)
  next_suc c [] zero = none c
  next_suc c [] (suc at) = none c
  next_suc c (t ∷ ts) zero = refl
  next_suc c (t ∷ ts) (suc at) = next_suc c ts at

  pub cell_next : (c d : Contents) (at : ℕ) → d ≡ f c (slice_get c.cells at) → d.cells ≡ c.cells
      → fold (λ e t. f e (Some t)) d (drop (at + 1) d.cells) ≡ fold (λ e t. f e (Some t)) c (drop at c.cells)
  cell_next c d at e same =
      ap (λ ts. fold (λ e t. f e (Some t)) d (drop (at + 1) ts)) same
      ∙ ap (λ x. fold (λ e t. f e (Some t)) x (drop (at + 1) c.cells)) e
      ∙ ap (λ n. fold (λ e t. f e (Some t)) (f c (slice_get c.cells at)) (drop n c.cells)) (add-one at)
      ∙ next_suc c c.cells at

-- ---- the number after another

module _ (f : Contents → ℕ → Contents) where
  pub place_first : (c : Contents) (end : ℕ) → fold f c (numbers_from 0 end) ≡ fold f c (range_with_len 0 end)
  place_first c end = ap (fold f c) (from_first end)

  pub place_next : (c d : Contents) (at end : ℕ) → d ≡ f c at → at < end
      → fold f d (numbers_from (at + 1) end) ≡ fold f c (numbers_from at end)
  place_next c d at end e h =
      ap (λ x. fold f x (numbers_from (at + 1) end)) e ∙ sym (ap (fold f c) (from_next at end h))

  pub place_end : (c : Contents) (at end : ℕ) → end ≤ at → fold f c (numbers_from at end) ≡ c
  place_end c at end h = ap (fold f c) (from_end at end h)

pub cells_after : (at : ℕ) (ts : List Touched) → drop 1 (drop at ts) ≡ drop (at + 1) ts
cells_after at ts = drop-drop 1 at ts
