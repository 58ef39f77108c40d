-- A state that becomes the entry of a point, and the points found, in their order.
use Rattle.std.proofs.Common.{◌≡◌, ℕ, zero, suc, ◌-◌, ◌<◌, cond, List, [], ◌∷◌, ◌++◌, length}
use Rattle.std.proofs.Common.{Option, refl, sym, ap, ◌∙◌, subst, inl, inr, arith}
use Rattle.std.specs.Prelude.{None, Some, ◌⊎◌, replicate, is_none, is_some, slice_get, slice_set}
use Rattle.std.specs.List.{count_by, slice_index_or}
use Rattle.std.proofs.lemmas.Bool.{cases_lt, cases_eq}
use Rattle.std.proofs.lemmas.List.{length-set, length_push, get_or-set_same, get_or-set_other, get_or_past}
use Rattle.std.proofs.lemmas.List.Sums.{sum_by-set}
use Rattle.std.proofs.lemmas.Option.{none-some, same_Some, slice_get-get_or}
use Rattle.brc_model.specs.declared.state.State.{State}
use Rattle.brc_check.specs.declared.filling.Filling.{Filling}
use Rattle.brc_check.specs.Filling.{entry_at, first_filling, settled, IsInOrder}
use Rattle.brc_check.proofs.Pushing.{push-kept, push-last, push-cases}

pub entry-within : (entries : List (Option State)) (k : ℕ) (s : State) → entry_at entries k ≡ Some s
    → k < length entries
entry-within entries k s e =
    elim (cases_lt k (length entries)) [
      | inl lt ↦ lt
      | inr le ↦ absurd (none-some s (sym (get_or_past entries k None le) ∙ e))
    ]

-- ---- one state settled

-- what is known before and after a state is settled
pub record Settles (old new : Filling) (at : ℕ) (s : State) : Type 0 where
  pub same_length : length new.entries ≡ length old.entries
  pub kept : (k : ℕ) (t : State) → entry_at old.entries k ≡ Some t → entry_at new.entries k ≡ Some t
  pub fresh : (k : ℕ) (t : State) → entry_at new.entries k ≡ Some t
      → (entry_at old.entries k ≡ Some t) ⊎ ((k ≡ at) × (t ≡ s))
  pub turns : (turn k : ℕ) → slice_get old.order turn ≡ Some k → slice_get new.order turn ≡ Some k
  pub in_order : IsInOrder old → IsInOrder new

-- the state is a point's first entry
abbrev pub with_found : Filling → ℕ → State → Filling
with_found filling at s =
    record { entries = slice_set filling.entries at (Some s); order = filling.order ++ at ∷ [] }

found-same : (filling : Filling) (at k : ℕ) (s : State) → at < length filling.entries → k ≡ at
    → entry_at (with_found filling at s).entries k ≡ Some s
found-same filling at k s lt same =
    ap (entry_at (slice_set filling.entries at (Some s))) same ∙ get_or-set_same filling.entries at (Some s) None lt

found-kept : (filling : Filling) (at : ℕ) (s : State) → entry_at filling.entries at ≡ None → (k : ℕ) (t : State)
    → entry_at filling.entries k ≡ Some t → entry_at (with_found filling at s).entries k ≡ Some t
found-kept filling at s none k t e =
    elim (cases_eq k at) [
      | inl same ↦ absurd (none-some t (sym none ∙ ap (entry_at filling.entries) (sym same) ∙ e))
      | inr other ↦ get_or-set_other filling.entries at k (Some s) None other ∙ e
    ]

found-fresh : (filling : Filling) (at : ℕ) (s : State) → at < length filling.entries → (k : ℕ) (t : State)
    → entry_at (with_found filling at s).entries k ≡ Some t
    → (entry_at filling.entries k ≡ Some t) ⊎ ((k ≡ at) × (t ≡ s))
found-fresh filling at s lt k t e =
    elim (cases_eq k at) [
      | inl same ↦ inr (same, same_Some t s (sym e ∙ found-same filling at k s lt same))
      | inr other ↦ inl (sym (get_or-set_other filling.entries at k (Some s) None other) ∙ e)
    ]

abbrev one_if_some : Option State → ℕ
one_if_some o = cond (is_some o) 1 0

-- one entry more, and one point more
found-once : (filling : Filling) (at : ℕ) (s : State) → at < length filling.entries
    → entry_at filling.entries at ≡ None → length filling.order ≡ count_by is_some filling.entries
    → length (filling.order ++ at ∷ []) ≡ count_by is_some (slice_set filling.entries at (Some s))
found-once filling at s lt none once =
    let more = sum_by-set one_if_some filling.entries at (Some s) None lt in
    let no_entry : one_if_some (entry_at filling.entries at) ≡ 0 = ap one_if_some none in
    let long = length_push filling.order at in
    omega (arith, more, no_entry, long, once)

found-in_order : (filling : Filling) (at : ℕ) (s : State) → at < length filling.entries
    → entry_at filling.entries at ≡ None → IsInOrder filling → IsInOrder (with_found filling at s)
found-in_order filling at s lt none ordered = record {
  found = λ k t e. elim (found-fresh filling at s lt k t e) [
    | inl old ↦ let turn = ordered.found k t old in (turn.0, push-kept filling.order at turn.0 k turn.1)
    | inr new ↦ (
      length filling.order,
      push-last filling.order at ∙ ap Some (sym new.0),
    )
  ];
  known = λ turn k e. elim (push-cases filling.order at turn k e) [
    | inl old ↦ let there = ordered.known turn k old in (there.0, found-kept filling at s none k there.0 there.1)
    | inr new ↦ (s, found-same filling at k s lt new.1)
  ];
  once = found-once filling at s lt none ordered.once;
}

found-settles : (filling : Filling) (at : ℕ) (s : State) → at < length filling.entries
    → entry_at filling.entries at ≡ None → Settles filling (with_found filling at s) at s
found-settles filling at s lt none = record {
  same_length = length-set filling.entries at (Some s);
  kept = found-kept filling at s none;
  fresh = found-fresh filling at s lt;
  turns = push-kept filling.order at;
  in_order = found-in_order filling at s lt none;
}

pub settles : (filling : Filling) (at : ℕ) (s : State) → at < length filling.entries
    → Settles filling (settled filling at s) at s
settles filling at s lt =
    elim (entry_at filling.entries at) as (λ o. entry_at filling.entries at ≡ o
    → Settles filling (cond (is_none o) (with_found filling at s) filling) at s) [
      | None ↦ λ e. found-settles filling at s lt e
      | Some t ↦ λ e. record {
        same_length = refl;
        kept = λ k u h. h;
        fresh = λ k u h. inl h;
        turns = λ turn k h. h;
        in_order = λ h. h;
      }
    ] refl

-- the state is the entry afterwards, or another one was, and nothing has changed
pub settled-cases : (filling : Filling) (at : ℕ) (s : State) → at < length filling.entries
    → (entry_at (settled filling at s).entries at ≡ Some s)
    ⊎ ((u : State) × ((entry_at filling.entries at ≡ Some u) × (settled filling at s ≡ filling)))
settled-cases filling at s lt =
    elim (entry_at filling.entries at) as (λ o. entry_at filling.entries at ≡ o
    → (entry_at (cond (is_none o) (with_found filling at s) filling).entries at ≡ Some s)
    ⊎ ((u : State) × ((o ≡ Some u) × (cond (is_none o) (with_found filling at s) filling ≡ filling)))) [
      | None ↦ λ e. inl (found-same filling at at s lt refl)
      | Some t ↦ λ e. inr (t, (refl, refl))
    ] refl

-- ---- the point of a turn

pub turn-read : (order read : List ℕ) (turn : ℕ) → read ≡ order → turn < length order
    → slice_get order turn ≡ Some (slice_index_or read turn 0)
turn-read order read turn same lt =
    slice_get-get_or order turn 0 lt ∙ ap (λ (r : List ℕ). Some (slice_index_or r turn 0)) (sym same)

-- ---- the first point

none-replicate : (n k : ℕ) → entry_at (replicate n None) k ≡ None
none-replicate zero k = refl
none-replicate (suc n) zero = refl
none-replicate (suc n) (suc k) = none-replicate n k

one-counted : (entry : State) (n : ℕ) → count_by is_some (Some entry ∷ replicate n None) ≡ 1
one-counted entry zero = refl
one-counted entry (suc n) = one-counted entry n

-- at first there is one entry, that of the first point
pub first-entry : (entry : State) (count k : ℕ) (s : State) → entry_at (first_filling entry count).entries k ≡ Some s
    → (k ≡ 0) × (entry ≡ s)
first-entry entry count zero s e = (refl, same_Some entry s e)
first-entry entry count (suc k) s e = absurd (none-some s (sym (none-replicate (count - 1) k) ∙ e))

first-known : (entry : State) (count turn k : ℕ) → slice_get (first_filling entry count).order turn ≡ Some k
    → (s : State) × (entry_at (first_filling entry count).entries k ≡ Some s)
first-known entry count zero k e =
    subst (λ (j : ℕ). (s : State) × (entry_at (first_filling entry count).entries j ≡ Some s)) (same_Some 0 k e)
    (entry, refl)
first-known entry count (suc turn) k e = absurd (none-some k e)

pub first-in_order : (entry : State) (count : ℕ) → IsInOrder (first_filling entry count)
first-in_order entry count = record {
  found = λ k s e. (0, ap Some (sym (first-entry entry count k s e).0));
  known = first-known entry count;
  once = sym (one-counted entry (count - 1));
}
