-- Kept points found in a function's code, and their entries picked or compared in a loop over all points.
use Rattle.std.proofs.Common.{◌≡◌, ℕ, suc, ◌+◌, ◌-◌, ◌<◌, ◌≤◌, Bool, true, false, cond, ◌||◌, List, [], ◌∷◌, ◌++◌}
use Rattle.std.proofs.Common.{length, Option, sym, ap, ◌∙◌, inl, inr, arith, map, ◌↔◌, IsTrue}
use Rattle.std.specs.Prelude.{◌==◌, filter, replicate, slice_set, drop}
use Rattle.std.specs.List.{slice_index_or, range_with_len}
use Rattle.std.proofs.lemmas.Bool.{eq-eqb, ne_eqb, eqb-true, cases_eq, cases_lt}
use Rattle.std.proofs.lemmas.List.{get_or-replicate, get_or-set_other, drop_more, drop_all, map-append, map-id}
use Rattle.std.proofs.lemmas.List.{append-nil, length-map, length-drop}
use Rattle.std.proofs.lemmas.List.FromFn.{filter_of_map_range_with_len_more}
use Rattle.brc_lang.specs.declared.module.Instr.{Instr}
use Rattle.brc_lang.specs.Limits.{instruction_limit}
use Rattle.brc_model.specs.declared.state.State.{State}
use Rattle.brc_check.specs.declared.kept_entry.KeptEntry.{KeptEntry}
use Rattle.brc_check.specs.Filling.{entry_from}
use Rattle.brc_check.specs.Tables.{is_kept, kept_points, point_of}

-- ---- the first mark

pub first_marks : (point : ℕ) → point < instruction_limit
    → slice_index_or (slice_set (replicate instruction_limit false) 0 true) point false ≡ (point == 0 || false)
first_marks point lt =
    elim (cases_eq point 0) [
      | inl same ↦
          ap (λ (n : ℕ). slice_index_or (slice_set (replicate instruction_limit false) 0 true) n false) same
          ∙ ap (λ (b : Bool). b || false) (sym (eq-eqb point 0 same))
      | inr other ↦
          get_or-set_other (replicate instruction_limit false) 0 point true false other
          ∙ get_or-replicate instruction_limit point false false lt
          ∙ ap (λ (b : Bool). b || false) (sym (ne_eqb point 0 other))
    ]

-- ---- entries picked

filter_more : (test : ℕ → Bool) (n : ℕ)
    → filter test (range_with_len 0 (n + 1)) ≡ filter test (range_with_len 0 n) ++ cond (test n) (n ∷ []) []
filter_more test n =
    ap (filter test) (sym (map-id (range_with_len 0 (n + 1))))
    ∙ filter_of_map_range_with_len_more test (λ (x : ℕ). x) 0 n n (omega arith)
    ∙ ap (λ (xs : List ℕ). filter test xs ++ cond (test n) (n ∷ []) []) (map-id (range_with_len 0 n))

-- the entries of the kept ones among the first points
abbrev pub picked : List Instr → List (Option State) → ℕ → List KeptEntry
picked code entries to = map (entry_from entries) (filter (is_kept code) (range_with_len 0 to))

picked_more : (code : List Instr) (entries : List (Option State)) (n : ℕ)
    → picked code entries (n + 1)
    ≡ picked code entries n ++ map (entry_from entries) (cond (is_kept code n) (n ∷ []) [])
picked_more code entries n =
    ap (map (entry_from entries)) (filter_more (is_kept code) n)
    ∙ map-append (entry_from entries) (filter (is_kept code) (range_with_len 0 n)) (cond (is_kept code n) (n ∷ []) [])

pub picked_one : (code : List Instr) (entries : List (Option State)) (n : ℕ) (old new : List KeptEntry)
    → old ≡ picked code entries n → is_kept code n ≡ true → new ≡ old ++ entry_from entries n ∷ []
    → new ≡ picked code entries (n + 1)
picked_one code entries n old new before here push =
    push ∙ ap (λ (es : List KeptEntry). es ++ entry_from entries n ∷ []) before
    ∙ sym (picked_more code entries n
    ∙ ap (λ (b : Bool). picked code entries n ++ map (entry_from entries) (cond b (n ∷ []) [])) here)

pub picked_none : (code : List Instr) (entries : List (Option State)) (n : ℕ) (old : List KeptEntry)
    → old ≡ picked code entries n → is_kept code n ≡ false → old ≡ picked code entries (n + 1)
picked_none code entries n old before other =
    before ∙ sym (picked_more code entries n
    ∙ ap (λ (b : Bool). picked code entries n ++ map (entry_from entries) (cond b (n ∷ []) [])) other
    ∙ append-nil (picked code entries n))

-- ---- entries compared with the kept points

-- the kept points from this one on
abbrev kept_from : List Instr → ℕ → List ℕ
kept_from code at = filter (is_kept code) (range_with_len at (length code - at))

from_more : (code : List Instr) (at : ℕ) → at < length code
    → kept_from code at ≡ cond (is_kept code at) (at ∷ kept_from code (at + 1)) (kept_from code (at + 1))
from_more code at lt =
    let n : length code - at ≡ suc (length code - (at + 1)) = omega (arith, lt) in
    ap (λ (k : ℕ). filter (is_kept code) (range_with_len at k)) n

-- The entries are those of the kept points exactly if those that are left are those of the points that are left.
pub record IsLeft (code : List Instr) (kept : List KeptEntry) (number at : ℕ) : Type 0 where
  pub within : number ≤ length kept
  pub left : (map point_of kept ≡ kept_points code) ↔ (map point_of (drop number kept) ≡ kept_from code at)

pub left_first : (code : List Instr) (kept : List KeptEntry) → IsLeft code kept 0 0
left_first code kept =
    let n : length code - 0 ≡ length code = omega arith in
    let all : kept_from code 0 ≡ kept_points code = ap (λ (k : ℕ). filter (is_kept code) (range_with_len 0 k)) n in
    record { within = omega arith; left = (λ h. h ∙ sym all, λ h. h ∙ all) }

pub left_skip : (code : List Instr) (kept : List KeptEntry) (number at : ℕ) → IsLeft code kept number at
    → at < length code → is_kept code at ≡ false → IsLeft code kept number (at + 1)
left_skip code kept number at is lt other =
    let same : kept_from code at ≡ kept_from code (at + 1) =
    from_more code at lt
    ∙ ap (λ (b : Bool). cond b (at ∷ kept_from code (at + 1)) (kept_from code (at + 1))) other in
    record { within = is.within; left = (λ h. is.left.0 h ∙ same, λ h. is.left.1 (h ∙ sym same)) }

from_kept : (code : List Instr) (at : ℕ) → at < length code → is_kept code at ≡ true
    → kept_from code at ≡ at ∷ kept_from code (at + 1)
from_kept code at lt kept =
    from_more code at lt ∙ ap (λ (b : Bool). cond b (at ∷ kept_from code (at + 1)) (kept_from code (at + 1))) kept

points_from : (kept : List KeptEntry) (number : ℕ) (e : KeptEntry) → number < length kept
    → e ≡ slice_index_or kept number e
    → map point_of (drop number kept) ≡ e.at ∷ map point_of (drop (number + 1) kept)
points_from kept number e lt is =
    ap (map point_of) (drop_more kept number e lt)
    ∙ ap (λ (x : KeptEntry). x.at ∷ map point_of (drop (number + 1) kept)) (sym is)

abbrev rest_of : List ℕ → List ℕ
rest_of [] = []
rest_of (x ∷ xs) = xs

abbrev head_of : List ℕ → ℕ → ℕ
head_of [] d = d
head_of (x ∷ xs) d = x

pub left_take : (code : List Instr) (kept : List KeptEntry) (number at : ℕ) (e : KeptEntry) → IsLeft code kept number at
    → at < length code → is_kept code at ≡ true → number < length kept → e ≡ slice_index_or kept number e → e.at ≡ at
    → IsLeft code kept (number + 1) (at + 1)
left_take code kept number at e is lt here short read same =
    let points = points_from kept number e short read in
    let from = from_kept code at lt here in
    record {
      within = omega (arith, short);
      left = (
        λ h. ap rest_of (sym points ∙ is.left.0 h ∙ from),
        λ h. is.left.1 (points ∙ ap (λ (xs : List ℕ). e.at ∷ xs) h
            ∙ ap (λ (n : ℕ). n ∷ kept_from code (at + 1)) same ∙ sym from),
      );
    }

-- no entry is left for a kept point
pub left_short : (code : List Instr) (kept : List KeptEntry) (number at : ℕ) → IsLeft code kept number at
    → at < length code → is_kept code at ≡ true → length kept ≤ number → map point_of kept ≡ kept_points code → ⊥
left_short code kept number at is lt here past h =
    let e : [] ≡ at ∷ kept_from code (at + 1) =
    sym (ap (map point_of) (drop_all number kept past)) ∙ is.left.0 h ∙ from_kept code at lt here in
    absurd cc

-- the entry is of another point
pub left_other : (code : List Instr) (kept : List KeptEntry) (number at : ℕ) (e : KeptEntry)
    → IsLeft code kept number at
    → at < length code → is_kept code at ≡ true → number < length kept → e ≡ slice_index_or kept number e
    → (e.at ≡ at → ⊥) → map point_of kept ≡ kept_points code → ⊥
left_other code kept number at e is lt here short read other h =
    other (ap (λ (xs : List ℕ). head_of xs 0)
    (sym (points_from kept number e short read) ∙ is.left.0 h ∙ from_kept code at lt here))

from_end : (code : List Instr) (at : ℕ) → length code ≤ at → kept_from code at ≡ []
from_end code at past =
    let n : length code - at ≡ 0 = omega (arith, past) in
    ap (λ (k : ℕ). filter (is_kept code) (range_with_len at k)) n

left_nil : (kept : List KeptEntry) (number : ℕ) → number ≤ length kept → map point_of (drop number kept) ≡ []
    → number ≡ length kept
left_nil kept number within nil =
    elim (cases_lt number (length kept)) [
      | inl short ↦
          let left = length-map (drop number kept) point_of in
          let none = ap length nil in
          let all = length-drop number kept in
          absurd (omega (arith, left, none, all, short))
      | inr all ↦ omega (arith, within, all)
    ]

pub left_last : (code : List Instr) (kept : List KeptEntry) (number at : ℕ) → IsLeft code kept number at
    → length code ≤ at → IsTrue (number == length kept) ↔ (map point_of kept ≡ kept_points code)
left_last code kept number at is past = (
  λ t. is.left.1 (ap (map point_of) (drop_all number kept (let e = eqb-true number (length kept) t in omega (arith, e)))
      ∙ sym (from_end code at past)),
  λ h. eq-eqb number (length kept) (left_nil kept number is.within (is.left.0 h ∙ from_end code at past)),
)
