-- Entries looked up: loops over the kept entries, turn by turn.
use Rattle.std.proofs.Common.{◌≡◌, ℕ, zero, suc, ◌+◌, ◌<◌, ◌≤◌, Bool, cond, List, [], ◌∷◌, ◌++◌, length}
use Rattle.std.proofs.Common.{Option, refl, sym, ap, ◌∙◌, subst, inl, inr, arith}
use Rattle.std.specs.Prelude.{None, Some, slice_get, slice_set, take, drop, IfSome, ◌⊎◌}
use Rattle.std.specs.List.{slice_index_or}
use Rattle.std.proofs.lemmas.Bool.{eq-eqb, ne_eqb, cases_lt, cases_eq}
use Rattle.std.proofs.lemmas.List.{drop_more, drop_all, take_more, set_split, append_assoc, get_or-set_same}
use Rattle.std.proofs.lemmas.List.{get_or-set_other}
use Rattle.std.proofs.lemmas.Option.{slice_get_read}
use Rattle.brc_lang.specs.declared.module.Instr.{Instr}
use Rattle.brc_lang.specs.Limits.{instruction_limit}
use Rattle.brc_model.specs.declared.state.State.{State}
use Rattle.brc_check.specs.declared.kept_entry.KeptEntry.{KeptEntry}
use Rattle.brc_check.specs.Tables.{kept_at, kept_or, passed, state_at, with_state}
use Rattle.brc_check.specs.Lookups.{IsNumberOf, IsReplacedAt, IsNearest}
use Rattle.brc_check.proofs.States.{next_state}

-- ---- the first entry of a list

kept_here : (e : KeptEntry) (rest : List KeptEntry) (at : ℕ) → e.at ≡ at → kept_at (e ∷ rest) at ≡ Some e
kept_here e rest at same = ap (λ (b : Bool). cond b (Some e) (kept_at rest at)) (eq-eqb e.at at same)

kept_behind : (e : KeptEntry) (rest : List KeptEntry) (at : ℕ) → (e.at ≡ at → ⊥)
    → kept_at (e ∷ rest) at ≡ kept_at rest at
kept_behind e rest at other = ap (λ (b : Bool). cond b (Some e) (kept_at rest at)) (ne_eqb e.at at other)

from_drop : (kept : List KeptEntry) (k : ℕ) (e : KeptEntry) → k < length kept → e ≡ slice_index_or kept k e
    → drop k kept ≡ e ∷ drop (k + 1) kept
from_drop kept k e lt is = drop_more kept k e lt ∙ ap (λ (x : KeptEntry). x ∷ drop (k + 1) kept) (sym is)

-- ---- the number of an entry

-- the point has no entry among the first ones
pub record IsBehind (kept : List KeptEntry) (at number : ℕ) : Type 0 where
  pub same : kept_at kept at ≡ kept_at (drop number kept) at
  pub replaced : (s : Option State) → with_state kept at s ≡ take number kept ++ with_state (drop number kept) at s

pub behind_more : (kept : List KeptEntry) (at number : ℕ) (e : KeptEntry) → IsBehind kept at number
    → number < length kept → e ≡ slice_index_or kept number e → (e.at ≡ at → ⊥) → IsBehind kept at (number + 1)
behind_more kept at number e behind lt is other = record {
  same = behind.same ∙ ap (λ (es : List KeptEntry). kept_at es at) (from_drop kept number e lt is)
      ∙ kept_behind e (drop (number + 1) kept) at other;
  replaced = λ s.
      behind.replaced s
      ∙ ap (λ (es : List KeptEntry). take number kept ++ with_state es at s) (from_drop kept number e lt is)
      ∙ ap (λ (b : Bool). take number kept ++ cond b (record { at = at; state = s } ∷ drop (number + 1) kept)
      (e ∷ with_state (drop (number + 1) kept) at s)) (ne_eqb e.at at other)
      ∙ sym (append_assoc (take number kept) (e ∷ []) (with_state (drop (number + 1) kept) at s))
      ∙ ap (λ (x : KeptEntry). (take number kept ++ x ∷ []) ++ with_state (drop (number + 1) kept) at s) is
      ∙ ap (λ (es : List KeptEntry). es ++ with_state (drop (number + 1) kept) at s) (sym (take_more kept number e lt));
}

pub behind_found : (kept : List KeptEntry) (at number : ℕ) (e : KeptEntry) → IsBehind kept at number
    → number < length kept → e ≡ slice_index_or kept number e → e.at ≡ at
    → IsNumberOf kept at (Some number)
behind_found kept at number e behind lt is same = (
  e,
  slice_get_read kept (length kept) number e refl lt is,
  behind.same ∙ ap (λ (es : List KeptEntry). kept_at es at) (from_drop kept number e lt is)
      ∙ kept_here e (drop (number + 1) kept) at same,
)

pub behind_replaced : (kept : List KeptEntry) (at number : ℕ) (e : KeptEntry) → IsBehind kept at number
    → number < length kept → e ≡ slice_index_or kept number e → e.at ≡ at → IsReplacedAt kept at number
behind_replaced kept at number e behind lt is same = λ s.
    let n : number + 1 ≡ suc number = omega arith in
    behind.replaced s
    ∙ ap (λ (es : List KeptEntry). take number kept ++ with_state es at s) (from_drop kept number e lt is)
    ∙ ap (λ (b : Bool). take number kept ++ cond b (record { at = at; state = s } ∷ drop (number + 1) kept)
    (e ∷ with_state (drop (number + 1) kept) at s)) (eq-eqb e.at at same)
    ∙ ap (λ (k : ℕ). take number kept ++ record { at = at; state = s } ∷ drop k kept) n
    ∙ sym (set_split kept number (record { at = at; state = s }) lt)

pub behind_all : (kept : List KeptEntry) (at number : ℕ) → IsBehind kept at number → length kept ≤ number
    → kept_at kept at ≡ None
behind_all kept at number behind past =
    behind.same ∙ ap (λ (es : List KeptEntry). kept_at es at) (drop_all number kept past)

-- ---- the numbers of all points

-- the number is that of the point's entry among those from k on
abbrev IsNumberFrom : List KeptEntry → ℕ → ℕ → Option ℕ → Type 0
IsNumberFrom kept k at None = kept_at (drop k kept) at ≡ None
IsNumberFrom kept k at (Some number) =
    (e : KeptEntry) × (slice_get kept number ≡ Some e) × (kept_at (drop k kept) at ≡ Some e)

abbrev pub AreNumbersFrom : List KeptEntry → ℕ → List (Option ℕ) → Type 0
AreNumbersFrom kept k numbers = (at : ℕ) → at < instruction_limit
    → IsNumberFrom kept k at (slice_index_or numbers at None)

number_same : (kept : List KeptEntry) (k j at : ℕ) (o : Option ℕ) → kept_at (drop k kept) at ≡ kept_at (drop j kept) at
    → IsNumberFrom kept j at o → IsNumberFrom kept k at o
number_same kept k j at None same is = same ∙ is
number_same kept k j at (Some number) same is = (is.0, is.1, same ∙ is.2)

pub numbers_first : (kept : List KeptEntry) (numbers : List (Option ℕ)) (k : ℕ) → length kept ≤ k
    → ((at : ℕ) → at < instruction_limit → slice_index_or numbers at None ≡ None) → AreNumbersFrom kept k numbers
numbers_first kept numbers k past none = λ at lt.
    subst (IsNumberFrom kept k at) (sym (none at lt))
    (ap (λ (es : List KeptEntry). kept_at es at) (drop_all k kept past))

numbers_skip : (kept : List KeptEntry) (numbers : List (Option ℕ)) (k at : ℕ) (e : KeptEntry)
    → k < length kept → e ≡ slice_index_or kept k e → (e.at ≡ at → ⊥)
    → kept_at (drop k kept) at ≡ kept_at (drop (k + 1) kept) at
numbers_skip kept numbers k at e lt is other =
    ap (λ (es : List KeptEntry). kept_at es at) (from_drop kept k e lt is) ∙ kept_behind e (drop (k + 1) kept) at other

-- an entry of a number that no point has
pub numbers_past : (kept : List KeptEntry) (numbers : List (Option ℕ)) (k : ℕ) (e : KeptEntry)
    → AreNumbersFrom kept (k + 1) numbers → k < length kept → e ≡ slice_index_or kept k e → instruction_limit ≤ e.at
    → AreNumbersFrom kept k numbers
numbers_past kept numbers k e before lt is past = λ at within.
    number_same kept k (k + 1) at (slice_index_or numbers at None)
    (numbers_skip kept numbers k at e lt is (λ same. omega (arith, same, within, past))) (before at within)

pub numbers_more : (kept : List KeptEntry) (numbers : List (Option ℕ)) (k : ℕ) (e : KeptEntry)
    → AreNumbersFrom kept (k + 1) numbers → k < length kept → e ≡ slice_index_or kept k e
    → length numbers ≡ instruction_limit
    → e.at < instruction_limit → AreNumbersFrom kept k (slice_set numbers e.at (Some k))
numbers_more kept numbers k e before lt is count small = λ at within.
    elim (cases_eq at e.at) [
      | inl same ↦
          subst (IsNumberFrom kept k at)
          (sym (ap (λ (n : ℕ). slice_index_or (slice_set numbers e.at (Some k)) n None) same
          ∙ get_or-set_same numbers e.at (Some k) None (omega (arith, small, count)))) (
            e,
            slice_get_read kept (length kept) k e refl lt is,
            ap (λ (es : List KeptEntry). kept_at es at) (from_drop kept k e lt is)
                ∙ kept_here e (drop (k + 1) kept) at (sym same),
          )
      | inr other ↦
          subst (IsNumberFrom kept k at) (sym (get_or-set_other numbers e.at at (Some k) None other))
          (number_same kept k (k + 1) at (slice_index_or numbers at None)
          (numbers_skip kept numbers k at e lt is (λ same. other (sym same))) (before at within))
    ]

pub numbers_all : (kept : List KeptEntry) (numbers : List (Option ℕ)) → AreNumbersFrom kept 0 numbers
    → (at : ℕ) → at < instruction_limit → IsNumberOf kept at (slice_index_or numbers at None)
numbers_all kept numbers from at within =
    elim (slice_index_or numbers at None) as (λ o. IsNumberFrom kept 0 at o → IsNumberOf kept at o) [
      | None ↦ λ h. h
      | Some n ↦ λ h. h
    ] (from at within)

-- ---- the nearest entry

pub nearest_none : (kept : List KeptEntry) (at k : ℕ) → length kept ≤ k → IsNearest (drop k kept) at None
nearest_none kept at k past = λ point upto. ap (λ (es : List KeptEntry). kept_at es point) (drop_all k kept past)

-- an entry after the point changes nothing
nearest_behind : (e : KeptEntry) (rest : List KeptEntry) (at : ℕ) (o : Option KeptEntry) → at < e.at
    → IsNearest rest at o → IsNearest (e ∷ rest) at o
nearest_behind e rest at None past near = λ point upto.
    kept_behind e rest point (λ same. omega (arith, same, upto, past)) ∙ near point upto
nearest_behind e rest at (Some f) past near =
    let within = near.0 in (
      near.0,
      kept_behind e rest f.at (λ same. omega (arith, same, within, past)) ∙ near.1,
      λ point from upto. kept_behind e rest point (λ same. omega (arith, same, upto, past)) ∙ near.2 point from upto,
    )

-- an entry that isn't after the nearest of the others
nearest_before : (e : KeptEntry) (rest : List KeptEntry) (at : ℕ) (f : KeptEntry) → e.at < f.at
    → IsNearest rest at (Some f) → IsNearest (e ∷ rest) at (Some f)
nearest_before e rest at f before near = (
  near.0,
  kept_behind e rest f.at (λ same. omega (arith, same, before)) ∙ near.1,
  λ point from upto.
      kept_behind e rest point (λ same. omega (arith, same, from, before)) ∙ near.2 point from upto,
)

nearest_here : (e : KeptEntry) (rest : List KeptEntry) (at : ℕ) (o : Option KeptEntry) → e.at ≤ at
    → IfSome o (λ f. f.at ≤ e.at) → IsNearest rest at o → IsNearest (e ∷ rest) at (Some e)
nearest_here e rest at None within upto near = (
  within,
  kept_here e rest e.at refl,
  λ point from to. kept_behind e rest point (λ same. omega (arith, same, from)) ∙ near point to,
)
nearest_here e rest at (Some f) within upto near = (
  within,
  kept_here e rest e.at refl,
  λ point from to.
      kept_behind e rest point (λ same. omega (arith, same, from)) ∙ near.2 point (omega (arith, from, upto)) to,
)

-- one entry more: it is the nearest now, or it isn't
pub nearest_taken : (kept : List KeptEntry) (at k : ℕ) (e : KeptEntry) (o : Option KeptEntry)
    → IsNearest (drop (k + 1) kept) at o → k < length kept → e ≡ slice_index_or kept k e → e.at ≤ at
    → IfSome o (λ f. f.at ≤ e.at) → IsNearest (drop k kept) at (Some e)
nearest_taken kept at k e o near lt is within upto =
    subst (λ (es : List KeptEntry). IsNearest es at (Some e)) (sym (from_drop kept k e lt is))
    (nearest_here e (drop (k + 1) kept) at o within upto near)

nearest_passed : (e : KeptEntry) (rest : List KeptEntry) (at : ℕ) (o : Option KeptEntry) → e.at ≤ at
    → (IfSome o (λ f. f.at ≤ e.at) → ⊥) → IsNearest rest at o → IsNearest (e ∷ rest) at o
nearest_passed e rest at None within far near = absurd (far tt)
nearest_passed e rest at (Some f) within far near =
    elim (cases_lt e.at f.at) [
      | inl before ↦ nearest_before e rest at f before near
      | inr upto ↦ absurd (far upto)
    ]

pub nearest_left : (kept : List KeptEntry) (at k : ℕ) (e : KeptEntry) (o : Option KeptEntry)
    → IsNearest (drop (k + 1) kept) at o → k < length kept → e ≡ slice_index_or kept k e
    → (at < e.at) ⊎ ((e.at ≤ at) × (IfSome o (λ f. f.at ≤ e.at) → ⊥)) → IsNearest (drop k kept) at o
nearest_left kept at k e o near lt is why =
    subst (λ (es : List KeptEntry). IsNearest es at o) (sym (from_drop kept k e lt is))
    (elim why [
      | inl past ↦ nearest_behind e (drop (k + 1) kept) at o past near
      | inr both ↦ nearest_passed e (drop (k + 1) kept) at o both.0 both.1 near
    ])

-- ---- the states after the nearest entry

-- nothing is passed on from a point that has no state
pub none_onward : (code : List Instr) (kept : List KeptEntry) (from at : ℕ) → state_at code kept from ≡ None → from ≤ at
    → ((point : ℕ) → from < point → point ≤ at → kept_at kept point ≡ None) → state_at code kept at ≡ None
none_onward code kept from zero none upto others =
    let same : 0 ≡ from = omega (arith, upto) in ap (state_at code kept) same ∙ none
none_onward code kept from (suc at) none upto others =
    elim (cases_eq from (suc at)) [
      | inl same ↦ ap (state_at code kept) (sym same) ∙ none
      | inr other ↦
          let before = none_onward code kept from at none (omega (arith, upto, other))
          (λ point behind to. others point behind (omega (arith, to))) in
          ap (λ (o : Option KeptEntry). kept_or o (passed code at (state_at code kept at)))
          (others (suc at) (omega (arith, upto, other)) (omega arith))
          ∙ ap (passed code at) before
    ]

-- a point after the nearest entry has what the point before passes on
pub onward_state : (code : List Instr) (kept : List KeptEntry) (at : ℕ) (s : State) → state_at code kept at ≡ Some s
    → kept_at kept (at + 1) ≡ None → state_at code kept (at + 1) ≡ passed code at (Some s)
onward_state code kept at s here none =
    next_state code kept at
    ∙ ap (λ (o : Option KeptEntry). kept_or o (passed code at (state_at code kept at))) none
    ∙ ap (passed code at) here

-- no point up to this one is kept, so none has a state
pub none_before : (code : List Instr) (kept : List KeptEntry) (at : ℕ) → IsNearest kept at None
    → state_at code kept at ≡ None
none_before code kept zero near = ap (λ (o : Option KeptEntry). kept_or o None) (near 0 (omega arith))
none_before code kept (suc at) near =
    ap (λ (o : Option KeptEntry). kept_or o (passed code at (state_at code kept at))) (near (suc at) (omega arith))
    ∙ ap (passed code at) (none_before code kept at (λ point upto. near point (omega (arith, upto))))
