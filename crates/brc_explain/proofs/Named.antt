-- Functions by their names, one after another.
use Rattle.std.proofs.Common.{◌≡◌, ℕ, ◌+◌, ◌<◌, ◌≤◌, List, length, refl, sym, ap, ◌∙◌, subst, inl, inr, arith}
use Rattle.std.specs.Prelude.{Some, slice_get}
use Rattle.std.specs.List.{slice_index_or}
use Rattle.std.proofs.lemmas.Bool.{cases_lt}
use Rattle.std.proofs.lemmas.Option.{same_Some, slice_get_read}
use Rattle.brc_lang.specs.declared.module.Function.{Function}
use Rattle.brc_explain.specs.Rows.{NoneNamed}

-- none of the first functions has the name
abbrev pub NoneBelow : List Function → List ℕ → ℕ → Type 0
NoneBelow functions name to = (k : ℕ) (f : Function) → k < to → slice_get functions k ≡ Some f → f.name ≡ name → ⊥

pub none_more : (functions : List Function) (name : List ℕ) (to : ℕ) (f : Function) → NoneBelow functions name to
    → to < length functions → f ≡ slice_index_or functions to f → (f.name ≡ name → ⊥)
    → NoneBelow functions name (to + 1)
none_more functions name to f before lt is_f here k g less e =
    elim (cases_lt k to) [
      | inl earlier ↦ before k g earlier e
      | inr from ↦
          let same : k ≡ to = omega (arith, from, less) in
          let function : f ≡ g =
          same_Some f g (sym (slice_get_read functions (length functions) to f refl lt is_f)
          ∙ ap (slice_get functions) (sym same) ∙ e) in
          subst (λ (h : Function). h.name ≡ name → ⊥) function here
    ]

pub none_named : (functions : List Function) (name : List ℕ) (to : ℕ) → length functions ≤ to
    → NoneBelow functions name to → NoneNamed functions name
none_named functions name to all none f is =
    let at = is.0 in
    none at.0 f (let lt = at.1 in omega (arith, lt, all))
    (slice_get_read functions (length functions) at.0 f refl at.1 (sym at.2)) is.1
