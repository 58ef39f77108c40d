-- A hand that works at a row turns to it again without change.
use Rattle.std.proofs.Common.{◌≡◌, ℕ, Bool, true, false, cond, not, List, [], ◌∷◌, ◌++◌, inl, inr, refl, sym, ap, ◌∙◌}
use Rattle.std.specs.List.{filter}
use Rattle.std.proofs.lemmas.Bool.{cases_Bool}
use Rattle.brc_model.specs.declared.duty.Duty.{Duty}
use Rattle.brc_model.specs.OpenWork.{is_about}
use Rattle.brc_table.specs.declared.view.View.{View}
use Rattle.brc_table.specs.Views.{open_work, work_about, turned, with_work}

abbrev pub away : ℕ → Duty → Bool
away x d = not (is_about x d)

pub passes : (p : Duty → Bool) (d : Duty) (ds : List Duty) → p d ≡ true → filter p (d ∷ ds) ≡ d ∷ filter p ds
passes p d ds is = ap (λ (b : Bool). cond b (d ∷ filter p ds) (filter p ds)) is

pub fails : (p : Duty → Bool) (d : Duty) (ds : List Duty) → p d ≡ false → filter p (d ∷ ds) ≡ filter p ds
fails p d ds is = ap (λ (b : Bool). cond b (d ∷ filter p ds) (filter p ds)) is

-- None of the duties that a hand has put aside is about the row.
pub none_aside : (x : ℕ) (ds : List Duty) → filter (is_about x) (filter (away x) ds) ≡ []
none_aside x [] = refl
none_aside x (d ∷ ds) = elim (cases_Bool (is_about x d)) [
  | inl this ↦ ap (filter (is_about x)) (fails (away x) d ds (ap not this)) ∙ none_aside x ds
  | inr other ↦
      ap (filter (is_about x)) (passes (away x) d ds (ap not other))
      ∙ (fails (is_about x) d (filter (away x) ds) other ∙ none_aside x ds)
]

pub all_away : (x : ℕ) (ds : List Duty) → filter (is_about x) ds ≡ [] → filter (away x) ds ≡ ds
all_away x [] none = refl
all_away x (d ∷ ds) none = elim (cases_Bool (is_about x d)) [
  | inl this ↦ absurd (let wrong : d ∷ filter (is_about x) ds ≡ [] = sym (passes (is_about x) d ds this) ∙ none in cc)
  | inr other ↦
      passes (away x) d ds (ap not other)
      ∙ ap (λ (es : List Duty). d ∷ es) (all_away x ds (sym (fails (is_about x) d ds other) ∙ none))
]

-- The one duty about a row at which the hand works is its next one.
pub work_next : (u : View) (x : ℕ) (d : Duty) → u.actor.agenda ≡ d ∷ [] → is_about x d ≡ true
    → filter (is_about x) u.actor.aside ≡ [] → work_about x u ≡ d ∷ []
work_next u x d is this none =
    ap (λ (ds : List Duty). filter (is_about x) (ds ++ u.actor.aside)) is
    ∙ (passes (is_about x) d u.actor.aside this ∙ ap (λ (es : List Duty). d ∷ es) none)

pub turned_itself : (u : View) (x : ℕ) (d : Duty) → u.actor.agenda ≡ d ∷ [] → is_about x d ≡ true
    → filter (is_about x) u.actor.aside ≡ [] → turned u x ≡ u
turned_itself u x d is this none =
    let rest : filter (away x) (open_work u) ≡ u.actor.aside =
    ap (λ (ds : List Duty). filter (away x) (ds ++ u.actor.aside)) is
    ∙ (fails (away x) d u.actor.aside (ap not this) ∙ all_away x u.actor.aside none) in
    let next : work_about x u ≡ u.actor.agenda = work_next u x d is this none ∙ sym is in
    λ i. with_work u (next i) (rest i)
