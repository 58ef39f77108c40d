-- After a mark is set, its hand has to look whether the owner still runs.
use Rattle.std.proofs.Common.{◌≡◌, ℕ, zero, suc, Bool, cond, List, [], ◌∷◌, ◌++◌, inl, inr, refl, sym, ap, ◌∙◌, subst}
use Rattle.std.specs.Prelude.{not}
use Rattle.std.specs.List.{filter}
use Rattle.std.proofs.lemmas.Bool.{cases_Bool, eq-eqb}
use Rattle.brc_model.specs.declared.duty.Duty.{Duty}
use Rattle.brc_model.specs.declared.duty.Duty.TheVariants.{SetMark, Look}
use Rattle.brc_model.specs.Duties.{ready}
use Rattle.brc_model.specs.OpenWork.{is_about}
use Rattle.brc_table.specs.Hands.{MayWait}
use Rattle.brc_table.specs.declared.view.View.{View}
use Rattle.brc_table.specs.Views.{open_work, work_about, turned, view_by, view_after}
use Rattle.brc_table.specs.Accesses.{IsNext}
use Rattle.brc_table.specs.Calls.{CanAct}

-- What one test passes, the opposite test doesn't.
none_left : (p : Duty → Bool) (ds : List Duty) → filter p (filter (λ d. not (p d)) ds) ≡ []
none_left p [] = refl
none_left p (d ∷ ds) = elim (cases_Bool (p d)) [
  | inl this ↦
      ap (λ (b : Bool). filter p (cond (not b) (d ∷ filter (λ e. not (p e)) ds) (filter (λ e. not (p e)) ds))) this
      ∙ none_left p ds
  | inr other ↦
      ap (λ (b : Bool). filter p (cond (not b) (d ∷ filter (λ e. not (p e)) ds) (filter (λ e. not (p e)) ds))) other
      ∙ (ap (λ (b : Bool). cond b (d ∷ filter p (filter (λ e. not (p e)) ds)) (filter p (filter (λ e. not (p e)) ds)))
      other
      ∙ none_left p ds)
]

look_ready : (head x : ℕ) → ready head (Look x ∷ []) ≡ Look x ∷ []
look_ready zero x = refl
look_ready (suc head) x = refl

-- The hand's work about the row is then to look.
looks_next : (v : View) (x found : ℕ) → work_about x v ≡ SetMark x ∷ []
    → work_about x (view_after (turned v x) found) ≡ Look x ∷ []
looks_next v x found is =
    let others = filter (λ d. not (is_about x d)) (open_work v) in
    ap (λ (ds : List Duty). work_about x (view_by (turned v x) ds found)) is
    ∙ (ap (λ (ds : List Duty). filter (is_about x) (ds ++ others)) (look_ready v.actor.head x)
    ∙ (ap (λ (b : Bool). cond b (Look x ∷ filter (is_about x) others) (filter (is_about x) others)) (eq-eqb x x refl)
    ∙ ap (λ (ds : List Duty). Look x ∷ ds) (none_left (is_about x) (open_work v))))

pub looks : (v u : View) (x found : ℕ) → work_about x v ≡ SetMark x ∷ [] → u ≡ view_after (turned v x) found
    → IsNext (Look x) (work_about x u)
looks v u x found is after =
    subst (λ (w : View). IsNext (Look x) (work_about x w)) (sym after)
    (subst (IsNext (Look x)) (sym (looks_next v x found is)) refl)

pub still_marks : (v u : View) (x found : ℕ) → CanAct v → work_about x v ≡ SetMark x ∷ []
    → u ≡ view_after (turned v x) found → CanAct u
still_marks v u x found acts is after =
    subst CanAct (sym after) (subst (λ (ds : List Duty). CanAct (view_by (turned v x) ds found)) (sym is)
    (acts.0, subst MayWait (sym (look_ready v.actor.head x)) refl))
