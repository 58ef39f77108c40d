-- What main keeps for the hands that it gives out, and what a new hand carries.
use Rattle.std.proofs.Common.{◌≡◌, ◌≢◌, ℕ, zero, suc, ◌-◌, ◌<◌, ◌≤◌, Bool, true, false, cond, List, [], ◌∷◌, ◌++◌, length, replicate, set, Option, None, Some, inl, inr, refl, sym, ap, ◌∙◌, arith}
use Rattle.std.specs.Prelude.{◌==◌, ◌||◌, slice_get, slice_index_or}
use Rattle.std.proofs.lemmas.Bool.{eq-eqb, ne_eqb, cases_Bool, false≢true}
use Rattle.std.proofs.lemmas.Bool.Decides.{eqb_tells}
use Rattle.std.proofs.lemmas.List.{length-replicate}
use Rattle.brc_model.specs.Limits.{block_limit}
use Rattle.brc_table.specs.declared.view.View.{View}
use Rattle.brc_table.specs.Spares.{is_spent, is_spent_for}
use Rattle.brc_table.specs.Views.{is_given, IsGivenBy, giving}
use Rattle.brc_table.proofs.Lists.{slice_get-set_same, slice_get-set_other, get_or-same}

-- ---- spares

-- One spare more, which isn't spent.
pub spare_more : {A : Type 0} (spares : List (Option A)) (spare : A) (worker : ℕ)
    → ((k : ℕ) → is_spent (slice_get spares k) ≡ false) → is_spent (slice_get (spares ++ Some spare ∷ []) worker)
    ≡ false
spare_more [] spare zero left = refl
spare_more [] spare (suc worker) left = refl
spare_more (first ∷ spares) spare zero left = left zero
spare_more (first ∷ spares) spare (suc worker) left = spare_more spares spare worker (λ k. left (suc k))

-- A worker's spare.
pub spent_at : {A : Type 0} (spares : List (Option A)) (t : ℕ) → 0 < t
    → is_spent_for spares t ≡ is_spent (slice_get spares (t - 1))
spent_at spares t some =
    ap (λ (b : Bool). cond b false (is_spent (slice_get spares (t - 1))))
    (ne_eqb t 0 (λ e. absurd (omega (arith, e, some))))

-- Where no spare is spent, no thread's is.
pub none_spent : {A : Type 0} (spares : List (Option A)) (t : ℕ) → ((k : ℕ) → is_spent (slice_get spares k) ≡ false)
    → is_spent_for spares t ≡ false
none_spent spares t left = elim (cases_Bool (t == 0)) [
  | inl main ↦ ap (λ (b : Bool). cond b false (is_spent (slice_get spares (t - 1)))) main
  | inr worker ↦ ap (λ (b : Bool). cond b false (is_spent (slice_get spares (t - 1)))) worker ∙ left (t - 1)
]

-- The spare of another thread is as it was.
others_spent : {A : Type 0} (spares : List (Option A)) (t k : ℕ) → 0 < t → k ≢ t
    → is_spent_for (set spares (t - 1) None) k ≡ is_spent_for spares k
others_spent spares t k some apart = elim (cases_Bool (k == 0)) [
  | inl main ↦
      ap (λ (b : Bool). cond b false (is_spent (slice_get (set spares (t - 1) None) (k - 1)))) main
      ∙ sym (ap (λ (b : Bool). cond b false (is_spent (slice_get spares (k - 1)))) main)
  | inr worker ↦
      let nonzero : k ≢ 0 = λ e. false≢true (sym worker ∙ eq-eqb k 0 e) in
      let low : 0 < k = omega (arith, nonzero) in
      spent_at (set spares (t - 1) None) k low
      ∙ (ap is_spent (slice_get-set_other spares (t - 1) (k - 1) None (λ e. apart (omega (arith, e, low, some))))
      ∙ sym (spent_at spares k low))
]

-- The spares say that the worker's hand was given out too, once its spare is spent.
pub given_by : {A : Type 0} (spares : List (Option A)) (v : View) (t : ℕ) → 0 < t → t ≤ length spares
    → IsGivenBy spares v → IsGivenBy (set spares (t - 1) None) (giving v t)
given_by spares v t some known says k = elim (eqb_tells k t) [
  | inl this ↦
      let same : is_spent_for (set spares (t - 1) None) t ≡ true =
      spent_at (set spares (t - 1) None) t some ∙ ap is_spent
      (slice_get-set_same spares (t - 1) None (omega (arith, some, known))) in
      ap (is_spent_for (set spares (t - 1) None)) this.1
      ∙ (same ∙ sym (ap (λ (b : Bool). b || is_given k v) (eq-eqb t k (sym this.1))))
  | inr apart ↦
      others_spent spares t k some apart.1
      ∙ (says k ∙ sym (ap (λ (b : Bool). b || is_given k v) (ne_eqb t k (λ e. apart.1 (sym e)))))
]

-- ---- what a hand carries

-- A new hand has room for each row of its block.
pub room : (counts : List (Option ℕ)) → counts ≡ replicate block_limit None → length counts ≡ block_limit
room counts is = ap length is ∙ length-replicate {0} {A = Option ℕ} block_limit None

-- It carries nothing.
pub nothing : (counts : List (Option ℕ)) → counts ≡ replicate block_limit None → (k : ℕ)
    → slice_index_or counts k None ≡ None
nothing counts is k =
    ap (λ (cs : List (Option ℕ)). slice_index_or cs k None) is
    ∙ get_or-same block_limit k None
