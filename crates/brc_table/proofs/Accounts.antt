-- Accounts with that of one thread replaced, and the references that a hand lists.
use Rattle.std.proofs.Common.{◌≡◌, ◌≢◌, ℕ, ◌+◌, ◌-◌, Bool, true, cond, List, ◌∷◌, inl, inr, refl, sym, ap, ◌∙◌, arith}
use Rattle.std.specs.Prelude.{◌==◌, ◌&&◌, count_by}
use Rattle.std.proofs.Math.Path.{fun_ext}
use Rattle.std.proofs.lemmas.Bool.{cases_Bool, eq-eqb, ne_eqb, false≢true}
use Rattle.std.proofs.lemmas.Bool.Decides.{eqb_tells}
use Rattle.brc_model.specs.declared.duty.Holding.{Holding}
use Rattle.brc_model.specs.declared.duty.Holding.TheVariants.{AsCaller}
use Rattle.brc_model.specs.declared.layout.Layout.{Layout}
use Rattle.brc_model.specs.Layout.{is_immortal_row, IsCounted}
use Rattle.brc_model.specs.AbstractState.{same_holding}
use Rattle.brc_model.specs.References.{one_if}
use Rattle.brc_model.specs.Accounts.{Account, Accounts}
use Rattle.brc_model.specs.Counting.{with_account, with_one_more}
use Rattle.brc_table.specs.Views.{without_one, with_reference, without_reference}
use Rattle.brc_table.proofs.Picked.{count_more, count_less}

-- ---- one account replaced

-- The thread has the new account.
pub with_account_same : (p : Accounts) (t : ℕ) (account : Account) → with_account p t account t ≡ account
with_account_same p t account = ap (λ (b : Bool). cond b account (p t)) (eq-eqb t t refl)

-- Another thread keeps its account.
pub with_account_other : (p : Accounts) (t : ℕ) (account : Account) (u : ℕ) → u ≢ t → with_account p t account u ≡ p u
with_account_other p t account u apart = ap (λ (b : Bool). cond b account (p u)) (ne_eqb u t apart)

-- Replacing an account by itself changes nothing.
pub with_account_itself : (p : Accounts) (t : ℕ) → with_account p t (p t) ≡ p
with_account_itself p t =
    fun_ext (λ (u : ℕ).
    elim (eqb_tells u t) [
      | inl this ↦ ap (λ (b : Bool). cond b (p t) (p u)) this.0 ∙ ap p (sym this.1)
      | inr apart ↦ with_account_other p t (p t) u apart.1
    ])

-- One reference more to an object changes no other entry of the accounts.
pub one_more_else : (p : Accounts) (t x u : ℕ) (k : Holding) (y : ℕ) → one_if (same_holding AsCaller k && (x == y)) ≡ 0
    → with_account p t (with_one_more (p t) AsCaller x) u k y ≡ p u k y
one_more_else p t x u k y none =
    elim (eqb_tells u t) [
      | inl this ↦
          let more = with_one_more (p t) AsCaller x in
          let same : more k y ≡ p t k y = omega (arith, none) in
          ap (λ (w : ℕ). with_account p t more w k y) this.1
          ∙ (ap (λ (a : Account). a k y) (with_account_same p t more)
          ∙ (same ∙ ap (λ (w : ℕ). p w k y) (sym this.1)))
      | inr apart ↦
          ap (λ (a : Account). a k y) (with_account_other p t (with_one_more (p t) AsCaller x) u apart.1)
    ]

-- ---- references to counted objects

-- A counted row isn't an immortal one.
pub immortal_apart : (layout : Layout) (x y : ℕ) → is_immortal_row layout x ≡ true → IsCounted layout y
    → one_if (x == y) ≡ 0
immortal_apart layout x y immortal counted =
    ap one_if (ne_eqb x y (λ e. false≢true (sym counted ∙ (ap (is_immortal_row layout) (sym e) ∙ immortal))))

-- With a reference more, and with one less, the number of references to a counted object changes only if the reference
-- is to that object.
pub count_with_reference : (layout : Layout) (x y : ℕ) (rows : List ℕ) → IsCounted layout y
    → count_by (λ z. z == y) (with_reference layout x rows) ≡ count_by (λ z. z == y) rows + one_if (x == y)
count_with_reference layout x y rows counted =
    elim (cases_Bool (is_immortal_row layout x)) [
      | inl immortal ↦
          let none = immortal_apart layout x y immortal counted in
          ap (λ (b : Bool). count_by (λ z. z == y) (cond b rows (x ∷ rows))) immortal ∙ omega (arith, none)
      | inr other ↦
          ap (λ (b : Bool). count_by (λ z. z == y) (cond b rows (x ∷ rows))) other ∙ count_more x y rows
    ]

pub count_without_reference : (layout : Layout) (x y : ℕ) (rows : List ℕ) → IsCounted layout y
    → count_by (λ z. z == y) (without_reference layout x rows) ≡ count_by (λ z. z == y) rows - one_if (x == y)
count_without_reference layout x y rows counted =
    elim (cases_Bool (is_immortal_row layout x)) [
      | inl immortal ↦
          let none = immortal_apart layout x y immortal counted in
          ap (λ (b : Bool). count_by (λ z. z == y) (cond b rows (without_one x rows))) immortal ∙ omega (arith, none)
      | inr other ↦
          ap (λ (b : Bool). count_by (λ z. z == y) (cond b rows (without_one x rows))) other ∙ count_less x y rows
    ]
