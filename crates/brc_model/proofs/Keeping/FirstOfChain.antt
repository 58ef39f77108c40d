-- The first object of a thread's dying chain: the thread has chained it, and it is a counted object with a row.
use Rattle.std.proofs.Common.{◌≡◌, ℕ, ◌+◌, ◌<◌, cond, List, [], ◌∷◌, inl, inr, Some, sym, ap, ◌∙◌, subst, arith}
use Rattle.std.specs.Prelude.{◌==◌, slice_get, count_by}
use Rattle.std.proofs.lemmas.Bool.{cases_Bool, eq-eqb}
use Rattle.std.proofs.lemmas.List.Sums.{sum_by-cons}
use Rattle.brc_model.specs.declared.address.Address.{Address}
use Rattle.brc_model.specs.declared.address.Address.TheVariants.{Gate}
use Rattle.brc_model.specs.Layout.{row_count, is_immortal_row, IsCounted}
use Rattle.brc_model.specs.declared.actor.Actor.{Actor}
use Rattle.brc_model.specs.Machine.{Machine, Live, Dying}
use Rattle.brc_model.specs.References.{one_if}
use Rattle.brc_model.specs.Accounts.{Accounts}
use Rattle.brc_model.specs.Knowledge.{IsDyingWord, HasChained}
use Rattle.brc_model.specs.OpenWork.{Linked}
use Rattle.brc_model.specs.Invariant.{CoreInvariant}
use Rattle.brc_model.specs.CountingLaws.{IsFirstOfChain}
use Rattle.brc_model.proofs.Basics.Bag.{one_if_true}
use Rattle.brc_model.proofs.Frame.Others.{is_dying}
use Rattle.brc_model.proofs.Limits.Ranges.{head_small}

-- The first row of a chain is one of its rows.
pub first_counts : (memory : Address → ℕ) (t head x : ℕ) (chained : List ℕ) → Linked memory t head chained
    → head ≡ x + 1 → 0 < count_by (λ y. y == x) chained
first_counts memory t head x [] linked first = absurd (omega (arith, linked, first))
first_counts memory t head x (y ∷ ys) linked first =
    let same : y ≡ x = omega (arith, linked.0, first) in
    let one : one_if (y == x) ≡ 1 = ap one_if (eq-eqb y x same) in
    omega (arith, sum_by-cons (λ z. cond (z == x) 1 0) y ys, one)

-- Its gate names the thread and the next row.
first_word : (memory : Address → ℕ) (t head x : ℕ) (chained : List ℕ) → Linked memory t head chained → head ≡ x + 1
    → IsDyingWord t (memory (Gate x))
first_word memory t head x [] linked first = absurd (omega (arith, linked, first))
first_word memory t head x (y ∷ ys) linked first =
    let same : y ≡ x = omega (arith, linked.0, first) in
    subst (λ (z : ℕ). IsDyingWord t (memory (Gate z))) same (linked.1.0, linked.1.1, linked.1.2)

module _ {p : Accounts} {n : ℕ} {m : Machine} where
  pub first_chained : (t : ℕ) (a : Actor) (x : ℕ) → CoreInvariant p n m → slice_get m.actors t ≡ Some a
      → IsFirstOfChain a x → HasChained m t x
  first_chained t a x core found first =
      let chain = (core.each t a found).0.chain in (
        is_dying (m.life x) t (one_if_true _ (omega (
          arith,
          chain.once x,
          first_counts m.memory t a.head x chain.chained chain.linked first,
        ))),
        first_word m.memory t a.head x chain.chained chain.linked first,
      )

  -- What a thread has chained is counted: immortal objects live.
  pub chained_counted : (t x : ℕ) → CoreInvariant p n m → HasChained m t x → IsCounted m.layout x
  chained_counted t x core chained = elim (cases_Bool (is_immortal_row m.layout x)) [
    | inl immortal ↦
        let wrong : Live ≡ Dying t = sym (core.immortals_live x immortal) ∙ chained.0 in
        absurd cc
    | inr counted ↦ counted
  ]

  pub chained_row : (t : ℕ) (a : Actor) (x : ℕ) → CoreInvariant p n m → slice_get m.actors t ≡ Some a
      → IsFirstOfChain a x
      → x < row_count m.layout
  chained_row t a x core found first = omega (arith, head_small t a core found, first)
