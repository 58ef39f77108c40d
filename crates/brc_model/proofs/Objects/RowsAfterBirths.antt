-- A birth keeps the invariant of the row that is born.
use Rattle.std.proofs.Common.{ℕ, ◌+◌, ◌<◌, Bool, cond, List, [], ◌∷◌, refl, sym, ap, subst, arith}
use Rattle.std.proofs.lemmas.Option.{slice_get_within}
use Rattle.brc_model.specs.declared.duty.Holding.{Holding}
use Rattle.brc_word.specs.Words.{most_local, local_word}
use Rattle.brc_model.specs.declared.duty.Duty.{Duty}
use Rattle.brc_model.specs.declared.duty.Duty.TheVariants.{BirthKind, BirthField, BirthLocal}
use Rattle.brc_model.specs.declared.address.Address.TheVariants.{Local}
use Rattle.brc_model.specs.Duties.{has_resource}
use Rattle.brc_model.specs.declared.actor.Actor.{Actor}
use Rattle.brc_model.specs.Machine.{Life, Live, Machine}
use Rattle.brc_model.proofs.Basics.Bag.{references_to-cons}
use Rattle.brc_model.specs.References.{reference_of}
use Rattle.brc_model.specs.RowInvariant.{Numbers, IsDefault, AboveZero, InOwned, IsLive, IsUnborn, RowInvariant}
use Rattle.brc_model.specs.Accounts.{Accounts}
use Rattle.brc_model.specs.Knowledge.{IsNext}
use Rattle.brc_model.specs.Invariant.{AtDuty, numbers_of}
use Rattle.brc_model.proofs.Objects.RowsAfterOwn.{own, one_own, written_here, row_apart}
use Rattle.brc_model.proofs.Objects.RowsAfterStep.{KeepsRow, head_fits_of, weighed, row_becomes}
use Rattle.brc_model.proofs.Objects.RowsAfterElsewhere.{apart_if, all_light}
use Rattle.brc_model.proofs.Basics.Blocks.{next_counted, next_unborn, next_block}
use Rattle.brc_model.specs.Layout.{block_of, IsCounted}

-- ---- the kind word

module _ {p : Accounts} {n : ℕ} {m : Machine} {t : ℕ} {a : Actor} {rest : List Duty} where
  -- The row's invariant holds after `KindOfResource` and `KindOfOther`.
  pub row_after_birth_kind : {y : ℕ} {h : Holding} {w : ℕ} → IsCounted m.layout y
      → AtDuty p n m t a (BirthKind y h w) rest → KeepsRow m t a (BirthKind y h w) rest y
  row_after_birth_kind {y = y} {h = h} {w = w} some s =
      let field = all_light y (BirthField y h ∷ []) refl in
      let local = all_light y (BirthLocal y h ∷ []) refl in
      row_apart s y some refl (apart_if (has_resource w) field local) (λ life state. refl)
      (record { local = refl; shared = refl; mark = refl; references = refl })

-- ---- the local word

-- `Born`: the row is live. Its owner has one local reference, and nothing else is counted.
born_live : (owner : ℕ) (k : Numbers) → owner < most_local → IsUnborn k
    → IsLive owner (record k { local = local_word owner 1; references = k.references + 1 })
born_live owner k low unborn = record {
  sum = omega (arith, low, unborn.shared, unborn.mark, unborn.references, unborn.waiting, unborn.carried);
  mode = InOwned (record {
    owned = omega (arith, low);
    low = omega (arith, low);
    merging = unborn.merging;
    carried = unborn.carried;
    decided = AboveZero (omega (arith, low)) unborn.deciding;
    phased =
        IsDefault (omega (arith, unborn.shared)) (omega (arith, unborn.mark, unborn.waiting))
        (omega (arith, unborn.shared));
  });
}

module _ {p : Accounts} {n : ℕ} {m : Machine} {t : ℕ} {a : Actor} {rest : List Duty} where
  -- The row's invariant holds after `Born`.
  pub row_after_birth_local : {y : ℕ} {h : Holding} → AtDuty p n m t a (BirthLocal y h) rest
      → KeepsRow m t a (BirthLocal y h) rest y
  row_after_birth_local {y = y} {h = h} s =
      let next : IsNext m t a y = (head_fits_of s).0 in
      let k = numbers_of m y in
      let weights = weighed s [] refl y in
      let one = one_own y in
      let above = next_counted m t a y next in
      let block = next_block m t a y next in
      let within = slice_get_within m.actors t a s.found in
      let unborn : IsUnborn k =
      subst (λ (l : Life). RowInvariant (block_of m.layout y) l k) (next_unborn p n m t a y s.core s.found next)
      (s.core.rows y above) in
      row_becomes m t a (BirthLocal y h) rest y [] refl Live (ap (λ (b : Bool). cond b Live (m.life y)) (own y))
      (record k { local = local_word t 1; references = k.references + 1 }) (record {
        local = sym (written_here m.memory (Local y) (local_word t 1) (own y));
        shared = refl;
        mark = refl;
        references = omega (arith, references_to-cons y (reference_of t h y) m.abstract.references, one);
        waiting = omega (arith, weights.waiting);
        carried = omega (arith, weights.carried);
        merging = omega (arith, weights.merging);
        deciding = omega (arith, weights.deciding);
      }) (subst (λ (o : ℕ). IsLive o (record k { local = local_word t 1; references = k.references + 1 })) (sym block)
      (born_live t k (omega (arith, within, s.core.threads, s.core.few_threads)) unborn))
