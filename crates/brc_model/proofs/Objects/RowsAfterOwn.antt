-- What each proof about a duty's own row starts from: the row's words and weights, and the references of its thread.
use Rattle.std.proofs.Common.{◌≡◌, ℕ, ◌+◌, ◌<◌, ◌≤◌, Bool, true, false, cond, List, refl, sym, ap, ◌∙◌, arith}
use Rattle.std.specs.Prelude.{◌==◌}
use Rattle.std.specs.List.{list_any}
use Rattle.std.proofs.lemmas.Bool.{eq-eqb, ne_eqb}
use Rattle.brc_model.specs.declared.duty.Holding.{Holding}
use Rattle.brc_model.specs.AbstractState.{Reference, same, without, references_to}
use Rattle.brc_word.specs.Words.{immortal_local, local_part, is_immortal_word}
use Rattle.brc_model.specs.declared.duty.Duty.{Duty}
use Rattle.brc_model.specs.declared.address.Address.{Address}
use Rattle.brc_model.specs.declared.address.Address.TheVariants.{Local, Shared}
use Rattle.brc_model.specs.declared.actor.Actor.{Actor}
use Rattle.brc_model.specs.Machine.{Life, Live, Machine, written, same_address, with_life, ended_row, born_row, machine_by_duty, mark_of}
use Rattle.brc_model.proofs.Basics.Bag.{held_has, held-le-references_to, references_to-without}
use Rattle.brc_model.specs.References.{held, one_if, reference_of}
use Rattle.brc_model.specs.RowInvariant.{Numbers, InOwned, InSwapped, InMerged, IsLive}
use Rattle.brc_model.specs.Accounts.{Accounts, extra, lacks, extra_of, lacks_of}
use Rattle.brc_model.specs.Invariant.{AtDuty, numbers_of}
use Rattle.brc_model.specs.Knowledge.{IsBacked}
use Rattle.brc_model.proofs.Frame.Alive.{backed_referenced}
use Rattle.brc_model.proofs.Frame.Aside.{extra_held}
use Rattle.brc_model.proofs.Objects.RowsAfterStep.{following, KeepsRow, RowStays, row_stays, Lives, row_lives}
use Rattle.brc_model.proofs.Objects.RowsAfterElsewhere.{AreApart, weighs, light_apart}
use Rattle.brc_model.specs.Layout.{block_of, IsCounted}

pub own : (y : ℕ) → (y == y) ≡ true
own y = eq-eqb y y refl

pub one_own : (y : ℕ) → one_if (y == y) ≡ 1
one_own y = ap one_if (own y)

-- Reading back a word that was just written.
pub written_here : (memory : Address → ℕ) (at : Address) (word : ℕ) → same_address at at ≡ true
    → written memory at word at ≡ word
written_here memory at word this = ap (λ (same : Bool). cond same word (memory at)) this

-- ---- references of the thread

module _ {p : Accounts} {n : ℕ} {m : Machine} {t : ℕ} {a : Actor} {d : Duty} {rest : List Duty} where
  -- The bag has the reference that a duty gives up.
  pub gives_up : AtDuty p n m t a d rest → (k : Holding) (object : ℕ) → extra d k object ≡ true
      → lacks d k object ≡ false → 0 < held (reference_of t k object) m.abstract.references
  gives_up s k object more less =
      let fits = s.core.each t a s.found in
      extra_held m t (p t) a k object fits.0.holds fits.2
      (ap (λ (ds : List Duty). extra_of ds k object) s.agenda ∙ more)
      (ap (λ (ds : List Duty). lacks_of ds k object) s.agenda ∙ less)

-- The bag has the reference, and has one reference less to its object without it.
pub record IsLost (bag : List Reference) (r : Reference) : Type 0 where
  pub has : list_any (same r) bag ≡ true
  pub before : 1 ≤ references_to r.object bag
  pub less : references_to r.object (without r bag) + 1 ≡ references_to r.object bag

pub is_lost : (bag : List Reference) (r : Reference) → 0 < held r bag → IsLost bag r
is_lost bag r some =
    let has = held_has r bag some in
    let this = one_own r.object in
    record {
      has = has;
      before = omega (arith, held-le-references_to r bag, some);
      less = omega (arith, references_to-without r.object r bag has, this);
    }

-- ---- live rows

module _ {p : Accounts} {n : ℕ} {m : Machine} {t : ℕ} {a : Actor} {d : Duty} {rest : List Duty} where
  pub lives_so : AtDuty p n m t a d rest → (y : ℕ) → IsCounted m.layout y
      → 1 ≤ (numbers_of m y).references + (numbers_of m y).mark + (numbers_of m y).waiting + (numbers_of m y).merging
      + (numbers_of m y).deciding → Lives (block_of m.layout y) (m.life y) (numbers_of m y)
  lives_so s y some counted = row_lives (block_of m.layout y) (m.life y) (numbers_of m y) (s.core.rows y some) counted

  pub lives_backed : AtDuty p n m t a d rest → (y : ℕ) → IsCounted m.layout y → IsBacked m t a y
      → Lives (block_of m.layout y) (m.life y) (numbers_of m y)
  lives_backed s y some backed = lives_so s y some (omega (arith, backed_referenced p n m t a y s.core backed))

-- A live counted row isn't immortal.
pub counted_word : (owner : ℕ) (n : Numbers) → IsLive owner n → is_immortal_word n.local ≡ false
counted_word owner n live =
    ne_eqb (local_part n.local) immortal_local (λ (e : local_part n.local ≡ immortal_local).
    elim live.mode [
      | InOwned o ↦ absurd (omega (arith, o.low, e))
      | InSwapped w ↦ absurd (omega (arith, w.local, e))
      | InMerged w ↦ absurd (omega (arith, w.local, e))
    ])

-- ---- duties that weigh nothing at the row

pub record KeepsWords (m after : Machine) (x : ℕ) : Type 0 where
  pub local : m.memory (Local x) ≡ after.memory (Local x)
  pub shared : m.memory (Shared x) ≡ after.memory (Shared x)
  pub mark : mark_of m.layout m.memory x ≡ mark_of after.layout after.memory x
  pub references : references_to x m.abstract.references ≡ references_to x after.abstract.references

module _ {p : Accounts} {n : ℕ} {m : Machine} {t : ℕ} {a : Actor} {d : Duty} {rest : List Duty} where
  pub row_apart : AtDuty p n m t a d rest → (x : ℕ) → IsCounted m.layout x → weighs d ≡ false
      → AreApart x (following m t a d)
      → ((life : ℕ → Life) (state : Life) → with_life (with_life life (ended_row d) state) (born_row d) Live x ≡ life x)
      → KeepsWords m (machine_by_duty m t a d rest) x → KeepsRow m t a d rest x
  row_apart s x some light next ends words =
      let this = light_apart x d light in
      let q : RowStays m t a d rest x (following m t a d) = record {
        follows = refl;
        lives = ends _ _ ∙ next.lives m.life _;
        local = words.local;
        shared = words.shared;
        mark = words.mark;
        references = words.references;
        waiting = next.waiting ∙ sym this.waiting;
        carried = next.carried ∙ sym this.carried;
        merging = next.merging ∙ sym this.merging;
        deciding = next.deciding ∙ sym this.deciding;
      } in
      row_stays s some q
