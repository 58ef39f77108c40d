-- One row's numbers and life before and after a thread's step.
use Rattle.std.proofs.Common.{◌≡◌, ℕ, ◌+◌, ◌≤◌, List, refl, sym, ap, ◌∙◌, subst, arith}
use Rattle.std.specs.Prelude.{sum_by}
use Rattle.brc_model.specs.AbstractState.{references_to}
use Rattle.brc_model.specs.declared.duty.Duty.{Duty}
use Rattle.brc_model.specs.declared.address.Address.TheVariants.{Local, Shared}
use Rattle.brc_model.specs.Duties.{address_of, continuation}
use Rattle.brc_model.specs.declared.actor.Actor.{Actor}
use Rattle.brc_model.specs.Machine.{Life, Unborn, Live, Dying, Closed, Machine, is_running, life_by, machine_by_duty, mark_of}
use Rattle.brc_model.specs.RowInvariant.{waits, carries, merges, decides, Numbers, IsLive, RowInvariant}
use Rattle.brc_model.specs.Accounts.{Accounts}
use Rattle.brc_model.specs.Invariant.{AtDuty, numbers_of}
use Rattle.brc_model.specs.Knowledge.{HeadFits, HeadOf}
use Rattle.brc_model.proofs.Objects.Weights.{Weighed, weighed_after}
use Rattle.brc_model.specs.Layout.{block_of, IsCounted}

module _ {p : Accounts} {n : ℕ} {m : Machine} {t : ℕ} {a : Actor} {d : Duty} {rest : List Duty} where
  pub head_fits_of : AtDuty p n m t a d rest → HeadFits m t a d rest
  head_fits_of s = subst (λ (ds : List Duty). HeadOf m t a ds) s.agenda (s.core.each t a s.found).0.head_fits

-- The word that the duty finds.
abbrev pub found_by : Machine → ℕ → Actor → Duty → ℕ
found_by m t a d = m.memory (address_of m.layout t a.head d)

abbrev pub following : Machine → ℕ → Actor → Duty → List Duty
following m t a d = continuation m.layout t (is_running a.status) a.head d (found_by m t a d)

-- The row's invariant holds after the step.
abbrev pub KeepsRow : Machine → ℕ → Actor → Duty → List Duty → ℕ → Type 0
KeepsRow m t a d rest x =
    RowInvariant (block_of m.layout x) ((machine_by_duty m t a d rest).life x)
    (numbers_of (machine_by_duty m t a d rest) x)

module _ {p : Accounts} {n : ℕ} {m : Machine} {t : ℕ} {a : Actor} {d : Duty} {rest : List Duty} where
  pub weighed : AtDuty p n m t a d rest → (next : List Duty) → following m t a d ≡ next → (x : ℕ)
      → Weighed m (machine_by_duty m t a d rest) x d next
  weighed s next follows x = weighed_after m t a d rest next s.found s.agenda follows x

-- ---- the numbers after the step

pub record IsSame (n k : Numbers) : Type 0 where
  pub local : n.local ≡ k.local
  pub shared : n.shared ≡ k.shared
  pub mark : n.mark ≡ k.mark
  pub references : n.references ≡ k.references
  pub waiting : n.waiting ≡ k.waiting
  pub carried : n.carried ≡ k.carried
  pub merging : n.merging ≡ k.merging
  pub deciding : n.deciding ≡ k.deciding

same_numbers : (n k : Numbers) → IsSame n k → n ≡ k
same_numbers n k s =
    λ i. record {
      local = s.local i;
      shared = s.shared i;
      mark = s.mark i;
      references = s.references i;
      waiting = s.waiting i;
      carried = s.carried i;
      merging = s.merging i;
      deciding = s.deciding i;
    }

pub row_becomes : (m : Machine) (t : ℕ) (a : Actor) (d : Duty) (rest : List Duty) (x : ℕ) (next : List Duty)
    → following m t a d ≡ next → (life : Life) → life_by m.life t d next x ≡ life
    → (k : Numbers) → IsSame k (numbers_of (machine_by_duty m t a d rest) x) → RowInvariant (block_of m.layout x) life k
    → KeepsRow m t a d rest x
row_becomes m t a d rest x next follows life lives k same holds =
    let now : (machine_by_duty m t a d rest).life x ≡ life = ap (λ (ds : List Duty). life_by m.life t d ds x) follows
    ∙ lives in
    let numbers : k ≡ numbers_of (machine_by_duty m t a d rest) x = same_numbers k
    (numbers_of (machine_by_duty m t a d rest) x) same in
    subst (λ (l : Life). RowInvariant (block_of m.layout x) l (numbers_of (machine_by_duty m t a d rest) x)) (sym now)
    (subst (λ (k : Numbers). RowInvariant (block_of m.layout x) life k) numbers holds)

-- ---- steps that leave the row unchanged

pub record RowStays (m : Machine) (t : ℕ) (a : Actor) (d : Duty) (rest : List Duty) (x : ℕ) (next : List Duty) : Type 0
  where
    pub follows : following m t a d ≡ next
    pub lives : life_by m.life t d next x ≡ m.life x
    pub local : m.memory (Local x) ≡ (machine_by_duty m t a d rest).memory (Local x)
    pub shared : m.memory (Shared x) ≡ (machine_by_duty m t a d rest).memory (Shared x)
    pub mark : mark_of m.layout m.memory x ≡ mark_of m.layout (machine_by_duty m t a d rest).memory x
    pub references : references_to x m.abstract.references
        ≡ references_to x (machine_by_duty m t a d rest).abstract.references
    pub waiting : sum_by (waits x) next ≡ waits x d
    pub carried : sum_by (carries x) next ≡ carries x d
    pub merging : sum_by (merges x) next ≡ merges x d
    pub deciding : sum_by (decides x) next ≡ decides x d

module _ {p : Accounts} {n : ℕ} {m : Machine} {t : ℕ} {a : Actor} {d : Duty} {rest : List Duty} where
  pub row_stays : {next : List Duty} {x : ℕ} → AtDuty p n m t a d rest → IsCounted m.layout x
      → RowStays m t a d rest x next → KeepsRow m t a d rest x
  row_stays {next = next} {x = x} s some q =
      let w = weighed s next q.follows x in
      row_becomes m t a d rest x next q.follows (m.life x) q.lives (numbers_of m x) (record {
        local = q.local;
        shared = q.shared;
        mark = q.mark;
        references = q.references;
        waiting = omega (arith, w.waiting, q.waiting);
        carried = omega (arith, w.carried, q.carried);
        merging = omega (arith, w.merging, q.merging);
        deciding = omega (arith, w.deciding, q.deciding);
      }) (s.core.rows x some)

-- ---- a counted row is live

pub record Lives (owner : ℕ) (life : Life) (n : Numbers) : Type 0 where
  pub is_live : life ≡ Live
  pub invariant : IsLive owner n

pub row_lives : (owner : ℕ) (life : Life) (n : Numbers) → RowInvariant owner life n
    → 1 ≤ n.references + n.mark + n.waiting + n.merging + n.deciding → Lives owner life n
row_lives owner Unborn n r some = absurd (omega (arith, r.references, r.mark, r.waiting, r.merging, r.deciding, some))
row_lives owner Live n r some = record { is_live = refl; invariant = r }
row_lives owner (Dying t) n r some =
    absurd (omega (arith, r.references, r.mark, r.waiting, r.merging, r.deciding, some))
row_lives owner Closed n r some = absurd (omega (arith, r.references, r.mark, r.waiting, r.merging, r.deciding, some))
