-- A thread with new work, another place or another account: if its duties weigh what they weighed before, the core
-- invariant still holds. Memory, references and lives are unchanged.
use Rattle.std.proofs.Common.{◌≡◌, ◌≢◌, ℕ, Bool, true, false, cond, List, inl, inr, Option, Some, refl, sym, ap, ◌∙◌, subst, arith}
use Rattle.std.specs.Prelude.{◌==◌, slice_get, slice_set}
use Rattle.std.proofs.lemmas.Bool.{eq-eqb, ne_eqb}
use Rattle.std.proofs.Math.Path.{fun_ext}
use Rattle.std.proofs.lemmas.Bool.Decides.{eqb_tells}
use Rattle.std.proofs.lemmas.List.{length-set}
use Rattle.std.proofs.lemmas.Option.{slice_get_within}
use Rattle.brc_model.specs.declared.duty.Duty.{Duty}
use Rattle.brc_model.specs.declared.duty.Holding.TheVariants.{InFlight}
use Rattle.brc_model.specs.declared.address.Address.TheVariants.{Gate}
use Rattle.brc_model.specs.declared.actor.Actor.{Actor}
use Rattle.brc_model.specs.Machine.{Machine, with_actor}
use Rattle.brc_model.proofs.Basics.Lists.{some_is, slice_get-set_same, slice_get-set_other, written_actor}
use Rattle.brc_model.proofs.Objects.Weights.{weight-set}
use Rattle.brc_model.specs.RowInvariant.{waits, carries, merges, decides, agenda_weight, weight, Numbers, RowInvariant}
use Rattle.brc_model.specs.Accounts.{Account, Accounts}
use Rattle.brc_model.specs.Invariant.{numbers_of, Fits, looks, IsWatched, ByRunning, ByExit, ByLook, CoreInvariant, UsesFit, BlankFits}
use Rattle.brc_model.specs.OpenWork.{scans}
use Rattle.brc_model.specs.Counting.{HasNothingInFlight, with_account}
use Rattle.brc_model.proofs.Frame.Others.{LeavesOthers, same_memory, each_fits}
use Rattle.brc_model.proofs.Frame.Locks.{gate_fits_kept}
use Rattle.brc_model.specs.SlotStates.{names}
use Rattle.brc_model.specs.References.{one_if}
use Rattle.brc_model.specs.Resources.{lends, closing, ending, resources_at, ResourcesFit}
use Rattle.brc_model.proofs.Objects.Finalisers.{Finalises}
use Rattle.brc_model.proofs.Objects.Lenders.{lenders-set}
use Rattle.brc_model.proofs.Objects.SettlingWeights.{finalises, of_closing, of_ending}
use Rattle.brc_model.specs.Layout.{block_of, index_of}

pub with_account_same : (p : Accounts) (t : ℕ) (account : Account) → account ≡ with_account p t account t
with_account_same p t account = sym (ap (λ (b : Bool). cond b account (p t)) (eq-eqb t t refl))

with_account_here : (p : Accounts) (t : ℕ) (account : Account) (u : ℕ) → u ≡ t → account ≡ with_account p t account u
with_account_here p t account u this =
    sym (ap (λ (b : Bool). cond b account (p u)) (eq-eqb u t this))

pub with_account_other : (p : Accounts) (t : ℕ) (account : Account) (u : ℕ) → u ≢ t → p u ≡ with_account p t account u
with_account_other p t account u ne = sym (ap (λ (b : Bool). cond b account (p u)) (ne_eqb u t ne))

-- An account without a reference in flight replaces one.
pub flight_with : (p : Accounts) (t : ℕ) (account : Account) → HasNothingInFlight p
    → ((object : ℕ) → account InFlight object ≡ 0) → HasNothingInFlight (with_account p t account)
flight_with p t account none new u object =
    elim (u == t) as (λ b. cond b account (p u) InFlight object ≡ 0) [
      | true ↦ new object
      | false ↦ none u object
    ]

pub with_account_itself : (p : Accounts) (t : ℕ) → with_account p t (p t) ≡ p
with_account_itself p t =
    fun_ext (λ (u : ℕ).
    elim (eqb_tells u t) [
      | inl this ↦ sym (with_account_here p t (p t) u this.1) ∙ ap p (sym this.1)
      | inr apart ↦ sym (with_account_other p t (p t) u apart.1)
    ])

-- What the new state of one thread has to show.
pub record Replaces (m : Machine) (t : ℕ) (a b : Actor) (account : Account) : Type 0 where
  pub fits : Fits account (with_actor m t b) t b
  pub used : b.used ≡ a.used
  pub locked : b.locked ≡ a.locked
  pub lent : b.lent ≡ a.lent
  pub blanks : BlankFits m.layout m.memory t b.used b.agenda
  pub waits : (x : ℕ) → agenda_weight (waits x) b ≡ agenda_weight (waits x) a
  pub carries : (x : ℕ) → agenda_weight (carries x) b ≡ agenda_weight (carries x) a
  pub merges : (x : ℕ) → agenda_weight (merges x) b ≡ agenda_weight (merges x) a
  pub decides : (x : ℕ) → agenda_weight (decides x) b ≡ agenda_weight (decides x) a
  pub looks : (x : ℕ) → agenda_weight (looks x) b ≡ agenda_weight (looks x) a
  pub finalises : (x : ℕ) (f : Duty → ℕ) → Finalises x f → agenda_weight f b ≡ agenda_weight f a
  pub scans : (x : ℕ) → scans x a.agenda ≡ true → scans x b.agenda ≡ true

same_weight : (f : Duty → ℕ) (actors : List Actor) (t : ℕ) (a b : Actor) → slice_get actors t ≡ Some a
    → agenda_weight f b ≡ agenda_weight f a → weight f (slice_set actors t b) ≡ weight f actors
same_weight f actors t a b found same = omega (arith, weight-set f actors t a b found, same)

same_numbers : (m : Machine) (t : ℕ) (a b : Actor) (account : Account) (x : ℕ) → slice_get m.actors t ≡ Some a
    → Replaces m t a b account → numbers_of m x ≡ numbers_of (with_actor m t b) x
same_numbers m t a b account x found new =
    let w = sym (same_weight (waits x) m.actors t a b found (new.waits x)) in
    let c = sym (same_weight (carries x) m.actors t a b found (new.carries x)) in
    let g = sym (same_weight (merges x) m.actors t a b found (new.merges x)) in
    let d = sym (same_weight (decides x) m.actors t a b found (new.decides x)) in
    λ i. record (numbers_of m x) {
      waiting = w i;
      carried = c i;
      merging = g i;
      deciding = d i;
    }

-- If a thread lends and finalises what it did, all resources are where they were.
pub same_resources : (m : Machine) (t : ℕ) (a b : Actor) (x : ℕ) → slice_get m.actors t ≡ Some a → b.lent ≡ a.lent
    → ((f : Duty → ℕ) → Finalises x f → agenda_weight f b ≡ agenda_weight f a)
    → resources_at m x ≡ resources_at (with_actor m t b) x
same_resources m t a b x found lent same =
    let old = resources_at m x in
    let one : lends x b ≡ lends x a = ap (λ (o : Option ℕ). one_if (names o x)) lent in
    let l : old.lent ≡ (resources_at (with_actor m t b) x).lent =
    omega (arith, lenders-set x m.actors t a b found, one) in
    let c =
    sym (same_weight (closing x) m.actors t a b found (same (closing x) (finalises x (closing x) (of_closing x)))) in
    let d =
    sym (same_weight (ending x) m.actors t a b found (same (ending x) (finalises x (ending x) (of_ending x)))) in
    λ i. record {
      all = old.all;
      field = old.field;
      lent = l i;
      closing = c i;
      closed = old.closed;
      ending = d i;
    }

still_watched : (m : Machine) (t : ℕ) (a b : Actor) (account : Account) (x : ℕ) → slice_get m.actors t ≡ Some a
    → Replaces m t a b account → IsWatched m x → IsWatched (with_actor m t b) x
still_watched m t a b account x found new (ByRunning one) = ByRunning one
still_watched m t a b account x found new (ByExit c is scanned) =
    elim (eqb_tells (block_of m.layout x) t) [
      | inl same ↦
          let this : c ≡ a = some_is c a (sym is ∙ ap (slice_get m.actors) same.1 ∙ found) in
          let there : slice_get (slice_set m.actors t b) (block_of m.layout x) ≡ Some b =
          ap (slice_get (slice_set m.actors t b)) same.1
          ∙ slice_get-set_same m.actors t b (slice_get_within m.actors t a found) in
          ByExit b there
          (new.scans (index_of m.layout (block_of m.layout x) x)
          (sym (ap (λ (q : Actor). scans (index_of m.layout (block_of m.layout x) x) q.agenda) this) ∙ scanned))
      | inr apart ↦ ByExit c (slice_get-set_other m.actors t (block_of m.layout x) b apart.1 ∙ is) scanned
    ]
still_watched m t a b account x found new (ByLook some) =
    ByLook (omega (arith, some, same_weight (looks x) m.actors t a b found (new.looks x)))

nothing_changes : (m : Machine) (t : ℕ) (b : Actor) → LeavesOthers m (with_actor m t b) t
nothing_changes m t b =
    record { memory = same_memory m (slice_set m.actors t b) m.abstract t; bag = λ u k object ne. refl }

module _ {p : Accounts} {n : ℕ} {m : Machine} where
  pub replaced_core : (t : ℕ) (a b : Actor) (account : Account) → CoreInvariant p n m → slice_get m.actors t ≡ Some a
      → Replaces m t a b account → CoreInvariant (with_account p t account) n (with_actor m t b)
  replaced_core t a b account core found new = record {
    threads = length-set m.actors t b ∙ core.threads;
    some_rows = core.some_rows;
    few_threads = core.few_threads;
    few_rows = core.few_rows;
    workers = core.workers;
    few_cells = core.few_cells;
    few_immortals = core.few_immortals;
    few_numbers = core.few_numbers;
    rows =
        λ x pos. subst (λ (k : Numbers). RowInvariant (block_of m.layout x) (m.life x) k)
        (same_numbers m t a b account x found new) (core.rows x pos);
    marks = λ x. elim (core.marks x) [
      | inl none ↦ inl none
      | inr set ↦ inr (set.0, set.1, still_watched m t a b account x found new set.2)
    ];
    each =
        each_fits p (with_account p t account) m (with_actor m t b) t a b found (nothing_changes m t b)
        (with_account_other p t account)
        (subst (λ (c : Account). Fits c (with_actor m t b) t b) (with_account_same p t account) new.fits) core.each;
    beyond = core.beyond;
    gates = λ x. gate_fits_kept m.actors t a b found x (m.memory (Gate x)) (m.life x) new.locked (core.gates x);
    dying = core.dying;
    cells = core.cells;
    cells_end = core.cells_end;
    uses =
        λ u c is. written_actor (λ w q. UsesFit m.layout m.life w q.used) m.actors t a b found
        (subst (UsesFit m.layout m.life t) (sym new.used) (core.uses t a found)) core.uses u c is;
    blanks =
        λ u c is. written_actor (λ w q. BlankFits m.layout m.memory w q.used q.agenda) m.actors t a b found new.blanks
        core.blanks u c is;
    cells_hold = core.cells_hold;
    immortals_live = core.immortals_live;
    born_is = core.born_is;
    born_has = core.born_has;
    born_once = core.born_once;
    closed_is = core.closed_is;
    closed_has = core.closed_has;
    once = core.once;
    kinds = core.kinds;
    kind_words = core.kind_words;
    immortal_words = core.immortal_words;
    immortal_kinds = core.immortal_kinds;
    resources = λ x.
        subst (ResourcesFit (m.life x))
        (same_resources m t a b x found new.lent (λ f few. new.finalises x f few)) (core.resources x);
  }
