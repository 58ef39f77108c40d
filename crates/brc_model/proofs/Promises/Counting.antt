-- The laws of the counting machine: a thread's next duty keeps its invariant and is within its bounds, and the counts
-- of each row agree.
use Rattle.std.proofs.Common.{◌≡◌, ◌≢◌, ℕ, ◌<◌, ◌≤◌, cond, List, [], ◌∷◌, inl, inr, refl, ap, subst, arith}
use Rattle.std.specs.Prelude.{◌==◌, count_by}
use Rattle.std.proofs.lemmas.Bool.{cases_Bool, cases_lt, eq-eqb}
use Rattle.std.proofs.lemmas.List.Sums.{sum_by-cons}
use Rattle.brc_word.specs.declared.values.TheConstants.{NOBODY}
use Rattle.brc_model.specs.declared.duty.Holding.{Holding}
use Rattle.brc_model.specs.AbstractState.{references_to}
use Rattle.brc_model.specs.References.{one_if, reference_of}
use Rattle.brc_model.specs.OpenWork.{is_about}
use Rattle.brc_model.proofs.Basics.Bag.{held-le-references_to}
use Rattle.brc_model.proofs.Frame.Aside.{lacks_about, lacks_counted}
use Rattle.brc_word.specs.Words.{biased_part, dead_word, merged_word}
use Rattle.brc_model.specs.declared.duty.Duty.{Duty}
use Rattle.brc_model.specs.declared.duty.Duty.TheVariants.{MergeExchange}
use Rattle.brc_model.specs.declared.duty.Reason.TheVariants.{Handed}
use Rattle.brc_model.specs.declared.address.Address.TheVariants.{Local, Shared}
use Rattle.brc_model.specs.RowInvariant.{waits, merges, InOwned, InSwapped, InMerged}
use Rattle.brc_model.specs.Invariant.{AtDuty, CoreInvariant}
use Rattle.brc_model.specs.declared.layout.Layout.{Layout}
use Rattle.brc_model.specs.Layout.{row_count}
use Rattle.brc_model.specs.declared.actor.Actor.{Actor}
use Rattle.brc_model.specs.Machine.{Machine}
use Rattle.brc_model.specs.Accounts.{Accounts, lacks_of}
use Rattle.brc_model.specs.Counting.{Counts}
use Rattle.brc_model.specs.CountingLaws.{ComesNext, DutiesAreKept, DutiesAreWithin, AccountsAreThere, CountsAgree, HandedMergesLive}
use Rattle.brc_model.specs.Ranges.{AreSmall}
use Rattle.brc_model.proofs.Keeping.Kept.{Doing, duty_kept}
use Rattle.brc_model.proofs.Frame.Alive.{first_weighs}
use Rattle.brc_model.proofs.Frame.Leaves.{merge_alive}
use Rattle.brc_model.proofs.Objects.RowSteps.{shared_merged}
use Rattle.brc_model.proofs.Work.MergesOnce.{carried_is}
use Rattle.brc_model.proofs.Limits.Ranges.{head_small, duty_ranges, referenced_small}
use Rattle.brc_model.proofs.Limits.StepsAreWithin.{duty_within}
use Rattle.brc_model.proofs.Promises.Agreeing.{agrees_at}

module _ {p : Accounts} {n : ℕ} {m : Machine} {t : ℕ} {a : Actor} where
  -- The premise of the laws about a thread's next duty is that of `duty_kept`.
  doing_next : (d : Duty) (rest : List Duty) → Counts p n m → ComesNext m t a d rest → Doing p n m t a d rest
  doing_next d rest counts next =
      record { kept = counts.kept; found = next.found; agenda = next.agenda; alive = next.alive }

module _ {p : Accounts} {n : ℕ} {m : Machine} where
  -- The duties of the thread's agenda are small.
  next_small : (t : ℕ) (a : Actor) (d : Duty) (rest : List Duty) → Counts p n m → ComesNext m t a d rest
      → AreSmall m.layout (d ∷ rest)
  next_small t a d rest counts next =
      subst (AreSmall m.layout) next.agenda (counts.ranges.each t a next.found)

-- Doing a thread's next duty isn't bad, and keeps the invariant.
pub duties_kept : DutiesAreKept
duties_kept p n m t a d rest counts next =
    let kept = duty_kept p n m t a d rest (doing_next d rest counts next) in (
      kept.0,
      record {
        kept = kept.1;
        ranges = duty_ranges t a a d rest counts.kept.core counts.ranges next.found
            (head_small t a counts.kept.core next.found) (next_small t a d rest counts next)
            (counts.ranges.aside t a next.found);
        no_flight = counts.no_flight;
      },
    )

-- A thread's next duty can rely on what `DutyWithin` says.
pub duties_within : DutiesAreWithin
duties_within p n m t a d rest counts next =
    duty_within d rest (doing_next d rest counts next) (next_small t a d rest counts next).0
    (record { threads = counts.kept.core.few_threads; cells = counts.ranges.kinds })

-- The counts of each counted object that was born agree.
pub counts_agree : CountsAgree
counts_agree p n m x counts counted born = agrees_at x counts.kept.core counted

-- A row that one of these duties is about is there.
counted_small : (layout : Layout) (ds : List Duty) (x : ℕ) → AreSmall layout ds → 0 < count_by (is_about x) ds
    → x < row_count layout
counted_small layout [] x small more = absurd (omega (arith, more))
counted_small layout (d ∷ ds) x small more =
    let all = sum_by-cons (λ (e : Duty). cond (is_about x e) 1 0) d ds in
    elim (cases_Bool (is_about x d)) [
      | inl this ↦ small.0.row x this
      | inr other ↦
          let none : one_if (is_about x d) ≡ 0 = ap one_if other in
          counted_small layout ds x small.1 (omega (arith, all, none, more))
    ]

-- The duty of an agenda that makes a reference is about its object.
making_about : (ds : List Duty) (h : Holding) (x : ℕ) → one_if (lacks_of ds h x) ≤ count_by (is_about x) ds
making_about [] h x = omega arith
making_about (d ∷ ds) h x =
    omega (arith, lacks_about d h x, sum_by-cons (λ (e : Duty). cond (is_about x e) 1 0) d ds)

-- The object of each reference in a thread's account has a row: the bag has a reference to it, or a duty is about it.
pub accounts_there : AccountsAreThere
accounts_there p n m t a h x counts found holds =
    let core = counts.kept.core in
    let each = (core.each t a found).0.holds.each h x in
    let in_bag = held-le-references_to (reference_of t h x) m.abstract.references in
    elim (cases_lt 0 (references_to x m.abstract.references)) [
      | inl listed ↦ referenced_small x core listed
      | inr none ↦ elim (cases_lt 0 (count_by (is_about x) a.agenda)) [
        | inl next ↦ counted_small m.layout a.agenda x (counts.ranges.each t a found) next
        | inr quiet ↦
            counted_small m.layout a.aside x (counts.ranges.aside t a found)
            (omega (arith, each, in_bag, none, quiet, holds, making_about a.agenda h x, lacks_counted a.aside h x))
      ]
    ]

module _ {p : Accounts} {n : ℕ} {m : Machine} where
  -- A merge for a handed reference leaves that reference counted: it is still pending, and the merge adds all that was
  -- swapped out of the local word.
  pub merge_lives : (t : ℕ) (a : Actor) (x c w : ℕ) (rest : List Duty) → CoreInvariant p n m
      → ComesNext m t a (MergeExchange x c w Handed) rest → m.memory (Shared x) ≡ w → merged_word w c ≢ dead_word
  merge_lives t a x c w rest core next same dead =
      let here : AtDuty p n m t a (MergeExchange x c w Handed) rest =
      record { core = core; found = next.found; agenda = next.agenda } in
      let live = (merge_alive x c w Handed here).live in
      let one : one_if (x == x) ≡ 1 = ap one_if (eq-eqb x x refl) in
      let merging = first_weighs (merges x) m.actors t a (MergeExchange x c w Handed) rest next.found next.agenda in
      let waiting = first_weighs (waits x) m.actors t a (MergeExchange x c w Handed) rest next.found next.agenda in
      let local : m.memory (Local x) ≡ NOBODY = elim live.mode [
        | InOwned s ↦ absurd (omega (arith, s.merging, merging, one))
        | InSwapped s ↦ s.local
        | InMerged s ↦ s.local
      ] in
      let carried = carried_is x c w Handed here in
      let left = ap biased_part dead in
      omega (arith, live.sum, waiting, one, local, carried, same, (shared_merged w c).0, left)

pub merges_live : HandedMergesLive
merges_live p n m t a x c w rest counts = merge_lives t a x c w rest counts.kept.core
