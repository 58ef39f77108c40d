-- What a worker's host is asked for, call after call, and what the worker counts of it.
use Rattle.std.proofs.Common.{◌≡◌, ℕ, ◌+◌, ◌-◌, min, Bool, true, false, List, [], ◌∷◌, ◌++◌, sym, ap, ◌∙◌, refl, arith}
use Rattle.std.specs.Prelude.{if◌then◌else◌}
use Rattle.brc_host.specs.HostCounts.{raised, count_limit}
use Rattle.brc_host.specs.HostCalls.{HostCall, has_failed, after_call, HasAnswered, NoCall as NotAsked, host_faults, close_faults}
use Rattle.brc_host.specs.declared.counts.HostCounts.{HostCounts}
use Rattle.brc_host.proofs.Answering.{one_call, answered_then, host_faults_then, close_faults_then}
use Rattle.brc_table.specs.declared.view.View.{View}
use Rattle.brc_free.proofs.Working.{works_close}
use Rattle.brc_queue.specs.Scans.{ClaimsFound, HasScanned, HasLeft}
use Rattle.brc_queue.specs.Scans as scans
use Rattle.brc_work.specs.declared.ran.Ran.{Ran}
use Rattle.brc_work.specs.declared.ran.Ran.TheVariants.{Done, Stopped}
use Rattle.brc_work.specs.declared.totals.Totals.{Totals}
use Rattle.brc_work.specs.Totals.{HasCounted, Asked, totals_of, with_totals, is_done}

-- ---- counts

raised_by : (limit less more count : ℕ)
    → (count + min less (limit - count)) + min more (limit - (count + min less (limit - count)))
    ≡ count + min (less + more) (limit - count)
raised_by limit less more count = omega arith

-- A count that rises twice rises by both.
twice : (less more count : ℕ) → raised more (raised less count) ≡ raised (less + more) count
twice less more count = raised_by count_limit less more count

none_by : (limit count : ℕ) → count ≡ count + min 0 (limit - count)
none_by limit count = omega arith

raised_by_none : (count : ℕ) → count ≡ raised 0 count
raised_by_none count = none_by count_limit count

twice_by : (limit failed more count : ℕ) → more ≡ 0 + min failed (limit - 0)
    → count + min more (limit - count) ≡ count + min failed (limit - count)
twice_by limit failed more count is = omega (arith, is)

-- A count that has stopped at the greatest number raises another one no less.
raised_by_raised : (failed more count : ℕ) → more ≡ raised failed 0 → raised more count ≡ raised failed count
raised_by_raised failed more count is = twice_by count_limit failed more count is

-- ---- calls

-- Nothing was counted.
pub nothing_counted : (totals : Totals) → HasCounted [] totals totals
nothing_counted totals = record {
  others = raised_by_none totals.host_faults;
  closes = raised_by_none totals.close_faults;
}

-- Closes that have failed are counted.
pub closes_counted : (cs : List HostCall) (before after : Totals) (failed : ℕ) → host_faults cs ≡ 0
    → failed ≡ raised (close_faults cs) 0
    → after ≡ record before { close_faults = raised failed before.close_faults } → HasCounted cs before after
closes_counted cs before after failed none is totals = record {
  others =
      ap (λ (t : Totals). t.host_faults) totals
      ∙ (raised_by_none before.host_faults ∙ ap (λ (n : ℕ). raised n before.host_faults) (sym none));
  closes =
      ap (λ (t : Totals). t.close_faults) totals ∙ raised_by_raised (close_faults cs) failed before.close_faults is;
}

-- A call is none of `close`.
pub record IsOther (call : HostCall) : Type 0 where
  pub closes : close_faults (call ∷ []) ≡ 0
  pub others : host_faults (call ∷ []) ≡ (if has_failed call then 1 else 0) + 0

-- Such a call has succeeded,
pub success_counted : (call : HostCall) (totals : Totals) → IsOther call → has_failed call ≡ false
    → HasCounted (call ∷ []) totals totals
success_counted call totals other succeeds = record {
  others = raised_by_none totals.host_faults
      ∙ ap (λ (n : ℕ). raised n totals.host_faults)
      (sym (other.others ∙ ap (λ (b : Bool). (if b then 1 else 0) + 0) succeeds));
  closes = raised_by_none totals.close_faults ∙ ap (λ (n : ℕ). raised n totals.close_faults) (sym other.closes);
}

-- or failed.
pub fault_counted : (call : HostCall) (before after : Totals) → IsOther call → has_failed call ≡ true
    → after ≡ record before { host_faults = raised 1 before.host_faults } → HasCounted (call ∷ []) before after
fault_counted call before after other fails totals = record {
  others = ap (λ (t : Totals). t.host_faults) totals
      ∙ ap (λ (n : ℕ). raised n before.host_faults)
      (sym (other.others ∙ ap (λ (b : Bool). (if b then 1 else 0) + 0) fails));
  closes = ap (λ (t : Totals). t.close_faults) totals
      ∙ (raised_by_none before.close_faults ∙ ap (λ (n : ℕ). raised n before.close_faults) (sym other.closes));
}

-- What is counted after something else adds up.
pub counted_then : (cs ds : List HostCall) (before mid after : Totals) → HasCounted cs before mid
    → HasCounted ds mid after
    → HasCounted (cs ++ ds) before after
counted_then cs ds before mid after one other = record {
  others = other.others ∙ (ap (raised (host_faults ds)) one.others
      ∙ (twice (host_faults cs) (host_faults ds) before.host_faults
      ∙ ap (λ (n : ℕ). raised n before.host_faults) (sym (host_faults_then cs ds))));
  closes = other.closes ∙ (ap (raised (close_faults ds)) one.closes
      ∙ (twice (close_faults cs) (close_faults ds) before.close_faults
      ∙ ap (λ (n : ℕ). raised n before.close_faults) (sym (close_faults_then cs ds))));
}

-- ---- how a run has ended

-- A run's end with other totals has these,
pub totals_with : (totals : Totals) (ran : Ran) → totals_of (with_totals totals ran) ≡ totals
totals_with totals (Done before) = refl
totals_with totals (Stopped before) = refl

-- and is the same end.
pub done_with : (totals : Totals) (ran : Ran) → is_done (with_totals totals ran) ≡ is_done ran
done_with totals (Done before) = refl
done_with totals (Stopped before) = refl

-- ---- closes

-- A hand that claims the marks that it has found asks for closes alone,
claims_close : (word marks : ℕ) (v : View) (left : ℕ) (w : View) (cs : List HostCall)
    → ClaimsFound word marks v left cs w → host_faults cs ≡ 0
claims_close word marks v left w cs scans.NoMark = refl
claims_close word marks v left w cs (scans.NextMark more closes later u x found some claims) =
    host_faults_then closes later
    ∙ (ap (λ (n : ℕ). n + host_faults later) (claims_close word marks v more u closes found)
    ∙ ap (λ (n : ℕ). 0 + n) (works_close _ x later claims.follows.works))

-- and so does one that looks through its queue,
pub looks_close : (v w : View) (words : ℕ) (cs : List HostCall) → HasScanned v words cs w → host_faults cs ≡ 0
looks_close v w words cs scans.NoWord = refl
looks_close v w words cs (scans.NextWord word closes more u x before looks) =
    host_faults_then closes more
    ∙ (ap (λ (n : ℕ). n + host_faults more) (looks_close v u word closes before)
    ∙ ap (λ (n : ℕ). 0 + n) (claims_close _ _ _ _ x more looks.claims))

-- and so does one that leaves.
pub leaves_close : (v w : View) (cs : List HostCall) → HasLeft cs v w → host_faults cs ≡ 0
leaves_close v w cs left =
    ap host_faults left.closes_are
    ∙ (host_faults_then left.first left.later
    ∙ (ap (λ (n : ℕ). n + host_faults left.later) (works_close _ _ left.first left.settles.works)
    ∙ ap (λ (n : ℕ). 0 + n) (works_close _ _ left.later left.scans.works)))

-- ---- all that was asked

module _ {S : Type 0} {answers : S → HostCall → S → Type 0} {counts : S → HostCounts} where
  -- The host wasn't asked.
  pub asked_nothing : {host : S} {totals : Totals} {Made : List HostCall → Type 0} → Made []
      → Asked answers counts host host totals totals Made
  asked_nothing {host} {totals} made =
      record { calls = []; answered = NotAsked; counted = nothing_counted totals; made = made }

  -- It was asked for closes,
  pub asked_closes : {host now : S} {before after : Totals} {Made : List HostCall
      → Type 0} (cs : List HostCall) (failed : ℕ)
      → host_faults cs ≡ 0 → failed ≡ raised (close_faults cs) 0
      → after ≡ record before { close_faults = raised failed before.close_faults }
      → HasAnswered answers counts host cs now → Made cs → Asked answers counts host now before after Made
  asked_closes {host} {now} {before} {after} cs failed none is totals answered made =
      record {
        calls = cs;
        answered = answered;
        counted = closes_counted cs before after failed none is totals;
        made =
            made;
      }

  -- or for another call, which has succeeded
  pub asked_once : {host now : S} {totals : Totals} {Made : List HostCall → Type 0} (call : HostCall) → IsOther call
      → has_failed call ≡ false → answers host call now → counts now ≡ after_call call (counts host) → Made (call ∷ [])
      → Asked answers counts host now totals totals Made
  asked_once {host} {now} {totals} call other succeeds answered counted made = record {
    calls = call ∷ [];
    answered = one_call answered counted;
    counted = success_counted call totals other succeeds;
    made = made;
  }

  -- or failed.
  pub asked_in_vain : {host now : S} {before after : Totals} {Made : List HostCall → Type 0} (call : HostCall)
      → IsOther call
      → has_failed call ≡ true → answers host call now → counts now ≡ after_call call (counts host)
      → after ≡ record before { host_faults = raised 1 before.host_faults } → Made (call ∷ [])
      → Asked answers counts host now before after Made
  asked_in_vain {host} {now} {before} {after} call other fails answered counted totals made = record {
    calls = call ∷ [];
    answered = one_call answered counted;
    counted = fault_counted call before after other fails totals;
    made = made;
  }

  -- What the calls have made, said otherwise.
  pub asked_as : {host now : S} {before after : Totals} {Made Said : List HostCall → Type 0}
      → ((cs : List HostCall) → Made cs → Said cs) → Asked answers counts host now before after Made
      → Asked answers counts host now before after Said
  asked_as says one =
      record { calls = one.calls; answered = one.answered; counted = one.counted; made = says one.calls one.made }

  -- More calls.
  pub asked_then : {host mid now : S} {before between after : Totals} {First Next Both : List HostCall → Type 0}
      → ((cs ds : List HostCall) → First cs → Next ds → Both (cs ++ ds))
      → Asked answers counts host mid before between First → Asked answers counts mid now between after Next
      → Asked answers counts host now before after Both
  asked_then {host} {mid} {now} {before} {between} {after} joins one other = record {
    calls = one.calls ++ other.calls;
    answered = answered_then one.answered other.answered;
    counted = counted_then one.calls other.calls before between after one.counted other.counted;
    made = joins one.calls other.calls one.made other.made;
  }
