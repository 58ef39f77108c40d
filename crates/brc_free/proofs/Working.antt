-- How a hand that does duty after duty goes on.
use Rattle.std.proofs.Common.{◌≡◌, ◌≢◌, ℕ, ◌+◌, ◌-◌, ◌<◌, Bool, false, List, [], ◌∷◌, ◌++◌, append_assoc, append-nil, Some, refl, sym, ap, ◌∙◌, subst, arith}
use Rattle.brc_host.specs.HostCalls.{HostCall, host_faults}
use Rattle.brc_host.proofs.Answering.{host_faults_then}
use Rattle.brc_model.specs.declared.duty.Duty.{Duty}
use Rattle.brc_model.specs.declared.duty.Duty.TheVariants.{TakeField}
use Rattle.brc_model.specs.Duties.{ready, continuation, new_head}
use Rattle.brc_model.specs.Machine.{is_running, status_by, used_by}
use Rattle.brc_table.specs.declared.view.View.{View}
use Rattle.brc_table.specs.Views.{RowsAreThere, view_by, view_after, field_emptied, field_emptied_by}
use Rattle.brc_heap.specs.Steps.{Keeps, HasStepped, Steps, TakesNothing, Refl as NoStep, Next as OneStep}
use Rattle.brc_heap.proofs.Keeping.{StaysOff, keeps_first, keeps_then, did_keeps}
use Rattle.brc_free.specs.Works.{Works, Refl, Next, HasWorked, closes_by}

-- ---- what is kept

-- The object that the hand has locked isn't the first one of its chain.
pub head_unlocked : (v : View) (x : ℕ) → RowsAreThere v → 0 < v.actor.head → x ≡ v.actor.head - 1
    → v.actor.locked ≢ Some x
head_unlocked v x there some row is = (there.unfinalised x is).later (omega (arith, some, row))

-- ---- first steps

-- A hand that hasn't done anything yet, of whose duties the first needs a step.
pub worked_first : (v : View) (ds : List Duty) → v.actor.agenda ≡ ready v.actor.head ds → HasWorked v [] ds v
worked_first v ds is = record { agenda = is; works = Refl; keeps = keeps_first v }

-- ---- one duty more

-- One duty more, the first of those that come next.
pub worked_on : (v u w : View) (cs : List HostCall) (d : Duty) (rest ds : List Duty) (found : ℕ)
    → HasWorked v cs (d ∷ rest) u
    → ready u.actor.head (d ∷ rest) ≡ d ∷ rest → field_emptied_by (d ∷ rest) u ≡ u → closes_by (d ∷ rest) false ≡ []
    → w ≡ view_after u found → status_by u.actor.status d ≡ u.actor.status → used_by u.actor.used d ≡ u.actor.used
    → StaysOff u d found
    → continuation u.layout u.thread (is_running u.actor.status) u.actor.head d found ++ rest ≡ ds
    → HasWorked v cs ds w
worked_on v u w cs d rest ds found at first unfieldted none is status used stays next =
    let has : u.actor.agenda ≡ d ∷ rest = at.agenda ∙ first in
    let does : w ≡ view_by u (d ∷ rest) found = is ∙ ap (λ (es : List Duty). view_by u es found) has in
    let same : field_emptied u ≡ u = ap (λ (es : List Duty). field_emptied_by es u) has ∙ unfieldted in
    let no_more : cs ++ closes_by u.actor.agenda false ≡ cs =
    ap (λ (es : List Duty). cs ++ closes_by es false) has ∙ (ap (λ (fs : List HostCall). cs ++ fs) none
    ∙ append-nil cs) in
    let work : Works v (cs ++ closes_by u.actor.agenda false) (view_after (field_emptied u) found) = Next cs u found
    false at.works
    in
    record {
      agenda =
          ap (λ (z : View). z.actor.agenda) does
          ∙ (ap (λ (es : List Duty). ready (new_head u.actor.head d found) es) next
          ∙ ap (λ (z : View). ready z.actor.head ds) (sym does));
      works =
          subst (λ (z : View). Works v cs z) (ap (λ (z : View). view_after z found) same ∙ sym is)
          (subst (λ (fs : List HostCall). Works v fs (view_after (field_emptied u) found)) no_more work);
      keeps = keeps_then at.keeps (subst (Keeps u) (sym does) (did_keeps u d rest found status used stays));
    }

-- ---- work after work

pub works_then : (v u w : View) (cs ds : List HostCall) → Works v cs u → Works u ds w → Works v (cs ++ ds) w
works_then v u w cs ds one Refl = subst (λ (fs : List HostCall). Works v fs u) (sym (append-nil cs)) one
works_then v u w cs ds one (Next es z found failed other) =
    subst (λ (fs : List HostCall). Works v fs (view_after (field_emptied z) found))
    (append_assoc cs es (closes_by z.actor.agenda failed))
    (Next (cs ++ es) z found failed (works_then v u z cs es one other))

-- The same of what comes next.
pub worked_then : (v u w : View) (cs fs : List HostCall) (ds es : List Duty) → HasWorked v cs ds u → HasWorked u fs es w
    → HasWorked v (cs ++ fs) es w
worked_then v u w cs fs ds es one other = record {
  agenda = other.agenda;
  works = works_then v u w cs fs one.works other.works;
  keeps = keeps_then one.keeps other.keeps;
}

-- The same of a call that leaves what it makes of the duties that it finds, the first of which needs a step.
pub worked_call : (v u w : View) (cs : List HostCall) (ds : List Duty) (left : List Duty → List Duty)
    → HasWorked v [] ds u
    → ready u.actor.head ds ≡ ds → HasWorked u cs (left u.actor.agenda) w → HasWorked v cs (left ds) w
worked_call v u w cs ds left at first other =
    worked_then v u w [] cs ds (left ds) at
    (subst (λ (es : List Duty). HasWorked u cs es w) (ap left (at.agenda ∙ first)) other)

-- A hand that does its duties asks the host for closes alone.
pub works_close : (v u : View) (cs : List HostCall) → Works v cs u → host_faults cs ≡ 0
works_close v u cs Refl = refl
works_close v u cs (Next closes z found failed other) =
    host_faults_then closes (closes_by z.actor.agenda failed)
    ∙ (ap (λ (k : ℕ). k + host_faults (closes_by z.actor.agenda failed)) (works_close v z closes other)
    ∙ ap (λ (k : ℕ). 0 + k) (by_closes z.actor.agenda failed)) where
      by_closes : (ds : List Duty) (failed : Bool) → host_faults (closes_by ds failed) ≡ 0
      by_closes [] failed = refl
      by_closes (TakeField x ∷ rest) failed = refl
      by_closes (d ∷ rest) failed = refl

-- ---- steps that use no field

-- They ask the host for nothing.
works_of : (v u : View) → Steps v u → Works v [] u
works_of v u NoStep = Refl
works_of v w (OneStep u found before takes) =
    subst (λ (z : View). Works v [] (view_after z found)) (unfieldted u.actor.agenda u takes)
    (subst (λ (cs : List HostCall). Works v cs (view_after (field_emptied u) found)) (none u.actor.agenda takes)
    (Next [] u found false (works_of v u before))) where
      unfieldted : (ds : List Duty) (u : View) → TakesNothing ds → field_emptied_by ds u ≡ u
      unfieldted (TakeField x ∷ rest) u takes = absurd takes
      unfieldted _ u takes = refl

      none : (ds : List Duty) → TakesNothing ds → closes_by ds false ≡ []
      none (TakeField x ∷ rest) takes = absurd takes
      none _ takes = refl

pub worked_by : {v u : View} {ds : List Duty} → HasStepped v ds u → HasWorked v [] ds u
worked_by {v} {u} {ds} at = record { agenda = at.agenda; works = works_of v u at.steps; keeps = at.keeps }

-- A hand that has worked goes on.
pub worked_more : {v u w : View} {ds es : List Duty} → HasWorked v [] ds u → HasWorked u [] es w → HasWorked v [] es w
worked_more {v} {u} {w} {ds} {es} one other = worked_then v u w [] [] ds es one other
