-- What is left of the work that a claimed mark makes.
use Rattle.std.proofs.Common.{◌≢◌, ℕ, List, [], ◌∷◌, refl, sym, ap, ◌∙◌, subst}
use Rattle.brc_host.specs.HostCalls.{HostCall}
use Rattle.brc_model.specs.declared.actor.Status.TheVariants.{Gone}
use Rattle.brc_model.specs.declared.duty.Reason.TheVariants.{Handed}
use Rattle.brc_model.specs.declared.duty.Duty.{Duty}
use Rattle.brc_model.specs.declared.duty.Duty.TheVariants.{SharedLoad, Settle}
use Rattle.brc_table.specs.declared.view.View.{View}
use Rattle.brc_free.specs.Works.{HasWorked, ComesToSettle, InWork, ClaimedNext, behind, merge_left, claimed_left}
use Rattle.brc_free.specs.Works.{to_settle}
use Rattle.brc_heap.proofs.Stepping.{plain_first}
use Rattle.brc_free.proofs.Working.{worked_then, worked_call}
use Rattle.brc_free.proofs.SettleDuties.{to_settle_next}

-- The object is merged and its handed reference given up, so that the hand settles next.
pub handed_given_up : (v u w : View) (row : ℕ) (duty : ClaimedNext row v.actor.agenda)
    → HasWorked v [] (merge_left v.actor.agenda) u → HasWorked u [] (behind u.actor.agenda) w
    → HasWorked v [] (Settle ∷ duty.rest) w
handed_given_up v u w row duty merged gives =
    worked_call v u w [] (SharedLoad row Handed ∷ Settle ∷ duty.rest) behind
    (subst (λ (ds : List Duty). HasWorked v [] (merge_left ds) u) duty.next merged)
    (plain_first u.actor.head (SharedLoad row Handed) (Settle ∷ duty.rest) refl) gives

-- It may settle in the midst of its work, since it isn't gone.
pub comes_then : (v w : View) (rest : List Duty) → v.actor.status ≢ Gone → HasWorked v [] (Settle ∷ rest) w
    → ComesToSettle w rest
comes_then v w rest alive at = InWork rest (λ gone. alive (sym at.keeps.status ∙ gone)) at.agenda

-- It has settled.
pub has_settled : (v w z : View) (row : ℕ) (duty : ClaimedNext row v.actor.agenda) (closes : List HostCall)
    → HasWorked v [] (Settle ∷ duty.rest) w → HasWorked (to_settle duty.rest w) closes duty.rest z
    → HasWorked v closes (claimed_left v.actor.agenda) z
has_settled v w z row duty closes at ends =
    subst (λ (ds : List Duty). HasWorked v closes ds z) (sym (ap claimed_left duty.next))
    (worked_then v w z [] closes (Settle ∷ duty.rest) duty.rest at
    (subst (λ (u : View). HasWorked u closes duty.rest z) (to_settle_next w duty.rest at.agenda) ends))
