-- The duties of a hand that finalises the objects of its chain: where their words are, and how the hand begins.
use Rattle.std.proofs.Common.{◌≡◌, ◌≢◌, ℕ, ◌+◌, ◌<◌, List, [], ◌∷◌, refl, sym, ap, subst}
use Rattle.std.proofs.lemmas.Bool.{eq-eqb}
use Rattle.brc_model.specs.declared.duty.Duty.{Duty}
use Rattle.brc_model.specs.declared.duty.Duty.TheVariants.{TakeField, Settle, SettleEnd}
use Rattle.brc_model.specs.declared.actor.Status.TheVariants.{Gone}
use Rattle.brc_model.specs.Layout.{row_count}
use Rattle.brc_model.specs.CountingLaws.{SettlesBegin}
use Rattle.brc_table.specs.Plan.{Plan}
use Rattle.brc_table.specs.declared.view.View.{View}
use Rattle.brc_table.specs.Views.{field_emptied_by, settle_first, settling, RowsAreThere, with_next}
use Rattle.brc_table.specs.Hands.{MayWait}
use Rattle.brc_table.specs.Accesses.{IsNext}
use Rattle.brc_table.specs.Begins.{Becomes}
use Rattle.brc_table.specs.Uses.{IsDue}
use Rattle.brc_table.specs.Calls.{SettlesFrom, ClosesRow}
use Rattle.brc_table.proofs.Passing.{becomes_same, waiting_uses}
use Rattle.brc_table.proofs.Becoming.{rearranged}
use Rattle.brc_table.proofs.Duties.{runs_on, first_there}

-- ---- the beginning

settling_from : SettlesBegin → (plan : Plan) (v : View) (ds : List Duty) → v.actor.agenda ≡ ds → SettlesFrom v ds
    → 0 < v.actor.head → Becomes plan v (with_next v (settle_first ds))
settling_from law plan v [] is may some =
    record {
      passes = λ words views id stands here.
          rearranged plan words views id v stands here (Settle ∷ []) v.actor.aside
          (law stands.accounts (1 + stands.machine.layout.workers) stands.machine v.thread v.actor stands.counts
          (record { found = stands.same_actor id v here; running = may.0; agenda = is }) may.1 some);
      same = refl;
      in_field = λ y locks. refl;
      uses = waiting_uses v (with_next v (Settle ∷ [])) (subst MayWait (sym is) tt) refl;
    }
settling_from law plan v (Settle ∷ rest) is may some =
    becomes_same plan v (with_next v (Settle ∷ rest)) (ap (with_next v) is)
settling_from law plan v _ is may some = absurd may

-- A hand that may settle its chain begins to, or goes on.
pub settling_becomes : SettlesBegin → (plan : Plan) (v : View) → SettlesFrom v v.actor.agenda → 0 < v.actor.head
    → Becomes plan v (settling v)
settling_becomes law plan v may some = settling_from law plan v v.actor.agenda refl may some

-- To settle comes next, of a thread that isn't gone.
pub settles_next : (v : View) (ds : List Duty) → SettlesFrom v ds → IsNext Settle (settle_first ds)
settles_next v [] may = refl
settles_next v (Settle ∷ rest) may = refl
settles_next v _ may = absurd may

pub settles_alive : (v : View) (ds : List Duty) → SettlesFrom v ds → v.actor.status ≢ Gone
settles_alive v [] may = runs_on v may.0
settles_alive v (Settle ∷ rest) may = may
settles_alive v _ may = absurd may

-- ---- the rows of these duties

pub gate_close_there : (v : View) (x : ℕ) (ds : List Duty) → RowsAreThere v → v.actor.agenda ≡ ds → ClosesRow x ds
    → x < row_count v.layout
gate_close_there v x (TakeField y ∷ rest) rows is same = first_there v x (TakeField y) rest rows is (eq-eqb y x same)
gate_close_there v x (SettleEnd y ∷ rest) rows is same = first_there v x (SettleEnd y) rest rows is (eq-eqb y x same)
gate_close_there v x _ rows is same = absurd same

-- ---- what comes next

pub gate_close_next : (v : View) (x : ℕ) (ds : List Duty) → v.actor.agenda ≡ ds → ClosesRow x ds
    → IsNext (SettleEnd x) (field_emptied_by ds v).actor.agenda
gate_close_next v x (TakeField y ∷ rest) is same = ap SettleEnd same
gate_close_next v x (SettleEnd y ∷ rest) is same = subst (IsNext (SettleEnd x)) (sym is) (ap SettleEnd same)
gate_close_next v x _ is same = absurd same

-- Nothing is due in the field of an object that is closed.
pub close_due : (v : View) (x : ℕ) (ds : List Duty) → v.actor.agenda ≡ ds → ClosesRow x ds
    → IsDue (field_emptied_by ds v) (field_emptied_by ds v).actor.agenda 0
close_due v x (TakeField y ∷ rest) is same = refl
close_due v x (SettleEnd y ∷ rest) is same = subst (λ (ds : List Duty). IsDue v ds 0) (sym is) refl
close_due v x _ is same = absurd same
