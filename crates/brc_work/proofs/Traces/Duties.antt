-- One duty of a hand is one of its thread, though the thread holds a reference otherwise.
use Rattle.std.proofs.Common.{◌≡◌, ℕ, zero, suc, Bool, true, false, List, [], ◌∷◌, ◌++◌, None, refl, sym, ap, subst}
use Rattle.std.specs.Prelude.{◌&&◌}
use Rattle.brc_model.specs.Actions.{Does}
use Rattle.brc_model.specs.Duties.{continuation, new_head, ready}
use Rattle.brc_model.specs.declared.actor.Actor.{Actor}
use Rattle.brc_model.specs.Machine.{is_running, status_by, used_by, locked_by, lent_by, actor_by}
use Rattle.brc_model.specs.declared.actor.Place.{Place}
use Rattle.brc_model.specs.declared.duty.Duty.{Duty}
use Rattle.brc_model.specs.declared.duty.Duty.TheVariants.{Settle, Scan, TakeFound}
use Rattle.brc_model.specs.declared.event.WordEvent.{WordEvent}
use Rattle.brc_table.specs.declared.view.View.{View}
use Rattle.brc_table.specs.Views.{view_by, view_after, event_of}
use Rattle.brc_model.specs.Trace.{events_of}
use Rattle.brc_work.specs.Traces.{Program, dispatch_in, Makes, Refl, Dispatches, Continues, Traces, thread_with, begun_by, is_birth, is_close, has_read}
use Rattle.brc_work.proofs.Traces.Joining.{only_these}

-- ---- agendas

-- A duty of which the next duties may be none.
abbrev pub may_be_none : Duty → Bool
may_be_none Settle = true
may_be_none (Scan i n) = true
may_be_none (TakeFound w n) = true
may_be_none _ = false

-- Any other one comes next.
pub comes_next : (head : ℕ) (d : Duty) (rest : List Duty) → may_be_none d ≡ false → ready head (d ∷ rest) ≡ d ∷ rest
comes_next zero Settle rest is = absurd (let wrong : true ≡ false = is in cc)
comes_next zero (Scan i n) rest is = absurd (let wrong : true ≡ false = is in cc)
comes_next zero (TakeFound w n) rest is = absurd (let wrong : true ≡ false = is in cc)
comes_next zero _ rest is = refl
comes_next (suc head) Settle rest is = absurd (let wrong : true ≡ false = is in cc)
comes_next (suc head) (Scan i n) rest is = absurd (let wrong : true ≡ false = is in cc)
comes_next (suc head) (TakeFound w n) rest is = absurd (let wrong : true ≡ false = is in cc)
comes_next (suc head) _ rest is = refl

pub no_duty : (head : ℕ) → ready head [] ≡ []
no_duty zero = refl
no_duty (suc head) = refl

-- ---- one duty

-- The thread's duty d is the hand's duty e: they make the same event and change the same. A hand lends by no duty.
pub record IsSame (u : View) (d e : Duty) (found : ℕ) : Type 0 where
  pub event : events_of u.layout u.thread (thread_with u []) d found ≡ event_of u e found ∷ []
  pub status : status_by u.actor.status d ≡ status_by u.actor.status e
  pub head : new_head u.actor.head d found ≡ new_head u.actor.head e found
  pub used : used_by u.actor.used d ≡ used_by u.actor.used e
  pub locked : locked_by u.actor.locked d found ≡ locked_by u.actor.locked e found
  pub lent : lent_by None d found ≡ None

-- what comes next after the thread's duty
abbrev pub next_duties : View → Duty → List Duty → ℕ → List Duty
next_duties u d rest found =
    ready (new_head u.actor.head d found)
    (continuation u.layout u.thread (is_running u.actor.status) u.actor.head d found ++ rest)

module _ (program : Program) (q : Place) (u : View) (d e : Duty) (rest behind : List Duty) (found : ℕ)
    (same : IsSame u d e found) where
  pub same_thread : actor_by u.layout u.thread (thread_with u []) d rest found
      ≡ thread_with (view_by u (e ∷ behind) found) (next_duties u d rest found)
  same_thread = λ i. record {
    status = same.status i;
    agenda = next_duties u d rest found;
    aside = u.actor.aside;
    head = same.head i;
    used = same.used i;
    locked = same.locked i;
    lent = same.lent i;
  }

  -- The duty is the first one of an instruction,
  pub starts_with : (next : ℕ → Place) → dispatch_in u.layout u.thread u.actor.used program q ≡ Does d rest next
      → (is_birth d && has_read program q) ≡ false
      → Traces (begun_by q d found) [] program q [] u (next found) (next_duties u d rest found)
      (view_by u (e ∷ behind) found)
  starts_with next is new = record {
    events = events_of u.layout u.thread (thread_with u []) d found;
    trace = ap (λ (es : List WordEvent). u.trace ++ es) (sym same.event);
    makes = subst (λ (a : Actor).
        Makes u.layout u.thread program q (thread_with u []) (begun_by q d found) []
        (events_of u.layout u.thread (thread_with u []) d found) (next found) a) same_thread
        (only_these (Dispatches 0 [] [] q (thread_with u []) d rest next found Refl refl is new));
    layout = refl;
    thread = refl;
  }

  -- or the first one of the thread's agenda.
  pub continues_with : is_close d ≡ false
      → Traces 0 [] program q (d ∷ rest) u q (next_duties u d rest found) (view_by u (e ∷ behind) found)
  continues_with off = record {
    events = events_of u.layout u.thread (thread_with u []) d found;
    trace = ap (λ (es : List WordEvent). u.trace ++ es) (sym same.event);
    makes = subst (λ (a : Actor).
        Makes u.layout u.thread program q (thread_with u (d ∷ rest)) 0 []
        (events_of u.layout u.thread (thread_with u []) d found) q a) same_thread
        (Continues 0 [] [] q (thread_with u (d ∷ rest)) d rest found Refl refl off);
    layout = refl;
    thread = refl;
  }

-- A hand with nothing to do does nothing.
pub does_nothing : (u : View) (found : ℕ) → u.actor.agenda ≡ [] → view_after u found ≡ u
does_nothing u found none = ap (λ (ds : List Duty). view_by u ds found) none

pub does_first : (u : View) (found : ℕ) (e : Duty) (behind : List Duty) → u.actor.agenda ≡ e ∷ behind
    → view_after u found ≡ view_by u (e ∷ behind) found
does_first u found e behind is = ap (λ (ds : List Duty). view_by u ds found) is
