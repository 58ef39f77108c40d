-- What a thread holds, its agenda and its chain after its own step, put together from what the step changes.
use Rattle.std.proofs.Common.{◌≡◌, ℕ, zero, suc, ◌+◌, Bool, false, cond, List, [], ◌∷◌, refl, sym, ap, ◌∙◌, arith, true}
use Rattle.brc_model.specs.declared.duty.Holding.{Holding}
use Rattle.brc_model.specs.AbstractState.{Reference}
use Rattle.brc_model.specs.declared.duty.Duty.{Duty}
use Rattle.brc_model.specs.declared.duty.Duty.TheVariants.{Settle, SettleCell, SettleEnd, Leave, Scan, TakeFound, Finish}
use Rattle.brc_model.specs.declared.address.Address.TheVariants.{Gate}
use Rattle.brc_model.specs.Duties.{ready}
use Rattle.brc_model.specs.declared.actor.Status.{Status}
use Rattle.brc_model.specs.declared.actor.Actor.{Actor}
use Rattle.brc_model.specs.Machine.{Machine}
use Rattle.brc_model.specs.References.{held, one_if, reference_of}
use Rattle.brc_model.specs.Accounts.{extra_of, lacks_of, HoldsAt, Account}
use Rattle.brc_model.specs.Knowledge.{HeadOf, AllBehind}
use Rattle.brc_model.specs.OpenWork.{Later, Agenda, is_finalising, finalised, dies_by, ChainFits}
use Rattle.brc_model.proofs.Frame.Others.{linked_kept}
use Rattle.brc_model.proofs.Basics.Bag.{one_if_true}
use Rattle.brc_model.specs.declared.layout.Layout.{Layout}
use Rattle.brc_model.proofs.Basics.Continuation.{is_inner}

-- ---- what the thread holds

-- The bag gains what the first duty was making and the new first duty isn't, and loses what the first duty was giving
-- up and the new first duty isn't.
pub record HeldStep (bag new : List Reference) (t : ℕ) (agenda later : List Duty) : Type 0 where
  pub each : (k : Holding) (object : ℕ)
      → held (reference_of t k object) new + one_if (lacks_of later k object) + one_if (extra_of agenda k object)
      ≡ held (reference_of t k object) bag + one_if (lacks_of agenda k object) + one_if (extra_of later k object)

-- The account still agrees with the bag after the step.
pub holds_step : (bag new : List Reference) (t : ℕ) (account : Account) (agenda later aside : List Duty)
    → HeldStep bag new t agenda later → HoldsAt bag t account agenda aside → HoldsAt new t account later aside
holds_step bag new t account agenda later aside step holds =
    record { each = λ k object. omega (arith, step.each k object, holds.each k object) }

-- ---- agendas

-- What holds of an agenda of `Later` duties alone, after `ready` has skipped some of them: it fits, its duties finalise
-- what they did before, and its first duty makes and gives up no reference and knows all that it needs.
pub record IsReady (layout : Layout) (t used : ℕ) (status : Status) (head : ℕ)
    (rest agenda : List Duty) : Type 0 where
  pub fits : Agenda used status agenda
  pub more : (k : Holding) (object : ℕ) → extra_of agenda k object ≡ false
  pub less : (k : Holding) (object : ℕ) → lacks_of agenda k object ≡ false
  pub hands : (x : ℕ) → finalised agenda x ≡ finalised rest x
  pub knows : (m : Machine) (a : Actor) → a.head ≡ head → AllBehind m t rest → HeadOf m t a agenda

ready_as : {layout : Layout} {t used : ℕ} {status : Status} {head : ℕ} (agenda : List Duty)
    → Agenda used status agenda → ((k : Holding) (object : ℕ) → extra_of agenda k object ≡ false)
    → ((k : Holding) (object : ℕ) → lacks_of agenda k object ≡ false)
    → ((m : Machine) (a : Actor) → a.head ≡ head → AllBehind m t agenda → HeadOf m t a agenda)
    → IsReady layout t used status head agenda agenda
ready_as agenda fits more less knows =
    record { fits = fits; more = more; less = less; hands = λ x. refl; knows = knows }

-- The duty is skipped.
ready_past : {layout : Layout} {t used : ℕ} {status : Status} {head : ℕ} (d : Duty) (rest agenda : List Duty)
    → ((x : ℕ) → is_finalising d x ≡ false) → IsReady layout t used status head rest agenda
    → IsReady layout t used status head (d ∷ rest) agenda
ready_past d rest agenda none then = record {
  fits = then.fits;
  more = then.more;
  less = then.less;
  hands = λ x. then.hands x ∙ sym (ap (λ (b : Bool). cond b (1 + finalised rest x) (finalised rest x)) (none x));
  knows = λ m a h behind. then.knows m a h behind.1;
}

-- The duties after a finished one make an agenda, once those that need no step are skipped.
pub ready_is : (layout : Layout) (t used : ℕ) (status : Status) (head : ℕ) (rest : List Duty)
    → Later used status rest → IsReady layout t used status head rest (ready head rest)
ready_is layout t used status zero [] later = ready_as [] later (λ k o. refl) (λ k o. refl) (λ m a h b. tt)
ready_is layout t used status (suc head) [] later = ready_as [] later (λ k o. refl) (λ k o. refl) (λ m a h b. tt)
ready_is layout t used status zero (Settle ∷ rest) later =
    ready_past Settle rest (ready zero rest) (λ x. refl) (ready_is layout t used status zero rest later)
ready_is layout t used status (suc head) (Settle ∷ rest) later =
    ready_as (Settle ∷ rest) later (λ k o. refl) (λ k o. refl) (λ m a h b. omega (arith, h))
ready_is layout t used status zero (SettleCell x i n ∷ rest) later =
    ready_as (SettleCell x i n ∷ rest) later (λ k o. refl) (λ k o. refl) (λ m a h b. b.0)
ready_is layout t used status (suc head) (SettleCell x i n ∷ rest) later =
    ready_as (SettleCell x i n ∷ rest) later (λ k o. refl) (λ k o. refl) (λ m a h b. b.0)
ready_is layout t used status zero (SettleEnd x ∷ rest) later =
    ready_as (SettleEnd x ∷ rest) later (λ k o. refl) (λ k o. refl) (λ m a h b. (b.0.0, b.0.1, b.0.2, b.0.3))
ready_is layout t used status (suc head) (SettleEnd x ∷ rest) later =
    ready_as (SettleEnd x ∷ rest) later (λ k o. refl) (λ k o. refl) (λ m a h b. (b.0.0, b.0.1, b.0.2, b.0.3))
ready_is layout t used status zero (Scan x zero ∷ rest) later =
    ready_past (Scan x zero) rest (ready zero rest) (λ y. refl) (ready_is layout t used status zero rest later.2)
ready_is layout t used status (suc head) (Scan x zero ∷ rest) later =
    ready_past (Scan x zero) rest (ready (suc head) rest) (λ y. refl)
    (ready_is layout t used status (suc head) rest later.2)
ready_is layout t used status zero (Scan x (suc k) ∷ rest) later =
    ready_as (Scan x (suc k) ∷ rest) later (λ k o. refl) (λ k o. refl) (λ m a h b. omega arith)
ready_is layout t used status (suc head) (Scan x (suc k) ∷ rest) later =
    ready_as (Scan x (suc k) ∷ rest) later (λ k o. refl) (λ k o. refl) (λ m a h b. omega arith)
ready_is layout t used status zero (TakeFound w zero ∷ rest) later =
    ready_past (TakeFound w zero) rest (ready zero rest) (λ y. refl)
    (ready_is layout t used status zero rest later.2)
ready_is layout t used status (suc head) (TakeFound w zero ∷ rest) later =
    ready_past (TakeFound w zero) rest (ready (suc head) rest) (λ y. refl)
    (ready_is layout t used status (suc head) rest later.2)
ready_is layout t used status zero (TakeFound w (suc k) ∷ rest) later =
    ready_as (TakeFound w (suc k) ∷ rest) later (λ k o. refl) (λ k o. refl) (λ m a h b. omega arith)
ready_is layout t used status (suc head) (TakeFound w (suc k) ∷ rest) later =
    ready_as (TakeFound w (suc k) ∷ rest) later (λ k o. refl) (λ k o. refl) (λ m a h b. omega arith)
ready_is layout t used status zero (Leave x k ∷ []) later =
    ready_as (Leave x k ∷ []) later (λ k o. refl) (λ k o. refl) (λ m a h b. tt)
ready_is layout t used status (suc head) (Leave x k ∷ []) later =
    ready_as (Leave x k ∷ []) later (λ k o. refl) (λ k o. refl) (λ m a h b. tt)
ready_is layout t used status zero (Finish ∷ []) later =
    ready_as (Finish ∷ []) later (λ k o. refl) (λ k o. refl) (λ m a h b. tt)
ready_is layout t used status (suc head) (Finish ∷ []) later =
    ready_as (Finish ∷ []) later (λ k o. refl) (λ k o. refl) (λ m a h b. tt)
ready_is layout t used status head _ later = absurd later

-- ---- chains

-- No gate of the thread's dying rows changes, and a row begins or ceases to die only as a row that a duty finalises.
pub record ChainSame (m new : Machine) (t : ℕ) (agenda later : List Duty) : Type 0 where
  pub gates : (x : ℕ) → dies_by (m.life x) t ≡ true → new.memory (Gate x) ≡ m.memory (Gate x)
  pub hands : (x : ℕ)
      → finalised later x + one_if (dies_by (m.life x) t) ≡ finalised agenda x + one_if (dies_by (new.life x) t)

-- The dying chain fits after a step that changes neither its gates nor the rows that the thread finalises.
pub chain_same : (m new : Machine) (t head : ℕ) (agenda later : List Duty) → ChainSame m new t agenda later
    → ChainFits m t head agenda → ChainFits new t head later
chain_same m new t head agenda later same fits = record {
  chained = fits.chained;
  linked =
      linked_kept m.memory new.memory t head fits.chained
      (λ x some. same.gates x (one_if_true _ (omega (arith, fits.once x, some)))) fits.linked;
  once = λ x. omega (arith, fits.once x, same.hands x);
}

-- A duty that works on one object is never skipped.
pub ready_first : (head : ℕ) (d : Duty) (rest : List Duty) → is_inner d ≡ true → ready head (d ∷ rest) ≡ d ∷ rest
ready_first zero Settle rest e = absurd cc
ready_first zero (Scan x k) rest e = absurd cc
ready_first zero (TakeFound w k) rest e = absurd cc
ready_first zero _ rest e = refl
ready_first (suc head) Settle rest e = absurd cc
ready_first (suc head) (Scan x k) rest e = absurd cc
ready_first (suc head) (TakeFound w k) rest e = absurd cc
ready_first (suc head) _ rest e = refl
