-- What a thread does at an event with any choice fits the thread: its next step, a claim, or a stop.
use Rattle.std.proofs.Common.{◌≡◌, ℕ, true, List, [], ◌∷◌, Option, Some, refl, sym, ap, ◌∙◌, subst, arith, suc}
use Rattle.std.specs.Prelude.{slice_get}
use Rattle.brc_lang.specs.declared.module.Module.{Module}
use Rattle.brc_model.specs.declared.duty.Duty.{Duty}
use Rattle.brc_model.specs.declared.duty.Duty.TheVariants.{ClaimMark}
use Rattle.brc_model.specs.declared.actor.Status.{Status}
use Rattle.brc_model.specs.declared.actor.Place.{Place}
use Rattle.brc_model.specs.declared.actor.Place.TheVariants.{Idle, InCall}
use Rattle.brc_model.specs.declared.thread.Choice.{Choice}
use Rattle.brc_model.specs.declared.thread.Choice.TheVariants.{Ok, Fault, Claim, Stop}
use Rattle.brc_model.specs.Actions.{StepActor, Skip, stop_action, stop_in_call, stopping, row_locked, owned_rows, given_up}
use Rattle.brc_model.specs.Dispatch.{may_claim, action_of, is_before_instruction, may_stop}
use Rattle.brc_model.specs.StepMachine.{StepMachine, counting}
use Rattle.brc_model.proofs.Basics.Lists.{either}
use Rattle.brc_model.proofs.Frame.Aside.{HoldsAlone, alone_holds}
use Rattle.brc_model.specs.Accounts.{HoldsAt}
use Rattle.brc_model.specs.OpenWork.{exits}
use Rattle.brc_model.proofs.Dispatch.Coded.{PlaceFits, idle_unlocked, is_departing, place_fits}
use Rattle.brc_model.proofs.Dispatch.Lending.{lent_at}
use Rattle.brc_model.proofs.Dispatch.TakingUp.{scene_of, idle_stays}
use Rattle.brc_model.proofs.Keeping.SilentMoves.{Stays}
use Rattle.brc_model.proofs.Keeping.Sits.{Sits, AtRest}
use Rattle.brc_model.proofs.Dispatch.TakenSits.{claim_sits}
use Rattle.brc_model.proofs.Dispatch.Counting.{its_found}
use Rattle.brc_model.proofs.Keeping.Kept.{sits_down}
use Rattle.brc_model.proofs.Keeping.CodeInvariant.{CodeInvariant}
use Rattle.brc_model.proofs.Basics.Blocks.{used_row}
use Rattle.brc_model.proofs.Limits.Ranges.{row_small}
use Rattle.brc_model.proofs.Dispatch.Claims.{claimer, stopper}
use Rattle.brc_model.proofs.Dispatch.Decided.{stopping_decides}
use Rattle.brc_model.proofs.Dispatch.TakingStops.{stop_taken}
use Rattle.brc_model.specs.declared.state.State.{State}
pub use Rattle.brc_model.proofs.Dispatch.ActionsFit.{SilentFits, CallFits, DutyFits, ActionFits}
use Rattle.brc_model.proofs.Dispatch.ActionsFit.{silent_fits, status_fits}
use Rattle.brc_model.proofs.Dispatch.Programs.{number_of, program_of}
use Rattle.brc_model.proofs.Dispatch.Grounded.{number_there}

-- ---- a claim

claim_fits : (p : Module) (n : ℕ) (m : StepMachine) (t : ℕ) (a : StepActor) (row : ℕ) → (whole : CodeInvariant p n m)
    → slice_get m.actors t ≡ Some a → may_claim m.layout t a row ≡ true
    → DutyFits whole.accounts n m t a (ClaimMark row) [] a.place
claim_fits p n m t a row whole found may =
    let c = whole.accounts in
    let core = whole.kept.core in
    let claims = claimer m.layout t a row may in
    let there = its_found m t a found in
    let at : AtRest c n (counting m) t a.actor =
    record { core = core; found = there; agenda = claims.agenda; running = claims.running } in
    let sits : Sits (counting m) t a.actor (ClaimMark row ∷ []) (c t) =
    claim_sits row at (whole.coded t a found).alone
    (idle_unlocked (program_of m.functions m.states a) claims.left a.place a.actor.locked (c t)
    (whole.coded t a found).says claims.idle) claims.block in
    record {
      account = c t;
      says = (whole.coded t a found).says;
      departs = ap (λ (s : Status). exits s (ClaimMark row ∷ [])) claims.running ∙ sym (ap is_departing claims.idle);
      lent = (whole.coded t a found).lent;
      doing = sits_down (ClaimMark row) [] (c t) whole.kept at sits tt;
      small = λ _ _. (
        row_small m.layout row (ClaimMark row) (used_row t a.actor row core there claims.block claims.low)
            (λ y. refl) (omega arith),
        tt,
      );
      plain = refl;
    }

-- ---- a stop

stop_at : (p : Module) (n : ℕ) (m : StepMachine) (t : ℕ) (a : StepActor) (place : Place) → (whole : CodeInvariant p n m)
    → slice_get m.actors t ≡ Some a → AtRest whole.accounts n (counting m) t a.actor → a.place ≡ place
    → is_before_instruction place ≡ true
    → PlaceFits (program_of m.functions m.states a) m.abstract.references t [] a.actor.locked place
    → a.actor.lent ≡ lent_at (program_of m.functions m.states a) place
    → ActionFits whole.accounts n m t a (stop_action m.functions m.states a.function place)
stop_at p n m t a (Idle (suc left)) whole found at is before fits lent =
    silent_fits p n m t a [] (Idle 0) whole found at
    (record { moves_fit = Stays; placed = (fits.0, fits.1, tt); stays = idle_stays 0 }) lent
stop_at p n m t a (InCall context at variables) whole found rest is before fits lent =
    let program = program_of m.functions m.states a in
    let s = fits.0 in
    let number = number_of program context.outer in
    let known : m.states number at ≡ Some s =
    whole.sound.states_true number at s (number_there program context.outer fits.1.is_call.open_calls)
    (record { exits = fits.1.exits; reaches = fits.1.arrived }) in
    let lock = row_locked s.locked variables in
    let outer = given_up m.functions m.states a.function context.outer in
    let calls = owned_rows s.slots variables ∷ outer in
    subst (λ (o : Option State). ActionFits whole.accounts n m t a (stop_in_call outer variables o)) (sym known)
    (silent_fits p n m t a [] (stopping lock calls) whole found rest
    (stop_taken program (scene_of (counting m) t a.actor) context at variables s fits.1 fits.2 fits.3)
    (stopping_decides (λ (next : Place). a.actor.lent ≡ lent_at program next) lock calls lent lent))
stop_at p n m t a _ whole found _ is before fits lent = cc

stop_fits : (p : Module) (n : ℕ) (m : StepMachine) (t : ℕ) (a : StepActor) → (whole : CodeInvariant p n m)
    → slice_get m.actors t ≡ Some a → may_stop a ≡ true
    → ActionFits whole.accounts n m t a (stop_action m.functions m.states a.function a.place)
stop_fits p n m t a whole found may =
    let c = whole.accounts in
    let stops = stopper a may in
    let there = its_found m t a found in
    let own = whole.coded t a found in
    let at : AtRest c n (counting m) t a.actor =
    record { core = whole.kept.core; found = there; agenda = stops.agenda; running = stops.running } in
    let holds : HoldsAlone m.abstract.references t (c t) [] =
    alone_holds m.abstract.references t (c t) [] a.actor.aside own.alone
    (subst (λ (l : List Duty). HoldsAt m.abstract.references t (c t) l a.actor.aside) stops.agenda
    (whole.kept.core.each t a.actor there).0.holds) in
    stop_at p n m t a a.place whole found at refl stops.before
    (place_fits (program_of m.functions m.states a) m.abstract.references t [] a.actor.locked a.place (c t)
    own.says holds) own.lent

-- ---- any event

-- What a thread does at an event with any choice fits the thread.
pub action_fits : (p : Module) (n : ℕ) (m : StepMachine) (t : ℕ) (a : StepActor) (choice : Choice)
    → (whole : CodeInvariant p n m)
    → slice_get m.actors t ≡ Some a → ActionFits whole.accounts n m t a
    (action_of m.functions m.states m.layout t a choice)
action_fits p n m t a Ok whole found = status_fits p n m t a a.actor.status whole found refl
action_fits p n m t a Fault whole found = status_fits p n m t a a.actor.status whole found refl
action_fits p n m t a Stop whole found =
    either (ActionFits whole.accounts n m t a) (may_stop a) _ Skip (stop_fits p n m t a whole found) tt
action_fits p n m t a (Claim row) whole found =
    either (ActionFits whole.accounts n m t a) (may_claim m.layout t a row) _ Skip
    (claim_fits p n m t a row whole found) tt
