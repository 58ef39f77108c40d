-- Whatever a thread of accepted code does at an event fits it: it is never stuck, the moves of a silent step are its
-- own, and a duty that it does is one that the invariant allows in its agenda.
use Rattle.brc_model.proofs.Objects.ResourcesLent.{lending_finds}
use Rattle.std.proofs.Common.{◌≡◌, ◌≢◌, ℕ, ◌<◌, ◌≤◌, List, [], ◌∷◌, Option, Some, refl, sym, ap, ◌∙◌, subst, arith}
use Rattle.std.specs.Prelude.{◌==◌, slice_get, sum_by}
use Rattle.std.proofs.lemmas.Option.{slice_get_within}
use Rattle.brc_lang.specs.declared.module.Module.{Module}
use Rattle.brc_model.specs.AbstractState.{Move}
use Rattle.brc_model.specs.declared.duty.Duty.{Duty}
use Rattle.brc_model.specs.declared.duty.Duty.TheVariants.{LendField}
use Rattle.brc_model.specs.declared.actor.Status.{Status}
use Rattle.brc_model.specs.declared.actor.Status.TheVariants.{Running, Leaving, Gone}
use Rattle.brc_model.specs.declared.actor.Place.{Place}
use Rattle.brc_model.specs.declared.actor.Place.TheVariants.{Idle, InCall, Inside, Stopping, Exiting}
use Rattle.brc_model.specs.declared.actor.Actor.{Actor}
use Rattle.brc_model.specs.Machine.{Machine, with_actor, locked_by, lent_by}
use Rattle.brc_model.specs.declared.state.Exit.{Exit}
use Rattle.brc_model.specs.Actions.{StepActor, Action, Skip, Stuck, Silent, Calls, Does}
use Rattle.brc_model.specs.Dispatch.{agenda_action, status_action}
use Rattle.brc_model.specs.StepMachine.{StepMachine, counting}
use Rattle.brc_model.proofs.Basics.Lists.{slice_get-set_same, set_found, none_some}
use Rattle.brc_model.specs.References.{held, one_if, reference_of}
use Rattle.brc_model.specs.KnownKinds.{kind_words}
use Rattle.brc_model.specs.Gates.{LocksFit}
use Rattle.brc_model.specs.declared.duty.Holding.{Holding}
use Rattle.brc_model.specs.AbstractState.{Reference}
use Rattle.brc_model.proofs.Frame.Aside.{HoldsAlone}
use Rattle.brc_model.proofs.Dispatch.Holds.{of_variables, of_inside, holds_variables, holds_inside, call_of}
use Rattle.brc_model.proofs.Dispatch.Guards.{guards_held}
use Rattle.brc_model.proofs.Dispatch.Kinds.{knows_first, entry_true}
use Rattle.brc_model.proofs.Dispatch.Taking.{SeesKinds}
use Rattle.std.proofs.lemmas.List.Sums.{sum_by-cons}
use Rattle.brc_model.specs.Accounts.{Account, Accounts, lacks}
use Rattle.brc_model.specs.OpenWork.{exits, is_about}
use Rattle.brc_model.specs.Invariant.{CoreInvariant, Invariant}
use Rattle.brc_model.proofs.Dispatch.Coded.{PlaceSays, PlaceFits, in_flight, is_departing, stays_elsewhere, placed_by, says_bounded}
use Rattle.brc_model.proofs.Dispatch.AtOnce.{at_once, plain_locked, plain_lent}
use Rattle.brc_model.proofs.Dispatch.Lending.{lent_at, FollowsLent, dispatch_lent, FindsFull}
use Rattle.brc_model.proofs.Keeping.SilentSteps.{SilentSits}
use Rattle.brc_model.proofs.Dispatch.TakingUp.{scene_of, holds_plain, Backs, ByOwn, ByList, MayBegin, Gives, Takes, Bears, Asks, Locks, Unlocks, Loads, Swaps, MayFollow, Nothing, Settles, Exits, SilentTaken, IsTaken, Lends, Returns}
use Rattle.brc_model.proofs.Keeping.SilentMoves.{bag_after}
use Rattle.brc_model.proofs.Keeping.Sits.{sitting, AtRest}
use Rattle.brc_model.specs.Counting.{with_account}
use Rattle.brc_model.proofs.Keeping.Replaced.{with_account_itself}
use Rattle.brc_model.proofs.Dispatch.TakenUp.{starts_settled, follows_plain}
use Rattle.brc_model.proofs.Dispatch.TakenSits.{taken_sits, rests, dispatch_fits}
use Rattle.brc_model.proofs.Dispatch.Counting.{its_found}
use Rattle.brc_model.proofs.Stepping.FitsAfter.{found_by}
use Rattle.brc_model.proofs.Keeping.Kept.{Doing, sits_down}
use Rattle.brc_model.proofs.Keeping.CodeInvariant.{CodeInvariant}
use Rattle.brc_model.proofs.Basics.Blocks.{next_within}
use Rattle.brc_model.specs.Ranges.{IsSmall, AreSmall, HasFewCells, cells_named}
use Rattle.brc_model.specs.Knowledge.{ByReference, ByItem}
use Rattle.brc_model.proofs.Frame.Alive.{backed_referenced}
use Rattle.brc_model.proofs.Limits.Ranges.{row_small, settle_small, leave_small, referenced_small}
use Rattle.brc_model.specs.declared.layout.Layout.{Layout}
use Rattle.brc_model.specs.Layout.{row_at}
use Rattle.brc_model.proofs.Dispatch.Programs.{Program, code_in, program_of}

-- A silent step of a thread at rest, with the thread's account afterwards.
pub record SilentFits (c : Accounts) (n : ℕ) (m : StepMachine) (t : ℕ) (a : StepActor) (moves : List Move)
    (place : Place) : Type 0 where
  pub at : AtRest c n (counting m) t a.actor
  pub account : Account
  pub says : PlaceSays (program_of m.functions m.states a) place a.actor.locked account
  pub departs : exits a.actor.status [] ≡ is_departing place
  pub lent : a.actor.lent ≡ lent_at (program_of m.functions m.states a) place
  pub sits : SilentSits (counting m) t a.actor moves account

-- A call of the host by a thread at rest uses the resource that the thread has lent, and is silent.
pub record CallFits (c : Accounts) (n : ℕ) (m : StepMachine) (t : ℕ) (a : StepActor) (row : Option ℕ)
    (place : Exit → Place) : Type 0 where
  pub uses : a.actor.lent ≡ row
  pub silent : (exit : Exit) → SilentFits c n m t a [] (place exit)

-- A duty that the thread does, with the thread's account from then on. `doing` says it of the thread with the duty in
-- its agenda. The duties are as small as those that the thread had.
pub record DutyFits (c : Accounts) (n : ℕ) (m : StepMachine) (t : ℕ) (a : StepActor) (d : Duty)
    (rest : List Duty) (place : Place) : Type 0 where
  pub account : Account
  pub says : PlaceSays (program_of m.functions m.states a) place
      (locked_by a.actor.locked d (found_by (counting m) t a.actor d)) account
  pub departs : exits a.actor.status (d ∷ rest) ≡ is_departing place
  pub lent : lent_by a.actor.lent d (found_by (counting m) t a.actor d)
      ≡ lent_at (program_of m.functions m.states a) place
  pub doing : Doing (with_account c t account) n (with_actor (counting m) t (sitting a.actor (d ∷ rest))) t
      (sitting a.actor (d ∷ rest)) d rest
  pub small : HasFewCells (counting m) → AreSmall m.layout a.actor.agenda
      → AreSmall m.layout (d ∷ rest)
  pub plain : sum_by at_once rest ≡ 0

abbrev pub ActionFits : Accounts → ℕ → StepMachine → ℕ → StepActor → Action → Type 0
ActionFits c n m t a Skip = Unit {0}
ActionFits c n m t a Stuck = ⊥
ActionFits c n m t a (Silent moves place) = SilentFits c n m t a moves place
ActionFits c n m t a (Calls row place) = CallFits c n m t a row place
ActionFits c n m t a (Does d rest place) =
    DutyFits c n m t a d rest (place (found_by (counting m) t a.actor d))

-- ---- the duty is in the agenda

duty_fits : (p : Module) (n : ℕ) (m : StepMachine) (t : ℕ) (a : StepActor) (d : Duty) (rest : List Duty)
    → (whole : CodeInvariant p n m) → slice_get m.actors t ≡ Some a → a.actor.status ≢ Gone → a.actor.agenda ≡ d ∷ rest
    → DutyFits whole.accounts n m t a d rest a.place
duty_fits p n m t a d rest whole found alive is =
    let there = its_found m t a found in
    let now : sitting a.actor (d ∷ rest) ≡ a.actor = ap (sitting a.actor) (sym is) in
    let actors = ap (λ (b : Actor). with_actor (counting m) t b) now in
    let same : with_actor (counting m) t (sitting a.actor (d ∷ rest)) ≡ counting m =
    actors ∙ (λ i. record (counting m) { actors = set_found (counting m).actors t a.actor there i }) in
    let c = whole.accounts in
    let own = whole.coded t a found in
    let plain : sum_by at_once (d ∷ rest) ≡ 0 = ap (sum_by at_once) (sym is) ∙ own.plain in
    let first : at_once d ≡ 0 = omega (arith, plain, sum_by-cons at_once d rest) in
    let unlocked = plain_locked a.actor.locked d (found_by (counting m) t a.actor d) first in
    let unlent = plain_lent a.actor.lent d (found_by (counting m) t a.actor d) first in
    record {
      account = c t;
      says = subst (λ (w : Option ℕ). PlaceSays (program_of m.functions m.states a) a.place w (c t))
          (sym unlocked)
          own.says;
      departs = ap (exits a.actor.status) (sym is) ∙ (whole.coded t a found).departs;
      lent = unlent ∙ own.lent;
      doing = record {
        kept = subst (λ (q : Accounts). Invariant q n (with_actor (counting m) t (sitting a.actor (d ∷ rest))))
            (sym (with_account_itself c t)) (subst (Invariant c n) (sym same) whole.kept);
        found =
            slice_get-set_same (counting m).actors t (sitting a.actor (d ∷ rest))
            (slice_get_within (counting m).actors t a.actor there);
        agenda = refl;
        alive = alive;
      };
      small = λ few was. subst (AreSmall m.layout) is was;
      plain = omega (arith, plain, sum_by-cons at_once d rest);
    }

-- ---- the duty is dispatched

module _ {p : Accounts} {n : ℕ} {m : Machine} where
  backs_small : (t row : ℕ) (a : Actor) (d : Duty) → CoreInvariant p n m → Backs (scene_of m t a) row
      → ((y : ℕ) → is_about y d ≡ (row == y)) → cells_named d ≤ m.layout.cells → IsSmall m.layout d
  backs_small t row a d core (ByOwn by some) about few =
      row_small m.layout row d
      (referenced_small row core (backed_referenced p n m t a row core (ByReference by some))) about few
  backs_small t row a d core (ByList list cell has holds) about few =
      row_small m.layout row d
      (referenced_small row core (backed_referenced p n m t a row core (ByItem list cell has holds))) about few

  pub starts_small : (t : ℕ) (a : Actor) (d : Duty) (rest : List Duty) → CoreInvariant p n m → HasFewCells m
      → slice_get m.actors t ≡ Some a → MayBegin (scene_of m t a) d rest → IsSmall m.layout d
  starts_small t a d rest core few found (Gives row h behind some) =
      row_small m.layout row d (referenced_small row core some) (λ y. refl) (omega arith)
  starts_small t a d rest core few found (Takes row h behind backs) =
      backs_small t row a d core backs (λ y. refl) (omega arith)
  starts_small t a d rest core few found (Bears h w room below said) =
      row_small m.layout (row_at m.layout t a.used) d (next_within t a core found room) (λ y. refl)
      below
  starts_small t a d rest core few found (Asks row backs) =
      backs_small t row a d core backs (λ y. refl) (omega arith)
  starts_small t a d rest core few found (Locks row backs none) =
      backs_small t row a d core backs (λ y. refl) (omega arith)
  starts_small t a d rest core few found (Unlocks row backs has none) =
      backs_small t row a d core backs (λ y. refl) (omega arith)
  starts_small t a d rest core few found (Loads row i backs has within) =
      backs_small t row a d core backs (λ y. refl) (omega (arith, within, few row))
  starts_small t a d rest core few found (Swaps row i item h behind backs has within some) =
      backs_small t row a d core backs (λ y. refl) (omega (arith, within, few row))
  starts_small t a d rest core few found (Lends row backs has none some) =
      backs_small t row a d core backs (λ y. refl) (omega arith)
  starts_small t a d rest core few found (Returns row backs lent) =
      backs_small t row a d core backs (λ y. refl) (omega arith)

follows_small : (layout : Layout) (t used : ℕ) (place : Place) (rest : List Duty)
    → MayFollow layout t used place rest
    → AreSmall layout rest
follows_small layout t used place rest (Nothing stays) = tt
follows_small layout t used place rest (Settles stays) = (settle_small layout, tt)
follows_small layout t used place rest (Exits leaves) = (settle_small layout, (leave_small layout 0 used, tt))

-- A silent step leaves the thread what it has locked.
place_held : (program : Program) (bag : List Reference) (t x : ℕ) (locked : Option ℕ) (place : Place)
    → PlaceFits program bag t [] locked place → locked ≡ Some x → (by : Holding) × (0 < held (reference_of t by x) bag)
place_held program bag t x locked (Idle left) fits is = absurd (none_some x (sym fits.0 ∙ is))
place_held program bag t x locked (InCall context at variables) fits is =
    let lock =
    guards_held bag t (call_of program context) fits.0 variables fits.0.locked locked x fits.2 is fits.1.grounded
    (holds_variables bag t (call_of program context) fits.0 variables
    (holds_plain bag t (of_variables (call_of program context) fits.0 variables) fits.3)) in
    (lock.by, lock.held_so)
place_held program bag t x locked (Inside context at variables stage) fits is =
    let flight = in_flight (slice_get (code_in program context) at) stage variables in
    let lock =
    guards_held bag t (call_of program context) fits.0 variables fits.0.locked locked x fits.2 is fits.1.grounded
    (holds_inside bag t (call_of program context) flight fits.0 variables
    (holds_plain bag t (of_inside (call_of program context) flight fits.0 variables) fits.3)) in
    (lock.by, lock.held_so)
place_held program bag t x locked (Stopping lock calls) fits is =
    let holds = fits.1.lock_held x (sym fits.0 ∙ is) in
    let one = ap one_if holds.1 in
    (holds.0, omega (arith, fits.3.each holds.0 x, one))
place_held program bag t x locked Exiting fits is = absurd (none_some x (sym fits.0 ∙ is))

module _ {p : Accounts} {n : ℕ} {m : Machine} {t : ℕ} {a : Actor} where
  silent_locks : (bag : List Reference) (program : Program) (place : Place) (account : Account) → AtRest p n m t a
      → a.aside ≡ [] → PlaceFits program bag t [] a.locked place → HoldsAlone bag t account []
      → LocksFit account m t (sitting a [])
  silent_locks bag program place account at alone fits holds x is =
      let old = (at.core.each t a at.found).0.locks x is in
      let has = place_held program bag t x a.locked place fits is in
      let none : sum_by (λ d. one_if (lacks d has.0 x)) a.aside ≡ 0 =
      ap (sum_by (λ d. one_if (lacks d has.0 x))) alone in
      record {
        by = has.0;
        held_so = omega (arith, holds.each has.0 x, has.1, none);
        gate = old.gate;
      }

pub silent_fits : (p : Module) (n : ℕ) (m : StepMachine) (t : ℕ) (a : StepActor) (moves : List Move) (place : Place)
    → (whole : CodeInvariant p n m) → slice_get m.actors t ≡ Some a
    → AtRest whole.accounts n (counting m) t a.actor
    → SilentTaken (program_of m.functions m.states a) (scene_of (counting m) t a.actor) moves place
    → a.actor.lent ≡ lent_at (program_of m.functions m.states a) place
    → SilentFits whole.accounts n m t a moves place
silent_fits p n m t a moves place whole found at taken lent =
    let program = program_of m.functions m.states a in
    let bag = bag_after m.abstract.references moves in
    let own = whole.coded t a found in
    let placed = placed_by program bag t [] a.actor.locked place taken.placed in
    record {
      at = at;
      account = placed.account;
      says = placed.says;
      departs = ap (λ (s : Status). exits s []) at.running ∙ sym (stays_elsewhere place taken.stays);
      lent = lent;
      sits = record {
        alone = own.alone;
        moves_fit = taken.moves_fit;
        holds = placed.holds;
        bounded = says_bounded m.layout program place a.actor.locked placed.account placed.says;
        locks = silent_locks bag program place placed.account at own.alone taken.placed placed.holds;
      };
    }

-- A duty that lends a resource finds it in its field, as the invariant says.
finds_full : (c : Accounts) (n : ℕ) (m : StepMachine) (t : ℕ) (a : StepActor) (d : Duty) (rest : List Duty)
    → Doing c n (with_actor (counting m) t (sitting a.actor (d ∷ rest))) t (sitting a.actor (d ∷ rest)) d rest
    → FindsFull d (found_by (counting m) t a.actor d)
finds_full c n m t a (LendField x) rest doing =
    lending_finds c n (with_actor (counting m) t (sitting a.actor (LendField x ∷ rest))) t
    (sitting a.actor (LendField x ∷ rest)) x rest
    (record { core = doing.kept.core; found = doing.found; agenda = doing.agenda })
finds_full c n m t a _ rest doing = tt

taken_fits : (p : Module) (n : ℕ) (m : StepMachine) (t : ℕ) (a : StepActor) (x : Action) → (whole : CodeInvariant p n m)
    → slice_get m.actors t ≡ Some a → AtRest whole.accounts n (counting m) t a.actor
    → IsTaken (program_of m.functions m.states a) (scene_of (counting m) t a.actor) x
    → FollowsLent (program_of m.functions m.states a) a.actor.lent x
    → ActionFits whole.accounts n m t a x
taken_fits p n m t a Skip whole found at taken lent = absurd taken
taken_fits p n m t a Stuck whole found at taken lent = absurd taken
taken_fits p n m t a (Silent moves place) whole found at taken lent =
    silent_fits p n m t a moves place whole found at taken lent
taken_fits p n m t a (Calls row place) whole found at taken lent = record {
  uses = lent.0;
  silent = λ exit. silent_fits p n m t a [] (place exit) whole found at (taken exit) (lent.1 exit);
}
taken_fits p n m t a (Does d rest place) whole found at taken lent =
    let c = whole.accounts in
    let word = found_by (counting m) t a.actor d in
    let there = place word in
    let begun = taken word in
    let own = whole.coded t a found in
    let here = taken_sits (program_of m.functions m.states a) c n (counting m) t a word there d rest at own.alone
    begun in
    let doing =
    sits_down d rest here.account whole.kept at here.sits
    (starts_settled (scene_of (counting m) t a.actor) a.actor.head there d rest begun.starts begun.follows) in
    record {
      account = here.account;
      says = here.says;
      departs = ap (λ (s : Status). exits s (d ∷ rest)) at.running ∙ here.departs;
      lent = lent word (finds_full (with_account c t here.account) n m t a d rest doing);
      doing = doing;
      small = λ few _. (
        starts_small t a.actor d rest at.core few at.found begun.starts,
        follows_small m.layout t a.actor.used there rest begun.follows,
      );
      plain = follows_plain m.layout t a.actor.used there rest begun.follows;
    }

-- What a thread sees of kinds is what the invariant says of them.
sees_kinds : (p : Module) (n : ℕ) (m : StepMachine) (t : ℕ) (a : StepActor) → (whole : CodeInvariant p n m)
    → slice_get m.actors t ≡ Some a
    → SeesKinds (program_of m.functions m.states a) (scene_of (counting m) t a.actor) a.place
sees_kinds p n m t a whole found = record {
  begins = entry_true (kind_words m) (knows_first p.statics m.layout (kind_words m) whole.kinds.named).root;
  knows = whole.kinds.known t a found;
  items = whole.items t a found;
  allowed = whole.allowed;
  lent = (whole.coded t a found).lent;
  room = λ awaits. (whole.rooms t a found awaits).room;
}

agenda_fits : (p : Module) (n : ℕ) (m : StepMachine) (t : ℕ) (a : StepActor) (agenda : List Duty)
    → (whole : CodeInvariant p n m) → slice_get m.actors t ≡ Some a → a.actor.status ≢ Gone → a.actor.agenda ≡ agenda
    → ActionFits whole.accounts n m t a (agenda_action m.functions m.layout t a agenda)
agenda_fits p n m t a [] whole found alive is =
    let c = whole.accounts in
    let there = its_found m t a found in
    let at_rest = rests c n (counting m) t a.actor whole.kept.core there alive is in
    let at : AtRest c n (counting m) t a.actor =
    record { core = whole.kept.core; found = there; agenda = is; running = at_rest } in
    taken_fits p n m t a (agenda_action m.functions m.layout t a []) whole found at
    (dispatch_fits (program_of m.functions m.states a) c n m t a at whole.sound (whole.coded t a found)
    (sees_kinds p n m t a whole found))
    (dispatch_lent (program_of m.functions m.states a) m.layout t a.actor.used a.place a.actor.lent
    (whole.coded t a found).lent)
agenda_fits p n m t a (d ∷ rest) whole found alive is = duty_fits p n m t a d rest whole found alive is

pub status_fits : (p : Module) (n : ℕ) (m : StepMachine) (t : ℕ) (a : StepActor) (status : Status)
    → (whole : CodeInvariant p n m) → slice_get m.actors t ≡ Some a → a.actor.status ≡ status
    → ActionFits whole.accounts n m t a (status_action m.functions m.layout t a status)
status_fits p n m t a Gone whole found is = tt
status_fits p n m t a Running whole found is =
    agenda_fits p n m t a a.actor.agenda whole found (λ e. let wrong : Running ≡ Gone = sym is ∙ e in absurd cc) refl
status_fits p n m t a Leaving whole found is =
    agenda_fits p n m t a a.actor.agenda whole found (λ e. let wrong : Leaving ≡ Gone = sym is ∙ e in absurd cc) refl
