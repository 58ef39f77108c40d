-- What an action leaves a thread of accepted code to know of kinds, and what the thread knows at an instruction before
-- it.
use Rattle.std.proofs.Common.{◌≡◌, ℕ, ◌<◌, List, [], ◌∷◌, ◌++◌, Option, None, Some, refl, sym, subst, arith}
use Rattle.std.specs.Prelude.{slice_get, slice_set}
use Rattle.brc_lang.specs.declared.module.Instr.{Instr}
use Rattle.brc_lang.specs.Grammar.{IsInstruction}
use Rattle.brc_model.specs.declared.actor.Context.{Context}
use Rattle.brc_model.specs.declared.actor.OpenCall.{OpenCall}
use Rattle.brc_model.specs.declared.actor.Place.TheVariants.{InCall}
use Rattle.brc_model.specs.declared.duty.Duty.{Duty}
use Rattle.brc_model.specs.declared.duty.Duty.TheVariants.{KindLoad, BirthKind}
use Rattle.brc_model.specs.declared.state.Slot.{Slot}
use Rattle.brc_model.specs.declared.state.State.{State}
use Rattle.brc_model.specs.declared.state.Exit.{Exit}
use Rattle.brc_model.specs.SlotStates.{put, after, target}
use Rattle.brc_model.specs.Paths.{At, path_end}
use Rattle.brc_model.specs.Actions.{Action, Skip, Stuck, Silent, Calls, Does, with_row}
use Rattle.brc_model.specs.KnownKinds.{HasTrueKind, HaveTrueKinds}
use Rattle.brc_model.proofs.Dispatch.Programs.{Program, running, IsSound}
use Rattle.brc_model.proofs.Dispatch.Holds.{activation}
use Rattle.brc_model.proofs.Dispatch.Grounded.{IsInside, running_accepted}
use Rattle.brc_model.proofs.Dispatch.Passing.{AreMet}
use Rattle.brc_model.proofs.Dispatch.Kinds.{true_put, OpenKinds, KnowsAll, KnowsFirst}

-- What a duty that stores a kind word leaves there, and what one that loads a kind word finds.
abbrev pub SeesKind : (ℕ → ℕ) → Duty → ℕ → Type 0
SeesKind words (BirthKind y h w) found = words y ≡ w
SeesKind words (KindLoad y) found = found ≡ words y
SeesKind words d found = Unit {0}

-- The place that a step of the thread leads to, by these kind words.
abbrev pub LeavesKinds : Program → (ℕ → ℕ) → Action → Type 0
LeavesKinds program words Skip = Unit {0}
LeavesKinds program words Stuck = Unit {0}
LeavesKinds program words (Silent moves place) = KnowsAll program words place
LeavesKinds program words (Calls row place) = (exit : Exit) → KnowsAll program words (place exit)
LeavesKinds program words (Does d rest place) = (found : ℕ) → SeesKind words d found → KnowsAll program words
    (place found)

pub row_leaves : (program : Program) (words : ℕ → ℕ) (row : Option ℕ) (work : ℕ → Action)
    → ((x : ℕ) → row ≡ Some x → LeavesKinds program words (work x)) → LeavesKinds program words (with_row row work)
row_leaves program words None work leaves = tt
row_leaves program words (Some x) work leaves = leaves x refl

-- A thread at an instruction of accepted code, in the state in which a path reaches it, whose variables have the kinds
-- of their states, and so have those of the calls that are open.
pub record KnowsAt (program : Program) (outer : List OpenCall) (words : ℕ → ℕ) (at : ℕ) (variables : List (Option ℕ))
    (s : State) (i : Instr) : Type 0 where
  pub sound : IsSound program
  pub found : slice_get (running program outer).code at ≡ Some i
  pub inside : IsInside (activation program outer) at variables s
  pub met : AreMet i s
  pub leads : (exit : Exit) (next : ℕ) → target i exit at ≡ Some next
      → path_end (running program outer) (inside.exits ++ exit ∷ []) ≡ At next (after i exit s)
  pub operands : IsInstruction i
  pub named : KnowsFirst words
  pub known : HaveTrueKinds words s variables
  pub open_known : OpenKinds program words outer

-- Where the paths to the next point agree, what holds of the state after the exit holds of theirs.
pub goes_on : (program : Program) (words : ℕ → ℕ) (context : Context) (at next : ℕ) (variables rows : List (Option ℕ))
    (s : State) (i : Instr) (exit : Exit) → (here : KnowsAt program context.outer words at variables s i)
    → target i exit at ≡ Some next
    → HaveTrueKinds words (after i exit s) rows → KnowsAll program words (InCall context next rows)
goes_on program words context at next variables rows s i exit here to known = (
  λ exits other arrived.
      let accepted = running_accepted program context.outer here.sound here.inside.is_call.open_calls in
      subst (λ (state : State). HaveTrueKinds words state rows)
      (accepted.states_agree (here.inside.exits ++ exit ∷ []) exits next (after i exit s) other
      (here.leads exit next to) arrived) known,
  here.open_known,
)

-- The same, where the exit changes one variable.
pub goes_on_put : (program : Program) (words : ℕ → ℕ) (context : Context) (at next : ℕ) (variables : List (Option ℕ))
    (s : State) (i : Instr) (exit : Exit) (x : ℕ) (var : Slot) (row : Option ℕ)
    → (here : KnowsAt program context.outer words at variables s i)
    → target i exit at ≡ Some next → after i exit s ≡ put s x var → x < 16 → HasTrueKind words var row
    → KnowsAll program words (InCall context next (slice_set variables x row))
goes_on_put program words context at next variables s i exit x var row here to is low new =
    goes_on program words context at next variables (slice_set variables x row) s i exit here to
    (subst (λ (state : State). HaveTrueKinds words state (slice_set variables x row)) (sym is)
    (true_put words s variables x var row (omega (arith, low, here.inside.slots))
    (omega (arith, low, here.inside.rows)) new here.known))

-- The same at a point, or inside the instruction there, of a thread whose variables haven't changed.
pub knows_here : (program : Program) (outer : List OpenCall) (words : ℕ → ℕ) (at : ℕ) (variables : List (Option ℕ))
    (s : State) (i : Instr) → KnowsAt program outer words at variables s i
    → ((exits : List Exit) (other : State) → path_end (running program outer) exits ≡ At at other
    → HaveTrueKinds words other variables) × OpenKinds program words outer
knows_here program outer words at variables s i here = (
  λ exits other arrived.
      let accepted = running_accepted program outer here.sound here.inside.is_call.open_calls in
      subst (λ (state : State). HaveTrueKinds words state variables)
      (accepted.states_agree here.inside.exits exits at s other here.inside.arrived arrived) here.known,
  here.open_known,
)
