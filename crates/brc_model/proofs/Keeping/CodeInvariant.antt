-- The second layer of the invariant, which holds of each machine that an accepted module's events lead to: the
-- invariant of all threads holds, and each thread is at a point of its function's code, with the account that its place
-- gives.
use Rattle.std.proofs.Common.{◌≡◌, ℕ, Bool, false, List, Option, inl, inr, Some, sym, ap, ◌∙◌, subst}
use Rattle.std.specs.Prelude.{slice_get, slice_set}
use Rattle.std.proofs.lemmas.Bool.Decides.{eqb_tells}
use Rattle.std.proofs.lemmas.Option.{slice_get_within}
use Rattle.brc_lang.specs.declared.module.Module.{Module}
use Rattle.brc_model.specs.Tables.{AreTrueWhereReached}
use Rattle.brc_model.specs.Actions.{StepActor}
use Rattle.brc_model.specs.StepMachine.{StepMachine, counting}
use Rattle.brc_model.proofs.Basics.Lists.{some_is, slice_get-set_same, slice_get-set_other}
use Rattle.brc_model.specs.Accounts.{Account, Accounts}
use Rattle.brc_model.specs.Invariant.{Invariant}
use Rattle.brc_model.specs.declared.state.State.{State}
use Rattle.brc_model.proofs.Dispatch.Kinds.{KindsHold}
use Rattle.brc_model.proofs.Dispatch.Programs.{AreSound, program_of}
use Rattle.brc_model.specs.Items.{ItemsAreThere}
use Rattle.brc_model.proofs.Dispatch.Coded.{InCode}
use Rattle.brc_model.proofs.Dispatch.Rooms.{RoomsFit}
use Rattle.brc_model.specs.FirstRows.{HasLines}
use Rattle.brc_model.proofs.Dispatch.Allowed.{AreAllowedIn}
use Rattle.brc_model.specs.Counting.{with_account}
use Rattle.brc_model.proofs.Keeping.Replaced.{with_account_same, with_account_other}
use Rattle.brc_lang.specs.declared.module.Function.{Function}

pub record CodeInvariant (p : Module) (n : ℕ) (m : StepMachine) : Type 0 where
  pub accounts : Accounts
  pub kept : Invariant accounts n (counting m)
  pub functions : m.functions ≡ p.functions
  pub states_true : AreTrueWhereReached p m.states
  pub sound : AreSound m.functions m.states
  -- the machine has the module's immortal lists
  pub lines : HasLines p.statics m.layout
  -- the layout allows what the module's instructions make
  pub allowed : AreAllowedIn m.layout m.functions
  pub kinds : KindsHold p.statics m
  pub items : ItemsAreThere m
  pub rooms : RoomsFit m
  pub coded : (t : ℕ) (a : StepActor) → slice_get m.actors t ≡ Some a → InCode (program_of m.functions m.states a) a
      (accounts t)

abbrev pub KeepsOn : Module → ℕ → Bool → StepMachine → Type 0
KeepsOn p n bad m = (bad ≡ false) × CodeInvariant p n m

-- If one thread moves within its code, every thread still has the account that its place gives.
pub coded_set : (functions : List Function) (states : ℕ → ℕ → Option State) (c : Accounts) (actors : List StepActor)
    (t : ℕ) (a after : StepActor) (account : Account)
    → slice_get actors t ≡ Some a → InCode (program_of functions states after) after account
    → ((u : ℕ) (b : StepActor) → slice_get actors u ≡ Some b → InCode (program_of functions states b) b (c u))
    → (u : ℕ) (b : StepActor) → slice_get (slice_set actors t after) u ≡ Some b
    → InCode (program_of functions states b) b (with_account c t account u)
coded_set functions states c actors t a after account at own each u b is =
    elim (eqb_tells u t) [
      | inl this ↦
          let written_is : Some after ≡ Some b =
          sym (ap (slice_get (slice_set actors t after)) this.1
          ∙ slice_get-set_same actors t after (slice_get_within actors t a at)) ∙ is in
          let here : InCode (program_of functions states after) after (with_account c t account t) =
          subst (InCode (program_of functions states after) after) (with_account_same c t account) own in
          subst (λ (x : StepActor). InCode (program_of functions states x) x (with_account c t account u))
          (some_is after b written_is)
          (subst (λ (w : ℕ). InCode (program_of functions states after) after (with_account c t account w)) (sym this.1)
          here)
      | inr apart ↦
          subst (InCode (program_of functions states b) b) (with_account_other c t account u apart.1)
          (each u b (sym (slice_get-set_other actors t u after apart.1) ∙ is))
    ]
