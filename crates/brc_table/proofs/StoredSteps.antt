-- A step that is a store is allowed as any step is: the hand knows the value that it overwrites.
use Rattle.std.proofs.Common.{◌≡◌, ℕ, List, Option, subst, ◌∙◌}
use Rattle.atomic_table.specs.Table.{State, Me, Allows, carried_after}
use Rattle.brc_effect.specs.declared.access.Access.{Access}
use Rattle.brc_effect.specs.declared.access.Access.TheVariants.{Store}
use Rattle.brc_table.specs.declared.view.View.{View}
use Rattle.brc_table.specs.Plays.{overwritten}
use Rattle.brc_effect.specs.Accesses.{IfStored, left_by}
use Rattle.brc_table.specs.DutySteps.{OverwritesFirst, Steps, StepsBy, StepsStored}

pub stored_allowed : {T : Type 0} (holds : State (Option T) View → Type 0) (fields id index : ℕ)
    (me : Me (Option T) View) (lines : List (List ℕ)) (begins : View → View) (access : Access) (word before : ℕ)
    → access ≡ Store word before
    → IfStored access (λ b. b ≡ overwritten (begins me.0))
    → IfStored access (λ b. (found : ℕ) → OverwritesFirst (begins me.0).thread (begins me.0).actor.agenda found
    → found ≡ b)
    → Allows holds fields id me index (left_by access) (StepsBy lines begins me)
    → Allows holds fields id me index (λ found. word) (λ found after. StepsStored lines begins me after)
stored_allowed {T} holds fields id index me lines begins access word before is same knows allowed s stands homes here
    below =
    let step =
    subst (λ (a : Access). Allows holds fields id me index (left_by a) (StepsBy lines begins me)) is allowed s stands
    homes here below in
    let known =
    subst (λ (a : Access). IfStored a (λ b. (found : ℕ)
    → OverwritesFirst (begins me.0).thread (begins me.0).actor.agenda found → found ≡ b)) is knows in
    let last = subst (λ (a : Access). IfStored a (λ b. b ≡ overwritten (begins me.0))) is same in (
      step.0,
      step.1,
      step.2,
      step.3,
      subst (λ (k : ℕ). Steps lines begins me k (step.0, carried_after me.1 step.1)) (known _ step.4.4 ∙ last) step.4,
    )
