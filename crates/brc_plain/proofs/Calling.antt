-- What a thread dispatches is decided by the instruction that it is at.
use Rattle.std.proofs.Common.{◌≡◌, ℕ, zero, suc, ◌-◌, ◌<◌, List, [], ◌∷◌, length, refl, sym, ap, ◌∙◌, subst, arith}
use Rattle.std.specs.Prelude.{Option, Some, Result, IfOk, slice_get, slice_index_or}
use Rattle.brc_lang.specs.declared.module.Instr.{Instr}
use Rattle.brc_model.specs.declared.actor.Context.{Context}
use Rattle.brc_model.specs.declared.actor.Place.{Place}
use Rattle.brc_model.specs.declared.actor.Place.TheVariants.{Idle, InCall, Inside}
use Rattle.brc_model.specs.declared.actor.Stage.{Stage}
use Rattle.brc_model.specs.declared.layout.Layout.{Layout}
use Rattle.brc_model.specs.Threads.{entry_variables}
use Rattle.brc_model.specs.Actions.{Action, first_context, dispatch_instruction, dispatch_inside}
use Rattle.brc_model.specs.Dispatch.{dispatch}
use Rattle.brc_plain.specs.declared.act.Act.{Act}
use Rattle.brc_plain.specs.Acts.{act_in}

-- An act that is the model's one action is its other action too, if the two are one.
pub is_action : {E : Type 0} (result : Result Act E) (one other : Action) → one ≡ other
    → IfOk result (λ act. act_in act ≡ one) → IfOk result (λ act. act_in act ≡ other)
is_action result one other same is = subst (λ (x : Action). IfOk result (λ act. act_in act ≡ x)) same is

-- The item that is at a place of a list is found there.
pub found_at : {X : Type 0} (xs : List X) (k : ℕ) (x : X) → k < length xs → x ≡ slice_index_or xs k x
    → Some x ≡ slice_get xs k
found_at [] k x lt is = absurd (omega (arith, lt))
found_at (y ∷ xs) zero x lt is = ap Some is
found_at (y ∷ xs) (suc k) x lt is = found_at xs k x (omega (arith, lt)) is

module _ (layout : Layout) (t used : ℕ) (code : List Instr) (place : Place) (context : Context) (at : ℕ)
    (variables : List (Option ℕ)) (i : Instr) where
  -- in a call
  pub in_call : place ≡ InCall context at variables → Some i ≡ slice_get code at
      → dispatch_instruction layout t used place context at variables (Some i) ≡ dispatch layout t used code place
  in_call is found =
      subst (λ (p : Place). dispatch_instruction layout t used p context at variables (Some i)
      ≡ dispatch layout t used code p) (sym is)
      (ap (λ (o : Option Instr). dispatch_instruction layout t used (InCall context at variables) context at
      variables o) found)

  -- inside an instruction
  pub inside : (stage : Stage) → place ≡ Inside context at variables stage → Some i ≡ slice_get code at
      → dispatch_inside layout t used context at variables stage (Some i) ≡ dispatch layout t used code place
  inside stage is found =
      subst (λ (p : Place). dispatch_inside layout t used context at variables stage (Some i)
      ≡ dispatch layout t used code p) (sym is)
      (ap (λ (o : Option Instr). dispatch_inside layout t used context at variables stage o) found)

-- An idle thread with calls left dispatches the first instruction of its next call.
idle_begins : (layout : Layout) (t used left : ℕ) (code : List Instr) → (left ≡ 0 → ⊥)
    → dispatch_instruction layout t used (Idle left) (first_context (left - 1)) 0 entry_variables (slice_get code 0)
    ≡ dispatch layout t used code (Idle left)
idle_begins layout t used zero code some = absurd (some refl)
idle_begins layout t used (suc left) code some =
    let less : suc left - 1 ≡ left = omega arith in
    ap (λ (l : ℕ). dispatch_instruction layout t used (Idle (suc left)) (first_context l) 0 entry_variables
    (slice_get code 0)) less

pub idle : (layout : Layout) (t used : ℕ) (code : List Instr) (place : Place) (left : ℕ) (context : Context)
    (variables : List (Option ℕ)) (i : Instr) → place ≡ Idle left → (left ≡ 0 → ⊥)
    → context ≡ first_context (left - 1) → variables ≡ entry_variables → Some i ≡ slice_get code 0
    → dispatch_instruction layout t used place context 0 variables (Some i) ≡ dispatch layout t used code place
idle layout t used code place left context variables i is some begins enters found =
    subst (λ (p : Place). dispatch_instruction layout t used p context 0 variables (Some i)
    ≡ dispatch layout t used code p) (sym is)
    ((λ k. dispatch_instruction layout t used (Idle left) (begins k) 0 (enters k) (found k))
    ∙ idle_begins layout t used left code some)
