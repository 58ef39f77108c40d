-- An idle thread with calls left dispatches the first instruction of its next call.
use Rattle.std.proofs.Common.{◌≡◌, ℕ, zero, suc, ◌-◌, List, [], refl, sym, ap, ◌∙◌, subst, arith}
use Rattle.std.specs.Prelude.{slice_get, replicate}
use Rattle.brc_lang.specs.declared.module.Function.{Function}
use Rattle.brc_lang.specs.declared.module.Instr.{Instr}
use Rattle.brc_model.specs.declared.actor.Place.TheVariants.{Idle}
use Rattle.brc_model.specs.Threads.{entry_variables, function_at, function_in}
use Rattle.brc_model.specs.declared.layout.Layout.{Layout}
use Rattle.brc_model.specs.Actions.{Action, first_context, dispatch_instruction}
use Rattle.brc_model.specs.Dispatch.{dispatch}
use Rattle.brc_world.specs.declared.dispatch.Start.{Start}
use Rattle.brc_world.specs.declared.thread.Mode.TheVariants as modes
use Rattle.brc_world.specs.declared.thread.Thread.{Thread}
use Rattle.brc_world.specs.Actors.{actor_of, OpensFew}
use Rattle.brc_world.specs.Starts.{start_by, started, action_at, HasDispatched}

pub idle_begins : (layout : Layout) (t used left : ℕ) (code : List Instr) → (left ≡ 0 → ⊥)
    → dispatch_instruction layout t used (Idle left) (first_context (left - 1)) 0 entry_variables (slice_get code 0)
    ≡ dispatch layout t used code (Idle left)
idle_begins layout t used zero code some = absurd (some refl)
idle_begins layout t used (suc left) code some =
    let less : suc left - 1 ≡ left = omega arith in
    ap (λ (l : ℕ). dispatch_instruction layout t used (Idle (suc left)) (first_context l) 0 entry_variables
    (slice_get code 0)) less

-- the thread at the beginning of a call from outside, but for its mode
abbrev pub at_beginning : Thread → Thread
at_beginning a = record a { at = 0; variables = entry_variables; turns = replicate 256 0; outer = [] }

module _ (functions : List Function) (layout : Layout) (t : ℕ) (old : Thread) (idle : old.mode ≡ modes.Idle)
    (some : old.left ≡ 0 → ⊥) where
  -- the action of an idle thread
  abbrev idle_action : Action
  idle_action =
      dispatch layout t old.used (function_in functions old.function (actor_of old).place).code (actor_of old).place

  first_instruction : action_at layout t (old.left - 1) (slice_get (function_at functions old.function).code 0)
      (at_beginning old) ≡ idle_action
  first_instruction =
      rw idle (idle_begins layout t old.used old.left (function_at functions old.function).code some)

  same_actor : actor_of (at_beginning old) ≡ actor_of old
  same_actor = rw idle refl

  -- What it does at the beginning of its next call is what the model's thread dispatches.
  pub idle_dispatches : (before new : Thread) (start : Start) (code : List Instr) → before ≡ at_beginning old
      → code ≡ (function_at functions old.function).code
      → HasDispatched before (action_at layout t (old.left - 1) (slice_get code before.at) before) start new
      → HasDispatched old idle_action start new
  idle_dispatches before new start code is own has =
      let here : HasDispatched (at_beginning old)
      (action_at layout t (old.left - 1) (slice_get (function_at functions old.function).code 0) (at_beginning old))
      start new =
      subst (λ (b : Thread). HasDispatched b
      (action_at layout t (old.left - 1) (slice_get (function_at functions old.function).code b.at) b) start new) is
      (subst (λ (c : List Instr). HasDispatched before
      (action_at layout t (old.left - 1) (slice_get c before.at) before) start new) own has) in
      record {
        starts = here.starts ∙ ap start_by first_instruction;
        question = here.question;
        actor = λ exit found. here.actor exit found
            ∙ (λ i. started (same_actor i) (first_instruction i) exit found);
        room = here.room;
      }

  pub idle_few : (before : Thread) (code : List Instr) → before ≡ at_beginning old
      → code ≡ (function_at functions old.function).code → OpensFew idle_action
      → OpensFew (action_at layout t (old.left - 1) (slice_get code before.at) before)
  idle_few before code is own few =
      subst (λ (c : List Instr). OpensFew (action_at layout t (old.left - 1) (slice_get c before.at) before)) (sym own)
      (subst (λ (b : Thread). OpensFew
      (action_at layout t (old.left - 1) (slice_get (function_at functions old.function).code b.at) b)) (sym is)
      (subst OpensFew (sym first_instruction) few))
