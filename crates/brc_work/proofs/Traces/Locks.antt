-- `lock` and `unlock`.
use Rattle.std.proofs.Common.{◌≡◌, ℕ, ◌+◌, Bool, true, false, cond, List, [], Option, Some, refl, sym, subst}
use Rattle.std.specs.Prelude.{◌==◌}
use Rattle.brc_lang.specs.declared.module.Instr.TheVariants as instructions
use Rattle.brc_word.specs.Words.{free_word}
use Rattle.brc_model.specs.Actions.{Does, always}
use Rattle.brc_model.specs.Threads.{row_of}
use Rattle.brc_model.specs.declared.actor.Context.{Context}
use Rattle.brc_model.specs.declared.actor.Place.{Place}
use Rattle.brc_model.specs.declared.actor.Place.TheVariants.{InCall}
use Rattle.brc_model.specs.declared.duty.Duty.TheVariants.{LockGate, UnlockGate}
use Rattle.brc_model.specs.declared.state.Exit.TheVariants.{Success}
use Rattle.brc_table.specs.declared.view.View.{View}
use Rattle.brc_table.specs.Views.{view_after, locking, unlocking}
use Rattle.brc_work.specs.Traces.{Program, MakesTrace, begun_at, begun_by}
use Rattle.brc_work.specs.Performs.{IsBefore, Performs, Waits}
use Rattle.brc_work.proofs.Traces.Joining.{no_trace, traces_then, traces_before}
use Rattle.brc_work.proofs.Traces.Places.{begins_with, begins_one}
use Rattle.brc_work.proofs.Traces.Starting.{tries, unlocks}

module _ (object row n found : ℕ) (rows : List (Option ℕ)) (v u : View) (none : v.actor.agenda ≡ [])
    (names : row_of rows object ≡ Some row) (is : u ≡ view_after (locking v row n) found) where
  -- The thread is where the word found says, which also says whether the instruction has begun.
  tried : (b : Bool) → (found == free_word) ≡ b → (program : Program) (place : Place) (context : Context) (at : ℕ)
      → IsBefore (instructions.Lock object) program place context at rows
      → MakesTrace (cond b 1 0) [] program place v (cond b (InCall context (at + 1) rows) place) u
  tried b answer program place context at before =
      let gets = InCall context (at + 1) rows in
      let next = λ (word : ℕ). cond (word == free_word) gets place in
      subst (λ (n : ℕ). MakesTrace (cond b n 0) [] program place v (cond b gets place) u) before.comes.begun
      (subst (λ (c : Bool). MakesTrace (cond c (begun_at place) 0) [] program place v (cond c gets place) u) answer
      (subst (MakesTrace (begun_by place (LockGate row) found) [] program place v (next found)) (sym is)
      (tries program place next v none row n found
      (begins_with (instructions.Lock object) program place context at rows before v.layout v.thread v.actor.used object
      row
      (λ x. Does (LockGate x) [] next) refl names))))

  -- The object is locked,
  pub makes_lock : (found == free_word) ≡ true → Performs [] (instructions.Lock object) Success rows v rows u
  makes_lock free = tried true free

  -- or the thread tries again.
  pub waits : (found == free_word) ≡ false → Waits (instructions.Lock object) rows v u
  waits taken = tried false taken

-- A thread that hasn't tried yet,
pub not_waited : (object : ℕ) (rows : List (Option ℕ)) (v : View) → Waits (instructions.Lock object) rows v v
not_waited object rows v = λ program place context at before. no_trace program place [] v

-- one that tries again,
pub waits_then : (object : ℕ) (rows : List (Option ℕ)) (v u w : View) → Waits (instructions.Lock object) rows v u
    → Waits (instructions.Lock object) rows u w → Waits (instructions.Lock object) rows v w
waits_then object rows v u w one other = λ program place context at before.
    traces_then program place place place [] [] [] v u w (one program place context at before)
    (other program place context at before)

-- and one that locks the object in the end.
pub waits_first : (object : ℕ) (rows : List (Option ℕ)) (v u w : View) → Waits (instructions.Lock object) rows v u
    → Performs [] (instructions.Lock object) Success rows u rows w
    → Performs [] (instructions.Lock object) Success rows v rows w
waits_first object rows v u w one other = λ program place context at before.
    traces_before program place place (InCall context (at + 1) rows) [] [] [] v u w
    (one program place context at before)
    (other program place context at before)

pub makes_unlock : (object row found : ℕ) (rows : List (Option ℕ)) (v u : View) → v.actor.agenda ≡ []
    → row_of rows object ≡ Some row → u ≡ view_after (unlocking v row) found
    → Performs [] (instructions.Unlock object) Success rows v rows u
makes_unlock object row found rows v u none names is = λ program place context at before.
    let next = always (InCall context (at + 1) rows) in
    subst (MakesTrace 1 [] program place v (next found)) (sym is)
    (begins_one before (unlocks program place next v none row found
    (begins_with (instructions.Unlock object) program place context at rows before v.layout v.thread v.actor.used object
    row
    (λ x. Does (UnlockGate x) [] next) refl names)))
