-- `goto` and `again`.
use Rattle.std.proofs.Common.{◌≡◌, ℕ, ◌+◌, ◌<◌, ◌≤◌, Bool, true, false, cond, List, [], Option, sym, ap, ◌∙◌, subst}
use Rattle.std.specs.Prelude.{nat_lt, slice_index_or, slice_set}
use Rattle.std.proofs.lemmas.Bool.{lt-ltb, le-ltb}
use Rattle.brc_lang.specs.Limits.{instruction_limit}
use Rattle.brc_lang.specs.declared.module.Instr.TheVariants as instructions
use Rattle.brc_model.specs.Actions.{Silent, turns_at, with_turn}
use Rattle.brc_model.specs.declared.actor.Context.{Context}
use Rattle.brc_model.specs.declared.actor.Place.{Place}
use Rattle.brc_model.specs.declared.actor.Place.TheVariants.{InCall}
use Rattle.brc_model.specs.declared.state.Exit.TheVariants.{Success, Fault}
use Rattle.brc_table.specs.declared.view.View.{View}
use Rattle.brc_work.specs.Traces.{Program, MakesTrace}
use Rattle.brc_work.specs.Performs.{IsBefore, Performs, CountsTurn}
use Rattle.brc_work.proofs.Traces.Places.{begins, begins_one}
use Rattle.brc_work.proofs.Traces.Starting.{goes_silently}

pub makes_goto : (to : ℕ) (rows : List (Option ℕ)) (v : View) → Performs [] (instructions.Goto to) Success rows v rows v
makes_goto to rows v = λ program place context at before.
    begins_one before (goes_silently program place v (InCall context to rows) []
    (begins (instructions.Goto to) program place context at rows before v.layout v.thread v.actor.used))

-- The thread goes where the count of the turns says.
counted : (b : Bool) (at to times : ℕ) (context : Context) (rows : List (Option ℕ)) (v : View)
    → nat_lt (turns_at context at) times ≡ b → (program : Program) (place : Place)
    → IsBefore (instructions.Again to times) program place context at rows
    → MakesTrace 1 [] program place v (cond b (InCall (with_turn context at) to rows) (InCall context (at + 1) rows)) v
counted b at to times context rows v answer program place before =
    let back = InCall (with_turn context at) to rows in
    let past = InCall context (at + 1) rows in
    begins_one before (goes_silently program place v (cond b back past) []
    (begins (instructions.Again to times) program place context at rows before v.layout v.thread v.actor.used
    ∙ ap (λ (c : Bool). Silent [] (cond c back past)) answer))

module _ (at times : ℕ) (turns : List ℕ) where
  -- `again` goes back once more,
  pub goes_back : (after_turns : List ℕ) → slice_index_or turns at 0 < times
      → after_turns ≡ slice_set turns at (slice_index_or turns at 0 + 1)
      → CountsTurn at times Fault turns after_turns
  goes_back after_turns less is = λ to rows v program place left outer before.
      subst (λ (ns : List ℕ). MakesTrace 1 [] program place v
      (InCall (record { left = left; turns = ns; outer = outer }) to rows) v) (sym
      is)
      (counted true at to times (record { left = left; turns = turns; outer = outer }) rows v
      (lt-ltb _ times less) program
      place before)

  -- or it has gone back often enough.
  pub goes_past : (at < instruction_limit → times ≤ slice_index_or turns at 0)
      → CountsTurn at times Success turns turns
  goes_past enough = λ to rows v program place left outer before.
      counted false at to times (record { left = left; turns = turns; outer = outer }) rows v
      (le-ltb _ times (enough before.low)) program
      place before
