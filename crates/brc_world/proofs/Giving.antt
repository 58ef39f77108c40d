-- What a stopped thread gives up next: the first reference of its innermost call that holds one.
use Rattle.std.proofs.Common.{◌≡◌, ℕ, ◌+◌, ◌<◌, ◌≤◌, true, false, List, [], ◌∷◌, length, inl, inr, refl, sym, ap, ◌∙◌, arith}
use Rattle.std.specs.Prelude.{Option, None, Some, MatchOption, is_some, map}
use Rattle.std.specs.Prelude.{vec_len, vec_capacity}
use Rattle.std.specs.List.{list_any}
use Rattle.std.proofs.lemmas.Bool.{cases_Bool}
use Rattle.brc_model.specs.declared.state.Exit.{Exit}
use Rattle.brc_model.specs.Actions.{StepActor, Action, Stuck, holds_some, give_up_first, give_up}
use Rattle.brc_model.proofs.Dispatch.Stopped.{first_names}
use Rattle.brc_world.specs.declared.dispatch.Start.{Start}
use Rattle.brc_world.specs.declared.dispatch.Start.TheVariants as starts
use Rattle.brc_machine.specs.declared.open_call.OpenCall.{OpenCall}
use Rattle.brc_world.specs.declared.thread.Thread.{Thread}
use Rattle.brc_world.specs.Actors.{actor_of}
use Rattle.brc_world.specs.OpenCalls.{rows_of, all_rows, holds_rows}
use Rattle.brc_machine.specs.OpenCalls.{open_of}
use Rattle.brc_world.specs.Starts.{start_by, started, HasDispatched}

-- A call that holds nothing is passed over.
pub gives_up_further : (rows : List (Option ℕ)) (outer : List (List (Option ℕ))) → list_any is_some rows ≡ false
    → give_up (rows ∷ outer) ≡ give_up outer
gives_up_further rows outer none = rw none refl

pub holds_further : (rows : List (Option ℕ)) (outer : List (List (Option ℕ))) → list_any is_some rows ≡ false
    → holds_some (rows ∷ outer) ≡ holds_some outer
holds_further rows outer none = rw none refl

pub gives_up_here : (rows : List (Option ℕ)) (outer : List (List (Option ℕ))) → list_any is_some rows ≡ true
    → give_up (rows ∷ outer) ≡ give_up_first rows outer
gives_up_here rows outer some = rw some refl

-- Where the thread was before it gives up a reference doesn't matter.
pub given_elsewhere : (a b : StepActor) (rows : List (Option ℕ)) (outer : List (List (Option ℕ))) (exit : Exit)
    (found : ℕ) → list_any is_some rows ≡ true → a.function ≡ b.function → a.actor ≡ b.actor
    → started a (give_up_first rows outer) exit found ≡ started b (give_up_first rows outer) exit found
given_elsewhere a b rows outer exit found some function actor =
    let names = first_names rows some in
    rw (names.1, function, actor) refl

-- what a thread that holds nothing by its innermost call is like once it is back in the call around that one
pub record GoesFurther (old new : Thread) : Type 0 where
  pub gives : give_up (all_rows new.variables new.outer) ≡ give_up (all_rows old.variables old.outer)
  pub some : holds_rows new.variables new.outer ≡ true
  pub rest : new ≡ record old { variables = new.variables; turns = new.turns; outer = new.outer }
  pub shorter : length new.outer < length old.outer

pub goes_further : (old new : Thread) (result : Option OpenCall)
    → MatchOption result ((old.outer ≡ []) × (new ≡ old)) (λ call. (old.outer ≡ open_of call ∷ new.outer)
    × (new ≡ record old { variables = call.variables; turns = call.turns; outer = new.outer }))
    → list_any is_some old.variables ≡ false → holds_rows old.variables old.outer ≡ true → GoesFurther old new
goes_further old new None back none some =
    absurd (let wrong : false ≡ true = sym (rw (back.0, none) refl) ∙ some in cc)
goes_further old new (Some call) back none some =
    let now : all_rows new.variables new.outer ≡ map rows_of old.outer =
    ap (λ (rows : List (Option ℕ)). rows ∷ map rows_of new.outer) (ap (λ (t : Thread). t.variables) back.1)
    ∙ sym (ap (map rows_of) back.0) in
    record {
      gives = ap give_up now ∙ sym (gives_up_further old.variables (map rows_of old.outer) none);
      some = ap holds_some now ∙ sym (holds_further old.variables (map rows_of old.outer) none) ∙ some;
      rest = back.1
          ∙ (λ i. record old {
            variables = ap (λ (t : Thread). t.variables) (sym back.1) i;
            turns = ap (λ (t : Thread). t.turns) (sym back.1) i;
            outer = new.outer;
          });
      shorter = omega (arith, ap length back.0);
    }

-- A thread that gives up its next reference begins that action from wherever it was before.
pub given_first : (old before new : Thread) (start : Start)
    → give_up (all_rows before.variables before.outer) ≡ give_up (all_rows old.variables old.outer)
    → before ≡ record old { variables = before.variables; turns = before.turns; outer = before.outer }
    → list_any is_some before.variables ≡ true
    → HasDispatched before (give_up_first before.variables (map rows_of before.outer)) start new
    → HasDispatched old (give_up (all_rows old.variables old.outer)) start new
given_first old before new start gives rest some has =
    let here : give_up_first before.variables (map rows_of before.outer) ≡ give_up (all_rows old.variables old.outer) =
    sym (gives_up_here before.variables (map rows_of before.outer) some) ∙ gives in
    record {
      starts = has.starts ∙ ap start_by here;
      question = has.question;
      actor = λ exit found. has.actor exit found
          ∙ given_elsewhere (actor_of before) (actor_of old) before.variables (map rows_of before.outer) exit found some
          (ap (λ (t : Thread). t.function) rest) (ap (λ (t : Thread). (actor_of t).actor) rest)
          ∙ ap (λ (x : Action). started (actor_of old) x exit found) here;
      room = has.room;
    }

-- A thread whose calls hold nothing has nothing to give up.
gives_nothing : (calls : List (List (Option ℕ))) → holds_some calls ≡ false → give_up calls ≡ Stuck
gives_nothing [] none = refl
gives_nothing (rows ∷ outer) none = elim (cases_Bool (list_any is_some rows)) [
  | inl some ↦ absurd (let wrong : true ≡ false = (rw some at none) in cc)
  | inr empty ↦ gives_up_further rows outer empty
      ∙ gives_nothing outer (sym (holds_further rows outer empty) ∙ none)
]

pub stuck_stopped : (old : Thread) → holds_rows old.variables old.outer ≡ false
    → vec_len old.agenda + 4 ≤ vec_capacity old.agenda
    → HasDispatched old (give_up (all_rows old.variables old.outer)) starts.Stuck old
stuck_stopped old none room =
    let is = sym (gives_nothing (all_rows old.variables old.outer) none) in
    record {
      starts = ap start_by is;
      question = tt;
      actor = λ exit found. ap (λ (x : Action). started (actor_of old) x exit found) is;
      room = room;
    }
