-- A look at an object's kind, by `as`, meets its condition.
use Rattle.std.proofs.Common.{◌≡◌, ℕ, ◌+◌, ◌<◌, false, List, [], ◌∷◌, ◌++◌, length, Option, Some, refl, ap, ◌∙◌, arith, cond}
use Rattle.std.proofs.lemmas.List.{length-set}
use Rattle.brc_lang.specs.declared.module.Instr.TheVariants.{As}
use Rattle.brc_lang.specs.declared.kind.Kind.{Kind}
use Rattle.brc_model.specs.declared.state.State.{State}
use Rattle.brc_model.specs.declared.state.Exit.TheVariants.{Success, Fault}
use Rattle.brc_model.specs.SlotStates.{var_of, is_empty, put, with_kind}
use Rattle.brc_model.specs.Threads.{row_of}
use Rattle.brc_model.specs.declared.duty.Duty.TheVariants.{KindLoad}
use Rattle.brc_model.specs.Kinds.{kind_of_word, same_kind}
use Rattle.brc_model.specs.declared.actor.Place.{Place}
use Rattle.brc_model.specs.declared.actor.Context.{Context}
use Rattle.brc_model.specs.declared.actor.Place.TheVariants.{InCall}
use Rattle.brc_model.specs.Actions.{Does, dispatch_instruction}
use Rattle.brc_model.specs.References.{one_if}
use Rattle.brc_model.proofs.Basics.Lists.{either, first_false}
use Rattle.brc_model.proofs.Dispatch.Holds.{once_each, of_variables, Holds, call_of}
use Rattle.brc_model.proofs.Dispatch.Grounded.{IsInside, grounded-with_kind, says-with_kind}
use Rattle.brc_model.proofs.Dispatch.Guards.{LocksAgree, HeldBeside, guards-with_kind}
use Rattle.brc_model.proofs.Dispatch.Standing.{named_at, keeps_all}
use Rattle.brc_model.proofs.Frame.Aside.{HoldsAlone}
use Rattle.brc_model.proofs.Dispatch.TakingUp.{Scene, Backs, StandsAt, Asks, Nothing, Taken, IsTaken, taken_with_row, in_call_stays}
use Rattle.brc_model.proofs.Dispatch.Programs.{Program}

-- The thread holds what it held, wherever it goes on after it has loaded the kind.
asks_taken : (program : Program) (g : Scene) (context : Context) (next found : ℕ)
    (variables : List (Option ℕ)) (s : State) (row : ℕ)
    → IsInside (call_of program context) next variables s → LocksAgree s variables g.locked
    → Holds g.bag g.thread (of_variables (call_of program context) s variables)
    → Backs g row
    → ((x : ℕ) → g.locked ≡ Some x → HeldBeside g.bag g.thread x (KindLoad row))
    → Taken program g found (InCall context next variables) (KindLoad row) []
asks_taken program g context next found variables s row inside guards holds backs keeps =
    let held_now : HoldsAlone g.bag g.thread (once_each (of_variables (call_of program context) s variables))
    (KindLoad row ∷ []) =
    record { each = λ k object. omega (arith, holds.each k object) } in
    record {
      placed = (s, inside, guards, held_now);
      starts = Asks row backs;
      follows = Nothing (in_call_stays context next variables);
      keeps = keeps;
    }

module _ {program : Program} {g : Scene} {before : Place} {context : Context} {at : ℕ} {variables : List (Option ℕ)}
    {s : State} where
  pub as_taken : (from : ℕ) (kind : Kind) (otherwise : ℕ)
      → StandsAt program context g before at variables s (As from kind otherwise)
      → IsTaken program g (dispatch_instruction g.layout g.thread g.used before context at variables
      (Some (As from kind otherwise)))
  as_taken from kind otherwise here =
      let some : is_empty (var_of s from) ≡ false = first_false _ _ here.met.not_empty in
      let live = named_at program context g before at variables s (As from kind otherwise) from here some in
      let in_slots : from < length s.slots = omega (arith, here.variables.0, here.inside.slots) in
      let narrowed = put s from (with_kind (var_of s from) kind) in
      let next : IsInside (call_of program context) (at + 1) variables narrowed = record {
        is_call = here.inside.is_call;
        exits = here.inside.exits ++ Success ∷ [];
        arrived = here.leads Success (at + 1) refl;
        slots = length-set s.slots from (with_kind (var_of s from) kind) ∙ here.inside.slots;
        rows = here.inside.rows;
        grounded = grounded-with_kind (call_of program context) s variables from kind in_slots here.inside.grounded;
      } in
      let holds : Holds g.bag g.thread (of_variables (call_of program context) narrowed variables) = record {
        each = λ h object.
            here.holds.each h object ∙ ap one_if (says-with_kind (call_of program context) s variables from kind h
            object
            in_slots);
      } in
      let aside : IsInside (call_of program context) otherwise variables s = record {
        is_call = here.inside.is_call;
        exits = here.inside.exits ++ Fault ∷ [];
        arrived = here.leads Fault otherwise refl;
        slots = here.inside.slots;
        rows = here.inside.rows;
        grounded = here.inside.grounded;
      } in
      let keeps =
      keeps_all program context g before at variables s (As from kind otherwise) (KindLoad live.object) here
      (λ k object. refl) in
      let taken : (found : ℕ)
      → Taken program g found (InCall context (cond (same_kind (kind_of_word found) kind) (at + 1) otherwise) variables)
      (KindLoad live.object) [] =
      λ found. either (λ (next : ℕ). Taken program g found (InCall context next variables) (KindLoad live.object) [])
      (same_kind (kind_of_word found) kind) _ _ (λ same.
      asks_taken program g context (at + 1) found variables narrowed live.object next
      (guards-with_kind s variables from kind s.locked g.locked in_slots here.guards) holds live.backs keeps)
      (asks_taken program g context otherwise found variables s live.object aside here.guards here.holds live.backs
      keeps)
      in
      taken_with_row program g live.object (row_of variables from)
      (λ row. Does (KindLoad row) []
      (λ found. InCall context (cond (same_kind (kind_of_word found) kind) (at + 1) otherwise) variables))
      live.is_row taken
