-- A call of the host that reads or writes uses the resource of the file or socket that its instruction names.
use Rattle.std.proofs.Common.{◌≡◌, ℕ, false, List, Option, Some, sym, ap, ◌∙◌, subst}
use Rattle.std.specs.Prelude.{slice_get}
use Rattle.brc_lang.specs.declared.module.Module.{Module}
use Rattle.brc_lang.specs.Grammar.{IsModule}
use Rattle.brc_lang.specs.declared.module.Instr.{Instr}
use Rattle.brc_lang.specs.declared.module.Instr.TheVariants.{Read, Write}
use Rattle.brc_model.specs.declared.state.State.{State}
use Rattle.brc_model.specs.declared.actor.Place.{Place}
use Rattle.brc_model.specs.declared.actor.Stage.TheVariants.{Lent}
use Rattle.brc_model.specs.SlotStates.{var_of, is_empty}
use Rattle.brc_model.specs.Threads.{row_of}
use Rattle.brc_model.specs.Paths.{IsAcceptable}
use Rattle.brc_model.specs.Progress.{Always}
use Rattle.brc_model.specs.StepMachine.{StepMachine}
use Rattle.brc_model.specs.HostCalls.{file_of, CallsUseTheLent}
use Rattle.brc_model.proofs.Basics.Lists.{some_is, first_false}
use Rattle.brc_model.proofs.Dispatch.Passing.{AreMet, passes_on}
use Rattle.brc_model.proofs.Dispatch.Holds.{call_of}
use Rattle.brc_model.proofs.Dispatch.Grounded.{named_row, running_accepted}
use Rattle.brc_model.proofs.Dispatch.Lending.{lent_to, lent_at}
use Rattle.brc_model.proofs.Dispatch.Coded.{PlaceSays}
use Rattle.brc_model.proofs.Keeping.CodeInvariant.{CodeInvariant}
use Rattle.brc_model.proofs.Promises.RowLaws.{always}
use Rattle.brc_model.proofs.Dispatch.Programs.{running, code_in, code_at, program_of}

-- The instruction's conditions say that the variable isn't empty.
file_some : (i : Instr) (s : State) (file : ℕ) → AreMet i s → file_of (Some i) ≡ Some file
    → is_empty (var_of s file) ≡ false
file_some (Read to this most otherwise) s file met is =
    subst (λ (v : ℕ). is_empty (var_of s v) ≡ false) (some_is this file is) (first_false _ _ met.not_empty)
file_some (Write this number otherwise) s file met is =
    subst (λ (v : ℕ). is_empty (var_of s v) ≡ false) (some_is this file is) (first_false _ _ met.not_empty)
file_some _ s file met is = absurd cc

-- What is lent is what the variable names.
file_lent : (i : Option Instr) (variables : List (Option ℕ)) (file : ℕ) → file_of i ≡ Some file
    → lent_to Lent i variables ≡ row_of variables file
file_lent (Some (Read to this most otherwise)) variables file is = ap (row_of variables) (some_is this file is)
file_lent (Some (Write this number otherwise)) variables file is = ap (row_of variables) (some_is this file is)
file_lent _ variables file is = absurd cc

lent_used : (p : Module) (n : ℕ) (m : StepMachine) → CodeInvariant p n m → CallsUseTheLent m
lent_used p n m whole t at file a context variables found place uses =
    let program = program_of m.functions m.states a in
    let code = code_in program context in
    let own = whole.coded t a found in
    let names : file_of (slice_get code at) ≡ Some file =
    ap (λ (x : Place). file_of (slice_get (code_at program x) at)) (sym place) ∙ uses in
    let says = subst (λ (x : Place). PlaceSays program x a.actor.locked (whole.accounts t)) place own.says in
    let on = passes_on (running program context.outer) says.1.exits at says.0
    (running_accepted program context.outer whole.sound says.1.is_call.open_calls) says.1.arrived in
    let some = file_some on.here says.0 file on.met (sym (ap file_of on.found) ∙ names) in
    let row = named_row (call_of program context) (var_of says.0 file) (row_of variables file) some
    (says.1.grounded file) in
    record {
      row = row.0;
      named = row.1;
      lent = own.lent ∙ ap (lent_at program) place ∙ file_lent (slice_get code at) variables file names ∙ row.1;
    }

pub calls_use_the_lent : (p : Module) → IsModule p → IsAcceptable p → Always CallsUseTheLent p
calls_use_the_lent = always CallsUseTheLent lent_used
