-- A call goes from point to point, into the calls that it makes and on behind them.
use Rattle.std.proofs.Common.{◌≡◌, ℕ, ◌+◌, ◌<◌, true, false, List, [], ◌∷◌, ◌++◌, Option, Some, append_assoc, append-nil, refl, sym, ap, ◌∙◌, subst, arith}
use Rattle.std.specs.Prelude.{◌-◌, is_some, slice_get, slice_set, replicate}
use Rattle.std.specs.List.{list_all}
use Rattle.brc_host.specs.HostCalls.{HostCall}
use Rattle.brc_lang.specs.Limits.{instruction_limit}
use Rattle.brc_lang.specs.declared.module.Function.{Function}
use Rattle.brc_lang.specs.declared.module.Instr.{Instr}
use Rattle.brc_lang.specs.declared.module.Instr.TheVariants as instructions
use Rattle.brc_lang.specs.declared.parameter.Argument.{Argument}
use Rattle.brc_model.specs.Actions.{first_context, argument_rows, passed_variables, kept_rows, callee_context}
use Rattle.brc_model.specs.Stops.{owned_rows}
use Rattle.brc_model.specs.Tables.{Reaches}
use Rattle.brc_model.specs.Threads.{function_at, row_of, entry_variables}
use Rattle.brc_model.specs.SlotStates.{target, after}
use Rattle.brc_model.specs.declared.actor.Context.{Context}
use Rattle.brc_model.specs.declared.actor.OpenCall.{OpenCall}
use Rattle.brc_model.specs.declared.actor.Place.{Place}
use Rattle.brc_model.specs.declared.actor.Place.TheVariants.{Idle, InCall}
use Rattle.brc_model.specs.declared.state.Exit.{Exit}
use Rattle.brc_model.specs.declared.state.Exit.TheVariants.{Fault}
use Rattle.brc_model.specs.declared.state.State.{State}
use Rattle.brc_table.specs.declared.view.View.{View}
use Rattle.brc_free.specs.Works.{HasWorked, to_settle}
use Rattle.brc_work.specs.declared.end.End.{End}
use Rattle.brc_work.specs.declared.end.End.TheVariants.{Returned, Failed, Stopped}
use Rattle.brc_work.specs.Performs.{DispatchesAt, IsBefore, PerformsAt, StepsTo, MakesRelease, place_after}
use Rattle.brc_work.specs.Runs.{Configuration, IsAboutTo, place_of, stopping_at, ComesTo, Runs, CallsOnce}
use Rattle.brc_work.specs.Stopping.{GivesUpTo, MakesStop, MakesReleases, OuterGiveUp, NoOuter, OneOuter}
use Rattle.brc_work.specs.Traces.{Program, MakesTrace}
use Rattle.brc_work.proofs.Traces.Joining.{no_trace, calls_then}
use Rattle.brc_work.proofs.Traces.Stops.{stops_last}
use Rattle.brc_work.proofs.Traces.References.{with_turns, makes_ret, makes_fail, makes_call, returns_on, fails_on}

-- ---- steps

-- An instruction that stays in its call leads where its exit says.
pub steps_by : {cs : List HostCall} (at next : ℕ) (i : Instr) (exit : Exit) (turns after_turns : List ℕ)
    (rows after_rows : List (Option ℕ)) (v u : View) → target i exit at ≡ Some next
    → PerformsAt cs at i exit turns rows v after_turns after_rows u
    → StepsTo cs i at turns rows v next after_turns after_rows u
steps_by {cs} at next i exit turns after_turns rows after_rows v u leads performs = λ program place left outer before.
    let context : Context = record { left = left; turns = after_turns; outer = outer } in
    subst (λ (o : Option ℕ). MakesTrace 1 cs program place v (place_after context o after_rows) u) leads
    (performs program place left outer before)

-- ---- a call

-- The call of the context that began at view v, at the place, has come to the point, with these calls of the host, and
-- with these turns and variables. It has begun this many instructions. A hand that may begin none is inside the call.
pub record HasCome (program : Program) (start : Place) (context : Context) (begun left : ℕ) (cs : List HostCall)
    (v : View) (at : ℕ) (turns : List ℕ) (rows : List (Option ℕ)) (u : View) : Type 0 where
  pub place : Place
  pub comes : DispatchesAt program place (with_turns context turns) at rows
  pub makes : MakesTrace begun cs program start v place u
  pub inside : left ≡ 0 → place ≡ InCall (with_turns context turns) at rows

-- the functions, where a thread calls this one from outside
abbrev pub called_in : List Function → ℕ → Program
called_in functions first = record { functions = functions; first = first }

-- where a call begins
abbrev pub from_there : Place → Context → List (Option ℕ) → ℕ → Configuration
from_there place context rows may = record { place = place; context = context; variables = rows; may = may }

-- Wherever a thread makes the call of the function of this number, it has come to the point, and its hand may begin
-- `left` instructions more of those that it might begin in the call.
abbrev pub Comes : List Function → ℕ → List (Option ℕ) → ℕ → ℕ → List HostCall → View → ℕ → List ℕ
    → List (Option ℕ) → View → Type 0
Comes functions number entry may left cs v at turns rows u =
    (first : ℕ) (start : Place) (context : Context) → IsAboutTo
    (called_in functions first) number (from_there start context entry may)
    → (begun : ℕ) × (begun + left ≡ may)
    × HasCome (called_in functions first) start context begun left cs v at turns rows u

-- It begins at the first point.
pub comes_first : (functions : List Function) (number : ℕ) (entry : List (Option ℕ)) (may : ℕ) (v : View)
    → Comes functions number entry may may [] v 0 (replicate 256 0) entry v
comes_first functions number entry may v = λ first start context about.
    let program = called_in functions first in (
      0,
      omega arith,
      record {
        place = start;
        comes = subst (λ (ts : List ℕ). DispatchesAt program start (with_turns context ts) 0 entry) about.turns
            about.comes;
        makes = no_trace program start [] v;
        inside = λ none.
            about.inside none ∙ ap (λ (ts : List ℕ). InCall (with_turns context ts) 0 entry) about.turns;
      },
    )

-- Traces, with one instruction more that calls no host.
one_on : {n : ℕ} {cs : List HostCall} (program : Program) (p q r : Place) (v u w : View)
    → MakesTrace n cs program p v q u → MakesTrace 1 [] program q u r w → MakesTrace (n + 1) cs program p v r w
one_on {n} {cs} program p q r v u w one other =
    subst (λ (ks : List HostCall). MakesTrace (n + 1) ks program p v r w) (append-nil cs)
    (calls_then cs [] program p q r [] [] [] v u w one other)

as_many : {n k : ℕ} {cs : List HostCall} (program : Program) (p q : Place) (v u : View) → n ≡ k
    → MakesTrace n cs program p v q u → MakesTrace k cs program p v q u
as_many {cs} program p q v u same one = subst (λ (m : ℕ). MakesTrace m cs program p v q u) same one

one_less : (begun left may : ℕ) → begun + left ≡ may → 0 < left → begun + 1 + (left - 1) ≡ may
one_less begun left may all some = omega (arith, all, some)

some_more : (begun left may within after : ℕ) → begun + left ≡ may → 0 < left → within + 1 + after ≡ left - 1
    → begun + 1 + (within + 1) + after ≡ may
some_more begun left may within after all some more = omega (arith, all, some, more)

module _ (functions : List Function) (number : ℕ) (entry : List (Option ℕ)) (may left : ℕ) (cs : List HostCall)
    (v : View) (at : ℕ) (turns : List ℕ) (rows : List (Option ℕ)) (u : View)
    (come : Comes functions number entry may left cs v at turns rows u) where
  -- Where a hand may begin no more it stops,
  pub stops_here : (rest : ℕ) (w : View) (state : State) → left ≡ 0 → Reaches (function_at functions number) at state
      → MakesStop state rows u w → Runs functions number entry may rest Stopped cs v w
  stops_here rest w state none reaches stops = λ first start context about.
      let program = called_in functions first in
      let here = come first start context about in
      let inner = with_turns context turns in
      record {
        point = record {
          context = inner;
          at = at;
          variables = rows;
          state = state;
          reaches = subst (λ (n : ℕ). Reaches (function_at functions n) at state) (sym about.calls) reaches;
        };
        there = u;
        comes = as_many program start (InCall inner at rows) v u (omega (arith, here.1, none))
            (subst (λ (p : Place). MakesTrace here.0 cs program start v p u) (here.2.inside none) here.2.makes);
        between = [];
        owes = λ further gives. gives;
        gives_up = λ further. stops program further;
      }

  module _ (i : Instr) (found : slice_get (function_at functions number).code at ≡ Some i)
      (low : at < instruction_limit) where
    before : (first : ℕ) (start : Place) (context : Context)
        (about : IsAboutTo (called_in functions first) number (from_there start context entry may))
        → IsBefore i (called_in functions first) (come first start context about).2.place (with_turns context turns) at
        rows
    before first start context about = record {
      comes = (come first start context about).2.comes;
      found = ap (λ (n : ℕ). slice_get (function_at functions n).code at) about.calls ∙ found;
      low = low;
    }

    ends_by : (first : ℕ) (start : Place) (context : Context)
        (about : IsAboutTo (called_in functions first) number (from_there start context entry may))
        → ComesTo i (called_in functions first) (from_there start context entry may) (come first start context about).0
        cs v rows u
    ends_by first start context about = record {
      there = (come first start context about).2.place;
      turns = turns;
      at = at;
      comes = before first start context about;
      makes = (come first start context about).2.makes;
    }

    -- and where it may, it goes on to a further point,
    pub comes_on : (ds : List HostCall) (next : ℕ) (after_turns : List ℕ) (after_rows : List (Option ℕ)) (w : View)
        → 0 < left → StepsTo ds i at turns rows u next after_turns after_rows w
        → Comes functions number entry may (left - 1) (cs ++ ds) v next after_turns after_rows w
    comes_on ds next after_turns after_rows w some steps = λ first start context about.
        let program = called_in functions first in
        let here = come first start context about in
        let there = InCall (with_turns context after_turns) next after_rows in (
          here.0 + 1,
          one_less here.0 left may here.1 some,
          record {
            place = there;
            comes = record { does = λ layout t used. refl; names = refl; begins = refl; begun = refl };
            makes = calls_then cs ds program start here.2.place there [] [] [] v u w here.2.makes
                (steps program here.2.place context.left context.outer (before first start context about));
            inside = λ none. refl;
          },
        )

-- or comes to its end: with a reference,
pub ends_returning : (functions : List Function) (number : ℕ) (entry : List (Option ℕ)) (may left : ℕ)
    (cs : List HostCall) (v : View) (at : ℕ) (turns : List ℕ) (rows : List (Option ℕ)) (u : View) (from row : ℕ)
    → Comes functions number entry may left cs v at turns rows u
    → slice_get (function_at functions number).code at ≡ Some (instructions.Ret from) → at < instruction_limit
    → 0 < left → row_of rows from ≡ Some row → Runs functions number entry may (left - 1) (Returned row) cs v u
ends_returning functions number entry may left cs v at turns rows u from row come found low some names =
    λ first start context about.
    let here = come first start context about in (
      here.0,
      from,
      rows,
      one_less here.0 left may here.1 some,
      names,
      ends_by functions number entry may left cs v at turns rows u come (instructions.Ret from) found low first start
          context about,
    )

-- or without one.
pub ends_failing : (functions : List Function) (number : ℕ) (entry : List (Option ℕ)) (may left : ℕ)
    (cs : List HostCall) (v : View) (at : ℕ) (turns : List ℕ) (rows : List (Option ℕ)) (u : View)
    → Comes functions number entry may left cs v at turns rows u
    → slice_get (function_at functions number).code at ≡ Some instructions.Fail → at < instruction_limit
    → 0 < left → Runs functions number entry may (left - 1) Failed cs v u
ends_failing functions number entry may left cs v at turns rows u come found low some =
    λ first start context about.
    let here = come first start context about in (
      here.0,
      rows,
      one_less here.0 left may here.1 some,
      ends_by functions number entry may left cs v at turns rows u come instructions.Fail found low first start context
          about,
    )

-- ---- a call that it makes

module _ (functions : List Function) (number : ℕ) (entry : List (Option ℕ)) (may left : ℕ) (cs : List HostCall)
    (v : View) (at : ℕ) (turns : List ℕ) (rows : List (Option ℕ)) (u : View)
    (come : Comes functions number entry may left cs v at turns rows u) (to callee : ℕ) (arguments : List Argument)
    (otherwise : ℕ)
    (found : slice_get (function_at functions number).code at
    ≡ Some (instructions.Call to callee arguments otherwise)) (low : at < instruction_limit) (some : 0 < left)
    (named : list_all is_some (argument_rows rows arguments) ≡ true) where
  abbrev i : Instr
  i = instructions.Call to callee arguments otherwise

  abbrev kept : List (Option ℕ)
  kept = kept_rows rows arguments to

  -- the call, which waits for the one that it makes
  abbrev waits : OpenCall
  waits = record {
    callee = callee;
    at = at;
    variables = kept;
    turns = turns;
    to = to;
    otherwise = otherwise;
  }

  abbrev inner : Context → Context
  inner context = callee_context (with_turns context turns) at rows to callee arguments otherwise

  abbrev entered : Context → Place
  entered context = InCall (inner context) 0 (passed_variables rows arguments)

  enters : (first : ℕ) (start : Place) (context : Context)
      (about : IsAboutTo (called_in functions first) number (from_there start context entry may))
      → MakesTrace ((come first start context about).0 + 1) cs (called_in functions first) start v (entered context) u
  enters first start context about =
      let program = called_in functions first in
      let here = come first start context about in
      one_on program start here.2.place (entered context) v u u here.2.makes
      (makes_call to callee arguments otherwise rows u named program here.2.place (with_turns context turns) at
      (before functions number entry may left cs v at turns rows u come i found low first start context about))

  about_inner : (first : ℕ) (context : Context) → IsAboutTo (called_in functions first) callee
      (from_there (entered context) (inner context) (passed_variables rows arguments) (left - 1))
  about_inner first context = record {
    comes = record { does = λ layout t used. refl; names = refl; begins = refl; begun = refl };
    calls = refl;
    turns = refl;
    inside = λ none. refl;
  }

  module _ (rest : ℕ) (ds : List HostCall) (w : View) where
    abbrev Inner : End → Type 0
    Inner end = Runs functions callee (passed_variables rows arguments) (left - 1) rest end ds u w

    -- The call goes on behind it, with the reference that it has returned,
    pub goes_on_returned : (row : ℕ) → Inner (Returned row)
        → Comes functions number entry may rest (cs ++ ds) v (at + 1) turns (slice_set kept to (Some row)) w
    goes_on_returned row runs = λ first start context about.
        let program = called_in functions first in
        let here = come first start context about in
        let (within, from, variables, all, names, comes) = runs first (entered context) (inner context)
        (about_inner first context) in
        let next = InCall (with_turns context turns) (at + 1) (slice_set kept to (Some row)) in (
          here.0 + 1 + (within + 1),
          some_more here.0 left may within rest here.1 some all,
          record {
            place = next;
            comes = record { does = λ layout t used. refl; names = refl; begins = refl; begun = refl };
            makes = calls_then cs ds program start (entered context) next [] [] [] v u w
                (enters first start context about)
                (one_on program (entered context) comes.there next u w w comes.makes
                (returns_on from row variables w names program comes.there context.left comes.turns waits context.outer
                comes.at comes.comes));
            inside = λ none. refl;
          },
        )

    -- or where its own fault leads,
    pub goes_on_failed : Inner Failed
        → Comes functions number entry may rest (cs ++ ds) v otherwise turns kept w
    goes_on_failed runs = λ first start context about.
        let program = called_in functions first in
        let here = come first start context about in
        let (within, variables, all, comes) = runs first (entered context) (inner context)
        (about_inner first context) in
        let next = InCall (with_turns context turns) otherwise kept in (
          here.0 + 1 + (within + 1),
          some_more here.0 left may within rest here.1 some all,
          record {
            place = next;
            comes = record { does = λ layout t used. refl; names = refl; begins = refl; begun = refl };
            makes = calls_then cs ds program start (entered context) next [] [] [] v u w
                (enters first start context about)
                (one_on program (entered context) comes.there next u w w comes.makes
                (fails_on variables w program comes.there context.left comes.turns waits context.outer comes.at
                comes.comes));
            inside = λ none. refl;
          },
        )

    -- or it gives up what is its own, where the hand has stopped further in.
    pub stops_around : (x : View) (s : State) → Inner Stopped → Reaches (function_at functions number) at s
        → MakesReleases (after i Fault s) kept w x → Runs functions number entry may rest Stopped (cs ++ ds) v x
    stops_around x s runs reaches releases = λ first start context about.
        let program = called_in functions first in
        let here = come first start context about in
        let within = runs first (entered context) (inner context) (about_inner first context) in
        let own = owned_rows (after i Fault s).slots kept in
        record {
          point = within.point;
          there = within.there;
          comes = as_many program start (place_of within.point) v within.there (one_less here.0 left may here.1 some)
              (calls_then cs ds program start (entered context) (place_of within.point) [] [] [] v u within.there
              (enters first start context about) within.comes);
          between = within.between ++ own ∷ [];
          owes = λ further gives.
              subst (OuterGiveUp program within.point.context.outer)
              (sym (append_assoc within.between (own ∷ []) further))
              (within.owes (own ∷ further) (OneOuter waits context.outer further i s
              (ap (λ (n : ℕ). slice_get (function_at functions n).code at) about.calls ∙ found)
              (subst (λ (n : ℕ). Reaches (function_at functions n) at s) (sym about.calls) reaches) gives));
          gives_up = λ further.
              subst (λ (calls : List (List (Option ℕ))).
              GivesUpTo program (stopping_at within.point calls) within.there further x)
              (sym (append_assoc within.between (own ∷ []) further))
              (releases program (stopping_at within.point (within.between ++ (own ∷ further))) within.there further
              (within.gives_up (own ∷ further)));
        }

-- ---- an outermost call

module _ (functions : List Function) (number may left : ℕ) (some : 0 < may) (cs : List HostCall) (v u : View) where
  abbrev its : Program
  its = called_in functions number

  about_outermost : IsAboutTo its number (from_there (Idle 1) (first_context 0) entry_variables may)
  about_outermost = record {
    comes = record { does = λ layout t used. refl; names = refl; begins = refl; begun = refl };
    calls = refl;
    turns = refl;
    inside = λ none. absurd (omega (arith, none, some));
  }

  -- What it returns is given up,
  pub ends_released : (row : ℕ) (ds : List HostCall) (w : View)
      → Runs functions number entry_variables may left (Returned row) cs v u → MakesRelease ds row u w
      → CallsOnce its may left true (cs ++ ds) v w
  ends_released row ds w runs releases =
      let (begun, from, variables, all, names, comes) = runs number (Idle 1) (first_context 0) about_outermost in (
        begun + 1,
        all,
        calls_then cs ds its (Idle 1) comes.there (Idle 0) [] [] [] v u w comes.makes
            (makes_ret from row variables u w names releases its comes.there 0 comes.turns comes.at comes.comes),
      )

  -- or it returns nothing,
  pub ends_alone : Runs functions number entry_variables may left Failed cs v u
      → CallsOnce its may left true cs v u
  ends_alone runs =
      let (begun, variables, all, comes) = runs number (Idle 1) (first_context 0) about_outermost in (
        begun + 1,
        all,
        one_on its (Idle 1) comes.there (Idle 0) v u u comes.makes
            (makes_fail variables u its comes.there 0 comes.turns comes.at comes.comes),
      )

  -- or the hand has stopped, and settles.
  pub ends_stopped : (ds : List HostCall) (w : View) → Runs functions number entry_variables may left Stopped cs v u
      → u.actor.agenda ≡ [] → HasWorked (to_settle [] u) ds [] w → w.actor.head ≡ 0
      → CallsOnce its may left false (cs ++ ds) v w
  ends_stopped ds w runs none settled empty =
      let within = runs number (Idle 1) (first_context 0) about_outermost in
      let further = within.between ++ [] in
      record {
        some = some;
        point = within.point;
        further = further;
        owes = within.owes [] NoOuter;
        there = within.there;
        before = cs;
        closes = ds;
        calls_are = refl;
        comes = within.comes;
        gives_up = stops_last its (stopping_at within.point further) within.there ds u w (within.gives_up []) none
            settled empty;
      }
