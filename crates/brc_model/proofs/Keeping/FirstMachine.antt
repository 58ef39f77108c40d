-- The invariant holds of the first machine of a module: each thread holds the root, and is at the start of its calls.
use Rattle.std.proofs.Common.{◌≡◌, ℕ, zero, suc, ◌+◌, ◌<◌, ◌≤◌, List, [], ◌∷◌, length, Option, Some, refl, sym, ap, subst, arith, ◌∙◌}
use Rattle.std.specs.Prelude.{slice_get, map, replicate}
use Rattle.brc_lang.specs.declared.module.Module.{Module}
use Rattle.brc_lang.specs.declared.version.Version.{Version}
use Rattle.brc_lang.specs.declared.version.Version.TheVariants as versions
use Rattle.brc_model.specs.declared.state.State.{State}
use Rattle.brc_model.specs.declared.thread.Call.{Call}
use Rattle.brc_model.specs.declared.actor.Actor.{Actor}
use Rattle.brc_model.specs.Machine.{idle_actor}
use Rattle.brc_model.specs.Actions.{StepActor}
use Rattle.brc_model.specs.StepMachine.{its_actor, counting, layout_of, main_actor, worker_actor, first_machine}
use Rattle.brc_model.specs.Safety.{IsCall, AreCalls}
use Rattle.brc_model.specs.Accounts.{Accounts}
use Rattle.brc_model.specs.Invariant.{Invariant}
use Rattle.brc_model.proofs.Basics.Lists.{some_is, all_of_found, slice_get-map, all_at}
use Rattle.brc_model.proofs.Keeping.FirstThreads.{idle_actors, rooted_machine, each_idle}
use Rattle.brc_model.proofs.Keeping.FirstInvariant.{rooted_kept}
use Rattle.brc_model.proofs.Keeping.Callers.{callers_hold}
use Rattle.brc_model.proofs.Dispatch.Holds.{once_each, the_root}
use Rattle.brc_model.proofs.Dispatch.Coded.{InCode, has_calls}
use Rattle.brc_model.specs.Limits.{row_limit, root_cells, text_cells, cell_limit, immortal_limit}
use Rattle.brc_model.specs.Layout.{block_size}
use Rattle.brc_model.specs.FirstRows.{HasLines, IsLine}
use Rattle.brc_model.specs.declared.layout.Layout.{Layout}
use Rattle.brc_model.proofs.Dispatch.Programs.{program_of}
use Rattle.brc_lang.specs.declared.module.Instr.{Instr}
use Rattle.brc_lang.specs.declared.module.Instr.TheVariants.{List as ListObject, Take}
use Rattle.brc_lang.specs.declared.module.Function.{Function}
use Rattle.brc_lang.specs.Grammar.{cells_in, IsStatic, AreStatics, IsAllowed, AreAllowed, IsModule}
use Rattle.std.specs.List.{AllByRecursion}
use Rattle.brc_model.proofs.Dispatch.Allowed.{IsAllowedIn, AreAllowedIn}
use Rattle.brc_model.specs.Threads.{function_at, function_of}

-- ---- the counting machine under it

-- what the workers count with
abbrev workers_actors : List Call → List Actor
workers_actors calls = map its_actor (map worker_actor calls)

-- and main too
abbrev pub first_actors : Layout → List Call → List Actor
first_actors layout calls = idle_actor (block_size layout 0) ∷ workers_actors calls

workers_idle : (calls : List Call) → replicate (length calls) (idle_actor 0) ≡ workers_actors calls
workers_idle [] = refl
workers_idle (c ∷ calls) = ap (λ (l : List Actor). idle_actor 0 ∷ l) (workers_idle calls)

first_idle : (m : Module) (rows : ℕ) (calls : List Call)
    → idle_actors (layout_of m (length calls) rows) ≡ first_actors (layout_of m (length calls) rows) calls
first_idle m rows calls =
    let layout = layout_of m (length calls) rows in
    ap (λ (l : List Actor). idle_actor (block_size layout 0) ∷ l) (workers_idle calls)

-- What holds of main and of each worker holds of each thread of the first machine.
pub each_first : (P : ℕ → Actor → Type 0) (m : Module) (rows : ℕ) (calls : List Call)
    → P 0 (idle_actor (block_size (layout_of m (length calls) rows) 0))
    → ((t : ℕ) → t < length calls → P (suc t) (idle_actor 0))
    → (t : ℕ) (a : Actor) → slice_get (first_actors (layout_of m (length calls) rows) calls) t ≡ Some a → P t a
each_first P m rows calls main worker =
    subst (λ (l : List Actor). (t : ℕ) (a : Actor) → slice_get l t ≡ Some a → P t a) (first_idle m rows calls)
    (each_idle P (layout_of m (length calls) rows) main worker)

-- The threads count as main and workers that all hold the root.
pub first_rooted : (m : Module) (states : ℕ → ℕ → Option State) (rows : ℕ) (calls : List Call)
    → rooted_machine m.statics (layout_of m (length calls) rows) (1 + length calls)
    ≡ counting (first_machine m states rows calls)
first_rooted m states rows calls =
    let rooted = rooted_machine m.statics (layout_of m (length calls) rows) (1 + length calls) in
    λ i. record rooted { actors = first_idle m rows calls i }

-- A list has 8 cells at least where it may have the root's, and at most 64.
most_cells_wide : (version : Version) → root_cells ≤ cells_in version
most_cells_wide versions.One = omega arith
most_cells_wide versions.Two = omega arith
most_cells_wide versions.Three = omega arith

most_cells_few : (version : Version) → cells_in version ≤ cell_limit
most_cells_few versions.One = omega arith
most_cells_few versions.Two = omega arith
most_cells_few versions.Three = omega arith

each_line : (lines : List (List ℕ)) → AllByRecursion IsStatic lines → AllByRecursion (IsLine cell_limit) lines
each_line [] each = tt
each_line (line ∷ lines) each = ((omega (arith, each.0.most), each.0.each), each_line lines each.1)

no_line : (most : ℕ) (lines : List (List ℕ)) → length lines ≤ 0 → AllByRecursion (IsLine most) lines
no_line most [] none = tt
no_line most (line ∷ lines) none = absurd (omega (arith, none))

lines_fit : (version : Version) (lines : List (List ℕ)) → AreStatics version lines
    → AllByRecursion (IsLine (cells_in version)) lines
lines_fit versions.One lines fits = no_line text_cells lines fits.most
lines_fit versions.Two lines fits = no_line text_cells lines fits.most
lines_fit versions.Three lines fits = each_line lines fits.each

few_lines : (version : Version) (lines : List (List ℕ)) → AreStatics version lines → length lines ≤ immortal_limit
few_lines versions.One lines fits = omega (arith, fits.most)
few_lines versions.Two lines fits = omega (arith, fits.most)
few_lines versions.Three lines fits = omega (arith, fits.most)

-- The layout has the rows of the module's lines, and its lists may have the root's cells, and at most 64.
pub has_lines : (m : Module) (workers rows : ℕ) → IsModule m → HasLines m.statics (layout_of m workers rows)
has_lines m workers rows fits = record {
  few = few_lines m.version m.statics fits.statics;
  lists = refl;
  numbers = refl;
  each = lines_fit m.version m.statics fits.statics;
}

pub wide_cells : (m : Module) (workers rows : ℕ) → root_cells ≤ (layout_of m workers rows).cells
wide_cells m workers rows = most_cells_wide m.version

pub few_cells : (m : Module) (workers rows : ℕ) → (layout_of m workers rows).cells ≤ cell_limit
few_cells m workers rows = most_cells_few m.version

-- The first accounts: each thread holds the root as the caller that lends it.
abbrev pub first_accounts : Accounts
first_accounts t = once_each the_root

-- The first machine has the invariant.
pub first_kept : (m : Module) (states : ℕ → ℕ → Option State) (rows : ℕ) (calls : List Call) → IsModule m
    → AreCalls m calls → 0 < rows → rows ≤ row_limit
    → Invariant first_accounts (1 + length calls) (counting (first_machine m states rows calls))
first_kept m states rows calls fits are_calls some_rows few_rows =
    let n = 1 + length calls in
    let layout = layout_of m (length calls) rows in
    subst (Invariant first_accounts n) (first_rooted m states rows calls)
    (rooted_kept first_accounts m.statics layout n (record {
      some_callers = omega arith;
      few_callers = omega arith;
      few_workers = are_calls.most;
      some_rows = some_rows;
      few_rows = few_rows;
      few_cells = few_cells m (length calls) rows;
      has_lines = has_lines m (length calls) rows fits;
    })
    (record { each = λ t le k object. sym (callers_hold n t k object (omega (arith, le))) }))

-- ---- the code

allowed_in : (m : Module) (workers rows : ℕ) (i : Instr) → IsAllowed m.version m.statics i
    → IsAllowedIn (layout_of m workers rows) i
allowed_in m workers rows (ListObject to cells otherwise) fits = fits
allowed_in m workers rows (Take to list) fits = fits
allowed_in m workers rows _ fits = tt

-- The layout allows the module's instructions.
pub first_allowed : (m : Module) (workers rows : ℕ) → AreAllowed m.version m.statics m.functions
    → AreAllowedIn (layout_of m workers rows) m.functions
first_allowed m workers rows fits = record {
  each = λ number at i low found.
      let good =
      all_at (λ (f : Function). AllByRecursion (IsAllowed m.version m.statics) f.code) m.functions number fits low in
      let same : function_at m.functions number ≡ good.found =
      ap (λ (o : Option Function). function_of o) good.is_there in
      allowed_in m workers rows i
      (all_of_found (IsAllowed m.version m.statics) good.found.code at i good.holds
      (ap (λ (f : Function). slice_get f.code at) (sym same) ∙ found));
}

-- Each thread of the first machine is in its code, with the account that its place gives.
pub first_coded : (m : Module) (states : ℕ → ℕ → Option State) (layout : Layout) (calls : List Call) (t : ℕ)
    (a : StepActor) → AreCalls m calls → slice_get (main_actor layout ∷ map worker_actor calls) t ≡ Some a
    → InCode (program_of m.functions states a) a (first_accounts t)
first_coded m states layout calls zero a are_calls is =
    subst (λ (x : StepActor). InCode (program_of m.functions states x) x (first_accounts 0))
    (some_is (main_actor layout) a is)
    (record {
      alone = refl;
      plain = refl;
      says = (refl, refl, tt);
      departs = refl;
      lent = refl;
    })
first_coded m states layout calls (suc t) a are_calls is =
    let call = slice_get-map worker_actor calls t a is in
    let good = all_of_found (IsCall m) calls t call.source are_calls.each call.is_there in
    let program = program_of m.functions states (worker_actor call.source) in
    subst (λ (x : StepActor). InCode (program_of m.functions states x) x (first_accounts (suc t))) call.is_image
    (record {
      alone = refl;
      plain = refl;
      says = (refl, refl, has_calls program call.source.times (record { there = good.0; plain = good.3 }));
      departs = refl;
      lent = refl;
    })
