-- In each machine that events lead to, each set mark is watched, as the invariant says.
use Rattle.std.proofs.Common.{◌≡◌, ◌≢◌, ℕ, ◌+◌, ◌*◌, ◌/◌, ◌<◌, Bool, true, false, List, [], ◌∷◌, inl, inr, length, Some, refl, sym, ap, ◌∙◌, arith}
use Rattle.std.specs.Prelude.{◌&&◌, ◌||◌, nat_le, nat_lt, slice_get}
use Rattle.std.specs.List.{list_any}
use Rattle.std.proofs.lemmas.Bool.{lt-ltb}
use Rattle.brc_word.specs.declared.values.TheConstants.{RUNNING, SET, UNSET}
use Rattle.brc_word.specs.Words.{marks_of_word}
use Rattle.brc_lang.specs.declared.module.Module.{Module}
use Rattle.brc_lang.specs.Grammar.{IsModule}
use Rattle.brc_model.specs.Paths.{IsAcceptable}
use Rattle.brc_model.specs.OpenWork.{is_found}
use Rattle.brc_model.proofs.Basics.Lists.{either_true, or_second}
use Rattle.brc_model.specs.declared.duty.Duty.{Duty}
use Rattle.brc_model.specs.declared.duty.Duty.TheVariants.{Look, TakeMark, Settle, SettleCell, SettleEnd, Leave, Scan, TakeFound, Finish}
use Rattle.brc_model.specs.declared.address.Address.TheVariants.{ThreadWord}
use Rattle.brc_model.specs.declared.actor.Status.{Status}
use Rattle.brc_model.specs.declared.actor.Status.TheVariants.{Running, Leaving, Gone}
use Rattle.brc_model.specs.declared.actor.Actor.{Actor}
use Rattle.brc_model.specs.Machine.{Machine, mark_of}
use Rattle.brc_model.specs.StepMachine.{StepMachine, first_machine}
use Rattle.brc_model.specs.Progress.{Always}
use Rattle.brc_model.specs.Watched.{looks_at, scans_over, IsWatched, ByRunning, ByExit, ByLook, MarksWatched}
use Rattle.brc_model.specs.References.{one_if}
use Rattle.brc_model.specs.RowInvariant.{weight}
use Rattle.brc_model.specs.OpenWork.{Later, Agenda, AgendaFits, scans}
use Rattle.brc_model.specs.Accounts.{Accounts}
use Rattle.brc_model.specs.Invariant.{looks, CoreInvariant}
use Rattle.brc_model.specs.Knowledge.{status_word}
use Rattle.brc_model.proofs.Work.HasDuties.{some_weighs, is_open}
use Rattle.brc_model.specs.Invariant as core
use Rattle.brc_model.proofs.Stepping.Exits.{marked_born}
use Rattle.brc_model.proofs.Work.Watches.{marked_within}
use Rattle.brc_model.proofs.Keeping.CodeInvariant.{CodeInvariant}
use Rattle.brc_model.proofs.Keeping.CodeEvents.{code_invariant_after}
use Rattle.brc_model.proofs.Promises.Safe.{first_code_invariant}
use Rattle.brc_model.proofs.Basics.Blocks.{born_used}
use Rattle.brc_model.specs.Layout.{block_of, index_of}

-- ---- by the running thread

status_runs : (s : Status) → status_word s ≡ 1 → s ≡ Running
status_runs Running e = refl
status_runs Leaving e = absurd (omega (arith, e))
status_runs Gone e = absurd (omega (arith, e))

module _ {p : Accounts} {n : ℕ} {m : Machine} where
  -- A marked row was born, so the thread of its block exists.
  by_running : (x : ℕ) → CoreInvariant p n m → mark_of m.layout m.memory x ≡ SET
      → m.memory (ThreadWord (block_of m.layout x)) ≡ RUNNING
      → IsWatched m x
  by_running x core marked word =
      let used = born_used x core (marked_born x core marked) in
      let fits = (core.each (block_of m.layout x) used.by used.found).0 in
      ByRunning (used.by, used.found, status_runs used.by.status (sym fits.word ∙ word))

-- ---- by an exit

both_true : (a b c : Bool) → a ≡ true → b ≡ true → (a && b || c) ≡ true
both_true true true c ea eb = refl
both_true true false c ea eb = absurd cc
both_true false b c ea eb = absurd cc

-- A scan is part of an exit, and goes to the end of the thread's used rows.
later_scans : (used : ℕ) (status : Status) (x : ℕ) (l : List Duty)
    → Later used status l → x < used → scans x l ≡ true
    → (status ≡ Leaving) × (list_any (scans_over x) l ≡ true)
later_scans used status x [] later low e = absurd cc
later_scans used status x (Settle ∷ rest) later low e =
    later_scans used status x rest later low e
later_scans used status x (SettleCell y i n ∷ rest) later low e = later_scans used status x rest later low e
later_scans used status x (SettleEnd y ∷ rest) later low e = later_scans used status x rest later low e
later_scans used status x (Leave y k ∷ []) later low e = absurd cc
later_scans used status x (Scan y k ∷ rest) later low e = (
  later.0,
  both_true (nat_le y (x / marks_of_word)) (nat_lt x (marks_of_word * y + k)) (list_any (scans_over x) rest) e
      (lt-ltb x (marks_of_word * y + k) (omega (arith, low, later.1))),
)
later_scans used status x (TakeFound w marks ∷ rest) later low e = (
  later.0,
  elim (either_true (is_found x w marks) (scans x rest) e) [
    | inl found ↦ ap (λ (b : Bool). b || list_any (scans_over x) rest) found
    | inr more ↦
        or_second (is_found x w marks) (list_any (scans_over x) rest)
        (later_scans used status x rest later.2 low more).1
  ],
)
later_scans used status x (Finish ∷ []) later low e = absurd cc
later_scans used status x _ later low e = absurd later

agenda_scans : (used : ℕ) (status : Status) (x : ℕ) (l : List Duty)
    → Agenda used status l → x < used → scans x l ≡ true
    → (status ≡ Leaving) × (list_any (scans_over x) l ≡ true)
agenda_scans used status x [] fits low e = absurd cc
agenda_scans used status x (Settle ∷ rest) fits low e =
    later_scans used status x (Settle ∷ rest) fits low e
agenda_scans used status x (Leave y k ∷ rest) fits low e =
    later_scans used status x (Leave y k ∷ rest) fits low e
agenda_scans used status x (Scan y k ∷ rest) fits low e =
    later_scans used status x (Scan y k ∷ rest) fits low e
agenda_scans used status x (TakeFound w marks ∷ rest) fits low e =
    later_scans used status x (TakeFound w marks ∷ rest) fits low e
agenda_scans used status x (Finish ∷ rest) fits low e =
    later_scans used status x (Finish ∷ rest) fits low e
agenda_scans used status x (_ ∷ rest) fits low e =
    later_scans used status x rest fits low e

exit_scans : (a : Actor) (status : Status) (x : ℕ) → AgendaFits a status
    → x < a.used → scans x a.agenda ≡ true
    → (status ≡ Leaving) × (list_any (scans_over x) a.agenda ≡ true)
exit_scans a Gone x fits low e = let none : false ≡ true = ap (scans x) (sym fits.0) ∙ e in absurd cc
exit_scans a Running x fits low e = agenda_scans a.used Running x a.agenda fits low e
exit_scans a Leaving x fits low e = agenda_scans a.used Leaving x a.agenda fits low e

module _ {p : Accounts} {n : ℕ} {m : Machine} where
  by_exit : (x : ℕ) (a : Actor) → CoreInvariant p n m → mark_of m.layout m.memory x ≡ SET
      → slice_get m.actors (block_of m.layout x) ≡ Some a
      → scans (index_of m.layout (block_of m.layout x) x) a.agenda ≡ true → IsWatched m x
  by_exit x a core marked found e =
      let t = block_of m.layout x in
      let within = marked_within t a x core found marked refl in
      let shown = exit_scans a a.status (index_of m.layout t x) (core.each t a found).1 within e in
      ByExit a found shown.0 shown.1

-- ---- by a look

looks_only : (x : ℕ) (d : Duty) → looks_at x d ≡ false → looks x d ≡ 0
looks_only x (Look y) other = ap one_if other
looks_only x (TakeMark y) other = ap one_if other
looks_only x _ other = refl

by_look : (m : Machine) (x : ℕ) → 0 < weight (looks x) m.actors → IsWatched m x
by_look m x weighs =
    let it = some_weighs (looks x) m.actors weighs in
    ByLook it.who it.which it.found (is_open (looks x) (looks_at x) (looks_only x) it.which it.some)

-- ---- all marks

module _ {p : Accounts} {n : ℕ} {m : Machine} where
  watched_so : (x : ℕ) → CoreInvariant p n m → mark_of m.layout m.memory x ≡ SET → core.IsWatched m x → IsWatched m x
  watched_so x kept marked (core.ByRunning word) = by_running x kept marked word
  watched_so x kept marked (core.ByExit a found e) = by_exit x a kept marked found e
  watched_so x kept marked (core.ByLook weighs) = by_look m x weighs

  -- A mark that is set is watched, whatever code the threads run.
  pub mark_watched : (x : ℕ) → CoreInvariant p n m → mark_of m.layout m.memory x ≢ UNSET → IsWatched m x
  mark_watched x kept set =
      elim (kept.marks x) [
        | inl none ↦ absurd (set none)
        | inr marked ↦ watched_so x kept marked.0 marked.2
      ]

all_watched : (p : Module) (n : ℕ) (m : StepMachine) → CodeInvariant p n m → MarksWatched m
all_watched p n m whole = λ x set. mark_watched x whole.kept.core set

pub marks_watched : (p : Module) → IsModule p → IsAcceptable p → Always MarksWatched p
marks_watched p fits accepted = λ states rows calls events states_true some most are_calls.
    let n = 1 + length calls in
    all_watched p n _ (code_invariant_after p n (first_machine p states rows calls) events
    (first_code_invariant p states rows calls fits accepted states_true are_calls some most))
