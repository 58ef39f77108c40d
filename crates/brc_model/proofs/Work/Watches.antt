-- A mark that is set stays watched: by the block's running thread, by its exit, or by the thread that set the mark.
use Rattle.std.proofs.Common.{◌≡◌, ◌≢◌, ℕ, zero, suc, ◌+◌, ◌*◌, ◌/◌, ◌%◌, ◌<◌, ◌≤◌, Bool, true, false, cond, List, [], ◌∷◌, ◌++◌, ◌⊎◌, inl, inr, Some, set, refl, sym, ap, ◌∙◌, arith, subst}
use Rattle.std.specs.Prelude.{◌==◌, ◌||◌, slice_get, sum_by}
use Rattle.std.proofs.lemmas.Bool.{eqb-true, ne_eqb, leb-true, le-leb}
use Rattle.std.proofs.lemmas.Bool.Decides.{eqb_tells}
use Rattle.std.proofs.lemmas.List.Sums.{sum_by-cons}
use Rattle.brc_word.specs.declared.values.TheConstants.{RUNNING, LEAVING, SET, UNSET}
use Rattle.brc_word.specs.Words.{marks_of_word, mark_at, marked_word, unmarked_word, lowest_mark, first_marks}
use Rattle.brc_model.specs.declared.duty.Duty.{Duty}
use Rattle.brc_model.specs.declared.duty.Duty.TheVariants.{SetMark, Look, TakeMark, Settle, SettleCell, SettleEnd, Leave, Scan, MarksLoad, TakeFound, Finish, ClaimMark}
use Rattle.brc_model.specs.declared.address.Address.{Address}
use Rattle.brc_model.specs.declared.address.Address.TheVariants.{Marks, ThreadWord}
use Rattle.brc_model.specs.Duties.{mark_place, found_row, new_head, ready}
use Rattle.brc_model.specs.declared.actor.Status.{Status}
use Rattle.brc_model.specs.declared.actor.Status.TheVariants.{Gone}
use Rattle.brc_model.specs.declared.actor.Actor.{Actor}
use Rattle.brc_model.specs.Machine.{Machine, is_running, actor_by, machine_by_duty, written, mark_of}
use Rattle.brc_model.proofs.Basics.Lists.{some_is, either_true, or_second, slice_get-set_other}
use Rattle.brc_model.specs.References.{one_if}
use Rattle.brc_model.specs.RowInvariant.{weight}
use Rattle.brc_model.specs.Accounts.{Accounts}
use Rattle.brc_model.specs.OpenWork.{Later, Agenda, is_found, scans}
use Rattle.brc_model.specs.Invariant.{AtDuty, looks, IsWatched, ByRunning, ByExit, ByLook, CoreInvariant}
use Rattle.brc_model.specs.Knowledge.{status_word}
use Rattle.brc_model.proofs.Basics.Written.{written_load}
use Rattle.brc_model.proofs.Basics.Marks.{loaded_marks, set_mark, set_elsewhere, taken_mark, taken_elsewhere}
use Rattle.brc_model.proofs.Basics.FoundMarks.{first_bit, is_found_here, none_found, others_found}
use Rattle.brc_model.proofs.Basics.Continuation.{is_inner, next_inner, first_inner, Continuation, Ends, GoesOn, Frees, Exits, Scans, Takes, TakesNone, continues}
use Rattle.brc_model.proofs.Frame.Leaves.{head_of, words_left}
use Rattle.brc_model.proofs.Frame.Lives.{next_of}
use Rattle.brc_model.proofs.Stepping.FitsAfter.{found_by, memory_by, agenda_here, NotGone}
use Rattle.brc_model.proofs.Stepping.Exits.{marked_born}
use Rattle.brc_model.proofs.Basics.Blocks.{row_back, born_used}
use Rattle.brc_model.proofs.Objects.Weights.{weight-stepped}
use Rattle.brc_model.specs.declared.layout.Layout.{Layout}
use Rattle.brc_model.specs.Layout.{block_of, row_at, index_of, mark_bit, IsCounted}

-- ---- actors

set_found : {A : Type 0} (xs : List A) (i : ℕ) (x y : A) → slice_get xs i ≡ Some x → slice_get (set xs i y) i ≡ Some y
set_found [] i x y found = absurd cc
set_found (z ∷ zs) zero x y found = refl
set_found (z ∷ zs) (suc i) x y found = set_found zs i x y found

-- ---- a row that is still to be scanned stays so

-- the agenda's scan goes over the row with the index, or the row's mark is among those that the scan has found
abbrev ScansRow : ℕ → List Duty → Type 0
ScansRow x [] = ⊥
ScansRow x (Leave j k ∷ rest) = ⊥
ScansRow x (Scan w k ∷ rest) = (w ≤ x / marks_of_word) × (x < marks_of_word * w + k)
ScansRow x (TakeFound w marks ∷ rest) = (is_found x w marks ≡ true) ⊎ ScansRow x rest
ScansRow x (d ∷ rest) = ScansRow x rest

scans_told : (x : ℕ) (l : List Duty) → ScansRow x l → scans x l ≡ true
scans_told x [] row = absurd row
scans_told x (Leave j k ∷ rest) row = absurd row
scans_told x (Scan w k ∷ rest) row = le-leb w (x / marks_of_word) row.0
scans_told x (TakeFound w marks ∷ rest) (inl found) = ap (λ (b : Bool). b || scans x rest) found
scans_told x (TakeFound w marks ∷ rest) (inr row) = or_second (is_found x w marks) (scans x rest)
    (scans_told x rest row)
scans_told x (_ ∷ rest) row = scans_told x rest row

later_scans : (used : ℕ) (status : Status) (x : ℕ) (rest : List Duty)
    → Later used status rest → x < used → scans x rest ≡ true → ScansRow x rest
later_scans used status x [] later low e = absurd cc
later_scans used status x (Settle ∷ rest) later low e = later_scans used status x rest later low e
later_scans used status x (SettleCell y i n ∷ rest) later low e = later_scans used status x rest later low e
later_scans used status x (SettleEnd y ∷ rest) later low e = later_scans used status x rest later low e
later_scans used status x (Leave j k ∷ []) later low e = absurd cc
later_scans used status x (Scan w k ∷ rest) later low e =
    (leb-true w (x / marks_of_word) e, omega (arith, later.1, low))
later_scans used status x (TakeFound w marks ∷ rest) later low e =
    elim (either_true (is_found x w marks) (scans x rest) e) [
      | inl found ↦ inl found
      | inr more ↦ inr (later_scans used status x rest later.2 low more)
    ]
later_scans used status x (Finish ∷ []) later low e = absurd cc
later_scans used status x _ later low e = absurd later

here_scans : (used : ℕ) (status : Status) (x : ℕ) (d : Duty) (rest : List Duty)
    → Agenda used status (d ∷ rest) → x < used → scans x (d ∷ rest) ≡ true → ScansRow x (d ∷ rest)
here_scans used status x Settle rest fits low e = later_scans used status x rest fits low e
here_scans used status x (Leave j k) rest fits low e =
    later_scans used status x (Leave j k ∷ rest) fits low e
here_scans used status x (Scan j k) rest fits low e =
    later_scans used status x (Scan j k ∷ rest) fits low e
here_scans used status x (TakeFound w marks) rest fits low e =
    later_scans used status x (TakeFound w marks ∷ rest) fits low e
here_scans used status x Finish rest fits low e =
    later_scans used status x (Finish ∷ rest) fits low e
here_scans used status x _ rest fits low e = later_scans used status x rest fits low e

ready_scans : (x head : ℕ) (l : List Duty) → ScansRow x l → scans x (ready head l) ≡ true
ready_scans x zero [] row = absurd row
ready_scans x (suc head) [] row = absurd row
ready_scans x zero (Settle ∷ rest) row = ready_scans x zero rest row
ready_scans x (suc head) (Settle ∷ rest) row = scans_told x rest row
ready_scans x zero (Scan w zero ∷ rest) row = absurd (omega (arith, row.0, row.1))
ready_scans x (suc head) (Scan w zero ∷ rest) row = absurd (omega (arith, row.0, row.1))
ready_scans x zero (Scan w (suc k) ∷ rest) row = le-leb w (x / marks_of_word) row.0
ready_scans x (suc head) (Scan w (suc k) ∷ rest) row = le-leb w (x / marks_of_word) row.0
ready_scans x zero (TakeFound w zero ∷ rest) (inl found) = absurd (none_found x w found)
ready_scans x zero (TakeFound w zero ∷ rest) (inr row) = ready_scans x zero rest row
ready_scans x (suc head) (TakeFound w zero ∷ rest) (inl found) = absurd (none_found x w found)
ready_scans x (suc head) (TakeFound w zero ∷ rest) (inr row) = ready_scans x (suc head) rest row
ready_scans x zero (TakeFound w (suc k) ∷ rest) row = scans_told x (TakeFound w (suc k) ∷ rest) row
ready_scans x (suc head) (TakeFound w (suc k) ∷ rest) row = scans_told x (TakeFound w (suc k) ∷ rest) row
ready_scans x zero (d ∷ rest) row = scans_told x (d ∷ rest) row
ready_scans x (suc head) (d ∷ rest) row = scans_told x (d ∷ rest) row

plain_first : (x : ℕ) (d : Duty) (rest : List Duty) → is_inner d ≡ true → ScansRow x (d ∷ rest) → ScansRow x rest
plain_first x (Leave j k) rest inner row = absurd row
plain_first x (Scan w k) rest inner row = absurd cc
plain_first x (TakeFound w k) rest inner row = absurd cc
plain_first x _ rest inner row = row

plain_before : (x : ℕ) (d : Duty) (rest : List Duty) → is_inner d ≡ true → ScansRow x rest → ScansRow x (d ∷ rest)
plain_before x (Leave j k) rest inner row = absurd cc
plain_before x (Scan w k) rest inner row = absurd cc
plain_before x (TakeFound w k) rest inner row = absurd cc
plain_before x _ rest inner row = row

-- The duty doesn't take the row's mark away.
abbrev Spares : Layout → ℕ → Duty → ℕ → Type 0
Spares layout t (TakeMark y) x = y ≢ x
Spares layout t (TakeFound w marks) x = found_row layout t w marks ≢ x
Spares layout t _ x = Unit {0}

-- The same for the thread's own rows, by their indices. A load of the mark's word finds the mark.
abbrev SparesIndex : Duty → ℕ → ℕ → Type 0
SparesIndex (Scan w k) found i = i / marks_of_word ≡ w → mark_at found (i % marks_of_word) ≡ 1
SparesIndex (TakeFound w marks) found i = marks_of_word * w + lowest_mark marks ≢ i
SparesIndex _ found i = Unit {0}

spares_index : (m : Machine) (t : ℕ) (a : Actor) (d : Duty) (x : ℕ) → block_of m.layout x ≡ t
    → mark_of m.layout m.memory x ≡ SET → Spares m.layout t d x
    → SparesIndex d (found_by m t a d) (index_of m.layout t x)
spares_index m t a (Scan w k) x block marked spares = λ here.
    ap (λ (v : ℕ). mark_at (m.memory (Marks t v)) (index_of m.layout t x % marks_of_word)) (sym here)
    ∙ ap (λ (u : ℕ). mark_at (m.memory (Marks u (index_of m.layout u x / marks_of_word)))
    (index_of m.layout u x % marks_of_word)) (sym block)
    ∙ marked
spares_index m t a (TakeFound w marks) x block marked spares = λ e.
    spares (ap (row_at m.layout t) e ∙ row_back m.layout t x block)
spares_index m t a _ x block marked spares = tt

next_scans : {layout : Layout} {t head found : ℕ} (x : ℕ) (d : Duty) (next rest : List Duty)
    → Continuation layout t head found d next → SparesIndex d found x → ScansRow x (d ∷ rest)
    → ScansRow x (next ++ rest)
next_scans x d next rest (Ends inner) spares row = plain_first x d rest inner row
next_scans x d next rest (GoesOn e leads) spares row =
    plain_before x e rest (next_inner e leads) (plain_first x d rest (first_inner d e leads) row)
next_scans x d next rest (Frees y i n z e some leads) spares row = plain_before x e rest (next_inner e leads) row
next_scans x d next rest (Exits i n) spares row = absurd row
next_scans {found = found} x d next rest (Scans w n) spares row =
    elim (eqb_tells (x / marks_of_word) w) [
      | inl here ↦
          inl (is_found_here x w (first_marks found n) here.1
          (first_bit found n (x % marks_of_word) (omega (arith, here.1, row.1)) ∙ spares here.1))
      | inr past ↦ inr (omega (arith, past.1, row.0), omega (arith, past.1, row.0, row.1))
    ]
next_scans x d next rest (Takes w marks set) spares (inl found) = inl (others_found x w marks spares found)
next_scans x d next rest (Takes w marks set) spares (inr row) = inr row
next_scans x d next rest (TakesNone w marks) spares (inl found) = inl (others_found x w marks spares found)
next_scans x d next rest (TakesNone w marks) spares (inr row) = inr row
next_scans x d next rest _ spares row = row

module _ {p : Accounts} {n : ℕ} {m : Machine} {t : ℕ} {a : Actor} {d : Duty} {rest : List Duty} where
  agenda_scans : (x : ℕ) → AtDuty p n m t a d rest → NotGone a → x < a.used → SparesIndex d (found_by m t a d) x
      → scans x (d ∷ rest) ≡ true → scans x (actor_by m.layout t a d rest (found_by m t a d)).agenda ≡ true
  agenda_scans x here alive low spares e =
      let word = found_by m t a d in
      let row = here_scans a.used a.status x d rest (agenda_here here alive) low e in
      ready_scans x (new_head a.head d word) (next_of m t a d ++ rest)
      (next_scans x d (next_of m t a d) rest (continues m.layout t (is_running a.status) a.head d word) spares row)

-- ---- looks under way

looks_step : (m : Machine) (t : ℕ) (a : Actor) (d : Duty) (rest : List Duty) (x : ℕ) → slice_get m.actors t ≡ Some a
    → a.agenda ≡ d ∷ rest
    → weight (looks x) (machine_by_duty m t a d rest).actors + looks x d ≡ weight (looks x) m.actors
    + sum_by (looks x) (next_of m t a d)
looks_step m t a d rest x found is =
    weight-stepped (looks x) (record { settle = refl; scan = λ w k. refl; take = λ w k. refl }) m.actors t a
    (actor_by m.layout t a d rest (found_by m t a d)) d (next_of m t a d) rest (new_head a.head d (found_by m t a d))
    found is refl refl

module _ {p : Accounts} {n : ℕ} {m : Machine} {t : ℕ} {a : Actor} {d : Duty} {rest : List Duty} where
  -- If the duty isn't a look at the row, a look that some thread has under way stays under way.
  look_kept : (x : ℕ) → AtDuty p n m t a d rest → looks x d ≡ 0 → 0 < weight (looks x) m.actors
      → IsWatched (machine_by_duty m t a d rest) x
  look_kept x here none some = ByLook (omega (arith, looks_step m t a d rest x here.found here.agenda, none, some))

module _ {p : Accounts} {n : ℕ} {m : Machine} {t : ℕ} {a : Actor} {rest : List Duty} where
  look_after : (d : Duty) (x : ℕ) → AtDuty p n m t a d rest → Spares m.layout t d x → 0 < weight (looks x) m.actors
      → IsWatched (machine_by_duty m t a d rest) x
  look_after (Look y) x here spares some =
      let word = m.memory (ThreadWord (block_of m.layout y)) in
      elim (eqb_tells y x) [
        | inl same ↦ elim (word == 1) as (λ b. (word == 1) ≡ b → IsWatched (machine_by_duty m t a (Look y) rest) x) [
          | true ↦ λ e.
              ByRunning (written_load m.memory (ThreadWord (block_of m.layout y)) (ThreadWord (block_of m.layout x))
              ∙ ap (λ (z : ℕ). m.memory (ThreadWord (block_of m.layout z))) (sym same.1) ∙ eqb-true word 1 e)
          | false ↦ λ e.
              let next : sum_by (looks x) (next_of m t a (Look y)) ≡ one_if (y == x) + 0 =
              ap (λ (b : Bool). sum_by (looks x) (cond b [] (TakeMark y ∷ []))) e
              ∙ sum_by-cons (looks x) (TakeMark y) [] in
              ByLook (omega (arith, looks_step m t a (Look y) rest x here.found here.agenda, next, some))
        ] refl
        | inr other ↦ look_kept x here (ap one_if other.0) some
      ]
  look_after (TakeMark y) x here spares some = look_kept x here (ap one_if (ne_eqb y x spares)) some
  look_after _ x here spares some = look_kept x here refl some

-- ---- the thread of the row's block

module _ {p : Accounts} {n : ℕ} {m : Machine} where
  -- A marked row is among the rows that the thread of its block has used.
  pub marked_within : (t : ℕ) (a : Actor) (x : ℕ) → CoreInvariant p n m → slice_get m.actors t ≡ Some a
      → mark_of m.layout m.memory x ≡ SET → block_of m.layout x ≡ t → index_of m.layout t x < a.used
  marked_within t a x core found marked block =
      let used = born_used x core (marked_born x core marked) in
      let it : used.by ≡ a = some_is used.by a (sym used.found ∙ ap (slice_get m.actors) block ∙ found) in
      let low : index_of m.layout t x < used.by.used =
      subst (λ (u : ℕ). index_of m.layout u x < used.by.used) block used.low in
      omega (arith, low, ap (λ (b : Actor). b.used) it)

mine_after : (m : Machine) (t : ℕ) (a : Actor) (d : Duty) (rest : List Duty) (x : ℕ) → slice_get m.actors t ≡ Some a
    → block_of m.layout x ≡ t
    → scans (index_of m.layout t x) (actor_by m.layout t a d rest (found_by m t a d)).agenda ≡ true
    → IsWatched (machine_by_duty m t a d rest) x
mine_after m t a d rest x found block e =
    let after = actor_by m.layout t a d rest (found_by m t a d) in
    ByExit after (ap (slice_get (set m.actors t after)) block ∙ set_found m.actors t a after found)
    (ap (λ (u : ℕ). scans (index_of m.layout u x) after.agenda) block ∙ e)

running_after : (p : Accounts) (n : ℕ) (m : Machine) (t : ℕ) (a : Actor) (d : Duty) (rest : List Duty) (x : ℕ)
    → AtDuty p n m t a d rest → (a.status ≡ Gone → ⊥) → mark_of m.layout m.memory x ≡ SET
    → m.memory (ThreadWord (block_of m.layout x)) ≡ RUNNING → IsWatched (machine_by_duty m t a d rest) x
running_after p n m t a (Leave y k) [] x here alive marked runs =
    elim (eqb_tells (block_of m.layout x) t) [
      | inl same ↦
          let fits = agenda_here here alive in
          let within = marked_within t a x here.core here.found marked same.1 in
          mine_after m t a (Leave y k) [] x here.found same.1
          (ready_scans (index_of m.layout t x) a.head (Scan y k ∷ Finish ∷ [])
          (omega (arith, fits.1), omega (arith, within, fits.1, fits.2)))
      | inr other ↦ ByRunning (words_left m t a (Leave y k) (block_of m.layout x) other.1 ∙ runs)
    ]
running_after p n m t a (Leave y k) (e ∷ rest) x here alive marked runs = absurd (agenda_here here alive)
running_after p n m t a Finish [] x here alive marked runs =
    elim (eqb_tells (block_of m.layout x) t) [
      | inl same ↦
          let fits = agenda_here here alive in
          let word : m.memory (ThreadWord t) ≡ LEAVING = (here.core.each t a here.found).0.word ∙ ap status_word fits in
          let still : m.memory (ThreadWord t) ≡ RUNNING = ap (λ (z : ℕ). m.memory (ThreadWord z)) (sym same.1) ∙ runs in
          absurd (omega (arith, word, still))
      | inr other ↦ ByRunning (words_left m t a Finish (block_of m.layout x) other.1 ∙ runs)
    ]
running_after p n m t a Finish (e ∷ rest) x here alive marked runs = absurd (agenda_here here alive)
running_after p n m t a (Look y) rest x here alive marked runs =
    ByRunning (written_load m.memory (ThreadWord (block_of m.layout y)) (ThreadWord (block_of m.layout x)) ∙ runs)
running_after p n m t a _ rest x here alive marked runs = ByRunning runs

module _ {p : Accounts} {n : ℕ} {m : Machine} {t : ℕ} {a : Actor} {d : Duty} {rest : List Duty} where
  exit_after : (x : ℕ) (b : Actor) → AtDuty p n m t a d rest → NotGone a → mark_of m.layout m.memory x ≡ SET
      → Spares m.layout t d x → slice_get m.actors (block_of m.layout x) ≡ Some b
      → scans (index_of m.layout (block_of m.layout x) x) b.agenda ≡ true → IsWatched (machine_by_duty m t a d rest) x
  exit_after x b here alive marked spares found e =
      elim (eqb_tells (block_of m.layout x) t) [
        | inl same ↦
            let it : b ≡ a = some_is b a (sym found ∙ ap (slice_get m.actors) same.1 ∙ here.found) in
            let i = index_of m.layout t x in
            let mine : scans i b.agenda ≡ true =
            ap (λ (u : ℕ). scans (index_of m.layout u x) b.agenda) (sym same.1) ∙ e in
            let still : scans i (d ∷ rest) ≡ true =
            ap (scans i) (sym here.agenda) ∙ ap (λ (c : Actor). scans i c.agenda) (sym it) ∙ mine in
            mine_after m t a d rest x here.found same.1
            (agenda_scans i here alive (marked_within t a x here.core here.found marked same.1)
            (spares_index m t a d x same.1 marked spares) still)
        | inr other ↦
            ByExit b (slice_get-set_other m.actors t (block_of m.layout x)
            (actor_by m.layout t a d rest (found_by m t a d)) other.1 ∙ found) e
      ]

  watched_after : (x : ℕ) → AtDuty p n m t a d rest → NotGone a → mark_of m.layout m.memory x ≡ SET
      → Spares m.layout t d x
      → IsWatched m x → IsWatched (machine_by_duty m t a d rest) x
  watched_after x here alive marked spares (ByRunning runs) = running_after p n m t a d rest x here alive marked runs
  watched_after x here alive marked spares (ByExit b found e) = exit_after x b here alive marked spares found e
  watched_after x here alive marked spares (ByLook some) = look_after d x here spares some

-- ---- all marks

-- the memory once the row's mark is taken
abbrev taking : Machine → ℕ → Address → ℕ
taking m y = written m.memory (mark_place m.layout y)
    (unmarked_word (m.memory (mark_place m.layout y)) (mark_bit m.layout y))

-- the memory once the row's mark is set
abbrev setting : Machine → ℕ → Address → ℕ
setting m y = written m.memory (mark_place m.layout y)
    (marked_word (m.memory (mark_place m.layout y)) (mark_bit m.layout y))

abbrev pub MarkFits : Machine → ℕ → Type 0
MarkFits m x = (mark_of m.layout m.memory x ≡ UNSET) ⊎ ((mark_of m.layout m.memory x ≡ SET)
    × (IsCounted m.layout x) × IsWatched m x)

module _ {p : Accounts} {n : ℕ} {m : Machine} {t : ℕ} {a : Actor} {d : Duty} {rest : List Duty} where
  mark_kept : (x : ℕ) → AtDuty p n m t a d rest → NotGone a → Spares m.layout t d x
      → mark_of m.layout (memory_by m t a d) x ≡ mark_of m.layout m.memory x → MarkFits (machine_by_duty m t a d rest) x
  mark_kept x here alive spares same =
      elim (here.core.marks x) [
        | inl none ↦ inl (same ∙ none)
        | inr some ↦ inr (same ∙ some.0, some.1, watched_after x here alive some.0 spares some.2)
      ]

  -- A duty that clears the mark of row `y` keeps every mark either clear or watched.
  mark_taken : (y x : ℕ) → AtDuty p n m t a d rest → NotGone a → (y ≢ x → Spares m.layout t d x)
      → memory_by m t a d ≡ taking m y
      → MarkFits (machine_by_duty m t a d rest) x
  mark_taken y x here alive spares now =
      elim (eqb_tells y x) [
        | inl same ↦
            inl (ap (λ (memory : Address → ℕ). mark_of m.layout memory x) now
            ∙ ap (λ (z : ℕ). mark_of m.layout (taking m z) x) same.1 ∙ taken_mark m.layout m.memory x)
        | inr other ↦
            mark_kept x here alive (spares other.1)
            (ap (λ (memory : Address → ℕ). mark_of m.layout memory x) now
            ∙ taken_elsewhere m.layout m.memory y x other.1)
      ]

module _ {p : Accounts} {n : ℕ} {m : Machine} {t : ℕ} {a : Actor} {rest : List Duty} where
  -- After a thread's step each mark is clear, or set and watched.
  pub marks_after : (d : Duty) → AtDuty p n m t a d rest → NotGone a → (x : ℕ)
      → MarkFits (machine_by_duty m t a d rest) x
  marks_after (SetMark y) here alive x =
      elim (eqb_tells y x) [
        | inl same ↦
            let counted : IsCounted m.layout y = head_of here in
            let one : one_if (y == x) ≡ 1 = ap one_if same.0 in
            let next : sum_by (looks x) (Look y ∷ []) ≡ one_if (y == x) + 0 = sum_by-cons (looks x) (Look y) [] in
            inr (
              ap (λ (z : ℕ). mark_of m.layout (setting m z) x) same.1 ∙ set_mark m.layout m.memory x,
              subst (IsCounted m.layout) same.1 counted,
              ByLook (omega (arith, looks_step m t a (SetMark y) rest x here.found here.agenda, one, next)),
            )
        | inr other ↦ mark_kept x here alive tt (set_elsewhere m.layout m.memory y x other.1)
      ]
  marks_after (TakeMark y) here alive x = mark_taken y x here alive (λ ne. ne) refl
  marks_after (TakeFound w marks) here alive x =
      mark_taken (found_row m.layout t w marks) x here alive (λ ne. ne) refl
  marks_after (Scan w k) here alive x = mark_kept x here alive tt (loaded_marks m.layout m.memory t w x)
  marks_after (MarksLoad w) here alive x = mark_kept x here alive tt (loaded_marks m.layout m.memory t w x)
  marks_after (ClaimMark y) here alive x = mark_taken y x here alive (λ ne. tt) refl
  marks_after d here alive x = mark_kept x here alive tt refl
