-- A thread changes the word of a cell that it guards, and references of its own or of the cell alone go elsewhere. If
-- bag, account and the new word fit together, the invariant holds again.
use Rattle.std.proofs.Common.{◌≡◌, ◌≢◌, ℕ, ◌+◌, ◌<◌, ◌≤◌, Bool, true, false, cond, List, [], ◌∷◌, inl, inr, Some, refl, sym, ap, ◌∙◌, subst, arith}
use Rattle.std.specs.Prelude.{◌==◌, ◌&&◌, slice_get, count_by}
use Rattle.std.proofs.lemmas.Bool.{cases_Bool, eqb-true, ne_eqb, false≢true}
use Rattle.std.proofs.lemmas.List.Sums.{sum_by-cons}
use Rattle.std.proofs.lemmas.Option.{slice_get_within}
use Rattle.brc_model.specs.declared.duty.Holding.{Holding}
use Rattle.brc_model.specs.declared.duty.Holding.TheVariants.{InFlight}
use Rattle.brc_model.specs.declared.duty.Duty.{Duty}
use Rattle.brc_model.specs.declared.actor.Status.{Status}
use Rattle.brc_model.specs.declared.actor.Status.TheVariants.{Running}
use Rattle.brc_model.specs.declared.address.Address.TheVariants.{KindOf, Cell}
use Rattle.brc_model.specs.AbstractState.{Reference, references_to}
use Rattle.brc_model.specs.References.{held, one_if, reference_of, cell_reference, word_holds}
use Rattle.brc_model.specs.Layout.{block_of}
use Rattle.brc_model.specs.Duties.{cells_of}
use Rattle.brc_model.specs.declared.actor.Actor.{Actor}
use Rattle.brc_model.specs.Machine.{Machine, Life, Live, Dying, written, same_address}
use Rattle.brc_model.specs.RowInvariant.{Numbers, RowInvariant}
use Rattle.brc_model.specs.Accounts.{Account, Accounts, HoldsAt, IsBounded}
use Rattle.brc_model.specs.Knowledge.{GuardsCells, HasNoRetainAside, is_retain, HeadOf, BehindOf}
use Rattle.brc_model.specs.OpenWork.{is_about, exits, AllWait, Linked, dies_by}
use Rattle.brc_model.specs.Gates.{LocksFit}
use Rattle.brc_model.specs.Invariant.{numbers_of, Fits, CellFits, IsWatched, ByRunning, ByExit, ByLook, CoreInvariant}
use Rattle.brc_model.specs.Counting.{Counts, with_account, IsReady}
use Rattle.brc_model.proofs.Basics.Lists.{and_first, and_second, set_found}
use Rattle.brc_model.proofs.Basics.Written.{written_apart}
use Rattle.brc_model.proofs.Frame.Known.{LeavesRow, known_kept}
use Rattle.brc_model.proofs.Frame.Leaves.{locked_lives, living_clash}
use Rattle.brc_model.proofs.Frame.Others.{LeavesOthers, is_dying, each_fits}
use Rattle.brc_model.proofs.Frame.Items.{one_locker}
use Rattle.brc_model.proofs.Keeping.Replaced.{flight_with, with_account_same, with_account_other}

-- the machine with another word in the cell and another bag
abbrev pub changed : Machine → ℕ → ℕ → ℕ → List Reference → Machine
changed m x i word bag = record m {
  memory = written m.memory (Cell x i) word;
  abstract = record (m.abstract) { references = bag };
}

-- What the change of a cell has to show.
pub record ChangesCell (m : Machine) (t : ℕ) (a : Actor) (x i word : ℕ) (bag : List Reference) (account : Account)
    : Type 0 where
  pub guards : GuardsCells m t a x
  pub retains : HasNoRetainAside a
  pub within : cells_of (m.memory (KindOf x)) ≤ i → word ≡ 0
  -- the references of other threads and of other cells stay, and no object has more or fewer
  pub others : (u : ℕ) (k : Holding) (object : ℕ) → u ≢ t
      → held (reference_of u k object) bag ≡ held (reference_of u k object) m.abstract.references
  pub other_cells : (y j object : ℕ) → same_address (Cell x i) (Cell y j) ≡ false
      → held (cell_reference y j object) bag ≡ held (cell_reference y j object) m.abstract.references
  pub as_many : (y : ℕ) → references_to y bag ≡ references_to y m.abstract.references
  -- the cell holds what its word says
  pub cell_holds : (object : ℕ) → held (cell_reference x i object) bag ≡ word_holds word object
  -- the thread fits with its new account, and keeps its references to the objects that its work is about
  pub holds : HoldsAt bag t account a.agenda a.aside
  pub bounded : IsBounded m.layout account
  pub locks : LocksFit account m t a
  pub keeps : (y : ℕ) (k : Holding) → 0 < count_by (is_about y) a.aside
      → held (reference_of t k y) m.abstract.references ≤ held (reference_of t k y) bag

module _ (p : Accounts) (n : ℕ) (m : Machine) (t : ℕ) (a : Actor) (x i word : ℕ) (bag : List Reference)
    (account : Account) (core : CoreInvariant p n m) (ready : IsReady m t a)
    (change : ChangesCell m t a x i word bag account) where
  abbrev new : Machine
  new = changed m x i word bag

  -- ---- cells

  other_list : (y j : ℕ) → (x ≡ y → ⊥) → same_address (Cell x i) (Cell y j) ≡ false
  other_list y j ne = ap (λ (b : Bool). b && (i == j)) (ne_eqb x y ne)

  -- The cells of another list stay.
  list_stays : (y j : ℕ) → (x ≡ y → ⊥) → new.memory (Cell y j) ≡ m.memory (Cell y j)
  list_stays y j ne = written_apart m.memory (Cell x i) (Cell y j) word (other_list y j ne)

  -- A cell that isn't this one says what it said.
  by_cell : (f : ℕ → ℕ → ℕ → Type 0) → f x i word
      → ((y j : ℕ) → same_address (Cell x i) (Cell y j) ≡ false → f y j (m.memory (Cell y j)))
      → (y j : ℕ) → f y j (new.memory (Cell y j))
  by_cell f this others y j = elim (cases_Bool (same_address (Cell x i) (Cell y j))) [
    | inl same ↦
        let lists : x ≡ y =
        eqb-true x y (and_first (x == y) (i == j) same) in
        let cells : i ≡ j =
        eqb-true i j (and_second (x == y) (i == j) same) in
        subst (f y j) (sym (ap (λ (b : Bool). cond b word (m.memory (Cell y j))) same))
        (subst (λ (z : ℕ). f z j word) lists (subst (λ (k : ℕ). f x k word) cells this))
    | inr apart ↦
        subst (f y j) (sym (written_apart m.memory (Cell x i) (Cell y j) word apart)) (others y j apart)
  ]

  -- ---- other threads

  -- No other thread has locked the list, or has chained it.
  no_other_lock : (u y : ℕ) (b : Actor) → u ≢ t → slice_get m.actors u ≡ Some b → b.locked ≡ Some y
      → GuardsCells m t a x → x ≡ y → ⊥
  no_other_lock u y b ne found e (inl locked) same =
      ne (one_locker p n m t a u y b core ready.found found e (subst (λ (z : ℕ). a.locked ≡ Some z) same locked))
  no_other_lock u y b ne found e (inr chained) same =
      let lives = locked_lives u b y core found e in
      let wrong : Live ≡ Dying t = sym lives ∙ (ap m.life (sym same) ∙ chained.0) in
      absurd cc

  no_other_chain : (u y : ℕ) → u ≢ t → dies_by (m.life y) u ≡ true → GuardsCells m t a x → x ≡ y → ⊥
  no_other_chain u y ne dies (inl locked) same =
      living_clash m u y x (locked_lives t a x core ready.found locked) dies same
  no_other_chain u y ne dies (inr chained) same =
      let wrong : Dying u ≡ Dying t = sym (is_dying (m.life y) u dies) ∙ (ap m.life (sym same) ∙ chained.0) in
      let threads : u ≡ t = cc in
      ne threads

  -- The cell of a list that lives, or that the thread has chained, may have any word.
  cell_fits : GuardsCells m t a x → CellFits (m.life x) word
  cell_fits (inl locked) =
      subst (λ (l : Life). CellFits l word) (sym (locked_lives t a x core ready.found locked)) tt
  cell_fits (inr chained) = subst (λ (l : Life). CellFits l word) (sym chained.0) tt

  leaves : LeavesOthers m new t
  leaves = record {
    memory = record {
      layout = refl;
      locals = λ u y b ne found owns. refl;
      merged = λ y was. was;
      stopped = λ u was. was;
      words = λ u ne. refl;
      gates = λ u y ne dies. refl;
      locks = λ u y b ne found e. refl;
      lists = λ u y b ne found e.
          record { kind = refl; cells = λ j. list_stays y j (no_other_lock u y b ne found e change.guards) };
      cells = λ u y j ne dies empty. list_stays y j (no_other_chain u y ne dies change.guards) ∙ empty;
      kinds = λ y was. was;
      lives = λ u y ne. refl;
      born = λ y was. was;
      stored = λ y some. refl;
      words_born = λ y born. refl;
      births = λ u y b ne found next. (refl, refl);
    };
    bag = change.others;
  }

  -- ---- the thread itself

  row_left : (y : ℕ) → 0 < count_by (is_about y) a.aside → LeavesRow m new t a a y
  row_left y some = record {
    layout = refl;
    status = refl;
    local = λ owns. refl;
    merged = λ was. was;
    references = λ k. change.keeps y k some;
    stopped = λ u was. was;
    born = λ was. was;
  }

  -- A duty that is put aside is counted, and no retain is.
  still_wait : (ds : List Duty) → ((y : ℕ) → count_by (is_about y) ds ≤ count_by (is_about y) a.aside)
      → count_by is_retain ds ≤ count_by is_retain a.aside → AllWait m t a ds → AllWait new t a ds
  still_wait [] abouts retains waits = tt
  still_wait (d ∷ ds) abouts retains waits =
      let about : (y : ℕ) → count_by (is_about y) (d ∷ ds) ≡ one_if (is_about y d) + count_by (is_about y) ds =
      λ y. sum_by-cons (λ (e : Duty). one_if (is_about y e)) d ds in
      let retain : count_by is_retain (d ∷ ds) ≡ one_if (is_retain d) + count_by is_retain ds =
      sum_by-cons (λ (e : Duty). one_if (is_retain e)) d ds in (
        waits.0,
        known_kept m new t a a d [] waits.0
            (λ y this.
            row_left y (let one : one_if (is_about y d) ≡ 1 = ap one_if this in
            omega (arith, abouts y, about y, one)))
            (λ this y e.
            let one : one_if (is_retain d) ≡ 1 = ap one_if this in
            absurd (omega (arith, change.retains, retains, retain, one))) waits.1,
        still_wait ds (λ y. omega (arith, abouts y, about y)) (omega (arith, retains, retain)) waits.2,
      )

  locks_still : LocksFit account new t a
  locks_still y e =
      let it = change.locks y e in
      record { by = it.by; held_so = it.held_so; gate = it.gate }

  linked_still : (head : ℕ) (rows : List ℕ) → Linked m.memory t head rows → Linked new.memory t head rows
  linked_still head [] linked = linked
  linked_still head (y ∷ rows) linked =
      (linked.0, (linked.1.0, linked.1.1, linked.1.2, linked_still linked.1.0 rows linked.1.3))

  own_fits : Fits account new t a
  own_fits =
      let fits = core.each t a ready.found in
      let old = fits.0 in
      let ends : exits a.status a.agenda ≡ false =
      ap (λ (s : Status). exits s a.agenda) ready.running ∙ ap (exits Running) ready.agenda in (
        record {
          word = old.word;
          holds = change.holds;
          bounded = change.bounded;
          exited = λ e. absurd (false≢true (sym ends ∙ e));
          head_fits = subst (HeadOf new t a) (sym ready.agenda) tt;
          behind = subst (BehindOf new t) (sym ready.agenda) tt;
          chain = record {
            chained = old.chain.chained;
            linked = linked_still a.head old.chain.chained old.chain.linked;
            once = old.chain.once;
          };
          locks = locks_still;
          lent = old.lent;
        },
        fits.1,
        record {
          waits = still_wait a.aside (λ y. omega arith) (omega arith) fits.2.waits;
          apart = fits.2.apart;
          pieces = fits.2.pieces;
        },
      )

  -- ---- the whole

  each_still : (u : ℕ) (b : Actor) → slice_get m.actors u ≡ Some b → Fits (with_account p t account u) new u b
  each_still =
      let accounts = with_account p t account in
      subst (λ (l : List Actor). (u : ℕ) (b : Actor) → slice_get l u ≡ Some b → Fits (accounts u) new u b)
      (set_found m.actors t a ready.found)
      (each_fits p accounts m new t a a ready.found leaves (with_account_other p t account)
      (subst (λ (c : Account). Fits c new t a) (with_account_same p t account) own_fits) core.each)

  same_numbers : (y : ℕ) → numbers_of m y ≡ numbers_of new y
  same_numbers y =
      let old = numbers_of m y in
      let r = sym (change.as_many y) in
      λ k. record old { references = r k }

  still_watched : (y : ℕ) → IsWatched m y → IsWatched new y
  still_watched y (ByRunning one) = ByRunning one
  still_watched y (ByExit b found scanned) = ByExit b found scanned
  still_watched y (ByLook some) = ByLook some

  pub changed_core : CoreInvariant (with_account p t account) n new
  changed_core = record {
    threads = core.threads;
    workers = core.workers;
    some_rows = core.some_rows;
    few_threads = core.few_threads;
    few_rows = core.few_rows;
    few_cells = core.few_cells;
    few_immortals = core.few_immortals;
    few_numbers = core.few_numbers;
    rows = λ y counted.
        subst (λ (k : Numbers). RowInvariant (block_of m.layout y) (m.life y) k) (same_numbers y)
        (core.rows y counted);
    marks = λ y. elim (core.marks y) [
      | inl none ↦ inl none
      | inr set ↦ inr (set.0, set.1, still_watched y set.2)
    ];
    each = each_still;
    beyond = λ u past k object.
        let within = slice_get_within m.actors t a ready.found in
        change.others u k object (λ e. absurd (omega (arith, within, core.threads, past, e)))
        ∙ core.beyond u past k object;
    gates = core.gates;
    dying = core.dying;
    cells_hold = λ y j object.
        by_cell (λ z k w. held (cell_reference z k object) bag ≡ word_holds w object) (change.cell_holds object)
        (λ z k apart. change.other_cells z k object apart ∙ core.cells_hold z k object) y j;
    cells =
        by_cell (λ z k w. CellFits (m.life z) w) (cell_fits change.guards)
        (λ z k apart. core.cells z k);
    cells_end =
        by_cell (λ z k w. cells_of (m.memory (KindOf z)) ≤ k → w ≡ 0) change.within
        (λ z k apart. core.cells_end z k);
    uses = core.uses;
    blanks = λ u b found.
        let old = core.blanks u b found in record { kinds = old.kinds; fields = old.fields };
    immortals_live = core.immortals_live;
    born_is = core.born_is;
    born_has = core.born_has;
    born_once = core.born_once;
    closed_is = core.closed_is;
    closed_has = core.closed_has;
    once = core.once;
    kinds = core.kinds;
    kind_words = core.kind_words;
    immortal_words = core.immortal_words;
    immortal_kinds = core.immortal_kinds;
    resources = core.resources;
  }

module _ {p : Accounts} {n : ℕ} {m : Machine} {t : ℕ} {a : Actor} where
  -- So the counting machine of running threads keeps what it has.
  pub counts_changed : (x i word : ℕ) (bag : List Reference) (account : Account) → Counts p n m → IsReady m t a
      → ChangesCell m t a x i word bag account → ((object : ℕ) → account InFlight object ≡ 0)
      → Counts (with_account p t account) n (changed m x i word bag)
  counts_changed x i word bag account counts ready change flight = record {
    kept = record {
      core = changed_core p n m t a x i word bag account counts.kept.core ready change;
      settled = counts.kept.settled;
    };
    ranges = record {
      kinds = counts.ranges.kinds;
      each = counts.ranges.each;
      aside = counts.ranges.aside;
    };
    no_flight = flight_with p t account counts.no_flight flight;
  }
