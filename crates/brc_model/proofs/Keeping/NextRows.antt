-- No duty that a thread has put aside is about a row that isn't born: each such duty knows, makes or weighs something
-- that only a born row has.
use Rattle.std.proofs.Common.{◌≡◌, ◌≢◌, ℕ, ◌+◌, ◌<◌, ◌≤◌, Bool, true, false, cond, List, [], ◌∷◌, refl, ap, ◌∙◌, subst, arith}
use Rattle.std.specs.Prelude.{◌==◌, ◌&&◌, count_by, sum_by}
use Rattle.std.proofs.lemmas.Bool.{eqb-true}
use Rattle.std.proofs.lemmas.List.Sums.{sum_by-cons}
use Rattle.brc_word.specs.declared.values.TheConstants.{NOBODY}
use Rattle.brc_model.specs.declared.duty.Holding.{Holding}
use Rattle.brc_model.specs.declared.duty.Holding.TheVariants.{InFlight}
use Rattle.brc_model.specs.declared.duty.Reason.TheVariants.{Own, Handed}
use Rattle.brc_model.specs.declared.duty.Duty.{Duty}
use Rattle.brc_model.specs.declared.duty.Duty.TheVariants.{RetainLoad, RetainStore, RetainAdd, ReleaseLoad, ReleaseStore, DecideAtZero, SharedLoad, SharedExchange, SetMark, Look, TakeMark, MergeSwap, MergeLoad, MergeExchange}
use Rattle.brc_model.specs.declared.address.Address.TheVariants.{Local, Cell}
use Rattle.brc_model.specs.AbstractState.{same_holding, references_to}
use Rattle.brc_model.specs.Layout.{block_of, IsCounted}
use Rattle.brc_model.specs.declared.actor.Actor.{Actor}
use Rattle.brc_model.specs.Machine.{Life, Unborn, Machine}
use Rattle.brc_model.specs.References.{held, one_if, reference_of, cell_reference}
use Rattle.brc_model.specs.RowInvariant.{waits, merges, RowInvariant, IsUnborn}
use Rattle.brc_model.specs.Accounts.{Accounts, extra, lacks, extra_aside, lacks_aside}
use Rattle.brc_model.specs.Knowledge.{IsBacked, ByReference, ByItem, OwnsLocally, HeadFits}
use Rattle.brc_model.specs.OpenWork.{is_about, about_of, may_wait, AllWait}
use Rattle.brc_model.specs.Invariant.{CoreInvariant, numbers_of}
use Rattle.brc_model.specs.Counting.{IsReady, HasNoneAbout}
use Rattle.brc_model.proofs.Basics.Bag.{same_holding-refl, held-le-references_to}
use Rattle.brc_model.proofs.Frame.CellsHeld.{cell_held}
use Rattle.brc_model.proofs.Frame.Aside.{lacks_about, extra_about, lacks_counted, waiting_piece}
use Rattle.brc_model.proofs.Objects.Weights.{agenda_weight-le}
use Rattle.brc_model.proofs.Keeping.WorkBegins.{ready_holds}

-- What a duty would have to find at a row that isn't born.
record IsBlank (m : Machine) (x : ℕ) : Type 0 where
  life : m.life x ≡ Unborn
  local : m.memory (Local x) ≡ NOBODY
  references : references_to x m.abstract.references ≡ 0
  cells : (list i : ℕ) → m.memory (Cell list i) ≢ x + 1

-- Neither the thread nor a cell holds a reference to it.
backs_none : (m : Machine) (t : ℕ) (a : Actor) (x y : ℕ) → IsBlank m x → y ≡ x → IsBacked m t a y → ⊥
backs_none m t a x y blank is (ByReference by some) =
    let here : 0 < held (reference_of t by x) m.abstract.references =
    subst (λ (z : ℕ). 0 < held (reference_of t by z) m.abstract.references) is some in
    absurd (omega (
      arith,
      here,
      held-le-references_to (reference_of t by x) m.abstract.references,
      blank.references,
    ))
backs_none m t a x y blank is (ByItem list i locked word) = blank.cells list i (word ∙ ap (λ (z : ℕ). z + 1) is)

-- No thread owns it.
owns_none : (m : Machine) (t : ℕ) (a : Actor) (x y : ℕ) → IsBlank m x → y ≡ x → OwnsLocally m t a y → ⊥
owns_none m t a x y blank is owns =
    let here : m.memory (Local y) ≡ NOBODY = ap (λ (z : ℕ). m.memory (Local z)) is ∙ blank.local in
    absurd (omega (arith, owns.owner, here))

born_none : (m : Machine) (x y : ℕ) → IsBlank m x → y ≡ x → (m.life y ≡ Unborn → ⊥) → ⊥
born_none m x y blank is born = born (ap m.life is ∙ blank.life)

weighs_none : (b : Bool) → b ≡ true → one_if b ≡ 0 → ⊥
weighs_none true is none = absurd (omega (arith, none))
weighs_none false is none = absurd cc

-- ---- one duty

-- The duties give up no more references to the row's object than they make, and weigh nothing at the row.
record AddsNone (x : ℕ) (ds : List Duty) : Type 0 where
  gives : (k : Holding) → extra_aside ds k x ≤ lacks_aside ds k x
  waits : sum_by (waits x) ds ≡ 0
  merges : sum_by (merges x) ds ≡ 0

-- the same of one duty
record AddsNothing (x : ℕ) (d : Duty) : Type 0 where
  gives : (k : Holding) → one_if (extra d k x) ≤ one_if (lacks d k x)
  waits : waits x d ≡ 0
  merges : merges x d ≡ 0

-- A duty that may wait isn't about a row that isn't born.
waits_elsewhere : (m : Machine) (t : ℕ) (a : Actor) (x : ℕ) (d : Duty) → IsBlank m x → AddsNothing x d
    → may_wait d ≡ true → HeadFits m t a d [] → is_about x d ≡ true → ⊥
waits_elsewhere m t a x (RetainLoad y h) blank adds may fits e = backs_none m t a x y blank (eqb-true y x e) fits
waits_elsewhere m t a x (RetainStore y h w) blank adds may fits e =
    backs_none m t a x y blank (eqb-true y x e) fits.1
waits_elsewhere m t a x (RetainAdd y h) blank adds may fits e = backs_none m t a x y blank (eqb-true y x e) fits.1
waits_elsewhere m t a x (ReleaseLoad y h) blank adds may fits e =
    let more : one_if (same_holding h h && (y == x)) ≡ 1 =
    ap (λ (b : Bool). one_if (b && (y == x))) (same_holding-refl h) ∙ ap one_if e in
    absurd (omega (arith, adds.gives h, more))
waits_elsewhere m t a x (ReleaseStore y w) blank adds may fits e =
    weighs_none (y == x) e (omega (arith, adds.gives InFlight))
waits_elsewhere m t a x (DecideAtZero y) blank adds may fits e = owns_none m t a x y blank (eqb-true y x e) fits.1
waits_elsewhere m t a x (SharedLoad y Own) blank adds may fits e =
    weighs_none (y == x) e (omega (arith, adds.gives InFlight))
waits_elsewhere m t a x (SharedLoad y Handed) blank adds may fits e = weighs_none (y == x) e adds.waits
waits_elsewhere m t a x (SharedExchange y Own w) blank adds may fits e =
    weighs_none (y == x) e (omega (arith, adds.gives InFlight))
waits_elsewhere m t a x (SharedExchange y Handed w) blank adds may fits e = weighs_none (y == x) e adds.waits
waits_elsewhere m t a x (SetMark y) blank adds may fits e = weighs_none (y == x) e adds.waits
waits_elsewhere m t a x (Look y) blank adds may fits e = born_none m x y blank (eqb-true y x e) fits.1
waits_elsewhere m t a x (TakeMark y) blank adds may fits e = born_none m x y blank (eqb-true y x e) fits.2
waits_elsewhere m t a x (MergeSwap y Own) blank adds may fits e =
    owns_none m t a x y blank (eqb-true y x e) fits.1
waits_elsewhere m t a x (MergeSwap y Handed) blank adds may fits e = weighs_none (y == x) e adds.waits
waits_elsewhere m t a x (MergeLoad y c r) blank adds may fits e = weighs_none (y == x) e adds.merges
waits_elsewhere m t a x (MergeExchange y c w r) blank adds may fits e = weighs_none (y == x) e adds.merges
waits_elsewhere m t a x _ blank adds may fits e = absurd cc

-- ---- all duties put aside

-- If at most one of the duties is about the row, and together they add nothing, the first adds nothing.
first_adds : (x : ℕ) (d : Duty) (ds : List Duty) → AddsNone x (d ∷ ds) → count_by (is_about x) (d ∷ ds) ≤ 1
    → is_about x d ≡ true → AddsNothing x d
first_adds x d ds adds few about =
    let one : one_if (is_about x d) ≡ 1 = ap one_if about in
    let all = sum_by-cons (λ (e : Duty). cond (is_about x e) 1 0) d ds in
    record {
      gives = λ k. omega (
        arith,
        adds.gives k,
        sum_by-cons (λ (e : Duty). cond (extra e k x) 1 0) d ds,
        sum_by-cons (λ (e : Duty). cond (lacks e k x) 1 0) d ds,
        lacks_counted ds k x,
        all,
        one,
        few,
      );
      waits = omega (arith, adds.waits, sum_by-cons (waits x) d ds);
      merges = omega (arith, adds.merges, sum_by-cons (merges x) d ds);
    }

-- If the first duty isn't about the row, the others add as much as all.
others_add : (x : ℕ) (d : Duty) (ds : List Duty) → AddsNone x (d ∷ ds) → may_wait d ≡ true → is_about x d ≡ false
    → AddsNone x ds
others_add x d ds adds may apart =
    let none : one_if (is_about x d) ≡ 0 = ap one_if apart in
    record {
      gives = λ k. omega (
        arith,
        adds.gives k,
        sum_by-cons (λ (e : Duty). cond (extra e k x) 1 0) d ds,
        sum_by-cons (λ (e : Duty). cond (lacks e k x) 1 0) d ds,
        lacks_about d k x,
        extra_about d k x (waiting_piece d may),
        none,
      );
      waits = omega (arith, adds.waits, sum_by-cons (waits x) d ds);
      merges = omega (arith, adds.merges, sum_by-cons (merges x) d ds);
    }

-- None of the duties is about the row.
none_waits_about : (m : Machine) (t : ℕ) (a : Actor) (x : ℕ) (ds : List Duty) → IsBlank m x → AddsNone x ds
    → count_by (is_about x) ds ≤ 1 → AllWait m t a ds → count_by (is_about x) ds ≡ 0
none_waits_about m t a x [] blank adds few waits = refl
none_waits_about m t a x (d ∷ ds) blank adds few waits =
    let all = sum_by-cons (λ (e : Duty). cond (is_about x e) 1 0) d ds in
    elim (is_about x d) as (λ b. is_about x d ≡ b → count_by (is_about x) (d ∷ ds) ≡ 0) [
      | true ↦ λ e.
          absurd (waits_elsewhere m t a x d blank (first_adds x d ds adds few e) waits.0 waits.1 e)
      | false ↦ λ e.
          let none : one_if (is_about x d) ≡ 0 = ap one_if e in
          let rest : count_by (is_about x) ds ≡ 0 =
          none_waits_about m t a x ds blank (others_add x d ds adds waits.0 e) (omega (arith, all, few)) waits.2 in
          omega (arith, all, none, rest)
    ] refl

module _ {p : Accounts} {n : ℕ} {m : Machine} {t : ℕ} {a : Actor} where
  -- None of a ready thread's open work is about a counted row that isn't born.
  pub unborn_alone : (x : ℕ) → CoreInvariant p n m → IsReady m t a → IsCounted m.layout x → m.life x ≡ Unborn
      → HasNoneAbout a x
  unborn_alone x core ready counted unborn =
      let fits = (core.each t a ready.found).2 in
      let holds = ready_holds core ready in
      let row : IsUnborn (numbers_of m x) =
      subst (λ (l : Life). RowInvariant (block_of m.layout x) l (numbers_of m x)) unborn (core.rows x counted) in
      let blank : IsBlank m x = record {
        life = unborn;
        local = row.local;
        references = row.references;
        cells = λ list i word.
            absurd (omega (
              arith,
              cell_held list i x core (omega (arith, word)),
              held-le-references_to (cell_reference list i x) m.abstract.references,
              row.references,
            ));
      } in
      let adds : AddsNone x a.aside = record {
        gives = λ k. omega (
          arith,
          holds.each k x,
          held-le-references_to (reference_of t k x) m.abstract.references,
          row.references,
        );
        waits = omega (arith, agenda_weight-le (waits x) m.actors t a ready.found, row.waiting);
        merges = omega (arith, agenda_weight-le (merges x) m.actors t a ready.found, row.merging);
      } in
      let first : one_if (about_of x a.agenda) ≡ 0 = ap (λ (l : List Duty). one_if (about_of x l)) ready.agenda in
      omega (
        arith,
        first,
        none_waits_about m t a x a.aside blank adds (omega (arith, fits.apart x)) fits.waits,
      )
