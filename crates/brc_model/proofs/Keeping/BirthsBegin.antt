-- A ready worker with a row left begins a birth, while other duties are put aside. None of them is about the new row,
-- since the row isn't born.
use Rattle.std.proofs.Common.{◌≡◌, ℕ, ◌<◌, refl, subst, arith, [], ◌∷◌}
use Rattle.std.proofs.lemmas.Bool.{ltb-true}
use Rattle.brc_model.specs.declared.duty.Holding.TheVariants.{AsCaller}
use Rattle.brc_model.specs.declared.duty.Duty.TheVariants.{BirthKind}
use Rattle.brc_model.specs.Layout.{block_of, block_size, row_at}
use Rattle.brc_model.specs.declared.actor.Actor.{Actor}
use Rattle.brc_model.specs.Machine.{Life, Machine}
use Rattle.brc_model.specs.References.{reference_of}
use Rattle.brc_model.specs.RowInvariant.{RowInvariant, IsUnborn}
use Rattle.brc_model.specs.Accounts.{Accounts}
use Rattle.brc_model.specs.Knowledge.{IsNext}
use Rattle.brc_model.specs.Invariant.{CoreInvariant, numbers_of}
use Rattle.brc_model.specs.Counting.{with_one_more, IsReady, HasNoneAbout, working}
use Rattle.brc_model.proofs.Keeping.Locks.{more_locks}
use Rattle.brc_model.specs.CountingLaws.{BirthsBegin}
use Rattle.brc_model.proofs.Basics.Bag.{held-le-references_to}
use Rattle.brc_model.proofs.Basics.Blocks.{thread_there, next_counted, next_unborn, next_within}
use Rattle.brc_model.proofs.Limits.Ranges.{row_small}
use Rattle.brc_model.proofs.Keeping.WorkBegins.{ready_holds, none_about_held, work_begins, one_makes}
use Rattle.brc_model.proofs.Keeping.NextRows.{unborn_alone}
use Rattle.brc_model.proofs.Keeping.OneReference.{bounded_more}

module _ {p : Accounts} {n : ℕ} {m : Machine} {t : ℕ} {a : Actor} where
  -- A ready thread holds no reference to an object that isn't born.
  unborn_held : (x : ℕ) → CoreInvariant p n m → IsReady m t a → IsUnborn (numbers_of m x) → HasNoneAbout a x
      → p t AsCaller x ≡ 0
  unborn_held x core ready row alone =
      omega (
        arith,
        none_about_held x AsCaller core ready alone,
        held-le-references_to (reference_of t AsCaller x) m.abstract.references,
        row.references,
      )

-- The invariant and the ranges hold after a ready worker begins a birth.
pub births_begin : BirthsBegin
births_begin p n m t a word counts ready worker has_room counted_kind few =
    let core = counts.kept.core in
    let x = row_at m.layout t a.used in
    let room : a.used < block_size m.layout t = ltb-true a.used (block_size m.layout t) has_room in
    let next : IsNext m t a x =
    record {
      running = ready.running;
      worker = worker;
      there = thread_there t a core ready.found;
      row = refl;
      room = room;
    } in
    let counted = next_counted m t a x next in
    let unborn = next_unborn p n m t a x core ready.found next in
    let row : IsUnborn (numbers_of m x) =
    subst (λ (l : Life). RowInvariant (block_of m.layout x) l (numbers_of m x)) unborn (core.rows x counted) in
    let alone = unborn_alone x core ready counted unborn in
    let none = unborn_held x core ready row alone in
    let holds = ready_holds core ready in
    let bounded = (core.each t a ready.found).0.bounded in
    work_begins x (BirthKind x AsCaller word) (with_one_more (p t) AsCaller x) counts ready alone (record {
      begins = record { about = λ y. refl; piece = refl; light = refl };
      no_flight = λ object. omega (arith, counts.no_flight t object);
      holds = λ k object. omega (arith, holds.each k object);
      bounded = bounded_more m.layout (p t) x bounded (λ c. omega (arith, none));
      locks =
          more_locks (p t) m t a (working a (BirthKind x AsCaller word ∷ []) a.aside) x
          (core.each t a ready.found).0.locks refl (λ k y. omega (arith, one_makes k y (BirthKind x AsCaller word)));
      knows = (
        record {
          running = next.running;
          worker = next.worker;
          there = next.there;
          row = refl;
          room = room;
        },
        refl,
        counted_kind,
      );
      small =
          row_small m.layout x (BirthKind x AsCaller word) (next_within t a core ready.found room)
          (λ y. refl) few;
    })
