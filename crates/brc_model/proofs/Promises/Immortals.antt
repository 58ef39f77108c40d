-- The words of an immortal object never change, but those that its lock guards: every other duty about it is a load.
use Rattle.std.proofs.Common.{◌≡◌, ℕ, ◌+◌, ◌<◌, true, List, inl, inr, refl, sym, ap, ◌∙◌, subst, arith}
use Rattle.std.proofs.lemmas.Bool.{cases_Bool, eqb-true, ne_eqb}
use Rattle.brc_word.specs.declared.values.TheConstants.{ONE_REFERENCE, UNSET}
use Rattle.brc_lang.specs.declared.module.Module.{Module}
use Rattle.brc_word.specs.Words.{immortal_local, local_part, is_immortal_word}
use Rattle.brc_model.specs.declared.thread.Choice.{Choice}
use Rattle.brc_model.specs.declared.duty.Reason.TheVariants.{Own, Handed}
use Rattle.brc_model.specs.declared.duty.Duty.{Duty}
use Rattle.brc_model.specs.declared.duty.Duty.TheVariants.{RetainAdd, DecideAtZero, SharedLoad, SharedExchange, MergeLoad, MergeExchange, TakeField, CloseResource, BirthField, LendField, ReturnField}
use Rattle.brc_model.specs.declared.address.Address.TheVariants.{Local, Shared, KindOf, Field, Resource}
use Rattle.brc_model.specs.declared.actor.Actor.{Actor}
use Rattle.brc_model.specs.Machine.{Life, Unborn, Live, Dying, Closed, Machine, written, mark_of}
use Rattle.brc_model.specs.StepMachine.{StepMachine, next_machine}
use Rattle.brc_model.specs.Progress.{StaysAt, ImmortalsStay}
use Rattle.brc_model.specs.RowInvariant.{Numbers, InOwned, InSwapped, InMerged, RowInvariant}
use Rattle.brc_model.specs.Accounts.{Accounts}
use Rattle.brc_model.specs.Invariant.{AtDuty, numbers_of, CoreInvariant}
use Rattle.brc_model.proofs.Basics.Written.{written_apart, written_load, apart_shared}
use Rattle.brc_model.proofs.Frame.Leaves.{head_of}
use Rattle.brc_model.proofs.Stepping.FitsAfter.{memory_by}
use Rattle.brc_model.proofs.Keeping.CodeInvariant.{CodeInvariant}
use Rattle.brc_model.proofs.Keeping.CodeEvents.{event_keeps}
use Rattle.brc_model.proofs.Keeping.StepCases.{ShowsSteps, at_duty, event_shows}
use Rattle.brc_model.proofs.Stepping.Nones.{immortal_word_left}
use Rattle.brc_model.proofs.Frame.Kinds.{immortal_kind_left}
use Rattle.brc_model.proofs.Objects.Lenders.{is_named, lends-le, immortal_unlent}
use Rattle.brc_model.proofs.Basics.Blocks.{next_counted, immortal_apart}
use Rattle.brc_model.specs.declared.layout.Layout.{Layout}
use Rattle.brc_model.specs.Layout.{block_of, is_immortal_row, IsCounted}

-- ---- immortal rows

low_by_life : (owner : ℕ) (life : Life) (n : Numbers) → RowInvariant owner life n → local_part n.local < immortal_local
low_by_life owner Unborn n row = omega (arith, row.local)
low_by_life owner Live n row =
    elim row.mode [
      | InOwned o ↦ o.low
      | InSwapped s ↦ omega (arith, s.local)
      | InMerged g ↦ omega (arith, g.local)
    ]
low_by_life owner (Dying t) n row = omega (arith, row.local)
low_by_life owner Closed n row = omega (arith, row.local)

module _ {p : Accounts} {n : ℕ} {m : Machine} where
  pub counted_low : (x : ℕ) → CoreInvariant p n m → IsCounted m.layout x
      → local_part (m.memory (Local x)) < immortal_local
  counted_low x core pos = low_by_life (block_of m.layout x) (m.life x) (numbers_of m x) (core.rows x pos)

  immortal_is : (x : ℕ) → CoreInvariant p n m → is_immortal_word (m.memory (Local x)) ≡ true
      → is_immortal_row m.layout x ≡ true
  immortal_is x core is =
      elim (cases_Bool (is_immortal_row m.layout x)) [
        | inl immortal ↦ immortal
        | inr counted ↦ absurd (omega (arith, counted_low x core counted, eqb-true _ _ is))
      ]

-- ---- an immortal object's words after a duty

shared_apart : (m : Machine) (y x v : ℕ) → IsCounted m.layout y → is_immortal_row m.layout x ≡ true
    → written m.memory (Shared y) v (Shared x) ≡ m.memory (Shared x)
shared_apart m y x v counted immortal =
    written_apart m.memory (Shared y) (Shared x) v (apart_shared y x (immortal_apart m.layout y x counted immortal))

module _ {p : Accounts} {n : ℕ} {m : Machine} {t : ℕ} {a : Actor} {rest : List Duty} where
  immortal_shared : (d : Duty) (x : ℕ) → AtDuty p n m t a d rest → is_immortal_row m.layout x ≡ true
      → memory_by m t a d (Shared x) ≡ m.memory (Shared x)
  immortal_shared (RetainAdd y h) x here immortal =
      shared_apart m y x (m.memory (Shared y) + ONE_REFERENCE) (head_of here).0 immortal
  immortal_shared (DecideAtZero y) x here immortal = written_load m.memory (Shared y) (Shared x)
  immortal_shared (SharedLoad y r) x here immortal = written_load m.memory (Shared y) (Shared x)
  immortal_shared (SharedExchange y Own w) x here immortal = shared_apart m y x _ (head_of here) immortal
  immortal_shared (SharedExchange y Handed w) x here immortal = shared_apart m y x _ (head_of here).0 immortal
  immortal_shared (MergeLoad y c r) x here immortal = written_load m.memory (Shared y) (Shared x)
  immortal_shared (MergeExchange y c w r) x here immortal = shared_apart m y x _ (head_of here).0 immortal
  immortal_shared _ x here immortal = refl

  immortal_field : (d : Duty) (x : ℕ) → AtDuty p n m t a d rest → is_immortal_row m.layout x ≡ true
      → memory_by m t a d (Field x) ≡ m.memory (Field x)
  immortal_field (TakeField y) x here immortal =
      written_apart m.memory (Field y) (Field x) 0 (ne_eqb y x (immortal_apart m.layout y x (head_of here).0 immortal))
  immortal_field (BirthField y h) x here immortal =
      written_apart m.memory (Field y) (Field x) 1
      (ne_eqb y x (immortal_apart m.layout y x (next_counted m t a y (head_of here).0) immortal))
  immortal_field (LendField y) x here immortal =
      written_apart m.memory (Field y) (Field x) 0 (ne_eqb y x (immortal_apart m.layout y x (head_of here).0 immortal))
  immortal_field (ReturnField y) x here immortal =
      let lent = is_named a.lent y (head_of here) in
      let some = lends-le y m.actors t a here.found in
      written_apart m.memory (Field y) (Field x) 1
      (ne_eqb y x (λ same. let none = immortal_unlent p n m y here.core
      (ap (is_immortal_row m.layout) same ∙ immortal) in absurd (omega (arith, lent, some, none))))
  immortal_field _ x here immortal = refl

  immortal_resource : (d : Duty) (x : ℕ) → AtDuty p n m t a d rest → is_immortal_row m.layout x ≡ true
      → memory_by m t a d (Resource x) ≡ m.memory (Resource x)
  immortal_resource (CloseResource y) x here immortal =
      written_apart m.memory (Resource y) (Resource x) _
      (ne_eqb y x (immortal_apart m.layout y x (head_of here).0 immortal))
  immortal_resource _ x here immortal = refl

-- ---- each event

record ImmortalStays (m new : Machine) (x : ℕ) : Type 0 where
  layout : new.layout ≡ m.layout
  local : new.memory (Local x) ≡ m.memory (Local x)
  shared : new.memory (Shared x) ≡ m.memory (Shared x)
  kind : new.memory (KindOf x) ≡ m.memory (KindOf x)
  field : new.memory (Field x) ≡ m.memory (Field x)
  resource : new.memory (Resource x) ≡ m.memory (Resource x)

-- every immortal object's
abbrev AllImmortalsStay : Machine → Machine → Type 0
AllImmortalsStay m new = (x : ℕ) → is_immortal_row m.layout x ≡ true → ImmortalStays m new x

immortals_shown : (n : ℕ) → ShowsSteps (λ t m new. AllImmortalsStay m new) n
immortals_shown n = record {
  stays = λ p t m kept x immortal. record {
    layout = refl;
    local = refl;
    shared = refl;
    kind = refl;
    field = refl;
    resource = refl;
  };
  sits =
      λ t m new a agenda found shown x immortal. let it = shown x immortal in record {
        layout = it.layout;
        local = it.local;
        shared = it.shared;
        kind = it.kind;
        field = it.field;
        resource = it.resource;
      };
  moves =
      λ p t m a moves kept found silent x immortal. record {
        layout = refl;
        local = refl;
        shared = refl;
        kind = refl;
        field = refl;
        resource = refl;
      };
  does = λ p t m a d rest doing x immortal. record {
    layout = refl;
    local = immortal_word_left d x (at_duty doing) immortal;
    shared = immortal_shared d x (at_duty doing) immortal;
    kind = immortal_kind_left x (at_duty doing) immortal;
    field = immortal_field d x (at_duty doing) immortal;
    resource = immortal_resource d x (at_duty doing) immortal;
  };
}

module _ {p : Accounts} {n : ℕ} {m : Machine} where
  -- An immortal object's mark is never set.
  immortal_mark : (x : ℕ) → CoreInvariant p n m → is_immortal_row m.layout x ≡ true
      → mark_of m.layout m.memory x ≡ UNSET
  immortal_mark x core immortal = elim (core.marks x) [
    | inl none ↦ none
    | inr set ↦ absurd (immortal_apart m.layout x x set.1 immortal refl)
  ]

immortal_stays : (p : Module) (n : ℕ) (m : StepMachine) (event : ℕ × Choice) (x : ℕ) → CodeInvariant p n m
    → is_immortal_row m.layout x ≡ true
    → StaysAt m (next_machine m event) x
immortal_stays p n m event x whole immortal =
    let words = event_shows (immortals_shown n) m event whole x immortal in
    let new = (event_keeps p n m event whole).1 in
    let still : is_immortal_row (next_machine m event).layout x ≡ true =
    subst (λ (l : Layout). is_immortal_row l x ≡ true) (sym words.layout) immortal in
    record {
      local = words.local;
      shared = words.shared;
      kind = words.kind;
      field = words.field;
      resource = words.resource;
      mark = immortal_mark x new.kept.core still ∙ sym (immortal_mark x whole.kept.core immortal);
    }

pub immortals_stay : (p : Module) (n : ℕ) (m : StepMachine) (event : ℕ × Choice) → CodeInvariant p n m
    → ImmortalsStay m event
immortals_stay p n m event whole = λ x is. immortal_stays p n m event x whole (immortal_is x whole.kept.core is)
