-- What the calls of the crates below leave, as a worker needs it.
use Rattle.std.proofs.Common.{◌≡◌, ℕ, ◌≤◌, List, [], ◌∷◌, ◌++◌, None, refl, ap, ◌∙◌, arith}
use Rattle.std.specs.Prelude.{not}
use Rattle.std.specs.List.{filter}
use Rattle.std.proofs.lemmas.List.Sums.{fold-append}
use Rattle.brc_host.specs.HostCalls.{HostCall}
use Rattle.brc_model.specs.declared.actor.Status.TheVariants.{Running}
use Rattle.brc_model.specs.declared.duty.Duty.{Duty}
use Rattle.brc_model.specs.OpenWork.{is_about}
use Rattle.brc_table.specs.declared.view.View.{View}
use Rattle.brc_table.specs.Views.{open_work, asking, view_after}
use Rattle.brc_table.specs.KnownWords.{cell_known, known_cell}
use Rattle.brc_table.specs.Hands.{HandState}
use Rattle.brc_heap.specs.Calls.{Leaves, HasBorn}
use Rattle.brc_heap.specs.Steps.{Keeps}
use Rattle.brc_heap.proofs.Keeping.{keeps_first, keeps_then, keeps_beside}
use Rattle.brc_list.specs.Calls.{KeepsWork}
use Rattle.brc_free.specs.Works.{HasReleased, HasWorked, to_settle}
use Rattle.brc_work.specs.Acts.{KeepsCells, Acts, ActsElsewhere}
use Rattle.brc_work.specs.Fits.{Rests, IsLater}

-- ---- lists

pub no_first : {A : Type 0} (xs ys : List A) → xs ++ ys ≡ [] → xs ≡ []
no_first [] ys none = refl
no_first (x ∷ xs) ys none = absurd cc

pub no_second : {A : Type 0} (xs ys : List A) → xs ++ ys ≡ [] → ys ≡ []
no_second [] ys none = none
no_second (x ∷ xs) ys none = absurd cc

-- A hand that rests has no work.
pub no_work : (hand : HandState) → Rests hand → open_work hand.view ≡ []
no_work hand rests = ap (λ (ds : List Duty). ds ++ hand.view.actor.aside) rests.agenda ∙ rests.aside

-- ---- calls

-- the hand with other work, used rows and references
abbrev pub changed : View → List Duty → List Duty → ℕ → List ℕ → View
changed v ds fs used rows = record v {
  actor = record v.actor { agenda = ds; aside = fs; used = used };
  references = rows;
}

-- A hand that keeps the rest is the same one, later.
pub keeps_later : {hand after : HandState} {ds fs : List Duty} {used : ℕ} {rows : List ℕ}
    → Keeps (changed hand.view ds fs used rows) after.view → hand.view.actor.used ≤ used → after.table ≡ hand.table
    → after.carried ≡ hand.carried → IsLater hand after
keeps_later keeps more table carried = record {
  table = table;
  layout = keeps.layout;
  thread = keeps.thread;
  given = keeps.given;
  carried = carried;
  used = omega (arith, keeps.used, more);
}

-- A call that keeps the rest and leaves no work.
pub keeps_acts : (hand after : HandState) {ds fs : List Duty} {used : ℕ} {rows : List ℕ}
    → Keeps (changed hand.view ds fs used rows) after.view → hand.view.actor.used ≤ used
    → hand.view.actor.status ≡ Running → after.view.actor.agenda ≡ [] → fs ≡ [] → after.view.actor.head ≡ 0
    → after.table ≡ hand.table → after.carried ≡ hand.carried → after.fields ≡ hand.fields → ActsElsewhere hand after
keeps_acts hand after keeps more running agenda aside settled table carried fields = record {
  acts = record {
    follows = keeps_later keeps more table carried;
    rests = record {
      running = keeps.status ∙ running;
      agenda = agenda;
      aside = keeps.aside ∙ aside;
      settled = settled;
    };
    more = record { layout = keeps.layout; kinds = keeps.kinds };
    locked = keeps.locked;
    in_field = keeps.in_field;
    fields = fields;
  };
  cells = λ y i word locked seen. keeps.cells y i locked ∙ seen;
}

-- A hand that rests has nothing aside when it turns to a row.
pub none_aside : (hand : HandState) (x : ℕ) → Rests hand
    → filter (λ (d : Duty). not (is_about x d)) (open_work hand.view) ≡ []
none_aside hand x rests = ap (filter (λ (d : Duty). not (is_about x d))) (no_work hand rests)

-- A call about one row that leaves no work.
pub left_acts : (hand after : HandState) (x : ℕ) → Rests hand → Leaves x [] hand.view after.view
    → after.table ≡ hand.table → after.carried ≡ hand.carried → after.fields ≡ hand.fields
    → after.view.actor.head ≡ hand.view.actor.head → ActsElsewhere hand after
left_acts hand after x rests left table carried fields head =
    keeps_acts hand after left.keeps (omega arith) rests.running left.agenda (none_aside hand x rests)
    (head ∙ rests.settled) table carried fields

-- A birth.
pub born_acts : (hand after : HandState) → Rests hand → HasBorn hand.view after.view
    → after.table ≡ hand.table → after.carried ≡ hand.carried → after.fields ≡ hand.fields → ActsElsewhere hand after
born_acts hand after rests born table carried fields =
    let none = born.work ∙ no_work hand rests in
    keeps_acts hand after born.keeps (omega arith) rests.running
    (no_first after.view.actor.agenda after.view.actor.aside none)
    (no_second after.view.actor.agenda after.view.actor.aside none) (born.head ∙ rests.settled) table carried fields

-- What a call on a list leaves, whatever becomes of the lock.
pub kept_rests : (hand after : HandState) → Rests hand → KeepsWork hand.view after.view → Rests after
kept_rests hand after rests kept =
    let none = kept.work ∙ no_work hand rests in
    record {
      running = kept.status ∙ rests.running;
      agenda = no_first after.view.actor.agenda after.view.actor.aside none;
      aside = no_second after.view.actor.agenda after.view.actor.aside none;
      settled = kept.head ∙ rests.settled;
    }

pub kept_follows : (hand after : HandState) → KeepsWork hand.view after.view → after.table ≡ hand.table
    → after.carried ≡ hand.carried → IsLater hand after
kept_follows hand after kept table carried = record {
  table = table;
  layout = kept.layout;
  thread = kept.thread;
  given = kept.given;
  carried = carried;
  used = omega (arith, kept.used);
}

-- One that changes no reference.
pub kept_acts : (hand after : HandState) → Rests hand → KeepsWork hand.view after.view → after.table ≡ hand.table
    → after.carried ≡ hand.carried → after.fields ≡ hand.fields → after.view.actor.locked ≡ hand.view.actor.locked
    → Acts hand after
kept_acts hand after rests kept table carried fields locked = record {
  follows = kept_follows hand after kept table carried;
  rests = kept_rests hand after rests kept;
  more = record { layout = kept.layout; kinds = kept.kinds };
  locked = locked;
  in_field = kept.taken_field;
  fields = fields;
}

-- A look at a kind word changes nothing that the hand has seen of cells.
pub asked_cells : (v u : View) (x word : ℕ) → u ≡ view_after (asking v x) word → KeepsCells v u
asked_cells v u x word is y i before locked seen =
    ap (known_cell y i) is ∙ (fold-append (cell_known y i) None v.trace _ ∙ seen)

-- A hand that has done nothing.
pub itself_acts : (hand : HandState) → Rests hand → ActsElsewhere hand hand
itself_acts hand rests =
    keeps_acts hand hand (keeps_first hand.view) (omega arith) rests.running rests.agenda rests.aside rests.settled refl
    refl refl

-- the hand with other references
abbrev pub with_references : HandState → List ℕ → HandState
with_references hand references = record hand { view = record hand.view { references = references } }

pub beside_acts : (hand : HandState) (references : List ℕ) → Rests hand
    → ActsElsewhere hand (with_references hand references)
beside_acts hand references rests =
    keeps_acts hand (with_references hand references) (keeps_first (with_references hand references).view) (omega arith)
    rests.running rests.agenda rests.aside rests.settled refl refl refl

pub beside_back : (hand : HandState) (references : List ℕ) → Rests hand
    → ActsElsewhere (with_references hand references) hand
beside_back hand references rests =
    keeps_acts (with_references hand references) hand (keeps_first hand.view) (omega arith) rests.running rests.agenda
    rests.aside rests.settled refl refl refl

-- A release, and what it takes to settle.
pub released_rests : (hand mid : HandState) (x : ℕ) → Rests hand → HasReleased x hand.view mid.view
    → mid.view.actor.aside ≡ []
released_rests hand mid x rests released = released.keeps.aside ∙ none_aside hand x rests

pub released_acts : (hand mid after : HandState) (x : ℕ) (closes : List HostCall) → Rests hand
    → HasReleased x hand.view mid.view
    → HasWorked (to_settle [] mid.view) closes [] after.view → after.view.actor.head ≡ 0 → after.table ≡ hand.table
    → after.carried ≡ hand.carried → after.fields ≡ hand.fields → ActsElsewhere hand after
released_acts hand mid after x closes rests released worked settled table carried fields =
    keeps_acts hand after
    (keeps_then (keeps_then released.keeps (keeps_beside mid.view (to_settle [] mid.view).actor.agenda)) worked.keeps)
    (omega arith) rests.running worked.agenda (none_aside hand x rests) settled table carried fields

-- the hand that knows something else of the locked object's field
abbrev pub with_field : HandState → ℕ → HandState
with_field hand n = record hand { view = record hand.view { in_field = n } }

pub field_rests : (hand : HandState) (n : ℕ) → Rests hand → Rests (with_field hand n)
field_rests hand n rests = record {
  running = rests.running;
  agenda = rests.agenda;
  aside = rests.aside;
  settled = rests.settled;
}

-- What a hand does after something else.
pub acts_then : (hand mid after : HandState) → Acts hand mid → Acts mid after → Acts hand after
acts_then hand mid after one other = record {
  follows = record {
    table = other.follows.table ∙ one.follows.table;
    layout = other.follows.layout ∙ one.follows.layout;
    thread = other.follows.thread ∙ one.follows.thread;
    given = other.follows.given ∙ one.follows.given;
    carried = other.follows.carried ∙ one.follows.carried;
    used = omega (arith, one.follows.used, other.follows.used);
  };
  rests = other.rests;
  more = record {
    layout = other.more.layout ∙ one.more.layout;
    kinds = λ x word seen. other.more.kinds x word (one.more.kinds x word seen);
  };
  locked = other.locked ∙ one.locked;
  in_field = other.in_field ∙ one.in_field;
  fields = other.fields ∙ one.fields;
}
