-- A worker's calls, one after another.
use Rattle.std.proofs.lemmas.Bool.{cases_Bool, eq-eqb}
use Rattle.std.proofs.lemmas.Bool.Decides.{eqb_tells}
use Rattle.std.proofs.Common.{◌≡◌, ◌⊎◌, ℕ, ◌≤◌, ◌==◌, Bool, true, List, [], ◌∷◌, Some, length, count_by, inl, inr, if◌then◌else◌, refl, sym, ap, ◌∙◌, subst, arith}
use Rattle.brc_host.specs.HostCalls.{HostCall}
use Rattle.brc_lang.specs.declared.kind.Kind.TheVariants as kinds
use Rattle.brc_model.specs.declared.layout.Layout.{Layout}
use Rattle.brc_model.specs.declared.state.Slot.TheVariants.{Owned}
use Rattle.brc_model.specs.Layout.{root_row, is_immortal_row, IsCounted}
use Rattle.brc_model.proofs.Basics.Blocks.{root_counted}
use Rattle.brc_model.proofs.Basics.Lists.{none_some}
use Rattle.brc_table.specs.Calls.{IsFree}
use Rattle.brc_table.specs.Hands.{HandState, HoldsOne, KeepsLock}
use Rattle.brc_table.specs.Views.{holds, without_reference}
use Rattle.brc_heap.specs.Steps.{Keeps}
use Rattle.brc_free.specs.Works.{HasWorked, to_settle}
use Rattle.brc_work.specs.Acts.{ActsElsewhere, HasLess}
use Rattle.brc_work.specs.Calls.{HasReturned, Returns, HasCalled}
use Rattle.brc_work.specs.Fits.{Base, owns, IsReady}
use Rattle.brc_work.specs.Stopping.{unchained}
use Rattle.brc_heap.proofs.Keeping.{keeps_first}
use Rattle.brc_work.proofs.CallsBelow.{keeps_later}
use Rattle.brc_work.proofs.Fitting.{follows_on}
use Rattle.brc_work.proofs.Trading.{loses}

-- A hand that has made no call yet.
pub not_called : (hand : HandState) → IsReady hand → HasCalled hand hand
not_called hand ready = record {
  follows = keeps_later (keeps_first hand.view) (omega arith) refl refl;
  rests = ready.rests;
  unlocked = ready.unlocked;
  fields = refl;
  held = λ y counted. refl;
  few = omega arith;
}

pub called_then : (hand mid after : HandState) → HasCalled hand mid → HasCalled mid after → HasCalled hand after
called_then hand mid after one other = record {
  follows = follows_on hand mid after one.follows other.follows;
  rests = other.rests;
  unlocked = other.unlocked;
  fields = other.fields ∙ one.fields;
  held = λ y counted.
      other.held y (subst (λ (l : Layout). IsCounted l y) (sym one.follows.layout) counted) ∙ one.held y counted;
  few = omega (arith, one.few, other.few);
}

-- After a call the hand may make another one.
pub called_ready : (hand after : HandState) → IsReady hand → HasCalled hand after → IsReady after
called_ready hand after ready called = record {
  rests = called.rests;
  unlocked = called.unlocked;
  root = omega (arith, called.held root_row (root_counted hand.view.layout), ready.root);
  few = omega (arith, called.few, ready.few);
}

-- A hand that has looked through its queue holds what it held.
pub looked_called : (hand after : HandState) → IsReady hand → Keeps hand.view after.view → IsFree after.view
    → after.view.actor.head ≡ 0 → after.table ≡ hand.table → after.carried ≡ hand.carried → after.fields ≡ hand.fields
    → HasCalled hand after
looked_called hand after ready keeps free settled table carried fields = record {
  follows = keeps_later keeps (omega arith) table carried;
  rests = record {
    running = free.running;
    agenda = free.agenda;
    aside = free.aside;
    settled = settled;
  };
  unlocked = keeps.locked ∙ ready.unlocked;
  fields = fields;
  held = λ y counted. ap (λ (l : List ℕ). holds (record after.view { references = l }) y) keeps.references;
  few = subst (λ (l : List ℕ). length l ≤ length hand.view.references) (sym keeps.references) (omega arith);
}

-- ---- the end of an outermost call

owns_itself : (x : ℕ) → owns x (Owned kinds.Any) (Some x) ≡ 1
owns_itself x = ap (λ (b : Bool). if b then 1 else 0) (eq-eqb x x refl)

-- The hand holds what a call has returned,
pub returned_held : (base : Base) (row : ℕ) (hand : HandState) → Returns base row hand → HoldsOne hand.view row
returned_held base row hand returned = elim (cases_Bool (is_immortal_row hand.view.layout row)) [
  | inl immortal ↦ inl immortal
  | inr counted ↦
      let had = returned.held row (subst (λ (l : Layout). IsCounted l row) returned.follows.layout counted) in
      inr (omega (arith, had, owns_itself row))
]

-- and it isn't the last reference to what it has locked: it has locked nothing.
pub returned_keeps : (base : Base) (row : ℕ) (hand : HandState) → Returns base row hand → KeepsLock hand.view row
returned_keeps base row hand returned = λ locked. absurd (none_some row (sym returned.unlocked ∙ locked))

-- Once that is given up, the hand holds what the base says.
pub given_back : (base : Base) (row : ℕ) (hand after : HandState) → Returns base row hand
    → ActsElsewhere hand after → HasLess row hand after → HasReturned base after
given_back base row hand after returned did less =
    let layout = base.first.view.layout in
    let held = subst (λ (l : Layout). (is_immortal_row l row ≡ true) ⊎ (1
    ≤ holds hand.view row)) returned.follows.layout
    (returned_held base row hand returned) in
    let trades = loses layout kinds.Any row hand after held
    (less ∙ ap (λ (l : Layout). without_reference l row hand.view.references) returned.follows.layout) in
    record {
      follows = follows_on base.first hand after returned.follows did.acts.follows;
      rests = did.acts.rests;
      unlocked = did.acts.locked ∙ returned.unlocked;
      fields = did.acts.fields ∙ returned.fields;
      held = λ y counted.
          let had = returned.held y counted in
          let now = trades.held y counted in
          omega (arith, had, now);
      few =
          let had = returned.few in
          let now = trades.few in
          omega (arith, had, now);
    }

-- A hand that has given up what its stopped calls owned, and has settled.
pub settled_returned : (base : Base) (hand after : HandState) (cs : List HostCall) → HasReturned base (unchained hand)
    → HasWorked (to_settle [] hand.view) cs [] after.view → after.view.actor.head ≡ 0 → after.table ≡ hand.table
    → after.carried ≡ hand.carried → after.fields ≡ hand.fields → HasReturned base after
settled_returned base hand after cs ended worked empty table carried fields =
    let keeps = worked.keeps in
    record {
      follows = record {
        table = table ∙ ended.follows.table;
        layout = keeps.layout ∙ ended.follows.layout;
        thread = keeps.thread ∙ ended.follows.thread;
        given = keeps.given ∙ ended.follows.given;
        carried = carried ∙ ended.follows.carried;
        used = let more = ended.follows.used in let same = keeps.used in omega (arith, more, same);
      };
      rests = record {
        running = keeps.status ∙ ended.rests.running;
        agenda = worked.agenda;
        aside = keeps.aside ∙ ended.rests.aside;
        settled = empty;
      };
      unlocked = keeps.locked ∙ ended.unlocked;
      fields = fields ∙ ended.fields;
      held = λ y counted.
          ap (λ (references : List ℕ). holds (record hand.view { references = references }) y) keeps.references
          ∙ ended.held y counted;
      few = let less = ended.few in
          let same = ap {B = ℕ} length keeps.references in omega (arith, less, same);
    }

-- ---- a hand that held the root alone

only_one : (x : ℕ) (xs : List ℕ) → length xs ≤ 1 → 1 ≤ count_by (λ y. y == x) xs → xs ≡ x ∷ []
only_one x [] few some = absurd (omega (arith, some))
only_one x (y ∷ []) few some =
    elim (eqb_tells y x) [
      | inl same ↦ ap (λ z. z ∷ []) same.1
      | inr apart ↦ absurd (omega (arith, some, ap {B = ℕ} (λ b. if b then 1 else 0) apart.0))
    ]
only_one x (y ∷ z ∷ xs) few some = absurd (omega (arith, few))

-- it holds the root alone again
pub keeps_root : (first hand : HandState) → HasCalled first hand → first.view.references ≡ root_row ∷ []
    → hand.view.references ≡ root_row ∷ []
keeps_root first hand called only =
    let was : holds first.view root_row ≡ 1 = ap (count_by (λ y. y == root_row)) only in
    only_one root_row hand.view.references (omega (arith, called.few, ap length only))
    (omega (arith, was, called.held root_row (root_counted first.view.layout)))
