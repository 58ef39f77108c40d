-- A variable's kind becomes known.
use Rattle.std.proofs.Common.{◌≡◌, ℕ, zero, suc, ◌+◌, ◌<◌, ◌≤◌, Bool, true, false, List, [], ◌∷◌, Option, None, Some, inl, inr, length, refl, sym, ap, ◌∙◌, subst, arith, set, get_or}
use Rattle.std.specs.Prelude.{if◌then◌else◌}
use Rattle.std.proofs.lemmas.Bool.Decides.{eqb_tells}
use Rattle.std.proofs.lemmas.List.{length-set}
use Rattle.brc_lang.specs.declared.kind.Kind.{Kind}
use Rattle.brc_model.specs.declared.layout.Layout.{Layout}
use Rattle.brc_model.specs.declared.state.Slot.{Slot}
use Rattle.brc_model.specs.declared.state.Slot.TheVariants.{Empty, Owned, Caller, Locked}
use Rattle.brc_model.specs.declared.state.State.{State}
use Rattle.brc_model.specs.Items.{borrows_item}
use Rattle.brc_model.specs.Kinds.{kind_of_word}
use Rattle.brc_model.specs.SlotStates.{var_of, kind_of, is_empty, is_one_of, with_resource, with_kind, put}
use Rattle.brc_model.specs.Threads.{row_of}
use Rattle.brc_model.proofs.Basics.Lists.{some_is}
use Rattle.brc_model.proofs.Dispatch.Grounded.{var_of-put_same, var_of-put_other}
use Rattle.brc_model.proofs.Dispatch.TakingHost.{resource_word}
use Rattle.brc_table.specs.declared.view.View.{View}
use Rattle.brc_table.specs.Hands.{TableState, HandState}
use Rattle.brc_table.specs.KnownWords.{knows_kind}
use Rattle.brc_heap.specs.Calls.{SeesKind}
use Rattle.brc_work.specs.Acts.{ActsElsewhere}
use Rattle.brc_work.specs.Fits.{Base, KnowsKind, Unknown, HasSeen, SlotFits, owns, lists, over_variables, LockFits, LocksAs, Fits}
use Rattle.brc_work.proofs.Fitting.{same_fits, says_same}
use Rattle.brc_work.proofs.Holding.{fits_with_kind}

-- What the hand has seen says what the object is.
pub seen_knows : (u : View) (x word : ℕ) (kind : Kind) → knows_kind x word u ≡ true → kind_of_word word ≡ kind
    → KnowsKind u kind x
seen_knows u x zero kind seen is = Unknown (sym is)
seen_knows u x (suc word) kind seen is = HasSeen (suc word) (omega arith) seen is

owns_kind : (y : ℕ) (slot : Slot) (kind : Kind) (row : Option ℕ) → owns y (with_kind slot kind) row
    ≡ owns y slot row
owns_kind y Empty kind row = refl
owns_kind y (Owned k) kind None = refl
owns_kind y (Owned k) kind (Some x) = refl
owns_kind y (Caller k) kind row = refl
owns_kind y (Locked k) kind row = refl

lists_kind : (layout : Layout) (slot : Slot) (kind : Kind) (row : Option ℕ)
    → lists layout (with_kind slot kind) row ≡ lists layout slot row
lists_kind layout Empty kind row = refl
lists_kind layout (Owned k) kind None = refl
lists_kind layout (Owned k) kind (Some x) = refl
lists_kind layout (Caller k) kind row = refl
lists_kind layout (Locked k) kind row = refl

-- A variable that has only another kind owns what it owned.
sum_kind : (f : Slot → Option ℕ → ℕ) (i : ℕ) (slots : List Slot) (rows : List (Option ℕ)) (slot : Slot)
    → f slot (get_or rows i None) ≡ f (get_or slots i Empty) (get_or rows i None)
    → over_variables f (set slots i slot) rows ≡ over_variables f slots rows
sum_kind f i [] rows slot same = refl
sum_kind f zero (s ∷ slots) [] slot same = refl
sum_kind f (suc i) (s ∷ slots) [] slot same = refl
sum_kind f zero (s ∷ slots) (r ∷ rows) slot same = omega (arith, same)
sum_kind f (suc i) (s ∷ slots) (r ∷ rows) slot same =
    let rest = sum_kind f i slots rows slot same in omega (arith, rest)

kind_lasting : (slot : Slot) (kind : Kind) → borrows_item (with_kind slot kind) ≡ borrows_item slot
kind_lasting Empty kind = refl
kind_lasting (Owned k) kind = refl
kind_lasting (Caller k) kind = refl
kind_lasting (Locked k) kind = refl

kind_used : (slot : Slot) (kind : Kind) → is_empty (with_kind slot kind) ≡ is_empty slot
kind_used Empty kind = refl
kind_used (Owned k) kind = refl
kind_used (Caller k) kind = refl
kind_used (Locked k) kind = refl

kind_is : (slot : Slot) (kind : Kind) → is_empty slot ≡ false → kind_of (with_kind slot kind) ≡ kind
kind_is Empty kind used = let wrong : true ≡ false = used in absurd cc
kind_is (Owned k) kind used = refl
kind_is (Caller k) kind used = refl
kind_is (Locked k) kind used = refl

-- A variable in use is one of the sixteen.
pub used_low : (slots : List Slot) (i : ℕ) → is_empty (get_or slots i Empty) ≡ false → i < length slots
used_low [] i used = let wrong : true ≡ false = used in absurd cc
used_low (s ∷ slots) zero used = omega arith
used_low (s ∷ slots) (suc i) used = let rest = used_low slots i used in omega (arith, rest)

module _ {heap : TableState} (base : Base) (s : State) (rows : List (Option ℕ)) (hand after : HandState)
    (from x word : ℕ) (kind : Kind)
    (fits : Fits base s rows hand) (did : ActsElsewhere hand after)
    (same : after.view.references ≡ hand.view.references) (used : is_empty (var_of s from) ≡ false)
    (names : row_of rows from ≡ Some x) (sees : SeesKind heap x word hand.view after.view)
    (is : kind_of_word word ≡ kind) where
  abbrev next : State
  next = put s from (with_kind (var_of s from) kind)

  later : Fits base s rows after
  later = same_fits base s rows hand after fits did same

  knows : (y : ℕ) → row_of rows from ≡ Some y → KnowsKind after.view kind y
  knows y this =
      subst (KnowsKind after.view kind) (some_is x y (sym names ∙ this))
      (seen_knows after.view x word kind sees.seen is)

  low : from < length s.slots → var_of next from ≡ with_kind (var_of s from) kind
  low there = var_of-put_same s from (with_kind (var_of s from) kind) there

  in_slots : from < length s.slots
  in_slots = used_low s.slots from used

  -- The hand knows what the locked object's field has, since it has just asked for the kind.
  locked_kind : (i : ℕ) (lock : LockFits base.first.fields s rows after i)
      → LockFits base.first.fields next rows after i
  locked_kind i lock = elim (eqb_tells i from) [
    | inl this ↦
        let slot_is : var_of next i ≡ with_kind (var_of s from) kind = ap (var_of next) this.1 ∙ low in_slots in
        let object_is : lock.object ≡ x =
        some_is lock.object x (sym lock.names ∙ (ap (row_of rows) this.1 ∙ names)) in
        record {
          object = lock.object;
          names = lock.names;
          lasting =
              ap borrows_item slot_is ∙ (kind_lasting (var_of s from) kind
              ∙ (ap (λ (k : ℕ). borrows_item (var_of s k)) (sym this.1) ∙ lock.lasting));
          used = ap is_empty slot_is ∙ (kind_used (var_of s from) kind ∙ used);
          locked = lock.locked;
          fields = lock.fields;
          resource = λ has.
              let can : is_one_of kind with_resource ≡ true =
              sym (ap (λ (k : Kind). is_one_of k with_resource)
              (ap kind_of slot_is ∙ kind_is (var_of s from) kind used)) ∙ has in
              did.acts.in_field
              ∙ (sees.field (sym did.acts.locked ∙ (lock.locked ∙ ap Some object_is))
              ∙ ap (λ (b : Bool). if b then 1 else 0) (resource_word kind word (inr is) can));
        }
    | inr apart ↦
        let slot_is = var_of-put_other s from i (with_kind (var_of s from) kind) apart.1 in
        let says = says_same (var_of s i) (var_of next i) slot_is in
        record {
          object = lock.object;
          names = lock.names;
          lasting = says.lasting lock.lasting;
          used = says.used lock.lasting lock.used;
          locked = lock.locked;
          fields = lock.fields;
          resource = λ has. lock.resource (says.resource has);
        }
  ]

  locks_kind : (locked : Option ℕ) → LocksAs locked base.first.fields s rows after
      → LocksAs locked base.first.fields next rows after
  locks_kind None lock = lock
  locks_kind (Some i) lock = locked_kind i lock

  -- The object is of the kind that the variable's slot now says.
  pub kind_fits : Fits base next rows after
  kind_fits = record {
    ready = fits.ready;
    room = fits.room;
    follows = later.follows;
    rests = later.rests;
    some_slots = length-set s.slots from (with_kind (var_of s from) kind) ∙ fits.some_slots;
    some_rows = fits.some_rows;
    each = λ i. elim (eqb_tells i from) [
      | inl this ↦
          subst (λ (k : ℕ). SlotFits base.held after.view (var_of next k) (row_of rows k)) (sym this.1)
          (subst (λ (w : Slot). SlotFits base.held after.view w (row_of rows from)) (sym (low in_slots))
          (fits_with_kind base.held after.view (var_of s from) (row_of rows from) kind knows (later.each from)))
      | inr apart ↦
          subst (λ (w : Slot). SlotFits base.held after.view w (row_of rows i))
          (sym (var_of-put_other s from i (with_kind (var_of s from) kind) apart.1)) (later.each i)
    ];
    held = λ y counted.
        later.held y counted
        ∙ ap (λ (n : ℕ). base.held y + n)
        (sym (sum_kind (owns y) from s.slots rows (with_kind (var_of s from) kind)
        (owns_kind y (var_of s from) kind (row_of rows from))));
    few =
        subst (λ (n : ℕ). length after.view.references ≤ base.most + n)
        (sym (sum_kind (lists base.first.view.layout) from s.slots rows (with_kind (var_of s from) kind)
        (lists_kind base.first.view.layout (var_of s from) kind (row_of rows from)))) later.few;
    lock = locks_kind s.locked later.lock;
  }
