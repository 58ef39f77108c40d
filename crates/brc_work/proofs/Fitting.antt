-- How variables and hand fit the next state.
use Rattle.std.proofs.Common.{◌≡◌, ◌≢◌, ℕ, ◌+◌, ◌<◌, ◌≤◌, true, false, List, ◌∷◌, length, map, Option, None, Some, inl, inr, refl, sym, ap, ◌∙◌, subst, arith}
use Rattle.std.specs.Prelude.{slice_set}
use Rattle.std.proofs.lemmas.Bool.{eq-eqb, false≢true}
use Rattle.std.proofs.lemmas.Bool.Decides.{eqb_tells}
use Rattle.std.proofs.lemmas.List.{length-set, length-map}
use Rattle.brc_model.specs.declared.layout.Layout.{Layout}
use Rattle.brc_model.specs.declared.state.Slot.{Slot}
use Rattle.brc_model.specs.declared.state.Slot.TheVariants.{Empty, Owned, Caller, Locked}
use Rattle.brc_model.specs.declared.state.State.{State}
use Rattle.brc_model.specs.Layout.{IsCounted}
use Rattle.brc_model.specs.Items.{borrows_item}
use Rattle.brc_model.specs.SlotStates.{var_of, kind_of, is_empty, is_one_of, with_resource, names, put, without_item, without_items}
use Rattle.brc_model.specs.Threads.{row_of}
use Rattle.brc_model.proofs.Dispatch.Grounded.{var_of-put_same, var_of-put_other, var_of-without, row_of-set_same, row_of-set_other}
use Rattle.brc_table.specs.Views.{holds}
use Rattle.brc_table.specs.Hands.{HandState}
use Rattle.brc_work.specs.Acts.{Acts, ActsElsewhere}
use Rattle.brc_work.specs.Fits.{Base, SlotFits, owns, lists, over_variables, LockFits, LocksAs, IsLater, Fits}
use Rattle.brc_work.proofs.Owning.{sum_set, sum_without, owns_without, lists_without}
use Rattle.brc_work.proofs.Staying.{Stays, slot_stays, slot_bare}

pub stays_of : (hand after : HandState) → ActsElsewhere hand after → Stays hand.view after.view
stays_of hand after did = record { more = did.acts.more; locked = did.acts.locked; cells = did.cells }

pub follows_on : (first hand after : HandState) → IsLater first hand → IsLater hand after → IsLater first after
follows_on first hand after one other = record {
  table = other.table ∙ one.table;
  layout = other.layout ∙ one.layout;
  thread = other.thread ∙ one.thread;
  given = other.given ∙ one.given;
  carried = other.carried ∙ one.carried;
  used = omega (arith, one.used, other.used);
}

-- ---- the lock

-- The slot says of a lock what the other one says.
pub record SaysAsMuch (old new : Slot) : Type 0 where
  pub lasting : borrows_item old ≡ false → borrows_item new ≡ false
  pub used : borrows_item old ≡ false → is_empty old ≡ false → is_empty new ≡ false
  pub resource : is_one_of (kind_of new) with_resource ≡ true → is_one_of (kind_of old) with_resource ≡ true

pub says_same : (old new : Slot) → new ≡ old → SaysAsMuch old new
says_same old new same = record {
  lasting = λ is. ap borrows_item same ∙ is;
  used = λ lasting is. ap is_empty same ∙ is;
  resource = λ has. sym (ap (λ (w : Slot). is_one_of (kind_of w) with_resource) same) ∙ has;
}

bare_says : (slot : Slot) → SaysAsMuch slot (without_item slot)
bare_says Empty = record { lasting = λ is. is; used = λ lasting is. is; resource = λ has. has }
bare_says (Owned k) = record { lasting = λ is. is; used = λ lasting is. is; resource = λ has. has }
bare_says (Caller k) = record { lasting = λ is. is; used = λ lasting is. is; resource = λ has. has }
bare_says (Locked k) = record {
  lasting = λ is. refl;
  used = λ lasting is. let wrong : true ≡ false = lasting in absurd cc;
  resource = λ has. let wrong : false ≡ true = has in absurd cc;
}

pub says_bare : (s : State) (i : ℕ) → SaysAsMuch (var_of s i) (var_of (without_items s) i)
says_bare s i = subst (SaysAsMuch (var_of s i)) (sym (var_of-without s i)) (bare_says (var_of s i))

-- The locked variable still names the locked object, if the hand keeps its lock and the variable names what it named.
lock_fits : (first : List (ℕ × ℕ)) (s next : State) (rows after_rows : List (Option ℕ)) (hand after : HandState) (i : ℕ)
    → Acts hand after → row_of after_rows i ≡ row_of rows i → SaysAsMuch (var_of s i) (var_of next i)
    → LockFits first s rows hand i → LockFits first next after_rows after i
lock_fits first s next rows after_rows hand after i acts row says lock = record {
  object = lock.object;
  names = row ∙ lock.names;
  lasting = says.lasting lock.lasting;
  used = says.used lock.lasting lock.used;
  locked = acts.locked ∙ lock.locked;
  fields = acts.fields ∙ (lock.fields ∙ ap (λ (n : ℕ). (lock.object, n) ∷ first) (sym acts.in_field));
  resource = λ is. acts.in_field ∙ lock.resource (says.resource is);
}

-- What the state says of the lock is still true.
pub locks_as : (first : List (ℕ × ℕ)) (s next : State) (rows after_rows : List (Option ℕ)) (hand after : HandState)
    (locked : Option ℕ) → Acts hand after
    → ((i : ℕ) → locked ≡ Some i → (row_of after_rows i ≡ row_of rows i) × SaysAsMuch (var_of s i) (var_of next i))
    → LocksAs locked first s rows hand → LocksAs locked first next after_rows after
locks_as first s next rows after_rows hand after None acts same lock = (acts.locked ∙ lock.0, acts.fields ∙ lock.1)
locks_as first s next rows after_rows hand after (Some i) acts same lock =
    lock_fits first s next rows after_rows hand after i acts (same i refl).0 (same i refl).1 lock

-- ---- one variable changes

-- What the hand holds changes as what the variable owns.
pub record Trades (layout : Layout) (old new : Slot) (before row : Option ℕ) (hand after : HandState) : Type 0 where
  pub held : (y : ℕ) → IsCounted layout y
      → holds after.view y + owns y old before ≡ holds hand.view y + owns y new row
  pub few : length after.view.references + lists layout old before
      ≤ length hand.view.references + lists layout new row

-- A variable that isn't locked gets another slot.
pub refits : (base : Base) (s : State) (rows : List (Option ℕ)) (hand after : HandState) (to : ℕ) (slot : Slot)
    (row : Option ℕ) → Fits base s rows hand → to < 16 → names s.locked to ≡ false → ActsElsewhere hand after
    → SlotFits base.held after.view slot row
    → Trades base.first.view.layout (var_of s to) slot (row_of rows to) row hand after
    → Fits base (put s to slot) (slice_set rows to row) after
refits base s rows hand after to slot row fits low unlocked did says trades =
    let in_slots : to < length s.slots = omega (arith, low, fits.some_slots) in
    let in_rows : to < length rows = omega (arith, low, fits.some_rows) in
    let stays = stays_of hand after did in
    let other : (i : ℕ) → i ≢ to
    → SlotFits base.held after.view (var_of (put s to slot) i) (row_of (slice_set rows to row) i) =
    λ i apart.
    subst (λ (w : Slot). SlotFits base.held after.view w (row_of (slice_set rows to row) i))
    (sym (var_of-put_other s to i slot apart))
    (subst (λ (w : Option ℕ). SlotFits base.held after.view (var_of s i) w)
    (sym (row_of-set_other rows to i row apart))
    (slot_stays base.held hand.view after.view (var_of s i) (row_of rows i) stays (fits.each i))) in
    let this : SlotFits base.held after.view (var_of (put s to slot) to) (row_of (slice_set rows to row) to) =
    subst (λ (w : Slot). SlotFits base.held after.view w (row_of (slice_set rows to row) to))
    (sym (var_of-put_same s to slot in_slots))
    (subst (λ (w : Option ℕ). SlotFits base.held after.view slot w) (sym (row_of-set_same rows to row in_rows)) says) in
    let elsewhere : (i : ℕ) → s.locked ≡ Some i → i ≢ to = λ i is same.
    false≢true (sym unlocked ∙ (ap (λ (l : Option ℕ). names l to) is ∙ eq-eqb to i (sym same))) in
    record {
      ready = fits.ready;
      room = fits.room;
      follows = follows_on base.first hand after fits.follows did.acts.follows;
      rests = did.acts.rests;
      some_slots = length-set s.slots to slot ∙ fits.some_slots;
      some_rows = length-set rows to row ∙ fits.some_rows;
      each = λ i. elim (eqb_tells i to) [
        | inl same ↦
            subst (λ (k : ℕ). SlotFits base.held after.view (var_of (put s to slot) k)
            (row_of (slice_set rows to row) k)) (sym same.1) this
        | inr apart ↦ other i apart.1
      ];
      held = λ y counted.
          let sums = sum_set (owns y) to s.slots rows slot row in_slots in_rows in
          omega (arith, sums, trades.held y counted, fits.held y counted);
      few =
          let sums = sum_set (lists base.first.view.layout) to s.slots rows slot row in_slots in_rows in
          omega (arith, sums, trades.few, fits.few);
      lock = locks_as base.first.fields s (put s to slot) rows (slice_set rows to row) hand after s.locked did.acts
          (λ i is. (
            row_of-set_other rows to i row (elsewhere i is),
            says_same (var_of s i) (var_of (put s to slot) i) (var_of-put_other s to i slot (elsewhere i is)),
          )) fits.lock;
    }

-- ---- no variable changes

-- The hand has done something, and holds what it held.
pub same_fits : (base : Base) (s : State) (rows : List (Option ℕ)) (hand after : HandState)
    → Fits base s rows hand → ActsElsewhere hand after → after.view.references ≡ hand.view.references
    → Fits base s rows after
same_fits base s rows hand after fits did same = record {
  ready = fits.ready;
  room = fits.room;
  follows = follows_on base.first hand after fits.follows did.acts.follows;
  rests = did.acts.rests;
  some_slots = fits.some_slots;
  some_rows = fits.some_rows;
  each = λ i. slot_stays base.held hand.view after.view (var_of s i) (row_of rows i) (stays_of hand after did)
      (fits.each i);
  held = λ y counted. ap (λ (l : List ℕ). holds (record after.view { references = l }) y) same ∙ fits.held y counted;
  few = subst (λ (l : List ℕ). length l ≤ base.most + over_variables (lists base.first.view.layout) s.slots rows)
      (sym same) fits.few;
  lock = locks_as base.first.fields s s rows rows hand after s.locked did.acts
      (λ i is. (refl, says_same (var_of s i) (var_of s i) refl)) fits.lock;
}

-- Once nothing is borrowed any more, whatever became of the locked list.
pub bare_fits : (base : Base) (s : State) (rows : List (Option ℕ)) (hand after : HandState)
    → Fits base s rows hand → Acts hand after → after.view.references ≡ hand.view.references
    → Fits base (without_items s) rows after
bare_fits base s rows hand after fits did same = record {
  ready = fits.ready;
  room = fits.room;
  follows = follows_on base.first hand after fits.follows did.follows;
  rests = did.rests;
  some_slots = length-map s.slots without_item ∙ fits.some_slots;
  some_rows = fits.some_rows;
  each = λ i. subst (λ (w : Slot). SlotFits base.held after.view w (row_of rows i)) (sym (var_of-without s i))
      (slot_bare base.held hand.view after.view (var_of s i) (row_of rows i) did.more (fits.each i));
  held = λ y counted.
      ap (λ (l : List ℕ). holds (record after.view { references = l }) y) same
      ∙ (fits.held y counted
      ∙ ap (λ (n : ℕ). base.held y + n) (sym (sum_without (owns y) (owns_without y) s.slots rows)));
  few = subst (λ (l : List ℕ). length l
      ≤ base.most + over_variables (lists base.first.view.layout) (map without_item s.slots) rows) (sym same)
      (subst (λ (n : ℕ). length hand.view.references ≤ base.most + n)
      (sym (sum_without (lists base.first.view.layout) (lists_without base.first.view.layout) s.slots rows)) fits.few);
  lock = locks_as base.first.fields s (without_items s) rows rows hand after s.locked did
      (λ i is. (refl, says_bare s i)) fits.lock;
}
