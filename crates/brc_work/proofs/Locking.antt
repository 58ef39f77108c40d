-- Variables and hand fit the state after a lock, and after an unlock.
use Rattle.std.proofs.Common.{◌≡◌, ℕ, ◌+◌, ◌<◌, ◌≤◌, true, false, List, ◌∷◌, length, map, Option, None, Some, refl, sym, ap, ◌∙◌, subst, arith}
use Rattle.std.proofs.lemmas.List.{length-map}
use Rattle.brc_model.specs.declared.state.Slot.{Slot}
use Rattle.brc_model.specs.declared.state.Slot.TheVariants.{Empty, Owned, Caller, Locked}
use Rattle.brc_model.specs.declared.state.State.{State}
use Rattle.brc_model.specs.Duties.{resources_of}
use Rattle.brc_model.specs.Items.{borrows_item}
use Rattle.brc_model.specs.SlotStates.{var_of, kind_of, is_empty, without_item, without_items, with_lock}
use Rattle.brc_model.specs.Threads.{row_of}
use Rattle.brc_model.proofs.Basics.Lists.{none_some}
use Rattle.brc_model.proofs.Dispatch.Grounded.{var_of-without}
use Rattle.brc_table.specs.declared.view.View.{View}
use Rattle.brc_table.specs.KnownWords.{knows_kind}
use Rattle.brc_table.specs.Views.{holds}
use Rattle.brc_table.specs.Uses.{behind_field}
use Rattle.brc_table.specs.Hands.{HandState}
use Rattle.brc_list.specs.Calls.{KeepsWork, KeepsButField}
use Rattle.brc_work.specs.Acts.{KnowsMore}
use Rattle.brc_work.specs.Fits.{Base, SlotFits, owns, lists, over_variables, LockFits, LocksAs, Fits}
use Rattle.brc_work.proofs.CallsBelow.{with_field, field_rests, kept_rests, kept_follows}
use Rattle.brc_work.proofs.Fitting.{follows_on}
use Rattle.brc_work.proofs.Holding.{knows_slot, sees_resource}
use Rattle.brc_work.proofs.Owning.{sum_without, owns_without, lists_without}
use Rattle.brc_work.proofs.Staying.{names_more, slot_bare, lent_still}

-- ---- without a lock

-- A hand that has locked nothing borrows nothing.
pub borrows_none : (held : ℕ → ℕ) (v : View) (slot : Slot) (row : Option ℕ) → v.actor.locked ≡ None
    → SlotFits held v slot row
    → borrows_item slot ≡ false
borrows_none held v Empty row none fits = refl
borrows_none held v (Owned k) row none fits = refl
borrows_none held v (Caller k) row none fits = refl
borrows_none held v (Locked k) row none fits = absurd (none_some fits.borrows.list (sym none ∙ fits.borrows.locked))

pub slot_unlocked : (held : ℕ → ℕ) (v u : View) (slot : Slot) (row : Option ℕ) → KnowsMore v u → v.actor.locked
    ≡ None
    → SlotFits held v slot row → SlotFits held u slot row
slot_unlocked held v u Empty row more none fits = tt
slot_unlocked held v u (Owned k) row more none fits = names_more v u k row more fits
slot_unlocked held v u (Caller k) row more none fits = lent_still held v u k row more fits
slot_unlocked held v u (Locked k) row more none fits =
    absurd (none_some fits.borrows.list (sym none ∙ fits.borrows.locked))

pub no_lock : (base : Base) (s : State) (rows : List (Option ℕ)) (hand : HandState) → Fits base s rows hand
    → s.locked ≡ None → (hand.view.actor.locked ≡ None) × (hand.fields ≡ base.first.fields)
no_lock base s rows hand fits none =
    subst (λ (l : Option ℕ). LocksAs l base.first.fields s rows hand) none fits.lock

-- ---- a try to lock

module _ (base : Base) (s : State) (rows : List (Option ℕ)) (hand after : HandState) (fits : Fits base s rows hand)
    (none : s.locked ≡ None) (kept : KeepsButField hand.view after.view) (table : after.table ≡ hand.table)
    (carried : after.carried ≡ hand.carried) where
  before : HandState
  before = with_field hand after.view.in_field

  abbrev more : KnowsMore hand.view after.view
  more = record { layout = kept.layout; kinds = kept.kinds }

  tried_with : (next : State) → next.slots ≡ s.slots → LocksAs next.locked base.first.fields next rows after
      → Fits base next rows after
  tried_with next same lock = record {
    ready = fits.ready;
    room = fits.room;
    follows = follows_on base.first hand after fits.follows (record {
      table = table;
      layout = kept.layout;
      thread = kept.thread;
      given = kept.given;
      carried = carried;
      used = omega (arith, kept.used);
    });
    rests = kept_rests (with_field hand after.view.in_field) after
        (field_rests hand after.view.in_field fits.rests) kept;
    some_slots = ap (λ (l : List Slot). length l) same ∙ fits.some_slots;
    some_rows = fits.some_rows;
    each = λ i.
        subst (λ (l : List Slot). SlotFits base.held after.view (var_of (record next { slots = l }) i)
        (row_of rows i)) (sym same)
        (slot_unlocked base.held hand.view after.view (var_of s i) (row_of rows i) more
        (no_lock base s rows hand fits none).0
        (fits.each i));
    held = λ y counted.
        ap (λ (l : List ℕ). holds (record after.view { references = l }) y) kept.references
        ∙ (fits.held y counted
        ∙ ap (λ (l : List Slot). base.held y + over_variables (owns y) l rows) (sym same));
    few =
        subst (λ (l : List ℕ). length l ≤ base.most + over_variables (lists base.first.view.layout) next.slots rows)
        (sym kept.references)
        (subst (λ (l : List Slot). length hand.view.references
        ≤ base.most + over_variables (lists base.first.view.layout) l rows) (sym same) fits.few);
    lock = lock;
  }

  -- that fails,
  pub still_fits : after.view.actor.locked ≡ None → after.fields ≡ hand.fields → Fits base s rows after
  still_fits unlocked fields =
      tried_with s refl (subst (λ (l : Option ℕ). LocksAs l base.first.fields s rows after) (sym none)
      (unlocked, fields ∙ (no_lock base s rows hand fits none).1))

  -- and one that wins.
  pub lock_is : (i x : ℕ) → is_empty (var_of s i) ≡ false → row_of rows i ≡ Some x
      → after.view.actor.locked ≡ Some x → after.fields ≡ (x, after.view.in_field) ∷ hand.fields
      → ((word : ℕ) → 0 < word → knows_kind x word hand.view ≡ true → after.view.in_field ≡ resources_of word)
      → Fits base (with_lock s (Some i)) rows after
  lock_is i x used names locked fields kinds =
      let knows = knows_slot base.held hand.view (var_of s i) (row_of rows i) x used (fits.each i) names in
      tried_with (with_lock s (Some i)) refl (record {
        object = x;
        names = names;
        lasting = borrows_none base.held hand.view (var_of s i) (row_of rows i)
            (no_lock base s rows hand fits none).0 (fits.each i);
        used = used;
        locked = locked;
        fields = fields ∙ ap (λ (l : List (ℕ × ℕ)). (x, after.view.in_field) ∷ l)
            (no_lock base s rows hand fits none).1;
        resource = λ has.
            let sees = sees_resource hand.view (kind_of (var_of s i)) x knows has in
            kinds sees.word sees.some sees.seen ∙ sees.has;
      })

-- ---- an unlock

pub unlocks : (base : Base) (s : State) (rows : List (Option ℕ)) (hand after : HandState) (i : ℕ)
    → Fits base s rows hand → LockFits base.first.fields s rows hand i → KeepsWork hand.view after.view
    → after.table ≡ hand.table → after.carried ≡ hand.carried → after.fields ≡ behind_field hand.fields
    → after.view.actor.locked ≡ None → Fits base (with_lock (without_items s) None) rows after
unlocks base s rows hand after i fits lock kept table carried fields unlocked = record {
  ready = fits.ready;
  room = fits.room;
  follows = follows_on base.first hand after fits.follows (kept_follows hand after kept table carried);
  rests = kept_rests hand after fits.rests kept;
  some_slots = length-map s.slots without_item ∙ fits.some_slots;
  some_rows = fits.some_rows;
  each = λ j.
      subst (λ (w : Slot). SlotFits base.held after.view w (row_of rows j)) (sym (var_of-without s j))
      (slot_bare base.held hand.view after.view (var_of s j) (row_of rows j)
      (record { layout = kept.layout; kinds = kept.kinds })
      (fits.each j));
  held = λ y counted.
      ap (λ (l : List ℕ). holds (record after.view { references = l }) y) kept.references
      ∙ (fits.held y counted
      ∙ ap (λ (n : ℕ). base.held y + n) (sym (sum_without (owns y) (owns_without y) s.slots rows)));
  few =
      subst (λ (l : List ℕ). length l
      ≤ base.most + over_variables (lists base.first.view.layout) (map without_item s.slots) rows)
      (sym kept.references)
      (subst (λ (n : ℕ). length hand.view.references ≤ base.most + n)
      (sym (sum_without (lists base.first.view.layout) (lists_without base.first.view.layout) s.slots rows)) fits.few);
  lock = (unlocked, fields ∙ ap behind_field lock.fields);
}
