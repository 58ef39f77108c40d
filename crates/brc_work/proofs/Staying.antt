-- What a worker's call leaves of the knowledge that its variables stand on.
use Rattle.std.proofs.Common.{◌≡◌, ℕ, suc, ◌<◌, ◌≤◌, Option, sym, ◌∙◌, subst}
use Rattle.brc_lang.specs.declared.kind.Kind.{Kind}
use Rattle.brc_model.specs.declared.layout.Layout.{Layout}
use Rattle.brc_model.specs.declared.state.Slot.{Slot}
use Rattle.brc_model.specs.declared.state.Slot.TheVariants.{Empty, Owned, Caller, Locked}
use Rattle.brc_model.specs.Layout.{row_count, first_immortal_list, first_number, IsCounted}
use Rattle.brc_model.specs.SlotStates.{without_item}
use Rattle.brc_table.specs.declared.view.View.{View}
use Rattle.brc_table.specs.Hands.{Borrows}
use Rattle.brc_work.specs.Acts.{KnowsMore, KeepsCells}
use Rattle.brc_work.specs.Fits.{KnowsKind, Unknown, OfNone, OfRoot, OfImmortalList, HasSeen, Names, NamesLent, SlotFits}

-- A hand has locked what it had locked, and what it has seen in the locked list is still there.
pub record Stays (v u : View) : Type 0 where
  pub more : KnowsMore v u
  pub locked : u.actor.locked ≡ v.actor.locked
  pub cells : KeepsCells v u

-- ---- one variable

pub knows_more : (v u : View) (kind : Kind) (x : ℕ) → KnowsMore v u → KnowsKind v kind x → KnowsKind u kind x
knows_more v u kind x more (Unknown any) = Unknown any
knows_more v u kind x more (OfNone this is) = OfNone this is
knows_more v u kind x more (OfRoot this is) = OfRoot this is
knows_more v u kind x more (OfImmortalList from below is) =
    OfImmortalList (subst (λ (l : Layout). first_immortal_list l ≤ x) (sym more.layout) from)
    (subst (λ (l : Layout). x < first_number l) (sym more.layout) below) is
knows_more v u kind x more (HasSeen word some seen is) = HasSeen word some (more.kinds x word seen) is

pub names_more : (v u : View) (kind : Kind) (row : Option ℕ) → KnowsMore v u → Names v kind row → Names u kind row
names_more v u kind row more names =
    record { object = names.object; is = names.is; knows = knows_more v u kind names.object more names.knows }

pub borrows_still : (v u : View) (x : ℕ) → Stays v u → Borrows v x → Borrows u x
borrows_still v u x stays borrows = record {
  list = borrows.list;
  cell = borrows.cell;
  locked = stays.locked ∙ borrows.locked;
  seen = stays.cells borrows.list borrows.cell (suc x) borrows.locked borrows.seen;
  there = subst (λ (l : Layout). x < row_count l) (sym stays.more.layout) borrows.there;
}

-- What is lent stays lent.
pub lent_still : (held : ℕ → ℕ) (v u : View) (kind : Kind) (row : Option ℕ) → KnowsMore v u → NamesLent held v kind row
    → NamesLent held u kind row
unfolding names_more
lent_still held v u kind row more fits = record {
  names = names_more v u kind row more fits.names;
  lent = λ counted. fits.lent (subst (λ (l : Layout). IsCounted l fits.names.object) more.layout counted);
}

-- What the slot says stays true.
pub slot_stays : (held : ℕ → ℕ) (v u : View) (slot : Slot) (row : Option ℕ) → Stays v u → SlotFits held v slot row
    → SlotFits held u slot row
unfolding names_more
slot_stays held v u Empty row stays fits = tt
slot_stays held v u (Owned kind) row stays fits = names_more v u kind row stays.more fits
slot_stays held v u (Caller kind) row stays fits = lent_still held v u kind row stays.more fits
slot_stays held v u (Locked kind) row stays fits = record {
  names = names_more v u kind row stays.more fits.names;
  borrows = borrows_still v u fits.names.object stays fits.borrows;
}

-- Where nothing is borrowed any more, it stays true whatever became of the list.
pub slot_bare : (held : ℕ → ℕ) (v u : View) (slot : Slot) (row : Option ℕ) → KnowsMore v u
    → SlotFits held v slot row
    → SlotFits held u (without_item slot) row
slot_bare held v u Empty row more fits = tt
slot_bare held v u (Owned kind) row more fits = names_more v u kind row more fits
slot_bare held v u (Caller kind) row more fits = lent_still held v u kind row more fits
slot_bare held v u (Locked kind) row more fits = tt
