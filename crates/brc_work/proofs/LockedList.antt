-- What a worker may do with the list that it has locked, and what that leaves.
use Rattle.std.proofs.Common.{◌≡◌, ◌⊎◌, ℕ, zero, suc, ◌+◌, ◌≤◌, Bool, true, cond, List, ◌∷◌, Option, None, Some, inl, inr, refl, sym, ap, ◌∙◌, subst, arith}
use Rattle.std.specs.Prelude.{◌==◌, count_by}
use Rattle.std.specs.List.{filter}
use Rattle.std.proofs.lemmas.Bool.{cases_Bool, eq-eqb, false≢true}
use Rattle.std.proofs.lemmas.Bool.Decides.{eqb_tells}
use Rattle.brc_model.specs.References.{one_if}
use Rattle.brc_model.specs.declared.layout.Layout.{Layout}
use Rattle.brc_model.specs.declared.state.State.{State}
use Rattle.brc_model.specs.Layout.{is_immortal_row, IsCounted}
use Rattle.brc_model.specs.SlotStates.{names}
use Rattle.brc_model.specs.Threads.{row_of}
use Rattle.brc_model.proofs.Basics.Lists.{some_is, none_some}
use Rattle.brc_table.specs.declared.view.View.{View}
use Rattle.brc_model.specs.OpenWork.{is_about}
use Rattle.brc_table.specs.KnownWords.{known_cell, knows_kind, KnowsCell}
use Rattle.brc_table.specs.Swaps.{MayPut}
use Rattle.brc_table.specs.Views.{holds, without_one, with_reference, without_reference, asking, view_after}
use Rattle.brc_table.specs.Hands.{HandState, HoldsOne, HasNoWork, KeepsLock}
use Rattle.brc_table.proofs.Accounts.{count_with_reference}
use Rattle.brc_list.specs.Calls.{KeepsWork, KeepsBesides, SeesItem, SwapsItem, row_in}
use Rattle.brc_work.specs.Acts.{KeepsCells, Acts, ActsElsewhere}
use Rattle.brc_work.specs.Fits.{Base, Rests, Fits}
use Rattle.brc_work.proofs.CallsBelow.{no_work, kept_acts, asked_cells, with_references, beside_acts, acts_then}
use Rattle.brc_work.proofs.Conditions.{locked_is}
use Rattle.brc_work.proofs.Fitting.{same_fits}
use Rattle.brc_work.proofs.Holding.{lasting_one, lock_of}
use Rattle.brc_work.proofs.Trading.{less_held}

-- ---- the list

-- The variable names the list that the hand has locked.
pub record OnList (hand : HandState) (row : ℕ) : Type 0 where
  pub one : HoldsOne hand.view row
  pub locked : hand.view.actor.locked ≡ Some row

pub on_list : (base : Base) (s : State) (rows : List (Option ℕ)) (hand : HandState) (list row : ℕ)
    → Fits base s rows hand → names s.locked list ≡ true → row_of rows list ≡ Some row → OnList hand row
on_list base s rows hand list row fits is named =
    let lock = lock_of base s rows hand fits list (locked_is s.locked list is) in
    let same : lock.object ≡ row = some_is lock.object row (sym lock.names ∙ named) in
    record {
      one = lasting_one base s rows hand fits list row lock.used lock.lasting named;
      locked = lock.locked ∙ ap Some same;
    }

-- ---- looks at the list

-- The hand has asked how many cells the list has,
pub sized_acts : (hand after : HandState) (x word : ℕ) → Rests hand → KeepsWork hand.view after.view
    → after.table ≡ hand.table → after.carried ≡ hand.carried → after.fields ≡ hand.fields
    → after.view.actor.locked ≡ hand.view.actor.locked → after.view ≡ view_after (asking hand.view x) word
    → ActsElsewhere hand after
sized_acts hand after x word rests kept table carried fields locked view = record {
  acts = kept_acts hand after rests kept table carried fields locked;
  cells = asked_cells hand.view after.view x word view;
}

-- or has looked into a cell.
pub item_cells : (v u : View) (x cell word : ℕ) → v.actor.locked ≡ Some x → SeesItem x cell word v u → KeepsCells v u
item_cells v u x cell word locks sees y i before locked seen =
    let same : x ≡ y = some_is x y (sym locks ∙ locked) in
    let here : known_cell x i v ≡ Some before = ap (λ (z : ℕ). known_cell z i v) same ∙ seen in
    ap (λ (z : ℕ). known_cell z i u) (sym same)
    ∙ elim (eqb_tells i cell) [
      | inl this ↦
          ap (λ (j : ℕ). known_cell x j u) this.1
          ∙ (sees.seen ∙ ap Some (sees.stays before (ap (λ (j : ℕ). known_cell x j v) (sym this.1) ∙ here)))
      | inr apart ↦ sees.others i apart.1 ∙ here
    ]

pub item_acts : (hand after : HandState) (x cell word : ℕ) → Rests hand → KeepsWork hand.view after.view
    → after.table ≡ hand.table → after.carried ≡ hand.carried → after.fields ≡ hand.fields
    → hand.view.actor.locked ≡ Some x → after.view.actor.locked ≡ Some x → SeesItem x cell word hand.view after.view
    → ActsElsewhere hand after
item_acts hand after x cell word rests kept table carried fields before locked sees = record {
  acts = kept_acts hand after rests kept table carried fields (locked ∙ sym before);
  cells = item_cells hand.view after.view x cell word before sees;
}

-- ---- swaps

-- The object is immortal, or the hand holds two references to it.
abbrev HoldsTwo : View → ℕ → Type 0
HoldsTwo v x = (is_immortal_row v.layout x ≡ true) ⊎ (2 ≤ holds v x)

-- To a counted object the hand holds a reference,
one_held : (v : View) (x : ℕ) → IsCounted v.layout x → HoldsOne v x → 1 ≤ holds v x
one_held v x counted (inl immortal) = absurd (false≢true (sym counted ∙ immortal))
one_held v x counted (inr held) = held

-- or two.
two_held : (v : View) (x y : ℕ) → x ≡ y → IsCounted v.layout y → HoldsTwo v x → 2 ≤ holds v x
two_held v x y same counted (inl immortal) =
    absurd (false≢true (sym counted ∙ (ap (is_immortal_row v.layout) (sym same) ∙ immortal)))
two_held v x y same counted (inr held) = held

-- A reference more, and then one less to the same object, is none more.
pub without_with : (layout : Layout) (x : ℕ) (rows : List ℕ)
    → without_reference layout x (with_reference layout x rows) ≡ rows
without_with layout x rows = elim (cases_Bool (is_immortal_row layout x)) [
  | inl is ↦
      ap (λ (b : Bool). cond b (cond b rows (x ∷ rows)) (without_one x (cond b rows (x ∷ rows)))) is
  | inr is ↦
      ap (λ (b : Bool). cond b (cond b rows (x ∷ rows)) (without_one x (cond b rows (x ∷ rows)))) is
      ∙ ap (λ (b : Bool). cond b rows (x ∷ without_one x rows)) (eq-eqb x x refl)
]

-- What came out of the cell.
pub data CameOut (hand after : HandState) (item : ℕ) : Option ℕ → Type 0 where
  Nothing : after.view.references ≡ without_reference hand.view.layout item hand.view.references
      → CameOut hand after item None
  Something : (old : ℕ)
      → after.view.references ≡ with_reference hand.view.layout old
      (without_reference hand.view.layout item hand.view.references)
      → CameOut hand after item (Some old)

pub came_out : (hand after : HandState) (x cell item found : ℕ) (result : Option ℕ)
    → SwapsItem x cell (suc item) found hand.view after.view → result ≡ row_in found → CameOut hand after item result
came_out hand after x cell item zero result swaps is = subst (CameOut hand after item) (sym is)
    (Nothing swaps.references)
came_out hand after x cell item (suc old) result swaps is =
    subst (CameOut hand after item) (sym is) (Something old swaps.references)

pub swapped_acts : (hand after : HandState) (x : ℕ) → Rests hand → KeepsBesides hand.view after.view
    → after.table ≡ hand.table → after.carried ≡ hand.carried → after.fields ≡ hand.fields
    → hand.view.actor.locked ≡ Some x → after.view.actor.locked ≡ Some x → Acts hand after
swapped_acts hand after x rests kept table carried fields before locked =
    let mid = with_references hand after.view.references in
    let beside = beside_acts hand after.view.references rests in
    acts_then hand mid after beside.acts
    (kept_acts mid after beside.acts.rests kept table carried fields (locked ∙ sym before))

module _ (hand after : HandState) (row item old : ℕ) (held : HoldsOne hand.view row)
    (locked : hand.view.actor.locked ≡ Some row) (puts : MayPut hand.view (suc item))
    (layout : after.view.layout ≡ hand.view.layout) (now : after.view.actor.locked ≡ Some row)
    (is : after.view.references
    ≡ with_reference hand.view.layout old (without_reference hand.view.layout item hand.view.references)) where
  abbrev rest : List ℕ
  rest = without_reference hand.view.layout item hand.view.references

  count_is : (y : ℕ) → IsCounted hand.view.layout y → holds after.view y
      ≡ count_by (λ z. z == y) rest + one_if (old == y)
  count_is y there =
      ap (λ (l : List ℕ). count_by (λ z. z == y) l) is ∙ count_with_reference hand.view.layout old y rest there

  -- The hand holds what came out,
  pub out_held : HoldsOne after.view old
  out_held = elim (cases_Bool (is_immortal_row hand.view.layout old)) [
    | inl immortal ↦ inl (ap (λ (l : Layout). is_immortal_row l old) layout ∙ immortal)
    | inr there ↦ inr (omega (arith, count_is old there, ap one_if (eq-eqb old old refl)))
  ]

  left_held : IsCounted hand.view.layout row → 1 ≤ count_by (λ z. z == row) rest
  left_held counted =
      let less = less_held hand.view.layout item row hand.view.references counted puts.0 in
      elim (eqb_tells item row) [
        | inl same ↦ omega (
          arith,
          less,
          two_held hand.view item row same.1 counted (puts.2 (locked ∙ ap Some (sym same.1))),
          ap one_if same.0,
          ap (λ (z : ℕ). holds hand.view z) same.1,
        )
        | inr apart ↦ omega (arith, less, one_held hand.view row counted held, ap one_if apart.0)
      ]

  -- and besides one reference to the list that it has locked.
  pub out_kept : KeepsLock after.view old
  out_kept says =
      let same : row ≡ old = some_is row old (sym now ∙ says) in
      subst (HoldsTwo after.view) same (elim (cases_Bool (is_immortal_row hand.view.layout row)) [
        | inl immortal ↦ inl (ap (λ (l : Layout). is_immortal_row l row) layout ∙ immortal)
        | inr counted ↦ inr
            (omega (arith, count_is row counted, left_held counted, ap one_if (eq-eqb old row (sym same))))
      ])

-- ---- around a swap

-- A hand with other references acts as it would with its own.
pub besides : (hand after : HandState) (references : List ℕ) → Acts hand after
    → Acts (with_references hand references) after
besides hand after references acts = record {
  follows = record {
    table = acts.follows.table;
    layout = acts.follows.layout;
    thread = acts.follows.thread;
    given = acts.follows.given;
    carried = acts.follows.carried;
    used = acts.follows.used;
  };
  rests = acts.rests;
  more = record { layout = acts.more.layout; kinds = acts.more.kinds };
  locked = acts.locked;
  in_field = acts.in_field;
  fields = acts.fields;
}

-- A hand that rests has nothing to do about any row.
pub idle_about : (hand : HandState) (x : ℕ) → Rests hand → HasNoWork hand.view x
idle_about hand x rests = ap (filter (is_about x)) (no_work hand rests)

-- It still knows the cell.
pub knows_cell : (v u : View) (x cell : ℕ) → ((y word : ℕ) → knows_kind y word v ≡ true → knows_kind y word u
    ≡ true)
    → KnowsCell v x cell → KnowsCell u x cell
knows_cell v u x cell kinds knows =
    record { word = knows.word; seen = kinds x knows.word knows.seen; low = knows.low }

-- What a hand may put that has just made a reference to it.
module _ (hand mid : HandState) (x item : ℕ) (on : OnList hand x) (rests : Rests mid)
    (layout : mid.view.layout ≡ hand.view.layout) (locked : mid.view.actor.locked ≡ hand.view.actor.locked)
    (more : mid.view.references ≡ with_reference hand.view.layout item hand.view.references) where
  more_is : (y : ℕ) → IsCounted hand.view.layout y → holds mid.view y ≡ holds hand.view y + one_if (item == y)
  more_is y counted =
      ap (λ (l : List ℕ). count_by (λ z. z == y) l) more
      ∙ count_with_reference hand.view.layout item y hand.view.references counted

  pub still_held : HoldsOne mid.view x
  still_held = elim (cases_Bool (is_immortal_row hand.view.layout x)) [
    | inl immortal ↦ inl (ap (λ (l : Layout). is_immortal_row l x) layout ∙ immortal)
    | inr counted ↦ inr (omega (arith, more_is x counted, one_held hand.view x counted on.one))
  ]

  pub may_put : MayPut mid.view (suc item)
  may_put = (
    elim (cases_Bool (is_immortal_row hand.view.layout item)) [
      | inl immortal ↦ inl (ap (λ (l : Layout). is_immortal_row l item) layout ∙ immortal)
      | inr counted ↦ inr (omega (arith, more_is item counted, ap one_if (eq-eqb item item refl)))
    ],
    idle_about mid item rests,
    λ says.
        let same : x ≡ item = some_is x item (sym on.locked ∙ (sym locked ∙ says)) in
        subst (HoldsTwo mid.view) same (elim (cases_Bool (is_immortal_row hand.view.layout x)) [
          | inl immortal ↦ inl (ap (λ (l : Layout). is_immortal_row l x) layout ∙ immortal)
          | inr counted ↦ inr (omega (
            arith,
            more_is x counted,
            one_held hand.view x counted on.one,
            ap one_if (eq-eqb item x (sym same)),
          ))
        ]),
  )

out_of : (hand after : HandState) (item old : ℕ) (result : Option ℕ) → CameOut hand after item result → result
    ≡ Some old
    → after.view.references
    ≡ with_reference hand.view.layout old (without_reference hand.view.layout item hand.view.references)
out_of hand after item old None (Nothing is) this = absurd (none_some old this)
out_of hand after item old (Some _) (Something other is) this =
    is ∙ ap (λ (x : ℕ). with_reference hand.view.layout x
    (without_reference hand.view.layout item hand.view.references))
    (some_is other old this)

-- The hand has the reference that came out.
pub out_is : (hand after : HandState) (x cell item old found : ℕ) (result : Option ℕ)
    → SwapsItem x cell (suc item) found hand.view after.view → result ≡ row_in found → result ≡ Some old
    → after.view.references
    ≡ with_reference hand.view.layout old (without_reference hand.view.layout item hand.view.references)
out_is hand after x cell item old found result swaps is this =
    out_of hand after item old result (came_out hand after x cell item found result swaps is) this

-- The worker has asked how many cells its list has.
pub sized_fits : (base : Base) (s : State) (rows : List (Option ℕ)) (hand after : HandState) (x word : ℕ)
    → Fits base s rows hand → KeepsWork hand.view after.view → after.table ≡ hand.table → after.carried ≡ hand.carried
    → after.fields ≡ hand.fields → after.view.actor.locked ≡ hand.view.actor.locked → after.view
    ≡ view_after (asking hand.view x) word
    → Fits base s rows after
sized_fits base s rows hand after x word fits kept table carried fields locked view =
    same_fits base s rows hand after fits
    (sized_acts hand after x word fits.rests kept table carried fields locked view)
    kept.references
