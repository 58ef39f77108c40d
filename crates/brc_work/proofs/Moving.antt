-- A variable's reference goes to another variable.
use Rattle.std.proofs.Common.{◌≡◌, ◌≢◌, ◌⊎◌, ℕ, ◌<◌, ◌≤◌, true, false, List, Option, None, Some, inl, inr, refl, sym, ap, ◌∙◌, subst}
use Rattle.std.specs.Prelude.{◌||◌, slice_set}
use Rattle.std.proofs.lemmas.Bool.{false≢true}
use Rattle.brc_lang.specs.declared.module.Instr.TheVariants as instructions
use Rattle.brc_model.specs.declared.layout.Layout.{Layout}
use Rattle.brc_model.specs.declared.state.Slot.{Slot}
use Rattle.brc_model.specs.declared.state.Slot.TheVariants.{Empty, Owned}
use Rattle.brc_model.specs.declared.state.State.{State}
use Rattle.brc_model.specs.declared.state.Exit.TheVariants.{Success}
use Rattle.brc_model.specs.Layout.{is_immortal_row}
use Rattle.brc_model.specs.SlotStates.{var_of, kind_of, is_empty, is_owned, is_borrowed, names, put, lowest, after}
use Rattle.brc_model.specs.Threads.{row_of}
use Rattle.brc_model.proofs.Basics.Lists.{first_false, second_false}
use Rattle.brc_model.proofs.Dispatch.Grounded.{var_of-put_other}
use Rattle.brc_model.proofs.Dispatch.Passing.{are_met}
use Rattle.brc_table.specs.Views.{holds, without_reference}
use Rattle.brc_table.specs.Hands.{HandState, HoldsOne}
use Rattle.brc_work.specs.Changes.{CanFill, CanGive}
use Rattle.brc_work.specs.Fits.{Base, Fits}
use Rattle.brc_work.proofs.CallsBelow.{itself_acts, beside_acts, beside_back, with_references}
use Rattle.brc_work.proofs.Conditions.{kept, can_give}
use Rattle.brc_work.proofs.Fitting.{Trades, refits}
use Rattle.brc_work.proofs.Holding.{owned_one, knows_slot}
use Rattle.brc_work.proofs.Trading.{owned_kind, loses, regains, nothing}

abbrev pub after_move : State → ℕ → ℕ → State
after_move s to from = after (instructions.Move to from) Success s

-- What a hand holds, or none is counted, in the layout of its table.
pub held_in : (layout : Layout) (hand : HandState) (x : ℕ) → hand.view.layout ≡ layout → HoldsOne hand.view x
    → (is_immortal_row layout x ≡ true) ⊎ (1 ≤ holds hand.view x)
held_in layout hand x same (inl immortal) = inl (subst (λ (l : Layout). is_immortal_row l x ≡ true) same immortal)
held_in layout hand x same (inr some) = inr some

-- A variable's reference is given up: the hand has a reference less.
pub given : (base : Base) (s : State) (rows : List (Option ℕ)) (hand after : HandState) (from x : ℕ)
    → Fits base s rows hand → CanGive s from → row_of rows from ≡ Some x
    → after.view.references ≡ without_reference base.first.view.layout x hand.view.references
    → Trades base.first.view.layout (var_of s from) Empty (row_of rows from) None hand after
given base s rows hand after from x fits can is less =
    let owned = owned_kind (var_of s from) can.owned in
    let held = held_in base.first.view.layout hand x fits.follows.layout
    (owned_one base s rows hand fits from x can.owned is) in
    subst (λ (w : Slot). Trades base.first.view.layout w Empty (row_of rows from) None hand after) (sym owned.1)
    (subst (λ (w : Option ℕ). Trades base.first.view.layout (Owned owned.0) Empty w None hand after) (sym is)
    (loses base.first.view.layout owned.0 x hand after held less))

pub moved : (base : Base) (s : State) (rows : List (Option ℕ)) (hand : HandState) (to from x : ℕ)
    → Fits base s rows hand → lowest (instructions.Move to from) s ≡ None → from < 16 → to < 16
    → row_of rows from ≡ Some x
    → Fits base (after_move s to from) (slice_set (slice_set rows from None) to (Some x)) hand
moved base s rows hand to from x fits passes low low_to is =
    let met = are_met (instructions.Move to from) s passes in
    let slot = var_of s from in
    let used = kept (is_empty slot) met.not_empty in
    let give = can_give s from used (kept (is_borrowed slot) met.owned)
    (first_false (names s.locked from) (names s.locked to || false) met.unlocked) in
    let to_unlocked = kept (names s.locked to) (second_false (names s.locked from) (names s.locked to || false)
    met.unlocked) in
    let free = kept (is_owned (var_of s to)) met.free in
    let apart : to ≢ from = λ e.
    false≢true (sym free ∙ (ap (λ (i : ℕ). is_owned (var_of s i)) e ∙ give.owned)) in
    let references = without_reference base.first.view.layout x hand.view.references in
    let mid = with_references hand references in
    let one = refits base s rows hand mid from Empty None fits low give.unlocked
    (beside_acts hand references fits.rests) tt
    (given base s rows hand mid from x fits give is refl) in
    let held = held_in base.first.view.layout hand x fits.follows.layout
    (owned_one base s rows hand fits from x give.owned is) in
    let knows = knows_slot base.held hand.view slot (row_of rows from) x used (fits.each from) is in
    refits base (put s from Empty) (slice_set rows from None) mid hand to (Owned (kind_of slot)) (Some x) one low_to
    to_unlocked
    (beside_back hand references fits.rests)
    (record { object = x; is = refl; knows = knows })
    (regains base.first.view.layout (var_of (put s from Empty) to) (row_of (slice_set rows from None) to)
    (kind_of slot) x mid hand
    (ap is_owned (var_of-put_other s from to Empty apart) ∙ free) held refl)

-- A variable that owns nothing names nothing from then on.
pub cleared : (base : Base) (s : State) (rows : List (Option ℕ)) (hand : HandState) (to : ℕ) → Fits base s rows hand
    → CanFill s to → to < 16 → Fits base (put s to Empty) (slice_set rows to None) hand
cleared base s rows hand to fits can low =
    refits base s rows hand hand to Empty None fits low can.unlocked (itself_acts hand fits.rests) tt
    (nothing base.first.view.layout (var_of s to) Empty (row_of rows to) None hand hand can.free refl refl)
