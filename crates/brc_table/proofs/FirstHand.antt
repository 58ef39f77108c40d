-- Once a hand has made a step, has been given out or was joined, main's hand as it was at first isn't the only one.
use Rattle.std.proofs.Common.{◌≡◌, ℕ, zero, suc, List, [], ◌∷◌, ◌++◌, length, sym, ap, ◌∙◌, refl, arith}
use Rattle.std.proofs.lemmas.List.{length-append}
use mathlib.Core.Option.{some, some-injective, some-ne-none}
use lib.ListN.{get_elem?}
use Rattle.brc_model.specs.declared.duty.Duty.{Duty}
use Rattle.brc_model.specs.declared.event.WordEvent.{WordEvent}
use Rattle.brc_model.specs.declared.layout.Layout.{Layout}
use Rattle.brc_table.specs.Plan.{Plan}
use Rattle.brc_table.specs.declared.view.View.{View}
use Rattle.brc_table.specs.Views.{event_of, view_by, main_view}
use Rattle.brc_table.specs.Homes.{HoldsFirstWords}

-- If main's hand is the only one, each hand is main's.
is_main : (layout : Layout) (id : ℕ) (w : View) → get_elem? (main_view layout ∷ []) id ≡ some w → w ≡ main_view layout
is_main layout zero w is = sym (some-injective (main_view layout) w is)
is_main layout (suc id) w is = absurd (some-ne-none w (sym is))

pub is_first : (layout : Layout) (views : List View) (id : ℕ) (w : View) → get_elem? views id ≡ some w
    → views ≡ main_view layout ∷ [] → w ≡ main_view layout
is_first layout views id w there only =
    is_main layout id w (ap (λ (l : List View). get_elem? l id) (sym only) ∙ there)

-- It has made no step.
pub with_event : {A : Type 0} (layout : Layout) (views : List View) (id : ℕ) (w : View) (trace : List WordEvent)
    (event : WordEvent) → get_elem? views id ≡ some w → w.trace ≡ trace ++ event ∷ []
    → views ≡ main_view layout ∷ [] → A
with_event layout views id w trace event there is only =
    let none : trace ++ event ∷ [] ≡ [] = sym is ∙ ap (λ (v : View). v.trace) (is_first layout views id w there only) in
    absurd (omega (arith, length-append trace (event ∷ []), ap length none))

-- So it isn't a hand that has done a duty.
pub with_duty : {A : Type 0} (layout : Layout) (views : List View) (id : ℕ) (u : View) (d : Duty) (rest : List Duty)
    (found : ℕ) → get_elem? views id ≡ some (view_by u (d ∷ rest) found) → views ≡ main_view layout ∷ [] → A
with_duty layout views id u d rest found there only =
    with_event layout views id (view_by u (d ∷ rest) found) u.trace (event_of u d found) there refl only

-- While main's hand is as it was at first, and the only one, the words are the first ones.
pub first_hold : {T : Type 0} (plan : Plan) (v : View) → v ≡ main_view plan.layout → HoldsFirstWords T plan v
first_hold plan v is words homes holds = holds.first (ap (λ (w : View). w ∷ []) is)
