-- Where choices lead in an outline.
use Rattle.std.proofs.Common.{◌≡◌, ◌⊎◌, ℕ, List, [], ◌∷◌, ◌++◌, length, inl, inr, refl, sym, ap, ◌∙◌, subst}
use Rattle.std.proofs.lemmas.List.Sums.{fold-append}
use Rattle.std.proofs.lemmas.Option.{slice_get_read}
use Rattle.std.specs.Prelude.{true, Option, None, Some, slice_get, Contains}
use Rattle.brc_c_store.specs.declared.event.Choice.{Choice}
use Rattle.brc_c_store.specs.declared.rules.Rules.{Rules}
use Rattle.brc_c_graph.specs.declared.graph.Graph.{Graph}
use Rattle.brc_model.specs.declared.state.State.{State}
use Rattle.brc_c_outline.specs.declared.outline.Outline.{Outline}
use Rattle.brc_c_outline.specs.declared.outline.Point.{Point as OutlinePoint}
use Rattle.brc_c_outline.specs.Outlines.{point_at, goes, goes_from, led_to}
use Rattle.brc_c_paths.specs.declared.point.Point.{Point}
use Rattle.brc_c_image.specs.GraphOutlines.{code_of_point, leads_to, place_of, GoesAlong, PassesTo}
use Rattle.brc_c_image.specs.GraphOutlines.{IsPlace, IsInState, HasStateOf, BeginsIn, IsOutlineOf}

-- choices lead to where paths go from the search's point n
pub record IsLedTo (o : Outline) (places : List (Option ℕ)) (n : ℕ) : Type 0 where
  pub u : ℕ
  pub choices : List ℕ
  pub there : place_of places n ≡ Some u
  pub leads : led_to o choices ≡ Some u

-- one more choice leads along a way
leads_along : (o : Outline) (choices : List ℕ) (u v : ℕ) (point : OutlinePoint) → point_at o u ≡ Some point
    → led_to o choices ≡ Some u → (v ≡ u) ⊎ Contains point.ways.items v
    → (more : List ℕ) × (led_to o more ≡ Some v)
leads_along o choices u v point at leads (inl same) = (choices, leads ∙ ap Some (sym same))
leads_along o choices u v point at leads (inr contained) =
    let way : slice_get point.ways.items contained.0 ≡ Some v =
    slice_get_read point.ways.items (length point.ways.items) contained.0 v refl contained.1 (sym contained.2) in (
      choices ++ contained.0 ∷ [],
      fold-append (goes o) (Some 0) choices (contained.0 ∷ []) ∙ (ap (λ here. goes o here contained.0) leads
          ∙ (ap (λ here. goes_from here contained.0) at ∙ way)),
    )

led_along : (o : Outline) (places : List (Option ℕ)) (choices : List ℕ) (u m : ℕ) (point : OutlinePoint)
    → point_at o u ≡ Some point → led_to o choices ≡ Some u → GoesAlong places point u (Some m)
    → IsLedTo o places m
led_along o places choices u m point at leads along =
    let more = leads_along o choices u along.0 point at leads along.2 in
    record { u = along.0; choices = more.0; there = along.1; leads = more.1 }

begins_at : (o : Outline) (places : List (Option ℕ)) (here : Option OutlinePoint) → point_at o 0 ≡ here
    → BeginsIn places here → IsLedTo o places 0
begins_at o places None at begins = absurd begins
begins_at o places (Some point) at begins = led_along o places [] 0 0 point at refl begins

in_state : (state : State) (here : Option OutlinePoint) → IsInState state here
    → (point : OutlinePoint) × (here ≡ Some point)
in_state state None is = absurd is
in_state state (Some point) is = (point, refl)

module _ (rules : Rules) (graph : Graph) (found : List Point) (o : Outline)
    (outlined : IsOutlineOf rules graph found o true) where
  -- choices lead to where paths begin
  pub led_first : IsLedTo o outlined.places 0
  led_first = begins_at o outlined.places (point_at o 0) refl (outlined.begins refl)

  -- the outline has a point where paths go from one of the search
  point_there : (n u : ℕ) (point : Point) → slice_get found n ≡ Some point → place_of outlined.places n ≡ Some u
      → (here : OutlinePoint) × (point_at o u ≡ Some here)
  point_there n u point it there =
      in_state _ (point_at o u) (subst (HasStateOf rules o u) it (outlined.states n u there))

  led_from : (n m : ℕ) (point : Point) (choice : Choice) → slice_get found n ≡ Some point
      → code_of_point rules graph found n ≡ None → leads_to found n choice ≡ Some m
      → (led : IsLedTo o outlined.places n)
      → IsPlace rules graph found outlined.labels outlined.places n (Some led.u) → IsLedTo o outlined.places m
  led_from n m point choice it unbroken leads led (inl labelled) =
      let here = point_there n led.u point it led.there in
      led_along o outlined.places led.choices led.u m here.0 here.1 led.leads
      (subst (GoesAlong outlined.places here.0 led.u) leads
      (outlined.goes_on refl led.u n here.0 here.1 labelled unbroken choice))
  led_from n m point choice it unbroken leads led (inr passes) =
      record {
        u = led.u;
        choices = led.choices;
        there = subst (PassesTo outlined.places led.u) leads (passes.ways choice);
        leads = led.leads;
      }

  -- where the event of a search's point breaks no rule, choices lead on to where paths go by each of its ways
  pub led_on : (n m : ℕ) (point : Point) (choice : Choice) → slice_get found n ≡ Some point
      → code_of_point rules graph found n ≡ None → leads_to found n choice ≡ Some m
      → IsLedTo o outlined.places n → IsLedTo o outlined.places m
  led_on n m point choice it unbroken leads led =
      led_from n m point choice it unbroken leads led (outlined.passed n led.u led.there)
