-- When an outline is that of a graph, by what is checked of each point.
use Rattle.std.proofs.Common.{◌≡◌, ℕ, List, subst}
use Rattle.std.specs.Prelude.{Bool, IsTrue, Option, Some}
use Rattle.brc_c_store.specs.declared.rules.Rules.{Rules}
use Rattle.brc_c_graph.specs.declared.graph.Graph.{Graph}
use Rattle.brc_c_outline.specs.declared.outline.Outline.{Outline}
use Rattle.brc_c_outline.specs.declared.outline.Point.{Point as OutlinePoint}
use Rattle.brc_c_outline.specs.Outlines.{point_at}
use Rattle.brc_c_paths.specs.declared.point.Point.{Point}
use Rattle.brc_c_image.specs.GraphOutlines.{IsOutlineOf, HoldsAs, PointHolds, Begins, IsPlace, HasStateAt}
use Rattle.brc_c_image.specs.GraphOutlines.{label_of, place_of}

-- what holds of each point, of each place and of the first point
pub outlined : (rules : Rules) (graph : Graph) (found : List Point) (o : Outline) (labels places : List (Option ℕ))
    (is_whole : Bool) → (IsTrue is_whole → Begins o places)
    → ((n u : ℕ) → place_of places n ≡ Some u → IsPlace rules graph found labels places n (Some u))
    → ((n u : ℕ) → place_of places n ≡ Some u → HasStateAt rules found o n (Some u))
    → ((u : ℕ) (point : OutlinePoint) → point_at o u ≡ Some point
    → HoldsAs rules graph found o places is_whole u point (label_of labels u))
    → IsOutlineOf rules graph found o is_whole
outlined rules graph found o labels places is_whole begins passed states points =
    let held : (u n : ℕ) (point : OutlinePoint) → point_at o u ≡ Some point → label_of labels u ≡ Some n
    → PointHolds rules graph found o places is_whole u n point
    = λ u n point at is. subst (HoldsAs rules graph found o places is_whole u point) is (points u point at) in
    record {
      labels = labels;
      places = places;
      points = λ u n point at is. (held u n point at is).is_it;
      others = λ u point at is. subst (HoldsAs rules graph found o places is_whole u point) is (points u point at);
      passed = passed;
      states = states;
      begins = begins;
      goes_on = λ whole u n point at is unbroken. (held u n point at is).goes_on whole unbroken;
    }
