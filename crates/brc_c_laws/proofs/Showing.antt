-- What the outline shows as broken, where a path breaks a rule.
use Rattle.std.proofs.Common.{◌≡◌, ℕ, true, List, refl, sym, ◌∙◌, subst}
use Rattle.std.specs.Prelude.{Option, None, Some}
use Rattle.brc_lang.specs.declared.check_code.CheckCode.{CheckCode}
use Rattle.brc_c_store.specs.declared.rules.Rules.{Rules}
use Rattle.brc_c_graph.specs.declared.graph.Graph.{Graph}
use Rattle.brc_c_graph.specs.declared.node.NodeId.{NodeId}
use Rattle.brc_c_outline.specs.declared.outline.Broken.{Broken}
use Rattle.brc_c_outline.specs.declared.outline.Outline.{Outline}
use Rattle.brc_c_outline.specs.declared.outline.Point.{Point as OutlinePoint}
use Rattle.brc_c_outline.specs.Outlines.{point_at, broken_in, IsThat, IsBroken}
use Rattle.brc_c_paths.specs.declared.point.Point.{Point}
use Rattle.brc_c_image.specs.GraphOutlines.{code_of_point, label_of, IsBrokenAs, IsOutlineOf}
use Rattle.brc_c_laws.specs.Laws.{IsFollowedToBroken}

module _ (rules : Rules) (graph : Graph) (found : List Point) (o : Outline)
    (outlined : IsOutlineOf rules graph found o true) where
  -- what is shown at the outline's point is what the search's point breaks
  code_shown : (n u : ℕ) (broken : Broken) (here : Option OutlinePoint) → point_at o u ≡ here
      → label_of outlined.labels u ≡ Some n → broken_in here ≡ Some broken
      → code_of_point rules graph found n ≡ Some broken.code
  code_shown n u broken None at labelled e = absurd cc
  code_shown n u broken (Some point) at labelled e =
      subst (IsBrokenAs (code_of_point rules graph found n)) e (outlined.points u n point at labelled).broken

  -- it is the rule that the path breaks
  pub shown_code : (node : NodeId) (code : CheckCode) (broken : Broken)
      (f : IsFollowedToBroken rules graph found o outlined node code) → broken_in (point_at o f.u) ≡ Some broken
      → broken.code ≡ code
  shown_code node code broken f e =
      let shown = code_shown f.n f.u broken (point_at o f.u) refl f.labelled e in
      let both : Some broken.code ≡ Some code = sym shown ∙ f.breaks in
      cc

  -- the path breaks it where the outline says so
  pub shown_broken : (node : NodeId) (code : CheckCode) (broken : Broken)
      (f : IsFollowedToBroken rules graph found o outlined node code) → broken_in (point_at o f.u) ≡ Some broken
      → IsBroken o broken.at broken.code
  shown_broken node code broken f e =
      record {
        choices = f.choices;
        p = f.u;
        leads = f.leads;
        breaks = subst (λ (b : Option Broken). IsThat b broken.at broken.code) (sym e) (refl, refl);
      }
