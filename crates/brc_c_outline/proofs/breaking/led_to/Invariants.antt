use Rattle.std.proofs.Common.{◌≡◌}
use Rattle.std.specs.Prelude.{Some, drop}
use Rattle.std.specs.List.{fold}
use Rattle.brc_c_outline.specs.Outlines.{goes, led_to}
use Rattle.brc_c_outline.proofs.breaking.led_to.Given as goal

-- the choices that are left lead from here to where all lead from the first point
abbrev pub invariant-loop-choice : goal.invariant-loop-choice
invariant-loop-choice l =
    fold (goes l.outline) l.point (drop l.choice-index l.choices) ≡ led_to l.outline l.choices
