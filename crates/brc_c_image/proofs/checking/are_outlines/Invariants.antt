use Rattle.std.proofs.Common.{◌≡◌, ℕ, ◌<◌}
use Rattle.std.specs.Prelude.{Some, slice_get}
use Rattle.brc_c_image.specs.declared.image.Text.{Text}
use Rattle.brc_c_image.specs.GraphOutlines.{IsOutlineOf}
use Rattle.brc_c_image.proofs.checking.are_outlines.Given as goal

-- the outlines of the texts in front are the graph's
abbrev pub invariant-loop-text : goal.invariant-loop-text
invariant-loop-text l =
    (k : ℕ) (text : Text) → k < l.text-index → slice_get l.texts k ≡ Some text
    → IsOutlineOf l.rules l.graph l.points text.outline text.is_whole
