use Rattle.std.proofs.Common.{◌≡◌, false, List, ℕ, ◌++◌, ◌∷◌, [], ap, ◌∙◌}
use Rattle.serde_json.specs.View.{view}
use Rattle.serde_json.specs.Written.{compact_text, has_float}
use Rattle.brc_command.proofs.ObjectTexts.{no_float}
use Rattle.brc_command.proofs.object.object_line.Goals as goal

pub returns : goal.returns
returns c =
    let built = c.in_ok-object_of.ensures in
    let whole : has_float (view c.in_ok-object_of.field-0) ≡ false =
    rw built.1 (no_float c.args.file.now built.0 c.args.finding.now) in (
      built.0,
      c.in_ok-push.ensures.items
          ∙ ap (λ (l : List ℕ). l ++ 10 ∷ []) (c.in_ok-text.ensures.text whole ∙ ap compact_text built.1),
    )
