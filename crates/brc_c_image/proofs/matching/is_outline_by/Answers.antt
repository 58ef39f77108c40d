use Rattle.std.proofs.Common.{◌≡◌, true, refl}
use Rattle.std.proofs.lemmas.Result.{IfOk-weaker}
use Rattle.brc_c_image.proofs.Outlined.{outlined}
use Rattle.brc_c_image.proofs.matching.is_outline_by.Goals as goal

pub returns : goal.returns
returns c =
    let placed : c.in_ok-are_places.field-0 ≡ true = cc in
    IfOk-weaker c.are_points.result _ _
    (λ yes points so. outlined c.args.rules c.args.graph.now c.args.found.now c.args.outline.now c.args.labels.now
    c.args.places.now c.args.is_whole (c.if-not-begins_if.ensures refl) (c.in_ok-are_places.ensures placed)
    (c.if-not-have_states.ensures refl) (points so))
    c.are_points.ensures
