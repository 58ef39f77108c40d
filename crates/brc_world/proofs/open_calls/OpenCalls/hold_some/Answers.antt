use Rattle.std.proofs.Common.{◌≡◌, sym, ap, ◌∙◌}
use Rattle.std.specs.List.{list_any}
use Rattle.brc_world.specs.OpenCalls.{names_row}
use Rattle.brc_world.proofs.Around.{any_around}
use Rattle.brc_world.proofs.open_calls.OpenCalls.hold_some.Goals as goal

pub returns : goal.returns
returns c =
    let same : c.as_slice.result.now ≡ c.self.inside.calls.items = search in
    rw (sym c.self.view_is)
    (c.some_names.ensures ∙ ap (list_any names_row) same ∙ any_around c.self.inside.calls.items)
