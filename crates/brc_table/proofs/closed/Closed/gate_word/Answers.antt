use Rattle.std.proofs.Common.{ap, ◌∙◌}
use Rattle.std.specs.Prelude.{slice_index}
use Rattle.std.specs.Slots.{slots_items}
use Rattle.brc_table.specs.Ending.{ClosedTable}
use Rattle.brc_table.specs.Places.{gate_line, in_tile}
use Rattle.brc_table.proofs.Lists.{index_found}
use Rattle.brc_table.proofs.closed.Closed.gate_word.Goals as goal

pub returns : goal.returns
returns g c =
    let items = slots_items c.self.inside.table.words in
    index_found items c.in_line.result c.word.result c.word.ensures
    ∙ (ap (slice_index items) c.in_line.ensures
    ∙ ap (λ (closed : ClosedTable _). slice_index closed.state.words (in_tile gate_line c.args.row)) c.self.view_is)
