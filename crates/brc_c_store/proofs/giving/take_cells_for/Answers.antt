use Rattle.std.proofs.Common.{rules}
use Rattle.std.proofs.lemmas.List.Edits.{map_over_more}
use Rattle.std.proofs.lemmas.List.{take_all, drop_all}
use Rattle.brc_c_store.specs.Giving.{touched_for}
use Rattle.brc_c_store.proofs.giving.take_cells_for.Goals as goal

pub loop-touched-preserved : goal.loop-touched-preserved
loop-touched-preserved c = search (rules, map_over_more (touched_for c.args.found c.args.id))

pub returns : goal.returns
returns c = search (rules, take_all, drop_all)
