use Rattle.std.proofs.Common.{rules}
use Rattle.std.proofs.lemmas.List.Edits.{map_over_more}
use Rattle.std.proofs.lemmas.List.{take_all, drop_all}
use Rattle.brc_c_paths.specs.Numbers.{numbered_name}
use Rattle.brc_c_paths.proofs.numbering.number_names.Goals as goal

pub loop-named-preserved : goal.loop-named-preserved
loop-named-preserved c = search (rules, map_over_more (numbered_name c.args.order.now))

pub returns : goal.returns
returns c = search (rules, take_all, drop_all)
