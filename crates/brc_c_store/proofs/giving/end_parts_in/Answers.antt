use Rattle.std.proofs.Common.{rules}
use Rattle.std.proofs.lemmas.List.Edits.{map_over_more}
use Rattle.std.proofs.lemmas.List.{take_all, drop_all}
use Rattle.brc_c_store.specs.Giving.{without_lender}
use Rattle.brc_c_store.proofs.giving.end_parts_in.Goals as goal

pub loop-object-preserved : goal.loop-object-preserved
loop-object-preserved c = search (rules, map_over_more (without_lender c.args.lender))

pub returns : goal.returns
returns c = search (rules, take_all, drop_all)
