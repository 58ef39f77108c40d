use Rattle.std.proofs.Common.{rules}
use Rattle.std.proofs.lemmas.List.Edits.{map_over_more}
use Rattle.std.proofs.lemmas.List.{take_all, drop_all}
use Rattle.brc_c_paths.specs.Numbers.{numbered_section}
use Rattle.brc_c_paths.proofs.numbering.number_sections.Goals as goal

pub loop-section-preserved : goal.loop-section-preserved
loop-section-preserved c = search (rules, map_over_more (numbered_section c.args.order.now))

pub returns : goal.returns
returns c = search (rules, take_all, drop_all)
