use Rattle.std.proofs.Common.{◌∙◌, sym, ap}
use Rattle.brc_c_store.specs.Stores.{contents_of}
use Rattle.brc_c_store.specs.Faults.{faults_of}
use Rattle.brc_c_paths.proofs.PathEnds.{emptied_same}
use Rattle.brc_c_paths.proofs.breaking.code_from.Goals as goal

pub returns-then-is_empty : goal.returns-then-is_empty
returns-then-is_empty c =
    c.faults.ensures
    ∙ ap (faults_of c.args.rules c.args.node.now.event)
    (sym (emptied_same (contents_of c.args.store.now) (sym c.is_empty.ensures ∙ c.if-is_empty.true)))
