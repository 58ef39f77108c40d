use Rattle.std.proofs.Common.{not, List, ap, rules, tests}
use Rattle.std.proofs.lemmas.Fn.{filter_same}
use Rattle.brc_c_store.specs.declared.cell.Touched.{Touched}
use Rattle.brc_c_store.specs.Stores.{contents_of}
use Rattle.brc_c_store.specs.Cells.{is_held_by}
use Rattle.brc_c_store.proofs.store.Store.drop_cells_of.Goals as goal

pub returns : goal.returns
returns c =
    let kept =
    filter_same _ (λ t. not (is_held_by c.args.holder t)) _ (λ x b q k. search (rules, tests)) _ _
    c.retain.ensures.filtered in
    ap (λ (ts : List Touched). record (contents_of c.args.self.now) { cells = ts }) kept
