use Rattle.std.proofs.Common.{sym, ap, ◌∙◌}
use Rattle.brc_c_store.specs.Stores.{contents_of}
use Rattle.brc_c_store.specs.Faults.{giving_up, giving_value}
use Rattle.brc_c_store.proofs.breaking.giving.Goals as goal

pub returns-in-Object : goal.returns-in-Object
returns-in-Object c =
    let store = contents_of c.args.store.now in
    c.giving_up.ensures
    ∙ ap (giving_up store c.in-Object.id) c.object.ensures
    ∙ ap (giving_value store) (sym c.in-Object.is ∙ c.value.ensures)

pub returns-in-Maybe : goal.returns-in-Maybe
returns-in-Maybe c =
    let store = contents_of c.args.store.now in
    c.giving_up-in-Maybe.ensures
    ∙ ap (giving_up store c.in-Maybe.id) c.object-in-Maybe.ensures
    ∙ ap (giving_value store) (sym c.in-Maybe.is ∙ c.value.ensures)
