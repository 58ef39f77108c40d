use Rattle.std.proofs.Common.{sym, ap, ◌∙◌}
use Rattle.brc_c_store.specs.Stores.{contents_of, object_of}
use Rattle.brc_c_store.specs.After.{or_too_many, taken_object}
use Rattle.brc_c_store.proofs.following.take.Goals as goal

pub returns-in-Some : goal.returns-in-Some
returns-in-Some c =
    let refined = contents_of c.refine.new.self in
    c.take_object.ensures
    ∙ ap (λ o. or_too_many (taken_object refined o)) (sym c.in-Some.is ∙ c.object_of.ensures)
    ∙ ap (λ d. or_too_many (taken_object d (object_of d c.args.local))) c.refine.ensures
