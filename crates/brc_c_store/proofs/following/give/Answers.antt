use Rattle.std.proofs.Common.{sym, ap, ◌∙◌}
use Rattle.brc_c_store.specs.Values.{known_to_others}
use Rattle.brc_c_store.specs.Stores.{contents_of, object_of, with_object}
use Rattle.brc_c_store.specs.Giving.{given_up}
use Rattle.brc_c_store.specs.After.{given_away_object}
use Rattle.brc_c_store.proofs.following.give.Goals as goal

pub returns-in-Some : goal.returns-in-Some
returns-in-Some c =
    let refined = contents_of c.refine.new.self in
    let known = ap (λ o. with_object refined c.in-Some.id (known_to_others o)) c.object-object.ensures in
    c.give_up.ensures
    ∙ ap (λ d. given_up d c.in-Some.id) (c.set_object.ensures ∙ known)
    ∙ ap (given_away_object refined) (sym c.in-Some.is ∙ c.object_of.ensures)
    ∙ ap (λ d. given_away_object d (object_of d c.args.local)) c.refine.ensures
