use Rattle.std.proofs.Common.{not, rules}
use Rattle.std.proofs.lemmas.Fn.{filter_same}
use Rattle.brc_c_store.specs.Values.{same_fact}
use Rattle.brc_c_store.proofs.following.remove_fact.Goals as goal

pub returns : goal.returns
returns c =
    filter_same _ (λ known. not (same_fact known.fact c.args.fact)) _ (λ x b f h. search rules) _ _
    c.retain.ensures.filtered
