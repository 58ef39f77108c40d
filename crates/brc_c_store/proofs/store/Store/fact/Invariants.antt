use Rattle.std.proofs.Common.{◌≡◌, drop, find, option_map}
use Rattle.brc_c_store.specs.Values.{same_fact}
use Rattle.brc_c_store.specs.Stores.{contents_of, fact_of}
use Rattle.brc_c_store.proofs.store.Store.fact.Given as goal

abbrev pub invariant-loop-known : goal.invariant-loop-known
invariant-loop-known l =
    option_map (λ known. known.holds)
    (find (λ known. same_fact known.fact l.fact) (drop l.known-index l.self.facts.items))
    ≡ fact_of (contents_of l.self) l.fact
