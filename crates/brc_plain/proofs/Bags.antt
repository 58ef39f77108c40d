-- What the code asks of its references is what the model asks of its own.
use Rattle.std.proofs.Common.{◌≡◌, ℕ, Bool, List, [], ◌∷◌, ◌++◌, take, drop, map, refl, ap}
use Rattle.std.specs.Prelude.{◌||◌}
use Rattle.std.specs.List.{list_any}
use Rattle.brc_model.specs.AbstractState as model
use Rattle.brc_plain.specs.declared.bag.Reference.{Reference}
use Rattle.brc_plain.specs.Bags.{reference_in}

-- Some reference of the code passes the test exactly if some of the model's does.
pub any_in : (test : model.Reference → Bool) (bag : List Reference)
    → list_any (λ (r : Reference). test (reference_in r)) bag ≡ list_any test (map reference_in bag)
any_in test [] = refl
any_in test (r ∷ bag) = ap (λ (b : Bool). test (reference_in r) || b) (any_in test bag)

-- the references before this place, and those from it on without the first that is the same
abbrev pub without_from : model.Reference → List Reference → ℕ → List model.Reference
without_from r bag i = map reference_in (take i bag) ++ model.without r (map reference_in (drop i bag))
