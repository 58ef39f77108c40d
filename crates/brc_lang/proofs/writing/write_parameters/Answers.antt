use Rattle.std.proofs.Common.{List, ℕ, [], ◌∷◌, suc, take, drop, get_or, refl}
use Rattle.std.specs.List.{flat_map}
use Rattle.brc_lang.specs.declared.parameter.Parameter.{Parameter}
use Rattle.brc_lang.specs.declared.parameter.Passing.TheVariants.{Borrow}
use Rattle.brc_lang.specs.declared.kind.Kind.TheVariants.{None}
use Rattle.brc_lang.specs.Grammar.{spaced, parameter_words}
use Rattle.brc_lang.proofs.Written.{stops_between, flat_map_around}
use Rattle.brc_lang.proofs.writing.write_parameters.Goals as goal

abbrev written : Parameter → List ℕ
written p = 32 ∷ spaced (parameter_words (p ∷ []))

pub returns-in_err-write_parameter-clause-begun : goal.returns-in_err-write_parameter-clause-begun
returns-in_err-write_parameter-clause-begun g c =
    let parameters = c.args.parameters.now in
    let i = c.loop-parameter.parameter-index in
    let none : Parameter = record { passing = Borrow; kind = None } in
    let parameter = get_or parameters i none in
    stops_between _ _ _ _ _ (flat_map written (take i parameters)) (written parameter)
    (flat_map written (drop (suc i) parameters))
    (flat_map_around written parameters i none parameter c.loop-parameter-test.true refl)
    c.loop-parameter.invariant c.in_err-write_parameter.ensures.begun
