-- None of the functions so far has the name.
use Rattle.brc_explain.proofs.Named.{NoneBelow}
use Rattle.brc_explain.proofs.refused.function_named.Given as goal

abbrev pub invariant-loop-function : goal.invariant-loop-function
invariant-loop-function l = NoneBelow l.functions l.name l.function-index
