use Rattle.std.proofs.Common.{◌≡◌}
use Rattle.std.specs.Prelude.{drop, is_some}
use Rattle.std.specs.List.{list_all}
use Rattle.brc_model.specs.Actions.{argument_rows}
use Rattle.brc_machine.proofs.variables.all_named.Given as goal

-- whether the arguments left all name a row decides whether all do
abbrev pub invariant-loop-argument : goal.invariant-loop-argument
invariant-loop-argument l =
    list_all is_some (argument_rows l.variables (drop l.argument-index l.arguments))
    ≡ list_all is_some (argument_rows l.variables l.arguments)
