-- The line about a module that was accepted.
use Rattle.std.specs.Prelude.{ℕ, List, ◌++◌, length, sum_by, codes, decimal}
use Rattle.brc_lang.specs.declared.module.Function.{Function}
use Rattle.brc_lang.specs.declared.module.Module.{Module}
use Rattle.brc_lang.specs.Grammar.{line}

-- the instructions of all functions together
abbrev pub instruction_count : List Function → ℕ
instruction_count functions = sum_by (λ f. length f.code) functions

-- the line with the digits of the two counts
abbrev pub counts_text : List ℕ → List ℕ → List ℕ
counts_text functions instructions =
    line (codes "accepted " ++ functions ++ codes " functions " ++ instructions ++ codes " instructions")

abbrev pub accepted_text : Module → List ℕ
accepted_text m = counts_text (decimal (length m.functions)) (decimal (instruction_count m.functions))
