-- The greatest number of instructions of a module.
use Rattle.std.proofs.Common.{◌*◌, ◌≤◌, List, [], ◌∷◌, length, arith}
use Rattle.std.specs.List.{AllByRecursion}
use Rattle.std.proofs.lemmas.List.Sums.{sum_by-cons}
use Rattle.brc_lang.specs.declared.module.Function.{Function}
use Rattle.brc_lang.specs.declared.module.Module.{Module}
use Rattle.brc_lang.specs.Grammar.{IsFunction, IsModule}
use Rattle.brc_lang.specs.Limits.{function_limit, instruction_limit}
use Rattle.brc_command.specs.Accepted.{instruction_count}

most_each : (fs : List Function) → AllByRecursion IsFunction fs → instruction_count fs ≤ length fs * instruction_limit
most_each [] all = omega arith
most_each (f ∷ fs) all =
    let first : length f.code ≤ instruction_limit = all.0.most in
    omega (arith, sum_by-cons (λ (g : Function). length g.code) f fs, most_each fs all.1, first)

pub most_instructions : (m : Module) → IsModule m → instruction_count m.functions ≤ function_limit * instruction_limit
most_instructions m fits =
    let functions : length m.functions ≤ function_limit = fits.most in
    omega (arith, most_each m.functions fits.functions, functions)
