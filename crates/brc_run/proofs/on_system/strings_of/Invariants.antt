use Rattle.std.proofs.Common.{◌≡◌, ℕ, List, Bor, map, take}
use Rattle.std.specs.String.{string_bytes}
use Rattle.brc_run.proofs.on_system.strings_of.Given as goal

-- those so far
abbrev pub invariant-loop-name : goal.invariant-loop-name
invariant-loop-name l =
    map string_bytes l.strings.items ≡ map (λ (name : Bor (List ℕ)). name.now) (take l.name-index l.names)
