-- What the invariant says of born rows: each is listed once, is used by its block's thread, and exists.
use Rattle.std.proofs.Common.{ℕ, refl}
use Rattle.brc_lang.specs.declared.module.Module.{Module}
use Rattle.brc_lang.specs.Grammar.{IsModule}
use Rattle.brc_model.specs.Paths.{IsAcceptable}
use Rattle.brc_model.specs.StepMachine.{StepMachine}
use Rattle.brc_model.specs.Progress.{Always, BornOnce, BornListed, BornAreThere, UsedAreBorn, ClosedWereBorn}
use Rattle.brc_model.proofs.Keeping.CodeInvariant.{CodeInvariant}
use Rattle.brc_model.proofs.Basics.Blocks.{born_within}
use Rattle.brc_model.proofs.Dispatch.Counting.{its_found}
use Rattle.brc_model.proofs.Promises.AtTheEnd.{closed_born}
use Rattle.brc_model.proofs.Promises.RowLaws.{always}
use Rattle.brc_model.specs.Layout.{block_of}

once_in : (p : Module) (n : ℕ) (m : StepMachine) → CodeInvariant p n m → BornOnce m
once_in p n m whole = whole.kept.core.born_once

pub born_once : (p : Module) → IsModule p → IsAcceptable p → Always BornOnce p
born_once = always BornOnce once_in

listed_in : (p : Module) (n : ℕ) (m : StepMachine) → CodeInvariant p n m → BornListed m
listed_in p n m whole = λ x. (λ is. whole.kept.core.born_is x is, λ born. whole.kept.core.born_has x born.0 born.1)

pub born_listed : (p : Module) → IsModule p → IsAcceptable p → Always BornListed p
born_listed = always BornListed listed_in

there_in : (p : Module) (n : ℕ) (m : StepMachine) → CodeInvariant p n m → BornAreThere m
there_in p n m whole = λ x born. born_within x whole.kept.core born

pub born_are_there : (p : Module) → IsModule p → IsAcceptable p → Always BornAreThere p
born_are_there = always BornAreThere there_in

used_in : (p : Module) (n : ℕ) (m : StepMachine) → CodeInvariant p n m → UsedAreBorn m
used_in p n m whole = λ x a found low.
    (whole.kept.core.uses (block_of m.layout x) a.actor (its_found m (block_of m.layout x) a found)).born x refl low

pub used_are_born : (p : Module) → IsModule p → IsAcceptable p → Always UsedAreBorn p
used_are_born = always UsedAreBorn used_in

closed_in : (p : Module) (n : ℕ) (m : StepMachine) → CodeInvariant p n m → ClosedWereBorn m
closed_in p n m whole = λ x closed.
    let was = closed_born x whole.kept.core (whole.kept.core.closed_is x closed) in
    whole.kept.core.born_has x was.0 was.1

pub closed_were_born : (p : Module) → IsModule p → IsAcceptable p → Always ClosedWereBorn p
closed_were_born = always ClosedWereBorn closed_in
