use Rattle.std.proofs.Common.{List, ℕ, option_map, subst, sym}
use Rattle.std.specs.Borrow.{Bor}
use Rattle.brc_command.specs.declared.finding.Finding.TheVariants.{Stopped}
use Rattle.brc_command.specs.Loading.{ReadsAsModule}
use Rattle.brc_command.proofs.Found.{found}
use Rattle.brc_command.proofs.finding.finding_of.Goals as goal

pub returns-in-Ok-found_in-clause-found : goal.returns-in-Ok-found_in-clause-found
returns-in-Ok-found_in-clause-found g c =
    let gives = g.L.Load.may_give c.args.load.now in
    found gives (g.L.Load.may_lack c.args.load.now) c.args.file.now c.as_slice.result.now
    (option_map (λ (name : Bor (List ℕ)). name.now) c.args.function)
    (subst (ReadsAsModule gives c.args.file.now) (sym c.as_slice.ensures.value) c.in-Ok.ensures.loaded)
    c.in-Ok-found_in.finding c.in-Ok-found_in.ensures

pub returns-clause-found : goal.returns-clause-found
returns-clause-found g c =
    let gives = g.L.Load.may_give c.args.load.now in
    found gives (g.L.Load.may_lack c.args.load.now) c.args.file.now c.as_slice.result.now
    (option_map (λ (name : Bor (List ℕ)). name.now) c.args.function)
    (subst (ReadsAsModule gives c.args.file.now) (sym c.as_slice.ensures.value) c.in-Ok.ensures.loaded)
    (Stopped c.in-Err-found_in.stop) c.in-Err-found_in.ensures
