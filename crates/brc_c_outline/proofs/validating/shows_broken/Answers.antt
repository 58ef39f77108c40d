use Rattle.std.proofs.Common.{◌≡◌, sym, subst}
use Rattle.brc_c_outline.specs.Outlines.{ShowsBroken}
use Rattle.brc_c_outline.proofs.validating.shows_broken.Goals as goal

pub returns-in-Some : goal.returns-in-Some
returns-in-Some c it =
    subst (ShowsBroken c.args.function.now c.args.point.now) (sym c.in-Some.is) (c.args.exits.now, c.reports_by.ensures it)
