use Rattle.std.proofs.Common.{arith}
use Rattle.brc_model.proofs.Keeping.Sound.{module_sound}
use Rattle.brc_work.proofs.calls.callee_at.Goals as goal

pub returns-clause-above : goal.returns-clause-above
returns-clause-above c =
    let m = c.args.checked.now.module in
    let known = c.states_are_true.ensures in
    let (to, arguments, otherwise, found) = c.requires.calls in
    let fits =
    (module_sound m m.version _ known.fits.functions known.fits.calls known.acceptable known.truth).calls
    c.args.function c.args.at to c.args.callee otherwise arguments c.requires.function found in
    omega (arith, fits.above, c.from.ensures)
