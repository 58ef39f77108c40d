use Rattle.std.proofs.Common.{◌≡◌, ◌∙◌, sym}
use Rattle.brc_c_outline.proofs.breaking.is_broken_by.Goals as goal

pub returns-in-Some : goal.returns-in-Some
returns-in-Some c it =
    record { choices = c.args.choices.now; p = c.in-Some.point; leads = sym c.led_to.ensures ∙ c.in-Some.is; breaks = c.breaks.ensures it }
