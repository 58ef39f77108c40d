use Rattle.std.proofs.Common.{arith, sym, ap, ◌∙◌}
use Rattle.brc_check.specs.Entries.{end_of}
use Rattle.brc_check.proofs.Steps.{arrives-within}
use Rattle.brc_check.proofs.inferring.lead.Goals as goal

pub settle-requires : goal.settle-requires
settle-requires c =
    let within =
    arrives-within c.args.code.now c.args.at c.in-To.next c.args.state.now c.in-To.arriving c.args.exit
    (sym c.follow-led.ensures ∙ ap (end_of c.args.at) c.in-To.is) in
    omega (arith, within, c.requires.same_length)
