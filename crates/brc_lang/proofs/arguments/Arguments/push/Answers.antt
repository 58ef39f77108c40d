use Rattle.std.proofs.Common.{◌<◌, length, ap, ◌∙◌, arith}
use Rattle.std.proofs.lemmas.List.{length-take-le, length-set}
use Rattle.brc_lang.specs.Limits.{parameter_limit}
use Rattle.brc_lang.specs.Padding.{no_argument}
use Rattle.brc_lang.proofs.ArgumentLists.{pushed}
use Rattle.brc_lang.proofs.arguments.Arguments.push.Goals as goal

pub invariant_of-self : goal.invariant_of-self
invariant_of-self c =
    let items = c.self.inside.items in
    let len = c.self.inside.len in
    let kept = c.self.invariant in
    let count = length-take-le len items (omega (arith, kept.0, kept.1)) in
    let less : len < parameter_limit = omega (arith, count, ap length c.self.view_is, c.requires) in (
      omega (arith, less),
      length-set items len c.args.argument ∙ kept.1,
      pushed items len parameter_limit c.args.argument no_argument less kept.1 kept.2,
    )
