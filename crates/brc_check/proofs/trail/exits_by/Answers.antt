use Rattle.std.proofs.Common.{ap, ◌∙◌}
use Rattle.brc_model.specs.Paths.{PathEnd, follow, path_end}
use Rattle.brc_check.proofs.Paths.{path_end-more}
use Rattle.brc_check.proofs.trail.exits_by.Goals as goal

pub returns : goal.returns
returns c = λ f v linked is_v.
    ap (path_end f) c.in_ok-push.ensures.ok
    ∙ path_end-more f c.in_ok-exits.exits c.args.exit
    ∙ ap (λ (p : PathEnd). follow f.code p c.args.exit) (c.in_ok-exits.ensures f v linked is_v)
