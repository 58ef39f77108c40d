use Rattle.brc_c_paths.proofs.Listed.{point_there}
use Rattle.brc_c_paths.proofs.closing.is_point_at.Goals as goal

pub returns-in-Some : goal.returns-in-Some
returns-in-Some c so =
    point_there c.args.points.now c.args.number c.in-Some.point.now _ c.in-Some.ensures.lookup.3.0
    (c.in-Some.ensures.lookup.3.1 c.in-Some.point.now) (c.is_this.ensures so)
