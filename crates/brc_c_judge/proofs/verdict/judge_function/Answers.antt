use Rattle.std.proofs.Common.{subst}
use Rattle.std.proofs.lemmas.Result.{IfOk-weaker}
use Rattle.brc_c_image.specs.Images.{IsImageOf, IsRightImage, IsWrongImage}
use Rattle.brc_c_judge.proofs.Images.{verdict_of_right, verdict_of_faults}
use Rattle.brc_c_judge.proofs.verdict.judge_function.Goals as goal

pub returns-in-Right : goal.returns-in-Right
returns-in-Right c =
    let image : IsRightImage c.args.rules c.args.graph.now c.in-Right.texts.items =
    subst (IsImageOf c.args.rules c.args.graph.now) c.in-Right.is c.in_ok-size.ensures
    in
    IfOk-weaker c.judge_right.result _ _
    (verdict_of_right c.args.rules c.args.graph.now c.in-Right.texts.items image) c.judge_right.ensures

pub returns-in-Wrong : goal.returns-in-Wrong
returns-in-Wrong c =
    let image : IsWrongImage c.args.rules c.args.graph.now c.in-Wrong.faults.items c.in-Wrong.texts.items =
    subst (IsImageOf c.args.rules c.args.graph.now) c.in-Wrong.is c.in_ok-size.ensures
    in
    IfOk-weaker c.judge_faults.result _ _
    (verdict_of_faults c.args.rules c.args.graph.now c.in-Wrong.faults.items c.in-Wrong.texts.items image)
    c.judge_faults.ensures
