use Rattle.std.proofs.Common.{◌≡◌, true, subst}
use Rattle.brc_c_image.specs.Images.{IsRightImage, IsWrongImage}
use Rattle.brc_c_image.proofs.checking.checked.Goals as goal

pub returns-then-branch : goal.returns-then-branch
returns-then-branch c =
    let yes : c.in_ok-is_right_image-in-Right.field-0 ≡ true = cc in
    subst (IsRightImage c.args.rules c.args.graph.now) c.as_slice.ensures.value
    (c.in_ok-is_right_image-in-Right.ensures yes)

pub returns-then-branch-2 : goal.returns-then-branch-2
returns-then-branch-2 c =
    let yes : c.in_ok-is_wrong_image-in-Wrong.field-0 ≡ true = cc in
    subst (IsWrongImage c.args.rules c.args.graph.now c.in-Wrong.faults.items) c.as_slice-in-Wrong.ensures.value
    (subst (λ faults. IsWrongImage c.args.rules c.args.graph.now faults c.as_slice-in-Wrong.result.now)
    c.as_slice-faults_now.ensures.value (c.in_ok-is_wrong_image-in-Wrong.ensures yes))
