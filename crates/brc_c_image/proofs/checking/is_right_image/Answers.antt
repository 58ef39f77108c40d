use Rattle.std.proofs.Common.{◌≡◌, true}
use Rattle.std.proofs.lemmas.Result.{IfOk-weaker}
use Rattle.brc_c_image.proofs.checking.is_right_image.Goals as goal

pub returns : goal.returns
returns c =
    let right : c.in_ok-is_right.field-0 ≡ true = cc in
    IfOk-weaker c.are_outlines.result _ _
    (λ yes outlines so. record {
      live = c.args.live.now;
      right = c.in_ok-is_right.ensures.right right;
      outlines = record {
        found = c.args.points.now;
        searched = c.in_ok-is_right.ensures.searched right;
        outlines = outlines so;
      };
    })
    c.are_outlines.ensures
