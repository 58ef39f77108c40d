use Rattle.std.proofs.Common.{◌≡◌, true}
use Rattle.std.proofs.lemmas.Result.{IfOk-weaker}
use Rattle.brc_c_image.proofs.checking.is_wrong_image.Goals as goal

pub returns : goal.returns
returns c =
    let paths : c.in_ok-are_paths.field-0 ≡ true = cc in
    let listed : c.in_ok-all_listed.field-0 ≡ true = cc in
    IfOk-weaker c.are_outlines.result _ _
    (λ yes outlines so. record {
      live = c.args.live.now;
      broken = record {
        paths = c.in_ok-are_paths.ensures paths;
        listed = c.in_ok-all_listed.ensures.listed listed;
      };
      outlines = record {
        found = c.args.points.now;
        searched = c.in_ok-all_listed.ensures.searched listed;
        outlines = outlines so;
      };
    })
    c.are_outlines.ensures
