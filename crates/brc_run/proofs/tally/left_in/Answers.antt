use Rattle.std.proofs.Common.{◌∙◌}
use Rattle.brc_run.proofs.Tallied.{left_in_two}
use Rattle.brc_run.proofs.tally.left_in.Goals as goal

pub returns : goal.returns
returns g c =
    c.in_ok-add_open-2.ensures
    ∙ rw (
      c.in_ok-add_open.ensures,
      c.new-left.ensures,
      c.first_immortal_list.ensures,
      c.first_number.ensures,
      c.rows.ensures,
    ) (left_in_two c.args.end.now.state c.args.layout c.requires.layout)
