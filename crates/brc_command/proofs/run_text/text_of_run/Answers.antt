use Rattle.std.proofs.Common.{rules}
use Rattle.brc_command.proofs.run_text.text_of_run.Goals as goal

pub returns : goal.returns
returns c = record {
  above = c.in_ok-above.above.items;
  lines = c.as_slice-lines.result.now;
  below = c.as_slice.result.now;
  parts = c.in_ok-text.ensures;
  spells = c.in_ok-wrong.ensures (search rules);
}
