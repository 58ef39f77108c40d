use Rattle.std.proofs.Common.{sym, ap, ◌∙◌}
use Rattle.brc_c_judge.specs.Texts.{Shown}
use Rattle.brc_c_paths.specs.Paths.{Breaks}
use Rattle.brc_c_paths.specs.Closed.{IsPathOf}
use Rattle.brc_c_paths.specs.Paths.{choices_of}
use Rattle.brc_c_judge.proofs.Confirming.{among_results}
use Rattle.brc_c_judge.proofs.laws.every_walk_is_a_graph_path.Goals as goal

pub returns : goal.returns
returns c rules graph live confirmed faults it among shown at code reports =
    let broken =
    c.every_walk_is_a_path.ensures shown.shows.function it.text.outline at code shown.shows.image reports
    in
    let only = shown.only at code broken in
    let path : IsPathOf rules graph live it.fault =
    faults.paths it.fault (among_results (λ (one : Shown). one.fault) confirmed it among)
    in
    record {
      there = only.0;
      same = only.1;
      breaks = record {
        choices = choices_of it.fault.path.items;
        breaks = path ∙ ap (Breaks it.fault.node) (sym only.1);
      };
    }
