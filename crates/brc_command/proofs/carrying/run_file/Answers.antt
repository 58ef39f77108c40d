use Rattle.std.proofs.Common.{rules, map, ap, ◌∙◌, subst}
use Rattle.brc_lang.specs.declared.module.Module.{Module}
use Rattle.brc_model.specs.declared.thread.Call.{Call}
use Rattle.brc_run.specs.Runs.{IsTallyOfRun}
use Rattle.brc_report.specs.Report.{tally_text}
use Rattle.brc_command.specs.Calls.{calls_named}
use Rattle.brc_command.proofs.carrying.run_file.Goals as goal

-- The module is the file's, and the run is of it.
pub returns-in-Ok-write_tally-clause-reported : goal.returns-in-Ok-write_tally-clause-reported
returns-in-Ok-write_tally-clause-reported g c =
    let loaded = c.in-Ok.ensures.accepted in (
      tally_text c.in_ok-counted.counted.tally,
      record {
        module_text = loaded.0;
        m = c.in-Ok.checked.module;
        tally = c.in_ok-counted.counted.tally;
        given = loaded.1;
        accepted = loaded.2;
        ran = record {
          known = search rules;
          ran = subst (λ (call : Call). IsTallyOfRun (map (λ path. path.now) c.args.asked.now.paths.now)
              (map (λ peer. peer.now) c.args.asked.now.peers.now) c.in-Ok.checked.module c.args.asked.now.threads
              c.args.asked.now.rows call
              c.args.asked.now.steps c.in_ok-counted.counted.tally) (c.in-Some.ensures.found
              ∙ ap (λ (m : Module). calls_named m c.args.asked.now.function.now c.args.asked.now.times)
              c.module.ensures.value) c.in_ok-counted.ensures;
        };
        reported = search rules;
      },
      search rules,
    )

pub returns-clause-begun : goal.returns-clause-begun
returns-clause-begun g c = λ is.
    let loaded = c.in-Ok.ensures.accepted in (
      tally_text c.in_ok-counted.counted.tally,
      record {
        module_text = loaded.0;
        m = c.in-Ok.checked.module;
        tally = c.in_ok-counted.counted.tally;
        given = loaded.1;
        accepted = loaded.2;
        ran = record {
          known = search rules;
          ran = subst (λ (call : Call). IsTallyOfRun (map (λ path. path.now) c.args.asked.now.paths.now)
              (map (λ peer. peer.now) c.args.asked.now.peers.now) c.in-Ok.checked.module c.args.asked.now.threads
              c.args.asked.now.rows call
              c.args.asked.now.steps c.in_ok-counted.counted.tally) (c.in-Some.ensures.found
              ∙ ap (λ (m : Module). calls_named m c.args.asked.now.function.now c.args.asked.now.times)
              c.module.ensures.value) c.in_ok-counted.ensures;
        };
        reported = search rules;
      },
      search rules,
    )
