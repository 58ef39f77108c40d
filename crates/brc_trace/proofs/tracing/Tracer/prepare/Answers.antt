use Rattle.std.proofs.Common.{ℕ, ◌∙◌, ap, Option}
use Rattle.brc_machine.specs.declared.sight.Sight.{Sight}
use Rattle.brc_world.specs.Sights.{sight_at}
use Rattle.brc_world.specs.Worlds.{model_of}
use Rattle.brc_trace.specs.TraceText.{past_by, text_by}
use Rattle.brc_trace.proofs.tracing.Tracer.prepare.Goals as goal

pub returns-in_ok-show-in-Ok-clause-line : goal.returns-in_ok-show-in-Ok-clause-line
returns-in_ok-show-in-Ok-clause-line c =
    c.in_ok-show-in-Ok.ensures.line
    ∙ ap (λ (s : Option Sight). text_by c.args.paint c.args.functions.now c.args.self.now.past c.args.thread
    c.args.choice s)
    (c.in-Ok.ensures ∙ ap (λ (n : ℕ). sight_at (model_of c.args.world.now) n c.args.choice) c.from.ensures)

pub returns-in_ok-show-in-Ok-clause-past : goal.returns-in_ok-show-in-Ok-clause-past
returns-in_ok-show-in-Ok-clause-past c =
    c.in_ok-show-in-Ok.ensures.past
    ∙ ap (λ (s : Option Sight). past_by c.args.functions.now c.args.self.now.past c.args.thread s)
    (c.in-Ok.ensures ∙ ap (λ (n : ℕ). sight_at (model_of c.args.world.now) n c.args.choice) c.from.ensures)
