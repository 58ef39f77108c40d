use Rattle.std.proofs.Common.{ℕ, ◌∙◌, ap, refl}
use Rattle.brc_model.specs.World.{step}
use Rattle.brc_world.specs.Worlds.{model_of}
use Rattle.brc_trace.proofs.Traces.{on_err, one_traced, one_stopped, none_stopped}
use Rattle.brc_trace.proofs.tracing.Tracer.trace_step.Goals as goal

pub returns-in_err-prepare-clause-stopped : goal.returns-in_err-prepare-clause-stopped
returns-in_err-prepare-clause-stopped g c = on_err _ (none_stopped _ _ _ _ _ _ _ refl)

pub returns-in_err-step-clause-stopped : goal.returns-in_err-step-clause-stopped
returns-in_err-step-clause-stopped g c =
    on_err _ (none_stopped _ _ _ _ _ _ _ (ap model_of c.in_err-step.ensures.unchanged))

pub returns-in-Ok-clause-traced : goal.returns-in-Ok-clause-traced
returns-in-Ok-clause-traced g c =
    one_traced c.args.paint c.args.functions.now (model_of c.args.world.now) c.args.self.now.past
    (c.args.thread, c.args.choice) _ _ _ _ c.as_bytes.result.now
    (c.in_ok-step.ensures.made ∙ ap (λ (n : ℕ). step (model_of c.args.world.now) n c.args.choice) c.from.ensures)
    c.in_ok-prepare.ensures.past (c.as_bytes.ensures ∙ c.in_ok-prepare.ensures.line) c.in-Ok.ensures.whole

pub returns-in-Err-clause-stopped : goal.returns-in-Err-clause-stopped
returns-in-Err-clause-stopped g c =
    one_stopped c.args.paint c.args.functions.now (model_of c.args.world.now) c.args.self.now.past
    (c.args.thread, c.args.choice) _ _ _ c.as_bytes.result.now
    (c.in_ok-step.ensures.made ∙ ap (λ (n : ℕ). step (model_of c.args.world.now) n c.args.choice) c.from.ensures)
    (c.as_bytes.ensures ∙ c.in_ok-prepare.ensures.line) c.in-Err.ensures.begun
