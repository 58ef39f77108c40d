-- The first world is the model's first world.
use Rattle.std.proofs.Common.{◌≡◌, ℕ, ◌+◌, ◌≤◌, List, ◌∷◌, length, map, refl, sym, ap, ◌∙◌, subst, arith}
use Rattle.brc_lang.specs.declared.module.Module.{Module}
use Rattle.brc_lang.specs.Grammar.{IsModule}
use Rattle.brc_model.specs.declared.layout.Layout.{Layout}
use Rattle.brc_model.specs.Layout.{row_count, block_size}
use Rattle.brc_model.specs.Limits.{block_limit, total_limit}
use Rattle.brc_model.specs.StepMachine.{layout_of, first_memory, main_actor, worker_actor}
use Rattle.brc_model.proofs.Keeping.FirstMachine.{has_lines}
use Rattle.brc_check.specs.Tables.{states_of}
use Rattle.brc_effect.proofs.FewNumbers.{few_numbers}
use Rattle.brc_world.proofs.Outcomes.{first_seen, first_is}
use Rattle.brc_world.proofs.world.World.new.Goals as goal

-- The module's layout, as the code makes it, is the model's.
same_layout : (now given : Module) (layout blocks : Layout) (workers count rows : ℕ) → now ≡ given
    → layout ≡ layout_of now workers rows → blocks ≡ layout → count ≡ workers
    → blocks ≡ layout_of given count rows
same_layout now given layout blocks workers count rows same is kept each =
    kept ∙ is ∙ ap (λ (m : Module). layout_of m workers rows) same
    ∙ ap (λ (n : ℕ). layout_of given n rows) (sym each)

-- Main's block has few rows.
few_own : (m : Module) (layout : Layout) (workers rows : ℕ) → IsModule m → layout ≡ layout_of m workers rows
    → block_size layout 0 ≤ block_limit
few_own m layout workers rows fits is =
    let has = has_lines m workers rows fits in
    rw is (omega (arith, has.few, few_numbers m workers rows has))

pub first_memory-requires-clause-small : goal.first_memory-requires-clause-small
first_memory-requires-clause-small c =
    let p = c.args.checked.now in
    let reachable =
    c.worlds_lead_on.ensures.first p.module (states_of p.module p.table) c.args.rows c.args.calls.now
    c.states_are_true.ensures.fits c.states_are_true.ensures.acceptable c.states_are_true.ensures.truth
    c.requires.some_rows c.requires.most_rows c.requires.calls_fit in
    subst (λ (l : Layout). row_count l ≤ total_limit)
    (sym (same_layout _ p.module c.layout_of-layout.result c.layout_of-layout.result c.args.workers
    (length c.args.calls.now) c.args.rows c.module-module.ensures.value c.layout_of-layout.ensures refl
    c.requires.one_each))
    (c.worlds_are_small.ensures.few_in_all _ _ reachable)

pub first_threads-requires : goal.first_threads-requires
first_threads-requires c =
    few_own c.args.checked.now.module c.layout_of-layout.result c.args.workers c.args.rows
    c.states_are_true.ensures.fits
    (c.layout_of-layout.ensures
    ∙ ap (λ (m : Module). layout_of m c.args.workers c.args.rows) c.module-module.ensures.value)

pub invariant_of-result : goal.invariant_of-result
invariant_of-result c =
    let p = c.args.checked.now in
    first_is p c.args.rows c.new.result c.args.calls.now _ _
    (same_layout _ p.module c.layout_of-layout.result c.new.result c.args.workers (length c.args.calls.now) c.args.rows
    c.module-module.ensures.value c.layout_of-layout.ensures c.new.ensures c.requires.one_each)
    (c.in_ok-first_memory.ensures.words
    ∙ ap (λ (lines : List (List ℕ)). first_memory lines c.layout_of-layout.result)
    (c.as_slice.ensures ∙ ap (λ (m : Module). m.statics) c.module-module.ensures.value)
    ∙ ap (first_memory p.module.statics) (sym c.new.ensures))
    (c.in_ok-first_threads.ensures
    ∙ ap (λ (l : Layout). main_actor l ∷ map worker_actor c.args.calls.now) (sym c.new.ensures))
    (c.in_ok-first_memory.ensures.rows ∙ ap row_count (sym c.new.ensures))
    (c.in_ok-first_memory.ensures.threads ∙ ap (λ (l : Layout). 1 + l.workers) (sym c.new.ensures))
    (c.in_ok-first_memory.ensures.width ∙ ap (λ (l : Layout). l.cells) (sym c.new.ensures))
    (c.worlds_lead_on.ensures.first p.module (states_of p.module p.table) c.args.rows c.args.calls.now
    c.states_are_true.ensures.fits c.states_are_true.ensures.acceptable c.states_are_true.ensures.truth
    c.requires.some_rows c.requires.most_rows c.requires.calls_fit)

pub returns : goal.returns
returns c =
    let p = c.args.checked.now in
    first_seen p c.args.rows c.new.result c.args.calls.now _ _
    (same_layout _ p.module c.layout_of-layout.result c.new.result c.args.workers (length c.args.calls.now) c.args.rows
    c.module-module.ensures.value c.layout_of-layout.ensures c.new.ensures c.requires.one_each)
    (c.in_ok-first_memory.ensures.words
    ∙ ap (λ (lines : List (List ℕ)). first_memory lines c.layout_of-layout.result)
    (c.as_slice.ensures ∙ ap (λ (m : Module). m.statics) c.module-module.ensures.value)
    ∙ ap (first_memory p.module.statics) (sym c.new.ensures))
    (c.in_ok-first_threads.ensures
    ∙ ap (λ (l : Layout). main_actor l ∷ map worker_actor c.args.calls.now) (sym c.new.ensures))
