use Rattle.brc_table.proofs.Kept.{kept_on, kept_itself}
use Rattle.std.proofs.Common.{ℕ, ◌+◌, [], ◌∷◌, ◌++◌, refl, sym, ap, ◌∙◌, subst}
use Rattle.brc_host.specs.HostCounts.{count_limit, raised}
use Rattle.brc_host.specs.HostCalls.{NoCall, close_faults}
use Rattle.brc_host.proofs.Answering.{answered_then, close_faults_then}
use Rattle.brc_model.specs.declared.duty.Duty.TheVariants.{Settle}
use Rattle.brc_free.specs.Works.{HasWorked, InWork, to_settle}
use Rattle.brc_free.proofs.Working.{worked_first, worked_then}
use Rattle.brc_free.proofs.SettleDuties.{comes_alive, settled, to_settle_next, to_settle_none}
use Rattle.brc_free.proofs.Closes.{sums}
use Rattle.brc_free.proofs.finaliser.Finaliser.settle_chain.Goals as goal

pub loop-init : goal.loop-init
loop-init g c =
    let v = c.args.hand.now.view in (
      kept_itself _,
      λ rest comes. (
        comes,
        (
          [],
          worked_first (to_settle rest v) (Settle ∷ rest) refl,
          refl,
          NoCall,
        ),
      ),
    )

pub returns-then-head-eq0-clause-table : goal.returns-then-head-eq0-clause-table
returns-then-head-eq0-clause-table g c =
    let (rest, comes) = c.requires.duty in
    let kept = c.loop.invariant in
    (kept.0.table ∙ c.requires.table.0, (kept.1 rest comes).1.1.keeps.layout ∙ c.requires.table.1)

pub returns-then-head-eq0-clause-work : goal.returns-then-head-eq0-clause-work
returns-then-head-eq0-clause-work g c = λ rest comes.
    let u = c.loop.hand.view in
    let kept = c.loop.invariant.1 rest comes in
    let empty = sym c.head.ensures ∙ c.if-head-eq0.true in
    let stands = subst (HasWorked (to_settle rest c.args.hand.now.view) kept.1.0 (Settle ∷ rest))
    (to_settle_none u rest empty kept.0) kept.1.1 in (
      kept.1.0,
      record { agenda = settled u rest empty kept.0; works = stands.works; keeps = stands.keeps },
      kept.1.2,
      kept.1.3,
    )

pub loop-preserved : goal.loop-preserved
loop-preserved g c =
    let v = c.args.hand.now.view in
    let u = c.loop.hand.view in
    let w = c.finalise_first.new.hand.view in
    let kept = c.loop.invariant in
    let one = c.finalise_first.ensures in (
      kept_on kept.0 one.kept,
      λ rest comes.
          let before = kept.1 rest comes in
          let after = one.work rest before.0 in
          let more = c.finalise_first.result in (
            InWork rest (λ gone. comes_alive u rest before.0 (sym after.1.keeps.status ∙ gone)) after.1.agenda,
            (
              before.1.0 ++ after.0,
              subst (HasWorked (to_settle rest v) (before.1.0 ++ after.0) (Settle ∷ rest))
                  (sym (to_settle_next w rest after.1.agenda))
                  (worked_then (to_settle rest v) (to_settle rest u) w before.1.0 after.0 (Settle ∷ rest)
                  (Settle ∷ rest) before.1.1 after.1),
              c.saturating_add-failed.ensures
                  ∙ (sums count_limit c.loop.failed more (close_faults before.1.0) before.1.2
                  ∙ ap (λ (n : ℕ). raised n 0)
                  (ap (λ (n : ℕ). close_faults before.1.0 + n) after.2 ∙ sym (close_faults_then before.1.0 after.0))),
              answered_then before.1.3 after.3,
            ),
          ),
    )
