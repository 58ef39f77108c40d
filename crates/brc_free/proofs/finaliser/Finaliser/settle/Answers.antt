use Rattle.std.proofs.Common.{ℕ, List, [], ◌∷◌, ◌++◌, refl, sym, ap, ◌∙◌, subst}
use Rattle.brc_host.specs.HostCounts.{raised}
use Rattle.brc_host.specs.HostCalls.{NoCall, close_faults}
use Rattle.brc_host.proofs.Answering.{answered_then, close_faults_then}
use Rattle.brc_model.specs.declared.duty.Duty.{Duty}
use Rattle.brc_model.specs.declared.duty.Duty.TheVariants.{Settle}
use Rattle.brc_table.specs.declared.view.View.{View}
use Rattle.brc_host.specs.HostCalls.{HostCall}
use Rattle.brc_free.specs.Works.{HasWorked, ComesToSettle, InWork, to_settle}
use Rattle.brc_free.proofs.Working.{worked_first, worked_then}
use Rattle.brc_free.proofs.SettleDuties.{comes_alive, settled, to_settle_next, to_settle_none}
use Rattle.brc_free.proofs.Closes.{sums_first}
use Rattle.brc_free.proofs.finaliser.Finaliser.settle.Goals as goal

pub returns-then-head-eq0-clause-work : goal.returns-then-head-eq0-clause-work
returns-then-head-eq0-clause-work g c = λ rest comes.
    let v = c.args.hand.now.view in
    let empty = sym c.head.ensures ∙ c.if-head-eq0.true in
    let stands = subst (HasWorked (to_settle rest v) [] (Settle ∷ rest)) (to_settle_none v rest empty comes)
    (worked_first (to_settle rest v) (Settle ∷ rest) refl) in (
      [],
      record { agenda = settled v rest empty comes; works = stands.works; keeps = stands.keeps },
      refl,
      NoCall,
    )

-- A hand that has finalised an object settles what is left of its chain.
again : (v w : View) (rest : List Duty) (cs : List HostCall) → ComesToSettle v rest
    → HasWorked (to_settle rest v) cs (Settle ∷ rest) w → ComesToSettle w rest
again v w rest cs comes at = InWork rest (λ gone. comes_alive v rest comes (sym at.keeps.status ∙ gone)) at.agenda

pub settle_chain-requires-clause-duty : goal.settle_chain-requires-clause-duty
settle_chain-requires-clause-duty g c κs within =
    let (rest, comes) = c.requires.duty in
    let after = c.finalise_first-failed.ensures.work rest comes in
    (rest, again _ _ rest after.0 comes after.1)

pub returns-clause-work : goal.returns-clause-work
returns-clause-work g c = λ rest comes.
    let v = c.args.hand.now.view in
    let w = c.finalise_first-failed.new.hand.view in
    let z = c.settle_chain.new.hand.view in
    let after = c.finalise_first-failed.ensures.work rest comes in
    let ends = c.settle_chain.ensures.work rest (again v w rest after.0 comes after.1) in (
      after.0 ++ ends.0,
      worked_then (to_settle rest v) w z after.0 ends.0 (Settle ∷ rest) rest after.1
          (subst (λ (u : View). HasWorked u ends.0 rest z) (to_settle_next w rest after.1.agenda) ends.1),
      c.saturating_add.ensures
          ∙ (sums_first _ _ (close_faults after.0) (close_faults ends.0) after.2 ends.2
          ∙ ap (λ (n : ℕ). raised n 0) (sym (close_faults_then after.0 ends.0))),
      answered_then after.3 ends.3,
    )
