use Rattle.std.proofs.Common.{◌≡◌, ℕ, ◌-◌, true, false, List, [], ◌∷◌, ◌++◌, refl, sym, ap, ◌∙◌, subst}
use Rattle.brc_model.specs.declared.duty.Duty.{Duty}
use Rattle.brc_model.specs.declared.duty.Duty.TheVariants.{Settle, SettleKind, SettleEnd, TakeField}
use Rattle.brc_model.specs.Duties.{has_resource, cells_of, cells_from}
use Rattle.brc_table.specs.Hands.{TableState}
use Rattle.brc_table.specs.Accesses.{IsNext}
use Rattle.brc_table.specs.Calls.{ClosesRow}
use Rattle.brc_free.specs.Works.{HasWorked, ComesToSettle, to_settle, behind}
use Rattle.brc_free.proofs.FirstDuties.{settle_kind_first, take_field_first, settle_end_first}
use Rattle.brc_free.proofs.Working.{head_unlocked, worked_call}
use Rattle.brc_free.proofs.SettleDuties.{comes_alive, taken_off, kind_has_resource, cells_next, cells_first, all_closed, ended}
use Rattle.brc_host.specs.HostCalls.{NoCall}
use Rattle.brc_free.proofs.finaliser.Finaliser.finalise_first.Given as given
use Rattle.brc_free.proofs.finaliser.Finaliser.finalise_first.Goals.{After-step-kind, After-cells_of}
use Rattle.brc_free.proofs.finaliser.Finaliser.finalise_first.Goals as goal

-- The object is off the chain, and its kind is loaded next.
off : (g : given.Over) (c : After-step-kind g) (rest : List Duty) → ComesToSettle c.args.hand.now.view rest
    → HasWorked (to_settle rest c.args.hand.now.view) [] (SettleKind (c.head-row.result - 1) ∷ Settle ∷ rest)
    c.gate_load.new.hand.view
off g c rest comes =
    taken_off _ _ _ c.gate_load.result rest c.requires.chain (ap (λ (n : ℕ). n - 1) c.head-row.ensures) comes
    c.gate_load.ensures.view c.rows_are_there.ensures

-- An object that has a resource: it is taken out of its field next.
resource : (g : given.Over) (c : After-step-kind g) (rest : List Duty)
    → ComesToSettle c.args.hand.now.view rest → has_resource c.step-kind.result ≡ true
    → HasWorked (to_settle rest c.args.hand.now.view) [] (TakeField (c.head-row.result - 1) ∷ Settle ∷ rest)
    c.step-kind.new.hand.view
resource g c rest comes has =
    kind_has_resource _ _ _ [] _ c.step-kind.result (Settle ∷ rest) (off g c rest comes)
    c.step-kind.ensures.view has

-- An object with neither cells nor a resource is closed next.
plain : (g : given.Over) (c : After-step-kind g) (rest : List Duty) → ComesToSettle c.args.hand.now.view rest
    → has_resource c.step-kind.result ≡ false → cells_of c.step-kind.result ≡ 0
    → HasWorked (to_settle rest c.args.hand.now.view) [] (SettleEnd (c.head-row.result - 1) ∷ Settle ∷ rest)
    c.step-kind.new.hand.view
plain g c rest comes none no_cells =
    cells_next _ _ _ _ c.step-kind.result 0 rest (off g c rest comes) c.step-kind.ensures.view none (sym no_cells)

-- Any other object: its cells are emptied next.
cells : (g : given.Over) (c : After-cells_of g) (rest : List Duty) → ComesToSettle c.args.hand.now.view rest
    → HasWorked (to_settle rest c.args.hand.now.view) []
    (cells_from (c.head-row.result - 1) 0 c.cells_of.result ++ Settle ∷ rest)
    c.step-kind.new.hand.view
cells g c rest comes =
    cells_next _ _ _ _ c.step-kind.result _ rest
    (off g (goal.at.close_cells-requires-clause-duty g c).After-step-kind rest comes)
    c.step-kind.ensures.view (sym c.has_resource.ensures ∙ c.if-has_resource.false) c.cells_of.ensures

pub step-kind-requires-clause-alive : goal.step-kind-requires-clause-alive
step-kind-requires-clause-alive g c = λ gone.
    let at = taken_off _ _ _ c.gate_load.result c.requires.duty.0 c.requires.chain
    (ap (λ (n : ℕ). n - 1) c.head-row.ensures) c.requires.duty.1 c.gate_load.ensures.view c.rows_are_there.ensures in
    comes_alive _ _ c.requires.duty.1 (sym at.keeps.status ∙ gone)

pub step-kind-requires-clause-next : goal.step-kind-requires-clause-next
step-kind-requires-clause-next g c =
    let at = taken_off _ _ _ c.gate_load.result c.requires.duty.0 c.requires.chain
    (ap (λ (n : ℕ). n - 1) c.head-row.ensures) c.requires.duty.1 c.gate_load.ensures.view c.rows_are_there.ensures in
    subst (IsNext (SettleKind (c.head-row.result - 1))) (sym (at.agenda ∙ settle_kind_first _ _ _)) refl

pub gate_close-requires-clause-table : goal.gate_close-requires-clause-table
gate_close-requires-clause-table g c =
    let at = plain g (goal.at.gate_close-requires-clause-table g c).After-step-kind _ c.requires.duty.1
    (c.is_plain.ensures.resource c.if-is_plain.true) (c.is_plain.ensures.cells c.if-is_plain.true) in
    let words = c.words-words.ensures ∙ c.self.view_is in (
      c.step-kind.ensures.table
          ∙ (c.gate_load.ensures.kept.table ∙ (c.requires.table.0 ∙ sym (ap (λ (t : TableState). t.table) words))),
      at.keeps.layout ∙ (c.requires.table.1 ∙ sym (ap (λ (t : TableState). t.layout) words)),
    )

pub gate_close-requires-clause-alive : goal.gate_close-requires-clause-alive
gate_close-requires-clause-alive g c = λ gone.
    let at = plain g (goal.at.gate_close-requires-clause-alive g c).After-step-kind _ c.requires.duty.1
    (c.is_plain.ensures.resource c.if-is_plain.true) (c.is_plain.ensures.cells c.if-is_plain.true) in
    comes_alive _ _ c.requires.duty.1 (sym at.keeps.status ∙ gone)

pub gate_close-requires-clause-duty : goal.gate_close-requires-clause-duty
gate_close-requires-clause-duty g c =
    let at = plain g (goal.at.gate_close-requires-clause-duty g c).After-step-kind _ c.requires.duty.1
    (c.is_plain.ensures.resource c.if-is_plain.true) (c.is_plain.ensures.cells c.if-is_plain.true) in
    subst (ClosesRow (c.head-row.result - 1)) (sym (at.agenda ∙ settle_end_first _ _ _)) refl

pub returns-then-is_plain-clause-work : goal.returns-then-is_plain-clause-work
returns-then-is_plain-clause-work g c = λ rest comes.
    let at = plain g (goal.at.returns-then-is_plain-clause-work g c).After-step-kind rest comes
    (c.is_plain.ensures.resource c.if-is_plain.true) (c.is_plain.ensures.cells c.if-is_plain.true) in (
      [],
      ended _ _ _ [] _ c.gate_close.result (Settle ∷ rest) at c.gate_close.ensures.view
          (head_unlocked c.args.hand.now.view _ c.rows_are_there.ensures c.requires.chain
          (ap (λ (n : ℕ). n - 1) c.head-row.ensures)),
      refl,
      NoCall,
    )

pub close_resource-requires-clause-alive : goal.close_resource-requires-clause-alive
close_resource-requires-clause-alive g c = λ κs lives gone.
    let at = resource g (goal.at.close_resource-requires-clause-alive g c).After-step-kind _
    c.requires.duty.1 (sym c.has_resource.ensures ∙ c.if-has_resource.true) in
    comes_alive _ _ c.requires.duty.1 (sym at.keeps.status ∙ gone)

pub close_resource-requires-clause-duty : goal.close_resource-requires-clause-duty
close_resource-requires-clause-duty g c = λ κs lives.
    let at = resource g (goal.at.close_resource-requires-clause-duty g c).After-step-kind _ c.requires.duty.1
    (sym c.has_resource.ensures ∙ c.if-has_resource.true) in
    record { rest = Settle ∷ c.requires.duty.0; next = at.agenda ∙ take_field_first _ _ _ }

pub returns-then-has_resource-clause-work : goal.returns-then-has_resource-clause-work
returns-then-has_resource-clause-work g c = λ rest comes.
    let at = resource g (goal.at.returns-then-has_resource-clause-work g c).After-step-kind rest comes
    (sym c.has_resource.ensures ∙ c.if-has_resource.true) in
    let one = c.close_resource.ensures.work in
    (one.0, worked_call _ _ _ one.0 _ behind at (take_field_first _ _ _) one.1, one.2, one.3)

pub close_cells-requires-clause-alive : goal.close_cells-requires-clause-alive
close_cells-requires-clause-alive g c = λ gone.
    comes_alive _ _ c.requires.duty.1 (sym (cells g c _ c.requires.duty.1).keeps.status ∙ gone)

pub close_cells-requires-clause-duty : goal.close_cells-requires-clause-duty
close_cells-requires-clause-duty g c = record {
  rest = Settle ∷ c.requires.duty.0;
  next = (cells g c _ c.requires.duty.1).agenda ∙ cells_first _ _ 0 c.cells_of.result _;
}

pub returns-clause-work : goal.returns-clause-work
returns-clause-work g c = λ rest comes. (
  [],
  all_closed _ _ _ _ c.cells_of.result rest
      (cells g (goal.at.returns-clause-work g c).After-cells_of rest comes) c.close_cells.ensures.work,
  refl,
  NoCall,
)
