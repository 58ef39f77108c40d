use Rattle.std.proofs.Common.{◌≡◌, ◌<◌, ℕ, ◌∙◌, sym, ap, subst}
use Rattle.std.proofs.lemmas.Bool.{ltb-true}
use Rattle.brc_model.specs.declared.layout.Layout.{Layout}
use Rattle.brc_table.specs.Accesses.{row_of}
use Rattle.brc_model.specs.Layout.{block_size, row_at, row_count}
use Rattle.brc_table.specs.Hands.{HandState, TableState, plan_of}
use Rattle.brc_table.specs.Views.{next_row}
use Rattle.brc_model.specs.declared.duty.Duty.TheVariants.{BirthKind}
use Rattle.brc_model.specs.declared.duty.Holding.TheVariants.{AsCaller}
use Rattle.brc_table.proofs.Becoming.{bearing_becomes}
use Rattle.brc_table.proofs.Duties.{runs_on}
use Rattle.brc_table.proofs.ExitDuties.{low_row}
use Rattle.brc_table.proofs.words.Words.kind_store.Goals as goal

pub step_from-requires-clause-begins : goal.step_from-requires-clause-begins
step_from-requires-clause-begins g c =
    bearing_becomes c.work_is_put_aside.ensures c.births_begin.ensures (plan_of c.args.self.now) c.args.hand.now.view
    c.args.word c.requires.running c.requires.worker c.requires.room c.requires.kind c.requires.cells

pub step_from-requires-clause-alive : goal.step_from-requires-clause-alive
step_from-requires-clause-alive g c = runs_on c.args.hand.now.view c.requires.running.0

pub step_from-requires-clause-next : goal.step_from-requires-clause-next
step_from-requires-clause-next g c =
    let v = c.args.hand.now.view in
    let thread : c.hand.inside.thread ≡ v.thread =
    c.hand.invariant.1 ∙ ap (λ (h : HandState). h.view.thread) c.hand.view_is in
    let used : c.hand.inside.used ≡ v.actor.used = c.hand.invariant.4 ∙ ap (λ (h : HandState). h.view.actor.used)
    c.hand.view_is in
    let row_is : c.row_at-row.result ≡ next_row v =
    c.row_at-row.ensures ∙ (ap (λ (t : ℕ). row_at c.layout.result t c.hand.inside.used) thread
    ∙ (ap (row_at c.layout.result v.thread) used
    ∙ ap (λ (l : Layout). row_at l v.thread v.actor.used)
    (c.layout.ensures
    ∙ (c.self.invariant.0 ∙ (ap (λ (w : TableState). w.layout) c.self.view_is ∙ sym c.requires.table.1))))) in
    ap (λ (x : ℕ). BirthKind x AsCaller c.args.word) (sym row_is)

-- It is there, since the hand has a row left.
pub step_from-requires-clause-there : goal.step_from-requires-clause-there
step_from-requires-clause-there g c =
    let v = c.args.hand.now.view in
    let is = step_from-requires-clause-next g c in
    let row_is : next_row v ≡ c.row_at-row.result = ap row_of is in
    subst (λ (x : ℕ). x < row_count c.args.self.now.layout) row_is
    (subst (λ (l : Layout). next_row v < row_count l) c.requires.table.1
    (low_row v.layout v.thread v.actor.used c.rows_are_there.ensures.thread
    (ltb-true v.actor.used (block_size v.layout v.thread) c.requires.room)))
