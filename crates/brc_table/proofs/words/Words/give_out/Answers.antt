use Rattle.std.proofs.Common.{◌≡◌, ℕ, ◌-◌, Option, None, List, [], set, ap, sym, ◌∙◌, subst, arith}
use Rattle.std.proofs.lemmas.List.{length-set}
use Rattle.brc_model.specs.Machine.{is_running}
use Rattle.brc_table.specs.declared.view.View.{View}
use Rattle.brc_table.specs.declared.carried.Spare.{Spare}
use Rattle.brc_table.specs.Views.{RowsAreThere, HasSpares, IsGivenBy, giving, worker_view}
use Rattle.brc_table.specs.Hands.{TableState, HandState}
use Rattle.brc_table.specs.Homes.{rows_of}
use Rattle.brc_table.specs.Giving.{MayGive}
use Rattle.brc_table.proofs.Spares.{given_by, nothing}
use Rattle.brc_table.proofs.Splitting.{splits}
use Rattle.brc_table.proofs.GivenHands.{giving_there, spare_there, spare_left, parts}
use Rattle.brc_table.proofs.NewHands.{worker_fits}
use Rattle.brc_table.proofs.words.Words.give_out.Goals as goal

pub split_seat-seat-requires : goal.split_seat-seat-requires
split_seat-seat-requires g c =
    let seat = c.main.inside.seat in
    let table_is = ap (λ (w : TableState). w.table) c.self.view_is in
    let view_is = ap (λ (h : HandState). h.view) c.main.view_is in (
      ap (λ (h : HandState). h.table) c.main.view_is ∙ (c.requires.table.0 ∙ sym table_is),
      omega (arith, c.self.invariant.1),
      splits c.references_are_handed_over.ensures c.self.inside.table.shared.key seat.id seat.me.0 g.W.Worker.number
          (subst (MayGive seat.me.0) c.requires.number
          (subst (λ (v : View). MayGive v c.args.thread) (sym view_is) c.requires.may_give)),
    )

-- Main still has the worker's spare.
pub take_spare-spare-requires-clause-there : goal.take_spare-spare-requires-clause-there
take_spare-spare-requires-clause-there g c =
    let view_is = ap (λ (h : HandState). h.view) c.main.view_is in
    let may = subst (λ (v : View). MayGive v c.args.thread) (sym view_is) c.requires.may_give in
    spare_there c.main.inside.spares.items c.main.inside.seat.me.0 c.args.thread c.main.invariant.6 c.main.invariant.7
    may

pub take_spare-spare-requires-clause-left : goal.take_spare-spare-requires-clause-left
take_spare-spare-requires-clause-left g c =
    let view_is = ap (λ (h : HandState). h.view) c.main.view_is in
    let may = subst (λ (v : View). MayGive v c.args.thread) (sym view_is) c.requires.may_give in
    spare_left c.main.inside.spares.items c.main.inside.seat.me.0 c.args.thread c.main.invariant.6 c.main.invariant.7
    may

-- Main's hand is still as its plain fields say.
pub invariant_of-main : goal.invariant_of-main
invariant_of-main g c =
    let before = c.main.inside.seat.me in
    let t = c.args.thread in
    let spares = c.main.inside.spares.items in
    let after =
    parts c.split_seat-seat.new.seat.me (giving before.0 g.W.Worker.number) before.1 c.split_seat-seat.ensures.2 in
    let view : c.split_seat-seat.new.seat.me.0 ≡ giving before.0 t =
    after.0 ∙ ap (giving before.0) (sym c.requires.number) in
    let fits = c.main.invariant in
    let view_is = ap (λ (h : HandState). h.view) c.main.view_is in
    let may = subst (λ (v : View). MayGive v t) (sym view_is) c.requires.may_give in
    let left = sym {A = List (Option Spare)} c.take_spare-spare.ensures in (
      ap rows_of after.1 ∙ (fits.0 ∙ sym (ap (λ (v : View). v.taken) view)),
      fits.1 ∙ sym (ap (λ (v : View). v.thread) view),
      fits.2 ∙ sym (ap (λ (v : View). is_running v.actor.status) view),
      fits.3 ∙ sym (ap (λ (v : View). v.actor.head) view),
      fits.4 ∙ sym (ap (λ (v : View). v.actor.used) view),
      subst RowsAreThere (sym view) (giving_there before.0 t fits.5),
      subst (λ (ps : List (Option Spare)). HasSpares ps c.split_seat-seat.new.seat.me.0) left
          (subst (HasSpares (set spares (t - 1) None)) (sym view)
          (λ main. length-set spares (t - 1) None ∙ fits.6 main)),
      subst (λ (ps : List (Option Spare)). IsGivenBy ps c.split_seat-seat.new.seat.me.0) left
          (subst (IsGivenBy (set spares (t - 1) None)) (sym view)
          (given_by spares before.0 t may.some_worker (spare_there spares before.0 t fits.6 fits.7 may) fits.7)),
      fits.8,
    )

-- So is the worker's.
pub invariant_of-result : goal.invariant_of-result
invariant_of-result g c =
    let main = c.main.inside.seat.me.0 in
    let view_is = ap (λ (h : HandState). h.view) c.main.view_is in
    let may = subst (λ (v : View). MayGive v c.args.thread) (sym view_is) c.requires.may_give in
    worker_fits main.layout c.args.thread c.new.result.items c.take_spare-spare.result.carried.value
    c.split_seat-seat.result.me c.main.invariant.5.few may.some_worker may.known_worker c.new.ensures.items
    c.take_spare-spare.result.nothing
    (c.split_seat-seat.ensures.4 ∙ ap (λ (k : ℕ). (worker_view main.layout k, [])) (sym c.requires.number))

-- It carries nothing.
pub returns-clause-none : goal.returns-clause-none
returns-clause-none g c = λ x.
    nothing c.take_spare-spare.result.carried.value c.take_spare-spare.result.nothing _
