use Rattle.std.proofs.Common.{◌≡◌, ℕ, Option, List, [], ◌∷◌, refl, sym, ◌∙◌, subst, append-nil}
use Rattle.std.proofs.lemmas.Bool.{eq-eqb}
use Rattle.brc_model.specs.declared.duty.Duty.{Duty}
use Rattle.brc_model.specs.declared.duty.Duty.TheVariants.{MergeSwap, MergeLoad}
use Rattle.brc_model.specs.declared.duty.Reason.{Reason}
use Rattle.brc_table.specs.Views.{turned, work_about}
use Rattle.brc_heap.specs.Calls.{Leaves, merge_left}
use Rattle.brc_heap.specs.Steps.{HasStepped}
use Rattle.brc_heap.specs.Tries.{swap_left}
use Rattle.brc_heap.proofs.Leaving.{turned_works, leaves_then}
use Rattle.brc_heap.proofs.Stepping.{stepped_leaves}
use Rattle.brc_heap.proofs.MergeTries.{swap_piece, begun_some, some_of, stays_there, first_view, first_says}
use Rattle.brc_heap.proofs.heap.Heap.merge_first.Given as given
use Rattle.brc_heap.proofs.heap.Heap.merge_first.Goals.{After-take_local}
use Rattle.brc_heap.proofs.heap.Heap.merge_first.Goals as goal

-- What the swap leaves.
begun : (g : given.Over) (c : After-take_local g) (r : Reason)
    → work_about c.args.row c.args.hand.now.view ≡ MergeSwap c.args.row r ∷ []
    → Leaves c.args.row (swap_left c.args.row r c.take_local.result) c.args.hand.now.view c.take_local.new.hand.view
begun g c r duty =
    stepped_leaves (turned_works c.args.row c.args.hand.now.view)
    (subst (λ (ds : List Duty). HasStepped (turned c.args.hand.now.view c.args.row) ds c.take_local.new.hand.view)
    (append-nil (swap_left c.args.row r c.take_local.result)) (c.take_local.ensures.left r [] duty))
    (swap_piece c.args.row r c.take_local.result)

pub merge_carried-requires-clause-duty : goal.merge_carried-requires-clause-duty
merge_carried-requires-clause-duty g c =
    let (r, first) = c.requires.duty in (
      r,
      (begun_some c.in-Some.is
          (begun g (goal.at.merge_carried-requires-clause-duty g c).After-take_local r first.duty)).left_is,
    )

pub returns-in-Some-clause-first : goal.returns-in-Some-clause-first
returns-in-Some-clause-first g c =
    let (r, first) = c.requires.duty in
    let (local, said, view) = c.take_local.ensures.events in
    let (word, found, after, answer) = c.merge_carried.ensures.events in
    let (some, is) = some_of local c.in-Some.carried (sym said ∙ c.in-Some.is) in
    let stays = stays_there (begun_some c.in-Some.is
    (begun g (goal.at.returns-in-Some-clause-first g c).After-take_local r first.duty))
    (eq-eqb c.args.row c.args.row refl) in (
      local,
      word,
      found,
      first_view c.args.hand.now.view c.args.row local word found some view stays after,
      first_says local c.in-Some.carried word found some is answer,
    )

pub returns-in-Some-clause-again : goal.returns-in-Some-clause-again
returns-in-Some-clause-again g c = λ r first again. (
  c.in-Some.carried,
  c.merge_carried.ensures.again r
      (begun_some c.in-Some.is
      (begun g (goal.at.returns-in-Some-clause-again g c).After-take_local r first.duty)).left_is again,
)

pub returns-in-Some-clause-left : goal.returns-in-Some-clause-left
returns-in-Some-clause-left g c = λ r first.
    let begun = begun_some c.in-Some.is
    (begun g (goal.at.returns-in-Some-clause-left g c).After-take_local r first.duty) in (
      c.in-Some.carried,
      leaves_then c.args.row (MergeLoad c.args.row c.in-Some.carried r ∷ [])
          (merge_left c.args.row c.in-Some.carried r c.merge_carried.result) c.args.hand.now.view
          c.take_local.new.hand.view c.merge_carried.new.hand.view begun
          (c.merge_carried.ensures.left r begun.left_is),
    )

pub returns-in-None-clause-left : goal.returns-in-None-clause-left
returns-in-None-clause-left g c = λ r first. (
  0,
  subst (λ (o : Option ℕ). Leaves c.args.row (swap_left c.args.row r o) c.args.hand.now.view
      c.take_local.new.hand.view) c.in-None.is
      (begun g (goal.at.returns-in-None-clause-left g c).After-take_local r first.duty),
)
