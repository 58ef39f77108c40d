-- What a hand may do that has just got its object.
use Rattle.std.proofs.Common.{◌≡◌, ◌≤◌, ◌+◌, ℕ, Bool, Option, None, Some, List, [], ◌∷◌, length, refl, sym, ap, ◌∙◌, subst, arith}
use Rattle.std.specs.Prelude.{count_by, cond, ◌==◌, if◌then◌else◌}
use Rattle.std.proofs.lemmas.List.Sums.{sum_by-cons}
use Rattle.std.specs.List.{filter}
use Rattle.brc_model.specs.declared.layout.Layout.{Layout}
use Rattle.brc_model.specs.Layout.{root_row, IsCounted}
use Rattle.brc_model.specs.OpenWork.{is_about}
use Rattle.brc_model.proofs.Basics.Blocks.{root_counted}
use Rattle.brc_table.specs.declared.view.View.{View}
use Rattle.brc_table.specs.Views.{holds, behind_first, open_work, next_row, worker_view}
use Rattle.brc_table.specs.KnownWords.{KnowsCell}
use Rattle.brc_table.specs.Swaps.{with_item}
use Rattle.brc_table.specs.Hands.{TableState, HandState, IsOf, IsRunning, HasNoWork}
use Rattle.brc_heap.specs.Calls.{HasBorn}
use Rattle.brc_list.specs.Calls.{KeepsWork, word_of}
use Rattle.brc_bench.specs.Ready.{IsReady}
use Rattle.brc_bench.specs.Swaps.{IsAtRest, IsAtPlace, HoldsBeside, IsReadyToSwap}
use Rattle.brc_bench.proofs.LockedSwaps.{count_here, count_more, length_with}

-- A worker's hand is at rest at first,
pub rests_at_first : (heap : TableState) (hand : HandState) (t : ℕ) → hand.view ≡ worker_view heap.layout t
    → IsOf heap hand → IsAtRest heap hand
rests_at_first heap hand t is table = record {
  table = table;
  running = subst IsRunning (sym is) (refl, tt);
  rests = ap open_work is;
  locked_is = ap (λ (v : View). v.actor.locked) is;
  returned = tt;
}

-- and after a birth.
pub rests_after_birth : {heap : TableState} {before : HandState} (after : HandState) → IsAtRest heap before
    → IsOf heap after → HasBorn before.view after.view → IsAtRest heap after
rests_after_birth after rest table born = record {
  table = table;
  running = (born.keeps.status ∙ rest.running.0, born.waits);
  rests = born.work ∙ rest.rests;
  locked_is = born.keeps.locked ∙ rest.locked_is;
  returned = tt;
}

-- A hand at rest that holds the row's object may use it,
pub place_without : {heap : TableState} {hand : HandState} (row : ℕ) → IsAtRest heap hand
    → IsCounted hand.view.layout row → 1 ≤ count_by (λ y. y == row) hand.view.references
    → length hand.view.references ≤ 3 → IsAtPlace heap hand row None
place_without row rest counted held few = record {
  rest = rest;
  counted = counted;
  holds = record { references = refl; list = held; few = omega (arith, few) };
}

-- The latest of its references is to an item.
pub holds_item : {hand : HandState} (row item : ℕ) (others : List ℕ) → IsCounted hand.view.layout item
    → hand.view.references ≡ item ∷ others → 1 ≤ count_by (λ y. y == row) others → length others ≤ 2
    → HoldsBeside hand row (Some item) others
holds_item row item others counted is held few = record {
  references = is ∙ sym (ap (λ (b : Bool). if b then others else item ∷ others) counted);
  list = held;
  few = omega (arith, few);
}

-- and swap that item, if the latest of its references is to it.
pub place_with : {heap : TableState} {hand : HandState} (row item : ℕ) (others : List ℕ) → IsAtRest heap hand
    → IsCounted hand.view.layout row → IsCounted hand.view.layout item → hand.view.references ≡ item ∷ others
    → 1 ≤ count_by (λ y. y == row) others → length others ≤ 2 → IsAtPlace heap hand row (Some item)
place_with {heap} {hand} row item others rest counted item_counted is held few = record {
  rest = rest;
  counted = counted;
  holds =
      subst (HoldsBeside hand row (Some item)) (sym (ap behind_first is))
      (holds_item {hand = hand} row item others item_counted is held few);
}

-- Main holds the root.
pub main_place : {heap : TableState} {hand : HandState} → IsAtRest heap hand
    → hand.view.references ≡ root_row ∷ [] → IsAtPlace heap hand root_row None
main_place {heap} {hand} rest is =
    let here = count_here root_row [] in
    let all = ap (count_by (λ y. y == root_row)) is in
    let few = ap length is in
    place_without root_row rest (root_counted hand.view.layout)
    (omega (arith, here, all)) (omega (arith, few))

-- A worker that has given birth to a list and to an item holds both, and the root.
pub both_born : (first second third : HandState) (list item : ℕ) → HasBorn first.view second.view
    → HasBorn second.view third.view → list ≡ next_row first.view → item ≡ next_row second.view
    → first.view.references ≡ root_row ∷ [] → third.view.references ≡ item ∷ list ∷ root_row ∷ []
both_born first second third list item one two list_is item_is is =
    two.keeps.references
    ∙ (ap (λ (rows : List ℕ). next_row second.view ∷ rows)
    (one.keeps.references ∙ ap (λ (rows : List ℕ). next_row first.view ∷ rows) is)
    ∙ (ap (λ (x : ℕ). x ∷ next_row first.view ∷ root_row ∷ []) (sym item_is)
    ∙ ap (λ (x : ℕ). item ∷ x ∷ root_row ∷ []) (sym list_is)))

pub holds_list : (list : ℕ) → 1 ≤ count_by (λ y. y == list) (list ∷ root_row ∷ [])
holds_list list = let here = count_here list (root_row ∷ []) in omega (arith, here)

pub holds_root : (list : ℕ) → 1 ≤ count_by (λ y. y == root_row) (list ∷ root_row ∷ [])
holds_root list =
    let more = sum_by-cons (λ (y : ℕ). cond (y == root_row) 1 0) list (root_row ∷ []) in
    let here = count_here root_row [] in omega (arith, more, here)

pub born_without : {heap : TableState} {hand : HandState} (row list item : ℕ) → IsAtRest heap hand
    → hand.view.references ≡ item ∷ list ∷ root_row ∷ [] → IsCounted heap.layout row
    → 1 ≤ count_by (λ y. y == row) (list ∷ root_row ∷ []) → IsAtPlace heap hand row None
born_without {heap} {hand} row list item rest is counted held =
    let more = sum_by-cons (λ (y : ℕ). cond (y == row) 1 0) item (list ∷ root_row ∷ []) in
    let all = ap (count_by (λ y. y == row)) is in
    let few = ap length is in
    place_without row rest (subst (λ (l : Layout). IsCounted l row) (sym rest.table.1) counted)
    (omega (arith, more, all, held)) (omega (arith, few))

pub born_with : {heap : TableState} {hand : HandState} (row list item : ℕ) → IsAtRest heap hand
    → hand.view.references ≡ item ∷ list ∷ root_row ∷ [] → IsCounted heap.layout row → IsCounted heap.layout item
    → 1 ≤ count_by (λ y. y == row) (list ∷ root_row ∷ []) → IsAtPlace heap hand row (Some item)
born_with {heap} {hand} row list item rest is counted item_counted held =
    place_with row item (list ∷ root_row ∷ []) rest
    (subst (λ (l : Layout). IsCounted l row) (sym rest.table.1) counted)
    (subst (λ (l : Layout). IsCounted l item) (sym rest.table.1) item_counted) is held (omega arith)

-- ---- before the first call

module _ {hand : HandState} {row : ℕ} {held : Option ℕ} {others : List ℕ} (has : HoldsBeside hand row held others) where
  pub row_is_held : 1 ≤ holds hand.view row
  row_is_held =
      let all : holds hand.view row ≡ count_by (λ y. y == row) (with_item hand.view.layout (word_of held) others) =
      ap (count_by (λ y. y == row)) has.references in
      let more = count_more hand.view.layout (word_of held) row others in
      omega (arith, all, more, has.list)

  pub few_are_held : length hand.view.references ≤ length others + 1
  few_are_held =
      let all = ap length has.references in
      let most = length_with hand.view.layout (word_of held) others in
      omega (arith, all, most)

-- A call that keeps the hand's references keeps what it holds beside the item.
pub holds_still : {before after : HandState} {row : ℕ} {held : Option ℕ} {others : List ℕ}
    → after.view.references ≡ before.view.references → after.view.layout ≡ before.view.layout
    → HoldsBeside before row held others → HoldsBeside after row held others
holds_still {before} {after} {row} {held} {others} references layout has = record {
  references =
      references
      ∙ (has.references ∙ ap (λ (l : Layout). with_item l (word_of held) others) (sym layout));
  list = has.list;
  few = has.few;
}

pub no_work_at_rest : {heap : TableState} {hand : HandState} (x : ℕ) → IsAtRest heap hand → HasNoWork hand.view x
no_work_at_rest x rest = ap (filter (is_about x)) rest.rests

-- Once the hand has asked how many cells the list has, it may swap an item of it,
pub swaps_begin : {heap : TableState} {before : HandState} {row cell : ℕ} {held : Option ℕ} {others : List ℕ}
    (after : HandState) → IsAtRest heap before → IsCounted before.view.layout row
    → HoldsBeside before row held others → IsOf heap after → KeepsWork before.view after.view
    → after.view.actor.locked ≡ before.view.actor.locked → KnowsCell after.view row cell
    → IsReadyToSwap heap after row cell held
swaps_begin {heap} {before} {row} {cell} {held} {others} after rest counted has table keeps locked knows =
    let still = holds_still {before = before} {after = after} keeps.references keeps.layout has in
    record {
      table = table;
      running = (keeps.status ∙ rest.running.0, keeps.waits);
      rests = keeps.work ∙ rest.rests;
      locked_is = locked ∙ rest.locked_is;
      returned = tt;
      counted = subst (λ (l : Layout). IsCounted l row) (sym keeps.layout) counted;
      knows = knows;
      others = others;
      references = still.references;
      list = has.list;
      few = has.few;
    }

-- or retain and release the list.
pub pairs_begin : {heap : TableState} {before : HandState} {row : ℕ} {held : Option ℕ} {others : List ℕ}
    (after : HandState) → IsAtRest heap before → IsCounted before.view.layout row
    → HoldsBeside before row held others → IsOf heap after → KeepsWork before.view after.view
    → after.view.actor.locked ≡ before.view.actor.locked → IsReady heap after row
pairs_begin {heap} {before} {row} {held} {others} after rest counted has table keeps locked =
    let still = holds_still {before = before} {after = after} keeps.references keeps.layout has in
    record {
      table = table;
      running = (keeps.status ∙ rest.running.0, keeps.waits);
      counted = subst (λ (l : Layout). IsCounted l row) (sym keeps.layout) counted;
      held = row_is_held still;
      idle = ap (filter (is_about row)) (keeps.work ∙ rest.rests);
      few = let most = few_are_held still in omega (arith, most, has.few);
      unlocked = locked ∙ rest.locked_is;
    }

-- After a swap the hand rests.
pub rests_after_swap : {heap : TableState} {hand : HandState} {row cell : ℕ} {held : Option ℕ}
    → IsReadyToSwap heap hand row cell held → IsAtRest heap hand
rests_after_swap ready = record {
  table = ready.table;
  running = ready.running;
  rests = ready.rests;
  locked_is = ready.locked_is;
  returned = tt;
}
