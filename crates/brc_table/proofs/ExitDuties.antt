-- The duties of a hand that looks through its queue, or leaves: where their words are, and how the hand begins.
use Rattle.std.proofs.Common.{◌≡◌, ℕ, zero, suc, ◌+◌, ◌*◌, ◌<◌, ◌≤◌, Bool, cond, List, [], ◌∷◌, set, inl, inr, refl, sym, ap, ◌∙◌, subst, arith}
use Rattle.std.specs.Prelude.{◌==◌, count_by}
use Rattle.std.proofs.Math.Nat.{mul-le-mul_right}
use Rattle.std.proofs.lemmas.Bool.{cases_Bool, cases_lt, lt-ltb, le-ltb}
use Rattle.brc_model.specs.declared.duty.Holding.TheVariants.{ByVariable, AsCaller, InFlight}
use Rattle.brc_model.specs.declared.duty.Duty.TheVariants.{ClaimMark, MarksLoad, Leave}
use Rattle.brc_model.specs.declared.layout.Layout.{Layout}
use Rattle.brc_model.specs.Layout.{front_rows, worker_rows, block_of, block_size, row_at, row_count, mark_words_of, is_immortal_row, IsCounted}
use Rattle.brc_model.specs.Accounts.{HoldsNone}
use Rattle.brc_model.specs.CountingLaws.{DutiesAreKept, ReleasesBegin, ClaimsBegin, MarkLoadsBegin, ExitsBegin}
use Rattle.brc_table.specs.declared.view.View.{View}
use Rattle.brc_table.specs.Views.{RowsAreThere, claiming, loading_marks, leaving}
use Rattle.brc_table.specs.Begins.{Passes, Becomes}
use Rattle.brc_table.specs.Hands.{MayWait}
use Rattle.brc_model.specs.Machine.{Machine}
use Rattle.brc_table.specs.Plan.{Plan}
use Rattle.brc_table.specs.Calls.{IsFree, MayLeave}
use Rattle.brc_table.proofs.Passing.{passes_on, waiting_uses}
use Rattle.brc_table.proofs.Becoming.{rearranged}
use Rattle.brc_table.proofs.FreeDropped.{HasDropped, drops_first, immortal_numbered}
use mathlib.Core.Option.{some}
use lib.ListN.{get_elem?}

-- ---- claims

-- A hand begins to claim the mark of a row of its block.
pub claiming_becomes : ClaimsBegin → (plan : Plan) (v : View) (x : ℕ) → IsFree v → block_of v.layout x ≡ v.thread
    → x < row_count v.layout → Becomes plan v (claiming v x)
claiming_becomes law plan v x free own there = record {
  passes = λ words views id stands here.
      let told = stands.same_layout id v here in
      rearranged plan words views id v stands here (ClaimMark x ∷ []) v.actor.aside
      (law stands.accounts (1 + stands.machine.layout.workers) stands.machine v.thread v.actor x stands.counts
      (record { found = stands.same_actor id v here; running = free.running; agenda = free.agenda }) free.aside
      (subst (λ (l : Layout). block_of l x ≡ v.thread) told own)
      (subst (λ (l : Layout). x < row_count l) told there));
  same = refl;
  in_field = λ y locks. refl;
  uses = waiting_uses v (claiming v x) (subst MayWait (sym free.agenda) tt) refl;
}

-- A hand begins to load a mark word of its block.
pub loading_becomes : MarkLoadsBegin → (plan : Plan) (v : View) (w : ℕ) → IsFree v
    → w < mark_words_of v.layout v.thread → Becomes plan v (loading_marks v w)
loading_becomes law plan v w free there = record {
  passes = λ words views id stands here.
      rearranged plan words views id v stands here (MarksLoad w ∷ []) v.actor.aside
      (law stands.accounts (1 + stands.machine.layout.workers) stands.machine v.thread v.actor w stands.counts
      (record { found = stands.same_actor id v here; running = free.running; agenda = free.agenda }) free.aside
      (subst (λ (l : Layout). w < mark_words_of l v.thread) (stands.same_layout id v here) there));
  same = refl;
  in_field = λ y locks. refl;
  uses = waiting_uses v (loading_marks v w) (subst MayWait (sym free.agenda) tt) refl;
}

-- ---- the beginning of an exit

module _ (kept : DutiesAreKept) (release : ReleasesBegin) (plan : Plan) (words : List ℕ) (views : List View)
    (id : ℕ)
    (v : View) (may : MayLeave v) (here : get_elem? views id ≡ some v) (before : Machine) where
  -- A hand that lists no reference holds none, apart from those to immortal objects.
  holds_none : (has : HasDropped plan words views v before (1 + v.layout.immortal_lists))
      → HoldsNone (has.stands.accounts v.thread)
  holds_none has (ByVariable depth i) object = has.stands.no_variables v.thread depth i object
  holds_none has InFlight object = has.stands.counts.no_flight v.thread object
  holds_none has AsCaller object =
      elim (cases_Bool (is_immortal_row v.layout object)) [
        | inl immortal ↦
            let it = immortal_numbered v.layout object immortal in
            ap (has.stands.accounts v.thread AsCaller) it.is ∙ has.none it.number it.low
        | inr counted ↦
            has.stands.holding id v object here
            (subst (λ (l : Layout). IsCounted l object) (has.stands.same_layout id v here) counted)
            ∙ ap (count_by (λ y. y == object)) may.holds_none
      ]

  leaves_from : ExitsBegin → HasDropped plan words views v before (1 + v.layout.immortal_lists)
      → Passes plan words (set views id (leaving v)) v.taken v.actor.locked before
  leaves_from law has =
      let s = has.stands in
      passes_on before s.machine (λ x which. has.fields x)
      (rearranged plan words views id v s here (Leave 0 v.actor.used ∷ []) v.actor.aside
      (law s.accounts (1 + s.machine.layout.workers) s.machine v.thread v.actor s.counts
      (record { found = s.same_actor id v here; running = may.free.running; agenda = may.free.agenda }) may.free.aside
      may.settled (holds_none has)))

-- A hand begins to leave.
pub leaving_becomes : DutiesAreKept → ReleasesBegin → ExitsBegin → (plan : Plan) (v : View) → MayLeave v
    → Becomes plan v (leaving v)
leaving_becomes kept release law plan v may = record {
  passes = λ words views id stands here.
      leaves_from kept release plan words views id v may here stands.machine law
      (drops_first kept release plan words id v may.free may.unlocked stands.machine views here
      (1 + v.layout.immortal_lists) (omega arith)
      (record { stands = stands; fields = λ x. refl; none = λ j under. absurd (omega (arith, under)) }));
  same = refl;
  in_field = λ y locks. refl;
  uses = waiting_uses v (leaving v) (subst MayWait (sym may.free.agenda) tt) refl;
}

-- ---- rows of a block

-- Main's rows in front are at their own numbers, and those in the rear are behind the workers'.
pub front_is : (layout : Layout) (i : ℕ) → i < front_rows → row_at layout 0 i ≡ i
front_is layout i low =
    ap (λ (b : Bool). cond b i (worker_rows layout + i)) (lt-ltb i front_rows low)

rear_is : (layout : Layout) (i : ℕ) → front_rows ≤ i → row_at layout 0 i ≡ worker_rows layout + i
rear_is layout i low =
    ap (λ (b : Bool). cond b i (worker_rows layout + i)) (le-ltb i front_rows low)

pub low_row : (layout : Layout) (t i : ℕ) → t ≤ layout.workers → i < block_size layout t
    → row_at layout t i < row_count layout
low_row layout zero i there low =
    elim (cases_lt i front_rows) [
      | inl front ↦ omega (arith, front_is layout i front, low)
      | inr rear ↦ omega (arith, rear_is layout i rear, low)
    ]
low_row layout (suc t) i there low =
    let more : suc t * layout.rows ≤ layout.workers * layout.rows = mul-le-mul_right layout.rows there in
    omega (arith, more, low)

-- A used row of a hand's block is there.
pub own_row_there : (v : View) (i : ℕ) → RowsAreThere v → i < v.actor.used
    → row_at v.layout v.thread i < row_count v.layout
own_row_there v i rows low = low_row v.layout v.thread i rows.thread (omega (arith, low, rows.used))
