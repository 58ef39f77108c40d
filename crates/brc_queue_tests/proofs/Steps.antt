-- What a hand has after a call.
use Rattle.std.proofs.Common.{inl, subst, refl, ◌≡◌, ◌≢◌, ℕ, List, [], ◌∷◌, ◌++◌, Option, None, sym, ap, ◌∙◌}
use Rattle.std.specs.Prelude.{not, slice_index_or}
use Rattle.std.specs.List.{filter}
use Rattle.std.proofs.lemmas.List.{append-nil}
use Rattle.brc_host.specs.HostCalls.{HostCall}
use Rattle.brc_model.specs.declared.duty.Duty.{Duty}
use Rattle.brc_model.specs.declared.duty.Duty.TheVariants.{MergeSwap, SharedLoad}
use Rattle.brc_model.specs.declared.duty.Reason.TheVariants.{Handed}
use Rattle.brc_model.specs.declared.layout.Layout.{Layout}
use Rattle.brc_effect.specs.declared.outcomes.MergeStep.{MergeStep}
use Rattle.brc_effect.specs.declared.outcomes.MergeStep.TheVariants as merge
use Rattle.brc_free.specs.Works.{HasWorked, ComesToSettle, AtOnce, to_settle}
use Rattle.brc_model.specs.OpenWork.{is_about}
use Rattle.brc_table.specs.Hands.{TableState, HandState, IsOf, carried_of, carried_place}
use Rattle.brc_table.specs.Views.{open_work}
use Rattle.brc_heap.specs.Calls.{Leaves, Merges, merge_left}
use Rattle.brc_queue_tests.specs.Sharing.{HasWork, shared_row}

-- All that the hand has to do.
pub open_is : {heap : TableState} {hand : HandState} {rows : List ℕ} {work : List Duty} → HasWork heap hand rows work
    → open_work hand.view ≡ work
open_is {heap} {hand} {rows} {work} has =
    ap (λ (ds : List Duty). ds ++ hand.view.actor.aside) has.agenda
    ∙ (ap (λ (ds : List Duty). work ++ ds) has.aside ∙ append-nil work)

-- A hand still carries nothing from the shared row after a call that leaves what it carries.
pub none_still : (before after : HandState) → after.carried ≡ before.carried
    → after.view.layout ≡ before.view.layout → carried_of before shared_row ≡ None
    → carried_of after shared_row ≡ None
none_still before after same layout none =
    ap (λ (counts : List (Option ℕ)). slice_index_or counts (carried_place after.view.layout shared_row) None) same
    ∙ (ap (λ (l : Layout). slice_index_or before.carried (carried_place l shared_row) None) layout ∙ none)

-- After a call about a row, a hand whose work was about that row alone has what the call leaves.
pub after_call : {heap : TableState} {before after : HandState} {rows : List ℕ} {work : List Duty} (x : ℕ)
    (left : List Duty) (later : List ℕ) → HasWork heap before rows work
    → filter (λ (d : Duty). not (is_about x d)) work ≡ [] → IsOf heap after → Leaves x left before.view after.view
    → after.view.references ≡ later → carried_of after shared_row ≡ None → HasWork heap after later left
after_call {heap} {before} {after} {rows} {work} x left later has alone table leaves references none = record {
  table = table;
  layout = leaves.keeps.layout ∙ has.layout;
  status = leaves.keeps.status ∙ has.status;
  agenda = leaves.agenda;
  aside = leaves.keeps.aside ∙ (ap (filter (λ (d : Duty). not (is_about x d))) (open_is has) ∙ alone);
  references = references;
  unlocked = leaves.keeps.locked ∙ has.unlocked;
  none = none;
}

-- A hand that has nothing to do can settle,
pub comes : {heap : TableState} {hand : HandState} {rows : List ℕ} → HasWork heap hand rows []
    → ComesToSettle hand.view []
comes has = AtOnce has.status has.aside has.agenda

-- and then has nothing to do again.
pub settled : {heap : TableState} {before after : HandState} {rows : List ℕ} {closes : List HostCall}
    → HasWork heap before rows []
    → IsOf heap after → HasWorked (to_settle [] before.view) closes [] after.view → after.carried ≡ before.carried
    → HasWork heap after rows []
settled {heap} {before} {after} has table stands same = record {
  table = table;
  layout = stands.keeps.layout ∙ has.layout;
  status = stands.keeps.status ∙ has.status;
  agenda = stands.agenda;
  aside = stands.keeps.aside ∙ has.aside;
  references = stands.keeps.references ∙ has.references;
  unlocked = stands.keeps.locked ∙ has.unlocked;
  none = none_still before after same stands.keeps.layout has.none;
}

-- A hand that has taken the shared row's mark has a merge to begin.
pub has_merge : {heap : TableState} {hand : HandState} {rows : List ℕ}
    → HasWork heap hand rows (MergeSwap shared_row Handed ∷ []) → Merges Handed hand shared_row
has_merge has = inl (record { duty = ap (filter (is_about shared_row)) (open_is has); none = has.none })

-- Once that is done and references are left, it gives up the handed one.
pub merged : {heap : TableState} {before after : HandState} {rows : List ℕ} {result : MergeStep}
    → HasWork heap before rows (MergeSwap shared_row Handed ∷ []) → IsOf heap after
    → ((carried : ℕ) × Leaves shared_row (merge_left shared_row carried Handed result) before.view after.view)
    → after.view.references ≡ before.view.references
    → (result ≢ merge.Again → carried_of after shared_row ≡ None) → result ≡ merge.Kept
    → HasWork heap after rows (SharedLoad shared_row Handed ∷ [])
merged {heap} {before} {after} {rows} {result} has table left references view_after kept =
    after_call shared_row (SharedLoad shared_row Handed ∷ []) rows has refl table
    (subst (λ (r : MergeStep). Leaves shared_row (merge_left shared_row left.0 Handed r) before.view after.view) kept
    left.1) (references ∙ has.references)
    (view_after (λ again. absurd (let e : merge.Kept ≡ merge.Again = sym kept ∙ again in cc)))
