-- A hand that rests does so again after each call.
use Rattle.std.proofs.Common.{◌≡◌, ℕ, suc, Bool, true, false, Option, None, Some, List, [], ◌∷◌, ◌++◌, refl, sym, ap, ◌∙◌, subst}
use Rattle.std.specs.Prelude.{not, if◌then◌else◌}
use Rattle.std.specs.List.{filter}
use Rattle.brc_host.specs.HostCalls.{HostCall}
use Rattle.brc_model.specs.declared.duty.Duty.{Duty}
use Rattle.brc_model.specs.declared.layout.Layout.{Layout}
use Rattle.brc_model.specs.Layout.{root_row, IsCounted}
use Rattle.brc_model.specs.OpenWork.{is_about}
use Rattle.brc_table.specs.declared.view.View.{View}
use Rattle.brc_table.specs.Views.{open_work, main_view, worker_view, without_reference, next_row}
use Rattle.brc_table.specs.Swaps.{with_item, without_item}
use Rattle.brc_table.specs.Hands.{TableState, HandState, IsOf, IsRunning, MayWait}
use Rattle.brc_table.specs.Calls.{IsFree}
use Rattle.brc_heap.specs.Calls.{HasBorn, HasGiven, Leaves}
use Rattle.brc_list.specs.Calls.{KeepsWork, KeepsButField, KeepsBesides, SwapsItem, row_in, word_of}
use Rattle.brc_free.specs.Works.{HasReleased, HasWorked, ComesToSettle, AtOnce, to_settle}
use Rattle.brc_heap.specs.Steps as steps
use Rattle.brc_fixtures.specs.Resting.{HasBack}
use Rattle.brc_queue_tests.specs.Embedded.{IsResting, Holds}
use Rattle.brc_queue_tests.proofs.References.{without_with, word_row}

-- ---- at first

-- Main's hand holds the root at first,
pub main_holds : {heap : TableState} {main : HandState} (layout : Layout) → IsOf heap main
    → main.view ≡ main_view layout → Holds heap main None
main_holds {heap} {main} layout table is = record {
  table = table;
  running = subst IsRunning (sym is) (refl, tt);
  rests = ap open_work is;
  head = ap (λ (v : View). v.actor.head) is;
  locked_is = ap (λ (v : View). v.actor.locked) is;
  returned = tt;
  references = ap (λ (v : View). v.references) is;
}

-- and so does a worker's.
pub worker_holds : {heap : TableState} {hand : HandState} (thread : ℕ) → IsOf heap hand
    → hand.view ≡ worker_view heap.layout thread → Holds heap hand None
worker_holds {heap} {hand} thread table is = record {
  table = table;
  running = subst IsRunning (sym is) (refl, tt);
  rests = ap open_work is;
  head = ap (λ (v : View). v.actor.head) is;
  locked_is = ap (λ (v : View). v.actor.locked) is;
  returned = tt;
  references = ap (λ (v : View). v.references) is;
}

-- ---- a hand without work

no_first : (ds es : List Duty) → ds ++ es ≡ [] → ds ≡ []
no_first [] es e = refl
no_first (d ∷ ds) es e = absurd cc

no_second : (ds es : List Duty) → ds ++ es ≡ [] → es ≡ []
no_second [] es e = e
no_second (d ∷ ds) es e = absurd cc

-- A hand that rests has nothing to do next, and nothing aside.
pub free_at_rest : {heap : TableState} {hand : HandState} {item locked : Option ℕ} → IsResting heap hand item locked
    → IsFree hand.view
free_at_rest {heap} {hand} rest = record {
  running = rest.running.0;
  agenda = no_first hand.view.actor.agenda hand.view.actor.aside rest.rests;
  aside = no_second hand.view.actor.agenda hand.view.actor.aside rest.rests;
}

-- What a hand has to show for it to rest after a call.
rests_again : {heap : TableState} {before after : HandState} {item locked next now : Option ℕ}
    → IsResting heap before item locked → IsOf heap after → after.view.layout ≡ before.view.layout
    → after.view.actor.status ≡ before.view.actor.status → MayWait after.view.actor.agenda → open_work after.view ≡ []
    → after.view.actor.head ≡ 0 → after.view.actor.locked ≡ now → HasBack after now
    → after.view.references ≡ with_item before.view.layout (word_of next) (root_row ∷ [])
    → IsResting heap after next now
rests_again {heap} {before} {after} {item} {locked} {next} {now} rest table layout status waits work head is back
    references = record {
      table = table;
      running = (status ∙ rest.running.0, waits);
      rests = work;
      head = head;
      locked_is = is;
      returned = back;
      references = references ∙ ap (λ (l : Layout). with_item l (word_of next) (root_row ∷ [])) (sym layout);
    }

-- Beside the row's work, there is none.
none_beside : {heap : TableState} {before : HandState} {item locked : Option ℕ} (x : ℕ) (after : View)
    → IsResting heap before item locked → after.actor.agenda ≡ []
    → after.actor.aside ≡ filter (λ d. not (is_about x d)) (open_work before.view) → open_work after ≡ []
none_beside x after rest agenda aside =
    ap (λ (ds : List Duty). ds ++ after.actor.aside) agenda
    ∙ (aside ∙ ap (filter (λ (d : Duty). not (is_about x d))) rest.rests)

-- ---- calls of the heap

-- A birth leaves the hand with the newborn object,
pub after_birth : {heap : TableState} {before after : HandState} (x : ℕ) → Holds heap before None → IsOf heap after
    → x ≡ next_row before.view → IsCounted before.view.layout x → HasBorn before.view after.view
    → Holds heap after (Some x)
after_birth {heap} {before} {after} x rest table is counted born =
    rests_again rest table born.keeps.layout born.keeps.status born.waits (born.work ∙ rest.rests)
    (born.head ∙ rest.head) (born.keeps.locked ∙ rest.locked_is) tt
    (born.keeps.references
    ∙ (ap (λ (y : ℕ). y ∷ before.view.references) (sym is)
    ∙ (ap (λ (rows : List ℕ). x ∷ rows) rest.references
    ∙ sym (ap (λ (b : Bool). if b then root_row ∷ [] else x ∷ root_row ∷ []) counted))))

-- a hand that main gives out leaves main with what it had,
pub after_giving : {heap : TableState} {before after : HandState} (thread : ℕ) → Holds heap before None
    → IsOf heap after → HasGiven thread before.view after.view → Holds heap after None
after_giving {heap} {before} {after} thread rest table gives =
    rests_again rest table gives.keeps.layout gives.keeps.status (subst MayWait (sym gives.agenda) tt)
    (ap (λ (ds : List Duty). ds ++ after.view.actor.aside) gives.agenda ∙ (gives.keeps.aside ∙ rest.rests))
    (gives.head ∙ rest.head) (gives.keeps.locked ∙ rest.locked_is) tt
    (gives.keeps.references ∙ rest.references)

back_again : (before after : HandState) (locked : Option ℕ) → after.fields ≡ before.fields
    → after.view.in_field ≡ before.view.in_field → HasBack before locked → HasBack after locked
back_again before after None fields same back = tt
back_again before after (Some x) fields same back = record {
  rest = back.rest;
  is = fields ∙ (back.is ∙ ap (λ (n : ℕ). (x, n) ∷ back.rest) (sym same));
}

-- and a call about a row, after which nothing is to be done, leaves it with these references.
pub after_call : {heap : TableState} {before after : HandState} {item locked : Option ℕ} (next : Option ℕ) (x : ℕ)
    → IsResting heap before item locked → IsOf heap after → Leaves x [] before.view after.view
    → after.view.actor.head ≡ before.view.actor.head → after.fields ≡ before.fields
    → after.view.references ≡ with_item before.view.layout (word_of next) (root_row ∷ [])
    → IsResting heap after next locked
after_call {heap} {before} {after} {item} {locked} next x rest table leaves head fields references =
    rests_again rest table leaves.keeps.layout leaves.keeps.status leaves.waits
    (none_beside x after.view rest leaves.agenda leaves.keeps.aside)
    (head ∙ rest.head) (leaves.keeps.locked ∙ rest.locked_is)
    (back_again before after locked fields leaves.keeps.in_field rest.returned) references

-- ---- calls of lists

-- A call that keeps all but the references and what the hand knows of the locked object's field,
after_list : {heap : TableState} {before after : HandState} {item locked next now : Option ℕ}
    (references : List ℕ) (field : ℕ) → IsResting heap before item locked → IsOf heap after
    → KeepsWork (record before.view { references = references; in_field = field }) after.view
    → after.view.actor.locked ≡ now → HasBack after now
    → references ≡ with_item before.view.layout (word_of next) (root_row ∷ []) → IsResting heap after next now
after_list references field rest table keeps is back all =
    rests_again rest table keeps.layout keeps.status keeps.waits (keeps.work ∙ rest.rests) (keeps.head ∙ rest.head)
    is back (keeps.references ∙ all)

-- as one that asks,
pub after_asking : {heap : TableState} {before after : HandState} {item locked : Option ℕ}
    → IsResting heap before item locked → IsOf heap after → KeepsWork before.view after.view
    → after.view.actor.locked ≡ before.view.actor.locked → after.fields ≡ before.fields → IsResting heap after item locked
after_asking {heap} {before} {after} {item} {locked} rest table keeps same fields =
    after_list before.view.references before.view.in_field rest table keeps (same ∙ rest.locked_is)
    (back_again before after locked fields keeps.taken_field rest.returned) rest.references

-- a lock,
pub after_lock : {heap : TableState} {before after : HandState} {item : Option ℕ} (row : ℕ) (result : Bool)
    → Holds heap before item → IsOf heap after → KeepsButField before.view after.view
    → after.fields ≡ (if result then (row, after.view.in_field) ∷ before.fields else before.fields)
    → after.view.actor.locked ≡ (if result then Some row else None) → result ≡ true → IsResting heap after item
    (Some row)
after_lock row false rest table keeps fields locked is = absurd cc
after_lock {heap} {before} {after} row true rest table keeps fields locked is =
    after_list before.view.references after.view.in_field rest table keeps locked
    (record { rest = before.fields; is = fields }) rest.references

-- a lock that another thread has just now,
pub after_miss : {heap : TableState} {before after : HandState} {item : Option ℕ} (row : ℕ) (result : Bool)
    → Holds heap before item → IsOf heap after → KeepsButField before.view after.view
    → after.view.actor.locked ≡ (if result then Some row else None) → result ≡ false → Holds heap after item
after_miss row true rest table keeps locked is = absurd cc
after_miss {heap} {before} {after} row false rest table keeps locked is =
    after_list before.view.references after.view.in_field rest table keeps locked tt rest.references

-- a swap,
pub after_swap : {heap : TableState} {before after : HandState} {item : Option ℕ} (row cell found : ℕ)
    (next : Option ℕ) → IsResting heap before item (Some row) → IsOf heap after → KeepsBesides before.view after.view
    → SwapsItem row cell (word_of item) found before.view after.view → next ≡ row_in found
    → after.fields ≡ before.fields → after.view.actor.locked ≡ Some row → IsResting heap after next (Some row)
after_swap {heap} {before} {after} {item} row cell found next rest table keeps swaps is fields locked =
    let layout = before.view.layout in
    let word : word_of next ≡ found = ap word_of is ∙ word_row found in
    after_list after.view.references before.view.in_field rest table keeps locked
    (back_again before after (Some row) fields keeps.taken_field rest.returned)
    (swaps.references
    ∙ (ap (λ (rows : List ℕ). with_item layout found (without_item layout (word_of item) rows)) rest.references
    ∙ (ap (with_item layout found) (without_with layout (word_of item) (root_row ∷ []))
    ∙ ap (λ (n : ℕ). with_item layout n (root_row ∷ [])) (sym word))))

-- or an unlock.
pub after_unlock : {heap : TableState} {before after : HandState} {item : Option ℕ} (row : ℕ)
    → IsResting heap before item (Some row) → IsOf heap after → KeepsWork before.view after.view
    → after.view.actor.locked ≡ None → Holds heap after item
after_unlock {heap} {before} {after} row rest table keeps locked =
    after_list before.view.references before.view.in_field rest table keeps locked tt rest.references

-- ---- calls that wait

-- A release leaves the hand without the item, and then it may settle,
pub comes_to_settle : {heap : TableState} {before : HandState} {after : View} (x : ℕ) → Holds heap before (Some x)
    → HasReleased x before.view after → ComesToSettle after []
comes_to_settle {heap} {before} {after} x rest released =
    AtOnce (released.keeps.status ∙ rest.running.0)
    (released.keeps.aside ∙ ap (filter (λ (d : Duty). not (is_about x d))) rest.rests) released.agenda

-- and rests.
pub after_release : {heap : TableState} {before after : HandState} {between : View} {closes : List HostCall} (x : ℕ)
    → Holds heap before (Some x) → HasReleased x before.view between → IsOf heap after → after.view.actor.head ≡ 0
    → HasWorked (to_settle [] between) closes [] after.view → Holds heap after None
after_release {heap} {before} {after} {between} x rest released table head worked =
    let layout = before.view.layout in
    let none : after.view.actor.agenda ≡ [] = worked.agenda in
    rests_again rest table (worked.keeps.layout ∙ released.keeps.layout) (worked.keeps.status ∙ released.keeps.status)
    (subst MayWait (sym none) tt)
    (none_beside x after.view rest none (worked.keeps.aside ∙ released.keeps.aside)) head
    (worked.keeps.locked ∙ (released.keeps.locked ∙ rest.locked_is)) tt
    (worked.keeps.references
    ∙ (released.keeps.references
    ∙ (ap (without_reference layout x) rest.references ∙ without_with layout (suc x) (root_row ∷ []))))

-- So it does after it has looked through its queue.
pub after_looking : {heap : TableState} {before after : HandState} → Holds heap before None → IsOf heap after
    → IsFree after.view → after.view.actor.head ≡ 0 → steps.Keeps before.view after.view → Holds heap after None
after_looking {heap} {before} {after} rest table free head keeps =
    rests_again rest table keeps.layout keeps.status (subst MayWait (sym free.agenda) tt)
    (ap (λ (ds : List Duty). ds ++ after.view.actor.aside) free.agenda ∙ free.aside) head
    (keeps.locked ∙ rest.locked_is) tt (keeps.references ∙ rest.references)
