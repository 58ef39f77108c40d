-- Main may start a worker and give out its hand once it has retained the root for it.
use Rattle.std.proofs.Common.{◌≡◌, ℕ, ◌+◌, ◌<◌, ◌≤◌, Bool, true, false, List, [], ◌∷◌, None, inr, refl, sym, ap, ◌∙◌, subst, arith}
use Rattle.std.specs.Prelude.{◌==◌, ◌||◌, cond, count_by, if◌then◌else◌}
use Rattle.std.specs.List.{list_any}
use Rattle.std.proofs.lemmas.List.Folds.{list_any-append}
use Rattle.std.proofs.lemmas.List.Sums.{sum_by-cons, fold-append}
use Rattle.brc_model.specs.declared.address.Address.TheVariants.{ThreadWord}
use Rattle.brc_model.specs.declared.layout.Layout.{Layout}
use Rattle.brc_model.specs.Layout.{root_row}
use Rattle.brc_model.proofs.Basics.Blocks.{root_counted}
use Rattle.brc_table.specs.declared.view.View.{View}
use Rattle.brc_table.specs.Views.{holds, is_given, with_reference, without_one, open_work, giving}
use Rattle.brc_table.specs.Hands.{HasNoWork}
use Rattle.brc_table.specs.KnownWords.{has_started, started_word, shows_kind, cell_known}
use Rattle.brc_table.specs.Giving.{MayGive, MayStart, starting}
use Rattle.brc_model.specs.declared.event.WordEvent.{WordEvent}
use Rattle.brc_heap.specs.Calls.{HasGiven, Leaves}
use Rattle.brc_heap.specs.Steps.{Keeps}
use Rattle.brc_heap.proofs.Keeping.{keeps_then, keeps_rest}
use Rattle.brc_heap.proofs.Turning.{all_away}

-- With one reference more to the root, main holds two.
two_held : (v u : View) → u.references ≡ with_reference v.layout root_row v.references → 1 ≤ holds v root_row
    → 2 ≤ holds u root_row
two_held v u is held =
    let more : u.references ≡ root_row ∷ v.references =
    is ∙ ap (λ (b : Bool). if b then v.references else root_row ∷ v.references) (root_counted v.layout) in
    let all : holds u root_row ≡ 1 + holds v root_row =
    ap (count_by (λ y. y == root_row)) more ∙ sum_by-cons (λ (y : ℕ). cond (y == root_row) 1 0) root_row v.references in
    omega (arith, all, held)

-- So it may start the worker,
pub may_start : (v u : View) (thread : ℕ) → v.thread ≡ 0 → Leaves root_row [] v u → 0 < thread
    → thread ≤ v.layout.workers → is_given thread v ≡ false → MayStart u thread
may_start v u thread main leaves some known not_given = record {
  is_main = leaves.keeps.thread ∙ main;
  some_worker = some;
  known_worker = subst (λ (l : Layout). thread ≤ l.workers) (sym leaves.keeps.layout) known;
  not_given = ap (list_any (λ t. t == thread)) leaves.keeps.given ∙ not_given;
}

-- and then give out its hand.
pub may_give : (v u : View) (thread : ℕ) → v.thread ≡ 0 → 1 ≤ holds v root_row → Leaves root_row [] v u
    → u.references ≡ with_reference v.layout root_row v.references → MayStart u thread
    → has_started thread (starting u thread) ≡ true → MayGive (starting u thread) thread
may_give v u thread main held leaves more start started =
    let two = two_held v u more held in
    record {
      is_main = start.is_main;
      holds_root = omega (arith, two);
      no_work = leaves.left_is;
      keeps = λ e. inr two;
      some_worker = start.some_worker;
      known_worker = start.known_worker;
      not_given = start.not_given;
      started = started;
    }

-- The start of a worker leaves what main has seen of objects,
started_keeps : (u : View) (thread : ℕ) → Keeps u (starting u thread)
started_keeps u thread =
    let event : WordEvent = record { address = ThreadWord thread; found = started_word thread u; left = 1 } in
    record {
      layout = refl;
      thread = refl;
      status = refl;
      references = refl;
      aside = refl;
      used = refl;
      locked = refl;
      in_field = refl;
      given = refl;
      kinds = λ y word seen.
          list_any-append (shows_kind y word) u.trace (event ∷ [])
          ∙ ap (λ (b : Bool). b || list_any (shows_kind y word) (event ∷ [])) seen;
      cells = λ y i is. fold-append (cell_known y i) None u.trace (event ∷ []);
    }

-- and so main has given out its hand.
pub has_given : {v u w x : View} {thread : ℕ} → HasNoWork v root_row → Leaves root_row [] v u
    → u.references ≡ with_reference v.layout root_row v.references → u.actor.head ≡ v.actor.head
    → w ≡ starting u thread → x ≡ giving w thread → HasGiven thread v x
has_given {v} {u} {w} {x} {thread} none leaves more head starts gives =
    let rows : without_one root_row u.references ≡ v.references =
    ap (without_one root_row) more
    ∙ ap (λ (b : Bool). without_one root_row (if b then v.references else root_row ∷ v.references))
    (root_counted v.layout) in
    subst (HasGiven thread v) (sym (gives ∙ ap (λ (z : View). giving z thread) starts)) (record {
      keeps =
          keeps_rest (keeps_then leaves.keeps (started_keeps u thread))
          (leaves.keeps.aside ∙ all_away root_row (open_work v) none) rows
          (ap (λ (ts : List ℕ). thread ∷ ts) leaves.keeps.given);
      head = head;
      agenda = leaves.agenda;
    })
