-- A look at an object's kind leaves nothing to do, and the hand has seen the kind word.
use Rattle.std.proofs.Common.{◌≡◌, ℕ, Bool, true, false, [], ◌∷◌, refl, ap, ◌∙◌}
use Rattle.std.specs.Prelude.{◌==◌, ◌&&◌, ◌||◌}
use Rattle.std.specs.List.{list_any}
use Rattle.std.proofs.lemmas.Bool.{eq-eqb}
use Rattle.std.proofs.lemmas.List.Folds.{list_any-append}
use Rattle.brc_model.specs.declared.duty.Duty.TheVariants.{KindLoad}
use Rattle.brc_table.specs.declared.view.View.{View}
use Rattle.brc_table.specs.Views.{view_after, event_of, asking}
use Rattle.brc_table.specs.KnownWords.{shows_kind, knows_kind}
use Rattle.brc_table.specs.Hands.{HasNoWork}
use Rattle.brc_heap.specs.Calls.{Leaves}
use Rattle.brc_heap.proofs.Bearing.{or_true}
use Rattle.brc_heap.proofs.Leaving.{begun_works}
use Rattle.brc_heap.proofs.Stepping.{plain_begins, plain_on, stepped_leaves}

pub ask_leaves : (v : View) (x word : ℕ) → HasNoWork v x → Leaves x [] v (view_after (asking v x) word)
ask_leaves v x word none =
    stepped_leaves (begun_works x v (KindLoad x) v.references none)
    (plain_on {d = KindLoad x} {rest = []} word (plain_begins refl refl) refl refl) tt

pub ask_seen : (v : View) (x word : ℕ) → knows_kind x word (view_after (asking v x) word) ≡ true
ask_seen v x word =
    list_any-append (shows_kind x word) v.trace (event_of (asking v x) (KindLoad x) word ∷ [])
    ∙ (ap (λ (b : Bool). list_any (shows_kind x word) v.trace || ((b && (word == word)) || false)) (eq-eqb x x refl)
    ∙ (ap (λ (b : Bool). list_any (shows_kind x word) v.trace || (b || false)) (eq-eqb word word refl)
    ∙ or_true (list_any (shows_kind x word) v.trace)))
