-- A hand that has locked an object knows from the object's kind what the field holds.
use Rattle.std.proofs.Common.{◌≡◌, ℕ, ◌+◌, ◌<◌, true, Option, Some, List, [], ◌∷◌, sym, ap, ◌∙◌}
use Rattle.std.specs.Prelude.{◌||◌}
use Rattle.std.specs.List.{list_any}
use Rattle.std.proofs.lemmas.List.Folds.{list_any-append}
use mathlib.Core.Option as home
use mathlib.Core.Option.{some}
use lib.ListN.{get_elem?}
use Rattle.brc_model.specs.declared.address.Address.TheVariants.{KindOf}
use Rattle.brc_model.specs.declared.duty.Duty.{Duty}
use Rattle.brc_model.specs.Duties.{resources_of}
use Rattle.brc_model.specs.FieldLaws.{LockedFieldsAreFull}
use Rattle.brc_table.specs.Plan.{Plan}
use Rattle.brc_table.specs.declared.view.View.{View}
use Rattle.brc_table.specs.Views.{event_of, view_by}
use Rattle.brc_table.specs.KnownWords.{shows_kind, knows_kind}
use Rattle.brc_table.specs.Homes.{TableStands}

-- A kind word that the hand has seen is still seen after its first duty.
pub still_seen : (x word : ℕ) (v : View) (d : Duty) (rest : List Duty) (found : ℕ) → knows_kind x word v ≡ true
    → knows_kind x word (view_by v (d ∷ rest) found) ≡ true
still_seen x word v d rest found seen =
    let behind = event_of v d found ∷ [] in
    list_any-append (shows_kind x word) v.trace behind
    ∙ ap (λ b. b || list_any (shows_kind x word) behind) seen

module _ (full : LockedFieldsAreFull) {T : Type 0} (plan : Plan) (words : List ℕ)
    (homes : List (home.Option (Option T))) (views : List View) (holds : TableStands plan words homes views)
    (id x : ℕ) (v : View) (here : get_elem? views id ≡ some v) (locked : v.actor.locked ≡ Some x) where
  -- The field holds as many resources as the machine's kind word says.
  pub field_full : v.in_field ≡ resources_of (holds.stands.machine.memory (KindOf x))
  field_full =
      let s = holds.stands in
      sym ((holds.fields.locked id x v here locked).1)
      ∙ full s.accounts (1 + s.machine.layout.workers) s.machine v.thread v.actor x s.counts (s.same_actor id v here)
      locked (s.lends_none id v here)

  -- So it does by the kind word that the hand has seen.
  pub field_seen : (word : ℕ) → 0 < word → knows_kind x word v ≡ true → v.in_field ≡ resources_of word
  field_seen word more seen = field_full ∙ ap resources_of (holds.stands.kinds_seen id x word v here more seen)
