-- The abstract state of the plain machine, as the model says it.
use Rattle.std.specs.Prelude.{◌≡◌, ℕ, List, map}
use Rattle.std.specs.List.{slice_index_or}
use Rattle.brc_lang.specs.declared.kind.Kind.{Kind}
use Rattle.brc_lang.specs.declared.kind.Kind.TheVariants as kinds
use Rattle.brc_model.specs.AbstractState as model
use Rattle.brc_plain.specs.declared.bag.Holder.{Holder}
use Rattle.brc_plain.specs.declared.bag.Holder.TheVariants.{ByThread, ByCell}
use Rattle.brc_plain.specs.declared.bag.Reference.{Reference}
use Rattle.brc_plain.specs.declared.bag.Move.{Move}
use Rattle.brc_plain.specs.declared.bag.Move.TheVariants.{Born, Gain, Lose, PassOn, Finalise}
use Rattle.brc_plain.specs.declared.bag.Bag.{Bag}

abbrev pub holder_in : Holder → model.Holder
holder_in (ByThread thread holding) = model.ByThread thread holding
holder_in (ByCell list cell) = model.ByCell list cell

abbrev pub reference_in : Reference → model.Reference
reference_in r = record { holder = holder_in r.holder; object = r.object }

abbrev pub move_in : Move → model.Move
move_in (Born reference kind) = model.Born (reference_in reference) kind
move_in (Gain reference) = model.Gain (reference_in reference)
move_in (Lose reference) = model.Lose (reference_in reference)
move_in (PassOn reference holder) = model.PassOn (reference_in reference) (holder_in holder)
move_in (Finalise object) = model.Finalise object

-- The kinds that the items give the rows: a row without a kind of its own has `Any`.
abbrev pub kinds_by : List Kind → ℕ → Kind
kinds_by items x = slice_index_or items x kinds.Any

-- The items give each row this kind.
abbrev pub AreKinds : List Kind → (ℕ → Kind) → Type 0
AreKinds items kind = kinds_by items ≡ kind

abbrev pub bag_in : Bag → model.AbstractState
bag_in b = record {
  references = map reference_in b.references.items;
  born = b.born.items;
  closed = b.closed.items;
  kinds = kinds_by b.kinds.items;
}
