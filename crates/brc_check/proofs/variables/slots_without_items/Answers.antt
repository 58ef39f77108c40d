use Rattle.brc_model.specs.declared.state.Slot.TheVariants.{Empty}
use Rattle.brc_model.specs.SlotStates.{without_item}
use Rattle.brc_check.proofs.Mapping.{mapped}
use Rattle.brc_check.proofs.variables.slots_without_items.Goals as goal

pub returns : goal.returns
returns c = mapped _ _ _ _ 16 without_item Empty (λ p q x y called. search) (search) c.map.ensures.items
