-- The name of each rule of the step relation.
use Rattle.std.specs.Prelude.{ℕ, Bool, List}
use Rattle.brc_model.specs.declared.address.Address.{Address}
use Rattle.brc_model.specs.declared.duty.Duty.{Duty}
use Rattle.brc_model.specs.declared.layout.Layout.{Layout}
use Rattle.brc_model.specs.AbstractState.{Move}
use Rattle.brc_model.specs.Rules.{Goes}
use Rattle.brc_model.specs.Rules as steps
use Rattle.brc_trace.specs.declared.rule.Rule.{Rule}
use Rattle.brc_trace.specs.declared.rule.Rule.TheVariants as names

module _ (memory : Address → ℕ) (layout : Layout) (t : ℕ) (running : Bool) (head : ℕ) where
  abbrev pub named : (d : Duty) (found left : ℕ) (next : List Duty) (moves : List Move)
      → Goes memory layout t running head d found left next moves → Rule
  named d found left next moves (steps.KindOfResource _ _ _ _ _) = names.KindOfResource
  named d found left next moves (steps.KindOfOther _ _ _ _ _) = names.KindOfOther
  named d found left next moves (steps.FieldFilled _ _ _) = names.FieldFilled
  named d found left next moves (steps.Born _ _ _) = names.Born
  named d found left next moves (steps.KindRead _ _) = names.KindRead
  named d found left next moves (steps.Locks _ _ _) = names.Locks
  named d found left next moves (steps.LockHeld _ _ _) = names.LockHeld
  named d found left next moves (steps.Unlocks _ _) = names.Unlocks
  named d found left next moves (steps.CellRead _ _ _) = names.CellRead
  named d found left next moves (steps.ItemStored _ _ _ _ _) = names.ItemStored
  named d found left next moves (steps.ResourceLent _ _) = names.ResourceLent
  named d found left next moves (steps.ResourceReturned _ _) = names.ResourceReturned
  named d found left next moves (steps.RetainsImmortal _ _ _ _) = names.RetainsImmortal
  named d found left next moves (steps.OwnerRetains _ _ _ _ _ _) = names.OwnerRetains
  named d found left next moves (steps.FullOwnerRetains _ _ _ _ _ _) = names.FullOwnerRetains
  named d found left next moves (steps.OtherRetains _ _ _ _ _) = names.OtherRetains
  named d found left next moves (steps.LocalRaised _ _ _ _) = names.LocalRaised
  named d found left next moves (steps.SharedRaised _ _ _) = names.SharedRaised
  named d found left next moves (steps.ReleasesImmortal _ _ _ _) = names.ReleasesImmortal
  named d found left next moves (steps.OwnerReleases _ _ _ _ _) = names.OwnerReleases
  named d found left next moves (steps.OtherReleases _ _ _ _ _) = names.OtherReleases
  named d found left next moves (steps.LocalLowered _ _ _ _) = names.LocalLowered
  named d found left next moves (steps.LocalReachesZero _ _ _ _) = names.LocalReachesZero
  named d found left next moves (steps.NothingShared _ _ _) = names.NothingShared
  named d found left next moves (steps.WasShared _ _ _) = names.WasShared
  named d found left next moves (steps.SharedRead _ _ _) = names.SharedRead
  named d found left next moves (steps.Queues _ _ _ _) = names.Queues
  named d found left next moves (steps.Decrements _ _ _ _ _) = names.Decrements
  named d found left next moves (steps.DecrementsToZero _ _ _ _ _) = names.DecrementsToZero
  named d found left next moves (steps.ExchangeLost _ _ _ _ _) = names.ExchangeLost
  named d found left next moves (steps.Marked _ _) = names.Marked
  named d found left next moves (steps.OwnerRuns _ _ _) = names.OwnerRuns
  named d found left next moves (steps.OwnerExits _ _ _) = names.OwnerExits
  named d found left next moves (steps.MarkTakenBack _ _ _) = names.MarkTakenBack
  named d found left next moves (steps.MarkGone _ _ _) = names.MarkGone
  named d found left next moves (steps.MarksLooked _ _) = names.MarksLooked
  named d found left next moves (steps.MarkClaimed _ _ _) = names.MarkClaimed
  named d found left next moves (steps.NothingToClaim _ _ _) = names.NothingToClaim
  named d found left next moves (steps.NobodysCount _ _ _ _) = names.NobodysCount
  named d found left next moves (steps.LocalTakenOut _ _ _ _) = names.LocalTakenOut
  named d found left next moves (steps.MergeRead _ _ _ _) = names.MergeRead
  named d found left next moves (steps.Merges _ _ _ _) = names.Merges
  named d found left next moves (steps.MergesToZero _ _ _ _) = names.MergesToZero
  named d found left next moves (steps.MergesForHanded _ _ _) = names.MergesForHanded
  named d found left next moves (steps.MergeLost _ _ _ _ _ _) = names.MergeLost
  named d found left next moves (steps.Chained _ _) = names.Chained
  named d found left next moves (steps.ChainRead _) = names.ChainRead
  named d found left next moves (steps.DyingResource _ _ _) = names.DyingResource
  named d found left next moves (steps.DyingCells _ _ _) = names.DyingCells
  named d found left next moves (steps.CellEmptied _ _ _ _) = names.CellEmptied
  named d found left next moves (steps.FieldEmptied _ _) = names.FieldEmptied
  named d found left next moves (steps.ResourceClosed _ _) = names.ResourceClosed
  named d found left next moves (steps.Closes _ _) = names.Closes
  named d found left next moves (steps.SaysLeaving _ _ _) = names.SaysLeaving
  named d found left next moves (steps.MarksRead _ _ _) = names.MarksRead
  named d found left next moves (steps.FoundMarkTaken _ _ _ _) = names.FoundMarkTaken
  named d found left next moves (steps.FoundMarkGone _ _ _ _) = names.FoundMarkGone
  named d found left next moves (steps.SaysGone _) = names.SaysGone
