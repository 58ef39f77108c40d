-- The laws of the counting machine on which each step of a hand rests.
use Rattle.brc_model.specs.CountingLaws.{DutiesAreKept, DutiesAreWithin, AccountsAreThere, ChainsAreThere, HandedMergesLive}
use Rattle.brc_model.specs.GuardLaws.{GuardedCellsStay}
use Rattle.brc_model.specs.FieldLaws.{GivenFieldsAreUnlocked, LockedFieldsAreFull, FieldsAreFree, FieldsAreKnown}

pub record ModelLaws : Type 0 where
  pub kept : DutiesAreKept
  pub within : DutiesAreWithin
  pub accounts : AccountsAreThere
  pub chains : ChainsAreThere
  pub guarded : GuardedCellsStay
  pub handed : HandedMergesLive
  pub full : LockedFieldsAreFull
  pub free : FieldsAreFree
  pub known : FieldsAreKnown
  pub unlocked : GivenFieldsAreUnlocked
