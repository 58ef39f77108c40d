-- A step that goes by a rule has the rule's name.
use Rattle.std.proofs.Common.{◌≡◌, ◌≢◌, ℕ, suc, ◌-◌, ◌<◌, ◌≤◌, Bool, true, false, List, inl, inr, refl, sym, subst, arith}
use Rattle.std.specs.Prelude.{◌==◌, nat_lt}
use Rattle.brc_word.specs.declared.values.TheConstants.{ONE_REFERENCE}
use Rattle.std.proofs.lemmas.Bool.{eq-eqb, le-ltb, lt-ltb, ne_eqb}
use Rattle.brc_word.specs.Words.{most_local, local_part, fresh_word, dead_word, merged_word, free_word}
use Rattle.brc_model.specs.declared.address.Address.{Address}
use Rattle.brc_model.specs.declared.duty.Duty.{Duty}
use Rattle.brc_model.specs.declared.layout.Layout.{Layout}
use Rattle.brc_model.specs.declared.duty.Reason.{Reason}
use Rattle.brc_model.specs.declared.duty.Reason.TheVariants.{Own, Handed}
use Rattle.brc_model.specs.AbstractState.{Move}
use Rattle.brc_model.specs.Duties.{found_row}
use Rattle.brc_model.specs.Layout.{mark_bit}
use Rattle.brc_trace.proofs.MarkChanges.{set_taken, clear_taken}
use Rattle.brc_model.specs.Rules.{Goes}
use Rattle.brc_model.specs.Rules as steps
use Rattle.brc_trace.specs.Naming.{named}
use Rattle.brc_trace.specs.declared.rule.Rule.TheVariants as names
use Rattle.brc_trace.specs.Rules.{rule_of, merge_rule}

-- ---- rule by rule

merge_lost : (reason : Reason) (word f : ℕ) → f ≢ word → merge_rule reason word f f ≡ names.MergeLost
merge_lost Own word f lost = rw (ne_eqb f word lost) refl
merge_lost Handed word f lost = rw (ne_eqb f word lost) refl

module _ (memory : Address → ℕ) (layout : Layout) (t : ℕ) (running : Bool) (head : ℕ) where
  pub is_named : (d : Duty) (found left : ℕ) (next : List Duty) (moves : List Move)
      → (g : Goes memory layout t running head d found left next moves)
      → rule_of t running d found left ≡ named memory layout t running head d found left next moves g
  is_named d found left next moves (steps.KindOfResource x h word f one) = rw one refl
  is_named d found left next moves (steps.KindOfOther x h word f one) = rw one refl
  is_named d found left next moves (steps.FieldFilled x h f) = refl
  is_named d found left next moves (steps.Born x h f) = refl
  is_named d found left next moves (steps.KindRead x f) = refl
  is_named d found left next moves (steps.Locks x f one) = rw (eq-eqb f free_word one) refl
  is_named d found left next moves (steps.LockHeld x f one) = rw (ne_eqb f free_word one) refl
  is_named d found left next moves (steps.Unlocks x f) = refl
  is_named d found left next moves (steps.CellRead x cell f) = refl
  is_named d found left next moves (steps.ItemStored x cell item h f) = refl
  is_named d found left next moves (steps.ResourceLent x f) = refl
  is_named d found left next moves (steps.ResourceReturned x f) = refl
  is_named d found left next moves (steps.RetainsImmortal x h f one) = rw one refl
  is_named d found left next moves (steps.OwnerRetains x h f one two three) =
      rw (one, two, lt-ltb (local_part f) most_local three) refl
  is_named d found left next moves (steps.FullOwnerRetains x h f one two three) =
      rw (one, two, le-ltb (local_part f) most_local three) refl
  is_named d found left next moves (steps.OtherRetains x h f one two) = rw (one, two) refl
  is_named d found left next moves (steps.LocalRaised x h word f) = refl
  is_named d found left next moves (steps.SharedRaised x h f) = refl
  is_named d found left next moves (steps.ReleasesImmortal x h f one) = rw one refl
  is_named d found left next moves (steps.OwnerReleases x h f one two) = rw (one, two) refl
  is_named d found left next moves (steps.OtherReleases x h f one two) = rw (one, two) refl
  is_named d found left next moves (steps.LocalLowered x word f one) = rw (ne_eqb (local_part word) 1 one) refl
  is_named d found left next moves (steps.LocalReachesZero x word f one) = rw (eq-eqb (local_part word) 1 one) refl
  is_named d found left next moves (steps.NothingShared x f one) = rw (eq-eqb f fresh_word one) refl
  is_named d found left next moves (steps.WasShared x f one) = rw (ne_eqb f fresh_word one) refl
  is_named d found left next moves (steps.SharedRead x reason f) = refl
  is_named d found left next moves (steps.Queues x reason word one) =
      rw (eq-eqb word word refl, eq-eqb word fresh_word one) refl
  is_named d found left next moves (steps.Decrements x reason word one two) =
      rw (eq-eqb word word refl, ne_eqb word fresh_word one, ne_eqb (word - ONE_REFERENCE) dead_word two) refl
  is_named d found left next moves (steps.DecrementsToZero x reason word one two) =
      rw (eq-eqb word word refl, ne_eqb word fresh_word one, eq-eqb (word - ONE_REFERENCE) dead_word two) refl
  is_named d found left next moves (steps.ExchangeLost x reason word f one) = rw (ne_eqb f word one) refl
  is_named d found left next moves (steps.Marked x f) = refl
  is_named d found left next moves (steps.OwnerRuns x f one) = rw (eq-eqb f 1 one) refl
  is_named d found left next moves (steps.OwnerExits x f one) = rw (ne_eqb f 1 one) refl
  is_named d found left next moves (steps.MarkTakenBack x f one) =
      rw (ne_eqb _ f (set_taken f (mark_bit layout x) one)) refl
  is_named d found left next moves (steps.MarkGone x f one) =
      rw (eq-eqb _ f (clear_taken f (mark_bit layout x) one)) refl
  is_named d found left next moves (steps.MarksLooked word f) = refl
  is_named d found left next moves (steps.MarkClaimed x f one) =
      rw (ne_eqb _ f (set_taken f (mark_bit layout x) one)) refl
  is_named d found left next moves (steps.NothingToClaim x f one) =
      rw (eq-eqb _ f (clear_taken f (mark_bit layout x) one)) refl
  is_named d found left next moves (steps.NobodysCount x reason f one) = rw (eq-eqb f 0 one) refl
  is_named d found left next moves (steps.LocalTakenOut x reason f one) = rw (ne_eqb f 0 one) refl
  is_named d found left next moves (steps.MergeRead x carried reason f) = refl
  is_named d found left next moves (steps.Merges x carried word one) =
      rw (eq-eqb word word refl, ne_eqb (merged_word word carried) dead_word one) refl
  is_named d found left next moves (steps.MergesToZero x carried word one) =
      rw (eq-eqb word word refl, eq-eqb (merged_word word carried) dead_word one) refl
  is_named d found left next moves (steps.MergesForHanded x carried word) = rw (eq-eqb word word refl) refl
  is_named d found left next moves (steps.MergeLost x carried word reason f one) = merge_lost reason word f one
  is_named d found left next moves (steps.Chained x f) = refl
  is_named d found left next moves (steps.ChainRead f) = refl
  is_named d found left next moves (steps.DyingResource x f one) = rw one refl
  is_named d found left next moves (steps.DyingCells x f one) = rw one refl
  is_named d found left next moves (steps.CellEmptied x cell cells f) = refl
  is_named d found left next moves (steps.FieldEmptied x f) = refl
  is_named d found left next moves (steps.ResourceClosed x f) = refl
  is_named d found left next moves (steps.Closes x f) = refl
  is_named d found left next moves (steps.SaysLeaving word rows f) = refl
  is_named d found left next moves (steps.MarksRead word rows f) = refl
  is_named d found left next moves (steps.FoundMarkTaken word marks f one) =
      rw (ne_eqb _ f (set_taken f (mark_bit layout (found_row layout t word marks)) one)) refl
  is_named d found left next moves (steps.FoundMarkGone word marks f one) =
      rw (eq-eqb _ f (clear_taken f (mark_bit layout (found_row layout t word marks)) one)) refl
  is_named d found left next moves (steps.SaysGone f) = refl
