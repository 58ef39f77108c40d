-- The rules are exactly the steps: each step is the conclusion of some rule, and each rule concludes what a step
-- computes.
use Rattle.std.proofs.Common.{◌≡◌, ◌≢◌, ℕ, suc, ◌-◌, ◌<◌, ◌≤◌, Bool, true, false, List, [], inl, inr, refl, sym, subst, arith}
use Rattle.std.specs.Prelude.{◌==◌, nat_lt}
use Rattle.brc_word.specs.declared.values.TheConstants.{ONE_REFERENCE}
use Rattle.std.proofs.lemmas.Bool.{eq-eqb, le-ltb, lt-ltb, ne_eqb}
use Rattle.std.proofs.lemmas.Bool.Decides.{eqb_tells, leb_tells}
use Rattle.std.proofs.lemmas.List.{append-nil}
use Rattle.brc_word.specs.Words.{most_local, local_part, is_immortal_word, fresh_word, dead_word, merged_word, free_word, mark_at}
use Rattle.brc_model.specs.declared.duty.Holding.{Holding}
use Rattle.brc_model.specs.declared.duty.Reason.{Reason}
use Rattle.brc_model.specs.declared.duty.Reason.TheVariants.{Own, Handed}
use Rattle.brc_model.specs.declared.duty.Duty.{Duty}
use Rattle.brc_model.specs.declared.duty.Duty.TheVariants.{RetainLoad, RetainStore, RetainAdd, ReleaseLoad, ReleaseStore, DecideAtZero, SharedLoad, SharedExchange, SetMark, Look, TakeMark, MergeSwap, MergeLoad, MergeExchange, Die, Settle, SettleKind, SettleCell, TakeField, CloseResource, SettleEnd, Leave, Scan, MarksLoad, TakeFound, Finish, ClaimMark, BirthKind, BirthField, BirthLocal, KindLoad, LockGate, UnlockGate, CellLoad, CellSwap, LendField, ReturnField}
use Rattle.brc_model.specs.declared.address.Address.{Address}
use Rattle.brc_model.specs.Rules.{Goes, IsComputed, given_up}
use Rattle.brc_model.specs.Rules as rules
use Rattle.brc_model.specs.Duties.{found_row, new_word, continuation, counts_locally, has_resource}
use Rattle.brc_model.specs.Moves.{reference_effects, put_in_flight}
use Rattle.brc_model.specs.AbstractState.{Move}
use Rattle.brc_model.specs.declared.layout.Layout.{Layout}
use Rattle.brc_model.specs.Layout.{mark_bit}

module _ (memory : Address → ℕ) (layout : Layout) (t : ℕ) (running : Bool) (head : ℕ) where
  abbrev Computed : Duty → ℕ → ℕ → List Duty → List Move → Type 0
  Computed = IsComputed memory layout t running head

  abbrev By : Duty → ℕ → ℕ → List Duty → List Move → Type 0
  By = Goes memory layout t running head

  -- ---- a rule concludes what the step computes

  exchanged_moves : (x : ℕ) (reason : Reason) (word : ℕ)
      → given_up t reason x ≡ reference_effects memory t (SharedExchange x reason word) word
  exchanged_moves x Own word = rw (eq-eqb word word refl) refl
  exchanged_moves x Handed word = refl

  lost_moves : (x : ℕ) (reason : Reason) (word f : ℕ) → f ≢ word
      → [] ≡ reference_effects memory t (SharedExchange x reason word) f
  lost_moves x Own word f lost = rw (ne_eqb f word lost) refl
  lost_moves x Handed word f lost = refl

  pub computed : (d : Duty) (found left : ℕ) (next : List Duty) (moves : List Move) → By d found left next moves
      → Computed d found left next moves
  computed d found left next moves (rules.KindOfResource x h word f is) =
      record { left_is = refl; next_is = rw is refl; moves_are = refl }
  computed d found left next moves (rules.KindOfOther x h word f is) =
      record { left_is = refl; next_is = rw is refl; moves_are = refl }
  computed d found left next moves (rules.Locks x f free) =
      record { left_is = rw free refl; next_is = refl; moves_are = refl }
  computed d found left next moves (rules.LockHeld x f held) =
      record { left_is = rw (ne_eqb f free_word held) refl; next_is = refl; moves_are = refl }
  computed d found left next moves (rules.RetainsImmortal x h f is) =
      record { left_is = refl; next_is = rw is refl; moves_are = rw is refl }
  computed d found left next moves (rules.OwnerRetains x h f mortal counts low) =
      let less = lt-ltb (local_part f) most_local low in
      record { left_is = refl; next_is = rw (mortal, counts, less) refl; moves_are = rw mortal refl }
  computed d found left next moves (rules.FullOwnerRetains x h f mortal counts full) =
      let more = le-ltb (local_part f) most_local full in
      record { left_is = refl; next_is = rw (mortal, counts, more) refl; moves_are = rw mortal refl }
  computed d found left next moves (rules.OtherRetains x h f mortal counts) =
      record { left_is = refl; next_is = rw (mortal, counts) refl; moves_are = rw mortal refl }
  computed d found left next moves (rules.ReleasesImmortal x h f is) =
      record { left_is = refl; next_is = rw is refl; moves_are = rw is refl }
  computed d found left next moves (rules.OwnerReleases x h f mortal counts) =
      let none_lost = sym (append-nil (put_in_flight t h x)) in
      record { left_is = refl; next_is = rw (mortal, counts) refl; moves_are = rw mortal none_lost }
  computed d found left next moves (rules.OtherReleases x h f mortal counts) =
      let none_lost = sym (append-nil (put_in_flight t h x)) in
      record { left_is = refl; next_is = rw (mortal, counts) refl; moves_are = rw mortal none_lost }
  computed d found left next moves (rules.LocalLowered x word f more) =
      record { left_is = refl; next_is = rw (ne_eqb (local_part word) 1 more) refl; moves_are = refl }
  computed d found left next moves (rules.LocalReachesZero x word f last) =
      record { left_is = refl; next_is = rw (eq-eqb (local_part word) 1 last) refl; moves_are = refl }
  computed d found left next moves (rules.NothingShared x f fresh) =
      record { left_is = refl; next_is = rw (eq-eqb f fresh_word fresh) refl; moves_are = refl }
  computed d found left next moves (rules.WasShared x f other) =
      record { left_is = refl; next_is = rw (ne_eqb f fresh_word other) refl; moves_are = refl }
  computed d found left next moves (rules.Queues x reason word fresh) =
      let won = eq-eqb word word refl in let first = eq-eqb word fresh_word fresh in
      let moves_are = exchanged_moves x reason word in
      record { left_is = rw (won, first) refl; next_is = rw (won, first) refl; moves_are = moves_are }
  computed d found left next moves (rules.Decrements x reason word other more) =
      let won = eq-eqb word word refl in
      let later = ne_eqb word fresh_word other in
      let lives = ne_eqb (word - ONE_REFERENCE) dead_word more in
      let moves_are = exchanged_moves x reason word in
      record { left_is = rw (won, later) refl; next_is = rw (won, later, lives) refl; moves_are = moves_are }
  computed d found left next moves (rules.DecrementsToZero x reason word other last) =
      let won = eq-eqb word word refl in
      let later = ne_eqb word fresh_word other in
      let dies = eq-eqb (word - ONE_REFERENCE) dead_word last in
      let moves_are = exchanged_moves x reason word in
      record { left_is = rw (won, later) refl; next_is = rw (won, later, dies) refl; moves_are = moves_are }
  computed d found left next moves (rules.ExchangeLost x reason word f lost) =
      let missed = ne_eqb f word lost in
      record { left_is = rw missed refl; next_is = rw missed refl; moves_are = lost_moves x reason word f lost }
  computed d found left next moves (rules.OwnerRuns x f runs) =
      record { left_is = refl; next_is = rw (eq-eqb f 1 runs) refl; moves_are = refl }
  computed d found left next moves (rules.OwnerExits x f exits) =
      record { left_is = refl; next_is = rw (ne_eqb f 1 exits) refl; moves_are = refl }
  computed d found left next moves (rules.MarkTakenBack x f set) =
      record { left_is = refl; next_is = rw (eq-eqb (mark_at f (mark_bit layout x)) 1 set) refl; moves_are = refl }
  computed d found left next moves (rules.MarkGone x f gone) =
      record { left_is = refl; next_is = rw (ne_eqb (mark_at f (mark_bit layout x)) 1 gone) refl; moves_are = refl }
  computed d found left next moves (rules.MarkClaimed x f set) =
      record { left_is = refl; next_is = rw (eq-eqb (mark_at f (mark_bit layout x)) 1 set) refl; moves_are = refl }
  computed d found left next moves (rules.NothingToClaim x f none) =
      record { left_is = refl; next_is = rw (ne_eqb (mark_at f (mark_bit layout x)) 1 none) refl; moves_are = refl }
  computed d found left next moves (rules.NobodysCount x reason f nobody) =
      record { left_is = refl; next_is = rw (eq-eqb f 0 nobody) refl; moves_are = refl }
  computed d found left next moves (rules.LocalTakenOut x reason f owned) =
      record { left_is = refl; next_is = rw (ne_eqb f 0 owned) refl; moves_are = refl }
  computed d found left next moves (rules.Merges x carried word alive) =
      let won = eq-eqb word word refl in let lives = ne_eqb (merged_word word carried) dead_word alive in
      record { left_is = rw won refl; next_is = rw (won, lives) refl; moves_are = refl }
  computed d found left next moves (rules.MergesToZero x carried word dead) =
      let won = eq-eqb word word refl in let dies = eq-eqb (merged_word word carried) dead_word dead in
      record { left_is = rw won refl; next_is = rw (won, dies) refl; moves_are = refl }
  computed d found left next moves (rules.MergesForHanded x carried word) =
      let won = eq-eqb word word refl in record { left_is = rw won refl; next_is = rw won refl; moves_are = refl }
  computed d found left next moves (rules.MergeLost x carried word reason f lost) =
      let missed = ne_eqb f word lost in
      record { left_is = rw missed refl; next_is = rw missed refl; moves_are = refl }
  computed d found left next moves (rules.DyingResource x f is) =
      record { left_is = refl; next_is = rw is refl; moves_are = refl }
  computed d found left next moves (rules.DyingCells x f is) =
      record { left_is = refl; next_is = rw is refl; moves_are = refl }
  computed d found left next moves (rules.FoundMarkTaken w marks f set) =
      let mark = mark_at f (mark_bit layout (found_row layout t w marks)) in
      record { left_is = refl; next_is = rw (eq-eqb mark 1 set) refl; moves_are = refl }
  computed d found left next moves (rules.FoundMarkGone w marks f none) =
      let mark = mark_at f (mark_bit layout (found_row layout t w marks)) in
      record { left_is = refl; next_is = rw (ne_eqb mark 1 none) refl; moves_are = refl }
  -- the other rules have no condition
  computed d found left next moves _ = record { left_is = refl; next_is = refl; moves_are = refl }

  -- ---- each step goes by a rule

  -- Some rule concludes what the step computes.
  abbrev pub GoesByRule : Duty → ℕ → Type 0
  GoesByRule d found =
      By d found (new_word layout t head d found) (continuation layout t running head d found)
      (reference_effects memory t d found)

  applies : {d : Duty} {found left : ℕ} {next : List Duty} {moves : List Move} → By d found left next moves
      → GoesByRule d found
  applies {d = d} {found = found} {left = left} {next = next} {moves = moves} rule =
      let c = computed d found left next moves rule in
      let word = subst (λ w. By d found w next moves) c.left_is rule in
      let duties = subst (λ ds. By d found (new_word layout t head d found) ds moves) c.next_is word in
      subst (By d found (new_word layout t head d found)
      (continuation layout t running head d found)) c.moves_are duties

  -- One rule applies where the numbers are the same, the other where they differ.
  by_same : {d : Duty} {found : ℕ} (a b : ℕ) → (a ≡ b → GoesByRule d found) → (a ≢ b → GoesByRule d found)
      → GoesByRule d found
  by_same a b if_same if_other = elim (eqb_tells a b) [ inl same ↦ if_same same.1 | inr other ↦ if_other other.1 ]

  -- One rule applies where the test holds, the other where it doesn't.
  by_whether : {d : Duty} {found : ℕ} (b : Bool) → (b ≡ true → GoesByRule d found) → (b ≡ false → GoesByRule d found)
      → GoesByRule d found
  by_whether true holds fails = holds refl
  by_whether false holds fails = fails refl

  owner_by : (x : ℕ) (h : Holding) (found : ℕ) → is_immortal_word found ≡ false → counts_locally t running found ≡ true
      → GoesByRule (RetainLoad x h) found
  owner_by x h found mortal counts =
      elim (leb_tells (suc (local_part found)) most_local) [
        | inl low ↦ applies (rules.OwnerRetains x h found mortal counts (omega (arith, low.1)))
        | inr full ↦ applies (rules.FullOwnerRetains x h found mortal counts (omega (arith, full.1)))
      ]

  counted_by : (x : ℕ) (h : Holding) (found : ℕ) → is_immortal_word found ≡ false → GoesByRule (RetainLoad x h) found
  counted_by x h found mortal =
      by_whether (counts_locally t running found) (λ counts. owner_by x h found mortal counts)
      (λ other. applies (rules.OtherRetains x h found mortal other))

  released_by : (x : ℕ) (h : Holding) (found : ℕ) → is_immortal_word found ≡ false → GoesByRule (ReleaseLoad x h) found
  released_by x h found mortal =
      by_whether (counts_locally t running found) (λ counts. applies (rules.OwnerReleases x h found mortal counts))
      (λ other. applies (rules.OtherReleases x h found mortal other))

  exchanged_by : (x : ℕ) (reason : Reason) (word : ℕ) → GoesByRule (SharedExchange x reason word) word
  exchanged_by x reason word =
      by_same word fresh_word (λ fresh. applies (rules.Queues x reason word fresh))
      (λ other. by_same (word - ONE_REFERENCE) dead_word
      (λ last. applies (rules.DecrementsToZero x reason word other last))
      (λ more. applies (rules.Decrements x reason word other more)))

  merged_by : (x carried word : ℕ) (reason : Reason) → GoesByRule (MergeExchange x carried word reason) word
  merged_by x carried word Own =
      by_same (merged_word word carried) dead_word (λ dead. applies (rules.MergesToZero x carried word dead))
      (λ alive. applies (rules.Merges x carried word alive))
  merged_by x carried word Handed = applies (rules.MergesForHanded x carried word)

  pub by_rule : (d : Duty) (found : ℕ) → GoesByRule d found
  by_rule (BirthKind x h word) found =
      by_whether (has_resource word) (λ has. applies (rules.KindOfResource x h word found has))
      (λ none. applies (rules.KindOfOther x h word found none))
  by_rule (BirthField x h) found = rules.FieldFilled x h found
  by_rule (BirthLocal x h) found = rules.Born x h found
  by_rule (KindLoad x) found = rules.KindRead x found
  by_rule (LockGate x) found =
      by_same found free_word (λ free. applies (rules.Locks x found free))
      (λ held. applies (rules.LockHeld x found held))
  by_rule (UnlockGate x) found = rules.Unlocks x found
  by_rule (CellLoad x cell) found = rules.CellRead x cell found
  by_rule (CellSwap x cell item h) found = rules.ItemStored x cell item h found
  by_rule (LendField x) found = rules.ResourceLent x found
  by_rule (ReturnField x) found = rules.ResourceReturned x found
  by_rule (RetainLoad x h) found =
      by_whether (is_immortal_word found) (λ immortal. applies (rules.RetainsImmortal x h found immortal))
      (λ mortal. counted_by x h found mortal)
  by_rule (RetainStore x h word) found = rules.LocalRaised x h word found
  by_rule (RetainAdd x h) found = rules.SharedRaised x h found
  by_rule (ReleaseLoad x h) found =
      by_whether (is_immortal_word found) (λ immortal. applies (rules.ReleasesImmortal x h found immortal))
      (λ mortal. released_by x h found mortal)
  by_rule (ReleaseStore x word) found =
      by_same (local_part word) 1 (λ last. applies (rules.LocalReachesZero x word found last))
      (λ more. applies (rules.LocalLowered x word found more))
  by_rule (DecideAtZero x) found =
      by_same found fresh_word (λ fresh. applies (rules.NothingShared x found fresh))
      (λ other. applies (rules.WasShared x found other))
  by_rule (SharedLoad x reason) found = rules.SharedRead x reason found
  by_rule (SharedExchange x reason word) found =
      by_same found word (λ won. subst (GoesByRule (SharedExchange x reason word)) (sym won)
      (exchanged_by x reason word)) (λ lost. applies (rules.ExchangeLost x reason word found lost))
  by_rule (SetMark x) found = rules.Marked x found
  by_rule (Look x) found =
      by_same found 1 (λ runs. applies (rules.OwnerRuns x found runs))
      (λ exits. applies (rules.OwnerExits x found exits))
  by_rule (TakeMark x) found =
      by_same (mark_at found (mark_bit layout x)) 1 (λ set. applies (rules.MarkTakenBack x found set))
      (λ gone. applies (rules.MarkGone x found gone))
  by_rule (ClaimMark x) found =
      by_same (mark_at found (mark_bit layout x)) 1 (λ set. applies (rules.MarkClaimed x found set))
      (λ none. applies (rules.NothingToClaim x found none))
  by_rule (MergeSwap x reason) found =
      by_same found 0 (λ nobody. applies (rules.NobodysCount x reason found nobody))
      (λ owned. applies (rules.LocalTakenOut x reason found owned))
  by_rule (MergeLoad x carried reason) found = rules.MergeRead x carried reason found
  by_rule (MergeExchange x carried word reason) found =
      by_same found word (λ won. subst (GoesByRule (MergeExchange x carried word reason)) (sym won)
      (merged_by x carried word reason)) (λ lost. applies (rules.MergeLost x carried word reason found lost))
  by_rule (Die x) found = rules.Chained x found
  by_rule Settle found = rules.ChainRead found
  by_rule (SettleKind x) found =
      by_whether (has_resource found) (λ has. applies (rules.DyingResource x found has))
      (λ none. applies (rules.DyingCells x found none))
  by_rule (SettleCell x cell cells) found = rules.CellEmptied x cell cells found
  by_rule (TakeField x) found = rules.FieldEmptied x found
  by_rule (CloseResource x) found = rules.ResourceClosed x found
  by_rule (SettleEnd x) found = rules.Closes x found
  by_rule (Leave first rows) found = rules.SaysLeaving first rows found
  by_rule (Scan word rows) found = rules.MarksRead word rows found
  by_rule (TakeFound word marks) found =
      by_same (mark_at found (mark_bit layout (found_row layout t word marks))) 1
      (λ set. applies (rules.FoundMarkTaken word marks found set))
      (λ none. applies (rules.FoundMarkGone word marks found none))
  by_rule (MarksLoad word) found = rules.MarksLooked word found
  by_rule Finish found = rules.SaysGone found
