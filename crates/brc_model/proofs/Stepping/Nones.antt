-- None is immortal: no step changes its local word, its references aren't counted, and a thread makes or gives up one
-- with a single step.
use Rattle.std.proofs.Common.{◌≡◌, ℕ, ◌<◌, Bool, true, cond, List, [], ◌∷◌, ◌++◌, refl, sym, ap, ◌∙◌, subst, ◌+◌, ◌-◌}
use Rattle.std.specs.Prelude.{◌&&◌, nat_lt}
use Rattle.brc_model.specs.declared.duty.Holding.{Holding}
use Rattle.brc_model.specs.declared.duty.Holding.TheVariants.{ByVariable, AsCaller, InFlight}
use Rattle.brc_model.specs.AbstractState.{Reference, AbstractState, without, moved}
use Rattle.brc_word.specs.Words.{most_local, local_word, is_immortal_word, local_part}
use Rattle.brc_model.specs.declared.duty.Reason.TheVariants.{Own, Handed}
use Rattle.brc_model.specs.declared.duty.Duty.{Duty}
use Rattle.brc_model.specs.declared.duty.Duty.TheVariants.{RetainLoad, RetainStore, ReleaseLoad, ReleaseStore, SharedLoad, RetainAdd, MergeSwap, BirthLocal}
use Rattle.brc_model.specs.declared.address.Address.TheVariants.{Local}
use Rattle.brc_model.specs.declared.actor.Actor.{Actor}
use Rattle.brc_model.specs.Machine.{Machine, written, is_running}
use Rattle.brc_model.specs.Moves.{gain, lose, put_in_flight}
use Rattle.brc_model.proofs.Basics.Bag.{held_has, same-refl}
use Rattle.brc_model.specs.References.{held, reference_of}
use Rattle.brc_model.specs.Accounts.{Accounts}
use Rattle.brc_model.specs.Invariant.{AtDuty, CoreInvariant}
use Rattle.brc_model.proofs.Basics.Written.{written_apart, written_load, apart_local}
use Rattle.brc_model.proofs.Basics.Blocks.{next_counted, immortal_apart}
use Rattle.brc_model.proofs.Frame.Leaves.{head_of}
use Rattle.brc_model.proofs.Stepping.Own.{HeldStep}
use Rattle.brc_model.proofs.Stepping.FitsAfter.{bag_by, memory_by, agenda_here, NotGone, FitsAfter}
use Rattle.brc_model.proofs.Stepping.Counts.{held_gained, held_lost}
use Rattle.brc_model.proofs.Stepping.Steps.{own_done}
use Rattle.brc_model.proofs.Frame.Lives.{next_of}
use Rattle.brc_model.specs.Duties.{counts_locally}
use Rattle.brc_model.specs.Layout.{is_immortal_row, IsCounted}

-- ---- its local word

local_apart : (m : Machine) (y x v : ℕ) → IsCounted m.layout y → is_immortal_row m.layout x ≡ true
    → written m.memory (Local y) v (Local x) ≡ m.memory (Local x)
local_apart m y x v counted immortal =
    written_apart m.memory (Local y) (Local x) v (apart_local y x (immortal_apart m.layout y x counted immortal))

module _ {p : Accounts} {n : ℕ} {m : Machine} {t : ℕ} {a : Actor} {rest : List Duty} where
  -- No step changes the local word of an immortal object.
  pub immortal_word_left : (d : Duty) (x : ℕ) → AtDuty p n m t a d rest → is_immortal_row m.layout x ≡ true
      → memory_by m t a d (Local x) ≡ m.memory (Local x)
  immortal_word_left (RetainLoad y h) x here immortal = written_load m.memory (Local y) (Local x)
  immortal_word_left (ReleaseLoad y h) x here immortal = written_load m.memory (Local y) (Local x)
  immortal_word_left (RetainStore y h w) x here immortal = local_apart m y x (w + 1) (head_of here).0 immortal
  immortal_word_left (ReleaseStore y w) x here immortal = local_apart m y x (w - 1) (head_of here).0 immortal
  immortal_word_left (BirthLocal y h) x here immortal =
      local_apart m y x (local_word t 1) (next_counted m t a y (head_of here).0) immortal
  immortal_word_left (MergeSwap y Own) x here immortal = local_apart m y x 0 (head_of here).0 immortal
  immortal_word_left (MergeSwap y Handed) x here immortal = local_apart m y x 0 (head_of here).0 immortal
  immortal_word_left _ x here immortal = refl

module _ {p : Accounts} {n : ℕ} {m : Machine} where
  -- The local word of an immortal object is immortal.
  pub immortal_row : (x : ℕ) → CoreInvariant p n m → is_immortal_row m.layout x ≡ true
      → is_immortal_word (m.memory (Local x)) ≡ true
  immortal_row x core immortal = ap is_immortal_word (core.immortal_words x immortal)

-- ---- a new reference

module _ {p : Accounts} {n : ℕ} {m : Machine} {t : ℕ} {a : Actor} {rest : List Duty} where
  -- The thread fits after `RetainsImmortal`.
  pub thread_after_retain_immortal : (x : ℕ) (h : Holding) → AtDuty p n m t a (RetainLoad x h) rest
      → is_immortal_row m.layout x ≡ true → NotGone a → FitsAfter p m t a (RetainLoad x h) rest
  thread_after_retain_immortal x h here row alive =
      let d : Duty = RetainLoad x h in
      let immortal = immortal_row x here.core row in
      let bag : bag_by m t a d ≡ reference_of t h x ∷ m.abstract.references =
      ap (λ (b : Bool). (moved m.abstract (cond b (gain t h x) [])).references) immortal in
      let word = m.memory (Local x) in
      let next : next_of m t a d ≡ [] =
      ap (λ (b : Bool). cond b [] (cond
      (counts_locally t (is_running a.status) word && nat_lt (local_part word) most_local)
      (RetainStore x h word ∷ []) (RetainAdd x h ∷ []))) immortal in
      own_done here alive refl next (agenda_here here alive)
      (subst (λ (l : List Reference). HeldStep m.abstract.references l t (d ∷ rest) []) (sym bag)
      (held_gained m.abstract.references t x h (d ∷ rest) [] (λ k o. refl) (λ k o. refl) (λ k o. refl) (λ k o. refl)))

-- ---- a reference given up

-- Putting a reference in flight and losing it leaves the bag without that reference.
pub lost_from : (t : ℕ) (h : Holding) (x : ℕ) (p : AbstractState)
    → (moved p (put_in_flight t h x ++ lose t x)).references ≡ without (reference_of t h x) p.references
lost_from t InFlight x p = refl
lost_from t AsCaller x p =
    let r = reference_of t InFlight x in
    let rest = without (reference_of t AsCaller x) p.references in
    ap (λ (b : Bool). cond b rest (r ∷ without r rest)) (same-refl r)
lost_from t (ByVariable depth v) x p =
    let r = reference_of t InFlight x in
    let rest = without (reference_of t (ByVariable depth v) x) p.references in
    ap (λ (b : Bool). cond b rest (r ∷ without r rest)) (same-refl r)

module _ {p : Accounts} {n : ℕ} {m : Machine} {t : ℕ} {a : Actor} {rest : List Duty} where
  -- The thread fits after `ReleasesImmortal`.
  pub thread_after_release_immortal : (x : ℕ) (h : Holding) → AtDuty p n m t a (ReleaseLoad x h) rest
      → is_immortal_row m.layout x ≡ true → NotGone a → 0 < held (reference_of t h x) m.abstract.references
      → FitsAfter p m t a (ReleaseLoad x h) rest
  thread_after_release_immortal x h here row alive some =
      let d : Duty = ReleaseLoad x h in
      let immortal = immortal_row x here.core row in
      let bag : bag_by m t a d ≡ without (reference_of t h x) m.abstract.references =
      ap (λ (b : Bool). (moved m.abstract (put_in_flight t h x ++ cond b (lose t x) [])).references) immortal
      ∙ lost_from t h x m.abstract in
      let word = m.memory (Local x) in
      let next : next_of m t a d ≡ [] =
      ap (λ (b : Bool). cond b [] (cond (counts_locally t (is_running a.status) word) (ReleaseStore x word ∷ [])
      (SharedLoad x Own ∷ []))) immortal in
      own_done here alive refl next (agenda_here here alive)
      (subst (λ (l : List Reference). HeldStep m.abstract.references l t (d ∷ rest) []) (sym bag)
      (held_lost m.abstract.references t x h (d ∷ rest) [] (held_has (reference_of t h x) m.abstract.references some)
      (λ k o. refl) (λ k o. refl) (λ k o. refl) (λ k o. refl)))
