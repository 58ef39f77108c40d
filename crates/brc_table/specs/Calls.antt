-- Which duties each kind of step does.
use Rattle.std.specs.Prelude.{◌≡◌, ◌≢◌, ℕ, None, List, [], ◌∷◌}
use Rattle.brc_model.specs.declared.duty.Duty.{Duty}
use Rattle.brc_model.specs.declared.duty.Duty.TheVariants.{Settle, TakeField, SettleEnd, BirthField, BirthLocal}
use Rattle.brc_model.specs.declared.actor.Status.TheVariants.{Running, Gone}
use Rattle.brc_table.specs.declared.view.View.{View}
use Rattle.brc_table.specs.Hands.{MayWait}

-- The hand's thread isn't gone, and the hand may turn to other work.
abbrev pub CanAct : View → Type 0
CanAct v = (v.actor.status ≢ Gone) × MayWait v.actor.agenda

-- The one duty is to store the new row's first local word, or to put its resource into its field before that.
abbrev pub OwnsFirst : ℕ → List Duty → Type 0
OwnsFirst x (BirthField y h ∷ []) = y ≡ x
OwnsFirst x (BirthLocal y h ∷ []) = y ≡ x
OwnsFirst x _ = ⊥

-- ---- settling: what else there is to do comes later

-- The hand runs and has nothing to do, so that it may begin to settle; or to settle is what it does next.
abbrev pub SettlesFrom : View → List Duty → Type 0
SettlesFrom v [] = (v.actor.status ≡ Running) × (v.actor.aside ≡ [])
SettlesFrom v (Settle ∷ rest) = v.actor.status ≢ Gone
SettlesFrom v _ = ⊥

abbrev pub MaySettle : View → Type 0
MaySettle v = SettlesFrom v v.actor.agenda

-- The first duty is to close the dying row, or to take its resource out of its field before that.
abbrev pub ClosesRow : ℕ → List Duty → Type 0
ClosesRow x (TakeField y ∷ rest) = y ≡ x
ClosesRow x (SettleEnd y ∷ rest) = y ≡ x
ClosesRow x _ = ⊥

-- ---- the exit

-- The hand runs and has nothing to do, not even aside.
pub record IsFree (v : View) : Type 0 where
  pub running : v.actor.status ≡ Running
  pub agenda : v.actor.agenda ≡ []
  pub aside : v.actor.aside ≡ []

-- The hand may leave: besides, it holds no reference, has locked nothing, and its chain is empty.
pub record MayLeave (v : View) : Type 0 where
  pub free : IsFree v
  pub holds_none : v.references ≡ []
  pub unlocked : v.actor.locked ≡ None
  pub settled : v.actor.head ≡ 0
