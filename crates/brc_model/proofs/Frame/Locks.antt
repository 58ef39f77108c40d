-- Who has locked a live row, after one thread changes.
use Rattle.std.proofs.Common.{◌≡◌, ℕ, List, inl, inr, Some, sym, ap, ◌∙◌}
use Rattle.std.specs.Prelude.{slice_get, slice_set}
use Rattle.std.proofs.lemmas.Bool.Decides.{eqb_tells}
use Rattle.std.proofs.lemmas.Option.{slice_get_within}
use Rattle.brc_model.specs.declared.actor.Actor.{Actor}
use Rattle.brc_model.specs.Machine.{Life, Unborn, Live, Dying, Closed}
use Rattle.brc_model.specs.Gates.{LiveGate, IsFree, IsLocked, GateFits}
use Rattle.brc_model.proofs.Basics.Lists.{some_is, slice_get-set_same, slice_get-set_other}

module _ (actors : List Actor) (t : ℕ) (a after : Actor) (found : slice_get actors t ≡ Some a) where
  -- A thread that keeps its lock changes nothing of what the gates say.
  pub live_gate_kept : (x gate : ℕ) → after.locked ≡ a.locked → LiveGate actors x gate
      → LiveGate (slice_set actors t after) x gate
  live_gate_kept x gate same (IsFree free) = IsFree free
  live_gate_kept x gate same (IsLocked u b there e says) =
      elim (eqb_tells u t) [
        | inl this ↦
            let mine : b ≡ a = some_is b a (sym there ∙ ap (slice_get actors) this.1 ∙ found) in
            let written : slice_get (slice_set actors t after) u ≡ Some after =
            ap (slice_get (slice_set actors t after)) this.1
            ∙ slice_get-set_same actors t after (slice_get_within actors t a found) in
            IsLocked u after written (same ∙ ap (λ (c : Actor). c.locked) (sym mine) ∙ e) says
        | inr apart ↦ IsLocked u b (slice_get-set_other actors t u after apart.1 ∙ there) e says
      ]

  -- A thread that hasn't locked a row changes nothing of what the row's gate says.
  pub live_gate_others : (x gate : ℕ) → (a.locked ≡ Some x → ⊥) → LiveGate actors x gate
      → LiveGate (slice_set actors t after) x gate
  live_gate_others x gate none (IsFree free) = IsFree free
  live_gate_others x gate none (IsLocked u b there e says) =
      elim (eqb_tells u t) [
        | inl this ↦
            let mine : b ≡ a = some_is b a (sym there ∙ ap (slice_get actors) this.1 ∙ found) in
            absurd (none (ap (λ (c : Actor). c.locked) (sym mine) ∙ e))
        | inr apart ↦ IsLocked u b (slice_get-set_other actors t u after apart.1 ∙ there) e says
      ]

  pub gate_fits_kept : (x gate : ℕ) (l : Life) → after.locked ≡ a.locked → GateFits actors x l gate
      → GateFits (slice_set actors t after) x l gate
  gate_fits_kept x gate Unborn same fits = fits
  gate_fits_kept x gate Live same fits = live_gate_kept x gate same fits
  gate_fits_kept x gate (Dying u) same fits = tt
  gate_fits_kept x gate Closed same fits = fits
