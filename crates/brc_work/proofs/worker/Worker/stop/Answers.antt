use Rattle.std.proofs.Common.{◌∷◌, sym, subst}
use Rattle.brc_model.specs.declared.state.State.{State}
use Rattle.brc_model.specs.Stops.{row_locked, owned_rows, stopping}
use Rattle.brc_table.specs.Hands.{HandState}
use Rattle.brc_work.specs.Fits.{Base, Fits}
use Rattle.brc_work.specs.Stopping.{unchained}
use Rattle.brc_work.proofs.GivingUp.{IsUnlocked, as_unchained, unlocked_now, unlocked_already, no_lock_left}
use Rattle.brc_work.proofs.Traces.Stops.{gives_up_first}
use Rattle.brc_work.proofs.worker.Worker.stop.Given as given
use Rattle.brc_work.proofs.worker.Worker.stop.Goals.{in-Some, in_default, Joined-state}
use Rattle.brc_work.proofs.worker.Worker.stop.Goals as goal

unlocked : (g : given.Over) (c : Joined-state g)
    → IsUnlocked c.args.self.now c.args.state.now c.args.rows.now c.args.hand.now c.match-state.hand
unlocked g c =
    let heap = c.args.self.now in
    let state = c.args.state.now in
    let rows = c.args.rows.now in
    let hand = c.args.hand.now in
    let none = c.requires.fits.fits.rests.agenda in
    elim c.match-state.branch [
      | in-Some w ↦
          subst (IsUnlocked heap state rows hand) (sym w.hand-is)
          (unlocked_now heap state rows hand w.unlock.new.hand w.in-Some.object w.in-Some.is w.unlock.ensures.of none
          w.unlock.ensures.done w.unlock.ensures.unlocks)
      | in_default w ↦
          subst (IsUnlocked heap state rows hand) (sym w.hand-is)
          (unlocked_already heap state rows hand (no_lock_left state.locked w.in_default.not-Some)
          c.requires.fits.of)
    ]

-- Variables and hand fit the state without the lock, whatever the call stands on.
left_fits : (g : given.Over) (c : Joined-state g) (base : Base)
    → Fits base c.args.state.now c.args.rows.now c.args.hand.now
    → Fits base (unlocked g c).left c.args.rows.now c.match-state.hand
left_fits g c base fits = (unlocked g c).fits base fits

left_unchained : (g : given.Over) (c : Joined-state g) (base : Base)
    → Fits base c.args.state.now c.args.rows.now c.args.hand.now
    → Fits base (unlocked g c).left c.args.rows.now (unchained c.match-state.hand)
left_unchained g c base fits =
    let now = left_fits g c base fits in
    subst (λ (h : HandState). Fits base (unlocked g c).left c.args.rows.now h)
    (as_unchained c.match-state.hand now.rests.settled) now

-- They do so in the state that the caller knows.
known_fits : (g : given.Over) (c : Joined-state g)
    → Fits c.requires.fits.base c.args.state.now c.args.rows.now c.args.hand.now
known_fits g c =
    let is = c.requires.fits in
    subst (λ (s : State). Fits is.base s c.args.rows.now c.args.hand.now) is.can_do is.fits

pub give_up_owned-requires : goal.give_up_owned-requires
give_up_owned-requires g c =
    let here = (goal.at.give_up_owned-requires g c).Joined-state in
    let free = unlocked g here in
    record {
      fits = record {
        base = c.requires.fits.base;
        state = free.left;
        of = free.of;
        fits = left_unchained g here c.requires.fits.base (known_fits g here);
        can_do = free.alike;
      };
    }

pub returns-clause-returned : goal.returns-clause-returned
returns-clause-returned g c = λ base fits.
    let here = (goal.at.returns-clause-returned g c).Joined-state in
    let free = unlocked g here in
    c.give_up_owned.ensures.returned base free.left (left_unchained g here base fits) free.alike

pub returns-clause-made : goal.returns-clause-made
returns-clause-made g c = λ program outer.
    let here = (goal.at.returns-clause-made g c).Joined-state in
    let free = unlocked g here in
    let state = c.args.state.now in
    let rows = c.args.rows.now in
    let calls = owned_rows state.slots rows ∷ outer in
    let p = stopping (row_locked state.locked rows) calls in
    let now = left_fits g here c.requires.fits.base (known_fits g here) in
    c.give_up_owned.ensures.made program p c.args.hand.now.view outer
    (gives_up_first program c.args.hand.now.view c.match-state.hand.view p calls now.rests.settled
    (free.made program outer))
