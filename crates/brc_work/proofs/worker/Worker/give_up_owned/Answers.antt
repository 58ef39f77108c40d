use Rattle.std.proofs.Common.{◌≡◌, ℕ, suc, ◌+◌, List, Option, sym, ◌∙◌, subst, arith}
use Rattle.brc_table.specs.Hands.{HandState}
use Rattle.brc_model.specs.SlotStates.{put}
use Rattle.brc_model.specs.declared.state.Slot.TheVariants.{Empty}
use Rattle.brc_work.specs.Changes.{CanGive}
use Rattle.brc_work.specs.Stopping.{GoesChained, Loosens}
use Rattle.brc_work.proofs.GivingUp.{HaveGiven, none_given, can_loosen, one_given, none_more, all_returned, all_made}
use Rattle.brc_work.proofs.Stopping.{emptied}
use Rattle.brc_work.proofs.worker.Worker.give_up_owned.Goals.{then-is_owned, else-is_owned}
use Rattle.brc_work.proofs.worker.Worker.give_up_owned.Goals as goal

one_more : (k : ℕ) → suc k ≡ k + 1
one_more k = omega arith

pub loop-number-init : goal.loop-number-init
loop-number-init g c =
    none_given c.args.self.now c.args.state.now c.args.rows.now c.args.hand.now c.requires.fits

pub loosen-requires : goal.loosen-requires
loosen-requires g c =
    let is = c.requires.fits in
    record {
      fits = record {
        base = is.base;
        state = emptied c.loop-number.number is.state;
        of = c.loop-number.invariant.0;
        fits = c.loop-number.invariant.1 is.base is.state is.fits is.can_do;
        can_do = subst (CanGive (emptied c.loop-number.number is.state)) (sym c.new.ensures)
            (can_loosen c.args.self.now c.args.state.now c.args.rows.now c.args.hand.now is is.state
            c.loop-number.number is.can_do (sym c.is_owned.ensures ∙ c.if-is_owned.true));
      };
    }

pub loop-number-preserved : goal.loop-number-preserved
loop-number-preserved g c =
    let is = c.requires.fits in
    let heap = c.args.self.now in
    let state = c.args.state.now in
    let first = c.args.rows.now in
    let hand = c.args.hand.now in
    let k = c.loop-number.number in
    let so_far = c.loop-number.invariant in
    subst (λ (n : ℕ). HaveGiven heap state first hand n c.if-is_owned.rows c.if-is_owned.hand) (one_more k)
    (elim c.if-is_owned.branch [
      | then-is_owned w ↦
          let owned = sym c.is_owned.ensures ∙ w.if-is_owned.true in
          let same = w.new.ensures in
          subst (λ (rs : List (Option ℕ)). HaveGiven heap state first hand (suc k) rs c.if-is_owned.hand)
          (sym w.rows-is)
          (subst (λ (h : HandState). HaveGiven heap state first hand (suc k) w.loosen.new.rows h) (sym w.hand-is)
          (one_given heap state first hand is k c.loop-number.rows c.loop-number.hand so_far w.loosen.new.rows
          w.loosen.new.hand owned w.loosen.ensures.of
          (subst (λ (n : ℕ). GoesChained (λ s. CanGive s n) (λ s. put s n Empty) c.loop-number.rows c.loop-number.hand
          w.loosen.new.rows w.loosen.new.hand) same w.loosen.ensures.goes)
          (subst (λ (n : ℕ). Loosens n c.loop-number.rows c.loop-number.hand.view w.loosen.new.rows
          w.loosen.new.hand.view) same w.loosen.ensures.made)))
      | else-is_owned w ↦
          subst (λ (rs : List (Option ℕ)). HaveGiven heap state first hand (suc k) rs c.if-is_owned.hand)
          (sym w.rows-is)
          (subst (λ (h : HandState). HaveGiven heap state first hand (suc k) c.loop-number.rows h) (sym w.hand-is)
          (none_more heap state first hand is k c.loop-number.rows c.loop-number.hand so_far
          (sym c.is_owned.ensures ∙ w.if-is_owned.false)))
    ])

pub returns-clause-returned : goal.returns-clause-returned
returns-clause-returned g c = λ base s fits alike.
    let all : c.loop-number.number ≡ 16 = omega arith in
    all_returned c.args.self.now c.args.state.now c.args.rows.now c.args.hand.now c.requires.fits c.loop-number.rows
    c.loop-number.hand
    (subst (λ (n : ℕ). HaveGiven c.args.self.now c.args.state.now c.args.rows.now c.args.hand.now n c.loop-number.rows
    c.loop-number.hand) all c.loop-number.invariant) base s fits alike

pub returns-clause-made : goal.returns-clause-made
returns-clause-made g c =
    let all : c.loop-number.number ≡ 16 = omega arith in
    all_made c.args.self.now c.args.state.now c.args.rows.now c.args.hand.now c.requires.fits c.loop-number.rows
    c.loop-number.hand
    (subst (λ (n : ℕ). HaveGiven c.args.self.now c.args.state.now c.args.rows.now c.args.hand.now n c.loop-number.rows
    c.loop-number.hand) all c.loop-number.invariant)
