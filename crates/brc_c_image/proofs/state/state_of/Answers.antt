use Rattle.std.proofs.Common.{◌≡◌, ℕ, List, Option, ap, ◌∙◌}
use Rattle.brc_lang.specs.declared.kind.Kind.TheVariants as kinds
use Rattle.brc_model.specs.declared.state.Slot.{Slot}
use Rattle.brc_model.specs.declared.state.Slot.TheVariants.{Owned, Locked}
use Rattle.brc_model.specs.declared.state.State.{State}
use Rattle.brc_c_image.specs.States.{filled}
use Rattle.brc_c_image.proofs.state.state_of.Goals as goal

abbrev state_from : List Slot → Option ℕ → State
state_from slots locked = record { slots = slots; locked = locked }

same_states : (s t : List Slot) (l m : Option ℕ) → s ≡ t → l ≡ m → state_from s l ≡ state_from t m
same_states s t l m slots locked = ap (λ x. state_from x l) slots ∙ ap (state_from t) locked

pub returns : goal.returns
returns c =
    same_states _ _ _ _
    (c.filled.ensures
    ∙ ap (filled c.args.held.now.owned (Owned kinds.Any))
    (c.filled-items.ensures ∙ ap (filled c.args.held.now.items (Locked kinds.Any)) c.lent_slots.ensures))
    c.locked_if.ensures
