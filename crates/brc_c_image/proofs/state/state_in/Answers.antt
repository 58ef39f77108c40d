use Rattle.std.proofs.Common.{◌≡◌, Bool, ap, ◌∙◌}
use Rattle.brc_c_store.specs.declared.register.RegisterSet.{RegisterSet}
use Rattle.brc_c_image.specs.States.{state_with}
use Rattle.brc_c_image.proofs.state.state_in.Goals as goal

same_with : (o p i j : RegisterSet) (l m : Bool) → o ≡ p → i ≡ j → l ≡ m → state_with o i l ≡ state_with p j m
same_with o p i j l m owned items locked =
    ap (λ x. state_with x i l) owned ∙ ap (λ x. state_with p x l) items ∙ ap (state_with p j) locked

pub returns : goal.returns
returns c =
    c.state_of.ensures ∙ same_with _ _ _ _ _ _ c.of.ensures.owned c.of.ensures.items c.of.ensures.locked
