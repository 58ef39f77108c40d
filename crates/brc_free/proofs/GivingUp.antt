-- What is left once a reference is given up.
use Rattle.std.proofs.Common.{◌≡◌, ◌⊎◌, inl, inr, ℕ, List, [], ◌∷◌, ◌++◌, refl, sym, ap, ◌∙◌, subst}
use Rattle.brc_model.specs.declared.duty.Reason.{Reason}
use Rattle.brc_model.specs.declared.duty.Duty.{Duty}
use Rattle.brc_model.specs.declared.duty.Duty.TheVariants.{SetMark}
use Rattle.brc_table.specs.declared.view.View.{View}
use Rattle.brc_table.specs.Views.{turned, without_reference}
use Rattle.brc_effect.specs.declared.outcomes.LocalRelease.{LocalRelease}
use Rattle.brc_effect.specs.declared.outcomes.LocalRelease.TheVariants as local
use Rattle.brc_effect.specs.declared.outcomes.SharedRelease.{SharedRelease}
use Rattle.brc_effect.specs.declared.outcomes.SharedRelease.TheVariants as shared
use Rattle.brc_effect.specs.declared.outcomes.Looked.{Looked}
use Rattle.brc_heap.specs.Calls.{Leaves, local_left, shared_left}
use Rattle.brc_heap.specs.Marks.{mark_found, look_answer, look_left, posted}
use Rattle.brc_heap.specs.Steps.{Keeps, HasStepped}
use Rattle.brc_heap.proofs.Keeping.{keeps_then}
use Rattle.brc_heap.proofs.Stepping.{plain_first}
use Rattle.brc_heap.proofs.MarkTries.{posted_stepped}
use Rattle.brc_free.specs.Works.{HasWorked, HasReleased}
use Rattle.brc_free.proofs.Working.{worked_by, worked_more}

pub nothing_left : (x : ℕ) (answer : LocalRelease) → (answer ≡ local.Skip) ⊎ (answer ≡ local.Kept)
    → local_left x answer ≡ []
nothing_left x answer (inl is) = ap (local_left x) is
nothing_left x answer (inr is) = ap (local_left x) is

-- The reference is given up, and no object is to be marked.
pub given_up : {v u : View} {rest : List Duty} (x : ℕ) (r : Reason) (answer : SharedRelease)
    → HasWorked v [] (shared_left x r answer ++ rest) u → (answer ≡ shared.Kept) ⊎ (answer ≡ shared.Dying)
    → HasWorked v [] rest u
given_up {v} {u} {rest} x r answer at (inl is) =
    subst (λ (s : SharedRelease). HasWorked v [] (shared_left x r s ++ rest) u) is at
given_up {v} {u} {rest} x r answer at (inr is) =
    subst (λ (s : SharedRelease). HasWorked v [] (shared_left x r s ++ rest) u) is at

-- The object is in its owner's queue, and the hand has looked after it.
pub has_posted : {v u w : View} {x : ℕ} {rest : List Duty} (answer : Looked) (before said found : ℕ)
    → HasWorked v [] (SetMark x ∷ rest) u → answer ≡ look_answer said (mark_found u x found)
    → w ≡ posted u before said found
    → HasWorked v [] (look_left x answer ++ rest) w
has_posted {v} {u} {w} {x} {rest} answer before said found at is view =
    worked_more at (worked_by
    (subst (λ (a : Looked). HasStepped u (look_left x a ++ rest) w) (sym is)
    (subst (HasStepped u (look_left x (look_answer said (mark_found u x found)) ++ rest)) (sym view)
    (posted_stepped before said found (at.agenda ∙ plain_first u.actor.head (SetMark x) rest refl)))))

-- A release has ended.
pub released : {x : ℕ} {left : List Duty} {v u w : View} → Leaves x left v u
    → u.references ≡ without_reference v.layout x v.references → HasWorked u [] [] w → HasReleased x v w
released {x} {left} {v} {u} {w} begun references at = record {
  keeps =
      keeps_then (subst (λ (rows : List ℕ). Keeps (record (turned v x) { references = rows }) u) references begun.keeps)
      at.keeps;
  agenda = at.agenda;
}
