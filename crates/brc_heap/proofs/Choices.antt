-- Which duty follows a step, by the choice that the code makes.
use Rattle.std.proofs.Common.{◌≡◌, ℕ, zero, suc, ◌+◌, Bool, true, false, [], ◌∷◌, ◌++◌, refl, subst}
use Rattle.std.specs.Prelude.{◌==◌, ◌&&◌, nat_lt, if◌then◌else◌}
use Rattle.brc_word.specs.Words.{owner_part, local_part, is_immortal_word, most_local}
use Rattle.brc_word.specs.declared.choice.LocalChoice.TheVariants as choice
use Rattle.brc_model.specs.declared.duty.Holding.TheVariants.{AsCaller}
use Rattle.brc_model.specs.declared.duty.Duty.TheVariants.{RetainStore, RetainAdd}
use Rattle.brc_model.specs.Duties.{ready}
use Rattle.brc_model.specs.Machine.{is_running}
use Rattle.brc_table.specs.declared.view.View.{View}
use Rattle.brc_table.specs.Views.{view_after, retaining}
use Rattle.brc_table.specs.Accesses.{IsNext}

shares_by : (head x word : ℕ) (immortal counts : Bool)
    → (if immortal then choice.Skip else if counts then choice.Store (word + 1) else choice.Share) ≡ choice.Share
    → IsNext (RetainAdd x AsCaller)
    (ready head ((if immortal then [] else if counts then RetainStore x AsCaller word ∷ []
    else RetainAdd x AsCaller ∷ []) ++ []))
shares_by head x word true counts is = absurd cc
shares_by head x word false true is = absurd cc
shares_by zero x word false false is = refl
shares_by (suc head) x word false false is = refl

-- A retain that shares adds to the shared word next.
pub retain_shares : (v : View) (x word thread : ℕ) (running : Bool) → thread ≡ v.thread
    → running ≡ is_running v.actor.status
    → (if is_immortal_word word then choice.Skip
    else if (running && (owner_part word == thread + 1)) && nat_lt (local_part word) most_local
    then choice.Store (word + 1) else choice.Share) ≡ choice.Share
    → IsNext (RetainAdd x AsCaller) (view_after (retaining v x) word).actor.agenda
retain_shares v x word thread running same runs is =
    shares_by v.actor.head x word (is_immortal_word word)
    ((is_running v.actor.status && (owner_part word == v.thread + 1)) && nat_lt (local_part word) most_local)
    (subst (λ (t : ℕ). (if is_immortal_word word then choice.Skip
    else if (is_running v.actor.status && (owner_part word == t + 1)) && nat_lt (local_part word) most_local
    then choice.Store (word + 1) else choice.Share) ≡ choice.Share) same
    (subst (λ (b : Bool). (if is_immortal_word word then choice.Skip
    else if (b && (owner_part word == thread + 1)) && nat_lt (local_part word) most_local
    then choice.Store (word + 1) else choice.Share) ≡ choice.Share) runs is))
