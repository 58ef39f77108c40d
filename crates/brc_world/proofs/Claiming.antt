-- A claim that finds a mark: its answer, the words and the thread afterwards are those of the claim's duty.
use Rattle.std.proofs.Common.{◌≡◌, ◌≢◌, ℕ, true, refl}
use Rattle.brc_model.specs.declared.actor.Status.{Status}
use Rattle.brc_model.specs.declared.actor.Status.TheVariants.{Running, Leaving, Gone}
use Rattle.brc_model.specs.declared.address.Address.{Address}
use Rattle.brc_model.specs.declared.duty.Duty.TheVariants.{ClaimMark}
use Rattle.brc_model.specs.Actions.{StepActor}
use Rattle.brc_world.specs.declared.did.Did.TheVariants as answers
use Rattle.brc_world.specs.Actors.{words_after, actor_after, finds_mark, memory_claimed, actor_claimed, did_claim}
use Rattle.brc_model.specs.declared.layout.Layout.{Layout}

-- The answer, the words and the thread after a claim that finds a mark are those of the claim's duty.
pub claim_did : (layout : Layout) (t : ℕ) (memory : Address → ℕ) (a : StepActor) (row : ℕ) (s : Status) → s ≢ Gone
    → finds_mark layout t memory a row ≡ true → answers.Moved ≡ did_claim layout t memory a row s
claim_did layout t memory a row Running alive found = rw found refl
claim_did layout t memory a row Leaving alive found = rw found refl
claim_did layout t memory a row Gone alive found = absurd (alive refl)

pub claim_words : (layout : Layout) (t : ℕ) (memory : Address → ℕ) (a : StepActor) (row : ℕ)
    → finds_mark layout t memory a row ≡ true
    → words_after layout t memory a (ClaimMark row) ≡ memory_claimed layout t memory a row
claim_words layout t memory a row found = rw found refl

pub claim_actor : (layout : Layout) (t : ℕ) (memory : Address → ℕ) (a : StepActor) (row : ℕ)
    → finds_mark layout t memory a row ≡ true
    → actor_after layout t memory a (ClaimMark row) ≡ actor_claimed layout t memory a row
claim_actor layout t memory a row found = rw found refl
