use Rattle.std.proofs.Common.{ℕ, Option, ap, ◌∙◌}
use Rattle.brc_model.specs.Machine.{Dying, Closed, Live, with_life}
use Rattle.brc_plain.specs.Lives.{life_at}
use Rattle.brc_plain.proofs.lives.live_on.Goals as goal

-- Each of the three lives is set in the lives that the one before it leaves.
pub returns : goal.returns
returns c =
    let dying = c.in_ok-set_life.ensures
    ∙ ap (λ (row : Option ℕ). with_life (life_at c.args.lives.now) row (Dying c.args.thread)) c.dies_next.ensures in
    let ended = c.in_ok-set_life-2.ensures ∙ (λ i. with_life (dying i) (c.ended_row.ensures i) Closed) in
    c.in_ok-set_life-3.ensures ∙ (λ i. with_life (ended i) (c.born_row.ensures i) Live)
