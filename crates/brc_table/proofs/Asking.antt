-- A hand asks for the kind of an object that it may use, or is to finalise.
use Rattle.std.proofs.Common.{ℕ, ◌+◌, [], ◌∷◌, inl, inr, refl, arith}
use Rattle.brc_model.specs.declared.duty.Duty.TheVariants.{KindLoad}
use Rattle.brc_model.specs.CountingLaws.{WorkIsPutAside, KindsAreAsked, ImmortalsAreFree}
use Rattle.brc_table.specs.Plan.{Plan}
use Rattle.brc_table.specs.declared.view.View.{View}
use Rattle.brc_table.specs.Views.{asking, open_work, rested}
use Rattle.brc_table.specs.Hands.{MayRead, HasNoWork, IsRunning}
use Rattle.brc_table.specs.Begins.{Becomes}
use Rattle.brc_table.proofs.AtHand.{is_ready, alone, has_at_hand, with_at_hand}
use Rattle.brc_table.proofs.Becoming.{then_begins, rearranged}

-- A hand begins to ask for the kind of an object that it may use, or is to finalise.
pub asking_becomes : WorkIsPutAside → KindsAreAsked → ImmortalsAreFree → (plan : Plan) (v : View) (x : ℕ)
    → IsRunning v → HasNoWork v x → MayRead v x → Becomes plan v (asking v x)
asking_becomes put law free plan v x running none (inl may) =
    then_begins put plan v (asking v x) running.1 refl (λ y locks. refl)
    (λ words views id stands here.
    let usable =
    has_at_hand free plan words views id v x
    (record { stands = stands; here = here; running = running.0; free = none }) may in
    let s = usable.stands in
    with_at_hand usable
    (rearranged plan words views id (rested v) s here (KindLoad x ∷ []) (open_work v)
    (law s.accounts (1 + s.machine.layout.workers) s.machine v.thread (rested v).actor x s.counts
    (is_ready plan words views id v s here running.0) (alone v x none) (inl usable.at_hand))))
asking_becomes put law free plan v x running none (inr first) =
    then_begins put plan v (asking v x) running.1 refl (λ y locks. refl)
    (λ words views id s here.
    rearranged plan words views id (rested v) s here (KindLoad x ∷ []) (open_work v)
    (law s.accounts (1 + s.machine.layout.workers) s.machine v.thread (rested v).actor x s.counts
    (is_ready plan words views id v s here running.0) (alone v x none) (inr (omega (arith, first)))))
