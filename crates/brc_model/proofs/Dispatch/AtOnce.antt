-- A thread does a lock, an unlock, a swap of a cell, and a duty that lends or returns a resource at the event that
-- dispatches it: no step adds such a duty to an agenda.
use Rattle.std.proofs.Common.{◌≡◌, ℕ, ◌+◌, false, List, [], ◌∷◌, ◌++◌, Option, refl, ◌∙◌, arith}
use Rattle.std.specs.Prelude.{sum_by}
use Rattle.std.proofs.lemmas.List.Sums.{sum_by-cons, sum_by-append}
use Rattle.brc_model.specs.declared.duty.Holding.TheVariants.{InFlight}
use Rattle.brc_model.specs.declared.duty.Duty.{Duty}
use Rattle.brc_model.specs.declared.duty.Duty.TheVariants.{ReleaseLoad, LockGate, UnlockGate, CellSwap, LendField, ReturnField}
use Rattle.brc_model.specs.declared.layout.Layout.{Layout}
use Rattle.brc_model.specs.Duties.{continuation, new_head}
use Rattle.brc_model.specs.declared.actor.Actor.{Actor}
use Rattle.brc_model.specs.Machine.{is_running, is_locking, locked_by, is_lending, lent_by, actor_by}
use Rattle.brc_model.specs.References.{one_if}
use Rattle.brc_model.specs.Ranges.{swaps}
use Rattle.brc_model.proofs.Frame.Items.{drops_items}
use Rattle.brc_model.proofs.Basics.Continuation.{Origin, Continuation, GoesOn, Frees, continues}
use Rattle.brc_model.proofs.Objects.Weights.{sum_by-ready}

-- 1 if the duty locks or unlocks a list, swaps a cell, or lends or returns a resource, else 0: a thread does such a
-- duty as soon as an instruction dispatches it.
abbrev pub at_once : Duty → ℕ
at_once d = one_if (is_locking d) + swaps d + one_if (is_lending d)

origin_plain : (d : Duty) (found : ℕ) (e : Duty) → Origin d found e → at_once e ≡ 0
origin_plain d found (LockGate x) origin = absurd origin
origin_plain d found (UnlockGate x) origin = absurd origin
origin_plain d found (CellSwap x i y h) origin = absurd origin
origin_plain d found (LendField x) origin = absurd origin
origin_plain d found (ReturnField x) origin = absurd origin
origin_plain d found _ origin = refl

next_plain : {layout : Layout} {t head found : ℕ} (d : Duty) (next : List Duty)
    → Continuation layout t head found d next → sum_by at_once next ≡ 0
next_plain {found = found} d next (GoesOn e leads) =
    omega (arith, sum_by-cons at_once e [], origin_plain d found e leads.origin)
next_plain {found = found} d next (Frees x i n y e some leads) =
    omega (
      arith,
      sum_by-cons at_once (ReleaseLoad y InFlight) (e ∷ []),
      sum_by-cons at_once e [],
      origin_plain d found e leads.origin,
    )
next_plain d next _ = refl

-- After a step none of the thread's duties is one of these, if none of those after its duty is.
pub plain_after : (layout : Layout) (t : ℕ) (a : Actor) (d : Duty) (rest : List Duty) (found : ℕ)
    → sum_by at_once rest ≡ 0 → sum_by at_once (actor_by layout t a d rest found).agenda ≡ 0
plain_after layout t a d rest found none =
    let next = continuation layout t (is_running a.status) a.head d found in
    sum_by-ready at_once (record {
      settle = refl;
      scan = λ w n. refl;
      take =
          λ w n. refl;
    }) (new_head a.head d found) (next ++ rest)
    ∙ omega (
      arith,
      sum_by-append at_once next rest,
      next_plain d next (continues layout t (is_running a.status) a.head d found),
      none,
    )

-- Any other duty leaves the thread's lock as it is.
pub plain_locked : (locked : Option ℕ) (d : Duty) (found : ℕ) → at_once d ≡ 0 → locked_by locked d found ≡ locked
plain_locked locked (LockGate x) found none = absurd (omega (arith, none))
plain_locked locked (UnlockGate x) found none = absurd (omega (arith, none))
plain_locked locked _ found none = refl

-- It leaves what the thread has lent as it is.
pub plain_lent : (lent : Option ℕ) (d : Duty) (found : ℕ) → at_once d ≡ 0 → lent_by lent d found ≡ lent
plain_lent lent (LendField x) found none = absurd (omega (arith, none))
plain_lent lent (ReturnField x) found none = absurd (omega (arith, none))
plain_lent lent _ found none = refl

-- It takes no items away from its thread.
pub plain_keeps : (d : Duty) → at_once d ≡ 0 → drops_items d ≡ false
plain_keeps (UnlockGate x) none = absurd (omega (arith, none))
plain_keeps (CellSwap x i y h) none = absurd (omega (arith, none))
plain_keeps _ none = refl
