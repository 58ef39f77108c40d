-- A thread's chain is empty when it leaves, looks at a mark and says that it is gone: it settles before each of these
-- steps.
use Rattle.std.proofs.Common.{◌≡◌, ◌∙◌, ℕ, zero, suc, true, List, [], ◌∷◌, ◌++◌, refl, sym, subst, arith}
use Rattle.brc_model.specs.declared.duty.Duty.{Duty}
use Rattle.brc_model.specs.declared.duty.Duty.TheVariants.{Settle, Leave, Scan, TakeFound, Finish}
use Rattle.brc_model.specs.Duties.{new_head, ready}
use Rattle.brc_model.specs.declared.actor.Actor.{Actor}
use Rattle.brc_model.specs.Machine.{Machine, is_running, actor_by}
use Rattle.brc_model.specs.OpenWork.{IsSettled}
use Rattle.brc_model.proofs.Frame.Lives.{next_of}
use Rattle.brc_model.proofs.Stepping.FitsAfter.{found_by}
use Rattle.brc_model.proofs.Basics.Continuation.{is_inner, next_inner, first_inner, Continuation, Ends, Finishes, GoesOn, Frees, FreesOld, SettlesRow, Claims, ClaimsNone, Exits, Scans, Takes, TakesNone, continues}
use Rattle.brc_model.specs.declared.layout.Layout.{Layout}

-- ---- agendas

-- An empty agenda stays empty.
pub ready_none : (head : ℕ) → ready head [] ≡ []
ready_none zero = refl
ready_none (suc head) = refl

-- Duties that fit a chain that isn't empty fit any chain.
settled_any : (head : ℕ) (l : List Duty) → IsSettled 1 l → IsSettled head l
settled_any head [] settled = tt
settled_any head (Settle ∷ rest) settled = settled
settled_any head (Leave x k ∷ rest) settled = absurd (omega (arith, settled.0))
settled_any head (Scan x k ∷ rest) settled = absurd (omega (arith, settled.0))
settled_any head (TakeFound x k ∷ rest) settled = absurd (omega (arith, settled.0))
settled_any head (Finish ∷ rest) settled = absurd (omega (arith, settled.0))
settled_any head (_ ∷ rest) settled = settled

-- A duty that works on one object may fill the chain.
settled_inner : (head : ℕ) (d : Duty) (rest : List Duty) → is_inner d ≡ true → IsSettled 1 rest
    → IsSettled head (d ∷ rest)
settled_inner head Settle rest inner settled = absurd cc
settled_inner head (Leave x k) rest inner settled = absurd cc
settled_inner head (Scan x k) rest inner settled = absurd cc
settled_inner head (TakeFound x k) rest inner settled = absurd cc
settled_inner head Finish rest inner settled = absurd cc
settled_inner head _ rest inner settled = settled

inner_settled : (head : ℕ) (d : Duty) (rest : List Duty) → is_inner d ≡ true → IsSettled head (d ∷ rest)
    → IsSettled 1 rest
inner_settled head Settle rest inner settled = absurd cc
inner_settled head (Leave x k) rest inner settled = absurd cc
inner_settled head (Scan x k) rest inner settled = absurd cc
inner_settled head (TakeFound x k) rest inner settled = absurd cc
inner_settled head Finish rest inner settled = absurd cc
inner_settled head _ rest inner settled = settled

-- Skipping duties that need no step changes nothing.
settled_ready : (head : ℕ) (l : List Duty) → IsSettled head l → IsSettled head (ready head l)
settled_ready zero [] settled = tt
settled_ready (suc head) [] settled = tt
settled_ready zero (Settle ∷ rest) settled = settled_ready zero rest settled
settled_ready (suc head) (Settle ∷ rest) settled = settled
settled_ready zero (Scan x zero ∷ rest) settled = settled_ready zero rest settled.1
settled_ready (suc head) (Scan x zero ∷ rest) settled = absurd (omega (arith, settled.0))
settled_ready zero (Scan x (suc k) ∷ rest) settled = settled
settled_ready (suc head) (Scan x (suc k) ∷ rest) settled = settled
settled_ready zero (TakeFound x zero ∷ rest) settled = settled_ready zero rest settled.1
settled_ready (suc head) (TakeFound x zero ∷ rest) settled = absurd (omega (arith, settled.0))
settled_ready zero (TakeFound x (suc k) ∷ rest) settled = settled
settled_ready (suc head) (TakeFound x (suc k) ∷ rest) settled = settled
settled_ready zero (_ ∷ rest) settled = settled
settled_ready (suc head) (_ ∷ rest) settled = settled

-- ---- the agenda after a step

settled_next : {layout : Layout} {t head found : ℕ} (new : ℕ) (d : Duty) (next rest : List Duty)
    → Continuation layout t head found d next → new_head head d found ≡ new → IsSettled head (d ∷ rest)
    → IsSettled new (next ++ rest)
settled_next {head = head} new d next rest (Ends inner) is settled =
    settled_any new rest (inner_settled head d rest inner settled)
settled_next new d next rest Finishes is settled =
    subst (λ (h : ℕ). IsSettled h rest) (sym settled.0 ∙ is) settled.1
settled_next {head = head} new d next rest (GoesOn e leads) is settled =
    settled_inner new e rest (next_inner e leads) (inner_settled head d rest (first_inner d e leads) settled)
settled_next new d next rest (Frees x i n y e set leads) is settled =
    settled_inner 1 e rest (next_inner e leads) settled
settled_next new d next rest (FreesOld x i y z h set) is settled = settled
settled_next new d next rest SettlesRow is settled = settled
settled_next new d next rest (Claims x set) is settled = settled_any 0 rest settled
settled_next new d next rest (ClaimsNone x) is settled = settled_any 0 rest settled
settled_next new d next rest (Exits i n) is settled = (sym is ∙ settled.0, (refl, settled.1))
settled_next new d next rest (Scans w n) is settled = (sym is ∙ settled.0, (refl, settled.1))
settled_next new d next rest (Takes w n set) is settled = (refl, settled.1)
settled_next new d next rest (TakesNone w n) is settled = (refl, settled.1)

-- A thread's step keeps `IsSettled`.
pub settled_after : (m : Machine) (t : ℕ) (a : Actor) (d : Duty) (rest : List Duty) → IsSettled a.head (d ∷ rest)
    → IsSettled (new_head a.head d (found_by m t a d)) (actor_by m.layout t a d rest (found_by m t a d)).agenda
settled_after m t a d rest settled =
    let new = new_head a.head d (found_by m t a d) in
    settled_ready new (next_of m t a d ++ rest)
    (settled_next new d (next_of m t a d) rest
    (continues m.layout t (is_running a.status) a.head d (found_by m t a d)) refl settled)
