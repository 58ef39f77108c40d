-- A hand stays ready to retain and release an object.
use Rattle.std.proofs.Common.{◌≡◌, ◌⊎◌, ℕ, List, sym, ◌∙◌, subst, inl, inr}
use Rattle.brc_model.specs.declared.duty.Duty.{Duty}
use Rattle.brc_table.specs.declared.view.View.{View}
use Rattle.brc_table.specs.Calls.{CanAct}
use Rattle.brc_heap.specs.Calls.{Leaves}
use Rattle.brc_heap.proofs.Leaving.{leaves_then}

-- What two calls about the same row leave.
pub both_leave : {x : ℕ} {left next : List Duty} {v u w : View} → Leaves x left v u → Leaves x next u w
    → Leaves x next v w
both_leave {x} {left} {next} {v} {u} {w} one two = leaves_then x left next v u w one two

-- What a call leaves that is the first one, or that follows others about the same row.
pub first_or_more : {x : ℕ} {left next : List Duty} {v u w : View} → (u ≡ v) ⊎ Leaves x left v u → Leaves x next u w
    → Leaves x next v w
first_or_more {x} {left} {next} {v} {u} {w} (inl same) two = subst (λ (z : View). Leaves x next z w) same two
first_or_more (inr one) two = both_leave one two

-- After a call a hand can act as before.
pub still_acts : {x : ℕ} {left : List Duty} {v u : View} → CanAct v → Leaves x left v u → CanAct u
still_acts acts leaves = ((λ gone. acts.0 (sym leaves.keeps.status ∙ gone)), leaves.waits)
