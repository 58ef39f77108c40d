-- The end of one step.
use Rattle.std.proofs.Common.{◌≡◌, ℕ, ◌<◌, Bool, true, false, cond, List, length, Option, refl, subst}
use Rattle.std.specs.Prelude.{None, Some, slice_get, nat_lt}
use Rattle.std.proofs.lemmas.Bool.{ltb-true}
use Rattle.brc_lang.specs.declared.module.Instr.{Instr}
use Rattle.brc_lang.specs.declared.check_code.CheckCode.{CheckCode}
use Rattle.brc_lang.specs.declared.check_code.CheckCode.TheVariants.{RunsOff}
use Rattle.brc_model.specs.declared.state.State.{State}
use Rattle.brc_model.specs.declared.state.Exit.{Exit}
use Rattle.brc_model.specs.SlotStates.{lowest, after, target}
use Rattle.brc_model.specs.Paths.{PathEnd, At, Ended, Reports, arrives, unless_reported, passes, follow}

-- if the path ends at a point, the code has that point
abbrev pub IsWithin : List Instr → PathEnd → Type 0
IsWithin code (At at s) = at < length code
IsWithin code Ended = Unit {0}
IsWithin code (Reports at c) = Unit {0}

within-unless_reported : (code : List Instr) (at : ℕ) (o : Option CheckCode) (p : PathEnd) → IsWithin code p
    → IsWithin code (unless_reported at o p)
within-unless_reported code at None p h = h
within-unless_reported code at (Some c) p h = tt

within-cond : (code : List Instr) (at next : ℕ) (s : State) (b : Bool) → nat_lt next (length code) ≡ b
    → IsWithin code (cond b (At next s) (Reports at RunsOff))
within-cond code at next s true e = ltb-true next (length code) e
within-cond code at next s false e = tt

within-arrives : (code : List Instr) (at : ℕ) (o : Option ℕ) (s : State) → IsWithin code (arrives code at o s)
within-arrives code at None s = tt
within-arrives code at (Some next) s = within-cond code at next s (nat_lt next (length code)) refl

within-passes : (code : List Instr) (at : ℕ) (o : Option Instr) (exit : Exit) (s : State)
    → IsWithin code (passes code at o exit s)
within-passes code at None exit s = tt
within-passes code at (Some i) exit s =
    within-unless_reported code at (lowest i s) (arrives code at (target i exit at) (after i exit s))
    (within-arrives code at (target i exit at) (after i exit s))

-- If an exit goes on at a point, the point is one of the code.
pub arrives-within : (code : List Instr) (at next : ℕ) (s t : State) (exit : Exit)
    → follow code (At at s) exit ≡ At next t → next < length code
arrives-within code at next s t exit e =
    subst (IsWithin code) e (within-passes code at (slice_get code at) exit s)

-- if the step reports a code, it is at the point where the step begins
abbrev IsHere : ℕ → PathEnd → Type 0
IsHere at (At next s) = Unit {0}
IsHere at Ended = Unit {0}
IsHere at (Reports point c) = point ≡ at

here-unless_reported : (at : ℕ) (o : Option CheckCode) (p : PathEnd) → IsHere at p → IsHere at (unless_reported at o p)
here-unless_reported at None p h = h
here-unless_reported at (Some c) p h = refl

here-cond : (at next : ℕ) (s : State) (b : Bool) → IsHere at (cond b (At next s) (Reports at RunsOff))
here-cond at next s true = tt
here-cond at next s false = refl

here-arrives : (code : List Instr) (at : ℕ) (o : Option ℕ) (s : State) → IsHere at (arrives code at o s)
here-arrives code at None s = tt
here-arrives code at (Some next) s = here-cond at next s (nat_lt next (length code))

here-passes : (code : List Instr) (at : ℕ) (o : Option Instr) (exit : Exit) (s : State)
    → IsHere at (passes code at o exit s)
here-passes code at None exit s = refl
here-passes code at (Some i) exit s =
    here-unless_reported at (lowest i s) (arrives code at (target i exit at) (after i exit s))
    (here-arrives code at (target i exit at) (after i exit s))

pub reports-here : (code : List Instr) (at point : ℕ) (s : State) (exit : Exit) (c : CheckCode)
    → follow code (At at s) exit ≡ Reports point c → point ≡ at
reports-here code at point s exit c e = subst (IsHere at) e (here-passes code at (slice_get code at) exit s)
