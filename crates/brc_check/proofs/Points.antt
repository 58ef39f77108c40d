-- Both exits of a point, when the entries are filled in.
use Rattle.std.proofs.Common.{◌≡◌, ℕ, ◌+◌, ◌<◌, List, length, Option, sym, ap, ◌∙◌, subst}
use Rattle.std.specs.Prelude.{None, Some, slice_get, MatchOption, Result, Ok, Err, IfOk}
use Rattle.std.specs.declared.alloc.AllocError.{AllocError}
use Rattle.std.specs.List.{slice_index_or}
use Rattle.std.proofs.lemmas.List.{get_or_default}
use Rattle.brc_lang.specs.declared.module.Function.{Function}
use Rattle.brc_lang.specs.declared.check_code.CheckCode.{CheckCode}
use Rattle.brc_model.specs.declared.state.State.{State}
use Rattle.brc_model.specs.declared.state.Exit.TheVariants.{Success, Fault}
use Rattle.brc_model.specs.Paths.{At, IsAcceptableFunction, follow}
use Rattle.brc_check.specs.declared.refused.CodeAt as refused
use Rattle.brc_check.specs.Entries.{StaysOn, IsBlocked}
use Rattle.brc_check.specs.declared.filling.Filling.{Filling}
use Rattle.brc_check.specs.Filling.{entry_at, settled_at, IsFilledTo, IsFilled, AreReached, AreTrue}
use Rattle.brc_check.specs.Refusal.{IsReported}
use Rattle.brc_check.proofs.Turns.{first_blocked, second_blocked, filled_both, both_reached}
use Rattle.brc_check.proofs.Tables.{never_reported}

pub entry_read : (entries read : List (Option State)) (at : ℕ) (s : State) (d : Option State) → read ≡ entries
    → at < length entries
    → slice_index_or read at d ≡ Some s → entry_at entries at ≡ Some s
entry_read entries read at s d same lt is =
    get_or_default entries at None d lt ∙ ap (λ (r : List (Option State)). slice_index_or r at d) (sym same) ∙ is

-- ---- filled in

pub first_reported : (f : Function) (filling once : Filling) (turns at : ℕ) (s : State) (k : ℕ) (c : CheckCode)
    → IsFilledTo f filling turns → entry_at filling.entries at ≡ Some s
    → once ≡ settled_at filling (follow f.code (At at s) Success)
    → IsBlocked (entry_at once.entries) (follow f.code (At at s) Success) k c → IsReported f k c
first_reported f filling once turns at s k c filled here is blocked =
    first_blocked f filling turns at s k c filled here
    (subst (λ (now : Filling). IsBlocked (entry_at now.entries) (follow f.code (At at s) Success) k c) is blocked)

pub second_reported : (f : Function) (filling once twice : Filling) (turns at : ℕ) (s : State)
    (r : Option refused.CodeAt)
    → IsFilledTo f filling turns → slice_get filling.order turns ≡ Some at → entry_at filling.entries at ≡ Some s
    → once ≡ settled_at filling (follow f.code (At at s) Success)
    → StaysOn (entry_at once.entries) (follow f.code (At at s) Success)
    → twice ≡ settled_at once (follow f.code (At at s) Fault)
    → MatchOption r (StaysOn (entry_at twice.entries) (follow f.code (At at s) Fault))
    (λ m. IsBlocked (entry_at twice.entries) (follow f.code (At at s) Fault) m.at m.code)
    → MatchOption r (IsFilledTo f twice (turns + 1)) (λ m. IsReported f m.at m.code)
second_reported f filling once twice turns at s None filled next here is on is_twice on_fault =
    let q : twice ≡ settled_at (settled_at filling (follow f.code (At at s) Success)) (follow f.code (At at s) Fault) =
    is_twice ∙ ap (λ (now : Filling). settled_at now (follow f.code (At at s) Fault)) is in
    subst (λ (now : Filling). IsFilledTo f now (turns + 1)) (sym q)
    (filled_both f filling turns at s filled next here
    (subst (λ (now : Filling). StaysOn (entry_at now.entries) (follow f.code (At at s) Success)) is on)
    (subst (λ (now : Filling). StaysOn (entry_at now.entries) (follow f.code (At at s) Fault)) q on_fault))
second_reported f filling once twice turns at s (Some m) filled next here is on is_twice blocked =
    let q : twice ≡ settled_at (settled_at filling (follow f.code (At at s) Success)) (follow f.code (At at s) Fault) =
    is_twice ∙ ap (λ (now : Filling). settled_at now (follow f.code (At at s) Fault)) is in
    second_blocked f filling turns at s m.at m.code filled here
    (subst (λ (now : Filling). IsBlocked (entry_at now.entries) (follow f.code (At at s) Fault) m.at m.code) q blocked)

pub second_result : (f : Function) (filling once twice : Filling) (turns at : ℕ) (s : State)
    (r : Result (Option refused.CodeAt) AllocError)
    → IsFilledTo f filling turns → slice_get filling.order turns ≡ Some at → entry_at filling.entries at ≡ Some s
    → once ≡ settled_at filling (follow f.code (At at s) Success)
    → StaysOn (entry_at once.entries) (follow f.code (At at s) Success)
    → IfOk r (λ found. twice ≡ settled_at once (follow f.code (At at s) Fault))
    → IfOk r (λ found. MatchOption found (StaysOn (entry_at twice.entries) (follow f.code (At at s) Fault))
    (λ m. IsBlocked (entry_at twice.entries) (follow f.code (At at s) Fault) m.at m.code))
    → IfOk r (λ found. MatchOption found (IsFilledTo f twice (turns + 1)) (λ m. IsReported f m.at m.code))
second_result f filling once twice turns at s (Ok found) filled next here is on is_twice on_fault =
    second_reported f filling once twice turns at s found filled next here is on is_twice on_fault
second_result f filling once twice turns at s (Err refused) filled next here is on is_twice on_fault = tt

-- the states are reached, whether or not an exit is blocked
pub both_led : (f : Function) (filling once twice : Filling) (turns at : ℕ) (s : State)
    (r : Result (Option refused.CodeAt) AllocError)
    → IsFilledTo f filling turns → entry_at filling.entries at ≡ Some s
    → once ≡ settled_at filling (follow f.code (At at s) Success)
    → IfOk r (λ found. twice ≡ settled_at once (follow f.code (At at s) Fault))
    → IfOk r (λ found. AreReached f twice.entries)
both_led f filling once twice turns at s (Ok found) filled here is is_twice =
    let q : twice ≡ settled_at (settled_at filling (follow f.code (At at s) Success)) (follow f.code (At at s) Fault) =
    is_twice ∙ ap (λ (now : Filling). settled_at now (follow f.code (At at s) Fault)) is in
    subst (λ (now : Filling). AreReached f now.entries) (sym q) (both_reached f filling turns at s filled here)
both_led f filling once twice turns at s (Err refused) filled here is is_twice = tt

-- acceptable code has nothing to report, so that its entries are true
pub true_unless_reported : (f : Function) (entries : List (Option State)) (r : Option refused.CodeAt)
    → MatchOption r (IsFilled f entries) (λ m. IsReported f m.at m.code) → IsAcceptableFunction f
    → AreTrue f entries
true_unless_reported f entries None inferred accepted = inferred.truth
true_unless_reported f entries (Some m) reported accepted =
    absurd (never_reported f m.at m.code accepted reported)
