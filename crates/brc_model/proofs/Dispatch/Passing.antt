-- In accepted code each point that a path reaches has an instruction whose conditions are met, and the path goes on.
use Rattle.std.proofs.Common.{◌≡◌, ℕ, Bool, true, false, cond, List, [], ◌∷◌, ◌++◌, length, drop, Option, None, Some, refl, sym, ap, ◌∙◌, subst}
use Rattle.std.specs.Prelude.{find, nat_lt, slice_get}
use Rattle.std.proofs.lemmas.List.Sums.{fold-append}
use Rattle.brc_lang.specs.declared.module.Instr.{Instr}
use Rattle.brc_lang.specs.declared.module.Function.{Function}
use Rattle.brc_model.proofs.Basics.Lists.{some_is}
use Rattle.brc_lang.specs.declared.check_code.CheckCode.{CheckCode}
use Rattle.brc_lang.specs.declared.check_code.CheckCode.TheVariants.{EmptyUsed, WrongKind, NotOwned, StillOwns, LeftOwned, LeftLocked, SecondLock, NotLocked, LockedChanged, RunsOff}
use Rattle.brc_model.specs.declared.state.State.{State}
use Rattle.brc_model.specs.declared.state.Exit.{Exit}
use Rattle.brc_model.specs.declared.state.Exit.TheVariants.{Success}
use Rattle.brc_model.specs.SlotStates.{applies, rising, lowest, after, target, entry_of}
use Rattle.brc_model.specs.Paths.{PathEnd, At, Reports, arrives, unless_reported, passes, follow, path_end, IsAcceptableFunction}

-- The instruction breaks no condition.
pub record AreMet (i : Instr) (s : State) : Type 0 where
  pub not_empty : applies i s EmptyUsed ≡ false
  pub right_kind : applies i s WrongKind ≡ false
  pub owned : applies i s NotOwned ≡ false
  pub free : applies i s StillOwns ≡ false
  pub none_left : applies i s LeftOwned ≡ false
  pub no_lock_left : applies i s LeftLocked ≡ false
  pub first_lock : applies i s SecondLock ≡ false
  pub has_lock : applies i s NotLocked ≡ false
  pub unlocked : applies i s LockedChanged ≡ false

find_none : {A : Type 0} (test : A → Bool) (x : A) (xs : List A) → find test (x ∷ xs) ≡ None
    → (test x ≡ false) × (find test xs ≡ None)
find_none test x xs e =
    elim (test x) as (λ b. test x ≡ b → (b ≡ false) × (find test xs ≡ None)) [
      | true ↦
          λ t. absurd (let found : Some x ≡ None = sym (ap (λ (b : Bool). cond b (Some x) (find test xs)) t) ∙ e in cc)
      | false ↦ λ t. (refl, sym (ap (λ (b : Bool). cond b (Some x) (find test xs)) t) ∙ e)
    ] refl

pub are_met : (i : Instr) (s : State) → lowest i s ≡ None → AreMet i s
are_met i s none =
    let a = find_none (applies i s) EmptyUsed (drop 1 rising) none in
    let b = find_none (applies i s) WrongKind (drop 2 rising) a.1 in
    let c = find_none (applies i s) NotOwned (drop 3 rising) b.1 in
    let d = find_none (applies i s) StillOwns (drop 4 rising) c.1 in
    let e = find_none (applies i s) LeftOwned (drop 5 rising) d.1 in
    let f = find_none (applies i s) LeftLocked (drop 6 rising) e.1 in
    let g = find_none (applies i s) SecondLock (drop 7 rising) f.1 in
    let h = find_none (applies i s) NotLocked (drop 8 rising) g.1 in
    let k = find_none (applies i s) LockedChanged (drop 9 rising) h.1 in
    record {
      not_empty = a.0;
      right_kind = b.0;
      owned = c.0;
      free = d.0;
      none_left = e.0;
      no_lock_left = f.0;
      first_lock = g.0;
      has_lock = h.0;
      unlocked = k.0;
    }

pub record PassesOn (f : Function) (exits : List Exit) (at : ℕ) (s : State) : Type 0 where
  pub here : Instr
  pub found : slice_get f.code at ≡ Some here
  pub met : AreMet here s
  pub leads : (exit : Exit) (next : ℕ) → target here exit at ≡ Some next
      → path_end f (exits ++ exit ∷ []) ≡ At next (after here exit s)

path_end-append : (f : Function) (exits : List Exit) (e : Exit)
    → path_end f (exits ++ e ∷ []) ≡ follow f.code (path_end f exits) e
path_end-append f exits e = fold-append (follow f.code) (At 0 (entry_of f.parameters)) exits (e ∷ [])

arrives_at : (f : Function) (at next : ℕ) (s : State)
    → ((reported : CheckCode) → arrives f.code at (Some next) s ≡ Reports at reported → ⊥)
    → arrives f.code at (Some next) s ≡ At next s
arrives_at f at next s never =
    elim (nat_lt next (length f.code)) as
    (λ b. nat_lt next (length f.code) ≡ b → cond b (At next s) (Reports at RunsOff) ≡ At next s) [
      | true ↦ λ e. refl
      | false ↦ λ e. absurd (never RunsOff (ap (λ (b : Bool). cond b (At next s) (Reports at RunsOff)) e))
    ] refl

-- The path goes on by each exit of the instruction.
leads_by : (f : Function) (exits : List Exit) (at : ℕ) (s : State) (i : Instr) (exit : Exit)
    → IsAcceptableFunction f → path_end f exits ≡ At at s → slice_get f.code at ≡ Some i → lowest i s ≡ None
    → (next : ℕ) → target i exit at ≡ Some next → path_end f (exits ++ exit ∷ []) ≡ At next (after i exit s)
leads_by f exits at s i exit accepted arrived found none next t =
    let one_more : path_end f (exits ++ exit ∷ []) ≡ passes f.code at (slice_get f.code at) exit s =
    path_end-append f exits exit ∙ ap (λ (p : PathEnd). follow f.code p exit) arrived in
    let on : passes f.code at (slice_get f.code at) exit s ≡ arrives f.code at (target i exit at) (after i exit s) =
    ap (λ (o : Option Instr). passes f.code at o exit s) found
    ∙ ap (λ (o : Option CheckCode). unless_reported at o (arrives f.code at (target i exit at) (after i exit s)))
    none in
    let to = one_more ∙ on ∙ ap (λ (o : Option ℕ). arrives f.code at o (after i exit s)) t in
    to ∙ arrives_at f at next (after i exit s)
    (λ reported m. accepted.reports_none at reported (record { exits = exits ++ exit ∷ []; reports = to ∙ m }))

pub passes_on : (f : Function) (exits : List Exit) (at : ℕ) (s : State) → IsAcceptableFunction f
    → path_end f exits ≡ At at s → PassesOn f exits at s
passes_on f exits at s accepted arrived =
    let one_more : path_end f (exits ++ Success ∷ []) ≡ passes f.code at (slice_get f.code at) Success s =
    path_end-append f exits Success ∙ ap (λ (p : PathEnd). follow f.code p Success) arrived in
    let never : (reported : CheckCode) → passes f.code at (slice_get f.code at) Success s ≡ Reports at reported
    → ⊥ = λ reported e. accepted.reports_none at reported
    (record { exits = exits ++ Success ∷ []; reports = one_more ∙ e }) in
    elim (slice_get f.code at) as (λ o. slice_get f.code at ≡ o → PassesOn f exits at s) [
      | None ↦ λ e. absurd (never RunsOff (ap (λ (o : Option Instr). passes f.code at o Success s) e))
      | Some i ↦ λ e.
          let there : passes f.code at (slice_get f.code at) Success s
          ≡ unless_reported at (lowest i s) (arrives f.code at (target i Success at) (after i Success s)) =
          ap (λ (o : Option Instr). passes f.code at o Success s) e in
          elim (lowest i s) as (λ o. lowest i s ≡ o → PassesOn f exits at s) [
            | Some reported ↦
                λ l. absurd (never reported (there ∙ ap
                (λ (o : Option CheckCode). unless_reported at o
                (arrives f.code at (target i Success at) (after i Success s))) l))
            | None ↦
                λ l. record {
                  here = i;
                  found = e;
                  met = are_met i s l;
                  leads = λ exit. leads_by f exits at s i exit accepted arrived e l;
                }
          ] refl
    ] refl

-- The instruction of the point is met, and the path goes on by each of its exits.
pub record PassesBy (f : Function) (exits : List Exit) (at : ℕ) (s : State) (i : Instr) : Type 0 where
  pub met : AreMet i s
  pub leads : (exit : Exit) (next : ℕ) → target i exit at ≡ Some next
      → path_end f (exits ++ exit ∷ []) ≡ At next (after i exit s)

pub passes_by : (f : Function) (exits : List Exit) (at : ℕ) (s : State) (i : Instr) → IsAcceptableFunction f
    → path_end f exits ≡ At at s → slice_get f.code at ≡ Some i → PassesBy f exits at s i
passes_by f exits at s i accepted arrived found =
    let on = passes_on f exits at s accepted arrived in
    let same : on.here ≡ i = some_is on.here i (sym on.found ∙ found) in
    subst (PassesBy f exits at s) same (record { met = on.met; leads = on.leads })
