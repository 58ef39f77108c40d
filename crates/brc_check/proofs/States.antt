-- The states of all points, from the entries of the kept ones.
use Rattle.std.proofs.Common.{◌≡◌, ℕ, zero, suc, ◌+◌, ◌<◌, ◌≤◌, true, false, cond, List, [], ◌∷◌, length, Option}
use Rattle.std.proofs.Common.{fold, refl, sym, ap, ◌∙◌, subst, inl, inr, arith, map, Bool}
use Rattle.std.specs.Prelude.{None, Some, ◌⊎◌, ◌==◌}
use Rattle.std.proofs.lemmas.Bool.{eqb-true, eq-eqb, cases_lt}
use Rattle.std.proofs.lemmas.Option.{none-some, same_Some}
use Rattle.brc_lang.specs.declared.module.Function.{Function}
use Rattle.brc_lang.specs.declared.module.Instr.{Instr}
use Rattle.brc_model.specs.declared.state.State.{State}
use Rattle.brc_model.specs.declared.state.Exit.{Exit}
use Rattle.brc_model.specs.declared.state.Exit.TheVariants.{Success}
use Rattle.brc_model.specs.SlotStates.{entry_of}
use Rattle.brc_model.specs.Paths.{PathEnd, At, Ended, Reports, follow}
use Rattle.brc_model.specs.Tables.{Reaches, IsTrueEntry}
use Rattle.brc_check.specs.declared.kept_entry.KeptEntry.{KeptEntry}
use Rattle.brc_check.specs.Filling.{entry_at, entry_from, kept_entries, IsFilled, IsInferred}
use Rattle.brc_check.specs.Tables.{is_kept, kept_points, kept_at, kept_or, point_of, passed, state_at, state_there}
use Rattle.brc_check.proofs.Paths.{begins, reaches-more}
use Rattle.brc_check.proofs.Kept.{comes, not_kept}
use Rattle.brc_check.proofs.Steps.{arrives-within}

-- ---- what a point passes on

pub there : (at : ℕ) (p : PathEnd) (t : State) → p ≡ At at t → state_there at p ≡ Some t
there at p t e =
    ap (state_there at) e ∙ ap (λ (b : Bool). cond b (Some t) None) (eq-eqb at at refl)

there_cond : (at next : ℕ) (s t : State) (b : Bool) → (next == at) ≡ b → cond b (Some s) None ≡ Some t
    → At next s ≡ At at t
there_cond at next s t true is e = λ k. At (eqb-true next at is k) (same_Some s t e k)
there_cond at next s t false is e = absurd (none-some t e)

there_from : (at : ℕ) (p : PathEnd) (t : State) → state_there at p ≡ Some t → p ≡ At at t
there_from at (At next s) t e = there_cond at next s t (next == at) refl e
there_from at Ended t e = absurd (none-some t e)
there_from at (Reports k c) t e = absurd (none-some t e)

-- what is passed on comes from the state of the point
pub passed_from : (code : List Instr) (at : ℕ) (o : Option State) (t : State) → passed code at o ≡ Some t
    → (s : State) × (o ≡ Some s) × (follow code (At at s) Success ≡ At (at + 1) t)
passed_from code at None t e = absurd (none-some t e)
passed_from code at (Some s) t e = (s, refl, there_from (at + 1) (follow code (At at s) Success) t e)

pub passed_to : (code : List Instr) (at : ℕ) (o : Option State) (s t : State) → o ≡ Some s
    → follow code (At at s) Success ≡ At (at + 1) t → passed code at o ≡ Some t
passed_to code at o s t is e = ap (passed code at) is ∙ there (at + 1) (follow code (At at s) Success) t e

-- ---- the state of the next point

pub next_state : (code : List Instr) (kept : List KeptEntry) (at : ℕ)
    → state_at code kept (at + 1) ≡ kept_or (kept_at kept (at + 1)) (passed code at (state_at code kept at))
next_state code kept at =
    let e : at + 1 ≡ suc at = omega arith in
    ap (state_at code kept) e
    ∙ ap (λ (n : ℕ). kept_or (kept_at kept n) (passed code at (state_at code kept at))) (sym e)

pub kept_state : (code : List Instr) (kept : List KeptEntry) (at : ℕ) (e : KeptEntry) → kept_at kept at ≡ Some e
    → state_at code kept at ≡ e.state
kept_state code kept zero e is = ap (λ (o : Option KeptEntry). kept_or o None) is
kept_state code kept (suc at) e is =
    ap (λ (o : Option KeptEntry). kept_or o (passed code at (state_at code kept at))) is

-- If a step reaches a point, the state of the point is that of its entry, or the path's own if it isn't kept.
pub met : (code : List Instr) (kept : List KeptEntry) (at next : ℕ) (exit : Exit) (s t : State)
    → map point_of kept ≡ kept_points code → state_at code kept at ≡ Some s
    → follow code (At at s) exit ≡ At next t → state_at code kept next ≡ kept_or (kept_at kept next) (Some t)
met code kept at next exit s t shape here leads =
    elim (kept_at kept next) as (λ o. kept_at kept next ≡ o → state_at code kept next ≡ kept_or o (Some t)) [
      | Some e ↦ λ is. kept_state code kept next e is
      | None ↦ λ none.
          let other = not_kept code kept next shape (arrives-within code at next s t exit leads) none in
          elim (comes code at next exit s t leads) [
            | inl led ↦ absurd (let z = sym other ∙ led in cc)
            | inr on ↦
                ap (state_at code kept) on.0 ∙ next_state code kept at
                ∙ ap (λ (o : Option KeptEntry). kept_or o (passed code at (state_at code kept at)))
                (ap (kept_at kept) (sym on.0) ∙ none)
                ∙ passed_to code at (state_at code kept at) s t here (on.1 ∙ λ k. At (on.0 k) t)
          ]
    ] refl

-- ---- reached by the point before

-- a point that isn't kept is reached from the point before
abbrev CameBy : Function → ℕ → State → Type 0
CameBy f next t =
    (is_kept f.code next ≡ true)
    ⊎ ((at : ℕ) × (s : State) × (next ≡ at + 1) × Reaches f at s × (follow f.code (At at s) Success ≡ At next t))

abbrev Came : Function → PathEnd → Type 0
Came f (At next t) = Reaches f next t × CameBy f next t × (0 < next → next < length f.code)
Came f Ended = Unit {0}
Came f (Reports at c) = Unit {0}

came_to : (f : Function) (at : ℕ) (s : State) (exit : Exit) (p : PathEnd) → Reaches f at s
    → follow f.code (At at s) exit ≡ p → Came f p
came_to f at s exit (At next t) r leads = (
  reaches-more f at next s t exit r leads,
  elim (comes f.code at next exit s t leads) [
    | inl led ↦ inl led
    | inr on ↦ inr (at, s, on.0, r, on.1)
  ],
  λ _. arrives-within f.code at next s t exit leads,
)
came_to f at s exit Ended r leads = tt
came_to f at s exit (Reports k c) r leads = tt

came_follow : (f : Function) (p : PathEnd) (exit : Exit) → Came f p → Came f (follow f.code p exit)
came_follow f (At at s) exit came = came_to f at s exit (follow f.code (At at s) exit) came.0 refl
came_follow f Ended exit came = tt
came_follow f (Reports at c) exit came = tt

came_fold : (f : Function) (exits : List Exit) (p : PathEnd) → Came f p → Came f (fold (follow f.code) p exits)
came_fold f [] p came = came
came_fold f (e ∷ es) p came = came_fold f es (follow f.code p e) (came_follow f p e came)

came : (f : Function) (at : ℕ) (s : State) → Reaches f at s → Came f (At at s)
came f at s r =
    subst (Came f) r.reaches
    (came_fold f r.exits (At 0 (entry_of f.parameters)) (begins f, inl refl, λ lt. absurd (omega (arith, lt))))

reached-within : (f : Function) (at : ℕ) (s : State) → Reaches f at s → 0 < at → at < length f.code
reached-within f at s r lt = (came f at s r).2 lt

-- ---- true states

-- where the states are true, a point that isn't kept has what the point before passes on to it
pub true_passed : (f : Function) (states : ℕ → Option State) (at : ℕ)
    → ((k : ℕ) → IsTrueEntry f k (states k))
    → is_kept f.code (at + 1) ≡ false → states (at + 1) ≡ passed f.code at (states at)
true_passed f states at truth other =
    elim (states (at + 1)) as (λ o. states (at + 1) ≡ o → o ≡ passed f.code at (states at)) [
      | Some t ↦ λ e.
          elim (came f (at + 1) t ((truth (at + 1) t).0 e)).1 [
            | inl led ↦ absurd (let z = sym other ∙ led in cc)
            | inr by ↦
                let same : by.0 ≡ at = (let n = by.2 in omega (arith, n)) in
                let from = subst (λ (n : ℕ). Reaches f n by.1) same by.3 in
                let leads : follow f.code (At at by.1) Success ≡ At (at + 1) t =
                ap (λ (n : ℕ). follow f.code (At n by.1) Success) (sym same) ∙ by.4 in
                sym (passed_to f.code at (states at) by.1 t ((truth at by.1).1 from) leads)
          ]
      | None ↦ λ e.
          elim (passed f.code at (states at)) as (λ o. passed f.code at (states at) ≡ o → None ≡ o) [
            | None ↦ λ _. refl
            | Some t ↦ λ h.
                let from = passed_from f.code at (states at) t h in
                let r = reaches-more f at (at + 1) from.0 t Success ((truth at from.0).0 from.1) from.2 in
                absurd (none-some t (sym e ∙ (truth (at + 1) t).1 r))
          ] refl
    ] refl

-- no point past the code has a state, and nothing is passed on to it
past_passed : (f : Function) (states : ℕ → Option State) (at : ℕ)
    → ((k : ℕ) → IsTrueEntry f k (states k))
    → length f.code ≤ at + 1 → states (at + 1) ≡ passed f.code at (states at)
past_passed f states at truth past =
    elim (states (at + 1)) as (λ o. states (at + 1) ≡ o → o ≡ passed f.code at (states at)) [
      | Some t ↦ λ e.
          let within = reached-within f (at + 1) t ((truth (at + 1) t).0 e) (omega arith) in
          absurd (omega (arith, within, past))
      | None ↦ λ e.
          elim (passed f.code at (states at)) as (λ o. passed f.code at (states at) ≡ o → None ≡ o) [
            | None ↦ λ _. refl
            | Some t ↦ λ h.
                let from = passed_from f.code at (states at) t h in
                let within = arrives-within f.code at (at + 1) from.0 t Success from.2 in
                absurd (omega (arith, within, past))
          ] refl
    ] refl

-- ---- the states of the kept points alone

from_entries : (entries : List (Option State)) (points : List ℕ) (at : ℕ) (e : KeptEntry)
    → kept_at (map (entry_from entries) points) at ≡ Some e → e.state ≡ entry_at entries at
from_entries entries [] at e is = absurd (none-some e is)
from_entries entries (p ∷ points) at e is =
    elim (p == at) as (λ b. (p == at) ≡ b
    → cond b (Some (entry_from entries p)) (kept_at (map (entry_from entries) points) at) ≡ Some e
    → e.state ≡ entry_at entries at) [
      | true ↦ λ same h.
          ap (λ (x : KeptEntry). x.state) (sym (same_Some (entry_from entries p) e h))
          ∙ ap (entry_at entries) (eqb-true p at same)
      | false ↦ λ _ h. from_entries entries points at e h
    ] refl is

pub points_kept : (entries : List (Option State)) (points : List ℕ)
    → map point_of (map (entry_from entries) points) ≡ points
points_kept entries [] = refl
points_kept entries (p ∷ points) = ap (λ (ps : List ℕ). p ∷ ps) (points_kept entries points)

passed_same : (f : Function) (states : ℕ → Option State) (kept : List KeptEntry) (at : ℕ)
    → ((k : ℕ) → IsTrueEntry f k (states k)) → map point_of kept ≡ kept_points f.code
    → kept_at kept (at + 1) ≡ None → states (at + 1) ≡ passed f.code at (states at)
passed_same f states kept at truth shape none =
    elim (cases_lt (at + 1) (length f.code)) [
      | inl within ↦ true_passed f states at truth (not_kept f.code kept (at + 1) shape within none)
      | inr past ↦ past_passed f states at truth past
    ]

-- true states are those that the entries of the kept points give
pub same_states : (f : Function) (entries : List (Option State)) → 0 < length f.code
    → ((k : ℕ) → IsTrueEntry f k (entry_at entries k))
    → (at : ℕ) → state_at f.code (kept_entries f.code entries) at ≡ entry_at entries at
same_states f entries some truth zero =
    let kept = kept_entries f.code entries in
    elim (kept_at kept 0) as (λ o. kept_at kept 0 ≡ o → kept_or o None ≡ entry_at entries 0) [
      | Some e ↦ λ is. from_entries entries (kept_points f.code) 0 e is
      | None ↦ λ none.
          let other = not_kept f.code kept 0 (points_kept entries (kept_points f.code)) some none in
          absurd (let z : true ≡ false = other in cc)
    ] refl
same_states f entries some truth (suc at) =
    let kept = kept_entries f.code entries in
    let n : at + 1 ≡ suc at = omega arith in
    elim (kept_at kept (suc at)) as (λ o. kept_at kept (suc at) ≡ o
    → kept_or o (passed f.code at (state_at f.code kept at)) ≡ entry_at entries (suc at)) [
      | Some e ↦ λ is. from_entries entries (kept_points f.code) (suc at) e is
      | None ↦ λ none.
          ap (passed f.code at) (same_states f entries some truth at)
          ∙ sym (passed_same f (entry_at entries) kept at truth (points_kept entries (kept_points f.code))
          (ap (kept_at kept) n ∙ none))
          ∙ ap (entry_at entries) n
    ] refl

pub inferred : (f : Function) (entries : List (Option State)) (kept : List KeptEntry) → 0 < length f.code
    → IsFilled f entries → kept ≡ kept_entries f.code entries → IsInferred f kept
inferred f entries kept some filled is = rw is (record {
  points = points_kept entries (kept_points f.code);
  truth = λ at. subst (IsTrueEntry f at) (sym (same_states f entries some filled.truth at)) (filled.truth at);
  acceptable = filled.acceptable;
})
