-- Each acceptable module has true states: the state of a point is that in which a short path reaches it. A path is
-- short if it takes fewer exits than the function has instructions, and a point that some path reaches is reached by
-- a short one.
use Rattle.std.proofs.Common.{◌≡◌, ℕ, zero, suc, ◌<◌, ◌≤◌, Bool, true, false, eqb, List, [], ◌∷◌, ◌++◌, length}
use Rattle.std.proofs.Common.{Option, fold, refl, sym, ap, ◌∙◌, subst, inl, inr, ◌⊎◌, ◌↔◌, ◌||◌, arith, cond}
use Rattle.std.specs.Prelude.{None, Some, slice_get}
use Rattle.std.specs.List.{AllByRecursion, IsDistinct, list_any}
use Rattle.std.proofs.lemmas.Bool.{cases_lt, eqb-true, eq-eqb}
use Rattle.std.proofs.lemmas.List.{length-append}
use Rattle.std.proofs.lemmas.List.Sums.{fold-append}
use Rattle.std.proofs.lemmas.Map.Steps.{length-le_from_distinct_below}
use Rattle.std.proofs.lemmas.Option.{same_Some, slice_get_past}
use Rattle.brc_lang.specs.declared.module.Function.{Function}
use Rattle.brc_lang.specs.declared.module.Instr.{Instr}
use Rattle.brc_lang.specs.declared.module.Module.{Module}
use Rattle.brc_lang.specs.declared.check_code.CheckCode.TheVariants.{RunsOff}
use Rattle.brc_model.specs.declared.state.State.{State}
use Rattle.brc_model.specs.declared.state.Exit.{Exit}
use Rattle.brc_model.specs.declared.state.Exit.TheVariants.{Success, Fault}
use Rattle.brc_model.specs.SlotStates.{entry_of}
use Rattle.brc_model.specs.Paths.{PathEnd, At, Ended, Reports, passes, follow, path_end}
use Rattle.brc_model.specs.Paths.{IsAcceptableFunction, IsAcceptable}
use Rattle.brc_model.specs.Tables.{Reaches, IsTrueEntry, AreTrueStates, AreTrueWhereReached}
use Rattle.brc_model.proofs.Basics.Lists.{all_of_found, either_true, first_false, second_false}

path_end_more : (f : Function) (exits : List Exit) (e : Exit)
    → path_end f (exits ++ e ∷ []) ≡ follow f.code (path_end f exits) e
path_end_more f exits e = fold-append (follow f.code) (At 0 (entry_of f.parameters)) exits (e ∷ [])

-- ---- the state in which a path of bounded length reaches the point

-- the state of a path that ends at the point
abbrev state_here : ℕ → PathEnd → Option State
state_here at (At here s) = cond (eqb here at) (Some s) None
state_here at Ended = None
state_here at (Reports here code) = None

abbrev or_other : Option State → Option State → Option State
or_other None other = other
or_other (Some s) other = Some s

-- the state at the point of a path that goes on from here by at most this many exits, if one comes there
abbrev state_within : List Instr → ℕ → ℕ → PathEnd → Option State
state_within code at zero p = state_here at p
state_within code at (suc more) p =
    or_other (state_here at p)
    (or_other (state_within code at more (follow code p Success)) (state_within code at more (follow code p Fault)))

-- ---- it is that of a path

here_if : (at here : ℕ) (t s : State) (b : Bool) → eqb here at ≡ b → cond b (Some t) None ≡ Some s
    → At here t ≡ At at s
here_if at here t s true same is =
    ap (λ (n : ℕ). At n t) (eqb-true here at same) ∙ ap (At at) (same_Some t s is)
here_if at here t s false other is = absurd cc

here_at : (at : ℕ) (p : PathEnd) (s : State) → state_here at p ≡ Some s → p ≡ At at s
here_at at (At here t) s is = here_if at here t s (eqb here at) refl is
here_at at Ended s is = absurd cc
here_at at (Reports here code) s is = absurd cc

or_cases : (one other : Option State) (s : State) → or_other one other ≡ Some s → (one ≡ Some s) ⊎ (other ≡ Some s)
or_cases None other s is = inr is
or_cases (Some t) other s is = inl is

found_reaches : (f : Function) (at more : ℕ) (exits : List Exit) (p : PathEnd) (s : State) → path_end f exits ≡ p
    → state_within f.code at more p ≡ Some s → Reaches f at s
found_reaches f at zero exits p s ends is = record { exits = exits; reaches = ends ∙ here_at at p s is }
found_reaches f at (suc more) exits p s ends is =
    let goes_on : (e : Exit) → state_within f.code at more (follow f.code p e) ≡ Some s → Reaches f at s =
    λ e later. found_reaches f at more (exits ++ e ∷ []) (follow f.code p e) s
    (path_end_more f exits e ∙ ap (λ (q : PathEnd). follow f.code q e) ends) later in
    elim (or_cases (state_here at p) _ s is) [
      | inl here ↦ record { exits = exits; reaches = ends ∙ here_at at p s here }
      | inr later ↦ elim (or_cases (state_within f.code at more (follow f.code p Success)) _ s later) [
        | inl first ↦ goes_on Success first
        | inr second ↦ goes_on Fault second
      ]
    ]

-- ---- and it is found

-- there is a state
abbrev IsThere : Option State → Type 0
IsThere o = (s : State) × (o ≡ Some s)

there_first : (one other : Option State) → IsThere one → IsThere (or_other one other)
there_first None other (s, is) = absurd cc
there_first (Some t) other (s, is) = (t, refl)

there_second : (one other : Option State) → IsThere other → IsThere (or_other one other)
there_second None other there = there
there_second (Some t) other there = (t, refl)

there_here : (code : List Instr) (at more : ℕ) (s : State) → IsThere (state_within code at more (At at s))
there_here code at zero s = (s, ap (λ (b : Bool). cond b (Some s) None) (eq-eqb at at refl))
there_here code at (suc more) s =
    there_first (state_here at (At at s)) _ (s, ap (λ (b : Bool). cond b (Some s) None) (eq-eqb at at refl))

is_found : (code : List Instr) (at : ℕ) (exits : List Exit) (more : ℕ) (p : PathEnd) (s : State)
    → length exits ≤ more → fold (follow code) p exits ≡ At at s → IsThere (state_within code at more p)
is_found code at [] more p s few ends =
    subst (λ (q : PathEnd). IsThere (state_within code at more q)) (sym ends) (there_here code at more s)
is_found code at (e ∷ es) zero p s few ends = absurd (omega (arith, few))
is_found code at (Success ∷ es) (suc more) p s few ends =
    there_second (state_here at p) _
    (there_first (state_within code at more (follow code p Success)) _
    (is_found code at es more (follow code p Success) s (omega (arith, few)) ends))
is_found code at (Fault ∷ es) (suc more) p s few ends =
    there_second (state_here at p) _
    (there_second (state_within code at more (follow code p Success)) _
    (is_found code at es more (follow code p Fault) s (omega (arith, few)) ends))

-- ---- a short path

-- a path of fewer exits than this reaches the point
record IsNear (f : Function) (at most : ℕ) : Type 0 where
  state : State
  exits : List Exit
  short : length exits < most
  reaches : path_end f exits ≡ At at state

-- each of the points is reached by a path of at most as many exits as points come after it in the list
abbrev AreNear : Function → List ℕ → Type 0
AreNear f [] = Unit {0}
AreNear f (at ∷ points) = IsNear f at (suc (length points)) × AreNear f points

farther : (f : Function) (at less most : ℕ) → less ≤ most → IsNear f at less → IsNear f at most
farther f at less most le near =
    let short = near.short in
    record { state = near.state; exits = near.exits; short = omega (arith, short, le); reaches = near.reaches }

near_of : (f : Function) (points : List ℕ) (at : ℕ) → AreNear f points → list_any (eqb at) points ≡ true
    → IsNear f at (length points)
near_of f [] at near among = absurd cc
near_of f (point ∷ points) at near among =
    elim (either_true (eqb at point) (list_any (eqb at) points) among) [
      | inl same ↦
          subst (λ (n : ℕ). IsNear f n (suc (length points))) (sym (eqb-true at point same)) near.0
      | inr later ↦ farther f at (length points) (suc (length points)) (omega arith) (near_of f points at near.1 later)
    ]

either_way : (b : Bool) → (b ≡ true) ⊎ (b ≡ false)
either_way true = inl refl
either_way false = inr refl

apart_from : (at : ℕ) (points : List ℕ) → list_any (eqb at) points ≡ false
    → AllByRecursion (λ (other : ℕ). eqb at other ≡ false) points
apart_from at [] none = tt
apart_from at (point ∷ points) none =
    (first_false (eqb at point) _ none, apart_from at points (second_false (eqb at point) _ none))

-- the end of the path is at one of the points, if it is at a point
abbrev EndsAmong : List ℕ → PathEnd → Type 0
EndsAmong points (At at s) = list_any (eqb at) points ≡ true
EndsAmong points Ended = Unit {0}
EndsAmong points (Reports at code) = Unit {0}

-- points with short paths, all different, among which is the point at which the path ends
record Covers (f : Function) (p : PathEnd) (points : List ℕ) : Type 0 where
  distinct : IsDistinct eqb points
  near : AreNear f points
  among : EndsAmong points p

abbrev IsCovered : Function → PathEnd → Type 0
IsCovered f p = (points : List ℕ) × Covers f p points

module _ (f : Function) (accepted : IsAcceptableFunction f) where
  -- A path that runs past the last instruction would report this.
  reached_within : (at : ℕ) (s : State) (exits : List Exit) → path_end f exits ≡ At at s → at < length f.code
  reached_within at s exits here =
      elim (cases_lt at (length f.code)) [
        | inl lt ↦ lt
        | inr past ↦
            absurd (accepted.reports_none at RunsOff (record {
              exits = exits ++ Success ∷ [];
              reports =
                  path_end_more f exits Success ∙ ap (λ (q : PathEnd). follow f.code q Success) here
                  ∙ ap (λ (o : Option Instr). passes f.code at o Success s) (slice_get_past f.code at past);
            }))
      ]

  few_points : (points : List ℕ) → IsDistinct eqb points → AreNear f points → length points ≤ length f.code
  few_points points distinct near =
      length-le_from_distinct_below points (length f.code) distinct
      (λ at among.
      let found = near_of f points at near among in
      reached_within at found.state found.exits found.reaches)

  -- One exit more: the next point is there, or it comes to the others with the path to the point before it.
  covered_to : (at : ℕ) (s : State) (e : Exit) (p : PathEnd) (points : List ℕ) (exits : List Exit)
      → path_end f exits ≡ At at s → Covers f (At at s) points → follow f.code (At at s) e ≡ p → IsCovered f p
  unfolding IsDistinct
  covered_to at s e (At next t) points exits here old leads =
      elim (either_way (list_any (eqb next) points)) [
        | inl there ↦ (points, record { distinct = old.distinct; near = old.near; among = there })
        | inr new ↦
            let before = near_of f points at old.near old.among in
            let agree : before.state ≡ s =
            accepted.states_agree before.exits exits at before.state s before.reaches here in
            let short = before.short in
            let longer = length-append before.exits (e ∷ []) in (
              next ∷ points,
              record {
                distinct = (apart_from next points new, old.distinct);
                near = (
                  record {
                    state = t;
                    exits = before.exits ++ e ∷ [];
                    short = omega (arith, short, longer);
                    reaches =
                        path_end_more f before.exits e
                        ∙ ap (λ (q : PathEnd). follow f.code q e) (before.reaches ∙ ap (At at) agree) ∙ leads;
                  },
                  old.near,
                );
                among = ap (λ (b : Bool). b || list_any (eqb next) points) (eq-eqb next next refl);
              },
            )
      ]
  covered_to at s e Ended points exits here old leads =
      (points, record { distinct = old.distinct; near = old.near; among = tt })
  covered_to at s e (Reports point code) points exits here old leads =
      (points, record { distinct = old.distinct; near = old.near; among = tt })

  covered_after : (e : Exit) (p : PathEnd) (points : List ℕ) (exits : List Exit) → path_end f exits ≡ p
      → Covers f p points → IsCovered f (follow f.code p e)
  covered_after e (At at s) points exits here old =
      covered_to at s e (follow f.code (At at s) e) points exits here old refl
  covered_after e Ended points exits here old = (points, old)
  covered_after e (Reports at code) points exits here old = (points, old)

  -- The path goes on by these exits, to a point that a short path reaches.
  near_after : (exits before : List Exit) (p : PathEnd) (at : ℕ) (s : State) → path_end f before ≡ p
      → IsCovered f p → fold (follow f.code) p exits ≡ At at s → IsNear f at (length f.code)
  near_after [] before p at s here (points, old) ends =
      farther f at (length points) (length f.code) (few_points points old.distinct old.near)
      (near_of f points at old.near (subst (EndsAmong points) ends old.among))
  near_after (e ∷ es) before p at s here (points, old) ends =
      near_after es (before ++ e ∷ []) (follow f.code p e) at s
      (path_end_more f before e ∙ ap (λ (q : PathEnd). follow f.code q e) here)
      (covered_after e p points before here old) ends

  is_near : (at : ℕ) (s : State) → Reaches f at s → IsNear f at (length f.code)
  unfolding IsDistinct
  is_near at s reached =
      near_after reached.exits [] (At 0 (entry_of f.parameters)) at s refl (
        0 ∷ [],
        record {
          distinct = (tt, tt);
          near = (record { state = entry_of f.parameters; exits = []; short = omega arith; reaches = refl }, tt);
          among = refl;
        },
      )
      reached.reaches

  -- ---- true states

  -- the state of the point
  abbrev state_at : ℕ → Option State
  state_at at = state_within f.code at (length f.code) (At 0 (entry_of f.parameters))

  true_entry : (at : ℕ) → IsTrueEntry f at (state_at at)
  true_entry at s = (
    λ is. found_reaches f at (length f.code) [] (At 0 (entry_of f.parameters)) s refl is,
    λ reached.
        let near = is_near at s reached in
        let short = near.short in
        let found =
        is_found f.code at near.exits (length f.code) (At 0 (entry_of f.parameters)) near.state (omega (arith, short))
        near.reaches in
        let other = found_reaches f at (length f.code) [] (At 0 (entry_of f.parameters)) found.0 refl found.1 in
        found.1
        ∙ ap Some (accepted.states_agree other.exits reached.exits at found.0 s other.reaches reached.reaches),
  )

abbrev states_in : Option Function → ℕ → Option State
states_in None at = None
states_in (Some f) at = state_within f.code at (length f.code) (At 0 (entry_of f.parameters))

-- Each acceptable module has true states.
pub true_states : (m : Module) → IsAcceptable m → (states : ℕ → ℕ → Option State) × AreTrueStates m states
true_states m accepted = (
  λ number at. states_in (slice_get m.functions number) at,
  λ number at f is s.
      subst (λ (o : Option Function). (states_in o at ≡ Some s) ↔ Reaches f at s) (sym is)
      (true_entry f (all_of_found IsAcceptableFunction m.functions number f accepted is) at s),
)

-- True states are those of the points that paths reach.
pub true_where_reached : (m : Module) (states : ℕ → ℕ → Option State) → AreTrueStates m states
    → AreTrueWhereReached m states
true_where_reached m states true_ones number at f s is reached = (true_ones number at f is s).1 reached
