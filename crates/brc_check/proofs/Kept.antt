-- Which ways lead to a point: a point that isn't kept is entered by the success exit of the point before it alone.
use Rattle.std.proofs.Common.{◌≡◌, ℕ, zero, suc, ◌+◌, ◌<◌, ◌≤◌, Bool, true, false, cond, ◌||◌, List, [], ◌∷◌, length}
use Rattle.std.proofs.Common.{Option, refl, sym, ap, ◌∙◌, subst, inl, inr, arith, map}
use Rattle.std.specs.Prelude.{None, Some, ◌⊎◌, ◌==◌, slice_get, filter, nat_lt}
use Rattle.std.specs.List.{list_any, range_with_len, slice_index_or}
use Rattle.std.proofs.lemmas.Bool.{eqb-true, eq-eqb}
use Rattle.std.proofs.lemmas.Option.{none-some, same_Some, slice_get_read}
use Rattle.brc_lang.specs.declared.module.Instr.{Instr}
use Rattle.brc_lang.specs.declared.module.Instr.TheVariants.{Num, List as ListObject, NoneObject, Take, Newref}
use Rattle.brc_lang.specs.declared.module.Instr.TheVariants.{Move, Drop, Lock, Unlock, Borrow, Fetch, Set, Put, As}
use Rattle.brc_lang.specs.declared.module.Instr.TheVariants.{Open, Connect, Read, Write, Call, Goto, Again, Ret, Fail}
use Rattle.brc_lang.specs.declared.check_code.CheckCode.{CheckCode}
use Rattle.brc_lang.specs.declared.check_code.CheckCode.TheVariants.{RunsOff}
use Rattle.brc_model.specs.declared.state.State.{State}
use Rattle.brc_model.specs.declared.state.Exit.{Exit}
use Rattle.brc_model.specs.declared.state.Exit.TheVariants.{Success, Fault}
use Rattle.brc_model.specs.SlotStates.{lowest, after, target}
use Rattle.brc_model.specs.Paths.{PathEnd, At, Ended, Reports, follow, passes, arrives, unless_reported}
use Rattle.brc_check.specs.declared.kept_entry.KeptEntry.{KeptEntry}
use Rattle.brc_check.specs.Lookups.{HasOneExit}
use Rattle.brc_check.specs.Tables.{leads_to, is_kept, kept_points, kept_at, point_of}

-- ---- one instruction

or_right : (b c : Bool) → c ≡ true → (b || c) ≡ true
or_right true c e = refl
or_right false c e = e

or_left : (b c : Bool) → b ≡ true → (b || c) ≡ true
or_left true c e = refl
or_left false c e = absurd cc

same_target : (o next : ℕ) (b : Bool) → Some o ≡ Some next → ((o == next) || b) ≡ true
same_target o next b e = or_left (o == next) b (eq-eqb o next (same_Some o next e))

-- The exit goes on at the point `next`: the `else`, `goto` or `again` of the instruction names it, or the success exit
-- goes on there too and leaves the same state.
abbrev Arrives : Instr → Exit → ℕ → ℕ → State → Type 0
Arrives i exit at next s =
    (leads_to next i ≡ true)
    ⊎ ((next ≡ at + 1) × (target i Success at ≡ Some next) × (after i exit s ≡ after i Success s))

onward : (at next : ℕ) → Some (at + 1) ≡ Some next → next ≡ at + 1
onward at next e = sym (same_Some (at + 1) next e)

instr_arrives : (i : Instr) (exit : Exit) (at next : ℕ) (s : State) → target i exit at ≡ Some next
    → Arrives i exit at next s
instr_arrives (Num to value otherwise) Success at next s e = inr (onward at next e, e, refl)
instr_arrives (Num to value otherwise) Fault at next s e = inl (same_target otherwise next false e)
instr_arrives (ListObject to cells otherwise) Success at next s e = inr (onward at next e, e, refl)
instr_arrives (ListObject to cells otherwise) Fault at next s e = inl (same_target otherwise next false e)
instr_arrives (NoneObject to) exit at next s e = inr (onward at next e, e, refl)
instr_arrives (Take to list) exit at next s e = inr (onward at next e, e, refl)
instr_arrives (Newref to from) exit at next s e = inr (onward at next e, e, refl)
instr_arrives (Move to from) exit at next s e = inr (onward at next e, e, refl)
instr_arrives (Drop from) exit at next s e = inr (onward at next e, e, refl)
instr_arrives (Lock object) exit at next s e = inr (onward at next e, e, refl)
instr_arrives (Unlock object) exit at next s e = inr (onward at next e, e, refl)
instr_arrives (Borrow to list index otherwise) Success at next s e = inr (onward at next e, e, refl)
instr_arrives (Borrow to list index otherwise) Fault at next s e = inl (same_target otherwise next false e)
instr_arrives (Fetch to list index otherwise) Success at next s e = inr (onward at next e, e, refl)
instr_arrives (Fetch to list index otherwise) Fault at next s e = inl (same_target otherwise next false e)
instr_arrives (Set list index from otherwise) Success at next s e = inr (onward at next e, e, refl)
instr_arrives (Set list index from otherwise) Fault at next s e = inl (same_target otherwise next false e)
instr_arrives (Put list index from otherwise) Success at next s e = inr (onward at next e, e, refl)
instr_arrives (Put list index from otherwise) Fault at next s e = inl (same_target otherwise next false e)
instr_arrives (Open to path mode otherwise) Success at next s e = inr (onward at next e, e, refl)
instr_arrives (Open to path mode otherwise) Fault at next s e = inl (same_target otherwise next false e)
instr_arrives (Connect to peer otherwise) Success at next s e = inr (onward at next e, e, refl)
instr_arrives (Connect to peer otherwise) Fault at next s e = inl (same_target otherwise next false e)
instr_arrives (Read to file most otherwise) Success at next s e = inr (onward at next e, e, refl)
instr_arrives (Read to file most otherwise) Fault at next s e = inl (same_target otherwise next false e)
instr_arrives (Write file number otherwise) Success at next s e = inr (onward at next e, e, refl)
instr_arrives (Write file number otherwise) Fault at next s e = inl (same_target otherwise next false e)
instr_arrives (As from kind otherwise) Success at next s e = inr (onward at next e, e, refl)
instr_arrives (As from kind otherwise) Fault at next s e = inl (same_target otherwise next false e)
instr_arrives (Call to callee arguments otherwise) Success at next s e = inr (onward at next e, e, refl)
instr_arrives (Call to callee arguments otherwise) Fault at next s e = inl (same_target otherwise next false e)
instr_arrives (Goto to) exit at next s e = inl (same_target to next false e)
instr_arrives (Again to times) Success at next s e = inr (onward at next e, e, refl)
instr_arrives (Again to times) Fault at next s e = inl (eq-eqb to next (same_Some to next e))
instr_arrives (Ret from) exit at next s e = absurd (none-some next e)
instr_arrives Fail exit at next s e = absurd (none-some next e)

-- ---- one step

abbrev is_at : PathEnd → ℕ → State → Type 0
is_at (At k u) next t = (k ≡ next) × (u ≡ t)
is_at Ended next t = ⊥
is_at (Reports k c) next t = ⊥

is_at-from : (p : PathEnd) (next : ℕ) (t : State) → p ≡ At next t → is_at p next t
is_at-from p next t e = subst (λ (q : PathEnd). is_at q next t) (sym e) (refl, refl)

-- no code is reported, and the instruction has the target
unreported : (at next : ℕ) (t : State) (o : Option CheckCode) (p : PathEnd) → unless_reported at o p ≡ At next t
    → (o ≡ None) × (p ≡ At next t)
unreported at next t None p e = (refl, e)
unreported at next t (Some c) p e = absurd (is_at-from (Reports at c) next t e)

arrived_cond : (code : List Instr) (at next k : ℕ) (s t : State) (b : Bool)
    → cond b (At k s) (Reports at RunsOff) ≡ At next t → (k ≡ next) × (s ≡ t)
arrived_cond code at next k s t true e = is_at-from (At k s) next t e
arrived_cond code at next k s t false e = absurd (is_at-from (Reports at RunsOff) next t e)

arrived : (code : List Instr) (at next : ℕ) (o : Option ℕ) (s t : State) → arrives code at o s ≡ At next t
    → (o ≡ Some next) × (s ≡ t)
arrived code at next None s t e = absurd (is_at-from Ended next t e)
arrived code at next (Some k) s t e =
    let both = arrived_cond code at next k s t (nat_lt k (length code)) e in (ap Some both.0, both.1)

-- the way by which a step reaches a point: the point is kept, or it is the next one, by the success exit
abbrev pub ReachesBy : List Instr → ℕ → State → ℕ → State → Type 0
ReachesBy code at s next t =
    (is_kept code next ≡ true) ⊎ ((next ≡ at + 1) × (follow code (At at s) Success ≡ At next t))

any_of : (code : List Instr) (at next : ℕ) (i : Instr) → slice_get code at ≡ Some i → leads_to next i ≡ true
    → list_any (leads_to next) code ≡ true
any_of [] at next i e h = absurd (none-some i e)
any_of (c ∷ code) zero next i e h =
    or_left (leads_to next c) (list_any (leads_to next) code) (ap (leads_to next) (same_Some c i e) ∙ h)
any_of (c ∷ code) (suc at) next i e h =
    or_right (leads_to next c) (list_any (leads_to next) code) (any_of code at next i e h)

passes_arrives : (code : List Instr) (at next : ℕ) (o : Option Instr) (exit : Exit) (s t : State)
    → slice_get code at ≡ o → passes code at o exit s ≡ At next t
    → (is_kept code next ≡ true) ⊎ ((next ≡ at + 1) × (passes code at o Success s ≡ At next t))
passes_arrives code at next None exit s t here e = absurd (is_at-from (Reports at RunsOff) next t e)
passes_arrives code at next (Some i) exit s t here e =
    let free = unreported at next t (lowest i s) (arrives code at (target i exit at) (after i exit s)) e in
    let there = arrived code at next (target i exit at) (after i exit s) t free.1 in
    elim (instr_arrives i exit at next s there.0) [
      | inl led ↦ inl (or_right (next == 0) (list_any (leads_to next) code) (any_of code at next i here led))
      | inr on ↦ inr (
        on.0,
        ap (λ (o : Option CheckCode). unless_reported at o (arrives code at (target i Success at) (after i Success s)))
            free.0
            ∙ ap (λ (x : Option ℕ). arrives code at x (after i Success s)) (on.1 ∙ sym there.0)
            ∙ ap (arrives code at (target i exit at)) (sym on.2)
            ∙ free.1,
      )
    ]

-- a step that reaches a point that isn't kept is from the point before, and the success exit of that leads there too
pub comes : (code : List Instr) (at next : ℕ) (exit : Exit) (s t : State) → follow code (At at s) exit ≡ At next t
    → ReachesBy code at s next t
comes code at next exit s t e = passes_arrives code at next (slice_get code at) exit s t refl e

passes_one : (code : List Instr) (at : ℕ) (s : State) (i : Instr) → HasOneExit i
    → passes code at (Some i) Fault s ≡ passes code at (Some i) Success s
passes_one code at s i one =
    let both = one at s in
    λ k. unless_reported at (lowest i s) (arrives code at (both.0 k) (both.1 k))

-- where the instruction has one exit, so has the step
pub one_exit : (code : List Instr) (at : ℕ) (i : Instr) (s : State) → at < length code → i ≡ slice_index_or code at i
    → HasOneExit i → follow code (At at s) Fault ≡ follow code (At at s) Success
one_exit code at i s lt is one =
    let here : slice_get code at ≡ Some i = slice_get_read code (length code) at i refl lt is in
    ap (λ (o : Option Instr). passes code at o Fault s) here ∙ passes_one code at s i one
    ∙ ap (λ (o : Option Instr). passes code at o Success s) (sym here)

-- ---- the kept points

in_range : (test : ℕ → Bool) (a n point : ℕ) → a ≤ point → point < a + n → test point ≡ true
    → list_any (λ x. x == point) (filter test (range_with_len a n)) ≡ true
in_range test a zero point from below e = absurd (omega (arith, from, below))
in_range test a (suc n) point from below e =
    elim (a == point) as (λ b. (a == point) ≡ b → list_any (λ x. x == point)
    (cond (test a) (a ∷ filter test (range_with_len (a + 1) n)) (filter test (range_with_len (a + 1) n))) ≡ true) [
      | true ↦ λ same.
          let here : test a ≡ true = ap test (eqb-true a point same) ∙ e in
          ap (λ (b : Bool). list_any (λ x. x == point)
          (cond b (a ∷ filter test (range_with_len (a + 1) n)) (filter test (range_with_len (a + 1) n)))) here
          ∙ or_left (a == point) _ same
      | false ↦ λ other.
          let apart : (a ≡ point) → ⊥ = λ same. absurd (let x = sym other ∙ eq-eqb a point same in cc) in
          let rest = in_range test (a + 1) n point
          (omega (arith, from, apart))
          (omega (arith, below)) e in
          elim (test a) as (λ b. list_any (λ x. x == point)
          (cond b (a ∷ filter test (range_with_len (a + 1) n)) (filter test (range_with_len (a + 1) n))) ≡ true) [
            | true ↦ or_right (a == point) _ rest
            | false ↦ rest
          ]
    ] refl

listed_found : (kept : List KeptEntry) (point : ℕ) → kept_at kept point ≡ None
    → list_any (λ x. x == point) (map point_of kept) ≡ false
listed_found [] point none = refl
listed_found (e ∷ kept) point none =
    elim (e.at == point) as (λ b. cond b (Some e) (kept_at kept point) ≡ None
    → (b || list_any (λ x. x == point) (map point_of kept)) ≡ false) [
      | true ↦ λ h. absurd (none-some e (sym h))
      | false ↦ λ h. listed_found kept point h
    ] none

-- a point without an entry isn't kept
pub not_kept : (code : List Instr) (kept : List KeptEntry) (point : ℕ) → map point_of kept ≡ kept_points code
    → point < length code → kept_at kept point ≡ None → is_kept code point ≡ false
not_kept code kept point shape within none =
    elim (is_kept code point) as (λ b. is_kept code point ≡ b → b ≡ false) [
      | true ↦ λ e.
          let one = in_range (is_kept code) 0 (length code) point (omega arith) (omega (arith, within)) e in
          let other = listed_found kept point none in
          let same = ap (list_any (λ x. x == point)) shape in
          absurd (let z = sym other ∙ same ∙ one in cc)
      | false ↦ λ e. refl
    ] refl

range_within : (test : ℕ → Bool) (a n point : ℕ) → list_any (λ x. x == point) (filter test (range_with_len a n)) ≡ true
    → point < a + n
range_within test a zero point e = absurd (let z : false ≡ true = e in cc)
range_within test a (suc n) point e =
    elim (a == point) as (λ b. (a == point) ≡ b → point < a + suc n) [
      | true ↦ λ same. let is = eqb-true a point same in omega (arith, is)
      | false ↦ λ other.
          let rest : list_any (λ x. x == point) (filter test (range_with_len (a + 1) n)) ≡ true =
          (elim (test a) as (λ b. list_any (λ x. x == point)
          (cond b (a ∷ filter test (range_with_len (a + 1) n)) (filter test (range_with_len (a + 1) n))) ≡ true
          → list_any (λ x. x == point) (filter test (range_with_len (a + 1) n)) ≡ true) [
            | true ↦ λ h.
                ap (λ (b : Bool). b || list_any (λ x. x == point) (filter test (range_with_len (a + 1) n))) (sym other)
                ∙ h
            | false ↦ λ h. h
          ]) e in
          let below = range_within test (a + 1) n point rest in omega (arith, below)
    ] refl

found_listed : (kept : List KeptEntry) (point : ℕ) (e : KeptEntry) → kept_at kept point ≡ Some e
    → list_any (λ x. x == point) (map point_of kept) ≡ true
found_listed [] point e is = absurd (none-some e is)
found_listed (k ∷ kept) point e is =
    elim (k.at == point) as (λ b. cond b (Some k) (kept_at kept point) ≡ Some e
    → (b || list_any (λ x. x == point) (map point_of kept)) ≡ true) [
      | true ↦ λ h. refl
      | false ↦ λ h. found_listed kept point e h
    ] is

-- a point with an entry is a point of the code
pub kept_within : (code : List Instr) (kept : List KeptEntry) (point : ℕ) (e : KeptEntry)
    → map point_of kept ≡ kept_points code → kept_at kept point ≡ Some e → point < length code
kept_within code kept point e shape is =
    let below = range_within (is_kept code) 0 (length code) point
    (ap (list_any (λ x. x == point)) (sym shape) ∙ found_listed kept point e is) in
    omega (arith, below)
