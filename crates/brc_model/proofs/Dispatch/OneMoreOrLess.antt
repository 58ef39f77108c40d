-- What an instruction's thread holds, with one reference more or less.
use Rattle.std.proofs.Common.{◌≡◌, ◌≢◌, ℕ, ◌+◌, ◌<◌, Bool, true, false, List, inl, inr, length, Option, None, Some, refl, sym, ap, ◌∙◌, subst, arith, cond}
use Rattle.std.specs.Prelude.{◌==◌, ◌&&◌, slice_set}
use Rattle.std.proofs.lemmas.Bool.{eq-eqb}
use Rattle.std.proofs.lemmas.Bool.Decides.{eqb_tells}
use Rattle.brc_model.specs.declared.state.Slot.{Slot}
use Rattle.brc_model.specs.declared.state.Slot.TheVariants.{Empty}
use Rattle.brc_model.specs.declared.state.State.{State}
use Rattle.brc_model.specs.SlotStates.{var_of, is_owned, names, put, after}
use Rattle.brc_model.specs.declared.duty.Holding.{Holding}
use Rattle.brc_model.specs.declared.duty.Holding.TheVariants.{ByVariable, AsCaller, InFlight}
use Rattle.brc_model.specs.AbstractState.{Reference, same_holding}
use Rattle.brc_model.specs.Threads.{row_of}
use Rattle.brc_model.specs.References.{held, one_if, reference_of}
use Rattle.brc_model.proofs.Dispatch.Holds.{Activation, of_variables, own_depth, other_depth, by_depth, Holds}
use Rattle.brc_model.proofs.Dispatch.Grounded.{var_of-put_same, var_of-put_other, row_of-set_same, row_of-set_other}
use Rattle.brc_model.proofs.Stepping.Counts.{flip_eqb}

-- ---- one reference more or less

abbrev naming : Slot → Option ℕ → ℕ → ℕ
naming var row object = one_if (is_owned var && names row object)

-- The number, if the reference is held by the call's variable.
abbrev of_this : Activation → ℕ → Holding → ℕ → ℕ
of_this call to k n = cond (same_holding (ByVariable call.depth to) k) n 0

-- At another depth no variable is the call's.
off_depth : (call : Activation) (to depth v n : ℕ) → (depth == call.depth) ≡ false
    → of_this call to (ByVariable depth v) n ≡ 0
off_depth call to depth v n apart =
    ap (λ (b : Bool). cond (b && (to == v)) n 0) (flip_eqb call.depth depth ∙ apart)

-- At its own depth two variables of the call are the same if their numbers are.
on_depth : (call : Activation) (to v n : ℕ) → of_this call to (ByVariable call.depth v) n ≡ cond (to == v) n 0
on_depth call to v n = ap (λ (b : Bool). cond (b && (to == v)) n 0) (eq-eqb call.depth call.depth refl)

-- At another depth a call's variables and states make no difference.
same_outside : (call : Activation) (s after : State) (variables rows : List (Option ℕ)) (depth v object : ℕ)
    → (depth == call.depth) ≡ false
    → of_variables call s variables (ByVariable depth v) object ≡ of_variables call after rows (ByVariable depth v)
    object
same_outside call s after variables rows depth v object apart =
    other_depth call s variables depth v object apart ∙ sym (other_depth call after rows depth v object apart)

-- What the thread is to hold changes by what the variable owned before and owns now.
changed_says : (call : Activation) (s : State) (variables : List (Option ℕ)) (to : ℕ) (var : Slot)
    (row : Option ℕ) → to < length s.slots → (k : Holding) (object : ℕ)
    → one_if (of_variables call s variables k object)
    + of_this call to k (naming var (row_of (slice_set variables to row) to) object)
    ≡ one_if (of_variables call (put s to var) (slice_set variables to row) k object)
    + of_this call to k (naming (var_of s to) (row_of variables to) object)
changed_says call s variables to var row in_slots AsCaller object = omega arith
changed_says call s variables to var row in_slots InFlight object = omega arith
changed_says call s variables to var row in_slots (ByVariable depth v) object =
    let after = put s to var in
    let rows = slice_set variables to row in
    let gained = naming var (row_of rows to) object in
    let lost = naming (var_of s to) (row_of variables to) object in
    by_depth call
    (λ k. one_if (of_variables call s variables k object) + of_this call to k gained
    ≡ one_if (of_variables call after rows k object) + of_this call to k lost)
    (λ w.
    let now : one_if (of_variables call s variables (ByVariable call.depth w) object)
    ≡ naming (var_of s w) (row_of variables w) object =
    ap one_if (own_depth call s variables w object) in
    let now_left : one_if (of_variables call after rows (ByVariable call.depth w) object)
    ≡ naming (var_of after w) (row_of rows w) object =
    ap one_if (own_depth call after rows w object) in
    elim (eqb_tells to w) [
      | inl this ↦
          let more = on_depth call to w gained ∙ ap (λ (b : Bool). cond b gained 0) this.0 in
          let less = on_depth call to w lost ∙ ap (λ (b : Bool). cond b lost 0) this.0 in
          let before : naming (var_of s w) (row_of variables w) object ≡ lost =
          subst (λ (x : ℕ). naming (var_of s x) (row_of variables x) object ≡ lost) this.1 refl in
          let said : naming (var_of after w) (row_of rows w) object ≡ gained =
          subst (λ (x : ℕ). naming (var_of after x) (row_of rows x) object ≡ gained) this.1
          (ap (λ (x : Slot). naming x (row_of rows to) object) (var_of-put_same s to var in_slots)) in
          omega (arith, now, now_left, more, less, before, said)
      | inr other ↦
          let more = on_depth call to w gained ∙ ap (λ (b : Bool). cond b gained 0) other.0 in
          let less = on_depth call to w lost ∙ ap (λ (b : Bool). cond b lost 0) other.0 in
          let apart : w ≢ to = λ e. other.1 (sym e) in
          let said : naming (var_of after w) (row_of rows w) object
          ≡ naming (var_of s w) (row_of variables w) object =
          ap (λ (x : Slot). naming x (row_of rows w) object) (var_of-put_other s to w var apart)
          ∙ ap (λ (x : Option ℕ). naming (var_of s w) x object) (row_of-set_other variables to w row apart) in
          omega (arith, now, now_left, more, less, said)
    ])
    (λ d w apart.
    omega (
      arith,
      off_depth call to d w gained apart,
      off_depth call to d w lost apart,
      ap one_if (same_outside call s after variables rows d w object apart),
    ))
    depth v

this_one : (b c : Bool) → cond b (one_if c) 0 ≡ one_if (b && c)
this_one true c = refl
this_one false c = refl

this_none : (b : Bool) (n : ℕ) → n ≡ 0 → cond b n 0 ≡ 0
this_none true n none = none
this_none false n none = refl

-- A variable that owns nothing names nothing.
names_none : (var : Slot) (row : Option ℕ) (object : ℕ) → is_owned var ≡ false → naming var row object ≡ 0
names_none var row object free = ap (λ (b : Bool). one_if (b && names row object)) free

-- A variable that owns an object names it.
names_one : (var : Slot) (o : Option ℕ) (row object : ℕ) → is_owned var ≡ true → o ≡ Some row
    → naming var o object ≡ one_if (row == object)
names_one var o row object owned is =
    ap (λ (b : Bool). one_if (b && names o object)) owned ∙ ap (λ (x : Option ℕ). one_if (names x object)) is
    ∙ ap one_if (flip_eqb object row)

-- A variable that owns nothing owns nothing once another one is empty.
pub still_free : (s : State) (from to : ℕ) → from < length s.slots → is_owned (var_of s to) ≡ false
    → is_owned (var_of (put s from Empty) to) ≡ false
still_free s from to in_slots free =
    elim (eqb_tells to from) [
      | inl this ↦
          ap (λ (x : ℕ). is_owned (var_of (put s from Empty) x)) this.1
          ∙ ap is_owned (var_of-put_same s from Empty in_slots)
      | inr other ↦ ap is_owned (var_of-put_other s from to Empty other.1) ∙ free
    ]

-- Naming an object by an owning variable adds one reference to what the thread is to hold.
pub newref_says : (call : Activation) (s : State) (variables : List (Option ℕ)) (to row : ℕ) (var : Slot)
    → to < length s.slots → to < length variables → is_owned (var_of s to) ≡ false
    → is_owned var ≡ true → (k : Holding) (object : ℕ)
    → one_if (of_variables call s variables k object)
    + one_if (same_holding (ByVariable call.depth to) k && (row == object))
    ≡ one_if (of_variables call (put s to var) (slice_set variables to (Some row)) k object)
newref_says call s variables to row var in_slots in_rows free owned k object =
    let rows = slice_set variables to (Some row) in
    omega (
      arith,
      changed_says call s variables to var (Some row) in_slots k object,
      ap (of_this call to k) (names_one var (row_of rows to) row object owned
          (row_of-set_same variables to (Some row) in_rows)),
      this_one (same_holding (ByVariable call.depth to) k) (row == object),
      this_none (same_holding (ByVariable call.depth to) k) _
          (names_none (var_of s to) (row_of variables to) object free),
    )

-- The bag doesn't have it yet.
pub newref_held : (bag : List Reference) (t : ℕ) (call : Activation) (s : State) (variables : List (Option ℕ))
    (to row : ℕ) (var : Slot)
    → to < length s.slots → to < length variables → is_owned (var_of s to) ≡ false
    → is_owned var ≡ true → Holds bag t (of_variables call s variables)
    → (k : Holding) (object : ℕ)
    → held (reference_of t k object) bag + one_if (same_holding (ByVariable call.depth to) k && (row == object))
    ≡ one_if (of_variables call (put s to var) (slice_set variables to (Some row)) k object) + 0
newref_held bag t call s variables to row var in_slots in_rows free owned holds k object =
    omega (
      arith,
      holds.each k object,
      newref_says call s variables to row var in_slots in_rows free owned k object,
    )

-- Emptying an owning variable takes one reference from what the thread is to hold.
pub emptied_says : (call : Activation) (s : State) (variables : List (Option ℕ)) (from row : ℕ)
    → from < length s.slots → is_owned (var_of s from) ≡ true → row_of variables from ≡ Some row
    → (k : Holding) (object : ℕ)
    → one_if (of_variables call s variables k object)
    ≡ one_if (of_variables call (put s from Empty) (slice_set variables from None) k object)
    + one_if (same_holding (ByVariable call.depth from) k && (row == object))
emptied_says call s variables from row in_slots owned is k object =
    omega (
      arith,
      changed_says call s variables from Empty None in_slots k object,
      this_none (same_holding (ByVariable call.depth from) k) 0 refl,
      ap (of_this call from k) (names_one (var_of s from) (row_of variables from) row object owned is),
      this_one (same_holding (ByVariable call.depth from) k) (row == object),
    )

-- The bag still has it.
pub emptied_held : (bag : List Reference) (t : ℕ) (call : Activation) (s : State) (variables : List (Option ℕ))
    (from row : ℕ)
    → from < length s.slots → is_owned (var_of s from) ≡ true → row_of variables from ≡ Some row
    → Holds bag t (of_variables call s variables)
    → (k : Holding) (object : ℕ)
    → held (reference_of t k object) bag + 0
    ≡ one_if (of_variables call (put s from Empty) (slice_set variables from None) k object)
    + one_if (same_holding (ByVariable call.depth from) k && (row == object))
emptied_held bag t call s variables from row in_slots owned is holds k object =
    omega (arith, holds.each k object, emptied_says call s variables from row in_slots owned is k object)

-- If a variable owns nothing, and from now on names an object that it doesn't own, or none, then what the thread is to
-- hold doesn't change.
pub unowned_says : (call : Activation) (s : State) (variables : List (Option ℕ)) (to : ℕ) (var : Slot)
    (row : Option ℕ) → to < length s.slots → is_owned (var_of s to) ≡ false → is_owned var ≡ false
    → (k : Holding) (object : ℕ)
    → one_if (of_variables call s variables k object)
    ≡ one_if (of_variables call (put s to var) (slice_set variables to row) k object)
unowned_says call s variables to var row in_slots free none k object =
    let rows = slice_set variables to row in
    omega (
      arith,
      changed_says call s variables to var row in_slots k object,
      this_none (same_holding (ByVariable call.depth to) k) _ (names_none var (row_of rows to) object none),
      this_none (same_holding (ByVariable call.depth to) k) _
          (names_none (var_of s to) (row_of variables to) object free),
    )

pub unowned_held : (bag : List Reference) (t : ℕ) (call : Activation) (s : State) (variables : List (Option ℕ))
    (to : ℕ) (var : Slot) (row : Option ℕ)
    → to < length s.slots → is_owned (var_of s to) ≡ false → is_owned var ≡ false
    → Holds bag t (of_variables call s variables)
    → (k : Holding) (object : ℕ)
    → held (reference_of t k object) bag
    ≡ one_if (of_variables call (put s to var) (slice_set variables to row) k object)
unowned_held bag t call s variables to var row in_slots free none holds k object =
    holds.each k object ∙ unowned_says call s variables to var row in_slots free none k object

-- So it is if the variable becomes empty.
pub cleared_held : (bag : List Reference) (t : ℕ) (call : Activation) (s : State) (variables : List (Option ℕ))
    (to : ℕ)
    → to < length s.slots → is_owned (var_of s to) ≡ false → Holds bag t (of_variables call s variables)
    → (k : Holding) (object : ℕ)
    → held (reference_of t k object) bag
    ≡ one_if (of_variables call (put s to Empty) (slice_set variables to None) k object)
cleared_held bag t call s variables to in_slots free holds =
    unowned_held bag t call s variables to Empty None in_slots free refl holds
