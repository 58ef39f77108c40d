-- A call hands on to a function what its variables own: how variables and hand fit as the function begins, and as the
-- call that waits goes on.
use Rattle.std.proofs.Common.{◌≡◌, ◌≢◌, ℕ, ◌+◌, ◌*◌, ◌<◌, ◌≤◌, Bool, true, false, cond, List, [], ◌∷◌, length, map, Option, None, Some, inl, inr, refl, sym, ap, ◌∙◌, subst, arith}
use Rattle.std.specs.Prelude.{◌&&◌, fold, is_some, slice_set}
use Rattle.std.specs.List.{AllByRecursion, list_all}
use Rattle.std.proofs.lemmas.Bool.{eq-eqb}
use Rattle.std.proofs.lemmas.Bool.Decides.{eqb_tells}
use Rattle.std.proofs.lemmas.List.{length-set}
use Rattle.brc_lang.specs.declared.kind.Kind.{Kind}
use Rattle.brc_lang.specs.declared.kind.Kind.TheVariants as kinds
use Rattle.brc_lang.specs.declared.module.Function.{Function}
use Rattle.brc_lang.specs.declared.parameter.Argument.{Argument}
use Rattle.brc_lang.specs.declared.parameter.Parameter.{Parameter}
use Rattle.brc_lang.specs.declared.parameter.Passing.{Passing}
use Rattle.brc_lang.specs.declared.parameter.Passing.TheVariants.{Borrow, Steal}
use Rattle.brc_model.specs.Actions.{without_row, kept_rows, argument_rows, passed_variables}
use Rattle.brc_model.specs.Layout.{root_row, IsCounted}
use Rattle.brc_model.specs.Threads.{row_of}
use Rattle.brc_model.specs.SlotStates.{var_of, is_empty, is_owned, put, emptied, steals, is_stolen, stolen, without_stolen, passed_var, parameter_var, entry_of}
use Rattle.brc_model.specs.declared.state.State.{State}
use Rattle.brc_model.specs.declared.state.Slot.{Slot}
use Rattle.brc_model.specs.declared.state.Slot.TheVariants.{Empty, Owned, Caller, Locked}
use Rattle.brc_model.proofs.Basics.Lists.{none_some}
use Rattle.brc_model.proofs.Dispatch.Apart.{given_apart, IsKeptBy, borrowed_kept, kept_var, kept_row, still_unowned}
use Rattle.brc_model.proofs.Dispatch.Calls.{ArgumentsLow, stolen_low, AreSixteen, put_sixteen, emptied_keeps, put_twice, ArgumentMet, CallMet, passed_each, entry_length, passed_length}
use Rattle.brc_model.proofs.Dispatch.Grounded.{var_of-put_same, var_of-put_other, row_of-set_same, row_of-set_other}
use Rattle.brc_table.specs.Hands.{HandState, most_references}
use Rattle.brc_table.specs.declared.view.View.{View}
use Rattle.brc_work.specs.Acts.{KnowsMore}
use Rattle.brc_work.specs.Calls.{Begins, HasReturned, Returns, call_room}
use Rattle.brc_work.specs.Fits.{Base, KnowsKind, Unknown, OfRoot, SlotFits, owns, lists, over_variables, LocksAs, Fits}
use Rattle.brc_work.proofs.Holding.{named, knows_slot, lent_outer}
use Rattle.brc_work.proofs.Locking.{no_lock, slot_unlocked}
use Rattle.brc_work.proofs.Owning.{sum_set, sum_at, sum_lists}
use Rattle.brc_work.proofs.StolenSums.{Counts, owns_counts, lists_counts, put_sum, emptied_sum, entry_sum}

-- ---- a call

-- Variables and hand fit the state, and the call's conditions are met.
pub record IsCalling (base : Base) (s : State) (rows : List (Option ℕ)) (hand : HandState) (to : ℕ)
    (arguments : List Argument) : Type 0 where
  pub fits : Fits base s rows hand
  pub met : CallMet s to arguments
  pub low : ArgumentsLow arguments
  pub to_low : to < 16
  pub few : length arguments ≤ 4

-- the state of a call that waits, as the fault exit leaves it
abbrev pub waiting : State → ℕ → List Argument → State
waiting s to arguments = put (without_stolen s arguments) to Empty

-- what a call stands on that another one makes: the other one's variables own the rest
abbrev pub inner_base : Base → State → List (Option ℕ) → Base
inner_base base s rows = record {
  first = base.first;
  held = λ y. base.held y + over_variables (owns y) s.slots rows;
  most = base.most + over_variables (lists base.first.view.layout) s.slots rows;
}

module _ (base : Base) (s : State) (rows : List (Option ℕ)) (hand : HandState) (to : ℕ) (arguments : List Argument)
    (is : IsCalling base s rows hand to arguments) where
  abbrev left : State
  left = waiting s to arguments

  abbrev kept : List (Option ℕ)
  kept = kept_rows rows arguments to

  abbrev inner : Base
  inner = inner_base base left kept

  abbrev parameters : List Parameter
  parameters = map (λ a. a.parameter) arguments

  sixteen : AreSixteen s rows
  sixteen = record { slots = is.fits.some_slots; named = is.fits.some_rows }

  stole : AreSixteen (without_stolen s arguments) (fold without_row rows (stolen arguments))
  stole =
      (emptied_keeps (λ t rs. Unit {0}) (λ t rs x all low holds. tt) s rows (stolen arguments)
      (stolen_low arguments is.low) sixteen tt).0

  left_sixteen : AreSixteen left kept
  left_sixteen = put_sixteen (without_stolen s arguments) (fold without_row rows (stolen arguments)) to stole

  unowned : is_owned (var_of (without_stolen s arguments) to) ≡ false
  unowned =
      still_unowned s (stolen arguments) to (stolen_low arguments is.low) is.fits.some_slots is.met.free

  -- What the variables own is what they keep, and what the callee's own.
  shared_sum : (f : Slot → Option ℕ → ℕ) → Counts f
      → over_variables f left.slots kept
      + over_variables f (entry_of parameters).slots (passed_variables rows arguments) ≡ over_variables f s.slots rows
  shared_sum f counts =
      let stole_sum = emptied_sum f counts s rows arguments sixteen is.low (given_apart arguments is.met.once) in
      let own = entry_sum f counts s rows arguments (omega (arith, is.few)) is.met.each in
      let put_to =
      put_sum f counts (without_stolen s arguments) (fold without_row rows (stolen arguments)) to stole is.to_low in
      let none =
      counts.bare (var_of (without_stolen s arguments) to) (row_of (fold without_row rows
      (stolen arguments)) to) unowned in
      omega (arith, stole_sum, own, put_to, none)

  -- ---- what is lent

  -- A variable that the call borrows from keeps what it owned.
  lends_owned : (a : Argument) (x : ℕ) → IsKeptBy arguments a.from → a.from < 16 → is_owned (var_of s a.from) ≡ true
      → row_of rows a.from ≡ Some x → 1 ≤ over_variables (owns x) left.slots kept
  lends_owned a x kept_by low owned names =
      let ne : a.from ≢ to = λ e.
      (let wrong : true ≡ false = sym owned ∙ (ap (λ (i : ℕ). is_owned (var_of s i)) e ∙ is.met.free) in absurd cc) in
      let var : var_of left a.from ≡ var_of s a.from =
      var_of-put_other (without_stolen s arguments) to a.from Empty ne ∙ kept_var s (stolen arguments) a.from kept_by in
      let row : row_of kept a.from ≡ Some x =
      row_of-set_other (fold without_row rows (stolen arguments)) to a.from None ne
      ∙ (kept_row rows (stolen arguments) a.from kept_by ∙ names) in
      let all =
      sum_at (owns x) a.from left.slots kept (omega (arith, low, left_sixteen.slots))
      (omega (arith, low, left_sixteen.named)) in
      let one : owns x (var_of left a.from) (row_of kept a.from) ≡ 1 =
      ap (λ (w : Slot). owns x w (row_of kept a.from)) var
      ∙ (ap (owns x (var_of s a.from)) row ∙ owns_itself x (var_of s a.from) owned) in
      omega (arith, all, one)
    where
      owns_itself : (x : ℕ) (slot : Slot) → is_owned slot ≡ true → owns x slot (Some x) ≡ 1
      owns_itself x (Owned k) owned = ap (λ (b : Bool). cond b 1 0) (eq-eqb x x refl)
      owns_itself x Empty owned = let wrong : false ≡ true = owned in absurd cc
      owns_itself x (Caller k) owned = let wrong : false ≡ true = owned in absurd cc
      owns_itself x (Locked k) owned = let wrong : false ≡ true = owned in absurd cc

  -- What an argument lends is held outside the callee.
  lends : (a : Argument) (x : ℕ) (slot : Slot) → var_of s a.from ≡ slot → is_empty slot ≡ false
      → IsKeptBy arguments a.from → a.from < 16 → row_of rows a.from ≡ Some x → IsCounted hand.view.layout x
      → 1 ≤ inner.held x
  lends a x Empty same used kept_by low names counted = let wrong : true ≡ false = used in absurd cc
  lends a x (Owned k) same used kept_by low names counted =
      let more = lends_owned a x kept_by low (ap is_owned same) names in omega (arith, more)
  lends a x (Caller k) same used kept_by low names counted =
      let more = lent_outer base s rows hand is.fits a.from x k same names counted in omega (arith, more)
  lends a x (Locked k) same used kept_by low names counted =
      let item : SlotFits base.held hand.view (Locked k) (row_of rows a.from) =
      subst (λ (w : Slot). SlotFits base.held hand.view w (row_of rows a.from)) same (is.fits.each a.from) in
      absurd (none_some item.borrows.list (sym (no_lock base s rows hand is.fits is.met.unlocked).0
      ∙ item.borrows.locked))

  -- The parameter's variable names the argument's object.
  passed_fits : (p : Passing) (kind : Kind) (x : ℕ) (row : Option ℕ) → row ≡ Some x → KnowsKind hand.view kind x
      → (steals p ≡ false → IsCounted hand.view.layout x → 1 ≤ inner.held x)
      → SlotFits inner.held hand.view (passed_var p kind) row
  passed_fits Borrow kind x row names knows lent =
      record { names = record { object = x; is = names; knows = knows }; lent = lent refl }
  passed_fits Steal kind x row names knows lent = record { object = x; is = names; knows = knows }

  argument_knows : (a : Argument) (x : ℕ) → ArgumentMet s a → row_of rows a.from ≡ Some x
      → KnowsKind hand.view a.parameter.kind x
  argument_knows a x met names = elim met.kind [
    | inl any ↦ Unknown any
    | inr same ↦
        subst (λ (k : Kind). KnowsKind hand.view k x) same
        (knows_slot base.held hand.view (var_of s a.from) (row_of rows a.from) x met.some (is.fits.each a.from) names)
  ]

  arguments_fit : (xs : List Argument) → AllByRecursion (ArgumentMet s) xs → ArgumentsLow xs
      → AllByRecursion (λ a. is_stolen a ≡ false → IsKeptBy arguments a.from) xs
      → AllByRecursion (λ a. SlotFits inner.held hand.view (parameter_var a.parameter) (row_of rows a.from)) xs
  arguments_fit [] met low kept_by = tt
  arguments_fit (a ∷ others) met low kept_by =
      let names = named base.held hand.view (var_of s a.from) (row_of rows a.from) met.0.some (is.fits.each a.from) in (
        passed_fits a.parameter.passing a.parameter.kind names.0 (row_of rows a.from) names.1
            (argument_knows a names.0 met.0 names.1) (λ borrowed.
            lends a names.0 (var_of s a.from) refl met.0.some (kept_by.0 borrowed) low.0 names.1),
        arguments_fit others met.1 low.1 kept_by.1,
      )

  -- ---- the callee begins

  module _ (f : Function) (number callee : ℕ) (above : callee < number) (same : parameters ≡ f.parameters)
      (root : 1 ≤ base.held root_row) (room : base.most + call_room * (number + 1) < most_references) where
    less_room : inner.most + call_room * (callee + 1) < most_references
    less_room =
        let own = sum_lists base.first.view.layout left.slots kept in
        omega (arith, room, above, own, left_sixteen.slots)

    entry_fits : Fits inner (entry_of parameters) (passed_variables rows arguments) hand
    entry_fits = record {
      ready = is.fits.ready;
      room = omega (arith, less_room);
      follows = is.fits.follows;
      rests = is.fits.rests;
      some_slots = entry_length parameters;
      some_rows = passed_length rows arguments;
      each = passed_each (SlotFits inner.held hand.view)
          (record {
            names = record { object = root_row; is = refl; knows = OfRoot refl refl };
            lent = λ counted. omega (arith, root);
          }) tt rows arguments
          (arguments_fit arguments is.met.each is.low
          (borrowed_kept arguments (given_apart arguments is.met.once)));
      held = λ y counted.
          let all = shared_sum (owns y) (owns_counts y) in
          let had = is.fits.held y counted in
          omega (arith, all, had);
      few =
          let all = shared_sum (lists base.first.view.layout) (lists_counts base.first.view.layout) in
          let had = is.fits.few in
          omega (arith, all, had);
      lock = no_lock base s rows hand is.fits is.met.unlocked;
    }

    pub callee_begins : Begins inner f callee (passed_variables rows arguments) hand
    callee_begins = record {
      fits = subst (λ (ps : List Parameter). Fits inner (entry_of ps) (passed_variables rows arguments) hand) same
          entry_fits;
      root = omega (arith, root);
      room = less_room;
    }

  -- ---- the call goes on

  -- What is said of the variables stays true where one becomes empty.
  emptied_fits : (held : ℕ → ℕ) (v : View) (t : State) (rs : List (Option ℕ)) (x : ℕ) → AreSixteen t rs → x < 16
      → ((i : ℕ) → SlotFits held v (var_of t i) (row_of rs i))
      → (i : ℕ) → SlotFits held v (var_of (put t x Empty) i) (row_of (slice_set rs x None) i)
  emptied_fits held v t rs x all low each i = elim (eqb_tells i x) [
    | inl same ↦
        subst (λ (k : ℕ). SlotFits held v (var_of (put t x Empty) k) (row_of (slice_set rs x None) k)) (sym same.1)
        (subst (λ (w : Slot). SlotFits held v w (row_of (slice_set rs x None) x))
        (sym (var_of-put_same t x Empty (omega (arith, low, all.slots)))) tt)
    | inr apart ↦
        subst (λ (w : Slot). SlotFits held v w (row_of (slice_set rs x None) i))
        (sym (var_of-put_other t x i Empty apart.1))
        (subst (SlotFits held v (var_of t i)) (sym (row_of-set_other rs x i None apart.1)) (each i))
  ]

  left_slots : (u : View) → KnowsMore hand.view u
      → (i : ℕ) → SlotFits base.held u (var_of left i) (row_of kept i)
  left_slots u more =
      let each : (i : ℕ) → SlotFits base.held u (var_of s i) (row_of rows i) = λ i.
      slot_unlocked base.held hand.view u (var_of s i) (row_of rows i) more
      (no_lock base s rows hand is.fits is.met.unlocked).0 (is.fits.each i) in
      let holds : State → List (Option ℕ) → Type 0 = λ t rs.
      (i : ℕ) → SlotFits base.held u (var_of t i) (row_of rs i) in
      let after_stolen =
      emptied_keeps holds (emptied_fits base.held u) s rows (stolen arguments) (stolen_low arguments is.low) sixteen
      each in
      emptied_fits base.held u (without_stolen s arguments) (fold without_row rows (stolen arguments)) to
      after_stolen.0 is.to_low after_stolen.1

  -- Emptying variables locks nothing.
  pub left_unlocked : left.locked ≡ None
  left_unlocked = emptied_unlocked s (stolen arguments) is.met.unlocked where
    emptied_unlocked : (t : State) (xs : List ℕ) → t.locked ≡ None → (fold emptied t xs).locked ≡ None
    emptied_unlocked t [] none = none
    emptied_unlocked t (x ∷ xs) none = emptied_unlocked (put t x Empty) xs none

  -- The callee has returned nothing, or has given up what it owned: the call has what it kept.
  pub goes_on_without : (after : HandState) → HasReturned inner after → KnowsMore hand.view after.view
      → Fits base left kept after
  goes_on_without after returned more = record {
    ready = is.fits.ready;
    room = is.fits.room;
    follows = returned.follows;
    rests = returned.rests;
    some_slots = left_sixteen.slots;
    some_rows = left_sixteen.named;
    each = left_slots after.view more;
    held = λ y counted. returned.held y counted;
    few = returned.few;
    lock = subst (λ (l : Option ℕ). LocksAs l base.first.fields left kept after) (sym left_unlocked)
        (returned.unlocked, returned.fields);
  }

  -- It has returned a reference: the call has it besides.
  pub goes_on_with : (after : HandState) (row : ℕ) → Returns inner row after → KnowsMore hand.view after.view
      → Fits base (put (without_stolen s arguments) to (Owned kinds.Any)) (slice_set kept to (Some row)) after
  goes_on_with after row returned more =
      let slot = Owned kinds.Any in
      let next = put left to slot in
      let next_rows = slice_set kept to (Some row) in
      let in_slots : to < length left.slots = omega (arith, is.to_low, left_sixteen.slots) in
      let in_rows : to < length kept = omega (arith, is.to_low, left_sixteen.named) in
      let empty : (f : Slot → Option ℕ → ℕ) → Counts f → f (var_of left to) (row_of kept to) ≡ 0 =
      λ f counts. counts.bare (var_of left to) (row_of kept to)
      (ap is_owned (var_of-put_same (without_stolen s arguments) to Empty (omega (arith, is.to_low, stole.slots)))) in
      let sums : (f : Slot → Option ℕ → ℕ) → Counts f
      → over_variables f next.slots next_rows ≡ over_variables f left.slots kept + f slot (Some row) = λ f counts.
      let set = sum_set f to left.slots kept slot (Some row) in_slots in_rows in
      let none = empty f counts in
      omega (arith, set, none) in
      let each : (i : ℕ) → SlotFits base.held after.view (var_of next i) (row_of next_rows i) = λ i.
      elim (eqb_tells i to) [
        | inl same ↦
            subst (λ (k : ℕ). SlotFits base.held after.view (var_of next k) (row_of next_rows k)) (sym same.1)
            (subst (λ (w : Slot). SlotFits base.held after.view w (row_of next_rows to))
            (sym (var_of-put_same left to slot in_slots))
            (record { object = row; is = row_of-set_same kept to (Some row) in_rows; knows = Unknown refl }))
        | inr apart ↦
            subst (λ (w : Slot). SlotFits base.held after.view w (row_of next_rows i))
            (sym (var_of-put_other left to i slot apart.1))
            (subst (SlotFits base.held after.view (var_of left i))
            (sym (row_of-set_other kept to i (Some row) apart.1)) (left_slots after.view more i))
      ] in
      subst (λ (t : State). Fits base t next_rows after) (put_twice (without_stolen s arguments) to Empty slot)
      (record {
        ready = is.fits.ready;
        room = is.fits.room;
        follows = returned.follows;
        rests = returned.rests;
        some_slots = length-set left.slots to slot ∙ left_sixteen.slots;
        some_rows = length-set kept to (Some row) ∙ left_sixteen.named;
        each = each;
        held = λ y counted.
            let all = sums (owns y) (owns_counts y) in
            let had = returned.held y counted in
            omega (arith, all, had);
        few =
            let all = sums (lists base.first.view.layout) (lists_counts base.first.view.layout) in
            let had = returned.few in
            omega (arith, all, had);
        lock = subst (λ (l : Option ℕ). LocksAs l base.first.fields next next_rows after) (sym left_unlocked)
            (returned.unlocked, returned.fields);
      })

-- Each argument of a call whose conditions are met names a row.
pub arguments_named : (base : Base) (s : State) (rows : List (Option ℕ)) (hand : HandState) → Fits base s rows hand
    → (arguments : List Argument) → AllByRecursion (ArgumentMet s) arguments
    → list_all is_some (argument_rows rows arguments) ≡ true
arguments_named base s rows hand fits [] met = refl
arguments_named base s rows hand fits (a ∷ others) met =
    let names = named base.held hand.view (var_of s a.from) (row_of rows a.from) met.0.some (fits.each a.from) in
    ap (λ (o : Option ℕ). is_some o && list_all is_some (argument_rows rows others)) names.1
    ∙ arguments_named base s rows hand fits others met.1
