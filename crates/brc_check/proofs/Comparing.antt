-- The comparison of all states of a module, point by point and function by function.
use Rattle.std.proofs.Common.{◌≡◌, ℕ, zero, suc, ◌+◌, true, false, [], ◌<◌, ◌≤◌, List, length, Option, refl, sym, ap}
use Rattle.std.proofs.Common.{◌∙◌, subst, inl, inr, arith, map}
use Rattle.std.specs.Prelude.{None, Some, slice_get}
use Rattle.std.specs.List.{slice_index_or}
use Rattle.std.proofs.lemmas.List.{get_or_read}
use Rattle.std.proofs.lemmas.Option.{same_Some, slice_get_read, slice_get_within}
use Rattle.std.proofs.lemmas.Bool.{cases_lt}
use Rattle.brc_lang.specs.declared.module.Instr.{Instr}
use Rattle.brc_lang.specs.declared.module.Function.{Function}
use Rattle.brc_lang.specs.declared.check_code.CheckCode.{CheckCode}
use Rattle.brc_model.specs.declared.state.State.{State}
use Rattle.brc_model.specs.declared.state.Exit.{Exit}
use Rattle.brc_model.specs.declared.state.Exit.TheVariants.{Success, Fault}
use Rattle.brc_model.specs.SlotStates.{entry_of}
use Rattle.brc_model.specs.Paths.{PathEnd, At, Ended, Reports, follow}
use Rattle.brc_check.specs.declared.kept_entry.KeptEntry.{KeptEntry}
use Rattle.brc_check.specs.declared.refused.Refused.{Refused}
use Rattle.brc_check.specs.Entries.{StaysOn, IsClosed, IsClosedAt, IsBlocked, IsErrorAt}
use Rattle.brc_check.specs.Lookups.{MeetsKept, IsBlockedKept, HasState, LeadsWithin}
use Rattle.brc_check.specs.Refusal.{IsFunctionError}
use Rattle.brc_check.specs.Tables.{HasShape, entries_of, kept_at, kept_or, kept_points, point_of, passed, state_at}
use Rattle.brc_check.proofs.Kept.{not_kept, kept_within}
use Rattle.brc_check.proofs.States.{met, next_state, passed_from}
use Rattle.brc_check.proofs.Steps.{arrives-within, reports-here}

-- ---- one exit

-- a path that agrees with the entries of the kept points agrees with the states of all points
agrees : (code : List Instr) (kept : List KeptEntry) (at : ℕ) (s : State) (exit : Exit) (p : PathEnd)
    → map point_of kept ≡ kept_points code → state_at code kept at ≡ Some s → follow code (At at s) exit ≡ p
    → MeetsKept kept p → StaysOn (state_at code kept) p
agrees code kept at s exit (At next t) shape here leads meets = met code kept at next exit s t shape here leads ∙ meets
agrees code kept at s exit Ended shape here leads meets = tt
agrees code kept at s exit (Reports k c) shape here leads meets = meets

differs : (code : List Instr) (kept : List KeptEntry) (at : ℕ) (s : State) (exit : Exit) (p : PathEnd) (k : ℕ)
    (c : CheckCode)
    → map point_of kept ≡ kept_points code → state_at code kept at ≡ Some s → follow code (At at s) exit ≡ p
    → IsBlockedKept kept p k c → IsBlocked (state_at code kept) p k c
differs code kept at s exit (At next t) k c shape here leads blocked = (
  blocked.0,
  blocked.1,
  λ e. blocked.2 (sym (met code kept at next exit s t shape here leads) ∙ e),
)
differs code kept at s exit Ended k c shape here leads blocked = blocked
differs code kept at s exit (Reports j d) k c shape here leads blocked = blocked

blocked_error : (f : Function) (states : ℕ → Option State) (at : ℕ) (s : State) (exit : Exit) (k : ℕ)
    (c : CheckCode) (p : PathEnd)
    → states at ≡ Some s → follow f.code (At at s) exit ≡ p → IsBlocked states p k c → IsErrorAt f states k c
blocked_error f states at s exit k c (At next t) here is blocked = inr (
  blocked.1,
  inl (record {
    before = at;
    state = s;
    exit = exit;
    arriving = t;
    is_given = here;
    leads = is ∙ ap (λ (n : ℕ). At n t) blocked.0;
    apart = λ e. blocked.2 (ap states blocked.0 ∙ e);
  }),
)
blocked_error f states at s exit k c Ended here is blocked = absurd blocked
blocked_error f states at s exit k c (Reports j d) here is blocked =
    let same : k ≡ at = sym blocked.0 ∙ reports-here f.code at j s exit d is in
    inl (record {
      state = s;
      exit = exit;
      is_given = ap states same ∙ here;
      reports =
          ap (λ (n : ℕ). follow f.code (At n s) exit) same ∙ is ∙ ap (λ (n : ℕ). Reports n d) blocked.0
          ∙ ap (Reports k) blocked.1;
    })

-- the exit of a point is blocked at a kept point, or reports a code
pub exit_error : (f : Function) (kept : List KeptEntry) (at : ℕ) (s : State) (exit : Exit) (k : ℕ) (c : CheckCode)
    → map point_of kept ≡ kept_points f.code → state_at f.code kept at ≡ Some s
    → IsBlockedKept kept (follow f.code (At at s) exit) k c → IsErrorAt f (state_at f.code kept) k c
exit_error f kept at s exit k c shape here blocked =
    blocked_error f (state_at f.code kept) at s exit k c (follow f.code (At at s) exit) here refl
    (differs f.code kept at s exit (follow f.code (At at s) exit) k c shape here refl blocked)

-- both exits agree
pub point_closed : (code : List Instr) (kept : List KeptEntry) (at : ℕ) (s : State)
    → map point_of kept ≡ kept_points code → state_at code kept at ≡ Some s
    → MeetsKept kept (follow code (At at s) Success) → MeetsKept kept (follow code (At at s) Fault)
    → IsClosedAt code (state_at code kept) at
point_closed code kept at s shape here on_success on_fault = λ t exit e.
    let same : t ≡ s = same_Some t s (sym e ∙ here) in
    subst (λ (u : State). StaysOn (state_at code kept) (follow code (At at u) exit)) (sym same)
    (elim exit as (λ x. StaysOn (state_at code kept) (follow code (At at s) x)) [
      | Success ↦ agrees code kept at s Success (follow code (At at s) Success) shape here refl on_success
      | Fault ↦ agrees code kept at s Fault (follow code (At at s) Fault) shape here refl on_fault
    ])

-- a point without a state has nothing to agree with
pub none_closed : (code : List Instr) (kept : List KeptEntry) (at : ℕ) → state_at code kept at ≡ None
    → IsClosedAt code (state_at code kept) at
none_closed code kept at none = λ s exit e. absurd (let z = sym none ∙ e in cc)

pub none_on : (code : List Instr) (kept : List KeptEntry) (at : ℕ) → state_at code kept at ≡ None
    → HasState code kept (at + 1) None
none_on code kept at none =
    ap (λ (o : Option State). kept_or (kept_at kept (at + 1)) (passed code at o)) (sym none)
    ∙ sym (next_state code kept at)

pub some_on : (code : List Instr) (kept : List KeptEntry) (at : ℕ) (s : State) (on : Option State)
    → state_at code kept at ≡ Some s → passed code at (Some s) ≡ on → HasState code kept (at + 1) on
some_on code kept at s on here is =
    ap (kept_or (kept_at kept (at + 1))) (sym is ∙ ap (passed code at) (sym here)) ∙ sym (next_state code kept at)

-- A step goes on at a point of the code, if at any. So the point's number is below the number of instructions.
pub leads_within : (code : List Instr) (at count : ℕ) (s : State) (exit : Exit) (p : PathEnd) → length code ≤ count
    → p ≡ follow code (At at s) exit → LeadsWithin count p
leads_within code at count s exit (At next t) most is =
    let within = arrives-within code at next s t exit (sym is) in omega (arith, within, most)
leads_within code at count s exit Ended most is = tt
leads_within code at count s exit (Reports j c) most is = tt

-- ---- one function

-- the first point's entry is compared as if a path reached it
first_state : (f : Function) (kept : List KeptEntry) → map point_of kept ≡ kept_points f.code → 0 < length f.code
    → state_at f.code kept 0 ≡ kept_or (kept_at kept 0) (Some (entry_of f.parameters))
first_state f kept shape some = elim (kept_at kept 0) as (λ o. kept_at kept 0 ≡ o
    → kept_or o None ≡ kept_or o (Some (entry_of f.parameters))) [
      | Some e ↦ λ _. refl
      | None ↦ λ none. absurd (let z : true ≡ false = not_kept f.code kept 0 shape some none in cc)
    ] refl

pub entry_error : (f : Function) (kept : List KeptEntry) (k : ℕ) (c : CheckCode)
    → map point_of kept ≡ kept_points f.code → 0 < length f.code
    → IsBlockedKept kept (At 0 (entry_of f.parameters)) k c → IsErrorAt f (state_at f.code kept) k c
entry_error f kept k c shape some blocked =
    inr (blocked.1, inr (sym blocked.0, λ e. blocked.2 (sym (first_state f kept shape some) ∙ e)))

pub entry_closed : (f : Function) (kept : List KeptEntry) → map point_of kept ≡ kept_points f.code
    → 0 < length f.code → MeetsKept kept (At 0 (entry_of f.parameters))
    → state_at f.code kept 0 ≡ Some (entry_of f.parameters)
entry_closed f kept shape some meets = first_state f kept shape some ∙ meets

past_none : (code : List Instr) (kept : List KeptEntry) (at : ℕ) (s : State) → map point_of kept ≡ kept_points code
    → 0 < length code → length code ≤ at → state_at code kept at ≡ Some s → ⊥
past_none code kept zero s shape some past e = omega (arith, some, past)
past_none code kept (suc at) s shape some past e =
    elim (kept_at kept (suc at)) as (λ o. kept_at kept (suc at) ≡ o
    → kept_or o (passed code at (state_at code kept at)) ≡ Some s → ⊥) [
      | Some k ↦ λ is _. let within = kept_within code kept (suc at) k shape is in omega (arith, within, past)
      | None ↦ λ _ h.
          let from = passed_from code at (state_at code kept at) s h in
          let within = arrives-within code at (at + 1) from.0 s Success from.2 in
          omega (arith, within, past)
    ] refl e

-- once each point of the code is closed, all are
pub all_closed : (f : Function) (kept : List KeptEntry) (to : ℕ) → map point_of kept ≡ kept_points f.code
    → 0 < length f.code → length f.code ≤ to → state_at f.code kept 0 ≡ Some (entry_of f.parameters)
    → ((k : ℕ) → k < to → IsClosedAt f.code (state_at f.code kept) k) → IsClosed f (state_at f.code kept)
all_closed f kept to shape some past begun closed = record {
  begins = begun;
  goes_on =
      λ at s exit e. elim (cases_lt at to) [
        | inl within ↦ closed at within s exit e
        | inr beyond ↦ absurd (past_none f.code kept at s shape some (omega (arith, past, beyond)) e)
      ];
}

-- ---- function by function

pub kept_read : (lists : List (List KeptEntry)) (number : ℕ) (kept : List KeptEntry)
    → number < length lists
    → kept ≡ slice_index_or lists number kept → kept ≡ entries_of lists number
kept_read lists number kept lt is = get_or_read lists number kept lt is []

pub same_points : (functions : List Function) (lists : List (List KeptEntry)) (number : ℕ) (f : Function)
    (kept : List KeptEntry)
    → HasShape functions lists → number < length functions
    → f ≡ slice_index_or functions number f → kept ≡ slice_index_or lists number kept
    → map point_of kept ≡ kept_points f.code
same_points functions lists number f kept shape lt is_f is_list =
    ap (map point_of) (kept_read lists number kept (let n = shape.lists in omega (arith, n, lt)) is_list)
    ∙ shape.points number f (slice_get_read functions (length functions) number f refl lt is_f)

pub function_error : (functions : List Function) (lists : List (List KeptEntry)) (number : ℕ) (f : Function)
    (kept : List KeptEntry) (r : Refused) (at : ℕ) (c : CheckCode)
    → HasShape functions lists → number < length functions
    → f ≡ slice_index_or functions number f → kept ≡ slice_index_or lists number kept
    → r ≡ record { function = f.name; at = at; code = c } → IsErrorAt f (state_at f.code kept) at c
    → IsFunctionError functions lists r
function_error functions lists number f kept r at c shape lt is_f is_list is error = rw is (record {
  shape = shape;
  number = number;
  function = f;
  listed = slice_get_read functions (length functions) number f refl lt is_f;
  named = refl;
  error =
      subst (λ (o : List KeptEntry). IsErrorAt f (state_at f.code o) at c)
      (kept_read lists number kept (let n = shape.lists in omega (arith, n, lt)) is_list) error;
})

-- a property of each function and its entries, one function more
pub each_more : (P : Function → List KeptEntry → Type 0) (functions : List Function) (lists : List (List KeptEntry))
    (number : ℕ) (f : Function) (kept : List KeptEntry)
    → length lists ≡ length functions → number < length functions
    → f ≡ slice_index_or functions number f → kept ≡ slice_index_or lists number kept
    → ((k : ℕ) (g : Function) → k < number → slice_get functions k ≡ Some g → P g (entries_of lists k))
    → P f kept → (k : ℕ) (g : Function) → k < number + 1 → slice_get functions k ≡ Some g → P g (entries_of lists k)
each_more P functions lists number f kept count lt is_f is_list before here k g below e =
    elim (cases_lt k number) [
      | inl less ↦ before k g less e
      | inr from ↦
          let same : k ≡ number = omega (arith, from, below) in
          let function : f ≡ g =
          same_Some f g (sym (slice_get_read functions (length functions) number f refl lt is_f)
          ∙ ap (slice_get functions) (sym same) ∙ e) in
          let same_entries : kept ≡ entries_of lists k =
          kept_read lists number kept (omega (arith, count, lt)) is_list ∙ ap (entries_of lists) (sym same) in
          subst (λ (h : Function). P h (entries_of lists k)) function (subst (P f) same_entries here)
    ]

-- the entries of a function are at its kept points
abbrev pub HasPoints : Function → List KeptEntry → Type 0
HasPoints f kept = map point_of kept ≡ kept_points f.code

abbrev pub HasClosed : Function → List KeptEntry → Type 0
HasClosed f kept = IsClosed f (state_at f.code kept)

-- the same of the slices that are read
pub points_to : (f : Function) (kept read : List KeptEntry) (code : List Instr) → code ≡ f.code → read ≡ kept
    → HasPoints f kept → map point_of read ≡ kept_points code
points_to f kept read code is_code is_read points =
    ap (map point_of) is_read ∙ points ∙ ap kept_points (sym is_code)

pub points_from : (f : Function) (kept read : List KeptEntry) (code : List Instr) → code ≡ f.code → read ≡ kept
    → map point_of read ≡ kept_points code → HasPoints f kept
points_from f kept read code is_code is_read points =
    ap (map point_of) (sym is_read) ∙ points ∙ ap kept_points is_code

pub shape_all : (functions : List Function) (lists : List (List KeptEntry)) (to : ℕ)
    → length lists ≡ length functions → length functions ≤ to
    → ((k : ℕ) (g : Function) → k < to → slice_get functions k ≡ Some g → HasPoints g (entries_of lists k))
    → HasShape functions lists
shape_all functions lists to count past each = record {
  lists = count;
  points = λ k g e. each k g (let within = slice_get_within functions k g e in omega (arith, within, past)) e;
}
