-- Tables, function by function.
use Rattle.std.proofs.Common.{◌≡◌, ℕ, zero, suc, ◌+◌, ◌<◌, ◌≤◌, List, [], ◌∷◌, ◌++◌, length, Option, refl, sym, ap, ◌∙◌}
use Rattle.std.proofs.Common.{subst, inl, inr, arith}
use Rattle.std.specs.Prelude.{None, Some, slice_get, ◌⊎◌}
use Rattle.std.specs.List.{AllByRecursion, slice_index_or}
use Rattle.std.proofs.lemmas.Bool.{cases_lt}
use Rattle.std.proofs.lemmas.List.{length_push, get_or_past, get_or_push, get_or_read, get_or_append_left}
use Rattle.std.proofs.lemmas.Option.{none-some, same_Some, slice_get_past, slice_get_read, slice_get_within}
use Rattle.brc_lang.specs.declared.module.Function.{Function}
use Rattle.brc_lang.specs.declared.module.Module.{Module}
use Rattle.brc_lang.specs.declared.module.Instr.{Instr}
use Rattle.brc_lang.specs.declared.check_code.CheckCode.{CheckCode}
use Rattle.brc_model.specs.Paths.{IsAcceptableFunction, IsAcceptable}
use Rattle.brc_model.specs.Tables.{IsTrueEntry}
use Rattle.brc_check.specs.declared.kept_entry.KeptEntry.{KeptEntry}
use Rattle.brc_check.specs.declared.refused.Refused.{Refused}
use Rattle.brc_check.specs.Entries.{IsClosed}
use Rattle.brc_check.specs.Filling.{IsInferred}
use Rattle.brc_check.specs.Refusal.{IsReported, IsForMemory, IsRefusal, IsShapeError, IsTableError}
use Rattle.brc_check.specs.Tables.{HasShape, IsTrueTable, IsTrueWhereReached, entries_of, passed, state_at, states_in}
use Rattle.brc_check.specs.Tables.{states_of}
use Rattle.brc_check.proofs.Paths.{closed-reached, closed-acceptable, no_error}

-- a property of each function of a list
all_hold : (P : Function → Type 0) (fs : List Function)
    → ((k : ℕ) (f : Function) → slice_get fs k ≡ Some f → P f) → AllByRecursion P fs
all_hold P [] h = tt
all_hold P (f ∷ fs) h = (h 0 f refl, all_hold P fs (λ k g e. h (suc k) g e))

holds_at : (P : Function → Type 0) (fs : List Function) (k : ℕ) (f : Function) → AllByRecursion P fs
    → slice_get fs k ≡ Some f → P f
holds_at P [] k f all e = absurd (none-some f e)
holds_at P (g ∷ fs) zero f all e = subst P (same_Some g f e) all.0
holds_at P (g ∷ fs) (suc k) f all e = holds_at P fs k f all.1 e

-- ---- inferred entries

pub record AreInferred (functions : List Function) (lists : List (List KeptEntry)) (to : ℕ) : Type 0 where
  pub count : length lists ≡ to
  pub each : (k : ℕ) (f : Function) → k < to → slice_get functions k ≡ Some f → IsInferred f (entries_of lists k)

pub none_inferred : (functions : List Function) (lists : List (List KeptEntry)) → lists ≡ []
    → AreInferred functions lists 0
none_inferred functions lists empty = record { count = ap length empty; each = λ k f lt. absurd (omega (arith, lt)) }

pub one_more_inferred : (functions : List Function) (lists : List (List KeptEntry)) (to : ℕ) (f : Function)
    (kept : List KeptEntry)
    → AreInferred functions lists to → slice_get functions to ≡ Some f → IsInferred f kept
    → AreInferred functions (lists ++ kept ∷ []) (to + 1)
one_more_inferred functions lists to f kept are here inferred = record {
  count = length_push lists kept ∙ ap (λ (n : ℕ). n + 1) are.count;
  each = λ k g lt e. elim (cases_lt k to) [
    | inl before ↦
        subst (IsInferred g) (sym
        (get_or_append_left lists (kept ∷ []) [] k (let n = are.count in omega (arith, n, before))))
        (are.each k g before e)
    | inr from ↦
        let same : k ≡ to = omega (arith, from, lt) in
        let function : f ≡ g = same_Some f g (sym here ∙ ap (slice_get functions) (sym same) ∙ e) in
        subst (IsInferred g) (sym (get_or_push lists kept [] k (are.count ∙ sym same)))
        (subst (λ (h : Function). IsInferred h kept) function inferred)
  ];
}

-- the states of a function that the module has
pub given : (m : Module) (lists : List (List KeptEntry)) (k at : ℕ) (f : Function) → slice_get m.functions k ≡ Some f
    → states_of m lists k at ≡ state_at f.code (entries_of lists k) at
given m lists k at f e = ap (λ (o : Option Function). states_in o (entries_of lists k) at) e

pub inferred_true : (m : Module) (lists : List (List KeptEntry))
    → AreInferred m.functions lists (length m.functions)
    → IsTrueTable m lists
inferred_true m lists are = record {
  shape = record {
    lists = are.count;
    points = λ k f e. (are.each k f (slice_get_within m.functions k f e) e).points;
  };
  states = λ k at f e.
      subst (IsTrueEntry f at) (sym (given m lists k at f e))
      ((are.each k f (slice_get_within m.functions k f e) e).truth at);
}

pub inferred_acceptable : (m : Module) (lists : List (List KeptEntry))
    → AreInferred m.functions lists (length m.functions) → IsAcceptable m
inferred_acceptable m lists are =
    all_hold IsAcceptableFunction m.functions
    (λ k f e. (are.each k f (slice_get_within m.functions k f e) e).acceptable)

-- ---- closed entries

abbrev pub AreClosed : List Function → List (List KeptEntry) → Type 0
AreClosed functions lists =
    (number : ℕ) (f : Function) → slice_get functions number ≡ Some f
    → IsClosed f (state_at f.code (entries_of lists number))

pub closed_are_acceptable : (m : Module) (lists : List (List KeptEntry)) → AreClosed m.functions lists
    → IsAcceptable m
closed_are_acceptable m lists closed =
    all_hold IsAcceptableFunction m.functions
    (λ k f e. closed-acceptable f (state_at f.code (entries_of lists k)) (closed k f e))

pub closed_are_true : (m : Module) (lists : List (List KeptEntry)) → HasShape m.functions lists
    → AreClosed m.functions lists → IsTrueWhereReached m lists
closed_are_true m lists shape closed = record {
  shape = shape;
  states = λ k at f s e r.
      given m lists k at f e ∙ closed-reached f (state_at f.code (entries_of lists k)) (closed k f e) at s r;
}

-- a true table of an acceptable module has no error
pub no_table_error : (m : Module) (lists : List (List KeptEntry)) (r : Refused) → IsAcceptable m
    → IsTrueTable m lists → IsTableError m.functions lists r → ⊥
no_table_error m lists r accepted true_table error =
    elim error [
      | inl f ↦ f.other_shape true_table.shape
      | inr f ↦ no_error f.function (state_at f.function.code (entries_of lists f.number)) r.at r.code
          (holds_at IsAcceptableFunction m.functions f.number f.function accepted f.listed)
          (λ k. subst (IsTrueEntry f.function k) (given m lists f.number k f.function f.listed)
          (true_table.states f.number k f.function f.listed)) f.error
    ]

-- what the comparison of all entries shows
pub record AreVerified (m : Module) (table : List (List KeptEntry)) : Type 0 where
  pub acceptable : IsAcceptable m
  pub truth : IsTrueWhereReached m table

pub are_verified : (m : Module) (table : List (List KeptEntry)) (functions : List Function)
    (lists : List (List KeptEntry))
    → functions ≡ m.functions → lists ≡ table
    → HasShape functions lists × AreClosed functions lists → AreVerified m table
are_verified m table functions lists is_functions is_lists both =
    let shape : HasShape m.functions table =
    subst (λ (fs : List Function). HasShape fs table) is_functions (subst (HasShape functions) is_lists both.0) in
    let closed : AreClosed m.functions table =
    subst (λ (fs : List Function). AreClosed fs table) is_functions (subst (AreClosed functions) is_lists both.1) in
    record { acceptable = closed_are_acceptable m table closed; truth = closed_are_true m table shape closed }

pub not_refused : (m : Module) (table : List (List KeptEntry)) (functions : List Function)
    (lists : List (List KeptEntry)) (r : Refused)
    → functions ≡ m.functions → lists ≡ table
    → IsTableError functions lists r → IsAcceptable m → IsTrueTable m table → ⊥
not_refused m table functions lists r is_functions is_lists error accepted true_table =
    no_table_error m table r accepted true_table
    (subst (λ (fs : List Function). IsTableError fs table r) is_functions
    (subst (λ (t : List (List KeptEntry)). IsTableError functions t r) is_lists error))

pub refused_shape : (m : Module) (table : List (List KeptEntry)) (functions : List Function)
    (lists : List (List KeptEntry)) (r : Refused)
    → functions ≡ m.functions → lists ≡ table
    → IsTableError functions lists r → (HasShape m.functions table → ⊥) → IsShapeError m.functions table r
refused_shape m table functions lists r is_functions is_lists error other =
    let here : IsTableError m.functions table r =
    subst (λ (fs : List Function). IsTableError fs table r) is_functions
    (subst (λ (t : List (List KeptEntry)). IsTableError functions t r) is_lists error) in
    elim here [
      | inl f ↦ f
      | inr f ↦ absurd (other f.shape)
    ]

-- ---- refusals

-- why one function isn't inferred
abbrev pub IsRefusalOf : Function → Refused → Type 0
IsRefusalOf f r = (r.function ≡ f.name) × (IsForMemory r ⊎ IsReported f r.at r.code)

pub refused_for : (functions : List Function) (number : ℕ) (f : Function) (r : Refused) → number < length functions
    → f ≡ slice_index_or functions number f → IsRefusalOf f r → IsRefusal functions r
refused_for functions number f r lt is refusal =
    elim refusal.1 [
      | inl memory ↦ inl memory
      | inr reported ↦ inr (record {
        function = f;
        listed = (number, lt, sym is);
        named = sym refusal.0;
        reported = reported;
      })
    ]

pub never_reported : (f : Function) (at : ℕ) (c : CheckCode) → IsAcceptableFunction f → IsReported f at c → ⊥
never_reported f at c accepted reported =
    elim reported [
      | inl m ↦ accepted.reports_none at c m
      | inr d ↦
          d.1.apart (accepted.states_agree d.1.first.exits d.1.second.exits at d.1.one d.1.other d.1.first.reaches
          d.1.second.reaches)
    ]

pub for_memory : (functions : List Function) (number : ℕ) (f : Function) (r : Refused) → number < length functions
    → f ≡ slice_index_or functions number f → IsRefusalOf f r
    → AllByRecursion IsAcceptableFunction functions → IsForMemory r
for_memory functions number f r lt is refusal accepted =
    elim refusal.1 [
      | inl memory ↦ memory
      | inr reported ↦
          absurd (never_reported f r.at r.code
          (holds_at IsAcceptableFunction functions number f accepted
          (slice_get_read functions (length functions) number f refl lt is)) reported)
    ]

-- ---- the states that a table gives

-- a function of which a table keeps nothing has no states
none_kept : (code : List Instr) (at : ℕ) → state_at code [] at ≡ None
none_kept code zero = refl
none_kept code (suc at) = ap (passed code at) (none_kept code at)

pub past_table : (m : Module) (table : List (List KeptEntry)) (function at : ℕ) → length table ≤ function
    → states_of m table function at ≡ None
past_table m table function at past =
    ap (λ (kept : List KeptEntry). states_in (slice_get m.functions function) kept at)
    (get_or_past table function [] past)
    ∙ (elim (slice_get m.functions function) as (λ o. states_in o [] at ≡ None) [
      | None ↦ refl
      | Some f ↦ none_kept f.code at
    ])

pub past_module : (m : Module) (table : List (List KeptEntry)) (function at : ℕ) → length m.functions ≤ function
    → states_of m table function at ≡ None
past_module m table function at past =
    ap (λ (o : Option Function). states_in o (entries_of table function) at) (slice_get_past m.functions function past)

pub given_state : (m : Module) (table : List (List KeptEntry)) (functions : List Function)
    (lists : List (List KeptEntry)) (function at : ℕ) (f : Function) (kept : List KeptEntry)
    → functions ≡ m.functions → lists ≡ table → function < length functions
    → f ≡ slice_index_or functions function f → function < length lists → kept ≡ slice_index_or lists function kept
    → state_at f.code kept at ≡ states_of m table function at
given_state m table functions lists function at f kept is_functions is_lists lt is_f within is_kept =
    let listed : slice_get m.functions function ≡ Some f =
    ap (λ (fs : List Function). slice_get fs function) (sym is_functions)
    ∙ slice_get_read functions (length functions) function f refl lt is_f in
    let same : kept ≡ entries_of table function =
    get_or_read lists function kept within is_kept []
    ∙ ap (λ (t : List (List KeptEntry)). entries_of t function) is_lists in
    ap (λ (k : List KeptEntry). state_at f.code k at) same ∙ sym (given m table function at f listed)
