-- A hand that works at a row leaves its other work as it is.
use Rattle.std.proofs.Common.{◌≡◌, ◌≢◌, ℕ, Bool, true, false, not, List, [], ◌∷◌, ◌++◌, Option, None, Some, inl, inr, refl, sym, ap, ◌∙◌, subst}
use Rattle.std.specs.List.{filter}
use Rattle.std.proofs.lemmas.Bool.{cases_Bool, eqb-true}
use Rattle.std.proofs.lemmas.List.{append-nil}
use Rattle.brc_model.specs.declared.duty.Duty.{Duty}
use Rattle.brc_model.specs.declared.duty.Duty.TheVariants.{RetainLoad, RetainStore, RetainAdd, ReleaseLoad, ReleaseStore, DecideAtZero, SharedLoad, SharedExchange, SetMark, Look, TakeMark, MergeSwap, MergeLoad, MergeExchange, Die, Settle, SettleCell, SettleEnd, Leave, Finish, BirthLocal, KindLoad, LockGate, UnlockGate, CellLoad, CellSwap}
use Rattle.brc_model.specs.declared.actor.Status.{Status}
use Rattle.brc_model.specs.Machine.{status_by, used_by}
use Rattle.brc_model.specs.Duties.{duty_row}
use Rattle.brc_model.specs.OpenWork.{names_row, is_about}
use Rattle.brc_table.specs.declared.view.View.{View}
use Rattle.brc_table.specs.Views.{open_work, turned, first_of_all}
use Rattle.brc_table.specs.Hands.{MayWait, HasNoWork}
use Rattle.brc_heap.specs.Calls.{WorksAt, Leaves}
use Rattle.brc_heap.proofs.Keeping.{StaysOff, keeps_first, keeps_then, keeps_rest}
use Rattle.brc_heap.proofs.Turning.{away, passes, fails, none_aside, all_away}

-- ---- rows of duties

-- A duty is about one row.
one_row : (x y : ℕ) (row : Option ℕ) → names_row x row ≡ true → names_row y row ≡ true → y ≡ x
one_row x y (Some z) one other = sym (eqb-true z y other) ∙ eqb-true z x one
one_row x y None one other = absurd cc

apart : (x y : ℕ) (d : Duty) → y ≢ x → is_about y d ≡ true → is_about x d ≡ false
apart x y d ne this = elim (cases_Bool (is_about x d)) [
  | inl other ↦ absurd (ne (one_row x y (duty_row d) other this))
  | inr none ↦ none
]

-- All of the duties are about the row.
abbrev pub AllAbout : ℕ → List Duty → Type 0
AllAbout x [] = Unit {0}
AllAbout x (d ∷ ds) = (is_about x d ≡ true) × AllAbout x ds

all_pass : (x : ℕ) (ds : List Duty) → AllAbout x ds → filter (is_about x) ds ≡ ds
all_pass x [] all = refl
all_pass x (d ∷ ds) all = passes (is_about x) d ds all.0 ∙ ap (λ (es : List Duty). d ∷ es) (all_pass x ds all.1)

all_fail : (x y : ℕ) (ds : List Duty) → y ≢ x → AllAbout x ds → filter (is_about y) ds ≡ []
all_fail x y [] ne all = refl
all_fail x y (d ∷ ds) ne all =
    fails (is_about y) d ds (apart y x d (λ e. ne (sym e)) all.0) ∙ all_fail x y ds ne all.1

filter_both : (p : Duty → Bool) (ds es : List Duty) → filter p (ds ++ es) ≡ filter p ds ++ filter p es
filter_both p [] es = refl
filter_both p (d ∷ ds) es = elim (cases_Bool (p d)) [
  | inl this ↦
      passes p d (ds ++ es) this
      ∙ (ap (λ (fs : List Duty). d ∷ fs) (filter_both p ds es)
      ∙ ap (λ (fs : List Duty). fs ++ filter p es) (sym (passes p d ds this)))
  | inr other ↦
      fails p d (ds ++ es) other
      ∙ (filter_both p ds es ∙ ap (λ (fs : List Duty). fs ++ filter p es) (sym (fails p d ds other)))
]

-- Putting work about one row apart leaves the work about another.
others_stay : (x y : ℕ) (ds : List Duty) → y ≢ x → filter (is_about y) (filter (away x) ds) ≡ filter (is_about y) ds
others_stay x y [] ne = refl
others_stay x y (d ∷ ds) ne = elim (cases_Bool (is_about x d)) [
  | inl this ↦
      ap (filter (is_about y)) (fails (away x) d ds (ap not this))
      ∙ (others_stay x y ds ne ∙ sym (fails (is_about y) d ds (apart y x d (λ e. ne (sym e)) this)))
  | inr other ↦
      ap (filter (is_about y)) (passes (away x) d ds (ap not other)) ∙ elim (cases_Bool (is_about y d)) [
        | inl mine ↦
            passes (is_about y) d (filter (away x) ds) mine
            ∙ (ap (λ (es : List Duty). d ∷ es) (others_stay x y ds ne) ∙ sym (passes (is_about y) d ds mine))
        | inr neither ↦
            fails (is_about y) d (filter (away x) ds) neither
            ∙ (others_stay x y ds ne ∙ sym (fails (is_about y) d ds neither))
      ]
]

-- ---- at work

pub turned_works : (x : ℕ) (v : View) → WorksAt x v (turned v x)
turned_works x v = keeps_first (turned v x)

-- A hand that begins work has put all its other work aside.
pub begun_works : (x : ℕ) (v : View) (d : Duty) (references : List ℕ) → HasNoWork v x
    → WorksAt x v (record (first_of_all d v) { references = references })
begun_works x v d references none = keeps_rest (keeps_first v) (sym (all_away x (open_work v) none)) refl refl

-- Says whether the duty is about a word that counts, that says the kind, or that is a mark's or a thread's, and changes
-- neither its thread's status nor how many rows it has used.
abbrev pub is_plain : Duty → Bool
is_plain (RetainLoad x h) = true
is_plain (RetainStore x h w) = true
is_plain (RetainAdd x h) = true
is_plain (ReleaseLoad x h) = true
is_plain (ReleaseStore x w) = true
is_plain (DecideAtZero x) = true
is_plain (SharedLoad x r) = true
is_plain (SharedExchange x r w) = true
is_plain (SetMark x) = true
is_plain (Look x) = true
is_plain (TakeMark x) = true
is_plain (MergeSwap x r) = true
is_plain (MergeLoad x c r) = true
is_plain (MergeExchange x c w r) = true
is_plain (KindLoad x) = true
is_plain _ = false

-- Such a duty touches no cell and no gate.
pub plain_off : (u : View) (d : Duty) (found : ℕ) → is_plain d ≡ true → StaysOff u d found
plain_off u (LockGate y) found is = absurd cc
plain_off u (UnlockGate y) found is = absurd cc
plain_off u (Die y) found is = absurd cc
plain_off u Settle found is = absurd cc
plain_off u (SettleCell y i n) found is = absurd cc
plain_off u (SettleEnd y) found is = absurd cc
plain_off u (CellLoad y i) found is = absurd cc
plain_off u (CellSwap y i z h) found is = absurd cc
plain_off u _ found is = record { locked = refl; cells = λ y i e. refl; gates = λ y e. refl }

pub plain_status : (d : Duty) (s : Status) → is_plain d ≡ true → status_by s d ≡ s
plain_status (Leave i n) s is = absurd cc
plain_status Finish s is = absurd cc
plain_status _ s is = refl

pub plain_used : (d : Duty) (n : ℕ) → is_plain d ≡ true → used_by n d ≡ n
plain_used (BirthLocal x h) n is = absurd cc
plain_used _ n is = refl

-- What is left of the hand's work.
pub works_leave : (x : ℕ) (v u : View) (left : List Duty) → WorksAt x v u → u.actor.agenda ≡ left → AllAbout x left
    → MayWait left → Leaves x left v u
works_leave x v u left works is all waits = record {
  keeps = works;
  waits = subst MayWait (sym is) waits;
  agenda = is;
  left_is =
      filter_both (is_about x) u.actor.agenda u.actor.aside
      ∙ (ap (λ (ds : List Duty). filter (is_about x) ds ++ filter (is_about x) u.actor.aside) is
      ∙ (ap (λ (ds : List Duty). ds ++ filter (is_about x) u.actor.aside) (all_pass x left all)
      ∙ (ap (λ (ds : List Duty). left ++ filter (is_about x) ds) works.aside
      ∙ (ap (λ (ds : List Duty). left ++ ds) (none_aside x (open_work v)) ∙ append-nil left))));
  others = λ y ne.
      filter_both (is_about y) u.actor.agenda u.actor.aside
      ∙ (ap (λ (ds : List Duty). filter (is_about y) ds ++ filter (is_about y) u.actor.aside) is
      ∙ (ap (λ (ds : List Duty). ds ++ filter (is_about y) u.actor.aside) (all_fail x y left ne all)
      ∙ (ap (filter (is_about y)) works.aside ∙ others_stay x y (open_work v) ne)));
}

-- Of work about the row nothing is about other rows, and putting it apart twice is putting it apart once.
none_away : (x : ℕ) (ds : List Duty) → filter (away x) (filter (is_about x) ds) ≡ []
none_away x [] = refl
none_away x (d ∷ ds) = elim (cases_Bool (is_about x d)) [
  | inl this ↦
      ap (filter (away x)) (passes (is_about x) d ds this)
      ∙ (fails (away x) d (filter (is_about x) ds) (ap not this) ∙ none_away x ds)
  | inr other ↦ ap (filter (away x)) (fails (is_about x) d ds other) ∙ none_away x ds
]

away_again : (x : ℕ) (ds : List Duty) → filter (away x) (filter (away x) ds) ≡ filter (away x) ds
away_again x [] = refl
away_again x (d ∷ ds) = elim (cases_Bool (is_about x d)) [
  | inl this ↦
      ap (filter (away x)) (fails (away x) d ds (ap not this))
      ∙ (away_again x ds ∙ sym (fails (away x) d ds (ap not this)))
  | inr other ↦
      ap (filter (away x)) (passes (away x) d ds (ap not other))
      ∙ (passes (away x) d (filter (away x) ds) (ap not other)
      ∙ (ap (λ (es : List Duty). d ∷ es) (away_again x ds) ∙ sym (passes (away x) d ds (ap not other))))
]

-- One call after another about one row.
pub leaves_then : (x : ℕ) (first second : List Duty) (v u w : View) → Leaves x first v u → Leaves x second u w
    → Leaves x second v w
leaves_then x first second v u w one other = record {
  keeps =
      keeps_then (keeps_rest one.keeps
      (filter_both (away x) u.actor.agenda u.actor.aside
      ∙ (ap (λ (ds : List Duty). filter (away x) ds ++ filter (away x) u.actor.aside) (one.agenda ∙ sym one.left_is)
      ∙ (ap (λ (ds : List Duty). ds ++ filter (away x) u.actor.aside) (none_away x (open_work u))
      ∙ (ap (filter (away x)) one.keeps.aside ∙ away_again x (open_work v))))) refl one.keeps.given) other.keeps;
  waits = other.waits;
  agenda = other.agenda;
  left_is = other.left_is;
  others = λ y ne. other.others y ne ∙ one.others y ne;
}
