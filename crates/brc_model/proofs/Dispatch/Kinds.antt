-- What the states and the rows of variables say of kinds: a variable's state says nothing false of the object that its
-- variable names.
use Rattle.std.proofs.Common.{◌≡◌, ℕ, zero, suc, ◌<◌, true, List, [], ◌∷◌, Option, None, inl, inr, length, Some, refl, sym, ap, ◌∙◌, subst, arith, ◌+◌}
use Rattle.std.specs.Prelude.{slice_get, slice_set}
use Rattle.std.proofs.lemmas.Bool.Decides.{eqb_tells}
use Rattle.std.proofs.lemmas.Bool.{eqb-true}
use Rattle.brc_lang.specs.declared.kind.Kind.{Kind}
use Rattle.brc_lang.specs.declared.kind.Kind.TheVariants as kinds
use Rattle.brc_model.specs.declared.actor.Place.{Place}
use Rattle.brc_model.specs.declared.actor.Place.TheVariants.{Idle, InCall, Inside, Stopping, Exiting}
use Rattle.brc_model.specs.declared.state.Slot.{Slot}
use Rattle.brc_model.specs.declared.state.Slot.TheVariants.{Empty, Owned, Caller, Locked}
use Rattle.brc_model.specs.declared.state.State.{State}
use Rattle.brc_model.specs.Kinds.{kind_number, kind_numbered, kind_of_word, same_kind}
use Rattle.brc_model.specs.SlotStates.{var_of, kind_of, with_kind, put, without_item, without_items, entry_of}
use Rattle.brc_model.specs.Threads.{row_of, entry_variables, function_in, outer_of}
use Rattle.brc_model.specs.declared.layout.Layout.{Layout}
use Rattle.brc_model.specs.Layout.{none_row, root_row, first_immortal_list}
use Rattle.brc_model.specs.KnownKinds.{IsTrueKind, HasTrueKind, HaveTrueKinds, KnowsKinds, AreNamed, kind_words}
use Rattle.brc_model.proofs.Basics.Lists.{some_is, get_or-replicate_default}
use Rattle.brc_model.proofs.Dispatch.Grounded.{var_of-put_same, var_of-put_other, var_of-without, row_of-set_same, row_of-set_other}
use Rattle.brc_model.proofs.Frame.Kinds.{StoredStay}
use Rattle.brc_model.proofs.Dispatch.Programs.{Program, number_of, program_of}
use Rattle.brc_model.specs.declared.actor.OpenCall.{OpenCall}
use Rattle.brc_model.specs.Actions.{waiting_state}
use Rattle.brc_lang.specs.declared.module.Function.{Function}
use Rattle.brc_model.specs.StepMachine.{StepMachine}
use Rattle.brc_model.specs.Action.{StepActor}

-- ---- kinds of variables

-- A word that isn't stored yet names no kind, so nothing is said of its row; other words stay.
true_kind_stays : (words new : ℕ → ℕ) → StoredStay words new → (kind : Kind) (x : ℕ) → IsTrueKind kind (words x)
    → IsTrueKind kind (new x)
true_kind_stays words new stays kind x (inl any) = inl any
true_kind_stays words new stays kind x (inr names) = elim (stays x) [
  | inl none ↦ inl (sym names ∙ ap kind_of_word none)
  | inr same ↦ inr (ap kind_of_word same ∙ names)
]

true_kinds_stay : (words new : ℕ → ℕ) → StoredStay words new → (s : State) (rows : List (Option ℕ))
    → HaveTrueKinds words s rows → HaveTrueKinds new s rows
true_kinds_stay words new stays s rows known v x is =
    true_kind_stays words new stays (kind_of (var_of s v)) x (known v x is)

kinds_still : (f : Function) (words new : ℕ → ℕ) → StoredStay words new → (place : Place)
    → KnowsKinds f words place → KnowsKinds f new place
kinds_still f words new stays (Idle left) knows = tt
kinds_still f words new stays (InCall context at variables) knows =
    λ exits s arrived. true_kinds_stay words new stays s variables (knows exits s arrived)
kinds_still f words new stays (Inside context at variables stage) knows =
    λ exits s arrived. true_kinds_stay words new stays s variables (knows exits s arrived)
kinds_still f words new stays (Stopping lock calls) knows = tt
kinds_still f words new stays Exiting knows = tt

-- ---- with the calls that are open

-- The variables of a call that waits have the kinds that its state says, if there is one.
abbrev pub HaveKinds : (ℕ → ℕ) → Option State → List (Option ℕ) → Type 0
HaveKinds words None rows = Unit {0}
HaveKinds words (Some s) rows = HaveTrueKinds words s rows

-- So have those of each of these open calls.
abbrev pub OpenKinds : Program → (ℕ → ℕ) → List OpenCall → Type 0
OpenKinds program words [] = Unit {0}
OpenKinds program words (o ∷ outer) =
    HaveKinds words (waiting_state program.functions program.states (number_of program outer) o) o.variables
    × OpenKinds program words outer

-- What the thread knows of kinds at its place, in all its calls.
abbrev pub KnowsAll : Program → (ℕ → ℕ) → Place → Type 0
KnowsAll program words place =
    KnowsKinds (function_in program.functions program.first place) words place
    × OpenKinds program words (outer_of place)

-- Each thread knows the kinds of what the variables of its calls name.
abbrev pub AllKnown : StepMachine → Type 0
AllKnown m =
    (t : ℕ) (a : StepActor) → slice_get m.actors t ≡ Some a
    → KnowsAll (program_of m.functions m.states a) (kind_words m) a.place

-- So it does, and each row that is there from the start has its first kind word.
pub record KindsHold (lines : List (List ℕ)) (m : StepMachine) : Type 0 where
  pub named : AreNamed lines m.layout (kind_words m)
  pub known : AllKnown m

open_still : (program : Program) (words new : ℕ → ℕ) → StoredStay words new → (outer : List OpenCall)
    → OpenKinds program words outer → OpenKinds program new outer
open_still program words new stays [] knows = tt
open_still program words new stays (o ∷ outer) knows = (
  elim (waiting_state program.functions program.states (number_of program outer) o) as
      (λ w. HaveKinds words w o.variables → HaveKinds new w o.variables) [
        | None ↦ λ known. tt
        | Some s ↦ λ known. true_kinds_stay words new stays s o.variables known
      ] knows.0,
  open_still program words new stays outer knows.1,
)

pub knows_still : (program : Program) (words new : ℕ → ℕ) → StoredStay words new → (place : Place)
    → KnowsAll program words place → KnowsAll program new place
knows_still program words new stays place knows = (
  kinds_still (function_in program.functions program.first place) words new stays place knows.0,
  open_still program words new stays (outer_of place) knows.1,
)

pub true_put : (words : ℕ → ℕ) (s : State) (rows : List (Option ℕ)) (x : ℕ) (var : Slot) (row : Option ℕ)
    → x < length s.slots
    → x < length rows → HasTrueKind words var row → HaveTrueKinds words s rows
    → HaveTrueKinds words (put s x var) (slice_set rows x row)
true_put words s rows x var row in_slots in_rows new old v =
    elim (eqb_tells v x) [
      | inl this ↦
          let P : ℕ → Type 0 = λ w. HasTrueKind words (var_of (put s x var) w) (row_of (slice_set rows x row) w) in
          let there : HasTrueKind words (var_of (put s x var) x) row =
          subst (λ (w : Slot). HasTrueKind words w row) (sym (var_of-put_same s x var in_slots)) new in
          subst P (sym this.1) (subst (λ (w : Option ℕ). HasTrueKind words (var_of (put s x var) x) w)
          (sym (row_of-set_same rows x row in_rows)) there)
      | inr other ↦
          let there : HasTrueKind words (var_of (put s x var) v) (row_of rows v) =
          subst (λ (w : Slot). HasTrueKind words w (row_of rows v)) (sym (var_of-put_other s x v var other.1))
          (old v) in
          subst (λ (w : Option ℕ). HasTrueKind words (var_of (put s x var) v) w)
          (sym (row_of-set_other rows x v row other.1)) there
    ]

-- an empty variable says nothing
pub empty_true : (words : ℕ → ℕ) (row : Option ℕ) → HasTrueKind words Empty row
empty_true words row x is = inl refl

pub numbered_kind : (kind : Kind) → kind_numbered (kind_number kind) ≡ kind
numbered_kind kinds.Any = refl
numbered_kind _ = cc

pub same_kind_is : (one other : Kind) → same_kind one other ≡ true → one ≡ other
same_kind_is one other same =
    sym (numbered_kind one) ∙ ap kind_numbered (eqb-true (kind_number one) (kind_number other) same)
    ∙ numbered_kind other

var_with_kind : (words : ℕ → ℕ) (var : Slot) (kind : Kind) (row : Option ℕ)
    → ((x : ℕ) → row ≡ Some x → IsTrueKind kind (words x)) → HasTrueKind words (with_kind var kind) row
var_with_kind words Empty kind row names x is = inl refl
var_with_kind words (Owned k) kind row names x is = names x is
var_with_kind words (Caller k) kind row names x is = names x is
var_with_kind words (Locked k) kind row names x is = names x is

-- A variable's state may take the kind that its object's kind word names.
pub true_with_kind : (words : ℕ → ℕ) (s : State) (rows : List (Option ℕ)) (x : ℕ) (kind : Kind) → x < length s.slots
    → ((y : ℕ) → row_of rows x ≡ Some y → IsTrueKind kind (words y)) → HaveTrueKinds words s rows
    → HaveTrueKinds words (put s x (with_kind (var_of s x) kind)) rows
true_with_kind words s rows x kind in_slots names old v =
    let var = with_kind (var_of s x) kind in
    elim (eqb_tells v x) [
      | inl this ↦
          let there : HasTrueKind words (var_of (put s x var) x) (row_of rows x) =
          subst (λ (w : Slot). HasTrueKind words w (row_of rows x)) (sym (var_of-put_same s x var in_slots))
          (var_with_kind words (var_of s x) kind (row_of rows x) names) in
          subst (λ (w : ℕ). HasTrueKind words (var_of (put s x var) w) (row_of rows w)) (sym this.1) there
      | inr other ↦
          subst (λ (w : Slot). HasTrueKind words w (row_of rows v)) (sym (var_of-put_other s x v var other.1))
          (old v)
    ]

-- ---- once nothing is borrowed from the locked list any more

-- A variable that borrowed from the locked list is empty then, so it says nothing.
without_item_true : (words : ℕ → ℕ) (var : Slot) (row : Option ℕ) → HasTrueKind words var row
    → HasTrueKind words (without_item var) row
without_item_true words Empty row says = says
without_item_true words (Owned k) row says = says
without_item_true words (Caller k) row says = says
without_item_true words (Locked k) row says = empty_true words row

pub true_without_items : (words : ℕ → ℕ) (s : State) (rows : List (Option ℕ)) → HaveTrueKinds words s rows
    → HaveTrueKinds words (without_items s) rows
true_without_items words s rows known v =
    subst (λ (var : Slot). HasTrueKind words var (row_of rows v)) (sym (var_of-without s v))
    (without_item_true words (var_of s v) (row_of rows v) (known v))

-- ---- the kind words of the rows that are there from the start

pub named_stay : (lines : List (List ℕ)) (layout : Layout) (words new : ℕ → ℕ) → StoredStay words new
    → AreNamed lines layout words → AreNamed lines layout new
named_stay lines layout words new stays named x some =
    elim (stays x) [
      | inl none ↦ absurd (omega (arith, none, named x some, some))
      | inr same ↦ same ∙ named x some
    ]

-- So none and the root have their kinds.
pub record KnowsFirst (words : ℕ → ℕ) : Type 0 where
  pub none : kind_of_word (words none_row) ≡ kinds.None
  pub root : kind_of_word (words root_row) ≡ kinds.List

pub knows_first : (lines : List (List ℕ)) (layout : Layout) (words : ℕ → ℕ) → AreNamed lines layout words
    → KnowsFirst words
knows_first lines layout words named = record {
  none = ap kind_of_word (named none_row (omega arith));
  root = ap kind_of_word (named root_row (omega arith));
}

-- Each immortal list's kind word names a list.
abbrev pub KnowsLists : Layout → (ℕ → ℕ) → Type 0
KnowsLists layout words =
    (s : ℕ) → s < layout.immortal_lists → kind_of_word (words (first_immortal_list layout + s)) ≡ kinds.List

pub entry_true : (words : ℕ → ℕ) → kind_of_word (words root_row) ≡ kinds.List
    → HaveTrueKinds words (entry_of []) entry_variables
entry_true words root zero = λ x is.
    inr (ap (λ (y : ℕ). kind_of_word (words y)) (sym (some_is root_row x is)) ∙ root)
entry_true words root (suc v) =
    subst (λ (var : Slot). HasTrueKind words var (row_of entry_variables (suc v)))
    (sym (get_or-replicate_default 15 v Empty)) (empty_true words (row_of entry_variables (suc v)))
