-- The rows of duties are there, and what comes next as a birth ends.
use Rattle.std.proofs.Common.{◌≡◌, ◌≢◌, ℕ, ◌<◌, ◌≤◌, true, Bool, List, [], ◌∷◌, inl, inr, refl, sym, ap, ◌∙◌, subst, arith}
use Rattle.std.specs.Prelude.{◌==◌, ◌||◌, cond}
use Rattle.std.specs.List.{list_any}
use Rattle.std.proofs.lemmas.Bool.{cases_Bool, eq-eqb}
use prog.Atomic.{either}
use Rattle.brc_model.specs.declared.duty.Duty.{Duty}
use Rattle.brc_model.specs.declared.duty.Duty.TheVariants.{BirthField, BirthLocal}
use Rattle.brc_model.specs.declared.duty.Holding.TheVariants.{AsCaller}
use Rattle.brc_model.specs.declared.actor.Status.TheVariants.{Running, Gone}
use Rattle.brc_model.specs.declared.layout.Layout.{Layout}
use Rattle.brc_model.specs.Layout.{row_count}
use Rattle.brc_model.specs.Limits.{total_limit}
use Rattle.brc_model.specs.Duties.{resources_of}
use Rattle.brc_model.specs.OpenWork.{is_about}
use Rattle.brc_model.specs.Counting.{IsPlainLayout}
use Rattle.std.proofs.Math.Nat.{mul-le-mul}
use Rattle.brc_table.specs.declared.view.View.{View}
use Rattle.brc_table.specs.KnownWords.{knows_kind}
use Rattle.brc_table.specs.Accesses.{IsNext}
use Rattle.brc_table.specs.Uses.{IsDue}
use Rattle.brc_table.specs.Places.{FewFirstRows}
use Rattle.brc_table.specs.Views.{RowsAreThere, field_filled_by}
use Rattle.brc_table.specs.Hands.{HoldsOne, MayUse, MayRead}
use Rattle.brc_table.specs.Calls.{OwnsFirst}
use Rattle.brc_table.proofs.RowsThere.{immortal_there}

pub runs_on : (v : View) → v.actor.status ≡ Running → v.actor.status ≢ Gone
runs_on v runs gone = let wrong : Running ≡ Gone = sym runs ∙ gone in absurd cc

-- ---- rows

pub held_there : (v : View) (x : ℕ) → RowsAreThere v → HoldsOne v x → x < row_count v.layout
held_there v x rows (inl immortal) = immortal_there v.layout x immortal
held_there v x rows (inr held) = rows.held x held

-- An object that the hand may use has a row.
pub usable_there : (v : View) (x : ℕ) → RowsAreThere v → MayUse v x → x < row_count v.layout
usable_there v x rows (inl holding) = held_there v x rows holding
usable_there v x rows (inr borrowed) = borrowed.there

-- So has an object at which it may look.
pub looks_there : (v : View) (x : ℕ) → RowsAreThere v → MayRead v x → x < row_count v.layout
looks_there v x rows (inl usable) = usable_there v x rows usable
looks_there v x rows (inr first) = omega (arith, rows.head, first)

-- ---- words

pub either_is : (found old new w word : ℕ) → old ≡ w → new ≡ word
    → either (found == old) new found ≡ cond (found == w) word found
either_is found old new w word same leaves = elim (cases_Bool (found == w)) [
  | inl this ↦ rw (same, this) leaves
  | inr other ↦ rw (same, other) refl
]

-- ---- the row of a duty

-- The row of a hand's first duty is there.
pub first_there : (v : View) (x : ℕ) (d : Duty) (rest : List Duty) → RowsAreThere v → v.actor.agenda ≡ d ∷ rest
    → is_about x d ≡ true → x < row_count v.layout
first_there v x d rest rows is this =
    rows.agenda x (ap (list_any (is_about x)) is ∙ ap (λ (b : Bool). b || list_any (is_about x) rest) this)

pub next_there : (v : View) (x : ℕ) (d : Duty) → RowsAreThere v → v.actor.agenda ≡ d ∷ [] → is_about x d ≡ true
    → x < row_count v.layout
next_there v x d rows is this = first_there v x d [] rows is this

-- ---- births

-- There are few rows.
pub rows_few : (layout : Layout) → IsPlainLayout layout → FewFirstRows layout → row_count layout ≤ total_limit
rows_few layout plain few =
    let most = mul-le-mul plain.few_workers plain.few_rows in
    omega (arith, most, few)

pub own_next : (v : View) (x : ℕ) (ds : List Duty) → v.actor.agenda ≡ ds → OwnsFirst x ds
    → IsNext (BirthLocal x AsCaller) (field_filled_by ds v).actor.agenda
own_next v x (BirthField y h ∷ []) is same = ap (λ (z : ℕ). BirthLocal z AsCaller) same
own_next v x (BirthLocal y h ∷ []) is same =
    subst (IsNext (BirthLocal x AsCaller)) (sym is) (ap (λ (z : ℕ). BirthLocal z AsCaller) same)
own_next v x _ is same = absurd same

-- What is due in the field.
pub own_due : (v : View) (x word : ℕ) (ds : List Duty) → v.actor.agenda ≡ ds → OwnsFirst x ds → 0 < word
    → knows_kind x word v ≡ true
    → IsDue (field_filled_by ds v) (field_filled_by ds v).actor.agenda (resources_of word)
own_due v x word (BirthField y h ∷ []) is same some seen =
    (word, some, subst (λ (z : ℕ). knows_kind z word v ≡ true) (sym same) seen, refl)
own_due v x word (BirthLocal y h ∷ []) is same some seen =
    subst (λ (ds : List Duty). IsDue v ds (resources_of word)) (sym is)
    (word, some, subst (λ (z : ℕ). knows_kind z word v ≡ true) (sym same) seen, refl)
own_due v x word _ is same some seen = absurd same

pub owns_first_there : (v : View) (x : ℕ) (ds : List Duty) → RowsAreThere v → v.actor.agenda ≡ ds → OwnsFirst x ds
    → x < row_count v.layout
owns_first_there v x (BirthField y h ∷ []) rows is same = next_there v x (BirthField y h) rows is (eq-eqb y x same)
owns_first_there v x (BirthLocal y h ∷ []) rows is same = next_there v x (BirthLocal y h) rows is (eq-eqb y x same)
owns_first_there v x _ rows is same = absurd same
