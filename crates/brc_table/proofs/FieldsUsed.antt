-- Which fields a hand uses after a duty of its own.
use Rattle.std.proofs.Common.{◌≡◌, ℕ, zero, suc, ◌+◌, Bool, true, false, cond, Option, Some, List, [], ◌∷◌, ◌++◌, inl, inr, refl, sym, ap, ◌∙◌}
use Rattle.std.specs.Prelude.{◌==◌, ◌||◌, nat_lt}
use Rattle.std.specs.List.{list_any}
use Rattle.std.proofs.lemmas.Bool.{cases_Bool, eq-eqb, eqb-true}
use Rattle.std.proofs.lemmas.List.Folds.{list_any-append}
use Rattle.brc_word.specs.Words.{free_word}
use Rattle.brc_model.specs.declared.duty.Duty.{Duty}
use Rattle.brc_model.specs.declared.duty.Duty.TheVariants.{LockGate, UnlockGate, BirthKind, BirthField, BirthLocal, Settle, SettleKind, SettleCell, TakeField, CloseResource, SettleEnd, Scan, TakeFound}
use Rattle.brc_model.specs.declared.layout.Layout.{Layout}
use Rattle.brc_model.specs.Duties.{continuation, new_head, ready, has_resource, cells_of, cells_from, release_found}
use Rattle.brc_model.specs.Machine.{is_running, locked_by}
use Rattle.brc_model.specs.FieldLaws.{FieldUse, Stays, Takes, Gives, use_of, needs_field, UsesField}
use Rattle.brc_table.specs.declared.view.View.{View}
use Rattle.brc_table.specs.Views.{view_by}

pub or_true : (b : Bool) → (b || true) ≡ true
or_true true = refl
or_true false = refl

-- ---- duties that need a field

-- What is passed over needs no field.
needs_ready : (x head : ℕ) (ds : List Duty) → list_any (needs_field x) (ready head ds) ≡ list_any (needs_field x) ds
needs_ready x zero [] = refl
needs_ready x (suc head) [] = refl
needs_ready x zero (Settle ∷ rest) = needs_ready x zero rest
needs_ready x zero (Scan i zero ∷ rest) = needs_ready x zero rest
needs_ready x zero (Scan i (suc k) ∷ rest) = refl
needs_ready x zero (TakeFound w zero ∷ rest) = needs_ready x zero rest
needs_ready x zero (TakeFound w (suc k) ∷ rest) = refl
needs_ready x zero (_ ∷ rest) = refl
needs_ready x (suc head) (Scan i zero ∷ rest) = needs_ready x (suc head) rest
needs_ready x (suc head) (Scan i (suc k) ∷ rest) = refl
needs_ready x (suc head) (TakeFound w zero ∷ rest) = needs_ready x (suc head) rest
needs_ready x (suc head) (TakeFound w (suc k) ∷ rest) = refl
needs_ready x (suc head) (_ ∷ rest) = refl

-- Emptying the cells of a row and closing it needs the row's field.
cells_need : (x y i n : ℕ) → (y == x) ≡ true → list_any (needs_field x) (cells_from y i n) ≡ true
cells_need x y i n same = elim (cases_Bool (nat_lt i n)) [
  | inl more ↦
      ap (λ (b : Bool). list_any (needs_field x) (cond b (SettleCell y i n ∷ []) (SettleEnd y ∷ []))) more
      ∙ ap (λ (b : Bool). b || false) same
  | inr none ↦
      ap (λ (b : Bool). list_any (needs_field x) (cond b (SettleCell y i n ∷ []) (SettleEnd y ∷ []))) none
      ∙ ap (λ (b : Bool). b || false) same
]

after_release : (x found : ℕ) (ds : List Duty) → list_any (needs_field x) ds ≡ true
    → list_any (needs_field x) (release_found found ++ ds) ≡ true
after_release x zero ds is = is
after_release x (suc y) ds is = is

-- What follows a duty that needs the row's field needs it too, unless the field is given back.
needs_on : (layout : Layout) (t : ℕ) (running : Bool) (head : ℕ) (d : Duty) (found x : ℕ) → needs_field x d ≡ true
    → (use_of d found ≡ Gives x → ⊥) → list_any (needs_field x) (continuation layout t running head d found) ≡ true
needs_on layout t running head (BirthField y h) found x is not_given = ap (λ (b : Bool). b || false) is
needs_on layout t running head (BirthLocal y h) found x is not_given = absurd (not_given (ap Gives (eqb-true y x is)))
needs_on layout t running head (SettleCell y i n) found x is not_given =
    after_release x found (cells_from y (i + 1) n) (cells_need x y (i + 1) n is)
needs_on layout t running head (TakeField y) found x is not_given = ap (λ (b : Bool). b || false) is
needs_on layout t running head (CloseResource y) found x is not_given = ap (λ (b : Bool). b || false) is
needs_on layout t running head (SettleEnd y) found x is not_given = absurd (not_given (ap Gives (eqb-true y x is)))
needs_on layout t running head _ found x is not_given = absurd cc

needs_left : (v : View) (d : Duty) (rest : List Duty) (found x : ℕ) → (use_of d found ≡ Gives x → ⊥)
    → (needs_field x d || list_any (needs_field x) rest) ≡ true
    → list_any (needs_field x) (view_by v (d ∷ rest) found).actor.agenda ≡ true
needs_left v d rest found x not_given is =
    let next = continuation v.layout v.thread (is_running v.actor.status) v.actor.head d found in
    needs_ready x (new_head v.actor.head d found) (next ++ rest) ∙ (list_any-append (needs_field x) next rest
    ∙ elim (cases_Bool (needs_field x d)) [
      | inl this ↦
          ap (λ (b : Bool). b || list_any (needs_field x) rest)
          (needs_on v.layout v.thread (is_running v.actor.status) v.actor.head d found x this not_given)
      | inr other ↦
          let later : list_any (needs_field x) rest ≡ true =
          sym (ap (λ (b : Bool). b || list_any (needs_field x) rest) other) ∙ is in
          ap (λ (b : Bool). list_any (needs_field x) next || b) later ∙ or_true (list_any (needs_field x) next)
    ])

-- ---- fields in use

-- A hand uses what it used, if it doesn't give the field back, and keeps its lock.
pub used_left : (v : View) (d : Duty) (rest : List Duty) (found x : ℕ) → v.actor.agenda ≡ d ∷ rest
    → (use_of d found ≡ Gives x → ⊥) → (v.actor.locked ≡ Some x → locked_by v.actor.locked d found ≡ Some x)
    → UsesField v.actor x → UsesField (view_by v (d ∷ rest) found).actor x
used_left v d rest found x agenda not_given lock (inl locks) = inl (lock locks)
used_left v d rest found x agenda not_given lock (inr needs) =
    inr (needs_left v d rest found x not_given (sym (ap (list_any (needs_field x)) agenda) ∙ needs))

-- A duty that takes no field and gives none back leaves the lock as it is.
pub lock_stays : (locked : Option ℕ) (d : Duty) (found : ℕ) → use_of d found ≡ Stays → locked_by locked d found ≡ locked
lock_stays locked (LockGate x) found stays = elim (cases_Bool (found == free_word)) [
  | inl free ↦
      absurd (let wrong : Takes x ≡ Stays = sym (ap (λ (b : Bool). cond b (Takes x) Stays) free) ∙ stays in cc)
  | inr other ↦ ap (λ (b : Bool). cond b (Some x) locked) other
]
lock_stays locked (UnlockGate x) found stays = absurd cc
lock_stays locked _ found stays = refl

-- A hand that takes a field uses it.
takes_same : (x y : ℕ) → Takes y ≡ Takes x → y ≡ x
takes_same x y is = let row : FieldUse → ℕ = λ u. elim u [ Stays ↦ 0 | Takes z ↦ z | Gives z ↦ 0 ] in ap row is

pub used_now : (v : View) (d : Duty) (rest : List Duty) (found x : ℕ) → use_of d found ≡ Takes x
    → UsesField (view_by v (d ∷ rest) found).actor x
used_now v (LockGate y) rest found x takes = elim (cases_Bool (found == free_word)) [
  | inl free ↦
      let same : y ≡ x =
      takes_same x y (sym (ap (λ (b : Bool). cond b (Takes y) Stays) free) ∙ takes) in
      inl (ap (λ (b : Bool). cond b (Some y) v.actor.locked) free ∙ ap Some same)
  | inr other ↦
      absurd (let wrong : Stays ≡ Takes x = sym (ap (λ (b : Bool). cond b (Takes y) Stays) other) ∙ takes in cc)
]
used_now v (BirthKind y h w) rest found x takes =
    let next = continuation v.layout v.thread (is_running v.actor.status) v.actor.head (BirthKind y h w) found in
    let same : (y == x) ≡ true = eq-eqb y x (takes_same x y takes) in
    let needs : list_any (needs_field x) next ≡ true = elim (cases_Bool (has_resource w)) [
      | inl has ↦
          ap (λ (b : Bool). list_any (needs_field x) (cond b (BirthField y h ∷ []) (BirthLocal y h ∷ []))) has
          ∙ ap (λ (b : Bool). b || false) same
      | inr has_not ↦
          ap (λ (b : Bool). list_any (needs_field x) (cond b (BirthField y h ∷ []) (BirthLocal y h ∷ []))) has_not
          ∙ ap (λ (b : Bool). b || false) same
    ] in
    inr (needs_ready x v.actor.head (next ++ rest) ∙ (list_any-append (needs_field x) next rest
    ∙ ap (λ (b : Bool). b || list_any (needs_field x) rest) needs))
used_now v (SettleKind y) rest found x takes =
    let next = continuation v.layout v.thread (is_running v.actor.status) v.actor.head (SettleKind y) found in
    let same : (y == x) ≡ true = eq-eqb y x (takes_same x y takes) in
    let needs : list_any (needs_field x) next ≡ true = elim (cases_Bool (has_resource found)) [
      | inl has ↦
          ap (λ (b : Bool). list_any (needs_field x) (cond b (TakeField y ∷ []) (cells_from y 0 (cells_of found)))) has
          ∙ ap (λ (b : Bool). b || false) same
      | inr has_not ↦
          ap (λ (b : Bool). list_any (needs_field x) (cond b (TakeField y ∷ []) (cells_from y 0 (cells_of found))))
          has_not
          ∙ cells_need x y 0 (cells_of found) same
    ] in
    inr (needs_ready x v.actor.head (next ++ rest) ∙ (list_any-append (needs_field x) next rest
    ∙ ap (λ (b : Bool). b || list_any (needs_field x) rest) needs))
used_now v _ rest found x takes = absurd cc
