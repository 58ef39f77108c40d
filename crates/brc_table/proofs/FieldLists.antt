-- The fields that a seat has taken, the last one first.
use Rattle.std.proofs.Common.{◌≡◌, ℕ, ◌≤◌, List, [], ◌∷◌, Option, refl, sym, ap, ◌∙◌, arith}
use Rattle.std.specs.Prelude.{◌==◌}
use Rattle.std.proofs.lemmas.Bool.{eq-eqb}
use Rattle.atomic_table.specs.Table.{rest}
use Rattle.brc_model.specs.References.{one_if}
use Rattle.brc_table.specs.Hands.{HandState}
use Rattle.brc_table.specs.Homes.{resources, rows_of, held_in, times_in}
use Rattle.brc_table.proofs.Picked.{count_more}
use Rattle.brc_table.specs.Uses.{FirstField, field_rows}

heads : (p q : ℕ × ℕ) (ps qs : List (ℕ × ℕ)) → p ∷ ps ≡ q ∷ qs → p ≡ q
heads p q ps qs e = cc

-- A seat that has taken the row's field last, which holds n resources.
pub record Last {T : Type 0} (c : List (ℕ × Option T)) (x n : ℕ) : Type 0 where
  pub field : Option T
  pub ps : List (ℕ × Option T)
  pub is : c ≡ (x, field) ∷ ps
  pub count : resources field ≡ n

pub last_of : {T : Type 0} (c : List (ℕ × Option T)) (x n : ℕ) → FirstField (held_in c) x n → Last c x n
last_of [] x n first = absurd (let wrong : [] ≡ (x, n) ∷ first.rest = first.is in cc)
last_of (p ∷ ps) x n first =
    let e : (p.0, resources p.1) ∷ held_in ps ≡ (x, n) ∷ first.rest = first.is in
    let row : p.0 ≡ x = ap (λ (q : ℕ × ℕ). q.0) (heads (p.0, resources p.1) (x, n) (held_in ps) first.rest e) in
    let count : resources p.1 ≡ n =
    ap (λ (q : ℕ × ℕ). q.1) (heads (p.0, resources p.1) (x, n) (held_in ps) first.rest e) in
    record {
      field = p.1;
      ps = ps;
      is = ap (λ (y : ℕ). (y, p.1) ∷ ps) row;
      count = count;
    }

-- Its field is the first one.
pub first_is : {T : Type 0} (c : List (ℕ × Option T)) (x n : ℕ) → FirstField (held_in c) x n
    → (old : Option T) × (c ≡ (x, old) ∷ rest c)
first_is {T} c x n first =
    let l = last_of c x n first in
    (l.field, l.is ∙ ap (λ (qs : List (ℕ × Option T)). (x, l.field) ∷ qs) (ap rest (sym l.is)))

-- The rows of the fields of a seat.
pub rows_are : {T : Type 0} (c : List (ℕ × Option T)) → field_rows (held_in c) ≡ rows_of c
rows_are [] = refl
rows_are (p ∷ ps) = ap (λ (rows : List ℕ). p.0 ∷ rows) (rows_are ps)

-- The hand has taken the field that it took last.
pub taken_once : (hand : HandState) (x n : ℕ) → field_rows hand.fields ≡ hand.view.taken → FirstField hand.fields x n
    → 1 ≤ times_in x hand.view.taken
taken_once hand x n rows first =
    let one : one_if (x == x) ≡ 1 = ap one_if (eq-eqb x x refl) in
    let behind = field_rows first.rest in
    let taken : hand.view.taken ≡ x ∷ behind = sym rows ∙ ap field_rows first.is in
    omega (arith, ap (times_in x) taken, count_more x x behind, one)
