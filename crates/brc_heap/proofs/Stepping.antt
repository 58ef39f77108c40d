-- How a hand goes on that executes duty after duty.
use Rattle.std.proofs.Common.{◌≡◌, ◌≢◌, ℕ, zero, suc, ◌+◌, Bool, true, false, List, [], ◌∷◌, ◌++◌, Some, refl, sym, ap, ◌∙◌, subst, arith}
use Rattle.std.specs.Prelude.{◌==◌, if◌then◌else◌}
use Rattle.std.proofs.lemmas.Bool.{eq-eqb, ne_eqb}
use Rattle.brc_word.specs.Words.{free_word}
use Rattle.brc_model.specs.declared.duty.Duty.{Duty}
use Rattle.brc_model.specs.declared.duty.Duty.TheVariants.{Die, Settle, TakeField, Scan, TakeFound}
use Rattle.brc_model.specs.Duties.{ready, continuation, new_head}
use Rattle.brc_model.specs.Machine.{is_running, status_by, used_by}
use Rattle.brc_model.specs.OpenWork.{is_about, is_finalising, finalised, may_wait}
use Rattle.brc_table.specs.declared.view.View.{View}
use Rattle.brc_table.specs.Views.{RowsAreThere, view_by, view_after, turned}
use Rattle.brc_heap.specs.Calls.{WorksAt, Leaves}
use Rattle.brc_heap.specs.Steps.{Keeps, TakesNothing, Steps, Refl, Next, HasStepped}
use Rattle.brc_heap.proofs.Keeping.{StaysOff, keeps_first, keeps_then, did_keeps}
use Rattle.brc_heap.proofs.Leaving.{is_plain, plain_status, plain_used, plain_off, works_leave}

-- ---- the object that the hand has locked

-- It isn't one that the hand's next duty finalises.
pub finalising_unlocked : (u : View) (d : Duty) (rest : List Duty) (x : ℕ) → RowsAreThere u → u.actor.agenda ≡ d ∷ rest
    → is_finalising d x ≡ true → u.actor.locked ≢ Some x
finalising_unlocked u d rest x there next this is =
    let none : finalised (d ∷ rest) x ≡ 0 =
    subst (λ (ds : List Duty). finalised ds x ≡ 0) next (there.unfinalised x is).duties in
    let some : finalised (d ∷ rest) x ≡ 1 + finalised rest x =
    ap (λ (b : Bool). if b then 1 + finalised rest x else finalised rest x) this in
    omega (arith, none, some)

-- So a step on another object's gate, or on a cell of it, leaves what the hand has seen of that object's cells.
pub gate_apart : (v u : View) (x : ℕ) → v.actor.locked ≢ Some x → u.actor.locked ≡ v.actor.locked → (y : ℕ)
    → u.actor.locked ≡ Some y
    → (x == y) ≡ false
gate_apart v u x apart same y is =
    ne_eqb x y (λ (e : x ≡ y). apart (sym same ∙ (is ∙ ap (λ (z : ℕ). Some z) (sym e))))

-- ---- duties that need a step: all but to settle an empty chain, and to scan no rows

pub plain_first : (head : ℕ) (d : Duty) (rest : List Duty) → is_plain d ≡ true → ready head (d ∷ rest) ≡ d ∷ rest
plain_first head Settle rest is = absurd cc
plain_first head (Scan i n) rest is = absurd cc
plain_first head (TakeFound w n) rest is = absurd cc
plain_first zero _ rest is = refl
plain_first (suc head) _ rest is = refl

pub die_first : (head x : ℕ) (rest : List Duty) → ready head (Die x ∷ rest) ≡ Die x ∷ rest
die_first zero x rest = refl
die_first (suc head) x rest = refl

plain_takes : (d : Duty) (rest : List Duty) → is_plain d ≡ true → TakesNothing (d ∷ rest)
plain_takes (TakeField x) rest is = absurd cc
plain_takes _ rest is = tt

-- ---- one duty more

-- A hand that hasn't done anything yet.
pub stepped_first : {v : View} {ds : List Duty} → v.actor.agenda ≡ ready v.actor.head ds → HasStepped v ds v
stepped_first {v} {ds} is = record { agenda = is; steps = Refl; keeps = keeps_first v }

-- The same of one whose first duty is about counts, kinds or marks.
pub plain_begins : {v : View} {d : Duty} {rest : List Duty} → v.actor.agenda ≡ d ∷ rest → is_plain d ≡ true
    → HasStepped v (d ∷ rest) v
plain_begins {v} {d} {rest} next plain = stepped_first (next ∙ sym (plain_first v.actor.head d rest plain))

-- The first duty that is left is done.
stepped_on : (v u : View) (d : Duty) (rest ds : List Duty) (found : ℕ) → HasStepped v (d ∷ rest) u
    → ready u.actor.head (d ∷ rest) ≡ d ∷ rest → TakesNothing (d ∷ rest)
    → status_by u.actor.status d ≡ u.actor.status → used_by u.actor.used d ≡ u.actor.used → StaysOff u d found
    → continuation u.layout u.thread (is_running u.actor.status) u.actor.head d found ++ rest ≡ ds
    → HasStepped v ds (view_after u found)
stepped_on v u d rest ds found at first takes status used stays next =
    let has : u.actor.agenda ≡ d ∷ rest = at.agenda ∙ first in
    let does : view_after u found ≡ view_by u (d ∷ rest) found = ap (λ (es : List Duty). view_by u es found) has in
    record {
      agenda =
          ap (λ (z : View). z.actor.agenda) does
          ∙ (ap (λ (es : List Duty). ready (new_head u.actor.head d found) es) next
          ∙ ap (λ (z : View). ready z.actor.head ds) (sym does));
      steps = Next u found at.steps (subst TakesNothing (sym has) takes);
      keeps = keeps_then at.keeps (subst (Keeps u) (sym does) (did_keeps u d rest found status used stays));
    }

-- It is one about counts, kinds or marks, and is followed by what the word found says.
pub plain_on : {v u : View} {d : Duty} {rest ds : List Duty} (found : ℕ) → HasStepped v (d ∷ rest) u
    → is_plain d ≡ true → continuation u.layout u.thread (is_running u.actor.status) u.actor.head d found ≡ ds
    → HasStepped v (ds ++ rest) (view_after u found)
plain_on {v} {u} {d} {rest} {ds} found at plain next =
    stepped_on v u d rest (ds ++ rest) found at (plain_first u.actor.head d rest plain) (plain_takes d rest plain)
    (plain_status d u.actor.status plain) (plain_used d u.actor.used plain) (plain_off u d found plain)
    (ap (λ (es : List Duty). es ++ rest) next)

-- It is the death of an object, which goes to the head of the chain.
pub died : {v u : View} {x : ℕ} {rest : List Duty} → HasStepped v (Die x ∷ rest) u → RowsAreThere u
    → HasStepped v rest (view_after u free_word)
died {v} {u} {x} {rest} at there =
    let apart = finalising_unlocked u (Die x) rest x there (at.agenda ∙ die_first u.actor.head x rest)
    (eq-eqb x x refl) in
    stepped_on v u (Die x) rest rest free_word at (die_first u.actor.head x rest) tt refl refl
    (record { locked = refl; cells = λ y i is. refl; gates = gate_apart u u x apart refl }) refl

-- ---- steps after steps

steps_then : (v u w : View) → Steps v u → Steps u w → Steps v w
steps_then v u w one Refl = one
steps_then v u w one (Next z found other takes) = Next z found (steps_then v u z one other) takes

pub stepped_then : {v u w : View} {ds es : List Duty} → HasStepped v ds u → HasStepped u es w → HasStepped v es w
stepped_then {v} {u} {w} one other = record {
  agenda = other.agenda;
  steps = steps_then v u w one.steps other.steps;
  keeps = keeps_then one.keeps other.keeps;
}

-- ---- work about one row

-- What is left is nothing, or one duty about counts or marks of the row.
abbrev pub IsPiece : ℕ → List Duty → Type 0
IsPiece x [] = Unit {0}
IsPiece x (d ∷ []) = (is_about x d ≡ true) × (is_plain d ≡ true) × (may_wait d ≡ true)
IsPiece x _ = ⊥

stepped_works : (x : ℕ) (v b u : View) → WorksAt x v b → Keeps b u → WorksAt x v u
stepped_works x v b u works keeps =
    subst (λ (rows : List ℕ). Keeps (record (turned v x) { references = rows }) u) (sym keeps.references)
    (keeps_then works keeps)

-- A hand that works at the row and goes on there leaves its other work as it was.
pub stepped_leaves : {x : ℕ} {v b u : View} {left : List Duty} → WorksAt x v b → HasStepped b left u → IsPiece x left
    → Leaves x left v u
stepped_leaves {x} {v} {b} {u} {left = []} works at piece =
    works_leave x v u [] (stepped_works x v b u works at.keeps) at.agenda tt tt
stepped_leaves {x} {v} {b} {u} {left = d ∷ []} works at piece =
    works_leave x v u (d ∷ []) (stepped_works x v b u works at.keeps)
    (at.agenda ∙ plain_first u.actor.head d [] piece.1) (piece.0, tt) piece.2
stepped_leaves {left = d ∷ e ∷ ds} works at piece = absurd piece
