-- What the steps leave by which a hand finalises an object.
use Rattle.std.proofs.Common.{◌≡◌, ◌≢◌, ℕ, zero, suc, ◌+◌, ◌-◌, ◌<◌, Bool, true, false, List, [], ◌∷◌, ◌++◌, Some, refl, sym, ap, ◌∙◌, subst, arith}
use Rattle.std.proofs.Math.Nat.{lt_irrefl, le_refl}
use Rattle.std.proofs.lemmas.Bool.{eq-eqb, lt-ltb, le-ltb}
use Rattle.std.specs.Prelude.{◌==◌, ◌&&◌, nat_lt, if◌then◌else◌}
use Rattle.brc_host.specs.HostCalls.{HostCall, Close}
use Rattle.brc_model.specs.declared.actor.Status.TheVariants.{Running, Gone}
use Rattle.brc_model.specs.declared.duty.Holding.TheVariants.{InFlight}
use Rattle.brc_model.specs.declared.duty.Duty.{Duty}
use Rattle.brc_model.specs.declared.duty.Duty.TheVariants.{ReleaseLoad, Settle, SettleKind, SettleCell, TakeField, SettleEnd}
use Rattle.brc_model.specs.Duties.{ready, has_resource, cells_of, cells_from, release_found}
use Rattle.brc_table.specs.declared.view.View.{View}
use Rattle.brc_table.specs.Views.{RowsAreThere, view_by, view_after, settling, settle_first, field_emptied, field_emptied_by, with_next}
use Rattle.brc_table.specs.Calls.{MaySettle, SettlesFrom}
use Rattle.brc_free.specs.Works.{Works, Next, HasWorked, ComesToSettle, AtOnce, InWork, to_settle, closes_by}
use Rattle.brc_heap.specs.Steps.{Keeps}
use Rattle.brc_heap.proofs.Keeping.{keeps_then, keeps_beside, did_keeps}
use Rattle.brc_heap.proofs.Stepping.{finalising_unlocked, gate_apart}
use Rattle.brc_free.proofs.Working.{head_unlocked, worked_first, worked_on, worked_then}
use Rattle.brc_free.proofs.FirstDuties.{settle_kind_first, settle_cell_first, take_field_first, settle_end_first}

-- ---- taking the first object off the chain

-- A hand that settles next isn't gone.
pub comes_alive : (v : View) (rest : List Duty) → ComesToSettle v rest → v.actor.status ≢ Gone
comes_alive v rest (AtOnce running aside idle) = λ gone. absurd (running_gone (sym running ∙ gone)) where
  running_gone : Running ≡ Gone → ⊥
  running_gone is = absurd cc
comes_alive v rest (InWork duties alive next) = alive

-- With an object in the chain, to settle it needs a step.
pub settle_ready : (head : ℕ) (rest : List Duty) → 0 < head → ready head (Settle ∷ rest) ≡ Settle ∷ rest
settle_ready zero rest some = absurd (lt_irrefl 0 some)
settle_ready (suc head) rest some = refl

-- A hand that settles next may do so,
pub may_settle : (v : View) (rest : List Duty) → 0 < v.actor.head → ComesToSettle v rest → MaySettle v
may_settle v rest some (AtOnce running aside idle) =
    subst (SettlesFrom v) (sym idle) (running, aside)
may_settle v rest some (InWork duties alive next) =
    subst (SettlesFrom v) (sym (next ∙ settle_ready v.actor.head duties some)) alive

-- and does it first.
settles_first : (v : View) (rest : List Duty) → 0 < v.actor.head → ComesToSettle v rest
    → settle_first v.actor.agenda ≡ Settle ∷ rest
settles_first v rest some (AtOnce running aside idle) = ap settle_first idle
settles_first v rest some (InWork duties alive next) =
    ap settle_first (next ∙ settle_ready v.actor.head duties some)

-- With an object in the chain, the hand that begins to settle is the hand that settles next.
to_settle_begins : (v : View) (rest : List Duty) → 0 < v.actor.head → ComesToSettle v rest → settling v
    ≡ to_settle rest v
to_settle_begins v rest some at =
    ap (with_next v)
    (settles_first v rest some at ∙ sym (settle_ready v.actor.head rest some))

-- The first object is off the chain.
pub taken_off : (v w : View) (x found : ℕ) (rest : List Duty) → 0 < v.actor.head → x ≡ v.actor.head - 1
    → ComesToSettle v rest
    → w ≡ view_after (settling v) found → RowsAreThere v
    → HasWorked (to_settle rest v) [] (SettleKind x ∷ Settle ∷ rest) w
taken_off v w x found rest some row at is there =
    let apart = head_unlocked v (v.actor.head - 1) there some refl in
    let begun = to_settle rest v in
    worked_on begun begun w [] Settle rest (SettleKind x ∷ Settle ∷ rest) found
    (worked_first begun (Settle ∷ rest) refl) (settle_ready v.actor.head rest some) refl refl
    (is ∙ ap (λ (z : View). view_after z found) (to_settle_begins v rest some at))
    refl refl (record { locked = refl; cells = λ y i is. refl; gates = gate_apart v v (v.actor.head - 1) apart refl })
    (ap (λ (y : ℕ). SettleKind y ∷ Settle ∷ rest) (sym row))

-- ---- its kind

-- A file or a socket has a resource to be closed,
pub kind_has_resource : (v u w : View) (cs : List HostCall) (x found : ℕ) (rest : List Duty)
    → HasWorked v cs (SettleKind x ∷ rest) u → w ≡ view_after u found → has_resource found ≡ true
    → HasWorked v cs (TakeField x ∷ rest) w
kind_has_resource v u w cs x found rest at is has =
    worked_on v u w cs (SettleKind x) rest (TakeField x ∷ rest) found at (settle_kind_first u.actor.head x rest) refl
    refl is
    refl refl (record { locked = refl; cells = λ y i is. refl; gates = λ y is. refl })
    (ap (λ (b : Bool). (if b then TakeField x ∷ [] else cells_from x 0 (cells_of found)) ++ rest) has)

-- and any other object may have cells.
pub kind_has_cells : (v u w : View) (cs : List HostCall) (x found : ℕ) (rest : List Duty)
    → HasWorked v cs (SettleKind x ∷ rest) u
    → w ≡ view_after u found → has_resource found ≡ false → HasWorked v cs (cells_from x 0 (cells_of found) ++ rest) w
kind_has_cells v u w cs x found rest at is none =
    worked_on v u w cs (SettleKind x) rest (cells_from x 0 (cells_of found) ++ rest) found at
    (settle_kind_first u.actor.head x rest) refl refl is
    refl refl (record { locked = refl; cells = λ y i is. refl; gates = λ y is. refl })
    (ap (λ (b : Bool). (if b then TakeField x ∷ [] else cells_from x 0 (cells_of found)) ++ rest) none)

-- These may be as many as the code has counted.
pub cells_next : (v u w : View) (x found count : ℕ) (rest : List Duty) → HasWorked v [] (SettleKind x ∷ Settle ∷ rest) u
    → w ≡ view_after u found → has_resource found ≡ false → count ≡ cells_of found
    → HasWorked v [] (cells_from x 0 count ++ Settle ∷ rest) w
cells_next v u w x found count rest at is none same =
    subst (λ (m : ℕ). HasWorked v [] (cells_from x 0 m ++ Settle ∷ rest) w) (sym same)
    (kind_has_cells v u w [] x found (Settle ∷ rest) at is none)

-- ---- its cells

-- Cells that are left need steps, and so does the end.
pub cells_first : (head x i n : ℕ) (rest : List Duty) → ready head (cells_from x i n ++ rest) ≡ cells_from x i n ++ rest
cells_first head x i n rest = first (nat_lt i n) where
  first : (more : Bool)
      → let ds = (if more then SettleCell x i n ∷ [] else SettleEnd x ∷ []) ++ rest in ready head ds ≡ ds
  first true = settle_cell_first head x i n rest
  first false = settle_end_first head x rest

-- The hand that is to do them hasn't locked the list.
pub cells_unlocked : (v : View) (x n : ℕ) (rest : List Duty) → RowsAreThere v
    → v.actor.agenda ≡ cells_from x 0 n ++ rest → v.actor.locked ≢ Some x
cells_unlocked v x n rest there is = first (nat_lt 0 n) is where
  first : (more : Bool)
      → v.actor.agenda ≡ (if more then SettleCell x 0 n ∷ [] else SettleEnd x ∷ []) ++ rest → v.actor.locked ≢ Some x
  first true is = finalising_unlocked v (SettleCell x 0 n) rest x there is (eq-eqb x x refl)
  first false is = finalising_unlocked v (SettleEnd x) rest x there is (eq-eqb x x refl)

-- The next cell that is left.
pub cell_next : (x i n : ℕ) (rest : List Duty) → i < n → cells_from x i n ++ rest ≡ SettleCell x i n ∷ rest
cell_next x i n rest low =
    ap (λ (b : Bool). (if b then SettleCell x i n ∷ [] else SettleEnd x ∷ []) ++ rest) (lt-ltb i n low)

-- A cell is empty now, and what was there is given up next.
pub cell_emptied : (v u w : View) (cs : List HostCall) (x i m found : ℕ) (rest : List Duty)
    → HasWorked v cs (SettleCell x i m ∷ rest) u
    → w ≡ view_after u found → v.actor.locked ≢ Some x → HasWorked v cs
    (release_found found ++ (cells_from x (i + 1) m ++ rest)) w
cell_emptied v u w cs x i m found rest at is apart =
    worked_on v u w cs (SettleCell x i m) rest (release_found found ++ (cells_from x (i + 1) m ++ rest)) found at
    (settle_cell_first u.actor.head x i m rest) refl refl is
    refl refl (record {
      locked = refl;
      cells = λ y j is. ap (λ (b : Bool). b && (i == j)) (gate_apart v u x apart at.keeps.locked y is);
      gates = λ y is. refl;
    })
    (behind_release found (cells_from x (i + 1) m) rest) where
      behind_release : (found : ℕ) (ds es : List Duty)
          → (release_found found ++ ds) ++ es ≡ release_found found ++ (ds ++ es)
      behind_release zero ds es = refl
      behind_release (suc y) ds es = refl

-- what is given up, if there was something
pub item_found : (found : ℕ) → found ≢ 0 → release_found found ≡ ReleaseLoad (found - 1) InFlight ∷ []
item_found zero some = absurd (some refl)
item_found (suc y) some = ap (λ (x : ℕ). ReleaseLoad x InFlight ∷ []) (one_less y) where
  one_less : (y : ℕ) → y ≡ suc y - 1
  one_less y = omega (arith)

-- All cells are empty now, and the list is closed.
pub all_closed : (v u w : View) (x n : ℕ) (rest : List Duty) → HasWorked v [] (cells_from x 0 n ++ Settle ∷ rest) u
    → ((later : List Duty) → u.actor.agenda ≡ cells_from x 0 n ++ later → HasWorked u [] later w)
    → HasWorked v [] (Settle ∷ rest) w
all_closed v u w x n rest at closed =
    worked_then v u w [] [] (cells_from x 0 n ++ Settle ∷ rest) (Settle ∷ rest) at
    (closed (Settle ∷ rest) (at.agenda ∙ cells_first u.actor.head x 0 n (Settle ∷ rest)))

-- After the last cell the object is closed.
pub cells_end : (x n : ℕ) (rest : List Duty) → cells_from x n n ++ rest ≡ SettleEnd x ∷ rest
cells_end x n rest =
    ap (λ (b : Bool). (if b then SettleCell x n n ∷ [] else SettleEnd x ∷ []) ++ rest) (le-ltb n n (le_refl n))

-- ---- its end

-- The object is closed: one without a resource,
pub ended : (v u w : View) (cs : List HostCall) (x found : ℕ) (rest : List Duty) → HasWorked v cs (SettleEnd x ∷ rest) u
    → w ≡ view_after (field_emptied u) found → v.actor.locked ≢ Some x → HasWorked v cs rest w
ended v u w cs x found rest at is apart =
    let has : u.actor.agenda ≡ SettleEnd x ∷ rest = at.agenda ∙ settle_end_first u.actor.head x rest in
    worked_on v u w cs (SettleEnd x) rest rest found at (settle_end_first u.actor.head x rest) refl refl
    (is ∙ ap (λ (ds : List Duty). view_after (field_emptied_by ds u) found) has)
    refl refl (record { locked = refl; cells = λ y i is. refl; gates = gate_apart v u x apart at.keeps.locked }) refl

-- and one whose resource was closed.
pub ended_empty : (v u w : View) (cs : List HostCall) (x found : ℕ) (failed : Bool) (rest : List Duty)
    → HasWorked v cs (TakeField x ∷ rest) u → w ≡ view_after (field_emptied u) found → v.actor.locked ≢ Some x
    → HasWorked v (cs ++ Close failed ∷ []) rest w
ended_empty v u w cs x found failed rest at is apart =
    let has : u.actor.agenda ≡ TakeField x ∷ rest = at.agenda ∙ take_field_first u.actor.head x rest in
    let emptied : View = with_next u (SettleEnd x ∷ rest) in
    let does : w ≡ view_by emptied (SettleEnd x ∷ rest) found =
    is ∙ ap (λ (ds : List Duty). view_after (field_emptied_by ds u) found) has in
    let work : Works v (cs ++ Close failed ∷ []) (view_after (field_emptied u) found) =
    subst (λ (ds : List Duty). Works v (cs ++ closes_by ds failed) (view_after (field_emptied u) found)) has
    (Next cs u found failed at.works) in
    record {
      agenda = ap (λ (z : View). z.actor.agenda) does ∙ ap (λ (z : View). ready z.actor.head rest) (sym does);
      works = subst (Works v (cs ++ Close failed ∷ [])) (sym is) work;
      keeps =
          keeps_then at.keeps
          (subst (Keeps u) (sym does)
          (keeps_then (keeps_beside u (SettleEnd x ∷ rest))
          (did_keeps emptied (SettleEnd x) rest found refl refl
          (record { locked = refl; cells = λ y i is. refl; gates = gate_apart v u x apart at.keeps.locked }))));
    }

-- ---- the end of the chain

-- With an empty chain the hand goes on with what comes behind.
pub settled : (u : View) (rest : List Duty) → u.actor.head ≡ 0 → ComesToSettle u rest → u.actor.agenda
    ≡ ready u.actor.head rest
settled u rest none (AtOnce running aside idle) = idle
settled u rest none (InWork duties alive next) =
    next ∙ (ap (λ (head : ℕ). ready head (Settle ∷ duties)) none ∙ sym (ap (λ (head : ℕ). ready head duties) none))

-- If to settle is what the hand does next, `to_settle` leaves it as it is,
pub to_settle_next : (u : View) (rest : List Duty) → u.actor.agenda ≡ ready u.actor.head (Settle ∷ rest)
    → to_settle rest u ≡ u
to_settle_next u rest next = ap (with_next u) (sym next)

-- and so it does if the chain is empty.
pub to_settle_none : (u : View) (rest : List Duty) → u.actor.head ≡ 0 → ComesToSettle u rest → to_settle rest u ≡ u
to_settle_none u rest none (AtOnce running aside idle) =
    to_settle_next u [] (idle ∙ sym (ap (λ (head : ℕ). ready head (Settle ∷ [])) none))
to_settle_none u rest none (InWork duties alive next) = to_settle_next u duties next
