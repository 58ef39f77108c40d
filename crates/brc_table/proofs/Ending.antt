-- What the last words and fields of a table say, by the model's laws of the end.
use Rattle.std.proofs.Common.{◌≡◌, ℕ, zero, suc, ◌+◌, ◌<◌, ◌≤◌, Bool, true, false, cond, Option, List, [], ◌∷◌, inl, inr, None, Some, refl, sym, ap, ◌∙◌, subst, arith}
use Rattle.std.specs.Prelude.{slice_get, ◌==◌, if◌then◌else◌}
use Rattle.std.specs.List.{list_any}
use Rattle.std.proofs.lemmas.Bool.{cases_lt}
use Rattle.std.proofs.lemmas.Option.{slice_get_within}
use mathlib.Core.Option as home
use mathlib.Core.Option.{some, some-injective, some-ne-none}
use Rattle.atomic_table.specs.Seated.{TableId}
use lib.ListN.{get_elem?}
use Rattle.brc_word.specs.Words.{closed_word}
use Rattle.brc_model.specs.declared.actor.Status.{Status}
use Rattle.brc_model.specs.declared.actor.Status.TheVariants.{Running, Leaving, Gone}
use Rattle.brc_model.specs.declared.address.Address.TheVariants.{Gate, KindOf, Cell, ThreadWord}
use Rattle.brc_model.specs.declared.layout.Layout.{Layout}
use Rattle.brc_model.specs.Knowledge.{status_word}
use Rattle.brc_model.specs.Layout.{row_count, IsCounted}
use Rattle.brc_model.specs.declared.actor.Actor.{Actor}
use Rattle.brc_model.specs.Machine.{Machine, idle_actor}
use Rattle.brc_model.specs.Accounts.{Accounts}
use Rattle.brc_model.specs.Counting.{Counts}
use Rattle.brc_model.specs.CellLaws.{ItemsAreThere}
use Rattle.brc_model.specs.Duties.{resources_of}
use Rattle.brc_model.specs.GuardLaws.{GoneThreadsHoldNothing}
use Rattle.brc_model.specs.FieldLaws as field_laws
use Rattle.brc_model.specs.FieldLaws.{UsesField, needs_field}
use Rattle.brc_model.specs.Ending as model
use Rattle.brc_table.specs.Plan.{Plan}
use Rattle.brc_table.specs.declared.view.View.{View}
use Rattle.brc_table.specs.Rule.{thread_reading, Stands}
use Rattle.brc_table.specs.Threads.{thread_word}
use Rattle.brc_table.specs.Homes.{resources, times_taken, IsHome, TableStands}
use Rattle.brc_table.specs.Ending.{EndState, EndsWith, plan_at, HaveEnded, FirstKindsStay, SeenEndsAreSo, CellsNameRows, RowsEnd, FieldsEnd, kind_at, gate_at, cell_at, field_at, resources_in}

-- ---- threads

-- The word of a thread that is gone.
pub status_gone : (s : Status) → status_word s ≡ 3 → s ≡ Gone
status_gone Running is = absurd (omega (arith, is))
status_gone Leaving is = absurd (omega (arith, is))
status_gone Gone is = refl

module _ (plan : Plan) (words : List ℕ) (views : List View) (s : Stands plan words views)
    (ended : HaveEnded plan.layout words) where
  low : (t : ℕ) → t < 1 + s.machine.layout.workers → t ≤ plan.layout.workers
  low t below = omega (arith, below, ap (λ (l : Layout). l.workers) s.layout_is)

  -- A thread that was never started has no hand.
  no_hand : (t : ℕ) → thread_word words t ≡ 0 → (id : ℕ) (v : View) → get_elem? views id ≡ some v → v.thread ≡ t → ⊥
  no_hand t none id v here same =
      omega (arith, none, subst (λ (k : ℕ). 0 < thread_word words k) same (s.threads.started id v here))

  machine_ended : model.HaveEnded s.accounts s.machine
  machine_ended t a found =
      let below : t < 1 + s.machine.layout.workers =
      omega (arith, slice_get_within s.machine.actors t a found, s.counts.kept.core.threads) in
      elim (ended t (low t below)) [
        | inl gone ↦
            let says : status_word a.status ≡ 3 =
            sym (s.counts.kept.core.each t a found).0.word
            ∙ (s.reads (ThreadWord t) below ∙ ap thread_reading gone) in
            inl (status_gone a.status says)
        | inr none ↦
            let idle = s.idle t below (no_hand t none) in
            let same : a ≡ idle_actor 0 =
            let e : Some a ≡ Some (idle_actor 0) = sym found ∙ idle.0 in cc in
            inr (same, idle.1)
      ]

-- ---- rows

pub rows_ended : model.RowsEnd → RowsEnd
rows_ended law plan words views x s ended counted there =
    let m = s.machine in
    let l = s.layout_is in
    let there' : x < row_count m.layout = subst (λ (k : Layout). x < row_count k) (sym l) there in
    let counted' : IsCounted m.layout x = subst (λ (k : Layout). IsCounted k x) (sym l) counted in
    let ends =
    law s.accounts (1 + m.layout.workers) m x s.counts (machine_ended plan words views s ended) counted' there' in
    let kind : m.memory (KindOf x) ≡ kind_at words x = s.reads (KindOf x) there' in
    let gate : (y : ℕ) → y < row_count m.layout → m.memory (Gate y)
    ≡ gate_at words y = λ y low_y. s.reads (Gate y) low_y in
    let cell : (y i : ℕ) → y < row_count m.layout → i < m.layout.cells
    → m.memory (Cell y i) ≡ cell_at plan.layout words y i =
    λ y i low_y low_i. s.reads (Cell y i) (low_y, low_i) ∙ ap (λ (k : Layout). cell_at k words y i) l in
    let low_cell : (i : ℕ) → i < plan.layout.cells → i < m.layout.cells =
    λ i low. subst (λ (k : Layout). i < k.cells) (sym l) low in
    let shut : gate_at words x ≡ closed_word → m.memory (Gate x) ≡ closed_word = λ is. gate x there' ∙ is in
    record {
      left = λ born not_closed.
          let named = ends.left (omega (arith, born, kind)) (λ is. not_closed (sym (gate x there') ∙ is)) in
          record {
            list = named.list;
            cell = named.cell;
            there = subst (λ (k : Layout). named.list < row_count k) l named.there;
            low = subst (λ (k : Layout). named.cell < k.cells) l named.low;
            names = sym (cell named.list named.cell named.there named.low) ∙ named.names;
            not_closed = λ is. named.not_closed (gate named.list named.there ∙ is);
          };
      closed_born = λ is. omega (arith, ends.closed_born (shut is), kind);
      closed_unnamed = λ is y i low_y low_i names.
          let low_y' : y < row_count m.layout = subst (λ (k : Layout). y < row_count k) (sym l) low_y in
          ends.closed_unnamed (shut is) y i (cell y i low_y' (low_cell i low_i) ∙ names);
      closed_empty = λ is i low_i. sym (cell x i there' (low_cell i low_i)) ∙ ends.closed_empty (shut is) i;
    }

-- What main's hand has seen of a thread's end is so.
pub seen_ends : SeenEndsAreSo
seen_ends v end ends first all t below =
    let s = ends.stands in
    let below' : t ≤ s.machine.layout.workers =
    subst (λ (l : Layout). t ≤ l.workers) (sym s.layout_is) below in
    elim (all t below) [
      | inl gone ↦ inl (s.threads.gone_seen ends.id t v ends.here below' gone)
      | inr never ↦
          inr (s.threads.unstarted ends.id t v ends.here first never.some_worker below' never.not_given
          ∙ ap (λ (b : Bool). cond b 1 0) never.not_started)
    ]

-- The kind word of a row that was there from the start is still the row's first one.
pub first_kinds : FirstKindsStay
first_kinds v end x ends first there =
    let s = ends.stands in
    sym (s.reads (KindOf x) (subst (λ (l : Layout). x < row_count l) (sym s.layout_is) there)) ∙ s.first_kinds x first

-- ---- cells

named_there : (rows word : ℕ) → ((y : ℕ) → word ≡ suc y → y < rows) → word ≤ rows
named_there rows zero low = omega arith
named_there rows (suc y) low = omega (arith, low y refl)

-- The cells of a table name rows.
pub cells_name_rows : ItemsAreThere → (plan : Plan) (words : List ℕ) (views : List View)
    → Stands plan words views → CellsNameRows plan.layout words
cells_name_rows law plan words views s y i there low =
    let m = s.machine in
    let there' : y < row_count m.layout = subst (λ (l : Layout). y < row_count l) (sym s.layout_is) there in
    let low' : i < m.layout.cells = subst (λ (l : Layout). i < l.cells) (sym s.layout_is) low in
    let cell : m.memory (Cell y i) ≡ cell_at m.layout words y i = s.reads (Cell y i) (there', low') in
    subst (λ (l : Layout). cell_at l words y i ≤ row_count l) s.layout_is
    (named_there (row_count m.layout) (cell_at m.layout words y i)
    (λ z is. law s.accounts (1 + m.layout.workers) m y i z s.counts (cell ∙ is)))

-- ---- fields

-- The same gate and kind leave the same in a field.
same_left : (gate gate' kind kind' : ℕ) → gate ≡ gate' → kind ≡ kind'
    → (if gate == closed_word then 0 else resources_of kind) ≡ (if gate' == closed_word then 0 else resources_of kind')
same_left gate gate' kind kind' e f = cc

-- A thread that is gone, or was never started, uses no field.
unused_at_end : GoneThreadsHoldNothing → (p : Accounts) (n : ℕ) (m : Machine) (t : ℕ) (a : Actor) (x : ℕ)
    → Counts p n m → model.HaveEnded p m → slice_get m.actors t ≡ Some a → UsesField a x → ⊥
unused_at_end law p n m t a x counts ended found uses =
    let none : (a.agenda ≡ []) × (a.locked ≡ None) = elim (ended t a found) [
      | inl gone ↦ let held = law p n m t a counts found gone in (held.agenda, held.unlocked)
      | inr idle ↦ (ap (λ (b : Actor). b.agenda) idle.0, ap (λ (b : Actor). b.locked) idle.0)
    ] in
    elim uses [
      | inl locked ↦ let wrong : None ≡ Some x = sym none.1 ∙ locked in absurd cc
      | inr some_duty ↦ let wrong : false ≡ true = sym (ap (list_any (needs_field x)) none.0) ∙ some_duty in absurd cc
    ]

-- At the end each field is at home.
all_home : GoneThreadsHoldNothing → (v : View) (end : EndState) (ends : EndsWith v end) (x : ℕ)
    → HaveEnded end.layout end.words → IsHome ends.views x
all_home law v end ends x ended other w there = elim (cases_lt 0 (times_taken x w)) [
  | inl some_times ↦
      let s = ends.stands in
      absurd (unused_at_end law s.accounts (1 + s.machine.layout.workers) s.machine w.thread w.actor x s.counts
      (machine_ended (plan_at end) end.words ends.views s ended) (s.same_actor other w there)
      (ends.used other x w there (omega (arith, some_times))))
  | inr not ↦ omega (arith, not)
]

-- So it holds what the model's law says.
pub fields_ended : field_laws.FieldsEnd → GoneThreadsHoldNothing → FieldsEnd
fields_ended law gone v end x ends ended counted there =
    let s = ends.stands in
    let m = s.machine in
    let there' : x < row_count m.layout = subst (λ (k : Layout). x < row_count k) (sym s.layout_is) there in
    let counted' : IsCounted m.layout x = subst (λ (k : Layout). IsCounted k x) (sym s.layout_is) counted in
    ends.homes x there (all_home gone v end ends x ended)
    ∙ (law s.accounts (1 + m.layout.workers) m x s.counts
    (machine_ended (plan_at end) end.words ends.views s ended) counted'
    ∙ same_left (m.memory (Gate x)) (gate_at end.words x) (m.memory (KindOf x)) (kind_at end.words x)
    (s.reads (Gate x) there') (s.reads (KindOf x) there'))

-- The last fields hold what the homes held.
field_found : {T : Type 0} (fields : List (Option T)) (x : ℕ) (field : Option T) → get_elem? fields x ≡ some field
    → field_at (resources_in fields) x ≡ resources field
field_found [] x field is = absurd (some-ne-none field (sym is))
field_found (s ∷ ss) zero field is = ap resources (some-injective s field is)
field_found (s ∷ ss) (suc x) field is = field_found ss x field is

-- A table whose last words and views meet the rule was closed with each of its hands.
pub ends_with : {T : Type 0} (plan : Plan) (words : List ℕ) (homes : List (home.Option (Option T)))
    (views : List View) (fields : List (Option T)) (table : TableId) (v : View) (id : ℕ)
    → TableStands plan words homes views → get_elem? views id ≡ some v
    → ((k : ℕ) (field : Option T) → get_elem? homes k ≡ some (some field) → get_elem? fields k ≡ some field)
    → EndsWith v (record {
      table = table;
      layout = plan.layout;
      lines = plan.lines;
      words = words;
      fields = resources_in fields;
    })
ends_with plan words homes views fields table v id holds here same =
    let s = holds.stands in
    record {
      views = views;
      id = id;
      here = here;
      stands = s;
      homes = λ x there at_home.
          let it =
          holds.fields.at_home x (subst (λ (k : Layout). x < row_count k) (sym s.layout_is) there) at_home in
          field_found fields x it.field (same x it.field it.there) ∙ it.holds;
      used = holds.fields.used;
    }
