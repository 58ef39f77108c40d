-- One hand's view changes, and what holds of fields holds again: the hand keeps its fields, takes one, or gives one
-- back.
use Rattle.std.proofs.Common.{◌≡◌, ◌≢◌, ◌⊎◌, ℕ, ◌+◌, ◌<◌, ◌≤◌, Option, None, Some, List, [], ◌∷◌, ◌++◌, set, inl, inr, refl, sym, ap, ◌∙◌, subst, arith}
use Rattle.std.specs.Prelude.{◌==◌}
use Rattle.std.proofs.lemmas.Bool.{cases_lt, eq-eqb}
use Rattle.std.proofs.lemmas.Bool.Decides.{eqb_tells}
use Rattle.std.proofs.lemmas.List.{length-set}
use mathlib.Core.Option as home
use lib.ListN.{get_elem?}
use Rattle.atomic_table.proofs.Lists.{at_set, set_else, set_here, at_longer, at_snoc}
use Rattle.brc_model.specs.declared.address.Address.TheVariants.{Field}
use Rattle.brc_model.specs.declared.layout.Layout.{Layout}
use Rattle.brc_model.specs.Layout.{row_count}
use Rattle.brc_model.specs.References.{one_if}
use Rattle.brc_model.specs.Machine.{Machine}
use Rattle.brc_model.specs.FieldLaws.{UsesField}
use Rattle.brc_table.specs.declared.view.View.{View}
use Rattle.brc_table.specs.Homes.{resources, times_in, times_taken, IsHome, HoldsHome, FieldsStand}
use Rattle.brc_table.proofs.Lists.{set_view}
use Rattle.brc_table.proofs.Picked.{count_more}

-- The hand has the fields that it had, and uses each that it used.
pub record KeepsFields (v w : View) : Type 0 where
  pub taken : w.taken ≡ v.taken
  pub in_field : (x : ℕ) → v.actor.locked ≡ Some x → w.in_field ≡ v.in_field
  pub locked : w.actor.locked ≡ v.actor.locked
  pub used : (x : ℕ) → UsesField v.actor x → UsesField w.actor x

module _ {T : Type 0} (m n : Machine) (homes : List (home.Option (Option T))) (views : List View) (id : ℕ) (v w : View)
    (old : FieldsStand m homes views) (here : get_elem? views id ≡ home.some v)
    (layout_same : n.layout ≡ m.layout) where
  -- what is said of a hand of the new list: it is the changed one, or was in the old list
  data Whose (other : ℕ) (z : View) : Type 0 where
    Changed : other ≡ id → w ≡ z → Whose other z
    Another : other ≢ id → get_elem? views other ≡ home.some z → Whose other z

  whose : (other : ℕ) (z : View) → get_elem? (set views id w) other ≡ home.some z → Whose other z
  whose other z is = elim (at_set views id other w z is) [
    | inl same ↦ Changed same.0 same.1
    | inr apart ↦ Another apart.0 apart.1
  ]

  low_before : (x : ℕ) → x < row_count n.layout → x < row_count m.layout
  low_before x low = subst (λ (l : Layout). x < row_count l) layout_same low

  -- ---- it keeps its fields

  module _ (keeps : KeepsFields v w)
      (same : (x : ℕ) → (times_in x v.taken ≡ 0) ⊎ (v.actor.locked ≡ Some x)
      → n.memory (Field x) ≡ m.memory (Field x)) where
    times_kept : (x : ℕ) → times_taken x w ≡ times_taken x v
    times_kept x = ap (times_in x) keeps.taken

    -- A hand of the new list was in the old one, with as many fields.
    record Had (other : ℕ) (z : View) : Type 0 where
      pub view : View
      pub found : get_elem? views other ≡ home.some view
      pub times : (x : ℕ) → times_taken x z ≡ times_taken x view

    had : (other : ℕ) (z : View) → Whose other z → Had other z
    had other z (Changed this now) = record {
      view = v;
      found = ap (get_elem? views) this ∙ here;
      times = λ x. ap (times_taken x) (sym now) ∙ times_kept x;
    }
    had other z (Another apart there) = record { view = z; found = there; times = λ x. refl }

    home_before : (x : ℕ) → IsHome (set views id w) x → IsHome views x
    home_before x is other z there = elim (eqb_tells other id) [
      | inl this ↦
          let none = is id w (set_view views id v w here) in
          let mine : z ≡ v = home.some-injective z v (sym there ∙ (ap (get_elem? views) this.1 ∙ here)) in
          ap (times_taken x) mine ∙ (sym (times_kept x) ∙ none)
      | inr apart ↦ is other z (set_else views id other w apart.1 ∙ there)
    ]

    used_after : (other x : ℕ) (z : View) → Whose other z → 1 ≤ times_taken x z → UsesField z.actor x
    used_after other x z (Changed this now) taken =
        subst (λ (u : View). UsesField u.actor x) now
        (keeps.used x
        (old.used id x v here (omega (arith, taken, ap (times_taken x) now, times_kept x))))
    used_after other x z (Another apart there) taken = old.used other x z there taken

    locked_after : (other x : ℕ) (z : View) → Whose other z → z.actor.locked ≡ Some x
        → (1 ≤ times_taken x z) × (n.memory (Field x) ≡ z.in_field)
    locked_after other x z (Changed this now) locks =
        let mine : v.actor.locked ≡ Some x = sym keeps.locked ∙ (ap (λ (u : View). u.actor.locked) now ∙ locks) in
        let was = old.locked id x v here mine in (
          omega (arith, was.0, ap (times_taken x) now, times_kept x),
          same x (inr mine) ∙ (was.1 ∙ (sym (keeps.in_field x mine) ∙ ap (λ (u : View). u.in_field) now)),
        )
    locked_after other x z (Another apart there) locks =
        let was = old.locked other x z there locks in
        let none : times_in x v.taken ≡ 0 = elim (cases_lt 0 (times_taken x v)) [
          | inl some_times ↦ absurd (apart (old.alone other id x z v there here was.0 (omega (arith, some_times))))
          | inr not ↦ omega (arith, not)
        ] in
        (was.0, same x (inl none) ∙ was.1)

    pub fields_kept : FieldsStand n homes (set views id w)
    fields_kept = record {
      rows = old.rows ∙ sym (ap row_count layout_same);
      at_home = λ x low is.
          let was = old.at_home x (low_before x low) (home_before x is) in
          let none : times_in x v.taken ≡ 0 = home_before x is id v here in
          record { field = was.field; there = was.there; holds = was.holds ∙ sym (same x (inl none)) };
      once = λ other x z is.
          let h = had other z (whose other z is) in omega (arith, h.times x, old.once other x h.view h.found);
      alone = λ one other x y z is that first second.
          let a = had one y (whose one y is) in
          let b = had other z (whose other z that) in
          old.alone one other x a.view b.view a.found b.found (omega (arith, first, a.times x))
          (omega (arith, second, b.times x));
      used = λ other x z is taken. used_after other x z (whose other z is) taken;
      locked = λ other x z is locks. locked_after other x z (whose other z is) locks;
    }

  -- ---- it takes one

  module _ (x : ℕ) (taken_is : w.taken ≡ x ∷ v.taken) (is_home : IsHome views x) (uses : UsesField w.actor x)
      (keeps : (y : ℕ) → UsesField v.actor y → UsesField w.actor y)
      (same : (y : ℕ) → (times_in y v.taken ≡ 0) ⊎ (v.actor.locked ≡ Some y) → n.memory (Field y) ≡ m.memory (Field y))
      (locks : (y : ℕ) → w.actor.locked ≡ Some y
      → ((y ≡ x) × (m.memory (Field x) ≡ w.in_field)) ⊎ ((v.actor.locked ≡ Some y) × (w.in_field ≡ v.in_field))) where
    times_more : (y : ℕ) → times_taken y w ≡ one_if (x == y) + times_taken y v
    times_more y = ap (times_in y) taken_is ∙ omega (arith, count_more x y v.taken)

    one_more : times_taken x w ≡ 1
    one_more =
        let one : one_if (x == x) ≡ 1 = ap one_if (eq-eqb x x refl) in
        omega (arith, one, times_more x, is_home id v here)

    other_row : (y : ℕ) → y ≢ x → times_taken y w ≡ times_taken y v
    other_row y apart = elim (eqb_tells x y) [
      | inl this ↦ absurd (apart (sym this.1))
      | inr not ↦ let none : one_if (x == y) ≡ 0 = ap one_if not.0 in omega (arith, none, times_more y)
    ]

    -- A hand has the row's field, or what it had.
    is_more : (other y : ℕ) (z : View) → Whose other z → 1 ≤ times_taken y z
        → ((y ≡ x) × (other ≡ id)) ⊎ ((z' : View) × (get_elem? views other ≡ home.some z') × (1 ≤ times_taken y z'))
    is_more other y z (Changed this now) taken = elim (eqb_tells y x) [
      | inl row ↦ inl (row.1, this)
      | inr apart ↦
          inr (
            v,
            ap (get_elem? views) this ∙ here,
            omega (arith, taken, ap (times_taken y) now, other_row y apart.1),
          )
    ]
    is_more other y z (Another apart there) taken = inr (z, there, taken)

    home_taken : (y : ℕ) → IsHome (set views id w) y → (y ≢ x) × IsHome views y
    home_taken y is =
        let apart : y ≢ x = λ e.
        omega (arith, is id w (set_view views id v w here), one_more, ap (λ (k : ℕ). times_taken k w) e) in (
          apart,
          λ other z there. elim (eqb_tells other id) [
            | inl this ↦
                let none = is id w (set_view views id v w here) in
                let mine : z ≡ v = home.some-injective z v (sym there ∙ (ap (get_elem? views) this.1 ∙ here)) in
                ap (times_taken y) mine ∙ (sym (other_row y apart) ∙ none)
            | inr else ↦ is other z (set_else views id other w else.1 ∙ there)
          ],
        )

    once_taken : (other y : ℕ) (z : View) → Whose other z → times_taken y z ≤ 1
    once_taken other y z (Changed this now) = elim (eqb_tells y x) [
      | inl row ↦
          omega (arith, ap (times_taken y) now, ap (λ (k : ℕ). times_taken k w) row.1, one_more)
      | inr apart ↦ omega (arith, ap (times_taken y) now, other_row y apart.1, old.once id y v here)
    ]
    once_taken other y z (Another apart there) = old.once other y z there

    used_taken : (other y : ℕ) (z : View) → Whose other z → 1 ≤ times_taken y z → UsesField z.actor y
    used_taken other y z (Changed this now) taken =
        subst (λ (u : View). UsesField u.actor y) now (elim (eqb_tells y x) [
          | inl row ↦ subst (UsesField w.actor) (sym row.1) uses
          | inr apart ↦
              keeps y (old.used id y v here (omega (arith, taken, ap (times_taken y) now, other_row y apart.1)))
        ])
    used_taken other y z (Another apart there) taken = old.used other y z there taken

    locked_taken : (other y : ℕ) (z : View) → Whose other z → z.actor.locked ≡ Some y
        → (1 ≤ times_taken y z) × (n.memory (Field y) ≡ z.in_field)
    locked_taken other y z (Changed this now) locked =
        subst (λ (u : View). (1 ≤ times_taken y u) × (n.memory (Field y) ≡ u.in_field)) now
        (elim (locks y (ap (λ (u : View). u.actor.locked) now ∙ locked)) [
          | inl row ↦
              subst (λ (k : ℕ). (1 ≤ times_taken k w) × (n.memory (Field k) ≡ w.in_field)) (sym row.0)
              (omega (arith, one_more), same x (inl (is_home id v here)) ∙ row.1)
          | inr was ↦
              let had_it = old.locked id y v here was.0 in (
                omega (arith, had_it.0, times_more y),
                same y (inr was.0) ∙ (had_it.1 ∙ sym was.1),
              )
        ])
    locked_taken other y z (Another apart there) locked =
        let was = old.locked other y z there locked in
        let none : times_in y v.taken ≡ 0 = elim (cases_lt 0 (times_taken y v)) [
          | inl some_times ↦ absurd (apart (old.alone other id y z v there here was.0 (omega (arith, some_times))))
          | inr not ↦ omega (arith, not)
        ] in
        (was.0, same y (inl none) ∙ was.1)

    pub fields_taken : FieldsStand n (set homes x home.none) (set views id w)
    fields_taken = record {
      rows = length-set homes x home.none ∙ (old.rows ∙ sym (ap row_count layout_same));
      at_home = λ y low is.
          let apart = home_taken y is in
          let was = old.at_home y (low_before y low) apart.1 in
          record {
            field = was.field;
            there = set_else homes x y home.none apart.0 ∙ was.there;
            holds = was.holds ∙ sym (same y (inl (apart.1 id v here)));
          };
      once = λ other y z is. once_taken other y z (whose other z is);
      alone = λ one other y a b is that first second.
          elim (is_more one y a (whose one a is) first) [
            | inl mine ↦ elim (is_more other y b (whose other b that) second) [
              | inl too ↦ mine.1 ∙ sym too.1
              | inr theirs ↦
                  let same_row = ap (λ (k : ℕ). times_taken k theirs.0) mine.0 in
                  absurd (omega (arith, is_home other theirs.0 theirs.1, same_row, theirs.2))
            ]
            | inr theirs ↦ elim (is_more other y b (whose other b that) second) [
              | inl mine ↦
                  let same_row = ap (λ (k : ℕ). times_taken k theirs.0) mine.0 in
                  absurd (omega (arith, is_home one theirs.0 theirs.1, same_row, theirs.2))
              | inr too ↦ old.alone one other y theirs.0 too.0 theirs.1 too.1 theirs.2 too.2
            ]
          ];
      used = λ other y z is taken. used_taken other y z (whose other z is) taken;
      locked = λ other y z is locked. locked_taken other y z (whose other z is) locked;
    }

  -- ---- it gives one back

  module _ (x : ℕ) (rows : List ℕ) (taken_is : v.taken ≡ x ∷ rows) (left : w.taken ≡ rows) (field : Option T)
      (there : x < row_count m.layout) (holds : resources field ≡ n.memory (Field x))
      (keeps : (y : ℕ) → y ≢ x → UsesField v.actor y → UsesField w.actor y)
      (same : (y : ℕ) → (times_in y v.taken ≡ 0) ⊎ (v.actor.locked ≡ Some y) → n.memory (Field y) ≡ m.memory (Field y))
      (locks : (y : ℕ) → w.actor.locked ≡ Some y → (y ≢ x) × (v.actor.locked ≡ Some y)
      × (w.in_field ≡ v.in_field)) where
    times_less : (y : ℕ) → times_taken y v ≡ one_if (x == y) + times_taken y w
    times_less y =
        ap (times_in y) taken_is ∙ omega (arith, count_more x y rows, ap (times_in y) left)

    none_left : times_taken x w ≡ 0
    none_left =
        let one : one_if (x == x) ≡ 1 = ap one_if (eq-eqb x x refl) in
        omega (arith, one, times_less x, old.once id x v here)

    same_left : (y : ℕ) → y ≢ x → times_taken y w ≡ times_taken y v
    same_left y apart = elim (eqb_tells x y) [
      | inl this ↦ absurd (apart (sym this.1))
      | inr not ↦ let none : one_if (x == y) ≡ 0 = ap one_if not.0 in omega (arith, none, times_less y)
    ]

    -- A hand has what it had, and no longer the row's field.
    is_less : (other y : ℕ) (z : View) → Whose other z → 1 ≤ times_taken y z
        → (z' : View) × (get_elem? views other ≡ home.some z') × (1 ≤ times_taken y z')
    is_less other y z (Changed this now) taken = (
      v,
      ap (get_elem? views) this ∙ here,
      omega (arith, taken, ap (times_taken y) now, times_less y),
    )
    is_less other y z (Another apart found) taken = (z, found, taken)

    home_given : (y : ℕ) → y ≢ x → IsHome (set views id w) y → IsHome views y
    home_given y apart is other z found = elim (eqb_tells other id) [
      | inl this ↦
          let none = is id w (set_view views id v w here) in
          let mine : z ≡ v = home.some-injective z v (sym found ∙ (ap (get_elem? views) this.1 ∙ here)) in
          ap (times_taken y) mine ∙ (sym (same_left y apart) ∙ none)
      | inr else ↦ is other z (set_else views id other w else.1 ∙ found)
    ]

    once_given : (other y : ℕ) (z : View) → Whose other z → times_taken y z ≤ 1
    once_given other y z (Changed this now) =
        omega (arith, ap (times_taken y) now, times_less y, old.once id y v here)
    once_given other y z (Another apart found) = old.once other y z found

    used_given : (other y : ℕ) (z : View) → Whose other z → 1 ≤ times_taken y z → UsesField z.actor y
    used_given other y z (Changed this now) taken =
        let apart : y ≢ x = λ e.
        omega (arith, taken, ap (times_taken y) now, ap (λ (k : ℕ). times_taken k w) e, none_left) in
        subst (λ (u : View). UsesField u.actor y) now
        (keeps y apart (old.used id y v here (omega (arith, taken, ap (times_taken y) now, same_left y apart))))
    used_given other y z (Another apart found) taken = old.used other y z found taken

    locked_given : (other y : ℕ) (z : View) → Whose other z → z.actor.locked ≡ Some y
        → (1 ≤ times_taken y z) × (n.memory (Field y) ≡ z.in_field)
    locked_given other y z (Changed this now) locked =
        let was = locks y (ap (λ (u : View). u.actor.locked) now ∙ locked) in
        let had_it = old.locked id y v here was.1 in
        subst (λ (u : View). (1 ≤ times_taken y u) × (n.memory (Field y) ≡ u.in_field)) now (
          omega (arith, had_it.0, same_left y was.0),
          same y (inr was.1) ∙ (had_it.1 ∙ sym was.2),
        )
    locked_given other y z (Another apart found) locked =
        let was = old.locked other y z found locked in
        let none : times_in y v.taken ≡ 0 = elim (cases_lt 0 (times_taken y v)) [
          | inl some_times ↦ absurd (apart (old.alone other id y z v found here was.0 (omega (arith, some_times))))
          | inr not ↦ omega (arith, not)
        ] in
        (was.0, same y (inl none) ∙ was.1)

    at_home_given : (y : ℕ) → y < row_count n.layout → IsHome (set views id w) y
        → HoldsHome n (set homes x (home.some field)) y
    at_home_given y low is = elim (eqb_tells y x) [
      | inl row ↦
          subst (HoldsHome n (set homes x (home.some field))) (sym row.1) (record {
            field = field;
            there = set_here homes x (home.some field) (omega (arith, there, old.rows));
            holds = holds;
          })
      | inr apart ↦
          let before = home_given y apart.1 is in
          let was = old.at_home y (low_before y low) before in
          record {
            field = was.field;
            there = set_else homes x y (home.some field) apart.1 ∙ was.there;
            holds = was.holds ∙ sym (same y (inl (before id v here)));
          }
    ]

    pub fields_given : FieldsStand n (set homes x (home.some field)) (set views id w)
    fields_given = record {
      rows = length-set homes x (home.some field) ∙ (old.rows ∙ sym (ap row_count layout_same));
      at_home = at_home_given;
      once = λ other y z is. once_given other y z (whose other z is);
      alone = λ one other y a b is that first second.
          let p = is_less one y a (whose one a is) first in
          let q = is_less other y b (whose other b that) second in
          old.alone one other y p.0 q.0 p.1 q.1 p.2 q.2;
      used = λ other y z is taken. used_given other y z (whose other z is) taken;
      locked = λ other y z is locked. locked_given other y z (whose other z is) locked;
    }

-- ---- a hand more

-- A new hand has no field and no lock.
pub fields_longer : {T : Type 0} (m n : Machine) (homes : List (home.Option (Option T))) (views : List View) (w : View)
    → FieldsStand m homes views → w.taken ≡ [] → w.actor.locked ≡ None → n.layout ≡ m.layout
    → ((x : ℕ) → n.memory (Field x) ≡ m.memory (Field x)) → FieldsStand n homes (views ++ w ∷ [])
fields_longer m n homes views w old none unlocked layout_same same =
    let times_none : (x : ℕ) (z : View) → w ≡ z → times_taken x z ≡ 0 =
    λ x z is. ap (times_taken x) (sym is) ∙ ap (times_in x) none in
    let not_locked : (x : ℕ) (z : View) → w ≡ z → z.actor.locked ≡ Some x → ⊥ =
    λ x z is locks.
    let wrong : None ≡ Some x = sym unlocked ∙ (ap (λ (u : View). u.actor.locked) is ∙ locks) in absurd cc in
    record {
      rows = old.rows ∙ sym (ap row_count layout_same);
      at_home = λ x low is.
          let was =
          old.at_home x (subst (λ (l : Layout). x < row_count l) layout_same low)
          (λ other z there. is other z (at_longer views (w ∷ []) other z there)) in
          record { field = was.field; there = was.there; holds = was.holds ∙ sym (same x) };
      once = λ other x z is. elim (at_snoc views w z other is) [
        | inl there ↦ old.once other x z there
        | inr new ↦ omega (arith, times_none x z new)
      ];
      alone = λ one other x y z is that first second. elim (at_snoc views w y one is) [
        | inl there ↦ elim (at_snoc views w z other that) [
          | inl too ↦ old.alone one other x y z there too first second
          | inr new ↦ absurd (omega (arith, second, times_none x z new))
        ]
        | inr new ↦ absurd (omega (arith, first, times_none x y new))
      ];
      used = λ other x z is taken. elim (at_snoc views w z other is) [
        | inl there ↦ old.used other x z there taken
        | inr new ↦ absurd (omega (arith, taken, times_none x z new))
      ];
      locked = λ other x z is locks. elim (at_snoc views w z other is) [
        | inl there ↦ let was = old.locked other x z there locks in (was.0, same x ∙ was.1)
        | inr new ↦ absurd (not_locked x z new locks)
      ];
    }
