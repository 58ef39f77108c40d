-- The rows that a hand speaks of are there.
use Rattle.std.proofs.Common.{◌≤◌, ◌≡◌, ◌⊎◌, ℕ, ◌+◌, ◌<◌, Bool, true, cond, List, [], ◌∷◌, ◌++◌, filter, inl, inr, sym, ap, ◌∙◌, subst, arith}
use Rattle.std.specs.Prelude.{◌==◌, ◌||◌, ◌&&◌, nat_le, nat_lt}
use Rattle.std.specs.List.{list_any}
use Rattle.std.proofs.lemmas.Bool.{cases_Bool, cases_lt, eqb-true, ltb-true}
use Rattle.std.proofs.lemmas.Option.{slice_get_within}
use mathlib.Core.Option.{some}
use lib.ListN.{get_elem?}
use Rattle.brc_model.specs.declared.duty.Duty.{Duty}
use Rattle.brc_model.specs.declared.duty.Holding.TheVariants.{AsCaller}
use Rattle.brc_model.specs.declared.layout.Layout.{Layout}
use Rattle.brc_model.specs.Layout.{row_count, block_size, none_row, first_immortal_list, first_number, is_immortal_row}
use Rattle.brc_model.specs.Duties.{cells_of}
use Rattle.brc_model.specs.OpenWork.{is_about}
use Rattle.brc_model.specs.Ranges.{AreSmall}
use Rattle.brc_model.specs.CountingLaws.{AccountsAreThere, ChainsAreThere}
use Rattle.brc_table.specs.Plan.{Plan}
use Rattle.brc_table.specs.declared.view.View.{View}
use Rattle.brc_table.specs.Places.{FewFirstRows}
use Rattle.brc_table.specs.Views.{NamesFewCells, RowsAreThere, work_about}
use Rattle.brc_table.specs.Rule.{Stands}
use Rattle.brc_table.proofs.FewRows.{few_first}
use Rattle.brc_table.proofs.Lists.{and_second}

-- An immortal row is there.
pub immortal_there : (layout : Layout) (x : ℕ) → is_immortal_row layout x ≡ true → x < row_count layout
immortal_there layout x immortal =
    elim (cases_Bool (x == none_row)) [
      | inl none ↦ let it = eqb-true x none_row none in omega (arith, it)
      | inr other ↦
          let behind = sym (ap (λ (b : Bool). b || (nat_le (first_immortal_list layout) x
          && nat_lt x (first_number layout))) other) ∙ immortal in
          let low = and_second (nat_le (first_immortal_list layout) x) (nat_lt x (first_number layout)) behind in
          omega (arith, ltb-true x (first_number layout) low)
    ]

small_there : (layout : Layout) (ds : List Duty) (x : ℕ) → AreSmall layout ds → list_any (is_about x) ds ≡ true
    → x < row_count layout
small_there layout [] x small is = absurd cc
small_there layout (d ∷ ds) x small is = elim (cases_Bool (is_about x d)) [
  | inl this ↦ small.0.row x this
  | inr other ↦ small_there layout ds x small.1 (sym (ap (λ (b : Bool). b || list_any (is_about x) ds) other) ∙ is)
]

few_named : (layout : Layout) (ds : List Duty) → AreSmall layout ds → NamesFewCells layout ds
few_named layout [] small = tt
few_named layout (d ∷ ds) small = small.0.cells

-- What is among the duties of two lists is in one of them.
either_list : (x : ℕ) (ds es : List Duty) (d : Duty) (rest : List Duty) → filter (is_about x) (ds ++ es) ≡ d ∷ rest
    → (list_any (is_about x) ds ≡ true) ⊎ (list_any (is_about x) es ≡ true)
either_list x [] [] d rest is = let wrong : [] ≡ d ∷ rest = is in absurd cc
either_list x [] (e ∷ es) d rest is = elim (cases_Bool (is_about x e)) [
  | inl this ↦ inr (ap (λ (b : Bool). b || list_any (is_about x) es) this)
  | inr other ↦
      let later : filter (is_about x) es ≡ d ∷ rest =
      sym (ap (λ (b : Bool). cond b (e ∷ filter (is_about x) es) (filter (is_about x) es)) other) ∙ is in
      elim (either_list x [] es d rest later) [
        | inl none ↦ absurd cc
        | inr there ↦ inr (ap (λ (b : Bool). b || list_any (is_about x) es) other ∙ there)
      ]
]
either_list x (e ∷ ds) es d rest is = elim (cases_Bool (is_about x e)) [
  | inl this ↦ inl (ap (λ (b : Bool). b || list_any (is_about x) ds) this)
  | inr other ↦
      let later : filter (is_about x) (ds ++ es) ≡ d ∷ rest =
      sym (ap (λ (b : Bool). cond b (e ∷ filter (is_about x) (ds ++ es)) (filter (is_about x) (ds ++ es))) other)
      ∙ is in
      elim (either_list x ds es d rest later) [
        | inl there ↦ inl (ap (λ (b : Bool). b || list_any (is_about x) ds) other ∙ there)
        | inr there ↦ inr there
      ]
]

-- A row about which a hand has work is there.
pub work_there : (v : View) (x : ℕ) (d : Duty) (rest : List Duty)
    → (list_any (is_about x) v.actor.agenda ≡ true → x < row_count v.layout)
    → (list_any (is_about x) v.actor.aside ≡ true → x < row_count v.layout) → work_about x v ≡ d ∷ rest
    → x < row_count v.layout
work_there v x d rest agenda aside is = elim (either_list x v.actor.agenda v.actor.aside d rest is) [
  | inl next ↦ agenda next
  | inr waiting ↦ aside waiting
]

pub rows_there : AccountsAreThere → ChainsAreThere → (plan : Plan) (words : List ℕ) (views : List View) (id : ℕ)
    (v : View) → Stands plan words views → get_elem? views id ≡ some v → RowsAreThere v
rows_there law chains plan words views id v stands here =
    let m = stands.machine in
    let told = stands.same_layout id v here in
    let found = stands.same_actor id v here in
    let chain = chains stands.accounts (1 + m.layout.workers) m v.thread v.actor stands.counts found in
    let rows : (x : ℕ) → x < row_count m.layout → x < row_count v.layout =
    λ x low. subst (λ (l : Layout). x < row_count l) (sym told) low in
    let agenda : (x : ℕ) → list_any (is_about x) v.actor.agenda ≡ true → x < row_count v.layout =
    λ x is. rows x (small_there m.layout v.actor.agenda x (stands.counts.ranges.each v.thread v.actor found) is) in
    let aside : (x : ℕ) → list_any (is_about x) v.actor.aside ≡ true → x < row_count v.layout =
    λ x is. rows x (small_there m.layout v.actor.aside x (stands.counts.ranges.aside v.thread v.actor found) is) in
    record {
      few = subst FewFirstRows (sym told) (few_first stands.accounts (1 + m.layout.workers) m stands.counts);
      thread =
          subst (λ (l : Layout). v.thread ≤ l.workers) (sym told)
          (omega (arith, slice_get_within m.actors v.thread v.actor found, stands.counts.kept.core.threads));
      used =
          subst (λ (l : Layout). v.actor.used ≤ block_size l v.thread) (sym told)
          (stands.counts.kept.core.uses v.thread v.actor found).few;
      main = λ first.
          subst (λ (l : Layout). v.actor.used ≡ block_size l v.thread) (sym told)
          ((stands.counts.kept.core.uses v.thread v.actor found).main first);
      held = λ x held. rows x (elim (cases_Bool (is_immortal_row m.layout x)) [
        | inl immortal ↦ immortal_there m.layout x immortal
        | inr counted ↦
            law stands.accounts (1 + m.layout.workers) m v.thread v.actor AsCaller x stands.counts found
            (omega (arith, held, stands.holding id v x here counted))
      ]);
      agenda = agenda;
      aside = aside;
      work = λ x d rest is. work_there v x d rest (agenda x) (aside x) is;
      head = subst (λ (l : Layout). v.actor.head ≤ row_count l) (sym told) chain.head;
      cells = subst (λ (l : Layout). NamesFewCells l v.actor.agenda) (sym told)
          (few_named m.layout v.actor.agenda (stands.counts.ranges.each v.thread v.actor found));
      locked = λ x e.
          let lock = (stands.counts.kept.core.each v.thread v.actor found).0.locks x e in
          rows x (law stands.accounts (1 + m.layout.workers) m v.thread v.actor lock.by x stands.counts found
          (omega (arith, lock.held_so)));
      unfinalised = chain.locked;
      kinds = λ x word seen. elim (cases_lt 0 word) [
        | inl more ↦
            subst (λ (l : Layout). cells_of word ≤ l.cells) (sym told)
            (subst (λ (w : ℕ). cells_of w ≤ m.layout.cells) (stands.kinds_seen id x word v here more seen)
            (stands.counts.ranges.kinds x))
        | inr none ↦
            let zero_word : word ≡ 0 = omega (arith, none) in
            subst (λ (w : ℕ). cells_of w ≤ v.layout.cells) (sym zero_word) (omega arith)
      ];
    }
