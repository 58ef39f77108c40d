-- What hands have seen of kind words and of the cells that they guard stays true when a hand does its first duty.
use Rattle.std.proofs.Common.{◌≡◌, ℕ, ◌<◌, Bool, true, false, cond, List, [], ◌∷◌, ◌++◌, Option, None, Some, inl, inr, sym, ap, ◌∙◌, subst, arith}
use Rattle.std.specs.Prelude.{◌==◌, ◌||◌, if◌then◌else◌, fold}
use Rattle.std.specs.List.{list_any}
use Rattle.std.proofs.lemmas.Bool.{cases_Bool, eqb-true, eq-eqb, false≢true}
use Rattle.std.proofs.lemmas.Bool.Decides.{eqb_tells}
use Rattle.std.proofs.lemmas.List.Folds.{list_any-append}
use Rattle.std.proofs.lemmas.List.Sums.{fold-append}
use Rattle.brc_word.specs.Words.{free_word}
use Rattle.brc_model.specs.declared.duty.Duty.{Duty}
use Rattle.brc_model.specs.declared.duty.Duty.TheVariants.{SettleKind, BirthKind, KindLoad, LockGate, UnlockGate}
use Rattle.brc_model.specs.declared.address.Address.{Address}
use Rattle.brc_model.specs.declared.address.Address.TheVariants.{Gate, KindOf, Cell}
use Rattle.brc_model.specs.declared.layout.Layout.{Layout}
use Rattle.brc_model.specs.Duties.{address_of, new_word}
use Rattle.brc_model.specs.Machine.{same_address, written, locked_by}
use Rattle.brc_model.specs.Stores.{Overwrites}
use Rattle.brc_model.specs.declared.event.WordEvent.{WordEvent}
use Rattle.brc_table.specs.KnownWords.{shows_kind, cell_known}
use Rattle.brc_table.proofs.Lists.{and_first, and_second}

-- ---- one word

-- A load of a word leaves all words as they are.
load_leaves : (memory : Address → ℕ) (x y : ℕ)
    → written memory (KindOf y) (memory (KindOf y)) (KindOf x) ≡ memory (KindOf x)
load_leaves memory x y = elim (cases_Bool (y == x)) [
  | inl same ↦
      ap (λ (b : Bool). cond b (memory (KindOf y)) (memory (KindOf x))) same
      ∙ ap (λ (z : ℕ). memory (KindOf z)) (eqb-true y x same)
  | inr other ↦ ap (λ (b : Bool). cond b (memory (KindOf y)) (memory (KindOf x))) other
]

-- A kind word above 0 is not stored again.
pub kind_stays : (layout : Layout) (memory : Address → ℕ) (t head : ℕ) (d : Duty) (x word : ℕ)
    → Overwrites t d (memory (address_of layout t head d)) → 0 < word → memory (KindOf x) ≡ word
    → written memory (address_of layout t head d) (new_word layout t head d (memory (address_of layout t head d)))
    (KindOf x)
    ≡ word
kind_stays layout memory t head (SettleKind y) x word over more is = load_leaves memory x y ∙ is
kind_stays layout memory t head (KindLoad y) x word over more is = load_leaves memory x y ∙ is
kind_stays layout memory t head (BirthKind y h w) x word over more is = elim (eqb_tells y x) [
  | inl same ↦
      let none : memory (KindOf x) ≡ 0 = subst (λ (z : ℕ). memory (KindOf z) ≡ 0) same.1 over in
      absurd (omega (arith, none, is, more))
  | inr other ↦ ap (λ (b : Bool). cond b w (memory (KindOf x))) other.0 ∙ is
]
kind_stays layout memory t head _ x word over more is = is

some_is : {A : Type 0} (x y : A) → Some x ≡ Some y → x ≡ y
some_is x y e = cc

-- A hand that has locked the list after a step that isn't on the list's gate had locked it before.
pub lock_before : (layout : Layout) (t head : ℕ) (d : Duty) (x found : ℕ) (locked : Option ℕ)
    → same_address (address_of layout t head d) (Gate x) ≡ false → locked_by locked d found ≡ Some x → locked ≡ Some x
lock_before layout t head (LockGate y) x found locked apart is =
    elim (cases_Bool (found == free_word)) [
      | inl free ↦
          let this : Some y ≡ Some x = sym (ap (λ (b : Bool). if b then Some y else locked) free) ∙ is in
          absurd (false≢true (sym apart ∙ eq-eqb y x (some_is y x this)))
      | inr taken ↦ sym (ap (λ (b : Bool). if b then Some y else locked) taken) ∙ is
    ]
lock_before layout t head (UnlockGate y) x found locked apart is = let wrong : None ≡ Some x = is in absurd cc
lock_before layout t head _ x found locked apart is = is

-- ---- the hand's own trace

-- The hand's step, as its trace has it, is the one that the machine makes.
pub record IsStep (layout : Layout) (memory : Address → ℕ) (t head : ℕ) (d : Duty) (e : WordEvent) : Type 0 where
  pub address : e.address ≡ address_of layout t head d
  pub left : e.left ≡ new_word layout t head d (memory (address_of layout t head d))

module _ (layout : Layout) (memory : Address → ℕ) (t head : ℕ) (d : Duty) (e : WordEvent)
    (is_step : IsStep layout memory t head d e) (trace : List WordEvent) where
  abbrev after : Address → ℕ
  after = written memory (address_of layout t head d) (new_word layout t head d (memory (address_of layout t head d)))

  after_is : after ≡ written memory e.address e.left
  after_is =
      ap (λ (w : ℕ). written memory (address_of layout t head d) w) (sym is_step.left)
      ∙ ap (λ (a : Address). written memory a e.left) (sym is_step.address)

  -- A kind word that the step shows is there after it.
  kind_shown : (x word : ℕ) → shows_kind x word e ≡ true → after (KindOf x) ≡ word
  kind_shown x word shows =
      let at = and_first (same_address e.address (KindOf x)) (e.left == word) shows in
      let left = and_second (same_address e.address (KindOf x)) (e.left == word) shows in
      ap (λ (f : Address → ℕ). f (KindOf x)) after_is
      ∙ (ap (λ (b : Bool). cond b e.left (memory (KindOf x))) at ∙ eqb-true e.left word left)

  pub kind_here : (x word : ℕ) → Overwrites t d (memory (address_of layout t head d)) → 0 < word
      → (list_any (shows_kind x word) trace ≡ true → memory (KindOf x) ≡ word)
      → list_any (shows_kind x word) (trace ++ e ∷ []) ≡ true → after (KindOf x) ≡ word
  kind_here x word over more old seen =
      let parts = sym (list_any-append (shows_kind x word) trace (e ∷ [])) ∙ seen in
      elim (cases_Bool (list_any (shows_kind x word) trace)) [
        | inl before ↦ kind_stays layout memory t head d x word over more (old before)
        | inr not_before ↦ elim (cases_Bool (shows_kind x word e)) [
          | inl now ↦ kind_shown x word now
          | inr not_now ↦
              absurd (false≢true (sym (ap (λ (b : Bool). b || (shows_kind x word e || false)) not_before
              ∙ ap (λ (b : Bool). b || false) not_now) ∙ parts))
        ]
      ]

  -- A cell that the hand has seen while it guards the list has that word after the step, too. The hand begins to guard
  -- the list by a step on its gate.
  pub cell_here : (x i word : ℕ) (Before After : Type 0)
      → (same_address (address_of layout t head d) (Gate x) ≡ false → After → Before)
      → (Before → fold (cell_known x i) None trace ≡ Some word → memory (Cell x i) ≡ word) → After
      → fold (cell_known x i) None (trace ++ e ∷ []) ≡ Some word → after (Cell x i) ≡ word
  cell_here x i word Before After guarded old now seen =
      let known = fold (cell_known x i) None trace in
      let last : cell_known x i known e ≡ Some word = sym (fold-append (cell_known x i) None trace (e ∷ [])) ∙ seen in
      ap (λ (f : Address → ℕ). f (Cell x i)) after_is
      ∙ elim (cases_Bool (same_address e.address (Cell x i))) [
        | inl on_cell ↦
            let left : Some e.left ≡ Some word =
            sym (ap (λ (b : Bool). if b then Some e.left else if same_address e.address (Gate x) then None else known)
            on_cell) ∙ last in
            ap (λ (b : Bool). cond b e.left (memory (Cell x i))) on_cell ∙ some_is e.left word left
        | inr off_cell ↦
            let rest : (if same_address e.address (Gate x) then None else known) ≡ Some word =
            sym (ap (λ (b : Bool). if b then Some e.left else if same_address e.address (Gate x) then None else known)
            off_cell) ∙ last in
            ap (λ (b : Bool). cond b e.left (memory (Cell x i))) off_cell
            ∙ elim (cases_Bool (same_address e.address (Gate x))) [
              | inl on_gate ↦
                  let wrong : None ≡ Some word =
                  sym (ap (λ (b : Bool). if b then None else known) on_gate) ∙ rest in
                  absurd cc
              | inr off_gate ↦
                  let before : known ≡ Some word =
                  sym (ap (λ (b : Bool). if b then None else known) off_gate) ∙ rest in
                  let apart : same_address (address_of layout t head d) (Gate x) ≡ false =
                  ap (λ (a : Address). same_address a (Gate x)) (sym is_step.address) ∙ off_gate in
                  old (guarded apart now) before
            ]
      ]
