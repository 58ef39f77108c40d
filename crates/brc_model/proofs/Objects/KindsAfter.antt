-- After each step too, a born object is of the kind that its kind word names.
use Rattle.std.proofs.Common.{◌≡◌, ◌≢◌, ℕ, ◌<◌, Bool, true, false, cond, List, None, Some, inl, inr, refl, sym, ap, ◌∙◌, subst, arith}
use Rattle.std.proofs.lemmas.Bool.{ne_eqb, eq-eqb}
use Rattle.std.proofs.lemmas.Bool.Decides.{eqb_tells}
use Rattle.brc_lang.specs.declared.kind.Kind.{Kind}
use Rattle.brc_lang.specs.declared.kind.Kind.TheVariants as kinds
use Rattle.brc_word.specs.Words.{kind_part}
use Rattle.brc_model.specs.Kinds.{kind_number, kind_numbered, kind_of_word, is_counted_kind}
use Rattle.brc_model.specs.AbstractState.{AbstractState, Move, Born, move, moved}
use Rattle.brc_model.specs.declared.duty.Duty.{Duty}
use Rattle.brc_model.specs.declared.duty.Duty.TheVariants.{BirthLocal}
use Rattle.brc_model.specs.declared.address.Address.TheVariants.{KindOf}
use Rattle.brc_model.specs.declared.actor.Actor.{Actor}
use Rattle.brc_model.specs.Machine.{Unborn, Machine, born_row, machine_by_duty}
use Rattle.brc_model.specs.Moves.{reference_effects}
use Rattle.brc_model.proofs.Basics.Blocks.{next_unborn}
use Rattle.brc_model.proofs.Frame.Items.{word_stays}
use Rattle.brc_model.proofs.Frame.Leaves.{head_of}
use Rattle.brc_model.proofs.Stepping.FitsAfter.{found_by, memory_by}
use Rattle.brc_model.proofs.Basics.Moves.{moved_keeps}
use Rattle.brc_model.proofs.Objects.UsesAfter.{BearsNone, moves_none, before_or_now}
use Rattle.brc_model.proofs.Basics.Lists.{some_is}
use Rattle.brc_model.specs.Accounts.{Accounts}
use Rattle.brc_model.specs.Invariant.{AtDuty}

-- ---- numbers and kinds

-- If a kind word names a counted kind, its kind part is that kind's number.
pub counted_number : (n : ℕ) → is_counted_kind (kind_numbered n) ≡ true → n ≡ kind_number (kind_numbered n)
counted_number n counts =
    elim (eqb_tells n 1) [
      | inl one ↦ rw (one.1) refl
      | inr not_one ↦ elim (eqb_tells n 2) [
        | inl two ↦ rw (two.1) refl
        | inr not_two ↦ elim (eqb_tells n 3) [
          | inl three ↦ rw (three.1) refl
          | inr not_three ↦ elim (eqb_tells n 4) [
            | inl four ↦ rw (four.1) refl
            | inr not_four ↦ elim (eqb_tells n 5) [
              | inl five ↦ rw (five.1) refl
              | inr not_five ↦
                  let any : kind_numbered n ≡ kinds.Any =
                  rw (not_one.0, not_two.0, not_three.0, not_four.0, not_five.0) refl in
                  absurd (let wrong : false ≡ true = ap is_counted_kind (sym any) ∙ counts in cc)
            ]
          ]
        ]
      ]
    ]

-- ---- the kinds after a step

move_kinds : (p : AbstractState) (mv : Move) → BearsNone mv → (move p mv).kinds ≡ p.kinds
move_kinds p (Born r kind) none = absurd none
move_kinds p _ none = refl

same_kinds : (m : Machine) (t : ℕ) (d : Duty) (found : ℕ) → born_row d ≡ None
    → (moved m.abstract (reference_effects m.memory t d found)).kinds ≡ m.abstract.kinds
same_kinds m t d found none =
    moved_keeps (λ p. p.kinds) BearsNone move_kinds m.abstract (reference_effects m.memory t d found)
    (moves_none m.memory t d found none)

module _ {p : Accounts} {n : ℕ} {m : Machine} {t : ℕ} {a : Actor} {rest : List Duty} where
  -- No step changes the kind of a born row.
  kind_stays : (d : Duty) (x : ℕ) → AtDuty p n m t a d rest → m.life x ≢ Unborn
      → (machine_by_duty m t a d rest).abstract.kinds x ≡ m.abstract.kinds x
  kind_stays (BirthLocal y h) x here born =
      let next = (head_of here).0 in
      let apart : y ≡ x → ⊥ = λ e. born (ap m.life (sym e) ∙ next_unborn p n m t a y here.core here.found next) in
      ap (λ (b : Bool). cond b (kind_of_word (m.memory (KindOf y))) (m.abstract.kinds x)) (ne_eqb y x apart)
  kind_stays d x here born = ap (λ (k : ℕ → Kind). k x) (same_kinds m t d (found_by m t a d) refl)

  -- A row that this step gives birth to is of the kind that its kind word names.
  kind_is_said : (d : Duty) (x : ℕ) → AtDuty p n m t a d rest → born_row d ≡ Some x
      → kind_part (memory_by m t a d (KindOf x)) ≡ kind_number ((machine_by_duty m t a d rest).abstract.kinds x)
  kind_is_said (BirthLocal y h) x here is =
      let same : y ≡ x = some_is y x is in
      let said = (head_of here).2 in
      let word : ℕ = m.memory (KindOf y) in
      let kind : (machine_by_duty m t a (BirthLocal y h) rest).abstract.kinds x ≡ kind_of_word word =
      ap (λ (b : Bool). cond b (kind_of_word word) (m.abstract.kinds x)) (eq-eqb y x same) in
      ap (λ (z : ℕ). kind_part (m.memory (KindOf z))) (sym same) ∙ counted_number (kind_part word) said ∙ ap kind_number
      (sym kind)
  kind_is_said _ x here is = absurd (let wrong : None ≡ Some x = is in cc)

module _ {p : Accounts} {n : ℕ} {m : Machine} {t : ℕ} {a : Actor} {d : Duty} {rest : List Duty} where
  -- After a thread's step the kind word of each born row names its kind.
  pub kinds_after : AtDuty p n m t a d rest → (x : ℕ) → (machine_by_duty m t a d rest).life x ≢ Unborn
      → kind_part ((machine_by_duty m t a d rest).memory (KindOf x))
      ≡ kind_number ((machine_by_duty m t a d rest).abstract.kinds x)
  kinds_after here x born =
      elim (before_or_now x here born) [
        | inl was ↦
            ap kind_part (word_stays p n m t a d rest x here was) ∙ here.core.kinds x was ∙ ap kind_number
            (sym (kind_stays d x here was))
        | inr now ↦ kind_is_said d x here now
      ]

-- The kind word of a row that this step gives birth to isn't 0.
counted_word : (word : ℕ) → is_counted_kind (kind_of_word word) ≡ true → 0 < word
counted_word word said = elim (eqb_tells word 0) [
  | inl none ↦
      let zero_said : is_counted_kind (kind_of_word 0) ≡ true =
      subst (λ (w : ℕ). is_counted_kind (kind_of_word w) ≡ true) none.1 said in
      absurd (let wrong : false ≡ true = zero_said in cc)
  | inr some ↦ omega (arith, some.1)
]

module _ {p : Accounts} {n : ℕ} {m : Machine} {t : ℕ} {a : Actor} {rest : List Duty} where
  word_is_said : (d : Duty) (x : ℕ) → AtDuty p n m t a d rest → born_row d ≡ Some x → 0 < memory_by m t a d (KindOf x)
  word_is_said (BirthLocal y h) x here is =
      let same : y ≡ x = some_is y x is in
      subst (λ (z : ℕ). 0 < m.memory (KindOf z)) same (counted_word (m.memory (KindOf y)) (head_of here).2)
  word_is_said _ x here is = absurd (let wrong : None ≡ Some x = is in cc)

module _ {p : Accounts} {n : ℕ} {m : Machine} {t : ℕ} {a : Actor} {d : Duty} {rest : List Duty} where
  -- After a thread's step the kind word of no born row is 0.
  pub kind_words_after : AtDuty p n m t a d rest → (x : ℕ) → (machine_by_duty m t a d rest).life x ≢ Unborn
      → 0 < (machine_by_duty m t a d rest).memory (KindOf x)
  kind_words_after here x born =
      elim (before_or_now x here born) [
        | inl was ↦ omega (arith, word_stays p n m t a d rest x here was, here.core.kind_words x was)
        | inr now ↦ word_is_said d x here now
      ]
