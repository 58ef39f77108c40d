-- A kind word changes once: a birth stores it in a row that has none.
use Rattle.std.proofs.Common.{◌≡◌, ℕ, List, ◌⊎◌, true, inl, inr, refl, sym, ap, ◌∙◌, subst, arith}
use Rattle.std.specs.Prelude.{◌==◌}
use Rattle.std.proofs.lemmas.Bool.{cases_Bool, eqb-true}
use Rattle.std.proofs.lemmas.Bool.Decides.{eqb_tells}
use Rattle.brc_model.specs.declared.duty.Holding.{Holding}
use Rattle.brc_model.specs.declared.duty.Duty.{Duty}
use Rattle.brc_model.specs.declared.duty.Duty.TheVariants.{SettleKind, BirthKind, KindLoad}
use Rattle.brc_model.specs.declared.address.Address.TheVariants.{KindOf}
use Rattle.brc_model.specs.declared.actor.Actor.{Actor}
use Rattle.brc_model.specs.Machine.{Machine, machine_by_duty}
use Rattle.brc_model.specs.Accounts.{Accounts}
use Rattle.brc_word.specs.declared.values.TheConstants.{FILE, SOCK}
use Rattle.brc_word.specs.Words.{kind_part}
use Rattle.brc_lang.specs.declared.kind.Kind.TheVariants as kinds
use Rattle.brc_model.specs.Kinds.{kind_numbered, kind_of_word}
use Rattle.brc_model.specs.Duties.{has_resource}
use Rattle.brc_model.specs.Layout.{is_immortal_row, IsCounted}
use Rattle.brc_model.specs.Invariant.{AtDuty, CoreInvariant, kind_stored, IsImmortalKind}
use Rattle.brc_model.proofs.Basics.Lists.{either_true}
use Rattle.brc_model.proofs.Frame.Alive.{live_born}
use Rattle.brc_model.proofs.Basics.Written.{written_apart, written_load}
use Rattle.brc_model.proofs.Basics.Blocks.{next_block, next_index}
use Rattle.brc_model.proofs.Frame.Leaves.{head_of}

-- The row's kind word isn't stored yet, or it stays.
abbrev pub StoredStay : (ℕ → ℕ) → (ℕ → ℕ) → Type 0
StoredStay words new = (x : ℕ) → (words x ≡ 0) ⊎ (new x ≡ words x)

module _ {p : Accounts} {n : ℕ} {m : Machine} {t : ℕ} {a : Actor} {rest : List Duty} where
  -- The row of a birth that is about to store its kind word has none yet.
  blank_kind : (y : ℕ) (h : Holding) (w : ℕ) → AtDuty p n m t a (BirthKind y h w) rest → m.memory (KindOf y) ≡ 0
  blank_kind y h w here =
      let next = (head_of here).0 in
      let index = next_index m t a y next in
      (here.core.blanks t a here.found).kinds y (next_block m t a y next) (omega (arith, index))
      (ap (λ (l : List Duty). kind_stored l y) here.agenda)

  -- A step stores a kind word in a row that has none.
  pub stored_at_duty : (d : Duty) → AtDuty p n m t a d rest
      → StoredStay (λ x. m.memory (KindOf x)) (λ x. (machine_by_duty m t a d rest).memory (KindOf x))
  stored_at_duty (SettleKind y) here = λ x. inr (written_load m.memory (KindOf y) (KindOf x))
  stored_at_duty (KindLoad y) here = λ x. inr (written_load m.memory (KindOf y) (KindOf x))
  stored_at_duty (BirthKind y h w) here = λ x.
      elim (eqb_tells y x) [
        | inl same ↦ inl (subst (λ (z : ℕ). m.memory (KindOf z) ≡ 0) same.1 (blank_kind y h w here))
        | inr other ↦ inr (written_apart m.memory (KindOf y) (KindOf x) w other.0)
      ]
  stored_at_duty _ here = λ x. inr refl

module _ {p : Accounts} {n : ℕ} {m : Machine} {t : ℕ} {a : Actor} {d : Duty} {rest : List Duty} where
  -- So a kind word that is stored stays.
  pub kind_stays : (x : ℕ) → AtDuty p n m t a d rest → (m.memory (KindOf x) ≡ 0 → ⊥)
      → (machine_by_duty m t a d rest).memory (KindOf x) ≡ m.memory (KindOf x)
  kind_stays x here some = elim (stored_at_duty d here x) [
    | inl none ↦ absurd (some none)
    | inr same ↦ same
  ]

-- An object with a resource isn't immortal.
immortal_resourceless : (word : ℕ) → IsImmortalKind word → has_resource word ≡ true → ⊥
immortal_resourceless word immortal some =
    elim (either_true (kind_part word == FILE) (kind_part word == SOCK) some) [
      | inl file ↦
          let is : kind_of_word word ≡ kinds.File = ap kind_numbered (eqb-true (kind_part word) FILE file) in
          elim immortal [
            | inl none ↦ let wrong : kinds.File ≡ kinds.None = sym is ∙ none in cc
            | inr list ↦ let wrong : kinds.File ≡ kinds.List = sym is ∙ list in cc
          ]
      | inr socket ↦
          let is : kind_of_word word ≡ kinds.Sock = ap kind_numbered (eqb-true (kind_part word) SOCK socket) in
          elim immortal [
            | inl none ↦ let wrong : kinds.Sock ≡ kinds.None = sym is ∙ none in cc
            | inr list ↦ let wrong : kinds.Sock ≡ kinds.List = sym is ∙ list in cc
          ]
    ]

module _ {p : Accounts} {n : ℕ} {m : Machine} where
  pub resource_counted : (x : ℕ) → CoreInvariant p n m → has_resource (m.memory (KindOf x)) ≡ true
      → IsCounted m.layout x
  resource_counted x core some =
      elim (cases_Bool (is_immortal_row m.layout x)) [
        | inl immortal ↦ absurd (immortal_resourceless (m.memory (KindOf x)) (core.immortal_kinds x immortal) some)
        | inr counted ↦ counted
      ]

module _ {p : Accounts} {n : ℕ} {m : Machine} {t : ℕ} {a : Actor} {d : Duty} {rest : List Duty} where
  -- No step changes the kind word of an immortal object.
  pub immortal_kind_left : (x : ℕ) → AtDuty p n m t a d rest → is_immortal_row m.layout x ≡ true
      → (machine_by_duty m t a d rest).memory (KindOf x) ≡ m.memory (KindOf x)
  immortal_kind_left x here immortal =
      let lives = here.core.immortals_live x immortal in
      let stored = here.core.kind_words x (live_born m x lives) in
      kind_stays x here (λ none. absurd (omega (arith, stored, none)))
