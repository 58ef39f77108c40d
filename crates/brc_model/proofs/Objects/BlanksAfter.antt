-- After each step the unused rows of each thread's block are still blank, apart from what a birth under way has stored.
use Rattle.std.proofs.Common.{◌≡◌, ◌≢◌, ℕ, zero, suc, ◌+◌, ◌≤◌, Bool, true, false, cond, List, [], ◌∷◌, ◌++◌, inl, inr, Some, refl, sym, ap, ◌∙◌, subst, arith}
use Rattle.std.specs.Prelude.{◌==◌, slice_get, slice_set}
use Rattle.std.proofs.lemmas.Bool.{ne_eqb}
use Rattle.std.proofs.lemmas.Bool.Decides.{eqb_tells}
use Rattle.std.proofs.lemmas.Option.{slice_get_within}
use Rattle.brc_word.specs.declared.values.TheConstants.{EMPTY}
use Rattle.brc_model.specs.declared.duty.Holding.{Holding}
use Rattle.brc_model.specs.declared.duty.Duty.{Duty}
use Rattle.brc_model.specs.declared.duty.Duty.TheVariants.{SettleKind, TakeField, BirthKind, BirthField, BirthLocal, KindLoad, LendField, ReturnField}
use Rattle.brc_model.specs.declared.address.Address.TheVariants.{KindOf, Field}
use Rattle.brc_model.specs.Duties.{has_resource, ready}
use Rattle.brc_model.specs.declared.actor.Actor.{Actor}
use Rattle.brc_model.specs.Machine.{Machine, used_by, actor_by, machine_by_duty}
use Rattle.brc_model.proofs.Basics.Lists.{some_is, slice_get-set_same, slice_get-set_other}
use Rattle.brc_model.proofs.Basics.Written.{zero_written, written_load}
use Rattle.brc_model.proofs.Basics.Blocks.{next_block, next_index}
use Rattle.brc_model.proofs.Frame.Alive.{live_born}
use Rattle.brc_model.proofs.Frame.Leaves.{head_of, locked_lives}
use Rattle.brc_model.proofs.Stepping.FitsAfter.{found_by, memory_by}
use Rattle.brc_model.specs.Accounts.{Accounts}
use Rattle.brc_model.specs.Knowledge.{IsNext}
use Rattle.brc_model.specs.Invariant.{AtDuty, kind_stored, field_stored, BlankFits}
use Rattle.brc_model.specs.Layout.{block_of, index_of}

-- ---- the thread that steps

-- A word that is 0 stays 0 if the step stores another word.
still_zero : (b : Bool) (v word : ℕ) → b ≡ false → word ≡ 0 → cond b v word ≡ 0
still_zero b v word apart zero_before = ap (λ (c : Bool). cond c v word) apart ∙ zero_before

-- Says whether the duty stores the row's kind, and whether it fills the row's field.
abbrev bears_kind : Duty → ℕ → Bool
bears_kind (BirthKind y h w) x = y == x
bears_kind _ x = false

abbrev fills_field : Duty → ℕ → Bool
fills_field (BirthField y h) x = y == x
fills_field (ReturnField y) x = y == x
fills_field _ x = false

kind_zero : (m : Machine) (t : ℕ) (a : Actor) (d : Duty) (x : ℕ) → bears_kind d x ≡ false → m.memory (KindOf x) ≡ 0
    → memory_by m t a d (KindOf x) ≡ 0
kind_zero m t a (BirthKind y h w) x apart was = still_zero (y == x) w (m.memory (KindOf x)) apart was
kind_zero m t a (SettleKind y) x apart was = written_load m.memory (KindOf y) (KindOf x) ∙ was
kind_zero m t a (KindLoad y) x apart was = written_load m.memory (KindOf y) (KindOf x) ∙ was
kind_zero m t a _ x apart was = was

field_zero : (m : Machine) (t : ℕ) (a : Actor) (d : Duty) (x : ℕ) → fills_field d x ≡ false → m.memory (Field x) ≡ EMPTY
    → memory_by m t a d (Field x) ≡ 0
field_zero m t a (BirthField y h) x apart was = still_zero (y == x) 1 (m.memory (Field x)) apart was
field_zero m t a (ReturnField y) x apart was = still_zero (y == x) 1 (m.memory (Field x)) apart was
field_zero m t a (TakeField y) x apart was = zero_written (y == x) (m.memory (Field x)) was
field_zero m t a (LendField y) x apart was = zero_written (y == x) (m.memory (Field x)) was
field_zero m t a _ x apart was = was

-- After the step on the kind word, the agenda says that the birth has stored it. After the step on the field, the
-- agenda says so of both.
kind_stored_after_kind : (b : Bool) (head y : ℕ) (h : Holding) (rest : List Duty) (x : ℕ)
    → kind_stored (ready head (cond b (BirthField y h ∷ []) (BirthLocal y h ∷ []) ++ rest)) x ≡ (y == x)
kind_stored_after_kind true zero y h rest x = refl
kind_stored_after_kind true (suc head) y h rest x = refl
kind_stored_after_kind false zero y h rest x = refl
kind_stored_after_kind false (suc head) y h rest x = refl

kind_stored_after_field : (head y : ℕ) (h : Holding) (rest : List Duty) (x : ℕ)
    → kind_stored (ready head (BirthLocal y h ∷ rest)) x ≡ (y == x)
kind_stored_after_field zero y h rest x = refl
kind_stored_after_field (suc head) y h rest x = refl

field_stored_after_field : (head y : ℕ) (h : Holding) (rest : List Duty) (x : ℕ)
    → field_stored (ready head (BirthLocal y h ∷ rest)) x ≡ (y == x)
field_stored_after_field zero y h rest x = refl
field_stored_after_field (suc head) y h rest x = refl

module _ {p : Accounts} {n : ℕ} {m : Machine} {t : ℕ} {a : Actor} {d : Duty} {rest : List Duty} where
  -- The thread's unused rows are blank when it is about to do the duty.
  pub blanks_here : AtDuty p n m t a d rest → BlankFits m.layout m.memory t a.used (d ∷ rest)
  blanks_here here =
      subst (λ (l : List Duty). BlankFits m.layout m.memory t a.used l) here.agenda (here.core.blanks t a here.found)

-- The row that the birth makes isn't one of the rows that are unused after it.
born_apart : (m : Machine) (t : ℕ) (a : Actor) (y x : ℕ) → IsNext m t a y → a.used + 1 ≤ index_of m.layout t x
    → (y == x) ≡ false
born_apart m t a y x next past =
    ne_eqb y x (λ e. let same : index_of m.layout t y ≡ index_of m.layout t x = ap (index_of m.layout t) e in absurd
    (omega (arith, next_index m t a y next, past, same)))

module _ {p : Accounts} {n : ℕ} {m : Machine} {t : ℕ} {a : Actor} {rest : List Duty} where
  -- The row whose resource a thread has lent isn't one of the unused rows.
  lent_used : (u : ℕ) (b : Actor) (y x : ℕ) → AtDuty p n m t a (ReturnField y) rest → slice_get m.actors u ≡ Some b
      → block_of m.layout x ≡ u → b.used ≤ index_of m.layout u x → (y == x) ≡ false
  lent_used u b y x here found block past =
      let lent = head_of here in
      let locked = (here.core.each t a here.found).0.lent y lent in
      let born = live_born m y (locked_lives t a y here.core here.found locked) in
      ne_eqb y x (λ e. born (ap m.life e ∙ (here.core.uses u b found).unborn x block past))

  own_blanks : (d : Duty) → AtDuty p n m t a d rest
      → BlankFits m.layout (memory_by m t a d) t (used_by a.used d)
      (actor_by m.layout t a d rest (found_by m t a d)).agenda
  own_blanks (BirthKind y h w) here =
      let d : Duty = BirthKind y h w in
      let old = blanks_here here in
      record {
        kinds = λ x block past none.
            kind_zero m t a d x (sym (kind_stored_after_kind (has_resource w) a.head y h rest x) ∙ none)
            (old.kinds x block past refl);
        fields = λ x block past none. old.fields x block past refl;
      }
  own_blanks (BirthField y h) here =
      let d : Duty = BirthField y h in
      let old = blanks_here here in
      record {
        kinds = λ x block past none. old.kinds x block past (sym (kind_stored_after_field a.head y h rest x) ∙ none);
        fields = λ x block past none.
            field_zero m t a d x
            (sym (field_stored_after_field a.head y h rest x) ∙ none) (old.fields x block past refl);
      }
  own_blanks (BirthLocal y h) here =
      let old = blanks_here here in
      let next = (head_of here).0 in
      record {
        kinds = λ x block past none. old.kinds x block (omega (arith, past)) (born_apart m t a y x next past);
        fields = λ x block past none. old.fields x block (omega (arith, past)) (born_apart m t a y x next past);
      }
  own_blanks (ReturnField y) here =
      let old = blanks_here here in
      record {
        kinds = λ x block past none. old.kinds x block past refl;
        fields = λ x block past none.
            field_zero m t a (ReturnField y) x (lent_used t a y x here here.found block past)
            (old.fields x block past refl);
      }
  own_blanks d here =
      let old = blanks_here here in
      record {
        kinds = λ x block past none. kind_zero m t a d x refl (old.kinds x block past refl);
        fields = λ x block past none. field_zero m t a d x refl (old.fields x block past refl);
      }

-- ---- the other threads

-- The row of a birth is in no other thread's block.
block_apart : (m : Machine) (t u : ℕ) (a : Actor) (y x : ℕ) → u ≢ t → IsNext m t a y → block_of m.layout x ≡ u
    → (y == x) ≡ false
block_apart m t u a y x ne next block =
    ne_eqb y x (λ e. ne (sym block ∙ ap (block_of m.layout) (sym e) ∙ next_block m t a y next))

module _ {p : Accounts} {n : ℕ} {m : Machine} {t : ℕ} {a : Actor} {rest : List Duty} where
  -- The duty stores neither the kind of another thread's unused row nor its field.
  others_apart : (d : Duty) (u : ℕ) (b : Actor) (x : ℕ) → AtDuty p n m t a d rest → u ≢ t
      → slice_get m.actors u ≡ Some b → block_of m.layout x ≡ u → b.used ≤ index_of m.layout u x
      → (bears_kind d x ≡ false) × (fills_field d x ≡ false)
  others_apart (BirthKind y h w) u b x here ne found block past =
      (block_apart m t u a y x ne (head_of here).0 block, refl)
  others_apart (BirthField y h) u b x here ne found block past =
      (refl, block_apart m t u a y x ne (head_of here).0 block)
  others_apart (ReturnField y) u b x here ne found block past = (refl, lent_used u b y x here found block past)
  others_apart _ u b x here ne found block past = (refl, refl)

  others_blanks : (d : Duty) (u : ℕ) (b : Actor) → AtDuty p n m t a d rest → u ≢ t → slice_get m.actors u ≡ Some b
      → BlankFits m.layout (memory_by m t a d) u b.used b.agenda
  others_blanks d u b here ne found =
      let old = here.core.blanks u b found in
      record {
        kinds = λ x block past none.
            kind_zero m t a d x (others_apart d u b x here ne found block past).0 (old.kinds x block past none);
        fields = λ x block past none.
            field_zero m t a d x (others_apart d u b x here ne found block past).1 (old.fields x block past none);
      }

module _ {p : Accounts} {n : ℕ} {m : Machine} {t : ℕ} {a : Actor} {d : Duty} {rest : List Duty} where
  -- After a thread's step the unused rows of every thread's block are blank.
  pub blanks_after : AtDuty p n m t a d rest → (u : ℕ) (b : Actor) → slice_get (machine_by_duty m t a d rest).actors u
      ≡ Some b
      → BlankFits m.layout (memory_by m t a d) u b.used b.agenda
  blanks_after here u b is =
      let after = actor_by m.layout t a d rest (found_by m t a d) in
      elim (eqb_tells u t) [
        | inl same ↦
            let written_is : Some after ≡ Some b =
            sym (ap (slice_get (slice_set m.actors t after)) same.1
            ∙ slice_get-set_same m.actors t after (slice_get_within m.actors t a here.found)) ∙ is in
            let own : BlankFits m.layout (memory_by m t a d) u after.used after.agenda =
            subst (λ (w : ℕ). BlankFits m.layout (memory_by m t a d) w after.used after.agenda) (sym same.1)
            (own_blanks d here) in
            subst (λ (c : Actor). BlankFits m.layout (memory_by m t a d) u c.used c.agenda)
            (some_is after b written_is) own
        | inr apart ↦ others_blanks d u b here apart.1 (sym (slice_get-set_other m.actors t u after apart.1) ∙ is)
      ]
