-- A word that is stored in a table is written in its memory.
use Rattle.std.proofs.Common.{◌≡◌, ◌≢◌, ℕ, Bool, cond, List, length, set, inl, inr, sym, ap, ◌∙◌, subst, arith}
use Rattle.std.specs.Prelude.{slice_index}
use Rattle.std.proofs.lemmas.Bool.{cases_Bool}
use Rattle.std.proofs.lemmas.List.{get_or-set_same, get_or-set_other}
use Rattle.brc_model.specs.declared.address.Address.{Address}
use Rattle.brc_model.specs.declared.layout.Layout.{Layout}
use Rattle.brc_model.specs.Counting.{IsPlainLayout}
use Rattle.brc_model.specs.Machine.{same_address, written}
use Rattle.brc_table.specs.Places.{place, HasWord, FewFirstRows, word_count}
use Rattle.brc_table.specs.Opening.{AreWordsOf}
use Rattle.brc_table.proofs.Places.{place_apart, place_within}
use Rattle.brc_table.proofs.Stepping.{same_is}

pub written_are : (layout : Layout) (words : List ℕ) (memory : Address → ℕ) (a : Address) (word : ℕ)
    → IsPlainLayout layout → FewFirstRows layout → length words ≡ word_count layout → HasWord layout a
    → AreWordsOf layout words memory → AreWordsOf layout (set words (place layout a) word) (written memory a word)
written_are layout words memory a word plain few long has are b there =
    elim (cases_Bool (same_address a b)) [
      | inl one ↦
          let here : slice_index (set words (place layout a) word) (place layout a) ≡ word =
          get_or-set_same words (place layout a) word 0 (omega (arith, long, place_within layout a plain few has)) in
          subst (λ (c : Address). slice_index (set words (place layout a) word) (place layout c) ≡ word)
          (same_is a b one) here
          ∙ sym (ap (λ (e : Bool). cond e word (memory b)) one)
      | inr other ↦
          let apart : place layout b ≢ place layout a = λ e. place_apart layout a b plain few has there other (sym e) in
          get_or-set_other words (place layout a) (place layout b) word 0 apart
          ∙ are b there
          ∙ sym (ap (λ (e : Bool). cond e word (memory b)) other)
    ]
