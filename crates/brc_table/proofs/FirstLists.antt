-- Once all lines are immortal lists, the words of a table say what the model's first words are.
use Rattle.std.proofs.Common.{◌≡◌, ℕ, zero, suc, Bool, cond, List, length, refl, sym, ap, ◌∙◌, arith}
use Rattle.std.specs.Prelude.{◌==◌, if◌then◌else◌}
use Rattle.std.proofs.lemmas.Bool.{ne_eqb, le-leb}
use Rattle.brc_model.specs.declared.address.Address.{Address}
use Rattle.brc_model.specs.declared.address.Address.TheVariants.{Local, Shared, Gate, KindOf, Marks, Cell, Field, Resource, ThreadWord}
use Rattle.brc_model.specs.declared.layout.Layout.{Layout}
use Rattle.brc_model.specs.FirstRows.{HasLines}
use Rattle.brc_model.specs.StepMachine.{rooted_memory}
use Rattle.brc_effect.specs.FirstLists.{with_lists}
use Rattle.brc_effect.proofs.FirstListWords.{IsPlain, IsOther, shared_other, gate_other, marks_other, thread_other, others_lists, locals_are, kinds_are, cells_are}
use Rattle.brc_table.specs.Places.{HasWord}
use Rattle.brc_table.specs.Rule.{reading}
use Rattle.brc_table.specs.Opening.{plain_memory}

plain_is : IsPlain plain_memory 1
plain_is = record { local = λ x. refl; kind = λ x. refl; cell = λ x i. refl }

module _ (lines : List (List ℕ)) (layout : Layout) (has : HasLines lines layout) where
  -- A word that no list and no number has is as without lists.
  other : (a : Address) → IsOther a → with_lists plain_memory lines layout (length lines) a ≡ plain_memory a
  other a = others_lists lines layout has plain_memory (length lines) a

  -- The words with all lists say what the model's first words are.
  pub all_words : (a : Address) → HasWord layout a
      → reading a (with_lists plain_memory lines layout (length lines) a) ≡ rooted_memory lines layout 1 a
  all_words (Local x) here = locals_are lines layout has plain_memory 1 plain_is x
  all_words (Shared x) here = other (Shared x) (shared_other x)
  all_words (Gate x) here = other (Gate x) (gate_other x)
  all_words (KindOf x) here = kinds_are lines layout has plain_memory 1 plain_is x
  all_words (Marks t w) here = other (Marks t w) (marks_other t w)
  all_words (Cell x i) here = cells_are lines layout has plain_memory 1 plain_is x i
  all_words (Field x) here = absurd here
  all_words (Resource x) here = absurd here
  all_words (ThreadWord zero) here =
      ap (reading (ThreadWord zero)) (other (ThreadWord zero) (thread_other zero))
      ∙ sym (ap (λ (b : Bool). cond b 1 0) (le-leb 0 layout.workers (omega arith)))
  all_words (ThreadWord (suc t)) here =
      ap (reading (ThreadWord (suc t)))
      (other (ThreadWord (suc t)) (thread_other (suc t))
      ∙ ap (λ (b : Bool). cond b 1 0) (ne_eqb (suc t) 0 (λ e. omega (arith, e))))
      ∙ sym (ap (λ (b : Bool). cond b 1 0) (le-leb (suc t) layout.workers (omega (arith, here))))

  -- The words of threads are as without lists.
  pub thread_words : (t : ℕ)
      → with_lists plain_memory lines layout (length lines) (ThreadWord t) ≡ (if t == 0 then 1 else 0)
  thread_words t = other (ThreadWord t) (thread_other t)
