-- Once all lines are immortal lists, the words are the model's first words.
use Rattle.std.proofs.Common.{◌≡◌, ℕ, ◌+◌, List, length, refl}
use Rattle.std.proofs.Math.Path.{fun_ext}
use Rattle.brc_model.specs.declared.address.Address.{Address}
use Rattle.brc_model.specs.declared.address.Address.TheVariants.{Local, Shared, Gate, KindOf, Marks, Cell, Field, Resource, ThreadWord}
use Rattle.brc_model.specs.declared.layout.Layout.{Layout}
use Rattle.brc_model.specs.FirstRows.{HasLines}
use Rattle.brc_model.specs.StepMachine.{first_memory}
use Rattle.brc_effect.specs.FirstLists.{with_lists}
use Rattle.brc_effect.proofs.FirstListWords.{IsPlain, shared_other, gate_other, marks_other, field_other, resource_other, thread_other, others_lists, locals_are, kinds_are, cells_are}
use Rattle.brc_machine.specs.FirstWords.{plain_words}

plain_is : (workers : ℕ) → IsPlain (plain_words workers) (1 + workers)
plain_is workers = record { local = λ x. refl; kind = λ x. refl; cell = λ x i. refl }

module _ (lines : List (List ℕ)) (layout : Layout) (has : HasLines lines layout) where
  abbrev all_with : Address → ℕ
  all_with = with_lists (plain_words layout.workers) lines layout (length lines)

  -- The words with all lists are the model's first words.
  pub all_words : with_lists (plain_words layout.workers) lines layout (length lines) ≡ first_memory lines layout
  all_words =
      let plain = plain_is layout.workers in
      fun_ext (λ a. elim a as (λ b. all_with b ≡ first_memory lines layout b) [
        | Local x ↦ locals_are lines layout has (plain_words layout.workers) (1 + layout.workers) plain x
        | Shared x ↦ others_lists lines layout has _ (length lines) (Shared x) (shared_other x)
        | Gate x ↦ others_lists lines layout has _ (length lines) (Gate x) (gate_other x)
        | KindOf x ↦ kinds_are lines layout has (plain_words layout.workers) (1 + layout.workers) plain x
        | Marks t w ↦ others_lists lines layout has _ (length lines) (Marks t w) (marks_other t w)
        | Cell x i ↦ cells_are lines layout has (plain_words layout.workers) (1 + layout.workers) plain x i
        | Field x ↦ others_lists lines layout has _ (length lines) (Field x) (field_other x)
        | Resource x ↦ others_lists lines layout has _ (length lines) (Resource x) (resource_other x)
        | ThreadWord t ↦ others_lists lines layout has _ (length lines) (ThreadWord t) (thread_other t)
      ])
