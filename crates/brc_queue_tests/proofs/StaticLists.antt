-- What a hand may do with a static list, which is immortal.
use Rattle.std.proofs.Common.{◌≡◌, ℕ, true, Option, None, Some, inl, refl, sym, ◌∙◌, subst, arith}
use Rattle.brc_lang.specs.declared.module.Module.{Module}
use Rattle.brc_model.specs.declared.layout.Layout.{Layout}
use Rattle.brc_model.specs.FirstRows.{HasLines}
use Rattle.brc_model.specs.Layout.{is_immortal_row}
use Rattle.brc_model.specs.StepMachine.{layout_of}
use Rattle.brc_table.specs.Swaps.{MayPut}
use Rattle.brc_table.specs.Hands.{TableState, HandState, HoldsOne}
use Rattle.brc_list.specs.Calls.{word_of}
use Rattle.brc_queue_tests.specs.Embedded.{IsResting}
use Rattle.brc_queue_tests.specs.Modules.{static_module}
use Rattle.brc_queue_tests.proofs.References.{holds_item, has_no_work}

-- The module with two static lists has their rows.
pub has_static_lines : (m : Module) → m ≡ static_module → HasLines m.statics (layout_of m 2 4)
has_static_lines m is =
    subst (λ (m : Module). HasLines m.statics (layout_of m 2 4)) (sym is) (record {
      few = omega arith;
      lists = refl;
      numbers = refl;
      each = ((omega arith, (omega arith, (omega arith, tt))), ((omega arith, (omega arith, tt)), tt));
    })

-- Every hand holds a static list,
pub holds_list : {heap : TableState} {hand : HandState} {item locked : Option ℕ} (list : ℕ)
    → is_immortal_row heap.layout list ≡ true → IsResting heap hand item locked → HoldsOne hand.view list
holds_list list immortal rest =
    inl (subst (λ (l : Layout). is_immortal_row l list ≡ true) (sym rest.table.1) immortal)

-- and once it has locked it, it may put any item into it, the list itself too.
pub may_put_there : {heap : TableState} {hand : HandState} (list : ℕ) (item : Option ℕ)
    → is_immortal_row heap.layout list ≡ true → IsResting heap hand item (Some list)
    → MayPut hand.view (word_of item)
may_put_there list None immortal rest = tt
may_put_there {heap} {hand} list (Some y) immortal rest = (
  holds_item y rest,
  has_no_work rest y,
  λ e. inl (let same : Some list ≡ Some y = sym rest.locked_is ∙ e in
      let is : list ≡ y = cc in
      subst (λ (z : ℕ). is_immortal_row hand.view.layout z ≡ true) is
      (subst (λ (l : Layout). is_immortal_row l list ≡ true) (sym rest.table.1) immortal)),
)
