-- The modules whose heaps the tests open, and what is born there.
use Rattle.std.proofs.Common.{◌≡◌, ◌≤◌, ℕ, length, refl, sym, ap, ◌∙◌, subst, arith}
use Rattle.brc_lang.specs.declared.kind.Kind.{Kind}
use Rattle.brc_lang.specs.declared.kind.Kind.TheVariants as kinds
use Rattle.brc_lang.specs.declared.module.Module.{Module}
use Rattle.brc_model.specs.declared.layout.Layout.{Layout}
use Rattle.brc_model.specs.FirstRows.{HasLines}
use Rattle.brc_model.specs.StepMachine.{layout_of}
use Rattle.brc_heap.specs.Calls.{IsBornWith}
use Rattle.brc_fixtures.specs.Modules.{plain_module}

-- A module with no static list has the rows of none.
pub has_no_lines : (m : Module) (workers rows : ℕ) → m ≡ plain_module → HasLines m.statics (layout_of m workers rows)
has_no_lines m workers rows is =
    subst (λ (m : Module). HasLines m.statics (layout_of m workers rows)) (sym is)
    (record { few = omega arith; lists = refl; numbers = refl; each = tt })

pub has_no_lists : (m : Module) (workers rows : ℕ) (layout : Layout) → m ≡ plain_module
    → layout ≡ layout_of m workers rows → layout.immortal_lists ≡ 0
has_no_lists m workers rows layout is same =
    ap (λ (l : Layout). l.immortal_lists) same ∙ ap (λ (m : Module). length m.statics) is

-- What may be born where lists have up to so many cells may be born where they have more.
pub born_in_more : (few most : ℕ) (kind : Kind) (arg : ℕ) → few ≤ most → IsBornWith few kind arg
    → IsBornWith most kind arg
born_in_more few most kinds.Num arg less with_it = tt
born_in_more few most kinds.List arg less with_it = omega (arith, less, with_it)
born_in_more few most kinds.File arg less with_it = with_it
born_in_more few most kinds.Sock arg less with_it = with_it
born_in_more few most kinds.Any arg less with_it = absurd with_it
born_in_more few most kinds.None arg less with_it = absurd with_it
