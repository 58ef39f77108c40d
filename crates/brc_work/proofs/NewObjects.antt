-- What is known of a new object.
use Rattle.std.proofs.Common.{◌≡◌, ℕ, ◌<◌, Bool, cond, List, ◌∷◌, sym, ap, ◌∙◌, arith}
use Rattle.brc_lang.specs.declared.kind.Kind.{Kind}
use Rattle.brc_lang.specs.declared.kind.Kind.TheVariants as kinds
use Rattle.brc_model.specs.declared.layout.Layout.{Layout}
use Rattle.brc_model.specs.Layout.{IsCounted}
use Rattle.brc_table.specs.Views.{with_reference}
use Rattle.brc_heap.specs.Calls.{IsBornWith, kind_word}

-- The kind word of a new object isn't 0.
pub born_some : (cells : ℕ) (kind : Kind) (arg : ℕ) → IsBornWith cells kind arg → 0 < kind_word kind arg
born_some cells kinds.Any arg born = absurd born
born_some cells kinds.None arg born = absurd born
born_some cells kinds.Num arg born = omega arith
born_some cells kinds.List arg born = omega arith
born_some cells kinds.File arg born = omega arith
born_some cells kinds.Sock arg born = omega arith

-- A new object's reference is a reference more.
pub born_with : (layout : Layout) (x : ℕ) (rows new : List ℕ) → IsCounted layout x → new ≡ x ∷ rows
    → new ≡ with_reference layout x rows
born_with layout x rows new counted is = is ∙ sym (ap (λ (b : Bool). cond b rows (x ∷ rows)) counted)
