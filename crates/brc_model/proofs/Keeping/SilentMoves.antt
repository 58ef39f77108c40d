-- The moves of a silent step, one that accesses no word.
use Rattle.std.proofs.Common.{◌≡◌, ℕ, true, List, [], ◌∷◌}
use Rattle.std.specs.List.{list_any}
use Rattle.brc_lang.specs.declared.kind.Kind.TheVariants as kinds
use Rattle.brc_model.specs.declared.duty.Holding.{Holding}
use Rattle.brc_model.specs.AbstractState.{Reference, ByThread, same, without, Move, PassOn, moved}
use Rattle.brc_model.specs.declared.layout.Layout.{Layout}
use Rattle.brc_model.specs.Layout.{is_immortal_row}
use Rattle.brc_model.specs.Moves.{gain}
use Rattle.brc_model.specs.References.{reference_of}

-- A silent step moves nothing, gains a reference to an immortal object, or passes references on, one after another,
-- each from one of the thread's holders to another.
pub data SilentMoves (layout : Layout) : List Reference → ℕ → List Move → Type 0 where
  Stays : {bag : List Reference} {t : ℕ} → SilentMoves layout bag t []
  GainsImmortal : {bag : List Reference} {t : ℕ} (h : Holding) (x : ℕ) → is_immortal_row layout x ≡ true
      → SilentMoves layout bag t (gain t h x)
  PassesOn : {bag : List Reference} {t : ℕ} (from to : Holding) (x : ℕ) (rest : List Move)
      → list_any (same (reference_of t from x)) bag ≡ true
      → SilentMoves layout (reference_of t to x ∷ without (reference_of t from x) bag) t rest
      → SilentMoves layout bag t (PassOn (reference_of t from x) (ByThread t to) ∷ rest)

-- The bag after the moves.
abbrev pub bag_after : List Reference → List Move → List Reference
bag_after bag moves =
    (moved (record { references = bag; born = []; closed = []; kinds = λ x. kinds.Any }) moves).references
