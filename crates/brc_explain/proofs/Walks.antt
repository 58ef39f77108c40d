-- Paths, one exit after another.
use Rattle.std.proofs.Common.{◌≡◌, ℕ, ◌+◌, ◌<◌, List, [], ◌∷◌, length, take, get_or, refl, ap, ◌∙◌}
use Rattle.std.proofs.lemmas.List.{take_more}
use Rattle.std.proofs.lemmas.List.Sums.{fold-append}
use Rattle.brc_lang.specs.declared.module.Function.{Function}
use Rattle.brc_lang.specs.declared.module.Instr.{Instr}
use Rattle.brc_model.specs.declared.state.Exit.{Exit}
use Rattle.brc_model.specs.SlotStates.{entry_of}
use Rattle.brc_model.specs.Paths.{PathEnd, At, Ended, Reports, follow, path_end}
use Rattle.brc_explain.specs.Walking.{place_of, onward}

place-onward : (code : List Instr) (e : PathEnd) (x : Exit) → place_of (follow code e x) ≡ onward code (place_of e) x
place-onward code (At at s) x = refl
place-onward code Ended x = refl
place-onward code (Reports at c) x = refl

-- the path of one exit more stands where its last exit leads
pub reached-more : (f : Function) (exits : List Exit) (i : ℕ) (d : Exit) → i < length exits
    → place_of (path_end f (take (i + 1) exits))
    ≡ onward f.code (place_of (path_end f (take i exits))) (get_or exits i d)
reached-more f exits i d h =
    ap (λ (l : List Exit). place_of (path_end f l)) (take_more exits i d h)
    ∙ ap place_of (fold-append (follow f.code) (At 0 (entry_of f.parameters)) (take i exits) (get_or exits i d ∷ []))
    ∙ place-onward f.code (path_end f (take i exits)) (get_or exits i d)
