-- One function more below others: the text, the depths, and what its calls may be.
use Rattle.std.proofs.Common.{◌≡◌, ℕ, List, [], ◌∷◌, ◌++◌, refl, sym, ap, subst, ◌∙◌, append_assoc}
use Rattle.std.proofs.lemmas.List.{append-nil}
use Rattle.brc_lang.specs.declared.module.Function.{Function}
use Rattle.brc_lang.specs.declared.version.Version.{Version}
use Rattle.brc_lang.specs.Grammar.{function, functions_below, functions, depth_of, depths_below, depths, FitsBelow}
use Rattle.brc_lang.specs.Grammar.{CallsFit}

-- the text of functions, and then of one more
below_push : (above fs : List Function) (f : Function)
    → functions_below above (fs ++ f ∷ []) ≡ functions_below above fs ++ function (above ++ fs) f
below_push above [] f =
    append-nil (function above f) ∙ ap (λ (gs : List Function). function gs f) (sym (append-nil above))
below_push above (g ∷ fs) f =
    ap (λ (x : List ℕ). function above g ++ x)
    (below_push (above ++ g ∷ []) fs f
    ∙ ap (λ (gs : List Function). functions_below (above ++ g ∷ []) fs ++ function gs f)
    (append_assoc above (g ∷ []) fs))
    ∙ sym (append_assoc (function above g) (functions_below (above ++ g ∷ []) fs) (function (above ++ g ∷ fs) f))

pub functions_push : (done : List Function) (f : Function)
    → functions (done ++ f ∷ []) ≡ functions done ++ function done f
functions_push done f = below_push [] done f

depths_below_push : (ds : List ℕ) (fs : List Function) (f : Function)
    → depths_below ds (fs ++ f ∷ []) ≡ depths_below ds fs ++ depth_of (depths_below ds fs) f.code ∷ []
depths_below_push ds [] f = refl
depths_below_push ds (g ∷ fs) f = depths_below_push (ds ++ depth_of ds g.code ∷ []) fs f

-- the depths of functions, and then of one more
pub depths_push : (done : List Function) (f : Function)
    → depths (done ++ f ∷ []) ≡ depths done ++ depth_of (depths done) f.code ∷ []
depths_push done f = depths_below_push [] done f

module _ (version : Version) where
  fit_push : (above fs : List Function) (f : Function) → CallsFit version above fs → FitsBelow version (above ++ fs) f
      → CallsFit version above (fs ++ f ∷ [])
  fit_push above [] f fits here = (subst (λ (gs : List Function). FitsBelow version gs f) (append-nil above) here, tt)
  fit_push above (g ∷ fs) f fits here = (
    fits.0,
    fit_push (above ++ g ∷ []) fs f fits.1
        (subst (λ (gs : List Function). FitsBelow version gs f) (sym (append_assoc above (g ∷ []) fs)) here),
  )

  -- the calls of functions, and then of one more
  pub calls_push : (done : List Function) (f : Function) → CallsFit version [] done → FitsBelow version done f
      → CallsFit version [] (done ++ f ∷ [])
  calls_push done f fits here = fit_push [] done f fits here

  fit_parts : (above fs more : List Function) → CallsFit version above (fs ++ more)
      → CallsFit version above fs × CallsFit version (above ++ fs) more
  fit_parts above [] more fits =
      (tt, subst (λ (gs : List Function). CallsFit version gs more) (sym (append-nil above)) fits)
  fit_parts above (g ∷ fs) more fits =
      let others = fit_parts (above ++ g ∷ []) fs more fits.1 in (
        (fits.0, others.0),
        subst (λ (gs : List Function). CallsFit version gs more) (append_assoc above (g ∷ []) fs) others.1,
      )

  -- the last function's, and those of the functions above it
  pub calls_parts : (done more : List Function) → CallsFit version [] (done ++ more)
      → CallsFit version [] done × CallsFit version done more
  calls_parts done more fits = fit_parts [] done more fits
