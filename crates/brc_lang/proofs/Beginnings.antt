-- The text above a line, and one static line or one function more.
use Rattle.std.proofs.Common.{◌≡◌, ℕ, ◌<◌, true, List, [], ◌∷◌, ◌++◌, length, sym, ap, ◌∙◌, append_assoc, arith}
use Rattle.std.proofs.lemmas.List.{append-nil, length-append}
use Rattle.std.proofs.lemmas.List.Concat.{flat_map-append}
use Rattle.brc_lang.specs.declared.module.Function.{Function}
use Rattle.brc_lang.specs.declared.version.Version.{Version}
use Rattle.brc_lang.specs.Grammar.{function, functions, first_line, static_line, static_lines, top, has_statics}
use Rattle.brc_lang.specs.Grammar.{IsStatic, AreStatics}
use Rattle.brc_lang.specs.Fault.{beginning, IsBeginning}
use Rattle.brc_lang.specs.Progress.{closed}
use Rattle.brc_lang.specs.Limits.{static_limit}
use Rattle.brc_lang.proofs.Below.{functions_push}
use Rattle.brc_lang.proofs.Bodies.{all_push}

pub same_beginning : (v w : Version) (s t : List (List ℕ)) (fs gs : List Function) → v ≡ w → s ≡ t → fs ≡ gs
    → closed v s fs ≡ closed w t gs
same_beginning v w s t fs gs e f g =
    ap (λ (x : Version). closed x s fs) e ∙ ap (λ (x : List (List ℕ)). closed w x fs) f
    ∙ ap (λ (x : List Function). closed w t x) g

-- no function is open
pub above_closed : (version : Version) (statics : List (List ℕ)) (done : List Function)
    → beginning (closed version statics done) ≡ top version statics ++ functions done
above_closed version statics done = append-nil (top version statics ++ functions done)

-- ---- one static line more

pub statics_push : (version : Version) (statics : List (List ℕ)) (numbers : List ℕ)
    → top version (statics ++ numbers ∷ []) ≡ top version statics ++ static_line numbers
statics_push version statics numbers =
    ap (λ (x : List ℕ). first_line version ++ x)
    (flat_map-append static_line statics (numbers ∷ [])
    ∙ ap (λ (x : List ℕ). static_lines statics ++ x) (append-nil (static_line numbers)))
    ∙ sym (append_assoc (first_line version) (static_lines statics) (static_line numbers))

-- no function is above
bare : (version : Version) (statics : List (List ℕ)) → beginning (closed version statics []) ≡ top version statics
bare version statics = above_closed version statics [] ∙ append-nil (top version statics)

pub static_grows : (version : Version) (statics : List (List ℕ)) (numbers : List ℕ) → has_statics version ≡ true
    → IsStatic numbers → length statics < static_limit → IsBeginning (closed version statics [])
    → IsBeginning (closed version (statics ++ numbers ∷ []) [])
    × (beginning (closed version (statics ++ numbers ∷ []) [])
    ≡ beginning (closed version statics []) ++ static_line numbers)
static_grows version statics numbers has fits room so_far =
    let longer = length-append statics (numbers ∷ []) in
    let lines : AreStatics version (statics ++ numbers ∷ []) = record {
      most = rw has (omega (arith, longer, room));
      each = all_push IsStatic statics numbers so_far.statics.each fits;
    } in (
      record {
        statics = lines;
        most = so_far.most;
        done = tt;
        names = so_far.names;
        calls = tt;
        allowed = tt;
        open_fits = tt;
      },
      bare version (statics ++ numbers ∷ []) ∙ statics_push version statics numbers
          ∙ ap (λ (x : List ℕ). x ++ static_line numbers) (sym (bare version statics)),
    )

-- ---- one function more

pub function_grows : (version : Version) (statics : List (List ℕ)) (done : List Function) (f : Function)
    → beginning (closed version statics (done ++ f ∷ [])) ≡ beginning (closed version statics done) ++ function done f
function_grows version statics done f =
    above_closed version statics (done ++ f ∷ [])
    ∙ ap (λ (x : List ℕ). top version statics ++ x) (functions_push done f)
    ∙ sym (append_assoc (top version statics) (functions done) (function done f))
    ∙ ap (λ (x : List ℕ). x ++ function done f) (sym (above_closed version statics done))
