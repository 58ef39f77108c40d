-- A function that the code has found to have no parameters has none where the model looks it up.
use Rattle.std.proofs.Common.{◌≡◌, ◌<◌, ℕ, List, [], length, slice_index_or, refl, sym, subst, Option}
use Rattle.std.proofs.lemmas.List.{nil_from_length}
use Rattle.std.proofs.lemmas.Option.{slice_get_read}
use Rattle.brc_lang.specs.declared.module.Function.{Function}
use Rattle.brc_model.specs.Threads.{function_of, function_at}

pub has_no_parameters : (fs : List Function) (n : ℕ) (f : Function) → n < length fs → f ≡ slice_index_or fs n f
    → length f.parameters ≡ 0 → (function_at fs n).parameters ≡ []
has_no_parameters fs n f inside is none = subst (λ (o : Option Function). (function_of o).parameters ≡ [])
    (sym (slice_get_read fs (length fs) n f refl inside is)) (nil_from_length f.parameters none)
