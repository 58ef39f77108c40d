-- The depths that a reader knows.
use Rattle.std.proofs.Common.{◌≡◌, ℕ, ◌+◌, ◌<◌, ◌≤◌, List, [], ◌∷◌, ◌++◌, length, sym, ap, ◌∙◌, inl, inr, arith}
use Rattle.std.specs.Prelude.{max, slice_set}
use Rattle.std.specs.List.{slice_index_or}
use Rattle.std.proofs.lemmas.Bool.{cases_eq}
use Rattle.std.proofs.lemmas.Grind.{get_or-set_at}
use Rattle.std.proofs.lemmas.List.{get_or-set_other, get_or_append_left, get_or_at, length-append}
use Rattle.brc_lang.specs.declared.module.Function.{Function}
use Rattle.brc_lang.specs.declared.module.Instr.{Instr}
use Rattle.brc_lang.specs.Grammar.{depth_of, depths_below, depths}
use Rattle.brc_lang.proofs.Below.{depths_push}

-- a function has its own call open at least
depth_some : (depths : List ℕ) (code : List Instr) → 1 ≤ depth_of depths code
depth_some depths [] = omega arith
depth_some depths (i ∷ code) = omega (arith, depth_some depths code)

pub one_or_more : (depths : List ℕ) (code : List Instr) → max 1 (depth_of depths code) ≡ depth_of depths code
one_or_more depths code = omega (arith, depth_some depths code)

length_below : (ds : List ℕ) (fs : List Function) → length (depths_below ds fs) ≡ length ds + length fs
length_below ds [] = omega arith
length_below ds (f ∷ fs) =
    let d = depth_of ds f.code in
    omega (arith, length_below (ds ++ d ∷ []) fs, length-append ds (d ∷ []))

-- the depth of one more function is known
pub knows_one_more : (known : List ℕ) (done : List Function) (f : Function) (depth : ℕ)
    → ((number : ℕ) → number < length done → slice_index_or known number 0 ≡ slice_index_or (depths done) number 0)
    → length done < length known → depth ≡ depth_of (depths done) f.code
    → (number : ℕ) → number < length (done ++ f ∷ [])
    → slice_index_or (slice_set known (length done) depth) number 0 ≡ slice_index_or (depths (done ++ f ∷ [])) number 0
knows_one_more known done f depth knows room is number inside =
    let new = depth_of (depths done) f.code in
    let count : length (depths done) ≡ length done = omega (arith, length_below [] done) in
    elim (cases_eq number (length done)) [
      | inl last ↦
          get_or-set_at known (length done) number depth 0 last room ∙ is
          ∙ sym (ap (λ (ds : List ℕ). slice_index_or ds number 0) (depths_push done f)
          ∙ get_or_at (depths done) new [] 0 number (count ∙ sym last))
      | inr other ↦
          let before : number < length done = omega (arith, inside, length-append done (f ∷ []), other) in
          get_or-set_other known (length done) number depth 0 other ∙ knows number before
          ∙ sym (ap (λ (ds : List ℕ). slice_index_or ds number 0) (depths_push done f)
          ∙ get_or_append_left (depths done) (new ∷ []) 0 number (omega (arith, before, count)))
    ]
