-- A list of numbers for the functions of a module, each from those of the functions above: their depths, and how many
-- instructions they begin.
use Rattle.std.proofs.Common.{◌≡◌, ℕ, zero, suc, ◌+◌, ◌<◌, List, [], ◌∷◌, ◌++◌, length, Some, refl, sym, ap, ◌∙◌, subst, arith}
use Rattle.std.specs.Prelude.{slice_get}
use Rattle.std.specs.List.{slice_index_or}
use Rattle.brc_lang.specs.declared.module.Function.{Function}
use Rattle.brc_lang.specs.declared.module.Instr.{Instr}
use Rattle.brc_lang.specs.declared.version.Version.{Version}
use Rattle.brc_lang.specs.Grammar.{FitsBelow, CallsFit}
use Rattle.brc_model.proofs.Basics.Lists.{some_is}

-- ---- lists

-- An item of the first list is that item of both.
pub get_before : {A : Type 0} (xs ys : List A) (i : ℕ) (d : A) → i < length xs
    → slice_index_or (xs ++ ys) i d ≡ slice_index_or xs i d
get_before [] ys i d low = absurd (omega (arith, low))
get_before (x ∷ xs) ys zero d low = refl
get_before (x ∷ xs) ys (suc i) d low = get_before xs ys i d (omega (arith, low))

-- An item that is added to a list is its last one.
pub get_next : {A : Type 0} (xs : List A) (x d : A) → slice_index_or (xs ++ x ∷ []) (length xs) d ≡ x
get_next [] x d = refl
get_next (y ∷ xs) x d = get_next xs x d

-- The same of items that are there.
pub found_before : {A : Type 0} (xs ys : List A) (i : ℕ) → i < length xs → slice_get (xs ++ ys) i ≡ slice_get xs i
found_before [] ys i low = absurd (omega (arith, low))
found_before (x ∷ xs) ys zero low = refl
found_before (x ∷ xs) ys (suc i) low = found_before xs ys i (omega (arith, low))

-- An item that is there is one of the items.
pub found_low : {A : Type 0} (xs : List A) (i : ℕ) (x : A) → slice_get xs i ≡ Some x → i < length xs
found_low [] i x found = absurd cc
found_low (y ∷ xs) zero x found = omega arith
found_low (y ∷ xs) (suc i) x found = let low = found_low xs i x found in omega (arith, low)

-- One item more.
pub next_length : {A : Type 0} (xs : List A) (x : A) → length (xs ++ x ∷ []) ≡ suc (length xs)
next_length [] x = refl
next_length (y ∷ xs) x = ap suc (next_length xs x)

-- An item added to a list, and then others.
pub next_then : {A : Type 0} (xs : List A) (x : A) (ys : List A) → (xs ++ x ∷ []) ++ ys ≡ xs ++ x ∷ ys
next_then [] x ys = refl
next_then {A = A} (y ∷ xs) x ys = ap (λ (l : List A). y ∷ l) (next_then xs x ys)

-- ---- a number for each function

-- the numbers of these functions, after those of the functions above
abbrev pub made : (List ℕ → List Instr → ℕ) → List ℕ → List Function → List ℕ
made step numbers [] = numbers
made step numbers (f ∷ fs) = made step (numbers ++ step numbers f.code ∷ []) fs

-- There is one number for each function.
made_length : (step : List ℕ → List Instr → ℕ) (numbers : List ℕ) (fs : List Function)
    → length (made step numbers fs) ≡ length numbers + length fs
made_length step numbers [] = omega arith
made_length step numbers (f ∷ fs) =
    let rest = made_length step (numbers ++ step numbers f.code ∷ []) fs in
    let one = next_length numbers (step numbers f.code) in
    omega (arith, rest, one)

-- The numbers of the functions above don't change below.
made_stays : (step : List ℕ → List Instr → ℕ) (numbers : List ℕ) (fs : List Function) (i : ℕ) → i < length numbers
    → slice_index_or (made step numbers fs) i 0 ≡ slice_index_or numbers i 0
made_stays step numbers [] i low = refl
made_stays step numbers (f ∷ fs) i low =
    let n = step numbers f.code in
    made_stays step (numbers ++ n ∷ []) fs i (omega (arith, low, next_length numbers n))
    ∙ get_before numbers (n ∷ []) i 0 low

-- The numbers of more functions come after those of the first ones.
made_then : (step : List ℕ → List Instr → ℕ) (numbers : List ℕ) (fs gs : List Function)
    → made step numbers (fs ++ gs) ≡ made step (made step numbers fs) gs
made_then step numbers [] gs = refl
made_then step numbers (f ∷ fs) gs = made_then step (numbers ++ step numbers f.code ∷ []) fs gs

-- ---- the functions above one

-- The functions above the one of a number, and what they allow it.
pub record IsBelow (version : Version) (functions : List Function) (number : ℕ) (f : Function) : Type 0 where
  pub above : List Function
  pub below : List Function
  pub all : functions ≡ above ++ f ∷ below
  pub many : length above ≡ number
  pub fits : FitsBelow version above f

-- Each function of a module has the others above it and below it, and what it calls fits those above.
pub is_below : (version : Version) (above fs : List Function) → CallsFit version above fs → (k : ℕ) (f : Function)
    → slice_get fs k ≡ Some f → IsBelow version (above ++ fs) (length above + k) f
is_below version above [] fits k f found = absurd cc
is_below version above (g ∷ fs) fits zero f found =
    let same : g ≡ f = some_is g f found in
    subst (λ (h : Function). IsBelow version (above ++ g ∷ fs) (length above + 0) h) same (record {
      above = above;
      below = fs;
      all = refl;
      many = omega arith;
      fits = fits.0;
    })
is_below version above (g ∷ fs) fits (suc k) f found =
    let rest = is_below version (above ++ g ∷ []) fs fits.1 k f found in
    record {
      above = rest.above;
      below = rest.below;
      all = sym (next_then above g fs) ∙ rest.all;
      many = omega (arith, rest.many, next_length above g);
      fits = rest.fits;
    }

module _ (step : List ℕ → List Instr → ℕ) {version : Version} {functions : List Function} {number : ℕ} {f : Function}
    (b : IsBelow version functions number f) where
  -- The numbers of all functions are those of the functions above, and then the others.
  made_are : made step [] functions ≡ made step (made step [] b.above) (f ∷ b.below)
  made_are = ap (made step []) b.all ∙ made_then step [] b.above (f ∷ b.below)

  -- As many functions are above the function as its number says.
  made_above : length (made step [] b.above) ≡ number
  made_above = let long = made_length step [] b.above in omega (arith, long, b.many)

  -- The function's own number is that of its code, from the numbers of the functions above it.
  pub made_itself : slice_index_or (made step [] functions) number 0 ≡ step (made step [] b.above) f.code
  made_itself =
      let numbers = made step [] b.above in
      let n = step numbers f.code in
      ap (λ (l : List ℕ). slice_index_or l number 0) made_are
      ∙ made_stays step (numbers ++ n ∷ []) b.below number (omega (arith, next_length numbers n, made_above))
      ∙ ap (λ (i : ℕ). slice_index_or (numbers ++ n ∷ []) i 0) (sym made_above) ∙ get_next numbers n 0

  -- The function above it has the number there that it has in the whole module.
  pub made_of_callee : (callee : ℕ) → callee < number
      → slice_index_or (made step [] functions) callee 0 ≡ slice_index_or (made step [] b.above) callee 0
  made_of_callee callee low =
      let numbers = made step [] b.above in
      let n = step numbers f.code in
      ap (λ (l : List ℕ). slice_index_or l callee 0) made_are
      ∙ made_stays step (numbers ++ n ∷ []) b.below callee (omega (arith, next_length numbers n, made_above, low))
      ∙ get_before numbers (n ∷ []) callee 0 (omega (arith, made_above, low))
