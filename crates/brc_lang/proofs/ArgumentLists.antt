-- The arguments of a call: how they are stored, and how variables and parameters become arguments.
use Rattle.std.proofs.Common.{◌≡◌, ℕ, zero, suc, ◌+◌, ◌-◌, ◌<◌, ◌≤◌, List, [], ◌∷◌, ◌++◌, length, take, get_or, map, set}
use Rattle.std.proofs.Common.{replicate, Result, Ok, Err, IfOk, refl, sym, ap, subst, ◌∙◌, append_assoc, arith}
use Rattle.std.specs.Prelude.{codes}
use Rattle.std.specs.List.{AllByRecursion}
use Rattle.std.proofs.lemmas.List.{length-take-le, set-append_right, take_more, take_more_set, take_all}
use Rattle.std.proofs.lemmas.Result.{IfOk-at_ok}
use Rattle.brc_lang.specs.declared.parameter.Argument.{Argument}
use Rattle.brc_lang.specs.declared.parameter.Parameter.{Parameter}
use Rattle.brc_lang.specs.declared.fault.FaultCode.{FaultCode}
use Rattle.brc_lang.specs.InstructionWords.{variable_in, variables_in, arguments_of, IsOk}
use Rattle.brc_lang.specs.Grammar.{variable, target, argument_words}
use Rattle.brc_lang.specs.Limits.{variable_count, target_count}
use Rattle.brc_lang.specs.RoundTrips.{IsPlain}
use Rattle.brc_lang.proofs.Spelling.{bind_ok, ok_is, variable_spelled, variable_again, variable_plain, target_plain}
use Rattle.brc_lang.proofs.OperandForms.{both_same}

-- ---- items that are stored with padding behind them

-- an item in place of the first padding has padding behind it
pub pushed : {A : Type 0} (items : List A) (n m : ℕ) (x padding : A) → n < m → length items ≡ m
    → items ≡ take n items ++ replicate (m - n) padding
    → set items n x ≡ take (n + 1) (set items n x) ++ replicate (m - (n + 1)) padding
pushed {A} items n m x padding lt full padded =
    let front = take n items in
    let rest = replicate (m - (n + 1)) padding in
    let len : length front ≡ n = length-take-le n items (omega (arith, full, lt)) in
    let more : m - n ≡ suc (m - (n + 1)) = omega (arith, lt) in
    let cut : items ≡ front ++ padding ∷ rest = padded ∙ ap (λ (k : ℕ). front ++ replicate k padding) more in
    let none : n - n ≡ 0 = omega arith in
    let new : set items n x ≡ front ++ x ∷ rest =
    ap (λ (l : List A). set l n x) cut ∙ set-append_right front (padding ∷ rest) n n x len (omega arith)
    ∙ ap (λ (k : ℕ). front ++ set (padding ∷ rest) k x) none in
    let taken : take (n + 1) (set items n x) ≡ front ++ x ∷ [] = take_more_set items n x (omega (arith, full, lt)) in
    new ∙ sym (append_assoc front (x ∷ []) rest) ∙ ap (λ (l : List A). l ++ rest) (sym taken)

-- ---- results

-- what holds of each value that the result may have
pub if_ok : {A : Type 0} (r : Result A FaultCode) (P : A → Type 0) → ((x : A) → r ≡ Ok x → P x) → IfOk r P
if_ok (Ok x) P then = then x refl
if_ok (Err code) P then = tt

-- the value of a result that isn't a fault
pub ok_value : {A : Type 0} (r : Result A FaultCode) → IsOk r → (x : A) × (r ≡ Ok x)
ok_value (Ok x) here = (x, refl)
ok_value (Err code) here = absurd here

-- ---- words that are variables

-- the first word that isn't a variable has the fault of them all
pub first_fault : {A : Type 0} (word : A → List ℕ) (ws : List A) (i : ℕ) (d : A) (code : FaultCode) → i < length ws
    → IsOk (variables_in (map word (take i ws))) → variable_in (word (get_or ws i d)) ≡ Err code
    → variables_in (map word ws) ≡ Err code
first_fault word [] i d code lt front e = absurd (omega arith)
first_fault word (w ∷ ws) zero d code lt front e = rw e refl
first_fault word (w ∷ ws) (suc i) d code lt front e =
    let all = ok_value _ front in
    let first = bind_ok (variable_in (word w)) _ all.0 all.1 in
    let others = bind_ok (variables_in (map word (take i ws))) _ all.0 first.2 in
    let fault = first_fault word ws i d code (omega (arith, lt)) (subst IsOk (sym others.1) tt) e in
    rw (first.1, fault) refl

-- one word more is a variable, if the others before it are
one_more : {A : Type 0} (word : A → List ℕ) (ws : List A) (i : ℕ) (d : A) (v : ℕ) → i < length ws
    → IsOk (variables_in (map word (take i ws))) → variable_in (word (get_or ws i d)) ≡ Ok v
    → IsOk (variables_in (map word (take (suc i) ws)))
one_more word [] i d v lt front e = absurd (omega arith)
one_more word (w ∷ ws) zero d v lt front e = rw e tt
one_more word (w ∷ ws) (suc i) d v lt front e =
    let all = ok_value _ front in
    let first = bind_ok (variable_in (word w)) _ all.0 all.1 in
    let others = bind_ok (variables_in (map word (take i ws))) _ all.0 first.2 in
    let next = ok_value _ (one_more word ws i d v (omega (arith, lt)) (subst IsOk (sym others.1) tt) e) in
    rw (first.1, next.1) tt

-- the same at the next place of a loop
pub one_variable_more : {A : Type 0} (word : A → List ℕ) (ws : List A) (i : ℕ) (d : A) (v : ℕ) → i < length ws
    → IsOk (variables_in (map word (take i ws))) → variable_in (word (get_or ws i d)) ≡ Ok v
    → IsOk (variables_in (map word (take (i + 1) ws)))
one_variable_more word ws i d v lt front e =
    let next : suc i ≡ i + 1 = omega arith in
    subst (λ (k : ℕ). IsOk (variables_in (map word (take k ws)))) next (one_more word ws i d v lt front e)

-- there are as many variables as words
pub variables_length : {A : Type 0} (word : A → List ℕ) (ws : List A) (vs : List ℕ)
    → variables_in (map word ws) ≡ Ok vs → length vs ≡ length ws
variables_length word [] vs e = ap length (sym (ok_is [] vs e))
variables_length word (w ∷ ws) vs e =
    let first = bind_ok (variable_in (word w)) _ vs e in
    let others = bind_ok (variables_in (map word ws)) _ vs first.2 in
    ap length (sym (ok_is (first.0 ∷ others.0) vs others.2)) ∙ ap suc (variables_length word ws others.0 others.1)

-- each word is read as the variable of its place
pub variable_at : {A : Type 0} (word : A → List ℕ) (ws : List A) (vs : List ℕ) (i : ℕ) (d : A) (v : ℕ)
    → variables_in (map word ws) ≡ Ok vs → i < length ws → variable_in (word (get_or ws i d)) ≡ Ok (get_or vs i v)
variable_at word [] vs i d v e lt = absurd (omega arith)
variable_at word (w ∷ ws) vs zero d v e lt =
    let first = bind_ok (variable_in (word w)) _ vs e in
    let others = bind_ok (variables_in (map word ws)) _ vs first.2 in
    first.1 ∙ ap (λ (l : List ℕ). Ok (get_or l 0 v)) (ok_is (first.0 ∷ others.0) vs others.2)
variable_at word (w ∷ ws) vs (suc i) d v e lt =
    let first = bind_ok (variable_in (word w)) _ vs e in
    let others = bind_ok (variables_in (map word ws)) _ vs first.2 in
    variable_at word ws others.0 i d v others.1 (omega (arith, lt))
    ∙ ap (λ (l : List ℕ). Ok (get_or l (suc i) v)) (ok_is (first.0 ∷ others.0) vs others.2)

-- ---- variables and their parameters

-- there are as many arguments as variables
pub arguments_length : (ps : List Parameter) (vs : List ℕ) → length ps ≡ length vs
    → length (arguments_of ps vs) ≡ length vs
arguments_length [] [] e = refl
arguments_length [] (v ∷ vs) e = absurd (omega (arith, e))
arguments_length (p ∷ ps) [] e = absurd (omega (arith, e))
arguments_length (p ∷ ps) (v ∷ vs) e = ap suc (arguments_length ps vs (omega (arith, e)))

-- each argument has the variable and the parameter of its place
argument_at : (ps : List Parameter) (vs : List ℕ) (i : ℕ) (p : Parameter) (v : ℕ) (d : Argument) → length ps ≡ length vs
    → i < length vs
    → get_or (arguments_of ps vs) i d ≡ record { from = get_or vs i v; parameter = get_or ps i p }
argument_at [] [] i p v d e lt = absurd (omega arith)
argument_at [] (x ∷ vs) i p v d e lt = absurd (omega (arith, e))
argument_at (q ∷ ps) [] i p v d e lt = absurd (omega (arith, e))
argument_at (q ∷ ps) (x ∷ vs) zero p v d e lt = refl
argument_at (q ∷ ps) (x ∷ vs) (suc i) p v d e lt = argument_at ps vs i p v d (omega (arith, e)) (omega (arith, lt))

-- these are the arguments of the first words
abbrev pub ArgumentsSoFar : List Parameter → List (List ℕ) → ℕ → List Argument → Type 0
ArgumentsSoFar parameters ws count arguments =
    IfOk (variables_in ws) (λ variables. arguments ≡ take count (arguments_of parameters variables))

-- the next word is a variable, which is the next argument
pub next_argument : {A : Type 0} (word : A → List ℕ) (ps : List Parameter) (ws : List A) (i v : ℕ) (d : A)
    (p : Parameter) (before : List Argument) → length ps ≡ length ws → i < length ws
    → variable_in (word (get_or ws i d)) ≡ Ok v → ArgumentsSoFar ps (map word ws) i before
    → ArgumentsSoFar ps (map word ws) (i + 1) (before ++ record { from = v; parameter = get_or ps i p } ∷ [])
next_argument word ps ws i v d p before same lt read so_far =
    if_ok (variables_in (map word ws)) _ (λ vs are.
    let count = variables_length word ws vs are in
    let next : Argument = record { from = v; parameter = get_or ps i p } in
    let all = arguments_of ps vs in
    let long = arguments_length ps vs (same ∙ sym count) in
    let value : get_or vs i v ≡ v = ok_is (get_or vs i v) v (sym (variable_at word ws vs i d v are lt) ∙ read) in
    let item : get_or all i next ≡ next =
    argument_at ps vs i p v next (same ∙ sym count) (omega (arith, count, lt))
    ∙ ap (λ (x : ℕ). let a : Argument = record { from = x; parameter = get_or ps i p } in a) value in
    let more : take (i + 1) all ≡ take i all ++ get_or all i next ∷ [] =
    take_more all i next (omega (arith, count, long, lt)) in
    ap (λ (l : List Argument). l ++ next ∷ []) (IfOk-at_ok _ are so_far)
    ∙ ap (λ (x : Argument). take i all ++ x ∷ []) (sym item) ∙ sym more)

-- where all words are variables, no word has a fault
pub no_fault : {A : Type 0} (word : A → List ℕ) (ws : List A) (i : ℕ) (d : A) (code : FaultCode)
    → IsOk (variables_in (map word ws)) → i < length ws → variable_in (word (get_or ws i d)) ≡ Err code → ⊥
no_fault word ws i d code are lt fault =
    let vs = ok_value (variables_in (map word ws)) are in
    let never : ◌≡◌ {A = Result ℕ FaultCode} (Err code) (Ok (get_or vs.0 i 0)) =
    sym fault ∙ variable_at word ws vs.0 i d 0 vs.1 lt in
    absurd cc

-- the arguments of all words
pub all_arguments : {A : Type 0} (word : A → List ℕ) (ps : List Parameter) (ws : List A) (i : ℕ)
    (found : List Argument) → length ps ≡ length ws → length ws ≤ i → ArgumentsSoFar ps (map word ws) i found
    → IfOk (variables_in (map word ws)) (λ variables. found ≡ arguments_of ps variables)
all_arguments word ps ws i found same past so_far =
    if_ok (variables_in (map word ws)) _ (λ vs are.
    let count = variables_length word ws vs are in
    let long = arguments_length ps vs (same ∙ sym count) in
    IfOk-at_ok _ are so_far ∙ take_all i (arguments_of ps vs) (omega (arith, long, count, past)))

-- ---- arguments and their spelling

-- the variables of arguments are those that they were made of
arguments_from : (ps : List Parameter) (vs : List ℕ) → length ps ≡ length vs
    → map (λ a. a.from) (arguments_of ps vs) ≡ vs
arguments_from [] [] e = refl
arguments_from [] (v ∷ vs) e = absurd (omega (arith, e))
arguments_from (p ∷ ps) [] e = absurd (omega (arith, e))
arguments_from (p ∷ ps) (v ∷ vs) e = ap (λ (l : List ℕ). v ∷ l) (arguments_from ps vs (omega (arith, e)))

-- their parameters too
arguments_parameters : (ps : List Parameter) (vs : List ℕ) → length ps ≡ length vs
    → map (λ a. a.parameter) (arguments_of ps vs) ≡ ps
arguments_parameters [] [] e = refl
arguments_parameters [] (v ∷ vs) e = absurd (omega (arith, e))
arguments_parameters (p ∷ ps) [] e = absurd (omega (arith, e))
arguments_parameters (p ∷ ps) (v ∷ vs) e =
    ap (λ (l : List Parameter). p ∷ l) (arguments_parameters ps vs (omega (arith, e)))

-- arguments have the parameters and the variables that they were made of
pub arguments_parts : (ps : List Parameter) (vs : List ℕ) → length ps ≡ length vs
    → (map (λ a. a.parameter) (arguments_of ps vs) ≡ ps) × (map (λ a. a.from) (arguments_of ps vs) ≡ vs)
arguments_parts ps vs e = (arguments_parameters ps vs e, arguments_from ps vs e)

-- arguments are made again of their parameters and their variables
pub arguments_again : (given : List Argument)
    → arguments_of (map (λ a. a.parameter) given) (map (λ a. a.from) given) ≡ given
arguments_again [] = refl
arguments_again (a ∷ given) = ap (λ (l : List Argument). a ∷ l) (arguments_again given)

-- words that are read as variables are their spelling
pub variables_spelled : (ws : List (List ℕ)) (vs : List ℕ) → variables_in ws ≡ Ok vs
    → (ws ≡ map variable vs) × AllByRecursion (λ v. v < variable_count) vs
variables_spelled [] vs e =
    subst (λ (l : List ℕ). ([] ≡ map variable l) × AllByRecursion (λ v. v < variable_count) l) (ok_is [] vs e)
    (refl, tt)
variables_spelled (w ∷ ws) vs e =
    let first = bind_ok (variable_in w) _ vs e in
    let others = bind_ok (variables_in ws) _ vs first.2 in
    let here = variable_spelled w first.0 first.1 in
    let there = variables_spelled ws others.0 others.1 in
    subst (λ (l : List ℕ). ((w ∷ ws) ≡ map variable l) × AllByRecursion (λ v. v < variable_count) l)
    (ok_is (first.0 ∷ others.0) vs others.2)
    (both_same w (variable first.0) ws (map variable others.0) here.0 there.0, (here.1, there.1))

-- the spelling of variables is read as them
pub variables_again : (given : List Argument) → AllByRecursion (λ a. a.from < variable_count) given
    → variables_in (map (λ a. variable a.from) given) ≡ Ok (map (λ a. a.from) given)
variables_again [] fits = refl
variables_again (a ∷ given) fits = rw (variable_again a.from fits.0, variables_again given fits.1) refl

-- the arguments are of variables that there are
pub from_variables : (given : List Argument) → AllByRecursion (λ v. v < variable_count) (map (λ a. a.from) given)
    → AllByRecursion (λ a. a.from < variable_count) given
from_variables [] fits = tt
from_variables (a ∷ given) fits = (fits.0, from_variables given fits.1)

-- the words of arguments are variables, `else` and a target
pub argument_words_are : (given : List Argument) (otherwise : ℕ)
    → argument_words given otherwise ≡ map variable (map (λ a. a.from) given) ++ codes "else" ∷ target otherwise ∷ []
argument_words_are [] otherwise = refl
argument_words_are (a ∷ given) otherwise =
    ap (λ (l : List (List ℕ)). variable a.from ∷ l) (argument_words_are given otherwise)

-- no word of arguments has a space or a line feed
pub argument_words_plain : (given : List Argument) (otherwise : ℕ) → AllByRecursion (λ a. a.from < variable_count) given
    → otherwise < target_count → AllByRecursion IsPlain (argument_words given otherwise)
argument_words_plain [] otherwise fits lt = ((refl, refl), (target_plain otherwise lt, tt))
argument_words_plain (a ∷ given) otherwise fits lt =
    (variable_plain a.from fits.0, argument_words_plain given otherwise fits.1 lt)
