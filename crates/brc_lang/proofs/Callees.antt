-- The function that a call is of: found by its name, it has as many parameters as the call has variables, and its own
-- calls leave room for one more.
use Rattle.std.proofs.Common.{◌≡◌, ◌≢◌, ℕ, ◌<◌, ◌≤◌, Bool, true, false, cond, not, eqb, leb, List, length, get_or, map}
use Rattle.std.proofs.Common.{Option, Some, None, Result, Ok, Err, IfOk, refl, sym, ap, subst, ◌∙◌, arith}
use Rattle.std.specs.Prelude.{position, slice_get, slice_index_or}
use Rattle.std.specs.List.{position_or_len}
use Rattle.std.specs.Str.{bytes_eq}
use Rattle.std.proofs.lemmas.Bool.{le-leb, lt-leb, lt-ltb, ne_eqb, eq-eqb, eqb-true, leb-false, not-false}
use Rattle.std.proofs.lemmas.Bool.{false_from_ne_true}
use Rattle.std.proofs.lemmas.Option.{slice_get_read, slice_get_within, get_or_from_slice_get}
use Rattle.std.proofs.lemmas.List.{length-map}
use Rattle.std.proofs.lemmas.List.Quantifiers.{position-Some}
use Rattle.std.proofs.lemmas.List.Sums.{position_or_len_is}
use Rattle.std.proofs.lemmas.Result.{IfOk-at_ok}
use Rattle.std.proofs.lemmas.Slice.Eq.{bytes_eq-Decides}
use Rattle.brc_lang.specs.declared.parameter.Argument.{Argument}
use Rattle.brc_lang.specs.declared.parameter.Parameter.{Parameter}
use Rattle.brc_lang.specs.declared.module.Function.{Function}
use Rattle.brc_lang.specs.declared.fault.FaultCode.{FaultCode}
use Rattle.brc_lang.specs.declared.fault.FaultCode.TheVariants.{Callee, OverLimit}
use Rattle.brc_lang.specs.Grammar.{depths, AreNamedApart, MayCall}
use Rattle.brc_lang.specs.InstructionWords.{variables_in, arguments_of, callee_at, callee_found, callee_in}
use Rattle.brc_lang.specs.Limits.{depth_limit}
use Rattle.brc_lang.proofs.Tests.{same_text}
use Rattle.brc_lang.proofs.Spelling.{ok_is}
use Rattle.brc_lang.proofs.ArgumentLists.{if_ok, variables_length, arguments_parts, arguments_again}

-- the number of the function of this name
abbrev pub number_of : List Function → List ℕ → Option ℕ
number_of above name = position (λ f. bytes_eq f.name name) above

-- the call of a function that was found is judged by its parameters and its depth
callee_is : (above : List Function) (name variables : List ℕ) (number : ℕ) (f : Function)
    → number_of above name ≡ Some number → f ≡ get_or above number f
    → callee_in above name variables ≡ callee_at number (slice_index_or (depths above) number 0) variables (Some f)
callee_is above name variables number f found read =
    let within = (position-Some (λ (g : Function). bytes_eq g.name name) above number f found).0 in
    ap (callee_found above variables) found
    ∙ ap (callee_at number (slice_index_or (depths above) number 0) variables)
    (slice_get_read above (length above) number f refl within read)

-- ---- reading

-- no function has this name
pub unknown : (above : List Function) (name : List ℕ) (ws : List (List ℕ)) → number_of above name ≡ None
    → IfOk (variables_in ws) (λ variables. Err Callee ≡ callee_in above name variables)
unknown above name ws e = if_ok (variables_in ws) _ (λ vs are. ap (callee_found above vs) (sym e))

-- the function has more or fewer parameters
pub miscounted : {A : Type 0} (word : A → List ℕ) (above : List Function) (name : List ℕ) (ws : List A) (number : ℕ)
    (f : Function) → number_of above name ≡ Some number → f ≡ get_or above number f
    → length f.parameters ≢ length ws
    → IfOk (variables_in (map word ws)) (λ variables. Err Callee ≡ callee_in above name variables)
miscounted word above name ws number f found read other =
    if_ok (variables_in (map word ws)) _ (λ vs are.
    let count = variables_length word ws vs are in
    let differs : length f.parameters ≢ length vs = λ e. other (e ∙ count) in
    sym (callee_is above name vs number f found read ∙ rw (ne_eqb _ _ differs) refl))

-- the calls of the function leave no room for one more
pub too_deep : {A : Type 0} (word : A → List ℕ) (above : List Function) (name : List ℕ) (ws : List A) (number : ℕ)
    (f : Function) → number_of above name ≡ Some number → f ≡ get_or above number f
    → length f.parameters ≡ length ws → depth_limit ≤ slice_index_or (depths above) number 0
    → IfOk (variables_in (map word ws)) (λ variables. Err OverLimit ≡ callee_in above name variables)
too_deep word above name ws number f found read same deep =
    if_ok (variables_in (map word ws)) _ (λ vs are.
    let count : length f.parameters ≡ length vs = same ∙ sym (variables_length word ws vs are) in
    sym (callee_is above name vs number f found read ∙ rw (eq-eqb _ _ count, le-leb _ _ deep) refl))

-- the function may be called
pub called : {A : Type 0} (word : A → List ℕ) (above : List Function) (name : List ℕ) (ws : List A) (number : ℕ)
    (f : Function) (arguments : List Argument) → number_of above name ≡ Some number → f ≡ get_or above number f
    → length f.parameters ≡ length ws → slice_index_or (depths above) number 0 < depth_limit
    → IfOk (variables_in (map word ws)) (λ variables. arguments ≡ arguments_of f.parameters variables)
    → IfOk (variables_in (map word ws)) (λ variables. Ok (number, arguments) ≡ callee_in above name variables)
called word above name ws number f arguments found read same room are_these =
    if_ok (variables_in (map word ws)) _ (λ vs are.
    let count : length f.parameters ≡ length vs = same ∙ sym (variables_length word ws vs are) in
    sym (callee_is above name vs number f found read
    ∙ rw (eq-eqb _ _ count, lt-leb _ _ room, IfOk-at_ok _ are are_these) refl))

-- ---- the function that was found

-- the call of this number has these arguments
pub record IsCallee (above : List Function) (name variables : List ℕ) (call : ℕ × List Argument) : Type 0 where
  pub callee : Function
  pub found : slice_get above call.0 ≡ Some callee
  pub named : callee.name ≡ name
  pub within : call.0 < length above
  pub fits : MayCall (slice_index_or (depths above) call.0 0) call.1 callee
  pub from : map (λ a. a.from) call.1 ≡ variables

-- a test that led past its fault
passed : {A : Type 0} (b : Bool) (d : FaultCode) (r : Result A FaultCode) (y : A) → cond b (Err d) r ≡ Ok y
    → (b ≡ false) × (r ≡ Ok y)
passed true d r y e = absurd cc
passed false d r y e = (refl, e)

-- a function that may be called has as many parameters as there are variables, and there is room
fits_at : (above : List Function) (name variables : List ℕ) (number : ℕ) (call : ℕ × List Argument)
    (o : Option Function) → number_of above name ≡ Some number → slice_get above number ≡ o
    → callee_at number (slice_index_or (depths above) number 0) variables o ≡ Ok call
    → IsCallee above name variables call
fits_at above name variables number call None found at e = absurd cc
fits_at above name variables number call (Some f) found at e =
    let depth = slice_index_or (depths above) number 0 in
    let same = passed (not (eqb (length f.parameters) (length variables))) Callee _ call e in
    let room = passed (leb depth_limit depth) OverLimit _ call same.1 in
    let count : length f.parameters ≡ length variables = eqb-true _ _ (not-false _ same.0) in
    let parts = arguments_parts f.parameters variables count in
    let place = position-Some (λ (g : Function). bytes_eq g.name name) above number f found in
    let here : get_or above number f ≡ f = get_or_from_slice_get above number f f at in
    subst (IsCallee above name variables) {x = (number, arguments_of f.parameters variables)} (ok_is _ call room.1)
    (record {
      callee = f;
      found = at;
      named = ap (λ (g : Function). g.name) (sym here) ∙ same_text (get_or above number f).name name place.1;
      within = place.0;
      fits = record { same = parts.0; room = leb-false depth_limit depth room.0 };
      from = parts.1;
    })

-- the same from the number that the name has
found_at : (above : List Function) (name variables : List ℕ) (call : ℕ × List Argument) (o : Option ℕ)
    → number_of above name ≡ o → callee_found above variables o ≡ Ok call → IsCallee above name variables call
found_at above name variables call None found e = absurd cc
found_at above name variables call (Some number) found e =
    fits_at above name variables number call (slice_get above number) found refl e

-- the function and the arguments that are read are a callee and its arguments
pub callee_spelled : (above : List Function) (name variables : List ℕ) (call : ℕ × List Argument)
    → callee_in above name variables ≡ Ok call → IsCallee above name variables call
callee_spelled above name variables call e = found_at above name variables call (number_of above name) refl e

-- ---- a function that is found again

-- a function's name is first found at its own number
number_again : (above : List Function) (number : ℕ) (f : Function) → AreNamedApart above
    → slice_get above number ≡ Some f → number_of above f.name ≡ Some number
number_again above number f apart found =
    let within = slice_get_within above number f found in
    let here : get_or above number f ≡ f = get_or_from_slice_get above number f f found in
    let has_name : Function → Bool = λ g. bytes_eq g.name f.name in
    let place : position_or_len has_name above ≡ number =
    position_or_len_is has_name above number f (omega (arith, within))
    (λ k less. false_from_ne_true (has_name (get_or above k f)) (λ same.
    apart k number f less within
    (same_text (get_or above k f).name f.name same ∙ ap (λ (g : Function). g.name) (sym here))))
    (λ lt. (bytes_eq-Decides (get_or above number f).name f.name).1 (ap (λ (g : Function). g.name) here)) in
    rw (place, lt-ltb number (length above) within) refl

-- a function that may be called with these arguments is read as the callee again
pub callee_again : (above : List Function) (number : ℕ) (f : Function) (given : List Argument) → AreNamedApart above
    → slice_get above number ≡ Some f → MayCall (slice_index_or (depths above) number 0) given f
    → callee_in above f.name (map (λ a. a.from) given) ≡ Ok (number, given)
callee_again above number f given apart found fits =
    let variables = map (λ a. a.from) given in
    let depth = slice_index_or (depths above) number 0 in
    let count : length f.parameters ≡ length variables =
    ap length (sym fits.same) ∙ length-map given (λ a. a.parameter) ∙ sym (length-map given (λ a. a.from)) in
    let all : arguments_of f.parameters variables ≡ given =
    ap (λ (ps : List Parameter). arguments_of ps variables) (sym fits.same) ∙ arguments_again given in
    ap (callee_found above variables) (number_again above number f apart found)
    ∙ ap (callee_at number depth variables) found
    ∙ rw (eq-eqb _ _ count, lt-leb depth_limit depth fits.room, all) refl
