-- The line of a call: words that are read as a call are its spelling, and the words of a call that fits are read as it.
use Rattle.std.proofs.Common.{◌≡◌, ◌≢◌, ℕ, zero, suc, ◌<◌, ◌≤◌, true, not, eqb, leb, List, [], ◌∷◌}
use Rattle.std.proofs.Common.{◌++◌, length, map, Option, Some, None, Ok, Err, refl, sym, ap, subst, ◌∙◌, arith}
use Rattle.std.specs.Prelude.{codes, slice_get, slice_index_or}
use Rattle.std.specs.List.{AllByRecursion}
use Rattle.std.specs.Str.{bytes_eq}
use Rattle.std.proofs.lemmas.List.{length-map}
use Rattle.std.proofs.lemmas.Option.{same_Some}
use Rattle.brc_lang.specs.declared.parameter.Argument.{Argument}
use Rattle.brc_lang.specs.declared.module.Function.{Function}
use Rattle.brc_lang.specs.declared.module.Instr.{Instr}
use Rattle.brc_lang.specs.declared.module.Instr.TheVariants.{Call}
use Rattle.brc_lang.specs.declared.version.Version.{Version}
use Rattle.brc_lang.specs.declared.fault.FaultCode.TheVariants.{UnknownWord, OverLimit, Callee, NoMemory}
use Rattle.brc_lang.specs.Grammar.{variable, target, is_name, name_of, name_or_none, argument_words, instruction_words}
use Rattle.brc_lang.specs.Grammar.{IsInstruction, IsFunction, AreNamedApart, has_calls, MayCall, IfFound, CallFits, depths}
use Rattle.brc_lang.specs.InstructionWords.{variable_in, target_in, name_in, variables_in, callee_at, callee_found, callee_in}
use Rattle.brc_lang.specs.InstructionWords.{call_of, call_in}
use Rattle.brc_lang.specs.Fault.{IsOwn}
use Rattle.brc_lang.specs.Limits.{function_limit, parameter_limit, depth_limit, variable_count}
use Rattle.brc_lang.specs.RoundTrips.{IsPlain}
use Rattle.brc_lang.proofs.Words.{ArePlain}
use Rattle.brc_lang.proofs.Tests.{either_way}
use Rattle.brc_lang.proofs.Spelling.{bind_ok, ok_is, guarded, variable_spelled, variable_again, variable_plain}
use Rattle.brc_lang.proofs.Spelling.{target_spelled, target_again, name_no_space, name_plain}
use Rattle.brc_lang.proofs.OperandForms.{both_same, else_spelled}
use Rattle.brc_lang.proofs.ArgumentLists.{variables_spelled, variables_again, from_variables}
use Rattle.brc_lang.proofs.ArgumentLists.{argument_words_are, argument_words_plain}
use Rattle.brc_lang.proofs.Callees.{number_of, callee_spelled, callee_again}
use Rattle.brc_lang.proofs.Allowed.{Spelled}
use Rattle.brc_lang.proofs.OwnWords.{own_then, own_either, own_word, own_limit, variable_own, target_own, name_own}

-- ---- from words to the call

-- the words behind `call` are those of this instruction, which fits below these static lines and functions
abbrev IsCallOf : Version → List (List ℕ) → List Function → List (List ℕ) → Instr → Type 0
IsCallOf version statics above ws i = Spelled version statics above (codes "call" ∷ ws) i

module _ (version : Version) (statics : List (List ℕ)) (above : List Function) (has : has_calls version ≡ true)
    (few : length above ≤ function_limit) where
  -- the parts of a call are those of its words
  parts_spelled : (to name : List ℕ) (ws : List (List ℕ)) (word l : List ℕ) (d : ℕ) (vs : List ℕ) (t : ℕ)
      (c : ℕ × List Argument) → length ws ≤ parameter_limit
      → bytes_eq word (codes "else") ≡ true → variable_in to ≡ Ok d → variables_in ws ≡ Ok vs → target_in l ≡ Ok t
      → callee_in above name vs ≡ Ok c
      → IsCallOf version statics above (to ∷ name ∷ (ws ++ word ∷ l ∷ [])) (Call d c.0 c.1 t)
  parts_spelled to name ws word l d vs t c short same to_is ws_are l_is found =
      let called = callee_spelled above name vs c found in
      let p = variable_spelled to d to_is in
      let q = variables_spelled ws vs ws_are in
      let r = target_spelled l t l_is in
      let here : name ≡ name_of above c.0 = sym called.named ∙ sym (ap name_or_none called.found) in
      let rest : (ws ++ word ∷ l ∷ []) ≡ argument_words c.1 t =
      ap (λ (x : List (List ℕ)). x ++ word ∷ l ∷ []) q.0
      ∙ ap (λ (x : List (List ℕ)). map variable vs ++ x) (else_spelled word l t same r.0)
      ∙ ap (λ (x : List ℕ). map variable x ++ codes "else" ∷ target t ∷ []) (sym called.from)
      ∙ sym (argument_words_are c.1 t) in
      let operands = both_same to (variable d) _ _ p.0 (both_same name (name_of above c.0) _ _ here rest) in
      let count : length c.1 ≡ length ws =
      sym (length-map c.1 (λ a. a.from)) ∙ ap length called.from ∙ sym (length-map vs variable) ∙ sym (ap length q.0) in
      let froms = from_variables c.1 (subst (AllByRecursion (λ v. v < variable_count)) (sym called.from) q.1) in
      let found_there : IfFound (slice_get above c.0) (MayCall (slice_index_or (depths above) c.0 0) c.1) =
      subst (λ (o : Option Function). IfFound o (MayCall (slice_index_or (depths above) c.0 0) c.1)) (sym called.found)
      called.fits in (
        ap (λ (x : List (List ℕ)). codes "call" ∷ x) operands,
        (p.1, omega (arith, called.within, few), omega (arith, count, short), froms, r.1),
        (has, found_there),
        tt,
      )

  -- a call with these variables, of which there are at most four
  of_spelled : (to name : List ℕ) (ws : List (List ℕ)) (word l : List ℕ) (i : Instr)
      → length ws ≤ parameter_limit → call_of above to name ws word l ≡ Ok i
      → IsCallOf version statics above (to ∷ name ∷ (ws ++ word ∷ l ∷ [])) i
  of_spelled to name ws word l i short e =
      either_way (bytes_eq word (codes "else")) _ (Err UnknownWord) (Ok i) e
      (λ same read.
      let d = bind_ok (variable_in to) _ i read in
      let n = bind_ok (name_in name) _ i d.2 in
      let vs = bind_ok (variables_in ws) _ i n.2 in
      let t = bind_ok (target_in l) _ i vs.2 in
      let c = bind_ok (callee_in above n.0 vs.0) _ i t.2 in
      let named = (guarded (is_name name) UnknownWord name n.0 n.1).1 in
      let found : callee_in above name vs.0 ≡ Ok c.0 =
      ap (λ (x : List ℕ). callee_in above x vs.0) named ∙ c.1 in
      subst (IsCallOf version statics above (to ∷ name ∷ (ws ++ word ∷ l ∷ []))) {x = Call d.0 c.0.0 c.0.1 t.0}
      (ok_is (Call d.0 c.0.0 c.0.1 t.0) i c.2)
      (parts_spelled to name ws word l d.0 vs.0 t.0 c.0 short same d.1 vs.1 t.1 found))
      (λ never. absurd cc)

  -- words that are read as the operands of a call are its spelling, and the call fits below these functions
  pub call_spelled : (ws : List (List ℕ)) (i : Instr) → call_in above ws ≡ Ok i
      → IsCallOf version statics above ws i
  call_spelled [] i e = absurd cc
  call_spelled (to ∷ []) i e = absurd cc
  call_spelled (to ∷ name ∷ []) i e = absurd cc
  call_spelled (to ∷ name ∷ word ∷ []) i e = absurd cc
  call_spelled (to ∷ name ∷ word ∷ l ∷ []) i e =
      of_spelled to name [] word l i (omega arith) e
  call_spelled (to ∷ name ∷ a ∷ word ∷ l ∷ []) i e =
      of_spelled to name (a ∷ []) word l i (omega arith) e
  call_spelled (to ∷ name ∷ a ∷ b ∷ word ∷ l ∷ []) i e =
      of_spelled to name (a ∷ b ∷ []) word l i (omega arith) e
  call_spelled (to ∷ name ∷ a ∷ b ∷ c ∷ word ∷ l ∷ []) i e =
      of_spelled to name (a ∷ b ∷ c ∷ []) word l i (omega arith) e
  call_spelled (to ∷ name ∷ a ∷ b ∷ c ∷ d ∷ word ∷ l ∷ []) i e =
      of_spelled to name (a ∷ b ∷ c ∷ d ∷ []) word l i (omega arith) e
  call_spelled (to ∷ name ∷ a ∷ b ∷ c ∷ d ∷ word ∷ l ∷ more ∷ ws) i e = absurd cc

-- ---- from the call to words

-- what holds of each element holds of the one at a place
at_place : {A : Type 0} (P : A → Type 0) (xs : List A) (k : ℕ) (x : A) → AllByRecursion P xs → slice_get xs k ≡ Some x
    → P x
at_place P [] k x all e = absurd cc
at_place P (y ∷ ys) zero x all e = subst P (same_Some y x e) all.0
at_place P (y ∷ ys) (suc k) x all e = at_place P ys k x all.1 e

-- a function that is to be found is there
found_function : (o : Option Function) (P : Function → Type 0) → IfFound o P → (f : Function) × (o ≡ Some f) × P f
found_function None P found = absurd found
found_function (Some f) P found = (f, refl, found)

module _ (version : Version) (above : List Function) (whole : AllByRecursion IsFunction above)
    (apart : AreNamedApart above) where
  -- the call of these arguments
  of_again : (to callee : ℕ) (given : List Argument) (otherwise : ℕ)
      → IsInstruction (Call to callee given otherwise)
      → CallFits version above (Call to callee given otherwise)
      → call_of above (variable to) (name_of above callee) (map (λ a. variable a.from) given) (codes "else")
      (target otherwise) ≡ Ok (Call to callee given otherwise)
  of_again to callee given otherwise fits calls =
      let f = found_function (slice_get above callee) _ calls.1 in
      let named : name_of above callee ≡ f.0.name = ap name_or_none f.1 in
      let name : is_name f.0.name ≡ true = (at_place IsFunction above callee f.0 whole f.1).name in
      rw (
        named,
        variable_again to fits.0,
        name,
        variables_again given fits.3,
        target_again otherwise fits.4,
        callee_again above callee f.0 given apart f.1 f.2,
      ) refl

  -- the words of a call that fits below these functions are read as it
  pub call_again : (to callee : ℕ) (arguments : List Argument) (otherwise : ℕ)
      → IsInstruction (Call to callee arguments otherwise)
      → CallFits version above (Call to callee arguments otherwise)
      → call_in above (variable to ∷ name_of above callee ∷ argument_words arguments otherwise)
      ≡ Ok (Call to callee arguments otherwise)
  call_again to callee [] otherwise fits calls =
      of_again to callee [] otherwise fits calls
  call_again to callee (a ∷ []) otherwise fits calls =
      of_again to callee (a ∷ []) otherwise fits calls
  call_again to callee (a ∷ b ∷ []) otherwise fits calls =
      of_again to callee (a ∷ b ∷ []) otherwise fits calls
  call_again to callee (a ∷ b ∷ c ∷ []) otherwise fits calls =
      of_again to callee (a ∷ b ∷ c ∷ []) otherwise fits calls
  call_again to callee (a ∷ b ∷ c ∷ d ∷ []) otherwise fits calls =
      of_again to callee (a ∷ b ∷ c ∷ d ∷ []) otherwise fits calls
  call_again to callee (a ∷ b ∷ c ∷ d ∷ x ∷ given) otherwise fits calls =
      absurd (omega (arith, fits.2))

  -- no word of a call has a space or a line feed
  pub call_plain : (to callee : ℕ) (arguments : List Argument) (otherwise : ℕ)
      → IsInstruction (Call to callee arguments otherwise)
      → CallFits version above (Call to callee arguments otherwise)
      → ArePlain (instruction_words above (Call to callee arguments otherwise))
  call_plain to callee arguments otherwise fits calls =
      let f = found_function (slice_get above callee) _ calls.1 in
      let name : is_name f.0.name ≡ true = (at_place IsFunction above callee f.0 whole f.1).name in
      let plain : IsPlain (name_of above callee) =
      subst IsPlain (sym (ap name_or_none f.1)) (name_no_space f.0.name name, name_plain f.0.name name) in (
        (refl, refl),
        (variable_plain to fits.0, (plain, argument_words_plain arguments otherwise fits.3 fits.4)),
      )

-- ---- faults

own_callee : Callee ≢ NoMemory
own_callee e = cc

variables_own : (ws : List (List ℕ)) → IsOwn (variables_in ws)
variables_own [] = tt
variables_own (w ∷ ws) =
    own_then (variable_in w) _ (variable_own w) (λ v.
    own_then (variables_in ws) _ (variables_own ws) (λ vs. tt))

callee_at_own : (number depth : ℕ) (variables : List ℕ) (o : Option Function)
    → IsOwn (callee_at number depth variables o)
callee_at_own number depth variables None = own_callee
callee_at_own number depth variables (Some f) =
    own_either (not (eqb (length f.parameters) (length variables))) (Err Callee) _ own_callee
    (own_either (leb depth_limit depth) (Err OverLimit) _ own_limit tt)

callee_own : (above : List Function) (variables : List ℕ) (o : Option ℕ) → IsOwn (callee_found above variables o)
callee_own above variables None = own_callee
callee_own above variables (Some number) =
    callee_at_own number (slice_index_or (depths above) number 0) variables (slice_get above number)

of_own : (above : List Function) (to name : List ℕ) (ws : List (List ℕ)) (word l : List ℕ)
    → IsOwn (call_of above to name ws word l)
of_own above to name ws word l =
    own_either (bytes_eq word (codes "else")) _ (Err UnknownWord)
    (own_then (variable_in to) _ (variable_own to) (λ d.
    own_then (name_in name) _ (name_own name) (λ n.
    own_then (variables_in ws) _ (variables_own ws) (λ vs.
    own_then (target_in l) _ (target_own l) (λ t.
    own_then (callee_in above n vs) _ (callee_own above vs (number_of above n)) (λ c. tt)))))) own_word

-- a call's fault is the text's own
pub call_own : (above : List Function) (ws : List (List ℕ)) → IsOwn (call_in above ws)
call_own above [] = own_word
call_own above (to ∷ []) = own_word
call_own above (to ∷ name ∷ []) = own_word
call_own above (to ∷ name ∷ word ∷ []) = own_word
call_own above (to ∷ name ∷ word ∷ l ∷ []) = of_own above to name [] word l
call_own above (to ∷ name ∷ a ∷ word ∷ l ∷ []) = of_own above to name (a ∷ []) word l
call_own above (to ∷ name ∷ a ∷ b ∷ word ∷ l ∷ []) = of_own above to name (a ∷ b ∷ []) word l
call_own above (to ∷ name ∷ a ∷ b ∷ c ∷ word ∷ l ∷ []) = of_own above to name (a ∷ b ∷ c ∷ []) word l
call_own above (to ∷ name ∷ a ∷ b ∷ c ∷ d ∷ word ∷ l ∷ []) = of_own above to name (a ∷ b ∷ c ∷ d ∷ []) word l
call_own above (to ∷ name ∷ a ∷ b ∷ c ∷ d ∷ word ∷ l ∷ x ∷ ws) = own_word
