-- A line that is read as an instruction is its spelling, and the spelling is read again.
use Rattle.std.proofs.Common.{◌≡◌, ℕ, ◌^◌, ◌<◌, ◌≤◌, true, false, ◌&&◌, List, [], ◌∷◌, length, Ok, Err, refl, sym, ap}
use Rattle.std.proofs.Common.{◌∙◌, subst, arith}
use Rattle.std.specs.Prelude.{codes}
use Rattle.std.specs.List.{AllByRecursion, list_any}
use Rattle.std.specs.Str.{bytes_eq}
use Rattle.std.proofs.lemmas.Bool.{and_parts}
use Rattle.brc_lang.specs.declared.module.Function.{Function}
use Rattle.brc_lang.specs.declared.module.Instr.{Instr}
use Rattle.brc_lang.specs.declared.module.Instr.TheVariants.{Num, List as ListObject, NoneObject, Take, Newref}
use Rattle.brc_lang.specs.declared.module.Instr.TheVariants.{Move, Drop, Lock, Unlock, Borrow, Fetch, Set, Put, As}
use Rattle.brc_lang.specs.declared.module.Instr.TheVariants.{Open, Connect, Read, Write, Call, Goto, Again, Ret, Fail}
use Rattle.brc_lang.specs.declared.version.Version.{Version}
use Rattle.brc_lang.specs.declared.version.Version.TheVariants as versions
use Rattle.brc_lang.specs.declared.fault.FaultCode.TheVariants.{UnknownWord}
use Rattle.brc_lang.specs.Grammar.{instruction_words, instruction, IsInstruction, IsFunction, AreNamedApart, CallFits}
use Rattle.brc_lang.specs.Grammar.{has_calls, has_statics, cells_in, AreStatics, IsAllowed}
use Rattle.brc_lang.specs.InstructionWords.{words, ◌>>=◌, fail_in, path_instruction_in, host_instruction_in, item_instruction_in}
use Rattle.brc_lang.specs.InstructionWords.{plain_instruction_in, instruction_in, call_in, take_in}
use Rattle.brc_lang.specs.Fault.{is_line_feed}
use Rattle.brc_lang.specs.Limits.{function_limit, cell_limit}
use Rattle.brc_lang.proofs.Allowed.{Spelled}
use Rattle.brc_lang.proofs.Calls.{call_spelled, call_again, call_plain}
use Rattle.brc_lang.proofs.StaticLines.{statics_there, take_spelled, take_again, take_plain}
use Rattle.brc_lang.proofs.Words.{joined, some_word, ArePlain, spaced_words, spaced_plain}
use Rattle.brc_lang.proofs.Spelling.{bind_ok, ok_is}
use Rattle.brc_lang.proofs.Tests.{either_way, same_text}
use Rattle.brc_lang.proofs.OperandForms.{both_same, Form, one_variable_form, one_target_form, two_variables_form}
use Rattle.brc_lang.proofs.OperandForms.{num_form, birth_form, connect_form, item_form, read_form, store_form, as_form, again_form}
use Rattle.brc_lang.proofs.HostForms.{open_form, pair_form}

-- `fail` has no operand
pub behind_fail : (operands : List ℕ) → Err UnknownWord ≡ fail_in (words operands)
behind_fail operands = let q = some_word operands in sym (ap fail_in q.2)

-- ---- from words to the instruction

-- the number of a list's cells fits its type
cells_small : (version : Version) → (cells_in version < 2 ^ 64) × (cells_in version ≤ cell_limit)
cells_small versions.One = (omega arith, omega arith)
cells_small versions.Two = (omega arith, omega arith)
cells_small versions.Three = (omega arith, omega arith)

abbrev list_form : Version → Form (ℕ × ℕ × ℕ)
list_form version = birth_form 1 (cells_in version) (cells_small version).0

module _ (version : Version) (statics : List (List ℕ)) (above : List Function) where
  -- a word, and operands of this form
  named : {V : Type 0} (form : Form V) (name : List ℕ) (make : V → Instr)
      → ((v : V) → instruction_words above (make v) ≡ name ∷ form.spell v)
      → ((v : V) → form.Fits v
      → IsInstruction (make v) × CallFits version above (make v) × IsAllowed version statics (make v))
      → (w : List ℕ) (ws : List (List ℕ)) (i : Instr) → bytes_eq w name ≡ true
      → (form.read ws >>= λ v. Ok (make v)) ≡ Ok i → Spelled version statics above (w ∷ ws) i
  named form name make spelling fits w ws i same read =
      let b = bind_ok (form.read ws) (λ v. Ok (make v)) i read in
      let v = form.spelled ws b.0 b.1 in
      let allowed = fits b.0 v.1 in
      subst (Spelled version statics above (w ∷ ws)) (ok_is (make b.0) i b.2) (
        both_same w name ws (form.spell b.0) (same_text w name same) v.0 ∙ sym (spelling b.0),
        allowed.0,
        allowed.1,
        allowed.2,
      )

  -- the words behind this name spell it, whose first word is equal to the name
  behind_name : (name w : List ℕ) (ws : List (List ℕ)) (i : Instr) → bytes_eq w name ≡ true
      → Spelled version statics above (name ∷ ws) i → Spelled version statics above (w ∷ ws) i
  behind_name name w ws i same s =
      (ap (λ (x : List ℕ). x ∷ ws) (same_text w name same) ∙ s.0, s.1, s.2, s.3)

  fail_spelled : (w : List ℕ) (ws : List (List ℕ)) (i : Instr) → w ≡ codes "fail" → fail_in ws ≡ Ok i
      → Spelled version statics above (w ∷ ws) i
  fail_spelled w [] i is e =
      subst (Spelled version statics above (w ∷ [])) (ok_is Fail i e) (ap (λ (x : List ℕ). x ∷ []) is, tt, tt, tt)
  fail_spelled w (a ∷ ws) i is e = absurd cc

  path_words_spelled : (w : List ℕ) (ws : List (List ℕ)) (i : Instr) → path_instruction_in w ws ≡ Ok i
      → Spelled version statics above (w ∷ ws) i
  path_words_spelled w ws i read =
      either_way (bytes_eq w (codes "as")) _ _ (Ok i) read
      (named as_form (codes "as") (λ v. As v.0 v.1 v.2) (λ v. refl) (λ v fits. (fits, tt, tt)) w ws i)
      (λ read1.
      either_way (bytes_eq w (codes "goto")) _ _ (Ok i) read1
      (named one_target_form (codes "goto") (λ n. Goto n) (λ n. refl) (λ n fits. (fits, tt, tt)) w ws i)
      (λ read2.
      either_way (bytes_eq w (codes "again")) _ _ (Ok i) read2
      (named again_form (codes "again") (λ v. Again v.0 v.1) (λ v. refl) (λ v fits. (fits, tt, tt)) w ws i)
      (λ read3.
      either_way (bytes_eq w (codes "ret")) _ _ (Ok i) read3
      (named one_variable_form (codes "ret") (λ n. Ret n) (λ n. refl) (λ n fits. (fits, tt, tt)) w ws i)
      (λ read4.
      either_way (bytes_eq w (codes "fail")) _ (Err UnknownWord) (Ok i) read4
      (λ same e. fail_spelled w ws i (same_text w (codes "fail") same) e)
      (λ never. absurd cc)))))

  host_words_spelled : (w : List ℕ) (ws : List (List ℕ)) (i : Instr) → host_instruction_in w ws ≡ Ok i
      → Spelled version statics above (w ∷ ws) i
  host_words_spelled w ws i read =
      either_way (bytes_eq w (codes "open")) _ _ (Ok i) read
      (named open_form (codes "open") (λ v. Open v.0 v.1 v.2 v.3) (λ v. refl) (λ v fits. (fits, tt, tt)) w ws i)
      (λ read1.
      either_way (bytes_eq w (codes "connect")) _ _ (Ok i) read1
      (named connect_form (codes "connect") (λ v. Connect v.0 v.1 v.2) (λ v. refl)
      (λ v fits. ((fits.0, omega (arith, fits.2), fits.3), tt, tt)) w ws i)
      (λ read2.
      either_way (bytes_eq w (codes "read")) _ _ (Ok i) read2
      (named read_form (codes "read") (λ v. Read v.0 v.1 v.2 v.3) (λ v. refl)
      (λ v fits. ((fits.0, fits.1, omega (arith, fits.2), fits.3, fits.4), tt, tt)) w ws i)
      (λ read3.
      either_way (bytes_eq w (codes "write")) _ _ (Ok i) read3
      (named pair_form (codes "write") (λ v. Write v.0 v.1 v.2) (λ v. refl) (λ v fits. (fits, tt, tt)) w ws i)
      (λ read4.
      path_words_spelled w ws i read4))))

  item_words_spelled : (w : List ℕ) (ws : List (List ℕ)) (i : Instr) → item_instruction_in w ws ≡ Ok i
      → Spelled version statics above (w ∷ ws) i
  item_words_spelled w ws i read =
      either_way (bytes_eq w (codes "borrow")) _ _ (Ok i) read
      (named item_form (codes "borrow") (λ v. Borrow v.0 v.1 v.2 v.3) (λ v. refl)
      (λ v fits. ((fits.0, fits.1, omega (arith, fits.3), fits.4), tt, tt)) w ws i)
      (λ read1.
      either_way (bytes_eq w (codes "fetch")) _ _ (Ok i) read1
      (named item_form (codes "fetch") (λ v. Fetch v.0 v.1 v.2 v.3) (λ v. refl)
      (λ v fits. ((fits.0, fits.1, omega (arith, fits.3), fits.4), tt, tt)) w ws i)
      (λ read2.
      either_way (bytes_eq w (codes "set")) _ _ (Ok i) read2
      (named store_form (codes "set") (λ v. Set v.0 v.1 v.2 v.3) (λ v. refl) (λ v fits. (fits, tt, tt)) w ws i)
      (λ read3.
      either_way (bytes_eq w (codes "put")) _ _ (Ok i) read3
      (named store_form (codes "put") (λ v. Put v.0 v.1 v.2 v.3) (λ v. refl) (λ v fits. (fits, tt, tt)) w ws i)
      (λ read4.
      host_words_spelled w ws i read4))))

  words_spelled : (ws : List (List ℕ)) (i : Instr) → plain_instruction_in version ws ≡ Ok i
      → Spelled version statics above ws i
  words_spelled [] i read = absurd cc
  words_spelled (w ∷ ws) i read =
      either_way (bytes_eq w (codes "num")) _ _ (Ok i) read
      (named num_form (codes "num") (λ v. Num v.0 v.1 v.2) (λ v. refl)
      (λ v fits. ((fits.0, omega (arith, fits.2), fits.3), tt, tt)) w ws i)
      (λ read1.
      either_way (bytes_eq w (codes "list")) _ _ (Ok i) read1
      (named (list_form version) (codes "list") (λ v. ListObject v.0 v.1 v.2) (λ v. refl)
      (λ v fits. (
        (fits.0, omega (arith, fits.1), omega (arith, fits.2, (cells_small version).1), fits.3),
        tt,
        fits.2,
      )) w ws i)
      (λ read2.
      either_way (bytes_eq w (codes "none")) _ _ (Ok i) read2
      (named one_variable_form (codes "none") (λ n. NoneObject n) (λ v. refl) (λ v fits. (fits, tt, tt)) w ws i)
      (λ read3.
      either_way (bytes_eq w (codes "newref")) _ _ (Ok i) read3
      (named two_variables_form (codes "newref") (λ v. Newref v.0 v.1) (λ v. refl) (λ v fits. (fits, tt, tt)) w ws i)
      (λ read4.
      either_way (bytes_eq w (codes "move")) _ _ (Ok i) read4
      (named two_variables_form (codes "move") (λ v. Move v.0 v.1) (λ v. refl) (λ v fits. (fits, tt, tt)) w ws i)
      (λ read5.
      either_way (bytes_eq w (codes "drop")) _ _ (Ok i) read5
      (named one_variable_form (codes "drop") (λ n. Drop n) (λ v. refl) (λ v fits. (fits, tt, tt)) w ws i)
      (λ read6.
      either_way (bytes_eq w (codes "lock")) _ _ (Ok i) read6
      (named one_variable_form (codes "lock") (λ n. Lock n) (λ v. refl) (λ v fits. (fits, tt, tt)) w ws i)
      (λ read7.
      either_way (bytes_eq w (codes "unlock")) _ _ (Ok i) read7
      (named one_variable_form (codes "unlock") (λ n. Unlock n) (λ v. refl) (λ v fits. (fits, tt, tt)) w ws i)
      (λ read8.
      item_words_spelled w ws i read8))))))))

  -- words that are read as an instruction are its words
  all_words_spelled : (ws : List (List ℕ)) (i : Instr) → length above ≤ function_limit
      → instruction_in version statics above ws ≡ Ok i → Spelled version statics above ws i
  all_words_spelled [] i few read = absurd cc
  all_words_spelled (w ∷ ws) i few read =
      either_way (bytes_eq w (codes "call") && has_calls version) (call_in above ws) _ (Ok i) read
      (λ is e.
      let q = and_parts (bytes_eq w (codes "call")) (has_calls version) is in
      behind_name (codes "call") w ws i q.0 (call_spelled version statics above q.1 few ws i e))
      (λ other.
      either_way (bytes_eq w (codes "take") && has_statics version) (take_in statics ws) _ (Ok i) other
      (λ is e.
      let q = and_parts (bytes_eq w (codes "take")) (has_statics version) is in
      behind_name (codes "take") w ws i q.0 (take_spelled version statics above ws i e))
      (words_spelled (w ∷ ws) i))

  -- a line that is read as an instruction is its spelling
  pub instruction_spelled : (text : List ℕ) (i : Instr) → length above ≤ function_limit
      → instruction_in version statics above (words text) ≡ Ok i
      → (text ≡ instruction above i) × IsInstruction i × CallFits version above i × IsAllowed version statics i
  instruction_spelled text i few read =
      let s = all_words_spelled (words text) i few read in
      (joined text (instruction_words above i) s.0, s.1, s.2, s.3)

-- ---- from the instruction to a line

module _ (version : Version) (statics : List (List ℕ)) (above : List Function) (lines : AreStatics version statics)
    (whole : AllByRecursion IsFunction above) (apart : AreNamedApart above) where
  -- the words of an instruction are read as it
  words_again : (i : Instr) → IsInstruction i → CallFits version above i → IsAllowed version statics i
      → instruction_in version statics above (instruction_words above i) ≡ Ok i
  words_again (Num to value otherwise) fits calls allowed =
      rw (num_form.again (to, value, otherwise) (fits.0, omega arith, omega (arith, fits.1), fits.2)) refl
  words_again (ListObject to cells otherwise) fits calls allowed =
      rw ((list_form version).again (to, cells, otherwise) (fits.0, omega (arith, fits.1), allowed, fits.3)) refl
  words_again (NoneObject to) fits calls allowed = rw (one_variable_form.again to fits) refl
  words_again (Take to list) fits calls allowed =
      rw (statics_there version statics lines list allowed, take_again statics to list fits allowed) refl
  words_again (Newref to from) fits calls allowed = rw (two_variables_form.again (to, from) fits) refl
  words_again (Move to from) fits calls allowed = rw (two_variables_form.again (to, from) fits) refl
  words_again (Drop from) fits calls allowed = rw (one_variable_form.again from fits) refl
  words_again (Lock object) fits calls allowed = rw (one_variable_form.again object fits) refl
  words_again (Unlock object) fits calls allowed = rw (one_variable_form.again object fits) refl
  words_again (Borrow to list index otherwise) fits calls allowed =
      rw (item_form.again (to, list, index, otherwise) (fits.0, fits.1, omega arith, omega (arith, fits.2), fits.3))
      refl
  words_again (Fetch to list index otherwise) fits calls allowed =
      rw (item_form.again (to, list, index, otherwise) (fits.0, fits.1, omega arith, omega (arith, fits.2), fits.3))
      refl
  words_again (Set list index from otherwise) fits calls allowed =
      rw (store_form.again (list, index, from, otherwise) fits) refl
  words_again (Put list index from otherwise) fits calls allowed =
      rw (store_form.again (list, index, from, otherwise) fits) refl
  words_again (Open to path mode otherwise) fits calls allowed =
      rw (open_form.again (to, path, mode, otherwise) fits) refl
  words_again (Connect to peer otherwise) fits calls allowed =
      rw (connect_form.again (to, peer, otherwise) (fits.0, omega arith, omega (arith, fits.1), fits.2)) refl
  words_again (Read to file most otherwise) fits calls allowed =
      rw (read_form.again (to, file, most, otherwise) (fits.0, fits.1, omega (arith, fits.2), fits.3, fits.4)) refl
  words_again (Write file number otherwise) fits calls allowed =
      rw (pair_form.again (file, number, otherwise) fits) refl
  words_again (As from kind otherwise) fits calls allowed = rw (as_form.again (from, kind, otherwise) fits) refl
  words_again (Call to callee arguments otherwise) fits calls allowed =
      rw (calls.0, call_again version above whole apart to callee arguments otherwise fits calls) refl
  words_again (Goto to) fits calls allowed = rw (one_target_form.again to fits) refl
  words_again (Again to times) fits calls allowed = rw (again_form.again (to, times) fits) refl
  words_again (Ret from) fits calls allowed = rw (one_variable_form.again from fits) refl
  words_again Fail fits calls allowed = refl

  -- none of them has a space or a line feed
  words_plain : (i : Instr) → IsInstruction i → CallFits version above i → IsAllowed version statics i
      → ArePlain (instruction_words above i)
  words_plain (Num to value otherwise) fits calls allowed =
      ((refl, refl), num_form.plain (to, value, otherwise) (fits.0, omega arith, omega (arith, fits.1), fits.2))
  words_plain (ListObject to cells otherwise) fits calls allowed =
      ((refl, refl), (list_form version).plain (to, cells, otherwise) (fits.0, omega (arith, fits.1), allowed, fits.3))
  words_plain (NoneObject to) fits calls allowed = ((refl, refl), one_variable_form.plain to fits)
  words_plain (Take to list) fits calls allowed = ((refl, refl), take_plain to list fits)
  words_plain (Newref to from) fits calls allowed = ((refl, refl), two_variables_form.plain (to, from) fits)
  words_plain (Move to from) fits calls allowed = ((refl, refl), two_variables_form.plain (to, from) fits)
  words_plain (Drop from) fits calls allowed = ((refl, refl), one_variable_form.plain from fits)
  words_plain (Lock object) fits calls allowed = ((refl, refl), one_variable_form.plain object fits)
  words_plain (Unlock object) fits calls allowed = ((refl, refl), one_variable_form.plain object fits)
  words_plain (Borrow to list index otherwise) fits calls allowed = (
    (refl, refl),
    item_form.plain (to, list, index, otherwise) (fits.0, fits.1, omega arith, omega (arith, fits.2), fits.3),
  )
  words_plain (Fetch to list index otherwise) fits calls allowed = (
    (refl, refl),
    item_form.plain (to, list, index, otherwise) (fits.0, fits.1, omega arith, omega (arith, fits.2), fits.3),
  )
  words_plain (Set list index from otherwise) fits calls allowed =
      ((refl, refl), store_form.plain (list, index, from, otherwise) fits)
  words_plain (Put list index from otherwise) fits calls allowed =
      ((refl, refl), store_form.plain (list, index, from, otherwise) fits)
  words_plain (Open to path mode otherwise) fits calls allowed =
      ((refl, refl), open_form.plain (to, path, mode, otherwise) fits)
  words_plain (Connect to peer otherwise) fits calls allowed =
      ((refl, refl), connect_form.plain (to, peer, otherwise) (fits.0, omega arith, omega (arith, fits.1), fits.2))
  words_plain (Read to file most otherwise) fits calls allowed = (
    (refl, refl),
    read_form.plain (to, file, most, otherwise) (fits.0, fits.1, omega (arith, fits.2), fits.3, fits.4),
  )
  words_plain (Write file number otherwise) fits calls allowed =
      ((refl, refl), pair_form.plain (file, number, otherwise) fits)
  words_plain (As from kind otherwise) fits calls allowed = ((refl, refl), as_form.plain (from, kind, otherwise) fits)
  words_plain (Call to callee arguments otherwise) fits calls allowed =
      call_plain version above whole apart to callee arguments otherwise fits calls
  words_plain (Goto to) fits calls allowed = ((refl, refl), one_target_form.plain to fits)
  words_plain (Again to times) fits calls allowed = ((refl, refl), again_form.plain (to, times) fits)
  words_plain (Ret from) fits calls allowed = ((refl, refl), one_variable_form.plain from fits)
  words_plain Fail fits calls allowed = ((refl, refl), tt)

  pub instruction_again : (i : Instr) → IsInstruction i → CallFits version above i → IsAllowed version statics i
      → instruction_in version statics above (words (instruction above i)) ≡ Ok i
  instruction_again i fits calls allowed =
      ap (instruction_in version statics above)
      (spaced_words (instruction_words above i) (words_plain i fits calls allowed))
      ∙ words_again i fits calls allowed

  -- an instruction is one line
  pub instruction_plain : (i : Instr) → IsInstruction i → CallFits version above i → IsAllowed version statics i
      → list_any is_line_feed (instruction above i) ≡ false
  instruction_plain i fits calls allowed =
      spaced_plain (instruction_words above i) (words_plain i fits calls allowed)

-- an instruction isn't `end`
pub instruction_not_end : (above : List Function) (i : Instr) → bytes_eq (instruction above i) (codes "end") ≡ false
instruction_not_end above (Num to value otherwise) = refl
instruction_not_end above (ListObject to cells otherwise) = refl
instruction_not_end above (NoneObject to) = refl
instruction_not_end above (Take to list) = refl
instruction_not_end above (Newref to from) = refl
instruction_not_end above (Move to from) = refl
instruction_not_end above (Drop from) = refl
instruction_not_end above (Lock object) = refl
instruction_not_end above (Unlock object) = refl
instruction_not_end above (Borrow to list index otherwise) = refl
instruction_not_end above (Fetch to list index otherwise) = refl
instruction_not_end above (Set list index from otherwise) = refl
instruction_not_end above (Put list index from otherwise) = refl
instruction_not_end above (Open to path mode otherwise) = refl
instruction_not_end above (Connect to peer otherwise) = refl
instruction_not_end above (Read to file most otherwise) = refl
instruction_not_end above (Write file number otherwise) = refl
instruction_not_end above (As from kind otherwise) = refl
instruction_not_end above (Call to callee arguments otherwise) = refl
instruction_not_end above (Goto to) = refl
instruction_not_end above (Again to times) = refl
instruction_not_end above (Ret from) = refl
instruction_not_end above Fail = refl
