-- Reading line by line, as a function of the text: what a text spells, and which fault it has, follows from it.
use Rattle.std.proofs.Common.{◌≡◌, ℕ, ◌+◌, ◌<◌, ◌≤◌, Bool, true, false, cond, eqb, ◌&&◌, List, [], ◌∷◌, ◌++◌, length, drop}
use Rattle.std.proofs.Common.{get_or, Option, Some, None, Result, Ok, Err, refl, sym, ap, ◌∙◌, append_assoc, add-zero}
use Rattle.std.proofs.Common.{arith, inl, inr}
use Rattle.std.specs.Prelude.{codes}
use Rattle.std.specs.List.{list_any, slice_split, before_first, after_first, AllByRecursion}
use Rattle.std.specs.Str.{bytes_eq}
use Rattle.std.proofs.lemmas.Bool.{lt-leb, ne_eqb}
use Rattle.std.proofs.lemmas.List.{append-nil, length-append, get_or_append_left}
use Rattle.brc_lang.specs.declared.module.Module.{Module}
use Rattle.brc_lang.specs.declared.module.Function.{Function}
use Rattle.brc_lang.specs.declared.module.Instr.{Instr}
use Rattle.brc_lang.specs.declared.parameter.Parameter.{Parameter}
use Rattle.brc_lang.specs.declared.version.Version.{Version}
use Rattle.brc_lang.specs.declared.version.Version.TheVariants as versions
use Rattle.brc_lang.specs.declared.fault.FaultCode.{FaultCode}
use Rattle.brc_lang.specs.declared.fault.FaultCode.TheVariants.{FirstLine, CutOff}
use Rattle.brc_lang.specs.Grammar.{line, spaced, instruction, instructions, heading, function, functions_below, functions}
use Rattle.brc_lang.specs.Grammar.{first_line, is_name, IsInstruction, IsFunction, AreNamedApart, most_parameters}
use Rattle.brc_lang.specs.Grammar.{CallFits, FitsBelow, CallsFit, static_lines, most_statics, IsStatic, AreStatics, IsAllowed}
use Rattle.brc_lang.specs.Grammar.{AreAllowed}
use Rattle.brc_lang.specs.InstructionWords.{words, instruction_in}
use Rattle.brc_lang.specs.Fault.{heading_in, is_static, static_in, Beginning, beginning, open_text, named, IsBeginning}
use Rattle.brc_lang.specs.Fault.{line_fault_of, is_whole, is_line_feed, fault_of, line_count, version_in}
use Rattle.brc_lang.specs.Progress.{opened, at_line, closed}
use Rattle.brc_lang.specs.Limits.{function_limit, instruction_limit, static_limit}
use Rattle.brc_lang.proofs.Below.{calls_parts}
use Rattle.brc_lang.proofs.Bodies.{all_push, all_parts}
use Rattle.brc_lang.proofs.Cuts.{first_part, one_part, parts_some}
use Rattle.brc_lang.proofs.Lines.{line_at, line_cut, line_count-append, line_count_one}
use Rattle.brc_lang.proofs.Tests.{chosen}
use Rattle.brc_lang.proofs.Instructions.{instruction_again, instruction_plain, instruction_not_end}
use Rattle.brc_lang.proofs.TargetsFit.{means_fit}
use Rattle.brc_lang.proofs.StaticLines.{static_words, static_plain, static_again, statics_room, heading_apart, outer_heading}
use Rattle.brc_lang.proofs.Headings.{has_name, heading_words, heading_plain, heading_again, opening_fine, new_name_from}

-- ---- the machine

abbrev pub Answer : Type 0
Answer = Result Module (ℕ × FaultCode)

abbrev with_instruction : Function → Result Instr FaultCode → Function
with_instruction f (Ok i) = opened f.name f.parameters (f.code ++ i ∷ [])
with_instruction f (Err e) = f

abbrev opened_by : Result (List ℕ × List Parameter) FaultCode → Function
opened_by (Ok h) = opened h.0 h.1 []
opened_by (Err e) = opened [] [] []

-- the text above a line of an open function
abbrev open_at : Version → List (List ℕ) → List Function → Function → Beginning
open_at version statics done f = at_line version statics done (Some f)

abbrev with_static : List (List ℕ) → Result (List ℕ) FaultCode → List (List ℕ)
with_static statics (Ok numbers) = statics ++ numbers ∷ []
with_static statics (Err e) = statics

-- the text above the next line, if this one has no fault
abbrev after : Version → List (List ℕ) → List Function → Option Function → List ℕ → Beginning
after version statics done None text =
    cond (is_static version done (words text)) (closed version (with_static statics (static_in (words text))) done)
    (open_at version statics done (opened_by (heading_in version (words text))))
after version statics done (Some f) text =
    cond (bytes_eq text (codes "end")) (closed version statics (done ++ f ∷ []))
    (open_at version statics done (with_instruction f (instruction_in version statics done (words text))))

abbrev stop_or : Option FaultCode → ℕ → Answer → Answer
stop_or None n answer = answer
stop_or (Some code) n answer = Err (n, code)

-- from the line n on; the last part has no line feed at its end
abbrev read_from : ℕ → Beginning → List ℕ → List (List ℕ) → Answer
read_from n b first [] =
    cond (eqb (length first) 0 && is_whole b.done b.open_function)
    (Ok (record { version = b.version; statics = b.statics; functions = b.done })) (Err (n, CutOff))
read_from n b first (next ∷ others) =
    stop_or (line_fault_of b.version b.statics b.done b.open_function first) n
    (read_from (n + 1) (after b.version b.statics b.done b.open_function first) next others)

abbrev read_parts : ℕ → Beginning → List (List ℕ) → Answer
read_parts n b [] = Err (n, CutOff)
read_parts n b (first ∷ others) = read_from n b first others

abbrev pub read_rest : ℕ → Beginning → List ℕ → Answer
read_rest n b text = read_parts n b (slice_split is_line_feed text)

abbrev reading_below : Option Version → List ℕ → Answer
reading_below None below = Err (1, FirstLine)
reading_below (Some version) below = read_rest 2 (closed version [] []) below

abbrev pub reading : List ℕ → Answer
reading bytes = reading_below (version_in bytes) (drop 9 bytes)

-- ---- one line

passes_line : (n : ℕ) (b c : Beginning) (text rest : List ℕ) → list_any is_line_feed text ≡ false
    → line_fault_of b.version b.statics b.done b.open_function text ≡ None
    → after b.version b.statics b.done b.open_function text ≡ c
    → read_rest n b (line text ++ rest) ≡ read_rest (n + 1) c rest
passes_line n b c text rest plain fine next =
    let q = parts_some is_line_feed rest in
    let parts : slice_split is_line_feed (line text ++ rest) ≡ text ∷ q.0 ∷ q.1 =
    ap (slice_split is_line_feed) (line_at text rest) ∙ first_part is_line_feed text 10 rest plain refl
    ∙ ap (λ (ls : List (List ℕ)). text ∷ ls) q.2 in
    ap (read_parts n b) parts ∙ rw (fine, next) refl ∙ sym (ap (read_parts (n + 1) c) q.2)

pub stops : (n : ℕ) (b : Beginning) (rest : List ℕ) (code : FaultCode) → fault_of b rest ≡ Some code
    → read_rest n b rest ≡ Err (n, code)
stops n b rest code e =
    elim (chosen (list_any is_line_feed rest)
    (line_fault_of b.version b.statics b.done b.open_function (before_first is_line_feed rest)) _ (Some code) e) [
      | inl ended ↦
          let q = parts_some is_line_feed (after_first is_line_feed rest) in
          let parts : slice_split is_line_feed rest ≡ before_first is_line_feed rest ∷ q.0 ∷ q.1 =
          line_cut rest ended.0
          ∙ ap (λ (ls : List (List ℕ)). before_first is_line_feed rest ∷ ls) q.2 in
          ap (read_parts n b) parts ∙ rw ended.1 refl
      | inr last ↦
          ap (read_parts n b) (one_part is_line_feed rest last.0)
          ∙ elim (chosen (eqb (length rest) 0 && is_whole b.done b.open_function) None (Some CutOff) (Some code)
          last.1) [
            | inl whole ↦ let never = whole.1 in absurd cc
            | inr cut ↦ let same : CutOff ≡ code = (let s = cut.1 in cc) in rw (cut.0, same) refl
          ]
    ]

-- ---- several lines

then_more : (n : ℕ) (text rest : List ℕ) → list_any is_line_feed text ≡ false
    → (n + 1) + line_count rest ≡ n + line_count (line text ++ rest)
then_more n text rest plain = omega (arith, line_count-append (line text) rest, line_count_one text plain)

-- an open function, as far as it goes
module _ (version : Version) (statics : List (List ℕ)) (done : List Function) (lines_fit : AreStatics version statics)
    (whole : AllByRecursion IsFunction done) (apart : AreNamedApart done) where
  instructions_pass : (n : ℕ) (name : List ℕ) (ps : List Parameter) (front code : List Instr) (rest : List ℕ)
      → AllByRecursion IsInstruction code → AllByRecursion (CallFits version done) code
      → AllByRecursion (IsAllowed version statics) code → length front + length code ≤ instruction_limit
      → read_rest n (open_at version statics done (opened name ps front)) (instructions done code ++ rest)
      ≡ read_rest (n + line_count (instructions done code))
      (open_at version statics done (opened name ps (front ++ code))) rest
  instructions_pass n name ps front [] rest fits calls allowed few = rw (append-nil front, add-zero n) refl
  instructions_pass n name ps front (i ∷ code) rest fits calls allowed few =
      let text = instruction done i in
      let plain = instruction_plain version statics done lines_fit whole apart i fits.0 calls.0 allowed.0 in
      let again = instruction_again version statics done lines_fit whole apart i fits.0 calls.0 allowed.0 in
      let here = open_at version statics done (opened name ps front) in
      let there = open_at version statics done (opened name ps (front ++ i ∷ [])) in
      let fine : line_fault_of version statics done (Some (opened name ps front)) text ≡ None =
      rw (instruction_not_end done i, again, lt-leb instruction_limit (length front) (omega arith)) refl in
      let next : after version statics done (Some (opened name ps front)) text ≡ there =
      rw (instruction_not_end done i, again) refl in
      let others =
      instructions_pass (n + 1) name ps (front ++ i ∷ []) code rest fits.1 calls.1 allowed.1
      (omega (arith, length-append front (i ∷ []))) in
      ap (read_rest n here) (append_assoc (line text) (instructions done code) rest)
      ∙ passes_line n here there text (instructions done code ++ rest) plain fine next
      ∙ others
      ∙ rw (append_assoc front (i ∷ []) code, then_more n text (instructions done code) plain) refl

  heading_passes : (n : ℕ) (name : List ℕ) (ps : List Parameter) (rest : List ℕ) → is_name name ≡ true
      → length ps ≤ most_parameters version → length done < function_limit → has_name name done ≡ false
      → read_rest n (closed version statics done) (heading name ps ++ rest)
      ≡ read_rest (n + 1) (open_at version statics done (opened name ps [])) rest
  heading_passes n name ps rest fits few room new =
      let text = spaced (heading_words name ps) in
      let other = heading_apart version done name ps fits in
      passes_line n (closed version statics done) (open_at version statics done (opened name ps [])) text rest
      (heading_plain name ps fits)
      (outer_heading version statics done text other ∙ opening_fine version done name ps fits few room new)
      (ap (λ (b : Bool). cond b (closed version (with_static statics (static_in (words text))) done)
      (open_at version statics done (opened_by (heading_in version (words text))))) other
      ∙ ap (λ r. open_at version statics done (opened_by r)) (heading_again version name ps fits few))

  open_passes : (n : ℕ) (f : Function) (rest : List ℕ) → is_name f.name ≡ true
      → FitsBelow version done f → length done < function_limit → has_name f.name done ≡ false
      → AllByRecursion IsInstruction f.code → AllByRecursion (IsAllowed version statics) f.code
      → length f.code ≤ instruction_limit
      → read_rest n (closed version statics done) ((heading f.name f.parameters ++ instructions done f.code) ++ rest)
      ≡ read_rest (n + line_count (heading f.name f.parameters ++ instructions done f.code))
      (open_at version statics done f) rest
  open_passes n f rest fits below room new all allowed few =
      let first = heading f.name f.parameters in
      let lines = instructions done f.code in
      ap (read_rest n (closed version statics done)) (append_assoc first lines rest)
      ∙ heading_passes n f.name f.parameters (lines ++ rest) fits below.parameters room new
      ∙ instructions_pass (n + 1) f.name f.parameters [] f.code rest all below.calls allowed (omega arith)
      ∙ ap (λ (k : ℕ). read_rest k (open_at version statics done f) rest)
      (then_more n (spaced (heading_words f.name f.parameters)) lines (heading_plain f.name f.parameters fits))

  function_passes : (n : ℕ) (f : Function) (rest : List ℕ) → IsFunction f → FitsBelow version done f
      → AllByRecursion (IsAllowed version statics) f.code → length done < function_limit
      → has_name f.name done ≡ false
      → read_rest n (closed version statics done) (function done f ++ rest)
      ≡ read_rest (n + line_count (function done f)) (closed version statics (done ++ f ∷ [])) rest
  function_passes n f rest fits below allowed room new =
      let above = heading f.name f.parameters ++ instructions done f.code in
      let last = line (codes "end") in
      let some : eqb (length f.code) 0 ≡ false =
      (let has = fits.some in ne_eqb (length f.code) 0 (λ none. omega arith)) in
      let fine : line_fault_of version statics done (Some f) (codes "end") ≡ None =
      rw (some, means_fit f.code fits.targets) refl in
      let count : (n + line_count above) + 1 ≡ n + line_count (function done f) =
      omega (arith, line_count-append above last) in
      ap (read_rest n (closed version statics done)) (append_assoc above last rest)
      ∙ open_passes n f (last ++ rest) fits.name below room new fits.code allowed fits.most
      ∙ passes_line (n + line_count above) (open_at version statics done f) (closed version statics (done ++ f ∷ []))
      (codes "end") rest refl fine refl
      ∙ ap (λ (k : ℕ). read_rest k (closed version statics (done ++ f ∷ [])) rest) count

-- the names of functions, and then of others
front_apart : (done fs : List Function) → AreNamedApart (done ++ fs) → AreNamedApart done
front_apart done fs apart i j d lt below same =
    let first : get_or (done ++ fs) i d ≡ get_or done i d = get_or_append_left done fs d i (omega arith) in
    let second : get_or (done ++ fs) j d ≡ get_or done j d = get_or_append_left done fs d j below in
    let longer : j < length (done ++ fs) = omega (arith, length-append done fs, below) in
    apart i j d lt longer (ap (λ (g : Function). g.name) first ∙ same ∙ sym (ap (λ (g : Function). g.name) second))

functions_pass : (version : Version) (statics : List (List ℕ)) (n : ℕ) (done fs : List Function) (rest : List ℕ)
    → AreStatics version statics → AllByRecursion IsFunction done → AllByRecursion IsFunction fs
    → CallsFit version done fs → AreAllowed version statics fs → AreNamedApart (done ++ fs)
    → length done + length fs ≤ function_limit
    → read_rest n (closed version statics done) (functions_below done fs ++ rest)
    ≡ read_rest (n + line_count (functions_below done fs)) (closed version statics (done ++ fs)) rest
functions_pass version statics n done [] rest lines whole fits calls allowed apart few =
    rw (append-nil done, add-zero n) refl
functions_pass version statics n done (f ∷ fs) rest lines whole fits calls allowed apart few =
    let regrouped : (done ++ f ∷ []) ++ fs ≡ done ++ f ∷ fs = append_assoc done (f ∷ []) fs in
    let text = function done f in
    let below = functions_below (done ++ f ∷ []) fs in
    let others =
    functions_pass version statics (n + line_count text) (done ++ f ∷ []) fs rest lines
    (all_push IsFunction done f whole fits.0) fits.1 calls.1 allowed.1 (rw regrouped apart)
    (omega (arith, length-append done (f ∷ []))) in
    let count : (n + line_count text) + line_count below ≡ n + line_count (functions_below done (f ∷ fs)) =
    omega (arith, line_count-append text below) in
    ap (read_rest n (closed version statics done)) (append_assoc text below rest)
    ∙ function_passes version statics done lines whole (front_apart done (f ∷ fs) apart) n f (below ++ rest) fits.0
    calls.0 allowed.0 (omega arith) (new_name_from done f fs apart)
    ∙ others
    ∙ rw (regrouped, count) refl

pub done_apart : (done : List Function) (o : Option Function) → AreNamedApart (named done o)
    → length (named done o) ≤ function_limit → AreNamedApart done × (length done ≤ function_limit)
done_apart done None apart few = (apart, few)
done_apart done (Some f) apart few =
    (front_apart done (f ∷ []) apart, omega (arith, few, length-append done (f ∷ [])))

-- the functions above an open one fit
pub done_calls : (version : Version) (done : List Function) (o : Option Function) → CallsFit version [] (named done o)
    → CallsFit version [] done
done_calls version done None calls = calls
done_calls version done (Some f) calls = (calls_parts version done (f ∷ []) calls).0

-- so do their instructions
pub done_allowed : (version : Version) (statics : List (List ℕ)) (done : List Function) (o : Option Function)
    → AreAllowed version statics (named done o) → AreAllowed version statics done
done_allowed version statics done None allowed = allowed
done_allowed version statics done (Some f) allowed = (all_parts _ done (f ∷ []) allowed).0

open_end : (version : Version) (statics : List (List ℕ)) (n : ℕ) (done : List Function) (o : Option Function)
    (rest : List ℕ) → IsBeginning (at_line version statics done o)
    → read_rest n (closed version statics done) (open_text done o ++ rest)
    ≡ read_rest (n + line_count (open_text done o)) (at_line version statics done o) rest
open_end version statics n done None rest fits = rw (add-zero n) refl
open_end version statics n done (Some f) rest fits =
    let room : length done < function_limit = omega (arith, length-append done (f ∷ []), fits.most) in
    open_passes version statics done fits.statics fits.done (done_apart done (Some f) fits.names fits.most).0 n f rest
    fits.open_fits.name (calls_parts version done (f ∷ []) fits.calls).1.0 room (new_name_from done f [] fits.names)
    fits.open_fits.code (all_parts _ done (f ∷ []) fits.allowed).1.0 fits.open_fits.most

-- ---- static lines

statics_pass : (version : Version) (n : ℕ) (front statics : List (List ℕ)) (rest : List ℕ)
    → length front + length statics ≤ most_statics version → AllByRecursion IsStatic statics
    → read_rest n (closed version front []) (static_lines statics ++ rest)
    ≡ read_rest (n + line_count (static_lines statics)) (closed version (front ++ statics) []) rest
statics_pass version n front [] rest few fits = rw (append-nil front, add-zero n) refl
statics_pass version n front (numbers ∷ statics) rest few fits =
    let text = spaced (static_words numbers) in
    let plain = static_plain numbers fits.0 in
    let room = statics_room version (length front) (omega (arith, few)) in
    let again = static_again version numbers room.0 fits.0 in
    let here = closed version front [] in
    let there = closed version (front ++ numbers ∷ []) [] in
    let fine : line_fault_of version front [] None text ≡ None =
    rw (again.0, again.1, lt-leb static_limit (length front) room.1) refl in
    let next : after version front [] None text ≡ there = rw (again.0, again.1) refl in
    let others =
    statics_pass version (n + 1) (front ++ numbers ∷ []) statics rest
    (omega (arith, few, length-append front (numbers ∷ []))) fits.1 in
    ap (read_rest n here) (append_assoc (line text) (static_lines statics) rest)
    ∙ passes_line n here there text (static_lines statics ++ rest) plain fine next
    ∙ others
    ∙ rw (append_assoc front (numbers ∷ []) statics, then_more n text (static_lines statics) plain) refl

first_line_is_one : (version : Version) → line_count (first_line version) ≡ 1
first_line_is_one versions.One = refl
first_line_is_one versions.Two = refl
first_line_is_one versions.Three = refl

-- the first line is read
first_line_passes : (version : Version) (rest : List ℕ)
    → reading (first_line version ++ rest) ≡ read_rest 2 (closed version [] []) rest
first_line_passes versions.One rest = refl
first_line_passes versions.Two rest = refl
first_line_passes versions.Three rest = refl

-- the text above is read, and then the rest
pub beginning_passes : (b : Beginning) (rest : List ℕ) → IsBeginning b
    → reading (beginning b ++ rest) ≡ read_rest (line_count (beginning b) + 1) b rest
beginning_passes b rest fits =
    let first = first_line b.version in
    let lists = static_lines b.statics in
    let lines = functions b.done in
    let last = open_text b.done b.open_function in
    let apart = done_apart b.done b.open_function fits.names fits.most in
    let start : reading (beginning b ++ rest)
    ≡ read_rest 2 (closed b.version [] []) (lists ++ (lines ++ (last ++ rest))) =
    ap reading (append_assoc ((first ++ lists) ++ lines) last rest
    ∙ append_assoc (first ++ lists) lines (last ++ rest)
    ∙ append_assoc first lists (lines ++ (last ++ rest)))
    ∙ first_line_passes b.version (lists ++ (lines ++ (last ++ rest))) in
    let one : line_count first ≡ 1 = first_line_is_one b.version in
    let count : ((2 + line_count lists) + line_count lines) + line_count last ≡ line_count (beginning b) + 1 =
    omega (
      arith,
      one,
      line_count-append ((first ++ lists) ++ lines) last,
      line_count-append (first ++ lists) lines,
      line_count-append first lists,
    ) in
    start
    ∙ statics_pass b.version 2 [] b.statics (lines ++ (last ++ rest)) (omega (arith, fits.statics.most))
    fits.statics.each
    ∙ functions_pass b.version b.statics (2 + line_count lists) [] b.done (last ++ rest) fits.statics tt fits.done
    (done_calls b.version b.done b.open_function fits.calls)
    (done_allowed b.version b.statics b.done b.open_function fits.allowed) apart.0 (omega (arith, apart.1))
    ∙ open_end b.version b.statics ((2 + line_count lists) + line_count lines) b.done b.open_function rest fits
    ∙ ap (λ (k : ℕ). read_rest k b rest) count
