-- Inside a function, line by line.
use Rattle.std.proofs.Common.{◌≡◌, ℕ, ◌+◌, ◌<◌, ◌≤◌, true, false, List, [], ◌∷◌, ◌++◌, length, eqb, Some, None, Bor}
use Rattle.std.proofs.Common.{refl, sym, ap, subst, ◌∙◌, append_assoc, arith, inl, inr}
use Rattle.std.specs.Prelude.{codes}
use Rattle.std.specs.List.{AllByRecursion}
use Rattle.std.specs.Str.{bytes_eq}
use Rattle.std.proofs.lemmas.Bool.{eqb-false}
use Rattle.std.proofs.lemmas.List.{append-nil, length-append}
use Rattle.std.proofs.lemmas.List.Concat.{flat_map-append}
use Rattle.std.proofs.lemmas.Slice.Eq.{bytes_eq-Decides}
use Rattle.brc_lang.specs.declared.module.Function.{Function}
use Rattle.brc_lang.specs.declared.module.Instr.{Instr}
use Rattle.brc_lang.specs.declared.version.Version.{Version}
use Rattle.brc_lang.specs.declared.fault.FaultCode.{FaultCode}
use Rattle.brc_lang.specs.declared.fault.FaultCode.TheVariants.{OverLimit, Target}
use Rattle.brc_lang.specs.declared.cursor.Cursor.{Cursor}
use Rattle.brc_lang.specs.Grammar.{line, instruction, instructions, TargetsFit}
use Rattle.brc_lang.specs.InstructionWords.{words, instruction_in}
use Rattle.brc_lang.specs.Fault.{Beginning, targets_fit, end_fault_of, line_fault_of}
use Rattle.brc_lang.specs.Fault.{next_instruction_fault_of, fault_of}
use Rattle.brc_lang.specs.Progress.{IsFirstLineOf, Passes, IsLineFault, Appends, inside, AreInstructions, Ends}
use Rattle.brc_lang.specs.Progress.{HasFaultInside, IsFaultInside}
use Rattle.brc_lang.specs.Limits.{function_limit}
use Rattle.brc_lang.proofs.Lines.{line_any, line_before, line_count-append, line_count_one}
use Rattle.brc_lang.proofs.Tests.{chosen}
use Rattle.brc_lang.proofs.Instructions.{instruction_spelled}
use Rattle.brc_lang.proofs.TargetsFit.{fit_means}

-- ---- places

abbrev pub at_cursor : Bor (List ℕ) → ℕ → Cursor
at_cursor rest number = record { rest = rest; line = number }

pub passes_both : (a b : List ℕ) (p q r : Cursor) → Passes a p q → Passes b q r → Passes (a ++ b) p r
passes_both a b p q r g h = record {
  parts = g.parts ∙ ap (λ (x : List ℕ). a ++ x) h.parts ∙ sym (append_assoc a b r.rest.now);
  count = omega (arith, g.count, h.count, line_count-append a b);
}

pub passes_line : (text : List ℕ) (p : Cursor) (rest : Bor (List ℕ)) → IsFirstLineOf p.rest.now text rest.now
    → Passes (line text) p (at_cursor rest (p.line + 1))
passes_line text p rest h =
    record { parts = h.parts; count = ap (λ (n : ℕ). p.line + n) (sym (line_count_one text h.plain)) }

-- ---- the fault of a line

pub fault_at : (b : Beginning) (rest text below : List ℕ) → IsFirstLineOf rest text below
    → fault_of b rest ≡ line_fault_of b.version b.statics b.done b.open_function text
fault_at b rest text below h = ap (fault_of b) h.parts ∙ rw (line_any text below, line_before text below h.plain) refl

-- ---- a list that grows at its end

pub all_push : {X : Type 0} (P : X → Type 0) (xs : List X) (x : X) → AllByRecursion P xs → P x
    → AllByRecursion P (xs ++ x ∷ [])
all_push P [] x all here = (here, tt)
all_push P (y ∷ xs) x all here = (all.0, all_push P xs x all.1 here)

-- what holds of two lists holds of each
pub all_parts : {X : Type 0} (P : X → Type 0) (xs ys : List X) → AllByRecursion P (xs ++ ys)
    → AllByRecursion P xs × AllByRecursion P ys
all_parts P [] ys all = (tt, all)
all_parts P (x ∷ xs) ys all = let rest = all_parts P xs ys all.1 in ((all.0, rest.0), rest.1)

pub instructions_push : (above : List Function) (code : List Instr) (i : Instr)
    → instructions above (code ++ i ∷ []) ≡ instructions above code ++ line (instruction above i)
instructions_push above code i =
    flat_map-append _ code (i ∷ [])
    ∙ ap (λ (x : List ℕ). instructions above code ++ x) (append-nil (line (instruction above i)))

-- a line that ends a function and has no fault
pub ends_well : (code : List Instr) → end_fault_of code ≡ None → (0 < length code) × TargetsFit code
ends_well code fine =
    elim (chosen (eqb (length code) 0) (Some OverLimit) _ None fine) [
      | inl empty ↦ let never = empty.1 in absurd cc
      | inr some ↦ elim (chosen (targets_fit code) None (Some Target) None some.1) [
        | inl fits ↦ let other = eqb-false (length code) 0 some.0 in (omega arith, fit_means code fits.0)
        | inr other ↦ let never = other.1 in absurd cc
      ]
    ]

-- ---- a loop over the lines of a function, below these functions

module _ (version : Version) (statics : List (List ℕ)) (done : List Function) (from : Cursor) where
  pub record IsInside (code : List Instr) (to : Cursor) : Type 0 where
    pub instructions_fit : AreInstructions version statics done code
    pub passed : Passes (instructions done code) from to

  -- one instruction more
  pub goes_on : (at : Cursor) (code new : List Instr) (text : List ℕ) (rest : Bor (List ℕ))
      → length done ≤ function_limit
      → IsInside code at → IsFirstLineOf at.rest.now text rest.now → Appends version statics done code new text
      → IsInside new (at_cursor rest (at.line + 1))
  goes_on at code new text rest few so_far first next =
      let spelled = instruction_spelled version statics done text next.instr few next.read in
      let both =
      passes_both (instructions done code) (line text) from at (at_cursor rest (at.line + 1)) so_far.passed
      (passes_line text at rest first) in
      let lines : instructions done code ++ line text ≡ instructions done new =
      ap (λ (x : List ℕ). instructions done code ++ line x) spelled.0 ∙ sym (instructions_push done code next.instr)
      ∙ ap (instructions done) (sym next.appended) in
      let more : AreInstructions version statics done (code ++ next.instr ∷ []) = record {
        most = omega (arith, length-append code (next.instr ∷ []), next.room);
        each = all_push _ code next.instr so_far.instructions_fit.each spelled.1;
        calls = all_push _ code next.instr so_far.instructions_fit.calls spelled.2;
        allowed = all_push _ code next.instr so_far.instructions_fit.allowed spelled.3;
      } in
      record {
        instructions_fit = subst (AreInstructions version statics done) (sym next.appended) more;
        passed = subst (λ (x : List ℕ). Passes x from (at_cursor rest (at.line + 1))) lines both;
      }

  -- the line `end`
  pub ends : (at : Cursor) (code : List Instr) (text : List ℕ) (rest : Bor (List ℕ))
      → IsInside code at → IsFirstLineOf at.rest.now text rest.now → bytes_eq text (codes "end") ≡ true
      → end_fault_of code ≡ None
      → Ends version statics done from code (at_cursor rest (at.line + 1))
  ends at code text rest so_far first last fine =
      let same : text ≡ codes "end" = (bytes_eq-Decides text (codes "end")).0 last in
      let both =
      passes_both (instructions done code) (line text) from at (at_cursor rest (at.line + 1)) so_far.passed
      (passes_line text at rest first) in
      let well = ends_well code fine in
      record {
        instructions_fit = so_far.instructions_fit;
        some = well.0;
        targets = well.1;
        passed =
            subst (λ (x : List ℕ). Passes (instructions done code ++ line x) from (at_cursor rest (at.line + 1))) same
            both;
      }

  -- ---- its faults

  fault_inside : (at : Cursor) (code : List Instr) (e : FaultCode) → IsInside code at
      → fault_of (inside version statics done code) at.rest.now ≡ Some e
      → HasFaultInside version statics done from (record { line = at.line; code = e })
  fault_inside at code e so_far h =
      record {
        code = code;
        rest = at.rest.now;
        instructions_fit = so_far.instructions_fit;
        parts = so_far.passed.parts;
        numbered = so_far.passed.count;
        fault = h;
      }

  pub end_fault : (at : Cursor) (code : List Instr) (text rest : List ℕ) (e : FaultCode)
      → IsInside code at → IsFirstLineOf at.rest.now text rest → bytes_eq text (codes "end") ≡ true
      → end_fault_of code ≡ Some e
      → IsFaultInside version statics done from (record { line = at.line; code = e })
  end_fault at code text rest e so_far first last h =
      inr (fault_inside at code e so_far
      (fault_at (inside version statics done code) at.rest.now text rest first ∙ rw last h))

  pub other_fault : (at : Cursor) (code : List Instr) (text rest : List ℕ) (e : FaultCode)
      → IsInside code at → IsFirstLineOf at.rest.now text rest → bytes_eq text (codes "end") ≡ false
      → IsLineFault (next_instruction_fault_of code (instruction_in version statics done (words text))) e
      → IsFaultInside version statics done from (record { line = at.line; code = e })
  other_fault at code text rest e so_far first other (inl memory) = inl memory
  other_fault at code text rest e so_far first other (inr h) =
      inr (fault_inside at code e so_far
      (fault_at (inside version statics done code) at.rest.now text rest first ∙ rw other h))
