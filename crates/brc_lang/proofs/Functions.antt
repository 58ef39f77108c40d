-- From part to part: static lines, and then functions.
use Rattle.std.proofs.Common.{◌≡◌, ℕ, ◌+◌, ◌<◌, true, false, eqb, List, [], ◌∷◌, ◌++◌, length, Some, None, Bor, refl, sym}
use Rattle.std.proofs.Common.{ap, subst, ◌∙◌, append_assoc, add-zero, arith, inl, inr}
use Rattle.std.specs.Prelude.{codes}
use Rattle.std.specs.List.{list_any}
use Rattle.std.proofs.lemmas.Bool.{ne_eqb}
use Rattle.std.proofs.lemmas.List.{length-append}
use Rattle.brc_lang.specs.declared.above.Above.{Above}
use Rattle.brc_lang.specs.declared.module.Function.{Function}
use Rattle.brc_lang.specs.declared.parameter.Parameter.{Parameter}
use Rattle.brc_lang.specs.declared.version.Version.{Version}
use Rattle.brc_lang.specs.declared.fault.FaultCode.{FaultCode}
use Rattle.brc_lang.specs.declared.fault.FaultCode.TheVariants.{CutOff}
use Rattle.brc_lang.specs.declared.fault.ReadFault.{ReadFault}
use Rattle.brc_lang.specs.declared.cursor.Cursor.{Cursor}
use Rattle.brc_lang.specs.Grammar.{line, heading, instructions, function, functions, top, IsFunction}
use Rattle.brc_lang.specs.InstructionWords.{words}
use Rattle.brc_lang.specs.Fault.{Beginning, beginning, open_text, IsBeginning, is_static, static_in, static_fault_of}
use Rattle.brc_lang.specs.Fault.{heading_fault_of, fault_of, is_line_feed, line_count, IsFaultOf}
use Rattle.brc_lang.specs.Progress.{IsFirstLineOf, Passes, AppendsStatic, Opens, opened, at_line, closed, IsLineFault}
use Rattle.brc_lang.specs.Progress.{IsFaultInside, ReadsFunction, read_so_far, ReadsPart, IsFaultBelow, KnowsDepths}
use Rattle.brc_lang.proofs.Below.{calls_push}
use Rattle.brc_lang.proofs.Lines.{line_count-append}
use Rattle.brc_lang.proofs.Headings.{heading_spelled, apart_push}
use Rattle.brc_lang.proofs.StaticLines.{static_place, static_spelled}
use Rattle.brc_lang.proofs.Bodies.{all_push, at_cursor, passes_both, passes_line, fault_at}
use Rattle.brc_lang.proofs.Beginnings.{same_beginning, above_closed, static_grows, function_grows}

module _ (version : Version) (statics : List (List ℕ)) (done : List Function) (p : Cursor)
    (fits : IsBeginning (closed version statics done)) where
  -- ---- the faults of one part

  nothing_open : (code : FaultCode) → fault_of (closed version statics done) p.rest.now ≡ Some code
      → IsFaultBelow version statics done p (record { line = p.line; code = code })
  nothing_open code h =
      inr (record {
        open_function = None;
        rest = p.rest.now;
        fits = fits;
        parts = refl;
        numbered = sym (add-zero p.line);
        fault = h;
      })

  pub cut_off_below : 0 < length p.rest.now → list_any is_line_feed p.rest.now ≡ false
      → IsFaultBelow version statics done p (record { line = p.line; code = CutOff })
  cut_off_below some e =
      let here : eqb (length p.rest.now) 0 ≡ false = ne_eqb (length p.rest.now) 0 (λ none. omega arith) in
      nothing_open CutOff (rw (e, here) refl)

  module _ (text rest : List ℕ) (first : IsFirstLineOf p.rest.now text rest) where
    pub static_below : (code : FaultCode) → is_static version done (words text) ≡ true
        → IsLineFault (static_fault_of statics (static_in (words text))) code
        → IsFaultBelow version statics done p (record { line = p.line; code = code })
    static_below code is (inl memory) = inl memory
    static_below code is (inr h) =
        nothing_open code (fault_at (closed version statics done) p.rest.now text rest first ∙ rw is h)

    pub heading_below : (code : FaultCode) → is_static version done (words text) ≡ false
        → IsLineFault (heading_fault_of version done (words text)) code
        → IsFaultBelow version statics done p (record { line = p.line; code = code })
    heading_below code other (inl memory) = inl memory
    heading_below code other (inr h) =
        nothing_open code (fault_at (closed version statics done) p.rest.now text rest first ∙ rw other h)

  pub body_below : (text name : List ℕ) (parameters : List Parameter) (rest : Bor (List ℕ)) (e : ReadFault)
      → IsFirstLineOf p.rest.now text rest.now → Opens version done text name parameters
      → IsFaultInside version statics done (at_cursor rest (p.line + 1)) e
      → IsFaultBelow version statics done p e
  body_below text name parameters rest e first opening (inl memory) = inl memory
  body_below text name parameters rest e first opening (inr h) =
      let f = opened name parameters h.code in
      let heading_fits = heading_spelled version text name parameters opening.read in
      let above = passes_line text p rest first in
      inr (record {
        open_function = Some f;
        rest = h.rest;
        fits =
            record {
              statics = fits.statics;
              most = omega (arith, length-append done (f ∷ []), opening.room);
              done = fits.done;
              names = apart_push done f fits.names opening.new_name;
              calls = calls_push version done f fits.calls
                  (record { parameters = heading_fits.2; calls = h.instructions_fit.calls });
              allowed = all_push _ done f fits.allowed h.instructions_fit.allowed;
              open_fits = record {
                name = heading_fits.1;
                most = h.instructions_fit.most;
                code = h.instructions_fit.each;
              };
            };
        parts =
            first.parts ∙ ap (λ (x : List ℕ). x ++ rest.now) heading_fits.0
            ∙ ap (λ (x : List ℕ). heading name parameters ++ x) h.parts
            ∙ sym (append_assoc (heading name parameters) (instructions done h.code) h.rest);
        numbered =
            omega (
              arith,
              h.numbered,
              above.count,
              ap line_count heading_fits.0,
              line_count-append (heading name parameters) (instructions done h.code),
            );
        fault = h.fault;
      })

-- ---- one more part

module _ (above new : Above) (p : Cursor) (fits : IsBeginning (read_so_far above)) (text : List ℕ)
    (rest : Bor (List ℕ)) (first : IsFirstLineOf p.rest.now text rest.now) where
  pub reads_static : is_static above.version above.functions (words text) ≡ true
      → AppendsStatic above.statics new.statics text → new.version ≡ above.version → new.functions ≡ above.functions
      → ReadsPart above new p (at_cursor rest (p.line + 1))
  reads_static is appends same_version same_functions =
      let place = static_place above.version above.functions (words text) is in
      let spelled = static_spelled above.version above.functions text appends.numbers is appends.read in
      let before = same_beginning above.version above.version above.statics above.statics above.functions [] refl refl
      place.1 in
      let after =
      same_beginning new.version above.version new.statics (above.statics ++ appends.numbers ∷ []) new.functions []
      same_version appends.appended (same_functions ∙ place.1) in
      let grown =
      static_grows above.version above.statics appends.numbers place.0 spelled.1 appends.room
      (subst IsBeginning before fits) in
      record {
        lines = line text;
        some = omega (arith, length-append text (10 ∷ []));
        same = same_version;
        parts =
            ap beginning after ∙ grown.1
            ∙ ap (λ (x : List ℕ). beginning (closed above.version above.statics []) ++ x) (sym spelled.0)
            ∙ ap (λ (b : Beginning). beginning b ++ line text) (sym before);
        passed = passes_line text p rest first;
        fits = subst IsBeginning (sym after) grown.0;
      }

  pub reads_function : (name : List ℕ) (parameters : List Parameter) (after : Cursor)
      → Opens above.version above.functions text name parameters
      → ReadsFunction above new name parameters (at_cursor rest (p.line + 1)) after → ReadsPart above new p after
  reads_function name parameters after opening reads =
      let done = above.functions in
      let f = opened name parameters reads.code in
      let end = reads.ended in
      let heading_fits = heading_spelled above.version text name parameters opening.read in
      let last = instructions done f.code ++ line (codes "end") in
      let grown = same_beginning new.version above.version new.statics above.statics new.functions (done ++ f ∷ [])
      reads.same_version reads.same_statics reads.appended in
      let whole : IsFunction f = record {
        name = heading_fits.1;
        some = end.some;
        most = end.instructions_fit.most;
        code = end.instructions_fit.each;
        targets = end.targets;
      } in
      let more : IsBeginning (closed above.version above.statics (done ++ f ∷ [])) = record {
        statics = fits.statics;
        most = omega (arith, length-append done (f ∷ []), opening.room);
        done = all_push IsFunction done f fits.done whole;
        names = apart_push done f fits.names opening.new_name;
        calls = calls_push above.version done f fits.calls
            (record { parameters = heading_fits.2; calls = end.instructions_fit.calls });
        allowed = all_push _ done f fits.allowed end.instructions_fit.allowed;
        open_fits = tt;
      } in
      let written : function done f ≡ line text ++ last =
      append_assoc (heading name parameters) (instructions done f.code) (line (codes "end"))
      ∙ ap (λ (x : List ℕ). x ++ last) (sym heading_fits.0) in
      record {
        lines = line text ++ last;
        some = omega (arith, length-append (line text) last, length-append text (10 ∷ []));
        same = reads.same_version;
        parts =
            ap beginning grown ∙ function_grows above.version above.statics done f
            ∙ ap (λ (x : List ℕ). beginning (closed above.version above.statics done) ++ x) written;
        passed =
            passes_both (line text) last p (at_cursor rest (p.line + 1)) after (passes_line text p rest first)
            end.passed;
        fits = subst IsBeginning (sym grown) more;
      }

-- ---- a loop over the parts of a text, and its faults

pub record IsReadTo (bytes : List ℕ) (b : Beginning) (p : Cursor) : Type 0 where
  pub fits : IsBeginning b
  pub parts : bytes ≡ beginning b ++ p.rest.now
  pub numbered : p.line ≡ line_count (beginning b) + 1

-- some lines more
reads_on : (bytes : List ℕ) (b c : Beginning) (lines : List ℕ) (p q : Cursor) → IsReadTo bytes b p → IsBeginning c
    → beginning c ≡ beginning b ++ lines → Passes lines p q → IsReadTo bytes c q
reads_on bytes b c lines p q so_far fits grown passed = record {
  fits = fits;
  parts =
      so_far.parts ∙ ap (λ (x : List ℕ). beginning b ++ x) passed.parts
      ∙ sym (append_assoc (beginning b) lines q.rest.now)
      ∙ ap (λ (x : List ℕ). x ++ q.rest.now) (sym grown);
  numbered =
      omega (arith, so_far.numbered, passed.count, line_count-append (beginning b) lines, ap line_count grown);
}

-- what the reader knows of the static lines and functions above
pub record KnowsAbove (bytes : List ℕ) (version : Version) (above : Above) (p : Cursor) : Type 0 where
  pub same : above.version ≡ version
  pub read : IsReadTo bytes (read_so_far above) p
  pub known : KnowsDepths above

pub knows_on : (bytes : List ℕ) (version : Version) (above below : Above) (p q : Cursor)
    → KnowsAbove bytes version above p → ReadsPart above below p q → KnowsDepths below
    → KnowsAbove bytes version below q
knows_on bytes version above below p q so_far next known = record {
  same = next.same ∙ so_far.same;
  read =
      reads_on bytes (read_so_far above) (read_so_far below) next.lines p q so_far.read next.fits next.parts
      next.passed;
  known = known;
}

pub fault_below : (version : Version) (statics : List (List ℕ)) (bytes : List ℕ) (done : List Function) (p : Cursor)
    (e : ReadFault) → IsReadTo bytes (closed version statics done) p → IsFaultBelow version statics done p e
    → IsFaultOf bytes e
fault_below version statics bytes done p e so_far (inl memory) = inl memory
fault_below version statics bytes done p e so_far (inr h) =
    let front = top version statics ++ functions done in
    inr (inr (record {
      above = at_line version statics done h.open_function;
      rest = h.rest;
      above_fits = h.fits;
      parts =
          so_far.parts ∙ ap (λ (x : List ℕ). x ++ p.rest.now) (above_closed version statics done)
          ∙ ap (λ (x : List ℕ). front ++ x) h.parts ∙ sym (append_assoc front (open_text done h.open_function) h.rest);
      numbered =
          omega (
            arith,
            h.numbered,
            so_far.numbered,
            ap line_count (above_closed version statics done),
            line_count-append front (open_text done h.open_function),
          );
      fault = h.fault;
    }))
