-- Each text spells a module or has a fault: from the top, each line is faulty or extends the text above the next line.
use Rattle.std.proofs.Common.{◌≡◌, ℕ, ◌+◌, ◌<◌, true, false, leb, eqb, ◌&&◌, ◌⊎◌, List, [], ◌∷◌, ◌++◌, length}
use Rattle.std.proofs.Common.{drop, Option, Some, None, Result, Ok, Err, refl, sym, ap, subst, ◌∙◌, append_assoc, arith}
use Rattle.std.proofs.Common.{inl, inr}
use Rattle.std.specs.Prelude.{codes, nat_eq}
use Rattle.std.specs.List.{list_any, starts_with}
use Rattle.std.specs.Str.{bytes_eq}
use Rattle.std.proofs.lemmas.Bool.{cases_Bool, and_parts, leb-false, ltb-true, eqb-true}
use Rattle.std.proofs.lemmas.Bool.Decides.{Decides-eqb}
use Rattle.std.proofs.lemmas.List.{append-nil, length-append}
use Rattle.std.proofs.lemmas.Slice.Eq.{starts_is}
use Rattle.brc_lang.specs.declared.module.Function.{Function}
use Rattle.brc_lang.specs.declared.module.Instr.{Instr}
use Rattle.brc_lang.specs.declared.module.Module.{Module}
use Rattle.brc_lang.specs.declared.version.Version.{Version}
use Rattle.brc_lang.specs.declared.version.Version.TheVariants as versions
use Rattle.brc_lang.specs.declared.fault.FaultCode.{FaultCode}
use Rattle.brc_lang.specs.declared.fault.FaultCode.TheVariants.{FirstLine, OverLimit, CutOff}
use Rattle.brc_lang.specs.Grammar.{line, instructions, heading, function, functions, first_line, top, IsFunction}
use Rattle.brc_lang.specs.Grammar.{IsModule}
use Rattle.brc_lang.specs.InstructionWords.{words, instruction_in}
use Rattle.brc_lang.specs.Fault.{Beginning, beginning, IsBeginning, is_static, static_in, static_fault_of}
use Rattle.brc_lang.specs.Fault.{heading_fault_of, version_in}
use Rattle.brc_lang.specs.Fault.{end_fault_of, next_instruction_fault_of, line_fault_of, is_whole, is_line_feed}
use Rattle.brc_lang.specs.Fault.{fault_of, line_count, HasLaterFault}
use Rattle.brc_lang.specs.Progress.{opened, at_line, closed}
use Rattle.brc_lang.specs.EachText.{SpellsAModule, HasAFault}
use Rattle.brc_lang.specs.Limits.{instruction_limit, static_limit}
use Rattle.brc_lang.proofs.Below.{calls_push, calls_parts}
use Rattle.brc_lang.proofs.Cuts.{lacks_append}
use Rattle.brc_lang.proofs.Lines.{line_at, line_any, line_before}
use Rattle.brc_lang.proofs.Tests.{chosen, same_text}
use Rattle.brc_lang.proofs.Instructions.{instruction_spelled}
use Rattle.brc_lang.proofs.Headings.{opens, heading_spelled, new_name_from, apart_push}
use Rattle.brc_lang.proofs.Machine.{done_apart, done_calls}
use Rattle.brc_lang.proofs.Bodies.{all_push, all_parts, instructions_push, ends_well}
use Rattle.brc_lang.proofs.Beginnings.{above_closed, static_grows, function_grows}
use Rattle.brc_lang.proofs.StaticLines.{static_place, static_spelled}

-- ---- one line more

-- with the same list in front
pub behind : (a : List ℕ) {x y : List ℕ} → x ≡ y → a ++ x ≡ a ++ y
behind a e = ap (λ (x : List ℕ). a ++ x) e

-- the text above a line and the line itself, as the text above the next line
record Extends (b : Beginning) (text : List ℕ) : Type 0 where
  pub below : Beginning
  pub fits : IsBeginning below
  pub parts : beginning b ++ line text ≡ beginning below

module _ (version : Version) (statics : List (List ℕ)) (done : List Function) (text : List ℕ) where
  heading_goes : IsBeginning (closed version statics done) → heading_fault_of version done (words text) ≡ None
      → Extends (closed version statics done) text
  heading_goes fits fine =
      let o = opens version done text fine in
      let opening = o.2 in
      let h = heading_spelled version text o.0 o.1 opening.read in
      let f = opened o.0 o.1 [] in
      let front = top version statics ++ functions done in
      record {
        below = at_line version statics done (Some f);
        fits = record {
          statics = fits.statics;
          most = omega (arith, length-append done (f ∷ []), opening.room);
          done = fits.done;
          names = apart_push done f fits.names opening.new_name;
          calls = calls_push version done f fits.calls (record { parameters = h.2; calls = tt });
          allowed = all_push _ done f fits.allowed tt;
          open_fits = record { name = h.1; most = omega arith; code = tt };
        };
        parts =
            ap (λ (x : List ℕ). x ++ line text) (above_closed version statics done)
            ∙ behind front (h.0 ∙ sym (append-nil (heading o.0 o.1)));
      }

  static_goes : (r : Result (List ℕ) FaultCode) → IsBeginning (closed version statics done)
      → is_static version done (words text) ≡ true → static_in (words text) ≡ r → static_fault_of statics r ≡ None
      → Extends (closed version statics done) text
  static_goes (Err code) fits is read fine = absurd cc
  static_goes (Ok numbers) fits is read fine =
      elim (chosen (leb static_limit (length statics)) (Some OverLimit) None None fine) [
        | inl never ↦ let e = never.1 in absurd cc
        | inr room ↦
            let place = static_place version done (words text) is in
            let spelled = static_spelled version done text numbers is read in
            let none : closed version statics done ≡ closed version statics [] =
            ap (λ (fs : List Function). closed version statics fs) place.1 in
            let grown =
            static_grows version statics numbers place.0 spelled.1
            (omega (arith, leb-false static_limit (length statics) room.0)) (subst IsBeginning none fits) in
            record {
              below = closed version (statics ++ numbers ∷ []) [];
              fits = grown.0;
              parts =
                  ap (λ (b : Beginning). beginning b ++ line text) none
                  ∙ behind (beginning (closed version statics [])) spelled.0 ∙ sym grown.1;
            }
      ]

  outer_goes : IsBeginning (closed version statics done) → line_fault_of version statics done None text ≡ None
      → Extends (closed version statics done) text
  outer_goes fits fine =
      elim (chosen (is_static version done (words text)) (static_fault_of statics (static_in (words text))) _ None
      fine) [
        | inl static ↦ static_goes (static_in (words text)) fits static.0 refl static.1
        | inr other ↦ heading_goes fits other.1
      ]

  end_goes : (f : Function) → IsBeginning (at_line version statics done (Some f)) → bytes_eq text (codes "end") ≡ true
      → end_fault_of f.code ≡ None
      → Extends (at_line version statics done (Some f)) text
  end_goes f fits last fine =
      let well = ends_well f.code fine in
      let front = top version statics ++ functions done in
      let lines = heading f.name f.parameters ++ instructions done f.code in
      let ended : IsFunction f = record {
        name = fits.open_fits.name;
        some = well.0;
        most = fits.open_fits.most;
        code = fits.open_fits.code;
        targets = well.1;
      } in
      record {
        below = closed version statics (done ++ f ∷ []);
        fits = record {
          statics = fits.statics;
          most = fits.most;
          done = all_push IsFunction done f fits.done ended;
          names = fits.names;
          calls = fits.calls;
          allowed = fits.allowed;
          open_fits = tt;
        };
        parts =
            ap (λ (x : List ℕ). (front ++ lines) ++ line x) (same_text text (codes "end") last)
            ∙ append_assoc front lines (line (codes "end"))
            ∙ ap (λ (x : List ℕ). x ++ function done f) (sym (above_closed version statics done))
            ∙ sym (function_grows version statics done f);
      }

  instruction_goes : (f : Function) (r : Result Instr FaultCode)
      → IsBeginning (at_line version statics done (Some f)) → instruction_in version statics done (words text) ≡ r
      → next_instruction_fault_of f.code r ≡ None
      → Extends (at_line version statics done (Some f)) text
  instruction_goes f (Err code) fits read fine = absurd cc
  instruction_goes f (Ok i) fits read fine =
      elim (chosen (leb instruction_limit (length f.code)) (Some OverLimit) None None fine) [
        | inl never ↦ let e = never.1 in absurd cc
        | inr room ↦
            let others = done_apart done (Some f) fits.names fits.most in
            let spelled = instruction_spelled version statics done text i others.1 read in
            let few : length f.code < instruction_limit =
            omega (arith, leb-false instruction_limit (length f.code) room.0) in
            let g = opened f.name f.parameters (f.code ++ i ∷ []) in
            let front = top version statics ++ functions done in
            let first = heading f.name f.parameters in
            let code = instructions done f.code in
            let here = (calls_parts version done (f ∷ []) fits.calls).1.0 in
            let before = all_parts _ done (f ∷ []) fits.allowed in
            let longer : code ++ line text ≡ instructions done (f.code ++ i ∷ []) =
            behind code (ap line spelled.0) ∙ sym (instructions_push done f.code i) in
            record {
              below = at_line version statics done (Some g);
              fits = record {
                statics = fits.statics;
                most = omega (arith, fits.most, length-append done (f ∷ []), length-append done (g ∷ []));
                done = fits.done;
                names = apart_push done g others.0 (new_name_from done f [] fits.names);
                calls = calls_push version done g (done_calls version done (Some f) fits.calls) (record {
                  parameters = here.parameters;
                  calls = all_push _ f.code i here.calls spelled.2;
                });
                allowed = all_push _ done g before.0 (all_push _ f.code i before.1.0 spelled.3);
                open_fits = record {
                  name = fits.open_fits.name;
                  most = omega (arith, length-append f.code (i ∷ []));
                  code = all_push _ f.code i fits.open_fits.code spelled.1;
                };
              };
              parts =
                  append_assoc front (first ++ code) (line text)
                  ∙ behind front (append_assoc first code (line text) ∙ behind first longer);
            }
      ]

  line_goes : (o : Option Function) → IsBeginning (at_line version statics done o)
      → line_fault_of version statics done o text ≡ None
      → Extends (at_line version statics done o) text
  line_goes None fits fine = outer_goes fits fine
  line_goes (Some f) fits fine = elim (chosen (bytes_eq text (codes "end")) (end_fault_of f.code) _ None fine) [
    | inl last ↦ end_goes f fits last.0 last.1
    | inr other ↦ instruction_goes f (instruction_in version statics done (words text)) fits refl other.1
  ]

-- ---- where the text ends

pub nothing_left : (text : List ℕ) → length text ≡ 0 → text ≡ []
nothing_left [] e = refl
nothing_left (c ∷ cs) e = absurd (omega arith)

whole_spells : (bytes : List ℕ) (version : Version) (statics : List (List ℕ)) (done : List Function)
    (o : Option Function)
    → IsBeginning (at_line version statics done o)
    → bytes ≡ beginning (at_line version statics done o) → is_whole done o ≡ true → SpellsAModule bytes
whole_spells bytes version statics done None fits parts whole =
    let some : 0 < length done = ltb-true 0 (length done) whole in
    let m : Module = record { version = version; statics = statics; functions = done } in
    let module_fits : IsModule m = record {
      statics = fits.statics;
      some = some;
      most = fits.most;
      functions = fits.done;
      names = fits.names;
      calls = fits.calls;
      allowed = fits.allowed;
    } in
    (m, record { module_fits = module_fits; spelled = parts ∙ above_closed version statics done })
whole_spells bytes version statics done (Some f) fits parts whole = absurd cc

fault_here : (bytes : List ℕ) (b : Beginning) (rest : List ℕ) (code : FaultCode) → IsBeginning b
    → bytes ≡ beginning b ++ rest → fault_of b rest ≡ Some code → HasAFault bytes
fault_here bytes b rest code fits parts fault =
    let later : HasLaterFault bytes (line_count (beginning b) + 1) code = record {
      above = b;
      rest = rest;
      above_fits = fits;
      parts = parts;
      numbered = refl;
      fault = fault;
    } in
    (line_count (beginning b) + 1, code, inr later)

ends_here : (bytes : List ℕ) (b : Beginning) (text : List ℕ) → IsBeginning b → bytes ≡ beginning b ++ text
    → list_any is_line_feed text ≡ false → SpellsAModule bytes ⊎ HasAFault bytes
ends_here bytes b text fits parts plain =
    let whole = eqb (length text) 0 && is_whole b.done b.open_function in
    elim (cases_Bool whole) [
      | inl h ↦
          let q = and_parts (eqb (length text) 0) (is_whole b.done b.open_function) h in
          let none : text ≡ [] = nothing_left text (eqb-true (length text) 0 q.0) in
          let same = parts ∙ behind (beginning b) none ∙ append-nil (beginning b) in
          inl (whole_spells bytes b.version b.statics b.done b.open_function fits same q.1)
      | inr cut ↦ inr (fault_here bytes b text CutOff fits parts (rw (plain, cut) refl))
    ]

-- ---- line by line

option_cases : {A : Type 0} (o : Option A) → (o ≡ None) ⊎ ((x : A) × (o ≡ Some x))
option_cases None = inl refl
option_cases (Some x) = inr (x, refl)

-- the bytes are the beginning b, then text, which is all of a line so far, and then more
from_here : (bytes : List ℕ) (b : Beginning) (text more : List ℕ) → IsBeginning b
    → bytes ≡ beginning b ++ (text ++ more) → list_any is_line_feed text ≡ false
    → SpellsAModule bytes ⊎ HasAFault bytes
from_here bytes b text [] fits parts plain =
    ends_here bytes b text fits (parts ∙ behind (beginning b) (append-nil text)) plain
from_here bytes b text (c ∷ more) fits parts plain = elim (cases_Bool (is_line_feed c)) [
  | inl feed ↦
      let ended : text ++ c ∷ more ≡ line text ++ more =
      ap (λ (x : ℕ). text ++ x ∷ more) (eqb-true c 10 feed) ∙ sym (line_at text more) in
      let lines : bytes ≡ beginning b ++ (line text ++ more) = parts ∙ behind (beginning b) ended in
      let here : fault_of b (line text ++ more) ≡ line_fault_of b.version b.statics b.done b.open_function text =
      rw (line_any text more, line_before text more plain) refl in
      elim (option_cases (line_fault_of b.version b.statics b.done b.open_function text)) [
        | inl fine ↦
            let next = line_goes b.version b.statics b.done text b.open_function fits fine in
            let regrouped = sym (append_assoc (beginning b) (line text) more) in
            let above = lines ∙ regrouped ∙ ap (λ (x : List ℕ). x ++ more) next.parts in
            from_here bytes next.below [] more next.fits above refl
        | inr fault ↦ inr (fault_here bytes b (line text ++ more) fault.0 fits lines (here ∙ fault.1))
      ]
  | inr other ↦
      from_here bytes b (text ++ c ∷ []) more fits
      (parts ∙ behind (beginning b) (sym (append_assoc text (c ∷ []) more)))
      (lacks_append is_line_feed text (c ∷ []) plain (rw other refl))
]

first_fits : (version : Version) → IsBeginning (closed version [] [])
first_fits version = record {
  statics = record { most = omega arith; each = tt };
  most = omega arith;
  done = tt;
  names = λ i j d lt below same. absurd (omega arith);
  calls = tt;
  allowed = tt;
  open_fits = tt;
}

-- the text begins with the first line of this version
below_first : (version : Version) (bytes : List ℕ) → starts_with nat_eq bytes (first_line version) ≡ true
    → SpellsAModule bytes ⊎ HasAFault bytes
below_first version bytes starts =
    let first = first_line version in
    let same = starts_is Decides-eqb bytes first (starts_with nat_eq bytes first) refl in
    let rest = drop (length first) bytes in
    let bare : beginning (closed version [] []) ≡ first =
    append-nil ((first ++ []) ++ []) ∙ append-nil (first ++ []) ∙ append-nil first in
    from_here bytes (closed version [] []) [] rest (first_fits version)
    (same.0 starts ∙ ap (λ (x : List ℕ). x ++ rest) (sym bare)) refl

pub each_text : (bytes : List ℕ) → SpellsAModule bytes ⊎ HasAFault bytes
each_text bytes = elim (cases_Bool (starts_with nat_eq bytes (first_line versions.One))) [
  | inl one ↦ below_first versions.One bytes one
  | inr not_one ↦ elim (cases_Bool (starts_with nat_eq bytes (first_line versions.Two))) [
    | inl two ↦ below_first versions.Two bytes two
    | inr not_two ↦ elim (cases_Bool (starts_with nat_eq bytes (first_line versions.Three))) [
      | inl three ↦ below_first versions.Three bytes three
      | inr not_three ↦
          let none : version_in bytes ≡ None = rw (not_one, not_two, not_three) refl in
          inr (1, FirstLine, inl (record { other = none; numbered = refl; fault = refl }))
    ]
  ]
]
