-- The line that opens a function.
use Rattle.std.proofs.Common.{◌≡◌, ◌≢◌, ℕ, ◌<◌, ◌≤◌, Bool, true, false, leb, List, [], ◌∷◌, ◌++◌, length, get_or, Some}
use Rattle.std.proofs.Common.{None, Result, Ok, Err, refl, sym, ap, ◌∙◌, arith, inl, inr}
use Rattle.std.specs.Prelude.{codes}
use Rattle.std.specs.List.{list_any}
use Rattle.std.specs.Str.{bytes_eq}
use Rattle.std.proofs.lemmas.Bool.{lt-leb, leb-false, false_from_ne_true, both_ways}
use Rattle.std.proofs.lemmas.List.{get_or_append_left, get_or_at, length-append}
use Rattle.std.proofs.lemmas.List.Quantifiers.{all_pairs_push}
use Rattle.std.proofs.lemmas.List.Recursion.{or_from_places}
use Rattle.std.proofs.lemmas.Slice.Eq.{bytes_eq-Decides}
use Rattle.brc_lang.specs.declared.module.Function.{Function}
use Rattle.brc_lang.specs.declared.parameter.Parameter.{Parameter}
use Rattle.brc_lang.specs.declared.version.Version.{Version}
use Rattle.brc_lang.specs.declared.fault.FaultCode.{FaultCode}
use Rattle.brc_lang.specs.declared.fault.FaultCode.TheVariants.{UnknownWord, OverLimit, NameTwice}
use Rattle.brc_lang.specs.Grammar.{line, spaced, heading, parameter_words, is_name, AreNamedApart, most_parameters}
use Rattle.brc_lang.specs.InstructionWords.{words, name_in}
use Rattle.brc_lang.specs.Fault.{heading_in, parameters_within, opening_fault_of, heading_fault_of}
use Rattle.brc_lang.specs.Fault.{is_line_feed}
use Rattle.brc_lang.specs.Progress.{Opens}
use Rattle.brc_lang.specs.Limits.{function_limit}
use Rattle.brc_lang.proofs.Cuts.{lacks_at}
use Rattle.brc_lang.proofs.OperandForms.{both_same}
use Rattle.brc_lang.proofs.Parameters.{within_spelled, within_again, parameters_plain}
use Rattle.brc_lang.proofs.Spelling.{bind_ok, ok_is, guarded, name_no_space, name_plain}
use Rattle.brc_lang.proofs.Tests.{chosen, either_way, same_text}
use Rattle.brc_lang.proofs.Words.{joined, ArePlain, spaced_words, spaced_plain}

abbrev pub has_name : List ℕ → List Function → Bool
has_name name done = list_any (λ f. bytes_eq f.name name) done

-- ---- what a heading says

-- the spelling of a function's first line, without its line feed
abbrev pub heading_words : List ℕ → List Parameter → List (List ℕ)
heading_words name ps = codes "func" ∷ name ∷ parameter_words ps

-- A line that is read as a heading is its spelling.
words_read : (version : Version) (ws : List (List ℕ)) (name : List ℕ) (ps : List Parameter)
    → heading_in version ws ≡ Ok (name, ps)
    → (ws ≡ heading_words name ps) × (is_name name ≡ true) × (length ps ≤ most_parameters version)
words_read version [] name ps e = absurd cc
words_read version (w ∷ []) name ps e = absurd cc
words_read version (w ∷ n ∷ ws) name ps e =
    either_way (bytes_eq w (codes "func")) _ (Err UnknownWord) (Ok (name, ps)) e
    (λ func read.
    let q = bind_ok (name_in n) _ (name, ps) read in
    let others = bind_ok (parameters_within (most_parameters version) ws) _ (name, ps) q.2 in
    let both : (q.0, others.0) ≡ (name, ps) = ok_is (q.0, others.0) (name, ps) others.2 in
    let same : q.0 ≡ name = ap (λ (h : List ℕ × List Parameter). h.0) both in
    let these : others.0 ≡ ps = ap (λ (h : List ℕ × List Parameter). h.1) both in
    let named = guarded (is_name n) UnknownWord n q.0 q.1 in
    let here : n ≡ name = named.1 ∙ same in
    let spelled = within_spelled (most_parameters version) ws ps (others.1 ∙ ap Ok these) in (
      both_same w (codes "func") (n ∷ ws) (name ∷ parameter_words ps) (same_text w (codes "func") func)
          (both_same n name ws (parameter_words ps) here spelled.0),
      ap is_name (sym here) ∙ named.0,
      spelled.1,
    ))
    (λ never. absurd cc)

pub heading_spelled : (version : Version) (text name : List ℕ) (ps : List Parameter)
    → heading_in version (words text) ≡ Ok (name, ps)
    → (line text ≡ heading name ps) × (is_name name ≡ true) × (length ps ≤ most_parameters version)
heading_spelled version text name ps read =
    let h = words_read version (words text) name ps read in
    (ap line (joined text (heading_words name ps) h.0), h.1, h.2)

pub heading_words_plain : (name : List ℕ) (ps : List Parameter) → is_name name ≡ true → ArePlain (heading_words name ps)
heading_words_plain name ps e = ((refl, refl), ((name_no_space name e, name_plain name e), parameters_plain ps))

-- a heading is one line
pub heading_plain : (name : List ℕ) (ps : List Parameter) → is_name name ≡ true
    → list_any is_line_feed (spaced (heading_words name ps)) ≡ false
heading_plain name ps e = spaced_plain (heading_words name ps) (heading_words_plain name ps e)

-- its spelling is read again
pub heading_again : (version : Version) (name : List ℕ) (ps : List Parameter) → is_name name ≡ true
    → length ps ≤ most_parameters version
    → heading_in version (words (spaced (heading_words name ps))) ≡ Ok (name, ps)
heading_again version name ps e few =
    ap (heading_in version) (spaced_words (heading_words name ps) (heading_words_plain name ps e))
    ∙ rw (e, within_again (most_parameters version) ps few) refl

-- ---- which fault

-- a heading without a fault opens a function
pub opens : (version : Version) (done : List Function) (text : List ℕ)
    → heading_fault_of version done (words text) ≡ None
    → (name : List ℕ) × (ps : List Parameter) × Opens version done text name ps
opens version done text fine = found (heading_in version (words text)) refl fine where
  found : (r : Result (List ℕ × List Parameter) FaultCode) → heading_in version (words text) ≡ r
      → opening_fault_of done r ≡ None
      → (name : List ℕ) × (ps : List Parameter) × Opens version done text name ps
  found (Err code) read fine = absurd cc
  found (Ok h) read fine =
      elim (chosen (leb function_limit (length done)) (Some OverLimit) _ None fine) [
        | inl never ↦ let e = never.1 in absurd cc
        | inr room ↦ elim (chosen (has_name h.0 done) (Some NameTwice) None None room.1) [
          | inl never ↦ let e = never.1 in absurd cc
          | inr new ↦ (
            h.0,
            h.1,
            record {
              read = read;
              room = omega (arith, leb-false function_limit (length done) room.0);
              new_name = new.0;
            },
          )
        ]
      ]

-- the line of a new name has no fault
pub opening_fine : (version : Version) (done : List Function) (name : List ℕ) (ps : List Parameter)
    → is_name name ≡ true → length ps ≤ most_parameters version → length done < function_limit
    → has_name name done ≡ false
    → heading_fault_of version done (words (spaced (heading_words name ps))) ≡ None
opening_fine version done name ps e few room new =
    ap (opening_fault_of done) (heading_again version name ps e few)
    ∙ rw (lt-leb function_limit (length done) room, new) refl

-- ---- names apart

pub new_name_from : (done : List Function) (f : Function) (fs : List Function) → AreNamedApart (done ++ f ∷ fs)
    → has_name f.name done ≡ false
new_name_from done f fs apart =
    or_from_places (has_name f.name) (λ g. bytes_eq g.name f.name) refl (λ _ _. refl) done f
    (λ k lt. false_from_ne_true _ (λ same.
    let all = done ++ f ∷ fs in
    let later : length done < length all = omega (arith, length-append done (f ∷ fs)) in
    let here : get_or all k f ≡ get_or done k f = get_or_append_left done (f ∷ fs) f k lt in
    let there : get_or all (length done) f ≡ f = get_or_at done f fs f (length done) refl in
    apart k (length done) f lt later
    (ap (λ (g : Function). g.name) here ∙ (bytes_eq-Decides (get_or done k f).name f.name).0 same
    ∙ sym (ap (λ (g : Function). g.name) there))))

pub apart_push : (done : List Function) (f : Function) → AreNamedApart done → has_name f.name done ≡ false
    → AreNamedApart (done ++ f ∷ [])
apart_push done f apart new =
    all_pairs_push (λ g h. g.name ≢ h.name) done f apart
    (λ k d lt same. both_ways (bytes_eq (get_or done k d).name f.name)
    (lacks_at (λ g. bytes_eq g.name f.name) done new k d lt)
    ((bytes_eq-Decides (get_or done k d).name f.name).1 same))
