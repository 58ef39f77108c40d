-- The lines of a module's refusals, one after another.
use Rattle.std.proofs.Common.{◌≡◌, ℕ, Bool, List, [], ◌∷◌, ◌++◌, append-nil, flat_map, sym, ap, ◌∙◌}
use Rattle.std.proofs.lemmas.Grind.{flat_map-append}
use Rattle.std.proofs.lemmas.List.{append_assoc}
use Rattle.brc_lang.specs.declared.module.Function.{Function}
use Rattle.brc_check.specs.declared.refused.Refused.{Refused}
use Rattle.brc_check.specs.Refusal.{IsRefusedFor}
use Rattle.brc_command.specs.Files.{prefix, refusal_lines, IsRefusalLine, AreRefusalLines}
use Rattle.brc_command.specs.Lines.{refused_text}
use Rattle.brc_command.proofs.Others.{all_more}

module _ (functions : List Function) (named : Bool) (file : List ℕ) where
  pub first_line : (r : Refused) (text : List ℕ) → IsRefusedFor functions r
      → text ≡ prefix named file ++ refused_text r → AreRefusalLines functions named file text
  first_line r text is same = record {
    first = r;
    is = is;
    others = [];
    each = tt;
    lines = same ∙ sym (append-nil (prefix named file ++ refused_text r));
  }

  -- one line more
  pub line_more : (text line after : List ℕ) → AreRefusalLines functions named file text
      → IsRefusalLine functions named file line → after ≡ text ++ line
      → AreRefusalLines functions named file after
  line_more text line after are more longer =
      let line_of : Refused → List ℕ = λ r. prefix named file ++ refused_text r in
      let above = refusal_lines named file are.others in
      let last : flat_map line_of (more.0 ∷ []) ≡ line = append-nil (line_of more.0) ∙ sym more.2 in
      record {
        first = are.first;
        is = are.is;
        others = are.others ++ more.0 ∷ [];
        each = all_more (IsRefusedFor functions) are.others more.0 are.each more.1;
        lines = longer ∙ ap (λ (l : List ℕ). l ++ line) are.lines ∙ append_assoc (line_of are.first) above line
            ∙ ap (λ (l : List ℕ). line_of are.first ++ l)
            (ap (λ (l : List ℕ). above ++ l) (sym last) ∙ sym (flat_map-append line_of are.others (more.0 ∷ [])));
      }
