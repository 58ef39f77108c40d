-- A text that goes on keeps its first line and its fault.
use Rattle.std.proofs.Common.{◌≡◌, ◌≢◌, ℕ, ◌≤◌, eqb, ◌&&◌, List, ◌++◌, length}
use Rattle.std.proofs.Common.{Some, None, ap, ◌∙◌, append_assoc, inl, inr}
use Rattle.std.specs.List.{list_any}
use Rattle.std.proofs.lemmas.List.{take-append-le}
use Rattle.brc_lang.specs.declared.fault.FaultCode.{FaultCode}
use Rattle.brc_lang.specs.declared.version.Version.TheVariants as versions
use Rattle.brc_lang.specs.declared.fault.FaultCode.TheVariants.{CutOff}
use Rattle.brc_lang.specs.Grammar.{first_line}
use Rattle.brc_lang.specs.Fault.{beginning, Beginning, fault_of, is_line_feed, is_whole, HasFault}
use Rattle.brc_lang.proofs.Lines.{line_kept}
use Rattle.brc_lang.proofs.Tests.{chosen}

-- the same fault: the faulty line is whole
longer_rest : (b : Beginning) (rest more : List ℕ) (code : FaultCode) → code ≢ CutOff
    → fault_of b rest ≡ Some code → fault_of b (rest ++ more) ≡ Some code
longer_rest b rest more code whole fault =
    elim (chosen (list_any is_line_feed rest) _ _ (Some code) fault) [
      | inl line ↦ let kept = line_kept rest more line.0 in rw (kept.0, kept.1) line.1
      | inr cut ↦ elim (chosen (eqb (length rest) 0 && is_whole b.done b.open_function) None _ (Some code) cut.1) [
        | inl never ↦ let e = never.1 in absurd cc
        | inr late ↦ absurd (whole (let e : Some CutOff ≡ Some code = late.1 in cc))
      ]
    ]

pub fault_stays : (bytes more : List ℕ) (line : ℕ) (code : FaultCode) → length (first_line versions.One) ≤ length bytes
    → code ≢ CutOff → HasFault bytes line code → HasFault (bytes ++ more) line code
fault_stays bytes more line code long whole (inl h) =
    inl (record {
      other = rw (take-append-le (length (first_line versions.One)) bytes more long) h.other;
      numbered = h.numbered;
      fault = h.fault;
    })
fault_stays bytes more line code long whole (inr h) =
    inr (record {
      above = h.above;
      rest = h.rest ++ more;
      above_fits = h.above_fits;
      parts = ap (λ (x : List ℕ). x ++ more) h.parts ∙ append_assoc (beginning h.above) h.rest more;
      numbered = h.numbered;
      fault = longer_rest h.above h.rest more code whole h.fault;
    })
