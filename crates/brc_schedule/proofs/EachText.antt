-- Each text spells a schedule or has a fault: from the top, each line is faulty or extends the text above the next
-- line.
use Rattle.std.proofs.Common.{◌≡◌, ℕ, ◌+◌, true, false, eqb, ◌&&◌, ◌⊎◌, List, [], ◌∷◌, ◌++◌, length, drop, Some, Result}
use Rattle.std.proofs.Common.{Ok, Err, refl, sym, ap, ◌∙◌, append_assoc, arith, inl, inr}
use Rattle.std.specs.Prelude.{nat_eq}
use Rattle.std.specs.List.{list_any, starts_with}
use Rattle.std.proofs.lemmas.Bool.{cases_Bool, and_parts, leb-true, eqb-true}
use Rattle.std.proofs.lemmas.Bool.Decides.{Decides-eqb}
use Rattle.std.proofs.lemmas.List.{append-nil, nil_from_length}
use Rattle.std.proofs.lemmas.List.Folds.{list_any-append}
use Rattle.std.proofs.lemmas.Slice.Eq.{starts_is}
use Rattle.brc_lang.specs.declared.fault.FaultCode.{FaultCode}
use Rattle.brc_lang.specs.declared.fault.FaultCode.TheVariants.{FirstLine, CutOff}
use Rattle.brc_lang.specs.Grammar.{line}
use Rattle.brc_lang.specs.InstructionWords.{words}
use Rattle.brc_lang.specs.Fault.{is_line_feed, line_count}
use Rattle.brc_lang.specs.RoundTrips.{TextsRoundTrip}
use Rattle.brc_schedule.specs.declared.beginning.Beginning.{Beginning}
use Rattle.brc_schedule.specs.declared.beginning.Beginning.TheVariants.{Opened, Staffed, Planned}
use Rattle.brc_schedule.specs.Text.{first_line, IsSchedule}
use Rattle.brc_schedule.specs.Fault.{next_of, is_whole, fault_in, fault_of, beginning, IsPlan, IsBeginning}
use Rattle.brc_schedule.specs.Fault.{HasLaterFault}
use Rattle.brc_schedule.specs.EachText.{SpellsASchedule, HasAFault}
use Rattle.brc_schedule.proofs.Lines.{next_spelled}
use Rattle.brc_schedule.proofs.Results.{behind}

-- ---- where the text ends

whole_spells : (bytes : List ℕ) (b : Beginning) → IsBeginning b → bytes ≡ beginning b → is_whole b ≡ true
    → SpellsASchedule bytes
whole_spells bytes Opened fits parts whole = absurd cc
whole_spells bytes (Staffed workers) fits parts whole = absurd cc
whole_spells bytes (Planned s) fits parts whole =
    let plan : IsPlan s = fits in
    let few = plan.few in
    let schedule_fits : IsSchedule s = record {
      sizes = plan.sizes;
      one_each = omega (arith, leb-true _ _ whole);
      calls = plan.calls;
      steps = plan.steps;
    } in
    (s, record { schedule_fits = schedule_fits; spelled = parts })

fault_here : (bytes : List ℕ) (b : Beginning) (rest : List ℕ) (code : FaultCode) → IsBeginning b
    → bytes ≡ beginning b ++ rest → fault_of b rest ≡ Some code → HasAFault bytes
fault_here bytes b rest code fits parts fault =
    let later : HasLaterFault bytes (line_count (beginning b) + 1) code = record {
      above = b;
      rest = rest;
      above_fits = fits;
      parts = parts;
      numbered = refl;
      fault = fault;
    } in
    (line_count (beginning b) + 1, code, inr later)

ends_here : (bytes : List ℕ) (b : Beginning) (text : List ℕ) → IsBeginning b → bytes ≡ beginning b ++ text
    → list_any is_line_feed text ≡ false → SpellsASchedule bytes ⊎ HasAFault bytes
ends_here bytes b text fits parts plain = elim (cases_Bool (eqb (length text) 0 && is_whole b)) [
  | inl h ↦
      let q = and_parts (eqb (length text) 0) (is_whole b) h in
      let none : text ≡ [] = nil_from_length text (eqb-true (length text) 0 q.0) in
      let same = parts ∙ behind (beginning b) none ∙ append-nil (beginning b) in
      inl (whole_spells bytes b fits same q.1)
  | inr cut ↦ inr (fault_here bytes b text CutOff fits parts (rw (plain, cut) refl))
]

-- ---- line by line

result_cases : {A : Type 0} (r : Result A FaultCode) → ((x : A) × (r ≡ Ok x)) ⊎ ((code : FaultCode) × (r ≡ Err code))
result_cases (Ok x) = inl (x, refl)
result_cases (Err code) = inr (code, refl)

module _ (laws : TextsRoundTrip) where
  -- the bytes are the beginning b, then text, which is all of a line so far, and then more
  from_here : (bytes : List ℕ) (b : Beginning) (text more : List ℕ) → IsBeginning b
      → bytes ≡ beginning b ++ (text ++ more) → list_any is_line_feed text ≡ false
      → SpellsASchedule bytes ⊎ HasAFault bytes
  from_here bytes b text [] fits parts plain =
      ends_here bytes b text fits (parts ∙ behind (beginning b) (append-nil text)) plain
  from_here bytes b text (c ∷ more) fits parts plain = elim (cases_Bool (is_line_feed c)) [
    | inl feed ↦
        let ended : text ++ c ∷ more ≡ line text ++ more =
        ap (λ (x : ℕ). text ++ x ∷ more) (eqb-true c 10 feed) ∙ sym (append_assoc text (10 ∷ []) more) in
        let lines : bytes ≡ beginning b ++ (line text ++ more) = parts ∙ behind (beginning b) ended in
        let here : fault_of b (line text ++ more) ≡ fault_in (next_of b (words text)) =
        rw (laws.line_laws.ended text more, laws.line_laws.first text more plain) refl in
        elim (result_cases (next_of b (words text))) [
          | inl fine ↦
              let next = next_spelled laws b fine.0 text fits fine.1 in
              let regrouped = sym (append_assoc (beginning b) (line text) more) in
              let above = lines ∙ regrouped ∙ ap (λ (x : List ℕ). x ++ more) (sym next.0) in
              from_here bytes fine.0 [] more next.1 above refl
          | inr fault ↦ inr (fault_here bytes b (line text ++ more) fault.0 fits lines (here ∙ ap fault_in fault.1))
        ]
    | inr other ↦
        from_here bytes b (text ++ c ∷ []) more fits
        (parts ∙ behind (beginning b) (sym (append_assoc text (c ∷ []) more)))
        (list_any-append is_line_feed text (c ∷ []) ∙ rw (plain, other) refl)
  ]

  pub each_text : (bytes : List ℕ) → SpellsASchedule bytes ⊎ HasAFault bytes
  each_text bytes = elim (cases_Bool (starts_with nat_eq bytes first_line)) [
    | inl starts ↦
        let same = starts_is Decides-eqb bytes first_line (starts_with nat_eq bytes first_line) refl in
        from_here bytes Opened [] (drop 11 bytes) tt (same.0 starts) refl
    | inr other ↦ inr (1, FirstLine, inl (record { other = other; numbered = refl; fault = refl }))
  ]
