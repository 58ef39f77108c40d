-- Each text spells at most one schedule, or has at most one fault, and never both.
use Rattle.std.proofs.Common.{◌≡◌, ℕ, ◌+◌, true, leb, List, [], length, Result, Ok, Err, refl, sym, ap, ◌∙◌, arith, inl}
use Rattle.std.proofs.Common.{inr}
use Rattle.std.specs.Prelude.{MatchResult}
use Rattle.std.proofs.lemmas.Bool.{le-leb}
use Rattle.std.proofs.lemmas.List.{append-nil}
use Rattle.brc_lang.specs.declared.fault.FaultCode.{FaultCode}
use Rattle.brc_lang.specs.declared.fault.ReadFault.{ReadFault}
use Rattle.brc_lang.specs.Fault.{line_count}
use Rattle.brc_lang.specs.RoundTrips.{TextsRoundTrip}
use Rattle.brc_schedule.specs.declared.beginning.Beginning.TheVariants.{Planned}
use Rattle.brc_schedule.specs.declared.schedule.Schedule.{Schedule}
use Rattle.brc_schedule.specs.Text.{text, IsSchedule, Spells}
use Rattle.brc_schedule.specs.Fault.{beginning, IsPlan, HasFault, IsFaultOf, ReadsAs, Refuses}
use Rattle.brc_schedule.proofs.Machine.{Answer, reading, stops, beginning_passes}

whole_plan : (s : Schedule) → IsSchedule s → IsPlan s
whole_plan s fits =
    record {
      sizes = fits.sizes;
      few = (let e = fits.one_each in omega arith);
      calls = fits.calls;
      steps = fits.steps;
      in_order = λ _. fits.one_each;
    }

same_ok : (s t : Schedule) → ◌≡◌ {A = Answer} (Ok s) (Ok t) → s ≡ t
same_ok s t e = cc

same_err : (x y : ℕ × FaultCode) → ◌≡◌ {A = Answer} (Err x) (Err y) → x ≡ y
same_err x y e = cc

ok_no_err : (s : Schedule) (x : ℕ × FaultCode) → ◌≡◌ {A = Answer} (Ok s) (Err x) → ⊥
ok_no_err s x e = cc

abbrev pub Answers : List ℕ → Result Schedule ReadFault → Type 0
Answers bytes r = MatchResult r (λ s. Spells bytes s) (λ e. IsFaultOf bytes e)

-- ---- the laws

module _ (laws : TextsRoundTrip) where
  reads_spelled : (bytes : List ℕ) (s : Schedule) → Spells bytes s → reading bytes ≡ Ok s
  reads_spelled bytes s h =
      let fits = h.schedule_fits in
      let all : leb s.workers (length s.calls) ≡ true = (let e = fits.one_each in le-leb _ _ (omega arith)) in
      ap reading (h.spelled ∙ sym (append-nil (text s))) ∙ beginning_passes laws (Planned s) [] (whole_plan s fits)
      ∙ rw all refl

  reads_fault : (bytes : List ℕ) (n : ℕ) (code : FaultCode) → HasFault bytes n code → reading bytes ≡ Err (n, code)
  reads_fault bytes n code (inl h) = rw (h.other, h.numbered, h.fault) refl
  reads_fault bytes n code (inr h) =
      ap reading h.parts ∙ beginning_passes laws h.above h.rest h.above_fits
      ∙ stops laws (line_count (beginning h.above) + 1) h.above h.rest code h.fault ∙ rw h.numbered refl

  pub one_schedule : (bytes : List ℕ) (s t : Schedule) → Spells bytes s → Spells bytes t → s ≡ t
  one_schedule bytes s t g h = same_ok s t (sym (reads_spelled bytes s g) ∙ reads_spelled bytes t h)

  pub one_fault : (bytes : List ℕ) (k l : ℕ) (c d : FaultCode) → HasFault bytes k c → HasFault bytes l d
      → (k ≡ l) × (c ≡ d)
  one_fault bytes k l c d g h =
      let same = same_err (k, c) (l, d) (sym (reads_fault bytes k c g) ∙ reads_fault bytes l d h) in
      (ap (λ (x : ℕ × FaultCode). x.0) same, ap (λ (x : ℕ × FaultCode). x.1) same)

  pub apart : (bytes : List ℕ) (s : Schedule) (n : ℕ) (code : FaultCode) → Spells bytes s → HasFault bytes n code → ⊥
  apart bytes s n code g h = ok_no_err s (n, code) (sym (reads_spelled bytes s g) ∙ reads_fault bytes n code h)

  pub only : (bytes : List ℕ) (r : Result Schedule ReadFault) → Answers bytes r → (s : Schedule) → Spells bytes s
      → ReadsAs r s
  only bytes (Ok t) h s spells = one_schedule bytes t s h spells
  only bytes (Err e) (inl memory) s spells = memory
  only bytes (Err e) (inr has) s spells = absurd (apart bytes s e.line e.code spells has)

  pub refused : (bytes : List ℕ) (r : Result Schedule ReadFault) → Answers bytes r → (n : ℕ) (code : FaultCode)
      → HasFault bytes n code → Refuses r n code
  refused bytes (Ok s) h n code has = apart bytes s n code h has
  refused bytes (Err e) (inl memory) n code has = inr memory
  refused bytes (Err e) (inr other) n code has = inl (one_fault bytes e.line n e.code code other has)
