-- From line to line of a schedule's text.
use Rattle.std.proofs.Common.{◌≡◌, ℕ, ◌+◌, ◌^◌, ◌<◌, true, false, eqb, ◌&&◌, ◌⊎◌, List, [], ◌∷◌, ◌++◌, length, Some}
use Rattle.std.proofs.Common.{Bor, Ok, Err, refl, sym, ap, subst, ◌∙◌, append_assoc, arith, inl, inr}
use Rattle.std.specs.List.{list_any}
use Rattle.std.proofs.lemmas.Bool.{leb-true}
use Rattle.std.proofs.lemmas.List.{append-nil, length-append, nil_from_length}
use Rattle.brc_lang.specs.declared.fault.FaultCode.{FaultCode}
use Rattle.brc_lang.specs.declared.fault.FaultCode.TheVariants.{CutOff, NoMemory}
use Rattle.brc_lang.specs.declared.cursor.Cursor.{Cursor}
use Rattle.brc_lang.specs.Grammar.{line}
use Rattle.brc_lang.specs.InstructionWords.{words}
use Rattle.brc_lang.specs.Fault.{is_line_feed, line_count}
use Rattle.brc_lang.specs.Progress.{IsFirstLineOf}
use Rattle.brc_lang.specs.RoundTrips.{TextsRoundTrip}
use Rattle.brc_schedule.specs.declared.beginning.Beginning.{Beginning}
use Rattle.brc_schedule.specs.declared.beginning.Beginning.TheVariants.{Planned}
use Rattle.brc_schedule.specs.declared.schedule.Schedule.{Schedule}
use Rattle.brc_schedule.specs.Text.{text, IsSchedule, Spells}
use Rattle.brc_schedule.specs.Fault.{next_of, is_whole, fault_in, fault_of, beginning, IsPlan, IsBeginning, IsFaultOf}
use Rattle.brc_schedule.proofs.Lines.{next_spelled}
use Rattle.brc_schedule.proofs.Results.{line_count-append}

-- ---- places

abbrev pub at_cursor : Bor (List ℕ) → ℕ → Cursor
at_cursor rest number = record { rest = rest; line = number }

pub record IsReadTo (bytes : List ℕ) (b : Beginning) (p : Cursor) : Type 0 where
  pub fits : IsBeginning b
  pub parts : bytes ≡ beginning b ++ p.rest.now
  pub numbered : p.line ≡ line_count (beginning b) + 1

-- ---- faults

fault_below : (bytes : List ℕ) (b : Beginning) (p : Cursor) (code : FaultCode) → IsReadTo bytes b p
    → fault_of b p.rest.now ≡ Some code → IsFaultOf bytes (record { line = p.line; code = code })
fault_below bytes b p code so_far h =
    inr (inr (record {
      above = b;
      rest = p.rest.now;
      above_fits = so_far.fits;
      parts = so_far.parts;
      numbered =
          so_far.numbered;
      fault = h;
    }))

pub cut_off : (bytes : List ℕ) (b : Beginning) (p : Cursor) → IsReadTo bytes b p
    → list_any is_line_feed p.rest.now ≡ false → (eqb (length p.rest.now) 0 && is_whole b) ≡ false
    → IsFaultOf bytes (record { line = p.line; code = CutOff })
cut_off bytes b p so_far unended more = fault_below bytes b p CutOff so_far (rw (unended, more) refl)

-- ---- the end

planned_end : (bytes : List ℕ) (s : Schedule) (p : Cursor) → IsReadTo bytes (Planned s) p → is_whole (Planned s) ≡ true
    → length p.rest.now ≡ 0 → Spells bytes s
planned_end bytes s p so_far whole end =
    let plan : IsPlan s = so_far.fits in
    let few = plan.few in
    let fits : IsSchedule s =
    record {
      sizes = plan.sizes;
      one_each = omega (arith, leb-true _ _ whole);
      calls = plan.calls;
      steps =
          plan.steps;
    } in
    record {
      schedule_fits = fits;
      spelled =
          so_far.parts ∙ ap (λ (x : List ℕ). text s ++ x) (nil_from_length p.rest.now end) ∙ append-nil (text s);
    }

pub ends : (bytes : List ℕ) (b : Beginning) (s : Schedule) (p : Cursor) → IsReadTo bytes b p → b ≡ Planned s
    → is_whole b ≡ true → length p.rest.now ≡ 0 → Spells bytes s
ends bytes b s p so_far is whole end =
    planned_end bytes s p (subst (λ (x : Beginning). IsReadTo bytes x p) is so_far) (ap is_whole (sym is) ∙ whole) end

-- ---- room for the number of the next line

pub line_room : (number : ℕ) (whole first below : List ℕ) → IsFirstLineOf whole first below
    → number + length whole < 2 ^ 64 → number + 1 + length below < 2 ^ 64
line_room number whole first below h room =
    let len : length whole ≡ length (line first ++ below) = ap length h.parts in
    omega (arith, length-append (line first) below, length-append first (10 ∷ []))

-- ---- one line more

module _ (laws : TextsRoundTrip) where
  pub goes_on : (bytes : List ℕ) (b c : Beginning) (p : Cursor) (first : List ℕ) (rest : Bor (List ℕ))
      → IsReadTo bytes b p
      → IsFirstLineOf p.rest.now first rest.now → next_of b (words first) ≡ Ok c
      → IsReadTo bytes c (at_cursor rest (p.line + 1))
  goes_on bytes b c p first rest so_far h e =
      let next = next_spelled laws b c first so_far.fits e in
      record {
        fits = next.1;
        parts =
            so_far.parts ∙ ap (λ (x : List ℕ). beginning b ++ x) h.parts
            ∙ sym (append_assoc (beginning b) (line first) rest.now)
            ∙ ap (λ (x : List ℕ). x ++ rest.now) (sym next.0);
        numbered =
            omega (
              arith,
              so_far.numbered,
              ap line_count next.0,
              line_count-append (beginning b) (line first),
              laws.line_laws.counted first h.plain,
            );
      }

  fault_at : (b : Beginning) (rest first below : List ℕ) → IsFirstLineOf rest first below
      → fault_of b rest ≡ fault_in (next_of b (words first))
  fault_at b rest first below h =
      ap (fault_of b) h.parts ∙ rw (laws.line_laws.ended first below, laws.line_laws.first first below h.plain) refl

  pub line_fault : (bytes : List ℕ) (b : Beginning) (p : Cursor) (first below : List ℕ) (code : FaultCode)
      → IsReadTo bytes b p → IsFirstLineOf p.rest.now first below
      → (code ≡ NoMemory) ⊎ (next_of b (words first) ≡ Err code)
      → IsFaultOf bytes (record { line = p.line; code = code })
  line_fault bytes b p first below code so_far h (inl memory) = inl memory
  line_fault bytes b p first below code so_far h (inr e) =
      fault_below bytes b p code so_far (fault_at b p.rest.now first below h ∙ ap fault_in e)
