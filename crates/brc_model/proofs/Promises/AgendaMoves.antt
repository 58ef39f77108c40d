-- A thread's agenda changes when the thread does its first duty: the new one begins with another duty, or is shorter.
use Rattle.std.proofs.Common.{◌≡◌, ◌≢◌, ℕ, zero, suc, ◌+◌, ◌-◌, ◌^◌, ◌<◌, ◌≤◌, Bool, List, [], ◌∷◌, ◌++◌, length, refl, sym, ap, ◌∙◌, arith}
use Rattle.brc_word.specs.Words.{marks_of_word, mark_at, unmarked_word, lowest_mark}
use Rattle.brc_model.specs.declared.duty.Duty.{Duty}
use Rattle.brc_model.specs.declared.duty.Duty.TheVariants.{Settle, SettleKind, Scan, TakeFound}
use Rattle.brc_model.specs.Duties.{continuation, ready}
use Rattle.brc_model.proofs.Basics.Marks.{taken_here}
use Rattle.brc_model.proofs.Basics.FoundMarks.{lowest_set}
use Rattle.brc_model.proofs.Basics.Continuation.{Continuation, GoesOn, Frees, FreesOld, SettlesRow, Claims, ClaimsNone, Exits, Scans, Takes, TakesNone, continues}
use Rattle.brc_model.specs.declared.layout.Layout.{Layout}
use Rattle.brc_model.proofs.Stepping.Own.{ready_first}

-- Skipping duties makes an agenda no longer.
ready_length : (head : ℕ) (agenda : List Duty) → length (ready head agenda) ≤ length agenda
ready_length zero [] = omega arith
ready_length (suc head) [] = omega arith
ready_length zero (Settle ∷ rest) = omega (arith, ready_length zero rest)
ready_length zero (Scan x zero ∷ rest) = omega (arith, ready_length zero rest)
ready_length (suc head) (Scan x zero ∷ rest) = omega (arith, ready_length (suc head) rest)
ready_length zero (TakeFound w zero ∷ rest) = omega (arith, ready_length zero rest)
ready_length (suc head) (TakeFound w zero ∷ rest) = omega (arith, ready_length (suc head) rest)
ready_length zero (_ ∷ rest) = omega arith
ready_length (suc head) (_ ∷ rest) = omega arith

abbrev IsOther : ℕ → Duty → List Duty → List Duty → Type 0
IsOther head d rest next = ready head (next ++ rest) ≢ d ∷ rest

-- If nothing follows the duty, the agenda is shorter.
shorter : (head : ℕ) (d : Duty) (rest : List Duty) → ready head rest ≢ d ∷ rest
shorter head d rest e = omega (arith, ready_length head rest, ap length e)

same_first : (c d : Duty) (cs ds : List Duty) → c ∷ cs ≡ d ∷ ds → c ≡ d
same_first c d cs ds e = cc

-- another duty that came first was passed over
passes : (head : ℕ) (e d : Duty) (l rest : List Duty) → e ≢ d → ready head (e ∷ l) ≡ d ∷ rest → ready head l ≡ d ∷ rest
passes zero Settle d l rest other is = is
passes (suc head) Settle d l rest other is = absurd (other (same_first Settle d l rest is))
passes zero (Scan i zero) d l rest other is = is
passes (suc head) (Scan i zero) d l rest other is = is
passes zero (Scan i (suc n)) d l rest other is = absurd (other (same_first (Scan i (suc n)) d l rest is))
passes (suc head) (Scan i (suc n)) d l rest other is = absurd (other (same_first (Scan i (suc n)) d l rest is))
passes zero (TakeFound w zero) d l rest other is = is
passes (suc head) (TakeFound w zero) d l rest other is = is
passes zero (TakeFound w (suc n)) d l rest other is =
    absurd (other (same_first (TakeFound w (suc n)) d l rest is))
passes (suc head) (TakeFound w (suc n)) d l rest other is =
    absurd (other (same_first (TakeFound w (suc n)) d l rest is))
passes zero e d l rest other is = absurd (other (same_first e d l rest is))
passes (suc head) e d l rest other is = absurd (other (same_first e d l rest is))

abbrev AreOthers : Duty → List Duty → Type 0
AreOthers d [] = Unit {0}
AreOthers d (e ∷ next) = (e ≢ d) × AreOthers d next

others_follow : (head : ℕ) (d : Duty) (rest next : List Duty) → AreOthers d next → IsOther head d rest next
others_follow head d rest [] others is = shorter head d rest is
others_follow head d rest (e ∷ next) others is =
    others_follow head d rest next others.1 (passes head e d (next ++ rest) rest others.0 is)

-- ---- by the shape of what follows

next_word : (w k n : ℕ) → Scan (w + 1) k ≢ Scan w n
next_word w k n e = (let same : w + 1 ≡ w = cc in omega (arith, same))

-- If the duty is to take marks that were found, there are such marks.
abbrev pub FindsMarks : Duty → Type 0
FindsMarks (TakeFound w marks) = (0 < marks) × (marks < 2 ^ 64)
FindsMarks _ = Unit {0}

-- Once the lowest mark is taken, fewer are left.
less_found : (w marks : ℕ) → 0 < marks → marks < 2 ^ 64
    → TakeFound w (unmarked_word marks (lowest_mark marks)) ≢ TakeFound w marks
less_found w marks some fits e =
    let same : unmarked_word marks (lowest_mark marks) ≡ marks = cc in
    omega (
      arith,
      taken_here marks (lowest_mark marks),
      ap (λ (v : ℕ). mark_at v (lowest_mark marks)) same,
      lowest_set marks some fits,
    )

moves : {layout : Layout} {t before found : ℕ} (head : ℕ) (d : Duty) (rest next : List Duty) → FindsMarks d
    → Continuation layout t before found d next → IsOther head d rest next
moves head d rest next finds (GoesOn e leads) = others_follow head d rest next (leads.other, tt)
moves head d rest next finds (Frees x i n y e some leads) =
    others_follow head d rest next ((λ e. cc), (leads.other, tt))
moves head d rest next finds (FreesOld x i y z h some) = others_follow head d rest next ((λ e. cc), tt)
-- the settling comes again, after another duty that isn't passed over
moves {before = before} head d rest next finds SettlesRow = λ is.
    let first = sym (ready_first head (SettleKind (before - 1)) (Settle ∷ rest) refl) ∙ is in
    (let same : SettleKind (before - 1) ≡ Settle = same_first _ Settle (Settle ∷ rest) rest first in cc)
moves head d rest next finds (Claims x set) = others_follow head d rest next ((λ e. cc), ((λ e. cc), tt))
moves head d rest next finds (ClaimsNone x) = others_follow head d rest next ((λ e. cc), tt)
moves head d rest next finds (Exits i n) = others_follow head d rest next ((λ e. cc), ((λ e. cc), tt))
moves head d rest next finds (Scans w n) = others_follow head d rest next (
  (λ e. cc),
  (
    next_word w
        (n - marks_of_word) n,
    tt,
  ),
)
moves head d rest next finds (Takes w marks set) =
    others_follow head d rest next ((λ e. cc), ((λ e. cc), (less_found w marks finds.0 finds.1, tt)))
moves head d rest next finds (TakesNone w marks) =
    others_follow head d rest next ((λ e. cc), (less_found w marks finds.0 finds.1, tt))
moves head d rest next finds _ = shorter head d rest

pub agenda_moves : (layout : Layout) (t : ℕ) (running : Bool) (before head : ℕ) (d : Duty) (rest : List Duty)
    (found : ℕ)
    → FindsMarks d → IsOther head d rest (continuation layout t running before d found)
agenda_moves layout t running before head d rest found finds =
    moves head d rest (continuation layout t running before d found) finds
    (continues layout t running before d found)
