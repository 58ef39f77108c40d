-- What a worker's hand is like while it gives up what a stopped call holds: its dying chain waits.
use Rattle.std.proofs.Common.{◌≡◌, ℕ, zero, suc, ◌<◌, ◌≤◌, Bool, false, cond, List, [], ◌∷◌, length, inl, inr, refl, ap, ◌∙◌, arith}
use Rattle.std.specs.Prelude.{◌||◌, if◌then◌else◌}
use Rattle.std.specs.List.{list_any, slice_index_or}
use Rattle.std.proofs.lemmas.Bool.{cases_Bool}
use Rattle.std.proofs.lemmas.List.{length-set}
use Rattle.std.proofs.Math.Nat.{eq-or-lt_of_le}
use Rattle.brc_model.specs.declared.state.Slot.{Slot}
use Rattle.brc_model.specs.declared.state.Slot.TheVariants.{Empty}
use Rattle.brc_model.specs.declared.state.State.{State}
use Rattle.brc_model.specs.SlotStates.{var_of, is_owned, put}
use Rattle.brc_model.proofs.Basics.Lists.{either}
use Rattle.brc_model.proofs.Dispatch.Grounded.{var_of-put_same, var_of-put_other}
use Rattle.brc_free.specs.Works.{HasReleased}
use Rattle.brc_table.specs.Hands.{HandState}
use Rattle.brc_work.specs.Acts.{ActsElsewhere}
use Rattle.brc_work.specs.Fits.{Rests}
use Rattle.brc_work.specs.Stopping.{unchained}
use Rattle.brc_heap.proofs.Keeping.{keeps_rest}
use Rattle.brc_work.proofs.CallsBelow.{keeps_acts, none_aside}

-- A reference is given up, and what died is left in the chain.
pub loosened_acts : (hand after : HandState) (x : ℕ) → Rests (unchained hand) → HasReleased x hand.view after.view
    → after.table ≡ hand.table → after.carried ≡ hand.carried → after.fields ≡ hand.fields
    → ActsElsewhere (unchained hand) (unchained after)
loosened_acts hand after x rests released table carried fields =
    let keeps = released.keeps in
    keeps_acts (unchained hand) (unchained after) (keeps_rest {ds = []} keeps keeps.aside keeps.references keeps.given)
    (omega arith) rests.running released.agenda (none_aside (unchained hand) x rests) refl table carried fields

-- ---- the states in between

-- the state once the first k variables have given up what they own
abbrev pub emptied : ℕ → State → State
emptied zero s = s
emptied (suc k) s = if is_owned (var_of s k) then put (emptied k s) k Empty else emptied k s

-- The other variables are as they were.
pub emptied_later : (k i : ℕ) (s : State) → k ≤ i → var_of (emptied k s) i ≡ var_of s i
emptied_later zero i s past = refl
emptied_later (suc k) i s past =
    let before = emptied_later k i s (omega (arith, past)) in
    either (λ (t : State). var_of t i ≡ var_of s i) (is_owned (var_of s k)) (put (emptied k s) k Empty) (emptied k s)
    (λ is. var_of-put_other (emptied k s) k i Empty (λ same. omega (arith, same, past)) ∙ before) before

emptied_long : (k : ℕ) (s : State) → length (emptied k s).slots ≡ length s.slots
emptied_long zero s = refl
emptied_long (suc k) s =
    let before = emptied_long k s in
    either (λ (t : State). length t.slots ≡ length s.slots) (is_owned (var_of s k)) (put (emptied k s) k Empty)
    (emptied k s)
    (λ is. length-set (emptied k s).slots k Empty ∙ before) before

pub emptied_locked : (k : ℕ) (s : State) → (emptied k s).locked ≡ s.locked
emptied_locked zero s = refl
emptied_locked (suc k) s =
    let before = emptied_locked k s in
    either (λ (t : State). t.locked ≡ s.locked) (is_owned (var_of s k)) (put (emptied k s) k Empty) (emptied k s)
    (λ is. before) before

-- They own nothing any more.
emptied_bare : (k i : ℕ) (s : State) → i < k → i < length s.slots → is_owned (var_of (emptied k s) i) ≡ false
emptied_bare zero i s low there = absurd (omega (arith, low))
emptied_bare (suc k) i s low there = elim (eq-or-lt_of_le {n = i} {m = k} (omega (arith, low))) [
  | inl this ↦ elim (cases_Bool (is_owned (var_of s k))) [
    | inl is ↦
        ap (λ (b : Bool). is_owned (var_of (cond b (put (emptied k s) k Empty) (emptied k s)) i)) is
        ∙ ap is_owned (ap (var_of (put (emptied k s) k Empty)) this
        ∙ var_of-put_same (emptied k s) k Empty
        (let long = emptied_long k s in omega (arith, long, this, there)))
    | inr is ↦
        ap (λ (b : Bool). is_owned (var_of (cond b (put (emptied k s) k Empty) (emptied k s)) i)) is
        ∙ (ap (λ (j : ℕ). is_owned (var_of (emptied k s) j)) this
        ∙ (ap is_owned (emptied_later k k s (omega arith)) ∙ is))
  ]
  | inr below ↦
      let before = emptied_bare k i s below there in
      either (λ (t : State). is_owned (var_of t i) ≡ false) (is_owned (var_of s k)) (put (emptied k s) k Empty)
      (emptied k s)
      (λ is. ap is_owned (var_of-put_other (emptied k s) k i Empty (λ same. omega (arith, same, below))) ∙ before)
      before
]

none_owned : (slots : List Slot) → ((i : ℕ) → i < length slots → is_owned (slice_index_or slots i Empty) ≡ false)
    → list_any is_owned slots ≡ false
none_owned [] each = refl
none_owned (slot ∷ slots) each =
    ap (λ (b : Bool). b || list_any is_owned slots) (each zero (omega arith))
    ∙ none_owned slots (λ i low. each (suc i) (omega (arith, low)))

pub all_emptied : (s : State) → length s.slots ≡ 16 → list_any is_owned (emptied 16 s).slots ≡ false
all_emptied s long =
    none_owned (emptied 16 s).slots (λ i low.
    let same = emptied_long 16 s in
    emptied_bare 16 i s (omega (arith, low, same, long)) (omega (arith, low, same)))
