-- What follows a duty's step has a few shapes (`Continuation`). `continues` walks over all duties once and gives the
-- shape; a lemma about the duties that follow a step matches on the shape.
use Rattle.std.proofs.Common.{◌≡◌, ◌≢◌, ℕ, zero, suc, ◌+◌, ◌-◌, Bool, true, false, cond, List, [], ◌∷◌, ◌++◌, refl, sym, ap, ◌∙◌, arith}
use Rattle.std.specs.Prelude.{◌==◌, ◌&&◌, nat_lt, if◌then◌else◌}
use Rattle.std.proofs.lemmas.Bool.{eqb-true}
use Rattle.brc_word.specs.Words.{most_local, local_part, is_immortal_word, fresh_word, dead_word, released_word, merged_word, marks_of_word, mark_at, unmarked_word, lowest_mark, first_marks}
use Rattle.brc_model.specs.declared.duty.Holding.{Holding}
use Rattle.brc_model.specs.declared.duty.Holding.TheVariants.{InFlight}
use Rattle.brc_model.specs.declared.duty.Reason.TheVariants.{Own, Handed}
use Rattle.brc_model.specs.declared.duty.Duty.{Duty}
use Rattle.brc_model.specs.declared.duty.Duty.TheVariants.{RetainLoad, RetainStore, RetainAdd, ReleaseLoad, ReleaseStore, DecideAtZero, SharedLoad, SharedExchange, SetMark, Look, TakeMark, MergeSwap, MergeLoad, MergeExchange, Die, Settle, SettleKind, SettleCell, TakeField, CloseResource, SettleEnd, Leave, Scan, TakeFound, Finish, ClaimMark, BirthKind, BirthField, BirthLocal, KindLoad, LockGate, UnlockGate, CellLoad, CellSwap, LendField, ReturnField}
use Rattle.brc_model.specs.declared.layout.Layout.{Layout}
use Rattle.brc_model.specs.Layout.{mark_bit}
use Rattle.brc_model.specs.Duties.{found_row, continuation, counts_locally, claimed, has_resource, cells_of}
use Rattle.brc_model.specs.OpenWork.{is_about, is_piece}
use Rattle.brc_model.specs.Accounts.{lacks}

-- ---- one duty that follows another

-- Says whether a duty leaves the dying chain as it is. Retains, births, looks at a kind or a cell, locks, the duties
-- that lend or return a resource, and the duties of an exit do.
abbrev pub leaves_chain : Duty → Bool
leaves_chain (RetainLoad x h) = true
leaves_chain (RetainStore x h w) = true
leaves_chain (RetainAdd x h) = true
leaves_chain (Leave i n) = true
leaves_chain (Scan w n) = true
leaves_chain (TakeFound w marks) = true
leaves_chain Finish = true
leaves_chain (ClaimMark x) = true
leaves_chain (BirthKind x h w) = true
leaves_chain (BirthField x h) = true
leaves_chain (BirthLocal x h) = true
leaves_chain (KindLoad x) = true
leaves_chain (LockGate x) = true
leaves_chain (UnlockGate x) = true
leaves_chain (CellLoad x i) = true
leaves_chain (LendField x) = true
leaves_chain (ReturnField x) = true
leaves_chain _ = false

-- Settling empties the chain; all other duties may let a row die.
abbrev pub fills_chain : Duty → Bool
fills_chain Settle = false
fills_chain _ = true

-- Says whether the dying chain may have rows once the duty and all that follows it are done. `full` says whether it may
-- before.
abbrev pub may_fill : Bool → Duty → Bool
may_fill full d = if leaves_chain d then full else fills_chain d

-- Says whether a duty works on one object: it doesn't settle the chain, claim a mark or exit.
abbrev pub is_inner : Duty → Bool
is_inner Settle = false
is_inner (Leave i n) = false
is_inner (Scan w n) = false
is_inner (TakeFound w marks) = false
is_inner Finish = false
is_inner (ClaimMark x) = false
is_inner _ = true

-- What a duty has in common with the duty that goes on with its work: the row, the reference that it makes, whether it
-- works on one object, whether it may come next while others are aside, and what it does to the dying chain.
pub record Traits : Type 0 where
  pub about : ℕ → Bool
  pub makes : Holding → ℕ → Bool
  pub inner : Bool
  pub piece : Bool
  pub chain : Bool → Bool

abbrev pub traits : Duty → Traits
traits d = record {
  about = λ x. is_about x d;
  makes = λ k x. lacks d k x;
  inner = is_inner d;
  piece = is_piece d;
  chain = λ full. may_fill full d;
}

-- The duty may let the row's object die.
abbrev pub MayDie : Duty → ℕ → Type 0
MayDie (DecideAtZero x) y = x ≡ y
MayDie (SharedExchange x r w) y = x ≡ y
MayDie (MergeExchange x c w r) y = x ≡ y
MayDie _ y = ⊥

-- How many cells a dying list has, by the step that reads its kind and the steps that empty a cell.
abbrev pub cells_by : Duty → ℕ → ℕ
cells_by (SettleKind x) found = cells_of found
cells_by (SettleCell x i n) found = n
cells_by _ found = 0

-- The duty d, whose step found this word, may be followed by e. Only few duties are followed by one that lets the row
-- die or empties a cell, and none by one that settles, claims, exits, begins a birth, locks, unlocks, loads or swaps a
-- cell, or lends or returns a resource.
abbrev pub Origin : Duty → ℕ → Duty → Type 0
Origin d found (Die x) = MayDie d x
Origin d found (SettleCell x i n) = n ≡ cells_by d found
Origin d found Settle = ⊥
Origin d found (Leave i n) = ⊥
Origin d found (Scan w n) = ⊥
Origin d found (TakeFound w marks) = ⊥
Origin d found Finish = ⊥
Origin d found (ClaimMark x) = ⊥
Origin d found (BirthKind x h w) = ⊥
Origin d found (LockGate x) = ⊥
Origin d found (UnlockGate x) = ⊥
Origin d found (CellLoad x i) = ⊥
Origin d found (CellSwap x i y h) = ⊥
Origin d found (LendField x) = ⊥
Origin d found (ReturnField x) = ⊥
Origin d found _ = Unit {0}

-- The duty e goes on with the work of d, whose step found this word.
pub record Leads (found : ℕ) (d e : Duty) : Type 0 where
  pub same : traits e ≡ traits d
  pub other : e ≢ d
  pub origin : Origin d found e

inner_origin : (d : Duty) (found : ℕ) (e : Duty) → Origin d found e → is_inner e ≡ true
inner_origin d found Settle origin = absurd origin
inner_origin d found (Leave i n) origin = absurd origin
inner_origin d found (Scan w n) origin = absurd origin
inner_origin d found (TakeFound w marks) origin = absurd origin
inner_origin d found Finish origin = absurd origin
inner_origin d found (ClaimMark x) origin = absurd origin
inner_origin d found _ origin = refl

pub next_inner : {found : ℕ} {d : Duty} (e : Duty) → Leads found d e → is_inner e ≡ true
next_inner {found = found} {d = d} e leads = inner_origin d found e leads.origin

pub first_inner : {found : ℕ} (d e : Duty) → Leads found d e → is_inner d ≡ true
first_inner d e leads = ap (λ (s : Traits). s.inner) (sym leads.same) ∙ next_inner e leads

-- ---- all that follows a duty

-- The duties that follow a duty of thread t, whose dying chain has this head and whose step found this word.
pub data Continuation (layout : Layout) (t head found : ℕ) : Duty → List Duty → Type 0 where
  -- nothing: the work is done
  Ends : {d : Duty} → is_inner d ≡ true → Continuation layout t head found d []
  -- nothing: the thread is gone
  Finishes : Continuation layout t head found Finish []
  -- the work goes on by one duty about the same row
  GoesOn : {d : Duty} (e : Duty) → Leads found d e → Continuation layout t head found d (e ∷ [])
  -- the reference in a dying list's cell is released before the work goes on
  Frees : (x i n y : ℕ) (e : Duty) → found ≡ suc y → Leads found (SettleCell x i n) e
      → Continuation layout t head found (SettleCell x i n) (ReleaseLoad y InFlight ∷ e ∷ [])
  -- the reference that was in a locked list's cell is released
  FreesOld : (x i y z : ℕ) (h : Holding) → found ≡ suc z
      → Continuation layout t head found (CellSwap x i y h) (ReleaseLoad z InFlight ∷ [])
  -- the first row of the dying chain is finalised, and the chain is settled again
  SettlesRow : Continuation layout t head found Settle (SettleKind (head - 1) ∷ Settle ∷ [])
  -- a mark was set, and the object is merged first; the chain is settled next
  Claims : (x : ℕ) → mark_at found (mark_bit layout x) ≡ 1
      → Continuation layout t head found (ClaimMark x) (MergeSwap x Handed ∷ Settle ∷ [])
  -- no mark was set
  ClaimsNone : (x : ℕ) → Continuation layout t head found (ClaimMark x) (Settle ∷ [])
  -- the exit looks through the marks of the thread's rows one by one, and ends
  Exits : (i n : ℕ) → Continuation layout t head found (Leave i n) (Scan i n ∷ Finish ∷ [])
  Scans : (w n : ℕ) → Continuation layout t head found (Scan w n)
      (TakeFound w (first_marks found n) ∷ Scan (w + 1) (n - marks_of_word) ∷ [])
  Takes : (w marks : ℕ) → mark_at found (mark_bit layout (found_row layout t w marks)) ≡ 1
      → Continuation layout t head found (TakeFound w marks)
      (MergeSwap (found_row layout t w marks) Handed ∷ Settle
      ∷ TakeFound w (unmarked_word marks (lowest_mark marks)) ∷ [])
  TakesNone : (w marks : ℕ) → Continuation layout t head found (TakeFound w marks)
      (Settle ∷ TakeFound w (unmarked_word marks (lowest_mark marks)) ∷ [])

-- ---- all duties

-- the two ways of a test that the step makes
on : {layout : Layout} {t head found : ℕ} {d : Duty} (b : Bool) {l r : List Duty}
    → Continuation layout t head found d l → Continuation layout t head found d r
    → Continuation layout t head found d (cond b l r)
on true first second = first
on false first second = second

goes : {layout : Layout} {t head found : ℕ} {d : Duty} (e : Duty) → traits e ≡ traits d → e ≢ d → Origin d found e
    → Continuation layout t head found d (e ∷ [])
goes e same other origin = GoesOn e (record { same = same; other = other; origin = origin })

next_cell : (x i n : ℕ) → SettleCell x (i + 1) n ≢ SettleCell x i n
next_cell x i n e = (let same : i + 1 ≡ i = cc in omega (arith, same))

frees : {layout : Layout} {t head : ℕ} (x i n y : ℕ) (b : Bool) → Continuation layout t head (suc y) (SettleCell x i n)
    (ReleaseLoad y InFlight ∷ cond b (SettleCell x (i + 1) n ∷ []) (SettleEnd x ∷ []))
frees x i n y true =
    Frees x i n y (SettleCell x (i + 1) n) refl (record { same = refl; other = next_cell x i n; origin = refl })
frees x i n y false = Frees x i n y (SettleEnd x) refl (record { same = refl; other = λ e. cc; origin = tt })

-- a mark that is claimed, or not
claims : {layout : Layout} {t head found : ℕ} (d : Duty) (x mark : ℕ) (behind : List Duty)
    → (mark ≡ 1 → Continuation layout t head found d (MergeSwap x Handed ∷ behind))
    → Continuation layout t head found d behind → Continuation layout t head found d (claimed x mark ++ behind)
claims {layout = layout} {t = t} {head = head} {found = found} d x mark behind set none =
    elim (mark == 1) as (λ b. (mark == 1) ≡ b
    → Continuation layout t head found d (cond b (MergeSwap x Handed ∷ []) [] ++ behind)) [
      | true ↦ λ e. set (eqb-true mark 1 e)
      | false ↦ λ e. none
    ] refl

-- What follows a duty's step has one of the shapes.
pub continues : (layout : Layout) (t : ℕ) (running : Bool) (head : ℕ) (d : Duty) (found : ℕ)
    → Continuation layout t head found d (continuation layout t running head d found)
continues layout t running head (RetainLoad x h) found =
    on (is_immortal_word found) (Ends refl)
    (on (counts_locally t running found && nat_lt (local_part found) most_local)
    (goes (RetainStore x h found) refl (λ e. cc) tt) (goes (RetainAdd x h) refl (λ e. cc) tt))
continues layout t running head (ReleaseLoad x h) found =
    on (is_immortal_word found) (Ends refl)
    (on (counts_locally t running found) (goes (ReleaseStore x found) refl (λ e. cc) tt)
    (goes (SharedLoad x Own) refl (λ e. cc) tt))
continues layout t running head (ReleaseStore x w) found =
    on (local_part w == 1) (goes (DecideAtZero x) refl (λ e. cc) tt) (Ends refl)
continues layout t running head (DecideAtZero x) found =
    on (found == fresh_word) (goes (Die x) refl (λ e. cc) refl) (goes (MergeSwap x Own) refl (λ e. cc) tt)
continues layout t running head (SharedLoad x r) found = goes (SharedExchange x r found) refl (λ e. cc) tt
continues layout t running head (SharedExchange x r w) found =
    on (found == w) (on (w == fresh_word) (goes (SetMark x) refl (λ e. cc) tt)
    (on (released_word w == dead_word) (goes (Die x) refl (λ e. cc) refl) (Ends refl)))
    (goes (SharedLoad x r) refl (λ e. cc) tt)
continues layout t running head (SetMark x) found = goes (Look x) refl (λ e. cc) tt
continues layout t running head (Look x) found = on (found == 1) (Ends refl) (goes (TakeMark x) refl (λ e. cc) tt)
continues layout t running head (TakeMark x) found =
    on (mark_at found (mark_bit layout x) == 1) (goes (MergeSwap x Handed) refl (λ e. cc) tt) (Ends refl)
continues layout t running head (MergeSwap x Own) found =
    on (found == 0) (Ends refl) (goes (MergeLoad x (local_part found) Own) refl (λ e. cc) tt)
continues layout t running head (MergeSwap x Handed) found =
    on (found == 0) (goes (SharedLoad x Handed) refl (λ e. cc) tt)
    (goes (MergeLoad x (local_part found) Handed) refl (λ e. cc) tt)
continues layout t running head (MergeLoad x c r) found = goes (MergeExchange x c found r) refl (λ e. cc) tt
continues layout t running head (MergeExchange x c w Own) found =
    on (found == w) (on (merged_word w c == dead_word) (goes (Die x) refl (λ e. cc) refl) (Ends refl))
    (goes (MergeLoad x c Own) refl (λ e. cc) tt)
continues layout t running head (MergeExchange x c w Handed) found =
    on (found == w) (goes (SharedLoad x Handed) refl (λ e. cc) tt) (goes (MergeLoad x c Handed) refl (λ e. cc) tt)
continues layout t running head Settle found = SettlesRow
continues layout t running head (SettleKind x) found =
    on (has_resource found) (goes (TakeField x) refl (λ e. cc) tt)
    (on (nat_lt 0 (cells_of found)) (goes (SettleCell x 0 (cells_of found)) refl (λ e. cc) refl)
    (goes (SettleEnd x) refl (λ e. cc) tt))
continues layout t running head (SettleCell x i n) zero =
    on (nat_lt (i + 1) n) (goes (SettleCell x (i + 1) n) refl (next_cell x i n) refl)
    (goes (SettleEnd x) refl (λ e. cc) tt)
continues layout t running head (SettleCell x i n) (suc y) = frees x i n y (nat_lt (i + 1) n)
continues layout t running head (TakeField x) found = goes (CloseResource x) refl (λ e. cc) tt
continues layout t running head (CloseResource x) found = goes (SettleEnd x) refl (λ e. cc) tt
continues layout t running head Finish found = Finishes
continues layout t running head (Leave i n) found = Exits i n
continues layout t running head (Scan w n) found = Scans w n
continues layout t running head (TakeFound w marks) found =
    claims (TakeFound w marks) (found_row layout t w marks)
    (mark_at found (mark_bit layout (found_row layout t w marks))) _ (Takes w marks) (TakesNone w marks)
continues layout t running head (ClaimMark x) found =
    claims (ClaimMark x) x (mark_at found (mark_bit layout x)) _ (Claims x) (ClaimsNone x)
continues layout t running head (BirthKind x h w) found =
    on (has_resource w) (goes (BirthField x h) refl (λ e. cc) tt) (goes (BirthLocal x h) refl (λ e. cc) tt)
continues layout t running head (BirthField x h) found = goes (BirthLocal x h) refl (λ e. cc) tt
continues layout t running head (CellSwap x i y h) zero = Ends refl
continues layout t running head (CellSwap x i y h) (suc z) = FreesOld x i y z h refl
continues layout t running head _ found = Ends refl
