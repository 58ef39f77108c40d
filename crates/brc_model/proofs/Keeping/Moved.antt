-- Moves of references change no word. So every thread fits afterwards, if the moves are of one thread's references to
-- one object, and none of that thread's open work is about the object.
use Rattle.std.proofs.Common.{◌≡◌, ◌≢◌, ℕ, ◌+◌, ◌<◌, Bool, true, false, List, Some, sym, ap, ◌∙◌, subst, arith}
use Rattle.std.specs.Prelude.{count_by, slice_get}
use Rattle.std.proofs.lemmas.Bool.{false≢true}
use Rattle.brc_model.specs.declared.duty.Holding.{Holding}
use Rattle.brc_model.specs.AbstractState.{Move, ByThread, moved}
use Rattle.brc_model.specs.References.{held, one_if, reference_of}
use Rattle.brc_model.specs.declared.actor.Actor.{Actor}
use Rattle.brc_model.specs.Machine.{Machine, with_moves}
use Rattle.brc_model.specs.Accounts.{Account, Accounts, HoldsAt, IsBounded}
use Rattle.brc_model.specs.OpenWork.{about_of, exits, is_about}
use Rattle.brc_model.specs.Gates.{LocksFit}
use Rattle.brc_model.specs.Invariant.{Fits, IsWatched, ByRunning, ByExit, ByLook}
use Rattle.brc_model.specs.Counting.{HasNoneAbout, with_account}
use Rattle.brc_model.proofs.Basics.MovesApart.{AreAside, moved_aside}
use Rattle.brc_model.proofs.Frame.Known.{HoldsAsMany}
use Rattle.brc_model.proofs.Frame.Others.{LeavesMemory, LeavesOthers, same_memory, head_of_kept, behind_of_kept, waits_kept, each_fits}
use Rattle.brc_model.proofs.Basics.Lists.{set_found}
use Rattle.brc_model.proofs.Keeping.Replaced.{with_account_same, with_account_other}

-- ---- moves of references alone

-- The moves change no reference of other threads.
abbrev pub AreOf : ℕ → List Move → Type 0
AreOf t moves = (u : ℕ) (k : Holding) → u ≢ t → AreAside (ByThread u k) moves

-- So other threads find what they rely on as before.
moves_leave : (m : Machine) (t : ℕ) (moves : List Move) → AreOf t moves → LeavesOthers m (with_moves m moves) t
moves_leave m t moves own = record {
  memory = same_memory m m.actors (moved m.abstract moves) t;
  bag = λ u k object ne. moved_aside m.abstract (reference_of u k object) moves (own u k ne);
}

-- Moves don't change which marks are watched.
pub still_watched : (m : Machine) (moves : List Move) (y : ℕ) → IsWatched m y → IsWatched (with_moves m moves) y
still_watched m moves y (ByRunning one) = ByRunning one
still_watched m moves y (ByExit b found scanned) = ByExit b found scanned
still_watched m moves y (ByLook some) = ByLook some

-- After moves of a thread's references every thread fits, if that thread does with its new account.
pub each_moved : (p : Accounts) (m : Machine) (t : ℕ) (a : Actor) (account : Account) (moves : List Move)
    → slice_get m.actors t ≡ Some a → AreOf t moves → Fits account (with_moves m moves) t a
    → ((u : ℕ) (b : Actor) → slice_get m.actors u ≡ Some b → Fits (p u) m u b)
    → (u : ℕ) (b : Actor) → slice_get m.actors u ≡ Some b → Fits (with_account p t account u) (with_moves m moves) u b
each_moved p m t a account moves found own fits each =
    let new = with_account p t account in
    subst
    (λ (l : List Actor). (u : ℕ) (b : Actor) → slice_get l u ≡ Some b → Fits (new u) (with_moves m moves) u b)
    (set_found m.actors t a found)
    (each_fits p new m (with_moves m moves) t a a found (moves_leave m t moves own) (with_account_other p t account)
    (subst (λ (c : Account). Fits c (with_moves m moves) t a) (with_account_same p t account) fits) each)

-- ---- the thread of the moves

-- The moves change no reference of the thread to another object than `x`.
abbrev pub AreTo : Machine → List Move → ℕ → ℕ → Type 0
AreTo m moves t x =
    (k : Holding) (y : ℕ) → (y ≡ x → ⊥)
    → held (reference_of t k y) (moved m.abstract moves).references ≡ held (reference_of t k y) m.abstract.references

-- Moves of this thread leave of memory what a step of any other thread would.
next_thread : (t : ℕ) → t ≢ t + 1
next_thread t e = absurd (omega (arith, e))

is_one : (b : Bool) → b ≡ true → 0 < one_if b
is_one b e = omega (arith, ap one_if e)

module _ (m : Machine) (moves : List Move) (t : ℕ) (a : Actor) (found : slice_get m.actors t ≡ Some a) (x : ℕ)
    (elsewhere : AreTo m moves t x) where
  abbrev after : Machine
  after = with_moves m moves

  same : LeavesMemory m after (t + 1)
  same = same_memory m m.actors (moved m.abstract moves) (t + 1)

  -- The thread holds what it held to another row's object.
  many : (f : ℕ → ℕ) (y : ℕ) → f x ≡ 0 → 0 < f y → HoldsAsMany m after t y
  many f y none some k =
      omega (arith, elsewhere k y (λ e. absurd (omega (arith, some, none, ap f e))))

  -- A thread none of whose open work is about the object fits with the account that it has after the moves.
  pub moved_fits : (before account : Account) → Fits before m t a → HasNoneAbout a x → exits a.status a.agenda ≡ false
      → HoldsAt (moved m.abstract moves).references t account a.agenda a.aside → IsBounded m.layout account
      → LocksFit account m t a → Fits account after t a
  moved_fits before account old none runs holds bounded locks =
      let fits = old.0 in (
        record {
          word = fits.word;
          holds = holds;
          bounded = bounded;
          exited = λ e. absurd (false≢true (sym runs ∙ e));
          head_fits =
              head_of_kept m after (t + 1) t same (next_thread t) a found a.agenda
              (λ y about. many (λ z. one_if (about_of z a.agenda)) y (omega (arith, none)) (is_one _ about))
              fits.head_fits;
          behind = behind_of_kept m after (t + 1) t same (next_thread t) a.agenda fits.behind;
          chain = record { chained = fits.chain.chained; linked = fits.chain.linked; once = fits.chain.once };
          locks = locks;
          lent = fits.lent;
        },
        old.1,
        record {
          waits =
              waits_kept m after (t + 1) t same (next_thread t) a found a.aside
              (λ y some. many (λ z. count_by (is_about z) a.aside) y (omega (arith, none)) some) old.2.waits;
          apart = old.2.apart;
          pieces = old.2.pieces;
        },
      )
