-- Accounts. A thread's account says how many references it holds to each object, by each holding. While the thread
-- makes a reference or gives one up, bag and account differ by it, and the duty says by how much.
use Rattle.std.specs.Prelude.{◌≡◌, ℕ, ◌+◌, ◌≤◌, Bool, false, ◌==◌, ◌&&◌, List, [], ◌∷◌, count_by}
use Rattle.brc_model.specs.declared.duty.Holding.{Holding}
use Rattle.brc_model.specs.declared.duty.Holding.TheVariants.{ByVariable, AsCaller, InFlight}
use Rattle.brc_model.specs.AbstractState.{Reference, same_holding}
use Rattle.brc_model.specs.declared.duty.Reason.TheVariants.{Own}
use Rattle.brc_model.specs.declared.duty.Duty.{Duty}
use Rattle.brc_model.specs.declared.duty.Duty.TheVariants.{RetainLoad, RetainStore, RetainAdd, ReleaseLoad, ReleaseStore, SharedLoad, SharedExchange, BirthKind, BirthField, BirthLocal, CellSwap}
use Rattle.brc_model.specs.References.{held, one_if, reference_of}
use Rattle.brc_word.specs.Words.{half}
use Rattle.brc_model.specs.declared.layout.Layout.{Layout}
use Rattle.brc_model.specs.Layout.{IsCounted}
use Rattle.brc_model.specs.Limits.{depth_limit}

-- Says whether the duty gives up this reference: the bag still has it, and the account no longer does.
abbrev pub extra : Duty → Holding → ℕ → Bool
extra (ReleaseLoad x h) k object = same_holding h k && (x == object)
extra (ReleaseStore x w) k object = same_holding InFlight k && (x == object)
extra (SharedLoad x Own) k object = same_holding InFlight k && (x == object)
extra (SharedExchange x Own w) k object = same_holding InFlight k && (x == object)
extra (CellSwap x i y h) k object = same_holding h k && (y == object)
extra _ k object = false

-- Says whether the duty makes this reference: the account has it already, and the bag doesn't yet.
abbrev pub lacks : Duty → Holding → ℕ → Bool
lacks (RetainLoad x h) k object = same_holding h k && (x == object)
lacks (RetainStore x h w) k object = same_holding h k && (x == object)
lacks (RetainAdd x h) k object = same_holding h k && (x == object)
lacks (BirthKind x h w) k object = same_holding h k && (x == object)
lacks (BirthField x h) k object = same_holding h k && (x == object)
lacks (BirthLocal x h) k object = same_holding h k && (x == object)
lacks _ k object = false

-- the same of an agenda's first duty
abbrev pub extra_of : List Duty → Holding → ℕ → Bool
extra_of [] k object = false
extra_of (d ∷ rest) k object = extra d k object

abbrev pub lacks_of : List Duty → Holding → ℕ → Bool
lacks_of [] k object = false
lacks_of (d ∷ rest) k object = lacks d k object

-- A thread's account: by holding and object, how many references it holds.
abbrev pub Account : Type 0
Account = Holding → ℕ → ℕ

-- the accounts of all threads, by the thread's number
abbrev pub Accounts : Type 0
Accounts = ℕ → Account

-- how many of the duties put aside give up the reference, and how many make it
abbrev pub extra_aside : List Duty → Holding → ℕ → ℕ
extra_aside aside k object = count_by (λ d. extra d k object) aside

abbrev pub lacks_aside : List Duty → Holding → ℕ → ℕ
lacks_aside aside k object = count_by (λ d. lacks d k object) aside

-- The bag has the references of the thread's account, with those that its open work gives up, and without those that
-- its open work makes.
pub record HoldsAt (bag : List Reference) (t : ℕ) (account : Account) (agenda aside : List Duty) : Type 0 where
  pub each : (k : Holding) (object : ℕ)
      → held (reference_of t k object) bag + one_if (lacks_of agenda k object) + lacks_aside aside k object
      ≡ account k object + one_if (extra_of agenda k object) + extra_aside aside k object

-- ---- how much it may hold

-- the most references to one object that a thread may hold as the caller
abbrev pub most_lent : ℕ
most_lent = half

-- A thread holds at most one reference by each of the sixteen variables of each open call, of which there are at most
-- `depth_limit`, and as the caller at most `most_lent` to one counted object. References to immortal objects aren't
-- counted, so it may hold any number of them. In flight an account has at most one.
pub record IsBounded (layout : Layout) (account : Account) : Type 0 where
  pub by_variable : (depth v object : ℕ) → account (ByVariable depth v) object ≤ 1
  pub sixteen : (depth v object : ℕ) → 16 ≤ v → account (ByVariable depth v) object ≡ 0
  pub shallow : (depth v object : ℕ) → depth_limit ≤ depth → account (ByVariable depth v) object ≡ 0
  pub lent : (object : ℕ) → IsCounted layout object → account AsCaller object ≤ most_lent
  pub in_flight : (object : ℕ) → account InFlight object ≤ 1

-- The account is empty, as that of a thread whose exit is under way or done.
abbrev pub HoldsNone : Account → Type 0
HoldsNone account = (k : Holding) (object : ℕ) → account k object ≡ 0
