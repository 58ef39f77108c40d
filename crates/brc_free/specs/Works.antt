-- What a hand does in the midst of other work: duty after duty, and which duties come next then.
use Rattle.std.specs.Prelude.{◌≡◌, ◌≢◌, Bool, ℕ, ◌+◌, ◌<◌, List, [], ◌∷◌, ◌++◌}
use Rattle.brc_host.specs.HostCalls.{HostCall, Close}
use Rattle.brc_model.specs.declared.actor.Status.TheVariants.{Running, Gone}
use Rattle.brc_model.specs.declared.duty.Holding.TheVariants.{InFlight}
use Rattle.brc_model.specs.declared.duty.Reason.TheVariants.{Own, Handed}
use Rattle.brc_model.specs.declared.duty.Duty.{Duty}
use Rattle.brc_model.specs.declared.duty.Duty.TheVariants.{ReleaseLoad, SharedLoad, MergeSwap, MergeLoad, Settle, SettleCell, TakeField}
use Rattle.brc_model.specs.Duties.{ready, once_merged, cells_from}
use Rattle.brc_table.specs.declared.view.View.{View}
use Rattle.brc_table.specs.Views.{view_after, field_emptied, without_reference, turned, with_next}
use Rattle.brc_effect.specs.declared.outcomes.LocalRelease.{LocalRelease}
use Rattle.brc_heap.specs.Calls.{local_left}
use Rattle.brc_heap.specs.Steps.{Keeps}
use Rattle.brc_free.specs.declared.giving_up.Remaining.{Remaining}
use Rattle.brc_free.specs.declared.giving_up.Remaining.TheVariants as remaining

-- ---- work

-- the call by which the first duty closes the resource of a dying object
abbrev pub closes_by : List Duty → Bool → List HostCall
closes_by (TakeField x ∷ rest) failed = Close failed ∷ []
closes_by _ failed = []

-- The hand has done duty after duty, and nothing else. Each resource of a dying object was taken out of its field and
-- closed before the object was closed: these are the calls of the host, in order.
pub data Works (v : View) : List HostCall → View → Type 0 where
  Refl : Works v [] v
  Next : (closes : List HostCall) (u : View) (found : ℕ) (failed : Bool) → Works v closes u
      → Works v (closes ++ closes_by u.actor.agenda failed) (view_after (field_emptied u) found)

-- The hand has done duty after duty, with these closes of the host, and these duties are left, but for those that need
-- no step.
pub record HasWorked (v : View) (closes : List HostCall) (ds : List Duty) (u : View) : Type 0 where
  pub agenda : u.actor.agenda ≡ ready u.actor.head ds
  pub works : Works v closes u
  pub keeps : Keeps v u

-- ---- what comes next

-- the duties behind the first
abbrev pub behind : List Duty → List Duty
behind [] = []
behind (d ∷ rest) = rest

-- what is left of these duties once the first one's merge is done
abbrev pub merge_left : List Duty → List Duty
merge_left (MergeSwap x r ∷ rest) = once_merged x r ++ rest
merge_left _ = []

-- what is left of these duties once the first one's count is added
abbrev pub carried_left : List Duty → List Duty
carried_left (MergeLoad x c r ∷ rest) = once_merged x r ++ rest
carried_left _ = []

-- The first duty is to give up a reference to the object of row x that came out of a cell.
pub record ReleasesNext (x : ℕ) (ds : List Duty) : Type 0 where
  pub rest : List Duty
  pub next : ds ≡ ReleaseLoad x InFlight ∷ rest

-- What is left of a release of row x that has this answer comes next, and these duties come behind.
abbrev pub EndsRelease : ℕ → LocalRelease → List Duty → View → Type 0
EndsRelease x answer rest v = v.actor.agenda ≡ ready v.actor.head (local_left x answer ++ rest)

-- the duties of row x that a release leaves to a call
abbrev pub remaining_left : ℕ → Remaining → List Duty
remaining_left x remaining.Nothing = []
remaining_left x remaining.Merge = MergeSwap x Own ∷ []
remaining_left x remaining.GiveUp = SharedLoad x Own ∷ []

-- What a release of row x leaves to a call comes next, and these duties come behind.
abbrev pub IsLeftToCall : ℕ → Remaining → List Duty → View → Type 0
IsLeftToCall x left rest v = v.actor.agenda ≡ ready v.actor.head (remaining_left x left ++ rest)

-- ---- settling

-- The hand runs and has nothing to do, so that it may begin to settle its chain; or to settle it is what it does next,
-- and the duties `rest` come then.
pub data ComesToSettle (v : View) : List Duty → Type 0 where
  AtOnce : v.actor.status ≡ Running → v.actor.aside ≡ [] → v.actor.agenda ≡ [] → ComesToSettle v []
  InWork : (rest : List Duty) → v.actor.status ≢ Gone → v.actor.agenda ≡ ready v.actor.head (Settle ∷ rest)
      → ComesToSettle v rest

-- the hand where to settle is what it does next, and the duties `rest` come then; an empty chain needs no settling
abbrev pub to_settle : List Duty → View → View
to_settle rest v = with_next v (ready v.actor.head (Settle ∷ rest))

-- The next duties are to empty the n cells of the list of row x and to close it.
pub record EmptiesNext (x n : ℕ) (ds : List Duty) : Type 0 where
  pub rest : List Duty
  pub next : ds ≡ cells_from x 0 n ++ rest

-- The next duty is to empty the cell i of the list of row x.
pub record CellNext (x i : ℕ) (ds : List Duty) : Type 0 where
  pub count : ℕ
  pub rest : List Duty
  pub low : i < count
  pub next : ds ≡ SettleCell x i count ∷ rest

-- what is left of these duties once the cell is empty and its reference given up
abbrev pub cells_left : List Duty → List Duty
cells_left (SettleCell x i n ∷ rest) = cells_from x (i + 1) n ++ rest
cells_left _ = []

-- The next duty is to take the resource of row x out of its field.
pub record TakesNext (x : ℕ) (ds : List Duty) : Type 0 where
  pub rest : List Duty
  pub next : ds ≡ TakeField x ∷ rest

-- The next duties are to merge the object of row x, because the hand has taken its mark, and then to settle.
pub record ClaimedNext (x : ℕ) (ds : List Duty) : Type 0 where
  pub rest : List Duty
  pub next : ds ≡ MergeSwap x Handed ∷ Settle ∷ rest

-- what is left of these duties once the hand has settled
abbrev pub claimed_left : List Duty → List Duty
claimed_left ds = behind (behind ds)

-- ---- releases

-- The hand has given up a reference to the object of row x. All other work is aside, and nothing comes next. The hand
-- has kept the rest.
pub record HasReleased (x : ℕ) (v u : View) : Type 0 where
  pub keeps : Keeps (record (turned v x) { references = without_reference v.layout x v.references }) u
  pub agenda : u.actor.agenda ≡ []
