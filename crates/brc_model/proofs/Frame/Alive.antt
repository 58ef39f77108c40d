-- A row with a reference, a pending decrement, a decision or a merge under way is live. A thread's agenda weighs at
-- most what all agendas together weigh.
use Rattle.std.proofs.Common.{◌≡◌, ◌≢◌, ℕ, ◌+◌, ◌<◌, ◌≤◌, List, ◌∷◌, Some, refl, sym, ap, ◌∙◌, arith, inl, inr}
use Rattle.std.specs.Prelude.{slice_get, sum_by}
use Rattle.std.proofs.lemmas.List.Sums.{sum_by-cons}
use Rattle.brc_model.specs.AbstractState.{references_to}
use Rattle.brc_model.specs.declared.duty.Duty.{Duty}
use Rattle.brc_model.specs.declared.actor.Actor.{Actor}
use Rattle.brc_model.specs.Machine.{Life, Unborn, Live, Dying, Closed, Machine}
use Rattle.brc_model.proofs.Basics.Bag.{held-le-references_to}
use Rattle.brc_model.proofs.Frame.CellsHeld.{cell_held}
use Rattle.brc_model.specs.References.{reference_of, cell_reference}
use Rattle.brc_model.specs.RowInvariant.{waits, merges, decides, weight, Numbers, IsLive, RowInvariant}
use Rattle.brc_model.specs.Accounts.{Accounts}
use Rattle.brc_model.specs.Invariant.{numbers_of, CoreInvariant}
use Rattle.brc_model.specs.Knowledge.{IsBacked, ByReference, ByItem}
use Rattle.brc_model.proofs.Objects.Weights.{agenda_weight-le}
use Rattle.brc_model.specs.Layout.{block_of, IsCounted, is_immortal_row}
use Rattle.std.proofs.lemmas.Bool.{cases_Bool}

-- ---- weights

-- The weights of the first duty and of the duties after it are part of the weight of all agendas.
pub first_weighs : (f : Duty → ℕ) (actors : List Actor) (t : ℕ) (a : Actor) (d : Duty) (rest : List Duty)
    → slice_get actors t ≡ Some a → a.agenda ≡ d ∷ rest → f d + sum_by f rest ≤ weight f actors
first_weighs f actors t a d rest found is =
    let here : sum_by f a.agenda ≡ f d + sum_by f rest = ap (sum_by f) is ∙ sum_by-cons f d rest in
    omega (arith, here, agenda_weight-le f actors t a found)

-- ---- live rows

-- The row is live, and its numbers are those of a live row.
pub record IsAlive (owner : ℕ) (l : Life) (n : Numbers) : Type 0 where
  pub life : l ≡ Live
  pub live : IsLive owner n

alive_by : (owner : ℕ) (l : Life) (n : Numbers) → RowInvariant owner l n
    → 0 < n.references + n.mark + n.waiting + n.deciding + n.merging → IsAlive owner l n
alive_by owner Unborn n row some =
    absurd (omega (arith, row.mark, row.references, row.waiting, row.merging, row.deciding, some))
alive_by owner Live n row some = record { life = refl; live = row }
alive_by owner (Dying t) n row some =
    absurd (omega (arith, row.mark, row.references, row.waiting, row.merging, row.deciding, some))
alive_by owner Closed n row some =
    absurd (omega (arith, row.mark, row.references, row.waiting, row.merging, row.deciding, some))

abbrev pub Alive : Machine → ℕ → Type 0
Alive m x = IsAlive (block_of m.layout x) (m.life x) (numbers_of m x)

-- A live row was born.
pub live_born : (m : Machine) (x : ℕ) → m.life x ≡ Live → m.life x ≢ Unborn
live_born m x lives unborn = let wrong : Live ≡ Unborn = sym lives ∙ unborn in cc

module _ {p : Accounts} {n : ℕ} {m : Machine} where
  pub alive_referenced : (x : ℕ) → CoreInvariant p n m → IsCounted m.layout x
      → 0 < references_to x m.abstract.references → Alive m x
  alive_referenced x core pos some =
      alive_by (block_of m.layout x) (m.life x) (numbers_of m x) (core.rows x pos) (omega (arith, some))

  pub alive_waiting : (x : ℕ) → CoreInvariant p n m → IsCounted m.layout x → 0 < weight (waits x) m.actors → Alive m x
  alive_waiting x core pos some =
      alive_by (block_of m.layout x) (m.life x) (numbers_of m x) (core.rows x pos) (omega (arith, some))

  pub alive_deciding : (x : ℕ) → CoreInvariant p n m → IsCounted m.layout x → 0 < weight (decides x) m.actors
      → Alive m x
  alive_deciding x core pos some =
      alive_by (block_of m.layout x) (m.life x) (numbers_of m x) (core.rows x pos) (omega (arith, some))

  pub alive_merging : (x : ℕ) → CoreInvariant p n m → IsCounted m.layout x → 0 < weight (merges x) m.actors → Alive m x
  alive_merging x core pos some =
      alive_by (block_of m.layout x) (m.life x) (numbers_of m x) (core.rows x pos) (omega (arith, some))

-- An object that something keeps alive for the thread's duty has a reference: the thread's own, or that of a cell.
pub backed_referenced : (p : Accounts) (n : ℕ) (m : Machine) (t : ℕ) (a : Actor) (x : ℕ) → CoreInvariant p n m
    → IsBacked m t a x → 0 < references_to x m.abstract.references
backed_referenced p n m t a x core (ByReference by some) =
    omega (arith, some, held-le-references_to (reference_of t by x) m.abstract.references)
backed_referenced p n m t a x core (ByItem list i locked word) =
    omega (
      arith,
      cell_held list i x core (omega (arith, word)),
      held-le-references_to (cell_reference list i x) m.abstract.references,
    )

module _ {p : Accounts} {n : ℕ} {m : Machine} where
  pub alive_backed : (t : ℕ) (a : Actor) (x : ℕ) → CoreInvariant p n m → IsCounted m.layout x → IsBacked m t a x
      → Alive m x
  alive_backed t a x core pos backed = alive_referenced x core pos (backed_referenced p n m t a x core backed)

  -- An immortal object lives, too.
  pub backed_lives : (t : ℕ) (a : Actor) (x : ℕ) → CoreInvariant p n m → IsBacked m t a x → m.life x ≡ Live
  backed_lives t a x core backed =
      elim (cases_Bool (is_immortal_row m.layout x)) [
        | inl immortal ↦ core.immortals_live x immortal
        | inr counted ↦ (alive_backed t a x core counted backed).life
      ]
