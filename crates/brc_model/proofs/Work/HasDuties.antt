-- If the agendas of all threads together weigh something, some thread has a duty that weighs something.
use Rattle.std.proofs.Common.{◌≡◌, ℕ, zero, suc, ◌<◌, Bool, true, false, List, [], ◌∷◌, inl, inr, Some, refl, arith}
use Rattle.std.proofs.lemmas.Bool.Decides.{eqb_tells}
use Rattle.std.specs.Prelude.{◌||◌, slice_get, sum_by}
use Rattle.std.specs.List.{list_any}
use Rattle.std.proofs.lemmas.List.Sums.{sum_by-cons}
use Rattle.brc_model.specs.declared.duty.Duty.{Duty}
use Rattle.brc_model.specs.declared.actor.Actor.{Actor}
use Rattle.brc_model.specs.RowInvariant.{agenda_weight, weight}

-- A thread whose duties weigh something. `some_weighs` finds one wherever all agendas together weigh something.
pub record Weighs (f : Duty → ℕ) (actors : List Actor) : Type 0 where
  pub who : ℕ
  pub which : Actor
  pub found : slice_get actors who ≡ Some which
  pub some : 0 < agenda_weight f which

pub some_weighs : (f : Duty → ℕ) (actors : List Actor) → 0 < weight f actors → Weighs f actors
some_weighs f [] some = absurd (omega (arith, some))
some_weighs f (b ∷ rest) some =
    elim (agenda_weight f b) as (λ k. agenda_weight f b ≡ k → Weighs f (b ∷ rest)) [
      | zero ↦ λ e.
          let later = some_weighs f rest (omega (arith, sum_by-cons (agenda_weight f) b rest, some, e)) in
          record { who = suc later.who; which = later.which; found = later.found; some = later.some }
      | suc k ↦ λ e. record { who = 0; which = b; found = refl; some = omega (arith, e) }
    ] refl

or_second : (b c : Bool) → c ≡ true → (b || c) ≡ true
or_second true c e = refl
or_second false c e = e

or_left : (b c : Bool) → b ≡ true → (b || c) ≡ true
or_left true c e = refl
or_left false c e = absurd cc

-- A list of duties that weighs something has a duty of the given sort, if only duties of that sort weigh anything.
weighs_here : (f : Duty → ℕ) (is_such : Duty → Bool) (d : Duty) (rest : List Duty) (b : Bool)
    → (b ≡ false → f d ≡ 0) → 0 < sum_by f (d ∷ rest) → (0 < sum_by f rest → list_any is_such rest ≡ true)
    → (b || list_any is_such rest) ≡ true
weighs_here f is_such d rest true none some behind = refl
weighs_here f is_such d rest false none some behind = behind (omega (arith, some, sum_by-cons f d rest, none refl))

pub is_listed : (f : Duty → ℕ) (is_such : Duty → Bool) → ((d : Duty) → is_such d ≡ false → f d ≡ 0)
    → (agenda : List Duty) → 0 < sum_by f agenda → list_any is_such agenda ≡ true
is_listed f is_such only [] some = absurd (omega (arith, some))
is_listed f is_such only (d ∷ rest) some =
    weighs_here f is_such d rest (is_such d) (only d) some (is_listed f is_such only rest)

-- A thread whose duties weigh something has a duty of that sort in its agenda or put aside.
pub is_open : (f : Duty → ℕ) (is_such : Duty → Bool) → ((d : Duty) → is_such d ≡ false → f d ≡ 0) → (a : Actor)
    → 0 < agenda_weight f a → (list_any is_such a.agenda || list_any is_such a.aside) ≡ true
is_open f is_such only a some =
    elim (eqb_tells (sum_by f a.agenda) 0) [
      | inl none ↦
          or_second (list_any is_such a.agenda) _ (is_listed f is_such only a.aside (omega (arith, some, none.1)))
      | inr more ↦ or_left (list_any is_such a.agenda) _ (is_listed f is_such only a.agenda (omega (arith, more.1)))
    ]
