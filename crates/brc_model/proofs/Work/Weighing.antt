-- A thread that weighs something at a row does so by the first duty of its agenda or by a duty that it has put aside.
-- That duty knows what it needs of memory.
use Rattle.std.proofs.Common.{◌≡◌, ℕ, ◌+◌, ◌<◌, ◌≤◌, true, List, [], ◌∷◌, inl, inr, Some, refl, sym, ap, ◌∙◌, subst, arith}
use Rattle.std.specs.Prelude.{slice_get, sum_by}
use Rattle.std.proofs.lemmas.Bool.Decides.{eqb_tells}
use Rattle.std.proofs.lemmas.List.Sums.{sum_by-cons}
use Rattle.brc_model.specs.declared.duty.Duty.{Duty}
use Rattle.brc_model.specs.declared.duty.Duty.TheVariants.{Settle, SettleCell, SettleEnd, Leave, Scan, TakeFound, Finish}
use Rattle.brc_model.specs.declared.actor.Status.{Status}
use Rattle.brc_model.specs.declared.actor.Status.TheVariants.{Running, Leaving, Gone}
use Rattle.brc_model.specs.declared.actor.Actor.{Actor}
use Rattle.brc_model.specs.Machine.{Machine}
use Rattle.brc_model.specs.RowInvariant.{agenda_weight}
use Rattle.brc_model.specs.References.{one_if}
use Rattle.brc_model.specs.Accounts.{Accounts}
use Rattle.brc_model.specs.Knowledge.{HeadFits, HeadOf}
use Rattle.brc_model.specs.OpenWork.{Later, Agenda, AgendaFits, is_about, about_of, AllWait}
use Rattle.brc_model.specs.Invariant.{AtDuty, CoreInvariant}
use Rattle.brc_model.proofs.Frame.Aside.{IsOfRow, aside_weighs}

-- ---- duties after the first weigh nothing

later_weighs : (x : ℕ) (f : Duty → ℕ) → IsOfRow x f
    → (used : ℕ) (status : Status) (rest : List Duty)
    → Later used status rest → sum_by f rest ≡ 0
later_weighs x f of_row used status [] later = refl
later_weighs x f of_row used status (Settle ∷ rest) later =
    omega (
      arith,
      sum_by-cons f Settle rest,
      of_row.about Settle refl,
      later_weighs x f of_row used status rest later,
    )
later_weighs x f of_row used status (SettleCell y i k ∷ rest) later =
    omega (
      arith,
      sum_by-cons f (SettleCell y i k) rest,
      of_row.cell y i k,
      later_weighs x f of_row used status rest later,
    )
later_weighs x f of_row used status (SettleEnd y ∷ rest) later =
    omega (
      arith,
      sum_by-cons f (SettleEnd y) rest,
      of_row.end y,
      later_weighs x f of_row used status rest later,
    )
later_weighs x f of_row used status (Leave y k ∷ []) later =
    omega (arith, sum_by-cons f (Leave y k) [], of_row.about (Leave y k) refl)
later_weighs x f of_row used status (Scan y k ∷ rest) later =
    omega (
      arith,
      sum_by-cons f (Scan y k) rest,
      of_row.about (Scan y k) refl,
      later_weighs x f of_row used status rest later.2,
    )
later_weighs x f of_row used status (TakeFound w marks ∷ rest) later =
    omega (
      arith,
      sum_by-cons f (TakeFound w marks) rest,
      of_row.about (TakeFound w marks) refl,
      later_weighs x f of_row used status rest later.2,
    )
later_weighs x f of_row used status (Finish ∷ []) later =
    omega (arith, sum_by-cons f Finish [], of_row.about Finish refl)
later_weighs x f of_row used status _ later = absurd later

rest_weighs : (x : ℕ) (f : Duty → ℕ) → IsOfRow x f → (used : ℕ) (status : Status) (d : Duty) (rest : List Duty)
    → Agenda used status (d ∷ rest) → sum_by f rest ≡ 0
rest_weighs x f of_row used status Settle rest fits = later_weighs x f of_row used status rest fits
rest_weighs x f of_row used status (Leave y k) [] fits = refl
rest_weighs x f of_row used status (Leave y k) (e ∷ rest) fits = absurd fits
rest_weighs x f of_row used status (Scan y k) rest fits =
    later_weighs x f of_row used status rest fits.2
rest_weighs x f of_row used status (TakeFound w marks) rest fits =
    later_weighs x f of_row used status rest fits.2
rest_weighs x f of_row used status Finish [] fits = refl
rest_weighs x f of_row used status Finish (e ∷ rest) fits = absurd fits
rest_weighs x f of_row used status _ rest fits =
    later_weighs x f of_row used status rest fits

-- The duties after the first one of a fitting agenda weigh nothing at any row.
behind_weighs : (x : ℕ) (f : Duty → ℕ) → IsOfRow x f
    → (a : Actor) (status : Status) (d : Duty) (rest : List Duty)
    → AgendaFits a status → a.agenda ≡ d ∷ rest → sum_by f rest ≡ 0
behind_weighs x f of_row a Running d rest fits is =
    rest_weighs x f of_row a.used Running d rest
    (subst (Agenda a.used Running) is fits)
behind_weighs x f of_row a Leaving d rest fits is =
    rest_weighs x f of_row a.used Leaving d rest
    (subst (Agenda a.used Leaving) is fits)
behind_weighs x f of_row a Gone d rest fits is = absurd (let wrong : [] ≡ d ∷ rest = sym fits.0 ∙ is in cc)

module _ {p : Accounts} {n : ℕ} {m : Machine} {t : ℕ} {a : Actor} {d : Duty} {rest : List Duty} where
  -- All that a thread weighs at the row of its first duty is the weight of that duty.
  pub own_weighs : (x : ℕ) (f : Duty → ℕ) → AtDuty p n m t a d rest → IsOfRow x f → is_about x d ≡ true
      → agenda_weight f a ≡ f d
  own_weighs x f here of_row this =
      let fits = here.core.each t a here.found in
      let none = behind_weighs x f of_row a a.status d rest fits.1 here.agenda in
      let whole : sum_by f a.agenda ≡ f d + sum_by f rest = ap (sum_by f) here.agenda ∙ sum_by-cons f d rest in
      let one : one_if (about_of x a.agenda) ≡ 1 =
      ap (λ (l : List Duty). one_if (about_of x l)) here.agenda ∙ ap one_if this in
      let aside = aside_weighs x f of_row a.aside (omega (arith, fits.2.apart x, one)) in
      omega (arith, none, whole, aside)

-- ---- a duty that weighs something

-- A duty of the thread that weighs something, with what the duty knows. The duty's weights are part of the thread's.
pub record Weighing (f : Duty → ℕ) (m : Machine) (u : ℕ) (b : Actor) : Type 0 where
  pub duty : Duty
  pub rest : List Duty
  pub some : 0 < f duty
  pub knows : HeadFits m u b duty rest
  pub among : (g : Duty → ℕ) → g duty ≤ agenda_weight g b

weighing_agenda : (x : ℕ) (f : Duty → ℕ) → IsOfRow x f → (m : Machine) (u : ℕ) (b : Actor) (agenda : List Duty)
    → b.agenda ≡ agenda → AgendaFits b b.status → HeadOf m u b agenda → 0 < sum_by f b.agenda
    → Weighing f m u b
weighing_agenda x f of_row m u b [] is fits head some =
    let none : sum_by f b.agenda ≡ 0 = ap (sum_by f) is in absurd (omega (arith, none, some))
weighing_agenda x f of_row m u b (d ∷ rest) is fits head some =
    let none = behind_weighs x f of_row b b.status d rest fits is in
    let whole : sum_by f b.agenda ≡ f d + sum_by f rest = ap (sum_by f) is ∙ sum_by-cons f d rest in
    record {
      duty = d;
      rest = rest;
      some = omega (arith, none, whole, some);
      knows = head;
      among = λ g.
          let all : sum_by g b.agenda ≡ g d + sum_by g rest = ap (sum_by g) is ∙ sum_by-cons g d rest in
          omega (arith, all);
    }

-- A duty that weighs something, among those put aside.
record WeighingAside (f : Duty → ℕ) (m : Machine) (u : ℕ) (b : Actor) (aside : List Duty) : Type 0 where
  duty : Duty
  some : 0 < f duty
  knows : HeadFits m u b duty []
  among : (g : Duty → ℕ) → g duty ≤ sum_by g aside

weighing_aside : (f : Duty → ℕ) (m : Machine) (u : ℕ) (b : Actor) (aside : List Duty) → AllWait m u b aside
    → 0 < sum_by f aside → WeighingAside f m u b aside
weighing_aside f m u b [] waits some = absurd (omega (arith, some))
weighing_aside f m u b (d ∷ rest) waits some =
    elim (eqb_tells (f d) 0) [
      | inl none ↦
          let it = weighing_aside f m u b rest waits.2 (omega (arith, some, sum_by-cons f d rest, none.1)) in
          record {
            duty = it.duty;
            some = it.some;
            knows = it.knows;
            among = λ g. omega (arith, it.among g, sum_by-cons g d rest);
          }
      | inr more ↦ record {
        duty = d;
        some = omega (arith, more.1);
        knows = waits.1;
        among = λ g. omega (arith, sum_by-cons g d rest);
      }
    ]

module _ {p : Accounts} {n : ℕ} {m : Machine} where
  -- A thread whose duties weigh something at a row has a duty that does, and that knows what it needs.
  pub weighing : (u x : ℕ) (b : Actor) (f : Duty → ℕ) → IsOfRow x f → CoreInvariant p n m
      → slice_get m.actors u ≡ Some b → 0 < agenda_weight f b → Weighing f m u b
  weighing u x b f of_row core found some =
      let fits = core.each u b found in
      elim (eqb_tells (sum_by f b.agenda) 0) [
        | inl none ↦
            let it = weighing_aside f m u b b.aside fits.2.waits (omega (arith, some, none.1)) in
            record {
              duty = it.duty;
              rest = [];
              some = it.some;
              knows = it.knows;
              among = λ g. omega (arith, it.among g);
            }
        | inr more ↦ weighing_agenda x f of_row m u b b.agenda refl fits.1 fits.0.head_fits (omega (arith, more.1))
      ]
