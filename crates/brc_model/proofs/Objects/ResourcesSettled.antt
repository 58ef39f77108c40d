-- A dying row's resource is in one place after each step that settles the row.
use Rattle.std.proofs.Common.{◌≡◌, ◌≢◌, ℕ, ◌+◌, ◌<◌, Bool, cond, List, [], ◌∷◌, inl, inr, None, refl, sym, ap, ◌∙◌, subst, arith}
use Rattle.std.specs.Prelude.{◌==◌, nat_lt, sum_by}
use Rattle.std.proofs.lemmas.Bool.{eq-eqb, cases_Bool}
use Rattle.std.proofs.lemmas.Bool.Decides.{eqb_tells}
use Rattle.std.proofs.lemmas.List.Sums.{sum_by-cons}
use Rattle.brc_word.specs.declared.values.TheConstants.{FULL}
use Rattle.brc_model.specs.declared.duty.Duty.{Duty}
use Rattle.brc_model.specs.declared.duty.Duty.TheVariants.{SettleKind, SettleCell, TakeField, CloseResource, SettleEnd}
use Rattle.brc_model.specs.declared.address.Address.TheVariants.{KindOf, Cell, Field, Resource}
use Rattle.brc_model.specs.Duties.{has_resource, resources_of, cells_of, cells_from}
use Rattle.brc_model.specs.declared.actor.Actor.{Actor}
use Rattle.brc_model.specs.Machine.{Life, Unborn, Live, Dying, Closed, Machine, ended_row, actor_by, machine_by_duty}
use Rattle.brc_model.specs.References.{one_if}
use Rattle.brc_model.specs.Accounts.{Accounts}
use Rattle.brc_model.specs.Invariant.{AtDuty}
use Rattle.brc_model.specs.Resources.{lends, closing, ending, resources_at, IsSettling, ResourcesFit}
use Rattle.brc_model.proofs.Basics.Lists.{none_some, either}
use Rattle.brc_model.proofs.Basics.Written.{written_here}
use Rattle.brc_model.proofs.Frame.Items.{word_stays}
use Rattle.brc_model.proofs.Frame.Leaves.{head_of}
use Rattle.brc_model.proofs.Frame.Lives.{next_of}
use Rattle.brc_model.proofs.Stepping.FitsAfter.{found_by, memory_by}
use Rattle.brc_model.proofs.Objects.Closing.{GoesOn, BeginsToDie, IsClosed, IsBorn, life_step}
use Rattle.brc_model.proofs.Objects.Finalisers.{finalised_alone}
use Rattle.brc_model.proofs.Objects.Lenders.{lenders-set, none_lent}
use Rattle.brc_model.proofs.Objects.SettlingWeights.{finalises, of_closing, of_ending, released_light, settling_stepped}
use Rattle.brc_model.proofs.Objects.ResourcesElsewhere.{resources_low}

module _ (p : Accounts) (n : ℕ) (m : Machine) (t : ℕ) (a : Actor) where
  -- ---- a dying row

  one_here : (x : ℕ) → one_if (x == x) ≡ 1
  one_here x = ap one_if (eq-eqb x x refl)

  dying_born : (x : ℕ) → m.life x ≡ Dying t → m.life x ≢ Unborn
  dying_born x dies unborn = let wrong : Dying t ≡ Unborn = sym dies ∙ unborn in cc

  dying_unlive : (x : ℕ) → m.life x ≡ Dying t → m.life x ≢ Live
  dying_unlive x dies lives = let wrong : Dying t ≡ Live = sym dies ∙ lives in cc

  settling : (d : Duty) (rest : List Duty) (x : ℕ) → AtDuty p n m t a d rest → m.life x ≡ Dying t
      → IsSettling (resources_at m x)
  settling d rest x here dies =
      subst (λ (l : Life). ResourcesFit l (resources_at m x)) dies (here.core.resources x)

  -- The row is still dying, unless the step closes it.
  still_dies : (d : Duty) (rest : List Duty) (x : ℕ) → AtDuty p n m t a d rest → ended_row d ≡ None
      → m.life x ≡ Dying t → (machine_by_duty m t a d rest).life x ≡ Dying t
  still_dies d rest x here none dies =
      elim (life_step d x here) [
        | GoesOn now other ↦ now ∙ dies
        | BeginsToDie now lives counted other ↦ now
        | IsClosed now dying counted ended ↦ absurd (none_some x (sym none ∙ ended))
        | IsBorn now unborn counted born other ↦ absurd (dying_born x dies unborn)
      ]

  -- A thread that takes the resource of a dying row out of its field finds it there.
  pub taking_finds : (x : ℕ) (rest : List Duty) → AtDuty p n m t a (TakeField x) rest → m.memory (Field x) ≡ FULL
  taking_finds x rest here =
      let d : Duty = TakeField x in
      let dies = (head_of here).1 in
      let fit = settling d rest x here dies in
      let this = eq-eqb x x refl in
      let none_closing =
      finalised_alone p n m x (closing x) (finalises x (closing x) (of_closing x)) t a d rest here this dies in
      let none_ending =
      finalised_alone p n m x (ending x) (finalises x (ending x) (of_ending x)) t a d rest here this dies in
      let one = (head_of here).4 in
      let shut = fit.unclosed none_ending in
      omega (arith, fit.placed, one, shut, none_closing, none_lent p n m x here.core (dying_unlive x dies))

  -- A thread that lets the host close a resource is the first to do so.
  pub closing_finds : (x : ℕ) (rest : List Duty) → AtDuty p n m t a (CloseResource x) rest
      → m.memory (Resource x) ≡ 0
  closing_finds x rest here =
      let d : Duty = CloseResource x in
      let dies = (head_of here).1 in
      let fit = settling d rest x here dies in
      let this = eq-eqb x x refl in
      let closes =
      finalised_alone p n m x (closing x) (finalises x (closing x) (of_closing x)) t a d rest here this dies in
      omega (arith, fit.placed, closes, one_here x, resources_low (m.memory (KindOf x)))

  pub after_take : (x : ℕ) (rest : List Duty) → AtDuty p n m t a (TakeField x) rest
      → ResourcesFit ((machine_by_duty m t a (TakeField x) rest).life x)
      (resources_at (machine_by_duty m t a (TakeField x) rest) x)
  after_take x rest here =
      let d : Duty = TakeField x in
      let next : List Duty = CloseResource x ∷ [] in
      let dies = (head_of here).1 in
      let fit = settling d rest x here dies in
      let this = eq-eqb x x refl in
      let after = actor_by m.layout t a d rest (found_by m t a d) in
      let none_ended =
      finalised_alone p n m x (ending x) (finalises x (ending x) (of_ending x)) t a d rest here this dies in
      let shut = fit.unclosed none_ended in
      let lent = lenders-set x m.actors t a after here.found in
      let closes = settling_stepped x (closing x) (of_closing x) p n m t a d rest next here refl in
      let closed_next = sum_by-cons (closing x) (CloseResource x) [] in
      let ends = settling_stepped x (ending x) (of_ending x) p n m t a d rest next here refl in
      let ends_next = sum_by-cons (ending x) (CloseResource x) [] in
      let fits : IsSettling (resources_at (machine_by_duty m t a d rest) x) = record {
        placed = omega (
          arith,
          fit.placed,
          written_here m.memory (Field x) 0,
          taking_finds x rest here,
          lent,
          closes,
          closed_next,
          one_here x,
        );
        unclosed = λ yet. shut;
        shut = λ some. absurd (omega (arith, some, ends, ends_next, none_ended));
      } in
      subst (λ (l : Life). ResourcesFit l (resources_at (machine_by_duty m t a d rest) x))
      (sym (still_dies d rest x here refl dies)) fits

  pub after_close : (x : ℕ) (rest : List Duty) → AtDuty p n m t a (CloseResource x) rest
      → ResourcesFit ((machine_by_duty m t a (CloseResource x) rest).life x)
      (resources_at (machine_by_duty m t a (CloseResource x) rest) x)
  after_close x rest here =
      let d : Duty = CloseResource x in
      let next : List Duty = SettleEnd x ∷ [] in
      let dies = (head_of here).1 in
      let fit = settling d rest x here dies in
      let this = eq-eqb x x refl in
      let after = actor_by m.layout t a d rest (found_by m t a d) in
      let closed = closing_finds x rest here in
      let now = written_here m.memory (Resource x) (m.memory (Resource x) + 1) in
      let was =
      finalised_alone p n m x (closing x) (finalises x (closing x) (of_closing x)) t a d rest here this dies in
      let lent = lenders-set x m.actors t a after here.found in
      let closes = settling_stepped x (closing x) (of_closing x) p n m t a d rest next here refl in
      let closes_next = sum_by-cons (closing x) (SettleEnd x) [] in
      let ends = settling_stepped x (ending x) (of_ending x) p n m t a d rest next here refl in
      let ends_next = sum_by-cons (ending x) (SettleEnd x) [] in
      let fits : IsSettling (resources_at (machine_by_duty m t a d rest) x) = record {
        placed = omega (arith, fit.placed, now, lent, closes, closes_next, one_here x);
        unclosed = λ yet. absurd (omega (arith, yet, ends, ends_next, one_here x));
        shut = λ some.
            omega (arith, fit.placed, now, closed, was, one_here x, resources_low (m.memory (KindOf x)));
      } in
      subst (λ (l : Life). ResourcesFit l (resources_at (machine_by_duty m t a d rest) x))
      (sym (still_dies d rest x here refl dies)) fits

  pub after_end : (x : ℕ) (rest : List Duty) → AtDuty p n m t a (SettleEnd x) rest
      → ResourcesFit ((machine_by_duty m t a (SettleEnd x) rest).life x)
      (resources_at (machine_by_duty m t a (SettleEnd x) rest) x)
  after_end x rest here =
      let d : Duty = SettleEnd x in
      let dies = (head_of here).1 in
      let fit = settling d rest x here dies in
      let this = eq-eqb x x refl in
      let after = actor_by m.layout t a d rest (found_by m t a d) in
      let was = finalised_alone p n m x (ending x) (finalises x (ending x) (of_ending x)) t a d rest here this dies in
      let shut = fit.shut (omega (arith, was, one_here x)) in
      let lent = lenders-set x m.actors t a after here.found in
      let closes = settling_stepped x (closing x) (of_closing x) p n m t a d rest [] here refl in
      let ended : (machine_by_duty m t a d rest).life x ≡ Closed = ap (λ (b : Bool). cond b Closed (m.life x)) this in
      subst (λ (l : Life). ResourcesFit l (resources_at (machine_by_duty m t a d rest) x)) (sym ended)
      (omega (arith, fit.placed, lent, closes), shut)

  -- ---- a dying row whose kind is read, or whose cell is emptied

  -- Nothing moves, and the row that goes on without a resource has none.
  settles_on : (d : Duty) (rest : List Duty) (x : ℕ) → AtDuty p n m t a d rest → m.life x ≡ Dying t
      → ended_row d ≡ None → memory_by m t a d (Field x) ≡ m.memory (Field x)
      → memory_by m t a d (Resource x) ≡ m.memory (Resource x)
      → lends x (actor_by m.layout t a d rest (found_by m t a d)) ≡ lends x a
      → closing x d ≡ 0 → ending x d ≡ 0 → sum_by (closing x) (next_of m t a d) ≡ 0
      → (0 < sum_by (ending x) (next_of m t a d) → resources_of (m.memory (KindOf x)) ≡ 0)
      → ResourcesFit ((machine_by_duty m t a d rest).life x) (resources_at (machine_by_duty m t a d rest) x)
  settles_on d rest x here dies none field closed lends closing_none ending_none closing_next ending_next =
      let new = resources_at (machine_by_duty m t a d rest) x in
      let fit = settling d rest x here dies in
      let after = actor_by m.layout t a d rest (found_by m t a d) in
      let kind = ap resources_of (word_stays p n m t a d rest x here (dying_born x dies)) in
      let lent = lenders-set x m.actors t a after here.found in
      let closes = settling_stepped x (closing x) (of_closing x) p n m t a d rest (next_of m t a d) here refl in
      let ends = settling_stepped x (ending x) (of_ending x) p n m t a d rest (next_of m t a d) here refl in
      let fits : IsSettling new = record {
        placed = omega (arith, fit.placed, kind, field, closed, lends, lent, closes, closing_none, closing_next);
        unclosed = λ yet.
            let was = fit.unclosed (omega (arith, yet, ends, ending_none)) in
            omega (arith, was, closed);
        shut = λ some.
            elim (eqb_tells (sum_by (ending x) (next_of m t a d)) 0) [
              | inl zero_next ↦
                  let was = fit.shut (omega (arith, some, ends, ending_none, zero_next.1)) in
                  omega (arith, was, closed, kind)
              | inr more ↦
                  let not = ending_next (omega (arith, more.1)) in
                  omega (arith, not, kind, closed, fit.placed)
            ];
      } in
      subst (λ (l : Life). ResourcesFit l new) (sym (still_dies d rest x here none dies)) fits

  -- A weight that counts neither a duty that empties a cell nor one that closes a row.
  cells_weigh : (f : Duty → ℕ) (x i k : ℕ) → f (SettleCell x i k) ≡ 0 → f (SettleEnd x) ≡ 0
      → sum_by f (cells_from x i k) ≡ 0
  cells_weigh f x i k cell end =
      either (λ (l : List Duty). sum_by f l ≡ 0) (nat_lt i k) (SettleCell x i k ∷ []) (SettleEnd x ∷ [])
      (λ e. omega (arith, sum_by-cons f (SettleCell x i k) [], cell))
      (omega (arith, sum_by-cons f (SettleEnd x) [], end))

  pub after_cell : (x i k : ℕ) (rest : List Duty) → AtDuty p n m t a (SettleCell x i k) rest
      → ResourcesFit ((machine_by_duty m t a (SettleCell x i k) rest).life x)
      (resources_at (machine_by_duty m t a (SettleCell x i k) rest) x)
  after_cell x i k rest here =
      let d : Duty = SettleCell x i k in
      let fits = head_of here in
      settles_on d rest x here fits.1 refl refl refl refl refl refl
      (released_light x (closing x) (of_closing x) (m.memory (Cell x i)) (cells_from x (i + 1) k)
      ∙ cells_weigh (closing x) x (i + 1) k refl refl) (λ some. fits.5)

  pub after_kind : (x : ℕ) (rest : List Duty) → AtDuty p n m t a (SettleKind x) rest
      → ResourcesFit ((machine_by_duty m t a (SettleKind x) rest).life x)
      (resources_at (machine_by_duty m t a (SettleKind x) rest) x)
  after_kind x rest here =
      let d : Duty = SettleKind x in
      let word = m.memory (KindOf x) in
      let dies = (head_of here).1 in
      let cells : List Duty = cells_from x 0 (cells_of word) in
      elim (cases_Bool (has_resource word)) [
        | inl some ↦
            let next : next_of m t a d ≡ TakeField x ∷ [] = ap (λ (b : Bool). cond b (TakeField x ∷ []) cells) some in
            let ends : sum_by (ending x) (next_of m t a d) ≡ 0 =
            ap (sum_by (ending x)) next ∙ sum_by-cons (ending x) (TakeField x) [] in
            settles_on d rest x here dies refl refl refl refl refl refl
            (ap (sum_by (closing x)) next ∙ sum_by-cons (closing x) (TakeField x) [])
            (λ more. absurd (omega (arith, more, ends)))
        | inr none ↦
            let next : next_of m t a d ≡ cells = ap (λ (b : Bool). cond b (TakeField x ∷ []) cells) none in
            let zero_here : resources_of word ≡ 0 = ap (λ (b : Bool). cond b 1 0) none in
            settles_on d rest x here dies refl refl refl refl refl refl
            (ap (sum_by (closing x)) next ∙ cells_weigh (closing x) x 0 (cells_of word) refl refl) (λ more. zero_here)
      ]
