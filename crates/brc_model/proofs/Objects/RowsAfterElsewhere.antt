-- A step changes nothing about the rows that its duty isn't about.
use Rattle.std.proofs.Common.{◌≡◌, ℕ, zero, suc, Bool, true, false, cond, List, [], ◌∷◌, ◌++◌, refl, sym, ap, ◌∙◌, arith}
use Rattle.std.specs.List.{list_any}
use Rattle.std.specs.Prelude.{◌==◌, nat_lt, if◌then◌else◌, sum_by, unwrap_or}
use Rattle.std.proofs.lemmas.Bool.{eqb-false}
use Rattle.std.proofs.lemmas.List.Sums.{sum_by-cons}
use Rattle.brc_model.specs.declared.duty.Holding.TheVariants.{InFlight}
use Rattle.brc_model.specs.AbstractState.{Reference, same, without, references_to, AbstractState, Move, Born, Gain, Lose, PassOn, Finalise, move, moved}
use Rattle.brc_model.specs.declared.duty.Reason.TheVariants.{Handed}
use Rattle.brc_model.specs.declared.duty.Duty.{Duty}
use Rattle.brc_model.specs.declared.duty.Duty.TheVariants.{ReleaseLoad, DecideAtZero, SharedLoad, SharedExchange, SetMark, TakeMark, MergeSwap, MergeLoad, MergeExchange, Die, Settle, SettleCell, SettleEnd, Scan, MarksLoad, TakeFound, ClaimMark, BirthLocal, CellSwap}
use Rattle.brc_model.specs.declared.address.Address.{Address}
use Rattle.brc_model.specs.declared.address.Address.TheVariants.{Local, Shared, Cell}
use Rattle.brc_model.specs.Duties.{duty_row, found_row, address_of, new_word, cells_from, release_found}
use Rattle.brc_model.specs.declared.actor.Actor.{Actor}
use Rattle.brc_model.specs.Machine.{Life, Machine, is_running, written, mark_of, dies_next, with_life, ended_row, born_row}
use Rattle.brc_model.specs.Moves.{reference_effects}
use Rattle.brc_model.proofs.Basics.Bag.{references_to-cons, same-true}
use Rattle.brc_model.proofs.Basics.Written.{written_apart, other_local, other_shared}
use Rattle.brc_model.proofs.Basics.Marks.{loaded_marks, set_elsewhere, taken_elsewhere}
use Rattle.brc_model.proofs.Basics.Moves.{object_of, IsOfOther, effects_elsewhere, moved_keeps}
use Rattle.brc_model.specs.References.{one_if}
use Rattle.brc_model.specs.RowInvariant.{waits, carries, merges, decides}
use Rattle.brc_model.specs.Accounts.{Accounts}
use Rattle.brc_model.specs.OpenWork.{is_about}
use Rattle.brc_model.proofs.Basics.Lists.{first_false, second_false}
use Rattle.brc_model.proofs.Basics.Continuation.{Traits, Leads, Continuation, GoesOn, Frees, Claims, Takes, continues}
use Rattle.brc_model.proofs.Frame.CellsHeld.{cell_held}
use Rattle.brc_model.proofs.Frame.Cells.{taken_references, swapped_references, stolen_held}
use Rattle.brc_model.proofs.Frame.Aside.{waits_of_row, carries_of_row, merges_of_row, decides_of_row}
use Rattle.brc_model.proofs.Objects.RowsAfterStep.{found_by, following, KeepsRow, RowStays, row_stays}
use Rattle.brc_model.specs.Invariant.{AtDuty}
use Rattle.brc_model.specs.declared.layout.Layout.{Layout}
use Rattle.brc_model.specs.Layout.{IsCounted}

-- The row that a duty is about, or 0 if it is about none. Taking a mark that was found is about the mark's row.
abbrev pub subject : Layout → ℕ → Duty → ℕ
subject layout t (TakeFound w marks) = found_row layout t w marks
subject layout t d = unwrap_or (duty_row d) 0

-- ---- words

-- A step that sets or takes the mark of one row keeps those of all others.
mark_elsewhere : (layout : Layout) (t head : ℕ) (d : Duty) (memory : Address → ℕ) (x : ℕ)
    → (subject layout t d == x) ≡ false
    → mark_of layout (written memory (address_of layout t head d)
    (new_word layout t head d (memory (address_of layout t head d)))) x
    ≡ mark_of layout memory x
mark_elsewhere layout t head (SetMark y) memory x e =
    set_elsewhere layout memory y x (eqb-false y x e)
mark_elsewhere layout t head (TakeMark y) memory x e = taken_elsewhere layout memory y x (eqb-false y x e)
mark_elsewhere layout t head (ClaimMark y) memory x e = taken_elsewhere layout memory y x (eqb-false y x e)
mark_elsewhere layout t head (TakeFound w marks) memory x e =
    taken_elsewhere layout memory (found_row layout t w marks) x (eqb-false _ x e)
mark_elsewhere layout t head (Scan w n) memory x e = loaded_marks layout memory t w x
mark_elsewhere layout t head (MarksLoad w) memory x e = loaded_marks layout memory t w x
mark_elsewhere layout t head _ memory x e = refl

-- ---- references

without_elsewhere : (x : ℕ) (r : Reference) (bag : List Reference) → (r.object == x) ≡ false
    → references_to x (without r bag) ≡ references_to x bag
without_elsewhere x r [] other = refl
without_elsewhere x r (q ∷ qs) other =
    elim (same r q) as (λ b. same r q ≡ b → references_to x (cond b qs (q ∷ without r qs)) ≡ references_to x (q ∷ qs)) [
      | true ↦ λ e.
          let object : (q.object == x) ≡ false =
          ap (λ (y : Reference). y.object == x) (sym (same-true r q e)) ∙ other in
          let none : one_if (q.object == x) ≡ 0 = ap one_if object in
          omega (arith, references_to-cons x q qs, none)
      | false ↦
          λ e. omega (
            arith,
            references_to-cons x q qs,
            references_to-cons x q (without r qs),
            without_elsewhere x r qs other,
          )
    ] refl

move_elsewhere : (x : ℕ) (p : AbstractState) (mv : Move) → (object_of mv == x) ≡ false
    → references_to x p.references ≡ references_to x (move p mv).references
move_elsewhere x p (Born r kind) other =
    let none : one_if (r.object == x) ≡ 0 = ap one_if other in omega (arith, references_to-cons x r p.references, none)
move_elsewhere x p (Gain r) other =
    let none : one_if (r.object == x) ≡ 0 = ap one_if other in omega (arith, references_to-cons x r p.references, none)
move_elsewhere x p (Lose r) other = sym (without_elsewhere x r p.references other)
move_elsewhere x p (PassOn r h) other =
    let none : one_if (r.object == x) ≡ 0 = ap one_if other in
    omega (
      arith,
      references_to-cons x (record { holder = h; object = r.object }) (without r p.references),
      none,
      without_elsewhere x r p.references other,
    )
move_elsewhere x p (Finalise y) other = refl

-- ---- duties

-- The duties weigh nothing at the row and don't make it die.
pub record AreApart (x : ℕ) (ds : List Duty) : Type 0 where
  pub waiting : sum_by (waits x) ds ≡ 0
  pub carried : sum_by (carries x) ds ≡ 0
  pub merging : sum_by (merges x) ds ≡ 0
  pub deciding : sum_by (decides x) ds ≡ 0
  pub lives : (life : ℕ → Life) (state : Life) → with_life life (dies_next ds) state x ≡ life x

pub record IsApart (x : ℕ) (d : Duty) : Type 0 where
  pub waiting : waits x d ≡ 0
  pub carried : carries x d ≡ 0
  pub merging : merges x d ≡ 0
  pub deciding : decides x d ≡ 0
  pub lives : (life : ℕ → Life) (state : Life) → with_life life (dies_next (d ∷ [])) state x ≡ life x

pub none_apart : (x : ℕ) → AreApart x []
none_apart x = record { waiting = refl; carried = refl; merging = refl; deciding = refl; lives = λ life state. refl }

first_dies : (d : Duty) (ds : List Duty) → dies_next (d ∷ ds) ≡ dies_next (d ∷ [])
first_dies (Die x) ds = refl
first_dies d ds = refl

pub more_apart : (x : ℕ) (d : Duty) (ds : List Duty) → IsApart x d → AreApart x ds → AreApart x (d ∷ ds)
more_apart x d ds this others = record {
  waiting = omega (arith, sum_by-cons (waits x) d ds, this.waiting, others.waiting);
  carried = omega (arith, sum_by-cons (carries x) d ds, this.carried, others.carried);
  merging = omega (arith, sum_by-cons (merges x) d ds, this.merging, others.merging);
  deciding = omega (arith, sum_by-cons (decides x) d ds, this.deciding, others.deciding);
  lives = λ life state. rw (first_dies d ds) (this.lives life state);
}

pub one_apart : (x : ℕ) (d : Duty) → IsApart x d → AreApart x (d ∷ [])
one_apart x d this = more_apart x d [] this (none_apart x)

pub apart_if : {x : ℕ} {ds es : List Duty} (b : Bool) → AreApart x ds → AreApart x es
    → AreApart x (if b then ds else es)
apart_if true first second = first
apart_if false first second = second

lives_other : (x : ℕ) (d : Duty) → is_about x d ≡ false
    → (life : ℕ → Life) (state : Life)
    → with_life life (dies_next (d ∷ [])) state x ≡ life x
lives_other x (Die y) e life state = ap (λ (b : Bool). cond b state (life x)) e
lives_other x d e life state = refl

pub other_apart : (x : ℕ) (d : Duty) → is_about x d ≡ false → IsApart x d
other_apart x d e = record {
  waiting = (waits_of_row x).about d e;
  carried = (carries_of_row x).about d e;
  merging = (merges_of_row x).about d e;
  deciding = (decides_of_row x).about d e;
  lives = lives_other x d e;
}

-- Says whether a duty weighs something at its row or lets its object die.
abbrev pub weighs : Duty → Bool
weighs (DecideAtZero x) = true
weighs (SharedLoad x Handed) = true
weighs (SharedExchange x Handed w) = true
weighs (SetMark x) = true
weighs (MergeSwap x r) = true
weighs (MergeLoad x c r) = true
weighs (MergeExchange x c w r) = true
weighs (Die x) = true
weighs _ = false

pub light_apart : (x : ℕ) (d : Duty) → weighs d ≡ false → IsApart x d
light_apart x (SharedLoad y Handed) light = absurd cc
light_apart x (SharedExchange y Handed w) light = absurd cc
light_apart x _ light = record { waiting = cc; carried = cc; merging = cc; deciding = cc; lives = λ life state. cc }

pub all_light : (x : ℕ) (ds : List Duty) → list_any weighs ds ≡ false → AreApart x ds
all_light x [] light = none_apart x
all_light x (d ∷ ds) light =
    more_apart x d ds (light_apart x d (first_false (weighs d) (list_any weighs ds) light))
    (all_light x ds (second_false (weighs d) (list_any weighs ds) light))

-- A duty's subject is the row that it is about.
not_about : (layout : Layout) (t x : ℕ) (d : Duty) → (subject layout t d == x) ≡ false → is_about x d ≡ false
not_about layout t x Settle e = refl
not_about layout t x _ e = cc

led_apart : {found : ℕ} (layout : Layout) (t x : ℕ) (d e : Duty) → Leads found d e → (subject layout t d == x) ≡ false
    → AreApart x (e ∷ [])
led_apart layout t x d e leads other =
    one_apart x e (other_apart x e (ap (λ (s : Traits). s.about x) leads.same ∙ not_about layout t x d other))

pub next_apart : {layout : Layout} {t head found : ℕ} (x : ℕ) (d : Duty) (next : List Duty)
    → Continuation layout t head found d next → (subject layout t d == x) ≡ false → AreApart x next
next_apart {layout = layout} {t = t} x d next (GoesOn e leads) other = led_apart layout t x d e leads other
next_apart {layout = layout} {t = t} x d next (Frees z i n y e some leads) other =
    more_apart x (ReleaseLoad y InFlight) (e ∷ []) (light_apart x (ReleaseLoad y InFlight) refl)
    (led_apart layout t x d e leads other)
next_apart x d next (Claims y set) other =
    more_apart x (MergeSwap y Handed) _ (other_apart x (MergeSwap y Handed) other) (all_light x _ refl)
next_apart {layout = layout} {t = t} x d next (Takes w marks set) other =
    more_apart x (MergeSwap (found_row layout t w marks) Handed) _
    (other_apart x (MergeSwap (found_row layout t w marks) Handed) other) (all_light x _ refl)
next_apart x d next _ other = all_light x next refl

-- ---- what follows the settling of a row weighs nothing at any

pub cells_apart : (x y i n : ℕ) → AreApart x (cells_from y i n)
cells_apart x y i n =
    apart_if (nat_lt i n) (all_light x (SettleCell y i n ∷ []) refl) (all_light x (SettleEnd y ∷ []) refl)

pub released_apart : (x found : ℕ) (ds : List Duty) → AreApart x ds → AreApart x (release_found found ++ ds)
released_apart x zero ds others = others
released_apart x (suc y) ds others =
    more_apart x (ReleaseLoad y InFlight) ds (light_apart x (ReleaseLoad y InFlight) refl) others

pub found_apart : (x found : ℕ) → AreApart x (release_found found)
found_apart x zero = none_apart x
found_apart x (suc y) = all_light x (ReleaseLoad y InFlight ∷ []) refl

-- ---- the row is unchanged

module _ {p : Accounts} {n : ℕ} {m : Machine} {t : ℕ} {a : Actor} {rest : List Duty} where
  -- An object that the duty isn't about has as many references as before.
  references_elsewhere : (d : Duty) (x : ℕ) → AtDuty p n m t a d rest → is_about x d ≡ false
      → references_to x (moved m.abstract (reference_effects m.memory t d (found_by m t a d))).references
      ≡ references_to x m.abstract.references
  references_elsewhere (SettleCell y i k) x here other =
      taken_references m.abstract t y i (m.memory (Cell y i)) x (λ z is. omega (arith, cell_held y i z here.core is))
  references_elsewhere (CellSwap y i z h) x here other =
      swapped_references m.abstract t z y i (m.memory (Cell y i)) x h (stolen_held y i z h here)
      (λ v is. omega (arith, cell_held y i v here.core is))
  references_elsewhere d x here other =
      moved_keeps (λ q. references_to x q.references) (IsOfOther x) (λ q mv apart. sym (move_elsewhere x q mv apart))
      m.abstract (reference_effects m.memory t d (found_by m t a d))
      (effects_elsewhere m.memory t d (found_by m t a d) x other (λ y i. refl))

not_ended : (layout : Layout) (t x : ℕ) (d : Duty) → (subject layout t d == x) ≡ false
    → (life : ℕ → Life) (state : Life)
    → with_life life (ended_row d) state x ≡ life x
not_ended layout t x (SettleEnd y) e life state = ap (λ (b : Bool). cond b state (life x)) e
not_ended layout t x d e life state = refl

not_born : (layout : Layout) (t x : ℕ) (d : Duty) → (subject layout t d == x) ≡ false → (life : ℕ → Life) (state : Life)
    → with_life life (born_row d) state x ≡ life x
not_born layout t x (BirthLocal y h) e life state = ap (λ (b : Bool). cond b state (life x)) e
not_born layout t x d e life state = refl

module _ {p : Accounts} {n : ℕ} {m : Machine} {t : ℕ} {a : Actor} {d : Duty} {rest : List Duty} where
  pub row_elsewhere : AtDuty p n m t a d rest → (x : ℕ) → IsCounted m.layout x → (subject m.layout t d == x) ≡ false
      → KeepsRow m t a d rest x
  row_elsewhere s x some e =
      let found = found_by m t a d in
      let at = address_of m.layout t a.head d in
      let left = new_word m.layout t a.head d found in
      let shape = continues m.layout t (is_running a.status) a.head d found in
      let next = next_apart x d (following m t a d) shape e in
      let about = not_about m.layout t x d e in
      let this = other_apart x d about in
      let q : RowStays m t a d rest x (following m t a d) = record {
        follows = refl;
        lives = not_born m.layout t x d e _ _ ∙ not_ended m.layout t x d e _ _ ∙ next.lives m.life _;
        local = sym (written_apart m.memory at (Local x) left (other_local m.layout t a.head d x about));
        shared = sym (written_apart m.memory at (Shared x) left (other_shared m.layout t a.head d x about));
        mark = sym (mark_elsewhere m.layout t a.head d m.memory x e);
        references = sym (references_elsewhere d x s about);
        waiting = next.waiting ∙ sym this.waiting;
        carried = next.carried ∙ sym this.carried;
        merging = next.merging ∙ sym this.merging;
        deciding = next.deciding ∙ sym this.deciding;
      } in
      row_stays s some q
