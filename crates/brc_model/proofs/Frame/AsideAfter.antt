-- The duties that a thread has put aside still fit after the thread's own step: what follows the first duty is one
-- piece of work about the same row or nothing, and the step changes nothing that the others know.
use Rattle.std.proofs.Common.{◌≡◌, ℕ, ◌+◌, ◌≤◌, Bool, true, false, cond, List, [], ◌∷◌, ◌++◌, inl, inr, refl, sym, ap, ◌∙◌, subst, arith}
use Rattle.std.specs.Prelude.{count_by}
use Rattle.std.proofs.lemmas.List.Sums.{sum_by-cons}
use Rattle.brc_model.specs.declared.duty.Duty.{Duty}
use Rattle.brc_model.specs.declared.duty.Duty.TheVariants.{Leave, Finish}
use Rattle.brc_model.specs.Duties.{continuation, new_head, ready}
use Rattle.brc_model.specs.declared.actor.Status.{Status}
use Rattle.brc_model.specs.declared.actor.Actor.{Actor}
use Rattle.brc_model.specs.Machine.{Machine, is_running, status_by, actor_by, machine_by_duty}
use Rattle.brc_model.specs.References.{one_if}
use Rattle.brc_model.specs.Accounts.{Accounts}
use Rattle.brc_model.specs.Knowledge.{is_retain}
use Rattle.brc_model.specs.OpenWork.{is_about, about_of, is_piece, IsPiece, AllWait, AsideFits}
use Rattle.brc_model.proofs.Frame.Aside.{alone_fits}
use Rattle.brc_model.proofs.Stepping.FitsAfter.{found_by}
use Rattle.brc_model.proofs.Stepping.Settled.{ready_none}
use Rattle.brc_model.proofs.Basics.Continuation.{Traits, next_inner, Continuation, Ends, GoesOn, continues}
use Rattle.brc_model.proofs.Frame.Beside.{beside}
use Rattle.brc_model.proofs.Frame.Items.{drops_items, drops_alone}
use Rattle.brc_model.specs.Invariant.{AtDuty}
use Rattle.brc_model.specs.declared.layout.Layout.{Layout}
use Rattle.brc_model.proofs.Stepping.Own.{ready_first}

-- ---- what follows a piece of work

-- A piece of work doesn't change its thread's status.
piece_status : (status : Status) (d : Duty) → is_piece d ≡ true → status_by status d ≡ status
piece_status status (Leave x n) piece = absurd cc
piece_status status Finish piece = absurd cc
piece_status status _ piece = refl

-- nothing is left of it, or one piece about the same row
record OnePiece (d : Duty) (agenda : List Duty) : Type 0 where
  piece : IsPiece agenda
  about : (x : ℕ) → one_if (about_of x agenda) ≤ one_if (is_about x d)

piece_goes_on : {layout : Layout} {t head found : ℕ} (new : ℕ) (d : Duty) (next : List Duty)
    → Continuation layout t head found d next → is_piece d ≡ true → OnePiece d (ready new (next ++ []))
piece_goes_on new d next (Ends inner) piece =
    let P : List Duty → Type 0 = OnePiece d in
    subst P (sym (ready_none new)) (record { piece = tt; about = λ x. omega arith })
piece_goes_on new d next (GoesOn e leads) piece =
    subst (OnePiece d) (sym (ready_first new e [] (next_inner e leads))) (record {
      piece = ap (λ (s : Traits). s.piece) leads.same ∙ piece;
      about = λ x. omega (arith, ap (λ (s : Traits). one_if (s.about x)) leads.same);
    })
piece_goes_on new d next _ piece = absurd cc

-- ---- duties put aside

-- None of the duties put aside is about the row of the duty.
abbrev IsBeside : Duty → List Duty → Type 0
IsBeside d aside = (x : ℕ) → is_about x d ≡ true → count_by (is_about x) aside ≡ 0

is_false : (b : Bool) → one_if b ≡ 0 → b ≡ false
is_false true none = absurd (omega (arith, none))
is_false false none = refl

-- None of the duties is one of a retain, if the step of the duty drops items.
abbrev KeepsRetains : Duty → List Duty → Type 0
KeepsRetains d aside = drops_items d ≡ true → count_by is_retain aside ≡ 0

-- So a step beside which there is a retain drops none.
keeps_items : (b c : Bool) → (b ≡ true → one_if c ≡ 0) → c ≡ true → b ≡ false
keeps_items true c none retains = absurd (let one : one_if c ≡ 1 = ap one_if retains in omega (arith, one, none refl))
keeps_items false c none retains = refl

module _ {p : Accounts} {n : ℕ} {m : Machine} {t : ℕ} {a : Actor} {d : Duty} {rest : List Duty} where
  waits_after : (aside : List Duty) → AtDuty p n m t a d rest → is_piece d ≡ true → IsBeside d aside
      → KeepsRetains d aside → AllWait m t a aside
      → AllWait (machine_by_duty m t a d rest) t (actor_by m.layout t a d rest (found_by m t a d)) aside
  waits_after [] here piece apart keeps waits = tt
  waits_after (e ∷ es) here piece apart keeps waits =
      let whole = λ (x : ℕ). sum_by-cons (λ (f : Duty). cond (is_about x f) 1 0) e es in
      let retains = sum_by-cons (λ (f : Duty). cond (is_retain f) 1 0) e es in (
        waits.0,
        beside d rest here piece (piece_status a.status d piece) e
            (λ x this. is_false (is_about x e) (omega (arith, whole x, apart x this))) waits.0
            (keeps_items (drops_items d) (is_retain e) (λ drops. omega (arith, retains, keeps drops))) waits.1,
        waits_after es here piece (λ x this. omega (arith, whole x, apart x this))
            (λ drops. omega (arith, retains, keeps drops)) waits.2,
      )

pieces_after : (p : Accounts) (n : ℕ) (m : Machine) (t : ℕ) (a : Actor) (d : Duty) (rest : List Duty)
    → AtDuty p n m t a d rest → IsPiece (d ∷ rest)
    → AsideFits (machine_by_duty m t a d rest) t (actor_by m.layout t a d rest (found_by m t a d))
pieces_after p n m t a d [] here piece =
    let fits = (here.core.each t a here.found).2 in
    let found = found_by m t a d in
    let next = continuation m.layout t (is_running a.status) a.head d found in
    let shape = continues m.layout t (is_running a.status) a.head d found in
    let on = piece_goes_on (new_head a.head d found) d next shape piece in
    let apart : (x : ℕ) → one_if (is_about x d) + count_by (is_about x) a.aside ≤ 1 =
    λ x. subst (λ (l : List Duty). one_if (about_of x l) + count_by (is_about x) a.aside ≤ 1) here.agenda
    (fits.apart x) in
    record {
      waits =
          waits_after a.aside here piece
          (λ x this. let one : one_if (is_about x d) ≡ 1 = ap one_if this in omega (arith, apart x, one))
          (drops_alone p n m t a d [] here piece) fits.waits;
      apart = λ x. omega (arith, apart x, on.about x);
      pieces = inr on.piece;
    }
pieces_after p n m t a d (e ∷ rest) here piece = absurd piece

module _ {p : Accounts} {n : ℕ} {m : Machine} {t : ℕ} {a : Actor} {d : Duty} {rest : List Duty} where
  -- After a thread's own step the duties that it has put aside still fit.
  pub aside_after : AtDuty p n m t a d rest
      → AsideFits (machine_by_duty m t a d rest) t (actor_by m.layout t a d rest (found_by m t a d))
  aside_after here =
      elim (here.core.each t a here.found).2.pieces [
        | inl none ↦ alone_fits (machine_by_duty m t a d rest) t (actor_by m.layout t a d rest (found_by m t a d)) none
        | inr piece ↦ pieces_after p n m t a d rest here (subst IsPiece here.agenda piece)
      ]
