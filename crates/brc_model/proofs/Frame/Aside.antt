-- The duties that a thread has put aside: a duty makes references to, gives up references to and weighs something at
-- the row that it is about, and at no other row. Only a swap of a cell gives up a reference to another object, and a
-- thread at a swap has put nothing aside.
use Rattle.std.proofs.Common.{◌≡◌, ℕ, ◌+◌, ◌<◌, ◌≤◌, Bool, true, false, cond, List, [], ◌∷◌, inl, inr, refl, sym, ap, ◌∙◌, subst, arith}
use Rattle.std.specs.Prelude.{◌==◌, ◌&&◌, count_by, sum_by}
use Rattle.std.proofs.lemmas.List.Sums.{sum_by-cons}
use Rattle.brc_model.specs.declared.duty.Holding.{Holding}
use Rattle.brc_model.specs.declared.duty.Holding.TheVariants.{InFlight}
use Rattle.brc_model.specs.declared.duty.Reason.TheVariants.{Own, Handed}
use Rattle.brc_model.specs.declared.duty.Duty.{Duty}
use Rattle.brc_model.specs.declared.duty.Duty.TheVariants.{RetainLoad, RetainStore, RetainAdd, ReleaseLoad, ReleaseStore, DecideAtZero, SharedLoad, SharedExchange, SetMark, Look, TakeMark, MergeSwap, MergeLoad, MergeExchange, Die, SettleCell, SettleEnd, BirthKind, BirthField, BirthLocal, CellSwap}
use Rattle.brc_model.specs.AbstractState.{Reference, same_holding}
use Rattle.brc_model.specs.declared.actor.Actor.{Actor}
use Rattle.brc_model.specs.Machine.{Machine}
use Rattle.brc_model.specs.References.{held, one_if, reference_of}
use Rattle.brc_model.specs.RowInvariant.{waits, carries, merges, decides}
use Rattle.brc_model.specs.Accounts.{Account, extra, lacks, extra_of, lacks_of, extra_aside, lacks_aside, HoldsAt}
use Rattle.brc_model.specs.OpenWork.{is_about, about_of, may_wait, is_piece, IsPiece, AllWait, AsideFits}
use Rattle.brc_model.specs.Invariant.{looks}
use Rattle.brc_model.proofs.Basics.Bag.{one_if_low}

-- ---- one duty

-- No row is the subject of both duties.
abbrev pub AreApart : Duty → Duty → Type 0
AreApart d e = (x : ℕ) → is_about x d ≡ true → is_about x e ≡ false

false_unless : (b : Bool) → (b ≡ true → ⊥) → b ≡ false
false_unless true none = absurd (none refl)
false_unless false none = refl

pub apart_swapped : (d e : Duty) → AreApart d e → AreApart e d
apart_swapped d e apart x about =
    false_unless (is_about x d) (λ other. let wrong : true ≡ false = sym about ∙ apart x other in cc)

and_at_most : (b c : Bool) → one_if (b && c) ≤ one_if c
and_at_most true true = omega arith
and_at_most true false = omega arith
and_at_most false true = omega arith
and_at_most false false = omega arith

-- A duty that makes a reference to an object is about the object's row.
pub lacks_about : (d : Duty) (k : Holding) (x : ℕ) → one_if (lacks d k x) ≤ one_if (is_about x d)
lacks_about (RetainLoad y h) k x = and_at_most (same_holding h k) (y == x)
lacks_about (RetainStore y h w) k x = and_at_most (same_holding h k) (y == x)
lacks_about (RetainAdd y h) k x = and_at_most (same_holding h k) (y == x)
lacks_about (BirthKind y h w) k x = and_at_most (same_holding h k) (y == x)
lacks_about (BirthField y h) k x = and_at_most (same_holding h k) (y == x)
lacks_about (BirthLocal y h) k x = and_at_most (same_holding h k) (y == x)
lacks_about _ k x = omega arith

-- Says whether the duty gives up a reference to the object.
abbrev pub gives : ℕ → Duty → Bool
gives x (ReleaseLoad y h) = y == x
gives x (ReleaseStore y w) = y == x
gives x (SharedLoad y Own) = y == x
gives x (SharedExchange y Own w) = y == x
gives x (CellSwap y i z h) = z == x
gives x _ = false

pub extra_gives : (d : Duty) (k : Holding) (x : ℕ) → one_if (extra d k x) ≤ one_if (gives x d)
extra_gives (ReleaseLoad y h) k x = and_at_most (same_holding h k) (y == x)
extra_gives (ReleaseStore y w) k x = and_at_most (same_holding InFlight k) (y == x)
extra_gives (SharedLoad y Own) k x = and_at_most (same_holding InFlight k) (y == x)
extra_gives (SharedExchange y Own w) k x = and_at_most (same_holding InFlight k) (y == x)
extra_gives (CellSwap y i z h) k x = and_at_most (same_holding h k) (z == x)
extra_gives _ k x = omega arith

-- A piece of work that gives up a reference to an object is about the object's row.
gives_about : (d : Duty) (x : ℕ) → is_piece d ≡ true → one_if (gives x d) ≤ one_if (is_about x d)
gives_about (ReleaseLoad y h) x piece = omega arith
gives_about (ReleaseStore y w) x piece = omega arith
gives_about (SharedLoad y Own) x piece = omega arith
gives_about (SharedExchange y Own w) x piece = omega arith
gives_about (CellSwap y i z h) x piece = absurd cc
gives_about _ x piece = omega arith

pub extra_about : (d : Duty) (k : Holding) (x : ℕ) → is_piece d ≡ true → one_if (extra d k x) ≤ one_if (is_about x d)
extra_about d k x piece = omega (arith, extra_gives d k x, gives_about d x piece)

-- A duty that may wait is a piece of work.
pub waiting_piece : (d : Duty) → may_wait d ≡ true → is_piece d ≡ true
waiting_piece (Die x) waits = absurd cc
waiting_piece _ waits = cc

-- The weight counts duties about the row alone, and none that empties a cell or closes a row.
pub record IsOfRow (x : ℕ) (f : Duty → ℕ) : Type 0 where
  pub about : (d : Duty) → is_about x d ≡ false → f d ≡ 0
  pub cell : (y i n : ℕ) → f (SettleCell y i n) ≡ 0
  pub end : (y : ℕ) → f (SettleEnd y) ≡ 0

waits_about : (x : ℕ) (d : Duty) → is_about x d ≡ false → waits x d ≡ 0
waits_about x (SetMark y) e = ap one_if e
waits_about x (SharedLoad y Handed) e = ap one_if e
waits_about x (SharedExchange y Handed w) e = ap one_if e
waits_about x (MergeSwap y Handed) e = ap one_if e
waits_about x (MergeLoad y c Handed) e = ap one_if e
waits_about x (MergeExchange y c w Handed) e = ap one_if e
waits_about x _ e = refl

carries_about : (x : ℕ) (d : Duty) → is_about x d ≡ false → carries x d ≡ 0
carries_about x (MergeLoad y c r) e = ap (λ (b : Bool). cond b c 0) e
carries_about x (MergeExchange y c w r) e = ap (λ (b : Bool). cond b c 0) e
carries_about x _ e = refl

merges_about : (x : ℕ) (d : Duty) → is_about x d ≡ false → merges x d ≡ 0
merges_about x (MergeLoad y c r) e = ap one_if e
merges_about x (MergeExchange y c w r) e = ap one_if e
merges_about x _ e = refl

decides_about : (x : ℕ) (d : Duty) → is_about x d ≡ false → decides x d ≡ 0
decides_about x (DecideAtZero y) e = ap one_if e
decides_about x (MergeSwap y Own) e = ap one_if e
decides_about x _ e = refl

looks_about : (x : ℕ) (d : Duty) → is_about x d ≡ false → looks x d ≡ 0
looks_about x (Look y) e = ap one_if e
looks_about x (TakeMark y) e = ap one_if e
looks_about x _ e = refl

pub waits_of_row : (x : ℕ) → IsOfRow x (waits x)
waits_of_row x = record { about = waits_about x; cell = λ y i n. refl; end = λ y. refl }

pub carries_of_row : (x : ℕ) → IsOfRow x (carries x)
carries_of_row x = record { about = carries_about x; cell = λ y i n. refl; end = λ y. refl }

pub merges_of_row : (x : ℕ) → IsOfRow x (merges x)
merges_of_row x = record { about = merges_about x; cell = λ y i n. refl; end = λ y. refl }

pub decides_of_row : (x : ℕ) → IsOfRow x (decides x)
decides_of_row x = record { about = decides_about x; cell = λ y i n. refl; end = λ y. refl }

pub looks_of_row : (x : ℕ) → IsOfRow x (looks x)
looks_of_row x = record { about = looks_about x; cell = λ y i n. refl; end = λ y. refl }

-- ---- duties put aside

counts_below : (f g : Duty → Bool) → ((d : Duty) → one_if (f d) ≤ one_if (g d)) → (ds : List Duty)
    → count_by f ds ≤ count_by g ds
counts_below f g each [] = omega arith
counts_below f g each (d ∷ ds) =
    omega (
      arith,
      sum_by-cons (λ (e : Duty). cond (f e) 1 0) d ds,
      sum_by-cons (λ (e : Duty). cond (g e) 1 0) d ds,
      each d,
      counts_below f g each ds,
    )

pub lacks_counted : (aside : List Duty) (k : Holding) (x : ℕ) → lacks_aside aside k x ≤ count_by (is_about x) aside
lacks_counted aside k x = counts_below (λ d. lacks d k x) (is_about x) (λ d. lacks_about d k x) aside

pub extra_counted : (ds : List Duty) (k : Holding) (x : ℕ) → extra_aside ds k x ≤ count_by (gives x) ds
extra_counted ds k x = counts_below (λ d. extra d k x) (gives x) (λ d. extra_gives d k x) ds

pub gives_counted : (m : Machine) (t : ℕ) (a : Actor) (aside : List Duty) (x : ℕ) → AllWait m t a aside
    → count_by (gives x) aside ≤ count_by (is_about x) aside
gives_counted m t a [] x waits = omega arith
gives_counted m t a (d ∷ ds) x waits =
    omega (
      arith,
      sum_by-cons (λ (e : Duty). cond (gives x e) 1 0) d ds,
      sum_by-cons (λ (e : Duty). cond (is_about x e) 1 0) d ds,
      gives_about d x (waiting_piece d waits.0),
      gives_counted m t a ds x waits.2,
    )

-- If none of the duties put aside is about a row, they weigh nothing there.
pub aside_weighs : (x : ℕ) (f : Duty → ℕ) → IsOfRow x f → (aside : List Duty) → count_by (is_about x) aside ≡ 0
    → sum_by f aside ≡ 0
aside_weighs x f of_row [] none = refl
aside_weighs x f of_row (d ∷ ds) none =
    let whole = sum_by-cons (λ (e : Duty). cond (is_about x e) 1 0) d ds in
    let first : is_about x d ≡ false = elim (is_about x d) as (λ b. is_about x d ≡ b → is_about x d ≡ false) [
      | true ↦ λ e.
          let one : one_if (is_about x d) ≡ 1 = ap one_if e in absurd (omega (arith, whole, none, one))
      | false ↦ λ e. e
    ] refl in
    omega (
      arith,
      sum_by-cons f d ds,
      of_row.about d first,
      aside_weighs x f of_row ds (omega (arith, whole, none)),
    )

-- ---- references given up

-- Says whether an agenda's first duty gives up a reference to the object.
abbrev pub gives_of : ℕ → List Duty → Bool
gives_of x [] = false
gives_of x (d ∷ rest) = gives x d

extra_of_gives : (agenda : List Duty) (k : Holding) (x : ℕ)
    → one_if (extra_of agenda k x) ≤ one_if (gives_of x agenda)
extra_of_gives [] k x = omega arith
extra_of_gives (d ∷ rest) k x = extra_gives d k x

piece_gives : (agenda : List Duty) (x : ℕ) → IsPiece agenda → one_if (gives_of x agenda) ≤ one_if (about_of x agenda)
piece_gives [] x piece = omega arith
piece_gives (d ∷ []) x piece = gives_about d x piece
piece_gives (d ∷ e ∷ rest) x piece = absurd piece

-- A thread's open work gives up at most one reference to an object.
pub gives_one : (m : Machine) (t : ℕ) (a : Actor) (x : ℕ) → AsideFits m t a
    → one_if (gives_of x a.agenda) + count_by (gives x) a.aside ≤ 1
gives_one m t a x fits =
    elim fits.pieces [
      | inl none ↦
          let alone : count_by (gives x) a.aside ≡ 0 = ap (count_by (gives x)) none in
          omega (arith, alone, one_if_low (gives_of x a.agenda))
      | inr piece ↦
          omega (arith, piece_gives a.agenda x piece, gives_counted m t a a.aside x fits.waits, fits.apart x)
    ]

-- No duty put aside makes a reference to the object to which the first duty gives up one.
makes_none : (m : Machine) (t : ℕ) (a : Actor) (k : Holding) (x : ℕ) → AsideFits m t a
    → one_if (gives_of x a.agenda) ≡ 1 → lacks_aside a.aside k x ≡ 0
makes_none m t a k x fits one =
    elim fits.pieces [
      | inl none ↦ ap (λ (l : List Duty). lacks_aside l k x) none
      | inr piece ↦
          omega (arith, one, piece_gives a.agenda x piece, fits.apart x, lacks_counted a.aside k x)
    ]

-- The bag has the reference that the first duty gives up.
pub extra_held : (m : Machine) (t : ℕ) (account : Account) (a : Actor) (k : Holding) (x : ℕ)
    → HoldsAt m.abstract.references t account a.agenda a.aside → AsideFits m t a
    → extra_of a.agenda k x ≡ true → lacks_of a.agenda k x ≡ false
    → 0 < held (reference_of t k x) m.abstract.references
extra_held m t account a k x holds fits more less =
    let one : one_if (extra_of a.agenda k x) ≡ 1 = ap one_if more in
    let none : one_if (lacks_of a.agenda k x) ≡ 0 = ap one_if less in
    let given : one_if (gives_of x a.agenda) ≡ 1 =
    omega (arith, one, extra_of_gives a.agenda k x, one_if_low (gives_of x a.agenda)) in
    omega (arith, holds.each k x, one, none, makes_none m t a k x fits given)

-- ---- nothing put aside

-- If a thread has put nothing aside, the bag and its account differ by what its first duty makes or gives up.
pub record HoldsAlone (bag : List Reference) (t : ℕ) (account : Account) (agenda : List Duty) : Type 0 where
  pub each : (k : Holding) (object : ℕ)
      → held (reference_of t k object) bag + one_if (lacks_of agenda k object) ≡ account k object
      + one_if (extra_of agenda k object)

pub holds_alone : (bag : List Reference) (t : ℕ) (account : Account) (agenda aside : List Duty) → aside ≡ []
    → HoldsAlone bag t account agenda → HoldsAt bag t account agenda aside
holds_alone bag t account agenda aside none holds =
    subst (HoldsAt bag t account agenda) (sym none) (record { each = λ k object. omega (arith, holds.each k object) })

pub alone_holds : (bag : List Reference) (t : ℕ) (account : Account) (agenda aside : List Duty) → aside ≡ []
    → HoldsAt bag t account agenda aside → HoldsAlone bag t account agenda
alone_holds bag t account agenda aside none holds =
    let now : HoldsAt bag t account agenda [] = subst (HoldsAt bag t account agenda) none holds in
    record { each = λ k object. omega (arith, now.each k object) }

pub alone_fits : (m : Machine) (t : ℕ) (a : Actor) → a.aside ≡ [] → AsideFits m t a
alone_fits m t a none =
    record {
      waits = subst (Rattle.brc_model.specs.OpenWork.AllWait m t a) (sym none) tt;
      apart = λ x.
          let zero_aside : count_by (is_about x) a.aside ≡ 0 = ap (count_by (is_about x)) none in
          omega (arith, one_if_low (about_of x a.agenda), zero_aside);
      pieces = inl none;
    }
