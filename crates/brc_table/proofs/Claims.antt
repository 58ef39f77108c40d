-- The references that a thread's work makes and gives up, as lists of holdings, which can be compared with those of its
-- references.
use Rattle.std.proofs.Common.{◌≡◌, ℕ, ◌+◌, Bool, true, false, cond, ◌&&◌, List, [], ◌∷◌, ◌++◌, length, refl, sym, ap, ◌∙◌, subst, arith}
use Rattle.std.specs.Prelude.{◌==◌, count_by, sum_by}
use Rattle.std.proofs.lemmas.List.{length-append}
use Rattle.std.proofs.lemmas.List.Sums.{sum_by-cons}
use Rattle.brc_model.specs.declared.duty.Holding.{Holding}
use Rattle.brc_model.specs.declared.duty.Holding.TheVariants.{InFlight}
use Rattle.brc_model.specs.declared.duty.Reason.TheVariants.{Own}
use Rattle.brc_model.specs.declared.duty.Duty.{Duty}
use Rattle.brc_model.specs.declared.duty.Duty.TheVariants.{RetainLoad, RetainStore, RetainAdd, ReleaseLoad, ReleaseStore, SharedLoad, SharedExchange, Settle, SettleCell, SettleEnd, Leave, Scan, TakeFound, Finish, BirthKind, BirthField, BirthLocal, CellSwap}
use Rattle.brc_model.specs.declared.actor.Status.{Status}
use Rattle.brc_model.specs.declared.actor.Status.TheVariants.{Running, Leaving, Gone}
use Rattle.brc_model.specs.AbstractState.{same_holding}
use Rattle.brc_model.specs.References.{one_if}
use Rattle.brc_model.specs.declared.actor.Actor.{Actor}
use Rattle.brc_model.specs.Accounts.{extra, lacks, extra_of, lacks_of}
use Rattle.brc_model.specs.OpenWork.{Later, Agenda, AgendaFits}
use Rattle.brc_table.specs.Agreeing.{gives_up, makes}
use Rattle.brc_table.proofs.Tally.{tally, tally_both, tally_more}

-- ---- a holding, or none

-- the holding, if the condition is met
abbrev pub held_if : Bool → Holding → List Holding
held_if b h = cond b (h ∷ []) []

held_if_long : (b : Bool) (h : Holding) → length (held_if b h) ≡ one_if b
held_if_long true h = refl
held_if_long false h = refl

pub all_true : (b : Bool) → one_if (b && true) ≡ one_if b
all_true true = refl
all_true false = refl

pub all_false : (b : Bool) → one_if (b && false) ≡ 0
all_false true = refl
all_false false = refl

pub held_if_tally : (b : Bool) (h k : Holding) → tally k (held_if b h) ≡ one_if (same_holding h k && b)
held_if_tally true h k =
    let more : tally k (h ∷ []) ≡ one_if (same_holding h k) + 0 = tally_more h k [] in
    let both : one_if (same_holding h k && true) ≡ one_if (same_holding h k) = all_true (same_holding h k) in
    omega (arith, more, both)
held_if_tally false h k = sym (all_false (same_holding h k))

-- ---- duties

-- Each duty claims a reference by some holding, or none: as a list, by holding, and as a weight.
pub record Claims : Type 0 where
  pub holdings : Duty → List Holding
  pub by_holding : Duty → Holding → Bool
  pub weight : Duty → ℕ
  pub tallied : (d : Duty) (k : Holding) → tally k (holdings d) ≡ one_if (by_holding d k)
  pub long : (d : Duty) → length (holdings d) ≡ weight d
  pub later : (used : ℕ) (status : Status) (d : Duty) (rest : List Duty) → Later used status (d ∷ rest) → holdings d
      ≡ []

abbrev pub gives_holdings : ℕ → Duty → List Holding
gives_holdings x (ReleaseLoad y h) = held_if (y == x) h
gives_holdings x (ReleaseStore y w) = held_if (y == x) InFlight
gives_holdings x (SharedLoad y Own) = held_if (y == x) InFlight
gives_holdings x (SharedExchange y Own w) = held_if (y == x) InFlight
gives_holdings x (CellSwap y i z h) = held_if (z == x) h
gives_holdings x _ = []

pub gives_tallied : (x : ℕ) (d : Duty) (k : Holding) → tally k (gives_holdings x d) ≡ one_if (extra d k x)
gives_tallied x (ReleaseLoad y h) k = held_if_tally (y == x) h k
gives_tallied x (ReleaseStore y w) k = held_if_tally (y == x) InFlight k
gives_tallied x (SharedLoad y Own) k = held_if_tally (y == x) InFlight k
gives_tallied x (SharedExchange y Own w) k = held_if_tally (y == x) InFlight k
gives_tallied x (CellSwap y i z h) k = held_if_tally (z == x) h k
gives_tallied x _ k = refl

pub gives_long : (x : ℕ) (d : Duty) → length (gives_holdings x d) ≡ gives_up x d
gives_long x (ReleaseLoad y h) = held_if_long (y == x) h
gives_long x (ReleaseStore y w) = held_if_long (y == x) InFlight
gives_long x (SharedLoad y Own) = held_if_long (y == x) InFlight
gives_long x (SharedExchange y Own w) = held_if_long (y == x) InFlight
gives_long x (CellSwap y i z h) = held_if_long (z == x) h
gives_long x _ = refl

pub gives_later : (x used : ℕ) (status : Status) (d : Duty) (rest : List Duty) → Later used status (d ∷ rest)
    → gives_holdings x d ≡ []
gives_later x used status (ReleaseLoad y h) rest later = absurd later
gives_later x used status (ReleaseStore y w) rest later = absurd later
gives_later x used status (SharedLoad y Own) rest later = absurd later
gives_later x used status (SharedExchange y Own w) rest later = absurd later
gives_later x used status (CellSwap y i z h) rest later = absurd later
gives_later x used status _ rest later = refl

abbrev pub gives : ℕ → Claims
gives x = record {
  holdings = gives_holdings x;
  by_holding = λ d k. extra d k x;
  weight = gives_up x;
  tallied = gives_tallied x;
  long = gives_long x;
  later = gives_later x;
}

abbrev pub makes_holdings : ℕ → Duty → List Holding
makes_holdings x (RetainLoad y h) = held_if (y == x) h
makes_holdings x (RetainStore y h w) = held_if (y == x) h
makes_holdings x (RetainAdd y h) = held_if (y == x) h
makes_holdings x (BirthKind y h w) = held_if (y == x) h
makes_holdings x (BirthField y h) = held_if (y == x) h
makes_holdings x (BirthLocal y h) = held_if (y == x) h
makes_holdings x _ = []

pub makes_tallied : (x : ℕ) (d : Duty) (k : Holding) → tally k (makes_holdings x d) ≡ one_if (lacks d k x)
makes_tallied x (RetainLoad y h) k = held_if_tally (y == x) h k
makes_tallied x (RetainStore y h w) k = held_if_tally (y == x) h k
makes_tallied x (RetainAdd y h) k = held_if_tally (y == x) h k
makes_tallied x (BirthKind y h w) k = held_if_tally (y == x) h k
makes_tallied x (BirthField y h) k = held_if_tally (y == x) h k
makes_tallied x (BirthLocal y h) k = held_if_tally (y == x) h k
makes_tallied x _ k = refl

pub makes_long : (x : ℕ) (d : Duty) → length (makes_holdings x d) ≡ makes x d
makes_long x (RetainLoad y h) = held_if_long (y == x) h
makes_long x (RetainStore y h w) = held_if_long (y == x) h
makes_long x (RetainAdd y h) = held_if_long (y == x) h
makes_long x (BirthKind y h w) = held_if_long (y == x) h
makes_long x (BirthField y h) = held_if_long (y == x) h
makes_long x (BirthLocal y h) = held_if_long (y == x) h
makes_long x _ = refl

pub makes_later : (x used : ℕ) (status : Status) (d : Duty) (rest : List Duty) → Later used status (d ∷ rest)
    → makes_holdings x d ≡ []
makes_later x used status (RetainLoad y h) rest later = absurd later
makes_later x used status (RetainStore y h w) rest later = absurd later
makes_later x used status (RetainAdd y h) rest later = absurd later
makes_later x used status (BirthKind y h w) rest later = absurd later
makes_later x used status (BirthField y h) rest later = absurd later
makes_later x used status (BirthLocal y h) rest later = absurd later
makes_later x used status _ rest later = refl

abbrev pub making : ℕ → Claims
making x = record {
  holdings = makes_holdings x;
  by_holding = λ d k. lacks d k x;
  weight = makes x;
  tallied = makes_tallied x;
  long = makes_long x;
  later = makes_later x;
}

-- ---- lists of duties

abbrev pub all_holdings : (Duty → List Holding) → List Duty → List Holding
all_holdings holdings [] = []
all_holdings holdings (d ∷ rest) = holdings d ++ all_holdings holdings rest

pub all_long : (s : Claims) (ds : List Duty) → length (all_holdings s.holdings ds) ≡ sum_by s.weight ds
all_long s [] = refl
all_long s (d ∷ rest) =
    omega (
      arith,
      length-append (s.holdings d) (all_holdings s.holdings rest),
      s.long d,
      all_long s rest,
      sum_by-cons s.weight d rest,
    )

pub all_tallied : (s : Claims) (k : Holding) (ds : List Duty)
    → tally k (all_holdings s.holdings ds) ≡ count_by (λ d. s.by_holding d k) ds
all_tallied s k [] = refl
all_tallied s k (d ∷ rest) =
    let more : count_by (λ e. s.by_holding e k) (d ∷ rest)
    ≡ one_if (s.by_holding d k) + count_by (λ e. s.by_holding e k) rest =
    sum_by-cons (λ e. cond (s.by_holding e k) 1 0) d rest in
    omega (
      arith,
      tally_both k (s.holdings d) (all_holdings s.holdings rest),
      s.tallied d k,
      all_tallied s k rest,
      more,
    )

-- Behind an agenda's first duty no duty claims a reference.
none_later : (s : Claims) (used : ℕ) (status : Status) (ds : List Duty) → Later used status ds
    → all_holdings s.holdings ds ≡ []
none_later s used status [] later = refl
none_later s used status (Settle ∷ rest) later =
    ap (λ (l : List Holding). l ++ all_holdings s.holdings rest) (s.later used status Settle rest later)
    ∙ none_later s used status rest later
none_later s used status (SettleCell x i n ∷ rest) later =
    ap (λ (l : List Holding). l ++ all_holdings s.holdings rest) (s.later used status (SettleCell x i n) rest later)
    ∙ none_later s used status rest later
none_later s used status (SettleEnd x ∷ rest) later =
    ap (λ (l : List Holding). l ++ all_holdings s.holdings rest) (s.later used status (SettleEnd x) rest later)
    ∙ none_later s used status rest later
none_later s used status (Leave i n ∷ []) later =
    ap (λ (l : List Holding). l ++ []) (s.later used status (Leave i n) [] later)
none_later s used status (Scan i n ∷ rest) later =
    ap (λ (l : List Holding). l ++ all_holdings s.holdings rest) (s.later used status (Scan i n) rest later)
    ∙ none_later s used status rest later.2
none_later s used status (TakeFound w marks ∷ rest) later =
    ap (λ (l : List Holding). l ++ all_holdings s.holdings rest) (s.later used status (TakeFound w marks) rest later)
    ∙ none_later s used status rest later.2
none_later s used status (Finish ∷ []) later =
    ap (λ (l : List Holding). l ++ []) (s.later used status Finish [] later)
none_later s used status _ later = absurd later

behind : (s : Claims) (used : ℕ) (status : Status) (d : Duty) (rest : List Duty) → Agenda used status (d ∷ rest)
    → all_holdings s.holdings rest ≡ []
behind s used status Settle rest fits = none_later s used status rest fits
behind s used status (Leave i n) [] fits = refl
behind s used status (Leave i n) (e ∷ rest) fits = absurd fits
behind s used status (Scan i n) rest fits = none_later s used status rest fits.2
behind s used status (TakeFound w marks) rest fits = none_later s used status rest fits.2
behind s used status Finish [] fits = refl
behind s used status Finish (e ∷ rest) fits = absurd fits
behind s used status _ rest fits = none_later s used status rest fits

-- Behind an agenda's first duty no duty weighs.
pub first_alone : (s : Claims) (a : Actor) (status : Status) (d : Duty) (rest : List Duty) → AgendaFits a status
    → a.agenda ≡ d ∷ rest → sum_by s.weight rest ≡ 0
first_alone s a Running d rest fits is =
    sym (all_long s rest)
    ∙ ap (λ (l : List Holding). length l)
    (behind s a.used Running d rest (subst (λ (l : List Duty). Agenda a.used Running l) is fits))
first_alone s a Leaving d rest fits is =
    sym (all_long s rest)
    ∙ ap (λ (l : List Holding). length l)
    (behind s a.used Leaving d rest (subst (λ (l : List Duty). Agenda a.used Leaving l) is fits))
first_alone s a Gone d rest fits is = let wrong : [] ≡ d ∷ rest = sym fits.0 ∙ is in absurd cc

-- says whether the agenda's first duty claims a reference by the holding
abbrev pub first_of : Claims → Holding → List Duty → Bool
first_of s k [] = false
first_of s k (d ∷ rest) = s.by_holding d k

agenda_tallied : (s : Claims) (used : ℕ) (status : Status) (k : Holding) (ds : List Duty) → Agenda used status ds
    → tally k (all_holdings s.holdings ds) ≡ one_if (first_of s k ds)
agenda_tallied s used status k [] fits = refl
agenda_tallied s used status k (d ∷ rest) fits =
    let none : tally k (all_holdings s.holdings rest) ≡ 0 = ap (tally k) (behind s used status d rest fits) in
    omega (arith, tally_both k (s.holdings d) (all_holdings s.holdings rest), s.tallied d k, none)

pub actor_tallied : (s : Claims) (a : Actor) (status : Status) (k : Holding) → AgendaFits a status
    → tally k (all_holdings s.holdings a.agenda) ≡ one_if (first_of s k a.agenda)
actor_tallied s a Running k fits = agenda_tallied s a.used Running k a.agenda fits
actor_tallied s a Leaving k fits = agenda_tallied s a.used Leaving k a.agenda fits
actor_tallied s a Gone k fits =
    subst (λ (ds : List Duty). tally k (all_holdings s.holdings ds) ≡ one_if (first_of s k ds)) (sym fits.0) refl

pub makes_first : (x : ℕ) (k : Holding) (ds : List Duty) → first_of (making x) k ds ≡ lacks_of ds k x
makes_first x k [] = refl
makes_first x k (d ∷ rest) = refl

pub gives_first : (x : ℕ) (k : Holding) (ds : List Duty) → first_of (gives x) k ds ≡ extra_of ds k x
gives_first x k [] = refl
gives_first x k (d ∷ rest) = refl
