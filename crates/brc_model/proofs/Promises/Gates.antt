-- A row's gate says that the row is closed exactly if the row was finalised. Each born row is among the used rows.
use Rattle.std.proofs.Common.{◌≡◌, ◌≢◌, ℕ, ◌<◌, true, false, cond, List, [], ◌∷◌, get_or, ◌⊎◌, inl, inr, refl, sym, ap, ◌∙◌, subst, arith}
use Rattle.std.specs.Prelude.{◌==◌, count_by}
use Rattle.std.proofs.lemmas.Bool.{eqb-true, cases_lt, false≢true}
use Rattle.std.proofs.lemmas.Bool.Decides.{eqb_tells}
use Rattle.std.proofs.lemmas.List.Sums.{sum_by-cons}
use Rattle.std.proofs.lemmas.Option.{slice_get-get_or, slice_get_within}
use Rattle.brc_lang.specs.declared.module.Module.{Module}
use Rattle.brc_lang.specs.Grammar.{IsModule}
use Rattle.brc_model.specs.Paths.{IsAcceptable}
use Rattle.brc_word.specs.Words.{free_word, closed_word}
use Rattle.brc_model.specs.declared.duty.Duty.{Duty}
use Rattle.brc_model.specs.declared.duty.Duty.TheVariants.{Die, Settle, SettleKind, SettleCell, TakeField, CloseResource, SettleEnd, Leave, Scan, TakeFound, Finish}
use Rattle.brc_model.specs.declared.address.Address.{Address}
use Rattle.brc_model.specs.declared.address.Address.TheVariants.{Gate}
use Rattle.brc_model.specs.declared.actor.Status.{Status}
use Rattle.brc_model.specs.declared.actor.Status.TheVariants.{Running, Leaving, Gone}
use Rattle.brc_model.specs.declared.actor.Actor.{Actor}
use Rattle.brc_model.specs.Machine.{idle_actor, Life, Unborn, Live, Dying, Closed, Machine}
use Rattle.brc_model.specs.StepMachine.{StepMachine, its_actor, counting}
use Rattle.brc_model.specs.Layout.{block_of, index_of}
use Rattle.brc_model.specs.Progress.{Always, GatesTell, BornAreUsed}
use Rattle.brc_model.specs.References.{one_if}
use Rattle.brc_model.specs.Accounts.{Accounts}
use Rattle.brc_model.specs.Knowledge.{IsDyingWord, HeadFits, HeadOf, AllBehind, BehindOf}
use Rattle.brc_model.specs.OpenWork.{Later, Agenda, AgendaFits, Linked, is_finalising, finalised, dies_by}
use Rattle.brc_model.specs.Gates.{LiveGate, IsFree, IsLocked, GateFits}
use Rattle.brc_model.specs.Invariant.{CoreInvariant}
use Rattle.brc_model.proofs.Frame.Others.{dying_is}
use Rattle.brc_model.proofs.Stepping.Behind.{finalised_first}
use Rattle.brc_model.proofs.Keeping.CodeInvariant.{CodeInvariant}
use Rattle.brc_model.proofs.Basics.Lists.{slice_get-map}
use Rattle.brc_model.proofs.Promises.RowLaws.{always}
use Rattle.brc_model.proofs.Basics.Blocks.{born_used}
use Rattle.brc_model.specs.Limits.{thread_limit}

-- ---- the gate of a dying row

-- A dying word is never the closed word, since threads and rows are few.
dying_low : (t gate : ℕ) → t < thread_limit → IsDyingWord t gate → gate ≢ closed_word
dying_low t gate few (next, is, low) e = absurd (omega (arith, few, low, is, e))

-- The gate of the row that the first duty is finalising is free before `Die`, and a dying word after it.
first_gate : (m : Machine) (t : ℕ) (a : Actor) (d : Duty) (rest : List Duty) (x : ℕ) → HeadFits m t a d rest
    → is_finalising d x ≡ true → (m.memory (Gate x) ≡ free_word) ⊎ IsDyingWord t (m.memory (Gate x))
first_gate m t a (Die y) rest x fits at = inl (ap (λ (z : ℕ). m.memory (Gate z)) (sym (eqb-true y x at)) ∙ fits.2)
first_gate m t a (SettleKind y) rest x fits at =
    inr (subst (λ (z : ℕ). IsDyingWord t (m.memory (Gate z))) (eqb-true y x at) fits.2)
first_gate m t a (SettleCell y i k) rest x fits at =
    inr (subst (λ (z : ℕ). IsDyingWord t (m.memory (Gate z))) (eqb-true y x at) fits.3)
first_gate m t a (TakeField y) rest x fits at =
    inr (subst (λ (z : ℕ). IsDyingWord t (m.memory (Gate z))) (eqb-true y x at) fits.2)
first_gate m t a (CloseResource y) rest x fits at =
    inr (subst (λ (z : ℕ). IsDyingWord t (m.memory (Gate z))) (eqb-true y x at) fits.2)
first_gate m t a (SettleEnd y) rest x fits at =
    inr (subst (λ (z : ℕ). IsDyingWord t (m.memory (Gate z))) (eqb-true y x at) fits.2)
first_gate m t a _ rest x fits at = absurd (false≢true at)

-- The gate of a row that a duty after the first is finalising is a dying word.
later_gate : (m : Machine) (t used : ℕ) (status : Status) (l : List Duty) (x : ℕ) → Later used status l
    → AllBehind m t l → 0 < finalised l x → IsDyingWord t (m.memory (Gate x))
later_gate m t used status [] x later all some = absurd (omega (arith, some))
later_gate m t used status (Settle ∷ rest) x later all some = later_gate m t used status rest x later all.1 some
later_gate m t used status (SettleCell y i k ∷ rest) x later all some =
    elim (eqb_tells y x) [
      | inl same ↦ subst (λ (z : ℕ). IsDyingWord t (m.memory (Gate z))) same.1 all.0.3
      | inr other ↦
          let apart : one_if (y == x) ≡ 0 = ap one_if other.0 in
          later_gate m t used status rest x later all.1
          (omega (arith, some, apart, finalised_first (SettleCell y i k) rest x))
    ]
later_gate m t used status (SettleEnd y ∷ rest) x later all some =
    elim (eqb_tells y x) [
      | inl same ↦ subst (λ (z : ℕ). IsDyingWord t (m.memory (Gate z))) same.1 all.0.2
      | inr other ↦
          let apart : one_if (y == x) ≡ 0 = ap one_if other.0 in
          later_gate m t used status rest x later all.1
          (omega (arith, some, apart, finalised_first (SettleEnd y) rest x))
    ]
later_gate m t used status (Leave i k ∷ []) x later all some = absurd (omega (arith, some))
later_gate m t used status (Scan i k ∷ rest) x later all some = later_gate m t used status rest x later.2 all.1 some
later_gate m t used status (TakeFound w k ∷ rest) x later all some =
    later_gate m t used status rest x later.2 all.1 some
later_gate m t used status (Finish ∷ []) x later all some = absurd (omega (arith, some))
later_gate m t used status _ x later all some = absurd later

behind_gate : (m : Machine) (t used : ℕ) (status : Status) (d : Duty) (rest : List Duty) (x : ℕ)
    → Agenda used status (d ∷ rest) → AllBehind m t rest → 0 < finalised rest x → IsDyingWord t (m.memory (Gate x))
behind_gate m t used status Settle rest x fits all some = later_gate m t used status rest x fits all some
behind_gate m t used status (Leave i k) [] x fits all some = absurd (omega (arith, some))
behind_gate m t used status (Leave i k) (e ∷ rest) x fits all some = absurd fits
behind_gate m t used status (Scan i k) rest x fits all some = later_gate m t used status rest x fits.2 all some
behind_gate m t used status (TakeFound w k) rest x fits all some =
    later_gate m t used status rest x fits.2 all some
behind_gate m t used status Finish [] x fits all some = absurd (omega (arith, some))
behind_gate m t used status Finish (e ∷ rest) x fits all some = absurd fits
behind_gate m t used status _ rest x fits all some = later_gate m t used status rest x fits all some

-- The gate of a row that a duty is finalising is free or a dying word.
hand_gate : (m : Machine) (t : ℕ) (a : Actor) (status : Status) (agenda : List Duty) (x : ℕ)
    → Agenda a.used status agenda → HeadOf m t a agenda → BehindOf m t agenda → 0 < finalised agenda x
    → (m.memory (Gate x) ≡ free_word) ⊎ IsDyingWord t (m.memory (Gate x))
hand_gate m t a status [] x fits head behind some = absurd (omega (arith, some))
hand_gate m t a status (d ∷ rest) x fits head behind some =
    elim (is_finalising d x) as (λ b. is_finalising d x ≡ b
    → (m.memory (Gate x) ≡ free_word) ⊎ IsDyingWord t (m.memory (Gate x))) [
      | true ↦ λ this. first_gate m t a d rest x head this
      | false ↦ λ other.
          let apart : one_if (is_finalising d x) ≡ 0 = ap one_if other in
          inr (behind_gate m t a.used status d rest x fits behind
          (omega (arith, some, apart, finalised_first d rest x)))
    ] refl

actor_gate : (m : Machine) (t : ℕ) (a : Actor) (status : Status) (x : ℕ) → AgendaFits a status
    → HeadOf m t a a.agenda → BehindOf m t a.agenda → 0 < finalised a.agenda x
    → (m.memory (Gate x) ≡ free_word) ⊎ IsDyingWord t (m.memory (Gate x))
actor_gate m t a Gone x fits head behind some =
    let none : finalised a.agenda x ≡ 0 = ap (λ (l : List Duty). finalised l x) fits.0 in
    absurd (omega (arith, some, none))
actor_gate m t a Running x fits head behind some = hand_gate m t a Running a.agenda x fits head behind some
actor_gate m t a Leaving x fits head behind some = hand_gate m t a Leaving a.agenda x fits head behind some

-- The gate of a row in the chain is a dying word.
chained_gate : (memory : Address → ℕ) (t head : ℕ) (chained : List ℕ) (x : ℕ) → Linked memory t head chained
    → 0 < count_by (λ y. y == x) chained → IsDyingWord t (memory (Gate x))
chained_gate memory t head [] x linked some = absurd (omega (arith, some))
chained_gate memory t head (y ∷ ys) x linked some =
    elim (y == x) as (λ b. (y == x) ≡ b → IsDyingWord t (memory (Gate x))) [
      | true ↦ λ same.
          subst (λ (z : ℕ). IsDyingWord t (memory (Gate z))) (eqb-true y x same) (linked.1.0, linked.1.1, linked.1.2)
      | false ↦ λ other.
          let apart : one_if (y == x) ≡ 0 = ap one_if other in
          chained_gate memory t linked.1.0 ys x linked.1.3
          (omega (arith, some, sum_by-cons (λ (z : ℕ). cond (z == x) 1 0) y ys, apart))
    ] refl

module _ {p : Accounts} {n : ℕ} {m : Machine} where
  dying_gate : (t x : ℕ) → CoreInvariant p n m → t < n → m.life x ≡ Dying t
      → (m.memory (Gate x) ≡ free_word) ⊎ IsDyingWord t (m.memory (Gate x))
  dying_gate t x core within dies =
      let a = get_or m.actors t (idle_actor 0) in
      let found = slice_get-get_or m.actors t (idle_actor 0) (omega (arith, within, core.threads)) in
      let fits = core.each t a found in
      elim (eqb_tells (finalised a.agenda x) 0) [
        | inl none ↦
            let one : one_if (dies_by (m.life x) t) ≡ 1 = ap one_if (dying_is (m.life x) t dies) in
            inr (chained_gate m.memory t a.head fits.0.chain.chained x fits.0.chain.linked
            (omega (arith, fits.0.chain.once x, one, none.1)))
        | inr more ↦ actor_gate m t a a.status x fits.1 fits.0.head_fits fits.0.behind (omega (arith, more.1))
      ]

  -- ---- what a gate says

  dying_within : (t x : ℕ) → CoreInvariant p n m → m.life x ≡ Dying t → t < n
  dying_within t x core dies =
      elim (cases_lt t n) [
        | inl within ↦ within
        | inr past ↦ absurd (false≢true (sym (core.dying x t (omega (arith, past))) ∙ dying_is (m.life x) t dies))
      ]

  -- The gate of a live row isn't the closed word, since threads are few.
  live_unclosed : (x : ℕ) → CoreInvariant p n m → LiveGate m.actors x (m.memory (Gate x))
      → m.memory (Gate x) ≢ closed_word
  live_unclosed x core (IsFree free) e = absurd (omega (arith, free, e))
  live_unclosed x core (IsLocked t a found locked says) e =
      absurd (omega (arith, slice_get_within m.actors t a found, core.threads, core.few_threads, says, e))

  -- A row whose gate is the closed word is closed.
  closed_by : (x : ℕ) (l : Life) → CoreInvariant p n m → m.life x ≡ l → GateFits m.actors x l (m.memory (Gate x))
      → m.memory (Gate x) ≡ closed_word → l ≡ Closed
  closed_by x Unborn core is fits e = absurd (omega (arith, fits, e))
  closed_by x Live core is fits e = absurd (live_unclosed x core fits e)
  closed_by x (Dying t) core is fits e =
      let within = dying_within t x core is in
      elim (dying_gate t x core within is) [
        | inl free ↦ absurd (omega (arith, free, e))
        | inr word ↦ absurd (dying_low t (m.memory (Gate x)) (omega (arith, within, core.few_threads)) word e)
      ]
  closed_by x Closed core is fits e = refl

tell_in : (p : Module) (n : ℕ) (m : StepMachine) → CodeInvariant p n m → GatesTell m
tell_in p n m whole =
    let core = whole.kept.core in
    λ x. (
      λ e. core.closed_has x (closed_by x (m.life x) core refl (core.gates x) e),
      λ c. subst (λ (l : Life). GateFits (counting m).actors x l (m.memory (Gate x))) (core.closed_is x c)
          (core.gates x),
    )

pub gates_tell : (p : Module) → IsModule p → IsAcceptable p → Always GatesTell p
gates_tell = always GatesTell tell_in

-- ---- born rows

used_in : (p : Module) (n : ℕ) (m : StepMachine) → CodeInvariant p n m → BornAreUsed m
used_in p n m whole = λ x born.
    let used = born_used x whole.kept.core born in
    let of = slice_get-map its_actor m.actors (block_of m.layout x) used.by used.found in
    let low : index_of m.layout (block_of m.layout x) x < of.source.actor.used =
    subst (λ (a : Actor). index_of m.layout (block_of m.layout x) x < a.used) (sym of.is_image) used.low in
    (of.source, of.is_there, low)

pub born_are_used : (p : Module) → IsModule p → IsAcceptable p → Always BornAreUsed p
born_are_used = always BornAreUsed used_in
