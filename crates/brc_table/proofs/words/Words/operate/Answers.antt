use Rattle.std.proofs.Common.{◌≡◌, ◌<◌, ℕ, List, Option, ap, sym, ◌∙◌, subst}
use Rattle.atomic_table.specs.Table.{State, Me, Allows}
use Rattle.brc_table.specs.declared.view.View.{View}
use Rattle.brc_table.specs.Hands.{TableState, plan_of}
use Rattle.brc_table.specs.Homes.{TableStands}
use Rattle.brc_effect.specs.Accesses.{left_by}
use Rattle.brc_effect.specs.declared.access.Access.{Access}
use Rattle.brc_effect.specs.declared.access.Access.TheVariants.{Load, Add, Swap, Exchange, Or, And}
use Rattle.brc_table.specs.DutySteps.{StepsBy}
use Rattle.brc_table.proofs.StoredSteps.{stored_allowed}
use Rattle.brc_table.proofs.words.Words.operate.Goals as goal

-- What is allowed in the table that the caller knows is allowed in the one that the code has, by the operation that the
-- access is.
allowed_so : {T : Type 0} (inside words : TableState) (id index : ℕ) (me : Me (Option T) View)
    (lines : List (List ℕ)) (begins : View → View) (access operation : Access) → inside ≡ words → access ≡ operation
    → Allows (λ (s : State (Option T) View). TableStands (plan_of words) s.words s.homes s.views) words.table.slots id
    me index (left_by access) (StepsBy lines begins me)
    → Allows (λ (s : State (Option T) View). TableStands (plan_of inside) s.words s.homes s.views) inside.table.slots
    id me index (left_by operation) (StepsBy lines begins me)
allowed_so {T} inside words id index me lines begins access operation same is allowed =
    subst (λ (w : TableState). Allows
    (λ (s : State (Option T) View). TableStands (plan_of w) s.words s.homes s.views) w.table.slots
    id me index (left_by operation) (StepsBy lines begins me)) (sym same)
    (subst (λ (a : Access). Allows
    (λ (s : State (Option T) View). TableStands (plan_of words) s.words s.homes s.views) words.table.slots
    id me index (left_by a) (StepsBy lines begins me)) is allowed)

-- The operation's place is in the table that the code has.
there_so : (inside words : TableState) (index : ℕ) → inside ≡ words → index < words.table.words
    → index < inside.table.words
there_so inside words index same there = subst (λ (w : TableState). index < w.table.words) (sym same) there

pub load-requires : goal.load-requires
load-requires g c =
    let seat = c.args.seat.now in (
      c.requires.table ∙ sym (ap (λ (w : TableState). w.table) c.self.view_is),
      there_so _ c.args.self.now c.args.index c.self.view_is c.requires.there,
      allowed_so _ c.args.self.now seat.id c.args.index seat.me g.B.Begins.lines g.B.Begins.begins c.args.access
          Load c.self.view_is c.in-Load.is c.requires.allowed,
    )

pub fetch_add-requires : goal.fetch_add-requires
fetch_add-requires g c =
    let seat = c.args.seat.now in (
      c.requires.table ∙ sym (ap (λ (w : TableState). w.table) c.self.view_is),
      there_so _ c.args.self.now c.args.index c.self.view_is c.requires.there,
      allowed_so _ c.args.self.now seat.id c.args.index seat.me g.B.Begins.lines g.B.Begins.begins c.args.access
          (Add c.in-Add.more) c.self.view_is c.in-Add.is c.requires.allowed,
    )

pub swap-requires : goal.swap-requires
swap-requires g c =
    let seat = c.args.seat.now in (
      c.requires.table ∙ sym (ap (λ (w : TableState). w.table) c.self.view_is),
      there_so _ c.args.self.now c.args.index c.self.view_is c.requires.there,
      allowed_so _ c.args.self.now seat.id c.args.index seat.me g.B.Begins.lines g.B.Begins.begins c.args.access
          (Swap c.in-Swap.word) c.self.view_is c.in-Swap.is c.requires.allowed,
    )

pub compare_exchange-requires : goal.compare_exchange-requires
compare_exchange-requires g c =
    let seat = c.args.seat.now in (
      c.requires.table ∙ sym (ap (λ (w : TableState). w.table) c.self.view_is),
      there_so _ c.args.self.now c.args.index c.self.view_is c.requires.there,
      allowed_so _ c.args.self.now seat.id c.args.index seat.me g.B.Begins.lines g.B.Begins.begins c.args.access
          (Exchange c.in-Exchange.old c.in-Exchange.new) c.self.view_is c.in-Exchange.is c.requires.allowed,
    )

pub fetch_or-requires : goal.fetch_or-requires
fetch_or-requires g c =
    let seat = c.args.seat.now in (
      c.requires.table ∙ sym (ap (λ (w : TableState). w.table) c.self.view_is),
      there_so _ c.args.self.now c.args.index c.self.view_is c.requires.there,
      allowed_so _ c.args.self.now seat.id c.args.index seat.me g.B.Begins.lines g.B.Begins.begins c.args.access
          (Or c.in-Or.bits) c.self.view_is c.in-Or.is c.requires.allowed,
    )

pub fetch_and-requires : goal.fetch_and-requires
fetch_and-requires g c =
    let seat = c.args.seat.now in (
      c.requires.table ∙ sym (ap (λ (w : TableState). w.table) c.self.view_is),
      there_so _ c.args.self.now c.args.index c.self.view_is c.requires.there,
      allowed_so _ c.args.self.now seat.id c.args.index seat.me g.B.Begins.lines g.B.Begins.begins c.args.access
          (And c.in-And.bits) c.self.view_is c.in-And.is c.requires.allowed,
    )

pub store-requires : goal.store-requires
store-requires g c =
    let seat = c.args.seat.now in
    let shared = c.self.inside.table.shared in (
      c.requires.table ∙ sym (ap (λ (w : TableState). w.table) c.self.view_is),
      there_so _ c.args.self.now c.args.index c.self.view_is c.requires.there,
      stored_allowed (λ s. TableStands shared.key s.words s.homes s.views) shared.table_id.slots seat.id c.args.index
          seat.me g.B.Begins.lines g.B.Begins.begins c.args.access c.in-Store.word c.in-Store.before c.in-Store.is
          c.requires.before c.requires.knows
          (subst (λ (w : TableState). Allows
          (λ (s : State (Option g.row.T.Denot) View). TableStands (plan_of w) s.words s.homes s.views) w.table.slots
          seat.id seat.me c.args.index (left_by c.args.access) (StepsBy g.B.Begins.lines g.B.Begins.begins seat.me))
          (sym c.self.view_is) c.requires.allowed),
    )
