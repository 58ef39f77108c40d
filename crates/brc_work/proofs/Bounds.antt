-- How many instructions a hand's thread begins. Each beginning lowers what it can still begin, so that a call begins no
-- more than the limit of its function, and a bound above the limit of all calls stops no run.
use Rattle.std.proofs.Common.{◌≡◌, ℕ, zero, suc, ◌+◌, ◌*◌, ◌<◌, ◌≤◌, Bool, cond, List, inl, inr, refl, ap, subst, arith}
use Rattle.std.proofs.lemmas.Bool.Decides.{eqb_tells}
use Rattle.std.proofs.lemmas.Nat.{mul-le}
use Rattle.brc_word.specs.Words.{free_word}
use Rattle.brc_host.specs.HostCalls.{HostCall}
use Rattle.brc_lang.specs.Grammar.{IsModule}
use Rattle.brc_lang.specs.declared.module.Function.{Function}
use Rattle.brc_lang.specs.declared.module.Module.{Module}
use Rattle.brc_model.specs.Dispatch.{is_before_instruction}
use Rattle.brc_model.specs.Bounded.{call_limit}
use Rattle.brc_model.specs.declared.actor.Actor.{Actor}
use Rattle.brc_model.specs.References.{one_if}
use Rattle.brc_model.specs.Threads.{number_in}
use Rattle.brc_model.specs.declared.actor.Place.{Place}
use Rattle.brc_model.specs.declared.actor.Place.TheVariants.{Idle, InCall, Inside, Stopping, Exiting}
use Rattle.brc_model.specs.declared.duty.Duty.{Duty}
use Rattle.brc_model.specs.declared.duty.Duty.TheVariants.{LockGate}
use Rattle.brc_model.specs.declared.layout.Layout.{Layout}
use Rattle.brc_model.proofs.Promises.CallLimits.{limits_fit}
use Rattle.brc_model.proofs.Promises.CallsLeft.{instructions_left, AreBounded, Lowers, dispatch_lowers}
use Rattle.brc_model.proofs.Promises.Leading.{Leads, LeadsTo, dispatch_leads}
use Rattle.brc_model.proofs.Promises.Turns.{CountsTurns, EachPlace, counts_beyond, each_place, fits_code}
use Rattle.brc_model.specs.declared.event.WordEvent.{WordEvent}
use Rattle.brc_table.specs.declared.view.View.{View}
use Rattle.brc_work.specs.Runs.{StopsBy, Between, Within}
use Rattle.brc_work.specs.Traces.{Program, code_at, dispatch_in, Makes, Refl, Silently, Asks, Dispatches, Reads, Continues, Closes, begun_at, begun_by, exit_of, MakesTrace, MakesCalls, NoCall, OneMore}

-- ---- what a step begins

begun_before : (place : Place) → begun_at place ≡ one_if (is_before_instruction place)
begun_before (Idle zero) = refl
begun_before (Idle (suc left)) = refl
begun_before (InCall context at variables) = refl
begun_before (Inside context at variables stage) = refl
begun_before (Stopping locked calls) = refl
begun_before Exiting = refl

-- A duty lowers what the thread can begin by what begins with it. A lock that isn't got begins nothing.
starts_lower : (functions : List Function) (first : ℕ) (place next : Place) (d : Duty) (found : ℕ)
    → Leads (Lowers functions first place) place d found next
    → begun_by place d found + instructions_left functions first next ≤ instructions_left functions first place
starts_lower functions first place next (LockGate x) found leads =
    elim (eqb_tells found free_word) [
      | inl free ↦
          let begins = ap (λ (b : Bool). cond b (begun_at place) 0) free.0 in
          let lowers = leads.0 free.1 in
          omega (arith, begins, lowers, begun_before place)
      | inr taken ↦
          let begins = ap (λ (b : Bool). cond b (begun_at place) 0) taken.0 in
          let stays = ap (instructions_left functions first) (leads.1 taken.0) in
          omega (arith, begins, stays)
    ]
starts_lower functions first place next d found leads = omega (arith, leads, begun_before place)

module _ (layout : Layout) (t : ℕ) (program : Program) (are : AreBounded program.functions) (p : Place) (a : Actor)
    (counts : CountsTurns program.functions program.first p) where
  abbrev left_at : Place → ℕ
  left_at place = instructions_left program.functions program.first place

  -- At the place the thread can begin less than at p, by this many instructions.
  abbrev pub Lowered : ℕ → Place → Type 0
  Lowered n q = CountsTurns program.functions program.first q × (n + left_at q ≤ left_at p)

  dispatch_turns : (used : ℕ) (q : Place) → CountsTurns program.functions program.first q
      → EachPlace (CountsTurns program.functions program.first) (dispatch_in layout t used program q)
  dispatch_turns used q here =
      each_place (CountsTurns program.functions program.first) q (dispatch_in layout t used program q) here
      (dispatch_leads (CountsTurns program.functions program.first) layout t used (code_at program q) q
      (are.fits (number_in program.first q)).forward (counts_beyond program.functions program.first q here))

  dispatched_lower : (used : ℕ) (q : Place) → CountsTurns program.functions program.first q
      → LeadsTo (Lowers program.functions program.first q) q (dispatch_in layout t used program q)
  dispatched_lower used q here = dispatch_lowers program.functions program.first layout t used q are here

  pub makes_lower : (n : ℕ) (cs : List HostCall) (es : List WordEvent) (q : Place) (b : Actor)
      → Makes layout t program p a n cs es q b → Lowered n q
  makes_lower n cs es q b Refl = (counts, omega arith)
  makes_lower n cs es q b (Silently k ds fs r s c moves before none is) =
      let had = makes_lower k ds fs r c before in
      let leads = subst (LeadsTo (Lowers program.functions program.first r) r) is (dispatched_lower c.used r had.0) in (
        subst (EachPlace (CountsTurns program.functions program.first)) is (dispatch_turns c.used r had.0),
        omega (arith, had.1, leads, begun_before r),
      )
  makes_lower n cs es q b (Asks k ds fs r c row after i call before none is at asks) =
      let had = makes_lower k ds fs r c before in
      let exit = exit_of call in
      let leads =
      subst (LeadsTo (Lowers program.functions program.first r) r) is (dispatched_lower c.used r had.0) exit in (
        subst (EachPlace (CountsTurns program.functions program.first)) is (dispatch_turns c.used r had.0) exit,
        omega (arith, had.1, leads, begun_before r),
      )
  makes_lower n cs es q b (Dispatches k ds fs r c d rest next found before none is off) =
      let had = makes_lower k ds fs r c before in
      let leads =
      subst (LeadsTo (Lowers program.functions program.first r) r) is (dispatched_lower c.used r had.0) found in (
        subst (EachPlace (CountsTurns program.functions program.first)) is (dispatch_turns c.used r had.0) found,
        omega (arith, had.1, starts_lower program.functions program.first r (next found) d found leads),
      )
  makes_lower n cs es q b (Reads k ds fs context at variables c to file most otherwise count found before none is few) =
      let had = makes_lower k _ fs (Inside context at variables _) c before in (had.0, omega (arith, had.1))
  makes_lower n cs es q b (Continues k ds fs r c d rest found before is other) = makes_lower k ds fs r c before
  makes_lower n cs es q b (Closes k ds fs r c x rest failed before is) = makes_lower k ds fs r c before

-- ---- calls

once : (limit begun left : ℕ) → begun + left ≤ 1 * limit → begun ≤ limit
once limit begun left low = omega (arith, low)

one_more : (n limit begun within : ℕ) → begun ≤ n * limit → within ≤ limit → begun + within ≤ (n + 1) * limit
one_more n limit begun within low less = omega (arith, low, less)

-- the most instructions that one call of the program's function begins
abbrev limit_of : Program → ℕ
limit_of program = call_limit program.functions program.first

-- A call begins at most as many instructions as the limit of its function says, also if the hand stops in it.
pub call_few : (program : Program) (are : AreBounded program.functions) (q : Place) (n : ℕ) (cs : List HostCall)
    (v u : View) → MakesTrace n cs program (Idle 1) v q u → n ≤ limit_of program
call_few program are q n cs v u makes =
    once (limit_of program) n (instructions_left program.functions program.first q)
    (makes_lower v.layout v.thread program are (Idle 1) _ tt n cs makes.events q _ makes.makes).1

-- So many calls begin at most as many times that.
pub calls_few : (program : Program) (are : AreBounded program.functions) (v u : View) (n begun : ℕ)
    (cs : List HostCall) → MakesCalls program v n begun cs u → begun ≤ n * limit_of program
calls_few program are v u n begun cs NoCall = omega arith
calls_few program are v u n begun cs (OneMore k i within ds closes more w x y calls looks makes) =
    one_more k (limit_of program) i within (calls_few program are v w k i ds calls)
    (call_few program are (Idle 0) within more x u makes)

-- ---- the bound of a run

-- What the functions of a module are, for the count of what a thread begins.
pub module_bounded : (p : Module) → IsModule p → AreBounded p.functions
module_bounded p fits = record {
  fits = λ number. fits_code p number fits;
  limits = limits_fit p.version p.functions fits.calls;
}

-- Fewer calls begin no more.
fewer : (made times limit : ℕ) → made ≤ times → made * limit ≤ times * limit
fewer made times limit low = mul-le made limit times limit low (omega arith)

-- A bound above what all calls can begin stops no run.
pub never_stops : (program : Program) → AreBounded program.functions → (times steps : ℕ)
    → times * limit_of program < steps
    → (cs : List HostCall) (v u : View) → StopsBy program times steps v cs u → ⊥
never_stops program are times steps enough cs v u (Between made ds w low calls) =
    absurd (omega (
      arith,
      enough,
      calls_few program are v u made steps cs calls,
      fewer made times (limit_of program) (omega (arith, low)),
    ))
never_stops program are times steps enough cs v u (Within made begun more ds closes within w x y low calls looks is
    stops) =
    absurd (omega (
      arith,
      enough,
      is,
      one_more made (limit_of program) begun more
          (calls_few program are v w made begun ds calls)
          (call_few program are _ more stops.before x stops.there stops.comes),
      fewer (made + 1) times (limit_of program) (omega (arith, low)),
    ))
