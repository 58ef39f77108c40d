-- The entries of a function, filled in turn by turn.
use Rattle.std.proofs.Common.{◌≡◌, ℕ, ◌+◌, ◌-◌, ◌<◌, ◌≤◌, cond, List, length}
use Rattle.std.proofs.Common.{Option, refl, sym, ap, ◌∙◌, subst, inl, inr, arith}
use Rattle.std.specs.Prelude.{None, Some, ◌⊎◌, slice_get, replicate, is_some, is_none}
use Rattle.std.proofs.lemmas.Bool.{cases_lt}
use Rattle.std.proofs.lemmas.List.{length-replicate}
use Rattle.std.proofs.lemmas.List.Sums.{count_by-le-length}
use Rattle.std.proofs.lemmas.Option.{same_Some, slice_get_within, slice_get-get_or}
use Rattle.brc_lang.specs.declared.module.Function.{Function}
use Rattle.brc_lang.specs.declared.module.Instr.{Instr}
use Rattle.brc_lang.specs.declared.check_code.CheckCode.{CheckCode}
use Rattle.brc_model.specs.declared.state.State.{State}
use Rattle.brc_model.specs.declared.state.Exit.{Exit}
use Rattle.brc_model.specs.declared.state.Exit.TheVariants.{Success, Fault}
use Rattle.brc_model.specs.SlotStates.{entry_of}
use Rattle.brc_model.specs.Paths.{PathEnd, At, Ended, Reports, follow, ReportsCode}
use Rattle.brc_model.specs.Tables.{Reaches, StatesDifferAt}
use Rattle.brc_check.specs.declared.filling.Filling.{Filling}
use Rattle.brc_check.specs.Entries.{StaysOn, IsClosed, IsBlocked}
use Rattle.brc_check.specs.Filling.{entry_at, first_filling, settled_at, IsInOrder, IsFilledTo, IsFilled, AreReached}
use Rattle.brc_check.specs.Refusal.{IsReported}
use Rattle.brc_check.proofs.Steps.{arrives-within}
use Rattle.brc_check.proofs.Paths.{begins, reaches-more, reports-more, closed-reached, closed-acceptable}
use Rattle.brc_check.proofs.Settling.{settles, settled-cases, with_found, first-entry, first-in_order}

-- ---- one exit

same_end : (k at : ℕ) (t s : State) → k ≡ at → t ≡ s → At k t ≡ At at s
same_end k at t s e f = λ i. At (e i) (f i)

-- what is known before and after the state of a path end is settled
pub record Leads (old new : Filling) (p : PathEnd) : Type 0 where
  pub same_length : length new.entries ≡ length old.entries
  pub kept : (k : ℕ) (t : State) → entry_at old.entries k ≡ Some t → entry_at new.entries k ≡ Some t
  pub fresh : (k : ℕ) (t : State) → entry_at new.entries k ≡ Some t
      → (entry_at old.entries k ≡ Some t) ⊎ (p ≡ At k t)
  pub turns : (turn k : ℕ) → slice_get old.order turn ≡ Some k → slice_get new.order turn ≡ Some k
  pub in_order : IsInOrder old → IsInOrder new

leads-nowhere : (filling : Filling) (p : PathEnd) → Leads filling filling p
leads-nowhere filling p = record {
  same_length = refl;
  kept = λ k t e. e;
  fresh = λ k t e. inl e;
  turns = λ turn k e. e;
  in_order = λ ordered. ordered;
}

leads-place : (filling : Filling) (p : PathEnd)
    → ((k : ℕ) (t : State) → p ≡ At k t → k < length filling.entries)
    → Leads filling (settled_at filling p) p
leads-place filling (At at s) within =
    let there = settles filling at s (within at s refl) in
    record {
      same_length = there.same_length;
      kept = there.kept;
      fresh = λ k t e. elim (there.fresh k t e) [
        | inl old ↦ inl old
        | inr new ↦ inr (sym (same_end k at t s new.0 new.1))
      ];
      turns = there.turns;
      in_order = there.in_order;
    }
leads-place filling Ended within = leads-nowhere filling Ended
leads-place filling (Reports at c) within = leads-nowhere filling (Reports at c)

leads : (code : List Instr) (filling : Filling) (at : ℕ) (s : State) (exit : Exit)
    → length filling.entries ≡ length code
    → Leads filling (settled_at filling (follow code (At at s) exit)) (follow code (At at s) exit)
leads code filling at s exit same =
    leads-place filling (follow code (At at s) exit)
    (λ k t e. let within = arrives-within code at k s t exit e in omega (arith, within, same))

pub led-length : (code : List Instr) (filling once : Filling) (at : ℕ) (s : State) (exit : Exit)
    → length filling.entries ≡ length code → once ≡ settled_at filling (follow code (At at s) exit)
    → length once.entries ≡ length code
led-length code filling once at s exit same is =
    ap (λ (now : Filling). length now.entries) is ∙ (leads code filling at s exit same).same_length ∙ same

stays-kept : (old new : List (Option State)) (p : PathEnd)
    → ((k : ℕ) (t : State) → entry_at old k ≡ Some t → entry_at new k ≡ Some t) → StaysOn (entry_at old) p
    → StaysOn (entry_at new) p
stays-kept old new (At at s) kept on = kept at s on
stays-kept old new Ended kept on = tt
stays-kept old new (Reports at c) kept on = on

abbrev pub AllReached : Function → Filling → Type 0
AllReached f filling = (k : ℕ) (s : State) → entry_at filling.entries k ≡ Some s → Reaches f k s

reached-led : (f : Function) (filling : Filling) (at : ℕ) (s : State) (exit : Exit)
    → length filling.entries ≡ length f.code → AllReached f filling → entry_at filling.entries at ≡ Some s
    → AllReached f (settled_at filling (follow f.code (At at s) exit))
reached-led f filling at s exit same reached here k t e =
    elim ((leads f.code filling at s exit same).fresh k t e) [
      | inl old ↦ reached k t old
      | inr new ↦ reaches-more f at k s t exit (reached at s here) new
    ]

blocked-at : (f : Function) (filling : Filling) (at : ℕ) (s : State) (exit : Exit) (k : ℕ) (c : CheckCode)
    (p : PathEnd)
    → length filling.entries ≡ length f.code → AllReached f filling → entry_at filling.entries at ≡ Some s
    → follow f.code (At at s) exit ≡ p
    → IsBlocked (entry_at (settled_at filling p).entries) p k c → IsReported f k c
blocked-at f filling at s exit k c (At next t) same reached here leads_to blocked =
    let within : next < length filling.entries =
    (let w = arrives-within f.code at next s t exit leads_to in omega (arith, w, same)) in
    elim (settled-cases filling next t within) [
      | inl now ↦ absurd (blocked.2 now)
      | inr found ↦ inr (
        blocked.1,
        subst (StatesDifferAt f) blocked.0 (record {
          one = found.0;
          other = t;
          first = reached next found.0 found.1.0;
          second = reaches-more f at next s t exit (reached at s here) leads_to;
          apart =
              λ e. blocked.2 (ap (λ (now : Filling). entry_at now.entries next) found.1.1 ∙ found.1.0 ∙ ap Some e);
        }),
      )
    ]
blocked-at f filling at s exit k c Ended same reached here leads_to blocked = absurd blocked
blocked-at f filling at s exit k c (Reports point d) same reached here leads_to blocked =
    let reported : ReportsCode f point d = reports-more f at point s d exit (reached at s here) leads_to in
    inl (subst (λ (e : CheckCode). ReportsCode f k e) blocked.1
    (subst (λ (j : ℕ). ReportsCode f j d) blocked.0 reported))

-- ---- both exits

pub first_blocked : (f : Function) (filling : Filling) (turns at : ℕ) (s : State) (k : ℕ) (c : CheckCode)
    → IsFilledTo f filling turns → entry_at filling.entries at ≡ Some s
    → IsBlocked (entry_at (settled_at filling (follow f.code (At at s) Success)).entries)
    (follow f.code (At at s) Success) k c
    → IsReported f k c
first_blocked f filling turns at s k c filled here blocked =
    blocked-at f filling at s Success k c (follow f.code (At at s) Success) filled.same_length filled.reached here refl
    blocked

pub second_blocked : (f : Function) (filling : Filling) (turns at : ℕ) (s : State) (k : ℕ) (c : CheckCode)
    → IsFilledTo f filling turns → entry_at filling.entries at ≡ Some s
    → (let once = settled_at filling (follow f.code (At at s) Success) in IsBlocked
    (entry_at (settled_at once (follow f.code (At at s) Fault)).entries) (follow f.code (At at s) Fault) k c)
    → IsReported f k c
second_blocked f filling turns at s k c filled here blocked =
    let first = leads f.code filling at s Success filled.same_length in
    blocked-at f (settled_at filling (follow f.code (At at s) Success)) at s Fault k c (follow f.code (At at s) Fault)
    (first.same_length ∙ filled.same_length) (reached-led f filling at s Success filled.same_length filled.reached
    here)
    (first.kept at s here) refl blocked

-- Each point of an earlier turn is closed still: its entry is the same, and so are those of its targets.
closed-before : (f : Function) (old new : Filling) (turns : ℕ) → IsFilledTo f old turns
    → turns < length old.order
    → ((k : ℕ) (t : State) → entry_at old.entries k ≡ Some t → entry_at new.entries k ≡ Some t)
    → ((turn k : ℕ) → slice_get old.order turn ≡ Some k → slice_get new.order turn ≡ Some k)
    → (turn k : ℕ) (t : State) (exit : Exit) → turn < turns → slice_get new.order turn ≡ Some k
    → entry_at new.entries k ≡ Some t → StaysOn (entry_at new.entries) (follow f.code (At k t) exit)
closed-before f old new turns filled within kept same_turns turn k t exit before is e =
    let was = slice_get-get_or old.order turn k (omega (arith, before, within)) in
    let point = same_Some _ k (sym (same_turns turn _ was) ∙ is) in
    let in_old : slice_get old.order turn ≡ Some k = was ∙ ap Some point in
    let there = filled.in_order.known turn k in_old in
    let state : there.0 ≡ t = same_Some there.0 t (sym (kept k there.0 there.1) ∙ e) in
    stays-kept old.entries new.entries (follow f.code (At k t) exit) kept
    (filled.closed turn k before in_old t exit (there.1 ∙ ap Some state))

pub filled_both : (f : Function) (filling : Filling) (turns at : ℕ) (s : State)
    → IsFilledTo f filling turns → slice_get filling.order turns ≡ Some at → entry_at filling.entries at ≡ Some s
    → (let once = settled_at filling (follow f.code (At at s) Success) in
    let twice = settled_at once (follow f.code (At at s) Fault) in
    StaysOn (entry_at once.entries) (follow f.code (At at s) Success)
    → StaysOn (entry_at twice.entries) (follow f.code (At at s) Fault)
    → IsFilledTo f twice (turns + 1))
filled_both f filling turns at s filled next here on_success on_fault =
    let once = settled_at filling (follow f.code (At at s) Success) in
    let twice = settled_at once (follow f.code (At at s) Fault) in
    let first = leads f.code filling at s Success filled.same_length in
    let same_once : length once.entries ≡ length f.code = first.same_length ∙ filled.same_length in
    let second = leads f.code once at s Fault same_once in
    let reached_once = reached-led f filling at s Success filled.same_length filled.reached here in
    let kept : (k : ℕ) (t : State) → entry_at filling.entries k ≡ Some t
    → entry_at twice.entries k ≡ Some t = λ k t e. second.kept k t (first.kept k t e) in
    let same_turns : (turn k : ℕ) → slice_get filling.order turn ≡ Some k
    → slice_get twice.order turn ≡ Some k = λ turn k e. second.turns turn k (first.turns turn k e) in
    let here_on : (exit : Exit)
    → StaysOn (entry_at twice.entries) (follow f.code (At at s) exit) =
    λ exit. elim exit as (λ e. StaysOn (entry_at twice.entries) (follow f.code (At at s) e)) [
      | Success ↦ stays-kept once.entries twice.entries (follow f.code (At at s) Success) second.kept on_success
      | Fault ↦ on_fault
    ] in
    record {
      same_length = second.same_length ∙ same_once;
      begins = kept 0 (entry_of f.parameters) filled.begins;
      reached = reached-led f once at s Fault same_once reached_once (first.kept at s here);
      in_order = second.in_order (first.in_order filled.in_order);
      closed = λ turn k lt is t exit e. elim (cases_lt turn turns) [
        | inl before ↦
            closed-before f filling twice turns filled (slice_get_within filling.order turns at next) kept same_turns
            turn k t exit before is e
        | inr from ↦
            let last : turn ≡ turns = omega (arith, from, lt) in
            let point : k ≡ at =
            same_Some k at (sym is ∙ ap (slice_get twice.order) last ∙ same_turns turns at next) in
            let state : t ≡ s =
            same_Some t s (sym e ∙ ap (entry_at twice.entries) point ∙ kept at s here) in
            subst (λ (p : PathEnd). StaysOn (entry_at twice.entries) (follow f.code p exit)) (sym (same_end k at t s
            point state))
            (here_on exit)
      ];
    }

-- a point that has its state isn't found again
settled-again : (filling : Filling) (p : PathEnd) → StaysOn (entry_at filling.entries) p
    → settled_at filling p ≡ filling
settled-again filling (At at s) on =
    ap (λ (o : Option State). cond (is_none o) (with_found filling at s) filling) on
settled-again filling Ended on = refl
settled-again filling (Reports at c) on = absurd on

-- an instruction whose exits are one has no second exit to follow
pub filled_one : (f : Function) (filling once : Filling) (turns at : ℕ) (s : State)
    → IsFilledTo f filling turns → slice_get filling.order turns ≡ Some at → entry_at filling.entries at ≡ Some s
    → once ≡ settled_at filling (follow f.code (At at s) Success)
    → StaysOn (entry_at once.entries) (follow f.code (At at s) Success)
    → follow f.code (At at s) Fault ≡ follow f.code (At at s) Success
    → IsFilledTo f once (turns + 1)
filled_one f filling once turns at s filled next here is on same =
    let success = follow f.code (At at s) Success in
    let led = settled_at filling success in
    let on_led : StaysOn (entry_at led.entries) success =
    subst (λ (now : Filling). StaysOn (entry_at now.entries) success) is on in
    let again : settled_at led (follow f.code (At at s) Fault) ≡ led =
    ap (settled_at led) same ∙ settled-again led success on_led in
    subst (λ (now : Filling). IsFilledTo f now (turns + 1)) (again ∙ sym is)
    (filled_both f filling turns at s filled next here on_led
    (subst (λ (now : Filling). StaysOn (entry_at now.entries) (follow f.code (At at s) Fault)) (sym again)
    (subst (StaysOn (entry_at led.entries)) (sym same) on_led)))

-- ---- all entries of a function

pub filled_first : (f : Function) (filling : Filling) → 0 < length f.code
    → filling ≡ first_filling (entry_of f.parameters) (length f.code)
    → IsFilledTo f filling 0
filled_first f filling some begun = rw begun (record {
  same_length =
      let n : length (replicate {A = Option State} (length f.code - 1) None) ≡ length f.code - 1 =
      length-replicate (length f.code - 1) None in
      omega (arith, n, some);
  begins = refl;
  reached = λ k s e.
      let first = first-entry (entry_of f.parameters) (length f.code) k s e in
      subst (Reaches f k) first.1 (subst (λ (j : ℕ). Reaches f j (entry_of f.parameters)) (sym first.0) (begins f));
  in_order = first-in_order (entry_of f.parameters) (length f.code);
  closed = λ turn k lt. absurd (omega (arith, lt));
})

-- No more points are found than the function has: once there has been a turn for each, all are closed.
pub filled_last : (f : Function) (filling : Filling) (turns : ℕ) → IsFilledTo f filling turns
    → length f.code ≤ turns → IsFilled f filling.entries
filled_last f filling turns filled all =
    let few = count_by-le-length {X = Option State} is_some filling.entries in
    let once = filled.in_order.once in
    let same = filled.same_length in
    let closed : IsClosed f (entry_at filling.entries) = record {
      begins = filled.begins;
      goes_on =
          λ at s exit e.
          let turn = filled.in_order.found at s e in
          let within = slice_get_within filling.order turn.0 at turn.1 in
          filled.closed turn.0 at (omega (arith, within, few, once, same, all)) turn.1 s exit e;
    } in
    record {
      same_length = filled.same_length;
      truth = λ at s. (filled.reached at s, closed-reached f (entry_at filling.entries) closed at s);
      acceptable = closed-acceptable f (entry_at filling.entries) closed;
    }

-- ---- the entries found so far

pub first_reached : (f : Function) (filling : Filling) (turns at : ℕ) (s : State)
    → IsFilledTo f filling turns → entry_at filling.entries at ≡ Some s
    → AreReached f (settled_at filling (follow f.code (At at s) Success)).entries
first_reached f filling turns at s filled here =
    let first = leads f.code filling at s Success filled.same_length in
    record {
      same_length = first.same_length ∙ filled.same_length;
      begins = first.kept 0 (entry_of f.parameters) filled.begins;
      reached = reached-led f filling at s Success filled.same_length filled.reached here;
    }

pub both_reached : (f : Function) (filling : Filling) (turns at : ℕ) (s : State)
    → IsFilledTo f filling turns → entry_at filling.entries at ≡ Some s
    → (let once = settled_at filling (follow f.code (At at s) Success) in
    AreReached f (settled_at once (follow f.code (At at s) Fault)).entries)
both_reached f filling turns at s filled here =
    let once = settled_at filling (follow f.code (At at s) Success) in
    let first = first_reached f filling turns at s filled here in
    let before = leads f.code filling at s Success filled.same_length in
    let second = leads f.code once at s Fault first.same_length in
    record {
      same_length = second.same_length ∙ first.same_length;
      begins = second.kept 0 (entry_of f.parameters) first.begins;
      reached = reached-led f once at s Fault first.same_length first.reached (before.kept at s here);
    }
