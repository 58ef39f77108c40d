-- A hand that gives up what its stopped calls own makes the events of its thread.
use Rattle.std.proofs.Common.{◌≡◌, ℕ, zero, suc, ◌<◌, ◌≤◌, length, Bool, true, false, cond, List, [], ◌∷◌, Option, None, Some, inl, inr, refl, sym, ap, ◌∙◌, subst, arith}
use Rattle.std.specs.Prelude.{◌||◌, not, is_some, slice_set}
use Rattle.std.specs.List.{list_any, slice_index_or}
use Rattle.std.proofs.lemmas.Bool.{cases_Bool}
use Rattle.std.proofs.Math.Nat.{eq-or-lt_of_le}
use Rattle.brc_host.specs.HostCalls.{HostCall}
use Rattle.brc_model.specs.declared.actor.Place.{Place}
use Rattle.brc_model.specs.declared.actor.Place.TheVariants.{Idle, Stopping}
use Rattle.brc_model.specs.declared.duty.Duty.{Duty}
use Rattle.brc_model.specs.declared.duty.Duty.TheVariants.{ReleaseLoad, Settle}
use Rattle.brc_model.specs.declared.duty.Holding.TheVariants.{AsCaller, ByVariable}
use Rattle.brc_model.specs.declared.layout.Layout.{Layout}
use Rattle.brc_model.specs.declared.state.Slot.{Slot}
use Rattle.brc_model.specs.declared.state.Slot.TheVariants.{Empty}
use Rattle.brc_model.specs.Actions.{Does, always, with_row}
use Rattle.brc_model.specs.Duties.{ready}
use Rattle.brc_model.specs.SlotStates.{is_owned}
use Rattle.brc_model.specs.Stops.{owned_rows, holds_some, stopping, first_named, give_up_first, give_up}
use Rattle.brc_model.specs.Threads.{row_of}
use Rattle.brc_model.proofs.Dispatch.Grounded.{row_of-set_other}
use Rattle.brc_model.proofs.Dispatch.Stopped.{owned_exactly, owned_long}
use Rattle.brc_table.specs.declared.view.View.{View}
use Rattle.brc_table.specs.Views.{view_after, releasing, without_reference}
use Rattle.brc_heap.specs.Calls.{released_locally}
use Rattle.brc_free.specs.Works.{HasWorked, to_settle}
use Rattle.brc_work.specs.Stopping.{Loosens, settle_if, GivesUpTo}
use Rattle.brc_work.specs.Traces.{Program, dispatch_in, Traces, MakesTrace, begun_at}
use Rattle.brc_work.proofs.Traces.Joining.{turns_to, traces_then, traces_behind, with_duties}
use Rattle.brc_work.proofs.Traces.Duties.{no_duty, next_duties, starts_with}
use Rattle.brc_work.proofs.Traces.Releasing.{load_same, stores}
use Rattle.brc_work.proofs.Traces.Working.{WorksOn, are_off_fields, behind_of, works_on, worked_off, with_agenda, comes_to_settle, nothing_behind}

-- ---- rows

some_named : (rows : List (Option ℕ)) (k x : ℕ) → row_of rows k ≡ Some x → list_any is_some rows ≡ true
some_named [] k x is = let wrong : None ≡ Some x = is in absurd cc
some_named (row ∷ rows) zero x is = ap (λ (o : Option ℕ). is_some o || list_any is_some rows) is
some_named (row ∷ rows) (suc k) x is = elim (cases_Bool (is_some row)) [
  | inl names ↦ ap (λ (b : Bool). b || list_any is_some rows) names
  | inr bare ↦ ap (λ (b : Bool). b || list_any is_some rows) bare ∙ some_named rows k x is
]

-- The first variable that names a row is the one below which none does.
first_is : (rows : List (Option ℕ)) (k x : ℕ) → row_of rows k ≡ Some x → ((i : ℕ) → i < k → row_of rows i ≡ None)
    → first_named rows ≡ k
first_is [] k x is below = let wrong : None ≡ Some x = is in absurd cc
first_is (None ∷ rows) zero x is below = let wrong : None ≡ Some x = is in absurd cc
first_is (Some row ∷ rows) zero x is below = refl
first_is (None ∷ rows) (suc k) x is below =
    ap suc (first_is rows k x is (λ i low. below (suc i) (omega (arith, low))))
first_is (Some row ∷ rows) (suc k) x is below =
    let wrong : Some row ≡ None = below zero (omega arith) in absurd cc

-- What is left once the variable is empty.
owned_set : (slots : List Slot) (rows : List (Option ℕ)) (k : ℕ)
    → slice_set (owned_rows slots rows) k None ≡ owned_rows slots (slice_set rows k None)
owned_set [] rows k = refl
owned_set (var ∷ slots) [] k = refl
owned_set (var ∷ slots) (row ∷ rows) zero = elim (cases_Bool (is_owned var)) [
  | inl is ↦ ap (λ (b : Bool). None ∷ owned_rows slots rows) is
      ∙ sym (ap (λ (b : Bool). cond b None None ∷ owned_rows slots rows) is)
  | inr is ↦ ap (λ (b : Bool). None ∷ owned_rows slots rows) is
      ∙ sym (ap (λ (b : Bool). cond b None None ∷ owned_rows slots rows) is)
]
owned_set (var ∷ slots) (row ∷ rows) (suc k) =
    ap (λ (rest : List (Option ℕ)). cond (is_owned var) row None ∷ rest) (owned_set slots rows k)

none_named : (rows : List (Option ℕ)) (n : ℕ) → length rows ≤ n → ((i : ℕ) → i < n → row_of rows i ≡ None)
    → list_any is_some rows ≡ false
none_named [] n long each = refl
none_named (row ∷ rows) zero long each = absurd (omega (arith, long))
none_named (row ∷ rows) (suc n) long each =
    ap (λ (o : Option ℕ). is_some o || list_any is_some rows) (each zero (omega arith))
    ∙ none_named rows n (omega (arith, long)) (λ i low. each (suc i) (omega (arith, low)))

-- Where all variables are empty that own something, nothing is left to give up.
pub nothing_left : (slots : List Slot) (rows : List (Option ℕ)) → length rows ≡ 16
    → ((i : ℕ) → i < 16 → row_of (owned_rows slots rows) i ≡ None) → list_any is_some (owned_rows slots rows) ≡ false
nothing_left slots rows long each =
    let less = owned_long slots rows in none_named (owned_rows slots rows) 16 (omega (arith, less, long)) each

none_set : (rows : List (Option ℕ)) (k : ℕ) → row_of (slice_set rows k None) k ≡ None
none_set [] k = refl
none_set (row ∷ rows) zero = refl
none_set (row ∷ rows) (suc k) = none_set rows k

-- A variable that has given up what it owned has nothing to give up; the others have what they had.
pub emptied_left : (slots : List Slot) (rows : List (Option ℕ)) (k i : ℕ) → i < suc k
    → ((j : ℕ) → j < k → row_of (owned_rows slots rows) j ≡ None)
    → row_of (owned_rows slots (slice_set rows k None)) i ≡ None
emptied_left slots rows k i low below =
    subst (λ (l : List (Option ℕ)). row_of l i ≡ None) (owned_set slots rows k)
    (elim (eq-or-lt_of_le {n = i} {m = k} (omega (arith, low))) [
      | inl this ↦ subst (λ (j : ℕ). row_of (slice_set (owned_rows slots rows) k None) j ≡ None) (sym this)
          (none_set (owned_rows slots rows) k)
      | inr less ↦ row_of-set_other (owned_rows slots rows) k i None (λ same. omega (arith, same, less)) ∙ below i less
    ])

-- Nor has a variable that owns nothing.
pub unowned_left : (slots : List Slot) (rows : List (Option ℕ)) (k i : ℕ) → i < suc k
    → is_owned (slice_index_or slots k Empty) ≡ false
    → ((j : ℕ) → j < k → row_of (owned_rows slots rows) j ≡ None) → row_of (owned_rows slots rows) i ≡ None
unowned_left slots rows k i low bare below = elim (eq-or-lt_of_le {n = i} {m = k} (omega (arith, low))) [
  | inl this ↦
      subst (λ (j : ℕ). row_of (owned_rows slots rows) j ≡ None) (sym this)
      (elim (row_of (owned_rows slots rows) k) as (λ o. row_of (owned_rows slots rows) k ≡ o → o ≡ None) [
        | None ↦ λ is. refl
        | Some x ↦ λ is.
            let wrong : true ≡ false = sym ((owned_exactly slots rows k x).0 is).0 ∙ bare in absurd cc
      ] refl)
  | inr less ↦ below i less
]

settles_behind : (b : Bool) → cond b [] (Settle ∷ []) ≡ settle_if (not b)
settles_behind true = refl
settles_behind false = refl

-- ---- what a stopped thread does

-- Calls that give up nothing come to nothing.
idle_is : (calls : List (List (Option ℕ))) → holds_some calls ≡ false → stopping None calls ≡ Idle 0
idle_is calls bare = ap (λ (b : Bool). cond b (Stopping None calls) (Idle 0)) bare

stopping_is : (calls : List (List (Option ℕ))) → holds_some calls ≡ true → stopping None calls ≡ Stopping None calls
stopping_is calls some = ap (λ (b : Bool). cond b (Stopping None calls) (Idle 0)) some

module _ (program : Program) (p : Place) (v : View) (slots : List Slot) (outer : List (List (Option ℕ))) where
  -- The thread has come from the place to where it has these rows still to give up, and then the calls further out.
  -- Only behind the last reference it has to settle.
  pub record Stops (rows : List (Option ℕ)) (u : View) : Type 0 where
    pub left : List (List (Option ℕ))
    pub same : give_up left ≡ give_up (owned_rows slots rows ∷ outer)
    pub some : holds_some left ≡ holds_some (owned_rows slots rows ∷ outer)
    pub works : WorksOn (not (holds_some (owned_rows slots rows ∷ outer))) 0 [] program p [] v (stopping None left) u

  -- It gives up the first one.
  first_given : (rows : List (Option ℕ)) (k x : ℕ) (left : List (List (Option ℕ)))
      → give_up left ≡ give_up (owned_rows slots rows ∷ outer) → holds_some left ≡ true
      → row_of (owned_rows slots rows) k ≡ Some x
      → ((i : ℕ) → i < k → row_of (owned_rows slots rows) i ≡ None) → (layout : Layout) (t used : ℕ)
      → dispatch_in layout t used program (stopping None left)
      ≡ Does (ReleaseLoad x (ByVariable (length outer) k))
      (settle_if (not (holds_some (owned_rows slots (slice_set rows k None) ∷ outer))))
      (always (stopping None (owned_rows slots (slice_set rows k None) ∷ outer)))
  first_given rows k x left same named is below layout t used =
      let own = owned_rows slots rows in
      let some = some_named own k x is in
      let after = λ (l : List (Option ℕ)). l ∷ outer in
      let does = λ (n : ℕ) (o : Option ℕ) (l : List (Option ℕ)).
      with_row o (λ (row : ℕ). Does (ReleaseLoad row (ByVariable (length outer) n))
      (cond (holds_some (after l)) [] (Settle ∷ [])) (always (stopping None (after l)))) in
      ap (dispatch_in layout t used program) (stopping_is left named)
      ∙ (same
      ∙ (ap (λ (b : Bool). cond b (give_up_first own outer) (give_up outer)) some
      ∙ (ap (λ (n : ℕ). does n (row_of own n) (slice_set own n None)) (first_is own k x is below)
      ∙ (ap (λ (o : Option ℕ). does k o (slice_set own k None)) is
      ∙ (ap (λ (l : List (Option ℕ)). does k (Some x) l) (owned_set slots rows k)
      ∙ ap (λ (ds : List Duty). Does (ReleaseLoad x (ByVariable (length outer) k)) ds
      (always (stopping None (owned_rows slots (slice_set rows k None) ∷ outer))))
      (settles_behind (holds_some (owned_rows slots (slice_set rows k None) ∷ outer))))))))

  -- A thread with something to give up has nothing to settle yet.
  nothing_later : (rows : List (Option ℕ)) (u : View) (on : Stops rows u) → u.actor.agenda ≡ []
      → holds_some (owned_rows slots rows ∷ outer) ≡ true → Traces 0 [] program p [] v (stopping None on.left) [] u
  nothing_later rows u on none some =
      let q = stopping None on.left in
      with_duties program p q [] (ready u.actor.head []) [] v u (no_duty u.actor.head)
      (with_agenda program p [] v q u [] none
      (subst (λ (b : Bool). WorksOn (not b) 0 [] program p [] v q u) some on.works))

  -- Another one is given up.
  pub stops_on : (rows after_rows : List (Option ℕ)) (k : ℕ) (u w : View) → Stops rows u → u.actor.agenda ≡ []
      → (loosens : Loosens k rows u after_rows w) → row_of (owned_rows slots rows) k ≡ Some loosens.row
      → ((i : ℕ) → i < k → row_of (owned_rows slots rows) i ≡ None) → Stops after_rows w
  stops_on rows after_rows k u w on none loosens is below =
      let x = loosens.row in
      let word = loosens.word in
      let holding = ByVariable (length outer) k in
      let left = slice_set rows k None in
      let q = stopping None on.left in
      let next = stopping None (owned_rows slots left ∷ outer) in
      let later = not (holds_some (owned_rows slots left ∷ outer)) in
      let references = without_reference u.layout x u.references in
      let some : holds_some (owned_rows slots rows ∷ outer) ≡ true =
      ap (λ (b : Bool). b || holds_some outer) (some_named (owned_rows slots rows) k x is) in
      let named = on.some ∙ some in
      let so_far = nothing_later rows u on none some in
      let first = λ (n : ℕ).
      traces_behind program p q next [] [] _ v u (view_after (releasing u x) n) so_far
      (traces_then program q q next [] [] _ u (releasing u x) (view_after (releasing u x) n)
      (turns_to program q [] (ReleaseLoad x AsCaller ∷ []) u references u.in_field none)
      (subst (λ (r : Place). Traces (begun_at r) [] program q [] (releasing u x) next
      (next_duties (releasing u x) (ReleaseLoad x holding) (settle_if later) n) (view_after (releasing u x) n))
      (stopping_is on.left named)
      (starts_with program q (releasing u x) (ReleaseLoad x holding) (ReleaseLoad x AsCaller) (settle_if later) [] n
      (load_same x holding u n) (always next)
      (first_given rows k x on.left on.same named is below u.layout u.thread u.actor.used) refl))) in
      subst (λ (rs : List (Option ℕ)). Stops rs w) (sym loosens.emptied) (record {
        left = owned_rows slots left ∷ outer;
        same = refl;
        some = refl;
        works = works_on program p [] v next [] (released_locally u x word) [] w
            (stores program p [] v next holding x u later first word) loosens.works.works;
      })

  -- Once the call has nothing left to give up, the thread goes on with the calls further out.
  pub stops_off : (rows : List (Option ℕ)) (u : View) → Stops rows u
      → list_any is_some (owned_rows slots rows) ≡ false → u.actor.agenda ≡ [] → GivesUpTo program p v outer u
  stops_off rows u on bare none = record {
    left = on.left;
    same = on.same ∙ ap (λ (b : Bool). cond b (give_up_first (owned_rows slots rows) outer) (give_up outer)) bare;
    some = on.some ∙ ap (λ (b : Bool). b || holds_some outer) bare;
    traces = subst (λ (b : Bool). Traces 0 [] program p [] v (stopping None on.left)
        (ready u.actor.head (settle_if (not (b || holds_some outer)))) u) bare
        (with_agenda program p [] v (stopping None on.left) u [] none on.works);
  }

  -- It begins with the call's own.
  pub stops_first : (rows : List (Option ℕ)) (u : View) → GivesUpTo program p v (owned_rows slots rows ∷ outer) u
      → u.actor.agenda ≡ [] → Stops rows u
  stops_first rows u to none = record {
    left = to.left;
    same = to.same;
    some = to.some;
    works = record {
      traces = with_duties program p (stopping None to.left) []
          (ready u.actor.head (settle_if (not (holds_some (owned_rows slots rows ∷ outer))))) _ v u
          (sym (ap (λ (ds : List Duty). behind_of u.actor.head ds
          (settle_if (not (holds_some (owned_rows slots rows ∷ outer))))) none)) to.traces;
      off = ap are_off_fields none;
    };
  }

-- A thread that has just stopped, with nothing to settle, has all calls to give up.
pub gives_up_first : (program : Program) (v u : View) (p : Place) (calls : List (List (Option ℕ)))
    → u.actor.head ≡ 0 → MakesTrace 0 [] program p v (stopping None calls) u → GivesUpTo program p v calls u
gives_up_first program v u p calls empty traces =
    let later = not (holds_some calls) in
    record {
      left = calls;
      same = refl;
      some = refl;
      traces = with_duties program p (stopping None calls) [] [] _ v u
          (sym (ap (λ (head : ℕ). ready head (settle_if later)) empty ∙ nothing_behind later)) traces;
    }

-- Once nothing is left to give up the hand settles, and its thread is done with its calls.
pub stops_last : (program : Program) (p : Place) (v : View) (cs : List HostCall) (u w : View)
    → GivesUpTo program p v [] u → u.actor.agenda ≡ [] → HasWorked (to_settle [] u) cs [] w
    → w.actor.head ≡ 0 → MakesTrace 0 cs program p v (Idle 0) w
stops_last program p v cs u w to none settled empty =
    let q = stopping None to.left in
    let on : WorksOn true 0 [] program p [] v q u = record {
      traces = with_duties program p q [] (ready u.actor.head (Settle ∷ [])) _ v u
          (sym (ap (λ (ds : List Duty). behind_of u.actor.head ds (Settle ∷ [])) none)) to.traces;
      off = ap are_off_fields none;
    } in
    subst (λ (r : Place). MakesTrace 0 cs program p v r w) (idle_is to.left to.some)
    (worked_off program p [] v q w (settled.agenda ∙ no_duty w.actor.head) empty
    (works_on program p [] v q [] (to_settle [] u) cs w (comes_to_settle program p [] v q u none on) settled.works))
