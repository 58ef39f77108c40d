-- A hand that gives birth to an object makes the events of its thread.
use Rattle.std.proofs.Common.{◌≡◌, ℕ, zero, suc, ◌+◌, ◌≤◌, Bool, true, false, cond, List, [], ◌∷◌, ◌++◌, Option, None, Some, append_assoc, append-nil, refl, sym, ap, ◌∙◌, subst}
use Rattle.std.specs.Prelude.{slice_get, slice_set}
use Rattle.brc_lang.specs.declared.module.Instr.{Instr}
use Rattle.brc_lang.specs.declared.module.Instr.TheVariants as instructions
use Rattle.brc_host.specs.HostCalls.{HostCall}
use Rattle.brc_host.specs.HostCalls as asked
use Rattle.brc_model.specs.Actions.{Action, Does, Silent, always, number_word, list_word, birth_action, by_variable}
use Rattle.brc_model.specs.Duties.{ready, has_resource}
use Rattle.brc_model.specs.declared.actor.Actor.{Actor}
use Rattle.brc_model.specs.Machine.{has_room}
use Rattle.brc_model.specs.declared.actor.Context.{Context}
use Rattle.brc_model.specs.declared.actor.Place.{Place}
use Rattle.brc_model.specs.declared.actor.Place.TheVariants.{InCall, Inside}
use Rattle.brc_model.specs.declared.actor.Stage.TheVariants.{Granted}
use Rattle.brc_model.specs.declared.duty.Duty.{Duty}
use Rattle.brc_model.specs.declared.duty.Duty.TheVariants.{BirthKind, BirthField, BirthLocal}
use Rattle.brc_model.specs.declared.duty.Holding.{Holding}
use Rattle.brc_model.specs.declared.duty.Holding.TheVariants.{AsCaller}
use Rattle.brc_model.specs.declared.state.Exit.TheVariants.{Success, Fault}
use Rattle.brc_model.specs.declared.event.WordEvent.{WordEvent}
use Rattle.brc_table.specs.declared.view.View.{View}
use Rattle.brc_table.specs.Views.{view_by, view_after, bearing, next_row, field_filled, field_filled_by, with_next}
use Rattle.brc_heap.specs.Calls.{born}
use Rattle.brc_model.specs.Trace.{events_of}
use Rattle.brc_work.specs.Traces.{Program, function_under, dispatch_in, Makes, Refl, Reads, Continues, Traces, MakesTrace, thread_with, begun_at, has_read}
use Rattle.brc_work.specs.Performs.{Performs, MakesBirth}
use Rattle.brc_work.proofs.Traces.Joining.{no_trace, quietly, turns_to, traces_then, traces_behind, traces_before, with_duties}
use Rattle.brc_work.proofs.Traces.Duties.{comes_next, no_duty, IsSame, next_duties, starts_with, continues_with, same_thread}
use Rattle.brc_work.proofs.Traces.Places.{begins, begins_one}
use Rattle.brc_work.proofs.Traces.Starting.{goes_silently}

-- what comes next after the store of the kind word
abbrev pub birth_next : Bool → ℕ → Holding → List Duty
birth_next has x holding = cond has (BirthField x holding ∷ []) (BirthLocal x holding ∷ [])

-- the hand before it stores the first local word
abbrev pub begun : View → ℕ → View
begun v word = with_next (view_after (bearing v word) 0) (BirthLocal (next_row v) AsCaller ∷ [])

filled_is : (has : Bool) (head x : ℕ) (u : View) → u.actor.agenda ≡ ready head (birth_next has x AsCaller ++ [])
    → field_filled u ≡ with_next u (BirthLocal x AsCaller ∷ [])
filled_is true zero x u is = ap (λ (ds : List Duty). field_filled_by ds u) is
filled_is true (suc head) x u is = ap (λ (ds : List Duty). field_filled_by ds u) is
filled_is false zero x u is =
    ap (λ (ds : List Duty). field_filled_by ds u) is ∙ ap (with_next u) is
filled_is false (suc head) x u is =
    ap (λ (ds : List Duty). field_filled_by ds u) is ∙ ap (with_next u) is

-- A birth is two stores.
born_is : (v : View) (word : ℕ) → born v word ≡ view_by (begun v word) (BirthLocal (next_row v) AsCaller ∷ []) 0
born_is v word =
    ap (λ (u : View). view_after u 0)
    (filled_is (has_resource word) v.actor.head (next_row v) (view_after (bearing v word) 0) refl)

-- The thread puts the resource into the field, if the object has one: by this no word changes.
fills : (has : Bool) (program : Program) (q : Place) (x : ℕ) (holding : Holding) (u : View)
    → Traces 0 [] program q (ready u.actor.head (birth_next has x holding ++ [])) u q (BirthLocal x holding ∷ []) u
fills true program q x holding u =
    let filled : Traces 0 [] program q (BirthField x holding ∷ []) u q (ready u.actor.head
    (BirthLocal x holding ∷ [])) u =
    record {
      events = [];
      trace = sym (append-nil u.trace);
      makes = Continues 0 [] [] q (thread_with u (BirthField x holding ∷ []))
          (BirthField x holding) [] 0 Refl refl refl;
      layout = refl;
      thread = refl;
    } in
    subst (λ (ds : List Duty). Traces 0 [] program q ds u q (BirthLocal x holding ∷ []) u)
    (sym (comes_next u.actor.head (BirthField x holding) [] refl))
    (with_duties program q q (BirthField x holding ∷ []) _ (BirthLocal x holding ∷ []) u u
    (comes_next u.actor.head (BirthLocal x holding) [] refl) filled)
fills false program q x holding u =
    subst (λ (ds : List Duty). Traces 0 [] program q ds u q (BirthLocal x holding ∷ []) u)
    (sym (comes_next u.actor.head (BirthLocal x holding) [] refl)) (no_trace program q (BirthLocal x holding ∷ []) u)

birth_same : (v : View) (word : ℕ) (holding : Holding)
    → IsSame (bearing v word) (BirthKind (next_row v) holding word) (BirthKind (next_row v) AsCaller word) 0
birth_same v word holding =
    record { event = refl; status = refl; head = refl; used = refl; locked = refl; lent = refl }

-- After the store of the kind word the thread stores the first local word.
born_after : {n : ℕ} {cs : List HostCall} (program : Program) (p q : Place) (v : View) (word : ℕ) (holding : Holding)
    → Traces n cs program p [] v q (next_duties (bearing v word) (BirthKind (next_row v) holding word) [] 0)
    (view_after (bearing v word) 0)
    → MakesTrace n cs program p v q (born v word)
born_after {n} {cs} program p q v word holding first =
    let x = next_row v in
    let bears = bearing v word in
    let stored = view_after bears 0 in
    let filled = begun v word in
    let duties = next_duties bears (BirthKind x holding word) [] 0 in
    let locally = BirthLocal x holding ∷ [] in
    let last = view_by filled (BirthLocal x AsCaller ∷ []) 0 in
    subst (MakesTrace n cs program p v q) (sym (born_is v word))
    (traces_behind program p q q [] duties [] v stored last first
    (traces_then program q q q duties locally [] stored filled last
    (traces_then program q q q duties locally locally stored stored filled
    (fills (has_resource word) program q x holding stored)
    (quietly program q locally stored filled refl refl refl refl))
    (with_duties program q q locally _ [] filled last (no_duty v.actor.head)
    (continues_with program q filled (BirthLocal x holding) (BirthLocal x AsCaller) [] [] 0
    (record { event = refl; status = refl; head = refl; used = refl; locked = refl; lent = refl }) refl))))

-- A hand without work turns to a birth.
turns_to_birth : {n : ℕ} {cs : List HostCall} (program : Program) (p q : Place) (v : View) (word : ℕ) → v.actor.agenda
    ≡ []
    → MakesTrace n cs program p v q v → MakesTrace n cs program p v q (bearing v word)
turns_to_birth program p q v word none one =
    let x = next_row v in
    traces_behind program p q q [] [] [] v v (bearing v word) one
    (turns_to program q [] (BirthKind x AsCaller word ∷ []) v (x ∷ v.references) v.in_field none)

-- The birth of what `read` has read.
reads : (program : Program) (place : Place) (context : Context) (at : ℕ) (rows : List (Option ℕ)) (v : View)
    (to file most otherwise count : ℕ) → v.actor.agenda ≡ []
    → slice_get (function_under program context.outer).code at ≡ Some (instructions.Read to file most otherwise)
    → count ≤ most
    → MakesTrace 1 (asked.Read most (Some count) ∷ []) program place v (Inside context at rows Granted) v
    → Traces 1 (asked.Read most (Some count) ∷ []) program place [] v
    (InCall context (at + 1) (slice_set rows to (Some (next_row v))))
    (next_duties (bearing v (number_word count)) (BirthKind (next_row v) (by_variable context to) (number_word count))
    [] 0)
    (view_after (bearing v (number_word count)) 0)
reads program place context at rows v to file most otherwise count none found few got =
    let u = bearing v (number_word count) in
    let d = BirthKind (next_row v) (by_variable context to) (number_word count) in
    let e = BirthKind (next_row v) AsCaller (number_word count) in
    let p = Inside context at rows Granted in
    let q = InCall context (at + 1) (slice_set rows to (Some (next_row v))) in
    let events = events_of u.layout u.thread (thread_with u []) d 0 in
    let same = birth_same v (number_word count) (by_variable context to) in
    let one = turns_to_birth program place p v (number_word count) none got in
    record {
      events = one.events ++ events;
      trace = ap (λ (es : List WordEvent). u.trace ++ es) (sym same.event)
          ∙ (ap (λ (es : List WordEvent). es ++ events) one.trace ∙ append_assoc v.trace one.events events);
      makes = subst (λ (a : Actor). Makes v.layout v.thread program place (thread_with v []) 1
          (asked.Read most (Some count) ∷ []) (one.events ++ events) q a)
          (same_thread program q u d e [] [] 0 same)
          (Reads 1 [] one.events context at rows (thread_with u []) to file most otherwise count 0 one.makes refl found
          few);
      layout = one.layout;
      thread = one.thread;
    }

-- A hand gives birth to an object.
pub bears : (to word : ℕ) (rows after_rows : List (Option ℕ)) (v u : View) → v.actor.agenda ≡ [] → u ≡ born v word
    → after_rows ≡ slice_set rows to (Some (next_row v)) → MakesBirth to word rows v after_rows u
bears to word rows after_rows v u none is named = record {
  named = named;
  first = λ program place next holding starts new.
      subst (MakesTrace (begun_at place) [] program place v next) (sym is)
      (born_after program place next v word holding
      (traces_before program place place next [] [] _ v (bearing v word) (view_after (bearing v word) 0)
      (turns_to_birth program place place v word none (no_trace program place [] v))
      (starts_with program place (bearing v word) (BirthKind (next_row v) holding word)
      (BirthKind (next_row v) AsCaller word) [] [] 0 (birth_same v word holding) (always next) starts new)));
  read = λ program place context at file most otherwise count found few counts got.
      let cs = asked.Read most (Some count) ∷ [] in
      let next = λ (rs : List (Option ℕ)). InCall context (at + 1) rs in
      subst (λ (rs : List (Option ℕ)). MakesTrace 1 cs program place v (next rs) u) (sym named)
      (subst (λ (w : View). MakesTrace 1 cs program place v (next (slice_set rows to (Some (next_row v)))) w)
      (sym (is ∙ ap (born v) counts))
      (born_after program place (next (slice_set rows to (Some (next_row v)))) v (number_word count)
      (by_variable context to)
      (reads program place context at rows v to file most otherwise count none found few got)));
}

-- ---- instructions

module _ (to otherwise word : ℕ) (i : Instr) (rows after_rows : List (Option ℕ)) (v u : View) where
  -- An instruction that makes an object, if the hand's block has room for it.
  pub makes_object : has_room v.layout v.thread v.actor.used ≡ true → MakesBirth to word rows v after_rows u
      → (program : Program) (place : Place) (context : Context) (at : ℕ)
      → dispatch_in v.layout v.thread v.actor.used program place
      ≡ birth_action v.layout v.thread v.actor.used context at rows to word otherwise
      → has_read program place ≡ false
      → MakesTrace (begun_at place) [] program place v (InCall context (at + 1) after_rows) u
  makes_object room birth program place context at is new =
      let goes = λ (b : Bool).
      cond b (Does (BirthKind (next_row v) (by_variable context to) word) []
      (always (InCall context (at + 1) (slice_set rows to (Some (next_row v))))))
      (Silent [] (InCall context otherwise (slice_set rows to None))) in
      subst (λ (rs : List (Option ℕ)). MakesTrace (begun_at place) [] program place v (InCall context (at + 1) rs) u)
      (sym birth.named)
      (birth.first program place (InCall context (at + 1) (slice_set rows to (Some (next_row v))))
      (by_variable context to) (is ∙ ap goes room) new)

-- An instruction that needs room for an object goes on at `otherwise` without it.
pub makes_no_object : (to otherwise : ℕ) (rows after_rows : List (Option ℕ)) (v : View)
    → has_room v.layout v.thread v.actor.used ≡ false → after_rows ≡ slice_set rows to None
    → (work : Action) (program : Program) (place : Place) (context : Context)
    → dispatch_in v.layout v.thread v.actor.used program place
    ≡ cond (has_room v.layout v.thread v.actor.used) work
    (Silent [] (InCall context otherwise (slice_set rows to None)))
    → MakesTrace (begun_at place) [] program place v (InCall context otherwise after_rows) v
makes_no_object to otherwise rows after_rows v room named work program place context is =
    let goes = λ (b : Bool). cond b work (Silent [] (InCall context otherwise (slice_set rows to None))) in
    subst (λ (rs : List (Option ℕ)). MakesTrace (begun_at place) [] program place v (InCall context otherwise rs) v)
    (sym named)
    (goes_silently program place v (InCall context otherwise (slice_set rows to None)) [] (is ∙ ap goes room))

pub makes_num : (to value otherwise : ℕ) (rows after_rows : List (Option ℕ)) (v u : View)
    → has_room v.layout v.thread v.actor.used ≡ true → MakesBirth to (number_word value) rows v after_rows u
    → Performs [] (instructions.Num to value otherwise) Success rows v after_rows u
makes_num to value otherwise rows after_rows v u room birth = λ program place context at before.
    let i = instructions.Num to value otherwise in
    begins_one before
    (makes_object to otherwise (number_word value) i rows after_rows v u room birth program place context at
    (begins i program place context at rows before v.layout v.thread v.actor.used) before.comes.begins)

pub makes_no_num : (to value otherwise : ℕ) (rows after_rows : List (Option ℕ)) (v : View)
    → has_room v.layout v.thread v.actor.used ≡ false → after_rows ≡ slice_set rows to None
    → Performs [] (instructions.Num to value otherwise) Fault rows v after_rows v
makes_no_num to value otherwise rows after_rows v room named = λ program place context at before.
    let i = instructions.Num to value otherwise in
    begins_one before (makes_no_object to otherwise rows after_rows v room named _ program place context
    (begins i program place context at rows before v.layout v.thread v.actor.used))

pub makes_list : (to cells otherwise : ℕ) (rows after_rows : List (Option ℕ)) (v u : View)
    → has_room v.layout v.thread v.actor.used ≡ true → MakesBirth to (list_word cells) rows v after_rows u
    → Performs [] (instructions.List to cells otherwise) Success rows v after_rows u
makes_list to cells otherwise rows after_rows v u room birth = λ program place context at before.
    let i = instructions.List to cells otherwise in
    begins_one before
    (makes_object to otherwise (list_word cells) i rows after_rows v u room birth program place context at
    (begins i program place context at rows before v.layout v.thread v.actor.used) before.comes.begins)

pub makes_no_list : (to cells otherwise : ℕ) (rows after_rows : List (Option ℕ)) (v : View)
    → has_room v.layout v.thread v.actor.used ≡ false → after_rows ≡ slice_set rows to None
    → Performs [] (instructions.List to cells otherwise) Fault rows v after_rows v
makes_no_list to cells otherwise rows after_rows v room named = λ program place context at before.
    let i = instructions.List to cells otherwise in
    begins_one before (makes_no_object to otherwise rows after_rows v room named _ program place context
    (begins i program place context at rows before v.layout v.thread v.actor.used))
