-- `open`, `connect`, `read` and `write`, which call the host.
use Rattle.std.proofs.Common.{◌≡◌, ℕ, ◌+◌, ◌≤◌, Bool, true, false, cond, List, [], ◌∷◌, ◌++◌, Option, None, Some, append-nil, refl, sym, ap, ◌∙◌, subst, arith}
use Rattle.std.specs.Prelude.{slice_get, slice_set}
use Rattle.std.specs.Fmt.{decimal}
use Rattle.brc_word.specs.Words.{argument_part}
use Rattle.brc_host.specs.HostCalls.{HostCall, has_failed}
use Rattle.brc_host.specs.HostCalls as asked
use Rattle.brc_lang.specs.declared.mode.Mode.{Mode}
use Rattle.brc_lang.specs.declared.module.Instr.{Instr}
use Rattle.brc_lang.specs.declared.module.Instr.TheVariants as instructions
use Rattle.brc_model.specs.Actions.{Silent, Calls, Does, always, by_exit, with_row, number_word, file_word, sock_word, grant_action, granted_birth, lend_action, return_action, dispatch_instruction, dispatch_inside, by_variable}
use Rattle.brc_model.specs.declared.actor.Actor.{Actor}
use Rattle.brc_model.specs.Machine.{has_room, actor_by}
use Rattle.brc_model.specs.SlotStates.{target}
use Rattle.brc_model.specs.Threads.{row_of}
use Rattle.brc_model.specs.declared.actor.Context.{Context}
use Rattle.brc_model.specs.declared.actor.Place.{Place}
use Rattle.brc_model.specs.declared.actor.Place.TheVariants.{InCall, Inside}
use Rattle.brc_model.specs.declared.actor.Stage.TheVariants.{Loaded, Lent, Called, Granted}
use Rattle.brc_model.specs.declared.duty.Duty.{Duty}
use Rattle.brc_model.specs.declared.duty.Duty.TheVariants.{KindLoad, LendField, ReturnField}
use Rattle.brc_model.specs.declared.layout.Layout.{Layout}
use Rattle.brc_model.specs.declared.state.Exit.{Exit}
use Rattle.brc_model.specs.declared.state.Exit.TheVariants.{Success, Fault}
use Rattle.brc_model.specs.declared.event.WordEvent.{WordEvent}
use Rattle.brc_table.specs.declared.view.View.{View}
use Rattle.brc_table.specs.Views.{view_after, asking, next_row}
use Rattle.brc_work.specs.Traces.{Program, function_under, dispatch_in, Makes, Asks, Dispatches, Requests, ForBytes, ForLine, MakesTrace, thread_with, exit_of, begun_at, is_read}
use Rattle.brc_work.specs.Performs.{IsBefore, Performs, MakesBirth, place_after}
use Rattle.brc_work.proofs.Traces.Joining.{no_trace, traces_behind}
use Rattle.brc_work.proofs.Traces.Duties.{no_duty}
use Rattle.brc_work.proofs.Traces.Places.{begins, begins_with, goes_on, begins_one}
use Rattle.brc_work.proofs.Traces.Starting.{kind_event, asks_kind_once, calls_host}
use Rattle.brc_work.proofs.Traces.Births.{makes_no_object}

-- ---- a new resource

-- The instruction asks the host for a resource, of which it makes an object with this kind word in the variable.
pub record AsksFor (i : Instr) (to otherwise word : ℕ) : Type 0 where
  pub asks : (layout : Layout) (t used : ℕ) (place : Place) (context : Context) (at : ℕ) (rows : List (Option ℕ))
      → dispatch_instruction layout t used place context at rows (Some i)
      ≡ grant_action layout t used context at rows to otherwise
  pub bears : (layout : Layout) (t used : ℕ) (context : Context) (at : ℕ) (rows : List (Option ℕ))
      → dispatch_inside layout t used context at rows Granted (Some i)
      ≡ granted_birth layout t used context at rows to word
  pub succeeds : (at : ℕ) → target i Success at ≡ Some (at + 1)
  pub faults : (at : ℕ) → target i Fault at ≡ Some otherwise
  pub reads_nothing : is_read (Some i) ≡ false

-- `open` does,
pub asks_open : (to path : ℕ) (mode : Mode) (otherwise : ℕ)
    → AsksFor (instructions.Open to path mode otherwise) to otherwise file_word
asks_open to path mode otherwise = record {
  asks = λ layout t used place context at rows. refl;
  bears = λ layout t used context at rows. refl;
  succeeds = λ at. refl;
  faults = λ at. refl;
  reads_nothing = refl;
}

-- and so does `connect`.
pub asks_connect : (to peer otherwise : ℕ) → AsksFor (instructions.Connect to peer otherwise) to otherwise sock_word
asks_connect to peer otherwise = record {
  asks = λ layout t used place context at rows. refl;
  bears = λ layout t used context at rows. refl;
  succeeds = λ at. refl;
  faults = λ at. refl;
  reads_nothing = refl;
}

module _ (i : Instr) (to otherwise word : ℕ) (is : AsksFor i to otherwise word) (rows after_rows : List (Option ℕ))
    (v : View) where
  -- If the hand's block has room for the object, the thread calls the host, and goes on where the answer says.
  asks_host : has_room v.layout v.thread v.actor.used ≡ true → (call : HostCall) → Requests [] i call
      → (program : Program) (place : Place) (context : Context) (at : ℕ) → IsBefore i program place context at rows
      → MakesTrace 1 (call ∷ []) program place v
      (by_exit (Inside context at rows Granted) (InCall context otherwise (slice_set rows to None)) (exit_of call)) v
  asks_host room call asks program place context at before =
      let after =
      by_exit (Inside context at rows Granted) (InCall context otherwise (slice_set rows to None)) in
      begins_one before (calls_host program place v None after i call
      (begins i program place context at rows before v.layout v.thread v.actor.used
      ∙ (is.asks v.layout v.thread v.actor.used place context at rows
      ∙ ap (λ (b : Bool). cond b (Calls None after) (Silent [] (InCall context otherwise (slice_set rows to None))))
      room))
      (before.comes.names ∙ before.found) asks)

  -- The host grants the resource,
  pub grants : (u : View) (call : HostCall) → Requests [] i call → has_failed call ≡ false
      → has_room v.layout v.thread v.actor.used ≡ true → MakesBirth to word rows v after_rows u
      → Performs (call ∷ []) i Success rows v after_rows u
  grants u call asks succeeds room birth = λ program place context at before.
      let granted = Inside context at rows Granted in
      let refused = InCall context otherwise (slice_set rows to None) in
      let next = λ (rs : List (Option ℕ)). InCall context (at + 1) rs in
      let calls = call ∷ [] in
      subst (λ (o : Option ℕ). MakesTrace 1 calls program place v (place_after context o after_rows) u)
      (sym (is.succeeds at))
      (subst (λ (rs : List (Option ℕ)). MakesTrace 1 calls program place v (next rs) u) (sym birth.named)
      (traces_behind program place granted (next (slice_set rows to (Some (next_row v)))) [] [] [] v v u
      (subst (λ (b : Bool). MakesTrace 1 calls program place v (by_exit granted refused
      (cond b Fault Success)) v) succeeds
      (asks_host room call asks program place context at before))
      (birth.first program granted (next (slice_set rows to (Some (next_row v)))) (by_variable context to)
      (goes_on i program place context at rows before v.layout v.thread v.actor.used Granted
      ∙ is.bears v.layout v.thread v.actor.used context at rows)
      (ap is_read before.found ∙ is.reads_nothing))))

  -- or refuses it,
  pub refuses : (call : HostCall) → Requests [] i call → has_failed call ≡ true
      → has_room v.layout v.thread v.actor.used ≡ true → after_rows ≡ slice_set rows to None
      → Performs (call ∷ []) i Fault rows v after_rows v
  refuses call asks fails room named = λ program place context at before.
      let granted = Inside context at rows Granted in
      let refused = InCall context otherwise (slice_set rows to None) in
      let calls = call ∷ [] in
      subst (λ (o : Option ℕ). MakesTrace 1 calls program place v (place_after context o after_rows) v)
      (sym (is.faults at))
      (subst (λ (rs : List (Option ℕ)). MakesTrace 1 calls program place v (InCall context otherwise rs) v) (sym named)
      (subst (λ (b : Bool). MakesTrace 1 calls program place v (by_exit granted refused (cond b Fault Success)) v) fails
      (asks_host room call asks program place context at before)))

  -- or isn't asked, since there is no room for the object.
  pub asks_nothing : has_room v.layout v.thread v.actor.used ≡ false → after_rows ≡ slice_set rows to None
      → Performs [] i Fault rows v after_rows v
  asks_nothing room named = λ program place context at before.
      subst (λ (o : Option ℕ). MakesTrace 1 [] program place v (place_after context o after_rows) v) (sym
      (is.faults at))
      (begins_one before (makes_no_object to otherwise rows after_rows v room named _ program place context
      (begins i program place context at rows before v.layout v.thread v.actor.used
      ∙ is.asks v.layout v.thread v.actor.used place context at rows)))

-- ---- a resource that is lent

no_more_begins : (n : ℕ) → (n + 0) + 0 ≡ n
no_more_begins n = omega arith

module _ (program : Program) (context : Context) (at : ℕ) (rows : List (Option ℕ)) (file row : ℕ)
    (names : row_of rows file ≡ Some row) (v u : View) where
  -- A thread takes the resource out of its field for a call of the host, and puts it back however the call ends. Its
  -- hand makes no step on a word meanwhile. If the thread is before an instruction, that has begun with it.
  lends : {n : ℕ} (start p q : Place) (i : Instr) (call : HostCall) (one : MakesTrace n [] program start v p u)
      → slice_get (function_under program context.outer).code at ≡ Some i → Requests one.events i call
      → dispatch_in v.layout v.thread u.actor.used program p ≡ lend_action context at rows file
      → dispatch_in v.layout v.thread u.actor.used program (Inside context at rows Lent)
      ≡ Calls (row_of rows file) (λ e. Inside context at rows (Called e))
      → dispatch_in v.layout v.thread u.actor.used program (Inside context at rows (Called (exit_of call)))
      ≡ return_action rows
      file q
      → MakesTrace (n + begun_at p) (call ∷ []) program start v q u
  lends {n} start p q i call one found asks takes calls puts =
      let lent = Inside context at rows Lent in
      let called = λ (e : Exit). Inside context at rows (Called e) in
      let works = λ (d : ℕ → Duty) (next : Place) (o : Option ℕ). with_row o (λ x. Does (d x) [] (always next)) in
      let begun = n + begun_at p in
      let a = thread_with u [] in
      let b = actor_by v.layout v.thread a (LendField row) [] 1 in
      let same : actor_by v.layout v.thread b (ReturnField row) [] 0 ≡ a =
      λ i. record (thread_with u []) { agenda = no_duty u.actor.head i } in
      let no_more : one.events ++ [] ≡ one.events = append-nil one.events in
      let takes_it : Makes v.layout v.thread program start (thread_with v []) begun [] (one.events ++ []) lent b =
      Dispatches n [] one.events p a (LendField row) [] (always lent) 1 one.makes refl
      (takes ∙ ap (works LendField lent) names) refl in
      let asks_it : Makes v.layout v.thread program start (thread_with v []) (begun + 0) (call ∷ []) one.events
      (called (exit_of call)) b =
      Asks begun [] one.events lent b (row_of rows file) called i call
      (subst (λ (es : List WordEvent). Makes v.layout v.thread program start
      (thread_with v []) begun [] es lent b) no_more
      takes_it)
      (no_duty u.actor.head) calls found asks in
      let puts_it : Makes v.layout v.thread program start (thread_with v []) ((begun + 0) + 0) (call ∷ [])
      (one.events ++ []) q (actor_by v.layout v.thread b (ReturnField row) [] 0) =
      Dispatches (begun + 0) (call ∷ []) one.events (called (exit_of call)) b (ReturnField row) [] (always q) 0 asks_it
      (no_duty u.actor.head) (puts ∙ ap (works ReturnField q) names) refl in
      record {
        events = one.events;
        trace = one.trace;
        makes = subst (λ (m : ℕ). Makes v.layout v.thread program start (thread_with v []) m (call ∷ []) one.events q a)
            (no_more_begins begun)
            (subst (λ (c : Actor).
            Makes v.layout v.thread program start (thread_with v []) ((begun + 0) + 0) (call ∷ []) one.events q c) same
            (subst (λ (es : List WordEvent). Makes v.layout v.thread program start (thread_with v []) ((begun + 0) + 0)
            (call ∷ []) es q (actor_by v.layout v.thread b (ReturnField row) [] 0)) no_more puts_it));
        layout = one.layout;
        thread = one.thread;
      }

-- ---- read

-- Without room for the number nothing is read.
pub reads_nothing : (to file most otherwise : ℕ) (rows after_rows : List (Option ℕ)) (v : View)
    → has_room v.layout v.thread v.actor.used ≡ false → after_rows ≡ slice_set rows to None
    → Performs [] (instructions.Read to file most otherwise) Fault rows v after_rows v
reads_nothing to file most otherwise rows after_rows v room named = λ program place context at before.
    begins_one before (makes_no_object to otherwise rows after_rows v room named _ program place context
    (begins (instructions.Read to file most otherwise) program place context at rows before v.layout v.thread
    v.actor.used))

module _ (to file most otherwise row : ℕ) (rows after_rows : List (Option ℕ)) (v : View)
    (names : row_of rows file ≡ Some row) (room : has_room v.layout v.thread v.actor.used ≡ true) where
  -- The thread goes on where the host's answer says.
  asks_read : (got : Option ℕ) (q : Place) (program : Program) (place : Place) (context : Context) (at : ℕ)
      → IsBefore (instructions.Read to file most otherwise) program place context at rows
      → dispatch_inside v.layout v.thread v.actor.used context at rows (Called (exit_of (asked.Read most got)))
      (Some (instructions.Read to file most otherwise))
      ≡ return_action rows file q
      → MakesTrace 1 (asked.Read most got ∷ []) program place v q v
  asks_read got q program place context at before puts =
      let i = instructions.Read to file most otherwise in
      let goes = λ (b : Bool).
      cond b (lend_action context at rows file) (Silent [] (InCall context otherwise (slice_set rows to None))) in
      subst (λ (n : ℕ). MakesTrace (0 + n) (asked.Read most got ∷ []) program place v q v) before.comes.begun
      (lends program context at rows file row names v v place place q i (asked.Read most got)
      (no_trace program place [] v) before.found (ForBytes to file most otherwise got)
      (begins i program place context at rows before v.layout v.thread v.actor.used ∙ ap goes room)
      (goes_on i program place context at rows before v.layout v.thread v.actor.used Lent)
      (goes_on i program place context at rows before v.layout v.thread v.actor.used
      (Called (exit_of (asked.Read most got)))
      ∙ puts))

  -- The number is how many bytes were read,
  pub makes_read : (word count : ℕ) (u : View) → count ≤ most → word ≡ number_word count
      → MakesBirth to word rows v after_rows u
      → Performs (asked.Read most (Some count) ∷ []) (instructions.Read to file most otherwise) Success rows v
      after_rows u
  makes_read word count u few counts birth = λ program place context at before.
      birth.read program place context at file most otherwise count before.found few counts
      (asks_read (Some count) (Inside context at rows Granted) program place context at before refl)

  -- or the host has failed.
  pub fails_to_read : after_rows ≡ slice_set rows to None
      → Performs (asked.Read most None ∷ []) (instructions.Read to file most otherwise) Fault rows v after_rows v
  fails_to_read named = λ program place context at before.
      subst (λ (rs : List (Option ℕ)).
      MakesTrace 1 (asked.Read most None ∷ []) program place v (InCall context otherwise rs) v) (sym named)
      (asks_read None (InCall context otherwise (slice_set rows to None)) program place context at before refl)

-- ---- write

-- the call that sends a number with this kind word
abbrev pub sends : ℕ → Bool → HostCall
sends word failed = asked.Write (decimal (argument_part word) ++ 10 ∷ []) failed

module _ (file number otherwise object row word : ℕ) (rows : List (Option ℕ)) (v u : View) (idle : v.actor.agenda ≡ [])
    (names_number : row_of rows number ≡ Some object) (names_file : row_of rows file ≡ Some row)
    (is : u ≡ view_after (asking v object) word) where
  -- The thread loads the number's kind word, and goes on where the host's answer says.
  asks_write : (failed : Bool) (q : Place) (program : Program) (place : Place) (context : Context) (at : ℕ)
      → IsBefore (instructions.Write file number otherwise) program place context at rows
      → dispatch_inside v.layout v.thread v.actor.used context at rows (Called (exit_of (sends word failed)))
      (Some (instructions.Write file number otherwise))
      ≡ return_action rows file q
      → MakesTrace 1 (sends word failed ∷ []) program place v q u
  asks_write failed q program place context at before puts =
      let i = instructions.Write file number otherwise in
      let loaded = Inside context at rows Loaded in
      let one = asks_kind_once program place (always loaded) v idle object word
      (begins_with i program place context at rows before v.layout v.thread v.actor.used number object
      (λ x. Does (KindLoad x) [] (always loaded)) refl names_number) in
      subst (λ (n : ℕ). MakesTrace (n + 0) (sends word failed ∷ []) program place v q u) before.comes.begun
      (subst (MakesTrace (begun_at place + 0) (sends word failed ∷ []) program place v q) (sym is)
      (lends program context at rows file row names_file v (view_after (asking v object) word) place loaded q i
      (sends word failed) one.0 before.found (ForLine file number otherwise [] (kind_event object word) failed one.1)
      (goes_on i program place context at rows before v.layout v.thread v.actor.used Loaded)
      (goes_on i program place context at rows before v.layout v.thread v.actor.used Lent)
      (goes_on i program place context at rows before v.layout v.thread v.actor.used (Called (exit_of
      (sends word failed)))
      ∙ puts)))

  -- The host has written the number,
  pub makes_write : Performs (sends word false ∷ []) (instructions.Write file number otherwise) Success rows v rows u
  makes_write = λ program place context at before.
      asks_write false (InCall context (at + 1) rows) program place context at before refl

  -- or has failed.
  pub fails_to_write : Performs (sends word true ∷ []) (instructions.Write file number otherwise) Fault rows v rows u
  fails_to_write = λ program place context at before.
      asks_write true (InCall context otherwise rows) program place context at before refl
