-- Traces one after the other.
use Rattle.std.proofs.Common.{◌≡◌, ℕ, ◌+◌, List, [], ◌∷◌, ◌++◌, Some, append_assoc, append-nil, refl, sym, ap, ◌∙◌, subst, arith}
use Rattle.brc_host.specs.HostCalls.{HostCall, Read, Close}
use Rattle.brc_lang.specs.declared.module.Instr.{Instr}
use Rattle.brc_model.specs.declared.actor.Place.{Place}
use Rattle.brc_model.specs.declared.actor.Place.TheVariants.{Inside}
use Rattle.brc_model.specs.declared.actor.Stage.TheVariants.{Granted}
use Rattle.brc_model.specs.declared.duty.Duty.{Duty}
use Rattle.brc_model.specs.declared.layout.Layout.{Layout}
use Rattle.brc_model.specs.declared.actor.Actor.{Actor}
use Rattle.brc_model.specs.declared.event.WordEvent.{WordEvent}
use Rattle.brc_table.specs.declared.view.View.{View}
use Rattle.brc_table.specs.Views.{open_work, with_work}
use Rattle.brc_model.specs.Trace.{events_of}
use Rattle.brc_work.specs.Traces.{Program, Makes, Refl, Silently, Asks, Dispatches, Reads, Continues, Closes, Requests, ForFile, ForPeer, ForBytes, ForLine, Traces, thread_with, read_birth, begun_at, begun_by}

-- ---- numbers

pub none_before : (n : ℕ) → 0 + n ≡ n
none_before n = omega arith

pub none_after : (n : ℕ) → n ≡ n + 0
none_after n = omega arith

pub added : (n k m : ℕ) → (n + k) + m ≡ n + (k + m)
added n k m = omega arith

-- ---- threads

-- What an instruction asks for after some events, it asks for after more.
asks_after : (before es : List WordEvent) (i : Instr) (call : HostCall) → Requests es i call
    → Requests (before ++ es) i call
asks_after before es i call (ForFile to path mode otherwise failed) = ForFile to path mode otherwise failed
asks_after before es i call (ForPeer to peer otherwise failed) = ForPeer to peer otherwise failed
asks_after before es i call (ForBytes to file most otherwise got) = ForBytes to file most otherwise got
asks_after before es i call (ForLine file number otherwise first last failed is) =
    ForLine file number otherwise (before ++ first) last failed
    (ap (λ (fs : List WordEvent). before ++ fs) is ∙ sym (append_assoc before first (last ∷ [])))

module _ (layout : Layout) (t : ℕ) (program : Program) (p : Place) (a : Actor) (n : ℕ) (cs : List HostCall)
    (es : List WordEvent) (q : Place) (b : Actor) (one : Makes layout t program p a n cs es q b) where
  -- more events,
  with_events : (k : ℕ) (ds : List HostCall) (fs gs : List WordEvent) (r : Place) (c : Actor)
      → Makes layout t program p a k ds ((es ++ fs) ++ gs) r c → Makes layout t program p a k ds (es ++ (fs ++ gs)) r c
  with_events k ds fs gs r c done =
      subst (λ (hs : List WordEvent). Makes layout t program p a k ds hs r c) (append_assoc es fs gs) done

  -- more calls,
  with_calls : (k : ℕ) (ds : List HostCall) (call : HostCall) (fs : List WordEvent) (r : Place) (c : Actor)
      → Makes layout t program p a k ((cs ++ ds) ++ call ∷ []) fs r c
      → Makes layout t program p a k (cs ++ (ds ++ call ∷ [])) fs r c
  with_calls k ds call fs r c done =
      subst (λ (ks : List HostCall). Makes layout t program p a k ks fs r c) (append_assoc cs ds (call ∷ [])) done

  -- and more instructions
  with_begun : (k m : ℕ) (ds : List HostCall) (fs : List WordEvent) (r : Place) (c : Actor)
      → Makes layout t program p a ((n + k) + m) ds fs r c → Makes layout t program p a (n + (k + m)) ds fs r c
  with_begun k m ds fs r c done = subst (λ (l : ℕ). Makes layout t program p a l ds fs r c) (added n k m) done

  -- A thread goes on.
  pub makes_then : (m : ℕ) (ds : List HostCall) (fs : List WordEvent) (r : Place) (c : Actor)
      → Makes layout t program q b m ds fs r c → Makes layout t program p a (n + m) (cs ++ ds) (es ++ fs) r c
  makes_then m ds fs r c Refl =
      subst (λ (l : ℕ). Makes layout t program p a l (cs ++ []) (es ++ []) q b) (none_after n)
      (subst (λ (ks : List HostCall). Makes layout t program p a n ks (es ++ []) q b) (sym (append-nil cs))
      (subst (λ (hs : List WordEvent). Makes layout t program p a n cs hs q b) (sym (append-nil es)) one))
  makes_then m ds fs r c (Silently k ks gs s r' d moves other none is) =
      with_begun k (begun_at s) (cs ++ ks) (es ++ gs) r c
      (Silently (n + k) (cs ++ ks) (es ++ gs) s r' d moves (makes_then k ks gs s d other) none is)
  makes_then m ds fs r c (Asks k ks gs s d row after i call other none is names asks) =
      with_begun k (begun_at s) (cs ++ (ks ++ call ∷ [])) (es ++ gs) r c
      (with_calls ((n + k) + begun_at s) ks call (es ++ gs) r c
      (Asks (n + k) (cs ++ ks) (es ++ gs) s d row after i call (makes_then k ks gs s d other) none is names
      (asks_after es gs i call asks)))
  makes_then m ds fs r c (Dispatches k ks gs s d duty rest next found other none is new) =
      let more = events_of layout t d duty found in
      with_begun k (begun_by s duty found) (cs ++ ks) (es ++ (gs ++ more)) r c
      (with_events ((n + k) + begun_by s duty found) (cs ++ ks) gs more r c
      (Dispatches (n + k) (cs ++ ks) (es ++ gs) s d duty rest next found (makes_then k ks gs s d other) none is new))
  makes_then m ds fs r c (Reads k ks gs context at variables d to file most otherwise count found other none is few) =
      let got = Read most (Some count) in
      let in_read = Inside context at variables Granted in
      let before : Makes layout t program p a (n + k) ((cs ++ ks) ++ got ∷ []) (es ++ gs) in_read d =
      subst (λ (hs : List HostCall). Makes layout t program p a (n + k) hs (es ++ gs) in_read d)
      (sym (append_assoc cs ks (got ∷ []))) (makes_then k (ks ++ got ∷ []) gs _ d other) in
      with_calls (n + k) ks got (es ++ (gs ++ events_of layout t d (read_birth layout t d context to count) found)) r c
      (with_events (n + k) ((cs ++ ks) ++ got ∷ []) gs (events_of layout t d (read_birth layout t d context to count)
      found) r c
      (Reads (n + k) (cs ++ ks) (es ++ gs) context at variables d to file most otherwise count found before none is
      few))
  makes_then m ds fs r c (Continues k ks gs s d duty rest found other is off) =
      with_events (n + k) (cs ++ ks) gs (events_of layout t d duty found) r c
      (Continues (n + k) (cs ++ ks) (es ++ gs) s d duty rest found (makes_then k ks gs s d other) is off)
  makes_then m ds fs r c (Closes k ks gs s d x rest failed other is) =
      with_calls (n + k) ks (Close failed) (es ++ gs) r c
      (Closes (n + k) (cs ++ ks) (es ++ gs) s d x rest failed (makes_then k ks gs s d other) is)

-- As many have begun as the one event begins.
pub only_these : {layout : Layout} {t : ℕ} {program : Program} {p q : Place} {a b : Actor} {n : ℕ} {cs : List HostCall}
    {es : List WordEvent} → Makes layout t program p a (0 + n) cs es q b → Makes layout t program p a n cs es q b
only_these {layout} {t} {program} {p} {q} {a} {b} {n} {cs} {es} made =
    subst (λ (k : ℕ). Makes layout t program p a k cs es q b) (none_before n) made

-- ---- hands

-- A hand that has made no step.
pub no_trace : (program : Program) (p : Place) (ds : List Duty) (v : View) → Traces 0 [] program p ds v p ds v
no_trace program p ds v =
    record { events = []; trace = sym (append-nil v.trace); makes = Refl; layout = refl; thread = refl }

-- A view of the same thread with the same trace.
pub quietly : (program : Program) (p : Place) (ds : List Duty) (v w : View) → w.trace ≡ v.trace → w.layout ≡ v.layout
    → w.thread ≡ v.thread → thread_with v ds ≡ thread_with w ds → Traces 0 [] program p ds v p ds w
quietly program p ds v w trace layout thread same = record {
  events = [];
  trace = trace ∙ sym (append-nil v.trace);
  makes = subst (λ (a : Actor). Makes v.layout v.thread program p (thread_with v ds) 0 [] [] p a) same Refl;
  layout = layout;
  thread = thread;
}

-- A hand without work turns to other duties.
pub turns_to : (program : Program) (p : Place) (ds agenda : List Duty) (v : View) (references : List ℕ) (n : ℕ)
    → v.actor.agenda ≡ []
    → Traces 0 [] program p ds v p ds
    (record (with_work v agenda (open_work v)) { references = references; in_field = n })
turns_to program p ds agenda v references n none =
    let same : v.actor.aside ≡ open_work v = ap (λ (es : List Duty). es ++ v.actor.aside) (sym none) in
    quietly program p ds v (record (with_work v agenda (open_work v)) { references = references; in_field = n }) refl
    refl
    refl (λ i. record (thread_with v ds) { aside = same i })

-- A hand goes on: more instructions begin, with more calls of the host.
pub calls_then : {n m : ℕ} (cs fs : List HostCall) (program : Program) (p q r : Place) (ds es gs : List Duty)
    (v u w : View) → Traces n cs program p ds v q es u → Traces m fs program q es u r gs w
    → Traces (n + m) (cs ++ fs) program p ds v r gs w
calls_then {n} {m} cs fs program p q r ds es gs v u w one other = record {
  events = one.events ++ other.events;
  trace = other.trace
      ∙ (ap (λ (hs : List WordEvent). hs ++ other.events) one.trace ∙ append_assoc v.trace one.events other.events);
  makes = makes_then v.layout v.thread program p (thread_with v ds) n cs one.events q (thread_with u es) one.makes m fs
      other.events r (thread_with w gs)
      (subst (λ (t : ℕ). Makes v.layout t program q (thread_with u es) m fs other.events r
      (thread_with w gs)) one.thread
      (subst (λ (l : Layout). Makes l u.thread program q (thread_with u es) m fs other.events r (thread_with w gs))
      one.layout
      other.makes));
  layout = other.layout ∙ one.layout;
  thread = other.thread ∙ one.thread;
}

-- If none of the further instructions has begun, it is as many as before:
pub calls_on : {n : ℕ} (cs fs : List HostCall) (program : Program) (p q r : Place) (ds es gs : List Duty) (v u w : View)
    → Traces n cs program p ds v q es u → Traces 0 fs program q es u r gs w → Traces n (cs ++ fs) program p ds v r gs w
calls_on {n} cs fs program p q r ds es gs v u w one other =
    subst (λ (k : ℕ). Traces k (cs ++ fs) program p ds v r gs w) (sym (none_after n))
    (calls_then cs fs program p q r ds es gs v u w one other)

-- after steps without a call of the host,
pub traces_then : {n : ℕ} {cs : List HostCall} (program : Program) (p q r : Place) (ds es fs : List Duty) (v u w : View)
    → Traces n [] program p ds v q es u → Traces 0 cs program q es u r fs w → Traces n cs program p ds v r fs w
traces_then {n} {cs} program p q r ds es fs v u w one other = calls_on [] cs program p q r ds es fs v u w one other

-- or before such steps.
pub traces_behind : {n : ℕ} {cs : List HostCall} (program : Program) (p q r : Place) (ds es fs : List Duty)
    (v u w : View) → Traces n cs program p ds v q es u → Traces 0 [] program q es u r fs w
    → Traces n cs program p ds v r fs w
traces_behind {n} {cs} program p q r ds es fs v u w one other =
    subst (λ (ks : List HostCall). Traces n ks program p ds v r fs w) (append-nil cs)
    (calls_on cs [] program p q r ds es fs v u w one other)

-- If none has begun before, it is as many as follow.
pub traces_before : {n : ℕ} {cs : List HostCall} (program : Program) (p q r : Place) (ds es fs : List Duty)
    (v u w : View) → Traces 0 [] program p ds v q es u → Traces n cs program q es u r fs w
    → Traces n cs program p ds v r fs w
traces_before {n} {cs} program p q r ds es fs v u w one other =
    subst (λ (k : ℕ). Traces k cs program p ds v r fs w) (none_before n)
    (calls_then [] cs program p q r ds es fs v u w one other)

-- The same duties, written otherwise,
pub with_duties : {n : ℕ} {cs : List HostCall} (program : Program) (p q : Place) (ds es fs : List Duty) (v u : View)
    → es ≡ fs → Traces n cs program p ds v q es u → Traces n cs program p ds v q fs u
with_duties {n} {cs} program p q ds es fs v u same one =
    subst (λ (gs : List Duty). Traces n cs program p ds v q gs u) same one

-- and the same calls.
pub with_same_calls : {n : ℕ} {cs ks : List HostCall} (program : Program) (p q : Place) (ds es : List Duty) (v u : View)
    → cs ≡ ks
    → Traces n cs program p ds v q es u → Traces n ks program p ds v q es u
with_same_calls {n} program p q ds es v u same one =
    subst (λ (hs : List HostCall). Traces n hs program p ds v q es u) same one
