-- A hand that does duty after duty makes the events of a thread that has the same duties, and then to settle.
use Rattle.std.proofs.Common.{◌≡◌, ℕ, zero, suc, ◌+◌, Bool, true, false, cond, List, [], ◌∷◌, ◌++◌, append_assoc, append-nil, inl, inr, refl, sym, ap, ◌∙◌, subst}
use Rattle.std.specs.Prelude.{◌==◌, ◌&&◌, nat_lt}
use Rattle.std.proofs.lemmas.Bool.{cases_Bool}
use Rattle.brc_word.specs.Words.{is_immortal_word, local_part, fresh_word, dead_word, released_word, merged_word, most_local, mark_at}
use Rattle.brc_host.specs.HostCalls.{HostCall, Close}
use Rattle.brc_model.specs.Duties.{found_row, continuation, new_head, ready, counts_locally, has_resource, cells_of, cells_from, claimed, release_found}
use Rattle.brc_model.specs.Layout.{mark_bit}
use Rattle.brc_model.specs.Machine.{is_running}
use Rattle.brc_model.specs.declared.actor.Place.{Place}
use Rattle.brc_model.specs.declared.duty.Duty.{Duty}
use Rattle.brc_model.specs.declared.duty.Duty.TheVariants.{RetainLoad, RetainStore, RetainAdd, ReleaseLoad, ReleaseStore, DecideAtZero, SharedLoad, SharedExchange, SetMark, Look, TakeMark, MergeSwap, MergeLoad, MergeExchange, Die, Settle, SettleKind, SettleCell, TakeField, CloseResource, SettleEnd, Scan, TakeFound, ClaimMark, BirthKind, BirthField, CellSwap, LendField, ReturnField}
use Rattle.brc_model.specs.declared.duty.Reason.TheVariants.{Own, Handed}
use Rattle.brc_model.specs.declared.layout.Layout.{Layout}
use Rattle.brc_table.specs.declared.view.View.{View}
use Rattle.brc_table.specs.Views.{view_by, view_after, field_emptied, field_emptied_by}
use Rattle.brc_free.specs.Works.{Works, Refl as Unchanged, Next, closes_by, to_settle}
use Rattle.brc_work.specs.Stopping.{settle_if}
use Rattle.brc_work.specs.Traces.{Program, Refl, Continues, Closes, Traces, thread_with, is_close}
use Rattle.brc_work.proofs.Traces.Joining.{quietly, calls_on, traces_then, traces_behind, with_duties}
use Rattle.brc_work.proofs.Traces.Duties.{comes_next, IsSame, next_duties, continues_with, does_nothing, does_first}

-- ---- duties on words

-- Says whether the duty is none on a field or on a resource, nor lets one follow, but for those by which a dying
-- object's resource is closed.
abbrev pub is_off_fields : Duty → Bool
is_off_fields (BirthKind x h w) = false
is_off_fields (BirthField x h) = false
is_off_fields (CloseResource x) = false
is_off_fields (LendField x) = false
is_off_fields (ReturnField x) = false
is_off_fields _ = true

abbrev pub are_off_fields : List Duty → Bool
are_off_fields [] = true
are_off_fields (d ∷ ds) = is_off_fields d && are_off_fields ds

-- Says whether the duty takes the resource of a dying object out of its field.
abbrev pub takes_out : Duty → Bool
takes_out (TakeField x) = true
takes_out _ = false

first_off : (d : Duty) (ds : List Duty) → are_off_fields (d ∷ ds) ≡ true → is_off_fields d ≡ true
first_off d ds off = elim (cases_Bool (is_off_fields d)) [
  | inl is ↦ is
  | inr not ↦ let wrong : false ≡ true = sym (ap (λ (b : Bool). b && are_off_fields ds) not) ∙ off in absurd cc
]

behind_off : (d : Duty) (ds : List Duty) → are_off_fields (d ∷ ds) ≡ true → are_off_fields ds ≡ true
behind_off d ds off = sym (ap (λ (b : Bool). b && are_off_fields ds) (first_off d ds off)) ∙ off

off_then : (ds es : List Duty) → are_off_fields ds ≡ true → are_off_fields es ≡ true → are_off_fields (ds ++ es) ≡ true
off_then [] es off other = other
off_then (d ∷ ds) es off other =
    ap (λ (b : Bool). b && are_off_fields (ds ++ es)) (first_off d ds off)
    ∙ off_then ds es (behind_off d ds off) other

off_either : (b : Bool) (ds es : List Duty) → are_off_fields ds ≡ true → are_off_fields es ≡ true
    → are_off_fields (cond b ds es) ≡ true
off_either true ds es off other = off
off_either false ds es off other = other

ready_off : (head : ℕ) (ds : List Duty) → are_off_fields ds ≡ true → are_off_fields (ready head ds) ≡ true
ready_off zero [] off = refl
ready_off zero (Settle ∷ ds) off = ready_off zero ds off
ready_off zero (Scan i zero ∷ ds) off = ready_off zero ds off
ready_off zero (Scan i (suc n) ∷ ds) off = off
ready_off zero (TakeFound w zero ∷ ds) off = ready_off zero ds off
ready_off zero (TakeFound w (suc n) ∷ ds) off = off
ready_off zero (d ∷ ds) off = off
ready_off (suc head) [] off = refl
ready_off (suc head) (Scan i zero ∷ ds) off = ready_off (suc head) ds off
ready_off (suc head) (Scan i (suc n) ∷ ds) off = off
ready_off (suc head) (TakeFound w zero ∷ ds) off = ready_off (suc head) ds off
ready_off (suc head) (TakeFound w (suc n) ∷ ds) off = off
ready_off (suc head) (d ∷ ds) off = off

claimed_off : (x mark : ℕ) (ds : List Duty) → are_off_fields ds ≡ true → are_off_fields (claimed x mark ++ ds) ≡ true
claimed_off x mark ds off =
    off_then (claimed x mark) ds (off_either (mark == 1) (MergeSwap x Handed ∷ []) [] refl refl) off

cells_off : (x i n : ℕ) → are_off_fields (cells_from x i n) ≡ true
cells_off x i n = off_either (nat_lt i n) (SettleCell x i n ∷ []) (SettleEnd x ∷ []) refl refl

found_off : (found : ℕ) (ds : List Duty) → are_off_fields ds ≡ true → are_off_fields (release_found found ++ ds) ≡ true
found_off zero ds off = off
found_off (suc y) ds off = off

-- No such duty is followed by one on a field.
next_off : (layout : Layout) (t : ℕ) (running : Bool) (head : ℕ) (d : Duty) (found : ℕ) → is_off_fields d ≡ true
    → takes_out d ≡ false → are_off_fields (continuation layout t running head d found) ≡ true
next_off layout t running head (RetainLoad x h) found off other =
    off_either (is_immortal_word found) [] _ refl
    (off_either (counts_locally t running found && nat_lt (local_part found) most_local) (RetainStore x h found ∷ [])
    (RetainAdd x h ∷ []) refl refl)
next_off layout t running head (ReleaseLoad x h) found off other =
    off_either (is_immortal_word found) [] _ refl
    (off_either (counts_locally t running found) (ReleaseStore x found ∷ []) (SharedLoad x Own ∷ []) refl refl)
next_off layout t running head (ReleaseStore x w) found off other =
    off_either (local_part w == 1) (DecideAtZero x ∷ []) [] refl refl
next_off layout t running head (DecideAtZero x) found off other =
    off_either (found == fresh_word) (Die x ∷ []) (MergeSwap x Own ∷ []) refl refl
next_off layout t running head (SharedExchange x r w) found off other =
    off_either (found == w) _ (SharedLoad x r ∷ [])
    (off_either (w == fresh_word) (SetMark x ∷ []) _ refl
    (off_either (released_word w == dead_word) (Die x ∷ []) [] refl refl)) refl
next_off layout t running head (Look x) found off other = off_either (found == 1) [] (TakeMark x ∷ []) refl refl
next_off layout t running head (TakeMark x) found off other =
    off_either (mark_at found (mark_bit layout x) == 1) (MergeSwap x Handed ∷ []) [] refl refl
next_off layout t running head (MergeSwap x Own) found off other =
    off_either (found == 0) [] (MergeLoad x (local_part found) Own ∷ []) refl refl
next_off layout t running head (MergeSwap x Handed) found off other =
    off_either (found == 0) (SharedLoad x Handed ∷ []) (MergeLoad x (local_part found) Handed ∷ []) refl refl
next_off layout t running head (MergeExchange x c w Own) found off other =
    off_either (found == w) _ (MergeLoad x c Own ∷ [])
    (off_either (merged_word w c == dead_word) (Die x ∷ []) [] refl refl) refl
next_off layout t running head (MergeExchange x c w Handed) found off other =
    off_either (found == w) (SharedLoad x Handed ∷ []) (MergeLoad x c Handed ∷ []) refl refl
next_off layout t running head (SettleKind x) found off other =
    off_either (has_resource found) (TakeField x ∷ []) (cells_from x 0 (cells_of found)) refl
    (cells_off x 0 (cells_of found))
next_off layout t running head (SettleCell x i n) found off other =
    found_off found (cells_from x (i + 1) n) (cells_off x (i + 1) n)
next_off layout t running head (TakeField x) found off other = absurd (let wrong : true ≡ false = other in cc)
next_off layout t running head (CloseResource x) found off other = absurd (let wrong : false ≡ true = off in cc)
next_off layout t running head (BirthKind x h w) found off other = absurd (let wrong : false ≡ true = off in cc)
next_off layout t running head (BirthField x h) found off other = absurd (let wrong : false ≡ true = off in cc)
next_off layout t running head (TakeFound w marks) found off other =
    claimed_off (found_row layout t w marks) (mark_at found (mark_bit layout (found_row layout t w marks))) _ refl
next_off layout t running head (ClaimMark x) found off other =
    claimed_off x (mark_at found (mark_bit layout x)) _ refl
next_off layout t running head (CellSwap x i y h) found off other =
    subst (λ (ds : List Duty). are_off_fields ds ≡ true) (append-nil (release_found found)) (found_off found [] refl)
next_off layout t running head _ found off other = refl

-- Such a duty is one on a word.
on_word : (u : View) (d : Duty) (found : ℕ) → is_off_fields d ≡ true → takes_out d ≡ false → IsSame u d d found
on_word u (TakeField x) found off other = absurd (let wrong : true ≡ false = other in cc)
on_word u (CloseResource x) found off other = absurd (let wrong : false ≡ true = off in cc)
on_word u (BirthField x h) found off other = absurd (let wrong : false ≡ true = off in cc)
on_word u (LendField x) found off other = absurd (let wrong : false ≡ true = off in cc)
on_word u (ReturnField x) found off other = absurd (let wrong : false ≡ true = off in cc)
on_word u _ found off other =
    record { event = refl; status = refl; head = refl; used = refl; locked = refl; lent = refl }

-- Nor is it a close.
no_close : (d : Duty) → is_off_fields d ≡ true → is_close d ≡ false
no_close (CloseResource x) off = absurd (let wrong : false ≡ true = off in cc)
no_close _ off = refl

-- ---- what is behind

-- A thread's duties whose hand has these ones: others come behind.
abbrev pub behind_of : ℕ → List Duty → List Duty → List Duty
behind_of head [] rest = ready head rest
behind_of head (d ∷ ds) rest = d ∷ (ds ++ rest)

ready_behind : (head : ℕ) (ds rest : List Duty) → ready head (ds ++ rest) ≡ behind_of head (ready head ds) rest
ready_behind zero [] rest = refl
ready_behind zero (Settle ∷ ds) rest = ready_behind zero ds rest
ready_behind zero (Scan i zero ∷ ds) rest = ready_behind zero ds rest
ready_behind zero (Scan i (suc n) ∷ ds) rest = refl
ready_behind zero (TakeFound w zero ∷ ds) rest = ready_behind zero ds rest
ready_behind zero (TakeFound w (suc n) ∷ ds) rest = refl
ready_behind zero (d ∷ ds) rest = refl
ready_behind (suc head) [] rest = refl
ready_behind (suc head) (Scan i zero ∷ ds) rest = ready_behind (suc head) ds rest
ready_behind (suc head) (Scan i (suc n) ∷ ds) rest = refl
ready_behind (suc head) (TakeFound w zero ∷ ds) rest = ready_behind (suc head) ds rest
ready_behind (suc head) (TakeFound w (suc n) ∷ ds) rest = refl
ready_behind (suc head) (d ∷ ds) rest = refl

-- A hand that settles next has nothing behind that.
settles_alone : (head : ℕ) → behind_of head (ready head (Settle ∷ [])) [] ≡ ready head (Settle ∷ [])
settles_alone zero = refl
settles_alone (suc head) = refl

pub nothing_behind : (later : Bool) → ready 0 (settle_if later) ≡ []
nothing_behind true = refl
nothing_behind false = refl

-- ---- duty after duty

-- From view v and place p with duties ds, the hand has come to view u, with these calls of the host, and has begun this
-- many instructions. Its thread has the hand's duties there, and, if `later` says so, to settle behind them.
pub record WorksOn (later : Bool) (begun : ℕ) (cs : List HostCall) (program : Program) (p : Place) (ds : List Duty)
    (v : View) (q : Place) (u : View) : Type 0 where
  pub traces : Traces begun cs program p ds v q (behind_of u.actor.head u.actor.agenda (settle_if later)) u
  pub off : are_off_fields u.actor.agenda ≡ true

-- A dying object's resource is taken out of its field and closed without a step on a word.
takes_field : (program : Program) (q : Place) (u : View) (x : ℕ) (failed : Bool) (rest : List Duty)
    → Traces 0 (Close failed ∷ []) program q (TakeField x ∷ rest) u q (SettleEnd x ∷ rest) u
takes_field program q u x failed rest =
    let taken : Traces 0 [] program q (TakeField x ∷ rest) u q
    (ready u.actor.head (CloseResource x ∷ rest)) u = record {
      events = [];
      trace = sym (append-nil u.trace);
      makes = Continues 0 [] [] q (thread_with u (TakeField x ∷ rest)) (TakeField x) rest 1 Refl refl refl;
      layout = refl;
      thread = refl;
    } in
    let closed : Traces 0 (Close failed ∷ []) program q (CloseResource x ∷ rest) u q
    (ready u.actor.head (SettleEnd x ∷ rest)) u
    =
    record {
      events = [];
      trace = sym (append-nil u.trace);
      makes = Closes 0 [] [] q (thread_with u (CloseResource x ∷ rest)) x rest failed Refl refl;
      layout = refl;
      thread = refl;
    } in
    traces_then program q q q (TakeField x ∷ rest) (CloseResource x ∷ rest) (SettleEnd x ∷ rest) u u u
    (with_duties program q q (TakeField x ∷ rest) _ (CloseResource x ∷ rest) u u
    (comes_next u.actor.head (CloseResource x) rest refl) taken)
    (with_duties program q q (CloseResource x ∷ rest) _ (SettleEnd x ∷ rest) u u
    (comes_next u.actor.head (SettleEnd x) rest refl) closed)

unfieldted : (u : View) (d : Duty) (tail : List Duty) → takes_out d ≡ false → field_emptied_by (d ∷ tail) u ≡ u
unfieldted u (TakeField x) tail other = absurd (let wrong : true ≡ false = other in cc)
unfieldted u _ tail other = refl

module _ {later : Bool} {n : ℕ} (program : Program) (p : Place) (ds : List Duty) (v : View) (q : Place) where
  -- After one duty more the thread still has the hand's duties.
  pub goes_on : {cs : List HostCall} (u : View) (d e : Duty) (tail : List Duty) (found : ℕ)
      → IsSame u d e found
      → (continuation u.layout u.thread (is_running u.actor.status) u.actor.head e found
      ≡ continuation u.layout u.thread (is_running u.actor.status) u.actor.head d found)
      → is_off_fields e ≡ true → takes_out e ≡ false → are_off_fields tail ≡ true
      → Traces n cs program p ds v q (next_duties u d (tail ++ settle_if later) found) (view_by u (e ∷ tail) found)
      → WorksOn later n cs program p ds v q (view_by u (e ∷ tail) found)
  goes_on u d e tail found same next off other behind one =
      let after = view_by u (e ∷ tail) found in
      let more = continuation u.layout u.thread (is_running u.actor.status) u.actor.head e found in
      let rest = settle_if later in
      let head = new_head u.actor.head e found in
      let duties : next_duties u d (tail ++ rest) found ≡ behind_of head (ready head (more ++ tail)) rest =
      ap (λ (h : ℕ). ready h (continuation u.layout u.thread (is_running u.actor.status) u.actor.head d found
      ++ (tail ++ rest)))
      same.head
      ∙ (ap (λ (es : List Duty). ready head (es ++ (tail ++ rest))) (sym next)
      ∙ (ap (ready head) (sym (append_assoc more tail rest)) ∙ ready_behind head (more ++ tail) rest)) in
      record {
        traces = with_duties program p q ds (next_duties u d (tail ++ rest) found) _ v after duties one;
        off = ready_off head (more ++ tail)
            (off_then more tail (next_off u.layout u.thread (is_running u.actor.status) u.actor.head e found off
            other) behind);
      }

  -- It is the first of its agenda.
  continues_on : {cs : List HostCall} (u : View) (d : Duty) (tail : List Duty) (found : ℕ)
      → is_off_fields d ≡ true
      → takes_out d ≡ false → are_off_fields tail ≡ true
      → Traces n cs program p ds v q (d ∷ (tail ++ settle_if later)) u
      → WorksOn later n cs program p ds v q (view_by u (d ∷ tail) found)
  continues_on u d tail found off other behind one =
      let rest = tail ++ settle_if later in
      let same = on_word u d found off other in
      goes_on u d d tail found same refl off other behind
      (traces_behind program p q q ds (d ∷ rest) (next_duties u d rest found) v u (view_by u (d ∷ tail) found) one
      (continues_with program q u d d rest tail found same (no_close d off)))

  -- the thread's duties, where the hand's are these
  pub with_agenda : {cs : List HostCall} (u : View) (es : List Duty) → u.actor.agenda ≡ es
      → (on : WorksOn later n cs program p ds v q u)
      → Traces n cs program p ds v q (behind_of u.actor.head es (settle_if later)) u
  with_agenda u es is on =
      with_duties program p q ds _ (behind_of u.actor.head es (settle_if later)) v u
      (ap (λ (fs : List Duty). behind_of u.actor.head fs (settle_if later)) is) on.traces

  plain_next : {cs : List HostCall} (u : View) (found : ℕ) (d : Duty) (tail : List Duty) → u.actor.agenda ≡ d ∷ tail
      → takes_out d ≡ false → WorksOn later n cs program p ds v q u → WorksOn later n cs program p ds v q
      (view_after (field_emptied u) found)
  plain_next {cs} u found d tail is other on =
      let off : are_off_fields (d ∷ tail) ≡ true = ap are_off_fields (sym is) ∙ on.off in
      let same : field_emptied u ≡ u = ap (λ (es : List Duty). field_emptied_by es u) is ∙ unfieldted u d tail other in
      subst (WorksOn later n cs program p ds v q)
      (sym (ap (λ (w : View). view_after w found) same ∙ does_first u found d tail is))
      (continues_on u d tail found (first_off d tail off) other (behind_off d tail off)
      (with_agenda u (d ∷ tail) is on))

  with_no_call : (cs : List HostCall) (u : View) → WorksOn later n cs program p ds v q u
      → WorksOn later n (cs ++ []) program p ds v q u
  with_no_call cs u on = subst (λ (ks : List HostCall). WorksOn later n ks program p ds v q u) (sym (append-nil cs)) on

  next_by : (cs : List HostCall) (u : View) (found : ℕ) (failed : Bool) (es : List Duty) → u.actor.agenda ≡ es
      → WorksOn later n cs program p ds v q u → WorksOn later n (cs ++ closes_by es failed) program p ds v q
      (view_after (field_emptied u) found)
  next_by cs u found failed [] is on =
      with_no_call cs (view_after (field_emptied u) found)
      (subst (WorksOn later n cs program p ds v q)
      (sym (ap (λ (w : View). view_after w found) (ap (λ (es : List Duty). field_emptied_by es u) is)
      ∙ does_nothing u found is))
      on)
  next_by cs u found failed (TakeField x ∷ tail) is on =
      let off : are_off_fields (TakeField x ∷ tail) ≡ true = ap are_off_fields (sym is) ∙ on.off in
      let rest = tail ++ settle_if later in
      subst (WorksOn later n (cs ++ Close failed ∷ []) program p ds v q)
      (sym (ap (λ (es : List Duty). view_after (field_emptied_by es u) found) is))
      (continues_on u (SettleEnd x) tail found refl refl (behind_off (TakeField x) tail off)
      (calls_on cs (Close failed ∷ []) program p q q ds (TakeField x ∷ rest) (SettleEnd x ∷ rest) v u u
      (with_agenda u (TakeField x ∷ tail) is on) (takes_field program q u x failed rest)))
  next_by cs u found failed (d ∷ tail) is on =
      with_no_call cs (view_after (field_emptied u) found) (plain_next u found d tail is refl on)

  -- A hand that does duty after duty,
  pub works_on : (cs : List HostCall) (u : View) (fs : List HostCall) (w : View) → WorksOn later n cs program p ds v q u
      → Works u fs w
      → WorksOn later n (cs ++ fs) program p ds v q w
  works_on cs u fs w on Unchanged = with_no_call cs u on
  works_on cs u fs w on (Next ks x found failed other) =
      subst (λ (hs : List HostCall). WorksOn later n hs program p ds v q (view_after (field_emptied x) found))
      (append_assoc cs ks (closes_by x.actor.agenda failed))
      (next_by (cs ++ ks) x found failed x.actor.agenda refl (works_on cs u ks x on other))

  -- until nothing is left to do.
  pub worked_off : {cs : List HostCall} (u : View) → u.actor.agenda ≡ [] → u.actor.head ≡ 0
      → WorksOn later n cs program p ds v q u
      → Traces n cs program p ds v q [] u
  worked_off u none empty on =
      with_duties program p q ds (ready u.actor.head (settle_if later)) [] v u
      (ap (λ (head : ℕ). ready head (settle_if later)) empty ∙ nothing_behind later) (with_agenda u [] none on)

-- The hand has done all its duties, and its thread still has to settle. Then to settle is the hand's next duty.
pub comes_to_settle : {n : ℕ} {cs : List HostCall} (program : Program) (p : Place) (ds : List Duty) (v : View)
    (q : Place) (u : View) → u.actor.agenda ≡ [] → WorksOn true n cs program p ds v q u
    → WorksOn false n cs program p ds v q (to_settle [] u)
comes_to_settle program p ds v q u none on =
    let settles = ready u.actor.head (Settle ∷ []) in
    record {
      traces = with_duties program p q ds settles _ v (to_settle [] u) (sym (settles_alone u.actor.head))
          (traces_behind program p q q ds settles settles v u (to_settle [] u)
          (with_agenda program p ds v q u [] none on)
          (quietly program q settles u (to_settle [] u) refl refl refl refl));
      off = ready_off u.actor.head (Settle ∷ []) refl;
    }
