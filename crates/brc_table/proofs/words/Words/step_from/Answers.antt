use Rattle.std.specs.List.{list_any}
use Rattle.std.specs.Prelude.{◌==◌}
use Rattle.std.proofs.Common.{◌≡◌, ◌≢◌, ℕ, ◌<◌, ◌≤◌, Option, List, ◌^◌, Bool, [], ◌∷◌, refl, sym, ap, ◌∙◌, subst, arith}
use Rattle.atomic_table.specs.Table.{State, Me, Allows}
use Rattle.brc_model.specs.declared.duty.Duty.{Duty}
use Rattle.brc_model.specs.declared.actor.Status.{Status}
use Rattle.brc_model.specs.declared.actor.Status.TheVariants.{Gone}
use Rattle.brc_model.specs.Counting.{IsPlainLayout}
use Rattle.brc_model.specs.Limits.{worker_limit}
use Rattle.brc_model.specs.declared.layout.Layout.{Layout}
use Rattle.brc_model.specs.Duties.{address_of, new_word, new_head}
use Rattle.brc_model.specs.Layout.{block_size}
use Rattle.brc_model.specs.Machine.{is_running, status_by, used_by}
use Rattle.brc_model.specs.FieldLaws.{use_of}
use Rattle.brc_model.specs.Stores.{Overwrites}
use Rattle.brc_model.specs.Within.{Suits}
use Rattle.brc_table.specs.declared.view.View.{View}
use Rattle.brc_effect.specs.Accesses.{IfStored, left_by}
use Rattle.brc_table.specs.Accesses.{HasAccess, IsNext}
use Rattle.brc_table.specs.Begins.{KeepsButWork}
use Rattle.brc_table.specs.DutySteps.{DueField, Steps, StepsBy}
use Rattle.brc_table.specs.Hands.{HandState, TableState, plan_of}
use Rattle.brc_table.specs.Rule.{reading}
use Rattle.brc_table.specs.Views.{RowsAreThere}
use Rattle.brc_table.specs.Homes.{held_in, TableStands}
use Rattle.brc_table.specs.Places.{HasWord, place, word_count, FewFirstRows}
use Rattle.brc_table.specs.Plays.{SuitsFirst, FirstFindsOwner, FindsKnown, FindsFirst, overwritten_by}
use Rattle.brc_table.specs.Uses.{held_after, first_due}
use Rattle.brc_table.specs.Views.{view_after}
use Rattle.brc_table.proofs.Places.{place_within}
use Rattle.brc_table.proofs.NextDuty as next
use Rattle.brc_table.proofs.Permitted.{next_permitted}
use Rattle.brc_table.proofs.words.Words.step_from.Goals as goal

-- The hand's own thread and head are those of its view.
thread_here : (hand : HandState) (layout : Layout) → RowsAreThere hand.view → IsPlainLayout layout
    → hand.view.layout ≡ layout → hand.view.thread ≤ worker_limit
thread_here hand layout rows plain is =
    let workers = ap (λ (l : Layout). l.workers) is in omega (arith, workers, rows.thread, plain.few_workers)

-- The word is where the hand's own fields say.
word_here : (d : Duty) (l k : Layout) (t u head n : ℕ) → l ≡ k → t ≡ u → head ≡ n → HasWord k (address_of k u n d)
    → HasWord l (address_of l t head d)
word_here d l k t u head n layout thread same there =
    subst (λ (z : Layout). HasWord z (address_of z t head d)) (sym layout)
    (subst (λ (z : ℕ). HasWord k (address_of k z head d)) (sym thread)
    (subst (λ (z : ℕ). HasWord k (address_of k u z d)) (sym same) there))

pub access_of-access-requires : goal.access_of-access-requires
access_of-access-requires g c =
    let thread = c.hand.invariant.1 ∙ ap (λ (h : HandState). h.view.thread) c.hand.view_is in
    record {
      thread = subst (λ (t : ℕ). t ≤ worker_limit) (sym thread)
          (thread_here c.args.hand.now c.args.self.now.layout c.rows_are_there.ensures c.layout_is_plain.ensures
          c.requires.table.1);
      indexed = c.requires.indexed;
    }

pub operate-word-requires-clause-table : goal.operate-word-requires-clause-table
operate-word-requires-clause-table g c = ap (λ (h : HandState). h.table) c.hand.view_is ∙ c.requires.table.0

pub operate-word-requires-clause-there : goal.operate-word-requires-clause-there
operate-word-requires-clause-there g c =
    let v = c.args.hand.now.view in
    let layout = c.self.inside.blocks in
    let layout_is = c.self.invariant.0 ∙ ap (λ (w : TableState). w.layout) c.self.view_is in
    let address = address_of layout c.hand.inside.thread c.hand.inside.head c.args.duty.now in
    subst (λ (i : ℕ). i < c.args.self.now.table.words)
    (sym (c.place_at-index.ensures ∙ (ap (place c.self.inside.cells) c.address_of-address.ensures
    ∙ ap (λ (l : Layout). place l address) (c.self.invariant.3 ∙ sym c.self.invariant.0))))
    (subst (λ (n : ℕ). place layout address < n) (sym (c.words_are_there.ensures ∙ ap word_count (sym layout_is)))
    (place_within layout address
    (subst IsPlainLayout (sym layout_is) c.layout_is_plain.ensures)
    (subst FewFirstRows (c.requires.table.1 ∙ sym layout_is) c.rows_are_there.ensures.few)
    (word_here c.args.duty.now layout c.args.self.now.layout c.hand.inside.thread v.thread c.hand.inside.head
    v.actor.head
    layout_is (c.hand.invariant.1 ∙ ap (λ (h : HandState). h.view.thread) c.hand.view_is)
    (c.hand.invariant.3 ∙ ap (λ (h : HandState). h.view.actor.head) c.hand.view_is) c.requires.there)))

pub operate-word-requires-clause-allowed : goal.operate-word-requires-clause-allowed
operate-word-requires-clause-allowed g c =
    let begins = g.B.Begins.begins in
    let hand = c.hand.inside in
    let me = hand.seat.me in
    let u = begins me.0 in
    let d = c.args.duty.now in
    let view_is = c.hand.view_is in
    let words = c.args.self.now in
    let access = c.access_of-access.result in
    let same = subst (λ (h : HandState). KeepsButWork h.view (begins h.view)) (sym view_is) c.requires.begins.same in
    let thread : hand.thread ≡ u.thread = c.hand.invariant.1 ∙ sym (ap (λ (v : View). v.thread) same) in
    let head : hand.head ≡ u.actor.head = c.hand.invariant.3 ∙ sym (ap (λ (v : View). v.actor.head) same) in
    let layout : c.self.inside.blocks ≡ u.layout =
    c.self.invariant.0 ∙ (ap (λ (w : TableState). w.layout) c.self.view_is
    ∙ (sym c.requires.table.1 ∙ (ap (λ (h : HandState). h.view.layout) (sym view_is)
    ∙ sym (ap (λ (v : View). v.layout) same)))) in
    let cells : c.self.inside.cells ≡ c.self.inside.blocks = c.self.invariant.3 ∙ sym c.self.invariant.0 in
    let index : c.place_at-index.result ≡ place u.layout (address_of u.layout u.thread u.actor.head d) =
    c.place_at-index.ensures ∙ ap (place c.self.inside.cells) c.address_of-address.ensures
    ∙ (ap (λ (l : Layout). place l (address_of c.self.inside.blocks hand.thread hand.head d)) cells
    ∙ (ap (λ (l : Layout). place l (address_of l hand.thread hand.head d)) layout
    ∙ (ap (λ (t : ℕ). place u.layout (address_of u.layout t hand.head d)) thread
    ∙ ap (λ (k : ℕ). place u.layout (address_of u.layout u.thread k d)) head))) in
    subst (λ (l : List (List ℕ)). Allows
    (λ (s : State (Option g.row.T.Denot) View). TableStands (plan_of words) s.words s.homes s.views)
    words.table.slots hand.seat.id me c.place_at-index.result (left_by access) (StepsBy l begins me))
    (sym c.requires.lines)
    (next_permitted c.model_laws.ensures words c.args.hand.now begins
    (plan_of words) words.table.slots hand.seat.id c.place_at-index.result me
    (record { plan_is = refl; view_is = ap (λ (h : HandState). h.view) view_is }) c.requires.begins
    c.hand.invariant.0 d
    c.requires.known (subst (λ (h : HandState). IsNext d (begins h.view).actor.agenda) (sym view_is) c.requires.next)
    (subst (λ (h : HandState). (begins h.view).actor.status ≢ Gone) (sym view_is) c.requires.alive) index
    (left_by access)
    (subst (λ (t : ℕ). (running : Bool) (n found : ℕ) → found < 2 ^ 64 → Suits t running n d found
    → left_by access found ≡ new_word u.layout t u.actor.head d found) thread
    (subst (λ (k : ℕ). (running : Bool) (n found : ℕ) → found < 2 ^ 64 → Suits hand.thread running n d found
    → left_by access found ≡ new_word u.layout hand.thread k d found) head
    (subst (λ (l : Layout). (running : Bool) (n found : ℕ) → found < 2 ^ 64 → Suits hand.thread running n d found
    → left_by access found ≡ new_word l hand.thread hand.head d found) layout c.access_of-access.ensures.word)))
    (subst (λ (h : HandState). DueField (use_of d 0) h.fields (begins h.view)) (sym view_is) c.requires.due))

pub operate-word-requires-clause-before : goal.operate-word-requires-clause-before
operate-word-requires-clause-before g c =
    let begins = g.B.Begins.begins in
    let hand = c.hand.inside in
    let u = begins hand.seat.me.0 in
    let d = c.args.duty.now in
    let view_is = c.hand.view_is in
    let access = c.access_of-access.result in
    let same = subst (λ (h : HandState). KeepsButWork h.view (begins h.view)) (sym view_is) c.requires.begins.same in
    next.before_next u d (subst (λ (h : HandState). IsNext d (begins h.view).actor.agenda) (sym view_is)
    c.requires.next)
    c.requires.known access
    (subst (λ (t : ℕ). IfStored access (λ b. b ≡ overwritten_by t (d ∷ [])))
    (c.hand.invariant.1 ∙ sym (ap (λ (v : View). v.thread) same)) c.access_of-access.ensures.before)

pub operate-word-requires-clause-says : goal.operate-word-requires-clause-says
operate-word-requires-clause-says g c =
    let begins = g.B.Begins.begins in
    let hand = c.hand.inside in
    let u = begins hand.seat.me.0 in
    let d = c.args.duty.now in
    let view_is = c.hand.view_is in
    let access = c.access_of-access.result in
    let same = subst (λ (h : HandState). KeepsButWork h.view (begins h.view)) (sym view_is) c.requires.begins.same in
    next.says_next u d (subst (λ (h : HandState). IsNext d (begins h.view).actor.agenda) (sym view_is) c.requires.next)
    c.requires.known access
    (subst (λ (t : ℕ). IfStored access (λ b. reading (address_of u.layout t u.actor.head d) b ≡ b))
    (c.hand.invariant.1 ∙ sym (ap (λ (v : View). v.thread) same))
    (subst (λ (k : ℕ). IfStored access (λ b. reading (address_of u.layout hand.thread k d) b ≡ b))
    (c.hand.invariant.3 ∙ sym (ap (λ (v : View). v.actor.head) same))
    (next.stored_says u.layout hand.thread hand.head d access c.access_of-access.ensures.started)))

pub operate-word-requires-clause-knows : goal.operate-word-requires-clause-knows
operate-word-requires-clause-knows g c =
    let begins = g.B.Begins.begins in
    let hand = c.hand.inside in
    let u = begins hand.seat.me.0 in
    let d = c.args.duty.now in
    let view_is = c.hand.view_is in
    let access = c.access_of-access.result in
    let same = subst (λ (h : HandState). KeepsButWork h.view (begins h.view)) (sym view_is) c.requires.begins.same in
    next.knows_next u d (subst (λ (h : HandState). IsNext d (begins h.view).actor.agenda) (sym view_is) c.requires.next)
    c.requires.known access
    (subst (λ (t : ℕ). IfStored access (λ b. (found : ℕ) → Overwrites t d found → found ≡ b))
    (c.hand.invariant.1 ∙ sym (ap (λ (v : View). v.thread) same)) c.access_of-access.ensures.knows)

-- What the hand has done, and what the word that it found said.
stepped : (lines : List (List ℕ)) (begins : View → View) (duty : Duty) {T : Type 0} (me after : Me (Option T) View)
    (word found : ℕ)
    → IsNext duty (begins me.0).actor.agenda → HasAccess duty → StepsBy lines begins me word after
    → found ≡ reading (address_of (begins me.0).layout (begins me.0).thread (begins me.0).actor.head duty) word
    → Steps lines begins me found after
stepped lines begins duty me after word found is known steps says =
    subst (λ (k : ℕ). Steps lines begins me k after)
    (next.said_next (begins me.0) duty is known word ∙ sym says) steps

pub head_after-head-requires : goal.head_after-head-requires
head_after-head-requires g c =
    let v = c.args.hand.now.view in
    record {
      row =
          next.next_row_low c.args.self.now.layout v.thread v.actor.head c.args.duty.now c.layout_is_plain.ensures
          (subst FewFirstRows c.requires.table.1 c.rows_are_there.ensures.few) c.requires.there;
    }

pub used_after-used-requires : goal.used_after-used-requires
used_after-used-requires g c =
    let v = c.args.hand.now.view in
    let used = c.hand.invariant.4 ∙ ap (λ (h : HandState). h.view.actor.used) c.hand.view_is in
    let few =
    subst (λ (l : Layout). block_size l v.thread < 2 ^ 31) (sym c.requires.table.1)
    (next.block_few c.args.self.now.layout v.thread c.layout_is_plain.ensures
    (subst FewFirstRows c.requires.table.1 c.rows_are_there.ensures.few)) in
    record { room = omega (arith, used, few, c.rows_are_there.ensures.used) }

pub invariant_of-hand : goal.invariant_of-hand
invariant_of-hand g c =
    let begins = g.B.Begins.begins in
    let before = c.hand.inside.seat.me.0 in
    let u = begins before in
    let d = c.args.duty.now in
    let view_is = c.hand.view_is in
    let found = c.said_by-found.result in
    let after = c.operate-word.new.seat.me in
    let same = subst (λ (h : HandState). KeepsButWork h.view (begins h.view)) (sym view_is) c.requires.begins.same in
    let is = subst (λ (h : HandState). IsNext d (begins h.view).actor.agenda) (sym view_is) c.requires.next in
    let known = c.requires.known in
    let fits = c.hand.invariant in
    let step = stepped g.B.Begins.lines begins d c.hand.inside.seat.me after c.operate-word.result found is known
    c.operate-word.ensures.step (c.said_by-found.ensures u.layout u.thread u.actor.head) in
    let now = step.0.0 ∙ next.view_next u d is known found in
    let thread : after.0.thread ≡ before.thread = ap (λ (v : View). v.thread) now ∙ ap (λ (v : View). v.thread) same in
    let layout : after.0.layout ≡ before.layout = ap (λ (v : View). v.layout) now ∙ ap (λ (v : View). v.layout) same in
    let given : after.0.given ≡ before.given = ap (λ (v : View). v.given) now ∙ ap (λ (v : View). v.given) same in
    let status : is_running after.0.actor.status ≡ is_running (status_by before.actor.status d) =
    ap (λ (v : View). is_running v.actor.status) step.0.0
    ∙ (ap is_running (next.status_next u d is known found)
    ∙ ap (λ (s : Status). is_running (status_by s d)) (ap (λ (v : View). v.actor.status) same)) in (
      step.0.2 fits.0,
      fits.1 ∙ sym thread,
      c.runs_after-running.ensures before.actor.status fits.2 ∙ sym status,
      c.head_after-head.ensures
          ∙ (ap (λ (k : ℕ). new_head k d found) (fits.3 ∙ sym (ap (λ (v : View). v.actor.head) same))
          ∙ sym (ap (λ (v : View). v.actor.head) step.0.0 ∙ next.head_next u d is known found)),
      c.used_after-used.ensures
          ∙ (ap (λ (k : ℕ). used_by k d) (fits.4 ∙ sym (ap (λ (v : View). v.actor.used) same))
          ∙ sym (ap (λ (v : View). v.actor.used) step.0.0 ∙ next.used_next u d is known found)),
      step.0.1,
      λ main. fits.6 (sym thread ∙ main) ∙ sym (ap (λ (l : Layout). l.workers) layout),
      λ t. fits.7 t ∙ sym (ap (list_any (λ (k : ℕ). k == t)) given),
      fits.8,
    )

-- What a caller reads off the step.
record Made (lines : List (List ℕ)) (begins : View → View) (hand : HandState) (d : Duty) (found : ℕ) (after : View)
    (fields : List (ℕ × ℕ))
    : Type 0 where
  fields_are : fields ≡ held_after hand.fields (use_of d 0) (first_due (d ∷ []) found)
  view_is : after ≡ view_after (begins hand.view) found
  overwrites : Overwrites hand.view.thread d found
  suits : SuitsFirst (begins hand.view) (begins hand.view).actor.agenda found
  owner : FirstFindsOwner (begins hand.view) (begins hand.view).actor.agenda found
  finds : FindsKnown (begins hand.view) (begins hand.view).actor.agenda found
  first : FindsFirst lines (begins hand.view) (begins hand.view).actor.agenda found

made : (lines : List (List ℕ)) (begins : View → View) (hand : HandState) (d : Duty) {T : Type 0}
    (me after : Me (Option T) View)
    (word found : ℕ) → me.0 ≡ hand.view → held_in me.1 ≡ hand.fields → KeepsButWork hand.view (begins hand.view)
    → IsNext d (begins hand.view).actor.agenda → HasAccess d → StepsBy lines begins me word after
    → ((layout : Layout) (t head : ℕ) → found ≡ reading (address_of layout t head d) word)
    → Made lines begins hand d found after.0 (held_in after.1)
made lines begins hand d me after word found view_is fields_is same coming known steps says =
    let u = begins me.0 in
    let is = subst (λ (v : View). IsNext d (begins v).actor.agenda) (sym view_is) coming in
    let step = stepped lines begins d me after word found is known steps (says u.layout u.thread u.actor.head) in
    record {
      fields_are =
          step.0.3 ∙ (next.fields_next u d is known (held_in me.1) found
          ∙ ap (λ (l : List (ℕ × ℕ)). held_after l (use_of d 0) (first_due (d ∷ []) found)) fields_is);
      view_is = step.0.0 ∙ ap (λ (v : View). view_after (begins v) found) view_is;
      overwrites =
          subst (λ (t : ℕ). Overwrites t d found) (ap (λ (v : View). (begins v).thread) view_is
          ∙ ap (λ (v : View). v.thread) same)
          (next.overwrites_next u d is known found step.4);
      suits = subst (λ (v : View). SuitsFirst (begins v) (begins v).actor.agenda found) view_is step.1;
      owner = subst (λ (v : View). FirstFindsOwner (begins v) (begins v).actor.agenda found) view_is step.2;
      finds = subst (λ (v : View). FindsKnown (begins v) (begins v).actor.agenda found) view_is step.3;
      first = subst (λ (v : View). FindsFirst lines (begins v) (begins v).actor.agenda found) view_is step.5;
    }

pub returns : goal.returns
returns g c =
    let begins = g.B.Begins.begins in
    let is =
    made g.B.Begins.lines begins c.args.hand.now c.args.duty.now c.hand.inside.seat.me c.operate-word.new.seat.me
    c.operate-word.result c.said_by-found.result (ap (λ (h : HandState). h.view) c.hand.view_is)
    (ap (λ (h : HandState). h.fields) c.hand.view_is) c.requires.begins.same c.requires.next c.requires.known
    c.operate-word.ensures.step c.said_by-found.ensures in
    record {
      table = c.operate-word.ensures.table ∙ ap (λ (h : HandState). h.table) c.hand.view_is;
      carried = ap (λ (h : HandState). h.carried) c.hand.view_is;
      fields = is.fields_are;
      view = is.view_is;
      overwrites = is.overwrites;
      suits = is.suits;
      owner = is.owner;
      finds = is.finds;
      first =
          subst (λ (l : List (List ℕ)). FindsFirst l (begins c.args.hand.now.view)
          (begins c.args.hand.now.view).actor.agenda c.said_by-found.result) c.requires.lines is.first;
    }
