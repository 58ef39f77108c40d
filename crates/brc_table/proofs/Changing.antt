-- One hand's view changes, and with it the machine, so that the rule holds again.
use Rattle.std.proofs.Common.{◌≡◌, ◌≢◌, ℕ, ◌+◌, ◌<◌, true, List, length, set, Option, None, Some, ◌⊎◌, ⊎_elim, inl, inr, refl, sym, ap, ◌∙◌, subst}
use Rattle.std.specs.Prelude.{slice_get, slice_index, slice_index_or, All}
use Rattle.std.proofs.lemmas.Bool.Decides.{eqb_tells}
use Rattle.std.proofs.lemmas.Option.{slice_get_within}
use mathlib.Core.Option.{some, some-injective}
use lib.ListN.{get_elem?}
use Rattle.atomic_table.proofs.Lists.{at_set, set_else, set_again}
use Rattle.brc_model.specs.declared.duty.Holding.TheVariants.{ByVariable, AsCaller}
use Rattle.brc_model.specs.declared.actor.Status.TheVariants.{Gone}
use Rattle.brc_model.specs.declared.address.Address.{Address}
use Rattle.brc_model.specs.declared.address.Address.TheVariants.{Gate, KindOf, Cell, Field}
use Rattle.brc_model.specs.declared.layout.Layout.{Layout}
use Rattle.brc_model.specs.FirstRows.{first_kind_word}
use Rattle.brc_model.specs.Layout.{IsCounted}
use Rattle.brc_model.specs.declared.actor.Actor.{Actor}
use Rattle.brc_model.specs.Machine.{Machine, idle_actor}
use Rattle.brc_model.specs.Accounts.{Account, Accounts, HoldsNone}
use Rattle.brc_model.specs.Knowledge.{IsDyingWord}
use Rattle.brc_model.specs.Counting.{Counts, IsPlainLayout}
use Rattle.brc_table.specs.Plan.{Plan}
use Rattle.brc_table.specs.declared.view.View.{View}
use Rattle.brc_table.specs.declared.view.Joined.{Joined}
use Rattle.brc_table.specs.Places.{place, HasWord, word_count}
use Rattle.brc_table.specs.Views.{holds}
use Rattle.brc_table.specs.KnownWords.{knows_kind, known_cell}
use Rattle.brc_table.specs.Rule.{reading, Guards, IsGone, Stands}
use Rattle.brc_table.specs.Threads.{ThreadsStand}
use Rattle.brc_table.specs.Views.{is_given}
use Rattle.brc_table.specs.Homes.{times_in}
use Rattle.brc_table.specs.Begins.{Passes, Becomes}
use Rattle.brc_table.proofs.Lists.{slice_get-set_same, slice_get-set_other, set_view}

-- A hand guards what it guarded, if lives and gates are as before.
pub guards_before : (m new : Machine) (v : View) (x : ℕ) → new.life x ≡ m.life x
    → new.memory (Gate x) ≡ m.memory (Gate x) → Guards new v x → Guards m v x
guards_before m new v x life gate (inl locked) = inl locked
guards_before m new v x life gate (inr chained) =
    inr (sym life ∙ chained.0, subst (IsDyingWord v.thread) gate chained.1)

-- ---- what the change has to show

-- The new machine of a table in which one hand's view has changed from v to u.
pub record Changes (plan : Plan) (words : List ℕ) (views : List View) (v u : View) (old : Stands plan words views)
    (after : List ℕ)
    : Type 0 where
  pub accounts : Accounts
  pub machine : Machine
  pub counts : Counts accounts (1 + machine.layout.workers) machine
  pub layout_same : machine.layout ≡ old.machine.layout
  pub length_is : length after ≡ length words
  pub reads : (a : Address) → HasWord machine.layout a
      → machine.memory a ≡ reading a (slice_index after (place machine.layout a))
  pub actors : machine.actors ≡ set old.machine.actors v.thread u.actor
  pub thread_same : u.thread ≡ v.thread
  pub told_same : u.layout ≡ v.layout
  pub lends_none : u.actor.lent ≡ None
  pub given_more : (t : ℕ) → is_given t v ≡ true → is_given t u ≡ true
  pub holding : (x : ℕ) → IsCounted machine.layout x → accounts v.thread AsCaller x ≡ holds u x
  pub others : (t : ℕ) → t ≢ v.thread → accounts t ≡ old.accounts t
  pub no_variables : (t depth i x : ℕ) → accounts t (ByVariable depth i) x ≡ 0
  -- what the other hands have seen stays
  pub kinds_stay : (x word : ℕ) → 0 < word → old.machine.memory (KindOf x) ≡ word → machine.memory (KindOf x) ≡ word
  pub cells_stay : (other x : ℕ) (w : View) → w.thread ≢ v.thread → get_elem? views other ≡ some w → Guards machine w x
      → Guards old.machine w x × ((i : ℕ) → machine.memory (Cell x i) ≡ old.machine.memory (Cell x i))
  -- what this hand has seen is there
  pub kinds_here : (x word : ℕ) → 0 < word → knows_kind x word u ≡ true → machine.memory (KindOf x) ≡ word
  pub cells_here : (x i word : ℕ) → Guards machine u x → known_cell x i u ≡ Some word
      → machine.memory (Cell x i) ≡ word
  -- a hand that is gone stays so, and uses no further row
  pub gone_stays : v.actor.status ≡ Gone → (u.actor.status ≡ Gone) × (u.actor.used ≡ v.actor.used)
  -- the hands that this one has joined are gone
  pub joined_here : All (IsGone old.machine.actors) u.joined
  -- the words of threads say what they should
  pub threads : (id : ℕ) → get_elem? views id ≡ some v → ThreadsStand old.machine.layout after (set views id u)

module _ (plan : Plan) (words : List ℕ) (views : List View) (id : ℕ) (v u : View) (old : Stands plan words views)
    (here : get_elem? views id ≡ some v) (after : List ℕ) (new : Changes plan words views v u old after) where
  -- Another hand's thread is another thread.
  elsewhere : (other : ℕ) (w : View) → other ≢ id → get_elem? views other ≡ some w → w.thread ≢ v.thread
  elsewhere other w apart is e = apart (old.one_hand other id w v is here e)

  acts_after : (other : ℕ) (w : View) → get_elem? (set views id u) other ≡ some w
      → slice_get new.machine.actors w.thread ≡ Some w.actor
  acts_after other w is =
      let found : slice_get (set old.machine.actors v.thread u.actor) w.thread ≡ Some w.actor =
      ⊎_elim
      (λ t. subst (λ (x : View).
      slice_get (set old.machine.actors v.thread u.actor) x.thread ≡ Some x.actor) t.1
      (subst (λ (k : ℕ). slice_get (set old.machine.actors v.thread u.actor) k ≡ Some u.actor)
      (sym new.thread_same)
      (slice_get-set_same old.machine.actors v.thread u.actor
      (slice_get_within old.machine.actors v.thread v.actor (old.same_actor id v here)))))
      (λ t. slice_get-set_other old.machine.actors v.thread w.thread u.actor (elsewhere other w t.0 t.1)
      ∙ old.same_actor other w t.1)
      (at_set views id other u w is) in
      subst (λ (l : List Actor). slice_get l w.thread ≡ Some w.actor) (sym new.actors) found

  told_after : (other : ℕ) (w : View) → get_elem? (set views id u) other ≡ some w → w.layout ≡ new.machine.layout
  told_after other w is =
      ⊎_elim
      (λ t. subst (λ (x : View). x.layout ≡ new.machine.layout) t.1
      (new.told_same ∙ (old.same_layout id v here ∙ sym new.layout_same)))
      (λ t. old.same_layout other w t.1 ∙ sym new.layout_same)
      (at_set views id other u w is)

  lends_after : (other : ℕ) (w : View) → get_elem? (set views id u) other ≡ some w → w.actor.lent ≡ None
  lends_after other w is =
      ⊎_elim
      (λ t. subst (λ (x : View). x.actor.lent ≡ None) t.1 new.lends_none)
      (λ t. old.lends_none other w t.1)
      (at_set views id other u w is)

  kinds_after : (other x word : ℕ) (w : View) → get_elem? (set views id u) other ≡ some w → 0 < word
      → knows_kind x word w ≡ true → new.machine.memory (KindOf x) ≡ word
  kinds_after other x word w is more seen =
      ⊎_elim
      (λ t. new.kinds_here x word more (subst (λ (z : View). knows_kind x word z ≡ true) (sym t.1) seen))
      (λ t. new.kinds_stay x word more (old.kinds_seen other x word w t.1 more seen))
      (at_set views id other u w is)

  cells_after : (other x i word : ℕ) (w : View) → get_elem? (set views id u) other ≡ some w → Guards new.machine w x
      → known_cell x i w ≡ Some word → new.machine.memory (Cell x i) ≡ word
  cells_after other x i word w is guards seen =
      ⊎_elim
      (λ t. new.cells_here x i word (subst (λ (z : View). Guards new.machine z x) (sym t.1) guards)
      (subst (λ (z : View). known_cell x i z ≡ Some word) (sym t.1) seen))
      (λ t. let stay = new.cells_stay other x w (elsewhere other w t.0 t.1) t.1 guards in
      stay.1 i ∙ old.cells_seen other x i word w t.1 stay.0 seen)
      (at_set views id other u w is)

  holding_after : (other : ℕ) (w : View) (x : ℕ) → get_elem? (set views id u) other ≡ some w
      → IsCounted new.machine.layout x → new.accounts w.thread AsCaller x ≡ holds w x
  holding_after other w x is counted =
      ⊎_elim
      (λ t. subst (λ (y : View). new.accounts y.thread AsCaller x ≡ holds y x) t.1
      (subst (λ (k : ℕ). new.accounts k AsCaller x ≡ holds u x) (sym new.thread_same) (new.holding x counted)))
      (λ t. ap (λ (account : Account). account AsCaller x) (new.others w.thread (elsewhere other w t.0 t.1))
      ∙ old.holding other w x t.1 (subst (λ (l : Layout). IsCounted l x) new.layout_same counted))
      (at_set views id other u w is)

  -- A hand of the new list was in the old one, with the same thread.
  pub record Was (other : ℕ) (w : View) : Type 0 where
    pub view : View
    pub found : get_elem? views other ≡ some view
    pub thread : w.thread ≡ view.thread

  was : (other : ℕ) (w : View) → get_elem? (set views id u) other ≡ some w → Was other w
  was other w is =
      ⊎_elim
      (λ t. record {
        view = v;
        found = subst (λ (k : ℕ). get_elem? views k ≡ some v) (sym t.0) here;
        thread = ap (λ (x : View). x.thread) (sym t.1) ∙ new.thread_same;
      })
      (λ t. record { view = w; found = t.1; thread = refl })
      (at_set views id other u w is)

  apart_after : (one other : ℕ) (w z : View) → get_elem? (set views id u) one ≡ some w
      → get_elem? (set views id u) other ≡ some z → w.thread ≡ z.thread → one ≡ other
  apart_after one other w z is that same =
      let a = was one w is in let b = was other z that in
      old.one_hand one other a.view b.view a.found b.found (sym a.thread ∙ (same ∙ b.thread))

  idle_after : (t : ℕ) → t < 1 + new.machine.layout.workers
      → ((other : ℕ) (w : View) → get_elem? (set views id u) other ≡ some w → w.thread ≡ t → ⊥)
      → (slice_get new.machine.actors t ≡ Some (idle_actor 0)) × HoldsNone (new.accounts t)
  idle_after t low none =
      let apart : t ≢ v.thread = λ e. none id u (set_view views id v u here) (new.thread_same ∙ sym e) in
      let low' : t < 1 + old.machine.layout.workers =
      subst (λ (l : Layout). t < 1 + l.workers) new.layout_same low in
      let rest = old.idle t low' (λ other w is same.
      let ne : other ≢ id = λ e. apart (sym same ∙ ap (λ (x : View). x.thread)
      (some-injective w v (sym is ∙ (ap (get_elem? views) e ∙ here)))) in
      none other w (set_else views id other u ne ∙ is) same) in (
        ap (λ (l : List Actor). slice_get l t) new.actors
            ∙ (slice_get-set_other old.machine.actors v.thread t u.actor apart ∙ rest.0),
        subst HoldsNone (sym (new.others t apart)) rest.1,
      )

  given_after : (one other : ℕ) (main w : View) → get_elem? (set views id u) one ≡ some main → main.thread ≡ 0
      → get_elem? (set views id u) other ≡ some w → 0 < w.thread → is_given w.thread main ≡ true
  given_after one other main w is first that later =
      let b = was other w that in
      let more : 0 < b.view.thread = subst (λ (k : ℕ). 0 < k) b.thread later in
      ⊎_elim
      (λ t. let old_main : v.thread ≡ 0 = sym new.thread_same ∙ (ap (λ (x : View). x.thread) t.1 ∙ first) in
      subst (λ (x : View). is_given w.thread x ≡ true) t.1 (new.given_more w.thread
      (subst (λ (k : ℕ). is_given k v ≡ true) (sym b.thread)
      (old.given_out id other v b.view here old_main b.found more))))
      (λ t. subst (λ (k : ℕ). is_given k main ≡ true) (sym b.thread)
      (old.given_out one other main b.view t.1 first b.found more))
      (at_set views id one u main is)

  -- A joined hand is still gone: the thread that has changed is another one, or it stays gone.
  still_gone : (hand : Joined) → IsGone old.machine.actors hand → IsGone new.machine.actors hand
  still_gone hand is = elim (eqb_tells hand.thread v.thread) [
    | inl same ↦
        let own : v.actor ≡ is.actor =
        let e : Some v.actor ≡ Some is.actor =
        sym (old.same_actor id v here) ∙ (ap (slice_get old.machine.actors) (sym same.1) ∙ is.found) in cc in
        let stays = new.gone_stays (ap (λ (a : Actor). a.status) own ∙ is.gone) in
        record {
          actor = u.actor;
          found =
              ap (λ (l : List Actor). slice_get l hand.thread) new.actors
              ∙ (ap (slice_get (set old.machine.actors v.thread u.actor)) same.1
              ∙ slice_get-set_same old.machine.actors v.thread u.actor
              (slice_get_within old.machine.actors v.thread v.actor (old.same_actor id v here)));
          gone = stays.0;
          used = stays.1 ∙ (ap (λ (a : Actor). a.used) own ∙ is.used);
        }
    | inr apart ↦
        record {
          actor = is.actor;
          found =
              ap (λ (l : List Actor). slice_get l hand.thread) new.actors
              ∙ (slice_get-set_other old.machine.actors v.thread hand.thread u.actor apart.1 ∙ is.found);
          gone = is.gone;
          used = is.used;
        }
  ]

  joined_after : (other : ℕ) (w : View) → get_elem? (set views id u) other ≡ some w
      → All (IsGone new.machine.actors) w.joined
  joined_after other w is k d low = still_gone (slice_index_or w.joined k d) (⊎_elim
      (λ t. subst (λ (x : View). All (IsGone old.machine.actors) x.joined) t.1 new.joined_here k d low)
      (λ t. old.joined other w t.1 k d low)
      (at_set views id other u w is))

  pub changed : Stands plan after (set views id u)
  changed = record {
    accounts = new.accounts;
    machine = new.machine;
    counts = new.counts;
    layout_is = new.layout_same ∙ old.layout_is;
    plain = subst IsPlainLayout (sym new.layout_same) old.plain;
    lines = old.lines;
    length_is = new.length_is ∙ (old.length_is ∙ ap word_count (sym new.layout_same));
    reads = new.reads;
    same_actor = acts_after;
    same_layout = told_after;
    lends_none = lends_after;
    first_kinds = λ x some. new.kinds_stay x (first_kind_word plan.lines plan.layout x) some (old.first_kinds x some);
    kinds_seen = kinds_after;
    cells_seen = cells_after;
    holding = holding_after;
    no_variables = new.no_variables;
    one_hand = apart_after;
    idle = idle_after;
    given_out = given_after;
    joined = joined_after;
    threads = subst (λ (l : Layout). ThreadsStand l after (set views id u)) (sym new.layout_same) (new.threads id here);
  }

  -- Its accounts are the new ones.
  pub changed_accounts : changed.accounts ≡ new.accounts
  unfolding changed
  changed_accounts = refl

  -- Its machine is the new one.
  pub changed_machine : changed.machine ≡ new.machine
  unfolding changed
  changed_machine = refl

  -- No field changes but those that the hand has taken.
  pub passes : (taken : List ℕ) (locked : Option ℕ)
      → ((x : ℕ) → (times_in x taken ≡ 0) ⊎ (locked ≡ Some x)
      → new.machine.memory (Field x) ≡ old.machine.memory (Field x))
      → Passes plan after (set views id u) taken locked old.machine
  passes taken locked same = record {
    stands = changed;
    fields = λ x which. ap (λ (m : Machine). m.memory (Field x)) changed_machine ∙ same x which;
  }

-- The hand has taken the fields that it had taken, and has locked what it had locked.
pub taken_same : {plan : Plan} {v u : View} → Becomes plan v u → u.taken ≡ v.taken
taken_same becomes = ap (λ (w : View). w.taken) becomes.same

pub locked_same : {plan : Plan} {v u : View} → Becomes plan v u → u.actor.locked ≡ v.actor.locked
locked_same becomes = ap (λ (w : View). w.actor.locked) becomes.same

-- A hand may stay as it is.
pub itself_becomes : (plan : Plan) (v : View) → Becomes plan v v
itself_becomes plan v = record {
  passes = λ words views id stands here.
      subst (λ (l : List View). Passes plan words l v.taken v.actor.locked stands.machine)
      (sym (set_again views id v here))
      (record { stands = stands; fields = λ x which. refl });
  same = refl;
  in_field = λ x locks. refl;
  uses = λ x uses. uses;
}
