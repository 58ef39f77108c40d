-- The step of a duty that has an operation is allowed, whatever it does with fields.
use Rattle.std.proofs.Common.{◌≡◌, ◌≢◌, ℕ, ◌<◌, ◌^◌, Bool, Option, List, [], ◌∷◌, inl, inr, refl, sym, ap, ◌∙◌, subst}
use Rattle.atomic_table.specs.Table.{State, Me, Allows}
use Rattle.brc_model.specs.declared.duty.Duty.{Duty}
use Rattle.brc_model.specs.declared.duty.Duty.TheVariants.{MergeExchange, KindLoad, CellLoad}
use Rattle.brc_model.specs.declared.duty.Reason.TheVariants.{Handed}
use Rattle.brc_model.specs.declared.actor.Status.TheVariants.{Gone}
use Rattle.brc_model.specs.Layout.{row_count}
use Rattle.brc_model.specs.Machine.{is_running}
use Rattle.brc_model.specs.Duties.{address_of, new_word}
use Rattle.brc_model.specs.FieldLaws.{FieldUse, Stays, Takes, Gives, use_of}
use Rattle.brc_model.specs.Within.{Suits}
use Rattle.brc_table.specs.Plan.{Plan}
use Rattle.brc_table.specs.ModelLaws.{ModelLaws}
use Rattle.brc_table.specs.declared.view.View.{View}
use Rattle.brc_table.specs.Rule.{thread_reading}
use Rattle.brc_table.specs.Views.{RowsAreThere, view_by, taken_after}
use Rattle.brc_table.specs.Places.{place, IsObjectWord, IsTableWord}
use Rattle.brc_table.specs.Hands.{TableState, HandState, plan_of}
use Rattle.brc_table.specs.Homes.{rows_of, held_in, TableStands}
use Rattle.brc_table.specs.Begins.{Becomes}
use Rattle.brc_table.specs.Uses.{IsDue, first_use, first_due, held_after, Uses}
use Rattle.brc_table.specs.Plays.{SuitsFirst, FirstFindsOwner, FindsKnown, FindsFirst}
use Rattle.brc_table.specs.Accesses.{HasAccess, IsNext}
use Rattle.brc_table.specs.DutySteps.{DueField, OverwritesFirst, Steps, StepsBy, said}
use Rattle.brc_table.proofs.Changing.{taken_same}
use Rattle.brc_table.proofs.Stepping.{read_of}
use Rattle.brc_table.proofs.Allowed as allowed
use Rattle.brc_table.proofs.Allowed.{IsAt, IsNextAt, Knows, Seen}
use Rattle.brc_table.proofs.Bare.{IsLike}
use Rattle.brc_table.proofs.ThreadsAllowed.{thread_leaves}
use Rattle.brc_table.proofs.NextDuty.{coming, table_word_of, use_same, word_of}
use Rattle.brc_table.proofs.FieldsTaken as taken
use Rattle.brc_table.proofs.FieldsGiven as given

-- What is behind the duty doesn't matter for what the hand knows of what it finds.
behind_known : (v : View) (d : Duty) (rest : List Duty) (found : ℕ) → FindsKnown v (d ∷ []) found
    → FindsKnown v (d ∷ rest) found
behind_known v (KindLoad x) rest found known = known
behind_known v (CellLoad x i) rest found known = known
behind_known v (MergeExchange x c w Handed) rest found known = known
behind_known v _ rest found known = tt

behind_first : (lines : List (List ℕ)) (v : View) (d : Duty) (rest : List Duty) (found : ℕ)
    → FindsFirst lines v (d ∷ []) found → FindsFirst lines v (d ∷ rest) found
behind_first lines v (KindLoad x) rest found first = first
behind_first lines v _ rest found first = tt

module _ (laws : ModelLaws) (words : TableState) (hand : HandState) (begins : View → View)
    {T : Type 0} (plan : Plan) (fields id index : ℕ) (me : Me (Option T) View) (seen : Seen words hand plan me)
    (becomes : Becomes (plan_of words) hand.view (begins hand.view)) where
  abbrev u : View
  u = begins me.0

  pub becoming : Becomes plan me.0 u
  becoming =
      allowed.becomes_here laws words hand begins plan fields id index me seen becomes

  module _ (d : Duty) (rest : List Duty) (next : IsNextAt u d rest index) (f : ℕ → ℕ)
      (leaves : allowed.LeavesWord laws plan me.0 u d rest index becoming next f) where
    -- What the hand learns, beside what becomes of its fields.
    learns : (found : ℕ) (after : Me (Option T) View) → Knows plan.lines u d found → Uses begins me found after
        → Steps plan.lines begins me found after
    learns found after known uses = (
      uses,
      subst (λ (ds : List Duty). SuitsFirst u ds found) (sym next.agenda) known.suits,
      subst (λ (ds : List Duty). FirstFindsOwner u ds found) (sym next.agenda) known.owner,
      subst (λ (ds : List Duty). FindsKnown u ds found) (sym next.agenda) (behind_known u d rest found known.finds),
      subst (λ (ds : List Duty). OverwritesFirst u.thread ds found) (sym next.agenda) known.overwrites,
      subst (λ (ds : List Duty). FindsFirst plan.lines u ds found) (sym next.agenda)
          (behind_first plan.lines u d rest found known.first),
    )

    -- The hand goes on with what the word says.
    goes_on : (word : ℕ) (after : Me (Option T) View) → Knows plan.lines u d (read_of u d word)
        → Uses begins me (read_of u d word) after → StepsBy plan.lines begins me word after
    goes_on word after known uses =
        subst (λ (ds : List Duty). Steps plan.lines begins me (said u ds word) after) (sym next.agenda)
        (learns (read_of u d word) after known uses)

    -- A duty that takes no field and gives none back uses none.
    uses_none : ((found : ℕ) → use_of d found ≡ Stays) → (found : ℕ) → RowsAreThere (view_by u (d ∷ rest) found)
        → Uses begins me found (view_by u (d ∷ rest) found, me.1)
    uses_none stays found rows = (
      ap (λ (ds : List Duty). view_by u ds found) (sym next.agenda),
      rows,
      λ follows.
          follows ∙ (sym (taken_same becoming) ∙ sym (ap (taken_after u.taken) (stays found))),
      sym (ap (λ (s : FieldUse). held_after (held_in me.1) s (first_due (d ∷ rest) found)) (stays found))
          ∙ ap (λ (ds : List Duty). held_after (held_in me.1) (first_use ds found) (first_due ds found))
          (sym next.agenda),
    )

    pub permitted : rows_of me.1 ≡ me.0.taken → (s : FieldUse)
        → ((found : ℕ) → use_of d found ≡ s) → DueField s (held_in me.1) u
        → Allows (λ (s : State (Option T) View). TableStands plan s.words s.homes s.views) fields id me index f
        (StepsBy plan.lines begins me)
    permitted rows Stays all due =
        allowed.allows laws plan me.0 u d rest index becoming next fields id me f
        (StepsBy plan.lines begins me) refl all leaves
        (λ word knows there.
        goes_on word (view_by u (d ∷ rest) (read_of u d word), me.1) knows (uses_none all (read_of u d word) there))
    permitted rows (Takes x) all due =
        taken.takes_allows laws plan me.0 u d rest index becoming next x fields id me f
        begins (StepsBy plan.lines begins me) refl refl all leaves goes_on
    permitted rows (Gives x) all due =
        given.gives_allows laws plan me.0 u d rest index becoming next x
        fields id due.0 me f begins (StepsBy plan.lines begins me) refl refl rows due.1
        (subst (λ (ds : List Duty). IsDue u ds due.0) next.agenda due.2) all leaves goes_on

  -- The step of a duty that comes next leaves the duty's new word.
  next_leaves : (d : Duty) → HasAccess d → (e : Duty) (rest : List Duty) (next : IsNextAt u e rest index) → IsLike e d
      → (f : ℕ → ℕ)
      → ((running : Bool) (n found : ℕ) → found < 2 ^ 64 → Suits u.thread running n d found
      → f found ≡ new_word u.layout u.thread u.actor.head d found)
      → allowed.LeavesWord laws plan me.0 u e rest index becoming next f
  next_leaves d has e rest next like f leaves = elim (word_of u.layout u.thread u.actor.head d has) [
    | inl object ↦
        let is_at : IsAt u e rest index = record {
          agenda = next.agenda;
          alive = next.alive;
          object = subst IsObjectWord (sym (like.address u.layout u.thread u.actor.head)) object;
          index_is = next.index_is;
        } in
        allowed.object_leaves laws plan me.0 u e rest index becoming is_at f
        (λ found small knows.
        leaves (is_running u.actor.status) (row_count u.layout) found small
        (like.suits u.thread (is_running u.actor.status) (row_count u.layout) found knows.suits)
        ∙ sym (like.word u.layout u.thread u.actor.head found))
    | inr (on, suits) ↦
        let word = like.word u.layout u.thread u.actor.head in
        thread_leaves laws plan me.0 u e rest index becoming next
        (record {
          thread = on.thread;
          address = like.address u.layout u.thread u.actor.head ∙ on.address;
          says = λ found. ap thread_reading (word found) ∙ (on.says found ∙ sym (word (thread_reading found)));
          kind = elim on.kind [
            | inl looks ↦ inl (λ found. word found ∙ looks found)
            | inr (own, some) ↦ inr (own, λ found. subst (λ (k : ℕ). 0 < k) (sym (word found)) (some found))
          ];
        })
        f
        (λ found small.
        leaves (is_running u.actor.status) (row_count u.layout) found small
        (suits (is_running u.actor.status) (row_count u.layout) found)
        ∙ sym (word found))
  ]

  -- So is that of a duty that comes next.
  pub next_permitted : rows_of me.1 ≡ me.0.taken → (d : Duty)
      → HasAccess d → IsNext d u.actor.agenda → u.actor.status ≢ Gone → index
      ≡ place u.layout (address_of u.layout u.thread u.actor.head d)
      → (f : ℕ → ℕ)
      → ((running : Bool) (n found : ℕ) → found < 2 ^ 64 → Suits u.thread running n d found
      → f found ≡ new_word u.layout u.thread u.actor.head d found)
      → DueField (use_of d 0) (held_in me.1) u
      → Allows (λ (s : State (Option T) View). TableStands plan s.words s.homes s.views) fields id me index f
      (StepsBy plan.lines begins me)
  next_permitted rows d has coming_next alive at f leaves due =
      let c = coming d u.actor.agenda coming_next in
      let address = c.like.address u.layout u.thread u.actor.head in
      let next : IsNextAt u c.first c.rest index = record {
        agenda = c.is;
        alive = alive;
        word = subst IsTableWord (sym address) (table_word_of u.layout u.thread u.actor.head d has);
        index_is = at ∙ sym (ap (place u.layout) address);
      } in
      permitted c.first c.rest next f (next_leaves d has c.first c.rest next c.like f leaves) rows
      (use_of d 0) (λ found. c.like.fields found ∙ use_same d has found) due
