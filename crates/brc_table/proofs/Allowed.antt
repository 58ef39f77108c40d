-- What a table asks of a step: whatever its words are, the hand can go on, and the rule holds again.
use Rattle.std.proofs.Common.{◌≡◌, ◌≢◌, ℕ, ◌+◌, ◌<◌, ◌^◌, Option, None, Some, List, [], ◌∷◌, set, inl, refl, sym, ap, ◌∙◌, subst, arith}
use Rattle.std.specs.Prelude.{slice_index}
use Rattle.std.proofs.lemmas.List.{set-set}
use Rattle.std.proofs.lemmas.Option.{slice_get_within}
use mathlib.Core.Option.{some}
use lib.ListN.{get_elem?}
use Rattle.atomic_table.specs.Table.{State, keeps, Me, Allows}
use Rattle.brc_model.specs.declared.duty.Duty.{Duty}
use Rattle.brc_model.specs.declared.duty.Duty.TheVariants.{MergeExchange, KindLoad, CellLoad}
use Rattle.brc_model.specs.declared.duty.Reason.TheVariants.{Handed}
use Rattle.brc_model.specs.declared.actor.Status.TheVariants.{Gone}
use Rattle.brc_model.specs.declared.address.Address.TheVariants.{KindOf, Field}
use Rattle.brc_model.specs.declared.layout.Layout.{Layout}
use Rattle.brc_model.specs.FirstRows.{first_kind_word}
use Rattle.brc_model.specs.Layout.{row_count}
use Rattle.brc_model.specs.Duties.{address_of, new_word, resources_of}
use Rattle.brc_model.specs.Machine.{is_running}
use Rattle.brc_model.specs.Within.{Suits, FindsOwner}
use Rattle.brc_model.specs.FieldLaws.{Stays, Gives, use_of}
use Rattle.brc_model.specs.Stores.{Overwrites}
use Rattle.brc_table.specs.Plan.{Plan}
use Rattle.brc_table.specs.ModelLaws.{ModelLaws}
use Rattle.brc_table.specs.declared.view.View.{View}
use Rattle.brc_table.specs.Views.{event_of, view_by, taken_after, holds, RowsAreThere}
use Rattle.brc_table.specs.Rule.{Stands}
use Rattle.brc_table.specs.Homes.{FieldsStand, TableStands}
use Rattle.brc_table.specs.Plays.{FindsKnown, FindsFirst}
use Rattle.brc_table.specs.Hands.{TableState, HandState, plan_of}
use Rattle.brc_table.specs.Begins.{Passes, Becomes}
use Rattle.brc_table.specs.Places.{HasWord, place, IsObjectWord, IsTableWord}
use Rattle.brc_table.proofs.FirstHand.{with_duty}
use Rattle.brc_table.proofs.Changing.{taken_same, locked_same}
use Rattle.brc_table.proofs.CellGuards.{change_guards}
use Rattle.brc_table.proofs.FewRows.{few_first}
use Rattle.brc_table.proofs.Lists.{set_view}
use Rattle.brc_table.proofs.ThreadsKept.{KeepsThreads, object_step}
use Rattle.brc_table.proofs.Stepping.{Does, place_of, read_of, finds, has, relies, passes_after, object_in_table, object_reads}
use Rattle.brc_table.proofs.LockedFields.{field_full}
use Rattle.brc_table.proofs.RowsThere.{rows_there}
use Rattle.brc_table.proofs.FieldsKept.{fields_kept}
use Rattle.brc_table.proofs.FieldsUsed.{lock_stays, used_left}

-- ---- a step

-- What a hand knows of what it finds at its first duty, in a table with these lines of immortal lists.
pub record Knows (lines : List (List ℕ)) (v : View) (d : Duty) (found : ℕ) : Type 0 where
  pub suits : Suits v.thread (is_running v.actor.status) (row_count v.layout) d found
  pub overwrites : Overwrites v.thread d found
  pub owner : FindsOwner v.layout d found
  pub finds : FindsKnown v (d ∷ []) found
  pub first : FindsFirst lines v (d ∷ []) found

-- If the hand has locked the object whose kind word it loads, the object's field holds a resource exactly if the kind
-- has one.
abbrev FieldTells : View → Duty → ℕ → Type 0
FieldTells v (KindLoad x) found = v.actor.locked ≡ Some x → v.in_field ≡ resources_of found
FieldTells v _ found = Unit {0}

field_tells : ModelLaws → {T : Type 0} (plan : Plan) (s : State (Option T) View)
    (table : TableStands plan s.words s.homes s.views) (id : ℕ) (v u : View) → get_elem? s.views id ≡ some v
    → Becomes plan v u → (d : Duty) → HasWord table.stands.machine.layout
    (address_of u.layout u.thread u.actor.head d)
    → FieldTells u d (read_of u d (slice_index s.words (place_of u d)))
field_tells laws plan s table id v u here becomes (KindLoad x) there = λ locked.
    let mine : v.actor.locked ≡ Some x = sym (locked_same becomes) ∙ locked in
    becomes.in_field x mine
    ∙ (field_full laws.full plan s.words s.homes s.views table id x v here mine
    ∙ ap resources_of (table.stands.reads (KindOf x) there))
field_tells laws plan s table id v u here becomes _ there = tt

-- The hand's first duty finds what the hand knows of it.
finds_known : ModelLaws → (plan : Plan) (words : List ℕ) (views : List View) (id : ℕ) (v : View) (d : Duty)
    (found : ℕ) (stands : Stands plan words views) → get_elem? views id ≡ some v → (rest : List Duty)
    → v.actor.agenda ≡ d ∷ rest → v.actor.status ≢ Gone
    → stands.machine.memory (address_of v.layout v.thread v.actor.head d) ≡ found → FieldTells v d found
    → FindsKnown v (d ∷ []) found
finds_known laws plan words views id v (KindLoad x) found stands here rest agenda alive is tells = (
  λ word some seen. sym is ∙ stands.kinds_seen id x word v here some seen,
  tells,
)
finds_known laws plan words views id v (CellLoad x i) found stands here rest agenda alive is tells =
    λ word changes seen.
    sym is
    ∙ stands.cells_seen id x i word v here (change_guards laws.chains plan words views id v x stands here changes)
    seen
finds_known laws plan words views id v (MergeExchange x c w Handed) found stands here rest agenda alive is tells =
    λ same.
    laws.handed stands.accounts (1 + stands.machine.layout.workers) stands.machine v.thread v.actor x c w rest
    stands.counts
    (record { found = stands.same_actor id v here; agenda = agenda; alive = alive }) (is ∙ same)
finds_known laws plan words views id v _ found stands here rest agenda alive is tells = tt

-- A kind word of a row that was there from the start is the row's first one.
finds_first : (plan : Plan) (words : List ℕ) (views : List View) (id : ℕ) (v : View) (d : Duty) (found : ℕ)
    (stands : Stands plan words views) → get_elem? views id ≡ some v
    → stands.machine.memory (address_of v.layout v.thread v.actor.head d) ≡ found
    → FindsFirst plan.lines v (d ∷ []) found
finds_first plan words views id v (KindLoad x) found stands here is =
    subst
    (λ (l : Layout). 0 < first_kind_word plan.lines l x → found ≡ first_kind_word plan.lines l x)
    (sym (stands.same_layout id v here ∙ stands.layout_is)) (λ some. sym is ∙ stands.first_kinds x some)
finds_first plan words views id v _ found stands here is = tt

-- The hand's first duty is about the word at this place.
pub record IsNextAt (v : View) (d : Duty) (rest : List Duty) (index : ℕ) : Type 0 where
  pub agenda : v.actor.agenda ≡ d ∷ rest
  pub alive : v.actor.status ≢ Gone
  pub word : IsTableWord (address_of v.layout v.thread v.actor.head d)
  pub index_is : index ≡ place v.layout (address_of v.layout v.thread v.actor.head d)

module _ (laws : ModelLaws) (plan : Plan) (v u : View)
    (d : Duty) (rest : List Duty) (index : ℕ) (becomes : Becomes plan v u) (next : IsNextAt u d rest index) where
  knows : (words : List ℕ) (views : List View) (id : ℕ) → Does plan words views id u d rest
      → FieldTells u d (read_of u d (slice_index words (place_of u d)))
      → Knows plan.lines u d (read_of u d (slice_index words (place_of u d)))
  knows words views id does tells =
      let m = does.stands.machine in
      let told = does.stands.same_layout id u does.here in
      let relied = relies laws.kept laws.within laws.guarded plan words views id u d rest does in
      let found = read_of u d (slice_index words (place_of u d)) in
      let seen : m.memory (address_of m.layout u.thread u.actor.head d) ≡ found =
      subst (λ (l : Layout). m.memory (address_of l u.thread u.actor.head d) ≡ found) told
      (finds laws.kept laws.within laws.guarded plan words views id u d rest does) in
      record {
        suits =
            subst (λ (l : Layout). Suits u.thread (is_running u.actor.status) (row_count l) d found) (sym told)
            (subst (λ (k : ℕ). Suits u.thread (is_running u.actor.status) (row_count m.layout) d k) seen relied.suits);
        overwrites = subst (Overwrites u.thread d) seen relied.overwrites;
        owner =
            subst (λ (l : Layout). FindsOwner l d found) (sym told)
            (subst (λ (k : ℕ). FindsOwner m.layout d k) seen relied.owner);
        finds =
            finds_known laws plan words views id u d found does.stands does.here rest does.agenda does.alive
            (finds laws.kept laws.within laws.guarded plan words views id u d rest does) tells;
        first =
            finds_first plan words views id u d found does.stands does.here
            (finds laws.kept laws.within laws.guarded plan words views id u d rest does);
      }

  -- What a table asks of the word that the step leaves. The word that it finds is one of 64 bits.
  abbrev pub LeavesWord : (ℕ → ℕ) → Type 0
  LeavesWord f =
      ((found : ℕ) → found < 2 ^ 64 → Knows plan.lines u d (read_of u d found)
      → read_of u d (f found) ≡ new_word u.layout u.thread u.actor.head d (read_of u d found))
      × ((words : List ℕ) (views : List View) (id : ℕ) (does : Does plan words views id u d rest)
      → slice_index words (place_of u d) < 2 ^ 64
      → KeepsThreads does.stands.machine.layout words
      (set words (place_of u d) (f (slice_index words (place_of u d)))) u
      (view_by u (d ∷ rest) (read_of u d (slice_index words (place_of u d)))))

  module _ {T : Type 0} (s : State (Option T) View) (holds : TableStands plan s.words s.homes s.views) (id : ℕ)
      (here : get_elem? s.views id ≡ some v) where
    abbrev pub first : Passes plan s.words (set s.views id u) v.taken v.actor.locked holds.stands.machine
    first = becomes.passes s.words s.views id holds.stands here

    abbrev pub does : Does plan s.words (set s.views id u) id u d rest
    does = record {
      stands = first.stands;
      here = set_view s.views id v u here;
      agenda = next.agenda;
      alive = next.alive;
      word = next.word;
    }

    -- the word that the step finds
    abbrev pub word : ℕ
    word = slice_index s.words index

    same : slice_index s.words (place_of u d) ≡ word
    same = ap (slice_index s.words) (sym next.index_is)

    -- the hand after the step
    abbrev pub w : View
    w = view_by u (d ∷ rest) (read_of u d word)

    pub known : Knows plan.lines u d (read_of u d word)
    known =
        let machine = first.stands.layout_is ∙ sym holds.stands.layout_is in
        subst (λ (k : ℕ). Knows plan.lines u d (read_of u d k)) same
        (knows s.words (set s.views id u) id does
        (field_tells laws plan s holds id v u here becomes d
        (subst (λ (l : Layout). HasWord l (address_of u.layout u.thread u.actor.head d)) machine
        (has laws.kept laws.within laws.guarded plan s.words (set s.views id u) id u d rest does))))

    -- The machine has what the step finds.
    pub finds_word : first.stands.machine.memory (address_of first.stands.machine.layout u.thread u.actor.head d)
        ≡ read_of u d word
    finds_word =
        subst (λ (l : Layout). first.stands.machine.memory (address_of l u.thread u.actor.head d) ≡ read_of u d word)
        (first.stands.same_layout id u (set_view s.views id v u here))
        (finds laws.kept laws.within laws.guarded plan s.words (set s.views id u) id u d rest does
        ∙ ap (read_of u d) same)

    module _ (f : ℕ → ℕ) (leaves : LeavesWord f) (small : word < 2 ^ 64) where
      after : Passes plan (set s.words (place_of u d) (f word))
          (set (set s.views id u) id (view_by u (d ∷ rest) (read_of u d (slice_index s.words (place_of u d))))) [] None
          first.stands.machine
      after =
          passes_after laws.kept laws.within laws.guarded plan s.words (set s.views id u) id u d rest does (f word)
          (leaves.0 word small known
          ∙ ap (λ (k : ℕ). new_word u.layout u.thread u.actor.head d (read_of u d k)) (sym same))
          (subst (λ (k : ℕ). KeepsThreads does.stands.machine.layout s.words (set s.words (place_of u d) (f k)) u
          (view_by u (d ∷ rest) (read_of u d (slice_index s.words (place_of u d))))) same
          (leaves.1 s.words (set s.views id u) id does (subst (λ (k : ℕ). k < 2 ^ 64) (sym same) small)))

      moved : Passes plan (set s.words index (f word)) (set s.views id w) [] None first.stands.machine
      moved =
          subst (λ (l : List View). Passes plan (set s.words index (f word)) l [] None first.stands.machine)
          (set-set s.views id u w)
          (subst (λ (k : ℕ). Passes plan (set s.words index (f word))
          (set (set s.views id u) id (view_by u (d ∷ rest) (read_of u d k))) [] None first.stands.machine) same
          (subst (λ (i : ℕ). Passes plan (set s.words i (f word))
          (set (set s.views id u) id (view_by u (d ∷ rest) (read_of u d (slice_index s.words (place_of u d))))) [] None
          first.stands.machine) (sym next.index_is) after))

      pub now : Passes plan (set s.words index (f word)) (set s.views id w) v.taken v.actor.locked
          holds.stands.machine
      now =
          record { stands = moved.stands; fields = λ x which. moved.fields x (inl refl) ∙ first.fields x which }

      pub rows_now : RowsAreThere w
      rows_now =
          rows_there laws.accounts laws.chains plan (set s.words index (f word)) (set s.views id w) id w now.stands
          (set_view s.views id v w here)

      -- The step itself changes no field.
      pub fields_stay : (x : ℕ) → now.stands.machine.memory (Field x) ≡ first.stands.machine.memory (Field x)
      unfolding now moved
      fields_stay x = moved.fields x (inl refl)

      -- The machine's size stays.
      pub layout_stays : now.stands.machine.layout ≡ holds.stands.machine.layout
      layout_stays = now.stands.layout_is ∙ sym holds.stands.layout_is

      -- A duty that takes no field and gives none back leaves fields as they are.
      pub fields_now : use_of d (read_of u d word) ≡ Stays
          → FieldsStand now.stands.machine s.homes (set s.views id w)
      fields_now stays =
          fields_kept holds.stands.machine now.stands.machine s.homes s.views id v w holds.fields here layout_stays
          (record {
            taken = ap (taken_after u.taken) stays ∙ taken_same becomes;
            in_field = becomes.in_field;
            locked = lock_stays u.actor.locked d (read_of u d word) stays ∙ locked_same becomes;
            used = λ x uses.
                used_left u d rest (read_of u d word) x next.agenda
                (λ gives. let wrong : Stays ≡ Gives x = sym stays ∙ gives in absurd cc)
                (λ locks. lock_stays u.actor.locked d (read_of u d word) stays ∙ locks) (becomes.uses x uses);
          }) now.fields

  -- The step is allowed if it leaves the duty's new word, and fields as they are, and the hand learns no more than what
  -- it knows.
  pub allows : {T : Type 0} (fields id : ℕ) (me : Me (Option T) View) (f : ℕ → ℕ)
      (then : ℕ → Me (Option T) View → Type 0)
      → me.0 ≡ v → ((found : ℕ) → use_of d found ≡ Stays) → LeavesWord f
      → ((found : ℕ) → Knows plan.lines u d (read_of u d found)
      → RowsAreThere (view_by u (d ∷ rest) (read_of u d found))
      → then found (view_by u (d ∷ rest) (read_of u d found), me.1))
      → Allows (λ (s : State (Option T) View). TableStands plan s.words s.homes s.views) fields id me index f then
  allows fields id me f then is_me stays leaves goes s holds homes here below =
      let mine = here ∙ ap some is_me in (
        w s holds id mine,
        keeps,
        tt,
        record {
          stands = (now s holds id mine f leaves below).stands;
          fields = fields_now s holds id mine f leaves below (stays (read_of u d (slice_index s.words index)));
          first =
              with_duty plan.layout (set s.views id (w s holds id mine)) id u d rest
              (read_of u d (slice_index s.words index)) (set_view s.views id v (w s holds id mine) mine);
        },
        goes (slice_index s.words index) (known s holds id mine) (rows_now s holds id mine f leaves below),
      )

-- ---- a step on an object's word

-- The hand's first duty is about the object's word at this place.
pub record IsAt (v : View) (d : Duty) (rest : List Duty) (index : ℕ) : Type 0 where
  pub agenda : v.actor.agenda ≡ d ∷ rest
  pub alive : v.actor.status ≢ Gone
  pub object : IsObjectWord (address_of v.layout v.thread v.actor.head d)
  pub index_is : index ≡ place v.layout (address_of v.layout v.thread v.actor.head d)

-- A first duty about an object's word is about a word of the table.
pub object_next : (v : View) (d : Duty) (rest : List Duty) (index : ℕ) → IsAt v d rest index → IsNextAt v d rest index
object_next v d rest index is_at = record {
  agenda = is_at.agenda;
  alive = is_at.alive;
  word = object_in_table (address_of v.layout v.thread v.actor.head d) is_at.object;
  index_is = is_at.index_is;
}

module _ (laws : ModelLaws) (plan : Plan) (v u : View)
    (d : Duty) (rest : List Duty) (index : ℕ) (becomes : Becomes plan v u) (is_at : IsAt u d rest index) where
  -- An object's word says what it is.
  pub itself : (word : ℕ) → read_of u d word ≡ word
  itself word = object_reads (address_of u.layout u.thread u.actor.head d) word is_at.object

  pub object_leaves : (f : ℕ → ℕ)
      → ((found : ℕ) → found < 2 ^ 64 → Knows plan.lines u d found
      → f found ≡ new_word u.layout u.thread u.actor.head d found)
      → LeavesWord laws plan v u d rest index becomes (object_next u d rest index is_at) f
  object_leaves f leaves = (
    λ found small known.
        itself (f found) ∙ (leaves found small (subst (Knows plan.lines u d) (itself found) known)
        ∙ ap (new_word u.layout u.thread u.actor.head d) (sym (itself found))),
    λ words views i does small.
        let m = does.stands.machine in
        let raw = slice_index words (place_of u d) in
        let at = address_of u.layout u.thread u.actor.head d in
        subst (λ (l : Layout). KeepsThreads m.layout words (set words (place l at) (f raw)) u
        (view_by u (d ∷ rest) (read_of u d raw))) (sym (does.stands.same_layout i u does.here))
        (object_step m.layout words u (view_by u (d ∷ rest) (read_of u d raw)) (event_of u d (read_of u d raw)) (f raw)
        does.stands.plain (few_first does.stands.accounts (1 + m.layout.workers) m does.stands.counts)
        (omega (
          arith,
          slice_get_within m.actors u.thread u.actor (does.stands.same_actor i u does.here),
          does.stands.counts.kept.core.threads,
        ))
        (record { thread = refl; given = refl; trace = refl }) is_at.object
        (has laws.kept laws.within laws.guarded plan words views i u d rest does)),
  )

-- ---- what a call knows

-- What contracts see of the table and the hand is what the table's code has.
pub record Seen {S : Type 0} (words : TableState) (hand : HandState) (plan : Plan) (me : Me S View) : Type 0 where
  pub plan_is : plan ≡ plan_of words
  pub view_is : me.0 ≡ hand.view

module _ (laws : ModelLaws) (words : TableState)
    (hand : HandState) (begins : View → View) {T : Type 0} (plan : Plan) (fields id index : ℕ)
    (me : Me (Option T) View) (seen : Seen words hand plan me)
    (becomes : Becomes (plan_of words) hand.view (begins hand.view)) where
  pub becomes_here : Becomes plan me.0 (begins me.0)
  becomes_here =
      subst (λ (p : Plan). Becomes p me.0 (begins me.0)) (sym seen.plan_is)
      (subst (λ (v : View). Becomes (plan_of words) v (begins v)) (sym seen.view_is) becomes)
