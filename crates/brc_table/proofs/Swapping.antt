-- A hand swaps a cell of a list that it has locked, or is to finalise, and the rule holds again. No duty says so: the
-- step puts a reference in and takes one out at once, so the new machine is the one of the model's law of swaps.
use Rattle.std.proofs.Common.{◌≡◌, ◌≢◌, ℕ, zero, suc, ◌+◌, ◌<◌, ◌≤◌, Bool, false, cond, List, set, Option, Some, inl, inr, refl, sym, ap, ◌∙◌, subst, arith}
use Rattle.std.specs.Prelude.{◌==◌, ◌&&◌, slice_index, count_by}
use Rattle.std.proofs.lemmas.Bool.{ne_eqb}
use Rattle.std.proofs.lemmas.Bool.Decides.{eqb_tells}
use Rattle.std.proofs.lemmas.Option.{slice_get_within}
use Rattle.std.proofs.lemmas.List.{length-set, set-set}
use Rattle.std.proofs.lemmas.List.Sums.{count_by-le-length}
use mathlib.Core.Option.{some}
use lib.ListN.{get_elem?}
use Rattle.atomic_table.specs.Table.{State, keeps, Me, Allows}
use Rattle.brc_model.specs.declared.duty.Holding.TheVariants.{ByVariable, AsCaller}
use Rattle.brc_model.specs.declared.duty.Duty.{Duty}
use Rattle.brc_model.specs.declared.duty.Duty.TheVariants.{SettleCell, CellSwap}
use Rattle.brc_model.specs.declared.address.Address.{Address}
use Rattle.brc_model.specs.declared.address.Address.TheVariants.{KindOf, Cell, Field}
use Rattle.brc_model.specs.declared.layout.Layout.{Layout}
use Rattle.brc_model.specs.Layout.{row_count, IsCounted}
use Rattle.brc_model.specs.References.{one_if}
use Rattle.brc_model.specs.Duties.{address_of, new_word, cells_of}
use Rattle.brc_model.specs.Machine.{Machine, written}
use Rattle.brc_model.specs.Accounts.{Account}
use Rattle.brc_model.specs.Stores.{Overwrites}
use Rattle.brc_model.specs.Counting.{with_account}
use Rattle.brc_model.specs.CountingLaws.{WorkIsPutAside, ImmortalsAreFree, AccountsAreThere, ChainsAreThere}
use Rattle.brc_model.specs.CellLaws as law
use Rattle.brc_model.specs.CellLaws.{cell_swapped, HasRoomFor, CellsAreSwapped, ItemsAreThere}
use Rattle.brc_table.specs.Plan.{Plan}
use Rattle.brc_table.specs.declared.view.View.{View}
use Rattle.brc_table.specs.Places.{HasWord, cell_place}
use Rattle.brc_table.specs.Views.{holds, RowsAreThere, without_reference, rested}
use Rattle.brc_table.specs.KnownWords.{known_cell}
use Rattle.brc_table.specs.Rule.{Guards, Stands}
use Rattle.brc_table.specs.Homes.{FieldsStand, TableStands}
use Rattle.brc_table.specs.Begins.{Passes}
use Rattle.brc_table.specs.Swaps.{with_item, without_item, swapped, MayPut, MaySwap, Swaps}
use Rattle.brc_table.proofs.FirstHand.{with_event}
use Rattle.brc_table.proofs.Accounts.{with_account_same, with_account_other, count_with_reference, count_without_reference}
use Rattle.brc_table.proofs.CellGuards.{change_there, change_by, change_guards, guards_apart}
use Rattle.brc_table.proofs.RowsThere.{rows_there}
use Rattle.brc_table.proofs.Passing.{waiting_uses}
use Rattle.brc_table.proofs.AtHand.{is_ready, alone, can_give_up}
use Rattle.brc_table.proofs.Becoming.{rested_becomes}
use Rattle.brc_table.proofs.Changing.{Changes, passes}
use Rattle.brc_table.proofs.FieldsKept.{fields_kept}
use Rattle.brc_table.proofs.FewRows.{few_first}
use Rattle.brc_table.proofs.Lists.{set_view, set_itself}
use Rattle.brc_table.proofs.Locking.{kind_some, known_low}
use Rattle.brc_table.proofs.Stepping.{written_reads}
use Rattle.brc_table.proofs.ThreadsKept.{object_step, threads_kept}
use Rattle.brc_table.proofs.KnownKept.{IsStep, kind_here, cell_here}

-- ---- a duty that stores the word

-- a duty of the model that stores the word in the cell
abbrev storing : ℕ → ℕ → ℕ → Duty
storing x i zero = SettleCell x i 1
storing x i (suc y) = CellSwap x i y AsCaller

-- The hand's event is the step of that duty.
is_storing : (layout : Layout) (memory : Address → ℕ) (t head x i word found : ℕ)
    → IsStep layout memory t head (storing x i word) (record { address = Cell x i; found = found; left = word })
is_storing layout memory t head x i zero found = record { address = refl; left = refl }
is_storing layout memory t head x i (suc y) found = record { address = refl; left = omega arith }

-- So it leaves the word in the cell.
stored_is : (layout : Layout) (memory : Address → ℕ) (t head x i word : ℕ) (b : Address)
    → written memory (address_of layout t head (storing x i word))
    (new_word layout t head (storing x i word) (memory (address_of layout t head (storing x i word)))) b
    ≡ written memory (Cell x i) word b
stored_is layout memory t head x i zero b = refl
stored_is layout memory t head x i (suc y) b =
    let same : y + 1 ≡ suc y = omega arith in ap (λ (w : ℕ). written memory (Cell x i) w b) same

-- It overwrites any word.
overwrites_any : (t x i word found : ℕ) → Overwrites t (storing x i word) found
overwrites_any t x i zero found = tt
overwrites_any t x i (suc y) found = tt

-- ---- the references that the hand lists

-- The account after a swap has as many references to a counted object as the hand then lists.
lists_account : (layout : Layout) (account : Account) (rows : List ℕ) (found word y : ℕ) → IsCounted layout y
    → account AsCaller y ≡ count_by (λ z. z == y) rows
    → ((w : ℕ) → word ≡ suc w → one_if (w == y) ≤ account AsCaller y)
    → law.without_item (law.with_item account found) word AsCaller y
    ≡ count_by (λ z. z == y) (with_item layout found (without_item layout word rows))
lists_account layout account rows zero zero y counted same has = same
lists_account layout account rows zero (suc w) y counted same has =
    omega (arith, same, count_without_reference layout w y rows counted)
lists_account layout account rows (suc z) zero y counted same has =
    omega (arith, same, count_with_reference layout z y rows counted)
lists_account layout account rows (suc z) (suc w) y counted same has =
    omega (
      arith,
      same,
      has w refl,
      count_without_reference layout w y rows counted,
      count_with_reference layout z y (without_reference layout w rows) counted,
    )

-- ---- the step

module _ (put : WorkIsPutAside) (free : ImmortalsAreFree) (there : AccountsAreThere) (chains : ChainsAreThere)
    (items : ItemsAreThere) (swap : CellsAreSwapped) (plan : Plan) (v : View) (x i word : ℕ)
    (may : MaySwap v x i word) where
  -- The rule holds with accounts from which the thread may put the item.
  pub record Puts (words : List ℕ) (views : List View) (before : Machine) : Type 0 where
    pub stands : Stands plan words views
    pub fields : (y : ℕ) → stands.machine.memory (Field y) ≡ before.memory (Field y)
    pub may_put : law.MayPut (stands.accounts v.thread) (rested v).actor word

  has_item : (words : List ℕ) (views : List View) (id w : ℕ) → (stands : Stands plan words views)
      → get_elem? views id ≡ some (rested v) → word ≡ w → MayPut v w → Puts words views stands.machine
  has_item words views id zero stands here is puts = record {
    stands = stands;
    fields = λ y. refl;
    may_put = subst (law.MayPut (stands.accounts v.thread) (rested v).actor) (sym is) tt;
  }
  has_item words views id (suc y) stands here is puts =
      let spare =
      can_give_up free plan words views id v y
      (record { stands = stands; here = here; running = may.running.0; free = puts.1 }) puts.0 puts.2 in
      let s = spare.stands in
      record {
        stands = s;
        fields = spare.fields;
        may_put =
            subst (law.MayPut (s.accounts v.thread) (rested v).actor) (sym is) (
              alone v y puts.1,
              spare.more,
              spare.keeps,
            );
      }

  module _ (words : List ℕ) (views : List View) (id : ℕ) (before : Machine) (puts : Puts words views before)
      (here : get_elem? views id ≡ some (rested v)) where
    abbrev s : Stands plan words views
    s = puts.stands

    abbrev m : Machine
    m = s.machine

    abbrev found : ℕ
    found = slice_index words (cell_place m.layout x i)

    abbrev after : View
    after = swapped v x i word found

    abbrev account : Account
    account = law.without_item (law.with_item (s.accounts v.thread) (m.memory (Cell x i))) word

    told : v.layout ≡ m.layout
    told = s.same_layout id (rested v) here

    rows : RowsAreThere (rested v)
    rows = rows_there there chains plan words views id (rested v) s here

    cell_has : HasWord m.layout (Cell x i)
    cell_has = (
      subst (λ (l : Layout). x < row_count l) told (change_there (rested v) x rows may.changes),
      subst (λ (l : Layout). i < l.cells) told
          (known_low (rested v) x i rows
          (record { word = may.knows.word; seen = may.knows.seen; low = may.knows.low })),
    )

    -- The cell has what the table's word says.
    finds : m.memory (Cell x i) ≡ found
    finds = s.reads (Cell x i) cell_has

    low : i < cells_of (m.memory (KindOf x))
    low =
        let more : 0 < may.knows.word = kind_some may.knows.word i may.knows.low in
        subst (λ (w : ℕ). i < cells_of w)
        (sym (s.kinds_seen id x may.knows.word (rested v) here more may.knows.seen)) may.knows.low

    room : (w : ℕ) → HasRoomFor m.layout (s.accounts v.thread) w
    room zero = tt
    room (suc y) =
        λ counted.
        omega (
          arith,
          s.holding id (rested v) y here counted,
          count_by-le-length (λ (z : ℕ). z == y) v.references,
          may.few,
        )

    put_some : (y w : ℕ) → word ≡ suc w → one_if (w == y) ≤ s.accounts v.thread AsCaller y
    put_some y w is =
        let mine : law.MayPut (s.accounts v.thread) (rested v).actor (suc w) =
        subst (law.MayPut (s.accounts v.thread) (rested v).actor) is puts.may_put in
        elim (eqb_tells w y) [
          | inl same ↦
              let one : one_if (w == y) ≡ 1 = ap one_if same.0 in
              omega (arith, one, subst (λ (z : ℕ). 1 ≤ s.accounts v.thread AsCaller z) same.1 mine.1)
          | inr apart ↦ let none : one_if (w == y) ≡ 0 = ap one_if apart.0 in omega (arith, none)
        ]

    no_variables_after : (k depth j y : ℕ) → with_account s.accounts v.thread account k (ByVariable depth j) y ≡ 0
    no_variables_after k depth j y =
        let less : (a : Account) (w : ℕ) → a (ByVariable depth j) y ≡ 0 → law.without_item a w (ByVariable depth j) y
        ≡ 0 =
        λ a w. elim w as (λ w. a (ByVariable depth j) y ≡ 0 → law.without_item a w (ByVariable depth j) y ≡ 0) [
          | zero ↦ λ none. none
          | suc z ↦ λ none. omega (arith, none)
        ] in
        let more : (a : Account) (w : ℕ) → a (ByVariable depth j) y ≡ 0 → law.with_item a w (ByVariable depth j) y ≡ 0 =
        λ a w. elim w as (λ w. a (ByVariable depth j) y ≡ 0 → law.with_item a w (ByVariable depth j) y ≡ 0) [
          | zero ↦ λ none. none
          | suc z ↦ λ none. omega (arith, none)
        ] in
        elim (eqb_tells k v.thread) [
          | inl this ↦
              ap (λ (u : ℕ). with_account s.accounts v.thread account u (ByVariable depth j) y) this.1
              ∙ (ap (λ (a : Account). a (ByVariable depth j) y) (with_account_same s.accounts v.thread account)
              ∙ less (law.with_item (s.accounts v.thread) (m.memory (Cell x i))) word
              (more (s.accounts v.thread) (m.memory (Cell x i)) (s.no_variables v.thread depth j y)))
          | inr apart ↦
              ap (λ (a : Account). a (ByVariable depth j) y) (with_account_other s.accounts v.thread account k apart.1)
              ∙ s.no_variables k depth j y
        ]

    -- No other hand changes the list's cells.
    guards : Guards m (rested v) x
    guards = change_guards chains plan words views id (rested v) x s here may.changes

    -- The cells that another hand guards are another list's.
    other_list : (other y : ℕ) (w : View) → w.thread ≢ v.thread → get_elem? views other ≡ some w → Guards m w y
        → (x == y) ≡ false
    other_list other y w apart is theirs =
        ne_eqb x y (λ same.
        guards_apart plan words views other id w (rested v) x s is here apart
        (subst (λ (z : ℕ). Guards m w z) (sym same) theirs) guards)

    changes : Changes plan words views (rested v) after s (set words (cell_place m.layout x i) word)
    changes = record {
      accounts = with_account s.accounts v.thread account;
      machine = cell_swapped m v.thread x i word;
      counts =
          swap s.accounts (1 + m.layout.workers) m v.thread (rested v).actor x i word s.counts
          (is_ready plan words views id v s here may.running.0) (change_by v x may.changes) may.retains low
          puts.may_put
          (room (m.memory (Cell x i)));
      layout_same = refl;
      length_is = length-set words (cell_place m.layout x i) word;
      reads =
          written_reads m.layout words m.memory (Cell x i) word word s.plain
          (few_first s.accounts (1 + m.layout.workers) m s.counts) s.length_is refl cell_has s.reads;
      actors = sym (set_itself m.actors v.thread (rested v).actor (s.same_actor id (rested v) here));
      thread_same = refl;
      told_same = refl;
      given_more = λ k is. is;
      gone_stays = λ gone. (gone, refl);
      lends_none = s.lends_none id (rested v) here;
      joined_here = s.joined id (rested v) here;
      holding = λ y counted.
          ap (λ (a : Account). a AsCaller y) (with_account_same s.accounts v.thread account)
          ∙ (lists_account v.layout (s.accounts v.thread) v.references (m.memory (Cell x i)) word y
          (subst (λ (l : Layout). IsCounted l y) (sym told) counted) (s.holding id (rested v) y here counted)
          (put_some y)
          ∙ ap (λ (w : ℕ). count_by (λ z. z == y) (with_item v.layout w (without_item v.layout word v.references)))
          finds);
      others = with_account_other s.accounts v.thread account;
      no_variables = no_variables_after;
      kinds_stay = λ y w more is. is;
      cells_stay = λ other y w apart is theirs. (
        theirs,
        λ j. ap (λ (b : Bool). cond (b && (i == j)) word (m.memory (Cell y j))) (other_list other y w apart is theirs),
      );
      kinds_here = λ y w more shown.
          sym (stored_is m.layout m.memory v.thread v.actor.head x i word (KindOf y))
          ∙ kind_here m.layout m.memory v.thread v.actor.head (storing x i word)
          (record { address = Cell x i; found = found; left = word })
          (is_storing m.layout m.memory v.thread v.actor.head x i word found) v.trace y w
          (overwrites_any v.thread x i word _) more (λ before. s.kinds_seen id y w (rested v) here more before) shown;
      cells_here = λ y j w own shown.
          sym (stored_is m.layout m.memory v.thread v.actor.head x i word (Cell y j))
          ∙ cell_here m.layout m.memory v.thread v.actor.head (storing x i word)
          (record { address = Cell x i; found = found; left = word })
          (is_storing m.layout m.memory v.thread v.actor.head x i word found) v.trace y j w (Guards m (rested v) y)
          (Guards m (rested v) y) (λ off now. now)
          (λ before known. s.cells_seen id y j w (rested v) here before known) own shown;
      threads = λ k there_k.
          threads_kept plan words (set words (cell_place m.layout x i) word) views k (rested v) after s there_k
          (object_step m.layout words (rested v) after (record { address = Cell x i; found = found; left = word }) word
          s.plain (few_first s.accounts (1 + m.layout.workers) m s.counts)
          (omega (
            arith,
            slice_get_within m.actors v.thread (rested v).actor (s.same_actor id (rested v) here),
            s.counts.kept.core.threads,
          ))
          (record { thread = refl; given = refl; trace = refl }) tt cell_has);
    }

    -- The rule holds after the swap.
    pub passes_swapped : Passes plan (set words (cell_place m.layout x i) word) (set views id after) v.taken
        v.actor.locked
        s.machine
    unfolding changes
    passes_swapped =
        passes plan words views id (rested v) after s here (set words (cell_place m.layout x i) word) changes v.taken
        v.actor.locked
        (λ y which. refl)

    -- The hand finds what it has last seen or stored there.
    pub finds_seen : (seen : ℕ) → known_cell x i v ≡ Some seen → found ≡ seen
    finds_seen seen is = sym finds ∙ s.cells_seen id x i seen (rested v) here guards is

    -- What it finds names a row.
    item_there : (w : ℕ) → found ≡ w → w ≤ row_count v.layout
    item_there zero is = omega arith
    item_there (suc y) is =
        subst (λ (l : Layout). suc y ≤ row_count l) (sym told)
        (omega (arith, items s.accounts (1 + m.layout.workers) m x i y s.counts (finds ∙ is)))

    pub found_there : found ≤ row_count v.layout
    found_there = item_there found refl

  -- The swap is allowed.
  pub swap_allowed : {T : Type 0} (fields id index : ℕ) (me : Me (Option T) View) → me.0 ≡ v
      → index ≡ cell_place plan.layout x i
      → Allows (λ (s : State (Option T) View). TableStands plan s.words s.homes s.views) fields id me index
      (λ found. word)
      (λ found after. Swaps x i word me found after)
  swap_allowed fields id index me is_me at s holds homes here below =
      let mine : get_elem? s.views id ≡ some v = here ∙ ap some is_me in
      let resting = set s.views id (rested v) in
      let rest = rested_becomes put plan v may.running.1 in
      let first = rest.passes s.words s.views id holds.stands mine in
      let stands = first.stands in
      let there_now : get_elem? resting id ≡ some (rested v) = set_view s.views id v (rested v) mine in
      let puts = has_item s.words resting id word stands there_now refl may.puts in
      let found = slice_index s.words index in
      let at_now : index ≡ cell_place puts.stands.machine.layout x i =
      at ∙ ap (λ (l : Layout). cell_place l x i) (sym puts.stands.layout_is) in
      let same : slice_index s.words (cell_place puts.stands.machine.layout x i) ≡ found =
      ap (slice_index s.words) (sym at_now) in
      let w = swapped v x i word found in
      let after = passes_swapped s.words resting id stands.machine puts there_now in
      let moved : Passes plan (set s.words index word) (set s.views id w) v.taken v.actor.locked puts.stands.machine =
      subst (λ (l : List View). Passes plan (set s.words index word) l v.taken v.actor.locked puts.stands.machine)
      (set-set s.views id (rested v) w)
      (subst (λ (k : ℕ). Passes plan (set s.words index word) (set resting id (swapped v x i word k)) v.taken
      v.actor.locked
      puts.stands.machine) same
      (subst (λ (j : ℕ). Passes plan (set s.words j word)
      (set resting id (swapped v x i word (slice_index s.words (cell_place puts.stands.machine.layout x i)))) v.taken
      v.actor.locked puts.stands.machine)
      (sym at_now) after)) in
      let now = moved.stands in
      let held_fields : FieldsStand now.machine s.homes (set s.views id w) =
      fields_kept holds.stands.machine now.machine s.homes s.views id v w holds.fields mine
      (now.layout_is ∙ sym holds.stands.layout_is)
      (record {
        taken = refl;
        in_field = λ y locks. refl;
        locked = refl;
        used = waiting_uses v w may.running.1 refl;
      })
      (λ y which. moved.fields y which ∙ (puts.fields y ∙ first.fields y which)) in
      let rows_now : RowsAreThere w =
      rows_there there chains plan (set s.words index word) (set s.views id w) id w now
      (set_view s.views id v w mine) in
      let low : found ≤ row_count v.layout =
      subst (λ (k : ℕ). k ≤ row_count v.layout) same (found_there s.words resting id stands.machine puts there_now) in
      let seen : (k : ℕ) → known_cell x i v ≡ Some k → found ≡ k =
      λ k is. sym same ∙ finds_seen s.words resting id stands.machine puts there_now k is in (
        w,
        keeps,
        tt,
        record {
          stands = now;
          fields = held_fields;
          first =
              with_event plan.layout (set s.views id w) id w v.trace
              (record { address = Cell x i; found = found; left = word }) (set_view s.views id v w mine) refl;
        },
        subst (λ (u : View). Swaps x i word (u, me.1) found (w, me.1)) (sym is_me) (refl, refl, low, rows_now, seen),
      )
