-- A ready thread swaps a cell that it guards: first it takes out what the cell holds, and then it puts
-- a reference of its own in. After each the invariant holds.
use Rattle.std.proofs.Common.{◌≡◌, ℕ, zero, suc, ◌<◌, Bool, true, false, cond, List, [], ◌∷◌, inl, inr, Some, refl, sym, ap, ◌∙◌, subst, arith}
use Rattle.std.specs.Prelude.{◌==◌, ◌&&◌, ◌⊎◌, count_by}
use Rattle.std.specs.List.{list_any}
use Rattle.std.proofs.lemmas.Bool.{cases_Bool}
use Rattle.std.proofs.Math.Path.{fun_ext}
use Rattle.brc_word.specs.declared.values.TheConstants.{EMPTY}
use Rattle.brc_model.specs.declared.duty.Holding.TheVariants.{AsCaller}
use Rattle.brc_model.specs.declared.address.Address.{Address}
use Rattle.brc_model.specs.declared.address.Address.TheVariants.{KindOf, Cell}
use Rattle.brc_model.specs.AbstractState.{Reference, ByThread, ByCell, PassOn, same, same_holder, without, moved}
use Rattle.brc_model.specs.References.{one_if, reference_of, cell_reference, word_holds}
use Rattle.brc_model.specs.Duties.{cells_of}
use Rattle.brc_model.specs.declared.actor.Actor.{Actor}
use Rattle.brc_model.specs.Machine.{Machine, written, same_address}
use Rattle.brc_model.specs.Accounts.{Account, Accounts}
use Rattle.brc_model.specs.Knowledge.{GuardsCells, HasNoRetainAside}
use Rattle.brc_model.specs.Invariant.{CoreInvariant}
use Rattle.brc_model.specs.OpenWork.{is_about}
use Rattle.brc_model.specs.Counting.{Counts, with_account, with_one_more, with_one_less, IsReady}
use Rattle.brc_model.specs.CellLaws.{with_item, without_item, take_item, put_item, cell_swapped, MayPut, HasRoomFor, CellsAreSwapped}
use Rattle.brc_model.specs.CountingLaws.{IsFirstOfChain}
use Rattle.brc_model.proofs.Basics.Bag.{eqb_swapped, held_has, held-cons, held-without, references_to-cons, references_to-without, other_thread}
use Rattle.brc_model.proofs.Basics.MovesApart.{held-without_apart, moved_aside}
use Rattle.brc_model.proofs.Basics.Written.{written_here, written_load}
use Rattle.brc_model.proofs.Frame.Cells.{same_cell}
use Rattle.brc_model.proofs.Frame.CellsHeld.{cell_held}
use Rattle.brc_model.proofs.Stepping.Locked.{making_none}
use Rattle.brc_model.proofs.Keeping.Locks.{more_locks, less_locks}
use Rattle.brc_model.proofs.Keeping.OneReference.{account_held, held_elsewhere, holds_less, holds_more, bounded_less, bounded_more}
use Rattle.brc_model.proofs.Keeping.Replaced.{with_account_itself, with_account_same}
use Rattle.brc_model.proofs.Keeping.CellChanges.{changed, counts_changed}
use Rattle.brc_model.proofs.Keeping.FirstOfChain.{first_chained}

-- the holders of two cells are different if their addresses are
other_cell : (x i y j : ℕ) → same_address (Cell x i) (Cell y j) ≡ false → same_holder (ByCell y j) (ByCell x i) ≡ false
other_cell x i y j apart =
    ap (λ (b : Bool). b && (j == i)) (eqb_swapped y x) ∙ (ap (λ (b : Bool). (x == y) && b) (eqb_swapped j i) ∙ apart)

module _ (p : Accounts) (n : ℕ) (m : Machine) (t : ℕ) (a : Actor) (x i y : ℕ) (counts : Counts p n m)
    (ready : IsReady m t a) (guards : GuardsCells m t a x) (retains : HasNoRetainAside a) where
  -- ---- what the cell holds is taken out

  abbrev out : Reference
  out = cell_reference x i y

  abbrev taken : List Reference
  taken = reference_of t AsCaller y ∷ without out m.abstract.references

  has_item : m.memory (Cell x i) ≡ suc y → list_any (same out) m.abstract.references ≡ true
  has_item is = held_has out m.abstract.references (omega (arith, cell_held x i y counts.kept.core is))

  pub item_taken : m.memory (Cell x i) ≡ suc y → HasRoomFor m.layout (p t) (suc y)
      → Counts (with_account p t (with_one_more (p t) AsCaller y)) n (changed m x i 0 taken)
  item_taken is room =
      let bag = m.abstract.references in
      let has = has_item is in
      let old = (counts.kept.core.each t a ready.found).0 in
      let mine = reference_of t AsCaller y in
      counts_changed x i 0 taken (with_one_more (p t) AsCaller y) counts ready (record {
        guards = guards;
        retains = retains;
        within = λ past. refl;
        others = λ u k object ne.
            moved_aside m.abstract (reference_of u k object) (PassOn out (ByThread t AsCaller) ∷ [])
            ((refl, other_thread u t k AsCaller ne), tt);
        other_cells = λ z j object apart.
            moved_aside m.abstract (cell_reference z j object) (PassOn out (ByThread t AsCaller) ∷ [])
            ((other_cell x i z j apart, refl), tt);
        as_many = λ z.
            omega (arith, references_to-cons z mine (without out bag), references_to-without z out bag has);
        cell_holds = λ object.
            let r = cell_reference x i object in
            let named : word_holds (m.memory (Cell x i)) object ≡ one_if (y == object) =
            ap (λ (w : ℕ). word_holds w object) is in
            omega (
              arith,
              held-cons r mine (without out bag),
              held-without r out bag has,
              same_cell x i object y,
              counts.kept.core.cells_hold x i object,
              named,
            );
        holds =
            holds_more (without out bag) t (p t) a.agenda a.aside AsCaller y (record {
              each = λ k object.
                  omega (
                    arith,
                    old.holds.each k object,
                    held-without_apart (reference_of t k object) out bag refl,
                  );
            });
        bounded = bounded_more m.layout (p t) y old.bounded room;
        locks = more_locks (p t) m t a a y old.locks refl (λ k z. omega arith);
        keeps = λ z k some.
            let r = reference_of t k z in
            omega (arith, held-cons r mine (without out bag), held-without_apart r out bag refl);
      }) (λ object. omega (arith, counts.no_flight t object))

  -- ---- a reference of the thread is put in

  abbrev put : List Reference
  put = cell_reference x i y ∷ without (reference_of t AsCaller y) m.abstract.references

  pub item_put : m.memory (Cell x i) ≡ EMPTY → i < cells_of (m.memory (KindOf x)) → MayPut (p t) a (suc y)
      → Counts (with_account p t (with_one_less (p t) AsCaller y)) n (changed m x i (suc y) put)
  item_put empty low may =
      let bag = m.abstract.references in
      let old = (counts.kept.core.each t a ready.found) in
      let mine = reference_of t AsCaller y in
      let has = account_held bag t (p t) a AsCaller y old.0.holds may.0 may.1 in
      counts_changed x i (suc y) put (with_one_less (p t) AsCaller y) counts ready (record {
        guards = guards;
        retains = retains;
        within = λ past. absurd (omega (arith, past, low));
        others = λ u k object ne.
            moved_aside m.abstract (reference_of u k object) (PassOn mine (ByCell x i) ∷ [])
            ((other_thread u t k AsCaller ne, refl), tt);
        other_cells = λ z j object apart.
            moved_aside m.abstract (cell_reference z j object) (PassOn mine (ByCell x i) ∷ [])
            ((refl, other_cell x i z j apart), tt);
        as_many = λ z.
            omega (arith, references_to-cons z out (without mine bag), references_to-without z mine bag has);
        cell_holds = λ object.
            let r = cell_reference x i object in
            let none : word_holds (m.memory (Cell x i)) object ≡ 0 = ap (λ (w : ℕ). word_holds w object) empty in
            omega (
              arith,
              held-cons r out (without mine bag),
              held-without_apart r mine bag refl,
              same_cell x i object y,
              counts.kept.core.cells_hold x i object,
              none,
            );
        holds =
            let less = holds_less bag t (p t) a.agenda a.aside AsCaller y old.0.holds has may.1 in
            record {
              each = λ k object.
                  let r = reference_of t k object in
                  let none : one_if (same r out) ≡ 0 = refl in
                  omega (arith, less.each k object, held-cons r out (without mine bag), none);
            };
        bounded = bounded_less m.layout (p t) y old.0.bounded;
        locks =
            less_locks (p t) m t a a y old.0.locks refl (λ k z. omega arith) (making_none a AsCaller y old.1 may.0)
            may.2;
        keeps = λ z k some.
            let r = reference_of t k z in
            let none : one_if (same r out) ≡ 0 = refl in
            let apart : z ≡ y → ⊥ = λ e.
            let about : count_by (is_about z) a.aside ≡ count_by (is_about y) a.aside =
            ap (λ (w : ℕ). count_by (is_about w) a.aside) e in
            absurd (omega (arith, some, about, may.0)) in
            omega (
              arith,
              held-cons r out (without mine bag),
              none,
              held_elsewhere bag t AsCaller y k z has apart,
            );
      }) (λ object. omega (arith, counts.no_flight t object))

-- ---- either step where there is no item

same_memory : (memory : Address → ℕ) (x i : ℕ) → memory (Cell x i) ≡ EMPTY → written memory (Cell x i) 0 ≡ memory
same_memory memory x i empty =
    fun_ext (λ b. ap (λ (w : ℕ). written memory (Cell x i) w b) (sym empty) ∙ written_load memory (Cell x i) b)

twice_written : (memory : Address → ℕ) (b : Address) (v w : ℕ)
    → written (written memory b v) b w ≡ written memory b w
twice_written memory b v w = fun_ext (λ c. elim (cases_Bool (same_address b c)) [
  | inl same ↦
      ap (λ (e : Bool). cond e w (written memory b v c)) same ∙ sym (ap (λ (e : Bool). cond e w (memory c)) same)
  | inr apart ↦ ap (λ (e : Bool). cond e w (cond e v (memory c))) apart ∙ sym
      (ap (λ (e : Bool). cond e w (memory c)) apart)
])

twice_accounted : (p : Accounts) (t : ℕ) (one other : Account)
    → with_account (with_account p t one) t other ≡ with_account p t other
twice_accounted p t one other = fun_ext (λ u. elim (cases_Bool (u == t)) [
  | inl same ↦
      ap (λ (e : Bool). cond e other (with_account p t one u)) same ∙ sym (ap (λ (e : Bool). cond e other (p u)) same)
  | inr apart ↦
      ap (λ (e : Bool). cond e other (cond e one (p u))) apart ∙ sym (ap (λ (e : Bool). cond e other (p u)) apart)
])

-- the machine after the item of the word is taken out of the cell
abbrev emptied : Machine → ℕ → ℕ → ℕ → ℕ → Machine
emptied m t x i w = record m {
  memory = written m.memory (Cell x i) 0;
  abstract = moved m.abstract (take_item t x i w);
}

module _ {p : Accounts} {n : ℕ} {m : Machine} {t : ℕ} {a : Actor} where
  taken_any : (x i w : ℕ) → Counts p n m → IsReady m t a → GuardsCells m t a x → HasNoRetainAside a
      → m.memory (Cell x i) ≡ w → HasRoomFor m.layout (p t) w
      → Counts (with_account p t (with_item (p t) w)) n (emptied m t x i w)
  taken_any x i zero counts ready guards retains is room =
      subst (λ (q : Accounts). Counts q n (emptied m t x i 0)) (sym (with_account_itself p t))
      (subst (λ (memory : Address → ℕ). Counts p n (record m { memory = memory })) (sym (same_memory m.memory x i is))
      counts)
  taken_any x i (suc y) counts ready guards retains is room =
      item_taken p n m t a x i y counts ready guards retains is room

-- the machine after the item of the word is put into the cell
abbrev filled : Machine → ℕ → ℕ → ℕ → ℕ → Machine
filled m t x i w = record m {
  memory = written m.memory (Cell x i) w;
  abstract = moved m.abstract (put_item t x i w);
}

module _ {p : Accounts} {n : ℕ} {m : Machine} {t : ℕ} {a : Actor} where
  put_any : (x i w : ℕ) → Counts p n m → IsReady m t a → GuardsCells m t a x → HasNoRetainAside a
      → m.memory (Cell x i) ≡ EMPTY → i < cells_of (m.memory (KindOf x)) → MayPut (p t) a w
      → Counts (with_account p t (without_item (p t) w)) n (filled m t x i w)
  put_any x i zero counts ready guards retains is low may =
      subst (λ (q : Accounts). Counts q n (filled m t x i 0)) (sym (with_account_itself p t))
      (subst (λ (memory : Address → ℕ). Counts p n (record m { memory = memory })) (sym (same_memory m.memory x i is))
      counts)
  put_any x i (suc y) counts ready guards retains is low may =
      item_put p n m t a x i y counts ready guards retains is low may

-- ---- both

-- The thread still guards the cells once it has taken the item out.
still_guards : (m : Machine) (t : ℕ) (a : Actor) (x i w : ℕ) → GuardsCells m t a x
    → GuardsCells (emptied m t x i w) t a x
still_guards m t a x i w (inl locked) = inl locked
still_guards m t a x i w (inr chained) = inr chained

-- What the thread may put in it may still put in once it has taken the item out.
still_may_put : (account : Account) (a : Actor) (found word : ℕ) → MayPut account a word
    → MayPut (with_item account found) a word
still_may_put account a found zero may = tt
still_may_put account a zero (suc y) may = may
still_may_put account a (suc z) (suc y) may = (
  may.0,
  omega (arith, may.1),
  λ e. omega (arith, may.2 e),
)

module _ {p : Accounts} {n : ℕ} {m : Machine} {t : ℕ} {a : Actor} where
  -- The thread guards the cells of the list that it has locked, and of the first object of its chain.
  swap_guards : (x : ℕ) → CoreInvariant p n m → IsReady m t a → (a.locked ≡ Some x) ⊎ IsFirstOfChain a x
      → GuardsCells m t a x
  swap_guards x core ready (inl locked) = inl locked
  swap_guards x core ready (inr first) = inr (first_chained t a x core ready.found first)

pub cells_are_swapped : CellsAreSwapped
cells_are_swapped p n m t a x i word counts ready may_swap retains low may room =
    let guards = swap_guards x counts.kept.core ready may_swap in
    let found = m.memory (Cell x i) in
    let more = with_item (p t) found in
    let q = with_account p t more in
    let mid = emptied m t x i found in
    let first : Counts q n mid = taken_any x i found counts ready guards retains refl room in
    let ready_still : IsReady mid t a =
    record { found = ready.found; running = ready.running; agenda = ready.agenda } in
    let own : more ≡ q t = with_account_same p t more in
    let second : Counts (with_account q t (without_item (q t) word)) n (filled mid t x i word) =
    put_any x i word first ready_still (still_guards m t a x i found guards) retains
    (written_here m.memory (Cell x i) 0) low
    (subst (λ (c : Account). MayPut c a word) own (still_may_put (p t) a found word may)) in
    let accounts : with_account q t (without_item (q t) word) ≡ with_account p t (without_item more word) =
    ap (λ (c : Account). with_account q t (without_item c word)) (sym own)
    ∙ twice_accounted p t more (without_item more word) in
    subst (λ (o : Accounts). Counts o n (cell_swapped m t x i word)) accounts
    (subst (λ (memory : Address → ℕ). Counts (with_account q t (without_item (q t) word)) n (record m {
      memory = memory;
      abstract = (cell_swapped m t x i word).abstract;
    })) (twice_written m.memory (Cell x i) 0 word) second)
