-- A silent step: a thread at rest moves some of its references. The moves are allowed, and the core invariant holds
-- afterwards.
use Rattle.std.proofs.Common.{◌≡◌, ◌≢◌, ℕ, ◌<◌, Bool, true, false, List, [], inl, inr, refl, sym, ap, ◌∙◌, subst, arith, ◌≤◌}
use Rattle.std.specs.Prelude.{count_by, ◌==◌, ◌&&◌, slice_get, slice_set, sum_by, AllPairs, ◌||◌, nat_lt}
use Rattle.std.proofs.lemmas.Bool.{ne_eqb, false≢true}
use Rattle.std.proofs.lemmas.Bool.Decides.{eqb_tells}
use Rattle.std.proofs.lemmas.List.{length-set}
use Rattle.std.proofs.lemmas.Option.{slice_get_within}
use Rattle.brc_model.specs.AbstractState.{Holder, ByThread, Reference, AbstractState, same, without, references_to, Move, PassOn, move, are_allowed, moved, is_among}
use Rattle.brc_model.specs.declared.duty.Duty.{Duty}
use Rattle.brc_model.specs.declared.address.Address.TheVariants.{Gate}
use Rattle.brc_model.specs.declared.actor.Status.{Status}
use Rattle.brc_model.specs.declared.actor.Actor.{Actor}
use Rattle.brc_model.specs.Machine.{Machine, with_actor, with_moves}
use Rattle.brc_model.proofs.Basics.Lists.{some_is, written_actor, slice_get-set_other}
use Rattle.brc_model.proofs.Basics.Bag.{references_to-cons, references_to-without, other_thread}
use Rattle.brc_model.specs.References.{one_if, cell_reference, reference_of}
use Rattle.brc_model.specs.RowInvariant.{waits, carries, merges, decides, weight, Numbers, RowInvariant}
use Rattle.brc_model.specs.Accounts.{Account, Accounts, HoldsAt, IsBounded}
use Rattle.brc_model.specs.Invariant.{Fits, numbers_of, UsesFit, looks, IsWatched, ByRunning, ByExit, ByLook, CoreInvariant, BlankFits}
use Rattle.brc_model.specs.OpenWork.{exits, scans, AgendaFits, ChainFits}
use Rattle.brc_model.specs.Gates.{LocksFit}
use Rattle.brc_model.proofs.Basics.MovesApart.{AreAside, IsNoWayOf, moved_aside}
use Rattle.brc_model.proofs.Frame.Aside.{HoldsAlone, holds_alone, alone_fits}
use Rattle.brc_lang.specs.declared.kind.Kind.{Kind}
use Rattle.brc_model.specs.Kinds.{kind_number}
use Rattle.brc_model.proofs.Frame.Others.{LeavesOthers, same_memory, each_fits}
use Rattle.brc_model.proofs.Frame.Locks.{gate_fits_kept}
use Rattle.brc_model.proofs.Keeping.SilentMoves.{SilentMoves, Stays, GainsImmortal, PassesOn, bag_after}
use Rattle.brc_model.proofs.Keeping.Sits.{sitting, AtRest, rest_blanks, same_weight}
use Rattle.brc_model.specs.Counting.{with_account}
use Rattle.brc_model.proofs.Keeping.Replaced.{with_account_same, with_account_other, same_resources}
use Rattle.brc_model.specs.Resources.{ResourcesFit}
use Rattle.brc_model.proofs.Basics.Blocks.{immortal_apart}
use Rattle.brc_model.specs.declared.layout.Layout.{Layout}
use Rattle.brc_model.specs.Layout.{block_of, index_of, IsCounted}

-- ---- moves of references

pub silent_bag : {layout : Layout} (p : AbstractState) (t : ℕ) (moves : List Move)
    → SilentMoves layout p.references t moves
    → (moved p moves).references ≡ bag_after p.references moves
silent_bag p t [] Stays = refl
silent_bag p t _ (GainsImmortal h x immortal) = refl
silent_bag p t _ (PassesOn from to x rest has more) =
    silent_bag (move p (PassOn (reference_of t from x) (ByThread t to))) t rest more

pub silent_closed : {layout : Layout} (p : AbstractState) (t : ℕ) (moves : List Move)
    → SilentMoves layout p.references t moves
    → (moved p moves).closed ≡ p.closed
silent_closed p t [] Stays = refl
silent_closed p t _ (GainsImmortal h x immortal) = refl
silent_closed p t _ (PassesOn from to x rest has more) =
    silent_closed (move p (PassOn (reference_of t from x) (ByThread t to))) t rest more

silent_born : {layout : Layout} (p : AbstractState) (t : ℕ) (moves : List Move)
    → SilentMoves layout p.references t moves
    → (moved p moves).born ≡ p.born
silent_born p t [] Stays = refl
silent_born p t _ (GainsImmortal h x immortal) = refl
silent_born p t _ (PassesOn from to x rest has more) =
    silent_born (move p (PassOn (reference_of t from x) (ByThread t to))) t rest more

silent_kinds : {layout : Layout} (p : AbstractState) (t : ℕ) (moves : List Move)
    → SilentMoves layout p.references t moves
    → (moved p moves).kinds ≡ p.kinds
silent_kinds p t [] Stays = refl
silent_kinds p t _ (GainsImmortal h x immortal) = refl
silent_kinds p t _ (PassesOn from to x rest has more) =
    silent_kinds (move p (PassOn (reference_of t from x) (ByThread t to))) t rest more

pub silent_allowed : (layout : Layout) (p : AbstractState) (t : ℕ) (moves : List Move)
    → SilentMoves layout p.references t moves
    → are_allowed layout p moves ≡ true
silent_allowed layout p t [] Stays = refl
silent_allowed layout p t _ (GainsImmortal h x immortal) =
    ap (λ (b : Bool). (b || nat_lt 0 (references_to x p.references)) && true) immortal
silent_allowed layout p t _ (PassesOn from to x rest has more) =
    let next = move p (PassOn (reference_of t from x) (ByThread t to)) in
    ap (λ (b : Bool). b && are_allowed layout next rest) has ∙ silent_allowed layout next t rest more

-- A silent step doesn't change how many references a counted object has.
silent_references : {layout : Layout} (p : AbstractState) (t x : ℕ) (moves : List Move)
    → SilentMoves layout p.references t moves → IsCounted layout x
    → references_to x p.references ≡ references_to x (moved p moves).references
silent_references p t x [] Stays counted = refl
silent_references {layout} p t x _ (GainsImmortal h y immortal) counted =
    let none : one_if (y == x) ≡ 0 =
    ap one_if (ne_eqb y x (λ e. immortal_apart layout x y counted immortal (sym e))) in
    omega (arith, references_to-cons x (reference_of t h y) p.references, none)
silent_references p t x _ (PassesOn from to y rest has more) counted =
    omega (
      arith,
      references_to-cons x (reference_of t to y) (without (reference_of t from y) p.references),
      references_to-without x (reference_of t from y) p.references has,
      silent_references (move p (PassOn (reference_of t from y) (ByThread t to))) t x rest more counted,
    )

-- A silent step changes no reference of another holder.
silent_aside : {layout : Layout} (bag : List Reference) (h : Holder) (t : ℕ) (moves : List Move)
    → SilentMoves layout bag t moves → IsNoWayOf t h → AreAside h moves
silent_aside bag h t [] Stays other = tt
silent_aside bag h t _ (GainsImmortal k x immortal) other = (other k, tt)
silent_aside bag h t _ (PassesOn from to x rest has more) other =
    ((other from, other to), silent_aside _ h t rest more other)

-- ---- the machine afterwards

abbrev pub silenced : Machine → ℕ → Actor → List Move → Machine
silenced m t a moves = with_moves (with_actor m t (sitting a [])) moves

module _ {p : Accounts} {n : ℕ} {m : Machine} {t : ℕ} {a : Actor} where
  same_numbers : (moves : List Move) (x : ℕ) → AtRest p n m t a → SilentMoves m.layout m.abstract.references t moves
      → IsCounted m.layout x → numbers_of m x ≡ numbers_of (silenced m t a moves) x
  same_numbers moves x rest silent pos =
      let r = silent_references m.abstract t x moves silent pos in
      let w : weight (waits x) m.actors ≡ weight (waits x) (slice_set m.actors t (sitting a [])) =
      sym (same_weight (waits x) m.actors t a [] rest.found rest.agenda refl) in
      let c : weight (carries x) m.actors ≡ weight (carries x) (slice_set m.actors t (sitting a [])) =
      sym (same_weight (carries x) m.actors t a [] rest.found rest.agenda refl) in
      let g : weight (merges x) m.actors ≡ weight (merges x) (slice_set m.actors t (sitting a [])) =
      sym (same_weight (merges x) m.actors t a [] rest.found rest.agenda refl) in
      let d : weight (decides x) m.actors ≡ weight (decides x) (slice_set m.actors t (sitting a [])) =
      sym (same_weight (decides x) m.actors t a [] rest.found rest.agenda refl) in
      λ i. record (numbers_of m x) {
        references = r i;
        waiting = w i;
        carried = c i;
        merging = g i;
        deciding = d i;
      }

  still_watched : (moves : List Move) (x : ℕ) → AtRest p n m t a → IsWatched m x → IsWatched (silenced m t a moves) x
  still_watched moves x rest (ByRunning one) = ByRunning one
  still_watched moves x rest (ByExit b found scanned) =
      elim (eqb_tells (block_of m.layout x) t) [
        | inl same ↦
            let this : b ≡ a = some_is b a (sym found ∙ ap (slice_get m.actors) same.1 ∙ rest.found) in
            let i = index_of m.layout (block_of m.layout x) x in
            let none : scans i b.agenda ≡ false =
            ap (λ (c : Actor). scans i c.agenda) this ∙ ap (scans i) rest.agenda in
            absurd (false≢true (sym none ∙ scanned))
        | inr apart ↦
            ByExit b (slice_get-set_other m.actors t (block_of m.layout x) (sitting a []) apart.1 ∙ found) scanned
      ]
  still_watched moves x rest (ByLook some) =
      ByLook (omega (arith, some, same_weight (looks x) m.actors t a [] rest.found rest.agenda refl))

leaves : (m : Machine) (t : ℕ) (a : Actor) (moves : List Move) → SilentMoves m.layout m.abstract.references t moves
    → LeavesOthers m (silenced m t a moves) t
leaves m t a moves silent = record {
  memory = same_memory m (slice_set m.actors t (sitting a [])) (moved m.abstract moves) t;
  bag =
      λ u k object ne. moved_aside m.abstract (reference_of u k object) moves
      (silent_aside m.abstract.references (ByThread u k) t moves silent (λ h. other_thread u t k h ne));
}

-- What a thread has to show to take a silent step.
pub record SilentSits (m : Machine) (t : ℕ) (a : Actor) (moves : List Move) (account : Account)
    : Type 0 where
  pub alone : a.aside ≡ []
  pub moves_fit : SilentMoves m.layout m.abstract.references t moves
  pub holds : HoldsAlone (bag_after m.abstract.references moves) t account []
  pub bounded : IsBounded m.layout account
  pub locks : LocksFit account m t (sitting a [])

module _ {p : Accounts} {n : ℕ} {m : Machine} {t : ℕ} {a : Actor} where
  thread_after_duty : (moves : List Move) (account : Account) → AtRest p n m t a → SilentSits m t a moves account
      → Fits account (silenced m t a moves) t (sitting a [])
  thread_after_duty moves account rest taken =
      let old = (rest.core.each t a rest.found).0 in
      let chain = subst (λ (l : List Duty). ChainFits m t a.head l) rest.agenda old.chain in (
        record {
          word = old.word;
          holds =
              subst (λ (l : List Reference). HoldsAt l t account [] a.aside)
              (sym (silent_bag m.abstract t moves taken.moves_fit))
              (holds_alone (bag_after m.abstract.references moves) t account [] a.aside taken.alone taken.holds);
          bounded = taken.bounded;
          exited = λ e. absurd (false≢true (sym (ap (λ (s : Status). exits s []) rest.running) ∙ e));
          head_fits = tt;
          behind = tt;
          chain = record { chained = chain.chained; linked = chain.linked; once = chain.once };
          locks = taken.locks;
          lent = old.lent;
        },
        subst (λ (s : Status). AgendaFits (sitting a []) s) (sym rest.running) refl,
        alone_fits (silenced m t a moves) t (sitting a []) taken.alone,
      )

  -- A silent step that meets its condition keeps the core invariant.
  pub silent_core : (moves : List Move) (account : Account) → AtRest p n m t a → SilentSits m t a moves account
      → CoreInvariant (with_account p t account) n (silenced m t a moves)
  silent_core moves account rest taken =
      let silent = taken.moves_fit in
      let within : t < n = omega (arith, slice_get_within m.actors t a rest.found, rest.core.threads) in
      let born = silent_born m.abstract t moves silent in
      let closed = silent_closed m.abstract t moves silent in
      record {
        threads = length-set m.actors t (sitting a []) ∙ rest.core.threads;
        some_rows = rest.core.some_rows;
        few_threads = rest.core.few_threads;
        few_rows = rest.core.few_rows;
        workers = rest.core.workers;
        few_cells = rest.core.few_cells;
        few_immortals = rest.core.few_immortals;
        few_numbers = rest.core.few_numbers;
        rows =
            λ x pos. subst (λ (k : Numbers). RowInvariant (block_of m.layout x) (m.life x) k)
            (same_numbers moves x rest silent pos) (rest.core.rows x pos);
        marks = λ x. elim (rest.core.marks x) [
          | inl none ↦ inl none
          | inr set ↦ inr (set.0, set.1, still_watched moves x rest set.2)
        ];
        each =
            let now = sitting a [] in
            let own = thread_after_duty moves account rest taken in
            each_fits p (with_account p t account) m (silenced m t a moves) t a now rest.found
            (leaves m t a moves silent) (with_account_other p t account)
            (subst (λ (c : Account). Fits c (silenced m t a moves) t now) (with_account_same p t account) own)
            rest.core.each;
        beyond = λ u past k object.
            moved_aside m.abstract (reference_of u k object) moves
            (silent_aside m.abstract.references (ByThread u k) t moves silent
            (λ h. other_thread u t k h (λ e. absurd (omega (arith, within, past, e)))))
            ∙ rest.core.beyond u past k object;
        gates =
            λ x. gate_fits_kept m.actors t a (sitting a []) rest.found x (m.memory (Gate x)) (m.life x) refl
            (rest.core.gates x);
        dying = rest.core.dying;
        cells = rest.core.cells;
        cells_end = rest.core.cells_end;
        cells_hold =
            λ x i object. moved_aside m.abstract (cell_reference x i object) moves
            (silent_aside m.abstract.references (cell_reference x i object).holder t moves silent (λ h. refl))
            ∙ rest.core.cells_hold x i object;
        uses =
            λ u b is. written_actor (λ w c. UsesFit m.layout m.life w c.used) m.actors t a (sitting a []) rest.found
            (rest.core.uses t a rest.found) rest.core.uses u b is;
        blanks =
            λ u b is. written_actor (λ w c. BlankFits m.layout m.memory w c.used c.agenda) m.actors t a (sitting a [])
            rest.found (rest_blanks [] rest) rest.core.blanks u b is;
        immortals_live = rest.core.immortals_live;
        born_is = λ x is. rest.core.born_is x (sym (ap (is_among x) born) ∙ is);
        born_has = λ x above is. ap (is_among x) born ∙ rest.core.born_has x above is;
        born_once = subst (λ (l : List ℕ). (x : ℕ) → count_by (λ y. y == x) l ≤ 1) (sym born) rest.core.born_once;
        closed_is = λ x is. rest.core.closed_is x (sym (ap (is_among x) closed) ∙ is);
        closed_has = λ x is. ap (is_among x) closed ∙ rest.core.closed_has x is;
        once = subst (λ (l : List ℕ). AllPairs (λ x y. x ≢ y) l) (sym closed) rest.core.once;
        kinds = λ x born.
            rest.core.kinds x born ∙ ap (λ (k : ℕ → Kind). kind_number (k x))
            (sym (silent_kinds m.abstract t moves silent));
        kind_words = rest.core.kind_words;
        immortal_words = rest.core.immortal_words;
        immortal_kinds = rest.core.immortal_kinds;
        resources = λ x.
            subst (ResourcesFit (m.life x)) (same_resources m t a (sitting a []) x rest.found refl (λ f few.
            let none : sum_by f a.agenda ≡ 0 = ap (sum_by f) rest.agenda in omega (arith, none)))
            (rest.core.resources x);
      }
