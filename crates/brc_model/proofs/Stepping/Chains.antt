-- A thread fits after its own steps on its dying chain: it chains a row, takes a row from the chain, or closes a row.
use Rattle.std.proofs.Common.{◌≡◌, ℕ, ◌+◌, ◌-◌, ◌<◌, Bool, true, false, cond, List, [], ◌∷◌, inl, inr, Some, refl, sym, ap, ◌∙◌, subst, arith, ◌≢◌}
use Rattle.std.specs.Prelude.{◌==◌, count_by}
use Rattle.std.proofs.lemmas.Bool.{eq-eqb}
use Rattle.std.proofs.lemmas.Bool.Decides.{eqb_tells}
use Rattle.std.proofs.lemmas.List.Sums.{sum_by-cons}
use Rattle.brc_word.specs.Words.{half, dying_word, next_part, closed_word}
use Rattle.brc_model.specs.declared.duty.Duty.{Duty}
use Rattle.brc_model.specs.declared.duty.Duty.TheVariants.{Die, Settle, SettleKind, SettleEnd}
use Rattle.brc_model.specs.declared.address.Address.TheVariants.{Gate}
use Rattle.brc_model.specs.Duties.{ready}
use Rattle.brc_model.specs.declared.actor.Actor.{Actor}
use Rattle.brc_model.specs.Machine.{Unborn, Live, Dying, Closed, Machine, with_life, machine_by_duty, written}
use Rattle.brc_model.specs.References.{one_if}
use Rattle.brc_model.specs.Accounts.{Accounts}
use Rattle.brc_model.specs.Knowledge.{IsDyingWord}
use Rattle.brc_model.specs.OpenWork.{Linked, finalised, dies_by, ChainFits}
use Rattle.brc_model.specs.Invariant.{AtDuty, CoreInvariant}
use Rattle.brc_model.proofs.Basics.Written.{written_here, written_apart, written_load, apart_gate}
use Rattle.brc_model.proofs.Frame.Others.{is_dying, linked_kept}
use Rattle.brc_model.proofs.Frame.Leaves.{head_of}
use Rattle.brc_model.proofs.Stepping.Behind.{finalised_first, still_behind}
use Rattle.brc_model.proofs.Stepping.Own.{ready_is, ready_first}
use Rattle.brc_model.proofs.Stepping.FitsAfter.{agenda_here, NotGone, FitsAfter}
use Rattle.brc_model.proofs.Stepping.Counts.{held_same}
use Rattle.brc_model.proofs.Basics.Blocks.{born_low}
use Rattle.brc_model.proofs.Stepping.Shown.{ShownStep, own_shown, agenda_shown}
use Rattle.brc_model.proofs.Basics.Bag.{one_if_low}
use Rattle.brc_model.specs.Limits.{total_limit}
use Rattle.std.proofs.lemmas.Bool.{cases_Bool}
use Rattle.brc_model.specs.Layout.{is_immortal_row, IsCounted}

-- ---- dying rows

module _ {p : Accounts} {n : ℕ} {m : Machine} {t : ℕ} {a : Actor} {d : Duty} {rest : List Duty} where
  -- The thread's chain fits the agenda that begins with the duty.
  pub chain_here : AtDuty p n m t a d rest → ChainFits m t a.head (d ∷ rest)
  chain_here here =
      subst (λ (l : List Duty). ChainFits m t a.head l) here.agenda (here.core.each t a here.found).0.chain

-- A test that counts for something holds.
pub one_if_some : (b : Bool) → 0 < one_if b → b ≡ true
one_if_some true some = refl
one_if_some false some = absurd (omega arith)

-- A dying row was born.
pub dying_born : (m : Machine) (t x : ℕ) → m.life x ≡ Dying t → m.life x ≢ Unborn
dying_born m t x dies unborn = let wrong : Unborn ≡ Dying t = sym unborn ∙ dies in cc

module _ {p : Accounts} {n : ℕ} {m : Machine} where
  -- A dying row has a number below the greatest number of rows.
  pub dying_low : (t x : ℕ) → CoreInvariant p n m → m.life x ≡ Dying t → x < total_limit
  dying_low t x core dies = born_low x core (dying_born m t x dies)

  -- A dying row is counted.
  pub dying_above : (t x : ℕ) → CoreInvariant p n m → m.life x ≡ Dying t → IsCounted m.layout x
  dying_above t x core dies =
      elim (cases_Bool (is_immortal_row m.layout x)) [
        | inl immortal ↦ absurd (let wrong : Live ≡ Dying t = sym (core.immortals_live x immortal) ∙ dies in cc)
        | inr counted ↦ counted
      ]

-- A row that a duty finalises isn't in the chain.
hand_not_chained : (m : Machine) (t head x : ℕ) (agenda : List Duty) (chain : ChainFits m t head agenda)
    → 0 < finalised agenda x → count_by (λ y. y == x) chain.chained ≡ 0
hand_not_chained m t head x agenda chain some =
    omega (arith, some, chain.once x, one_if_low (dies_by (m.life x) t))

module _ {p : Accounts} {n : ℕ} {m : Machine} where
  -- The head of a chain fits into half a word, since the rows in the chain are born.
  pub head_low : (t head : ℕ) (agenda : List Duty) (chained : List ℕ) → CoreInvariant p n m
      → Linked m.memory t head chained
      → ((x : ℕ) → finalised agenda x + count_by (λ y. y == x) chained ≡ one_if (dies_by (m.life x) t)) → head < half
  head_low t head agenda [] core linked once = omega (arith, linked)
  head_low t head agenda (x ∷ xs) core linked once =
      let here : one_if (x == x) ≡ 1 = ap one_if (eq-eqb x x refl) in
      let dies : m.life x ≡ Dying t =
      is_dying (m.life x) t (one_if_some _ (omega (arith, once x, sum_by-cons (λ y. cond (y == x) 1 0) x xs, here))) in
      omega (arith, linked.0, dying_low t x core dies)

-- ---- `Die` puts a row into the chain

module _ {p : Accounts} {n : ℕ} {m : Machine} {t : ℕ} {a : Actor} {rest : List Duty} where
  die_chain : (x : ℕ) (agenda : List Duty) → AtDuty p n m t a (Die x) rest
      → ((y : ℕ) → finalised agenda y ≡ finalised rest y) → ChainFits (machine_by_duty m t a (Die x) rest) t
      (x + 1) agenda
  die_chain x agenda here same =
      let old = chain_here here in
      let this : one_if (x == x) ≡ 1 = ap one_if (eq-eqb x x refl) in
      let first = finalised_first (Die x) rest in
      let absent = hand_not_chained m t a.head x (Die x ∷ rest) old (omega (arith, this, first x)) in
      let new = written m.memory (Gate x) (dying_word t a.head) in
      record {
        chained = x ∷ old.chained;
        linked = (
          refl,
          (
            a.head,
            written_here m.memory (Gate x) (dying_word t a.head),
            head_low t a.head (Die x ∷ rest) old.chained here.core old.linked old.once,
            linked_kept m.memory new t a.head old.chained
                (λ y some. written_apart m.memory (Gate x) (Gate y) (dying_word t a.head)
                (apart_gate x y (λ e. absurd (omega
                (arith, subst (λ (z : ℕ). 0 < count_by (λ w. w == z) old.chained) (sym e) some, absent)))))
                old.linked,
          ),
        );
        once =
            λ y. omega (
              arith,
              same y,
              old.once y,
              first y,
              sum_by-cons (λ z. cond (z == y) 1 0) x old.chained,
            );
      }

  -- The thread fits after `Chained`.
  pub thread_after_die : (x : ℕ) → AtDuty p n m t a (Die x) rest → NotGone a → FitsAfter p m t a (Die x) rest
  thread_after_die x here alive =
      let ready_so = ready_is m.layout t a.used a.status (x + 1) rest (agenda_here here alive) in
      own_shown (ready (x + 1) rest) a.status (x + 1) here (record {
        head_is = refl;
        status_is = refl;
        agenda_is = refl;
        word = (here.core.each t a here.found).0.word;
        held = held_same m.abstract.references t (Die x ∷ rest) (ready (x + 1) rest) ready_so.more ready_so.less;
        chain = die_chain x (ready (x + 1) rest) here ready_so.hands;
        fits = agenda_shown m t a (Die x) rest (ready (x + 1) rest) a.status alive refl refl ready_so.fits;
        knows = λ b status head used locked. ready_so.knows (machine_by_duty m t a (Die x) rest) b head
            (still_behind here);
      })

-- ---- `Settle` takes the first row from the chain

next_of_dying : (word t next : ℕ) → word ≡ dying_word t next → next < half → next_part word ≡ next
next_of_dying word t next is low = omega (arith, is, low)

-- The first row of a chain that isn't empty, and the rest of the chain.
record FirstChained (m : Machine) (t : ℕ) (a : Actor) (rest : List Duty) : Type 0 where
  row : ℕ
  others : List ℕ
  head_is : a.head ≡ row + 1
  next : ℕ
  next_is : next_part (m.memory (Gate row)) ≡ next
  gate : IsDyingWord t (m.memory (Gate row))
  linked : Linked m.memory t next others
  once : (x : ℕ)
      → one_if (row == x) + finalised rest x + count_by (λ y. y == x) others ≡ one_if (dies_by (m.life x) t)
  dies : m.life row ≡ Dying t

first_by : (m : Machine) (t : ℕ) (a : Actor) (rest : List Duty) (chained : List ℕ) → 0 < a.head
    → Linked m.memory t a.head chained
    → ((x : ℕ) → finalised rest x + count_by (λ y. y == x) chained ≡ one_if (dies_by (m.life x) t))
    → FirstChained m t a rest
first_by m t a rest [] some linked once = absurd (omega (arith, some, linked))
first_by m t a rest (x ∷ xs) some linked once =
    let each : (z : ℕ)
    → one_if (x == z) + finalised rest z + count_by (λ y. y == z) xs ≡ one_if (dies_by (m.life z) t) =
    λ z. omega (arith, once z, sum_by-cons (λ y. cond (y == z) 1 0) x xs) in
    let here : one_if (x == x) ≡ 1 = ap one_if (eq-eqb x x refl) in
    record {
      row = x;
      others = xs;
      head_is = linked.0;
      next = linked.1.0;
      next_is = next_of_dying (m.memory (Gate x)) t linked.1.0 linked.1.1 linked.1.2;
      gate = (linked.1.0, linked.1.1, linked.1.2);
      linked = linked.1.3;
      once = each;
      dies = is_dying (m.life x) t (one_if_some _ (omega (arith, each x, here)));
    }

module _ {p : Accounts} {n : ℕ} {m : Machine} {t : ℕ} {a : Actor} {rest : List Duty} where
  first_chained : AtDuty p n m t a Settle rest → FirstChained m t a rest
  first_chained here =
      let old = chain_here here in
      first_by m t a rest old.chained (head_of here) old.linked old.once

  settle_shown : (first : FirstChained m t a rest) → AtDuty p n m t a Settle rest → NotGone a → a.head - 1 ≡ first.row
      → ShownStep m t a Settle rest (SettleKind first.row ∷ Settle ∷ rest) a.status first.next
  settle_shown first here alive row_is =
      let later = SettleKind first.row ∷ Settle ∷ rest in
      let head : next_part (m.memory (Gate (a.head - 1))) ≡ first.next =
      ap (λ (x : ℕ). next_part (m.memory (Gate x))) row_is ∙ first.next_is in
      let front : (h : ℕ) → ready h (SettleKind (a.head - 1) ∷ Settle ∷ rest) ≡ later =
      λ h. ready_first h (SettleKind (a.head - 1)) (Settle ∷ rest) refl ∙ ap (λ (x : ℕ). SettleKind x ∷ Settle ∷ rest)
      row_is in
      let new = machine_by_duty m t a Settle rest in
      record {
        head_is = head;
        status_is = refl;
        agenda_is = front (next_part (m.memory (Gate (a.head - 1))));
        word = (here.core.each t a here.found).0.word;
        held = held_same m.abstract.references t (Settle ∷ rest) later (λ k o. refl) (λ k o. refl);
        chain = record {
          chained = first.others;
          linked =
              linked_kept m.memory new.memory t first.next first.others
              (λ x some. written_load m.memory (Gate (a.head - 1)) (Gate x)) first.linked;
          once = λ x. omega (arith, first.once x, finalised_first (SettleKind first.row) (Settle ∷ rest) x);
        };
        fits =
            agenda_shown m t a Settle rest later a.status alive refl (front (next_part (m.memory (Gate (a.head - 1)))))
            (agenda_here here alive);
        knows = λ b status h used locked. (
          dying_above t first.row here.core first.dies,
          first.dies,
          subst (IsDyingWord t) (sym (written_load m.memory (Gate (a.head - 1)) (Gate first.row))) first.gate,
        );
      }

  -- The thread fits after `ChainRead`.
  pub thread_after_settle : AtDuty p n m t a Settle rest → NotGone a → FitsAfter p m t a Settle rest
  thread_after_settle here alive =
      let first = first_chained here in
      own_shown (SettleKind first.row ∷ Settle ∷ rest) a.status first.next here
      (settle_shown first here alive (omega (arith, first.head_is)))

  -- ---- `SettleEnd` closes the row

  end_chain : (x : ℕ) (agenda : List Duty) → AtDuty p n m t a (SettleEnd x) rest
      → ((y : ℕ) → finalised agenda y ≡ finalised rest y) → ChainFits (machine_by_duty m t a (SettleEnd x) rest) t
      a.head agenda
  end_chain x agenda here kept =
      let old = chain_here here in
      let this : one_if (x == x) ≡ 1 = ap one_if (eq-eqb x x refl) in
      let first = finalised_first (SettleEnd x) rest in
      let absent = hand_not_chained m t a.head x (SettleEnd x ∷ rest) old (omega (arith, this, first x)) in
      let none : finalised rest x ≡ 0 = omega (arith, this, first x, old.once x, one_if_low (dies_by (m.life x) t)) in
      let new = written m.memory (Gate x) closed_word in
      record {
        chained = old.chained;
        linked = linked_kept m.memory new t a.head old.chained
            (λ y some. written_apart m.memory (Gate x) (Gate y) closed_word
            (apart_gate x y (λ e. absurd (omega
            (arith, subst (λ (z : ℕ). 0 < count_by (λ w. w == z) old.chained) (sym e) some, absent))))) old.linked;
        once = λ y.
            elim (eqb_tells x y) [
              | inl same ↦
                  let gone : one_if (dies_by (with_life m.life (Some x) Closed y) t) ≡ 0 =
                  ap (λ (b : Bool). one_if (dies_by (cond b Closed (m.life y)) t)) same.0 in
                  omega (
                    arith,
                    kept y,
                    gone,
                    subst (λ (z : ℕ). finalised rest z ≡ 0) same.1 none,
                    subst (λ (z : ℕ). count_by (λ w. w == z) old.chained ≡ 0) same.1 absent,
                  )
              | inr other ↦
                  let life : one_if (dies_by (with_life m.life (Some x) Closed y) t) ≡ one_if (dies_by (m.life y) t) =
                  ap (λ (b : Bool). one_if (dies_by (cond b Closed (m.life y)) t)) other.0 in
                  let apart : one_if (x == y) ≡ 0 = ap one_if other.0 in
                  omega (arith, kept y, life, apart, first y, old.once y)
            ];
      }

  -- The thread fits after `Closes`.
  pub thread_after_settle_end : (x : ℕ) → AtDuty p n m t a (SettleEnd x) rest → NotGone a
      → FitsAfter p m t a (SettleEnd x) rest
  thread_after_settle_end x here alive =
      let ready_so = ready_is m.layout t a.used a.status a.head rest (agenda_here here alive) in
      own_shown (ready a.head rest) a.status a.head here (record {
        head_is = refl;
        status_is = refl;
        agenda_is = refl;
        word = (here.core.each t a here.found).0.word;
        held = held_same m.abstract.references t (SettleEnd x ∷ rest) (ready a.head rest) ready_so.more ready_so.less;
        chain = end_chain x (ready a.head rest) here ready_so.hands;
        fits = agenda_shown m t a (SettleEnd x) rest (ready a.head rest) a.status alive refl refl ready_so.fits;
        knows = λ b status head used locked. ready_so.knows (machine_by_duty m t a (SettleEnd x) rest) b head
            (still_behind here);
      })
