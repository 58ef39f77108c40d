-- A table stands on its first words, with main's hand alone.
use Rattle.std.proofs.Common.{◌≡◌, ℕ, zero, suc, ◌+◌, ◌<◌, ◌≤◌, Bool, true, false, cond, ◌&&◌, Option, List, [], ◌∷◌, length, map, replicate, Some, refl, sym, ap, ◌∙◌, subst, arith, None}
use Rattle.std.specs.Prelude.{◌==◌, slice_get, All}
use Rattle.std.proofs.lemmas.Bool.{ne_eqb, false≢true}
use Rattle.std.proofs.lemmas.List.Sums.{sum_by-cons}
use mathlib.Core.Option as home
use mathlib.Core.Option.{some, some-injective, some-ne-none}
use lib.ListN.{get_elem?}
use Rattle.brc_model.specs.declared.duty.Holding.TheVariants.{AsCaller}
use Rattle.brc_model.specs.declared.layout.Layout.{Layout}
use Rattle.brc_model.specs.Layout.{root_row, row_count}
use Rattle.brc_model.specs.AbstractState.{same_holding}
use Rattle.brc_model.specs.References.{one_if}
use Rattle.brc_model.specs.Accounts.{HoldsNone}
use Rattle.brc_model.specs.Machine.{idle_actor}
use Rattle.brc_model.specs.FirstRows.{HasLines}
use Rattle.brc_model.specs.Counting.{IsPlainLayout, hands_machine, hands_accounts}
use Rattle.brc_model.specs.CountingLaws.{HandsBegin}
use Rattle.brc_table.specs.Plan.{Plan}
use Rattle.brc_table.specs.declared.view.View.{View}
use Rattle.brc_table.specs.Views.{holds, is_given, main_view}
use Rattle.brc_table.specs.KnownWords.{knows_kind, known_cell, has_started, started_word, knows_gone}
use Rattle.brc_table.specs.Rule.{IsGone, Stands}
use Rattle.brc_table.specs.Homes.{times_taken, TableStands}
use Rattle.brc_table.specs.Threads.{thread_word}
use Rattle.brc_table.specs.Opening.{AreFirst}
use Rattle.brc_table.proofs.Lists.{slice_get-replicate}

-- The only element of a list of one.
only_one : {A : Type 0} (x y : A) (i : ℕ) → get_elem? (x ∷ []) i ≡ some y → (i ≡ 0) × (x ≡ y)
only_one x y zero is = (refl, some-injective x y is)
only_one x y (suc i) is = absurd (some-ne-none y (sym is))

-- Main holds one reference to the root, and no other.
main_holds : (layout : Layout) (x : ℕ) → hands_accounts 0 AsCaller x ≡ holds (main_view layout) x
main_holds layout x = omega (arith, sum_by-cons (λ (y : ℕ). cond (y == x) 1 0) root_row [])

by_none : (b : Bool) → one_if (b && false) ≡ 0
by_none true = refl
by_none false = refl

-- A worker holds nothing.
worker_holds : (t : ℕ) → HoldsNone (hands_accounts (suc t))
worker_holds t k object =
    ap (λ (b : Bool). one_if (b && (same_holding AsCaller k && (root_row == object))))
    (ne_eqb (suc t) 0 (λ e. omega (arith, e)))

-- As many fields as rows are empty.
empty_count : (T : Type 0) (n : ℕ) → length (map home.some (replicate {A = Option T} n None)) ≡ n
empty_count T zero = refl
empty_count T (suc n) = ap suc (empty_count T n)

empty_there : (T : Type 0) (n x : ℕ) → x < n
    → get_elem? (map home.some (replicate {A = Option T} n None)) x ≡ home.some (home.some None)
empty_there T zero x low = absurd (omega (arith, low))
empty_there T (suc n) zero low = refl
empty_there T (suc n) (suc x) low = empty_there T n x (omega (arith, low))

module _ (begin : HandsBegin) (plan : Plan) (plain : IsPlainLayout plan.layout)
    (has : HasLines plan.lines plan.layout) (words : List ℕ) (first : AreFirst plan.lines plan.layout words) where
  abbrev hands : List View
  hands = main_view plan.layout ∷ []

  -- What holds of main's hand holds of each hand.
  of_main : (P : View → Type 0) (id : ℕ) (v : View) → get_elem? hands id ≡ some v → P (main_view plan.layout) → P v
  of_main P id v is main = subst P (only_one (main_view plan.layout) v id is).1 main

  idle_workers : (t : ℕ) → t < 1 + plan.layout.workers
      → ((id : ℕ) (v : View) → get_elem? hands id ≡ some v → v.thread ≡ t → ⊥)
      → (slice_get (hands_machine plan.lines plan.layout).actors t ≡ Some (idle_actor 0)) × HoldsNone (hands_accounts t)
  idle_workers zero low none = absurd (none 0 (main_view plan.layout) refl refl)
  idle_workers (suc t) low none =
      (slice_get-replicate plan.layout.workers t (idle_actor 0) (omega (arith, low)), worker_holds t)

  pub opening : Stands plan words hands
  opening = record {
    accounts = hands_accounts;
    machine = hands_machine plan.lines plan.layout;
    counts = begin plan.lines plan.layout plain has;
    layout_is = refl;
    plain = plain;
    lines = has;
    length_is = first.length_is;
    reads = λ a there. sym (first.each a there);
    same_actor = λ id v is.
        of_main (λ w. slice_get (hands_machine plan.lines plan.layout).actors w.thread ≡ Some w.actor) id v is refl;
    lends_none = λ id v is. of_main (λ w. w.actor.lent ≡ None) id v is refl;
    same_layout = λ id v is. of_main (λ w. w.layout ≡ plan.layout) id v is refl;
    first_kinds = λ x some. refl;
    kinds_seen = λ id x word v is more seen.
        absurd (false≢true (sym (of_main (λ w. knows_kind x word w ≡ false) id v is refl) ∙ seen));
    cells_seen = λ id x i word v is locked seen.
        absurd (let none = of_main (λ w. known_cell x i w ≡ None) id v is refl in
        let wrong : None ≡ Some word = sym none ∙ seen in cc);
    holding = λ id v x is counted.
        of_main (λ w. hands_accounts w.thread AsCaller x ≡ holds w x) id v is (main_holds plan.layout x);
    no_variables = λ t depth i x. by_none (t == 0);
    one_hand = λ id other v w is that same.
        (only_one (main_view plan.layout) v id is).0 ∙ sym (only_one (main_view plan.layout) w other that).0;
    idle = idle_workers;
    given_out = λ id other main v is first_thread that later.
        let none = ap (λ (w : View). w.thread) (only_one (main_view plan.layout) v other that).1 in
        absurd (omega (arith, later, none));
    joined = λ id v is.
        of_main (λ w. All (IsGone (hands_machine plan.lines plan.layout).actors) w.joined) id v is
        (λ k d low. absurd (omega (arith, low)));
    threads = record {
      started = λ id v is. of_main (λ w. 0 < thread_word words w.thread) id v is (omega (arith, first.main_runs));
      started_seen = λ id t v is low seen.
          absurd (false≢true (sym (of_main (λ w. has_started t w ≡ false) id v is refl) ∙ seen));
      given_started = λ id t v is given.
          absurd (false≢true (sym (of_main (λ w. is_given t w ≡ false) id v is refl) ∙ given));
      gone_seen = λ id t v is low seen.
          absurd (false≢true (sym (of_main (λ w. knows_gone t w ≡ false) id v is refl) ∙ seen));
      unstarted = λ id t v is first_thread pos low none.
          first.workers_wait t pos low ∙ sym (of_main (λ w. started_word t w ≡ 0) id v is refl);
    };
  }

  -- Each field is at home, and empty.
  pub fields_open : {T : Type 0} → TableStands plan words
      (map home.some (replicate {A = Option T} (row_count plan.layout) None)) hands
  unfolding opening
  fields_open {T} = record {
    stands = opening;
    fields = record {
      rows = empty_count T (row_count plan.layout);
      at_home = λ x low is. record { field = None; there = empty_there T (row_count plan.layout) x low; holds = refl };
      once = λ id x v is. of_main (λ w. times_taken x w ≤ 1) id v is (omega arith);
      alone = λ id other x v w is that first second.
          (only_one (main_view plan.layout) v id is).0 ∙ sym (only_one (main_view plan.layout) w other that).0;
      used = λ id x v is taken.
          absurd (omega (arith, taken, of_main (λ w. times_taken x w ≡ 0) id v is refl));
      locked = λ id x v is locks.
          absurd (let none = of_main (λ w. w.actor.locked ≡ None) id v is refl in
          let wrong : None ≡ Some x = sym none ∙ locks in cc);
    };
    first = λ only. first;
  }
