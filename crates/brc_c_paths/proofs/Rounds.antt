-- Rounds in which idle cells are dropped.
use Rattle.std.proofs.Common.{◌≡◌, ℕ, zero, suc, ◌+◌, ◌-◌, ◌<◌, ◌≤◌, Bool, true, false, cond, List, [], ◌∷◌}
use Rattle.std.proofs.Common.{length, filter, nat_lt, refl, ap, sym, ◌∙◌, arith, subst}
use Rattle.std.proofs.lemmas.Bool.{ltb-false}
use Rattle.std.proofs.lemmas.List.Sums.{length-filter, count_by-le-length}
use Rattle.brc_c_store.specs.declared.cell.Touched.{Touched}
use Rattle.brc_c_store.specs.Stores.{Contents}
use Rattle.brc_c_graph.specs.declared.node.NodeId.{NodeId}
use Rattle.brc_c_paths.specs.declared.liveness.Liveness.{Liveness}
use Rattle.brc_c_paths.specs.CellsKept.{with_rounds, with_idle_dropped, busy_cells, is_kept, near_objects}

-- a filter that keeps as many elements as there are keeps them all
filter_all : {X : Type 0} (p : X → Bool) (xs : List X) → length xs ≤ length (filter p xs) → filter p xs ≡ xs
filter_all p [] h = refl
filter_all p (x ∷ xs) h =
    (elim (p x) as (λ b. length (x ∷ xs) ≤ length (cond b (x ∷ filter p xs) (filter p xs))
    → cond b (x ∷ filter p xs) (filter p xs) ≡ x ∷ xs) [
      | true ↦ λ k. ap (λ ys. x ∷ ys) (filter_all p xs (omega arith))
      | false ↦ λ k. let less = count_by-le-length p xs in let same = length-filter p xs in
          let never : ⊥ = omega arith in elim never [ ]
    ]) h

module _ (live : Liveness) (node : NodeId) where
  pub round_first : (c : Contents) (end : ℕ) → with_rounds live node (end - 0) c ≡ with_rounds live node end c
  round_first c end = let all : end - 0 ≡ end = omega arith in ap (λ n. with_rounds live node n c) all

  pub round_next : (c d : Contents) (at end : ℕ) → d ≡ with_idle_dropped live node c → at < end
      → with_rounds live node (end - (at + 1)) d ≡ with_rounds live node (end - at) c
  round_next c d at end e h =
      let one_more : end - at ≡ suc (end - (at + 1)) = omega arith in
      ap (with_rounds live node (end - (at + 1))) e ∙ sym (ap (λ n. with_rounds live node n c) one_more)

  pub round_end : (c : Contents) (at end : ℕ) → end ≤ at → with_rounds live node (end - at) c ≡ c
  round_end c at end h = let none : end - at ≡ 0 = omega arith in ap (λ n. with_rounds live node n c) none

  rounds_stay : (c : Contents) (n : ℕ) → with_idle_dropped live node c ≡ c → with_rounds live node n c ≡ c
  rounds_stay c zero e = refl
  rounds_stay c (suc n) e = ap (with_rounds live node n) e ∙ rounds_stay c n e

  none_dropped : (c : Contents) → length c.cells ≤ length (busy_cells live node c) → with_idle_dropped live node c ≡ c
  none_dropped c h =
      ap (λ (ts : List Touched). record c { cells = ts })
      (filter_all (is_kept live node c (near_objects live node c)) c.cells h)

  -- after a round that drops nothing, further rounds leave all as it is
  pub rounds_end : (c d : Contents) (n : ℕ) → d ≡ with_idle_dropped live node c
      → nat_lt (length d.cells) (length c.cells) ≡ false → d ≡ with_rounds live node n c
  rounds_end c d n e h =
      let all : length c.cells ≤ length d.cells = ltb-false _ _ h in
      let kept : length c.cells ≤ length (busy_cells live node c) =
      subst (λ (x : Contents). length c.cells ≤ length x.cells) e all in
      let same = none_dropped c kept in
      e ∙ same ∙ sym (rounds_stay c n same)
