-- Who guards a list's cells: a hand that has locked the list, or has chained it. No other hand changes them.
use Rattle.std.proofs.Common.{◌≡◌, ◌≢◌, ℕ, ◌+◌, ◌<◌, List, Some, inl, inr, sym, ◌∙◌, arith}
use Rattle.std.specs.Prelude.{◌⊎◌}
use Rattle.std.proofs.lemmas.Option.{slice_get_within}
use mathlib.Core.Option.{some}
use lib.ListN.{get_elem?}
use Rattle.brc_model.specs.Layout.{row_count}
use Rattle.brc_model.specs.Machine.{Dying}
use Rattle.brc_model.specs.CountingLaws.{IsFirstOfChain, ChainsAreThere}
use Rattle.brc_table.specs.Plan.{Plan}
use Rattle.brc_table.specs.declared.view.View.{View}
use Rattle.brc_table.specs.Views.{RowsAreThere}
use Rattle.brc_table.specs.Hands.{MayChange, MayLoad}
use Rattle.brc_table.specs.Rule.{Guards, Stands}

-- ---- a list whose cells a hand may change

-- It has a row.
pub change_there : (v : View) (x : ℕ) → RowsAreThere v → MayChange v x → x < row_count v.layout
change_there v x rows (inl locked) = rows.locked x locked
change_there v x rows (inr first) = omega (arith, rows.head, first)

-- A hand may change the cells that it may load.
pub load_changes : (v : View) (x : ℕ) → MayLoad v x → MayChange v x
load_changes v x (inl (locked, held)) = inl locked
load_changes v x (inr first) = inr first

-- It is the one that the thread has locked, or the first of its chain.
pub change_by : (v : View) (x : ℕ) → MayChange v x → (v.actor.locked ≡ Some x) ⊎ IsFirstOfChain v.actor x
change_by v x (inl locked) = inl locked
change_by v x (inr first) = inr (omega (arith, first))

-- No other hand changes the cells that the hand may change.
pub change_guards : ChainsAreThere → (plan : Plan) (words : List ℕ) (views : List View) (id : ℕ) (v : View) (x : ℕ)
    (stands : Stands plan words views) → get_elem? views id ≡ some v → MayChange v x → Guards stands.machine v x
change_guards chains plan words views id v x stands here (inl locked) = inl locked
change_guards chains plan words views id v x stands here (inr first) =
    inr ((chains stands.accounts (1 + stands.machine.layout.workers) stands.machine v.thread v.actor stands.counts
    (stands.same_actor id v here)).first x (omega (arith, first)))

-- ---- one guard

-- Two hands don't guard one list: its gate names one thread.
pub guards_apart : (plan : Plan) (words : List ℕ) (views : List View) (id other : ℕ) (v w : View) (x : ℕ)
    (s : Stands plan words views) → get_elem? views id ≡ some v → get_elem? views other ≡ some w
    → v.thread ≢ w.thread → Guards s.machine v x → Guards s.machine w x → ⊥
guards_apart plan words views id other v w x s here there apart (inl locked) (inl theirs) =
    let one = (s.counts.kept.core.each v.thread v.actor (s.same_actor id v here)).0.locks x locked in
    let two = (s.counts.kept.core.each w.thread w.actor (s.same_actor other w there)).0.locks x theirs in
    apart (omega (arith, one.gate, two.gate))
guards_apart plan words views id other v w x s here there apart (inl locked) (inr (dies, (next, word, low))) =
    let core = s.counts.kept.core in
    let one = (core.each v.thread v.actor (s.same_actor id v here)).0.locks x locked in
    absurd (omega (
      arith,
      one.gate,
      word,
      slice_get_within s.machine.actors v.thread v.actor (s.same_actor id v here),
      core.threads,
      core.few_threads,
    ))
guards_apart plan words views id other v w x s here there apart (inr (dies, (next, word, low))) (inl theirs) =
    let core = s.counts.kept.core in
    let two = (core.each w.thread w.actor (s.same_actor other w there)).0.locks x theirs in
    absurd (omega (
      arith,
      two.gate,
      word,
      slice_get_within s.machine.actors w.thread w.actor (s.same_actor other w there),
      core.threads,
      core.few_threads,
    ))
guards_apart plan words views id other v w x s here there apart (inr (dies, word)) (inr (theirs, other_word)) =
    let both : Dying v.thread ≡ Dying w.thread = sym dies ∙ theirs in
    let threads : v.thread ≡ w.thread = cc in
    apart threads
