-- What a running hand finds at the rows of its own block.
use Rattle.std.proofs.Common.{◌≡◌, ℕ, zero, suc, ◌+◌, Bool, true, false, List, [], ◌∷◌, ◌++◌, inl, inr, refl, sym, ap, ◌∙◌, subst, arith}
use Rattle.std.specs.Prelude.{◌==◌, ◌&&◌, nat_lt, if◌then◌else◌}
use Rattle.std.proofs.lemmas.Bool.{cases_Bool, eq-eqb, false≢true, ltb-false, ltb-true}
use Rattle.brc_word.specs.Words.{owner_part, local_part, is_immortal_word, most_local}
use Rattle.brc_model.specs.declared.actor.Status.TheVariants.{Running}
use Rattle.brc_model.specs.declared.duty.Duty.{Duty}
use Rattle.brc_model.specs.declared.duty.Holding.TheVariants.{AsCaller}
use Rattle.brc_model.specs.declared.duty.Duty.TheVariants.{RetainStore, RetainAdd}
use Rattle.brc_model.specs.Duties.{ready}
use Rattle.brc_model.specs.Layout.{block_of, block_size, is_immortal_row, IsCounted}
use Rattle.brc_model.proofs.Basics.Blocks.{block_at, immortal_block}
use Rattle.brc_model.specs.Machine.{is_running, has_room}
use Rattle.brc_model.specs.Within.{OwnerFits}
use Rattle.brc_table.specs.declared.view.View.{View}
use Rattle.brc_table.specs.Views.{view_by, view_after, retaining, next_row, RowsAreThere}
use Rattle.brc_effect.specs.declared.outcomes.LocalRelease.TheVariants as local
use Rattle.brc_heap.specs.Calls.{retained, RetainsOwn, local_answer}

runs_true : (v : View) → v.actor.status ≡ Running → is_running v.actor.status ≡ true
runs_true v runs = ap is_running runs

-- A word of the thread's own block that doesn't name the thread names nobody.
unowned : (v : View) (x word : ℕ) → OwnerFits v.layout x word → block_of v.layout x ≡ v.thread
    → (owner_part word == v.thread + 1) ≡ false → owner_part word ≡ 0
unowned v x word (inl none) mine other = none
unowned v x word (inr owner) mine other =
    let it : owner_part word ≡ v.thread + 1 = owner ∙ ap (λ (t : ℕ). t + 1) mine in
    absurd (false≢true (sym other ∙ eq-eqb (owner_part word) (v.thread + 1) it))

share_by : (immortal owner last : Bool)
    → local.Share ≡ (if immortal then local.Skip else if true && owner then (if last then local.Zero else local.Kept)
    else local.Share) → owner ≡ false
share_by true owner last is = absurd cc
share_by false true true is = absurd cc
share_by false true false is = absurd cc
share_by false false last is = refl

-- A release of an object of the thread's own block is shared only where nobody owns the object.
pub share_unowned : (v : View) (x word : ℕ) → v.actor.status ≡ Running → OwnerFits v.layout x word
    → block_of v.layout x ≡ v.thread → local.Share ≡ local_answer v word → owner_part word ≡ 0
share_unowned v x word runs fits mine is =
    unowned v x word fits mine (share_by (is_immortal_word word) (owner_part word == v.thread + 1)
    (local_part word == 1)
    (subst (λ (b : Bool). local.Share ≡ (if is_immortal_word word then local.Skip
    else if b && (owner_part word == v.thread + 1) then (if local_part word == 1 then local.Zero else local.Kept)
    else local.Share)) (runs_true v runs) is))

store_next : (head x word : ℕ) (running owner below : Bool) → running ≡ true → owner ≡ true → below ≡ true
    → ready head ((if false then [] else if (running && owner) && below then RetainStore x AsCaller word ∷ []
    else RetainAdd x AsCaller ∷ []) ++ []) ≡ RetainStore x AsCaller word ∷ []
store_next zero x word true true true one two three = refl
store_next (suc head) x word true true true one two three = refl
store_next head x word false owner below one two three = absurd cc
store_next head x word true false below one two three = absurd cc
store_next head x word true true false one two three = absurd cc

-- A retain of an object of the thread's own block stores the local word, but for three cases.
pub retain_owns : (v : View) (x word found : ℕ) → v.actor.status ≡ Running → OwnerFits v.layout x word
    → block_of v.layout x ≡ v.thread → RetainsOwn x word found v (retained v x word found)
retain_owns v x word found runs fits mine = elim (cases_Bool (is_immortal_word word)) [
  | inl immortal ↦ inl immortal
  | inr mortal ↦ elim (cases_Bool (owner_part word == v.thread + 1)) [
    | inr other ↦ inr (inl (unowned v x word fits mine other))
    | inl owner ↦ elim (cases_Bool (nat_lt (local_part word) most_local)) [
      | inr high ↦ inr (inr (inl (ltb-false (local_part word) most_local high)))
      | inl below ↦
          let next : (view_after (retaining v x) word).actor.agenda ≡ RetainStore x AsCaller word ∷ [] =
          ap (λ (b : Bool). ready v.actor.head ((if b then [] else if (is_running v.actor.status
          && (owner_part word == v.thread + 1)) && nat_lt (local_part word) most_local
          then RetainStore x AsCaller word ∷ [] else RetainAdd x AsCaller ∷ []) ++ [])) mortal
          ∙ store_next v.actor.head x word (is_running v.actor.status) (owner_part word == v.thread + 1)
          (nat_lt (local_part word) most_local) (runs_true v runs) owner below in
          inr (inr (inr (ap (λ (ds : List Duty). (view_by (view_after (retaining v x) word) ds found).trace) next)))
    ]
  ]
]

-- ---- the next row

-- The row of a hand's next birth is a counted object's: immortal rows are main's, which has no room.
pub next_is_counted : (v : View) → RowsAreThere v → has_room v.layout v.thread v.actor.used ≡ true
    → IsCounted v.layout (next_row v)
next_is_counted v there room =
    let low = ltb-true v.actor.used (block_size v.layout v.thread) room in
    elim (cases_Bool (is_immortal_row v.layout (next_row v))) [
      | inl immortal ↦
          let main : v.thread ≡ 0 =
          sym (block_at v.layout v.thread v.actor.used there.thread low)
          ∙ immortal_block v.layout (next_row v) immortal in
          absurd (omega (arith, low, there.main main))
      | inr counted ↦ counted
    ]
