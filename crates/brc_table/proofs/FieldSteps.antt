-- What a table asks of a step that takes a field or gives one back: whatever the table's words are, the hand can go on,
-- and the rule holds again.
use Rattle.std.proofs.Common.{◌≡◌, ℕ, Bool, true, cond, Option, None, Some, List, [], ◌∷◌, set, inl, inr, refl, sym, ap, ◌∙◌, subst}
use Rattle.std.specs.Prelude.{◌==◌, slice_index}
use Rattle.std.proofs.lemmas.Bool.{cases_Bool, eq-eqb, false≢true}
use mathlib.Core.Option as home
use mathlib.Core.Option.{some}
use prog.Atomic.{either}
use Rattle.atomic_table.specs.Table.{State, keeps, takes, Me, Allows}
use Rattle.brc_word.specs.Words.{free_word, locked_word}
use Rattle.brc_model.specs.declared.address.Address.TheVariants.{Field}
use Rattle.brc_model.specs.declared.duty.Duty.TheVariants.{LockGate}
use Rattle.brc_model.specs.CountingLaws.{WorkIsPutAside, LocksBegin, ImmortalsAreFree}
use Rattle.brc_model.specs.FieldLaws.{Stays, Takes, use_of}
use Rattle.brc_table.specs.Plan.{Plan}
use Rattle.brc_table.specs.ModelLaws.{ModelLaws}
use Rattle.brc_table.specs.declared.view.View.{View}
use Rattle.brc_table.specs.Views.{view_after, view_by, taken_after, locking}
use Rattle.brc_table.specs.KnownWords.{knows_kind}
use Rattle.brc_table.specs.Places.{in_tile}
use Rattle.brc_table.specs.Hands.{HoldsOne, HasNoWork, IsRunning}
use Rattle.brc_table.specs.Homes.{held_in, TableStands}
use Rattle.brc_table.specs.Uses.{Locks}
use Rattle.brc_table.proofs.FirstHand.{with_duty}
use Rattle.brc_table.proofs.Lists.{set_view}
use Rattle.brc_table.proofs.Duties.{runs_on, either_is}
use Rattle.brc_table.proofs.Locking.{locking_becomes}
use Rattle.brc_table.proofs.LockedFields.{still_seen, field_seen}
use Rattle.brc_table.proofs.Allowed as allowed
use Rattle.brc_table.proofs.Allowed.{IsAt, object_next}
use Rattle.brc_table.proofs.FieldsTaken as taken

module _ (laws : ModelLaws) where
  module _ (put : WorkIsPutAside) (locks_begin : LocksBegin) (immortals : ImmortalsAreFree)
      (plan : Plan) (v : View) (x gate : ℕ) (running : IsRunning v)
      (idle : HasNoWork v x) (holding : HoldsOne v x) (unlocked : v.actor.locked
      ≡ None)
      (names : gate ≡ locked_word v.thread) where
    abbrev f : ℕ → ℕ
    f found = either (found == free_word) gate found

    -- A hand that has locked nothing has not locked this row.
    none_locked : {A : Type 0} (y : ℕ) → v.actor.locked ≡ Some y → A
    none_locked y locks = let wrong : None ≡ Some y = sym unlocked ∙ locks in absurd cc

    is_some : (x y : ℕ) → Some x ≡ Some y → y ≡ x
    is_some x y e = cc

    pub lock_allowed : {T : Type 0} (fields id index : ℕ) (me : Me (Option T) View) → me.0 ≡ v → index ≡ in_tile 2 x
        → Allows (λ (s : State (Option T) View). TableStands plan s.words s.homes s.views) fields id me index f
        (λ found after. Locks x me found after)
    lock_allowed fields id index me is_me at s holds homes here below =
        let mine = here ∙ ap some is_me in
        let word = slice_index s.words index in
        let m = holds.stands.machine in
        let n = m.memory (Field x) in
        let u = locking v x n in
        let becomes = locking_becomes put locks_begin immortals plan v x n running idle holding unlocked in
        let is_at : IsAt u (LockGate x) [] index =
        record { agenda = refl; alive = runs_on v running.0; object = tt; index_is = at } in
        let next = object_next u (LockGate x) [] index is_at in
        let leaves =
        allowed.object_leaves laws plan v u (LockGate x) [] index becomes is_at f
        (λ found small knows. either_is found free_word gate free_word (locked_word v.thread) refl names) in
        let w = view_by u (LockGate x ∷ []) word in
        let rows =
        allowed.rows_now laws plan v u (LockGate x) [] index becomes next s holds id mine
        f leaves below in
        elim (cases_Bool (word == free_word)) [
          | inl is_free ↦
              let takes_it : use_of (LockGate x) word ≡ Takes x = ap (λ (b : Bool). cond b (Takes x) Stays) is_free in
              let field =
              taken.field_home laws plan v u (LockGate x) [] index becomes next x s
              holds id mine takes_it in
              let now =
              taken.stands_now laws plan v u (LockGate x) [] index becomes next x s
              holds id mine takes_it f leaves below (λ y locks. none_locked y locks)
              (λ y locks.
              inl (is_some x y (sym (ap (λ (b : Bool). cond b (Some x) v.actor.locked) is_free) ∙ locks), refl)) in (
                w,
                takes x field.field,
                field.there,
                now,
                (
                  ap (λ (z : View). view_after (locking z x n) word) (sym is_me),
                  rows,
                  λ follows.
                      ap (λ (l : List ℕ). x ∷ l) (follows ∙ ap (λ (z : View). z.taken) is_me)
                      ∙ sym (ap (taken_after u.taken) takes_it),
                  ap (λ (k : ℕ). (x, k) ∷ held_in me.1) field.holds
                      ∙ sym (ap (λ (b : Bool). cond b ((x, n) ∷ held_in me.1) (held_in me.1)) is_free),
                  λ kind found_free more seen.
                      field_seen laws.full plan (set s.words index (f word)) (set s.homes x home.none)
                      (set s.views id w)
                      now id x w (set_view s.views id v w mine) (ap (λ (b : Bool). cond b (Some x) v.actor.locked)
                      is_free)
                      kind more
                      (still_seen x kind u (LockGate x) [] word
                      (subst (λ (z : View). knows_kind x kind z ≡ true) is_me seen)),
                ),
              )
          | inr other ↦
              let stays : use_of (LockGate x) word ≡ Stays = ap (λ (b : Bool). cond b (Takes x) Stays) other in
              let now =
              allowed.now laws plan v u (LockGate x) [] index becomes next s holds id mine
              f leaves below in (
                w,
                keeps,
                tt,
                record {
                  stands = now.stands;
                  fields =
                      allowed.fields_now laws plan v u (LockGate x) [] index becomes next s
                      holds id mine f leaves below stays;
                  first =
                      with_duty plan.layout (set s.views id w) id u (LockGate x) [] word
                      (set_view s.views id v w mine);
                },
                (
                  ap (λ (z : View). view_after (locking z x n) word) (sym is_me),
                  rows,
                  λ follows.
                      follows ∙ (ap (λ (z : View). z.taken) is_me ∙ sym (ap (taken_after u.taken) stays)),
                  sym (ap (λ (b : Bool). cond b ((x, n) ∷ held_in me.1) (held_in me.1)) other),
                  λ kind found_free more seen.
                      absurd (false≢true (sym other ∙ eq-eqb word free_word found_free)),
                ),
              )
        ]
