-- Changes of a hand's view at which no word changes, one after another, and the fields that the hand has meanwhile.
use Rattle.std.proofs.Common.{◌≡◌, ◌⊎◌, ℕ, Bool, true, false, Option, Some, List, [], ◌∷◌, set, inl, inr, refl, sym, ap, ◌∙◌, subst}
use Rattle.std.specs.Prelude.{◌||◌}
use Rattle.std.specs.List.{list_any}
use Rattle.std.proofs.lemmas.Bool.{false≢true}
use Rattle.std.proofs.lemmas.List.{set-set}
use Rattle.brc_model.specs.declared.address.Address.TheVariants.{Field}
use Rattle.brc_model.specs.declared.duty.Duty.{Duty}
use Rattle.brc_model.specs.declared.duty.Duty.TheVariants.{BirthField, BirthLocal, SettleCell, TakeField, CloseResource, SettleEnd}
use Rattle.brc_model.specs.Machine.{Machine}
use Rattle.brc_model.specs.OpenWork.{may_wait}
use Rattle.brc_model.specs.FieldLaws.{UsesField, needs_field}
use Rattle.brc_table.specs.Plan.{Plan}
use Rattle.brc_table.specs.declared.view.View.{View}
use Rattle.brc_table.specs.Views.{with_work}
use Rattle.brc_table.specs.Hands.{MayWait}
use Rattle.brc_table.specs.Homes.{times_in}
use Rattle.brc_table.specs.Begins.{Passes, Becomes}
use Rattle.brc_table.proofs.Changing.{taken_same, locked_same, itself_becomes}
use Rattle.brc_table.proofs.Lists.{set_view}

-- ---- two changes in a row

-- What is passed from one machine to a second, and from there to a third, is passed from the first to the third.
pub passes_on : {plan : Plan} {words : List ℕ} {views : List View} {taken : List ℕ} {locked : Option ℕ}
    (first second : Machine)
    → ((x : ℕ) → (times_in x taken ≡ 0) ⊎ (locked ≡ Some x) → second.memory (Field x) ≡ first.memory (Field x))
    → Passes plan words views taken locked second → Passes plan words views taken locked first
passes_on first second same next =
    record { stands = next.stands; fields = λ x which. next.fields x which ∙ same x which }

-- Two changes of a hand's view, one after the other, are one change.
pub becomes_then : (plan : Plan) (v w u : View) → Becomes plan v w → Becomes plan w u → Becomes plan v u
becomes_then plan v w u first second = record {
  passes = λ words views id stands here.
      let one = first.passes words views id stands here in
      let two = second.passes words (set views id w) id one.stands (set_view views id v w here) in
      let both =
      subst (λ (l : List View). Passes plan words l w.taken w.actor.locked one.stands.machine)
      (set-set views id w u) two in
      record {
        stands = both.stands;
        fields = λ x which.
            both.fields x (elim which [
              | inl none ↦ inl (ap (times_in x) (taken_same first) ∙ none)
              | inr locks ↦ inr (locked_same first ∙ locks)
            ]) ∙ one.fields x which;
      };
  same = second.same ∙ ap (λ (z : View). record (with_work z u.actor.agenda u.actor.aside) {
    references = u.references;
    in_field = u.in_field;
  }) first.same;
  in_field = λ x locks. second.in_field x (locked_same first ∙ locks) ∙ first.in_field x locks;
  uses = λ x uses. second.uses x (first.uses x uses);
}

-- A hand may keep its view.
pub becomes_same : (plan : Plan) (v u : View) → v ≡ u → Becomes plan v u
becomes_same plan v u same = subst (Becomes plan v) same (itself_becomes plan v)

-- ---- fields that stay

-- A duty that may wait needs no field,
waits_free : (x : ℕ) (d : Duty) → may_wait d ≡ true → needs_field x d ≡ false
waits_free x (BirthField y h) may = absurd cc
waits_free x (BirthLocal y h) may = absurd cc
waits_free x (SettleCell y i n) may = absurd cc
waits_free x (TakeField y) may = absurd cc
waits_free x (CloseResource y) may = absurd cc
waits_free x (SettleEnd y) may = absurd cc
waits_free x _ may = refl

none_used : (x : ℕ) (ds : List Duty) → MayWait ds → list_any (needs_field x) ds ≡ false
none_used x [] may = refl
none_used x (d ∷ []) may = ap (λ (b : Bool). b || false) (waits_free x d may)
none_used x (d ∷ e ∷ ds) may = absurd may

-- so a hand whose next duty may wait uses the field of no object but the one that it has locked.
pub waiting_uses : (v u : View) → MayWait v.actor.agenda → u.actor.locked ≡ v.actor.locked → (x : ℕ)
    → UsesField v.actor x → UsesField u.actor x
waiting_uses v u may same x (inl locks) = inl (same ∙ locks)
waiting_uses v u may same x (inr needs) = absurd (false≢true (sym (none_used x v.actor.agenda may) ∙ needs))
