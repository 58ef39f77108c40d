-- What a field holds: nothing before its row is born, the object's resource at the end of the birth and where the
-- thread begins to deallocate the object, and nothing at the end of that. While a thread has locked the object, the
-- resource is there too, unless the thread has lent it. At the end of all threads each field holds its row's resource,
-- unless the row is closed.
use Rattle.std.proofs.Common.{◌≡◌, ◌≢◌, ℕ, Bool, cond, List, inl, inr, None, Some, refl, sym, ap, ◌∙◌, subst, arith}
use Rattle.std.specs.Prelude.{◌==◌, slice_get}
use Rattle.std.proofs.lemmas.Bool.{eq-eqb}
use Rattle.std.proofs.lemmas.Bool.Decides.{eqb_tells}
use Rattle.brc_word.specs.declared.values.TheConstants.{EMPTY}
use Rattle.brc_word.specs.Words.{closed_word}
use Rattle.brc_model.specs.declared.duty.Holding.{Holding}
use Rattle.brc_model.specs.declared.duty.Duty.{Duty}
use Rattle.brc_model.specs.declared.duty.Duty.TheVariants.{BirthKind, SettleKind, SettleEnd}
use Rattle.brc_model.specs.declared.address.Address.TheVariants.{Gate, KindOf, Field}
use Rattle.brc_model.specs.Duties.{resources_of}
use Rattle.brc_model.specs.declared.actor.Actor.{Actor}
use Rattle.brc_model.specs.Machine.{Life, Unborn, Live, Dying, Closed, Machine}
use Rattle.brc_model.specs.References.{one_if}
use Rattle.brc_model.specs.Accounts.{Accounts}
use Rattle.brc_model.specs.OpenWork.{dies_by}
use Rattle.brc_model.specs.Gates.{GateFits}
use Rattle.brc_model.specs.Resources.{lends, lenders, closing, ending, resources_at, IsSettling, ResourcesFit}
use Rattle.brc_model.specs.Invariant.{CoreInvariant, AtDuty}
use Rattle.brc_model.specs.Counting.{Counts}
use Rattle.brc_model.specs.Ending.{HaveEnded}
use Rattle.brc_model.specs.FieldLaws.{LockedFieldsAreFull, FieldsAreKnown, FieldsEnd}
use Rattle.brc_model.proofs.Basics.Blocks.{next_block, next_index}
use Rattle.brc_model.proofs.Frame.Leaves.{head_of, locked_lives}
use Rattle.brc_model.proofs.Objects.BlanksAfter.{blanks_here}
use Rattle.brc_model.proofs.Objects.Finalisers.{unfinalised, finalised_alone}
use Rattle.brc_model.proofs.Objects.Lenders.{none_named, none_lent, locker_alone}
use Rattle.brc_model.proofs.Objects.SettlingWeights.{finalises, of_closing, of_ending}
use Rattle.brc_model.proofs.Work.Deciders.{sum_zero}
use Rattle.brc_model.proofs.Promises.AtTheEnd.{none_dying}
use Rattle.brc_model.proofs.Promises.Guarded.{at_next, gone_hold_nothing}
use Rattle.brc_model.proofs.Promises.Ending.{at_end, is_closed, blank_row}

-- ---- births and deallocations

module _ (p : Accounts) (n : ℕ) (m : Machine) (t : ℕ) (a : Actor) where
  -- The field of the row that is born next is empty.
  unborn_field : (x : ℕ) (h : Holding) (w : ℕ) (rest : List Duty) → AtDuty p n m t a (BirthKind x h w) rest
      → m.memory (Field x) ≡ EMPTY
  unborn_field x h w rest here =
      let next = (head_of here).0 in
      (blanks_here here).fields x (next_block m t a x next) (omega (arith, next_index m t a x next)) refl

  -- The resource of a row that the thread deallocates is in one place.
  dying_fits : (x : ℕ) → CoreInvariant p n m → m.life x ≡ Dying t → IsSettling (resources_at m x)
  dying_fits x core dies = subst (λ (l : Life). ResourcesFit l (resources_at m x)) dies (core.resources x)

  -- That place is the field until the thread has asked for the row's kind.
  dying_field : (x : ℕ) (rest : List Duty) → AtDuty p n m t a (SettleKind x) rest
      → m.memory (Field x) ≡ resources_of (m.memory (KindOf x))
  dying_field x rest here =
      let d : Duty = SettleKind x in
      let dies = (head_of here).1 in
      let fit = dying_fits x here.core dies in
      let this = eq-eqb x x refl in
      let none_closing =
      finalised_alone p n m x (closing x) (finalises x (closing x) (of_closing x)) t a d rest here this dies in
      let none_ending =
      finalised_alone p n m x (ending x) (finalises x (ending x) (of_ending x)) t a d rest here this dies in
      let unclosed = fit.unclosed none_ending in
      let unlent = none_lent p n m x here.core (λ lives. let wrong : Dying t ≡ Live = sym dies ∙ lives in cc) in
      omega (arith, fit.placed, none_closing, unclosed, unlent)

  -- The resource of a row that the thread closes is closed, so the field is empty.
  closing_field : (x : ℕ) (rest : List Duty) → AtDuty p n m t a (SettleEnd x) rest → m.memory (Field x) ≡ EMPTY
  closing_field x rest here =
      let d : Duty = SettleEnd x in
      let dies = (head_of here).1 in
      let fit = dying_fits x here.core dies in
      let this = eq-eqb x x refl in
      let ends = finalised_alone p n m x (ending x) (finalises x (ending x) (of_ending x)) t a d rest here this dies in
      let one : one_if (x == x) ≡ 1 = ap one_if this in
      let shut = fit.shut (omega (arith, ends, one)) in
      omega (arith, fit.placed, shut)

-- What a thread knows of a field that it takes or gives back.
pub fields_known : FieldsAreKnown
fields_known = record {
  unborn = λ p n m t a x h w rest counts next. unborn_field p n m t a x h w rest (at_next counts next);
  born = λ p n m t a x h rest counts next. (head_of (at_next counts next)).3;
  dying = λ p n m t a x rest counts next. dying_field p n m t a x rest (at_next counts next);
  closing = λ p n m t a x rest counts next. closing_field p n m t a x rest (at_next counts next);
}

-- ---- locks

-- The field of an object that a thread has locked has the object's resource, unless the thread has lent it.
pub locked_full : LockedFieldsAreFull
locked_full p n m t a x counts found locked unlent =
    let core = counts.kept.core in
    let lives = (locked_lives t a x core found locked) in
    let fit : ResourcesFit Live (resources_at m x) =
    subst (λ (l : Life). ResourcesFit l (resources_at m x)) lives (core.resources x) in
    let none_closing =
    unfinalised p n m x (closing x) (finalises x (closing x) (of_closing x)) core
    (λ u. ap (λ (l : Life). dies_by l u) lives) in
    let none_lent = locker_alone p n m x t a core found locked unlent in
    omega (arith, fit.0, fit.1, none_closing, none_lent)

-- ---- the end

module _ (p : Accounts) (n : ℕ) (m : Machine) (x : ℕ) (counts : Counts p n m) (ended : HaveEnded p m) where
  -- the invariant that the counts keep
  core : CoreInvariant p n m
  core = counts.kept.core

  -- No thread has a resource lent.
  all_returned : (u : ℕ) (b : Actor) → slice_get m.actors u ≡ Some b → b.lent ≡ None
  all_returned u b found = elim (ended u b found) [
    | inl gone ↦ (gone_hold_nothing p n m u b counts found gone).returned
    | inr idle ↦ ap (λ (c : Actor). c.lent) idle.0
  ]

  -- So nobody has the row's resource lent.
  none_lends : lenders x m.actors ≡ 0
  none_lends = sum_zero (lends x) m.actors (λ u b found. none_named b.lent x (all_returned u b found))

  -- The field of a closed row is empty.
  closed_field : m.memory (Gate x) ≡ closed_word → m.memory (Field x) ≡ EMPTY
  closed_field closed =
      let fit : ResourcesFit Closed (resources_at m x) =
      subst (λ (l : Life). ResourcesFit l (resources_at m x)) (is_closed p n m counts ended x closed)
      (core.resources x) in
      omega (arith, fit.0, fit.1)

  -- The field of any other row has the row's resource.
  open_field : (l : Life) → m.life x ≡ l → ResourcesFit l (resources_at m x)
      → GateFits m.actors x l (m.memory (Gate x)) → m.memory (Gate x) ≢ closed_word
      → m.memory (Field x) ≡ resources_of (m.memory (KindOf x))
  open_field Unborn is fit gate still =
      let blank = blank_row p n m counts ended x is in
      blank.1 ∙ sym (ap resources_of blank.0)
  open_field Live is fit gate still =
      let none_closing =
      unfinalised p n m x (closing x) (finalises x (closing x) (of_closing x)) core
      (λ u. ap (λ (l : Life). dies_by l u) is) in
      omega (arith, fit.0, fit.1, none_closing, none_lends)
  open_field (Dying t) is fit gate still = absurd (none_dying x t core (at_end p n m counts ended) is)
  open_field Closed is fit gate still = absurd (still gate)

-- At the end a field has its row's resource, unless the row is closed.
pub fields_end : FieldsEnd
fields_end p n m x counts ended counted =
    let core = counts.kept.core in
    let all = resources_of (m.memory (KindOf x)) in
    elim (eqb_tells (m.memory (Gate x)) closed_word) [
      | inl closed ↦
          closed_field p n m x counts ended closed.1 ∙ sym (ap (λ (b : Bool). cond b 0 all) closed.0)
      | inr still ↦
          open_field p n m x counts ended (m.life x) refl (core.resources x) (core.gates x) still.1
          ∙ sym (ap (λ (b : Bool). cond b 0 all) still.0)
    ]
