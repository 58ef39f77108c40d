-- What a worker does with the resource of the file or socket that it has locked.
use Rattle.std.proofs.Common.{◌≡◌, ℕ, true, List, ◌∷◌, Option, Some, sym, ap, ◌∙◌}
use Rattle.brc_model.specs.declared.state.State.{State}
use Rattle.brc_model.specs.SlotStates.{var_of, kind_of, is_one_of, with_resource, names}
use Rattle.brc_model.specs.Threads.{row_of}
use Rattle.brc_model.proofs.Basics.Lists.{some_is}
use Rattle.brc_table.specs.declared.view.View.{View}
use Rattle.brc_table.specs.Uses.{FirstField, behind_field}
use Rattle.brc_table.specs.Hands.{HandState}
use Rattle.brc_work.specs.Fits.{Base, Fits}
use Rattle.brc_work.proofs.Conditions.{locked_is}
use Rattle.brc_work.proofs.Holding.{lock_of}

-- The variable names the object that the hand has locked, whose field has a resource.
pub record OnFile (hand : HandState) (row : ℕ) : Type 0 where
  pub locked : hand.view.actor.locked ≡ Some row
  pub whole : hand.view.in_field ≡ 1
  pub rest : List (ℕ × ℕ)
  pub fields : hand.fields ≡ (row, 1) ∷ rest

pub on_file : (base : Base) (s : State) (rows : List (Option ℕ)) (hand : HandState) (file row : ℕ)
    → Fits base s rows hand → names s.locked file ≡ true
    → is_one_of (kind_of (var_of s file)) with_resource ≡ true → row_of rows file ≡ Some row → OnFile hand row
on_file base s rows hand file row fits is has named =
    let lock = lock_of base s rows hand fits file (locked_is s.locked file is) in
    let same : lock.object ≡ row = some_is lock.object row (sym lock.names ∙ named) in
    record {
      locked = lock.locked ∙ ap Some same;
      whole = lock.resource has;
      rest = base.first.fields;
      fields =
          lock.fields ∙ (ap (λ (x : ℕ). (x, hand.view.in_field) ∷ base.first.fields) same
          ∙ ap (λ (n : ℕ). (row, n) ∷ base.first.fields) (lock.resource has));
    }

pub there : (hand : HandState) (row : ℕ) → OnFile hand row → FirstField hand.fields row 1
there hand row on = record { rest = on.rest; is = on.fields }

same_hand : (hand after : HandState) → after.table ≡ hand.table → after.view ≡ hand.view → after.carried ≡ hand.carried
    → after.fields ≡ hand.fields → after ≡ hand
same_hand hand after table view carried fields =
    ap (λ t. record after { table = t }) table
    ∙ (ap (λ (v : View). record after { table = hand.table; view = v }) view
    ∙ (ap (λ (l : List (Option ℕ)). record after { table = hand.table; view = hand.view; carried = l }) carried
    ∙ ap (λ (l : List (ℕ × ℕ)). record after {
      table = hand.table;
      view = hand.view;
      carried = hand.carried;
      fields = l;
    }) fields))

-- Once the resource is back, the hand is as it was.
pub lent_back : (hand lent after : HandState) (row : ℕ) → OnFile hand row → after.table ≡ hand.table
    → lent.view ≡ hand.view → after.view ≡ lent.view → lent.carried ≡ hand.carried → after.carried ≡ lent.carried
    → lent.fields ≡ (row, 0) ∷ behind_field hand.fields
    → after.fields ≡ (row, 1) ∷ behind_field lent.fields → after ≡ hand
lent_back hand lent after row on table view back carried carried_back fields fields_back =
    same_hand hand after table (back ∙ view) (carried_back ∙ carried)
    (fields_back
    ∙ (ap (λ (l : List (ℕ × ℕ)). (row, 1) ∷ behind_field l) fields
    ∙ (ap (λ (l : List (ℕ × ℕ)). (row, 1) ∷ behind_field l) on.fields ∙ sym on.fields)))
