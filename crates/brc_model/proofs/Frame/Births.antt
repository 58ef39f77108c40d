-- What a birth under way has stored stays, whatever another thread does.
use Rattle.std.proofs.Common.{◌≡◌, ◌≢◌, ℕ, List, Some, refl, sym, ap, ◌∙◌}
use Rattle.std.specs.Prelude.{slice_get}
use Rattle.std.proofs.lemmas.Bool.{ne_eqb}
use Rattle.brc_model.specs.declared.duty.Duty.{Duty}
use Rattle.brc_model.specs.declared.duty.Duty.TheVariants.{SettleKind, TakeField, BirthKind, BirthField, KindLoad, LendField, ReturnField}
use Rattle.brc_model.specs.declared.address.Address.TheVariants.{KindOf, Field}
use Rattle.brc_model.specs.declared.actor.Actor.{Actor}
use Rattle.brc_model.specs.Machine.{Unborn, Dying, Machine, machine_by_duty}
use Rattle.brc_model.specs.Accounts.{Accounts}
use Rattle.brc_model.specs.Knowledge.{IsNext}
use Rattle.brc_model.specs.Invariant.{AtDuty}
use Rattle.brc_model.specs.Layout.{block_of}
use Rattle.brc_model.proofs.Basics.Blocks.{next_block, next_unborn}
use Rattle.brc_model.proofs.Basics.Written.{written_apart, written_load}
use Rattle.brc_model.proofs.Frame.Alive.{live_born}
use Rattle.brc_model.proofs.Frame.Leaves.{head_of, locked_lives}

module _ (p : Accounts) (n : ℕ) (m : Machine) (t u : ℕ) (a b : Actor) where
  -- Two threads' next rows are in different blocks.
  next_apart : (y x : ℕ) → u ≢ t → IsNext m t a y → IsNext m u b x → y ≢ x
  next_apart y x ne mine theirs same =
      ne (sym (next_block m u b x theirs) ∙ ap (block_of m.layout) (sym same) ∙ next_block m t a y mine)

  born_apart : (y x : ℕ) → m.life x ≡ Unborn → m.life y ≢ Unborn → y ≢ x
  born_apart y x unborn born same = born (ap m.life same ∙ unborn)

  dying_born : (y : ℕ) → m.life y ≡ Dying t → m.life y ≢ Unborn
  dying_born y dies unborn = let wrong : Dying t ≡ Unborn = sym dies ∙ unborn in cc

  locked_born : (d : Duty) (rest : List Duty) (y : ℕ) → AtDuty p n m t a d rest → a.locked ≡ Some y
      → m.life y ≢ Unborn
  locked_born d rest y here locked = live_born m y (locked_lives t a y here.core here.found locked)

  kind_left : (d : Duty) (rest : List Duty) (x : ℕ) → AtDuty p n m t a d rest → u ≢ t → IsNext m u b x
      → (machine_by_duty m t a d rest).memory (KindOf x) ≡ m.memory (KindOf x)
  kind_left (SettleKind y) rest x here ne next = written_load m.memory (KindOf y) (KindOf x)
  kind_left (KindLoad y) rest x here ne next = written_load m.memory (KindOf y) (KindOf x)
  kind_left (BirthKind y h w) rest x here ne next =
      let mine = (head_of here).0 in
      written_apart m.memory (KindOf y) (KindOf x) w (ne_eqb y x (next_apart y x ne mine next))
  kind_left _ rest x here ne next = refl

  field_left : (d : Duty) (rest : List Duty) (x : ℕ) → AtDuty p n m t a d rest → u ≢ t → IsNext m u b x
      → m.life x ≡ Unborn → (machine_by_duty m t a d rest).memory (Field x) ≡ m.memory (Field x)
  field_left (TakeField y) rest x here ne next unborn =
      let dies = (head_of here).1 in
      written_apart m.memory (Field y) (Field x) 0 (ne_eqb y x (born_apart y x unborn (dying_born y dies)))
  field_left (BirthField y h) rest x here ne next unborn =
      let mine = (head_of here).0 in
      written_apart m.memory (Field y) (Field x) 1 (ne_eqb y x (next_apart y x ne mine next))
  field_left (LendField y) rest x here ne next unborn =
      let locked = (head_of here).1 in
      written_apart m.memory (Field y) (Field x) 0
      (ne_eqb y x (born_apart y x unborn (locked_born (LendField y) rest y here locked)))
  field_left (ReturnField y) rest x here ne next unborn =
      let locked = (here.core.each t a here.found).0.lent y (head_of here) in
      written_apart m.memory (Field y) (Field x) 1
      (ne_eqb y x (born_apart y x unborn (locked_born (ReturnField y) rest y here locked)))
  field_left _ rest x here ne next unborn = refl

  -- A step leaves the kind word and the field of the row to which another thread gives birth.
  pub births_left : (d : Duty) (rest : List Duty) (x : ℕ) → AtDuty p n m t a d rest → u ≢ t
      → slice_get m.actors u ≡ Some b → IsNext m u b x
      → ((machine_by_duty m t a d rest).memory (KindOf x) ≡ m.memory (KindOf x))
      × ((machine_by_duty m t a d rest).memory (Field x) ≡ m.memory (Field x))
  births_left d rest x here ne found next =
      (kind_left d rest x here ne next, field_left d rest x here ne next (next_unborn p n m u b x here.core found next))
