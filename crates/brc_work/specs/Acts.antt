-- What a worker's call does to its hand, as far as its variables are concerned.
use Rattle.std.specs.Prelude.{◌≡◌, ℕ, true, Some}
use Rattle.brc_table.specs.declared.view.View.{View}
use Rattle.brc_table.specs.KnownWords.{knows_kind, known_cell}
use Rattle.brc_table.specs.Views.{with_reference, without_reference}
use Rattle.brc_table.specs.Hands.{HandState}
use Rattle.brc_work.specs.Fits.{Rests, IsLater}

-- The hand has seen the kinds that it had seen.
pub record KnowsMore (v u : View) : Type 0 where
  pub layout : u.layout ≡ v.layout
  pub kinds : (x word : ℕ) → knows_kind x word v ≡ true → knows_kind x word u ≡ true

-- What the hand has seen in the list that it has locked is still there.
abbrev pub KeepsCells : View → View → Type 0
KeepsCells v u = (x i word : ℕ) → v.actor.locked ≡ Some x → known_cell x i v ≡ Some word → known_cell x i u ≡ Some word

-- The hand has done something, and rests again. It has locked what it had locked.
pub record Acts (hand after : HandState) : Type 0 where
  pub follows : IsLater hand after
  pub rests : Rests after
  pub more : KnowsMore hand.view after.view
  pub locked : after.view.actor.locked ≡ hand.view.actor.locked
  pub in_field : after.view.in_field ≡ hand.view.in_field
  pub fields : after.fields ≡ hand.fields

-- Besides, what it has seen in the locked list is still there.
pub record ActsElsewhere (hand after : HandState) : Type 0 where
  pub acts : Acts hand after
  pub cells : KeepsCells hand.view after.view

-- It has a reference more to the object,
abbrev pub HasMore : ℕ → HandState → HandState → Type 0
HasMore x hand after = after.view.references ≡ with_reference hand.view.layout x hand.view.references

-- a reference less,
abbrev pub HasLess : ℕ → HandState → HandState → Type 0
HasLess x hand after = after.view.references ≡ without_reference hand.view.layout x hand.view.references

-- or the same references.
abbrev pub HasSame : HandState → HandState → Type 0
HasSame hand after = after.view.references ≡ hand.view.references
