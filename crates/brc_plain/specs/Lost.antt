-- Lost objects: nobody has closed them, and no cell of an open list holds a reference to them.
use Rattle.std.specs.Prelude.{◌≡◌, ℕ, ◌==◌, Bool, true, false, ◌&&◌, not, List}
use Rattle.std.specs.List.{list_any}
use Rattle.brc_model.specs.AbstractState.{AbstractState, Holder, ByThread, ByCell, Reference, is_among}
use Rattle.brc_model.specs.StepMachine.{StepMachine}

-- Says whether the holder is a cell of a list that isn't among the closed ones.
abbrev pub is_open_cell : List ℕ → Holder → Bool
is_open_cell closed (ByThread t holding) = false
is_open_cell closed (ByCell list cell) = not (is_among list closed)

-- Says whether the reference is one to the row's object that a cell of an open list holds.
abbrev pub keeps : AbstractState → ℕ → Reference → Bool
keeps p row r = (r.object == row) && is_open_cell p.closed r.holder

-- The row's object is born and isn't closed, and no cell of an open list holds a reference to it. Once all threads are
-- gone nobody can use it any more: a reference that one of them has left behind is nobody's.
pub record IsLost (m : StepMachine) (row : ℕ) : Type 0 where
  pub born : is_among row m.abstract.born ≡ true
  pub not_closed : is_among row m.abstract.closed ≡ false
  pub not_kept : list_any (keeps m.abstract row) m.abstract.references ≡ false

-- Says whether the row's object is lost.
abbrev pub is_lost : AbstractState → ℕ → Bool
is_lost p row = (is_among row p.born && not (is_among row p.closed)) && not (list_any (keeps p row) p.references)
