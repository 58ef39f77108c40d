-- The abstract state of references has no counts. It is the bag of all references, each with its holder and its object,
-- the lists of the objects that were born and that were closed, and the kind of each object. (Python/C API manual,
-- Reference Count Details: each reference has one owner.)
use Rattle.std.specs.Prelude.{ℕ, Bool, true, false, ◌&&◌, ◌||◌, ◌==◌, not, nat_lt, if◌then◌else◌, List, [], ◌∷◌, ◌++◌, count_by}
use Rattle.brc_model.specs.declared.duty.Holding.{Holding}
use Rattle.brc_model.specs.declared.duty.Holding.TheVariants.{ByVariable, AsCaller, InFlight}
use Rattle.std.specs.List.{list_any}
use Rattle.brc_lang.specs.declared.kind.Kind.{Kind}
use Rattle.brc_model.specs.Kinds.{is_counted_kind}
use Rattle.brc_model.specs.declared.layout.Layout.{Layout}
use Rattle.brc_model.specs.Layout.{is_immortal_row}

abbrev pub is_counted : Layout → ℕ → Bool
is_counted layout object = not (is_immortal_row layout object)

-- the holder of a reference: a thread, in one of its ways, or a cell of a list, by the list's row and the cell's number
pub data Holder : Type 0 where
  ByThread : ℕ → Holding → Holder
  ByCell : ℕ → ℕ → Holder

pub record Reference : Type 0 where
  pub holder : Holder
  pub object : ℕ

pub record AbstractState : Type 0 where
  pub references : List Reference
  -- the counted objects, in the order of their births
  pub born : List ℕ
  pub closed : List ℕ
  -- each object's kind, from its birth on
  pub kinds : ℕ → Kind

-- ---- the bag

abbrev pub same_holding : Holding → Holding → Bool
same_holding (ByVariable depth v) (ByVariable other w) = (depth == other) && (v == w)
same_holding AsCaller AsCaller = true
same_holding InFlight InFlight = true
same_holding _ _ = false

abbrev pub same_holder : Holder → Holder → Bool
same_holder (ByThread t h) (ByThread u k) = (t == u) && same_holding h k
same_holder (ByCell x i) (ByCell y j) = (x == y) && (i == j)
same_holder _ _ = false

abbrev pub same : Reference → Reference → Bool
same r q = same_holder r.holder q.holder && (r.object == q.object)

-- the bag with one such reference taken out, if it has one
abbrev pub without : Reference → List Reference → List Reference
without r [] = []
without r (q ∷ qs) = if same r q then qs else q ∷ without r qs

-- the number of references to the object
abbrev pub references_to : ℕ → List Reference → ℕ
references_to object bag = count_by (λ r. r.object == object) bag

abbrev pub is_cell_of : ℕ → Holder → Bool
is_cell_of x (ByThread t h) = false
is_cell_of x (ByCell y i) = y == x

-- says whether a cell of the list holds a reference
abbrev pub holds_by_cells : ℕ → List Reference → Bool
holds_by_cells x bag = list_any (λ r. is_cell_of x r.holder) bag

abbrev pub is_among : ℕ → List ℕ → Bool
is_among object objects = list_any (λ x. x == object) objects

-- ---- moves

-- a change of the abstract state: a birth with its first reference, a further reference, a reference that is given up
-- or passed on to another holder, and the close of an object
pub data Move : Type 0 where
  Born : Reference → Kind → Move
  Gain : Reference → Move
  Lose : Reference → Move
  PassOn : Reference → Holder → Move
  Finalise : ℕ → Move

-- A birth is of a counted object that wasn't born before, and of a counted kind. A reference is gained to an immortal
-- object, or to an object that has a reference already. A reference that is lost or passed on is in the bag. An object
-- is closed once: it is counted, no reference to it is left, and none of its cells holds a reference.
abbrev pub is_allowed : Layout → AbstractState → Move → Bool
is_allowed layout p (Born r kind) = is_counted layout r.object && is_counted_kind kind && not (is_among r.object p.born)
is_allowed layout p (Gain r) = is_immortal_row layout r.object || nat_lt 0 (references_to r.object p.references)
is_allowed layout p (Lose r) = list_any (same r) p.references
is_allowed layout p (PassOn r h) = list_any (same r) p.references
is_allowed layout p (Finalise x) =
    is_counted layout x && (references_to x p.references == 0) && not (is_among x p.closed)
    && not (holds_by_cells x p.references)

-- the kinds, with the object's replaced
abbrev pub with_kind : (ℕ → Kind) → ℕ → Kind → ℕ → Kind
with_kind kinds object kind x = if object == x then kind else kinds x

abbrev pub move : AbstractState → Move → AbstractState
move p (Born r kind) = record p {
  references = r ∷ p.references;
  born = p.born ++ r.object ∷ [];
  kinds = with_kind p.kinds r.object kind;
}
move p (Gain r) = record p { references = r ∷ p.references }
move p (Lose r) = record p { references = without r p.references }
move p (PassOn r h) = record p { references = (record { holder = h; object = r.object }) ∷ without r p.references }
move p (Finalise x) = record p { closed = p.closed ++ x ∷ [] }

-- the abstract state after the moves of one event, in order
abbrev pub moved : AbstractState → List Move → AbstractState
moved p [] = p
moved p (m ∷ ms) = moved (move p m) ms

-- says whether each of the moves is allowed in the state that the moves before it leave
abbrev pub are_allowed : Layout → AbstractState → List Move → Bool
are_allowed layout p [] = true
are_allowed layout p (m ∷ ms) = is_allowed layout p m && are_allowed layout (move p m) ms
