-- What a hand keeps in one call, and in several.
use Rattle.std.proofs.Common.{◌≡◌, ℕ, Bool, false, List, [], ◌∷◌, Option, None, Some, refl, ap, ◌∙◌, subst}
use Rattle.std.specs.Prelude.{◌||◌, if◌then◌else◌}
use Rattle.std.specs.List.{list_any}
use Rattle.std.proofs.lemmas.List.Folds.{list_any-append}
use Rattle.std.proofs.lemmas.List.Sums.{fold-append}
use Rattle.brc_model.specs.declared.duty.Duty.{Duty}
use Rattle.brc_model.specs.declared.address.Address.TheVariants.{Gate, Cell}
use Rattle.brc_model.specs.Duties.{address_of}
use Rattle.brc_model.specs.Machine.{same_address, locked_by, status_by, used_by}
use Rattle.brc_table.specs.declared.view.View.{View}
use Rattle.brc_table.specs.declared.view.Joined.{Joined}
use Rattle.brc_model.specs.declared.event.WordEvent.{WordEvent}
use Rattle.brc_table.specs.Views.{view_by, event_of, with_next}
use Rattle.brc_table.specs.KnownWords.{shows_kind, cell_known, known_cell}
use Rattle.brc_heap.specs.Steps.{Keeps}

-- A hand that does nothing keeps all.
pub keeps_first : (v : View) → Keeps v v
keeps_first v = record {
  layout = refl;
  thread = refl;
  status = refl;
  references = refl;
  aside = refl;
  used = refl;
  locked = refl;
  in_field = refl;
  given = refl;
  kinds = λ x word seen. seen;
  cells = λ x i is. refl;
}

-- One call after another.
pub keeps_then : {v u w : View} → Keeps v u → Keeps u w → Keeps v w
keeps_then one other = record {
  layout = other.layout ∙ one.layout;
  thread = other.thread ∙ one.thread;
  status = other.status ∙ one.status;
  references = other.references ∙ one.references;
  aside = other.aside ∙ one.aside;
  used = other.used ∙ one.used;
  locked = other.locked ∙ one.locked;
  in_field = other.in_field ∙ one.in_field;
  given = other.given ∙ one.given;
  kinds = λ x word seen. other.kinds x word (one.kinds x word seen);
  cells = λ x i is. other.cells x i (one.locked ∙ is) ∙ one.cells x i is;
}

-- Whatever becomes of its work, its chain, its references and the hands that it has given out or joined, the hand keeps
-- the rest.
pub keeps_rest : {v u : View} {ds es fs gs : List Duty} {h k : ℕ} {rs ss ts us : List ℕ} {hands : List Joined}
    → Keeps v u → gs ≡ fs → ss ≡ rs → us ≡ ts
    → Keeps (record v {
      actor = record v.actor { agenda = ds; aside = fs; head = h };
      references = rs;
      given = ts;
    }) (record u {
      actor = record u.actor { agenda = es; aside = gs; head = k };
      references = ss;
      given = us;
      joined = hands;
    })
keeps_rest keeps aside references given = record {
  layout = keeps.layout;
  thread = keeps.thread;
  status = keeps.status;
  references = references;
  aside = aside;
  used = keeps.used;
  locked = keeps.locked;
  in_field = keeps.in_field;
  given = given;
  kinds = keeps.kinds;
  cells = keeps.cells;
}

-- Other duties that come next change nothing else.
pub keeps_beside : (u : View) (ds : List Duty) → Keeps u (with_next u ds)
keeps_beside u ds = keeps_rest (keeps_first u) refl refl refl

-- ---- one duty

-- The hand's duty locks and unlocks nothing, and touches neither the gate nor a cell of the object that the hand has
-- locked.
pub record StaysOff (u : View) (d : Duty) (found : ℕ) : Type 0 where
  pub locked : locked_by u.actor.locked d found ≡ u.actor.locked
  pub cells : (y i : ℕ) → u.actor.locked ≡ Some y
      → same_address (address_of u.layout u.thread u.actor.head d) (Cell y i) ≡ false
  pub gates : (y : ℕ) → u.actor.locked ≡ Some y → same_address (address_of u.layout u.thread u.actor.head d) (Gate y)
      ≡ false

-- A step on neither the cell nor the row's gate.
pub unknown : (y i : ℕ) (known : Option ℕ) (e : WordEvent) → same_address e.address (Cell y i) ≡ false
    → same_address e.address (Gate y) ≡ false → cell_known y i known e ≡ known
unknown y i known e cell gate =
    ap (λ (b : Bool). if b then Some e.left else if same_address e.address (Gate y) then None else known) cell
    ∙ ap (λ (b : Bool). if b then None else known) gate

-- the hand with the status and the used rows that the duty leaves
abbrev pub moved : View → Duty → View
moved u d = record u {
  actor = record u.actor { status = status_by u.actor.status d; used = used_by u.actor.used d };
}

-- Else a duty keeps all.
pub did_on : (u : View) (d : Duty) (rest : List Duty) (found : ℕ) → StaysOff u d found
    → Keeps (moved u d) (view_by u (d ∷ rest) found)
did_on u d rest found stays = record {
  layout = refl;
  thread = refl;
  status = refl;
  references = refl;
  aside = refl;
  used = refl;
  locked = stays.locked;
  in_field = refl;
  given = refl;
  kinds = λ y word seen.
      list_any-append (shows_kind y word) u.trace (event_of u d found ∷ [])
      ∙ ap (λ (b : Bool). b || list_any (shows_kind y word) (event_of u d found ∷ [])) seen;
  cells = λ y i is.
      fold-append (cell_known y i) None u.trace (event_of u d found ∷ [])
      ∙ unknown y i (known_cell y i u) (event_of u d found) (stays.cells y i is) (stays.gates y is);
}

-- One that changes neither keeps these, too.
pub did_keeps : (u : View) (d : Duty) (rest : List Duty) (found : ℕ) → status_by u.actor.status d ≡ u.actor.status
    → used_by u.actor.used d ≡ u.actor.used → StaysOff u d found → Keeps u (view_by u (d ∷ rest) found)
did_keeps u d rest found status used stays =
    let same : moved u d ≡ u = λ i. record u { actor = record u.actor { status = status i; used = used i } } in
    subst (λ (z : View). Keeps z (view_by u (d ∷ rest) found)) same (did_on u d rest found stays)
