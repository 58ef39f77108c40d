-- What a birth leaves.
use Rattle.std.proofs.Common.{◌≡◌, ℕ, zero, suc, Bool, true, false, List, [], ◌∷◌, ◌++◌, refl, sym, ap, ◌∙◌, subst}
use Rattle.std.specs.Prelude.{◌==◌, ◌&&◌, ◌||◌, if◌then◌else◌}
use Rattle.std.specs.List.{list_any}
use Rattle.std.proofs.lemmas.Bool.{eq-eqb}
use Rattle.std.proofs.lemmas.List.Folds.{list_any-append}
use Rattle.brc_model.specs.declared.duty.Duty.{Duty}
use Rattle.brc_model.specs.declared.duty.Duty.TheVariants.{BirthKind, BirthField, BirthLocal}
use Rattle.brc_model.specs.declared.duty.Holding.TheVariants.{AsCaller}
use Rattle.brc_model.specs.Duties.{ready, has_resource}
use Rattle.brc_table.specs.declared.view.View.{View}
use Rattle.brc_table.specs.Views.{view_by, view_after, event_of, bearing, open_work, next_row, field_filled, field_filled_by, with_next, with_work}
use Rattle.brc_table.specs.Calls.{OwnsFirst}
use Rattle.brc_table.specs.KnownWords.{shows_kind, knows_kind}
use Rattle.brc_heap.specs.Calls.{born, with_newborn, HasBorn}
use Rattle.brc_heap.specs.Steps.{Keeps}
use Rattle.brc_heap.proofs.Keeping.{keeps_then, keeps_beside, did_on}

-- A hand whose next duty is to put the new object's resource into its field, or to store its first local word, does the
-- latter next once the resource is there.
filled_next : (u : View) (x head : ℕ) (has : Bool)
    → u.actor.agenda ≡ ready head ((if has then BirthField x AsCaller ∷ [] else BirthLocal x AsCaller ∷ []) ++ [])
    → field_filled u ≡ with_next u (BirthLocal x AsCaller ∷ [])
filled_next u x zero true is = ap (λ (ds : List Duty). field_filled_by ds u) is
filled_next u x (suc head) true is = ap (λ (ds : List Duty). field_filled_by ds u) is
filled_next u x zero false is =
    ap (λ (ds : List Duty). field_filled_by ds u) is ∙ ap (with_next u) is
filled_next u x (suc head) false is =
    ap (λ (ds : List Duty). field_filled_by ds u) is ∙ ap (with_next u) is

-- the hand before it stores the first local word
abbrev pub begun : View → ℕ → View
begun v word = with_next (view_after (bearing v word) 0) (BirthLocal (next_row v) AsCaller ∷ [])

pub begun_is : (v : View) (word : ℕ) → field_filled (view_after (bearing v word) 0) ≡ begun v word
begun_is v word = filled_next (view_after (bearing v word) 0) (next_row v) v.actor.head (has_resource word) refl

-- A birth is two stores.
pub born_is : (v : View) (word : ℕ) → born v word ≡ view_by (begun v word) (BirthLocal (next_row v) AsCaller ∷ []) 0
born_is v word = ap (λ (u : View). view_after u 0) (begun_is v word)

pub or_true : (b : Bool) → (b || true) ≡ true
or_true true = refl
or_true false = refl

-- A birth keeps the rest.
birth_keeps : (v : View) (word : ℕ)
    → let u = view_by (begun v word) (BirthLocal (next_row v) AsCaller ∷ []) 0 in
    Keeps (with_work (with_newborn v) u.actor.agenda u.actor.aside) u
birth_keeps v word =
    let x = next_row v in
    let bears = with_work (with_newborn v) (BirthKind x AsCaller word ∷ []) (open_work v) in
    let stored = view_by bears (BirthKind x AsCaller word ∷ []) 0 in
    keeps_then (keeps_beside (with_work (with_newborn v) [] (open_work v)) (BirthKind x AsCaller word ∷ []))
    (keeps_then (did_on bears (BirthKind x AsCaller word) [] 0 (record {
      locked = refl;
      cells = λ y i is. refl;
      gates = λ y is. refl;
    }))
    (keeps_then (keeps_beside stored (BirthLocal x AsCaller ∷ []))
    (did_on (begun v word) (BirthLocal x AsCaller) [] 0 (record {
      locked = refl;
      cells = λ y i is. refl;
      gates = λ y is. refl;
    }))))

-- It sees the kind word that it stores,
pub stored_seen : (v : View) (word : ℕ) → knows_kind (next_row v) word (view_after (bearing v word) 0) ≡ true
stored_seen v word =
    let x = next_row v in
    list_any-append (shows_kind x word) v.trace (event_of (bearing v word) (BirthKind x AsCaller word) 0 ∷ [])
    ∙ (ap (λ (b : Bool). list_any (shows_kind x word) v.trace || ((b && (word == word)) || false)) (eq-eqb x x refl)
    ∙ (ap (λ (b : Bool). list_any (shows_kind x word) v.trace || (b || false)) (eq-eqb word word refl)
    ∙ or_true (list_any (shows_kind x word) v.trace)))

-- and still sees it at the end.
pub birth_seen : (v : View) (word : ℕ) → knows_kind (next_row v) word (born v word) ≡ true
birth_seen v word =
    let x = next_row v in
    let filled = begun v word in
    ap (knows_kind x word) (born_is v word)
    ∙ (list_any-append (shows_kind x word) filled.trace (event_of filled (BirthLocal x AsCaller) 0 ∷ [])
    ∙ ap (λ (b : Bool). b || list_any (shows_kind x word) (event_of filled (BirthLocal x AsCaller) 0 ∷ []))
    (stored_seen v word))

pub has_born : (v : View) (word : ℕ) → HasBorn v (born v word)
has_born v word =
    subst (HasBorn v) (sym (born_is v word)) (record {
      keeps = birth_keeps v word;
      head = refl;
      waits = tt;
      work = refl;
    })

-- What comes next in a birth.
owns_by : (x head : ℕ) (has : Bool)
    → OwnsFirst x (ready head ((if has then BirthField x AsCaller ∷ [] else BirthLocal x AsCaller ∷ []) ++ []))
owns_by x zero true = refl
owns_by x (suc head) true = refl
owns_by x zero false = refl
owns_by x (suc head) false = refl

-- Its last duty is to put the resource into the field, or to store the first local word.
owns_next : (v : View) (word : ℕ) → OwnsFirst (next_row v) (view_after (bearing v word) 0).actor.agenda
owns_next v word = owns_by (next_row v) v.actor.head (has_resource word)

pub owns_after : (v : View) (word : ℕ) {u : View} {row : ℕ} → u ≡ view_after (bearing v word) 0 → row ≡ next_row v
    → OwnsFirst row u.actor.agenda
owns_after v word {u} {row} view is =
    subst (λ (y : ℕ). OwnsFirst y u.actor.agenda) (sym is)
    (subst (λ (w : View). OwnsFirst (next_row v) w.actor.agenda) (sym view) (owns_next v word))
