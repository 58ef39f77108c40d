-- An object has no float, so that its text is known byte for byte.
use Rattle.std.proofs.Common.{◌≡◌, ℕ, List, [], ◌∷◌, ◌++◌, map, length, take, get_or, Option, None, Some, false, refl, sym, ap, ◌∙◌}
use Rattle.std.proofs.Common.{◌+◌, ◌<◌}
use Rattle.std.proofs.lemmas.List.{map-append, map_more}
use Rattle.std.specs.Borrow.{Bor}
use Rattle.brc_explain.specs.declared.marks.Place.{Place}
use Rattle.brc_explain.specs.declared.rows.StepRow.{StepRow}
use Rattle.brc_explain.specs.declared.rows.StepRows.{StepRows}
use Rattle.brc_explain.specs.declared.rows.StepRows.TheVariants.{One, Two}
use Rattle.serde_json.specs.Data.{Data}
use Rattle.serde_json.specs.View.{view, items_of}
use Rattle.serde_json.specs.Written.{has_float, items_have_float}
use Rattle.serde_json.specs.declared.value.Value.{Value}
use Rattle.brc_command.specs.declared.finding.Finding.{Finding}
use Rattle.brc_command.specs.declared.finding.Finding.TheVariants.{Accepted, Refused as IsRefused, Unreadable, Stopped}
use Rattle.brc_command.specs.declared.finding.Other.{Other}
use Rattle.brc_command.specs.declared.step_fault.StepFault.TheVariants.{Text, Plan, Refused, NoFunction, NoMemory}
use Rattle.brc_command.specs.declared.step_fault.StepFault.TheVariants.{Output}
use Rattle.brc_command.specs.declared.stop.Stop.TheVariants.{UnreadableFile, NoFunction as Unknown, NoThread, Fault}
use Rattle.brc_command.specs.Objects.{number_or_null, step_object, first_path, second_path, other_object, others_array}
use Rattle.brc_command.specs.Objects.{place_or_null, text_or_null, finding_object}

no_float_number : (n : Option ℕ) → has_float (number_or_null n) ≡ false
no_float_number None = refl
no_float_number (Some n) = refl

no_float_steps : (rows : List StepRow) → items_have_float (items_of (map step_object rows)) ≡ false
no_float_steps [] = refl
no_float_steps (row ∷ rows) = no_float_steps rows

no_float_first : (steps : StepRows) → has_float (first_path steps) ≡ false
no_float_first (One rows) = no_float_steps rows
no_float_first (Two rows others) = no_float_steps rows

no_float_second : (steps : StepRows) → has_float (second_path steps) ≡ false
no_float_second (One rows) = refl
no_float_second (Two rows others) = no_float_steps others

no_float_others : (others : List Other) → has_float (others_array others) ≡ false
no_float_others [] = refl
no_float_others (other ∷ others) = rw (no_float_number other.line) (no_float_others others)

no_float_place : (place : Option Place) → has_float (place_or_null place) ≡ false
no_float_place None = refl
no_float_place (Some place) = refl

no_float_text : (text : Option (Bor (List ℕ))) → has_float (text_or_null text) ≡ false
no_float_text None = refl
no_float_text (Some text) = refl

pub no_float : (file message : List ℕ) (finding : Finding) → has_float (finding_object file message finding) ≡ false
no_float file message Accepted = refl
no_float file message (IsRefused found) =
    rw (
      no_float_others found.others,
      no_float_number found.line,
      no_float_second found.steps,
      no_float_first found.steps,
      no_float_place found.details.place,
      no_float_text found.details.variable,
    ) refl
no_float file message (Unreadable found) =
    rw (no_float_place found.details.place, no_float_text found.details.variable) refl
no_float file message (Stopped UnreadableFile) = refl
no_float file message (Stopped (Unknown name)) = refl
no_float file message (Stopped NoThread) = refl
no_float file message (Stopped (Fault (Text e))) = refl
no_float file message (Stopped (Fault (Plan e))) = refl
no_float file message (Stopped (Fault (Refused r))) = refl
no_float file message (Stopped (Fault (NoFunction name))) = refl
no_float file message (Stopped (Fault NoMemory)) = refl
no_float file message (Stopped (Fault Output)) = refl

-- a further step of a path
pub steps_pushed : (rows : List StepRow) (i : ℕ) (row : StepRow) (values before : List Value) (value : Value)
    → i < length rows → get_or rows i row ≡ row → values ≡ before ++ value ∷ []
    → map view before ≡ map step_object (take i rows) → view value ≡ step_object row
    → map view values ≡ map step_object (take (i + 1) rows)
steps_pushed rows i row values before value inside here pushed so_far is =
    ap (map view) pushed ∙ map-append view before (value ∷ []) ∙ ap (λ l. l ++ view value ∷ []) so_far
    ∙ ap (λ (d : Data). map step_object (take i rows) ++ d ∷ []) (is ∙ ap step_object (sym here))
    ∙ sym (map_more step_object rows i row inside)

-- a further refusal
pub others_pushed : (others : List Other) (i : ℕ) (other : Other) (values before : List Value) (value : Value)
    → i < length others → get_or others i other ≡ other → values ≡ before ++ value ∷ []
    → map view before ≡ map other_object (take i others) → view value ≡ other_object other
    → map view values ≡ map other_object (take (i + 1) others)
others_pushed others i other values before value inside here pushed so_far is =
    ap (map view) pushed ∙ map-append view before (value ∷ []) ∙ ap (λ l. l ++ view value ∷ []) so_far
    ∙ ap (λ (d : Data). map other_object (take i others) ++ d ∷ []) (is ∙ ap other_object (sym here))
    ∙ sym (map_more other_object others i other inside)
