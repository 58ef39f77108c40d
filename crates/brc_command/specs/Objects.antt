-- The JSON object of what is found of a file. Its members stand in the order of their names.
use Rattle.std.specs.Prelude.{◌≡◌, ℕ, List, map, Option, None, Some, codes}
use Rattle.std.specs.Borrow.{Bor}
use Rattle.std.specs.Str.Lossy.{utf8_lossy}
use Rattle.brc_lang.specs.Grammar.{line}
use Rattle.brc_explain.specs.declared.marks.Place.{Place}
use Rattle.brc_explain.specs.declared.rows.StepRow.{StepRow}
use Rattle.brc_explain.specs.declared.rows.StepRows.{StepRows}
use Rattle.brc_explain.specs.declared.rows.StepRows.TheVariants.{One, Two}
use Rattle.brc_explain.specs.Rows.{way_word}
use Rattle.serde_json.specs.Data.{Data, null, number, unsigned, string, array, object, Members, member, no_members}
use Rattle.serde_json.specs.View.{items_of}
use Rattle.serde_json.specs.Written.{compact_text}
use Rattle.brc_command.specs.declared.finding.Finding.{Finding}
use Rattle.brc_command.specs.declared.finding.Finding.TheVariants.{Accepted, Refused, Unreadable, Stopped}
use Rattle.brc_command.specs.declared.finding.Other.{Other}
use Rattle.brc_command.specs.declared.step_fault.StepFault.{StepFault}
use Rattle.brc_command.specs.declared.step_fault.StepFault.TheVariants as faults
use Rattle.brc_command.specs.declared.stop.Stop.TheVariants.{UnreadableFile, NoFunction, NoThread, Fault}
use Rattle.brc_lang.specs.Codes.{fault_code, check_code}

-- ---- members

abbrev pub fault_verdict : StepFault → List ℕ
fault_verdict (faults.Text e) = codes "unreadable"
fault_verdict (faults.Plan e) = codes "unreadable"
fault_verdict (faults.Refused r) = codes "refused"
fault_verdict (faults.NoFunction name) = codes "no function"
fault_verdict faults.NoMemory = codes "no memory"
fault_verdict faults.Output = codes "cannot write"

abbrev pub verdict_of : Finding → List ℕ
verdict_of Accepted = codes "accepted"
verdict_of (Refused found) = codes "refused"
verdict_of (Unreadable found) = codes "unreadable"
verdict_of (Stopped UnreadableFile) = codes "unreadable"
verdict_of (Stopped (NoFunction name)) = codes "no function"
verdict_of (Stopped NoThread) = codes "no thread"
verdict_of (Stopped (Fault e)) = fault_verdict e

-- the function at fault, or the one that isn't there; a name has ASCII alone, of which nothing is lost
abbrev pub function_of : Finding → Data
function_of (Refused found) = string (utf8_lossy found.refused.function)
function_of (Stopped (NoFunction name)) = string name.now
function_of finding = null

-- the number of the instruction at fault, from 0
abbrev pub at_of : Finding → Data
at_of (Refused found) = number (unsigned found.refused.at)
at_of finding = null

abbrev pub code_of : Finding → Data
code_of (Refused found) = string (check_code found.refused.code)
code_of (Unreadable found) = string (fault_code found.fault.code)
code_of (Stopped (Fault (faults.Text e))) = string (fault_code e.code)
code_of finding = null

abbrev pub number_or_null : Option ℕ → Data
number_or_null None = null
number_or_null (Some n) = number (unsigned n)

-- the line of the text, counted from 1
abbrev pub line_in : Finding → Data
line_in (Refused found) = number_or_null found.line
line_in (Unreadable found) = number (unsigned found.fault.line)
line_in (Stopped (Fault (faults.Text e))) = number (unsigned e.line)
line_in finding = null

-- the refusal of another function
abbrev pub other_object : Other → Data
other_object other = object (member (codes "at") (number (unsigned other.refused.at))
    (member (codes "code") (string (check_code other.refused.code))
    (member (codes "function") (string (utf8_lossy other.refused.function))
    (member (codes "line") (number_or_null other.line) no_members))))

abbrev pub others_array : List Other → Data
others_array others = array (items_of (map other_object others))

abbrev pub others_of : Finding → Data
others_of (Refused found) = others_array found.others
others_of finding = null

-- how it is mended, in words that are left open
abbrev pub mend_of : Finding → Data
mend_of (Refused found) = string (utf8_lossy found.details.mend.items)
mend_of (Unreadable found) = string (utf8_lossy found.details.mend.items)
mend_of finding = null

abbrev pub place_or_null : Option Place → Data
place_or_null None = null
place_or_null (Some place) = object (member (codes "column") (number (unsigned place.column))
    (member (codes "line") (number (unsigned place.line)) no_members))

-- where the word at fault begins, which is left open
abbrev pub place_of : Finding → Data
place_of (Refused found) = place_or_null found.details.place
place_of (Unreadable found) = place_or_null found.details.place
place_of finding = null

abbrev pub text_or_null : Option (Bor (List ℕ)) → Data
text_or_null None = null
text_or_null (Some text) = string text.now

-- the variable at fault, which is left open
abbrev pub variable_of : Finding → Data
variable_of (Refused found) = text_or_null found.details.variable
variable_of (Unreadable found) = text_or_null found.details.variable
variable_of finding = null

-- a step: the point, and which way it leads from there
abbrev pub step_object : StepRow → Data
step_object row = object (member (codes "at") (number (unsigned row.at))
    (member (codes "exit") (string (way_word row.way)) no_members))

abbrev pub path_array : List StepRow → Data
path_array rows = array (items_of (map step_object rows))

-- the path that reports the code, or the first of two that differ
abbrev pub first_path : StepRows → Data
first_path (One rows) = path_array rows
first_path (Two rows others) = path_array rows

abbrev pub second_path : StepRows → Data
second_path (One rows) = null
second_path (Two rows others) = path_array others

abbrev pub path_of : Finding → Data
path_of (Refused found) = first_path found.steps
path_of finding = null

abbrev pub other_path_of : Finding → Data
other_path_of (Refused found) = second_path found.steps
other_path_of finding = null

-- ---- the object

-- the members that say where, before the rest
abbrev pub first_members : List ℕ → Finding → Members → Members
first_members file finding rest = member (codes "also") (others_of finding) (member (codes "at") (at_of finding)
    (member (codes "code") (code_of finding) (member (codes "file") (string file)
    (member (codes "function") (function_of finding) (member (codes "line") (line_in finding) rest)))))

-- the other members
abbrev pub last_members : List ℕ → Finding → Members
last_members message finding = member (codes "mend") (mend_of finding) (member (codes "message") (string message)
    (member (codes "other_path") (other_path_of finding) (member (codes "path") (path_of finding)
    (member (codes "place") (place_of finding) (member (codes "variable") (variable_of finding)
    (member (codes "verdict") (string (verdict_of finding)) no_members))))))

-- the words of the message are left open
abbrev pub finding_object : List ℕ → List ℕ → Finding → Data
finding_object file message finding = object (first_members file finding (last_members message finding))

-- the text is the line with the object of what is found of the file
abbrev pub IsObjectLine : List ℕ → Finding → List ℕ → Type 0
IsObjectLine file finding text = (message : List ℕ) × (text ≡ line (compact_text (finding_object file message finding)))
