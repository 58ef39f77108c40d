-- The fault of a text: that of its first faulty line from the top.
use Rattle.std.specs.Prelude.{◌≡◌, ◌≢◌, ℕ, ◌+◌, ◌≤◌, Bool, true, false, ◌&&◌, ◌==◌, nat_le, nat_lt, nat_eq}
use Rattle.std.specs.Prelude.{if◌then◌else◌, IsTrue, List, [], ◌∷◌, ◌++◌, length, Option, None, Some, Result, Ok, Err}
use Rattle.std.specs.Prelude.{count_by, codes, ◌⊎◌, ◌*◌, MatchResult}
use Rattle.std.specs.List.{AllByRecursion, list_any, before_first, starts_with}
use Rattle.std.specs.Str.{bytes_eq}
use Rattle.brc_lang.specs.declared.module.Function.{Function}
use Rattle.brc_lang.specs.declared.module.Instr.{Instr}
use Rattle.brc_lang.specs.declared.parameter.Parameter.{Parameter}
use Rattle.brc_lang.specs.declared.version.Version.{Version}
use Rattle.brc_lang.specs.declared.version.Version.TheVariants as versions
use Rattle.brc_lang.specs.declared.fault.FaultCode.{FaultCode}
use Rattle.brc_lang.specs.declared.fault.FaultCode.TheVariants.{FirstLine, UnknownWord, Target, NameTwice}
use Rattle.brc_lang.specs.declared.fault.FaultCode.TheVariants.{OverLimit, CutOff, NoMemory}
use Rattle.brc_lang.specs.declared.fault.ReadFault.{ReadFault}
use Rattle.brc_lang.specs.declared.module.Module.{Module}
use Rattle.brc_lang.specs.Grammar.{is_name, IsInstruction, jump, turn, IsFunction, AreNamedApart, heading}
use Rattle.brc_lang.specs.Grammar.{instructions, functions, first_line, top, most_parameters, has_statics, CallsFit}
use Rattle.brc_lang.specs.Grammar.{AreStatics, AreAllowed}
use Rattle.brc_lang.specs.Limits.{function_limit, instruction_limit, static_limit, static_number_limit}
use Rattle.brc_lang.specs.InstructionWords.{words, parameter_kind_in, passing_in, name_in, ◌>>=◌, numbers_in, instruction_in}

-- ---- the targets of a function

-- the target behind `else` or `goto`, if there is one, is the number of a later instruction
abbrev pub jump_fits : ℕ → ℕ → Option ℕ → Bool
jump_fits at count None = true
jump_fits at count (Some target) = nat_lt at target && nat_lt target count

-- the target of `again`, if there is one, is the number of the instruction itself or of an earlier one
abbrev pub turn_fits : ℕ → Option ℕ → Bool
turn_fits at None = true
turn_fits at (Some target) = nat_le target at

-- the targets of the instructions from the number `at` on, of `count` in all
abbrev pub targets_fit_from : ℕ → ℕ → List Instr → Bool
targets_fit_from at count [] = true
targets_fit_from at count (i ∷ code) =
    jump_fits at count (jump i) && turn_fits at (turn i) && targets_fit_from (at + 1) count code

abbrev pub targets_fit : List Instr → Bool
targets_fit code = targets_fit_from 0 (length code) code

-- ---- a line after those above it

-- the text above a line: the first line, static lines, whole functions, and maybe one that is open
pub record Beginning : Type 0 where
  pub version : Version
  pub statics : List (List ℕ)
  pub done : List Function
  pub open_function : Option Function

abbrev pub open_text : List Function → Option Function → List ℕ
open_text above None = []
open_text above (Some f) = heading f.name f.parameters ++ instructions above f.code

abbrev pub beginning : Beginning → List ℕ
beginning b = top b.version b.statics ++ functions b.done ++ open_text b.done b.open_function

-- the functions whose names are above
abbrev pub named : List Function → Option Function → List Function
named done None = done
named done (Some f) = done ++ f ∷ []

-- a function that isn't ended yet
pub record IsOpen (f : Function) : Type 0 where
  pub name : IsTrue (is_name f.name)
  pub most : length f.code ≤ instruction_limit
  pub code : AllByRecursion IsInstruction f.code

abbrev pub IfOpen : Option Function → Type 0
IfOpen None = Unit {0}
IfOpen (Some f) = IsOpen f

-- each line so far is one that the grammar allows there
pub record IsBeginning (b : Beginning) : Type 0 where
  pub statics : AreStatics b.version b.statics
  pub most : length (named b.done b.open_function) ≤ function_limit
  pub done : AllByRecursion IsFunction b.done
  pub names : AreNamedApart (named b.done b.open_function)
  pub calls : CallsFit b.version [] (named b.done b.open_function)
  pub allowed : AreAllowed b.version b.statics (named b.done b.open_function)
  pub open_fits : IfOpen b.open_function

-- whether a line outside a function is a static line: its first word says so, and no function is above it
abbrev pub is_static : Version → List Function → List (List ℕ) → Bool
is_static version done [] = false
is_static version done (w ∷ ws) = bytes_eq w (codes "static") && has_statics version && length done == 0

-- the numbers of a static line; the count of words comes first
abbrev pub static_in : List (List ℕ) → Result (List ℕ) FaultCode
static_in [] = Err UnknownWord
static_in (w ∷ ws) =
    if nat_lt 0 (length ws) && nat_le (length ws) static_number_limit then numbers_in ws else Err UnknownWord

-- the fault of a static line below others, which was read as these numbers
abbrev pub static_fault_of : List (List ℕ) → Result (List ℕ) FaultCode → Option FaultCode
static_fault_of statics (Err code) = Some code
static_fault_of statics (Ok numbers) = if nat_le static_limit (length statics) then Some OverLimit else None

-- a passing and a kind for each parameter
abbrev pub parameters_in : List (List ℕ) → Result (List Parameter) FaultCode
parameters_in [] = Ok []
parameters_in (word ∷ []) = Err UnknownWord
parameters_in (word ∷ kind ∷ ws) =
    passing_in word >>= λ p. parameter_kind_in kind >>= λ k. parameters_in ws >>= λ ps.
    Ok (record { passing = p; kind = k } ∷ ps)

-- at most as many parameters
abbrev pub parameters_within : ℕ → List (List ℕ) → Result (List Parameter) FaultCode
parameters_within most ws = if nat_le (length ws) (2 * most) then parameters_in ws else Err UnknownWord

-- the name and the parameters of the function that a line opens
abbrev pub heading_in : Version → List (List ℕ) → Result (List ℕ × List Parameter) FaultCode
heading_in version (w ∷ name ∷ ws) =
    if bytes_eq w (codes "func")
    then (name_in name >>= λ n. parameters_within (most_parameters version) ws >>= λ ps. Ok (n, ps))
    else Err UnknownWord
heading_in version _ = Err UnknownWord

abbrev pub opening_fault_of : List Function → Result (List ℕ × List Parameter) FaultCode → Option FaultCode
opening_fault_of done (Err code) = Some code
opening_fault_of done (Ok opening) =
    if nat_le function_limit (length done) then Some OverLimit
    else if list_any (λ f. bytes_eq f.name opening.0) done then Some NameTwice
    else None

abbrev pub heading_fault_of : Version → List Function → List (List ℕ) → Option FaultCode
heading_fault_of version done ws = opening_fault_of done (heading_in version ws)

-- the fault of a line outside a function
abbrev pub outer_fault_of : Version → List (List ℕ) → List Function → List (List ℕ) → Option FaultCode
outer_fault_of version statics done ws =
    if is_static version done ws then static_fault_of statics (static_in ws) else heading_fault_of version done ws

abbrev pub end_fault_of : List Instr → Option FaultCode
end_fault_of code =
    if length code == 0 then Some OverLimit
    else if targets_fit code then None
    else Some Target

-- the fault of a line below the code, which was read as this instruction
abbrev pub next_instruction_fault_of : List Instr → Result Instr FaultCode → Option FaultCode
next_instruction_fault_of code (Err fault) = Some fault
next_instruction_fault_of code (Ok i) = if nat_le instruction_limit (length code) then Some OverLimit else None

-- the fault of a line: outside a function only a heading is allowed, and above all functions a static line; inside one
-- only instructions and `end`
abbrev pub line_fault_of : Version → List (List ℕ) → List Function → Option Function → List ℕ → Option FaultCode
line_fault_of version statics done None line = outer_fault_of version statics done (words line)
line_fault_of version statics done (Some f) line =
    if bytes_eq line (codes "end") then end_fault_of f.code
    else next_instruction_fault_of f.code (instruction_in version statics done (words line))

-- no function is open, and there is one
abbrev pub is_whole : List Function → Option Function → Bool
is_whole done None = nat_lt 0 (length done)
is_whole done (Some f) = false

abbrev pub is_line_feed : ℕ → Bool
is_line_feed c = c == 10

-- the fault of the line with which rest begins; `CutOff` if that line has no line feed or is missing
abbrev pub fault_of : Beginning → List ℕ → Option FaultCode
fault_of b rest =
    if list_any is_line_feed rest
    then line_fault_of b.version b.statics b.done b.open_function (before_first is_line_feed rest)
    else if (length rest == 0) && is_whole b.done b.open_function then None
    else Some CutOff

abbrev pub line_count : List ℕ → ℕ
line_count bytes = count_by is_line_feed bytes

-- ---- a text

-- the first faulty line is below lines without a fault
pub record HasLaterFault (bytes : List ℕ) (line : ℕ) (code : FaultCode) : Type 0 where
  pub above : Beginning
  pub rest : List ℕ
  pub above_fits : IsBeginning above
  pub parts : bytes ≡ beginning above ++ rest
  pub numbered : line ≡ line_count (beginning above) + 1
  pub fault : fault_of above rest ≡ Some code

-- the version that the first line names
abbrev pub version_in : List ℕ → Option Version
version_in bytes =
    if starts_with nat_eq bytes (first_line versions.One) then Some versions.One
    else if starts_with nat_eq bytes (first_line versions.Two) then Some versions.Two
    else if starts_with nat_eq bytes (first_line versions.Three) then Some versions.Three
    else None

pub record HasFirstLineFault (bytes : List ℕ) (line : ℕ) (code : FaultCode) : Type 0 where
  pub other : version_in bytes ≡ None
  pub numbered : line ≡ 1
  pub fault : code ≡ FirstLine

-- the first faulty line, from 1, and its fault
abbrev pub HasFault : List ℕ → ℕ → FaultCode → Type 0
HasFault bytes line code = HasFirstLineFault bytes line code ⊎ HasLaterFault bytes line code

-- ---- faults other than `NoMemory`: those that texts have

abbrev pub IsOwn : {A : Type 0} → Result A FaultCode → Type 0
IsOwn (Ok x) = Unit {0}
IsOwn (Err code) = code ≢ NoMemory

abbrev pub IsOwnFault : Option FaultCode → Type 0
IsOwnFault None = Unit {0}
IsOwnFault (Some code) = code ≢ NoMemory

-- ---- the answers of a reader

-- memory was refused, or the text has this fault
abbrev pub IsFaultOf : List ℕ → ReadFault → Type 0
IsFaultOf bytes e = (e.code ≡ NoMemory) ⊎ HasFault bytes e.line e.code

-- the module, unless memory was refused
abbrev pub ReadsAs : Result Module ReadFault → Module → Type 0
ReadsAs result m = MatchResult result (λ found. found ≡ m) (λ e. e.code ≡ NoMemory)

-- the fault of this line, unless memory was refused
abbrev pub Refuses : Result Module ReadFault → ℕ → FaultCode → Type 0
Refuses result line code = MatchResult result (λ _. ⊥) (λ e. ((e.line ≡ line) × (e.code ≡ code)) ⊎ (e.code ≡ NoMemory))
