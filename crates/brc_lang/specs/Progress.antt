-- How far a reader has come in the middle of a text.
use Rattle.std.specs.Prelude.{◌≡◌, ℕ, ◌+◌, ◌<◌, ◌≤◌, false, List, [], ◌∷◌, ◌++◌, length, Option, None, Some, Ok}
use Rattle.std.specs.Prelude.{codes, ◌⊎◌}
use Rattle.std.specs.Str.{bytes_eq}
use Rattle.std.specs.List.{AllByRecursion, list_any, slice_index_or}
use Rattle.brc_lang.specs.declared.module.Function.{Function}
use Rattle.brc_lang.specs.declared.module.Instr.{Instr}
use Rattle.brc_lang.specs.declared.fault.FaultCode.{FaultCode}
use Rattle.brc_lang.specs.declared.fault.FaultCode.TheVariants.{NoMemory}
use Rattle.brc_lang.specs.declared.fault.ReadFault.{ReadFault}
use Rattle.brc_lang.specs.declared.cursor.Cursor.{Cursor}
use Rattle.brc_lang.specs.declared.above.Above.{Above}
use Rattle.brc_lang.specs.declared.parameter.Parameter.{Parameter}
use Rattle.brc_lang.specs.declared.version.Version.{Version}
use Rattle.brc_lang.specs.Grammar.{line, instructions, IsInstruction, IsAllowed, TargetsFit, CallFits, depths}
use Rattle.brc_lang.specs.InstructionWords.{words, instruction_in}
use Rattle.brc_lang.specs.Fault.{static_in, heading_in, Beginning, beginning, IsBeginning, open_text, fault_of}
use Rattle.brc_lang.specs.Fault.{is_line_feed, line_count}
use Rattle.brc_lang.specs.Limits.{function_limit, instruction_limit, static_limit}

-- the first line of a text, without its line feed, and the text below it
pub record IsFirstLineOf (text first rest : List ℕ) : Type 0 where
  pub parts : text ≡ line first ++ rest
  pub plain : list_any is_line_feed first ≡ false

-- the lines lead from one position of a text to a later one
pub record Passes (lines : List ℕ) (from to : Cursor) : Type 0 where
  pub parts : from.rest.now ≡ lines ++ to.rest.now
  pub count : to.line ≡ from.line + line_count lines

-- the line has this fault, or memory was refused
abbrev pub IsLineFault : Option FaultCode → FaultCode → Type 0
IsLineFault fault code = (code ≡ NoMemory) ⊎ (fault ≡ Some code)

-- of each function above, its depth is known
abbrev pub KnowsDepths : Above → Type 0
KnowsDepths above =
    (number : ℕ) → number < length above.functions
    → slice_index_or above.depths number 0 ≡ slice_index_or (depths above.functions) number 0

-- the line is a static line, whose numbers the reader has appended to those above
pub record AppendsStatic (old new : List (List ℕ)) (text : List ℕ) : Type 0 where
  pub numbers : List ℕ
  pub read : static_in (words text) ≡ Ok numbers
  pub room : length old < static_limit
  pub appended : new ≡ old ++ numbers ∷ []

-- the line opens a function of this name, with these parameters
pub record Opens (version : Version) (done : List Function) (text name : List ℕ) (parameters : List Parameter) : Type 0
  where
    pub read : heading_in version (words text) ≡ Ok (name, parameters)
    pub room : length done < function_limit
    pub new_name : list_any (λ f. bytes_eq f.name name) done ≡ false

-- the line is an instruction, which the reader has appended to the function
pub record Appends (version : Version) (statics : List (List ℕ)) (done : List Function) (old new : List Instr)
    (text : List ℕ) : Type 0
  where
    pub instr : Instr
    pub read : instruction_in version statics done (words text) ≡ Ok instr
    pub room : length old < instruction_limit
    pub appended : new ≡ old ++ instr ∷ []

-- an open function
abbrev pub opened : List ℕ → List Parameter → List Instr → Function
opened name parameters code = record { name = name; parameters = parameters; code = code }

-- the text above a line, where this function is open, or none
abbrev pub at_line : Version → List (List ℕ) → List Function → Option Function → Beginning
at_line version statics done o = record { version = version; statics = statics; done = done; open_function = o }

-- no function is open
abbrev pub closed : Version → List (List ℕ) → List Function → Beginning
closed version statics done = at_line version statics done None

-- The text above a line of an open function. Which fault the line has doesn't depend on the function's heading.
abbrev pub inside : Version → List (List ℕ) → List Function → List Instr → Beginning
inside version statics done code = at_line version statics done (Some (opened [] [] code))

-- the instructions of a function that isn't ended yet, below these static lines and functions
pub record AreInstructions (version : Version) (statics : List (List ℕ)) (done : List Function) (code : List Instr)
    : Type 0
  where
    pub most : length code ≤ instruction_limit
    pub each : AllByRecursion IsInstruction code
    pub calls : AllByRecursion (CallFits version done) code
    pub allowed : AllByRecursion (IsAllowed version statics) code

-- the rest of a function below its heading: its instructions and `end`
pub record Ends (version : Version) (statics : List (List ℕ)) (done : List Function) (from : Cursor) (code : List Instr)
    (to : Cursor) : Type 0
  where
    pub instructions_fit : AreInstructions version statics done code
    pub some : 0 < length code
    pub targets : TargetsFit code
    pub passed : Passes (instructions done code ++ line (codes "end")) from to

-- a line of an open function is faulty
pub record HasFaultInside (version : Version) (statics : List (List ℕ)) (done : List Function) (from : Cursor)
    (e : ReadFault) : Type 0
  where
    pub code : List Instr
    pub rest : List ℕ
    pub instructions_fit : AreInstructions version statics done code
    pub parts : from.rest.now ≡ instructions done code ++ rest
    pub numbered : e.line ≡ from.line + line_count (instructions done code)
    pub fault : fault_of (inside version statics done code) rest ≡ Some e.code

abbrev pub IsFaultInside : Version → List (List ℕ) → List Function → Cursor → ReadFault → Type 0
IsFaultInside version statics done from e = (e.code ≡ NoMemory) ⊎ HasFaultInside version statics done from e

-- one more function of this name and these parameters, whose lines below its heading lead from one position to another
pub record ReadsFunction (old new : Above) (name : List ℕ) (parameters : List Parameter) (from to : Cursor) : Type 0
  where
    pub code : List Instr
    pub ended : Ends old.version old.statics old.functions from code to
    pub same_version : new.version ≡ old.version
    pub same_statics : new.statics ≡ old.statics
    pub appended : new.functions ≡ old.functions ++ opened name parameters code ∷ []

-- what stands above a reader between two functions
abbrev pub read_so_far : Above → Beginning
read_so_far above = closed above.version above.statics above.functions

-- one more static line or one more whole function
pub record ReadsPart (old new : Above) (from to : Cursor) : Type 0 where
  pub lines : List ℕ
  pub some : 0 < length lines
  pub same : new.version ≡ old.version
  pub parts : beginning (read_so_far new) ≡ beginning (read_so_far old) ++ lines
  pub passed : Passes lines from to
  pub fits : IsBeginning (read_so_far new)

-- a line below the functions is faulty
pub record HasFaultBelow (version : Version) (statics : List (List ℕ)) (done : List Function) (from : Cursor)
    (e : ReadFault) : Type 0
  where
    pub open_function : Option Function
    pub rest : List ℕ
    pub fits : IsBeginning (at_line version statics done open_function)
    pub parts : from.rest.now ≡ open_text done open_function ++ rest
    pub numbered : e.line ≡ from.line + line_count (open_text done open_function)
    pub fault : fault_of (at_line version statics done open_function) rest ≡ Some e.code

abbrev pub IsFaultBelow : Version → List (List ℕ) → List Function → Cursor → ReadFault → Type 0
IsFaultBelow version statics done from e = (e.code ≡ NoMemory) ⊎ HasFaultBelow version statics done from e
