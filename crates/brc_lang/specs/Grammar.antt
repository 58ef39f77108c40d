-- The one spelling of a module: ASCII lines, each with a line feed at its end, of words that single spaces separate.
use Rattle.std.specs.Prelude.{◌≡◌, ◌≢◌, ℕ, ◌<◌, ◌≤◌, ◌^◌, Bool, true, false, ◌&&◌, ◌||◌, ◌==◌, nat_le, IsTrue, List}
use Rattle.std.specs.Prelude.{if◌then◌else◌, [], ◌∷◌, ◌++◌, length, map, Option, None, Some, slice_get, AllPairs, codes, max, suc}
use Rattle.std.specs.List.{flat_map, join_with_byte, AllByRecursion, list_all, slice_index_or}
use Rattle.std.specs.Fmt.{decimal}
use Rattle.brc_lang.specs.declared.kind.Kind.{Kind}
use Rattle.brc_lang.specs.declared.kind.Kind.TheVariants as kinds
use Rattle.brc_lang.specs.declared.module.Module.{Module}
use Rattle.brc_lang.specs.declared.module.Function.{Function}
use Rattle.brc_lang.specs.declared.module.Instr.{Instr}
use Rattle.brc_lang.specs.declared.module.Instr.TheVariants.{Num, List as ListObject, NoneObject, Take, Newref}
use Rattle.brc_lang.specs.declared.module.Instr.TheVariants.{Move, Drop, Lock, Unlock, Borrow, Fetch, Set, Put, As}
use Rattle.brc_lang.specs.declared.module.Instr.TheVariants.{Open, Connect, Read, Write, Call, Goto, Again, Ret, Fail}
use Rattle.brc_lang.specs.declared.parameter.Parameter.{Parameter}
use Rattle.brc_lang.specs.declared.parameter.Argument.{Argument}
use Rattle.brc_lang.specs.declared.parameter.Passing.{Passing}
use Rattle.brc_lang.specs.declared.parameter.Passing.TheVariants as passings
use Rattle.brc_lang.specs.declared.version.Version.{Version}
use Rattle.brc_lang.specs.declared.version.Version.TheVariants as versions
use Rattle.brc_lang.specs.Limits.{function_limit, instruction_limit, variable_count, target_count, text_cells}
use Rattle.brc_lang.specs.Limits.{index_count, path_count, peer_count, read_limit, turn_limit, name_rest_limit}
use Rattle.brc_lang.specs.Limits.{parameter_limit, depth_limit, cell_limit, static_limit, static_number_limit}
use Rattle.brc_lang.specs.Modes.{mode_name, IsMode}

-- ---- spellings

-- a line has a line feed at its end
abbrev pub line : List ℕ → List ℕ
line text = text ++ 10 ∷ []

-- words with single spaces between them
abbrev pub spaced : List (List ℕ) → List ℕ
spaced words = join_with_byte 32 words

-- v0 to v15
abbrev pub variable : ℕ → List ℕ
variable number = codes "v" ++ decimal number

-- the instruction of a number, from 0
abbrev pub target : ℕ → List ℕ
target number = codes "@" ++ decimal number

-- the word of a kind; of these a module names `Any` as a parameter's kind alone
abbrev pub kind_name : Kind → List ℕ
kind_name kinds.None = codes "none"
kind_name kinds.Num = codes "num"
kind_name kinds.List = codes "list"
kind_name kinds.File = codes "file"
kind_name kinds.Sock = codes "sock"
kind_name kinds.Any = codes "any"

-- the word of a passing
abbrev pub passing_name : Passing → List ℕ
passing_name passings.Borrow = codes "borrow"
passing_name passings.Steal = codes "steal"

abbrev pub parameter_words : List Parameter → List (List ℕ)
parameter_words [] = []
parameter_words (p ∷ ps) = passing_name p.passing ∷ kind_name p.kind ∷ parameter_words ps

-- the arguments of a call, and where a fault of it leads
abbrev pub argument_words : List Argument → ℕ → List (List ℕ)
argument_words [] otherwise = codes "else" ∷ target otherwise ∷ []
argument_words (a ∷ others) otherwise = variable a.from ∷ argument_words others otherwise

abbrev pub name_or_none : Option Function → List ℕ
name_or_none None = []
name_or_none (Some f) = f.name

-- the name of the function of a number, from 0
abbrev pub name_of : List Function → ℕ → List ℕ
name_of fs number = name_or_none (slice_get fs number)

-- the words of an instruction below these functions
abbrev pub instruction_words : List Function → Instr → List (List ℕ)
instruction_words above (Num to value otherwise) =
    codes "num" ∷ variable to ∷ decimal value ∷ codes "else" ∷ target otherwise ∷ []
instruction_words above (ListObject to cells otherwise) =
    codes "list" ∷ variable to ∷ decimal cells ∷ codes "else" ∷ target otherwise ∷ []
instruction_words above (NoneObject to) = codes "none" ∷ variable to ∷ []
instruction_words above (Take to list) = codes "take" ∷ variable to ∷ decimal list ∷ []
instruction_words above (Newref to from) = codes "newref" ∷ variable to ∷ variable from ∷ []
instruction_words above (Move to from) = codes "move" ∷ variable to ∷ variable from ∷ []
instruction_words above (Drop from) = codes "drop" ∷ variable from ∷ []
instruction_words above (Lock object) = codes "lock" ∷ variable object ∷ []
instruction_words above (Unlock object) = codes "unlock" ∷ variable object ∷ []
instruction_words above (Borrow to list index otherwise) =
    codes "borrow" ∷ variable to ∷ variable list ∷ decimal index ∷ codes "else" ∷ target otherwise ∷ []
instruction_words above (Fetch to list index otherwise) =
    codes "fetch" ∷ variable to ∷ variable list ∷ decimal index ∷ codes "else" ∷ target otherwise ∷ []
instruction_words above (Set list index from otherwise) =
    codes "set" ∷ variable list ∷ decimal index ∷ variable from ∷ codes "else" ∷ target otherwise ∷ []
instruction_words above (Put list index from otherwise) =
    codes "put" ∷ variable list ∷ decimal index ∷ variable from ∷ codes "else" ∷ target otherwise ∷ []
instruction_words above (Open to path mode otherwise) =
    codes "open" ∷ variable to ∷ decimal path ∷ mode_name mode ∷ codes "else" ∷ target otherwise ∷ []
instruction_words above (Connect to peer otherwise) =
    codes "connect" ∷ variable to ∷ decimal peer ∷ codes "else" ∷ target otherwise ∷ []
instruction_words above (Read to file most otherwise) =
    codes "read" ∷ variable to ∷ variable file ∷ decimal most ∷ codes "else" ∷ target otherwise ∷ []
instruction_words above (Write file number otherwise) =
    codes "write" ∷ variable file ∷ variable number ∷ codes "else" ∷ target otherwise ∷ []
instruction_words above (As from kind otherwise) =
    codes "as" ∷ variable from ∷ kind_name kind ∷ codes "else" ∷ target otherwise ∷ []
instruction_words above (Call to callee arguments otherwise) =
    codes "call" ∷ variable to ∷ name_of above callee ∷ argument_words arguments otherwise
instruction_words above (Goto to) = codes "goto" ∷ target to ∷ []
instruction_words above (Again to times) = codes "again" ∷ target to ∷ decimal times ∷ []
instruction_words above (Ret from) = codes "ret" ∷ variable from ∷ []
instruction_words above Fail = codes "fail" ∷ []

abbrev pub instruction : List Function → Instr → List ℕ
instruction above i = spaced (instruction_words above i)

abbrev pub instructions : List Function → List Instr → List ℕ
instructions above code = flat_map (λ i. line (instruction above i)) code

-- the line that opens a function
abbrev pub heading : List ℕ → List Parameter → List ℕ
heading name parameters = line (spaced (codes "func" ∷ name ∷ parameter_words parameters))

abbrev pub function : List Function → Function → List ℕ
function above f = heading f.name f.parameters ++ instructions above f.code ++ line (codes "end")

-- the functions below others
abbrev pub functions_below : List Function → List Function → List ℕ
functions_below above [] = []
functions_below above (f ∷ fs) = function above f ++ functions_below (above ++ f ∷ []) fs

abbrev pub functions : List Function → List ℕ
functions fs = functions_below [] fs

abbrev pub version_word : Version → List ℕ
version_word versions.One = codes "1"
version_word versions.Two = codes "2"
version_word versions.Three = codes "3"

abbrev pub first_line : Version → List ℕ
first_line version = line (codes "module " ++ version_word version)

-- the line of a static list
abbrev pub static_line : List ℕ → List ℕ
static_line numbers = line (spaced (codes "static" ∷ map decimal numbers))

abbrev pub static_lines : List (List ℕ) → List ℕ
static_lines statics = flat_map static_line statics

-- the lines above the functions
abbrev pub top : Version → List (List ℕ) → List ℕ
top version statics = first_line version ++ static_lines statics

abbrev pub text : Module → List ℕ
text m = top m.version m.statics ++ functions m.functions

-- ---- the modules that have a spelling

abbrev pub is_letter : ℕ → Bool
is_letter c = nat_le 97 c && nat_le c 122

-- a letter, a digit or `_`
abbrev pub is_name_byte : ℕ → Bool
is_name_byte c = is_letter c || (nat_le 48 c && nat_le c 57) || (c == 95)

-- a letter a to z, then 0 to 15 letters, digits and `_`
abbrev pub is_name : List ℕ → Bool
is_name [] = false
is_name (c ∷ cs) = is_letter c && list_all is_name_byte cs && nat_le (length cs) name_rest_limit

abbrev pub IsInstruction : Instr → Type 0
IsInstruction (Num to value otherwise) = (to < variable_count) × (value < 2 ^ 32) × (otherwise < target_count)
IsInstruction (ListObject to cells otherwise) =
    (to < variable_count) × (0 < cells) × (cells ≤ cell_limit) × (otherwise < target_count)
IsInstruction (NoneObject to) = to < variable_count
IsInstruction (Take to list) = (to < variable_count) × (list < static_limit)
IsInstruction (Newref to from) = (to < variable_count) × (from < variable_count)
IsInstruction (Move to from) = (to < variable_count) × (from < variable_count)
IsInstruction (Drop from) = from < variable_count
IsInstruction (Lock object) = object < variable_count
IsInstruction (Unlock object) = object < variable_count
IsInstruction (Borrow to list index otherwise) =
    (to < variable_count) × (list < variable_count) × (index < index_count) × (otherwise < target_count)
IsInstruction (Fetch to list index otherwise) =
    (to < variable_count) × (list < variable_count) × (index < index_count) × (otherwise < target_count)
IsInstruction (Set list index from otherwise) =
    (list < variable_count) × (index < index_count) × (from < variable_count) × (otherwise < target_count)
IsInstruction (Put list index from otherwise) =
    (list < variable_count) × (index < index_count) × (from < variable_count) × (otherwise < target_count)
IsInstruction (Open to path mode otherwise) =
    (to < variable_count) × (path < path_count) × IsMode mode × (otherwise < target_count)
IsInstruction (Connect to peer otherwise) = (to < variable_count) × (peer < peer_count) × (otherwise < target_count)
IsInstruction (Read to file most otherwise) =
    (to < variable_count) × (file < variable_count) × (0 < most) × (most ≤ read_limit) × (otherwise < target_count)
IsInstruction (Write file number otherwise) =
    (file < variable_count) × (number < variable_count) × (otherwise < target_count)
IsInstruction (As from kind otherwise) =
    (from < variable_count) × (kind ≢ kinds.Any) × (otherwise < target_count)
IsInstruction (Call to callee arguments otherwise) =
    (to < variable_count) × (callee < function_limit) × (length arguments ≤ parameter_limit)
    × AllByRecursion (λ a. a.from < variable_count) arguments × (otherwise < target_count)
IsInstruction (Goto to) = to < target_count
IsInstruction (Again to times) = (to < target_count) × (0 < times) × (times ≤ turn_limit)
IsInstruction (Ret from) = from < variable_count
IsInstruction Fail = Unit {0}

-- the target behind `else` or `goto`
abbrev pub jump : Instr → Option ℕ
jump (Num to value otherwise) = Some otherwise
jump (ListObject to cells otherwise) = Some otherwise
jump (NoneObject to) = None
jump (Take to list) = None
jump (Newref to from) = None
jump (Move to from) = None
jump (Drop from) = None
jump (Lock object) = None
jump (Unlock object) = None
jump (Borrow to list index otherwise) = Some otherwise
jump (Fetch to list index otherwise) = Some otherwise
jump (Set list index from otherwise) = Some otherwise
jump (Put list index from otherwise) = Some otherwise
jump (Open to path mode otherwise) = Some otherwise
jump (Connect to peer otherwise) = Some otherwise
jump (Read to file most otherwise) = Some otherwise
jump (Write file number otherwise) = Some otherwise
jump (As from kind otherwise) = Some otherwise
jump (Call to callee arguments otherwise) = Some otherwise
jump (Goto to) = Some to
jump (Again to times) = None
jump (Ret from) = None
jump Fail = None

-- the target of `again`
abbrev pub turn : Instr → Option ℕ
turn (Again to times) = Some to
turn _ = None

-- each target behind `else` or `goto` is the number of a later instruction of the code
abbrev pub LeadsForward : List Instr → Type 0
LeadsForward code =
    (at : ℕ) (i : Instr) (target : ℕ) → slice_get code at ≡ Some i → jump i ≡ Some target
    → (at < target) × (target < length code)

-- each target of `again` is the number of the instruction itself or of an earlier one
abbrev pub LeadsBack : List Instr → Type 0
LeadsBack code =
    (at : ℕ) (i : Instr) (target : ℕ) → slice_get code at ≡ Some i → turn i ≡ Some target → target ≤ at

-- each target leads the way that its instruction leads
pub record TargetsFit (code : List Instr) : Type 0 where
  pub forward : LeadsForward code
  pub back : LeadsBack code

-- 1 to 256 instructions
pub record IsFunction (f : Function) : Type 0 where
  pub name : IsTrue (is_name f.name)
  pub some : 0 < length f.code
  pub most : length f.code ≤ instruction_limit
  pub code : AllByRecursion IsInstruction f.code
  pub targets : TargetsFit f.code

-- ---- versions

-- version 1 has neither calls nor parameters
abbrev pub has_calls : Version → Bool
has_calls versions.One = false
has_calls versions.Two = true
has_calls versions.Three = true

abbrev pub most_parameters : Version → ℕ
most_parameters versions.One = 0
most_parameters versions.Two = parameter_limit
most_parameters versions.Three = parameter_limit

-- the most cells of a list in a version
abbrev pub cells_in : Version → ℕ
cells_in versions.One = text_cells
cells_in versions.Two = text_cells
cells_in versions.Three = cell_limit

-- versions 1 and 2 have no static lists, and no instruction that takes one
abbrev pub has_statics : Version → Bool
has_statics versions.One = false
has_statics versions.Two = false
has_statics versions.Three = true

abbrev pub most_statics : Version → ℕ
most_statics version = if has_statics version then static_limit else 0

-- ---- calls

-- the depth of the function that an instruction calls, where the functions above have these depths
abbrev pub called_depth : List ℕ → Instr → ℕ
called_depth depths (Call to callee arguments otherwise) = slice_index_or depths callee 0
called_depth depths i = 0

-- the depth of a function of this code: how many calls may be open at once from its own on
abbrev pub depth_of : List ℕ → List Instr → ℕ
depth_of depths [] = 1
depth_of depths (i ∷ code) = max (suc (called_depth depths i)) (depth_of depths code)

abbrev pub depths_below : List ℕ → List Function → List ℕ
depths_below depths [] = depths
depths_below depths (f ∷ fs) = depths_below (depths ++ depth_of depths f.code ∷ []) fs

-- the depth of each function
abbrev pub depths : List Function → List ℕ
depths fs = depths_below [] fs

-- a function is called with an argument for each parameter, and its own calls leave room for one more
pub record MayCall (depth : ℕ) (arguments : List Argument) (f : Function) : Type 0 where
  pub same : map (λ a. a.parameter) arguments ≡ f.parameters
  pub room : depth < depth_limit

abbrev pub IfFound : Option Function → (Function → Type 0) → Type 0
IfFound None holds = ⊥
IfFound (Some f) holds = holds f

-- the function of this number, which is one above, is called with these arguments
abbrev pub IsCall : Version → List Function → ℕ → List Argument → Type 0
IsCall version above callee arguments =
    IsTrue (has_calls version)
    × IfFound (slice_get above callee) (MayCall (slice_index_or (depths above) callee 0) arguments)

-- if the instruction is a call, it is one that the version and the functions above allow
abbrev pub CallFits : Version → List Function → Instr → Type 0
CallFits version above (Call to callee arguments otherwise) = IsCall version above callee arguments
CallFits version above i = Unit {0}

-- what a version and the functions above allow a function
pub record FitsBelow (version : Version) (above : List Function) (f : Function) : Type 0 where
  pub parameters : length f.parameters ≤ most_parameters version
  pub calls : AllByRecursion (CallFits version above) f.code

abbrev pub CallsFit : Version → List Function → List Function → Type 0
CallsFit version above [] = Unit {0}
CallsFit version above (f ∷ fs) = FitsBelow version above f × CallsFit version (above ++ f ∷ []) fs

-- ---- static lists

-- 1 to 64 numbers
pub record IsStatic (numbers : List ℕ) : Type 0 where
  pub some : 0 < length numbers
  pub most : length numbers ≤ static_number_limit
  pub each : AllByRecursion (λ n. n < 2 ^ 32) numbers

-- 0 to 16 static lines; in versions 1 and 2 there are none
pub record AreStatics (version : Version) (statics : List (List ℕ)) : Type 0 where
  pub most : length statics ≤ most_statics version
  pub each : AllByRecursion IsStatic statics

-- a list has at most as many cells as the version allows, and a static list that is taken is one of these
abbrev pub IsAllowed : Version → List (List ℕ) → Instr → Type 0
IsAllowed version statics (ListObject to cells otherwise) = cells ≤ cells_in version
IsAllowed version statics (Take to list) = list < length statics
IsAllowed version statics i = Unit {0}

-- the version and the static lines allow each instruction of the functions
abbrev pub AreAllowed : Version → List (List ℕ) → List Function → Type 0
AreAllowed version statics fs = AllByRecursion (λ f. AllByRecursion (IsAllowed version statics) f.code) fs

-- ---- modules

-- no two functions have the same name
abbrev pub AreNamedApart : List Function → Type 0
AreNamedApart fs = AllPairs (λ f g. f.name ≢ g.name) fs

-- 1 to 64 functions
pub record IsModule (m : Module) : Type 0 where
  pub statics : AreStatics m.version m.statics
  pub some : 0 < length m.functions
  pub most : length m.functions ≤ function_limit
  pub functions : AllByRecursion IsFunction m.functions
  pub names : AreNamedApart m.functions
  pub calls : CallsFit m.version [] m.functions
  pub allowed : AreAllowed m.version m.statics m.functions

-- the grammar: the bytes are the module's one text
pub record Spells (bytes : List ℕ) (m : Module) : Type 0 where
  pub module_fits : IsModule m
  pub spelled : bytes ≡ text m
