-- The instruction that a line's words spell, or the line's fault.
use Rattle.std.specs.Prelude.{ℕ, ◌+◌, Bool, false, ◌&&◌, ◌||◌, ◌==◌, not, nat_le, nat_lt}
use Rattle.std.specs.Prelude.{if◌then◌else◌, List, [], ◌∷◌, length, Option, None, Some, Result, Ok, Err}
use Rattle.std.specs.Prelude.{codes, slice_get, position}
use Rattle.std.specs.List.{list_all, slice_split, slice_index_or}
use Rattle.std.specs.Str.{bytes_eq}
use Rattle.std.specs.Str.Parse.{digits_value}
use Rattle.std.specs.Char.{is_ascii_digit}
use Rattle.brc_lang.specs.declared.kind.Kind.{Kind}
use Rattle.brc_lang.specs.declared.kind.Kind.TheVariants as kinds
use Rattle.brc_lang.specs.declared.mode.Mode.{Mode}
use Rattle.brc_lang.specs.declared.module.Function.{Function}
use Rattle.brc_lang.specs.declared.module.Instr.{Instr}
use Rattle.brc_lang.specs.declared.module.Instr.TheVariants.{Num, List as ListObject, NoneObject, Take, Newref}
use Rattle.brc_lang.specs.declared.module.Instr.TheVariants.{Move, Drop, Lock, Unlock, Borrow, Fetch, Set, Put, As}
use Rattle.brc_lang.specs.declared.module.Instr.TheVariants.{Open, Connect, Read, Write, Call, Goto, Again, Ret, Fail}
use Rattle.brc_lang.specs.declared.parameter.Parameter.{Parameter}
use Rattle.brc_lang.specs.declared.parameter.Argument.{Argument}
use Rattle.brc_lang.specs.declared.parameter.Passing.{Passing}
use Rattle.brc_lang.specs.declared.parameter.Passing.TheVariants as passings
use Rattle.brc_lang.specs.declared.version.Version.{Version}
use Rattle.brc_lang.specs.declared.fault.FaultCode.{FaultCode}
use Rattle.brc_lang.specs.declared.fault.FaultCode.TheVariants.{UnknownWord, Number}
use Rattle.brc_lang.specs.declared.fault.FaultCode.TheVariants.{OverLimit, Callee, StaticList}
use Rattle.brc_lang.specs.Grammar.{is_name, depths, has_calls, cells_in, has_statics}
use Rattle.brc_lang.specs.Limits.{last_variable, last_target, last_static, value_limit, depth_limit}
use Rattle.brc_lang.specs.Limits.{last_index, last_path, last_peer, read_limit, turn_limit}
use Rattle.brc_lang.specs.Modes.{reads, writes, creates, mode_of}

-- ---- one line

-- the words of a line, which single spaces separate: two spaces have an empty word between them
abbrev pub words : List ℕ → List (List ℕ)
words line = slice_split (λ c. c == 32) line

-- decimal digits without a leading zero, `0` aside
abbrev pub is_numeral : List ℕ → Bool
is_numeral [] = false
is_numeral (c ∷ cs) = list_all is_ascii_digit (c ∷ cs) && (not (c == 48) || (length cs == 0))

-- a number from 0 to high
abbrev pub number_in : ℕ → List ℕ → Result ℕ FaultCode
number_in high word =
    if is_numeral word && nat_le (digits_value 10 word) high then Ok (digits_value 10 word) else Err Number

-- `v`, and a number below 16
abbrev pub variable_in : List ℕ → Result ℕ FaultCode
variable_in [] = Err UnknownWord
variable_in (c ∷ cs) = if c == 118 then number_in last_variable cs else Err UnknownWord

-- `@`, and a number below 256
abbrev pub target_in : List ℕ → Result ℕ FaultCode
target_in [] = Err UnknownWord
target_in (c ∷ cs) = if c == 64 then number_in last_target cs else Err UnknownWord

-- the word of a kind
abbrev pub kind_in : List ℕ → Result Kind FaultCode
kind_in word =
    if bytes_eq word (codes "none") then Ok kinds.None
    else if bytes_eq word (codes "num") then Ok kinds.Num
    else if bytes_eq word (codes "list") then Ok kinds.List
    else if bytes_eq word (codes "file") then Ok kinds.File
    else if bytes_eq word (codes "sock") then Ok kinds.Sock
    else Err UnknownWord

-- the word of a mode
abbrev pub mode_in : List ℕ → Result Mode FaultCode
mode_in word =
    if bytes_eq word (codes "r") then Ok (mode_of reads)
    else if bytes_eq word (codes "w") then Ok (mode_of writes)
    else if bytes_eq word (codes "rw") then Ok (mode_of (reads + writes))
    else if bytes_eq word (codes "wc") then Ok (mode_of (writes + creates))
    else if bytes_eq word (codes "rwc") then Ok (mode_of (reads + writes + creates))
    else Err UnknownWord

-- the word of a parameter's kind; `any` is one
abbrev pub parameter_kind_in : List ℕ → Result Kind FaultCode
parameter_kind_in word = if bytes_eq word (codes "any") then Ok kinds.Any else kind_in word

-- the word of a passing
abbrev pub passing_in : List ℕ → Result Passing FaultCode
passing_in word =
    if bytes_eq word (codes "borrow") then Ok passings.Borrow
    else if bytes_eq word (codes "steal") then Ok passings.Steal
    else Err UnknownWord

abbrev pub name_in : List ℕ → Result (List ℕ) FaultCode
name_in word = if is_name word then Ok word else Err UnknownWord

infixl 10 ◌>>=◌
abbrev pub ◌>>=◌ : {A B : Type 0} → Result A FaultCode → (A → Result B FaultCode) → Result B FaultCode
(Ok x) >>= f = f x
(Err e) >>= f = Err e

-- a number from low to high
abbrev pub number_between : ℕ → ℕ → List ℕ → Result ℕ FaultCode
number_between low high word = number_in high word >>= λ n. if nat_le low n then Ok n else Err Number

abbrev pub numbers_in : List (List ℕ) → Result (List ℕ) FaultCode
numbers_in [] = Ok []
numbers_in (w ∷ ws) = number_in value_limit w >>= λ n. numbers_in ws >>= λ ns. Ok (n ∷ ns)

-- ---- the words after the first

abbrev pub one_variable_in : List (List ℕ) → Result ℕ FaultCode
one_variable_in (word ∷ []) = variable_in word
one_variable_in _ = Err UnknownWord

abbrev pub two_variables_in : List (List ℕ) → Result (ℕ × ℕ) FaultCode
two_variables_in (to ∷ from ∷ []) = variable_in to >>= λ d. variable_in from >>= λ s. Ok (d, s)
two_variables_in _ = Err UnknownWord

abbrev pub one_target_in : List (List ℕ) → Result ℕ FaultCode
one_target_in (word ∷ []) = target_in word
one_target_in _ = Err UnknownWord

-- a target, and how often `again` goes back to it
abbrev pub again_in : List (List ℕ) → Result (ℕ × ℕ) FaultCode
again_in (to ∷ times ∷ []) = target_in to >>= λ l. number_between 1 turn_limit times >>= λ n. Ok (l, n)
again_in _ = Err UnknownWord

-- the operands of a birth: a variable, a number from low to high, `else` and a target; `else` is compared first
abbrev pub birth_in : ℕ → ℕ → List (List ℕ) → Result (ℕ × ℕ × ℕ) FaultCode
birth_in low high (to ∷ number ∷ word ∷ otherwise ∷ []) =
    if bytes_eq word (codes "else")
    then (variable_in to >>= λ d. number_between low high number >>= λ k. target_in otherwise >>= λ l. Ok (d, k, l))
    else Err UnknownWord
birth_in low high _ = Err UnknownWord

-- a variable, a kind, `else` and a target; `else` is compared first
abbrev pub as_in : List (List ℕ) → Result (ℕ × Kind × ℕ) FaultCode
as_in (from ∷ kind ∷ word ∷ otherwise ∷ []) =
    if bytes_eq word (codes "else")
    then (variable_in from >>= λ s. kind_in kind >>= λ k. target_in otherwise >>= λ l. Ok (s, k, l))
    else Err UnknownWord
as_in _ = Err UnknownWord

-- what is taken from an object: a variable, the object, a number from low to high, `else` and a target; `else` is
-- compared first
abbrev pub taking_in : ℕ → ℕ → List (List ℕ) → Result (ℕ × ℕ × ℕ × ℕ) FaultCode
taking_in low high (to ∷ object ∷ number ∷ word ∷ otherwise ∷ []) =
    if bytes_eq word (codes "else")
    then (variable_in to >>= λ d. variable_in object >>= λ c. number_between low high number >>= λ k.
    target_in otherwise >>= λ l. Ok (d, c, k, l))
    else Err UnknownWord
taking_in low high _ = Err UnknownWord

-- an item and what it becomes: a list and an index, a variable, `else` and a target; `else` is compared first
abbrev pub store_in : List (List ℕ) → Result (ℕ × ℕ × ℕ × ℕ) FaultCode
store_in (list ∷ index ∷ from ∷ word ∷ otherwise ∷ []) =
    if bytes_eq word (codes "else")
    then (variable_in list >>= λ c. number_in last_index index >>= λ k. variable_in from >>= λ s.
    target_in otherwise >>= λ l. Ok (c, k, s, l))
    else Err UnknownWord
store_in _ = Err UnknownWord

-- a variable, a path, a mode, `else` and a target; `else` is compared first
abbrev pub open_in : List (List ℕ) → Result (ℕ × ℕ × Mode × ℕ) FaultCode
open_in (to ∷ path ∷ mode ∷ word ∷ otherwise ∷ []) =
    if bytes_eq word (codes "else")
    then (variable_in to >>= λ d. number_in last_path path >>= λ p. mode_in mode >>= λ m.
    target_in otherwise >>= λ l. Ok (d, p, m, l))
    else Err UnknownWord
open_in _ = Err UnknownWord

-- two variables, `else` and a target; `else` is compared first
abbrev pub pair_in : List (List ℕ) → Result (ℕ × ℕ × ℕ) FaultCode
pair_in (first ∷ second ∷ word ∷ otherwise ∷ []) =
    if bytes_eq word (codes "else")
    then (variable_in first >>= λ v. variable_in second >>= λ w. target_in otherwise >>= λ l. Ok (v, w, l))
    else Err UnknownWord
pair_in _ = Err UnknownWord

abbrev pub fail_in : List (List ℕ) → Result Instr FaultCode
fail_in [] = Ok Fail
fail_in _ = Err UnknownWord

-- ---- the instruction of a line, or its fault: the first word, the number of words and `else` come first, then the
-- words from left to right

-- one that says where the call goes on, or what it returns
abbrev pub path_instruction_in : List ℕ → List (List ℕ) → Result Instr FaultCode
path_instruction_in w ws =
    if bytes_eq w (codes "as") then (as_in ws >>= λ b. Ok (As b.0 b.1 b.2))
    else if bytes_eq w (codes "goto") then (one_target_in ws >>= λ l. Ok (Goto l))
    else if bytes_eq w (codes "again") then (again_in ws >>= λ b. Ok (Again b.0 b.1))
    else if bytes_eq w (codes "ret") then (one_variable_in ws >>= λ s. Ok (Ret s))
    else if bytes_eq w (codes "fail") then fail_in ws
    else Err UnknownWord

-- one that asks the host, or one of those above
abbrev pub host_instruction_in : List ℕ → List (List ℕ) → Result Instr FaultCode
host_instruction_in w ws =
    if bytes_eq w (codes "open") then (open_in ws >>= λ b. Ok (Open b.0 b.1 b.2 b.3))
    else if bytes_eq w (codes "connect") then (birth_in 0 last_peer ws >>= λ b. Ok (Connect b.0 b.1 b.2))
    else if bytes_eq w (codes "read") then (taking_in 1 read_limit ws >>= λ b. Ok (Read b.0 b.1 b.2 b.3))
    else if bytes_eq w (codes "write") then (pair_in ws >>= λ b. Ok (Write b.0 b.1 b.2))
    else path_instruction_in w ws

-- one that reads or stores an item of a list, or one of those above
abbrev pub item_instruction_in : List ℕ → List (List ℕ) → Result Instr FaultCode
item_instruction_in w ws =
    if bytes_eq w (codes "borrow") then (taking_in 0 last_index ws >>= λ b. Ok (Borrow b.0 b.1 b.2 b.3))
    else if bytes_eq w (codes "fetch") then (taking_in 0 last_index ws >>= λ b. Ok (Fetch b.0 b.1 b.2 b.3))
    else if bytes_eq w (codes "set") then (store_in ws >>= λ b. Ok (Set b.0 b.1 b.2 b.3))
    else if bytes_eq w (codes "put") then (store_in ws >>= λ b. Ok (Put b.0 b.1 b.2 b.3))
    else host_instruction_in w ws

-- one that calls no function and takes no static list
abbrev pub plain_instruction_in : Version → List (List ℕ) → Result Instr FaultCode
plain_instruction_in version [] = Err UnknownWord
plain_instruction_in version (w ∷ ws) =
    if bytes_eq w (codes "num") then (birth_in 0 value_limit ws >>= λ b. Ok (Num b.0 b.1 b.2))
    else if bytes_eq w (codes "list") then (birth_in 1 (cells_in version) ws >>= λ b. Ok (ListObject b.0 b.1 b.2))
    else if bytes_eq w (codes "none") then (one_variable_in ws >>= λ d. Ok (NoneObject d))
    else if bytes_eq w (codes "newref") then (two_variables_in ws >>= λ v. Ok (Newref v.0 v.1))
    else if bytes_eq w (codes "move") then (two_variables_in ws >>= λ v. Ok (Move v.0 v.1))
    else if bytes_eq w (codes "drop") then (one_variable_in ws >>= λ s. Ok (Drop s))
    else if bytes_eq w (codes "lock") then (one_variable_in ws >>= λ c. Ok (Lock c))
    else if bytes_eq w (codes "unlock") then (one_variable_in ws >>= λ c. Ok (Unlock c))
    else item_instruction_in w ws

-- ---- calls

abbrev pub IsOk : {A : Type 0} → Result A FaultCode → Type 0
IsOk (Ok x) = Unit {0}
IsOk (Err code) = ⊥

abbrev pub variables_in : List (List ℕ) → Result (List ℕ) FaultCode
variables_in [] = Ok []
variables_in (w ∷ ws) = variable_in w >>= λ v. variables_in ws >>= λ vs. Ok (v ∷ vs)

-- each variable with its parameter
abbrev pub arguments_of : List Parameter → List ℕ → List Argument
arguments_of (p ∷ ps) (v ∷ vs) = record { from = v; parameter = p } ∷ arguments_of ps vs
arguments_of ps vs = []

-- the function of a number and its arguments: it has as many parameters, and its own calls leave room for one more
abbrev pub callee_at : ℕ → ℕ → List ℕ → Option Function → Result (ℕ × List Argument) FaultCode
callee_at number depth variables None = Err Callee
callee_at number depth variables (Some f) =
    if not (length f.parameters == length variables) then Err Callee
    else if nat_le depth_limit depth then Err OverLimit
    else Ok (number, arguments_of f.parameters variables)

abbrev pub callee_found : List Function → List ℕ → Option ℕ → Result (ℕ × List Argument) FaultCode
callee_found above variables None = Err Callee
callee_found above variables (Some number) =
    callee_at number (slice_index_or (depths above) number 0) variables (slice_get above number)

-- the function of this name, which is one above, and its arguments
abbrev pub callee_in : List Function → List ℕ → List ℕ → Result (ℕ × List Argument) FaultCode
callee_in above name variables = callee_found above variables (position (λ f. bytes_eq f.name name) above)

-- `else` is compared first, and the function is looked for last
abbrev pub call_of : List Function → List ℕ → List ℕ → List (List ℕ) → List ℕ → List ℕ → Result Instr FaultCode
call_of above to name variables word otherwise =
    if bytes_eq word (codes "else")
    then (variable_in to >>= λ d. name_in name >>= λ n. variables_in variables >>= λ vs. target_in otherwise >>= λ l.
    callee_in above n vs >>= λ c. Ok (Call d c.0 c.1 l))
    else Err UnknownWord

-- a variable, a name, 0 to 4 variables, `else` and a target
abbrev pub call_in : List Function → List (List ℕ) → Result Instr FaultCode
call_in above (to ∷ name ∷ word ∷ l ∷ []) = call_of above to name [] word l
call_in above (to ∷ name ∷ a ∷ word ∷ l ∷ []) = call_of above to name (a ∷ []) word l
call_in above (to ∷ name ∷ a ∷ b ∷ word ∷ l ∷ []) = call_of above to name (a ∷ b ∷ []) word l
call_in above (to ∷ name ∷ a ∷ b ∷ c ∷ word ∷ l ∷ []) = call_of above to name (a ∷ b ∷ c ∷ []) word l
call_in above (to ∷ name ∷ a ∷ b ∷ c ∷ d ∷ word ∷ l ∷ []) = call_of above to name (a ∷ b ∷ c ∷ d ∷ []) word l
call_in above _ = Err UnknownWord

-- ---- static lists

-- a variable, and the number of a static line, which is looked for last
abbrev pub take_in : List (List ℕ) → List (List ℕ) → Result Instr FaultCode
take_in statics (to ∷ list ∷ []) =
    variable_in to >>= λ d. number_in last_static list >>= λ s.
    if nat_lt s (length statics) then Ok (Take d s) else Err StaticList
take_in statics _ = Err UnknownWord

-- ---- the instruction of a line below these static lines and functions

abbrev pub instruction_in : Version → List (List ℕ) → List Function → List (List ℕ) → Result Instr FaultCode
instruction_in version statics above [] = Err UnknownWord
instruction_in version statics above (w ∷ ws) =
    if bytes_eq w (codes "call") && has_calls version then call_in above ws
    else if bytes_eq w (codes "take") && has_statics version then take_in statics ws
    else plain_instruction_in version (w ∷ ws)
