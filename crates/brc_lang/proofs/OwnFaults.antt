-- The fault of a text is never `NoMemory`.
use Rattle.std.proofs.Common.{◌≢◌, ℕ, ◌*◌, Bool, true, false, cond, leb, ltb, eqb, ◌&&◌, List, [], ◌∷◌, length, Option}
use Rattle.std.proofs.Common.{Some, None, Result, Ok, Err, sym, subst, inl, inr}
use Rattle.std.specs.Prelude.{codes}
use Rattle.std.specs.List.{list_any, before_first}
use Rattle.std.specs.Str.{bytes_eq}
use Rattle.brc_lang.specs.declared.kind.Kind.TheVariants as kinds
use Rattle.brc_lang.specs.declared.module.Function.{Function}
use Rattle.brc_lang.specs.declared.module.Instr.{Instr}
use Rattle.brc_lang.specs.declared.parameter.Parameter.{Parameter}
use Rattle.brc_lang.specs.declared.version.Version.{Version}
use Rattle.brc_lang.specs.declared.fault.FaultCode.{FaultCode}
use Rattle.brc_lang.specs.declared.fault.FaultCode.TheVariants.{FirstLine, UnknownWord, Number, Target, NameTwice}
use Rattle.brc_lang.specs.declared.fault.FaultCode.TheVariants.{OverLimit, CutOff, NoMemory, StaticList}
use Rattle.brc_lang.specs.declared.module.Instr.TheVariants.{Take}
use Rattle.brc_lang.specs.Grammar.{most_parameters, has_calls, cells_in, has_statics}
use Rattle.brc_lang.specs.InstructionWords.{words, number_in, variable_in, target_in, name_in, one_variable_in}
use Rattle.brc_lang.specs.InstructionWords.{two_variables_in, one_target_in, number_between, birth_in, taking_in, store_in, kind_in}
use Rattle.brc_lang.specs.InstructionWords.{mode_in, open_in, pair_in, as_in, fail_in, path_instruction_in, host_instruction_in}
use Rattle.brc_lang.specs.InstructionWords.{item_instruction_in, plain_instruction_in, call_in, instruction_in, again_in}
use Rattle.brc_lang.specs.InstructionWords.{passing_in, parameter_kind_in, numbers_in, take_in}
use Rattle.brc_lang.specs.Fault.{parameters_in, parameters_within, heading_in}
use Rattle.brc_lang.specs.Fault.{is_static, static_in, static_fault_of, opening_fault_of, targets_fit}
use Rattle.brc_lang.specs.Fault.{Beginning, end_fault_of, next_instruction_fault_of, line_fault_of}
use Rattle.brc_lang.specs.Fault.{is_whole, is_line_feed, fault_of, HasFault, IsOwn, IsOwnFault}
use Rattle.brc_lang.specs.Limits.{function_limit, instruction_limit, value_limit, static_limit, static_number_limit}
use Rattle.brc_lang.specs.Limits.{last_static, last_index, last_path, last_peer, read_limit, turn_limit}
use Rattle.brc_lang.proofs.Calls.{call_own}
use Rattle.brc_lang.proofs.Headings.{has_name}
use Rattle.brc_lang.proofs.OwnWords.{own_then, own_either, own_word, own_number, own_limit, number_own, variable_own}
use Rattle.brc_lang.proofs.OwnWords.{target_own, name_own}

-- ---- results and options whose fault, if any, is the text's own

pub own_fault_either : (b : Bool) (x y : Option FaultCode) → IsOwnFault x → IsOwnFault y → IsOwnFault (cond b x y)
own_fault_either true x y here there = here
own_fault_either false x y here there = there

own_target : Target ≢ NoMemory
own_target e = cc

own_static : StaticList ≢ NoMemory
own_static e = cc

own_name : NameTwice ≢ NoMemory
own_name e = cc

pub own_cut : CutOff ≢ NoMemory
own_cut e = cc

pub own_first : FirstLine ≢ NoMemory
own_first e = cc

-- ---- words

between_own : (low high : ℕ) (word : List ℕ) → IsOwn (number_between low high word)
between_own low high word =
    own_then (number_in high word) _ (number_own high word) (λ n.
    own_either (leb low n) (Ok n) (Err Number) tt own_number)

one_variable_own : (ws : List (List ℕ)) → IsOwn (one_variable_in ws)
one_variable_own [] = own_word
one_variable_own (a ∷ []) = variable_own a
one_variable_own (a ∷ b ∷ ws) = own_word

two_variables_own : (ws : List (List ℕ)) → IsOwn (two_variables_in ws)
two_variables_own [] = own_word
two_variables_own (a ∷ []) = own_word
two_variables_own (a ∷ b ∷ []) =
    own_then (variable_in a) _ (variable_own a) (λ d.
    own_then (variable_in b) _ (variable_own b) (λ s. tt))
two_variables_own (a ∷ b ∷ c ∷ ws) = own_word

one_target_own : (ws : List (List ℕ)) → IsOwn (one_target_in ws)
one_target_own [] = own_word
one_target_own (a ∷ []) = target_own a
one_target_own (a ∷ b ∷ ws) = own_word

again_own : (ws : List (List ℕ)) → IsOwn (again_in ws)
again_own [] = own_word
again_own (a ∷ []) = own_word
again_own (a ∷ b ∷ []) =
    own_then (target_in a) _ (target_own a) (λ l.
    own_then (number_between 1 turn_limit b) _ (between_own 1 turn_limit b) (λ n. tt))
again_own (a ∷ b ∷ c ∷ ws) = own_word

birth_own : (low high : ℕ) (ws : List (List ℕ)) → IsOwn (birth_in low high ws)
birth_own low high [] = own_word
birth_own low high (a ∷ []) = own_word
birth_own low high (a ∷ b ∷ []) = own_word
birth_own low high (a ∷ b ∷ c ∷ []) = own_word
birth_own low high (a ∷ b ∷ c ∷ d ∷ []) =
    own_either (bytes_eq c (codes "else")) _ (Err UnknownWord)
    (own_then (variable_in a) _ (variable_own a) (λ to.
    own_then (number_between low high b) _ (between_own low high b) (λ k.
    own_then (target_in d) _ (target_own d) (λ l. tt)))) own_word
birth_own low high (a ∷ b ∷ c ∷ d ∷ x ∷ ws) = own_word

taking_own : (low high : ℕ) (ws : List (List ℕ)) → IsOwn (taking_in low high ws)
taking_own low high [] = own_word
taking_own low high (a ∷ []) = own_word
taking_own low high (a ∷ b ∷ []) = own_word
taking_own low high (a ∷ b ∷ c ∷ []) = own_word
taking_own low high (a ∷ b ∷ c ∷ d ∷ []) = own_word
taking_own low high (a ∷ b ∷ c ∷ d ∷ f ∷ []) =
    own_either (bytes_eq d (codes "else")) _ (Err UnknownWord)
    (own_then (variable_in a) _ (variable_own a) (λ to.
    own_then (variable_in b) _ (variable_own b) (λ object.
    own_then (number_between low high c) _ (between_own low high c) (λ k.
    own_then (target_in f) _ (target_own f) (λ l. tt))))) own_word
taking_own low high (a ∷ b ∷ c ∷ d ∷ f ∷ x ∷ ws) = own_word

store_own : (ws : List (List ℕ)) → IsOwn (store_in ws)
store_own [] = own_word
store_own (a ∷ []) = own_word
store_own (a ∷ b ∷ []) = own_word
store_own (a ∷ b ∷ c ∷ []) = own_word
store_own (a ∷ b ∷ c ∷ d ∷ []) = own_word
store_own (a ∷ b ∷ c ∷ d ∷ f ∷ []) =
    own_either (bytes_eq d (codes "else")) _ (Err UnknownWord)
    (own_then (variable_in a) _ (variable_own a) (λ list.
    own_then (number_in last_index b) _ (number_own last_index b) (λ k.
    own_then (variable_in c) _ (variable_own c) (λ from.
    own_then (target_in f) _ (target_own f) (λ l. tt))))) own_word
store_own (a ∷ b ∷ c ∷ d ∷ f ∷ x ∷ ws) = own_word

kind_own : (word : List ℕ) → IsOwn (kind_in word)
kind_own word =
    own_either (bytes_eq word (codes "none")) _ _ tt
    (own_either (bytes_eq word (codes "num")) _ _ tt
    (own_either (bytes_eq word (codes "list")) _ _ tt
    (own_either (bytes_eq word (codes "file")) _ _ tt
    (own_either (bytes_eq word (codes "sock")) _ (Err UnknownWord) tt own_word))))

mode_own : (word : List ℕ) → IsOwn (mode_in word)
mode_own word =
    own_either (bytes_eq word (codes "r")) _ _ tt
    (own_either (bytes_eq word (codes "w")) _ _ tt
    (own_either (bytes_eq word (codes "rw")) _ _ tt
    (own_either (bytes_eq word (codes "wc")) _ _ tt
    (own_either (bytes_eq word (codes "rwc")) _ (Err UnknownWord) tt own_word))))

open_own : (ws : List (List ℕ)) → IsOwn (open_in ws)
open_own [] = own_word
open_own (a ∷ []) = own_word
open_own (a ∷ b ∷ []) = own_word
open_own (a ∷ b ∷ c ∷ []) = own_word
open_own (a ∷ b ∷ c ∷ d ∷ []) = own_word
open_own (a ∷ b ∷ c ∷ d ∷ f ∷ []) =
    own_either (bytes_eq d (codes "else")) _ (Err UnknownWord)
    (own_then (variable_in a) _ (variable_own a) (λ to.
    own_then (number_in last_path b) _ (number_own last_path b) (λ path.
    own_then (mode_in c) _ (mode_own c) (λ m.
    own_then (target_in f) _ (target_own f) (λ l. tt))))) own_word
open_own (a ∷ b ∷ c ∷ d ∷ f ∷ x ∷ ws) = own_word

pair_own : (ws : List (List ℕ)) → IsOwn (pair_in ws)
pair_own [] = own_word
pair_own (a ∷ []) = own_word
pair_own (a ∷ b ∷ []) = own_word
pair_own (a ∷ b ∷ c ∷ []) = own_word
pair_own (a ∷ b ∷ c ∷ d ∷ []) =
    own_either (bytes_eq c (codes "else")) _ (Err UnknownWord)
    (own_then (variable_in a) _ (variable_own a) (λ first.
    own_then (variable_in b) _ (variable_own b) (λ second.
    own_then (target_in d) _ (target_own d) (λ l. tt)))) own_word
pair_own (a ∷ b ∷ c ∷ d ∷ x ∷ ws) = own_word

as_own : (ws : List (List ℕ)) → IsOwn (as_in ws)
as_own [] = own_word
as_own (a ∷ []) = own_word
as_own (a ∷ b ∷ []) = own_word
as_own (a ∷ b ∷ c ∷ []) = own_word
as_own (a ∷ b ∷ c ∷ d ∷ []) =
    own_either (bytes_eq c (codes "else")) _ (Err UnknownWord)
    (own_then (variable_in a) _ (variable_own a) (λ from.
    own_then (kind_in b) _ (kind_own b) (λ k.
    own_then (target_in d) _ (target_own d) (λ l. tt)))) own_word
as_own (a ∷ b ∷ c ∷ d ∷ x ∷ ws) = own_word

fail_own : (ws : List (List ℕ)) → IsOwn (fail_in ws)
fail_own [] = tt
fail_own (a ∷ ws) = own_word

path_instruction_own : (w : List ℕ) (ws : List (List ℕ)) → IsOwn (path_instruction_in w ws)
path_instruction_own w ws =
    own_either (bytes_eq w (codes "as")) _ _ (own_then (as_in ws) _ (as_own ws) (λ v. tt))
    (own_either (bytes_eq w (codes "goto")) _ _ (own_then (one_target_in ws) _ (one_target_own ws) (λ v. tt))
    (own_either (bytes_eq w (codes "again")) _ _ (own_then (again_in ws) _ (again_own ws) (λ v. tt))
    (own_either (bytes_eq w (codes "ret")) _ _ (own_then (one_variable_in ws) _ (one_variable_own ws) (λ v. tt))
    (own_either (bytes_eq w (codes "fail")) _ (Err UnknownWord) (fail_own ws) own_word))))

host_instruction_own : (w : List ℕ) (ws : List (List ℕ)) → IsOwn (host_instruction_in w ws)
host_instruction_own w ws =
    own_either (bytes_eq w (codes "open")) _ _ (own_then (open_in ws) _ (open_own ws) (λ v. tt))
    (own_either (bytes_eq w (codes "connect")) _ _
    (own_then (birth_in 0 last_peer ws) _ (birth_own 0 last_peer ws) (λ v. tt))
    (own_either (bytes_eq w (codes "read")) _ _
    (own_then (taking_in 1 read_limit ws) _ (taking_own 1 read_limit ws) (λ v. tt))
    (own_either (bytes_eq w (codes "write")) _ _ (own_then (pair_in ws) _ (pair_own ws) (λ v. tt))
    (path_instruction_own w ws))))

item_instruction_own : (w : List ℕ) (ws : List (List ℕ)) → IsOwn (item_instruction_in w ws)
item_instruction_own w ws =
    own_either (bytes_eq w (codes "borrow")) _ _
    (own_then (taking_in 0 last_index ws) _ (taking_own 0 last_index ws) (λ v. tt))
    (own_either (bytes_eq w (codes "fetch")) _ _
    (own_then (taking_in 0 last_index ws) _ (taking_own 0 last_index ws) (λ v. tt))
    (own_either (bytes_eq w (codes "set")) _ _ (own_then (store_in ws) _ (store_own ws) (λ v. tt))
    (own_either (bytes_eq w (codes "put")) _ _ (own_then (store_in ws) _ (store_own ws) (λ v. tt))
    (host_instruction_own w ws))))

plain_instruction_own : (version : Version) (ws : List (List ℕ)) → IsOwn (plain_instruction_in version ws)
plain_instruction_own version [] = own_word
plain_instruction_own version (w ∷ ws) =
    own_either (bytes_eq w (codes "num")) _ _
    (own_then (birth_in 0 value_limit ws) _ (birth_own 0 value_limit ws) (λ v. tt))
    (own_either (bytes_eq w (codes "list")) _ _
    (own_then (birth_in 1 (cells_in version) ws) _ (birth_own 1 (cells_in version) ws) (λ v. tt))
    (own_either (bytes_eq w (codes "none")) _ _ (own_then (one_variable_in ws) _ (one_variable_own ws) (λ v. tt))
    (own_either (bytes_eq w (codes "newref")) _ _ (own_then (two_variables_in ws) _ (two_variables_own ws) (λ v. tt))
    (own_either (bytes_eq w (codes "move")) _ _ (own_then (two_variables_in ws) _ (two_variables_own ws) (λ v. tt))
    (own_either (bytes_eq w (codes "drop")) _ _ (own_then (one_variable_in ws) _ (one_variable_own ws) (λ v. tt))
    (own_either (bytes_eq w (codes "lock")) _ _ (own_then (one_variable_in ws) _ (one_variable_own ws) (λ v. tt))
    (own_either (bytes_eq w (codes "unlock")) _ _ (own_then (one_variable_in ws) _ (one_variable_own ws) (λ v. tt))
    (item_instruction_own w ws))))))))

take_own : (statics : List (List ℕ)) (ws : List (List ℕ)) → IsOwn (take_in statics ws)
take_own statics [] = own_word
take_own statics (a ∷ []) = own_word
take_own statics (a ∷ b ∷ []) =
    own_then (variable_in a) _ (variable_own a) (λ d.
    own_then (number_in last_static b) _ (number_own last_static b) (λ list.
    own_either (ltb list (length statics)) (Ok (Take d list)) (Err StaticList) tt own_static))
take_own statics (a ∷ b ∷ c ∷ ws) = own_word

instruction_own : (version : Version) (statics : List (List ℕ)) (above : List Function) (ws : List (List ℕ))
    → IsOwn (instruction_in version statics above ws)
instruction_own version statics above [] = own_word
instruction_own version statics above (w ∷ ws) =
    own_either (bytes_eq w (codes "call") && has_calls version) (call_in above ws) _ (call_own above ws)
    (own_either (bytes_eq w (codes "take") && has_statics version) (take_in statics ws) _ (take_own statics ws)
    (plain_instruction_own version (w ∷ ws)))

-- ---- lines

numbers_own : (ws : List (List ℕ)) → IsOwn (numbers_in ws)
numbers_own [] = tt
numbers_own (w ∷ ws) =
    own_then (number_in value_limit w) _ (number_own value_limit w) (λ n.
    own_then (numbers_in ws) _ (numbers_own ws) (λ ns. tt))

static_own : (ws : List (List ℕ)) → IsOwn (static_in ws)
static_own [] = own_word
static_own (w ∷ ws) =
    own_either (ltb 0 (length ws) && leb (length ws) static_number_limit) (numbers_in ws) (Err UnknownWord)
    (numbers_own ws) own_word

static_fault_own : (statics : List (List ℕ)) (r : Result (List ℕ) FaultCode) → IsOwn r
    → IsOwnFault (static_fault_of statics r)
static_fault_own statics (Ok numbers) here =
    own_fault_either (leb static_limit (length statics)) (Some OverLimit) None own_limit tt
static_fault_own statics (Err code) here = here

passing_own : (word : List ℕ) → IsOwn (passing_in word)
passing_own word =
    own_either (bytes_eq word (codes "borrow")) _ _ tt
    (own_either (bytes_eq word (codes "steal")) _ (Err UnknownWord) tt own_word)

parameters_own : (ws : List (List ℕ)) → IsOwn (parameters_in ws)
parameters_own [] = tt
parameters_own (word ∷ []) = own_word
parameters_own (word ∷ kind ∷ ws) =
    own_then (passing_in word) _ (passing_own word) (λ p.
    own_then (parameter_kind_in kind) _
    (own_either (bytes_eq kind (codes "any")) (Ok kinds.Any) _ tt (kind_own kind)) (λ k.
    own_then (parameters_in ws) _ (parameters_own ws) (λ ps. tt)))

heading_in_own : (version : Version) (ws : List (List ℕ)) → IsOwn (heading_in version ws)
heading_in_own version [] = own_word
heading_in_own version (w ∷ []) = own_word
heading_in_own version (w ∷ n ∷ ws) =
    own_either (bytes_eq w (codes "func")) _ (Err UnknownWord)
    (own_then (name_in n) _ (name_own n) (λ name.
    own_then (parameters_within (most_parameters version) ws) _
    (own_either (leb (length ws) (2 * most_parameters version)) (parameters_in ws) (Err UnknownWord) (parameters_own ws)
    own_word) (λ ps. tt))) own_word

opening_own : (done : List Function) (r : Result (List ℕ × List Parameter) FaultCode) → IsOwn r
    → IsOwnFault (opening_fault_of done r)
opening_own done (Ok h) here =
    own_fault_either (leb function_limit (length done)) (Some OverLimit) _ own_limit
    (own_fault_either (has_name h.0 done) (Some NameTwice) None own_name tt)
opening_own done (Err code) here = here

end_own : (code : List Instr) → IsOwnFault (end_fault_of code)
end_own code =
    own_fault_either (eqb (length code) 0) (Some OverLimit) _ own_limit
    (own_fault_either (targets_fit code) None (Some Target) tt own_target)

next_own : (code : List Instr) (r : Result Instr FaultCode) → IsOwn r → IsOwnFault (next_instruction_fault_of code r)
next_own code (Ok i) here = own_fault_either (leb instruction_limit (length code)) (Some OverLimit) None own_limit tt
next_own code (Err fault) here = here

line_own : (version : Version) (statics : List (List ℕ)) (done : List Function) (o : Option Function) (line : List ℕ)
    → IsOwnFault (line_fault_of version statics done o line)
line_own version statics done None line =
    own_fault_either (is_static version done (words line)) (static_fault_of statics (static_in (words line))) _
    (static_fault_own statics (static_in (words line)) (static_own (words line)))
    (opening_own done (heading_in version (words line)) (heading_in_own version (words line)))
line_own version statics done (Some f) line =
    own_fault_either (bytes_eq line (codes "end")) (end_fault_of f.code) _ (end_own f.code)
    (next_own f.code (instruction_in version statics done (words line))
    (instruction_own version statics done (words line)))

rest_own : (b : Beginning) (rest : List ℕ) → IsOwnFault (fault_of b rest)
rest_own b rest =
    let line = before_first is_line_feed rest in
    own_fault_either (list_any is_line_feed rest) (line_fault_of b.version b.statics b.done b.open_function line) _
    (line_own b.version b.statics b.done b.open_function line)
    (own_fault_either (eqb (length rest) 0 && is_whole b.done b.open_function) None (Some CutOff) tt own_cut)

-- ---- texts

pub own_fault : (bytes : List ℕ) (line : ℕ) (code : FaultCode) → HasFault bytes line code → code ≢ NoMemory
own_fault bytes line code (inl h) = subst (λ (c : FaultCode). c ≢ NoMemory) (sym h.fault) own_first
own_fault bytes line code (inr h) = subst IsOwnFault h.fault (rest_own h.above h.rest)
