-- The fault of a schedule's text is never `NoMemory`.
use Rattle.std.proofs.Common.{◌≢◌, ℕ, ◌+◌, ltb, leb, eqb, ◌&&◌, List, [], ◌∷◌, length, Some, None, Result, Ok, Err}
use Rattle.std.proofs.Common.{sym, subst, inl, inr}
use Rattle.std.specs.Prelude.{codes}
use Rattle.std.specs.List.{list_any, before_first}
use Rattle.std.specs.Str.{bytes_eq}
use Rattle.brc_lang.specs.declared.fault.FaultCode.{FaultCode}
use Rattle.brc_lang.specs.declared.fault.FaultCode.TheVariants.{FirstLine, UnknownWord, Number, CutOff, NoMemory}
use Rattle.brc_lang.specs.Grammar.{is_name}
use Rattle.brc_lang.specs.InstructionWords.{words, number_in, number_between}
use Rattle.brc_lang.specs.Fault.{is_line_feed, IsOwn, IsOwnFault}
use Rattle.brc_model.specs.declared.thread.Choice.TheVariants as choices
use Rattle.brc_model.specs.Limits.{worker_limit, row_limit, times_limit}
use Rattle.brc_schedule.specs.Limits.{last_row}
use Rattle.brc_schedule.specs.declared.beginning.Beginning.{Beginning}
use Rattle.brc_schedule.specs.declared.beginning.Beginning.TheVariants.{Opened, Staffed, Planned}
use Rattle.brc_schedule.specs.declared.schedule.Schedule.{Schedule}
use Rattle.brc_schedule.specs.Fault.{size_in, name_in, call_in, choice_in, steps_in, planned_in}
use Rattle.brc_schedule.specs.Fault.{next_of, is_whole, fault_in, fault_of, HasFault}
use Rattle.brc_schedule.proofs.Results.{own_then, own_either, own_fault_either, number_own}

-- ---- the faults that a schedule's text can have

own_word : UnknownWord ≢ NoMemory
own_word e = cc

own_number : Number ≢ NoMemory
own_number e = cc

own_cut : CutOff ≢ NoMemory
own_cut e = cc

own_first : FirstLine ≢ NoMemory
own_first e = cc

-- ---- words

between_own : (low high : ℕ) (word : List ℕ) → IsOwn (number_between low high word)
between_own low high word =
    own_then (number_in high word) _ (number_own high word) (λ n.
    own_either (leb low n) (Ok n) (Err Number) tt own_number)

size_own : (name : List ℕ) (most : ℕ) (ws : List (List ℕ)) → IsOwn (size_in name most ws)
size_own name most [] = own_word
size_own name most (w ∷ []) = own_word
size_own name most (w ∷ size ∷ []) = own_either (bytes_eq w name) _ (Err UnknownWord) (between_own 1 most size) own_word
size_own name most (w ∷ size ∷ x ∷ ws) = own_word

name_own : (word : List ℕ) → IsOwn (name_in word)
name_own word = own_either (is_name word) (Ok word) (Err UnknownWord) tt own_word

choice_own : (word : List ℕ) → IsOwn (choice_in word)
choice_own word =
    own_either (bytes_eq word (codes "ok")) (Ok choices.Ok) _ tt
    (own_either (bytes_eq word (codes "fault")) (Ok choices.Fault) (Err UnknownWord) tt own_word)

call_own : (worker : ℕ) (ws : List (List ℕ)) → IsOwn (call_in worker ws)
call_own worker [] = own_word
call_own worker (w ∷ []) = own_word
call_own worker (w ∷ turn ∷ []) = own_word
call_own worker (w ∷ turn ∷ name ∷ []) = own_word
call_own worker (w ∷ turn ∷ name ∷ times ∷ []) =
    own_either (bytes_eq w (codes "call")) _ (Err UnknownWord)
    (own_then (number_between worker worker turn) _ (between_own worker worker turn) (λ t.
    own_then (name_in name) _ (name_own name) (λ n.
    own_then (number_between 1 times_limit times) _ (between_own 1 times_limit times) (λ k. tt)))) own_word
call_own worker (w ∷ turn ∷ name ∷ times ∷ x ∷ ws) = own_word

steps_own : (workers : ℕ) (ws : List (List ℕ)) → IsOwn (steps_in workers ws)
steps_own workers [] = own_word
steps_own workers (w ∷ []) = own_word
steps_own workers (w ∷ thread ∷ []) =
    own_either (bytes_eq w (codes "stop")) _ (Err UnknownWord)
    (own_then (number_between 0 workers thread) _ (between_own 0 workers thread) (λ t. tt)) own_word
steps_own workers (w ∷ thread ∷ row ∷ []) =
    own_either (bytes_eq w (codes "claim")) _ (Err UnknownWord)
    (own_then (number_between 0 workers thread) _ (between_own 0 workers thread) (λ t.
    own_then (number_between 0 last_row row) _ (between_own 0 last_row row) (λ r. tt))) own_word
steps_own workers (w ∷ thread ∷ choice ∷ times ∷ []) =
    own_either (bytes_eq w (codes "step")) _ (Err UnknownWord)
    (own_then (number_between 0 workers thread) _ (between_own 0 workers thread) (λ t.
    own_then (choice_in choice) _ (choice_own choice) (λ c.
    own_then (number_between 1 times_limit times) _ (between_own 1 times_limit times) (λ k. tt)))) own_word
steps_own workers (w ∷ thread ∷ choice ∷ times ∷ x ∷ ws) = own_word

-- ---- lines

planned_own : (s : Schedule) (ws : List (List ℕ)) → IsOwn (planned_in s ws)
planned_own s ws =
    own_either (ltb (length s.calls) s.workers) _ _
    (own_then (call_in (length s.calls + 1) ws) _ (call_own (length s.calls + 1) ws) (λ call. tt))
    (own_then (steps_in s.workers ws) _ (steps_own s.workers ws) (λ steps. tt))

next_own : (b : Beginning) (ws : List (List ℕ)) → IsOwn (next_of b ws)
next_own Opened ws = own_then (size_in (codes "workers") worker_limit ws) _
    (size_own (codes "workers") worker_limit ws) (λ workers. tt)
next_own (Staffed workers) ws =
    own_then (size_in (codes "rows") row_limit ws) _ (size_own (codes "rows") row_limit ws) (λ rows. tt)
next_own (Planned s) ws = own_then (planned_in s ws) _ (planned_own s ws) (λ t. tt)

line_own : (r : Result Beginning FaultCode) → IsOwn r → IsOwnFault (fault_in r)
line_own (Ok b) own = tt
line_own (Err code) own = own

rest_own : (b : Beginning) (rest : List ℕ) → IsOwnFault (fault_of b rest)
rest_own b rest =
    let ws = words (before_first is_line_feed rest) in
    own_fault_either (list_any is_line_feed rest) (fault_in (next_of b ws)) _ (line_own (next_of b ws) (next_own b ws))
    (own_fault_either (eqb (length rest) 0 && is_whole b) None (Some CutOff) tt own_cut)

-- ---- texts

pub own_fault : (bytes : List ℕ) (line : ℕ) (code : FaultCode) → HasFault bytes line code → code ≢ NoMemory
own_fault bytes line code (inl h) = subst (λ (c : FaultCode). c ≢ NoMemory) (sym h.fault) own_first
own_fault bytes line code (inr h) = subst IsOwnFault h.fault (rest_own h.above h.rest)
