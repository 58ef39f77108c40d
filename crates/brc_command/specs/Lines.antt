-- The line and the status for each reason why a command stops.
use Rattle.std.specs.Prelude.{ℕ, List, [], ◌++◌, codes, decimal}
use Rattle.brc_lang.specs.Codes.{fault_code, check_code}
use Rattle.brc_lang.specs.Grammar.{line}
use Rattle.brc_lang.specs.declared.fault.ReadFault.{ReadFault}
use Rattle.brc_check.specs.declared.refused.Refused.{Refused as Refusal}
use Rattle.brc_command.specs.declared.load.LoadError.{LoadError}
use Rattle.brc_command.specs.declared.load.LoadError.TheVariants as loads
use Rattle.brc_command.specs.declared.step_fault.StepFault.{StepFault}
use Rattle.brc_command.specs.declared.step_fault.StepFault.TheVariants.{Text, Plan, Refused, NoFunction, NoMemory}
use Rattle.brc_command.specs.declared.step_fault.StepFault.TheVariants.{Output}
use Rattle.brc_command.specs.declared.stop.Stop.{Stop}
use Rattle.brc_run.specs.declared.error.RunFault.{RunFault}
use Rattle.brc_run.specs.declared.error.RunFault.TheVariants as runs
use Rattle.brc_trace.specs.declared.fault.TraceFault.{TraceFault}
use Rattle.brc_trace.specs.declared.fault.TraceFault.TheVariants as traces
use Rattle.brc_command.specs.declared.stop.Stop.TheVariants.{UnreadableFile, NoFunction as Unknown, NoThread, Fault}

-- ---- lines

-- a word, the name to which it belongs, a number after its mark, and a code
abbrev pub located_text : List ℕ → List ℕ → List ℕ → List ℕ → List ℕ → List ℕ
located_text word whose mark number code = line (word ++ whose ++ mark ++ number ++ codes " " ++ code)

abbrev pub unreadable_text : List ℕ → ReadFault → List ℕ
unreadable_text file e = located_text (codes "unreadable ") file (codes "line ") (decimal e.line) (fault_code e.code)

abbrev pub refused_text : Refusal → List ℕ
refused_text r = located_text (codes "refused ") r.function (codes " @") (decimal r.at) (check_code r.code)

abbrev pub unknown_text : List ℕ → List ℕ
unknown_text name = line (codes "no function " ++ name)

abbrev pub fault_text : StepFault → List ℕ
fault_text (Text e) = unreadable_text [] e
fault_text (Plan e) = unreadable_text (codes "schedule ") e
fault_text (Refused r) = refused_text r
fault_text (NoFunction name) = unknown_text name
fault_text NoMemory = line (codes "no memory")
fault_text Output = line (codes "cannot write")

abbrev pub stop_text : Stop → List ℕ
stop_text UnreadableFile = line (codes "unreadable file")
stop_text (Unknown name) = unknown_text name.now
stop_text NoThread = line (codes "no thread")
stop_text (Fault e) = fault_text e

abbrev pub version_text : List ℕ
version_text = line (codes "brc 0.1.0")

-- ---- statuses

-- 1 for a refused module, 3 for refused memory or a thread that couldn't be started, and 2 otherwise
abbrev pub fault_status : StepFault → ℕ
fault_status (Refused r) = 1
fault_status NoMemory = 3
fault_status _ = 2

abbrev pub stop_status : Stop → ℕ
stop_status (Fault e) = fault_status e
stop_status NoThread = 3
stop_status _ = 2

-- ---- a file that can't be loaded

abbrev pub stop_of : LoadError → Stop
stop_of loads.Unreadable = UnreadableFile
stop_of loads.NoMemory = Fault NoMemory

-- ---- a run without a tally

abbrev pub stop_of_run : RunFault → Stop
stop_of_run runs.NoMemory = Fault NoMemory
stop_of_run runs.NoThread = NoThread

-- ---- a trace that stops

abbrev pub fault_of_trace : TraceFault → StepFault
fault_of_trace traces.NoMemory = NoMemory
fault_of_trace traces.Output = Output
