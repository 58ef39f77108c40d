-- What is written of a run whose threads' meetings are counted.
use Rattle.std.specs.Prelude.{ℕ, List, ◌++◌, Option, codes, decimal}
use Rattle.brc_lang.specs.Written.{AppendsBeginning}
use Rattle.brc_table.specs.declared.contention.Contention.{Contention}
use Rattle.brc_command.specs.Commands.{Reports}

-- a line for each number, with its digits
abbrev pub contention_lines : List ℕ → List ℕ → List ℕ → List ℕ → List ℕ
contention_lines queued merged claimed lost = codes "queued " ++ (queued ++ (codes "\nmerged " ++ (merged
    ++ (codes "\nclaimed " ++ (claimed ++ (codes "\nexchanges lost " ++ (lost ++ codes "\n")))))))

abbrev pub contention_text : Contention → List ℕ
contention_text c = contention_lines (decimal c.queued) (decimal c.merged) (decimal c.claimed) (decimal c.lost)

-- The report is on standard output. On standard error are the lines of some numbers, or a prefix of them if its writer
-- returned an error: which numbers they are is left open.
pub record IsCounted (is_report : List ℕ → Type 0) (old new err_old err_new : Option (List ℕ)) : Type 0 where
  pub reported : Reports is_report old new
  pub contention : Contention
  pub counted : AppendsBeginning err_old err_new (contention_text contention)
