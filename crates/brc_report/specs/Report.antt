-- The report of a run: ASCII lines, each with a line feed at its end.
use Rattle.std.specs.Prelude.{ℕ, List, [], ◌∷◌, ◌++◌, codes, decimal}
use Rattle.std.specs.List.{flat_map}
use Rattle.brc_lang.specs.Grammar.{line, kind_name}
use Rattle.brc_report.specs.declared.tally.Tally.{Tally}
use Rattle.brc_report.specs.declared.tally.Left.{Left}

-- one word or more, and a number
abbrev pub entry : List ℕ → ℕ → List ℕ
entry label number = label ++ codes " " ++ decimal number

-- the counts with their labels
abbrev pub counts : Tally → List (List ℕ × ℕ)
counts t =
    (codes "threads", t.threads)
    ∷ (codes "running", t.running)
    ∷ (codes "created", t.created)
    ∷ (codes "closed", t.closed)
    ∷ (codes "alive", t.alive)
    ∷ (codes "host faults", t.host_faults)
    ∷ (codes "close faults", t.close_faults)
    ∷ []

abbrev pub counts_text : Tally → List ℕ
counts_text t = flat_map (λ c. line (entry c.0 c.1)) (counts t)

-- an object that is alive: its row and its kind
abbrev pub left_text : Left → List ℕ
left_text l = line (entry (codes "left") l.row ++ codes " " ++ kind_name l.kind)

abbrev pub tally_text : Tally → List ℕ
tally_text t = counts_text t ++ flat_map left_text t.left
