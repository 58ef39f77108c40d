-- What the words of a line spell.
use Rattle.std.proofs.Common.{◌≡◌, ℕ, List}
use Rattle.brc_lang.specs.declared.module.Function.{Function}
use Rattle.brc_lang.specs.declared.module.Instr.{Instr}
use Rattle.brc_lang.specs.declared.version.Version.{Version}
use Rattle.brc_lang.specs.Grammar.{instruction_words, IsInstruction, CallFits, IsAllowed}

-- below these static lines and functions the words are the instruction's, and it is one that the grammar allows there
abbrev pub Spelled : Version → List (List ℕ) → List Function → List (List ℕ) → Instr → Type 0
Spelled version statics above ws i =
    (ws ≡ instruction_words above i) × IsInstruction i × CallFits version above i × IsAllowed version statics i
