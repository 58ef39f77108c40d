-- How a file is opened: the bits of a mode, and the five modes that have a word.
use Rattle.std.specs.Prelude.{◌≢◌, ℕ, ◌+◌, ◌==◌, if◌then◌else◌, List, [], codes}
use Rattle.brc_lang.specs.declared.mode.Mode.{Mode}

-- the bits: to read the file, to write it, and to make it if there is none
abbrev pub reads : ℕ
reads = 1

abbrev pub writes : ℕ
writes = 2

abbrev pub creates : ℕ
creates = 4

-- the mode of these bits
abbrev pub mode_of : ℕ → Mode
mode_of bits = record { 0 = bits }

-- the word of a mode
abbrev pub mode_name : Mode → List ℕ
mode_name mode =
    if mode.0 == reads then codes "r"
    else if mode.0 == writes then codes "w"
    else if mode.0 == reads + writes then codes "rw"
    else if mode.0 == writes + creates then codes "wc"
    else if mode.0 == reads + writes + creates then codes "rwc"
    else []

-- the mode has a word
abbrev pub IsMode : Mode → Type 0
IsMode mode = mode_name mode ≢ []
