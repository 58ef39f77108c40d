-- What a line is made of, and what each word of a row says.
use Rattle.std.specs.Prelude.{ℕ, Bool, true, false, not, ◌&&◌, ◌||◌, ◌==◌, List, [], ◌∷◌, Option, None, Some, codes}
use Rattle.std.specs.Prelude.{if◌then◌else◌}
use Rattle.std.specs.List.{list_all, filter, slice_split, before_first}
use Rattle.std.specs.Char.{is_ascii_alphabetic, is_ascii_digit}
use Rattle.std.specs.Str.{bytes_eq}
use Rattle.brc_c_table.specs.declared.row.Gives.{Gives}
use Rattle.brc_c_table.specs.declared.row.Gives.TheVariants as gives
use Rattle.brc_c_table.specs.declared.row.Takes.{Takes}
use Rattle.brc_c_table.specs.declared.row.Takes.TheVariants as takes
use Rattle.brc_c_table.specs.declared.row.Fails.{Fails}
use Rattle.brc_c_table.specs.declared.row.Fails.TheVariants as fails

-- ---- a line

-- a space, a tab or a carriage return
abbrev pub is_blank : ℕ → Bool
is_blank c = (c == 32) || (c == 9) || (c == 13)

abbrev pub is_written : List ℕ → Bool
is_written [] = false
is_written (c ∷ cs) = true

abbrev pub is_written_byte : ℕ → Bool
is_written_byte c = not (is_blank c)

-- what is between the blanks
abbrev pub words : List ℕ → List (List ℕ)
words text = filter is_written (slice_split is_blank text)

-- `#`
abbrev pub begins_comment : ℕ → Bool
begins_comment c = c == 35

abbrev pub without_comment : List ℕ → List ℕ
without_comment line = before_first begins_comment line

-- ---- NAME

abbrev pub begins_name : ℕ → Bool
begins_name c = is_ascii_alphabetic c || (c == 95)

abbrev pub is_name_byte : ℕ → Bool
is_name_byte c = begins_name c || is_ascii_digit c

-- a name of C
abbrev pub is_name : List ℕ → Bool
is_name [] = false
is_name (c ∷ cs) = begins_name c && list_all is_name_byte cs

-- ---- RESULT

-- a word that is RESULT alone
abbrev pub gives_of : List ℕ → Option Gives
gives_of w =
    if bytes_eq w (codes "new") then Some gives.New
    else if bytes_eq w (codes "lent") then Some gives.Lent
    else if bytes_eq w (codes "null") then Some gives.Null
    else if bytes_eq w (codes "int") then Some gives.Number
    else if bytes_eq w (codes "other") then Some gives.Other
    else if bytes_eq w (codes "void") then Some gives.Void
    else if bytes_eq w (codes "free") then Some gives.Free
    else None

-- a word that has a number after it, and the index of the argument, from 0
abbrev pub gives_by : List ℕ → ℕ → Option Gives
gives_by w argument =
    if bytes_eq w (codes "item") then Some (gives.Item argument)
    else if bytes_eq w (codes "part") then Some (gives.Part argument)
    else if bytes_eq w (codes "same") then Some (gives.Same argument)
    else None

-- ---- ARGUMENTS

-- what a letter says: bnstekSTNZoOxX-p f+*=&u
abbrev pub takes_of : ℕ → Option Takes
takes_of c =
    if c == 98 then Some takes.Borrowed
    else if c == 110 then Some takes.BorrowedOrNull
    else if c == 115 then Some takes.Stolen
    else if c == 116 then Some takes.StolenOnSuccess
    else if c == 101 then Some takes.StolenOnFailure
    else if c == 107 then Some takes.Kept
    else if c == 83 then Some takes.StolenAndKept
    else if c == 84 then Some takes.KeptOnSuccess
    else if c == 78 then Some takes.BorrowedOrFails
    else if c == 90 then Some takes.StolenOrFails
    else if c == 111 then Some takes.Out
    else if c == 79 then Some takes.OutBorrowed
    else if c == 120 then Some takes.InOut
    else if c == 88 then Some takes.InOutOrNull
    else if c == 45 then Some takes.NoObject
    else if c == 112 then Some takes.ParseFormat
    else if c == 102 then Some takes.BuildFormat
    else if c == 43 then Some takes.RestBorrowed
    else if c == 42 then Some takes.RestNoObjects
    else if c == 61 then Some takes.RestFormatted
    else if c == 38 then Some takes.Array
    else if c == 117 then Some takes.RestOut
    else None

-- ---- FAILURE and CODE

abbrev pub fails_of : List ℕ → Option Fails
fails_of w =
    if bytes_eq w (codes "null") then Some fails.Null
    else if bytes_eq w (codes "maybe") then Some fails.Maybe
    else if bytes_eq w (codes "neg") then Some fails.Negative
    else if bytes_eq w (codes "less") then Some fails.Less
    else if bytes_eq w (codes "zero") then Some fails.Zero
    else if bytes_eq w (codes "miss") then Some fails.Missing
    else if bytes_eq w (codes "none") then Some fails.Never
    else None

-- whether Python code may run
abbrev pub runs_of : List ℕ → Option Bool
runs_of w =
    if bytes_eq w (codes "runs") then Some true
    else if bytes_eq w (codes "pure") then Some false
    else None
