-- The kinds of objects, and the numbers that name them in kind words.
use Rattle.std.specs.Prelude.{ℕ, Bool, true, false, ◌==◌, if◌then◌else◌}
use Rattle.brc_word.specs.declared.values.TheConstants.{NONE, NUM, LIST, FILE, SOCK}
use Rattle.brc_word.specs.Words.{kind_part}
use Rattle.brc_lang.specs.declared.kind.Kind.{Kind}
use Rattle.brc_lang.specs.declared.kind.Kind.TheVariants as kinds

-- the kind's number in kind words; a word that no birth has stored has the number 0
abbrev pub kind_number : Kind → ℕ
kind_number kinds.Any = 0
kind_number kinds.None = NONE
kind_number kinds.Num = NUM
kind_number kinds.List = LIST
kind_number kinds.File = FILE
kind_number kinds.Sock = SOCK

-- the kind that has the number, or `Any` if no kind has it
abbrev pub kind_numbered : ℕ → Kind
kind_numbered n =
    if n == NONE then kinds.None
    else if n == NUM then kinds.Num
    else if n == LIST then kinds.List
    else if n == FILE then kinds.File
    else if n == SOCK then kinds.Sock
    else kinds.Any

-- the kind that a kind word names
abbrev pub kind_of_word : ℕ → Kind
kind_of_word word = kind_numbered (kind_part word)

abbrev pub same_kind : Kind → Kind → Bool
same_kind one other = kind_number one == kind_number other

-- a counted object is a number, a list, a file or a socket
abbrev pub is_counted_kind : Kind → Bool
is_counted_kind kinds.Any = false
is_counted_kind kinds.None = false
is_counted_kind kinds.Num = true
is_counted_kind kinds.List = true
is_counted_kind kinds.File = true
is_counted_kind kinds.Sock = true
