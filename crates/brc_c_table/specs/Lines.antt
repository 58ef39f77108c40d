-- The row that the words of a line spell, or the line's fault: that of the first word at fault.
use Rattle.std.specs.Prelude.{ℕ, ◌-◌, Bool, true, false, ◌&&◌, ◌||◌, ◌==◌, nat_eq, nat_lt, if◌then◌else◌, length}
use Rattle.std.specs.Prelude.{List, [], ◌∷◌, ◌++◌, drop, Option, None, Some, Result, Ok, Err, codes, slice_get}
use Rattle.std.specs.List.{starts_with}
use Rattle.std.specs.Str.{bytes_eq}
use Rattle.brc_lang.specs.InstructionWords.{number_between}
use Rattle.brc_c_table.specs.declared.row.Row.{Row}
use Rattle.brc_c_table.specs.declared.row.Gives.{Gives}
use Rattle.brc_c_table.specs.declared.row.Gives.TheVariants as gives
use Rattle.brc_c_table.specs.declared.row.Takes.{Takes}
use Rattle.brc_c_table.specs.declared.row.Takes.TheVariants as takes
use Rattle.brc_c_table.specs.declared.row.Fails.{Fails}
use Rattle.brc_c_table.specs.declared.row.Fails.TheVariants as fails
use Rattle.brc_c_table.specs.declared.fault.RowFault.{RowFault}
use Rattle.brc_c_table.specs.declared.fault.RowFault.TheVariants as faults
use Rattle.brc_c_table.specs.Words.{words, without_comment, is_name, gives_of, gives_by, takes_of, fails_of, runs_of}

infixl 10 ◌>>=◌
abbrev pub ◌>>=◌ : {A B : Type 0} → Result A RowFault → (A → Result B RowFault) → Result B RowFault
(Ok x) >>= f = f x
(Err e) >>= f = Err e

abbrev pub or_fault : {A : Type 0} → RowFault → Option A → Result A RowFault
or_fault e None = Err e
or_fault e (Some x) = Ok x

-- the first word and the others
abbrev pub word_in : List (List ℕ) → Result (List ℕ × List (List ℕ)) RowFault
word_in [] = Err faults.WordCount
word_in (w ∷ ws) = Ok (w, ws)

-- ---- NAME

abbrev pub checked_name : Bool → List ℕ → Result (Bool × List ℕ) RowFault
checked_name is_field name = if is_name name then Ok (is_field, name) else Err faults.Name

-- whether it is a field's, after `->`, and the name
abbrev pub name_in : List ℕ → Result (Bool × List ℕ) RowFault
name_in word =
    if starts_with nat_eq word (codes "->") then checked_name true (drop 2 word)
    else checked_name false word

-- ---- RESULT

-- the number of an argument from 1, as an index from 0
abbrev pub index_of : {E : Type 0} → Result ℕ E → Result ℕ RowFault
index_of (Ok n) = Ok (n - 1)
index_of (Err e) = Err faults.ArgumentNumber

abbrev pub index_in : List ℕ → Result ℕ RowFault
index_in word = index_of (number_between 1 127 word)

abbrev pub is_some : {A : Type 0} → Option A → Bool
is_some None = false
is_some (Some x) = true

abbrev pub numbered_in : List ℕ → List (List ℕ) → Result (Gives × List (List ℕ)) RowFault
numbered_in word ws =
    if is_some (gives_by word 0)
    then (word_in ws >>= λ n. index_in n.0 >>= λ k. or_fault faults.Result (gives_by word k) >>= λ g. Ok (g, n.1))
    else Err faults.Result

abbrev pub one_or_two : Option Gives → List ℕ → List (List ℕ) → Result (Gives × List (List ℕ)) RowFault
one_or_two (Some g) word ws = Ok (g, ws)
one_or_two None word ws = numbered_in word ws

abbrev pub gives_in : List (List ℕ) → Result (Gives × List (List ℕ)) RowFault
gives_in ws = word_in ws >>= λ w. one_or_two (gives_of w.0) w.0 w.1

-- ---- ARGUMENTS

abbrev pub is_about_the_rest : Takes → Bool
is_about_the_rest takes.ParseFormat = true
is_about_the_rest takes.BuildFormat = true
is_about_the_rest takes.RestBorrowed = true
is_about_the_rest takes.RestNoObjects = true
is_about_the_rest takes.RestFormatted = true
is_about_the_rest takes.RestOut = true
is_about_the_rest _ = false

abbrev pub is_format : Takes → Bool
is_format takes.ParseFormat = true
is_format _ = false

abbrev pub are_names : List Takes → Bool
are_names (takes.NoObject ∷ takes.RestNoObjects ∷ []) = true
are_names _ = false

-- nothing is after it, or it is a format, and an array of names is before the rest
abbrev pub may_follow : Takes → List Takes → Bool
may_follow t ts = (length ts == 0) || (is_format t && are_names ts)

-- what is about the rest is the last
abbrev pub rest_is_last : List Takes → Bool
rest_is_last [] = true
rest_is_last (t ∷ ts) = if is_about_the_rest t then may_follow t ts else rest_is_last ts

-- what the letters say, after what those before them say
abbrev pub letters_in : List Takes → List ℕ → Result (List Takes) RowFault
letters_in before [] = Ok before
letters_in before (c ∷ cs) = or_fault faults.Letter (takes_of c) >>= λ t. letters_in (before ++ t ∷ []) cs

abbrev pub takes_in : List ℕ → Result (List Takes) RowFault
takes_in word =
    if bytes_eq word (codes ".") then Ok []
    else if nat_lt 127 (length word) then Err faults.TooManyArguments
    else (letters_in [] word >>= λ ts. if rest_is_last ts then Ok ts else Err faults.NotLast)

-- ---- what fits together

abbrev pub is_borrowed : Option Takes → Bool
is_borrowed (Some takes.Borrowed) = true
is_borrowed (Some takes.BorrowedOrNull) = true
is_borrowed (Some takes.Kept) = true
is_borrowed (Some takes.BorrowedOrFails) = true
is_borrowed _ = false

-- RESULT names no argument, or one that is borrowed
abbrev pub names_an_argument : Gives → List Takes → Bool
names_an_argument (gives.Item argument) ts = is_borrowed (slice_get ts argument)
names_an_argument (gives.Part argument) ts = is_borrowed (slice_get ts argument)
names_an_argument (gives.Same argument) ts = is_borrowed (slice_get ts argument)
names_an_argument _ ts = true

abbrev pub may_fail_as_object : Fails → Bool
may_fail_as_object fails.Null = true
may_fail_as_object fails.Maybe = true
may_fail_as_object fails.Never = true
may_fail_as_object _ = false

abbrev pub may_fail_as_number : Fails → Bool
may_fail_as_number fails.Null = false
may_fail_as_number fails.Maybe = false
may_fail_as_number _ = true

abbrev pub never_fails : Fails → Bool
never_fails fails.Never = true
never_fails _ = false

abbrev pub may_fail : Gives → Fails → Bool
may_fail gives.New f = may_fail_as_object f
may_fail (gives.Item argument) f = may_fail_as_object f
may_fail (gives.Part argument) f = may_fail_as_object f
may_fail gives.Lent f = may_fail_as_object f
may_fail (gives.Same argument) f = may_fail_as_object f
may_fail gives.Number f = may_fail_as_number f
may_fail gives.Null f = never_fails f
may_fail gives.Other f = never_fails f
may_fail gives.Void f = never_fails f
may_fail gives.Free f = never_fails f

-- ---- a row

abbrev pub nothing_behind : {A : Type 0} → List (List ℕ) → A → Result A RowFault
nothing_behind [] x = Ok x
nothing_behind (w ∷ ws) x = Err faults.WordCount

-- FAILURE and CODE
abbrev pub end_in : Gives → List (List ℕ) → Result (Fails × Bool) RowFault
end_in g ws =
    word_in ws >>= λ f. or_fault faults.Failure (fails_of f.0)
    >>= λ failure. (if may_fail g failure then word_in f.1 else Err faults.OtherFailure)
    >>= λ c. or_fault faults.Code (runs_of c.0) >>= λ runs. nothing_behind c.1 (failure, runs)

abbrev pub row_in : List ℕ → List (List ℕ) → Result Row RowFault
row_in first ws =
    name_in first >>= λ name. gives_in ws >>= λ g. word_in g.1 >>= λ letters. takes_in letters.0
    >>= λ ts. (if names_an_argument g.0 ts then end_in g.0 letters.1 else Err faults.ArgumentNumber)
    >>= λ e. Ok (record { name = name.1; is_field = name.0; gives = g.0; takes = ts; fails = e.0; runs = e.1 })

-- nothing, or a row
abbrev pub line_of : List (List ℕ) → Result (Option Row) RowFault
line_of [] = Ok None
line_of (first ∷ ws) = row_in first ws >>= λ row. Ok (Some row)

abbrev pub line_in : List ℕ → Result (Option Row) RowFault
line_in line = if nat_lt 255 (length line) then Err faults.LongLine else line_of (words (without_comment line))
