-- What the words of objects and threads say, as a reader of a trace sees it.
use Rattle.std.specs.Prelude.{ℕ, ◌+◌, ◌-◌, ◌*◌, ◌/◌, ◌==◌, nat_lt, if◌then◌else◌, List, [], ◌∷◌, ◌++◌, map, filter, codes, decimal}
use Rattle.std.specs.List.{flat_map, range_with_len}
use Rattle.brc_word.specs.declared.values.TheConstants.{RUNNING, LEAVING, SET, DEFAULT, QUEUED, MERGED, EMPTY, NONE, NUM, LIST, FILE, SOCK}
use Rattle.brc_word.specs.Words.{half, owner_part, local_part, is_immortal_word, biased_part, phase_part, bias, free_word, next_part, closed_word, kind_part, argument_part, marks_of_word, mark_at}
use Rattle.brc_model.specs.declared.address.Address.{Address}
use Rattle.brc_model.specs.declared.address.Address.TheVariants.{Local, Shared, Gate, KindOf, Marks, Cell, Field, Resource, ThreadWord}
use Rattle.brc_model.specs.declared.duty.Duty.{Duty}
use Rattle.brc_model.specs.declared.duty.Duty.TheVariants.{SetMark, TakeMark, TakeFound, ClaimMark}
use Rattle.brc_model.specs.declared.layout.Layout.{Layout}
use Rattle.brc_model.specs.Duties.{found_row}
use Rattle.brc_model.specs.Layout.{row_at}

-- ---- single words

abbrev pub row_text : ℕ → List ℕ
row_text row = codes "row " ++ decimal row

-- who owns the object, and how many references the owner counts
abbrev pub local_text : ℕ → List ℕ
local_text word =
    if owner_part word == 0 then codes "nobody"
    else if is_immortal_word word then codes "immortal"
    else codes "owner " ++ decimal (owner_part word - 1) ++ codes ", " ++ decimal (local_part word)

-- a biased count, with its sign
abbrev pub count_text : ℕ → List ℕ
count_text biased =
    if nat_lt biased bias then codes "-" ++ decimal (bias - biased) else decimal (biased - bias)

-- the object's state
abbrev pub phase_text : ℕ → List ℕ
phase_text phase =
    if phase == DEFAULT then codes " default"
    else if phase == QUEUED then codes " queued"
    else if phase == MERGED then codes " merged"
    else codes " unused"

abbrev pub shared_text : ℕ → List ℕ
shared_text word = count_text (biased_part word) ++ phase_text (phase_part word)

-- what follows in the chain of the thread that deallocates the object
abbrev pub next_text : ℕ → List ℕ
next_text next = if next == 0 then codes ", last" else codes ", then row " ++ decimal (next - 1)

-- the thread that deallocates the object
abbrev pub dying_text : ℕ → List ℕ
dying_text word = codes "dying by " ++ decimal (word / half - 1) ++ next_text (next_part word)

abbrev pub gate_text : ℕ → List ℕ
gate_text word =
    if word == closed_word then codes "closed"
    else if word == free_word then codes "free"
    else if nat_lt word half then codes "locked by " ++ decimal (word - 2)
    else dying_text word

-- the kind, with a number's value or how many cells a list has
abbrev pub kind_text : ℕ → List ℕ
kind_text word =
    if kind_part word == NONE then codes "none"
    else if kind_part word == NUM then codes "num " ++ decimal (argument_part word)
    else if kind_part word == LIST then codes "list " ++ decimal (argument_part word)
    else if kind_part word == FILE then codes "file"
    else if kind_part word == SOCK then codes "sock"
    else codes "unborn"

abbrev pub cell_text : ℕ → List ℕ
cell_text word = if word == EMPTY then codes "empty" else row_text (word - 1)

abbrev pub status_text : ℕ → List ℕ
status_text word =
    if word == RUNNING then codes "running"
    else if word == LEAVING then codes "leaving"
    else codes "gone"

-- ---- marks

-- a row's mark before and after a step that sets it: it was set if the step has left the word as it was
abbrev pub marked_text : ℕ → ℕ → ℕ → List ℕ
marked_text row found left =
    row_text row ++ (if left == found then codes " mark: set" else codes " mark: clear -> set")

-- a row's mark before and after a step that takes it: it was set if the step has changed the word
abbrev pub taken_text : ℕ → ℕ → ℕ → List ℕ
taken_text row found left =
    row_text row ++ (if left == found then codes " mark: clear" else codes " mark: set -> clear")

-- the rows whose marks are set among the first n of thread t's mark word w, by rising row
unfoldable pub rows_set : Layout → ℕ → ℕ → ℕ → ℕ → List ℕ
rows_set layout t w word n =
    map (λ bit. row_at layout t (marks_of_word * w + bit))
    (filter (λ bit. mark_at word bit == SET) (range_with_len 0 n))

-- the rows, with a comma between two of them
abbrev pub rows_text : List ℕ → List ℕ
rows_text [] = []
rows_text (row ∷ rest) = row_text row ++ flat_map (λ next. codes ", " ++ row_text next) rest

abbrev pub rows_or_none : List ℕ → List ℕ
rows_or_none [] = codes "none"
rows_or_none (row ∷ rest) = rows_text (row ∷ rest)

-- thread t's mark word w, by the rows whose marks it has set
unfoldable pub marks_text : Layout → ℕ → ℕ → ℕ → List ℕ
marks_text layout t w word =
    codes "thread " ++ decimal t ++ codes " marks " ++ decimal w ++ codes ": "
    ++ rows_or_none (rows_set layout t w word marks_of_word)

-- What the step of the duty found and left in thread t's mark word w: a step that sets or takes one mark shows this
-- mark, and a load the whole word.
abbrev pub on_marks : Layout → Duty → ℕ → ℕ → ℕ → ℕ → List ℕ
on_marks layout (SetMark x) t w found left = marked_text x found left
on_marks layout (TakeMark x) t w found left = taken_text x found left
on_marks layout (ClaimMark x) t w found left = taken_text x found left
on_marks layout (TakeFound v marks) t w found left = taken_text (found_row layout t v marks) found left
on_marks layout _ t w found left = marks_text layout t w found

-- ---- a word of a step

-- what the word at the address says; fields and resources are none, and a mark word is shown by the step's duty
abbrev pub value_text : Address → ℕ → List ℕ
value_text (Local row) word = local_text word
value_text (Shared row) word = shared_text word
value_text (Gate row) word = gate_text word
value_text (KindOf row) word = kind_text word
value_text (Marks thread word) _ = []
value_text (Cell row cell) word = cell_text word
value_text (Field row) word = []
value_text (Resource row) word = []
value_text (ThreadWord thread) word = status_text word

-- whose word it is, and which of its words
abbrev pub subject_text : Address → List ℕ
subject_text (Local row) = row_text row ++ codes " local: "
subject_text (Shared row) = row_text row ++ codes " shared: "
subject_text (Gate row) = row_text row ++ codes " gate: "
subject_text (KindOf row) = row_text row ++ codes " kind: "
subject_text (Marks thread word) = []
subject_text (Cell row cell) = row_text row ++ codes " cell " ++ decimal cell ++ codes ": "
subject_text (Field row) = []
subject_text (Resource row) = []
subject_text (ThreadWord thread) = codes "thread " ++ decimal thread ++ codes ": "

-- the word that a step left, behind the one that it found: of a local word with the same owner the count alone
abbrev pub left_text : Address → ℕ → ℕ → List ℕ
left_text (Local row) found left =
    if owner_part left == owner_part found then decimal (local_part left) else local_text left
left_text address found left = value_text address left

abbrev pub change_text : Address → ℕ → ℕ → List ℕ
change_text address found left = if left == found then [] else codes " -> " ++ left_text address found left

-- the word at the address: what the step of the duty found, and what it left if that is another
abbrev pub word_text : Layout → Duty → Address → ℕ → ℕ → List ℕ
word_text layout d (Marks t w) found left = on_marks layout d t w found left
word_text layout d address found left =
    subject_text address ++ value_text address found ++ change_text address found left
