-- Births, looks at a kind and a cell, locks, swaps of cells, lent resources and deallocations, computed by the
-- definitions that the code's contracts cite. The object is in row 7, and thread 3, which has used four rows, makes and
-- deallocates it.
use Rattle.std.proofs.Common.{◌≡◌, ℕ, List, [], ◌∷◌, true, map, refl, None, Some}
use Rattle.brc_model.specs.declared.duty.Duty.{Duty}
use Rattle.brc_model.specs.declared.duty.Duty.TheVariants.{
  BirthKind,
  BirthField,
  BirthLocal,
  SettleKind,
  SettleCell,
  TakeField,
  CloseResource,
  SettleEnd,
  KindLoad,
  LockGate,
  UnlockGate,
  CellLoad,
  CellSwap,
  LendField,
  ReturnField,
  ReleaseLoad,
}
use Rattle.brc_model.specs.declared.duty.Holding.TheVariants.{InFlight, ByVariable}
use Rattle.brc_model.specs.declared.address.Address.TheVariants.{KindOf, Cell, Field, Local, Resource, Gate}
use Rattle.brc_model.specs.declared.layout.Layout.{Layout}
use Rattle.brc_model.specs.Duties.{address_of, new_word, continuation}
use Rattle.brc_model.specs.Machine.{used_by, locked_by, lent_by}

-- four workers of four rows
four : Layout
four = record { workers = 4; rows = 4; cells = 8; immortal_lists = 0; numbers = 0 }

-- the kind words of the number 7, a list of one cell, a file and a socket
number : ℕ
number = 8589934599

list : ℕ
list = 12884901889

file : ℕ
file = 17179869184

sock : ℕ
sock = 21474836480

births : List Duty
births = BirthKind 7 InFlight number ∷ BirthKind 7 InFlight list ∷ BirthKind 7 InFlight file ∷ BirthKind 7 InFlight sock
    ∷ BirthField 7 InFlight ∷ BirthLocal 7 InFlight ∷ []

-- the words that the steps of a birth store
births-leave : map (λ (d : Duty). new_word four 3 0 d 0) births ≡ number ∷ list ∷ file ∷ sock ∷ 1 ∷ 17179869185 ∷ []
unfolding number list file sock births
births-leave = refl

-- the duties that follow each of these steps
births-lead_to : map (λ (d : Duty). continuation four 3 true 0 d 0) births
    ≡ (BirthLocal 7 InFlight ∷ []) ∷ (BirthLocal 7 InFlight ∷ []) ∷ (BirthField 7 InFlight ∷ []) ∷
    (BirthField 7 InFlight ∷ [])
    ∷ (BirthLocal 7 InFlight ∷ []) ∷ [] ∷ []
unfolding number list file sock births
births-lead_to = refl

-- the number of rows that the thread has used after each step
births-use : map (λ (d : Duty). used_by 4 d) births ≡ 4 ∷ 4 ∷ 4 ∷ 4 ∷ 4 ∷ 5 ∷ []
unfolding number list file sock births
births-use = refl

-- the word of each step
births-are_at : map (λ (d : Duty). address_of four 3 0 d) births
    ≡ KindOf 7 ∷ KindOf 7 ∷ KindOf 7 ∷ KindOf 7 ∷ Field 7 ∷ Local 7 ∷ []
unfolding number list file sock births
births-are_at = refl

-- the duty that follows the load of a dying object's kind word
deaths-begin : map (λ (w : ℕ). continuation four 3 true 0 (SettleKind 7) w) (number ∷ list ∷ file ∷ sock ∷ [])
    ≡ (SettleEnd 7 ∷ []) ∷ (SettleCell 7 0 1 ∷ []) ∷ (TakeField 7 ∷ []) ∷ (TakeField 7 ∷ []) ∷ []
unfolding number list file sock
deaths-begin = refl

-- the duties that close a resource
deaths-go_on : map (λ (d : Duty). continuation four 3 true 0 d 1) (TakeField 7 ∷ CloseResource 7 ∷ [])
    ≡ (CloseResource 7 ∷ []) ∷ (SettleEnd 7 ∷ []) ∷ []
deaths-go_on = refl

-- the field is empty, and the resource has been closed once
deaths-leave : new_word four 3 0 (TakeField 7) 1 ∷ new_word four 3 0 (CloseResource 7) 0 ∷ [] ≡ 0 ∷ 1 ∷ []
deaths-leave = refl

deaths-are_at : map (λ (d : Duty). address_of four 3 0 d) (TakeField 7 ∷ CloseResource 7 ∷ []) ≡ Field 7 ∷ Resource 7 ∷ []
deaths-are_at = refl

-- A resource is taken out of its field, and put back: the thread has it lent in between.
lends-leave : new_word four 3 0 (LendField 7) 1 ∷ new_word four 3 0 (ReturnField 7) 0 ∷ [] ≡ 0 ∷ 1 ∷ []
lends-leave = refl

lends-are_at : map (λ (d : Duty). address_of four 3 0 d) (LendField 7 ∷ ReturnField 7 ∷ []) ≡ Field 7 ∷ Field 7 ∷ []
lends-are_at = refl

lends-lead_to : map (λ (d : Duty). continuation four 3 true 0 d 1) (LendField 7 ∷ ReturnField 7 ∷ []) ≡ [] ∷ [] ∷ []
lends-lead_to = refl

lends-lend : lent_by None (LendField 7) 1 ∷ lent_by (Some 7) (ReturnField 7) 0 ∷ [] ≡ Some 7 ∷ None ∷ []
lends-lend = refl

-- A look at the kind leaves the word as it is, and nothing follows.
kinds-are_at : address_of four 3 0 (KindLoad 7) ≡ KindOf 7
kinds-are_at = refl

kinds-leave : map (λ (w : ℕ). new_word four 3 0 (KindLoad 7) w) (number ∷ list ∷ file ∷ sock ∷ [])
    ≡ number ∷ list ∷ file ∷ sock ∷ []
unfolding number list file sock
kinds-leave = refl

kinds-lead_to : map (λ (w : ℕ). continuation four 3 true 0 (KindLoad 7) w) (number ∷ list ∷ file ∷ sock ∷ [])
    ≡ [] ∷ [] ∷ [] ∷ [] ∷ []
unfolding number list file sock
kinds-lead_to = refl

-- Thread 3 locks the list of row 7 if it finds the gate free, and not if it finds it locked by thread 0, or by itself.
locks-are_at : map (λ (d : Duty). address_of four 3 0 d) (LockGate 7 ∷ UnlockGate 7 ∷ []) ≡ Gate 7 ∷ Gate 7 ∷ []
locks-are_at = refl

locks-leave : map (λ (w : ℕ). new_word four 3 0 (LockGate 7) w) (1 ∷ 2 ∷ 5 ∷ []) ≡ 5 ∷ 2 ∷ 5 ∷ []
locks-leave = refl

locks-hold : map (λ (w : ℕ). locked_by None (LockGate 7) w) (1 ∷ 2 ∷ 5 ∷ []) ≡ Some 7 ∷ None ∷ None ∷ []
locks-hold = refl

locks-lead_to : map (λ (w : ℕ). continuation four 3 true 0 (LockGate 7) w) (1 ∷ 2 ∷ []) ≡ [] ∷ [] ∷ []
locks-lead_to = refl

-- It frees the gate again.
unlocks-leave : new_word four 3 0 (UnlockGate 7) 5 ≡ 1
unlocks-leave = refl

unlocks-hold : locked_by (Some 7) (UnlockGate 7) 5 ≡ None
unlocks-hold = refl

unlocks-lead_to : continuation four 3 true 0 (UnlockGate 7) 5 ≡ []
unlocks-lead_to = refl

-- A look at the cell 2 leaves what it finds, be it nothing or the object of row 8, and nothing follows.
items-are_at : address_of four 3 0 (CellLoad 7 2) ≡ Cell 7 2
items-are_at = refl

items-leave : map (λ (w : ℕ). new_word four 3 0 (CellLoad 7 2) w) (0 ∷ 9 ∷ []) ≡ 0 ∷ 9 ∷ []
items-leave = refl

items-hold : map (λ (w : ℕ). locked_by (Some 7) (CellLoad 7 2) w) (0 ∷ 9 ∷ []) ≡ Some 7 ∷ Some 7 ∷ []
items-hold = refl

items-lead_to : map (λ (w : ℕ). continuation four 3 true 0 (CellLoad 7 2) w) (0 ∷ 9 ∷ []) ≡ [] ∷ [] ∷ []
items-lead_to = refl

-- Thread 3 stores the object of row 9, which its variable 2 names, in cell 0 of the list of row 7, and releases what it
-- finds there: nothing, the object of row 8, or the list itself.
swap : Duty
swap = CellSwap 7 0 9 (ByVariable 0 2)

swaps-are_at : address_of four 3 0 swap ≡ Cell 7 0
unfolding swap
swaps-are_at = refl

swaps-leave : map (λ (w : ℕ). new_word four 3 0 swap w) (0 ∷ 9 ∷ 8 ∷ []) ≡ 10 ∷ 10 ∷ 10 ∷ []
unfolding swap
swaps-leave = refl

swaps-lead_to : map (λ (w : ℕ). continuation four 3 true 0 swap w) (0 ∷ 9 ∷ 8 ∷ [])
    ≡ [] ∷ (ReleaseLoad 8 InFlight ∷ []) ∷ (ReleaseLoad 7 InFlight ∷ []) ∷ []
unfolding swap
swaps-lead_to = refl
