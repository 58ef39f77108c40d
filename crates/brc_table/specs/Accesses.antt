-- The duties that the table's one step call does, and what comes next.
use Rattle.std.specs.Prelude.{◌≡◌, ℕ, ◌+◌, ◌*◌, ◌<◌, ◌^◌, List, [], ◌∷◌, unwrap_or}
use Rattle.brc_word.specs.Words.{marks_of_word, lowest_mark}
use Rattle.brc_model.specs.declared.duty.Duty.{Duty}
use Rattle.brc_model.specs.declared.duty.Duty.TheVariants.{RetainLoad, RetainStore, RetainAdd, ReleaseLoad, SharedLoad, SharedExchange, MergeSwap, MergeLoad, MergeExchange, Die, Settle, SettleCell, TakeField, CloseResource, Leave, Scan, TakeFound, MarksLoad, BirthKind, BirthField, BirthLocal, LockGate, CellLoad, CellSwap, LendField, ReturnField}
use Rattle.brc_model.specs.declared.duty.Holding.TheVariants.{AsCaller}
use Rattle.brc_model.specs.declared.duty.Reason.TheVariants.{Own}
use Rattle.brc_model.specs.Duties.{duty_row}
use Rattle.brc_model.specs.declared.layout.Layout.{Layout}

-- ---- duties

-- The duty is done by one such operation.
abbrev pub HasAccess : Duty → Type 0
HasAccess (TakeField x) = ⊥
HasAccess (CloseResource x) = ⊥
HasAccess (BirthField x h) = ⊥
HasAccess (LockGate x) = ⊥
HasAccess (CellSwap x i y h) = ⊥
HasAccess (LendField x) = ⊥
HasAccess (ReturnField x) = ⊥
HasAccess _ = Unit {0}

-- If the duty is about a cell, a list may have the cell.
abbrev pub HasCell : Layout → Duty → Type 0
HasCell layout (SettleCell x i n) = i < layout.cells
HasCell layout (CellLoad x i) = i < layout.cells
HasCell layout _ = Unit {0}

-- If the duty is about the head of the thread's dying chain, the chain isn't empty.
abbrev pub HasChain : Duty → ℕ → Type 0
HasChain Settle head = 0 < head
HasChain _ head = Unit {0}

-- If the duty loads a mark word of the thread's block, the thread has used a row of that word. If it takes the lowest
-- of the marks that were found, there is one, and the thread has used its row.
abbrev pub HasUsedRow : Duty → ℕ → Type 0
HasUsedRow (Scan w n) used = marks_of_word * w < used
HasUsedRow (MarksLoad w) used = marks_of_word * w < used
HasUsedRow (TakeFound w marks) used = (0 < marks) × (marks_of_word * w + lowest_mark marks < used)
HasUsedRow _ used = Unit {0}

-- If the duty chains an object, the object's row plus 1 is a number of 32 bits.
abbrev pub HasNextRow : Duty → Type 0
HasNextRow (Die x) = x + 1 < 2 ^ 32
HasNextRow _ = Unit {0}

-- the row that the duty names, or 0 if it names none
abbrev pub row_of : Duty → ℕ
row_of d = unwrap_or (duty_row d) 0

-- the number of the cell that the duty is about
abbrev pub cell_of : Duty → ℕ
cell_of (SettleCell x i n) = i
cell_of (CellLoad x i) = i
cell_of _ = 0

-- ---- what comes next

-- The duty without what its step doesn't need: by what its reference is held, whose it is, and how many cells or rows
-- there are.
abbrev pub bare : Duty → Duty
bare (RetainLoad x h) = RetainLoad x AsCaller
bare (RetainStore x h w) = RetainStore x AsCaller w
bare (RetainAdd x h) = RetainAdd x AsCaller
bare (ReleaseLoad x h) = ReleaseLoad x AsCaller
bare (SharedLoad x r) = SharedLoad x Own
bare (SharedExchange x r w) = SharedExchange x Own w
bare (MergeSwap x r) = MergeSwap x Own
bare (MergeLoad x c r) = MergeLoad x c Own
bare (MergeExchange x c w r) = MergeExchange x c w Own
bare (SettleCell x i n) = SettleCell x i 0
bare (Leave w n) = Leave w 0
bare (Scan w n) = Scan w 0
bare (BirthKind x h w) = BirthKind x AsCaller w
bare (BirthLocal x h) = BirthLocal x AsCaller
bare d = d

-- The duty comes next, up to what its step doesn't need.
abbrev pub IsNext : Duty → List Duty → Type 0
IsNext d [] = ⊥
IsNext d (e ∷ rest) = bare e ≡ bare d
