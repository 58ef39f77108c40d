use Rattle.std.proofs.Common.{sym}
use Rattle.brc_machine.proofs.Storing.{stored}
use Rattle.brc_machine.proofs.memory.Memory.store.Goals as goal

pub returns-in-Local : goal.returns-in-Local
returns-in-Local c =
    let there = rw (c.in-Local.is, sym c.self.view_is) at c.requires in
    rw (c.in-Local.is, sym c.self.view_is) (stored _ _ c.args.word c.self.invariant there)

pub returns-in-Shared : goal.returns-in-Shared
returns-in-Shared c =
    let there = rw (c.in-Shared.is, sym c.self.view_is) at c.requires in
    rw (c.in-Shared.is, sym c.self.view_is) (stored _ _ c.args.word c.self.invariant there)

pub returns-in-Gate : goal.returns-in-Gate
returns-in-Gate c =
    let there = rw (c.in-Gate.is, sym c.self.view_is) at c.requires in
    rw (c.in-Gate.is, sym c.self.view_is) (stored _ _ c.args.word c.self.invariant there)

pub returns-in-KindOf : goal.returns-in-KindOf
returns-in-KindOf c =
    let there = rw (c.in-KindOf.is, sym c.self.view_is) at c.requires in
    rw (c.in-KindOf.is, sym c.self.view_is) (stored _ _ c.args.word c.self.invariant there)

pub returns-in-Marks : goal.returns-in-Marks
returns-in-Marks c =
    let there = rw (c.in-Marks.is, sym c.self.view_is) at c.requires in
    rw (c.in-Marks.is, sym c.self.view_is) (stored _ _ c.args.word c.self.invariant there)

pub returns-in-Cell : goal.returns-in-Cell
returns-in-Cell c =
    let there = rw (c.in-Cell.is, sym c.self.view_is) at c.requires in
    rw (c.in-Cell.is, sym c.self.view_is, c.from.ensures) (stored _ _ c.args.word c.self.invariant there)

pub returns-in-Field : goal.returns-in-Field
returns-in-Field c =
    let there = rw (c.in-Field.is, sym c.self.view_is) at c.requires in
    rw (c.in-Field.is, sym c.self.view_is) (stored _ _ c.args.word c.self.invariant there)

pub returns-in-Resource : goal.returns-in-Resource
returns-in-Resource c =
    let there = rw (c.in-Resource.is, sym c.self.view_is) at c.requires in
    rw (c.in-Resource.is, sym c.self.view_is) (stored _ _ c.args.word c.self.invariant there)

pub returns-in-ThreadWord : goal.returns-in-ThreadWord
returns-in-ThreadWord c =
    let there = rw (c.in-ThreadWord.is, sym c.self.view_is) at c.requires in
    rw (c.in-ThreadWord.is, sym c.self.view_is) (stored _ _ c.args.word c.self.invariant there)
