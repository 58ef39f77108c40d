-- The mark of a row, as a table's words have it.
use Rattle.std.proofs.Common.{◌≡◌, ℕ, ◌<◌, List, ap}
use Rattle.brc_word.specs.Words.{mark_at}
use Rattle.brc_model.specs.Duties.{mark_place}
use Rattle.brc_model.specs.Layout.{row_count, mark_bit}
use Rattle.brc_model.specs.Machine.{mark_of}
use Rattle.brc_table.specs.Plan.{Plan}
use Rattle.brc_table.specs.declared.view.View.{View}
use Rattle.brc_table.specs.Rule.{Stands}
use Rattle.brc_table.specs.Agreeing.{row_mark}
use Rattle.brc_table.proofs.Places.{mark_has}

-- The machine has the mark that the words say.
pub mark_reads : (plan : Plan) (words : List ℕ) (views : List View) (s : Stands plan words views) (x : ℕ)
    → x < row_count s.machine.layout
    → mark_of s.machine.layout s.machine.memory x ≡ row_mark s.machine.layout words x
mark_reads plan words views s x there =
    let l = s.machine.layout in
    ap (λ (word : ℕ). mark_at word (mark_bit l x)) (s.reads (mark_place l x) (mark_has l x s.plain there))
