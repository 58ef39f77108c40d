-- Nothing is read so far, or a beginning, and the loader promises no more than at first.
use Rattle.std.specs.Prelude.{ℕ, List, ◌-◌, ◌^◌, length}
use Rattle.brc_command.specs.Loading.{IsReadSoFar}
use Rattle.brc_command.proofs.loading.load_for.Given as goal

abbrev pub invariant-loop-bytes : goal.invariant-loop-bytes
invariant-loop-bytes g l = record {
  so_far : IsReadSoFar (g.L.Load.may_give l.load) l.path l.bytes.items;
  gives_no_more : (p bytes : List ℕ) → g.L.Load.may_give l.load p bytes → g.L.Load.may_give l.fn.load p bytes;
  lacks_no_more : (p : List ℕ) → g.L.Load.may_lack l.load p → g.L.Load.may_lack l.fn.load p;
}

abbrev pub decreases-loop-bytes : goal.decreases-loop-bytes
decreases-loop-bytes g l = 2 ^ 64 - length l.bytes.items
