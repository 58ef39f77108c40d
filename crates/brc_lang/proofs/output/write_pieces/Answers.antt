use Rattle.std.proofs.Common.{List, ℕ, Bor, [], suc, take, drop, get_or, refl}
use Rattle.std.specs.List.{flat_map}
use Rattle.brc_lang.proofs.Written.{stops_between, flat_map_around}
use Rattle.brc_lang.proofs.output.write_pieces.Goals as goal

abbrev bytes : Bor (List ℕ) → List ℕ
bytes piece = piece.now

pub returns-in_err-write_bytes-clause-begun : goal.returns-in_err-write_bytes-clause-begun
returns-in_err-write_bytes-clause-begun g c =
    let pieces = c.args.pieces.now in
    let i = c.loop-piece.piece-index in
    let none : Bor (List ℕ) = record { ref_ptr = (0, 0); now = [] } in
    let piece = get_or pieces i none in
    stops_between _ _ _ _ _ (flat_map bytes (take i pieces)) piece.now (flat_map bytes (drop (suc i) pieces))
    (flat_map_around bytes pieces i none piece c.loop-piece-test.true refl)
    c.loop-piece.invariant c.in_err-write_bytes.ensures.begun
