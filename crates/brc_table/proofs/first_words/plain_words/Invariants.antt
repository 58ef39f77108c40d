use Rattle.std.proofs.Common.{◌≡◌, ℕ, ◌+◌, ◌*◌, ◌<◌, ◌≤◌, length}
use Rattle.std.specs.Prelude.{slice_index}
use Rattle.brc_table.specs.Opening.{first_word}
use Rattle.brc_table.specs.Places.{front, tile}
use Rattle.brc_table.proofs.first_words.plain_words.Given as goal

abbrev pub invariant-loop-index : goal.invariant-loop-index
invariant-loop-index l =
    (length l.words.items ≡ l.index)
    × ((k : ℕ) → k < l.index → slice_index l.words.items k ≡ first_word k)

-- All words of the tiles before this one are there, or those of all tiles, if there are fewer.
abbrev pub invariant-loop-tile : goal.invariant-loop-tile
invariant-loop-tile l =
    (l._tile ≤ l.tiles → length l.words.items ≡ front + tile * l._tile)
    × (l.tiles ≤ l._tile → length l.words.items ≡ front + tile * l.tiles)
    × ((k : ℕ) → k < length l.words.items → slice_index l.words.items k ≡ first_word k)
