use Rattle.std.proofs.Common.{◌≡◌, ℕ, ◌+◌, ◌*◌, ◌<◌, length, replicate, List, ◌++◌, ap, sym, ◌∙◌, subst, arith}
use Rattle.std.specs.List.{slice_range}
use Rattle.std.specs.Prelude.{slice_index}
use Rattle.brc_table.specs.Opening.{ArePlain}
use Rattle.brc_table.specs.Places.{front, tile, cells_front}
use Rattle.brc_table.proofs.FirstWords.{copied_first, copied_length, tiles_and_cells}
use Rattle.brc_table.proofs.first_words.plain_words.Goals as goal

pub loop-tile-preserved : goal.loop-tile-preserved
loop-tile-preserved c =
    let old = c.loop-tile.words.items in
    let more = c.extend_from_within.new.self.items in
    let q = c.loop-tile._tile in
    let is : more ≡ old ++ slice_range old (front + tile) (front + 2 * tile) =
    c.in_ok-extend_from_within.ensures.items in
    let long : length old ≡ front + tile * q = c.loop-tile.invariant.0 (omega (arith, c.loop-tile-test.true)) in
    let first = c.loop-tile.invariant.2 in
    let two = c.loop-tile.auto._tile in
    let longer : length more ≡ front + tile * (q + 1) =
    ap (λ (ws : List ℕ). length ws) is ∙ copied_length old q two long first in (
      λ low. longer,
      λ high. longer ∙ ap (λ (n : ℕ). front + tile * n) (omega (arith, high, c.loop-tile-test.true)),
      λ k below.
          ap (λ (ws : List ℕ). slice_index ws k) is
          ∙ copied_first old q two long first k (subst (λ (ws : List ℕ). k < length ws) is below),
    )

-- The words of the tiles are first words, and the cells behind them are empty.
pub returns : goal.returns
returns c =
    let layout = c.args.layout in
    let words = c.loop-tile.words.items in
    let cells = c.in_ok-cells.cells.items in
    let long : length words ≡ cells_front layout =
    c.loop-tile.invariant.1 (omega (arith, c.loop-tile-test.false))
    ∙ ap (λ (n : ℕ). front + tile * n) c.tile_count-tiles.ensures in
    let all : c.extend_from_slice.new.self.items ≡ words ++ cells =
    c.in_ok-extend_from_slice.ensures.items ∙ ap (λ (more : List ℕ). words ++ more) c.as_slice.ensures.value in
    subst (ArePlain layout) (sym all)
    (tiles_and_cells layout words cells long c.loop-tile.invariant.2
    (c.in_ok-cells.ensures.items_if_clones_equal (λ _ e. e)
    ∙ ap (λ (n : ℕ). replicate n 0) (ap (λ (k : ℕ). k * c.row_count.result) c.from.ensures
    ∙ ap (λ (k : ℕ). layout.cells * k) c.row_count.ensures)))
