-- Where tokens are in their source.
use Rattle.std.specs.Prelude.{ℕ, ◌≤◌, List, [], ◌∷◌}
use Rattle.brc_c_text.specs.declared.token.Token.{Token}

-- The tokens follow one another from a place on, none overlaps the next, and all end by another place.
abbrev pub Follow : ℕ → List Token → ℕ → Type 0
Follow from [] to = from ≤ to
Follow from (t ∷ ts) to = (from ≤ t.start) × (t.start ≤ t.end) × Follow t.end ts to
