-- Tokens that follow one another, and one more of them.
use Rattle.std.proofs.Common.{ℕ, ◌≤◌, List, [], ◌∷◌, ◌++◌, arith}
use Rattle.brc_c_text.specs.declared.token.Token.{Token}
use Rattle.brc_c_text.specs.Spans.{Follow}

-- They end by any later place.
pub follow_to : (from : ℕ) (ts : List Token) (to later : ℕ) → to ≤ later → Follow from ts to → Follow from ts later
follow_to from [] to later h f = omega arith
follow_to from (t ∷ ts) to later h f = (f.0, f.1, follow_to t.end ts to later h f.2)

-- A token may be put after them.
pub follow_more : (from : ℕ) (ts : List Token) (t : Token) (to later : ℕ) → to ≤ t.start
    → t.start ≤ t.end → t.end ≤ later
    → Follow from ts to → Follow from (ts ++ t ∷ []) later
follow_more from [] t to later a b c f = (omega arith, b, c)
follow_more from (u ∷ ts) t to later a b c f = (f.0, f.1, follow_more u.end ts t to later a b c f.2)
