-- A division by a multiplication: the quotient is what a product with the reciprocal, rounded up, has above its lowest
-- 40 bits.
use Rattle.std.proofs.Common.{◌≡◌, ℕ, ◌+◌, ◌*◌, ◌/◌, ◌^◌, ◌<◌, ◌≤◌, arith}
use Rattle.std.proofs.lemmas.Nat.{mul-le, div_below, le-div, mod_below}

-- `d` is the divisor, `a` the quotient, and `q` the reciprocal, rounded down.
above : (n d a q : ℕ) → a * d ≤ n → 2 ^ 40 ≤ d * (q + 1) → a * 2 ^ 40 ≤ n * (q + 1)
above n d a q part whole =
    omega (
      arith,
      mul-le a (2 ^ 40) a (d * (q + 1)) (omega arith) whole,
      mul-le (a * d) (q + 1) n (q + 1) part (omega arith),
    )

below : (n d a q : ℕ) → n + 1 ≤ (a + 1) * d → d * q ≤ 2 ^ 40 → (a + 1) * d ≤ q → n * (q + 1) < (a + 1) * 2 ^ 40
below n d a q part whole small =
    omega (
      arith,
      mul-le (n + 1) (q + 1) ((a + 1) * d) (q + 1) part (omega arith),
      mul-le (a + 1) (d * q) (a + 1) (2 ^ 40) (omega arith) whole,
      small,
    )

-- The number is a row's among the rows of at most 255 workers with at most 65,535 rows each.
module _ (n workers d : ℕ) (some : 0 < d) (few : workers < 2 ^ 8) (most : d < 2 ^ 16) (low : n < workers * d) where
  -- The product fits into a word.
  pub product_fits : n * (2 ^ 40 / d + 1) < 2 ^ 64
  product_fits =
      let q = 2 ^ 40 / d in
      let part : d * q ≤ 2 ^ 40 = omega arith in
      omega (
        arith,
        mul-le n (q + 1) (workers * d) (q + 1) (omega (arith, low)) (omega arith),
        mul-le workers (d * q) 255 (2 ^ 40) (omega (arith, few)) part,
        mul-le workers d 255 (2 ^ 16) (omega (arith, few)) (omega (arith, most)),
      )

  pub quotient : n * (2 ^ 40 / d + 1) / 2 ^ 40 ≡ n / d
  quotient =
      let a = n / d in
      let q = 2 ^ 40 / d in
      let under : a < workers = div_below n d workers some low in
      let square : (a + 1) * d * d ≤ 2 ^ 40 =
      omega (
        arith,
        mul-le (a + 1) (d * d) 255 (65535 * 65535) (omega (arith, under, few))
            (mul-le d d 65535 65535 (omega (arith, most)) (omega (arith, most))),
      ) in
      let small : (a + 1) * d ≤ q = le-div ((a + 1) * d) (2 ^ 40) d some square in
      let n_low = mod_below n d some in
      let one_low = mod_below (2 ^ 40) d some in
      let least = above n d a q (omega arith) (omega (arith, one_low)) in
      let less = below n d a q (omega (arith, n_low)) (omega arith) small in
      omega (
        arith,
        le-div a (n * (q + 1)) (2 ^ 40) (omega arith) least,
        div_below (n * (q + 1)) (2 ^ 40) (a + 1) (omega arith) less,
      )
