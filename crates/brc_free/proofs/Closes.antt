-- How counts that stop at the greatest number add up.
use Rattle.std.proofs.Common.{◌≡◌, ℕ, ◌+◌, ◌-◌, min, arith}
use Rattle.brc_host.specs.HostCounts.{raised, count_limit}

raised_by : (limit more less count : ℕ)
    → (count + min less (limit - count)) + min more (limit - (count + min less (limit - count)))
    ≡ count + min (more + less) (limit - count)
raised_by limit more less count = omega (arith)

-- A count that rises twice rises by both.
pub raised_twice : (more less count : ℕ) → raised more (raised less count) ≡ raised (more + less) count
raised_twice more less count = raised_by count_limit more less count

pub raised_none : (count : ℕ) → raised 0 count ≡ count
raised_none count = omega (arith)

-- A number that stops at the greatest count adds up in the same way.
pub sums : (limit failed more faults : ℕ) → failed ≡ 0 + min faults (limit - 0)
    → min (failed + more) limit ≡ 0 + min (faults + more) (limit - 0)
sums limit failed more faults is = omega (arith, is)

-- So do two of them.
sums_both_by : (limit one two less more : ℕ) → one ≡ 0 + min less (limit - 0) → two ≡ 0 + min more (limit - 0)
    → min (one + two) limit ≡ 0 + min (less + more) (limit - 0)
sums_both_by limit one two less more first second = omega (arith, first, second)

pub sums_both : (one two less more : ℕ) → one ≡ raised less 0 → two ≡ raised more 0
    → min (one + two) count_limit ≡ raised (less + more) 0
sums_both one two less more first second = sums_both_by count_limit one two less more first second

-- So does a number that has not stopped, with one that may have.
sums_first_by : (limit one two less more : ℕ) → one ≡ less → two ≡ 0 + min more (limit - 0)
    → min (one + two) limit ≡ 0 + min (less + more) (limit - 0)
sums_first_by limit one two less more first second = omega (arith, first, second)

pub sums_first : (one two less more : ℕ) → one ≡ less → two ≡ raised more 0
    → min (one + two) count_limit ≡ raised (less + more) 0
sums_first one two less more first second = sums_first_by count_limit one two less more first second
