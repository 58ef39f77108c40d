-- Signs of numbers, and comparisons with a constant.
use Rattle.std.specs.Prelude.{◌≡◌, Bool, true, false, not, ◌&&◌, ◌||◌, if◌then◌else◌, Option, None, Some, ℤ, pos}
use Rattle.std.specs.Prelude.{negsuc, int_lt, int_le, ◌≤ℤ◌, ◌<ℤ◌, ◌≢◌}
use Rattle.std.specs.Ordering.{int_eq}
use Rattle.brc_c_store.specs.declared.signs.Signs.{Signs}
use Rattle.brc_c_store.specs.declared.signs.Test.{Test}
use Rattle.brc_c_store.specs.declared.signs.Comparison.{Comparison}
use Rattle.brc_c_store.specs.declared.signs.Comparison.TheVariants.{Equal, NotEqual, Less, LessEqual, Greater}
use Rattle.brc_c_store.specs.declared.signs.Comparison.TheVariants.{GreaterEqual}

abbrev pub negative_one : ℤ
negative_one = negsuc 0

-- the least and the greatest number of 64 bits
abbrev pub least_number : ℤ
least_number = negsuc 9223372036854775807

abbrev pub greatest_number : ℤ
greatest_number = pos 9223372036854775807

-- the sign of a number
abbrev pub sign_of : ℤ → Signs
sign_of n = record {
  minus_one = int_eq n negative_one;
  below = int_lt n negative_one;
  zero = int_eq n (pos 0);
  above = int_lt (pos 0) n;
  only = None;
}

-- the number itself, if it is neither 0 nor minus one
abbrev pub known_number : ℤ → Option ℤ
known_number n = if int_eq n negative_one || int_eq n (pos 0) then None else Some n

-- the sign of a number, and the number
abbrev pub exactly : ℤ → Signs
exactly n = record (sign_of n) { only = known_number n }

abbrev pub no_signs : Signs
no_signs = record { minus_one = false; below = false; zero = false; above = false; only = None }

abbrev pub all_signs : Signs
all_signs = record { minus_one = true; below = true; zero = true; above = true; only = None }

abbrev pub has_no_sign : Signs → Bool
has_no_sign s = not (s.minus_one || s.below || s.zero || s.above)

-- the comparison that holds for the sides exchanged
abbrev pub mirrored : Comparison → Comparison
mirrored Equal = Equal
mirrored NotEqual = NotEqual
mirrored Less = Greater
mirrored LessEqual = GreaterEqual
mirrored Greater = Less
mirrored GreaterEqual = LessEqual

-- the comparison that holds where the other one doesn't
abbrev pub opposite : Comparison → Comparison
opposite Equal = NotEqual
opposite NotEqual = Equal
opposite Less = GreaterEqual
opposite LessEqual = Greater
opposite Greater = LessEqual
opposite GreaterEqual = Less

-- the comparison of those that pass the test, or of those that fail it if `wanted` is false
abbrev pub sought : Comparison → Bool → Comparison
sought comparison true = comparison
sought comparison false = opposite comparison

-- the comparison of the number with the constant holds
abbrev pub Compares : Comparison → ℤ → ℤ → Type 0
Compares Equal n constant = n ≡ constant
Compares NotEqual n constant = n ≢ constant
Compares Less n constant = n <ℤ constant
Compares LessEqual n constant = n ≤ℤ constant
Compares Greater n constant = constant <ℤ n
Compares GreaterEqual n constant = constant ≤ℤ n

-- whether it holds of some number from `least` to `most`
abbrev pub holds_within : Comparison → ℤ → ℤ → ℤ → Bool
holds_within Equal least most constant = int_le least constant && int_le constant most
holds_within NotEqual least most constant = not (int_eq least constant) || not (int_eq most constant)
holds_within Less least most constant = int_lt least constant
holds_within LessEqual least most constant = int_le least constant
holds_within Greater least most constant = int_lt constant most
holds_within GreaterEqual least most constant = int_le constant most

-- whether some number from `least` to `most` passes the test, or fails it if `wanted` is false
abbrev pub is_open : Test → Bool → ℤ → ℤ → Bool
is_open test wanted least most = holds_within (sought test.comparison wanted) least most test.constant

abbrev pub is_equal : Comparison → Bool
is_equal Equal = true
is_equal _ = false

-- those of the signs of which some number passes the test, or fails it
abbrev pub signs_that : Signs → Test → Bool → Signs
signs_that s test wanted = record {
  minus_one = s.minus_one && is_open test wanted negative_one negative_one;
  below = s.below && is_open test wanted least_number (negsuc 1);
  zero = s.zero && is_open test wanted (pos 0) (pos 0);
  above = s.above && is_open test wanted (pos 1) greatest_number;
  only = None;
}

-- the same, and the number where only the constant passes
abbrev pub narrowed : Signs → Test → Bool → Signs
narrowed left test wanted =
    if not (has_no_sign left) && is_equal (sought test.comparison wanted) then exactly test.constant else left

abbrev pub left_of : Option ℤ → Signs → Test → Bool → Signs
left_of None s test wanted = narrowed (signs_that s test wanted) test wanted
left_of (Some n) s test wanted = if is_open test wanted n n then s else no_signs

-- what is left of the signs once the number passes the test, or fails it if `wanted` is false
abbrev pub signs_left : Signs → Test → Bool → Signs
signs_left s test wanted = left_of s.only s test wanted
