-- Writes one after another, of which one stops at an error.
use Rattle.std.proofs.Common.{◌≡◌, ℕ, ◌∙◌, List, [], ◌++◌, Option, None, Some, refl, sym, ap, append_assoc, subst}
use Rattle.std.proofs.lemmas.List.{append-nil}
use Rattle.std.specs.Io.KnownBytes.{Appends}
use Rattle.std.proofs.KnownBytes.{Appends-trans}
use Rattle.brc_lang.specs.Written.{AppendsBeginning}

pub nothing_appended : (a : Option (List ℕ)) → Appends a a []
nothing_appended None = tt
nothing_appended (Some xs) = sym (append-nil xs)

-- nothing has been written
pub not_begun : (a : Option (List ℕ)) (bytes : List ℕ) → AppendsBeginning a a bytes
not_begun a bytes = record {
  front = [];
  rest = bytes;
  parts = refl;
  appended = nothing_appended a;
}

pub begins_early : (a b : Option (List ℕ)) (bytes xs ys : List ℕ) → bytes ≡ xs ++ ys → AppendsBeginning a b xs
    → AppendsBeginning a b bytes
begins_early a b bytes xs ys is begun = record {
  front = begun.front;
  rest = begun.rest ++ ys;
  parts = is ∙ ap (λ l. l ++ ys) begun.parts ∙ append_assoc begun.front begun.rest ys;
  appended = begun.appended;
}

pub begins_late : (a b c : Option (List ℕ)) (bytes xs ys : List ℕ) → bytes ≡ xs ++ ys → Appends a b xs
    → AppendsBeginning b c ys → AppendsBeginning a c bytes
begins_late a b c bytes xs ys is first begun = record {
  front = xs ++ begun.front;
  rest = begun.rest;
  parts = is ∙ ap (λ l. xs ++ l) begun.parts ∙ sym (append_assoc xs begun.front begun.rest);
  appended = Appends-trans a b c xs begun.front first begun.appended;
}

-- two writes, one after another
pub both_written : (a b c : Option (List ℕ)) (bytes xs ys : List ℕ) → bytes ≡ xs ++ ys → Appends a b xs → Appends b c ys
    → Appends a c bytes
both_written a b c bytes xs ys is first second =
    subst (Appends a c) (sym is) (Appends-trans a b c xs ys first second)
