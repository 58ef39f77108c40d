-- Bytes that are written in two parts.
use Rattle.std.proofs.Common.{ℕ, List, [], ◌++◌, Option, Some, None, refl, sym, ap, ◌∙◌, append_assoc, append-nil}
use Rattle.std.specs.Io.KnownBytes.{Appends}
use Rattle.brc_lang.specs.Written.{AppendsBeginning}

pub both_written : (old mid new : Option (List ℕ)) (first second : List ℕ) → Appends old mid first
    → Appends mid new second → Appends old new (first ++ second)
both_written None mid new first second begun ended = tt
both_written (Some xs) None new first second begun ended = absurd begun
both_written (Some xs) (Some ys) None first second begun ended = absurd ended
both_written (Some xs) (Some ys) (Some zs) first second begun ended =
    ended ∙ ap (λ l. l ++ second) begun ∙ append_assoc xs first second

pub nothing_written : (old : Option (List ℕ)) → Appends old old []
nothing_written None = tt
nothing_written (Some xs) = sym (append-nil xs)

-- a beginning of the first part
pub first_begun : (old new : Option (List ℕ)) (first second : List ℕ) → AppendsBeginning old new first
    → AppendsBeginning old new (first ++ second)
first_begun old new first second begun = record {
  front = begun.front;
  rest = begun.rest ++ second;
  parts = ap (λ l. l ++ second) begun.parts ∙ append_assoc begun.front begun.rest second;
  appended = begun.appended;
}

-- the first part, and a beginning of the second
pub second_begun : (old mid new : Option (List ℕ)) (first second : List ℕ) → Appends old mid first
    → AppendsBeginning mid new second → AppendsBeginning old new (first ++ second)
second_begun old mid new first second whole begun = record {
  front = first ++ begun.front;
  rest = begun.rest;
  parts = ap (λ l. first ++ l) begun.parts ∙ sym (append_assoc first begun.front begun.rest);
  appended = both_written old mid new first begun.front whole begun.appended;
}

pub nothing_begun : (old : Option (List ℕ)) (bytes : List ℕ) → AppendsBeginning old old bytes
nothing_begun old bytes = record { front = []; rest = bytes; parts = refl; appended = nothing_written old }
