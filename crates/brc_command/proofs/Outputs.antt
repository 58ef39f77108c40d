-- The bytes on a writer after a line, or after two parts of one, whether or not the writer returned an error.
use Rattle.std.proofs.Common.{ℕ, List, [], ◌++◌, Option, Result, Ok, Err, OnOk, OnErr, sym, append-nil}
use Rattle.std.specs.Io.KnownBytes.{Appends}
use Rattle.brc_lang.specs.Written.{AppendsBeginning}
use Rattle.brc_command.proofs.Writing.{first_begun, second_begun}

pub begun_anyway : {T E : Type 0} (r : Result T E) (old new : Option (List ℕ)) (bytes : List ℕ)
    → OnOk r (Appends old new bytes) → OnErr r (AppendsBeginning old new bytes) → AppendsBeginning old new bytes
begun_anyway (Ok x) old new bytes whole begun =
    record { front = bytes; rest = []; parts = sym (append-nil bytes); appended = whole }
begun_anyway (Err e) old new bytes whole begun = begun

-- the first part ends with an error
pub first_stopped : {T E : Type 0} (r : Result T E) (old new : Option (List ℕ)) (first second : List ℕ)
    → AppendsBeginning old new first → OnErr r (AppendsBeginning old new (first ++ second))
first_stopped (Ok x) old new first second begun = tt
first_stopped (Err e) old new first second begun = first_begun old new first second begun

-- the second part ends with an error
pub second_stopped : {T E : Type 0} (r : Result T E) (old mid new : Option (List ℕ)) (first second : List ℕ)
    → Appends old mid first → OnErr r (AppendsBeginning mid new second)
    → OnErr r (AppendsBeginning old new (first ++ second))
second_stopped (Ok x) old mid new first second whole begun = tt
second_stopped (Err e) old mid new first second whole begun = second_begun old mid new first second whole begun
