-- A name is stored as its text and zeros up to sixteen bytes, and a call's arguments with others up to four, so what is
-- stored is determined by the text and by the arguments.
use Rattle.std.proofs.Common.{◌≡◌, ℕ, ◌-◌, ◌≤◌, List, ◌++◌, length, take, sym, ap, arith}
use Rattle.std.specs.Prelude.{replicate}
use Rattle.std.proofs.lemmas.List.{length-take-le}
use Rattle.brc_lang.specs.declared.name.Name.TheInside.{Inside}
use Rattle.brc_lang.specs.declared.arguments.Arguments.TheInside as arguments
use Rattle.brc_lang.specs.declared.kind.Kind.TheVariants as kinds
use Rattle.brc_lang.specs.declared.parameter.Argument.{Argument}
use Rattle.brc_lang.specs.declared.parameter.Passing.TheVariants as passings
use Rattle.brc_lang.specs.Limits.{name_limit, parameter_limit}

pub restored : (n : Inside) → n.len ≤ name_limit → length n.bytes ≡ name_limit
    → n.bytes ≡ take n.len n.bytes ++ replicate (name_limit - n.len) 0
    → (let text = take n.len n.bytes in let made : Inside =
    record { bytes = text ++ replicate (name_limit - length text) 0; len = length text } in made ≡ n)
restored n short full padded =
    let len : length (take n.len n.bytes) ≡ n.len = length-take-le n.len n.bytes (omega arith) in
    rw len (ap (λ (b : List ℕ). let made : Inside = record { bytes = b; len = n.len } in made) (sym padded))

-- what stands behind the arguments
abbrev pub no_argument : Argument
no_argument = record { from = 0; parameter = record { passing = passings.Borrow; kind = kinds.None } }

pub restored_arguments : (a : arguments.Inside) → a.len ≤ parameter_limit → length a.items ≡ parameter_limit
    → a.items ≡ take a.len a.items ++ replicate (parameter_limit - a.len) no_argument
    → (let items = take a.len a.items in let made : arguments.Inside =
    record { items = items ++ replicate (parameter_limit - length items) no_argument; len = length items } in made ≡ a)
restored_arguments a short full padded =
    let len : length (take a.len a.items) ≡ a.len = length-take-le a.len a.items (omega arith) in
    rw len
    (ap (λ (b : List Argument). let made : arguments.Inside = record { items = b; len = a.len } in made) (sym padded))
