-- The word of a kind is read as the kind, and no other word is.
use Rattle.std.proofs.Common.{◌≡◌, ◌≢◌, ℕ, true, List, Result, Ok, Err, refl, subst}
use Rattle.std.specs.Prelude.{codes}
use Rattle.std.specs.Str.{bytes_eq}
use Rattle.brc_lang.specs.declared.kind.Kind.{Kind}
use Rattle.brc_lang.specs.declared.kind.Kind.TheVariants as kinds
use Rattle.brc_lang.specs.declared.fault.FaultCode.{FaultCode}
use Rattle.brc_lang.specs.declared.fault.FaultCode.TheVariants.{UnknownWord}
use Rattle.brc_lang.specs.Grammar.{kind_name}
use Rattle.brc_lang.specs.InstructionWords.{kind_in}
use Rattle.brc_lang.specs.RoundTrips.{IsPlain}
use Rattle.brc_lang.proofs.Tests.{either_way, same_text}
use Rattle.brc_lang.proofs.Spelling.{ok_is}

abbrev pub NamesKind : List ℕ → Kind → Type 0
NamesKind word k = (word ≡ kind_name k) × (k ≢ kinds.Any)

kind_named : (word : List ℕ) (here k : Kind) → here ≢ kinds.Any → bytes_eq word (kind_name here) ≡ true
    → ◌≡◌ {A = Result Kind FaultCode} (Ok here) (Ok k) → NamesKind word k
kind_named word here k named same e =
    subst (NamesKind word) (ok_is here k e) (same_text word (kind_name here) same, named)

pub kind_spelled : (word : List ℕ) (k : Kind) → kind_in word ≡ Ok k → NamesKind word k
kind_spelled word k read =
    either_way (bytes_eq word (codes "none")) _ _ (Ok k) read (kind_named word kinds.None k (λ e. cc))
    (λ not_none.
    either_way (bytes_eq word (codes "num")) _ _ (Ok k) not_none (kind_named word kinds.Num k (λ e. cc))
    (λ not_num.
    either_way (bytes_eq word (codes "list")) _ _ (Ok k) not_num (kind_named word kinds.List k (λ e. cc))
    (λ not_list.
    either_way (bytes_eq word (codes "file")) _ _ (Ok k) not_list (kind_named word kinds.File k (λ e. cc))
    (λ not_file.
    either_way (bytes_eq word (codes "sock")) _ (Err UnknownWord) (Ok k) not_file
    (kind_named word kinds.Sock k (λ e. cc)) (λ never. absurd cc)))))

pub kind_again : (k : Kind) → k ≢ kinds.Any → kind_in (kind_name k) ≡ Ok k
kind_again kinds.None named = refl
kind_again kinds.Num named = refl
kind_again kinds.List named = refl
kind_again kinds.File named = refl
kind_again kinds.Sock named = refl
kind_again kinds.Any named = absurd (named refl)

pub kind_plain : (k : Kind) → IsPlain (kind_name k)
kind_plain kinds.None = (refl, refl)
kind_plain kinds.Num = (refl, refl)
kind_plain kinds.List = (refl, refl)
kind_plain kinds.File = (refl, refl)
kind_plain kinds.Sock = (refl, refl)
kind_plain kinds.Any = (refl, refl)
