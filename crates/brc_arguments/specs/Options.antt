-- Each word that clap found is in the field of the request that is named as its option.
use Rattle.std.specs.Prelude.{◌≡◌, ℕ, List, [], length, Option, None, Some, map, option_map, codes}
use Rattle.std.specs.Str.Parse.{digits_value, without_leading_plus}
use Rattle.clap.specs.declared.parser.matches.ArgMatches.{ArgMatches}
use Rattle.clap.specs.Words.{found_of, first_value, matched_of, one_text, raw_values}
use Rattle.brc_command.specs.declared.asked.Asked.{Asked}
use Rattle.brc_command.specs.declared.asked.Asked.TheVariants.{Run as ToRun, Check as ToCheck, Step as ToStep, Draw as ToDraw}
use Rattle.brc_command.specs.declared.asked.Run.{Run}
use Rattle.brc_command.specs.declared.asked.TheConstants.{NO_BOUND}
use Rattle.brc_command.specs.declared.files.Format.TheVariants.{Text, All, Json}
use Rattle.brc_arguments.specs.declared.request.Request.{Request}
use Rattle.brc_arguments.specs.declared.request.Request.TheVariants.{One, Counted, Files}

abbrev pub word_of : ArgMatches → List ℕ → Option (List ℕ)
word_of m name = first_value (found_of m) name

-- the number that the option's text gives
abbrev pub IsNumberOf : ArgMatches → List ℕ → ℕ → Type 0
IsNumberOf m name n =
    (t : List ℕ) → one_text (found_of m) name ≡ Some t → n ≡ digits_value 10 (without_leading_plus t)

-- the same, or this other number if the option has no text
abbrev pub IsNumberOr : ℕ → ArgMatches → List ℕ → ℕ → Type 0
IsNumberOr other m name n = IsNumberOf m name n × (one_text (found_of m) name ≡ None → n ≡ other)

abbrev pub all_words : Option (List (List ℕ)) → List (List ℕ)
all_words None = []
all_words (Some words) = words

-- all words of the option, in the order of the command line
abbrev pub words_of : ArgMatches → List ℕ → List (List ℕ)
words_of m name = all_words (option_map raw_values (matched_of (found_of m) name))

pub record IsRunOf (m : ArgMatches) (run : Run) : Type 0 where
  pub file : word_of m (codes "FILE") ≡ Some run.file.now
  pub function : word_of m (codes "call") ≡ Some run.function.now
  pub threads : IsNumberOf m (codes "threads") run.threads
  pub rows : IsNumberOf m (codes "rows") run.rows
  pub times : IsNumberOf m (codes "times") run.times
  pub steps : IsNumberOr NO_BOUND m (codes "steps") run.steps
  pub paths : map (λ p. p.now) run.paths.now ≡ words_of m (codes "path")
  pub peers : map (λ p. p.now) run.peers.now ≡ words_of m (codes "peer")

-- the run is the command line's, and its meetings are counted if the flag says so
abbrev pub AsksToRun : ArgMatches → Request → Type 0
AsksToRun m (One (ToRun run)) = IsRunOf m run × (one_text (found_of m) (codes "counts") ≡ Some (codes "true") → ⊥)
AsksToRun m (Counted run) = IsRunOf m run × (one_text (found_of m) (codes "counts") ≡ None → ⊥)
AsksToRun m _ = ⊥

abbrev pub AsksToStep : ArgMatches → Asked → Type 0
AsksToStep m (ToStep file schedule trace) =
    (word_of m (codes "FILE") ≡ Some file.now) × (word_of m (codes "SCHEDULE") ≡ Some schedule.now)
AsksToStep m (ToDraw file schedule picture) = (word_of m (codes "FILE") ≡ Some file.now)
    × (word_of m (codes "SCHEDULE") ≡ Some schedule.now) × (word_of m (codes "svg") ≡ Some picture.now)
AsksToStep m _ = ⊥

abbrev pub AsksForJson : ArgMatches → Type 0
AsksForJson m = word_of m (codes "format") ≡ Some (codes "json")

-- the files of the command line are checked, and a file alone is checked as ever, unless its object is asked for
abbrev pub AsksToCheck : ArgMatches → Request → Type 0
AsksToCheck m (One (ToCheck file)) = (word_of m (codes "FILE") ≡ Some file.now)
    × (length (words_of m (codes "FILE")) ≡ 1) × (AsksForJson m → ⊥)
AsksToCheck m (Files files Text) = (map (λ f. f.now) files.now ≡ words_of m (codes "FILE")) × (AsksForJson m → ⊥)
AsksToCheck m (Files files All) = (map (λ f. f.now) files.now ≡ words_of m (codes "FILE")) × (AsksForJson m → ⊥)
AsksToCheck m (Files files (Json None)) = (map (λ f. f.now) files.now ≡ words_of m (codes "FILE")) × AsksForJson m
AsksToCheck m _ = ⊥
