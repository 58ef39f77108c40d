-- Lines, words and numbers are found again as they were spelled: the law on which the crates above rest.
use Rattle.std.proofs.Common.{◌∷◌, refl, ap, ◌∙◌}
use Rattle.std.specs.List.{slice_split}
use Rattle.brc_lang.specs.Fault.{is_line_feed}
use Rattle.brc_lang.specs.RoundTrips.{TextsRoundTrip}
use Rattle.brc_lang.proofs.Cuts.{first_part, one_part}
use Rattle.brc_lang.proofs.Lines.{line_at, line_any, line_before, line_cut, line_kept, line_count_one}
use Rattle.brc_lang.proofs.Words.{joined, spaced_words, spaced_plain}
use Rattle.brc_lang.proofs.Spelling.{number_spelled, number_again, number_plain, name_no_space, name_plain}

pub texts_round_trip : TextsRoundTrip
texts_round_trip = record {
  line_laws = record {
    ended = line_any;
    first = line_before;
    parts =
        λ text rest plain. ap (slice_split is_line_feed) (line_at text rest)
        ∙ first_part is_line_feed text 10 rest plain refl;
    counted = line_count_one;
    cut = line_cut;
    uncut = one_part is_line_feed;
    kept = line_kept;
  };
  word_laws = record {
    joined = joined;
    found = λ w ws plain. spaced_words (w ∷ ws) plain;
    plain = λ w ws plain. spaced_plain (w ∷ ws) plain;
  };
  number_laws = record { spelled = number_spelled; found = number_again; plain = number_plain };
  names_plain = λ name fits. (name_no_space name fits, name_plain name fits);
}
