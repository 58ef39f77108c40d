use Rattle.brc_lang.proofs.RoundTrips.{texts_round_trip}
use Rattle.brc_lang.proofs.laws.texts_round_trip.Goals as goal

pub returns : goal.returns
returns c = texts_round_trip
