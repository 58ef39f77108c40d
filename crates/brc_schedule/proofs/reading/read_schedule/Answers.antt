use Rattle.brc_schedule.proofs.Uniqueness.{only, refused}
use Rattle.brc_schedule.proofs.reading.read_schedule.Goals as goal

pub returns-clause-only : goal.returns-clause-only
returns-clause-only c = only c.texts_round_trip.ensures c.args.bytes.now c.read_lines.result c.read_lines.ensures

pub returns-clause-refused : goal.returns-clause-refused
returns-clause-refused c = refused c.texts_round_trip.ensures c.args.bytes.now c.read_lines.result c.read_lines.ensures
