use Rattle.brc_command.proofs.rerun.end_unwritten.Goals as goal

-- the run without its trace is the same one

pub write_run-requires-clause-fits : goal.write_run-requires-clause-fits
write_run-requires-clause-fits g c κs inside =
    let fits = c.requires.fits in record {
      «module» = fits.«module»;
      some_rows = fits.some_rows;
      most_rows = fits.most_rows;
      calls = fits.calls;
    }

pub returns-in-Ok-Wrong-clause-ended : goal.returns-in-Ok-Wrong-clause-ended
returns-in-Ok-Wrong-clause-ended g c =
    let wrong = rw c.in-Ok-Wrong.field-0-is at c.in-Ok-Wrong.ensures.ended in
    record { count = wrong.count; wrong = wrong.wrong }
