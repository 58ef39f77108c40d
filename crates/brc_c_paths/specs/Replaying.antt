-- What the code finds of a path.
use Rattle.brc_c_store.specs.Stores.{contents_of}
use Rattle.brc_c_paths.specs.declared.replaying.PathEnd.{PathEnd}
use Rattle.brc_c_paths.specs.declared.replaying.PathEnd.TheVariants as ends
use Rattle.brc_c_paths.specs.Paths.{GraphEnd, At, Ended, Breaks, NotFollowed}

abbrev pub end_found : PathEnd → GraphEnd
end_found (ends.At node store) = At (record { node = node; store = contents_of store })
end_found ends.Ended = Ended
end_found (ends.Breaks node code) = Breaks node code
end_found ends.NotFollowed = NotFollowed
