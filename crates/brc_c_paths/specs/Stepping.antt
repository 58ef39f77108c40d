-- What the code finds of a way.
use Rattle.brc_c_store.specs.Stores.{contents_of}
use Rattle.brc_c_paths.specs.declared.stepping.Way.{Way}
use Rattle.brc_c_paths.specs.declared.stepping.Way.TheVariants as ways
use Rattle.brc_c_paths.specs.Paths.{GraphWay, Nowhere, Exceeds, To}

abbrev pub way_found : Way → GraphWay
way_found ways.Nowhere = Nowhere
way_found ways.Exceeds = Exceeds
way_found (ways.To node store) = To (record { node = node; store = contents_of store })
