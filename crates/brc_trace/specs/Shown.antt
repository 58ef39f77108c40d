-- What a trace shows of one thread.
use Rattle.std.specs.Prelude.{ℕ, ◌==◌, if◌then◌else◌, List, []}
use Rattle.std.specs.List.{flat_map}
use Rattle.brc_model.specs.declared.event.WordEvent.{WordEvent}
use Rattle.brc_machine.specs.Sights.{words_of}
use Rattle.brc_trace.specs.declared.entry.Entry.{Entry}

-- the word events that the entry shows, if it is the thread's
abbrev pub entry_words : ℕ → Entry → List WordEvent
entry_words t e = if e.thread == t then words_of e.sight.event else []

-- the word events that the entries of thread t show, in order
abbrev pub words_in : ℕ → List Entry → List WordEvent
words_in t entries = flat_map (entry_words t) entries
