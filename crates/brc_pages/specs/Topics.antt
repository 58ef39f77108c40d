-- The codes that can be explained, by their names.
use Rattle.std.specs.Prelude.{ℕ, if◌then◌else◌, List, Option, None, Some, codes}
use Rattle.std.specs.Str.{bytes_eq}
use Rattle.brc_lang.specs.declared.fault.FaultCode.TheVariants.{FirstLine, UnknownWord, Number, Target, NameTwice}
use Rattle.brc_lang.specs.declared.fault.FaultCode.TheVariants.{OverLimit, CutOff, NoMemory as MemoryOfReader, Callee}
use Rattle.brc_lang.specs.declared.fault.FaultCode.TheVariants.{StaticList}
use Rattle.brc_lang.specs.declared.check_code.CheckCode.TheVariants.{EmptyUsed, WrongKind, NotOwned, StillOwns, LeftOwned}
use Rattle.brc_lang.specs.declared.check_code.CheckCode.TheVariants.{LeftLocked, SecondLock, NotLocked, LockedChanged}
use Rattle.brc_lang.specs.declared.check_code.CheckCode.TheVariants.{StatesDiffer, RunsOff, NoMemory}
use Rattle.brc_pages.specs.declared.topic.Topic.{Topic}
use Rattle.brc_pages.specs.declared.topic.Topic.TheVariants.{Check, Read}

-- why a text can't be read: L1 to L10
abbrev pub read_topic_named : List ℕ → Option Topic
read_topic_named word =
    if bytes_eq word (codes "L1") then Some (Read FirstLine)
    else if bytes_eq word (codes "L2") then Some (Read UnknownWord)
    else if bytes_eq word (codes "L3") then Some (Read Number)
    else if bytes_eq word (codes "L4") then Some (Read Target)
    else if bytes_eq word (codes "L5") then Some (Read NameTwice)
    else if bytes_eq word (codes "L6") then Some (Read OverLimit)
    else if bytes_eq word (codes "L7") then Some (Read CutOff)
    else if bytes_eq word (codes "L8") then Some (Read MemoryOfReader)
    else if bytes_eq word (codes "L9") then Some (Read Callee)
    else if bytes_eq word (codes "L10") then Some (Read StaticList)
    else None

-- why a module is refused: C1 to C12, or one of those above
abbrev pub topic_named : List ℕ → Option Topic
topic_named word =
    if bytes_eq word (codes "C1") then Some (Check EmptyUsed)
    else if bytes_eq word (codes "C2") then Some (Check WrongKind)
    else if bytes_eq word (codes "C3") then Some (Check NotOwned)
    else if bytes_eq word (codes "C4") then Some (Check StillOwns)
    else if bytes_eq word (codes "C5") then Some (Check LeftOwned)
    else if bytes_eq word (codes "C6") then Some (Check LeftLocked)
    else if bytes_eq word (codes "C7") then Some (Check SecondLock)
    else if bytes_eq word (codes "C8") then Some (Check NotLocked)
    else if bytes_eq word (codes "C9") then Some (Check LockedChanged)
    else if bytes_eq word (codes "C10") then Some (Check StatesDiffer)
    else if bytes_eq word (codes "C11") then Some (Check RunsOff)
    else if bytes_eq word (codes "C12") then Some (Check NoMemory)
    else read_topic_named word
