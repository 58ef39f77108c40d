-- The codes by which people and programs know a fault of a text, L1 to L10, and a refusal of the checker, C1 to C12.
use Rattle.std.specs.Prelude.{ℕ, List, codes}
use Rattle.brc_lang.specs.declared.fault.FaultCode.{FaultCode}
use Rattle.brc_lang.specs.declared.fault.FaultCode.TheVariants as faults
use Rattle.brc_lang.specs.declared.check_code.CheckCode.{CheckCode}
use Rattle.brc_lang.specs.declared.check_code.CheckCode.TheVariants as checks

abbrev pub fault_code : FaultCode → List ℕ
fault_code faults.FirstLine = codes "L1"
fault_code faults.UnknownWord = codes "L2"
fault_code faults.Number = codes "L3"
fault_code faults.Target = codes "L4"
fault_code faults.NameTwice = codes "L5"
fault_code faults.OverLimit = codes "L6"
fault_code faults.CutOff = codes "L7"
fault_code faults.NoMemory = codes "L8"
fault_code faults.Callee = codes "L9"
fault_code faults.StaticList = codes "L10"

abbrev pub check_code : CheckCode → List ℕ
check_code checks.EmptyUsed = codes "C1"
check_code checks.WrongKind = codes "C2"
check_code checks.NotOwned = codes "C3"
check_code checks.StillOwns = codes "C4"
check_code checks.LeftOwned = codes "C5"
check_code checks.LeftLocked = codes "C6"
check_code checks.SecondLock = codes "C7"
check_code checks.NotLocked = codes "C8"
check_code checks.LockedChanged = codes "C9"
check_code checks.StatesDiffer = codes "C10"
check_code checks.RunsOff = codes "C11"
check_code checks.NoMemory = codes "C12"
