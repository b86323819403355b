-- The names and numbers of faults.
use Rattle.std.specs.Prelude.{ℕ, List, codes, Option, Some, None}
use Rattle.qa_base.specs.declared.key.Key.{Key}
use Rattle.qa_format.specs.declared.fault.Fault.{Fault}
use Rattle.qa_format.specs.declared.fault.Fault.TheVariants as fault

abbrev pub fault_name : Fault → List ℕ
fault_name fault.NotJson = codes "not-json"
fault_name fault.NotObject = codes "not-object"
fault_name (fault.Missing k) = codes "missing"
fault_name (fault.WrongKind k) = codes "wrong-kind"
fault_name (fault.OutOfRange k) = codes "out-of-range"
fault_name fault.UnknownEvent = codes "unknown-event"
fault_name fault.HeaderPlace = codes "header-place"
fault_name fault.LineTooLong = codes "line-too-long"
fault_name fault.FlagsClash = codes "flags-clash"
fault_name fault.Version = codes "version"
fault_name fault.TooManyLines = codes "too-many-lines"

abbrev pub fault_number : Fault → ℕ
fault_number fault.NotJson = 1
fault_number fault.NotObject = 2
fault_number (fault.Missing k) = 3
fault_number (fault.WrongKind k) = 4
fault_number (fault.OutOfRange k) = 5
fault_number fault.UnknownEvent = 6
fault_number fault.HeaderPlace = 7
fault_number fault.LineTooLong = 8
fault_number fault.FlagsClash = 9
fault_number fault.Version = 10
fault_number fault.TooManyLines = 11

-- the key that a fault is about
abbrev pub key_of : Fault → Option Key
key_of (fault.Missing k) = Some k
key_of (fault.WrongKind k) = Some k
key_of (fault.OutOfRange k) = Some k
key_of _ = None
