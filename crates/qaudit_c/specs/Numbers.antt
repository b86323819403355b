-- The numbers by which C names things.
use Rattle.std.specs.Prelude.{ℕ, ◌==◌, if◌then◌else◌, Option, Some, None, option_map, List, []}
use Rattle.qa_base.specs.declared.key.Key.{Key}
use Rattle.qa_base.specs.declared.key.Key.TheVariants as key
use Rattle.qa_base.specs.declared.rule.Field.{Field}
use Rattle.qa_base.specs.declared.rule.Field.TheVariants as field
use Rattle.qa_base.specs.declared.rule.Rule.{Rule}
use Rattle.qa_base.specs.declared.rule.Rule.TheVariants as rule
use Rattle.qa_base.specs.declared.space.Role.{Role}
use Rattle.qa_base.specs.declared.space.Role.TheVariants.{Client, Server}
use Rattle.qa_base.specs.declared.space.Space.{Space}
use Rattle.qa_base.specs.declared.space.Space.TheVariants.{Initial, Handshake, App}
use Rattle.qa_base.specs.declared.space.TimeUnit.{TimeUnit}
use Rattle.qa_base.specs.declared.space.TimeUnit.TheVariants.{Microseconds, Nanoseconds}
use Rattle.qa_base.specs.declared.space.Controller.{Controller}
use Rattle.qa_base.specs.declared.space.Controller.TheVariants.{NewReno, Reported}
use Rattle.qa_base.specs.declared.space.LossByNumber.{LossByNumber}
use Rattle.qa_base.specs.declared.space.LossByNumber.TheVariants.{Must, May}
use Rattle.qa_base.specs.declared.space.ThresholdCounts.{ThresholdCounts}
use Rattle.qa_base.specs.declared.space.ThresholdCounts.TheVariants.{Numbers, Packets}
use Rattle.qa_base.specs.declared.space.TimerKind.{TimerKind}
use Rattle.qa_base.specs.declared.space.TimerKind.TheVariants.{Loss, Pto}
use Rattle.qa_base.specs.declared.space.Permission.{Permission}
use Rattle.qa_base.specs.declared.space.Permission.TheVariants.{Window, Probe, Recovery}
use Rattle.qa_base.specs.values.Names.{rule_name, key_name, field_of}
use Rattle.qa_format.specs.declared.fault.Fault.{Fault}
use Rattle.qa_format.specs.declared.fault.Fault.TheVariants as fault
use Rattle.qa_format.specs.format.Faults.{fault_name}

-- ---- what an event and a header name

abbrev pub space_numbered : ℕ → Option Space
space_numbered n =
    if n == 0 then Some Initial
    else (if n == 1 then Some Handshake else (if n == 2 then Some App else None))

abbrev pub permission_numbered : ℕ → Option Permission
permission_numbered n =
    if n == 0 then Some Window
    else (if n == 1 then Some Probe else (if n == 2 then Some Recovery else None))

abbrev pub timer_numbered : ℕ → Option TimerKind
timer_numbered n = if n == 0 then Some Loss else (if n == 1 then Some Pto else None)

abbrev pub role_numbered : ℕ → Option Role
role_numbered n = if n == 0 then Some Client else (if n == 1 then Some Server else None)

abbrev pub unit_numbered : ℕ → Option TimeUnit
unit_numbered n = if n == 0 then Some Microseconds else (if n == 1 then Some Nanoseconds else None)

abbrev pub controller_numbered : ℕ → Option Controller
controller_numbered n = if n == 0 then Some NewReno else (if n == 1 then Some Reported else None)

abbrev pub loss_by_number_numbered : ℕ → Option LossByNumber
loss_by_number_numbered n = if n == 0 then Some Must else (if n == 1 then Some May else None)

abbrev pub threshold_counts_numbered : ℕ → Option ThresholdCounts
threshold_counts_numbered n =
    if n == 0 then Some Numbers else (if n == 1 then Some Packets else None)

-- ---- rules, faults and keys

abbrev pub rule_numbered : ℕ → Option Rule
rule_numbered n =
    if n == 1 then Some rule.TimeBack
    else (if n == 2 then Some rule.LossOwed
    else (if n == 3 then Some rule.LossNotOwed
    else (if n == 4 then Some rule.LossSet
    else (if n == 5 then Some rule.SpaceGone
    else (if n == 6 then Some rule.NumberNotHigher
    else (if n == 7 then Some rule.PastWindow
    else (if n == 8 then Some rule.PastProbe
    else (if n == 9 then Some rule.PastRecovery
    else (if n == 10 then Some rule.AckUnsent
    else (if n == 11 then Some rule.TimerNotSet
    else (if n == 12 then Some rule.TimerOther
    else (if n == 13 then Some rule.TimerEarly
    else (if n == 14 then Some rule.ProbeOwed
    else (if n == 15 then Some rule.NotConfirmed
    else (if n == 16 then Some
    (rule.Metric field.Window)
    else (if n == 17 then Some rule.OwedAtEnd
    else (if n == 18 then Some rule.TimerLate
    else (if n == 19 then Some rule.CollapseMissing else None))))))))))))))))))

abbrev pub fault_numbered : ℕ → Option Fault
fault_numbered n =
    if n == 1 then Some fault.NotJson
    else (if n == 2 then Some fault.NotObject
    else (if n == 3 then Some
    (fault.Missing key.Event)
    else (if n == 4 then Some
    (fault.WrongKind key.Event)
    else (if n == 5 then Some
    (fault.OutOfRange key.Event)
    else (if n == 6 then Some fault.UnknownEvent
    else (if n == 7 then Some fault.HeaderPlace
    else (if n == 8 then Some fault.LineTooLong
    else (if n == 9 then Some fault.FlagsClash
    else (if n == 10 then Some fault.Version
    else (if n == 11 then Some fault.TooManyLines else None))))))))))

abbrev pub field_number : Field → ℕ
field_number field.Window = 30
field_number field.Ssthresh = 31
field_number field.BytesInFlight = 32
field_number field.LatestRtt = 33
field_number field.MinRtt = 34
field_number field.SmoothedRtt = 35
field_number field.Rttvar = 36

abbrev pub key_number : Key → ℕ
key_number key.Event = 1
key_number key.Version = 2
key_number key.Role = 3
key_number key.Unit = 4
key_number key.Window = 5
key_number key.MaxDatagramSize = 6
key_number key.MaxAckDelay = 7
key_number key.InitialRtt = 8
key_number key.InitialWindow = 9
key_number key.TimerLateUs = 10
key_number key.RefreshMinRtt = 11
key_number key.ReportSlackUs = 12
key_number key.ReportSlackBytes = 13
key_number key.WindowOvershoot = 14
key_number key.SampleElicitingOnly = 15
key_number key.PacketThreshold = 16
key_number key.TimerEarlyUs = 17
key_number key.LossByNumber = 18
key_number key.Time = 19
key_number key.Space = 20
key_number key.Number = 21
key_number key.Size = 22
key_number key.Eliciting = 23
key_number key.InFlight = 24
key_number key.Leave = 25
key_number key.Ranges = 26
key_number key.Delay = 27
key_number key.Limited = 28
key_number key.Kind = 29
key_number (key.Metric f) = field_number f
key_number key.LatestRttLessDelay = 37
key_number key.TimeThresholdEighths = 38
key_number key.ThresholdCounts = 39
key_number key.ResetRtt = 40
key_number key.RecoveryByOrder = 41

abbrev pub key_numbered : ℕ → Option Key
key_numbered n =
    if n == 1 then Some key.Event
    else (if n == 2 then Some key.Version
    else (if n == 3 then Some key.Role
    else (if n == 4 then Some key.Unit
    else (if n == 5 then Some key.Window
    else (if n == 6 then Some key.MaxDatagramSize
    else (if n == 7 then Some key.MaxAckDelay
    else (if n == 8 then Some key.InitialRtt
    else (if n == 9 then Some key.InitialWindow
    else (if n == 10 then Some key.TimerLateUs
    else (if n == 11 then Some key.RefreshMinRtt
    else (if n == 12 then Some key.ReportSlackUs
    else (if n == 13 then Some key.ReportSlackBytes
    else (if n == 14 then Some key.WindowOvershoot
    else (if n == 15 then Some key.SampleElicitingOnly
    else (if n == 16 then Some key.PacketThreshold
    else (if n == 17 then Some key.TimerEarlyUs
    else (if n == 18 then Some key.LossByNumber
    else (if n == 19 then Some key.Time
    else (if n == 20 then Some key.Space
    else (if n == 21 then Some key.Number
    else (if n == 22 then Some key.Size
    else (if n == 23 then Some key.Eliciting
    else (if n == 24 then Some key.InFlight
    else (if n == 25 then Some key.Leave
    else (if n == 26 then Some key.Ranges
    else (if n == 27 then Some key.Delay
    else (if n == 28 then Some key.Limited
    else (if n == 29 then Some key.Kind
    else (if n == 30 then Some
    (key.Metric field.Window)
    else (if n == 31 then Some
    (key.Metric field.Ssthresh)
    else (if n == 32 then Some
    (key.Metric field.BytesInFlight)
    else (if n == 33 then Some
    (key.Metric field.LatestRtt)
    else (if n == 34 then Some
    (key.Metric field.MinRtt)
    else (if n == 35 then Some
    (key.Metric field.SmoothedRtt)
    else (if n == 36 then Some
    (key.Metric field.Rttvar)
    else (if n == 37 then Some key.LatestRttLessDelay
    else (if n == 38 then Some key.TimeThresholdEighths
    else (if n == 39 then Some key.ThresholdCounts
    else (if n == 40 then Some key.ResetRtt
    else (if n == 41 then Some
    key.RecoveryByOrder else None))))))))))))))))))))))))))))))))))))))))

-- the key of the value that a rule is about
abbrev pub rule_subject : Rule → Option Key
rule_subject r = option_map (λ (f : Field). key.Metric f) (field_of r)

abbrev pub subject_number : Option Key → ℕ
subject_number None = 0
subject_number (Some k) = key_number k

-- ---- names by number; nothing where there is none

abbrev pub rule_named : Option Rule → List ℕ
rule_named None = []
rule_named (Some r) = rule_name r

abbrev pub fault_named : Option Fault → List ℕ
fault_named None = []
fault_named (Some f) = fault_name f

abbrev pub key_named : Option Key → List ℕ
key_named None = []
key_named (Some k) = key_name k
