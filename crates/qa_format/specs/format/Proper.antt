-- Which headers, events and lines there are.
use Rattle.std.specs.Prelude.{◌≡◌, ℕ, ◌≤◌, ◌<◌, ◌^◌, true, Option}
use Rattle.std.specs.List.{AllByRecursion}
use Rattle.std.specs.Option.{ForSome}
use Rattle.qa_base.specs.declared.event.Event.{Event}
use Rattle.qa_base.specs.declared.event.Event.TheVariants.{Sent, Ack, Lost, Metrics}
use Rattle.qa_base.specs.declared.event.MetricValues.{MetricValues}
use Rattle.qa_format.specs.declared.line.Line.{Line}
use Rattle.qa_format.specs.declared.line.Line.TheVariants as line
use Rattle.qa_base.specs.values.Events.{time_of, fits}
use Rattle.qa_base.specs.values.Limits.{max_time, max_packet_number}
use Rattle.qa_base.specs.values.Settings.{AreInRange}

-- a range of packet numbers
abbrev pub IsRange : ℕ × ℕ → Type 0
IsRange range = (range.0 ≤ range.1) × (range.1 ≤ max_packet_number)

-- a value of 64 bits, where there is one
abbrev pub IsWord : Option ℕ → Type 0
IsWord value = ForSome value (λ n. n < 2 ^ 64)

abbrev pub AreWords : MetricValues → Type 0
AreWords values =
    IsWord values.window × IsWord values.ssthresh × IsWord values.bytes_in_flight
    × IsWord values.latest_rtt × IsWord values.min_rtt × IsWord values.smoothed_rtt
    × IsWord values.rttvar

-- the numbers of an event are in their ranges
abbrev pub HasProperNumbers : Event → Type 0
HasProperNumbers (Sent packet) = packet.number ≤ max_packet_number
HasProperNumbers (Ack ack) = AllByRecursion IsRange ack.ranges × (ack.delay < 2 ^ 64)
HasProperNumbers (Lost time space ranges) = AllByRecursion IsRange ranges
HasProperNumbers (Metrics time values) = AreWords values
HasProperNumbers _ = Unit {0}

-- the event is one that there is
pub record IsProperEvent (e : Event) : Type 0 where
  pub fitting : fits e ≡ true
  pub in_time : time_of e ≤ max_time
  pub numbers : HasProperNumbers e

-- what the line says is something that there is
abbrev pub IsProperLine : Line → Type 0
IsProperLine line.Blank = Unit {0}
IsProperLine (line.Header s) = AreInRange s
IsProperLine (line.Event e) = IsProperEvent e
