-- Edges of losses that may be declared: which packets are free, and what a Lost line makes of them.
use Rattle.std.specs.Prelude.{◌≡◌, ◌+◌, true, false, ℕ, List, [], ◌∷◌, Some, None, refl}
use Rattle.qa_base.specs.declared.event.Event.{Event}
use Rattle.qa_base.specs.declared.rule.Rule.TheVariants as rule
use Rattle.qa_base.specs.declared.space.Controller.TheVariants.{Reported}
use Rattle.qa_base.specs.declared.space.LossByNumber.TheVariants.{May}
use Rattle.qa_base.specs.declared.space.Space.TheVariants.{Handshake, App}
use Rattle.qa_base.specs.machine.Breaches.{numbers}
use Rattle.qa_base.specs.machine.Loss.{bytes_in_flight, declared, free, is_persistent, owed}
use Rattle.qa_base.specs.machine.Reno.{is_entry, reno}
use Rattle.qa_base.specs.machine.Rules.{first_broken, IsRun}
use Rattle.qa_base.specs.machine.Timer.{deadline}
use Rattle.qa_base.specs.machine.Window.{acknowledged_since_collapse}
use Rattle.qa_base.specs.values.Settings.{Settings, no_options}
use Rattle.qa_laws.proofs.Shorthand.{server, choosing, reporting, sparing, sent, padded, ack, lost, loss_fires, metrics}
use Rattle.qa_laws.proofs.edges.Deadlines.{loss_at}

abbrev s : Settings
s = sparing (server 1200 12000)

-- the same where losses by number must be declared
abbrev strict : Settings
strict = reporting (server 1200 12000) 0

-- and with a packet threshold of four
abbrev patient : Settings
patient = choosing (server 1200 12000) (record no_options { controller = Reported; packet_threshold = 4; loss_by_number = May })

-- ---- by number

-- Packets 0 and 1 are four and three below packet 4, packets 2 and 3 are nearer. All are as old as the sample of 100000, which is less
-- than the loss delay of 112500.
abbrev two_free : List Event
two_free =
    ack App ((4, 4) ∷ []) 100000 ∷
    sent App 4 0 1200 ∷
    sent App 3 0 1200 ∷
    sent App 2 0 1200 ∷
    sent App 1 0 1200 ∷
    sent App 0 0 1200 ∷ []

-- What is owed where losses by number must be declared is free where they may.
pub what_must_be_declared_may_be :
    IsRun s two_free × (numbers (free s two_free) ≡ 1 ∷ 0 ∷ []) × (owed s two_free ≡ [])
    × IsRun strict two_free × (free strict two_free ≡ []) × (numbers (owed strict two_free) ≡ 1 ∷ 0 ∷ [])
    × IsRun patient two_free × (numbers (free patient two_free) ≡ 0 ∷ []) × (owed patient two_free ≡ [])
unfolding first_broken
what_must_be_declared_may_be = (((((((tt, refl), refl), refl), refl), refl), refl), refl, refl, ((((((tt, refl), refl), refl), refl), refl), refl), refl, refl, ((((((tt, refl), refl), refl), refl), refl), refl), refl, refl)

-- A Lost line names some of it, or all, and no number more; and none need come.
pub some_all_or_none_is_named :
    IsRun s (lost App ((0, 0) ∷ []) 100000 ∷ two_free)
    × IsRun s (lost App ((1, 1) ∷ []) 100000 ∷ two_free)
    × IsRun s (lost App ((1, 1) ∷ (0, 0) ∷ []) 100000 ∷ two_free)
    × IsRun s (sent App 5 100000 1200 ∷ two_free)
    × (first_broken s two_free (lost App ((0, 2) ∷ []) 100000) ≡ Some rule.LossSet)
    × (first_broken s two_free (lost App ((2, 2) ∷ []) 100000) ≡ Some rule.LossSet)
    × (first_broken s two_free (lost App ((0, 0) ∷ (4, 4) ∷ []) 100000) ≡ Some rule.LossSet)
    × (first_broken s two_free (lost Handshake ((0, 0) ∷ []) 100000) ≡ Some rule.LossNotOwed)
    × (first_broken patient two_free (lost App ((0, 1) ∷ []) 100000) ≡ Some rule.LossSet)
    × (first_broken strict two_free (lost App ((0, 0) ∷ []) 100000) ≡ Some rule.LossSet)
    × (first_broken strict two_free (sent App 5 100000 1200) ≡ Some rule.LossOwed)
unfolding first_broken
some_all_or_none_is_named = ((((((((tt, refl), refl), refl), refl), refl), refl), refl), (((((((tt, refl), refl), refl), refl), refl), refl), refl), (((((((tt, refl), refl), refl), refl), refl), refl), refl), (((((((tt, refl), refl), refl), refl), refl), refl), refl), refl, refl, refl, refl, refl, refl, refl)

-- It is free for the next event alone.
pub free_for_one_event :
    (free s (sent App 5 100000 1200 ∷ two_free) ≡ [])
    × (first_broken s (sent App 5 100000 1200 ∷ two_free) (lost App ((0, 0) ∷ []) 100000) ≡ Some rule.LossNotOwed)
    × (free s (lost App ((0, 0) ∷ []) 100000 ∷ two_free) ≡ [])
    × (first_broken s (lost App ((0, 0) ∷ []) 100000 ∷ two_free) (lost App ((1, 1) ∷ []) 100000) ≡ Some rule.LossNotOwed)
    × (numbers (free s (ack App ((3, 3) ∷ []) 100000 ∷ lost App ((0, 0) ∷ []) 100000 ∷ two_free)) ≡ 1 ∷ [])
    × (free s (ack App ((4, 4) ∷ []) 100000 ∷ lost App ((0, 0) ∷ []) 100000 ∷ two_free) ≡ [])
unfolding first_broken
free_for_one_event = (refl, refl, refl, refl, refl, refl)

-- ---- by age

-- Packet 0 is three below packet 3, and is 100000 older than its sample where that was sent at once.
abbrev aged : ℕ → List Event
aged later =
    ack App ((3, 3) ∷ []) (100000 + later) ∷
    sent App 3 later 1200 ∷
    sent App 2 later 1200 ∷
    sent App 1 later 1200 ∷
    sent App 0 0 1200 ∷ []

-- The loss delay is 112500: a packet of that age is owed, and one a microsecond younger is free.
pub what_is_old_is_owed :
    IsRun s (aged 12499) × (numbers (free s (aged 12499)) ≡ 0 ∷ []) × (owed s (aged 12499) ≡ [])
    × (first_broken s (aged 12499) (sent App 4 112499 1200) ≡ None)
    × IsRun s (aged 12500) × (free s (aged 12500) ≡ []) × (numbers (owed s (aged 12500)) ≡ 0 ∷ [])
    × (first_broken s (aged 12500) (sent App 4 112500 1200) ≡ Some rule.LossOwed)
    × (first_broken patient (aged 12499) (lost App ((0, 0) ∷ []) 112499) ≡ Some rule.LossNotOwed)
    × IsRun patient (lost App ((0, 0) ∷ []) 112500 ∷ aged 12500)
unfolding first_broken
what_is_old_is_owed = ((((((tt, refl), refl), refl), refl), refl), refl, refl, refl, (((((tt, refl), refl), refl), refl), refl), refl, refl, refl, refl, ((((((tt, refl), refl), refl), refl), refl), refl))

-- ---- a Lost line

-- What it names leaves the bytes in flight at the line. Recovery begins at the detection, whatever the time of the line.
pub the_detection_is_completed :
    IsRun s (lost App ((0, 0) ∷ []) 100050 ∷ two_free)
    × (numbers (declared s (lost App ((0, 0) ∷ []) 100050 ∷ two_free)) ≡ 0 ∷ [])
    × (bytes_in_flight s two_free ≡ 4800)
    × (bytes_in_flight s (lost App ((0, 0) ∷ []) 100050 ∷ two_free) ≡ 3600)
    × (is_entry s two_free ≡ false)
    × (is_entry s (lost App ((0, 0) ∷ []) 100050 ∷ two_free) ≡ true)
    × ((reno s (lost App ((0, 0) ∷ []) 100050 ∷ two_free)).recovery_start_time ≡ Some 100000)
    × (is_entry strict two_free ≡ true)
    × (declared strict (lost App ((0, 1) ∷ []) 100050 ∷ two_free) ≡ [])
    × (is_entry strict (lost App ((0, 1) ∷ []) 100050 ∷ two_free) ≡ false)
    × ((reno strict (lost App ((0, 1) ∷ []) 100050 ∷ two_free)).recovery_start_time ≡ Some 100000)
unfolding first_broken
the_detection_is_completed = ((((((((tt, refl), refl), refl), refl), refl), refl), refl), refl, refl, refl, refl, refl, refl, refl, refl, refl, refl)

-- Packets 0 and 1 are sent ten microseconds before the others.
abbrev two_times : List Event
two_times =
    ack App ((4, 4) ∷ []) 100010 ∷
    sent App 4 10 1200 ∷
    sent App 3 10 1200 ∷
    sent App 2 10 1200 ∷
    sent App 1 0 1200 ∷
    sent App 0 0 1200 ∷ []

-- What is free, or was spared, awaits the loss timer as any other packet, until it is named.
pub what_is_spared_awaits_the_timer :
    (deadline s two_times ≡ loss_at App 112500)
    × (deadline s (lost App ((0, 0) ∷ []) 100010 ∷ two_times) ≡ loss_at App 112500)
    × (deadline s (lost App ((0, 1) ∷ []) 100010 ∷ two_times) ≡ loss_at App 112510)
    × (deadline strict two_times ≡ loss_at App 112510)
    × (first_broken s two_times (loss_fires App 112499) ≡ Some rule.TimerEarly)
    × (numbers (owed s (loss_fires App 112500 ∷ two_times)) ≡ 1 ∷ 0 ∷ [])
    × (free s (loss_fires App 112500 ∷ two_times) ≡ [])
    × IsRun s (lost App ((0, 1) ∷ []) 112500 ∷ loss_fires App 112500 ∷ two_times)
unfolding first_broken
what_is_spared_awaits_the_timer = (refl, refl, refl, refl, refl, refl, refl, ((((((((tt, refl), refl), refl), refl), refl), refl), refl), refl))

-- ---- persistent congestion

-- Packet 1 is old at the last acknowledgment, and packet 2 young and three below packet 5. Nothing between them was acknowledged. After a
-- sample of 100000 the duration is 3 * (100000 + 200000 + 25000) = 975000.
abbrev far_apart : ℕ → List Event
far_apart second =
    ack App ((5, 5) ∷ []) (second + 100001) ∷
    padded App 5 (second + 1) 700 ∷
    sent App 2 second 1200 ∷
    sent App 1 200000 1200 ∷
    ack App ((0, 0) ∷ []) 100000 ∷
    sent App 0 0 1200 ∷ []

abbrev naming : ℕ → ℕ → List Event
naming last second = lost App ((1, last) ∷ []) (second + 100001) ∷ far_apart second

-- It is made by both or not at all; the sum of what was acknowledged since begins with the bytes of the detection, and one byte more than two
-- datagrams and that sum is too large a window.
pub named_packets_make_a_collapse :
    IsRun s (naming 2 1175001)
    × (is_persistent s (far_apart 1175001) ≡ false)
    × (is_persistent s (naming 2 1175001) ≡ true)
    × (is_persistent s (naming 1 1175001) ≡ false)
    × (is_persistent s (naming 2 1175000) ≡ false)
    × (acknowledged_since_collapse s (naming 2 1175001) ≡ Some 700)
    × (acknowledged_since_collapse s (naming 1 1175001) ≡ None)
    × (first_broken s (naming 2 1175001) (metrics 1275002 (Some 3100) None None None None None None) ≡ None)
    × (first_broken s (naming 2 1175001) (metrics 1275002 (Some 3101) None None None None None None) ≡ Some rule.CollapseMissing)
    × (first_broken s (naming 1 1175001) (metrics 1275002 (Some 3101) None None None None None None) ≡ None)
unfolding first_broken
named_packets_make_a_collapse = ((((((((tt, refl), refl), refl), refl), refl), refl), refl), refl, refl, refl, refl, refl, refl, refl, refl, refl)

-- What is owed and what is named beside it are one entry, at the time of the detection.
pub owed_and_named_are_one_entry :
    (is_entry s (far_apart 1175000) ≡ true)
    × ((reno s (far_apart 1175000)).recovery_start_time ≡ Some 1275001)
    × ((reno s (naming 1 1175000)).recovery_start_time ≡ Some 1275001)
    × ((reno s (naming 2 1175000)).recovery_start_time ≡ Some 1275001)
    × ((reno s (naming 2 1175001)).recovery_start_time ≡ None)
owed_and_named_are_one_entry = (refl, refl, refl, refl, refl)
