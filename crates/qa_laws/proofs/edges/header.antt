-- Edges of what a header says: the defaults that it takes for what is absent, by its unit and its datagrams, its ranges and its version.
use Rattle.std.specs.Prelude.{◌≡◌, true, Some, None, Result, Ok, Err, refl, ℕ, Option}
use Rattle.qa_base.specs.declared.header.Options.{Options}
use Rattle.qa_base.specs.declared.header.Version.TheVariants.{Two, Three}
use Rattle.qa_base.specs.declared.key.Key.{Key}
use Rattle.qa_base.specs.declared.key.Key.TheVariants as key
use Rattle.qa_base.specs.declared.key.RangeFault.{RangeFault}
use Rattle.qa_base.specs.declared.space.Controller.TheVariants.{Reported}
use Rattle.qa_base.specs.declared.space.LossByNumber.TheVariants.{May}
use Rattle.qa_base.specs.declared.space.Role.TheVariants.{Client}
use Rattle.qa_base.specs.declared.space.TimeUnit.TheVariants.{Microseconds, Nanoseconds}
use Rattle.qa_base.specs.values.Settings.{Settings, choosing_options, no_options, settings_in, settings_of, with_options}
use Rattle.qa_laws.proofs.Shorthand.{client, in_nanoseconds}

abbrev refused : Key → Result Settings RangeFault
refused k = Err (record { 0 = k })

-- with a tolerance of timers that is out of its range
abbrev out_of_range : Option ℕ → ℕ → ℕ → ℕ → Options
out_of_range timer_late report_slack_us report_slack_bytes packet_threshold = record no_options {
  timer_late = timer_late;
  report_slack_us = report_slack_us;
  report_slack_bytes = report_slack_bytes;
  packet_threshold = packet_threshold;
  timer_early_us = 1000000001;
  time_threshold_eighths = 8;
}

-- ---- defaults

-- The lesser of ten datagrams and the greater of two datagrams and 14720 bytes (RFC 9002, section 7.2): ten of 1200 or of 1472 bytes, for
-- larger ones 14720, and from 7360 bytes on two datagrams.
pub default_window_is_by_the_datagrams :
    (settings_of Client 1200 None None None ≡ Ok (client 1200 12000))
    × (settings_of Client 1471 None None None ≡ Ok (client 1471 14710))
    × (settings_of Client 1472 None None None ≡ Ok (client 1472 14720))
    × (settings_of Client 1473 None None None ≡ Ok (client 1473 14720))
    × (settings_of Client 1500 None None None ≡ Ok (client 1500 14720))
    × (settings_of Client 7359 None None None ≡ Ok (client 7359 14720))
    × (settings_of Client 7360 None None None ≡ Ok (client 7360 14720))
    × (settings_of Client 7361 None None None ≡ Ok (client 7361 14722))
    × (settings_of Client 9000 None None None ≡ Ok (client 9000 18000))
    × (settings_of Client 65527 None None None ≡ Ok (client 65527 131054))
default_window_is_by_the_datagrams = (refl, refl, refl, refl, refl, refl, refl, refl, refl, refl)

-- Of the delay 25 milliseconds, and of the RTT 333 (RFC 9000, section 18.2; RFC 9002, section 6.2.2).
pub a_given_value_takes_the_place_of_a_default :
    (settings_of Client 1500 (Some 25000) (Some 333000) (Some 14720) ≡ Ok (client 1500 14720))
    × (settings_of Client 1500 (Some 0) (Some 1) (Some 3000) ≡ Ok (record (client 1500 3000) { max_ack_delay = 0; initial_rtt = 1 }))
a_given_value_takes_the_place_of_a_default = (refl, refl)

-- In nanoseconds the two times are a thousand times as many, and the window is the same. Only version 3 says that unit.
pub defaults_are_in_the_unit :
    (settings_in Nanoseconds Client 1200 None None None ≡ Ok (in_nanoseconds (client 1200 12000)))
    × ((in_nanoseconds (client 1200 12000)).max_ack_delay ≡ 25000000)
    × ((in_nanoseconds (client 1200 12000)).initial_rtt ≡ 333000000)
    × (settings_in Microseconds Client 1200 None None None ≡ Ok (client 1200 12000))
defaults_are_in_the_unit = (refl, refl, refl, refl)

-- ---- ranges

-- A datagram has 1200 to 65527 bytes, a window two datagrams to 2^32 - 1.
pub ranges_of_sizes :
    (settings_of Client 1199 None None None ≡ refused key.MaxDatagramSize)
    × (settings_of Client 65528 None None None ≡ refused key.MaxDatagramSize)
    × (settings_of Client 1200 None None (Some 2399) ≡ refused key.InitialWindow)
    × (settings_of Client 1200 None None (Some 2400) ≡ Ok (client 1200 2400))
    × (settings_of Client 1200 None None (Some 4294967295) ≡ Ok (client 1200 4294967295))
    × (settings_of Client 1200 None None (Some 4294967296) ≡ refused key.InitialWindow)
ranges_of_sizes = (refl, refl, refl, refl, refl, refl)

-- A delay has 2^14 - 1 milliseconds at most, an RTT 1 of the unit to 1,000 seconds.
pub ranges_of_times_are_in_the_unit :
    (settings_of Client 1200 (Some 16383000) None None ≡ Ok (record (client 1200 12000) { max_ack_delay = 16383000 }))
    × (settings_of Client 1200 (Some 16383001) None None ≡ refused key.MaxAckDelay)
    × (settings_of Client 1200 None (Some 0) None ≡ refused key.InitialRtt)
    × (settings_of Client 1200 None (Some 1000000000) None ≡ Ok (record (client 1200 12000) { initial_rtt = 1000000000 }))
    × (settings_of Client 1200 None (Some 1000000001) None ≡ refused key.InitialRtt)
    × (settings_in Nanoseconds Client 1200 (Some 16383000000) None None ≡ Ok (record (in_nanoseconds (client 1200 12000)) { max_ack_delay = 16383000000 }))
    × (settings_in Nanoseconds Client 1200 (Some 16383000001) None None ≡ refused key.MaxAckDelay)
    × (settings_in Nanoseconds Client 1200 None (Some 0) None ≡ refused key.InitialRtt)
    × (settings_in Nanoseconds Client 1200 None (Some 1000000000000) None ≡ Ok (record (in_nanoseconds (client 1200 12000)) { initial_rtt = 1000000000000 }))
    × (settings_in Nanoseconds Client 1200 None (Some 1000000000001) None ≡ refused key.InitialRtt)
ranges_of_times_are_in_the_unit = (refl, refl, refl, refl, refl, refl, refl, refl, refl, refl)

-- They are the same in either unit.
pub ranges_of_options :
    (choosing_options (client 1200 12000) (record no_options { packet_threshold = 2 }) ≡ refused key.PacketThreshold)
    × (choosing_options (client 1200 12000) (record no_options { packet_threshold = 3 }) ≡ Ok (record (client 1200 12000) { version = Three; options = record no_options { packet_threshold = 3 } }))
    × (choosing_options (client 1200 12000) (record no_options { packet_threshold = 65535 }) ≡ Ok (record (client 1200 12000) { version = Three; options = record no_options { packet_threshold = 65535 } }))
    × (choosing_options (client 1200 12000) (record no_options { packet_threshold = 65536 }) ≡ refused key.PacketThreshold)
    × (choosing_options (client 1200 12000) (record no_options { timer_early_us = 0 }) ≡ Ok (record (client 1200 12000) { version = Three; options = record no_options { timer_early_us = 0 } }))
    × (choosing_options (client 1200 12000) (record no_options { timer_early_us = 1000000000 }) ≡ Ok (record (client 1200 12000) { version = Three; options = record no_options { timer_early_us = 1000000000 } }))
    × (choosing_options (client 1200 12000) (record no_options { timer_early_us = 1000000001 }) ≡ refused key.TimerEarlyUs)
    × (choosing_options (client 1200 12000) (record no_options { report_slack_us = 0 }) ≡ Ok (record (client 1200 12000) { version = Three; options = record no_options { report_slack_us = 0 } }))
    × (choosing_options (client 1200 12000) (record no_options { report_slack_us = 1000000000 }) ≡ Ok (record (client 1200 12000) { version = Three; options = record no_options { report_slack_us = 1000000000 } }))
    × (choosing_options (client 1200 12000) (record no_options { report_slack_us = 1000000001 }) ≡ refused key.ReportSlackUs)
    × (choosing_options (client 1200 12000) (record no_options { report_slack_bytes = 0 }) ≡ Ok (record (client 1200 12000) { version = Three; options = record no_options { report_slack_bytes = 0 } }))
    × (choosing_options (client 1200 12000) (record no_options { report_slack_bytes = 4294967295 }) ≡ Ok (record (client 1200 12000) { version = Three; options = record no_options { report_slack_bytes = 4294967295 } }))
    × (choosing_options (client 1200 12000) (record no_options { report_slack_bytes = 4294967296 }) ≡ refused key.ReportSlackBytes)
    × (choosing_options (client 1200 12000) (record no_options { timer_late = Some 1000000000000000 }) ≡ Ok (record (client 1200 12000) { version = Three; options = record no_options { timer_late = Some 1000000000000000 } }))
    × (choosing_options (client 1200 12000) (record no_options { timer_late = Some 1000000000000001 }) ≡ refused key.TimerLateUs)
    × (choosing_options (in_nanoseconds (client 1200 12000)) (record no_options { timer_early_us = 1000000001 }) ≡ refused key.TimerEarlyUs)
    × (choosing_options (client 1200 12000) (record no_options { time_threshold_eighths = 8 }) ≡ refused key.TimeThresholdEighths)
    × (choosing_options (client 1200 12000) (record no_options { time_threshold_eighths = 9 }) ≡ Ok (record (client 1200 12000) { version = Three; options = no_options }))
    × (choosing_options (client 1200 12000) (record no_options { time_threshold_eighths = 32 }) ≡ Ok (record (client 1200 12000) { version = Three; options = record no_options { time_threshold_eighths = 32 } }))
    × (choosing_options (client 1200 12000) (record no_options { time_threshold_eighths = 33 }) ≡ refused key.TimeThresholdEighths)
ranges_of_options = (refl, refl, refl, refl, refl, refl, refl, refl, refl, refl, refl, refl, refl, refl, refl, refl, refl, refl, refl, refl)

-- Of several values out of their range the first is named, in the order of the format.
pub first_value_out_of_its_range_is_named :
    (settings_of Client 1199 (Some 16383001) (Some 0) (Some 0) ≡ refused key.MaxDatagramSize)
    × (settings_of Client 1200 (Some 16383001) (Some 0) (Some 0) ≡ refused key.MaxAckDelay)
    × (settings_of Client 1200 (Some 0) (Some 0) (Some 0) ≡ refused key.InitialRtt)
    × (settings_of Client 1200 (Some 0) (Some 1) (Some 0) ≡ refused key.InitialWindow)
    × (choosing_options (client 1200 12000) (out_of_range (Some 1000000000000001) 1000000001 4294967296 0) ≡ refused key.TimerLateUs)
    × (choosing_options (client 1200 12000) (out_of_range None 1000000001 4294967296 0) ≡ refused key.ReportSlackUs)
    × (choosing_options (client 1200 12000) (out_of_range None 0 4294967296 0) ≡ refused key.ReportSlackBytes)
    × (choosing_options (client 1200 12000) (out_of_range None 0 0 0) ≡ refused key.PacketThreshold)
    × (choosing_options (client 1200 12000) (out_of_range None 0 0 3) ≡ refused key.TimerEarlyUs)
    × (choosing_options (client 1200 12000) (record (out_of_range None 0 0 3) { timer_early_us = 0; loss_by_number = May }) ≡ refused key.LossByNumber)
    × (choosing_options (client 1200 12000) (record (out_of_range None 0 0 3) { timer_early_us = 0 }) ≡ refused key.TimeThresholdEighths)
first_value_out_of_its_range_is_named = (refl, refl, refl, refl, refl, refl, refl, refl, refl, refl, refl)

-- ---- versions

-- Version 2 has four of them; a header of version 3 stays one.
pub a_header_gets_the_first_version_that_says_its_options :
    (with_options (client 1200 12000) no_options ≡ Ok (record (client 1200 12000) { version = Two }))
    × (with_options (client 1200 12000) (record no_options { timer_late = Some 5 }) ≡ Ok (record (client 1200 12000) { version = Two; options = record no_options { timer_late = Some 5 } }))
    × (with_options (client 1200 12000) (record no_options { refresh_min_rtt = true }) ≡ Ok (record (client 1200 12000) { version = Two; options = record no_options { refresh_min_rtt = true } }))
    × (with_options (client 1200 12000) (record no_options { report_slack_us = 1 }) ≡ Ok (record (client 1200 12000) { version = Two; options = record no_options { report_slack_us = 1 } }))
    × (with_options (client 1200 12000) (record no_options { report_slack_bytes = 1 }) ≡ Ok (record (client 1200 12000) { version = Two; options = record no_options { report_slack_bytes = 1 } }))
    × (with_options (client 1200 12000) (record no_options { controller = Reported }) ≡ Ok (record (client 1200 12000) { version = Three; options = record no_options { controller = Reported } }))
    × (with_options (client 1200 12000) (record no_options { window_overshoot = true }) ≡ Ok (record (client 1200 12000) { version = Three; options = record no_options { window_overshoot = true } }))
    × (with_options (client 1200 12000) (record no_options { sample_eliciting_only = true }) ≡ Ok (record (client 1200 12000) { version = Three; options = record no_options { sample_eliciting_only = true } }))
    × (with_options (client 1200 12000) (record no_options { packet_threshold = 4 }) ≡ Ok (record (client 1200 12000) { version = Three; options = record no_options { packet_threshold = 4 } }))
    × (with_options (client 1200 12000) (record no_options { timer_early_us = 1 }) ≡ Ok (record (client 1200 12000) { version = Three; options = record no_options { timer_early_us = 1 } }))
    × (with_options (client 1200 12000) (record no_options { latest_rtt_less_delay = true }) ≡ Ok (record (client 1200 12000) { version = Three; options = record no_options { latest_rtt_less_delay = true } }))
    × (with_options (client 1200 12000) (record no_options { time_threshold_eighths = 10 }) ≡ Ok (record (client 1200 12000) { version = Three; options = record no_options { time_threshold_eighths = 10 } }))
    × (with_options (client 1200 12000) (record no_options { recovery_by_order = true }) ≡ Ok (record (client 1200 12000) { version = Three; options = record no_options { recovery_by_order = true } }))
    × (with_options (record (client 1200 12000) { version = Three }) no_options ≡ Ok (record (client 1200 12000) { version = Three }))
    × (choosing_options (client 1200 12000) no_options ≡ Ok (record (client 1200 12000) { version = Three }))
a_header_gets_the_first_version_that_says_its_options = (refl, refl, refl, refl, refl, refl, refl, refl, refl, refl, refl, refl, refl, refl, refl)

-- Packets may be spared only where the window is a reported one, and only version 3 says so. It is judged behind all numbers.
pub spared_packets_need_a_reported_window :
    (choosing_options (client 1200 12000) (record no_options { loss_by_number = May }) ≡ refused key.LossByNumber)
    × (choosing_options (client 1200 12000) (record no_options { controller = Reported; loss_by_number = May }) ≡ Ok (record (client 1200 12000) { version = Three; options = record no_options { controller = Reported; loss_by_number = May } }))
    × (choosing_options (client 1200 12000) (record no_options { controller = Reported }) ≡ Ok (record (client 1200 12000) { version = Three; options = record no_options { controller = Reported } }))
    × (choosing_options (in_nanoseconds (client 1200 12000)) (record no_options { loss_by_number = May }) ≡ refused key.LossByNumber)
    × (with_options (client 1200 12000) (record no_options { loss_by_number = May }) ≡ refused key.LossByNumber)
    × (with_options (client 1200 12000) (record no_options { controller = Reported; loss_by_number = May }) ≡ Ok (record (client 1200 12000) { version = Three; options = record no_options { controller = Reported; loss_by_number = May } }))
    × (choosing_options (client 1200 12000) (record no_options { timer_early_us = 1000000001; loss_by_number = May }) ≡ refused key.TimerEarlyUs)
spared_packets_need_a_reported_window = (refl, refl, refl, refl, refl, refl, refl)
