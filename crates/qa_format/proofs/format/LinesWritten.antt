-- A line that was written is one line, and is read as itself.
use Rattle.std.proofs.Common.{◌≡◌, ◌∙◌, ℕ, zero, suc, ◌≤◌, ◌<◌, ◌^◌, ◌*◌, List, [], ◌∷◌, ◌++◌, Bool, true, false, Option, Some, None, Ok, refl, ap, ap₂, append_assoc, Less, ◌&&◌, ◌||◌, not, arith, subst, sym}
use Rattle.std.proofs.Math.Dec.{eqb-suc-zero}
use Rattle.std.proofs.lemmas.Bool.{and_parts, eqb-true, leb-true, or_from, le-ltb}
use Rattle.std.specs.Option.{ForSome}
use Rattle.std.specs.Prelude.{if◌then◌else◌, ◌==◌, nat_lt, nat_le, codes, option_map, unwrap_or}
use Rattle.std.specs.Cmp.Lexicographic.{slice_cmp}
use Rattle.std.specs.Ordering.{nat_cmp}
use Rattle.serde_json.specs.Data.{Data, depth}
use Rattle.serde_json.specs.Find.{get}
use Rattle.serde_json.specs.Written.{compact_text}
use Rattle.qa_base.specs.declared.event.Event.{Event}
use Rattle.qa_base.specs.declared.event.SentPacket.{SentPacket}
use Rattle.qa_base.specs.declared.event.Ack.{Ack as Acknowledgment}
use Rattle.qa_base.specs.declared.event.Event.TheVariants.{Sent, Ack, Lost, Timer, Discard, Confirmed, Keys, Metrics}
use Rattle.qa_base.specs.declared.event.MetricValues.{MetricValues}
use Rattle.qa_base.specs.declared.key.Key.{Key}
use Rattle.qa_base.specs.declared.key.Key.TheVariants as key
use Rattle.qa_base.specs.declared.header.Options.{Options}
use Rattle.qa_base.specs.declared.header.Version.{Version}
use Rattle.qa_base.specs.declared.header.Version.TheVariants.{One, Two, Three}
use Rattle.qa_format.specs.declared.line.Line.{Line}
use Rattle.qa_format.specs.declared.line.Line.TheVariants as line
use Rattle.qa_base.specs.declared.line_kind.LineKind.TheVariants as kinds
use Rattle.qa_base.specs.declared.rule.Field.TheVariants.{Window, Ssthresh, BytesInFlight, LatestRtt, MinRtt, SmoothedRtt, Rttvar}
use Rattle.qa_base.specs.declared.space.TimerKind.{TimerKind}
use Rattle.qa_base.specs.declared.space.Space.{Space}
use Rattle.qa_base.specs.declared.space.LossByNumber.{LossByNumber}
use Rattle.qa_base.specs.declared.space.LossByNumber.TheVariants.{Must, May}
use Rattle.qa_base.specs.declared.space.ThresholdCounts.{ThresholdCounts}
use Rattle.qa_base.specs.declared.space.ThresholdCounts.TheVariants.{Numbers, Packets}
use Rattle.qa_base.specs.declared.space.Controller.{Controller}
use Rattle.qa_base.specs.declared.space.Controller.TheVariants.{NewReno, Reported}
use Rattle.qa_base.specs.declared.space.TimeUnit.{TimeUnit}
use Rattle.qa_base.specs.declared.space.TimeUnit.TheVariants.{Microseconds}
use Rattle.qa_base.proofs.Units.{unit_high}
use Rattle.qa_format.specs.format.Keys.{◌>>=◌}
use Rattle.qa_format.specs.format.Lines.{has_lf}
use Rattle.qa_base.specs.values.Limits.{max_time, max_packet_size, max_timer_late, max_report_slack_us, max_report_slack_bytes, min_packet_threshold, max_packet_threshold, max_timer_early_us, min_time_threshold_eighths, max_time_threshold_eighths}
use Rattle.qa_base.specs.values.Names.{line_kind_name, role_name, unit_name, controller_name, loss_by_number_name, threshold_counts_name, space_name}
use Rattle.qa_format.specs.format.Proper.{IsProperEvent, IsProperLine}
use Rattle.qa_format.specs.format.Reading.{reader_named, object_says, json_of, reading_by, reading}
use Rattle.qa_base.specs.values.Settings.{choosing_options, Settings, AreInRange, in_unit, is_outside, no_options, version_in, is_reported, is_may, counts_packets, spares_unreported}
use Rattle.qa_format.specs.format.Tables.{out_of_range, settings, of_version, with_losses, with_counts, with_eighths}
use Rattle.qa_format.specs.format.Written as written
use Rattle.qa_format.specs.format.Written.{Pairs, reported, header_pairs, event_pairs, members, object_of, written as text_of}
use Rattle.qa_format.proofs.format.Compact.{IsSimple, read-compact_text, is_utf8-compact_text}
use Rattle.qa_format.proofs.format.OneLine.{has_lf-compact_text}
use Rattle.qa_format.proofs.format.KeysFound.{header_found, first_unit_found, second_unit_found, third_unit_found, first_options_found, version_two_options_found, version_three_options_found, sent_found, ack_found, lost_found, timer_found, discard_found, confirmed_found, keys_found, metrics_found}
use Rattle.qa_format.proofs.format.KeysWritten.{past_reported, reported_stands, past_last, last_stands, IsKept, integer_is_kept, string_is_kept, boolean_is_kept, role_is_kept, unit_is_kept, controller_is_kept, losses_are_kept, counts_are_kept, space_is_kept, permission_is_kept, kind_is_kept, ranges_are_kept, Follow, none_follow, follow, follow_later, follow_reported, follow_last}

-- ---- a report of the sender's state

-- what stands behind each key of a report, in the order in which the keys are written
abbrev pub behind_threshold : ℕ → MetricValues → Pairs
behind_threshold t v = (key.Time, written.integer t) ∷ reported Window v.window

abbrev pub behind_smoothed : ℕ → MetricValues → Pairs
behind_smoothed t v = reported Ssthresh v.ssthresh ++ behind_threshold t v

abbrev pub behind_var : ℕ → MetricValues → Pairs
behind_var t v = reported SmoothedRtt v.smoothed_rtt ++ behind_smoothed t v

abbrev pub behind_least : ℕ → MetricValues → Pairs
behind_least t v = reported Rttvar v.rttvar ++ behind_var t v

abbrev pub behind_latest : ℕ → MetricValues → Pairs
behind_latest t v = reported MinRtt v.min_rtt ++ behind_least t v

abbrev pub behind_event : ℕ → MetricValues → Pairs
behind_event t v = reported LatestRtt v.latest_rtt ++ behind_latest t v

abbrev pub behind_flight : ℕ → MetricValues → Pairs
behind_flight t v = (key.Event, written.string (line_kind_name kinds.Metrics)) ∷ behind_event t v

abbrev pub metrics_pairs : ℕ → MetricValues → Pairs
metrics_pairs t v = reported BytesInFlight v.bytes_in_flight ++ behind_flight t v

from_behind : (b c d f g h : Pairs) → b ++ c ++ d ++ f ++ g ++ h ≡ b ++ (c ++ (d ++ (f ++ (g ++ h))))
from_behind b c d f g h = simp append_assoc

regroup : (a : Pairs) (e : Key × Data) (b c d f g h : Pairs) → a ++ e ∷ b ++ c ++ d ++ f ++ g ++ h ≡ a ++ (e ∷ (b ++ (c ++ (d ++ (f ++ (g ++ h))))))
regroup [] e b c d f g h = ap (λ ps. e ∷ ps) (from_behind b c d f g h)
regroup (x ∷ a) e b c d f g h = ap (λ ps. x ∷ ps) (regroup a e b c d f g h)

-- the keys of a report, grouped from behind
pub metrics_pairs_are : (t : ℕ) (v : MetricValues) → event_pairs (Metrics t v) ≡ metrics_pairs t v
metrics_pairs_are t v =
    regroup (reported BytesInFlight v.bytes_in_flight) (key.Event, written.string (line_kind_name kinds.Metrics)) (reported LatestRtt v.latest_rtt) (reported MinRtt v.min_rtt)
    (reported Rttvar v.rttvar) (reported SmoothedRtt v.smoothed_rtt) (reported Ssthresh v.ssthresh) (behind_threshold t v)

-- each value that is reported is found at its key
pub bytes_in_flight_found : (t : ℕ) (v : MetricValues) → get (codes "bytes_in_flight") (object_of (metrics_pairs t v)) ≡ option_map written.integer v.bytes_in_flight
bytes_in_flight_found t v =
    reported_stands BytesInFlight v.bytes_in_flight (behind_flight t v) refl (
    past_reported (codes "bytes_in_flight") LatestRtt v.latest_rtt (behind_latest t v) (λ e. cc)
    ∙ past_reported (codes "bytes_in_flight") MinRtt v.min_rtt (behind_least t v) (λ e. cc)
    ∙ past_reported (codes "bytes_in_flight") Rttvar v.rttvar (behind_var t v) (λ e. cc)
    ∙ past_reported (codes "bytes_in_flight") SmoothedRtt v.smoothed_rtt (behind_smoothed t v) (λ e. cc)
    ∙ past_reported (codes "bytes_in_flight") Ssthresh v.ssthresh (behind_threshold t v) (λ e. cc)
    ∙ past_last (codes "bytes_in_flight") Window v.window (λ e. cc))

pub latest_rtt_found : (t : ℕ) (v : MetricValues) → get (codes "latest_rtt") (object_of (metrics_pairs t v)) ≡ option_map written.integer v.latest_rtt
latest_rtt_found t v =
    past_reported (codes "latest_rtt") BytesInFlight v.bytes_in_flight (behind_flight t v) (λ e. cc)
    ∙ reported_stands LatestRtt v.latest_rtt (behind_latest t v) refl (
    past_reported (codes "latest_rtt") MinRtt v.min_rtt (behind_least t v) (λ e. cc)
    ∙ past_reported (codes "latest_rtt") Rttvar v.rttvar (behind_var t v) (λ e. cc)
    ∙ past_reported (codes "latest_rtt") SmoothedRtt v.smoothed_rtt (behind_smoothed t v) (λ e. cc)
    ∙ past_reported (codes "latest_rtt") Ssthresh v.ssthresh (behind_threshold t v) (λ e. cc)
    ∙ past_last (codes "latest_rtt") Window v.window (λ e. cc))

pub min_rtt_found : (t : ℕ) (v : MetricValues) → get (codes "min_rtt") (object_of (metrics_pairs t v)) ≡ option_map written.integer v.min_rtt
min_rtt_found t v =
    past_reported (codes "min_rtt") BytesInFlight v.bytes_in_flight (behind_flight t v) (λ e. cc)
    ∙ past_reported (codes "min_rtt") LatestRtt v.latest_rtt (behind_latest t v) (λ e. cc)
    ∙ reported_stands MinRtt v.min_rtt (behind_least t v) refl (
    past_reported (codes "min_rtt") Rttvar v.rttvar (behind_var t v) (λ e. cc)
    ∙ past_reported (codes "min_rtt") SmoothedRtt v.smoothed_rtt (behind_smoothed t v) (λ e. cc)
    ∙ past_reported (codes "min_rtt") Ssthresh v.ssthresh (behind_threshold t v) (λ e. cc)
    ∙ past_last (codes "min_rtt") Window v.window (λ e. cc))

pub rttvar_found : (t : ℕ) (v : MetricValues) → get (codes "rttvar") (object_of (metrics_pairs t v)) ≡ option_map written.integer v.rttvar
rttvar_found t v =
    past_reported (codes "rttvar") BytesInFlight v.bytes_in_flight (behind_flight t v) (λ e. cc)
    ∙ past_reported (codes "rttvar") LatestRtt v.latest_rtt (behind_latest t v) (λ e. cc)
    ∙ past_reported (codes "rttvar") MinRtt v.min_rtt (behind_least t v) (λ e. cc)
    ∙ reported_stands Rttvar v.rttvar (behind_var t v) refl (
    past_reported (codes "rttvar") SmoothedRtt v.smoothed_rtt (behind_smoothed t v) (λ e. cc)
    ∙ past_reported (codes "rttvar") Ssthresh v.ssthresh (behind_threshold t v) (λ e. cc)
    ∙ past_last (codes "rttvar") Window v.window (λ e. cc))

pub smoothed_rtt_found : (t : ℕ) (v : MetricValues) → get (codes "smoothed_rtt") (object_of (metrics_pairs t v)) ≡ option_map written.integer v.smoothed_rtt
smoothed_rtt_found t v =
    past_reported (codes "smoothed_rtt") BytesInFlight v.bytes_in_flight (behind_flight t v) (λ e. cc)
    ∙ past_reported (codes "smoothed_rtt") LatestRtt v.latest_rtt (behind_latest t v) (λ e. cc)
    ∙ past_reported (codes "smoothed_rtt") MinRtt v.min_rtt (behind_least t v) (λ e. cc)
    ∙ past_reported (codes "smoothed_rtt") Rttvar v.rttvar (behind_var t v) (λ e. cc)
    ∙ reported_stands SmoothedRtt v.smoothed_rtt (behind_smoothed t v) refl (
    past_reported (codes "smoothed_rtt") Ssthresh v.ssthresh (behind_threshold t v) (λ e. cc)
    ∙ past_last (codes "smoothed_rtt") Window v.window (λ e. cc))

pub ssthresh_found : (t : ℕ) (v : MetricValues) → get (codes "ssthresh") (object_of (metrics_pairs t v)) ≡ option_map written.integer v.ssthresh
ssthresh_found t v =
    past_reported (codes "ssthresh") BytesInFlight v.bytes_in_flight (behind_flight t v) (λ e. cc)
    ∙ past_reported (codes "ssthresh") LatestRtt v.latest_rtt (behind_latest t v) (λ e. cc)
    ∙ past_reported (codes "ssthresh") MinRtt v.min_rtt (behind_least t v) (λ e. cc)
    ∙ past_reported (codes "ssthresh") Rttvar v.rttvar (behind_var t v) (λ e. cc)
    ∙ past_reported (codes "ssthresh") SmoothedRtt v.smoothed_rtt (behind_smoothed t v) (λ e. cc)
    ∙ reported_stands Ssthresh v.ssthresh (behind_threshold t v) refl (
    past_last (codes "ssthresh") Window v.window (λ e. cc))

pub window_found : (t : ℕ) (v : MetricValues) → get (codes "window") (object_of (metrics_pairs t v)) ≡ option_map written.integer v.window
window_found t v =
    past_reported (codes "window") BytesInFlight v.bytes_in_flight (behind_flight t v) (λ e. cc)
    ∙ past_reported (codes "window") LatestRtt v.latest_rtt (behind_latest t v) (λ e. cc)
    ∙ past_reported (codes "window") MinRtt v.min_rtt (behind_least t v) (λ e. cc)
    ∙ past_reported (codes "window") Rttvar v.rttvar (behind_var t v) (λ e. cc)
    ∙ past_reported (codes "window") SmoothedRtt v.smoothed_rtt (behind_smoothed t v) (λ e. cc)
    ∙ past_reported (codes "window") Ssthresh v.ssthresh (behind_threshold t v) (λ e. cc)
    ∙ last_stands Window v.window refl

pub time_found : (t : ℕ) (v : MetricValues) → get (codes "time") (object_of (metrics_pairs t v)) ≡ Some (written.integer t)
time_found t v =
    past_reported (codes "time") BytesInFlight v.bytes_in_flight (behind_flight t v) (λ e. cc)
    ∙ past_reported (codes "time") LatestRtt v.latest_rtt (behind_latest t v) (λ e. cc)
    ∙ past_reported (codes "time") MinRtt v.min_rtt (behind_least t v) (λ e. cc)
    ∙ past_reported (codes "time") Rttvar v.rttvar (behind_var t v) (λ e. cc)
    ∙ past_reported (codes "time") SmoothedRtt v.smoothed_rtt (behind_smoothed t v) (λ e. cc)
    ∙ past_reported (codes "time") Ssthresh v.ssthresh (behind_threshold t v) (λ e. cc)

pub event_found : (t : ℕ) (v : MetricValues) → get (codes "event") (object_of (metrics_pairs t v)) ≡ Some (written.string (line_kind_name kinds.Metrics))
event_found t v = past_reported (codes "event") BytesInFlight v.bytes_in_flight (behind_flight t v) (λ e. cc)

-- ---- the header

inside : (lo hi n : ℕ) → lo ≤ n → n ≤ hi → is_outside lo hi n ≡ false
inside lo hi n low high = or_from (nat_lt n lo) (nat_lt hi n) (le-ltb n lo low) (le-ltb hi n high)

-- these values in the first version that says their unit, with no options
abbrev pub started : Settings → Settings
started s = record {
  role = s.role;
  unit = s.unit;
  max_datagram_size = s.max_datagram_size;
  max_ack_delay = s.max_ack_delay;
  initial_rtt = s.initial_rtt;
  initial_window = s.initial_window;
  version = version_in s.unit;
  options = no_options;
}

-- values in their ranges pass the test of ranges
pub settings_read : (s : Settings) → AreInRange s → settings s.unit s.role s.max_datagram_size (Some s.max_ack_delay) (Some s.initial_rtt) (Some s.initial_window) ≡ Ok (started s)
settings_read s are = rw (
  inside 1200 65527 s.max_datagram_size are.datagram_low are.datagram_high,
  inside 0 (in_unit s.unit 16383000) s.max_ack_delay (omega arith) are.delay_high,
  inside 1 (in_unit s.unit 1000000000) s.initial_rtt are.rtt_low are.rtt_high,
  inside (2 * s.max_datagram_size) 4294967295 s.initial_window are.window_low are.window_high,
) refl

-- these values in this unit and this version, with these options
abbrev saying : Settings → TimeUnit → Version → Options → Settings
saying s unit version options = record {
  role = s.role;
  unit = unit;
  max_datagram_size = s.max_datagram_size;
  max_ack_delay = s.max_ack_delay;
  initial_rtt = s.initial_rtt;
  initial_window = s.initial_window;
  version = version;
  options = options;
}

-- these values in version 1
abbrev pub first : Settings → Settings
first s = saying s Microseconds One no_options

-- these values with these options in version 2
abbrev pub second : Settings → Option ℕ → Bool → ℕ → ℕ → Settings
second s limit refresh slack_us slack_bytes =
    saying s Microseconds Two (record no_options { timer_late = limit; refresh_min_rtt = refresh; report_slack_us = slack_us; report_slack_bytes = slack_bytes })

-- these values with this limit in version 3
abbrev pub third : Settings → Option ℕ → Settings
third s limit = saying s s.unit Three (record s.options { timer_late = limit })

limit_is : (limit : Option ℕ) (hi : ℕ) → ForSome limit (λ n. n ≤ hi) → unwrap_or limit 0 ≤ hi
limit_is None hi high = omega arith
limit_is (Some n) hi high = high n refl

-- options in their ranges pass the test of ranges
pub options_pass : (s : Settings) (limit : Option ℕ) (refresh : Bool) (slack_us slack_bytes : ℕ) → AreInRange (second s limit refresh slack_us slack_bytes)
    → (of_version 2 (second s limit refresh slack_us slack_bytes).options (first s) >>= with_losses (Some Must) >>= with_counts (Some Numbers) >>= with_eighths 9) ≡ Ok (second s limit refresh slack_us slack_bytes)
options_pass s limit refresh slack_us slack_bytes are = rw (
  inside 0 max_timer_late (unwrap_or limit 0) (omega arith) (limit_is limit max_timer_late are.late_high),
  inside 0 max_report_slack_us slack_us (omega arith) are.slack_us_high,
  inside 0 max_report_slack_bytes slack_bytes (omega arith) are.slack_bytes_high,
) refl

-- and so do those of version 3
chosen_pass : (s : Settings) (limit : Option ℕ) (losses : LossByNumber) (counts : ThresholdCounts) (eighths : ℕ) (x : Settings) → AreInRange (third s limit)
    → spares_unreported (record s.options { loss_by_number = losses }) ≡ false → 9 ≤ eighths → eighths ≤ 32
    → of_version 3 (record s.options { timer_late = limit; loss_by_number = losses; threshold_counts = counts; time_threshold_eighths = eighths }) x
    ≡ Ok (saying x x.unit Three (record s.options { timer_late = limit; loss_by_number = losses; threshold_counts = counts; time_threshold_eighths = eighths }))
chosen_pass s limit losses counts eighths x are reported low high = rw (
  inside 0 max_timer_late (unwrap_or limit 0) (omega arith) (limit_is limit max_timer_late are.late_high),
  inside 0 max_report_slack_us s.options.report_slack_us (omega arith) are.slack_us_high,
  inside 0 max_report_slack_bytes s.options.report_slack_bytes (omega arith) are.slack_bytes_high,
  inside min_packet_threshold max_packet_threshold s.options.packet_threshold are.threshold_low are.threshold_high,
  inside 0 max_timer_early_us s.options.timer_early_us (omega arith) are.early_high,
  reported,
  inside min_time_threshold_eighths max_time_threshold_eighths eighths low high,
) refl

-- the options before what is judged behind them
abbrev before_losses : Settings → Option ℕ → Settings
before_losses s limit = saying (started s) s.unit Three (record s.options { timer_late = limit; loss_by_number = Must; threshold_counts = Numbers; time_threshold_eighths = 9 })

-- with losses by number
abbrev before_counts : Settings → Option ℕ → Settings
before_counts s limit = saying (started s) s.unit Three (record s.options { timer_late = limit; threshold_counts = Numbers; time_threshold_eighths = 9 })

-- and with what the packet threshold counts
abbrev before_eighths : Settings → Option ℕ → Settings
before_eighths s limit = saying (started s) s.unit Three (record s.options { timer_late = limit; time_threshold_eighths = 9 })

losses_pass : (s : Settings) (limit : Option ℕ) (losses : LossByNumber) → s.options.loss_by_number ≡ losses → AreInRange (third s limit)
    → with_losses (Some s.options.loss_by_number) (before_losses s limit) ≡ Ok (before_counts s limit)
losses_pass s limit Must is are = rw is refl
losses_pass s limit May is are =
    let reported = rw is at are.spared_reported in
    rw is (chosen_pass s limit May Numbers 9 (before_losses s limit) are reported (omega arith) (omega arith))

counts_pass : (s : Settings) (limit : Option ℕ) (counts : ThresholdCounts) → s.options.threshold_counts ≡ counts → AreInRange (third s limit)
    → with_counts (Some s.options.threshold_counts) (before_counts s limit) ≡ Ok (before_eighths s limit)
counts_pass s limit Numbers is are = rw is refl
counts_pass s limit Packets is are =
    rw is (chosen_pass s limit s.options.loss_by_number Packets 9 (before_counts s limit) are are.spared_reported (omega arith) (omega arith))

-- and with the time threshold
eighths_pass : (s : Settings) (limit : Option ℕ) (is_default : Bool) → (s.options.time_threshold_eighths == 9) ≡ is_default → AreInRange (third s limit)
    → (if is_default then Ok (before_eighths s limit)
    else out_of_range (choosing_options (before_eighths s limit) (record (before_eighths s limit).options { time_threshold_eighths = s.options.time_threshold_eighths }))) ≡ Ok (third s limit)
eighths_pass s limit true is are =
    ap (λ n. Ok (saying (started s) s.unit Three (record s.options { timer_late = limit; time_threshold_eighths = n }))) (sym (eqb-true s.options.time_threshold_eighths 9 is))
eighths_pass s limit false is are =
    chosen_pass s limit s.options.loss_by_number s.options.threshold_counts s.options.time_threshold_eighths (before_eighths s limit) are are.spared_reported are.eighths_low are.eighths_high

pub version_three_options_pass : (s : Settings) (limit : Option ℕ) → AreInRange (third s limit)
    → (of_version 3 (record (third s limit).options { loss_by_number = Must; threshold_counts = Numbers; time_threshold_eighths = 9 }) (started s) >>= with_losses (Some s.options.loss_by_number) >>= with_counts (Some s.options.threshold_counts) >>= with_eighths s.options.time_threshold_eighths) ≡ Ok (third s limit)
version_three_options_pass s limit are =
    ap (λ r. r >>= with_losses (Some s.options.loss_by_number) >>= with_counts (Some s.options.threshold_counts) >>= with_eighths s.options.time_threshold_eighths) (chosen_pass s limit Must Numbers 9 (started s) are refl (omega arith) (omega arith))
    ∙ (ap (λ r. r >>= with_counts (Some s.options.threshold_counts) >>= with_eighths s.options.time_threshold_eighths) (losses_pass s limit s.options.loss_by_number refl are)
    ∙ (ap (λ r. r >>= with_eighths s.options.time_threshold_eighths) (counts_pass s limit s.options.threshold_counts refl are)
    ∙ eighths_pass s limit (s.options.time_threshold_eighths == 9) refl are))

-- the limit is there or not, and the version stands behind it
pub limit_at : (s : Settings) (limit : Option ℕ) (refresh : Bool) (slack_us slack_bytes : ℕ)
    → get (codes "timer_late_us") (object_of (header_pairs (second s limit refresh slack_us slack_bytes))) ≡ option_map written.integer limit
limit_at s None refresh slack_us slack_bytes = refl
limit_at s (Some n) refresh slack_us slack_bytes = refl

pub version_at : (s : Settings) (limit : Option ℕ) (refresh : Bool) (slack_us slack_bytes : ℕ)
    → get (codes "version") (object_of (header_pairs (second s limit refresh slack_us slack_bytes))) ≡ Some (written.integer 2)
version_at s None refresh slack_us slack_bytes = refl
version_at s (Some n) refresh slack_us slack_bytes = refl

-- the same in version 3, and what stands behind the limit there
pub third_limit_at : (s : Settings) (limit : Option ℕ) → get (codes "timer_late_us") (object_of (header_pairs (third s limit))) ≡ option_map written.integer limit
third_limit_at s None = refl
third_limit_at s (Some n) = refl

pub third_unit_at : (s : Settings) (limit : Option ℕ) → get (codes "unit") (object_of (header_pairs (third s limit))) ≡ Some (written.string (unit_name s.unit))
third_unit_at s None = refl
third_unit_at s (Some n) = refl

pub third_version_at : (s : Settings) (limit : Option ℕ) → get (codes "version") (object_of (header_pairs (third s limit))) ≡ Some (written.integer 3)
third_version_at s None = refl
third_version_at s (Some n) = refl

pub third_window_at : (s : Settings) (limit : Option ℕ)
    → get (codes "window") (object_of (header_pairs (third s limit))) ≡ Some (written.string (controller_name s.options.controller))
third_window_at s None = refl
third_window_at s (Some n) = refl

pub third_overshoot_at : (s : Settings) (limit : Option ℕ)
    → get (codes "window_overshoot") (object_of (header_pairs (third s limit))) ≡ Some (written.boolean s.options.window_overshoot)
third_overshoot_at s None = refl
third_overshoot_at s (Some n) = refl

-- these options, with others for those that version 2 has not
abbrev asking : Options → Controller → Bool → Bool → ℕ → ℕ → LossByNumber → ThresholdCounts → Bool → Bool → ℕ → Bool → Options
asking o who overshoot only threshold early losses counts reset less eighths order = record {
  timer_late = o.timer_late;
  refresh_min_rtt = o.refresh_min_rtt;
  report_slack_us = o.report_slack_us;
  report_slack_bytes = o.report_slack_bytes;
  controller = who;
  window_overshoot = overshoot;
  sample_eliciting_only = only;
  packet_threshold = threshold;
  timer_early_us = early;
  loss_by_number = losses;
  threshold_counts = counts;
  reset_rtt = reset;
  latest_rtt_less_delay = less;
  time_threshold_eighths = eighths;
  recovery_by_order = order;
}

-- options that version 2 can say have the default for those that it has not
version_two_options_are : (o : Options) (who : Controller) (overshoot only : Bool) (threshold early : ℕ) (losses : LossByNumber) (counts : ThresholdCounts) (reset less : Bool) (eighths : ℕ) (order : Bool)
    → (not (is_reported who) && not overshoot && not only && threshold == 3 && early == 0 && not (is_may losses) && not (counts_packets counts) && not reset && not less && eighths == 9 && not order) ≡ true
    → asking o NewReno false false 3 0 Must Numbers false false 9 false ≡ asking o who overshoot only threshold early losses counts reset less eighths order
version_two_options_are o Reported overshoot only threshold early losses counts reset less eighths order says = cc
version_two_options_are o NewReno true only threshold early losses counts reset less eighths order says = cc
version_two_options_are o NewReno false true threshold early losses counts reset less eighths order says = cc
version_two_options_are o NewReno false false threshold early losses counts reset less eighths order says =
    let order_too = and_parts (threshold == 3 && early == 0 && not (is_may losses) && not (counts_packets counts) && not reset && not less && eighths == 9) (not order) says in
    let eighths_too = and_parts (threshold == 3 && early == 0 && not (is_may losses) && not (counts_packets counts) && not reset && not less) (eighths == 9) order_too.0 in
    let less_too = and_parts (threshold == 3 && early == 0 && not (is_may losses) && not (counts_packets counts) && not reset) (not less) eighths_too.0 in
    let reset_too = and_parts (threshold == 3 && early == 0 && not (is_may losses) && not (counts_packets counts)) (not reset) less_too.0 in
    let counts_too = and_parts (threshold == 3 && early == 0 && not (is_may losses)) (not (counts_packets counts)) reset_too.0 in
    let losses_too = and_parts (threshold == 3 && early == 0) (not (is_may losses)) counts_too.0 in
    let numbers = and_parts (threshold == 3) (early == 0) losses_too.0 in
    ap₂ (λ n m. asking o NewReno false false n m Must Numbers false false 9 false) (sym (eqb-true threshold 3 numbers.0)) (sym (eqb-true early 0 numbers.1))
    ∙ words_are losses counts losses_too.1 counts_too.1
    ∙ rtts_are reset less order reset_too.1 less_too.1 eighths_too.1 order_too.1
  where
    words_are : (losses : LossByNumber) (counts : ThresholdCounts) → not (is_may losses) ≡ true → not (counts_packets counts) ≡ true
        → asking o NewReno false false threshold early Must Numbers false false 9 false ≡ asking o NewReno false false threshold early losses counts false false 9 false
    words_are May counts must are = cc
    words_are Must Packets must are = cc
    words_are Must Numbers must are = refl

    rtts_are : (reset less order : Bool) → not reset ≡ true → not less ≡ true → (eighths == 9) ≡ true → not order ≡ true
        → asking o NewReno false false threshold early losses counts false false 9 false ≡ asking o NewReno false false threshold early losses counts reset less eighths order
    rtts_are true less order kept plain is by_time = cc
    rtts_are false true order kept plain is by_time = cc
    rtts_are false false true kept plain is by_time = cc
    rtts_are false false false kept plain is by_time = ap (λ n. asking o NewReno false false threshold early losses counts false false n false) (sym (eqb-true eighths 9 is))

-- what holds of headers as they are written in their version holds of all in their ranges
pub of_each : (P : Settings → Type 0) (s : Settings) (v : Version) → s.version ≡ v → AreInRange s
    → (AreInRange (first s) → P (first s))
    → ((limit : Option ℕ) (refresh : Bool) (slack_us slack_bytes : ℕ) → AreInRange (second s limit refresh slack_us slack_bytes) → P (second s limit refresh slack_us slack_bytes))
    → ((limit : Option ℕ) → AreInRange (third s limit) → P (third s limit))
    → P s
of_each P s One is are of_first of_second of_third =
    let said = rw is at are.said in
    let same : first s ≡ s = ap₂ (saying s Microseconds) (sym is) (sym said.1) ∙ ap (λ u. saying s u s.version s.options) (sym said.0) in
    subst P same (of_first (subst AreInRange (sym same) are))
of_each P s Two is are of_first of_second of_third =
    let o = s.options in
    let said = rw is at are.said in
    let asked = version_two_options_are o o.controller o.window_overshoot o.sample_eliciting_only o.packet_threshold o.timer_early_us o.loss_by_number o.threshold_counts o.reset_rtt o.latest_rtt_less_delay o.time_threshold_eighths o.recovery_by_order said.1 in
    let same : second s o.timer_late o.refresh_min_rtt o.report_slack_us o.report_slack_bytes ≡ s = ap₂ (saying s Microseconds) (sym is) asked ∙ ap (λ u. saying s u s.version s.options) (sym said.0) in
    subst P same (of_second o.timer_late o.refresh_min_rtt o.report_slack_us o.report_slack_bytes (subst AreInRange (sym same) are))
of_each P s Three is are of_first of_second of_third =
    let same : third s s.options.timer_late ≡ s = ap (λ v. saying s s.unit v s.options) (sym is) in
    subst P same (of_third s.options.timer_late (subst AreInRange (sym same) are))

-- ---- keys rise, and values can be written and read

time_is_kept : (t : ℕ) → t ≤ max_time → IsKept (written.integer t)
time_is_kept t high = integer_is_kept t (omega (arith, high))

time_follows : (j : List ℕ) (t : ℕ) → slice_cmp nat_cmp j (codes "time") ≡ Less → t ≤ max_time → Follow j ((key.Time, written.integer t) ∷ [])
time_follows j t less high = follow j key.Time (written.integer t) [] less refl (time_is_kept t high) (none_follow (codes "time"))

space_follows : (j : List ℕ) (s : Space) (t : ℕ) → slice_cmp nat_cmp j (codes "space") ≡ Less → t ≤ max_time
    → Follow j ((key.Space, written.string (space_name s)) ∷ (key.Time, written.integer t) ∷ [])
space_follows j s t less high = follow j key.Space (written.string (space_name s)) _ less refl (space_is_kept s) (time_follows (codes "space") t refl high)

sent_follows : (packet : SentPacket) → IsProperEvent (Sent packet) → Follow [] (event_pairs (Sent packet))
sent_follows packet proper =
    let parts = and_parts (nat_le 1 packet.size && nat_le packet.size max_packet_size) (not packet.eliciting || packet.in_flight) proper.fitting in
    let high = leb-true packet.size max_packet_size (and_parts (nat_le 1 packet.size) (nat_le packet.size max_packet_size) parts.0).1 in
    follow _ key.Eliciting _ _ refl refl (boolean_is_kept packet.eliciting)
    (follow _ key.Event _ _ refl refl (string_is_kept _ refl)
    (follow _ key.InFlight _ _ refl refl (boolean_is_kept packet.in_flight)
    (follow _ key.Leave _ _ refl refl (permission_is_kept packet.permission)
    (follow _ key.Number _ _ refl refl (integer_is_kept packet.number (omega (arith, proper.numbers)))
    (follow _ key.Size _ _ refl refl (integer_is_kept packet.size (omega (arith, high)))
    (space_follows _ packet.space packet.time refl proper.in_time))))))

ack_follows : (ack : Acknowledgment) → IsProperEvent (Ack ack) → Follow [] (event_pairs (Ack ack))
ack_follows ack proper =
    follow _ key.Delay _ _ refl refl (integer_is_kept ack.delay proper.numbers.1)
    (follow _ key.Event _ _ refl refl (string_is_kept _ refl)
    (follow _ key.Limited _ _ refl refl (boolean_is_kept ack.app_limited)
    (follow _ key.Ranges _ _ refl refl (ranges_are_kept ack.ranges proper.numbers.0)
    (space_follows _ ack.space ack.time refl proper.in_time))))

lost_follows : (t : ℕ) (s : Space) (rs : List (ℕ × ℕ)) → IsProperEvent (Lost t s rs) → Follow [] (event_pairs (Lost t s rs))
lost_follows t s rs proper =
    follow _ key.Event _ _ refl refl (string_is_kept _ refl) (follow _ key.Ranges _ _ refl refl (ranges_are_kept rs proper.numbers) (space_follows _ s t refl proper.in_time))

timer_follows : (t : ℕ) (k : TimerKind) (s : Space) → IsProperEvent (Timer t k s) → Follow [] (event_pairs (Timer t k s))
timer_follows t k s proper =
    follow _ key.Event _ _ refl refl (string_is_kept _ refl) (follow _ key.Kind _ _ refl refl (kind_is_kept k) (space_follows _ s t refl proper.in_time))

metrics_follow : (t : ℕ) (v : MetricValues) → IsProperEvent (Metrics t v) → Follow [] (metrics_pairs t v)
metrics_follow t v proper =
    let words = proper.numbers in
    follow_reported _ BytesInFlight v.bytes_in_flight _ refl refl words.2
    (follow _ key.Event _ _ refl refl (string_is_kept _ refl)
    (follow_reported _ LatestRtt v.latest_rtt _ refl refl words.3
    (follow_reported _ MinRtt v.min_rtt _ refl refl words.4
    (follow_reported _ Rttvar v.rttvar _ refl refl words.6
    (follow_reported _ SmoothedRtt v.smoothed_rtt _ refl refl words.5
    (follow_reported _ Ssthresh v.ssthresh _ refl refl words.1
    (follow _ key.Time _ _ refl refl (time_is_kept t proper.in_time) (follow_last _ Window v.window refl refl words.0))))))))

-- the keys that each version has up to initial_window
header_starts : (s : Settings) (ps : Pairs) → AreInRange s → Follow (codes "initial_window") ps
    → Follow [] (
    (key.Event, written.string (line_kind_name kinds.Header))
    ∷ (key.InitialRtt, written.integer s.initial_rtt)
    ∷ (key.InitialWindow, written.integer s.initial_window)
    ∷ ps)
header_starts s ps are more =
    follow _ key.Event _ _ refl refl (string_is_kept _ refl)
    (follow _ key.InitialRtt _ _ refl refl (integer_is_kept s.initial_rtt (let high = unit_high s.unit s.initial_rtt 1000000000 are.rtt_high in omega (arith, high)))
    (follow _ key.InitialWindow _ _ refl refl (integer_is_kept s.initial_window (omega (arith, are.window_high))) more))

-- and behind those up to max_datagram_size
sizes_follow : (s : Settings) (j : List ℕ) (ps : Pairs) → AreInRange s → slice_cmp nat_cmp j (codes "max_ack_delay") ≡ Less → Follow (codes "max_datagram_size") ps
    → Follow j ((key.MaxAckDelay, written.integer s.max_ack_delay) ∷ (key.MaxDatagramSize, written.integer s.max_datagram_size) ∷ ps)
sizes_follow s j ps are less more =
    follow j key.MaxAckDelay _ _ less refl (integer_is_kept s.max_ack_delay (let high = unit_high s.unit s.max_ack_delay 16383000 are.delay_high in omega (arith, high)))
    (follow _ key.MaxDatagramSize _ _ refl refl (integer_is_kept s.max_datagram_size (omega (arith, are.datagram_high))) more)

-- the keys of versions 1 and 2 up to max_datagram_size
header_begins : (s : Settings) (ps : Pairs) → AreInRange s → Follow (codes "max_datagram_size") ps
    → Follow [] (
    (key.Event, written.string (line_kind_name kinds.Header))
    ∷ (key.InitialRtt, written.integer s.initial_rtt)
    ∷ (key.InitialWindow, written.integer s.initial_window)
    ∷ (key.MaxAckDelay, written.integer s.max_ack_delay)
    ∷ (key.MaxDatagramSize, written.integer s.max_datagram_size)
    ∷ ps)
header_begins s ps are more = header_starts s _ are (sizes_follow s _ ps are refl more)

-- and those of version 3
third_begins : (s : Settings) (ps : Pairs) → AreInRange s → Follow (codes "max_datagram_size") ps
    → Follow [] (
    (key.Event, written.string (line_kind_name kinds.Header))
    ∷ (key.InitialRtt, written.integer s.initial_rtt)
    ∷ (key.InitialWindow, written.integer s.initial_window)
    ∷ (key.LatestRttLessDelay, written.boolean s.options.latest_rtt_less_delay)
    ∷ (key.LossByNumber, written.string (loss_by_number_name s.options.loss_by_number))
    ∷ (key.MaxAckDelay, written.integer s.max_ack_delay)
    ∷ (key.MaxDatagramSize, written.integer s.max_datagram_size)
    ∷ ps)
third_begins s ps are more =
    header_starts s _ are
    (follow _ key.LatestRttLessDelay _ _ refl refl (boolean_is_kept s.options.latest_rtt_less_delay)
    (follow _ key.LossByNumber _ _ refl refl (losses_are_kept s.options.loss_by_number) (sizes_follow s _ ps are refl more)))

version_follows : (j : List ℕ) (n : ℕ) → slice_cmp nat_cmp j (codes "version") ≡ Less → n ≤ 2 → Follow j ((key.Version, written.integer n) ∷ [])
version_follows j n less small = follow j key.Version (written.integer n) [] less refl (integer_is_kept n (omega (arith, small))) (none_follow (codes "version"))

pub first_follows : (s : Settings) → AreInRange (first s) → Follow [] (header_pairs (first s))
first_follows s are = header_begins (first s) _ are (follow _ key.Role _ _ refl refl (role_is_kept s.role) (version_follows _ 1 refl (omega arith)))

second_goes_on : (s : Settings) (limit : Option ℕ) (refresh : Bool) (slack_us slack_bytes : ℕ) (ps : Pairs) → AreInRange (second s limit refresh slack_us slack_bytes)
    → Follow (codes "role") ps
    → Follow (codes "max_datagram_size") (
    (key.RefreshMinRtt, written.boolean refresh)
    ∷ (key.ReportSlackBytes, written.integer slack_bytes)
    ∷ (key.ReportSlackUs, written.integer slack_us)
    ∷ (key.Role, written.string (role_name s.role))
    ∷ ps)
second_goes_on s limit refresh slack_us slack_bytes ps are more =
    follow _ key.RefreshMinRtt _ _ refl refl (boolean_is_kept refresh)
    (follow _ key.ReportSlackBytes _ _ refl refl (integer_is_kept slack_bytes (omega (arith, are.slack_bytes_high)))
    (follow _ key.ReportSlackUs _ _ refl refl (integer_is_kept slack_us (omega (arith, are.slack_us_high))) (follow _ key.Role _ _ refl refl (role_is_kept s.role) more)))

pub second_follows : (s : Settings) (limit : Option ℕ) (refresh : Bool) (slack_us slack_bytes : ℕ) → AreInRange (second s limit refresh slack_us slack_bytes)
    → Follow [] (header_pairs (second s limit refresh slack_us slack_bytes))
second_follows s None refresh slack_us slack_bytes are =
    header_begins (second s None refresh slack_us slack_bytes) _ are (second_goes_on s None refresh slack_us slack_bytes _ are (version_follows _ 2 refl (omega arith)))
second_follows s (Some n) refresh slack_us slack_bytes are =
    let high = are.late_high n refl in
    header_begins (second s (Some n) refresh slack_us slack_bytes) _ are
    (second_goes_on s (Some n) refresh slack_us slack_bytes _ are
    (follow _ key.TimerLateUs _ _ refl refl (integer_is_kept n (omega (arith, high))) (version_follows _ 2 refl (omega arith))))

-- the keys of version 3 behind the limit
third_ends : (s : Settings) (j : List ℕ) → slice_cmp nat_cmp j (codes "unit") ≡ Less
    → Follow j (
    (key.Unit, written.string (unit_name s.unit))
    ∷ (key.Version, written.integer 3)
    ∷ (key.Window, written.string (controller_name s.options.controller))
    ∷ (key.WindowOvershoot, written.boolean s.options.window_overshoot)
    ∷ [])
third_ends s j less =
    follow j key.Unit _ _ less refl (unit_is_kept s.unit)
    (follow _ key.Version _ _ refl refl (integer_is_kept 3 (omega arith))
    (follow _ key.Window _ _ refl refl (controller_is_kept s.options.controller)
    (follow _ key.WindowOvershoot _ _ refl refl (boolean_is_kept s.options.window_overshoot) (none_follow (codes "window_overshoot")))))

-- and those from the first option on
third_goes_on : (s : Settings) (limit : Option ℕ) (ps : Pairs) → AreInRange (third s limit) → Follow (codes "timer_early_us") ps
    → Follow (codes "max_datagram_size") (
    (key.PacketThreshold, written.integer s.options.packet_threshold)
    ∷ (key.RecoveryByOrder, written.boolean s.options.recovery_by_order)
    ∷ (key.RefreshMinRtt, written.boolean s.options.refresh_min_rtt)
    ∷ (key.ReportSlackBytes, written.integer s.options.report_slack_bytes)
    ∷ (key.ReportSlackUs, written.integer s.options.report_slack_us)
    ∷ (key.ResetRtt, written.boolean s.options.reset_rtt)
    ∷ (key.Role, written.string (role_name s.role))
    ∷ (key.SampleElicitingOnly, written.boolean s.options.sample_eliciting_only)
    ∷ (key.ThresholdCounts, written.string (threshold_counts_name s.options.threshold_counts))
    ∷ (key.TimeThresholdEighths, written.integer s.options.time_threshold_eighths)
    ∷ (key.TimerEarlyUs, written.integer s.options.timer_early_us)
    ∷ ps)
third_goes_on s limit ps are more =
    follow _ key.PacketThreshold _ _ refl refl (integer_is_kept s.options.packet_threshold (omega (arith, are.threshold_high)))
    (follow _ key.RecoveryByOrder _ _ refl refl (boolean_is_kept s.options.recovery_by_order)
    (follow _ key.RefreshMinRtt _ _ refl refl (boolean_is_kept s.options.refresh_min_rtt)
    (follow _ key.ReportSlackBytes _ _ refl refl (integer_is_kept s.options.report_slack_bytes (omega (arith, are.slack_bytes_high)))
    (follow _ key.ReportSlackUs _ _ refl refl (integer_is_kept s.options.report_slack_us (omega (arith, are.slack_us_high)))
    (follow _ key.ResetRtt _ _ refl refl (boolean_is_kept s.options.reset_rtt)
    (follow _ key.Role _ _ refl refl (role_is_kept s.role)
    (follow _ key.SampleElicitingOnly _ _ refl refl (boolean_is_kept s.options.sample_eliciting_only)
    (follow _ key.ThresholdCounts _ _ refl refl (counts_are_kept s.options.threshold_counts)
    (follow _ key.TimeThresholdEighths _ _ refl refl (integer_is_kept s.options.time_threshold_eighths (omega (arith, are.eighths_high)))
    (follow _ key.TimerEarlyUs _ _ refl refl (integer_is_kept s.options.timer_early_us (omega (arith, are.early_high))) more))))))))))

pub third_follows : (s : Settings) (limit : Option ℕ) → AreInRange (third s limit) → Follow [] (header_pairs (third s limit))
third_follows s None are = third_begins (third s None) _ are (third_goes_on s None _ are (third_ends s _ refl))
third_follows s (Some n) are =
    let high = are.late_high n refl in
    third_begins (third s (Some n)) _ are
    (third_goes_on s (Some n) _ are (follow _ key.TimerLateUs _ _ refl refl (integer_is_kept n (omega (arith, high))) (third_ends s _ refl)))

header_follows : (s : Settings) → AreInRange s → Follow [] (header_pairs s)
header_follows s are = of_each (λ t. Follow [] (header_pairs t)) s s.version refl are (first_follows s) (second_follows s) (third_follows s)

-- ---- the line

json_reads : (d : Data) → IsSimple d → depth d ≤ 127 → json_of (compact_text d) ≡ Ok d
unfolding json_of
json_reads d simple shallow = rw (is_utf8-compact_text d simple, read-compact_text d simple shallow) refl

-- the text of an object is read as what the object says
object_reads : (ps : Pairs) (x : Line) → Follow [] ps → object_says reader_named (object_of ps) ≡ Ok x → reading (compact_text (object_of ps)) ≡ Ok x
unfolding reading_by
object_reads ps x kept says = ap (λ r. r >>= object_says reader_named) (json_reads (object_of ps) kept.simple (omega (arith, kept.shallow))) ∙ says

-- the keys of an event rise
pub event_follows : (e : Event) → IsProperEvent e → Follow [] (event_pairs e)
event_follows (Sent packet) proper = sent_follows packet proper
event_follows (Ack ack) proper = ack_follows ack proper
event_follows (Lost t s rs) proper = lost_follows t s rs proper
event_follows (Timer t k s) proper = timer_follows t k s proper
event_follows (Discard t s) proper = follow _ key.Event _ _ refl refl (string_is_kept _ refl) (space_follows _ s t refl proper.in_time)
event_follows (Confirmed t) proper = follow _ key.Event _ _ refl refl (string_is_kept _ refl) (time_follows _ t refl proper.in_time)
event_follows (Keys t) proper = follow _ key.Event _ _ refl refl (string_is_kept _ refl) (time_follows _ t refl proper.in_time)
event_follows (Metrics t v) proper = subst (Follow []) (sym (metrics_pairs_are t v)) (metrics_follow t v proper)

-- the object of a report says the report
metrics_are_said : (t : ℕ) (v : MetricValues) → IsProperEvent (Metrics t v) → object_says reader_named (object_of (metrics_pairs t v)) ≡ Ok (line.Event (Metrics t v))
metrics_are_said t v proper =
    metrics_found (members (metrics_pairs t v)) t v (event_found t v) (time_found t v) (window_found t v) (ssthresh_found t v) (bytes_in_flight_found t v)
    (latest_rtt_found t v) (min_rtt_found t v) (smoothed_rtt_found t v) (rttvar_found t v) proper

-- the object of an event says the event
event_is_said : (e : Event) → IsProperEvent e → object_says reader_named (object_of (event_pairs e)) ≡ Ok (line.Event e)
event_is_said (Sent packet) proper = sent_found _ packet (Some packet.permission) refl refl refl refl refl refl refl refl proper
event_is_said (Ack ack) proper = ack_found _ ack (Some ack.delay) (Some ack.app_limited) refl refl refl refl refl refl proper
event_is_said (Lost t s rs) proper = lost_found _ t s rs refl refl refl refl proper
event_is_said (Timer t k s) proper = timer_found _ t k s refl refl refl refl proper
event_is_said (Discard t s) proper = discard_found _ t s refl refl refl proper
event_is_said (Confirmed t) proper = confirmed_found _ t refl refl proper
event_is_said (Keys t) proper = keys_found _ t refl refl proper
event_is_said (Metrics t v) proper = ap (λ ps. object_says reader_named (object_of ps)) (metrics_pairs_are t v) ∙ metrics_are_said t v proper

-- the object of a header says the header
first_is_said : (s : Settings) → AreInRange (first s) → object_says reader_named (object_of (header_pairs (first s))) ≡ Ok (line.Header (first s))
first_is_said s are =
    let d = object_of (header_pairs (first s)) in
    header_found (members (header_pairs (first s))) 1 no_options Must Numbers 9 s.role Microseconds NewReno s.max_datagram_size (Some s.max_ack_delay) (Some s.initial_rtt) (Some s.initial_window) (first s) (first s)
    refl refl refl (first_unit_found d refl) refl refl refl refl (first_options_found d refl) (settings_read (first s) are) refl

second_is_said : (s : Settings) (limit : Option ℕ) (refresh : Bool) (slack_us slack_bytes : ℕ) → AreInRange (second s limit refresh slack_us slack_bytes)
    → object_says reader_named (object_of (header_pairs (second s limit refresh slack_us slack_bytes))) ≡ Ok (line.Header (second s limit refresh slack_us slack_bytes))
second_is_said s limit refresh slack_us slack_bytes are =
    let t = second s limit refresh slack_us slack_bytes in
    let d = object_of (header_pairs t) in
    let at_version = version_at s limit refresh slack_us slack_bytes in
    let asked = version_two_options_found d limit (Some refresh) (Some slack_us) (Some slack_bytes) at_version (limit_at s limit refresh slack_us slack_bytes) refl refl refl in
    header_found (members (header_pairs t)) 2 t.options Must Numbers 9 s.role Microseconds NewReno s.max_datagram_size (Some s.max_ack_delay) (Some s.initial_rtt) (Some s.initial_window) (first s) t
    refl at_version refl (second_unit_found d at_version) refl refl refl refl asked (settings_read t are) (options_pass s limit refresh slack_us slack_bytes are)

third_is_said : (s : Settings) (limit : Option ℕ) → AreInRange (third s limit)
    → object_says reader_named (object_of (header_pairs (third s limit))) ≡ Ok (line.Header (third s limit))
third_is_said s limit are =
    let t = third s limit in
    let d = object_of (header_pairs t) in
    let o = s.options in
    let at_version = third_version_at s limit in
    let asked = version_three_options_found d limit (Some o.refresh_min_rtt) (Some o.report_slack_us) (Some o.report_slack_bytes)
    (Some o.window_overshoot) (Some o.sample_eliciting_only) (Some o.packet_threshold) (Some o.timer_early_us) (Some o.loss_by_number)
    (Some o.threshold_counts) (Some o.reset_rtt) (Some o.latest_rtt_less_delay) (Some o.time_threshold_eighths) (Some o.recovery_by_order)
    at_version (third_limit_at s limit) refl refl refl (third_overshoot_at s limit) refl refl refl refl refl refl refl refl refl in
    header_found (members (header_pairs t)) 3 (record t.options { controller = NewReno; loss_by_number = Must; threshold_counts = Numbers; time_threshold_eighths = 9 }) o.loss_by_number o.threshold_counts o.time_threshold_eighths s.role s.unit s.options.controller s.max_datagram_size (Some s.max_ack_delay) (Some s.initial_rtt) (Some s.initial_window) (started s) t
    refl at_version refl (third_unit_found d (Some s.unit) (Some s.options.controller) at_version (third_unit_at s limit) (third_window_at s limit)) refl refl refl refl asked (settings_read t are) (version_three_options_pass s limit are)

header_is_said : (s : Settings) → AreInRange s → object_says reader_named (object_of (header_pairs s)) ≡ Ok (line.Header s)
header_is_said s are =
    of_each (λ t. object_says reader_named (object_of (header_pairs t)) ≡ Ok (line.Header t)) s s.version refl are (first_is_said s) (second_is_said s) (third_is_said s)

-- what was written is read as itself
pub written_reads : (x : Line) → IsProperLine x → reading (text_of x) ≡ Ok x
unfolding reading_by
written_reads line.Blank proper = refl
written_reads (line.Header s) proper = object_reads (header_pairs s) (line.Header s) (header_follows s proper) (header_is_said s proper)
written_reads (line.Event e) proper = object_reads (event_pairs e) (line.Event e) (event_follows e proper) (event_is_said e proper)

-- and is one line
pub written_has_no_lf : (x : Line) → IsProperLine x → has_lf (text_of x) ≡ false
written_has_no_lf line.Blank proper = refl
written_has_no_lf (line.Header s) proper = has_lf-compact_text (object_of (header_pairs s)) (header_follows s proper).simple
written_has_no_lf (line.Event e) proper = has_lf-compact_text (object_of (event_pairs e)) (event_follows e proper).simple

-- ---- the shortest line of an acknowledgment

-- the keys that it cannot leave out rise
needed_follow : (delay : ℕ) (limited : Bool) (ps : Pairs) → delay < 2 ^ 64 → Follow (codes "limited") ps
    → Follow [] (written.delay_pairs delay ++ (key.Event, written.string (line_kind_name kinds.Ack)) ∷ written.limited_pairs limited ++ ps)
needed_follow zero true ps word more =
    follow _ key.Event _ _ refl refl (string_is_kept _ refl) (follow _ key.Limited _ _ refl refl (boolean_is_kept true) more)
needed_follow zero false ps word more =
    follow _ key.Event _ _ refl refl (string_is_kept _ refl) (follow_later (codes "event") (codes "limited") ps refl more)
needed_follow (suc n) true ps word more = rw (eqb-suc-zero n) (
    follow _ key.Delay _ _ refl refl (integer_is_kept (suc n) word)
    (follow _ key.Event _ _ refl refl (string_is_kept _ refl) (follow _ key.Limited _ _ refl refl (boolean_is_kept true) more)))
needed_follow (suc n) false ps word more = rw (eqb-suc-zero n) (
    follow _ key.Delay _ _ refl refl (integer_is_kept (suc n) word)
    (follow _ key.Event _ _ refl refl (string_is_kept _ refl) (follow_later (codes "event") (codes "limited") ps refl more)))

-- the object of these says the acknowledgment
needed_say : (delay : ℕ) (limited : Bool) (ack : Acknowledgment) → IsProperEvent (Ack (record ack { delay = delay; app_limited = limited }))
    → object_says reader_named (object_of (written.needed_pairs (record ack { delay = delay; app_limited = limited }))) ≡ Ok (line.Event (Ack (record ack { delay = delay; app_limited = limited })))
needed_say zero true ack proper = ack_found _ ack None (Some true) refl refl refl refl refl refl proper
needed_say zero false ack proper = ack_found _ ack None None refl refl refl refl refl refl proper
needed_say (suc n) true ack proper = rw (eqb-suc-zero n) (ack_found _ ack (Some (suc n)) (Some true) refl refl refl refl refl refl proper)
needed_say (suc n) false ack proper = rw (eqb-suc-zero n) (ack_found _ ack (Some (suc n)) None refl refl refl refl refl refl proper)

needed_follows : (ack : Acknowledgment) → IsProperEvent (Ack ack) → Follow [] (written.needed_pairs ack)
needed_follows ack proper =
    needed_follow ack.delay ack.app_limited _ proper.numbers.1
    (follow _ key.Ranges _ _ refl refl (ranges_are_kept ack.ranges proper.numbers.0) (space_follows _ ack.space ack.time refl proper.in_time))

-- the shortest line of an event is read as the event
pub shortest_reads : (e : Event) → IsProperEvent e → reading (written.shortest e) ≡ Ok (line.Event e)
shortest_reads (Sent packet) proper = written_reads (line.Event (Sent packet)) proper
shortest_reads (Ack ack) proper = object_reads (written.needed_pairs ack) (line.Event (Ack ack)) (needed_follows ack proper) (needed_say ack.delay ack.app_limited ack proper)
shortest_reads (Lost t s rs) proper = written_reads (line.Event (Lost t s rs)) proper
shortest_reads (Timer t k s) proper = written_reads (line.Event (Timer t k s)) proper
shortest_reads (Discard t s) proper = written_reads (line.Event (Discard t s)) proper
shortest_reads (Confirmed t) proper = written_reads (line.Event (Confirmed t)) proper
shortest_reads (Keys t) proper = written_reads (line.Event (Keys t)) proper
shortest_reads (Metrics t v) proper = written_reads (line.Event (Metrics t v)) proper

-- and is one line
pub shortest_has_no_lf : (e : Event) → IsProperEvent e → has_lf (written.shortest e) ≡ false
shortest_has_no_lf (Sent packet) proper = written_has_no_lf (line.Event (Sent packet)) proper
shortest_has_no_lf (Ack ack) proper = has_lf-compact_text (object_of (written.needed_pairs ack)) (needed_follows ack proper).simple
shortest_has_no_lf (Lost t s rs) proper = written_has_no_lf (line.Event (Lost t s rs)) proper
shortest_has_no_lf (Timer t k s) proper = written_has_no_lf (line.Event (Timer t k s)) proper
shortest_has_no_lf (Discard t s) proper = written_has_no_lf (line.Event (Discard t s)) proper
shortest_has_no_lf (Confirmed t) proper = written_has_no_lf (line.Event (Confirmed t)) proper
shortest_has_no_lf (Keys t) proper = written_has_no_lf (line.Event (Keys t)) proper
shortest_has_no_lf (Metrics t v) proper = written_has_no_lf (line.Event (Metrics t v)) proper
