-- What the reading of lines gives is such as there is.
use Rattle.std.proofs.Common.{◌≡◌, ℕ, ◌≤◌, ◌*◌, List, Bool, true, false, cond, Option, Some, None, Result, Ok, Err, ok_or, refl, ◌&&◌, ◌||◌, not, arith, ◌⊎◌, inl, inr}
use Rattle.std.specs.Prelude.{if◌then◌else◌, ◌==◌, nat_lt, codes, bytes_eq, is_some, option_map, unwrap_or}
use Rattle.std.specs.List.{list_all}
use Rattle.std.specs.Option.{ForSome}
use Rattle.std.proofs.lemmas.Bool.{or_parts, and_from, ltb-false}
use Rattle.serde_json.specs.Data.{Data}
use Rattle.serde_json.specs.Find.{as_object}
use Rattle.serde_json.specs.Read.{read}
use Rattle.std.specs.Str.{is_utf8}
use Rattle.qa_base.specs.declared.event.Event.{Event}
use Rattle.qa_base.specs.declared.event.Event.TheVariants.{Sent}
use Rattle.qa_base.specs.declared.event.MetricValues.{MetricValues}
use Rattle.qa_format.specs.declared.fault.Fault.{Fault}
use Rattle.qa_format.specs.declared.fault.Fault.TheVariants as fault
use Rattle.qa_format.specs.declared.fault.Fault.TheVariants.{NotJson, NotObject, UnknownEvent, FlagsClash}
use Rattle.qa_base.specs.declared.key.RangeFault.{RangeFault}
use Rattle.qa_base.specs.declared.key.Key.TheVariants as key
use Rattle.qa_base.specs.declared.header.Options.{Options}
use Rattle.qa_base.specs.declared.header.Version.{Version}
use Rattle.qa_base.specs.declared.header.Version.TheVariants.{One, Two, Three}
use Rattle.qa_base.specs.declared.rule.Field.TheVariants.{Window, Ssthresh, BytesInFlight, LatestRtt, MinRtt, SmoothedRtt, Rttvar}
use Rattle.qa_base.specs.declared.space.LossByNumber.{LossByNumber}
use Rattle.qa_base.specs.declared.space.LossByNumber.TheVariants.{Must, May}
use Rattle.qa_base.specs.declared.space.ThresholdCounts.{ThresholdCounts}
use Rattle.qa_base.specs.declared.space.ThresholdCounts.TheVariants.{Numbers, Packets}
use Rattle.qa_base.specs.declared.space.Space.{Space}
use Rattle.qa_base.specs.declared.space.Space.TheVariants.{Initial, Handshake, App}
use Rattle.qa_base.specs.declared.space.Role.{Role}
use Rattle.qa_base.specs.declared.space.TimeUnit.{TimeUnit}
use Rattle.qa_base.specs.declared.space.TimeUnit.TheVariants.{Microseconds, Nanoseconds}
use Rattle.qa_format.specs.declared.line.Line.{Line}
use Rattle.qa_format.specs.declared.line.Line.TheVariants as line
use Rattle.qa_base.specs.declared.line_kind.LineKind.{LineKind}
use Rattle.qa_base.specs.declared.line_kind.LineKind.TheVariants as kinds
use Rattle.qa_base.specs.values.Events.{is_space}
use Rattle.qa_format.specs.format.Keys.{◌>>=◌, both, ranged, string, string_among, required}
use Rattle.qa_base.specs.values.Limits.{max_time, max_packet_number, max_packet_size, max_timer_late, max_report_slack_us, max_report_slack_bytes, min_packet_threshold, max_packet_threshold, max_timer_early_us, min_time_threshold_eighths, max_time_threshold_eighths}
use Rattle.qa_base.specs.values.Names.{line_kind_named, discarded_named}
use Rattle.qa_format.specs.format.Proper.{AreWords, IsProperEvent, IsProperLine}
use Rattle.qa_format.specs.format.Reading.{Reader, header_line, event_line, reader_of, reader_named, object_says, json_of, is_blank, reading_by, reading}
use Rattle.qa_base.specs.values.Settings.{Settings, AreInRange, IsSaidIn, fit_version_two, is_outside, in_unit, default_window, no_options, checked, version_in, settings_in, version_with, spares_unreported, in_version, with_options, choosing_options}
use Rattle.qa_format.specs.format.Tables.{time, out_of_range, header_fields, options, settings, of_version, with_losses, with_counts, with_eighths, header_of, sent_fields, sent_of, ack_fields, ack_of, lost_fields, lost_of, timer_fields, timer_of, discard_fields, discard_of, confirmed_of, keys_of, metric, metric_values, metrics_of}
use Rattle.qa_format.specs.format.Written.{line_fits}
use Rattle.qa_format.proofs.format.KeysRead.{bind_ok, both_ok, ok_is, required_stands, required_within, required_high, optional_is_word, present_is_word, ranges_are}
use Rattle.qa_format.proofs.format.Sized.{IsSized, read-IsSized}

time_high : (d : Data) (t : ℕ) → time d ≡ Ok t → t ≤ max_time
time_high d t h = required_high 0 max_time key.Time d t h

-- ---- packets

-- a packet was sent, where its flags agree
flags_agree : (eliciting in_flight : Bool) (s e : Event) → cond (eliciting && not in_flight) (Err FlagsClash) (Ok s) ≡ Ok e → ((not eliciting || in_flight) ≡ true) × (s ≡ e)
flags_agree true true s e h = (refl, cc)
flags_agree true false s e h = cc
flags_agree false in_flight s e h = (refl, cc)

sent_is_proper : (d : Data) (e : Event) → sent_of d ≡ Ok e → IsProperEvent e
unfolding sent_of
sent_is_proper d e h =
    let read = bind_ok (sent_fields d) _ e h in
    let f = read.0 in
    let agree = flags_agree f.1.1.1.1.0 f.1.1.1.1.1.0 (Sent (record { time = f.0; space = f.1.0; number = f.1.1.0; size = f.1.1.1.0; eliciting = f.1.1.1.1.0; in_flight = f.1.1.1.1.1.0; permission = f.1.1.1.1.1.1 })) e read.2 in
    let times = both_ok _ _ f read.1 in
    let spaces = both_ok _ _ f.1 times.1 in
    let numbers = both_ok _ _ f.1.1 spaces.1 in
    let sizes = both_ok _ _ f.1.1.1 numbers.1 in
    rw (← agree.1) (record {
      fitting = and_from _ _ (required_within 1 max_packet_size key.Size d f.1.1.1.0 sizes.0) agree.0;
      in_time = time_high d f.0 times.0;
      numbers = required_high 0 max_packet_number key.Number d f.1.1.0 numbers.0;
    })

ack_is_proper : (d : Data) (e : Event) → IsSized d → ack_of d ≡ Ok e → IsProperEvent e
unfolding ack_of
ack_is_proper d e sized h =
    let read = bind_ok (ack_fields d) _ e h in
    let f = read.0 in
    let times = both_ok _ _ f read.1 in
    let spaces = both_ok _ _ f.1 times.1 in
    let listed = both_ok _ _ f.1.1 spaces.1 in
    let delays = both_ok _ _ f.1.1.1 listed.1 in
    let are = ranges_are key.Ranges d f.1.1.0 listed.0 in
    rw (← ok_is _ e read.2) (record {
      fitting = are.0;
      in_time = time_high d f.0 times.0;
      numbers = (are.1, optional_is_word 0 key.Delay d f.1.1.1.0 sized (omega arith) delays.0);
    })

lost_is_proper : (d : Data) (e : Event) → lost_of d ≡ Ok e → IsProperEvent e
unfolding lost_of
lost_is_proper d e h =
    let read = bind_ok (lost_fields d) _ e h in
    let f = read.0 in
    let times = both_ok _ _ f read.1 in
    let spaces = both_ok _ _ f.1 times.1 in
    let are = ranges_are key.Ranges d f.1.1 spaces.1 in
    rw (← ok_is _ e read.2) (record { fitting = are.0; in_time = time_high d f.0 times.0; numbers = are.1 })

-- ---- the timer and the handshake

timer_is_proper : (d : Data) (e : Event) → timer_of d ≡ Ok e → IsProperEvent e
unfolding timer_of
timer_is_proper d e h =
    let read = bind_ok (timer_fields d) _ e h in
    let times = both_ok _ _ read.0 read.1 in
    rw (← ok_is _ e read.2) (record { fitting = refl; in_time = time_high d read.0.0 times.0; numbers = tt })

either_space : (initial handshake : Bool) (s : Space) → ranged key.Space (cond initial (Some Initial) (cond handshake (Some Handshake) None)) ≡ Ok s → not (is_space App s) ≡ true
either_space true handshake s h = let same : Initial ≡ s = ok_is Initial s h in rw (← same) refl
either_space false true s h = let same : Handshake ≡ s = ok_is Handshake s h in rw (← same) refl
either_space false false s h = cc

-- the application's space is never one whose keys are discarded
discarded_space : (d : Data) (s : Space) → required (string_among discarded_named) key.Space d ≡ Ok s → not (is_space App s) ≡ true
discarded_space d s h =
    let stands = required_stands (string_among discarded_named) key.Space d s h in
    let read = bind_ok (string key.Space stands.0) _ s stands.2 in
    either_space (bytes_eq read.0 (codes "initial")) (bytes_eq read.0 (codes "handshake")) s read.2

discard_is_proper : (d : Data) (e : Event) → discard_of d ≡ Ok e → IsProperEvent e
unfolding discard_of
discard_is_proper d e h =
    let read = bind_ok (discard_fields d) _ e h in
    let times = both_ok _ _ read.0 read.1 in
    rw (← ok_is _ e read.2) (record { fitting = discarded_space d read.0.1 times.1; in_time = time_high d read.0.0 times.0; numbers = tt })

confirmed_is_proper : (d : Data) (e : Event) → confirmed_of d ≡ Ok e → IsProperEvent e
unfolding confirmed_of
confirmed_is_proper d e h = let read = bind_ok (time d) _ e h in rw (← ok_is _ e read.2) (record { fitting = refl; in_time = time_high d read.0 read.1; numbers = tt })

keys_is_proper : (d : Data) (e : Event) → keys_of d ≡ Ok e → IsProperEvent e
unfolding keys_of
keys_is_proper d e h = let read = bind_ok (time d) _ e h in rw (← ok_is _ e read.2) (record { fitting = refl; in_time = time_high d read.0 read.1; numbers = tt })

-- ---- a report of the sender's state

values_are_words : (d : Data) (values : MetricValues) → IsSized d → metric_values d ≡ Ok values → AreWords values
values_are_words d values sized h =
    let read = bind_ok
    (both (both (metric Window d) (both (metric Ssthresh d) (metric BytesInFlight d)))
    (both (both (metric LatestRtt d) (metric MinRtt d)) (both (metric SmoothedRtt d) (metric Rttvar d)))) _ values h in
    let f = read.0 in
    let halves = both_ok _ _ f read.1 in
    let windows = both_ok _ _ f.0 halves.0 in
    let flights = both_ok _ _ f.0.1 windows.1 in
    let pairs = both_ok _ _ f.1 halves.1 in
    let samples = both_ok _ _ f.1.0 pairs.0 in
    let estimates = both_ok _ _ f.1.1 pairs.1 in
    rw (← ok_is _ values read.2) (
      present_is_word (key.Metric Window) d _ sized windows.0,
      present_is_word (key.Metric Ssthresh) d _ sized flights.0,
      present_is_word (key.Metric BytesInFlight) d _ sized flights.1,
      present_is_word (key.Metric LatestRtt) d _ sized samples.0,
      present_is_word (key.Metric MinRtt) d _ sized samples.1,
      present_is_word (key.Metric SmoothedRtt) d _ sized estimates.0,
      present_is_word (key.Metric Rttvar) d _ sized estimates.1,
    )

metrics_is_proper : (d : Data) (e : Event) → IsSized d → metrics_of d ≡ Ok e → IsProperEvent e
unfolding metrics_of
metrics_is_proper d e sized h =
    let read = bind_ok (both (time d) (metric_values d)) _ e h in
    let parts = both_ok _ _ read.0 read.1 in
    rw (← ok_is _ e read.2) (record { fitting = refl; in_time = time_high d read.0.0 parts.0; numbers = values_are_words d read.0.1 sized parts.1 })

-- ---- the header

inside : (lo hi n : ℕ) → is_outside lo hi n ≡ false → (lo ≤ n) × (n ≤ hi)
inside lo hi n h = let parts = or_parts (nat_lt n lo) (nat_lt hi n) h in (ltb-false n lo parts.0, ltb-false hi n parts.1)

ok_is_settings : (s t : Settings) → (let r : Result Settings RangeFault = Ok s in r ≡ Ok t) → s ≡ t
ok_is_settings s t h = cc

past : (b : Bool) (fault : RangeFault) (r : Result Settings RangeFault) (s : Settings) → cond b (Err fault) r ≡ Ok s → (b ≡ false) × (r ≡ Ok s)
past true fault r s h = cc
past false fault r s h = (refl, h)

-- options that are none are in their ranges
none_is_high : (hi : ℕ) → ForSome None (λ n. n ≤ hi)
none_is_high hi n is = cc

-- values that were compared with their ranges are those that were given
checked_is : (s t : Settings) → checked s ≡ Ok t → s ≡ t
checked_is s t h =
    let datagram = past (is_outside 1200 65527 s.max_datagram_size) _ _ t h in
    let delay = past (is_outside 0 (in_unit s.unit 16383000) s.max_ack_delay) _ _ t datagram.1 in
    let rtt = past (is_outside 1 (in_unit s.unit 1000000000) s.initial_rtt) _ _ t delay.1 in
    let window = past (is_outside (2 * s.max_datagram_size) 4294967295 s.initial_window) _ _ t rtt.1 in
    ok_is_settings s t window.1

-- and are in them
checked_is_in_range : (s t : Settings) → s.options ≡ no_options → IsSaidIn s.version s.unit s.options → checked s ≡ Ok t → AreInRange t
checked_is_in_range s t none said h =
    let datagram = past (is_outside 1200 65527 s.max_datagram_size) _ _ t h in
    let delay = past (is_outside 0 (in_unit s.unit 16383000) s.max_ack_delay) _ _ t datagram.1 in
    let rtt = past (is_outside 1 (in_unit s.unit 1000000000) s.initial_rtt) _ _ t delay.1 in
    let window = past (is_outside (2 * s.max_datagram_size) 4294967295 s.initial_window) _ _ t rtt.1 in
    let datagram_in = inside 1200 65527 s.max_datagram_size datagram.0 in
    let delay_in = inside 0 (in_unit s.unit 16383000) s.max_ack_delay delay.0 in
    let rtt_in = inside 1 (in_unit s.unit 1000000000) s.initial_rtt rtt.0 in
    let window_in = inside (2 * s.max_datagram_size) 4294967295 s.initial_window window.0 in
    rw (← checked_is s t h) (record {
      datagram_low = datagram_in.0;
      datagram_high = datagram_in.1;
      delay_high = delay_in.1;
      rtt_low = rtt_in.0;
      rtt_high = rtt_in.1;
      window_low = window_in.0;
      window_high = window_in.1;
      late_high = rw none (none_is_high max_timer_late);
      slack_us_high = rw none (omega arith);
      slack_bytes_high = rw none (omega arith);
      threshold_low = rw none (omega arith);
      threshold_high = rw none (omega arith);
      early_high = rw none (omega arith);
      eighths_low = rw none (omega arith);
      eighths_high = rw none (omega arith);
      spared_reported = rw none refl;
      first_version = λ first. none;
      said = said;
    })

limit_high : (limit : Option ℕ) (hi : ℕ) → unwrap_or limit 0 ≤ hi → ForSome limit (λ n. n ≤ hi)
limit_high None hi high = none_is_high hi
limit_high (Some m) hi high = λ n is. let same : m ≡ n = cc in rw (← same) high

said_first : (v : Version) (u : TimeUnit) (o : Options) → IsSaidIn v u o → v ≡ One → o ≡ no_options
said_first One u o said first = said.1
said_first Two u o said first = cc
said_first Three u o said first = cc

-- the values with options that were compared with their ranges
in_version_is : (v : Version) (s t : Settings) (o : Options) → in_version v s o ≡ Ok t → record {
  role = s.role;
  unit = s.unit;
  max_datagram_size = s.max_datagram_size;
  max_ack_delay = s.max_ack_delay;
  initial_rtt = s.initial_rtt;
  initial_window = s.initial_window;
  version = v;
  options = o;
} ≡ t
in_version_is v s t o h =
    let late = past (is_outside 0 max_timer_late (unwrap_or o.timer_late 0)) _ _ t h in
    let slack_us = past (is_outside 0 max_report_slack_us o.report_slack_us) _ _ t late.1 in
    let slack_bytes = past (is_outside 0 max_report_slack_bytes o.report_slack_bytes) _ _ t slack_us.1 in
    let threshold = past (is_outside min_packet_threshold max_packet_threshold o.packet_threshold) _ _ t slack_bytes.1 in
    let early = past (is_outside 0 max_timer_early_us o.timer_early_us) _ _ t threshold.1 in
    let spared = past (spares_unreported o) _ _ t early.1 in
    let eighths = past (is_outside min_time_threshold_eighths max_time_threshold_eighths o.time_threshold_eighths) _ _ t spared.1 in
    ok_is_settings _ t eighths.1

-- and they are in them
in_version_in_range : (v : Version) (s t : Settings) (o : Options) → AreInRange s → IsSaidIn v s.unit o → in_version v s o ≡ Ok t → AreInRange t
in_version_in_range v s t o are said h =
    let late = past (is_outside 0 max_timer_late (unwrap_or o.timer_late 0)) _ _ t h in
    let slack_us = past (is_outside 0 max_report_slack_us o.report_slack_us) _ _ t late.1 in
    let slack_bytes = past (is_outside 0 max_report_slack_bytes o.report_slack_bytes) _ _ t slack_us.1 in
    let threshold = past (is_outside min_packet_threshold max_packet_threshold o.packet_threshold) _ _ t slack_bytes.1 in
    let early = past (is_outside 0 max_timer_early_us o.timer_early_us) _ _ t threshold.1 in
    let spared = past (spares_unreported o) _ _ t early.1 in
    let eighths = past (is_outside min_time_threshold_eighths max_time_threshold_eighths o.time_threshold_eighths) _ _ t spared.1 in
    let late_in = inside 0 max_timer_late (unwrap_or o.timer_late 0) late.0 in
    let slack_us_in = inside 0 max_report_slack_us o.report_slack_us slack_us.0 in
    let slack_bytes_in = inside 0 max_report_slack_bytes o.report_slack_bytes slack_bytes.0 in
    let threshold_in = inside min_packet_threshold max_packet_threshold o.packet_threshold threshold.0 in
    let early_in = inside 0 max_timer_early_us o.timer_early_us early.0 in
    let eighths_in = inside min_time_threshold_eighths max_time_threshold_eighths o.time_threshold_eighths eighths.0 in
    rw (← in_version_is v s t o h) (record {
      datagram_low = are.datagram_low;
      datagram_high = are.datagram_high;
      delay_high = are.delay_high;
      rtt_low = are.rtt_low;
      rtt_high = are.rtt_high;
      window_low = are.window_low;
      window_high = are.window_high;
      late_high = limit_high o.timer_late max_timer_late late_in.1;
      slack_us_high = slack_us_in.1;
      slack_bytes_high = slack_bytes_in.1;
      threshold_low = threshold_in.0;
      threshold_high = threshold_in.1;
      early_high = early_in.1;
      eighths_low = eighths_in.0;
      eighths_high = eighths_in.1;
      spared_reported = spared.0;
      first_version = said_first v s.unit o said;
      said = said;
    })

unmapped : (r : Result Settings RangeFault) (s : Settings) → out_of_range r ≡ Ok s → r ≡ Ok s
unmapped (Ok t) s h = cc
unmapped (Err e) s h = cc

-- options are said in the version that they get
said_by : (second : Bool) (u : TimeUnit) (o : Options) → fit_version_two o ≡ second → u ≡ Microseconds → IsSaidIn (cond second Two Three) u o
said_by true u o is micro = (micro, is)
said_by false u o is micro = tt

said_with : (v : Version) (u : TimeUnit) (old o : Options) → IsSaidIn v u old → IsSaidIn (version_with v o) u o
said_with One u old o said = said_by (fit_version_two o) u o refl said.0
said_with Two u old o said = said_by (fit_version_two o) u o refl said.0
said_with Three u old o said = tt

with_options_in_range : (s t : Settings) (o : Options) → AreInRange s → with_options s o ≡ Ok t → AreInRange t
with_options_in_range s t o are = in_version_in_range (version_with s.version o) s t o are (said_with s.version s.unit s.options o are.said)

-- a header that was read has one of the versions
versioned : (first second third : Bool) (s t : Settings) (q r : Result Settings Fault)
    → cond first (Ok s) (cond second q (cond third r (Err fault.Version))) ≡ Ok t → (s ≡ t) ⊎ (q ≡ Ok t) ⊎ (r ≡ Ok t)
versioned true second third s t q r h = inl cc
versioned false true third s t q r h = inr (inl h)
versioned false false true s t q r h = inr (inr h)
versioned false false false s t q r h = cc

-- no options are said in the first version of each unit
none_said : (u : TimeUnit) → IsSaidIn (version_in u) u no_options
none_said Microseconds = (refl, refl)
none_said Nanoseconds = tt

-- a header with no options that was read is in its ranges
set_is_in_range : (unit : TimeUnit) (role : Role) (datagram : ℕ) (delay rtt window : Option ℕ) (s : Settings) → settings unit role datagram delay rtt window ≡ Ok s → AreInRange s
set_is_in_range unit role datagram delay rtt window s h = checked_is_in_range (record {
  role = role;
  unit = unit;
  max_datagram_size = datagram;
  max_ack_delay = unwrap_or delay (in_unit unit 25000);
  initial_rtt = unwrap_or rtt (in_unit unit 333000);
  initial_window = unwrap_or window (default_window datagram);
  version = version_in unit;
  options = no_options;
}) s refl (none_said unit) (unmapped (settings_in unit role datagram delay rtt window) s h)

of_version_in_range : (n : ℕ) (o : Options) (s t : Settings) → AreInRange s → of_version n o s ≡ Ok t → AreInRange t
of_version_in_range n o s t are h = elim (versioned (n == 1) (n == 2) (n == 3) s t (out_of_range (with_options s o)) (out_of_range (choosing_options s o)) h) [
  | inl same ↦ rw (← same) are
  | inr later ↦ elim later [
    | inl set ↦ with_options_in_range s t o are (unmapped (with_options s o) t set)
    | inr set ↦ in_version_in_range Three s t o are tt (unmapped (choosing_options s o) t set)
  ]
]

with_losses_in_range : (losses : Option LossByNumber) (s t : Settings) → AreInRange s → with_losses losses s ≡ Ok t → AreInRange t
with_losses_in_range None s t are h = cc
with_losses_in_range (Some Must) s t are h = let same : s ≡ t = cc in rw (← same) are
with_losses_in_range (Some May) s t are h =
    let chosen : Options = record s.options { loss_by_number = May } in
    in_version_in_range Three s t chosen are tt (unmapped (choosing_options s chosen) t h)

with_counts_in_range : (counts : Option ThresholdCounts) (s t : Settings) → AreInRange s → with_counts counts s ≡ Ok t → AreInRange t
with_counts_in_range None s t are h = cc
with_counts_in_range (Some Numbers) s t are h = let same : s ≡ t = cc in rw (← same) are
with_counts_in_range (Some Packets) s t are h =
    let chosen : Options = record s.options { threshold_counts = Packets } in
    in_version_in_range Three s t chosen are tt (unmapped (choosing_options s chosen) t h)

eighths_if : (is_default : Bool) (n : ℕ) (s t : Settings) → AreInRange s
    → (if is_default then Ok s else out_of_range (choosing_options s (record s.options { time_threshold_eighths = n }))) ≡ Ok t → AreInRange t
eighths_if true n s t are h = let same : s ≡ t = cc in rw (← same) are
eighths_if false n s t are h =
    let chosen : Options = record s.options { time_threshold_eighths = n } in
    in_version_in_range Three s t chosen are tt (unmapped (choosing_options s chosen) t h)

with_eighths_in_range : (n : ℕ) (s t : Settings) → AreInRange s → with_eighths n s ≡ Ok t → AreInRange t
with_eighths_in_range n s t are h = eighths_if (n == 9) n s t are h

header_is_proper : (d : Data) (s : Settings) → header_of d ≡ Ok s → AreInRange s
unfolding header_of
header_is_proper d s h =
    let read = bind_ok (both (header_fields d) (options d)) _ s h in
    let f = read.0.0 in
    let asked : Options = record read.0.1.0 { controller = f.1.0.1 } in
    let started = settings f.1.0.0 f.0.1 f.1.1.0.0 f.1.1.0.1 f.1.1.1.0 f.1.1.1.1 in
    let behind = read.0.1.1 in
    let words = behind.0 in
    let last = bind_ok (started >>= of_version f.0.0 asked >>= with_losses words.0 >>= with_counts words.1) (with_eighths behind.1) s read.2 in
    let counted = bind_ok (started >>= of_version f.0.0 asked >>= with_losses words.0) (with_counts words.1) last.0 last.1 in
    let spared = bind_ok (started >>= of_version f.0.0 asked) (with_losses words.0) counted.0 counted.1 in
    let set = bind_ok started (of_version f.0.0 asked) spared.0 spared.1 in
    with_eighths_in_range behind.1 last.0 s
    (with_counts_in_range words.1 counted.0 last.0
    (with_losses_in_range words.0 spared.0 counted.0
    (of_version_in_range f.0.0 asked set.0 spared.0 (set_is_in_range f.1.0.0 f.0.1 f.1.1.0.0 f.1.1.0.1 f.1.1.1.0 f.1.1.1.1 set.0 set.1) set.2)
    spared.2) counted.2) last.2

-- ---- a line

-- what stands behind the line of an event that was read so
event_line_is : (event_of : Data → Result Event Fault) (d : Data) (x : Line) → event_line event_of d ≡ Ok x → (e : Event) × (event_of d ≡ Ok e) × (line.Event e ≡ x)
event_line_is event_of d x h = let read = bind_ok (event_of d) (λ e. Ok (line.Event e)) x h in (read.0, read.1, ok_is (line.Event read.0) x read.2)

proper_event : (event_of : Data → Result Event Fault) (d : Data) (x : Line) → ((e : Event) → event_of d ≡ Ok e → IsProperEvent e) → event_line event_of d ≡ Ok x → IsProperLine x
proper_event event_of d x each h = let read = event_line_is event_of d x h in rw (← read.2) (each read.0 read.1)

proper_header : (d : Data) (x : Line) → header_line d ≡ Ok x → IsProperLine x
proper_header d x h = let read = bind_ok (header_of d) (λ s. Ok (line.Header s)) x h in rw (← ok_is (line.Header read.0) x read.2) (header_is_proper d read.0 read.1)

-- each of these readers gives what there is
abbrev pub GivesProper : Option Reader → Type 0
GivesProper None = Unit {0}
GivesProper (Some reader) = (d : Data) (x : Line) → IsSized d → reader d ≡ Ok x → IsProperLine x

readers_give_proper : (kind : Option LineKind) → GivesProper (option_map reader_of kind)
readers_give_proper None = tt
readers_give_proper (Some kinds.Header) = λ d x sized h. proper_header d x h
readers_give_proper (Some kinds.Sent) = λ d x sized h. proper_event sent_of d x (sent_is_proper d) h
readers_give_proper (Some kinds.Ack) = λ d x sized h. proper_event ack_of d x (λ e. ack_is_proper d e sized) h
readers_give_proper (Some kinds.Lost) = λ d x sized h. proper_event lost_of d x (lost_is_proper d) h
readers_give_proper (Some kinds.Timer) = λ d x sized h. proper_event timer_of d x (timer_is_proper d) h
readers_give_proper (Some kinds.Discard) = λ d x sized h. proper_event discard_of d x (discard_is_proper d) h
readers_give_proper (Some kinds.Confirmed) = λ d x sized h. proper_event confirmed_of d x (confirmed_is_proper d) h
readers_give_proper (Some kinds.Keys) = λ d x sized h. proper_event keys_of d x (keys_is_proper d) h
readers_give_proper (Some kinds.Metrics) = λ d x sized h. proper_event metrics_of d x (λ e. metrics_is_proper d e sized) h

-- ---- any choice of readers

object_ok : (other : Bool) (r : Result Line Fault) (x : Line) → cond other (Err NotObject) r ≡ Ok x → r ≡ Ok x
object_ok true r x h = cc
object_ok false r x h = h

known_ok : (o : Option Reader) (r : Reader) → ok_or o UnknownEvent ≡ Ok r → o ≡ Some r
known_ok None r h = cc
known_ok (Some q) r h = cc

-- the object was read by the reader that its event names
abbrev pub SaidBy : (List ℕ → Option Reader) → Data → Line → Type 0
SaidBy readers d x = (t : List ℕ) × (reader : Reader) × (readers t ≡ Some reader) × (reader d ≡ Ok x)

pub object_said : (readers : List ℕ → Option Reader) (d : Data) (x : Line) → object_says readers d ≡ Ok x → SaidBy readers d x
unfolding object_says
object_said readers d x h =
    let object = object_ok (not (is_some (as_object d))) _ x h in
    let named = bind_ok (required string key.Event d) _ x object in
    let known = bind_ok (ok_or (readers named.0) UnknownEvent) _ x named.2 in
    (named.0, known.0, known_ok (readers named.0) known.0 known.1, known.2)

json_at : (b : Bool) (o : Option Data) (d : Data) → cond b (ok_or o NotJson) (Err NotJson) ≡ Ok d → o ≡ Some d
json_at true None d h = cc
json_at true (Some e) d h = cc
json_at false o d h = cc

json_is : (l : List ℕ) (d : Data) → json_of l ≡ Ok d → read l ≡ Some d
unfolding json_of
json_is l d h = json_at (is_utf8 l) (read l) d h

said_at : (blank : Bool) (r : Result Line Fault) (x : Line) → cond blank (Ok line.Blank) r ≡ Ok x → (line.Blank ≡ x) ⊎ (r ≡ Ok x)
said_at true r x h = inl (ok_is line.Blank x h)
said_at false r x h = inr h

-- a line that was read is blank, or an object of integers of 64 bits that one of the readers read
line_said : (readers : List ℕ → Option Reader) (l : List ℕ) (x : Line) → reading_by readers l ≡ Ok x → (line.Blank ≡ x) ⊎ ((d : Data) × IsSized d × SaidBy readers d x)
unfolding reading_by
line_said readers l x h = elim (said_at (list_all is_blank l) (json_of l >>= object_says readers) x h) [
  | inl blank ↦ inl blank
  | inr said ↦ (let read = bind_ok (json_of l) (object_says readers) x said in
      inr (read.0, read-IsSized l read.0 (json_is l read.0 read.1), object_said readers read.0 x read.2))
]

given : (o : Option Reader) (reader : Reader) → GivesProper o → o ≡ Some reader → GivesProper (Some reader)
given o reader proper is = rw is at proper

pub reading_is_proper : (l : List ℕ) (x : Line) → reading l ≡ Ok x → IsProperLine x
reading_is_proper l x h = elim (line_said reader_named l x h) [
  | inl blank ↦ rw (← blank) tt
  | inr said ↦ given (reader_named said.2.0) said.2.1 (readers_give_proper (line_kind_named said.2.0)) said.2.2 said.0 x said.1 said.2.3
]

proper_fits : (x : Line) → IsProperLine x → line_fits x ≡ true
proper_fits line.Blank proper = refl
proper_fits (line.Header s) proper = refl
proper_fits (line.Event e) proper = proper.fitting

-- the event of a line that was read fits
pub reading_fits : (l : List ℕ) (x : Line) → reading l ≡ Ok x → line_fits x ≡ true
reading_fits l x h = proper_fits x (reading_is_proper l x h)
