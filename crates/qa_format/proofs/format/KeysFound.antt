-- An object whose keys give the values of a line says that line, whatever else it has and however its keys stand.
use Rattle.std.proofs.Common.{◌≡◌, ◌∙◌, ℕ, ◌≤◌, List, Bool, true, false, cond, Option, Some, None, Result, Ok, Err, refl, ap, ◌&&◌, ◌||◌, not, arith}
use Rattle.std.proofs.lemmas.Bool.{and_parts, leb-true}
use Rattle.std.specs.Prelude.{nat_le, codes, option_map, option_and_then, is_some, unwrap_or, if◌then◌else◌}
use Rattle.serde_json.specs.Data as json
use Rattle.serde_json.specs.Data.{Data, object, Members}
use Rattle.serde_json.specs.Find.{get, get_member, as_null}
use Rattle.qa_base.specs.declared.event.Event.{Event}
use Rattle.qa_base.specs.declared.event.SentPacket.{SentPacket}
use Rattle.qa_base.specs.declared.event.Ack.{Ack as Acknowledgment}
use Rattle.qa_base.specs.declared.event.Event.TheVariants.{Sent, Ack, Lost, Timer, Discard, Confirmed, Keys, Metrics}
use Rattle.qa_base.specs.declared.event.MetricValues.{MetricValues}
use Rattle.qa_format.specs.declared.fault.Fault.{Fault}
use Rattle.qa_format.specs.declared.fault.Fault.TheVariants.{FlagsClash}
use Rattle.qa_base.specs.declared.key.Key.{Key}
use Rattle.qa_base.specs.declared.key.Key.TheVariants as key
use Rattle.qa_base.specs.declared.header.Options.{Options}
use Rattle.qa_format.specs.declared.line.Line.TheVariants as line
use Rattle.qa_base.specs.declared.rule.Field.TheVariants as field
use Rattle.qa_base.specs.declared.space.TimerKind.{TimerKind}
use Rattle.qa_base.specs.declared.space.Permission.{Permission}
use Rattle.qa_base.specs.declared.space.Permission.TheVariants as leaves
use Rattle.qa_base.specs.declared.space.Role.{Role}
use Rattle.qa_base.specs.declared.space.Space.{Space}
use Rattle.qa_base.specs.declared.space.Space.TheVariants.{Initial, Handshake, App}
use Rattle.qa_base.specs.declared.space.LossByNumber.{LossByNumber}
use Rattle.qa_base.specs.declared.space.LossByNumber.TheVariants.{Must}
use Rattle.qa_base.specs.declared.space.ThresholdCounts.{ThresholdCounts}
use Rattle.qa_base.specs.declared.space.ThresholdCounts.TheVariants.{Numbers}
use Rattle.qa_base.specs.declared.space.Controller.{Controller}
use Rattle.qa_base.specs.declared.space.Controller.TheVariants.{NewReno}
use Rattle.qa_base.specs.declared.space.TimeUnit.{TimeUnit}
use Rattle.qa_base.specs.declared.space.TimeUnit.TheVariants.{Microseconds}
use Rattle.qa_base.specs.values.Events.{is_space}
use Rattle.qa_base.specs.values.Limits.{max_time, max_packet_number, max_packet_size}
use Rattle.qa_base.specs.values.Names.{key_name, role_name, role_named, unit_name, controller_name, loss_by_number_name, unit_named, controller_named, loss_by_number_named, threshold_counts_name, threshold_counts_named, space_name, space_named, discarded_named, permission_name, permission_named, kind_name, kind_named}
use Rattle.qa_format.specs.format.Proper.{IsProperEvent}
use Rattle.qa_base.specs.values.Settings.{Settings, no_options}
use Rattle.qa_format.specs.format.Keys.{◌>>=◌, both, Kind, read_or, integer, integer_from, string, string_among, string_naming, boolean, ranges, required, optional}
use Rattle.qa_format.specs.format.Reading.{reader_named, object_says}
use Rattle.qa_format.specs.format.Tables.{time, space, version, unit_and_window_for, unit_and_window, header_fields, option_fields, choice_fields, version_two_options, version_three_options, options_for, options, nothing_behind, settings, of_version, with_losses, with_counts, with_eighths, header_of, sent_fields, sent_of, ack_fields, ack_of, lost_fields, lost_of, timer_fields, timer_of, discard_fields, discard_of, confirmed_of, keys_of, metric_values, metrics_of}
use Rattle.qa_format.specs.format.Written as written
use Rattle.qa_format.proofs.format.KeysWritten.{required_reads, optional_reads, both_reads, integer_from_reads, role_reads, unit_reads, controller_reads, losses_read, counts_read, space_reads, permission_reads, kind_reads, ranges_read, present_integer_reads}

-- ---- several keys

then_reads : {A B : Type 0} → (r : Result A Fault) (f : A → Result B Fault) (x : A) (y : B) → r ≡ Ok x → f x ≡ Ok y → (r >>= f) ≡ Ok y
then_reads r f x y first second = rw first second

-- a key that may be absent, and stands for this value then
optional_found : {A : Type 0} → (kind : Kind A) (absent : A) (k : Key) (d : Data) (as_data : A → Data) (o : Option A)
    → get (key_name k) d ≡ option_map as_data o → ((a : A) → as_null (as_data a) ≡ None) → ((a : A) → kind k (as_data a) ≡ Ok a)
    → optional kind absent k d ≡ Ok (unwrap_or o absent)
optional_found kind absent k d as_data None at some reads = ap (λ g. read_or kind absent k (option_and_then (λ v. if is_some (as_null v) then None else Some v) g)) at
optional_found kind absent k d as_data (Some a) at some reads = optional_reads kind absent k d (as_data a) a at (some a) (reads a)

-- ---- keys that several kinds of line have

named_found : (d : Data) (name : List ℕ) → get (codes "event") d ≡ Some (written.string name) → required string key.Event d ≡ Ok name
named_found d name at = required_reads string key.Event d (written.string name) name at refl refl

time_reads : (d : Data) (t : ℕ) → get (codes "time") d ≡ Some (written.integer t) → t ≤ max_time → time d ≡ Ok t
time_reads d t at high = required_reads (integer_from 0 max_time) key.Time d (written.integer t) t at refl (integer_from_reads 0 max_time key.Time t (omega arith) high)

space_stands : (d : Data) (s : Space) → get (codes "space") d ≡ Some (written.string (space_name s)) → space d ≡ Ok s
space_stands d s at = required_reads (string_among space_named) key.Space d (written.string (space_name s)) s at refl (space_reads key.Space s)

ranges_stand : (d : Data) (rs : List (ℕ × ℕ)) → get (codes "ranges") d ≡ Some (json.array (written.integer_pairs rs)) → ranges key.Ranges (json.array (written.integer_pairs rs)) ≡ Ok rs → required ranges key.Ranges d ≡ Ok rs
ranges_stand d rs at reads = required_reads ranges key.Ranges d (json.array (written.integer_pairs rs)) rs at refl reads

-- ---- the header

version_found : (d : Data) (n : ℕ) → get (codes "version") d ≡ Some (written.integer n) → version d ≡ Ok n
version_found d n at = required_reads integer key.Version d (written.integer n) n at refl refl

-- versions 1 and 2 have no keys for the unit and for whose window it is
pub first_unit_found : (d : Data) → get (codes "version") d ≡ Some (written.integer 1) → unit_and_window d ≡ Ok (Microseconds, NewReno)
first_unit_found d at = ap (λ r. unit_and_window_for r d) (version_found d 1 at)

pub second_unit_found : (d : Data) → get (codes "version") d ≡ Some (written.integer 2) → unit_and_window d ≡ Ok (Microseconds, NewReno)
second_unit_found d at = ap (λ r. unit_and_window_for r d) (version_found d 2 at)

-- those of version 3 are the values that are there, with their defaults
pub third_unit_found : (d : Data) (u : Option TimeUnit) (w : Option Controller) → get (codes "version") d ≡ Some (written.integer 3)
    → get (codes "unit") d ≡ option_map (λ v. written.string (unit_name v)) u → get (codes "window") d ≡ option_map (λ v. written.string (controller_name v)) w
    → unit_and_window d ≡ Ok (unwrap_or u Microseconds, unwrap_or w NewReno)
third_unit_found d u w at_version at_unit at_window =
    ap (λ r. unit_and_window_for r d) (version_found d 3 at_version)
    ∙ both_reads _ _ (unwrap_or u Microseconds) (unwrap_or w NewReno)
    (optional_found (string_among unit_named) Microseconds key.Unit d (λ v. written.string (unit_name v)) u at_unit (λ v. refl) (unit_reads key.Unit))
    (optional_found (string_among controller_named) NewReno key.Window d (λ v. written.string (controller_name v)) w at_window (λ v. refl) (controller_reads key.Window))

-- version 1 has no options
pub first_options_found : (d : Data) → get (codes "version") d ≡ Some (written.integer 1) → options d ≡ Ok (no_options, nothing_behind)
first_options_found d at = ap (λ r. options_for r d) (version_found d 1 at)

-- the values of options that are there, with their defaults
option_fields_found : (d : Data) (limit : Option ℕ) (refresh : Option Bool) (slack_us slack_bytes : Option ℕ)
    → get (codes "timer_late_us") d ≡ option_map written.integer limit
    → get (codes "refresh_min_rtt") d ≡ option_map written.boolean refresh
    → get (codes "report_slack_us") d ≡ option_map written.integer slack_us
    → get (codes "report_slack_bytes") d ≡ option_map written.integer slack_bytes
    → option_fields d ≡ Ok ((limit, unwrap_or refresh false), (unwrap_or slack_us 0, unwrap_or slack_bytes 0))
option_fields_found d limit refresh slack_us slack_bytes at_limit at_refresh at_slack_us at_slack_bytes =
    let timers = both_reads _ _ limit (unwrap_or refresh false) (present_integer_reads key.TimerLateUs d limit at_limit)
    (optional_found boolean false key.RefreshMinRtt d written.boolean refresh at_refresh (λ b. refl) (λ b. refl)) in
    let slacks = both_reads _ _ (unwrap_or slack_us 0) (unwrap_or slack_bytes 0)
    (optional_found integer 0 key.ReportSlackUs d written.integer slack_us at_slack_us (λ n. refl) (λ n. refl))
    (optional_found integer 0 key.ReportSlackBytes d written.integer slack_bytes at_slack_bytes (λ n. refl) (λ n. refl)) in
    both_reads _ _ _ _ timers slacks

-- what loss_by_number stands for, where it is there or not
losses_found : (d : Data) (losses : Option LossByNumber) → get (codes "loss_by_number") d ≡ option_map (λ l. written.string (loss_by_number_name l)) losses
    → optional (string_naming loss_by_number_named) (Some Must) key.LossByNumber d ≡ Ok (Some (unwrap_or losses Must))
losses_found d None at = ap (λ g. read_or (string_naming loss_by_number_named) (Some Must) key.LossByNumber (option_and_then (λ v. if is_some (as_null v) then None else Some v) g)) at
losses_found d (Some l) at =
    optional_reads (string_naming loss_by_number_named) (Some Must) key.LossByNumber d (written.string (loss_by_number_name l)) (Some l) at refl (losses_read key.LossByNumber l)

-- what threshold_counts stands for, where it is there or not
counts_found : (d : Data) (counts : Option ThresholdCounts) → get (codes "threshold_counts") d ≡ option_map (λ t. written.string (threshold_counts_name t)) counts
    → optional (string_naming threshold_counts_named) (Some Numbers) key.ThresholdCounts d ≡ Ok (Some (unwrap_or counts Numbers))
counts_found d None at = ap (λ g. read_or (string_naming threshold_counts_named) (Some Numbers) key.ThresholdCounts (option_and_then (λ v. if is_some (as_null v) then None else Some v) g)) at
counts_found d (Some t) at =
    optional_reads (string_naming threshold_counts_named) (Some Numbers) key.ThresholdCounts d (written.string (threshold_counts_name t)) (Some t) at refl (counts_read key.ThresholdCounts t)

choice_fields_found : (d : Data) (overshoot eliciting : Option Bool) (threshold early : Option ℕ) (losses : Option LossByNumber) (counts : Option ThresholdCounts) (reset less : Option Bool) (eighths : Option ℕ) (order : Option Bool)
    → get (codes "window_overshoot") d ≡ option_map written.boolean overshoot
    → get (codes "sample_eliciting_only") d ≡ option_map written.boolean eliciting
    → get (codes "packet_threshold") d ≡ option_map written.integer threshold
    → get (codes "timer_early_us") d ≡ option_map written.integer early
    → get (codes "loss_by_number") d ≡ option_map (λ l. written.string (loss_by_number_name l)) losses
    → get (codes "threshold_counts") d ≡ option_map (λ t. written.string (threshold_counts_name t)) counts
    → get (codes "reset_rtt") d ≡ option_map written.boolean reset
    → get (codes "latest_rtt_less_delay") d ≡ option_map written.boolean less
    → get (codes "time_threshold_eighths") d ≡ option_map written.integer eighths
    → get (codes "recovery_by_order") d ≡ option_map written.boolean order
    → choice_fields d ≡ Ok ((unwrap_or overshoot false, unwrap_or eliciting false), ((unwrap_or threshold 3, unwrap_or early 0), ((Some (unwrap_or losses Must), Some (unwrap_or counts Numbers)), ((unwrap_or reset false, unwrap_or less false), (unwrap_or eighths 9, unwrap_or order false)))))
choice_fields_found d overshoot eliciting threshold early losses counts reset less eighths order at_overshoot at_eliciting at_threshold at_early at_losses at_counts at_reset at_less at_eighths at_order =
    let flags = both_reads _ _ (unwrap_or overshoot false) (unwrap_or eliciting false)
    (optional_found boolean false key.WindowOvershoot d written.boolean overshoot at_overshoot (λ b. refl) (λ b. refl))
    (optional_found boolean false key.SampleElicitingOnly d written.boolean eliciting at_eliciting (λ b. refl) (λ b. refl)) in
    let numbers = both_reads _ _ (unwrap_or threshold 3) (unwrap_or early 0)
    (optional_found integer 3 key.PacketThreshold d written.integer threshold at_threshold (λ n. refl) (λ n. refl))
    (optional_found integer 0 key.TimerEarlyUs d written.integer early at_early (λ n. refl) (λ n. refl)) in
    let words = both_reads _ _ (Some (unwrap_or losses Must)) (Some (unwrap_or counts Numbers)) (losses_found d losses at_losses) (counts_found d counts at_counts) in
    let rtts = both_reads _ _ (unwrap_or reset false) (unwrap_or less false)
    (optional_found boolean false key.ResetRtt d written.boolean reset at_reset (λ b. refl) (λ b. refl))
    (optional_found boolean false key.LatestRttLessDelay d written.boolean less at_less (λ b. refl) (λ b. refl)) in
    let lasts = both_reads _ _ (unwrap_or eighths 9) (unwrap_or order false)
    (optional_found integer 9 key.TimeThresholdEighths d written.integer eighths at_eighths (λ n. refl) (λ n. refl))
    (optional_found boolean false key.RecoveryByOrder d written.boolean order at_order (λ b. refl) (λ b. refl)) in
    let delays = both_reads _ _ _ _ rtts lasts in
    both_reads _ _ _ _ flags (both_reads _ _ _ _ numbers (both_reads _ _ _ _ words delays))

-- the options of version 2 are the values that are there, with their defaults
pub version_two_options_found : (d : Data) (limit : Option ℕ) (refresh : Option Bool) (slack_us slack_bytes : Option ℕ)
    → get (codes "version") d ≡ Some (written.integer 2)
    → get (codes "timer_late_us") d ≡ option_map written.integer limit
    → get (codes "refresh_min_rtt") d ≡ option_map written.boolean refresh
    → get (codes "report_slack_us") d ≡ option_map written.integer slack_us
    → get (codes "report_slack_bytes") d ≡ option_map written.integer slack_bytes
    → options d ≡ Ok (record no_options { timer_late = limit; refresh_min_rtt = unwrap_or refresh false; report_slack_us = unwrap_or slack_us 0; report_slack_bytes = unwrap_or slack_bytes 0 }, nothing_behind)
version_two_options_found d limit refresh slack_us slack_bytes at_version at_limit at_refresh at_slack_us at_slack_bytes =
    let second : options d ≡ version_two_options d = ap (λ r. options_for r d) (version_found d 2 at_version) in
    let fields = option_fields_found d limit refresh slack_us slack_bytes at_limit at_refresh at_slack_us at_slack_bytes in
    second ∙ then_reads _ _ ((limit, unwrap_or refresh false), (unwrap_or slack_us 0, unwrap_or slack_bytes 0)) _ fields refl

-- and so are those of version 3
pub version_three_options_found : (d : Data) (limit : Option ℕ) (refresh : Option Bool) (slack_us slack_bytes : Option ℕ) (overshoot eliciting : Option Bool) (threshold early : Option ℕ) (losses : Option LossByNumber) (counts : Option ThresholdCounts) (reset less : Option Bool) (eighths : Option ℕ) (order : Option Bool)
    → get (codes "version") d ≡ Some (written.integer 3)
    → get (codes "timer_late_us") d ≡ option_map written.integer limit
    → get (codes "refresh_min_rtt") d ≡ option_map written.boolean refresh
    → get (codes "report_slack_us") d ≡ option_map written.integer slack_us
    → get (codes "report_slack_bytes") d ≡ option_map written.integer slack_bytes
    → get (codes "window_overshoot") d ≡ option_map written.boolean overshoot
    → get (codes "sample_eliciting_only") d ≡ option_map written.boolean eliciting
    → get (codes "packet_threshold") d ≡ option_map written.integer threshold
    → get (codes "timer_early_us") d ≡ option_map written.integer early
    → get (codes "loss_by_number") d ≡ option_map (λ l. written.string (loss_by_number_name l)) losses
    → get (codes "threshold_counts") d ≡ option_map (λ t. written.string (threshold_counts_name t)) counts
    → get (codes "reset_rtt") d ≡ option_map written.boolean reset
    → get (codes "latest_rtt_less_delay") d ≡ option_map written.boolean less
    → get (codes "time_threshold_eighths") d ≡ option_map written.integer eighths
    → get (codes "recovery_by_order") d ≡ option_map written.boolean order
    → options d ≡ Ok (
      record no_options {
        timer_late = limit;
        refresh_min_rtt = unwrap_or refresh false;
        report_slack_us = unwrap_or slack_us 0;
        report_slack_bytes = unwrap_or slack_bytes 0;
        window_overshoot = unwrap_or overshoot false;
        sample_eliciting_only = unwrap_or eliciting false;
        packet_threshold = unwrap_or threshold 3;
        timer_early_us = unwrap_or early 0;
        reset_rtt = unwrap_or reset false;
        latest_rtt_less_delay = unwrap_or less false;
        recovery_by_order = unwrap_or order false;
      },
      ((Some (unwrap_or losses Must), Some (unwrap_or counts Numbers)), unwrap_or eighths 9),
    )
version_three_options_found d limit refresh slack_us slack_bytes overshoot eliciting threshold early losses counts reset less eighths order at_version at_limit at_refresh at_slack_us at_slack_bytes at_overshoot at_eliciting at_threshold at_early at_losses at_counts at_reset at_less at_eighths at_order =
    let third : options d ≡ version_three_options d = ap (λ r. options_for r d) (version_found d 3 at_version) in
    let asked = option_fields_found d limit refresh slack_us slack_bytes at_limit at_refresh at_slack_us at_slack_bytes in
    let chosen = choice_fields_found d overshoot eliciting threshold early losses counts reset less eighths order at_overshoot at_eliciting at_threshold at_early at_losses at_counts at_reset at_less at_eighths at_order in
    third ∙ then_reads _ _
    (((limit, unwrap_or refresh false), (unwrap_or slack_us 0, unwrap_or slack_bytes 0)), ((unwrap_or overshoot false, unwrap_or eliciting false), ((unwrap_or threshold 3, unwrap_or early 0), ((Some (unwrap_or losses Must), Some (unwrap_or counts Numbers)), ((unwrap_or reset false, unwrap_or less false), (unwrap_or eighths 9, unwrap_or order false))))))
    _ (both_reads _ _ _ _ asked chosen) refl

-- the settings are those of the values that are there, with their defaults, in the version of this number with these options,
-- losses by number, what the packet threshold counts, and time threshold
pub header_found : (ms : Members) (n : ℕ) (asked : Options) (losses : LossByNumber) (counts : ThresholdCounts) (eighths : ℕ) (role : Role) (times : TimeUnit) (who : Controller) (max_datagram_size : ℕ) (max_ack_delay initial_rtt initial_window : Option ℕ) (s t : Settings)
    → get_member (codes "event") ms ≡ Some (written.string (codes "header"))
    → get_member (codes "version") ms ≡ Some (written.integer n)
    → get_member (codes "role") ms ≡ Some (written.string (role_name role))
    → unit_and_window (object ms) ≡ Ok (times, who)
    → get_member (codes "max_datagram_size") ms ≡ Some (written.integer max_datagram_size)
    → get_member (codes "max_ack_delay") ms ≡ option_map written.integer max_ack_delay
    → get_member (codes "initial_rtt") ms ≡ option_map written.integer initial_rtt
    → get_member (codes "initial_window") ms ≡ option_map written.integer initial_window
    → options (object ms) ≡ Ok (asked, ((Some losses, Some counts), eighths))
    → settings times role max_datagram_size max_ack_delay initial_rtt initial_window ≡ Ok s
    → (of_version n (record asked { controller = who }) s >>= with_losses (Some losses) >>= with_counts (Some counts) >>= with_eighths eighths) ≡ Ok t
    → object_says reader_named (object ms) ≡ Ok (line.Header t)
unfolding object_says header_of
header_found ms n asked losses counts eighths role times who max_datagram_size max_ack_delay initial_rtt initial_window s t named at_version at_role at_unit at_size at_delay at_rtt at_window asks are of =
    let d = object ms in
    let firsts = both_reads _ _ n role (version_found d n at_version)
    (required_reads (string_among role_named) key.Role d (written.string (role_name role)) role at_role refl (role_reads key.Role role)) in
    let sizes = both_reads _ _ max_datagram_size max_ack_delay
    (required_reads integer key.MaxDatagramSize d (written.integer max_datagram_size) max_datagram_size at_size refl refl)
    (present_integer_reads key.MaxAckDelay d max_ack_delay at_delay) in
    let starts = both_reads _ _ initial_rtt initial_window (present_integer_reads key.InitialRtt d initial_rtt at_rtt) (present_integer_reads key.InitialWindow d initial_window at_window) in
    let fields = both_reads _ _ _ _ firsts (both_reads _ _ _ _ at_unit (both_reads _ _ _ _ sizes starts)) in
    let says : header_of d ≡ Ok t = then_reads (both (header_fields d) (options d)) _
    (((n, role), ((times, who), ((max_datagram_size, max_ack_delay), (initial_rtt, initial_window)))), (asked, ((Some losses, Some counts), eighths))) _ (both_reads _ _ _ _ fields asks)
    (ap (λ r. r >>= of_version n (record asked { controller = who }) >>= with_losses (Some losses) >>= with_counts (Some counts) >>= with_eighths eighths) are ∙ of) in
    then_reads (required string key.Event d) _ (codes "header") (line.Header t) (named_found d (codes "header") named) (ap (λ r. r >>= λ u. Ok (line.Header u)) says)

-- ---- packets

event_of : (e : Event) (r : Result Event Fault) → r ≡ Ok e → (r >>= λ f. Ok (line.Event f)) ≡ Ok (line.Event e)
event_of e r h = ap (λ q. q >>= λ f. Ok (line.Event f)) h

flags_pass : (eliciting in_flight : Bool) (e : Event) → (not eliciting || in_flight) ≡ true → cond (eliciting && not in_flight) (Err FlagsClash) (Ok e) ≡ Ok e
flags_pass true true e h = refl
flags_pass true false e h = cc
flags_pass false in_flight e h = refl

pub sent_found : (ms : Members) (packet : SentPacket) (permission : Option Permission)
    → get_member (codes "event") ms ≡ Some (written.string (codes "sent"))
    → get_member (codes "time") ms ≡ Some (written.integer packet.time)
    → get_member (codes "space") ms ≡ Some (written.string (space_name packet.space))
    → get_member (codes "number") ms ≡ Some (written.integer packet.number)
    → get_member (codes "size") ms ≡ Some (written.integer packet.size)
    → get_member (codes "eliciting") ms ≡ Some (written.boolean packet.eliciting)
    → get_member (codes "in_flight") ms ≡ Some (written.boolean packet.in_flight)
    → get_member (codes "leave") ms ≡ option_map (λ l. written.string (permission_name l)) permission
    → IsProperEvent (Sent (record packet { permission = unwrap_or permission leaves.Window }))
    → object_says reader_named (object ms) ≡ Ok (line.Event (Sent (record packet { permission = unwrap_or permission leaves.Window })))
unfolding object_says sent_of
sent_found ms packet permission named at_time at_space at_number at_size at_eliciting at_in_flight at_permission proper =
    let d = object ms in
    let e = Sent (record packet { permission = unwrap_or permission leaves.Window }) in
    let parts = and_parts (nat_le 1 packet.size && nat_le packet.size max_packet_size) (not packet.eliciting || packet.in_flight) proper.fitting in
    let bounds = and_parts (nat_le 1 packet.size) (nat_le packet.size max_packet_size) parts.0 in
    let leaves_read = optional_found (string_among permission_named) leaves.Window key.Leave d (λ l. written.string (permission_name l)) permission at_permission (λ l. refl) (permission_reads key.Leave) in
    let flags_read = both_reads _ _ packet.eliciting _ (required_reads boolean key.Eliciting d (written.boolean packet.eliciting) packet.eliciting at_eliciting refl refl)
    (both_reads _ _ packet.in_flight (unwrap_or permission leaves.Window) (required_reads boolean key.InFlight d (written.boolean packet.in_flight) packet.in_flight at_in_flight refl refl) leaves_read) in
    let size_read = required_reads (integer_from 1 max_packet_size) key.Size d (written.integer packet.size) packet.size at_size refl
    (integer_from_reads 1 max_packet_size key.Size packet.size (leb-true 1 packet.size bounds.0) (leb-true packet.size max_packet_size bounds.1)) in
    let number_read = required_reads (integer_from 0 max_packet_number) key.Number d (written.integer packet.number) packet.number at_number refl
    (integer_from_reads 0 max_packet_number key.Number packet.number (omega arith) proper.numbers) in
    let fields = both_reads _ _ packet.time _ (time_reads d packet.time at_time proper.in_time)
    (both_reads _ _ packet.space _ (space_stands d packet.space at_space)
    (both_reads _ _ packet.number _ number_read
    (both_reads _ _ packet.size _ size_read flags_read))) in
    let says : sent_of d ≡ Ok e = then_reads (sent_fields d) _ (packet.time, (packet.space, (packet.number, (packet.size, (packet.eliciting, (packet.in_flight, unwrap_or permission leaves.Window)))))) _ fields
    (flags_pass packet.eliciting packet.in_flight e parts.1) in
    then_reads (required string key.Event d) _ (codes "sent") (line.Event e) (named_found d (codes "sent") named) (event_of e _ says)

pub ack_found : (ms : Members) (ack : Acknowledgment) (delay : Option ℕ) (app_limited : Option Bool)
    → get_member (codes "event") ms ≡ Some (written.string (codes "ack"))
    → get_member (codes "time") ms ≡ Some (written.integer ack.time)
    → get_member (codes "space") ms ≡ Some (written.string (space_name ack.space))
    → get_member (codes "ranges") ms ≡ Some (json.array (written.integer_pairs ack.ranges))
    → get_member (codes "delay") ms ≡ option_map written.integer delay
    → get_member (codes "limited") ms ≡ option_map written.boolean app_limited
    → IsProperEvent (Ack (record ack { delay = unwrap_or delay 0; app_limited = unwrap_or app_limited false }))
    → object_says reader_named (object ms) ≡ Ok (line.Event (Ack (record ack { delay = unwrap_or delay 0; app_limited = unwrap_or app_limited false })))
unfolding object_says ack_of
ack_found ms ack delay app_limited named at_time at_space at_ranges at_delay at_limited proper =
    let d = object ms in
    let e = Ack (record ack { delay = unwrap_or delay 0; app_limited = unwrap_or app_limited false }) in
    let listed = ranges_stand d ack.ranges at_ranges (ranges_read key.Ranges ack.ranges proper.fitting proper.numbers.0) in
    let rest = both_reads _ _ (unwrap_or delay 0) (unwrap_or app_limited false)
    (optional_found integer 0 key.Delay d written.integer delay at_delay (λ n. refl) (λ n. refl))
    (optional_found boolean false key.Limited d written.boolean app_limited at_limited (λ b. refl) (λ b. refl)) in
    let fields = both_reads _ _ ack.time _ (time_reads d ack.time at_time proper.in_time) (both_reads _ _ ack.space _ (space_stands d ack.space at_space) (both_reads _ _ ack.ranges _ listed rest)) in
    let says : ack_of d ≡ Ok e = then_reads (ack_fields d) _ (ack.time, (ack.space, (ack.ranges, (unwrap_or delay 0, unwrap_or app_limited false)))) _ fields refl in
    then_reads (required string key.Event d) _ (codes "ack") (line.Event e) (named_found d (codes "ack") named) (event_of e _ says)

pub lost_found : (ms : Members) (t : ℕ) (s : Space) (rs : List (ℕ × ℕ))
    → get_member (codes "event") ms ≡ Some (written.string (codes "lost"))
    → get_member (codes "time") ms ≡ Some (written.integer t)
    → get_member (codes "space") ms ≡ Some (written.string (space_name s))
    → get_member (codes "ranges") ms ≡ Some (json.array (written.integer_pairs rs))
    → IsProperEvent (Lost t s rs)
    → object_says reader_named (object ms) ≡ Ok (line.Event (Lost t s rs))
unfolding object_says lost_of
lost_found ms t s rs named at_time at_space at_ranges proper =
    let d = object ms in
    let e = Lost t s rs in
    let listed = ranges_stand d rs at_ranges (ranges_read key.Ranges rs proper.fitting proper.numbers) in
    let fields = both_reads _ _ t _ (time_reads d t at_time proper.in_time) (both_reads _ _ s rs (space_stands d s at_space) listed) in
    let says : lost_of d ≡ Ok e = then_reads (lost_fields d) _ (t, (s, rs)) _ fields refl in
    then_reads (required string key.Event d) _ (codes "lost") (line.Event e) (named_found d (codes "lost") named) (event_of e _ says)

-- ---- the timer and the handshake

pub timer_found : (ms : Members) (t : ℕ) (k : TimerKind) (s : Space)
    → get_member (codes "event") ms ≡ Some (written.string (codes "timer"))
    → get_member (codes "time") ms ≡ Some (written.integer t)
    → get_member (codes "kind") ms ≡ Some (written.string (kind_name k))
    → get_member (codes "space") ms ≡ Some (written.string (space_name s))
    → IsProperEvent (Timer t k s)
    → object_says reader_named (object ms) ≡ Ok (line.Event (Timer t k s))
unfolding object_says timer_of
timer_found ms t k s named at_time at_kind at_space proper =
    let d = object ms in
    let e = Timer t k s in
    let kinds = required_reads (string_among kind_named) key.Kind d (written.string (kind_name k)) k at_kind refl (kind_reads key.Kind k) in
    let fields = both_reads _ _ t _ (time_reads d t at_time proper.in_time) (both_reads _ _ k s kinds (space_stands d s at_space)) in
    let says : timer_of d ≡ Ok e = then_reads (timer_fields d) _ (t, (k, s)) _ fields refl in
    then_reads (required string key.Event d) _ (codes "timer") (line.Event e) (named_found d (codes "timer") named) (event_of e _ says)

discarded_reads : (s : Space) → not (is_space App s) ≡ true → string_among discarded_named key.Space (written.string (space_name s)) ≡ Ok s
discarded_reads Initial h = refl
discarded_reads Handshake h = refl
discarded_reads App h = cc

pub discard_found : (ms : Members) (t : ℕ) (s : Space)
    → get_member (codes "event") ms ≡ Some (written.string (codes "discard"))
    → get_member (codes "time") ms ≡ Some (written.integer t)
    → get_member (codes "space") ms ≡ Some (written.string (space_name s))
    → IsProperEvent (Discard t s)
    → object_says reader_named (object ms) ≡ Ok (line.Event (Discard t s))
unfolding object_says discard_of
discard_found ms t s named at_time at_space proper =
    let d = object ms in
    let e = Discard t s in
    let spaces = required_reads (string_among discarded_named) key.Space d (written.string (space_name s)) s at_space refl (discarded_reads s proper.fitting) in
    let fields = both_reads _ _ t s (time_reads d t at_time proper.in_time) spaces in
    let says : discard_of d ≡ Ok e = then_reads (discard_fields d) _ (t, s) _ fields refl in
    then_reads (required string key.Event d) _ (codes "discard") (line.Event e) (named_found d (codes "discard") named) (event_of e _ says)

pub confirmed_found : (ms : Members) (t : ℕ)
    → get_member (codes "event") ms ≡ Some (written.string (codes "confirmed"))
    → get_member (codes "time") ms ≡ Some (written.integer t)
    → IsProperEvent (Confirmed t)
    → object_says reader_named (object ms) ≡ Ok (line.Event (Confirmed t))
unfolding object_says confirmed_of
confirmed_found ms t named at_time proper =
    let d = object ms in
    let e = Confirmed t in
    let says : confirmed_of d ≡ Ok e = then_reads (time d) _ t _ (time_reads d t at_time proper.in_time) refl in
    then_reads (required string key.Event d) _ (codes "confirmed") (line.Event e) (named_found d (codes "confirmed") named) (event_of e _ says)

pub keys_found : (ms : Members) (t : ℕ)
    → get_member (codes "event") ms ≡ Some (written.string (codes "keys"))
    → get_member (codes "time") ms ≡ Some (written.integer t)
    → IsProperEvent (Keys t)
    → object_says reader_named (object ms) ≡ Ok (line.Event (Keys t))
unfolding object_says keys_of
keys_found ms t named at_time proper =
    let d = object ms in
    let e = Keys t in
    let says : keys_of d ≡ Ok e = then_reads (time d) _ t _ (time_reads d t at_time proper.in_time) refl in
    then_reads (required string key.Event d) _ (codes "keys") (line.Event e) (named_found d (codes "keys") named) (event_of e _ says)

-- ---- a report of the sender's state

values_found : (d : Data) (v : MetricValues)
    → get (codes "window") d ≡ option_map written.integer v.window
    → get (codes "ssthresh") d ≡ option_map written.integer v.ssthresh
    → get (codes "bytes_in_flight") d ≡ option_map written.integer v.bytes_in_flight
    → get (codes "latest_rtt") d ≡ option_map written.integer v.latest_rtt
    → get (codes "min_rtt") d ≡ option_map written.integer v.min_rtt
    → get (codes "smoothed_rtt") d ≡ option_map written.integer v.smoothed_rtt
    → get (codes "rttvar") d ≡ option_map written.integer v.rttvar
    → metric_values d ≡ Ok v
values_found d v at_window at_ssthresh at_bytes_in_flight at_latest_rtt at_min_rtt at_smoothed_rtt at_rttvar =
    let windows = both_reads _ _ v.window _ (present_integer_reads (key.Metric field.Window) d v.window at_window)
    (both_reads _ _ v.ssthresh v.bytes_in_flight (present_integer_reads (key.Metric field.Ssthresh) d v.ssthresh at_ssthresh) (present_integer_reads (key.Metric field.BytesInFlight) d v.bytes_in_flight at_bytes_in_flight)) in
    let samples = both_reads _ _ v.latest_rtt v.min_rtt (present_integer_reads (key.Metric field.LatestRtt) d v.latest_rtt at_latest_rtt) (present_integer_reads (key.Metric field.MinRtt) d v.min_rtt at_min_rtt) in
    let estimates = both_reads _ _ v.smoothed_rtt v.rttvar (present_integer_reads (key.Metric field.SmoothedRtt) d v.smoothed_rtt at_smoothed_rtt) (present_integer_reads (key.Metric field.Rttvar) d v.rttvar at_rttvar) in
    then_reads _ _ _ v (both_reads _ _ _ _ windows (both_reads _ _ _ _ samples estimates)) refl

pub metrics_found : (ms : Members) (t : ℕ) (v : MetricValues)
    → get_member (codes "event") ms ≡ Some (written.string (codes "metrics"))
    → get_member (codes "time") ms ≡ Some (written.integer t)
    → get_member (codes "window") ms ≡ option_map written.integer v.window
    → get_member (codes "ssthresh") ms ≡ option_map written.integer v.ssthresh
    → get_member (codes "bytes_in_flight") ms ≡ option_map written.integer v.bytes_in_flight
    → get_member (codes "latest_rtt") ms ≡ option_map written.integer v.latest_rtt
    → get_member (codes "min_rtt") ms ≡ option_map written.integer v.min_rtt
    → get_member (codes "smoothed_rtt") ms ≡ option_map written.integer v.smoothed_rtt
    → get_member (codes "rttvar") ms ≡ option_map written.integer v.rttvar
    → IsProperEvent (Metrics t v)
    → object_says reader_named (object ms) ≡ Ok (line.Event (Metrics t v))
unfolding object_says metrics_of
metrics_found ms t v named at_time at_window at_ssthresh at_bytes_in_flight at_latest_rtt at_min_rtt at_smoothed_rtt at_rttvar proper =
    let d = object ms in
    let e = Metrics t v in
    let values = values_found d v at_window at_ssthresh at_bytes_in_flight at_latest_rtt at_min_rtt at_smoothed_rtt at_rttvar in
    let says : metrics_of d ≡ Ok e = then_reads _ _ (t, v) e (both_reads _ _ t v (time_reads d t at_time proper.in_time) values) refl in
    then_reads (required string key.Event d) _ (codes "metrics") (line.Event e) (named_found d (codes "metrics") named) (event_of e _ says)
