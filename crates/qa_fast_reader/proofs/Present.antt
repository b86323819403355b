-- An object whose keys give the values of an event says that event, whatever else it has and however its keys stand; null counts
-- as absent.
use Rattle.std.proofs.Common.{◌≡◌, ◌∙◌, ℕ, ◌≤◌, List, Bool, true, false, cond, Option, Some, None, Result, Ok, Err, refl, ap, ◌&&◌, ◌||◌, not, arith}
use Rattle.std.proofs.lemmas.Bool.{and_parts, leb-true}
use Rattle.std.specs.Prelude.{nat_le, codes, option_map, unwrap_or}
use Rattle.serde_json.specs.Data as json
use Rattle.serde_json.specs.Data.{Data, object, Members}
use Rattle.qa_base.specs.declared.event.Event.{Event}
use Rattle.qa_base.specs.declared.event.SentPacket.{SentPacket}
use Rattle.qa_base.specs.declared.event.Ack.{Ack as Acknowledgment}
use Rattle.qa_base.specs.declared.event.Event.TheVariants.{Sent, Ack, Lost, Timer, Discard, Confirmed, Keys, Metrics}
use Rattle.qa_base.specs.declared.event.MetricValues.{MetricValues}
use Rattle.qa_format.specs.declared.fault.Fault.{Fault}
use Rattle.qa_format.specs.declared.fault.Fault.TheVariants.{FlagsClash}
use Rattle.qa_base.specs.declared.key.Key.{Key}
use Rattle.qa_base.specs.declared.key.Key.TheVariants as key
use Rattle.qa_format.specs.declared.line.Line.TheVariants as line
use Rattle.qa_base.specs.declared.rule.Field.TheVariants as field
use Rattle.qa_base.specs.declared.space.TimerKind.{TimerKind}
use Rattle.qa_base.specs.declared.space.Permission.{Permission}
use Rattle.qa_base.specs.declared.space.Permission.TheVariants as leaves
use Rattle.qa_base.specs.declared.space.Space.{Space}
use Rattle.qa_base.specs.declared.space.Space.TheVariants.{Initial, Handshake, App}
use Rattle.qa_base.specs.values.Events.{is_space}
use Rattle.qa_base.specs.values.Limits.{max_time, max_packet_number, max_packet_size}
use Rattle.qa_base.specs.values.Names.{space_name, space_named, discarded_named, permission_name, permission_named, kind_name, kind_named}
use Rattle.qa_format.specs.format.Proper.{IsProperEvent}
use Rattle.qa_format.specs.format.Keys.{◌>>=◌, Kind, read_or, integer, integer_from, string, string_among, boolean, ranges, present, required, optional, if_present}
use Rattle.qa_format.specs.format.Reading.{reader_named, object_says}
use Rattle.qa_format.specs.format.Tables.{time, space, sent_fields, sent_of, ack_fields, ack_of, lost_fields, lost_of, timer_fields, timer_of, discard_fields, discard_of, confirmed_of, keys_of, metric_values, metrics_of}
use Rattle.qa_format.specs.format.Written as written
use Rattle.qa_format.proofs.format.KeysWritten.{both_reads, integer_from_reads, space_reads, permission_reads, kind_reads, ranges_read}
use Rattle.qa_fast_reader.specs.Found.{given}

-- ---- one key

then_reads : {A B : Type 0} → (r : Result A Fault) (f : A → Result B Fault) (x : A) (y : B) → r ≡ Ok x → f x ≡ Ok y → (r >>= f) ≡ Ok y
then_reads r f x y first second = rw first second

required_given : {A : Type 0} → (kind : Kind A) (k : Key) (d v : Data) (x : A) → present k d ≡ Some v → kind k v ≡ Ok x → required kind k d ≡ Ok x
required_given kind k d v x at reads = rw at reads

-- a key that may be absent, and stands for this value then
optional_given : {A : Type 0} → (kind : Kind A) (absent : A) (k : Key) (d : Data) (as_data : A → Data) (o : Option A)
    → present k d ≡ option_map as_data o → ((a : A) → kind k (as_data a) ≡ Ok a) → optional kind absent k d ≡ Ok (unwrap_or o absent)
optional_given kind absent k d as_data None at reads = ap (read_or kind absent k) at
optional_given kind absent k d as_data (Some a) at reads = ap (read_or kind absent k) at ∙ reads a

integer_given : (k : Key) (d : Data) (o : Option ℕ) → present k d ≡ option_map written.integer o → if_present integer k d ≡ Ok o
integer_given k d None at = ap (read_or (λ key v. integer key v >>= λ x. Ok (Some x)) None k) at
integer_given k d (Some n) at = ap (read_or (λ key v. integer key v >>= λ x. Ok (Some x)) None k) at

-- ---- keys that several kinds of line have

named_given : (d : Data) (name : List ℕ) → present key.Event d ≡ Some (written.string name) → required string key.Event d ≡ Ok name
named_given d name at = required_given string key.Event d (written.string name) name at refl

time_reads : (d : Data) (t : ℕ) → present key.Time d ≡ Some (written.integer t) → t ≤ max_time → time d ≡ Ok t
time_reads d t at high = required_given (integer_from 0 max_time) key.Time d (written.integer t) t at (integer_from_reads 0 max_time key.Time t (omega arith) high)

space_stands : (d : Data) (s : Space) → present key.Space d ≡ Some (written.string (space_name s)) → space d ≡ Ok s
space_stands d s at = required_given (string_among space_named) key.Space d (written.string (space_name s)) s at (space_reads key.Space s)

ranges_stand : (d : Data) (rs : List (ℕ × ℕ)) → present key.Ranges d ≡ Some (json.array (written.integer_pairs rs)) → ranges key.Ranges (json.array (written.integer_pairs rs)) ≡ Ok rs → required ranges key.Ranges d ≡ Ok rs
ranges_stand d rs at reads = required_given ranges key.Ranges d (json.array (written.integer_pairs rs)) rs at reads

-- ---- packets

event_of : (e : Event) (r : Result Event Fault) → r ≡ Ok e → (r >>= λ f. Ok (line.Event f)) ≡ Ok (line.Event e)
event_of e r h = ap (λ q. q >>= λ f. Ok (line.Event f)) h

flags_pass : (eliciting in_flight : Bool) (e : Event) → (not eliciting || in_flight) ≡ true → cond (eliciting && not in_flight) (Err FlagsClash) (Ok e) ≡ Ok e
flags_pass true true e h = refl
flags_pass true false e h = cc
flags_pass false in_flight e h = refl

pub sent_given : (ms : Members) (packet : SentPacket) (permission : Option Permission)
    → given (codes "event") ms ≡ Some (written.string (codes "sent"))
    → given (codes "time") ms ≡ Some (written.integer packet.time)
    → given (codes "space") ms ≡ Some (written.string (space_name packet.space))
    → given (codes "number") ms ≡ Some (written.integer packet.number)
    → given (codes "size") ms ≡ Some (written.integer packet.size)
    → given (codes "eliciting") ms ≡ Some (written.boolean packet.eliciting)
    → given (codes "in_flight") ms ≡ Some (written.boolean packet.in_flight)
    → given (codes "leave") ms ≡ option_map (λ l. written.string (permission_name l)) permission
    → IsProperEvent (Sent (record packet { permission = unwrap_or permission leaves.Window }))
    → object_says reader_named (object ms) ≡ Ok (line.Event (Sent (record packet { permission = unwrap_or permission leaves.Window })))
unfolding object_says sent_of
sent_given ms packet permission named at_time at_space at_number at_size at_eliciting at_in_flight at_permission proper =
    let d = object ms in
    let e = Sent (record packet { permission = unwrap_or permission leaves.Window }) in
    let parts = and_parts (nat_le 1 packet.size && nat_le packet.size max_packet_size) (not packet.eliciting || packet.in_flight) proper.fitting in
    let bounds = and_parts (nat_le 1 packet.size) (nat_le packet.size max_packet_size) parts.0 in
    let leaves_read = optional_given (string_among permission_named) leaves.Window key.Leave d (λ l. written.string (permission_name l)) permission at_permission (permission_reads key.Leave) in
    let flags_read = both_reads _ _ packet.eliciting _ (required_given boolean key.Eliciting d (written.boolean packet.eliciting) packet.eliciting at_eliciting refl)
    (both_reads _ _ packet.in_flight (unwrap_or permission leaves.Window) (required_given boolean key.InFlight d (written.boolean packet.in_flight) packet.in_flight at_in_flight refl) leaves_read) in
    let size_read = required_given (integer_from 1 max_packet_size) key.Size d (written.integer packet.size) packet.size at_size
    (integer_from_reads 1 max_packet_size key.Size packet.size (leb-true 1 packet.size bounds.0) (leb-true packet.size max_packet_size bounds.1)) in
    let number_read = required_given (integer_from 0 max_packet_number) key.Number d (written.integer packet.number) packet.number at_number
    (integer_from_reads 0 max_packet_number key.Number packet.number (omega arith) proper.numbers) in
    let fields = both_reads _ _ packet.time _ (time_reads d packet.time at_time proper.in_time)
    (both_reads _ _ packet.space _ (space_stands d packet.space at_space)
    (both_reads _ _ packet.number _ number_read
    (both_reads _ _ packet.size _ size_read flags_read))) in
    let says : sent_of d ≡ Ok e = then_reads (sent_fields d) _ (packet.time, (packet.space, (packet.number, (packet.size, (packet.eliciting, (packet.in_flight, unwrap_or permission leaves.Window)))))) _ fields
    (flags_pass packet.eliciting packet.in_flight e parts.1) in
    then_reads (required string key.Event d) _ (codes "sent") (line.Event e) (named_given d (codes "sent") named) (event_of e _ says)

pub ack_given : (ms : Members) (ack : Acknowledgment) (delay : Option ℕ) (app_limited : Option Bool)
    → given (codes "event") ms ≡ Some (written.string (codes "ack"))
    → given (codes "time") ms ≡ Some (written.integer ack.time)
    → given (codes "space") ms ≡ Some (written.string (space_name ack.space))
    → given (codes "ranges") ms ≡ Some (json.array (written.integer_pairs ack.ranges))
    → given (codes "delay") ms ≡ option_map written.integer delay
    → given (codes "limited") ms ≡ option_map written.boolean app_limited
    → IsProperEvent (Ack (record ack { delay = unwrap_or delay 0; app_limited = unwrap_or app_limited false }))
    → object_says reader_named (object ms) ≡ Ok (line.Event (Ack (record ack { delay = unwrap_or delay 0; app_limited = unwrap_or app_limited false })))
unfolding object_says ack_of
ack_given ms ack delay app_limited named at_time at_space at_ranges at_delay at_limited proper =
    let d = object ms in
    let e = Ack (record ack { delay = unwrap_or delay 0; app_limited = unwrap_or app_limited false }) in
    let listed = ranges_stand d ack.ranges at_ranges (ranges_read key.Ranges ack.ranges proper.fitting proper.numbers.0) in
    let rest = both_reads _ _ (unwrap_or delay 0) (unwrap_or app_limited false)
    (optional_given integer 0 key.Delay d written.integer delay at_delay (λ n. refl))
    (optional_given boolean false key.Limited d written.boolean app_limited at_limited (λ b. refl)) in
    let fields = both_reads _ _ ack.time _ (time_reads d ack.time at_time proper.in_time) (both_reads _ _ ack.space _ (space_stands d ack.space at_space) (both_reads _ _ ack.ranges _ listed rest)) in
    let says : ack_of d ≡ Ok e = then_reads (ack_fields d) _ (ack.time, (ack.space, (ack.ranges, (unwrap_or delay 0, unwrap_or app_limited false)))) _ fields refl in
    then_reads (required string key.Event d) _ (codes "ack") (line.Event e) (named_given d (codes "ack") named) (event_of e _ says)

pub lost_given : (ms : Members) (t : ℕ) (s : Space) (rs : List (ℕ × ℕ))
    → given (codes "event") ms ≡ Some (written.string (codes "lost"))
    → given (codes "time") ms ≡ Some (written.integer t)
    → given (codes "space") ms ≡ Some (written.string (space_name s))
    → given (codes "ranges") ms ≡ Some (json.array (written.integer_pairs rs))
    → IsProperEvent (Lost t s rs)
    → object_says reader_named (object ms) ≡ Ok (line.Event (Lost t s rs))
unfolding object_says lost_of
lost_given ms t s rs named at_time at_space at_ranges proper =
    let d = object ms in
    let e = Lost t s rs in
    let listed = ranges_stand d rs at_ranges (ranges_read key.Ranges rs proper.fitting proper.numbers) in
    let fields = both_reads _ _ t _ (time_reads d t at_time proper.in_time) (both_reads _ _ s rs (space_stands d s at_space) listed) in
    let says : lost_of d ≡ Ok e = then_reads (lost_fields d) _ (t, (s, rs)) _ fields refl in
    then_reads (required string key.Event d) _ (codes "lost") (line.Event e) (named_given d (codes "lost") named) (event_of e _ says)

-- ---- the timer and the handshake

pub timer_given : (ms : Members) (t : ℕ) (k : TimerKind) (s : Space)
    → given (codes "event") ms ≡ Some (written.string (codes "timer"))
    → given (codes "time") ms ≡ Some (written.integer t)
    → given (codes "kind") ms ≡ Some (written.string (kind_name k))
    → given (codes "space") ms ≡ Some (written.string (space_name s))
    → IsProperEvent (Timer t k s)
    → object_says reader_named (object ms) ≡ Ok (line.Event (Timer t k s))
unfolding object_says timer_of
timer_given ms t k s named at_time at_kind at_space proper =
    let d = object ms in
    let e = Timer t k s in
    let kinds = required_given (string_among kind_named) key.Kind d (written.string (kind_name k)) k at_kind (kind_reads key.Kind k) in
    let fields = both_reads _ _ t _ (time_reads d t at_time proper.in_time) (both_reads _ _ k s kinds (space_stands d s at_space)) in
    let says : timer_of d ≡ Ok e = then_reads (timer_fields d) _ (t, (k, s)) _ fields refl in
    then_reads (required string key.Event d) _ (codes "timer") (line.Event e) (named_given d (codes "timer") named) (event_of e _ says)

discarded_reads : (s : Space) → not (is_space App s) ≡ true → string_among discarded_named key.Space (written.string (space_name s)) ≡ Ok s
discarded_reads Initial h = refl
discarded_reads Handshake h = refl
discarded_reads App h = cc

pub discard_given : (ms : Members) (t : ℕ) (s : Space)
    → given (codes "event") ms ≡ Some (written.string (codes "discard"))
    → given (codes "time") ms ≡ Some (written.integer t)
    → given (codes "space") ms ≡ Some (written.string (space_name s))
    → IsProperEvent (Discard t s)
    → object_says reader_named (object ms) ≡ Ok (line.Event (Discard t s))
unfolding object_says discard_of
discard_given ms t s named at_time at_space proper =
    let d = object ms in
    let e = Discard t s in
    let spaces = required_given (string_among discarded_named) key.Space d (written.string (space_name s)) s at_space (discarded_reads s proper.fitting) in
    let fields = both_reads _ _ t s (time_reads d t at_time proper.in_time) spaces in
    let says : discard_of d ≡ Ok e = then_reads (discard_fields d) _ (t, s) _ fields refl in
    then_reads (required string key.Event d) _ (codes "discard") (line.Event e) (named_given d (codes "discard") named) (event_of e _ says)

pub confirmed_given : (ms : Members) (t : ℕ)
    → given (codes "event") ms ≡ Some (written.string (codes "confirmed"))
    → given (codes "time") ms ≡ Some (written.integer t)
    → IsProperEvent (Confirmed t)
    → object_says reader_named (object ms) ≡ Ok (line.Event (Confirmed t))
unfolding object_says confirmed_of
confirmed_given ms t named at_time proper =
    let d = object ms in
    let e = Confirmed t in
    let says : confirmed_of d ≡ Ok e = then_reads (time d) _ t _ (time_reads d t at_time proper.in_time) refl in
    then_reads (required string key.Event d) _ (codes "confirmed") (line.Event e) (named_given d (codes "confirmed") named) (event_of e _ says)

pub keys_given : (ms : Members) (t : ℕ)
    → given (codes "event") ms ≡ Some (written.string (codes "keys"))
    → given (codes "time") ms ≡ Some (written.integer t)
    → IsProperEvent (Keys t)
    → object_says reader_named (object ms) ≡ Ok (line.Event (Keys t))
unfolding object_says keys_of
keys_given ms t named at_time proper =
    let d = object ms in
    let e = Keys t in
    let says : keys_of d ≡ Ok e = then_reads (time d) _ t _ (time_reads d t at_time proper.in_time) refl in
    then_reads (required string key.Event d) _ (codes "keys") (line.Event e) (named_given d (codes "keys") named) (event_of e _ says)

-- ---- a report of the sender's state

values_given : (ms : Members) (v : MetricValues)
    → given (codes "window") ms ≡ option_map written.integer v.window
    → given (codes "ssthresh") ms ≡ option_map written.integer v.ssthresh
    → given (codes "bytes_in_flight") ms ≡ option_map written.integer v.bytes_in_flight
    → given (codes "latest_rtt") ms ≡ option_map written.integer v.latest_rtt
    → given (codes "min_rtt") ms ≡ option_map written.integer v.min_rtt
    → given (codes "smoothed_rtt") ms ≡ option_map written.integer v.smoothed_rtt
    → given (codes "rttvar") ms ≡ option_map written.integer v.rttvar
    → metric_values (object ms) ≡ Ok v
values_given ms v at_window at_ssthresh at_bytes_in_flight at_latest_rtt at_min_rtt at_smoothed_rtt at_rttvar =
    let d = object ms in
    let windows = both_reads _ _ v.window _ (integer_given (key.Metric field.Window) d v.window at_window)
    (both_reads _ _ v.ssthresh v.bytes_in_flight (integer_given (key.Metric field.Ssthresh) d v.ssthresh at_ssthresh) (integer_given (key.Metric field.BytesInFlight) d v.bytes_in_flight at_bytes_in_flight)) in
    let samples = both_reads _ _ v.latest_rtt v.min_rtt (integer_given (key.Metric field.LatestRtt) d v.latest_rtt at_latest_rtt) (integer_given (key.Metric field.MinRtt) d v.min_rtt at_min_rtt) in
    let estimates = both_reads _ _ v.smoothed_rtt v.rttvar (integer_given (key.Metric field.SmoothedRtt) d v.smoothed_rtt at_smoothed_rtt) (integer_given (key.Metric field.Rttvar) d v.rttvar at_rttvar) in
    then_reads _ _ _ v (both_reads _ _ _ _ windows (both_reads _ _ _ _ samples estimates)) refl

pub metrics_given : (ms : Members) (t : ℕ) (v : MetricValues)
    → given (codes "event") ms ≡ Some (written.string (codes "metrics"))
    → given (codes "time") ms ≡ Some (written.integer t)
    → given (codes "window") ms ≡ option_map written.integer v.window
    → given (codes "ssthresh") ms ≡ option_map written.integer v.ssthresh
    → given (codes "bytes_in_flight") ms ≡ option_map written.integer v.bytes_in_flight
    → given (codes "latest_rtt") ms ≡ option_map written.integer v.latest_rtt
    → given (codes "min_rtt") ms ≡ option_map written.integer v.min_rtt
    → given (codes "smoothed_rtt") ms ≡ option_map written.integer v.smoothed_rtt
    → given (codes "rttvar") ms ≡ option_map written.integer v.rttvar
    → IsProperEvent (Metrics t v)
    → object_says reader_named (object ms) ≡ Ok (line.Event (Metrics t v))
unfolding object_says metrics_of
metrics_given ms t v named at_time at_window at_ssthresh at_bytes_in_flight at_latest_rtt at_min_rtt at_smoothed_rtt at_rttvar proper =
    let d = object ms in
    let e = Metrics t v in
    let values = values_given ms v at_window at_ssthresh at_bytes_in_flight at_latest_rtt at_min_rtt at_smoothed_rtt at_rttvar in
    let says : metrics_of d ≡ Ok e = then_reads _ _ (t, v) e (both_reads _ _ t v (time_reads d t at_time proper.in_time) values) refl in
    then_reads (required string key.Event d) _ (codes "metrics") (line.Event e) (named_given d (codes "metrics") named) (event_of e _ says)
