-- How many bytes the text of a line has at most that names ranges of packet numbers.
use Rattle.std.proofs.Common.{◌≡◌, ℕ, zero, suc, Option, Some, None, Ok, ◌+◌, ◌*◌, ◌^◌, ◌<◌, ◌≤◌, List, [], ◌∷◌, ◌++◌, Bool, true, false, length, decimal, refl, ap, arith, le-leb}
use Rattle.std.proofs.Math.Dec.{eqb-suc-zero}
use Rattle.std.proofs.lemmas.Fmt.{decimal_digit, length-decimal-le}
use Rattle.std.proofs.lemmas.List.{length-append}
use Rattle.std.specs.List.{AllByRecursion}
use Rattle.std.proofs.lemmas.Bool.{and_parts, leb-true}
use Rattle.std.specs.Prelude.{nat_le, ◌==◌, ◌&&◌, ◌||◌, not, if◌then◌else◌}
use Rattle.json.specs.Print.{escape_byte, quoted}
use Rattle.serde_json.specs.Data as json
use Rattle.serde_json.specs.Data.{Data}
use Rattle.serde_json.specs.Written.{comma_if, compact_text, items_text, members_text}
use Rattle.qa_base.specs.declared.event.Ack.{Ack as AnAck}
use Rattle.qa_base.specs.declared.event.Event.{Event}
use Rattle.qa_base.specs.declared.event.Event.TheVariants.{Sent, Ack, Lost, Timer, Discard, Confirmed, Keys, Metrics}
use Rattle.qa_base.specs.declared.event.MetricValues.{MetricValues}
use Rattle.qa_base.specs.declared.key.Key.{Key}
use Rattle.qa_base.specs.declared.key.Key.TheVariants as key
use Rattle.qa_base.specs.declared.space.Space.{Space}
use Rattle.qa_base.specs.declared.space.Space.TheVariants.{Initial, Handshake, App}
use Rattle.qa_base.specs.values.Limits.{max_packet_number, max_packet_size, max_time}
use Rattle.qa_base.specs.declared.line_kind.LineKind.{LineKind}
use Rattle.qa_base.specs.declared.line_kind.LineKind.TheVariants as kinds
use Rattle.qa_base.specs.declared.rule.Field.{Field}
use Rattle.qa_base.specs.declared.rule.Field.TheVariants as field
use Rattle.qa_base.specs.declared.space.Permission.{Permission}
use Rattle.qa_base.specs.declared.space.Permission.TheVariants as permission
use Rattle.qa_base.specs.declared.space.TimerKind.{TimerKind}
use Rattle.qa_base.specs.declared.space.TimerKind.TheVariants as timer
use Rattle.qa_base.specs.values.Names.{field_name, key_name, kind_name, line_kind_name, permission_name, space_name}
use Rattle.qa_format.specs.format.Lines.{IsShortLine, line_limit}
use Rattle.qa_format.specs.declared.line.Line.TheVariants as line
use Rattle.qa_format.specs.format.Reading.{reading}
use Rattle.qa_format.proofs.format.LinesWritten.{shortest_has_no_lf, shortest_reads}
use Rattle.qa_format.specs.format.Proper.{AreWords, IsProperEvent, IsRange, IsWord}
use Rattle.qa_format.specs.format.Written.{Pairs, boolean, delay_pairs, event_pairs, has_line, integer, integer_pair, integer_pairs, left_out, limited_pairs, members, object_of, reported, shortest, string, few_ranges, written}

-- ---- values

comma_short : (later : Bool) → length (comma_if later) ≤ 1
comma_short true = omega arith
comma_short false = omega arith

-- a number of a packet, a time, and a number of 64 bits
packet_number_short : (n : ℕ) → n ≤ max_packet_number → length (decimal n) ≤ 19
packet_number_short n small = length-decimal-le 19 n (omega arith) (omega arith) (omega arith)

time_short : (n : ℕ) → n ≤ max_time → length (decimal n) ≤ 20
time_short n small = length-decimal-le 20 n (omega arith) (omega arith) (omega arith)

word_short : (n : ℕ) → n < 2 ^ 64 → length (decimal n) ≤ 20
word_short n small = length-decimal-le 20 n (omega arith) (omega arith) small

boolean_short : (b : Bool) → length (compact_text (boolean b)) ≤ 5
boolean_short true = omega arith
boolean_short false = omega arith

space_short : (s : Space) → length (quoted (space_name s)) ≤ 11
unfolding escape_byte
space_short Initial = omega arith
space_short Handshake = omega arith
space_short App = omega arith

-- ---- ranges

range_short : (range : ℕ × ℕ) → IsRange range → length (compact_text (integer_pair range)) ≤ 41
range_short range is =
    let low = packet_number_short range.0 (omega arith) in
    let high = packet_number_short range.1 is.1 in
    simp length-append (omega arith)

ranges_short : (later : Bool) (ranges : List (ℕ × ℕ)) → AllByRecursion IsRange ranges → length (items_text later (integer_pairs ranges)) ≤ 42 * length ranges + 1
ranges_short later [] are = omega arith
ranges_short later (range ∷ ranges) are =
    let comma = comma_short later in
    let first = range_short range are.0 in
    let rest = ranges_short true ranges are.1 in
    rw (length-append (comma_if later) _, length-append (compact_text (integer_pair range)) _) (omega arith)

-- ---- objects

-- one member more: its key and its value, with what stands around them
members_more : (later : Bool) (k : Key) (d : Data) (ps : Pairs) (a b n : ℕ) → length (quoted (key_name k)) ≤ a → length (compact_text d) ≤ b → length (members_text true (members ps)) ≤ n
    → length (members_text later (members ((k, d) ∷ ps))) ≤ a + b + n + 2
members_more later k d ps a b n named valued rest =
    let comma = comma_short later in
    rw (length-append (comma_if later) _, length-append (quoted (key_name k)) _, length-append (compact_text d) _) (omega arith)

field_short : (f : Field) → length (quoted (field_name f)) ≤ 24
unfolding escape_byte
field_short field.Window = omega arith
field_short field.Ssthresh = omega arith
field_short field.BytesInFlight = omega arith
field_short field.LatestRtt = omega arith
field_short field.MinRtt = omega arith
field_short field.SmoothedRtt = omega arith
field_short field.Rttvar = omega arith

key_short : (k : Key) → length (quoted (key_name k)) ≤ 24
unfolding escape_byte
key_short key.Event = omega arith
key_short key.Version = omega arith
key_short key.Role = omega arith
key_short key.Unit = omega arith
key_short key.Window = omega arith
key_short key.MaxDatagramSize = omega arith
key_short key.MaxAckDelay = omega arith
key_short key.InitialRtt = omega arith
key_short key.InitialWindow = omega arith
key_short key.TimerLateUs = omega arith
key_short key.RefreshMinRtt = omega arith
key_short key.ReportSlackUs = omega arith
key_short key.ReportSlackBytes = omega arith
key_short key.WindowOvershoot = omega arith
key_short key.SampleElicitingOnly = omega arith
key_short key.PacketThreshold = omega arith
key_short key.TimerEarlyUs = omega arith
key_short key.LossByNumber = omega arith
key_short key.ThresholdCounts = omega arith
key_short key.ResetRtt = omega arith
key_short key.LatestRttLessDelay = omega arith
key_short key.TimeThresholdEighths = omega arith
key_short key.RecoveryByOrder = omega arith
key_short key.Time = omega arith
key_short key.Space = omega arith
key_short key.Number = omega arith
key_short key.Size = omega arith
key_short key.Eliciting = omega arith
key_short key.InFlight = omega arith
key_short key.Leave = omega arith
key_short key.Ranges = omega arith
key_short key.Delay = omega arith
key_short key.Limited = omega arith
key_short key.Kind = omega arith
key_short (key.Metric f) = field_short f

kind_short : (k : LineKind) → length (quoted (line_kind_name k)) ≤ 24
unfolding escape_byte
kind_short kinds.Header = omega arith
kind_short kinds.Sent = omega arith
kind_short kinds.Ack = omega arith
kind_short kinds.Lost = omega arith
kind_short kinds.Timer = omega arith
kind_short kinds.Discard = omega arith
kind_short kinds.Confirmed = omega arith
kind_short kinds.Keys = omega arith
kind_short kinds.Metrics = omega arith

permission_short : (p : Permission) → length (quoted (permission_name p)) ≤ 24
unfolding escape_byte
permission_short permission.Window = omega arith
permission_short permission.Probe = omega arith
permission_short permission.Recovery = omega arith

timer_short : (k : TimerKind) → length (quoted (kind_name k)) ≤ 24
unfolding escape_byte
timer_short timer.Loss = omega arith
timer_short timer.Pto = omega arith

-- the space and the time, which stand last
place_short : (s : Space) (t : ℕ) → t ≤ max_time → length (members_text true (members ((key.Space, string (space_name s)) ∷ (key.Time, integer t) ∷ []))) ≤ 84
place_short s t in_time =
    let time = members_more true key.Time (integer t) [] 24 20 1 (key_short key.Time) (time_short t in_time) (omega arith) in
    members_more true key.Space (string (space_name s)) ((key.Time, integer t) ∷ []) 24 11 47 (key_short key.Space) (space_short s) time

with_ranges_short : (s : Space) (t : ℕ) (ranges : List (ℕ × ℕ)) → t ≤ max_time → AllByRecursion IsRange ranges
    → length (members_text true (members ((key.Ranges, json.array (integer_pairs ranges)) ∷ (key.Space, string (space_name s)) ∷ (key.Time, integer t) ∷ []))) ≤ 42 * length ranges + 112
with_ranges_short s t ranges in_time are =
    let list = ranges_short false ranges are in
    let behind = members_more true key.Ranges (json.array (integer_pairs ranges)) ((key.Space, string (space_name s)) ∷ (key.Time, integer t) ∷ []) 24 (42 * length ranges + 2) 84 (key_short key.Ranges) (omega arith) (place_short s t in_time) in
    omega arith

lost_length : (s : Space) (t : ℕ) (ranges : List (ℕ × ℕ)) → t ≤ max_time → AllByRecursion IsRange ranges
    → length (members_text false (members (event_pairs (Lost t s ranges)))) ≤ 42 * length ranges + 162
lost_length s t ranges in_time are =
    let behind = members_more false key.Event (string (line_kind_name kinds.Lost)) ((key.Ranges, json.array (integer_pairs ranges)) ∷ (key.Space, string (space_name s)) ∷ (key.Time, integer t) ∷ []) 24 24 (42 * length ranges + 112)
    (key_short key.Event) (kind_short kinds.Lost) (with_ranges_short s t ranges in_time are) in
    omega arith

ack_length : (a : AnAck) → a.time ≤ max_time → AllByRecursion IsRange a.ranges → a.delay < 2 ^ 64
    → length (members_text false (members (event_pairs (Ack a)))) ≤ 42 * length a.ranges + 239
ack_length a in_time are word =
    let place : Pairs = (key.Ranges, json.array (integer_pairs a.ranges)) ∷ (key.Space, string (space_name a.space)) ∷ (key.Time, integer a.time) ∷ [] in
    let named : Pairs = (key.Event, string (line_kind_name kinds.Ack)) ∷ (key.Limited, boolean a.app_limited) ∷ place in
    let ranges = with_ranges_short a.space a.time a.ranges in_time are in
    let limited = members_more true key.Limited (boolean a.app_limited) place 24 5 (42 * length a.ranges + 112) (key_short key.Limited) (boolean_short a.app_limited) ranges in
    let kind = members_more true key.Event (string (line_kind_name kinds.Ack)) ((key.Limited, boolean a.app_limited) ∷ place) 24 24 (24 + 5 + (42 * length a.ranges + 112) + 2) (key_short key.Event) (kind_short kinds.Ack) limited in
    let delay = members_more false key.Delay (integer a.delay) named 24 20 (24 + 24 + (24 + 5 + (42 * length a.ranges + 112) + 2) + 2) (key_short key.Delay) (word_short a.delay word) kind in
    omega (arith, delay)

-- ---- the other events

-- each value is short
abbrev AreShort : Pairs → Type 0
AreShort [] = Unit {0}
AreShort (pair ∷ ps) = (length (compact_text pair.1) ≤ 24) × AreShort ps

pairs_length : (later : Bool) (ps : Pairs) → AreShort ps → length (members_text later (members ps)) ≤ 50 * length ps + 1
pairs_length later [] are = omega arith
pairs_length later (pair ∷ ps) are =
    let rest = pairs_length true ps are.1 in
    let more = members_more later pair.0 pair.1 ps 24 24 (50 * length ps + 1) (key_short pair.0) are.0 rest in
    omega (arith, more)

are_short_both : (ps qs : Pairs) → AreShort ps → AreShort qs → AreShort (ps ++ qs)
are_short_both [] qs first second = second
are_short_both (pair ∷ ps) qs first second = (first.0, are_short_both ps qs first.1 second)

pairs_short : (ps : Pairs) → AreShort ps → length ps ≤ 20 → nat_le (length (compact_text (object_of ps))) line_limit ≡ true
pairs_short ps are few =
    let short = pairs_length false ps are in
    le-leb (suc (length (members_text false (members ps)))) line_limit (omega arith)

integer_short : (n : ℕ) → n < 2 ^ 64 → length (compact_text (integer n)) ≤ 24
integer_short n small = let short = word_short n small in omega arith

flag_short : (b : Bool) → length (compact_text (boolean b)) ≤ 24
flag_short b = let short = boolean_short b in omega arith

named_short : (s : Space) → length (compact_text (string (space_name s))) ≤ 24
named_short s = let short = space_short s in omega arith

value_short : (f : Field) (value : Option ℕ) → IsWord value → AreShort (reported f value) × (length (reported f value) ≤ 1)
value_short f None is = (tt, omega arith)
value_short f (Some n) is = ((integer_short n (is n refl), tt), omega arith)

number_small : (n : ℕ) → n ≤ max_packet_number → n < 2 ^ 64
number_small n small = omega arith

time_small : (t : ℕ) → t ≤ max_time → t < 2 ^ 64
time_small t small = omega arith

size_small : (size : ℕ) (eliciting in_flight : Bool) → (nat_le 1 size && nat_le size max_packet_size && (not eliciting || in_flight)) ≡ true → size < 2 ^ 64
size_small size eliciting in_flight fitting =
    let parts = and_parts (nat_le 1 size && nat_le size max_packet_size) (not eliciting || in_flight) fitting in
    let most = leb-true size max_packet_size (and_parts (nat_le 1 size) (nat_le size max_packet_size) parts.0).1 in
    omega arith

metrics_few : (t : ℕ) (values : MetricValues) → length (reported field.Window values.window) ≤ 1 → length (reported field.Ssthresh values.ssthresh) ≤ 1
    → length (reported field.BytesInFlight values.bytes_in_flight) ≤ 1 → length (reported field.LatestRtt values.latest_rtt) ≤ 1 → length (reported field.MinRtt values.min_rtt) ≤ 1
    → length (reported field.SmoothedRtt values.smoothed_rtt) ≤ 1 → length (reported field.Rttvar values.rttvar) ≤ 1 → length (event_pairs (Metrics t values)) ≤ 20
metrics_few t values a b c d e f g = simp length-append (omega arith)

metrics_short : (t : ℕ) (values : MetricValues) → t ≤ max_time → AreWords values → nat_le (length (written (line.Event (Metrics t values)))) line_limit ≡ true
metrics_short t values in_time words =
    let window = value_short field.Window values.window words.0 in
    let ssthresh = value_short field.Ssthresh values.ssthresh words.1 in
    let in_flight = value_short field.BytesInFlight values.bytes_in_flight words.2 in
    let latest = value_short field.LatestRtt values.latest_rtt words.3 in
    let least = value_short field.MinRtt values.min_rtt words.4 in
    let smoothed = value_short field.SmoothedRtt values.smoothed_rtt words.5 in
    let rttvar = value_short field.Rttvar values.rttvar words.6 in
    let times : Pairs = (key.Time, integer t) ∷ reported field.Window values.window in
    let named : Pairs = (key.Event, string (line_kind_name kinds.Metrics)) ∷ reported field.LatestRtt values.latest_rtt in
    let q1 : Pairs = reported field.BytesInFlight values.bytes_in_flight ++ named in
    let q2 : Pairs = q1 ++ reported field.MinRtt values.min_rtt in
    let q3 : Pairs = q2 ++ reported field.Rttvar values.rttvar in
    let q4 : Pairs = q3 ++ reported field.SmoothedRtt values.smoothed_rtt in
    let q5 : Pairs = q4 ++ reported field.Ssthresh values.ssthresh in
    let s1 = are_short_both (reported field.BytesInFlight values.bytes_in_flight) named in_flight.0 (kind_short kinds.Metrics, latest.0) in
    let s2 = are_short_both q1 (reported field.MinRtt values.min_rtt) s1 least.0 in
    let s3 = are_short_both q2 (reported field.Rttvar values.rttvar) s2 rttvar.0 in
    let s4 = are_short_both q3 (reported field.SmoothedRtt values.smoothed_rtt) s3 smoothed.0 in
    let s5 = are_short_both q4 (reported field.Ssthresh values.ssthresh) s4 ssthresh.0 in
    let s6 = are_short_both q5 times s5 (integer_short t (time_small t in_time), window.0) in
    pairs_short (event_pairs (Metrics t values)) s6
    (metrics_few t values window.1 ssthresh.1 in_flight.1 latest.1 least.1 smoothed.1 rttvar.1)

-- ---- the shortest line of an acknowledgment

-- all its keys, and those that it cannot leave out, before these pairs
abbrev all_before : ℕ → Bool → Pairs → Pairs
all_before delay limited ps = (key.Delay, integer delay) ∷ (key.Event, string (line_kind_name kinds.Ack)) ∷ (key.Limited, boolean limited) ∷ ps

abbrev needed_before : ℕ → Bool → Pairs → Pairs
needed_before delay limited ps = delay_pairs delay ++ (key.Event, string (line_kind_name kinds.Ack)) ∷ limited_pairs limited ++ ps

left_out_before : (delay : ℕ) (limited : Bool) (ps : Pairs)
    → length (compact_text (object_of (all_before delay limited ps))) ≡ length (compact_text (object_of (needed_before delay limited ps))) + ((if delay == 0 then 10 else 0) + (if limited then 0 else 16))
unfolding escape_byte
left_out_before zero true ps = let digit : length (decimal 0) ≡ 1 = ap length (decimal_digit 0 (omega arith)) in simp length-append (omega (arith, digit))
left_out_before zero false ps = let digit : length (decimal 0) ≡ 1 = ap length (decimal_digit 0 (omega arith)) in simp length-append (omega (arith, digit))
left_out_before (suc n) true ps = rw (eqb-suc-zero n) (omega arith)
left_out_before (suc n) false ps = rw (eqb-suc-zero n) (simp length-append (omega arith))

-- what is written is longer than the shortest line by what this leaves out
pub written_is_longer : (e : Event) → length (written (line.Event e)) ≡ length (shortest e) + left_out e
written_is_longer (Ack a) = left_out_before a.delay a.app_limited ((key.Ranges, json.array (integer_pairs a.ranges)) ∷ (key.Space, string (space_name a.space)) ∷ (key.Time, integer a.time) ∷ [])
written_is_longer (Sent packet) = omega arith
written_is_longer (Lost t s ranges) = omega arith
written_is_longer (Timer t k s) = omega arith
written_is_longer (Discard t s) = omega arith
written_is_longer (Confirmed t) = omega arith
written_is_longer (Keys t) = omega arith
written_is_longer (Metrics t values) = omega arith

-- ---- the shortest line of an event

pub shortest_fits : (e : Event) → IsProperEvent e → has_line e ≡ true → nat_le (length (shortest e)) line_limit ≡ true
shortest_fits (Sent packet) proper has =
    pairs_short (event_pairs (Sent packet))
    (flag_short packet.eliciting, (kind_short kinds.Sent, (flag_short packet.in_flight, (permission_short packet.permission, (integer_short packet.number (number_small packet.number proper.numbers), (integer_short packet.size (size_small packet.size packet.eliciting packet.in_flight proper.fitting), (named_short packet.space, (integer_short packet.time (time_small packet.time proper.in_time), (tt)))))))))
    (omega arith)
shortest_fits (Ack ack) proper has = has
shortest_fits (Lost t s ranges) proper has = has
shortest_fits (Timer t k s) proper has = pairs_short (event_pairs (Timer t k s)) (kind_short kinds.Timer, (timer_short k, (named_short s, (integer_short t (time_small t proper.in_time), (tt))))) (omega arith)
shortest_fits (Discard t s) proper has = pairs_short (event_pairs (Discard t s)) (kind_short kinds.Discard, (named_short s, (integer_short t (time_small t proper.in_time), (tt)))) (omega arith)
shortest_fits (Confirmed t) proper has = pairs_short (event_pairs (Confirmed t)) (kind_short kinds.Confirmed, (integer_short t (time_small t proper.in_time), (tt))) (omega arith)
shortest_fits (Keys t) proper has = pairs_short (event_pairs (Keys t)) (kind_short kinds.Keys, (integer_short t (time_small t proper.in_time), (tt))) (omega arith)
shortest_fits (Metrics t values) proper has = metrics_short t values proper.in_time proper.numbers

-- ---- events with few ranges

pub ack_has_line : (a : AnAck) → a.time ≤ max_time → AllByRecursion IsRange a.ranges → a.delay < 2 ^ 64 → length a.ranges ≤ few_ranges → has_line (Ack a) ≡ true
ack_has_line a in_time are word few =
    let short = ack_length a in_time are word in
    let longer = written_is_longer (Ack a) in
    le-leb (length (shortest (Ack a))) line_limit (omega arith)

pub lost_has_line : (s : Space) (t : ℕ) (ranges : List (ℕ × ℕ)) → t ≤ max_time → AllByRecursion IsRange ranges → length ranges ≤ few_ranges → has_line (Lost t s ranges) ≡ true
lost_has_line s t ranges in_time are few =
    let short = lost_length s t ranges in_time are in
    le-leb (suc (length (members_text false (members (event_pairs (Lost t s ranges)))))) line_limit (omega arith)

-- ---- the line that says an event

-- an event that some line says is said by the shortest line for it
pub shortest_says : (e : Event) → IsProperEvent e → has_line e ≡ true → IsShortLine (shortest e) × (reading (shortest e) ≡ Ok (line.Event e))
shortest_says e proper has =
    ((shortest_has_no_lf e proper, leb-true (length (shortest e)) line_limit (shortest_fits e proper has)), shortest_reads e proper)
