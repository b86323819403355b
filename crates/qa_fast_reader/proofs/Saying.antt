-- What was found of a line's keys says an event.
use Rattle.std.proofs.Common.{◌≡◌, ◌∙◌, ◌≤◌, ◌<◌, ◌^◌, ℕ, List, Bool, true, false, cond, Option, Some, None, refl, sym, ap, arith, subst, ◌&&◌}
use Rattle.std.proofs.lemmas.Bool.{and_parts, leb-true}
use Rattle.std.specs.Prelude.{nat_le, option_map, IfSome, unwrap_or}
use Rattle.std.specs.List.{AllByRecursion}
use Rattle.qa_base.specs.declared.event.Event.TheVariants.{Sent, Ack, Lost, Timer, Discard, Confirmed, Keys, Metrics}
use Rattle.qa_base.specs.declared.event.Ack.{Ack as Acknowledgment}
use Rattle.qa_base.specs.declared.event.SentPacket.{SentPacket}
use Rattle.qa_base.specs.declared.space.TimerKind.{TimerKind}
use Rattle.qa_base.specs.declared.space.Permission.{Permission}
use Rattle.qa_base.specs.declared.space.Permission.TheVariants.{Window}
use Rattle.qa_base.specs.declared.space.Space.{Space}
use Rattle.qa_base.specs.values.Events.{fits, has_ranges}
use Rattle.qa_base.specs.values.Limits.{max_time, max_packet_number, in_range}
use Rattle.qa_format.specs.format.Proper.{IsRange}
use Rattle.qa_format.specs.format.Written.{integer, boolean}
use Rattle.qa_fast_reader.proofs.Present.{sent_given, ack_given, lost_given, timer_given, discard_given, confirmed_given, keys_given, metrics_given}
use Rattle.qa_fast_reader.specs.declared.found.Found.{Found}
use Rattle.qa_base.specs.declared.line_kind.LineKind.TheVariants as kinds
use Rattle.qa_fast_reader.specs.Found.{line_kind_data, space_data, kind_data, Says}
use Rattle.qa_fast_reader.specs.Ranges.{ranges_data}

-- ---- ranges of numbers

some_of : (b : Bool) (n m : ℕ) → cond b (Some n) None ≡ Some m → (b ≡ true) × (n ≡ m)
some_of true n m e = (refl, cc)
some_of false n m e = cc

-- a number in its range is the number, and is not above the range
pub range_is : (hi n m : ℕ) → in_range 0 hi n ≡ Some m → (n ≡ m) × (m ≤ hi)
range_is hi n m e =
    let parts = some_of (nat_le 0 n && nat_le n hi) n m e in
    let below : n ≤ hi = leb-true n hi (and_parts (nat_le 0 n) (nat_le n hi) parts.0).1 in
    (parts.1, omega (arith, parts.1))

-- a time in its range is the time that was found
pub time_is : (found : Option ℕ) (u : ℕ) (o : Option ℕ) → found ≡ Some u → o ≡ in_range 0 max_time u → IfSome o (λ t. (found ≡ Some t) × (t ≤ max_time))
time_is found u None is_found is = tt
time_is found u (Some t) is_found is = let parts = range_is max_time u t (sym is) in (is_found ∙ ap Some parts.0, parts.1)

ranges_are : (o : Option (List (ℕ × ℕ))) (rs : List (ℕ × ℕ)) → IfSome o (λ qs. (has_ranges qs ≡ true) × AllByRecursion IsRange qs) → o ≡ Some rs → (has_ranges rs ≡ true) × AllByRecursion IsRange rs
ranges_are o rs h e = let P : Option (List (ℕ × ℕ)) → Type 0 = λ q. IfSome q (λ qs. (has_ranges qs ≡ true) × AllByRecursion IsRange qs) in subst P e h

-- ---- events

pub says_sent : (f : Found) (packet : SentPacket) (m : ℕ)
    → f.event ≡ Some kinds.Sent → (f.time ≡ Some packet.time) × (packet.time ≤ max_time) → f.space ≡ Some packet.space
    → f.number ≡ Some m → in_range 0 max_packet_number m ≡ Some packet.number → f.size ≡ Some packet.size → f.eliciting ≡ Some packet.eliciting → f.in_flight ≡ Some packet.in_flight
    → packet.permission ≡ unwrap_or f.permission Window → fits (Sent packet) ≡ true
    → Says f (Sent packet)
says_sent f packet m is_event time_is is_space is_number in_number is_size is_eliciting is_in_flight is_permission fitting =
    let number_is = range_is max_packet_number m packet.number in_number in
    let P : Permission → Type 0 = λ l. fits (Sent (record packet { permission = l })) ≡ true → Says f (Sent (record packet { permission = l })) in
    subst P (sym is_permission) (λ fit ms h.
    sent_given ms packet f.permission
    (h.event ∙ ap (option_map line_kind_data) is_event)
    (h.time ∙ ap (option_map integer) time_is.0)
    (h.space ∙ ap (option_map space_data) is_space)
    (h.number ∙ ap (option_map integer) (is_number ∙ ap Some number_is.0))
    (h.size ∙ ap (option_map integer) is_size)
    (h.eliciting ∙ ap (option_map boolean) is_eliciting)
    (h.in_flight ∙ ap (option_map boolean) is_in_flight)
    h.permission
    (record { fitting = fit; in_time = time_is.1; numbers = number_is.1 })) fitting

pub says_ack : (f : Found) (ack : Acknowledgment)
    → f.event ≡ Some kinds.Ack → (f.time ≡ Some ack.time) × (ack.time ≤ max_time) → f.space ≡ Some ack.space → f.ranges ≡ Some ack.ranges
    → ack.delay ≡ unwrap_or f.delay 0 → ack.delay < 2 ^ 64 → ack.app_limited ≡ unwrap_or f.app_limited false
    → Says f (Ack ack)
says_ack f ack is_event time_is is_space is_ranges is_delay small is_app_limited =
    let says : Says f (Ack (record ack { delay = unwrap_or f.delay 0; app_limited = unwrap_or f.app_limited false })) = λ ms h.
    let are = ranges_are f.ranges ack.ranges h.are_ranges is_ranges in
    ack_given ms ack f.delay f.app_limited
    (h.event ∙ ap (option_map line_kind_data) is_event)
    (h.time ∙ ap (option_map integer) time_is.0)
    (h.space ∙ ap (option_map space_data) is_space)
    (h.ranges ∙ ap (option_map ranges_data) is_ranges)
    h.delay
    h.app_limited
    (record { fitting = are.0; in_time = time_is.1; numbers = (are.1, omega (arith, is_delay)) }) in
    subst (λ (delay : ℕ). Says f (Ack (record ack { delay = delay }))) (sym is_delay)
    (subst (λ (app_limited : Bool). Says f (Ack (record ack { delay = unwrap_or f.delay 0; app_limited = app_limited }))) (sym is_app_limited) says)

pub says_lost : (f : Found) (t : ℕ) (s : Space) (rs : List (ℕ × ℕ))
    → f.event ≡ Some kinds.Lost → (f.time ≡ Some t) × (t ≤ max_time) → f.space ≡ Some s → f.ranges ≡ Some rs
    → Says f (Lost t s rs)
says_lost f t s rs is_event time_is is_space is_ranges = λ ms h.
    let are = ranges_are f.ranges rs h.are_ranges is_ranges in
    lost_given ms t s rs
    (h.event ∙ ap (option_map line_kind_data) is_event)
    (h.time ∙ ap (option_map integer) time_is.0)
    (h.space ∙ ap (option_map space_data) is_space)
    (h.ranges ∙ ap (option_map ranges_data) is_ranges)
    (record { fitting = are.0; in_time = time_is.1; numbers = are.1 })

pub says_timer : (f : Found) (t : ℕ) (k : TimerKind) (s : Space)
    → f.event ≡ Some kinds.Timer → (f.time ≡ Some t) × (t ≤ max_time) → f.kind ≡ Some k → f.space ≡ Some s
    → Says f (Timer t k s)
says_timer f t k s is_event time_is is_kind is_space = λ ms h.
    timer_given ms t k s
    (h.event ∙ ap (option_map line_kind_data) is_event)
    (h.time ∙ ap (option_map integer) time_is.0)
    (h.kind ∙ ap (option_map kind_data) is_kind)
    (h.space ∙ ap (option_map space_data) is_space)
    (record { fitting = refl; in_time = time_is.1; numbers = tt })

pub says_discard : (f : Found) (t : ℕ) (s : Space)
    → f.event ≡ Some kinds.Discard → (f.time ≡ Some t) × (t ≤ max_time) → f.space ≡ Some s → fits (Discard t s) ≡ true
    → Says f (Discard t s)
says_discard f t s is_event time_is is_space fitting = λ ms h.
    discard_given ms t s
    (h.event ∙ ap (option_map line_kind_data) is_event)
    (h.time ∙ ap (option_map integer) time_is.0)
    (h.space ∙ ap (option_map space_data) is_space)
    (record { fitting = fitting; in_time = time_is.1; numbers = tt })

pub says_confirmed : (f : Found) (t : ℕ) → f.event ≡ Some kinds.Confirmed → (f.time ≡ Some t) × (t ≤ max_time) → Says f (Confirmed t)
says_confirmed f t is_event time_is = λ ms h.
    confirmed_given ms t (h.event ∙ ap (option_map line_kind_data) is_event) (h.time ∙ ap (option_map integer) time_is.0)
    (record { fitting = refl; in_time = time_is.1; numbers = tt })

pub says_keys : (f : Found) (t : ℕ) → f.event ≡ Some kinds.Keys → (f.time ≡ Some t) × (t ≤ max_time) → Says f (Keys t)
says_keys f t is_event time_is = λ ms h.
    keys_given ms t (h.event ∙ ap (option_map line_kind_data) is_event) (h.time ∙ ap (option_map integer) time_is.0)
    (record { fitting = refl; in_time = time_is.1; numbers = tt })

pub says_metrics : (f : Found) (t : ℕ) → f.event ≡ Some kinds.Metrics → (f.time ≡ Some t) × (t ≤ max_time) → Says f (Metrics t f.values)
says_metrics f t is_event time_is = λ ms h.
    metrics_given ms t f.values (h.event ∙ ap (option_map line_kind_data) is_event) (h.time ∙ ap (option_map integer) time_is.0)
    h.window h.ssthresh h.bytes_in_flight h.latest_rtt h.min_rtt h.smoothed_rtt h.rttvar
    (record { fitting = refl; in_time = time_is.1; numbers = h.are_words })
