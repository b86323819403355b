-- What is written for an event has no float.
use Rattle.std.proofs.Common.{◌≡◌, ℕ, List, [], ◌∷◌, ◌++◌, false, Option, Some, None, refl}
use Rattle.std.proofs.lemmas.Bool.{or_parts, or_from}
use Rattle.serde_json.specs.Data.{Data}
use Rattle.serde_json.specs.Written.{has_float, items_have_float, members_have_float}
use Rattle.qa_base.specs.declared.event.Event.{Event}
use Rattle.qa_base.specs.declared.event.Event.TheVariants.{Sent, Ack, Lost, Timer, Discard, Confirmed, Keys, Metrics}
use Rattle.qa_base.specs.declared.key.Key.{Key}
use Rattle.qa_base.specs.declared.key.Key.TheVariants as key
use Rattle.qa_base.specs.declared.line_kind.LineKind.TheVariants as kinds
use Rattle.qa_base.specs.declared.rule.Field.{Field}
use Rattle.qa_base.specs.declared.rule.Field.TheVariants.{Window, Ssthresh, BytesInFlight, LatestRtt, MinRtt, SmoothedRtt, Rttvar}
use Rattle.qa_base.specs.values.Names.{line_kind_name}
use Rattle.qa_format.specs.format.Written.{Pairs, integer_pairs, reported, members, object_of, event_pairs, string, integer}

-- no value of the pairs has a float
record HaveNone (ps : Pairs) : Type 0 where
  is : members_have_float (members ps) ≡ false

behind_none : (p : Key × Data) (ps : Pairs) → has_float p.1 ≡ false → HaveNone ps → HaveNone (p ∷ ps)
behind_none p ps first others = record { is = or_from (has_float p.1) (members_have_float (members ps)) first others.is }

append_none : (ps qs : Pairs) → HaveNone ps → HaveNone qs → HaveNone (ps ++ qs)
append_none [] qs first second = second
append_none (p ∷ ps) qs first second =
    let parts = or_parts (has_float p.1) (members_have_float (members ps)) first.is in
    behind_none p (ps ++ qs) parts.0 (append_none ps qs (record { is = parts.1 }) second)

reported_none : (f : Field) (o : Option ℕ) → HaveNone (reported f o)
reported_none f None = record { is = refl }
reported_none f (Some n) = record { is = refl }

no_float_in_ranges : (ranges : List (ℕ × ℕ)) → items_have_float (integer_pairs ranges) ≡ false
no_float_in_ranges [] = refl
no_float_in_ranges (range ∷ ranges) = no_float_in_ranges ranges

event_pairs_none : (e : Event) → HaveNone (event_pairs e)
event_pairs_none (Sent packet) = record { is = refl }
event_pairs_none (Ack ack) = record { is = or_from (items_have_float (integer_pairs ack.ranges)) false (no_float_in_ranges ack.ranges) refl }
event_pairs_none (Lost time space ranges) = record { is = or_from (items_have_float (integer_pairs ranges)) false (no_float_in_ranges ranges) refl }
event_pairs_none (Timer time kind space) = record { is = refl }
event_pairs_none (Discard time space) = record { is = refl }
event_pairs_none (Confirmed time) = record { is = refl }
event_pairs_none (Keys time) = record { is = refl }
event_pairs_none (Metrics time values) =
    append_none _ _
    (append_none _ _
    (append_none _ _
    (append_none _ _
    (append_none _ _
    (append_none _ _
    (reported_none BytesInFlight values.bytes_in_flight)
    (behind_none (key.Event, string (line_kind_name kinds.Metrics)) _ refl (reported_none LatestRtt values.latest_rtt)))
    (reported_none MinRtt values.min_rtt))
    (reported_none Rttvar values.rttvar))
    (reported_none SmoothedRtt values.smoothed_rtt))
    (reported_none Ssthresh values.ssthresh))
    (behind_none (key.Time, integer time) _ refl (reported_none Window values.window))

-- the object of an event has no float
pub has_float_event : (e : Event) → has_float (object_of (event_pairs e)) ≡ false
has_float_event e = (event_pairs_none e).is
