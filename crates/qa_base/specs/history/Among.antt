-- Persistent congestion (RFC 9002, section 7.6), asked of a part of the packets that were sent.
use Rattle.qa_base.specs.history.Declared.{is_lost_now}
use Rattle.std.specs.Prelude.{ℕ, ◌-◌, ◌&&◌, ◌||◌, not, nat_lt, Bool, false, List, [], ◌∷◌, filter}
use Rattle.std.specs.Prelude.{Option, Some, None, if◌then◌else◌}
use Rattle.std.specs.List.{list_any}
use Rattle.qa_base.specs.declared.event.Event.{Event}
use Rattle.qa_base.specs.machine.Estimates.{sampled}
use Rattle.qa_base.specs.machine.Detection.{is_end}
use Rattle.qa_base.specs.machine.Packets.{Packet, is_acknowledged}
use Rattle.qa_base.specs.machine.Rtt.{persistent_after}
use Rattle.qa_base.specs.values.Settings.{Settings, granularity}

-- one of these packets, sent between the two, is acknowledged
abbrev pub is_acknowledged_among : List Event → List Packet → Packet → Packet → Bool
is_acknowledged_among h ps p q =
    list_any (λ m. nat_lt p.place m.place && nat_lt m.place q.place && is_acknowledged h m) ps

-- the two lie too far apart (section 7.6.1), and none of these packets between them was
-- acknowledged
abbrev pub are_ends_among : Settings → List Event → List Packet → Packet → Packet → Bool
are_ends_among c h ps p q =
    is_end (sampled c h) p && is_end (sampled c h) q
    && nat_lt (persistent_after (granularity c) (sampled c h) c.max_ack_delay) (q.time - p.time)
    && not (is_acknowledged_among h ps p q)

-- the last event establishes persistent congestion by two of these packets
abbrev pub is_persistent_among : Settings → List Event → List Packet → Bool
is_persistent_among c h ps =
    list_any (λ p. list_any (are_ends_among c h ps p) (filter (is_lost_now c h) ps))
    (filter (is_lost_now c h) ps)

-- ---- in one walk in the order of sending

-- the packet is lost by the last event, and may be an end (section 7.6.2)
abbrev pub counts_as_end : Settings → List Event → Packet → Bool
counts_as_end c h p = is_lost_now c h p && is_end (sampled c h) p

-- sent more than so long after the packet at hand, where there is one
abbrev pub is_far_from : ℕ → Option ℕ → ℕ → Bool
is_far_from limit None t = false
is_far_from limit (Some began) t = nat_lt limit (t - began)

-- the earlier time at hand, where there is one
abbrev pub earliest : Option ℕ → ℕ → ℕ
earliest None t = t
earliest (Some began) t = began

-- two packets that count lie more than the limit apart with no acknowledged packet between; at hand
-- is when the first was sent that counts since the last acknowledged packet
abbrev pub finds_apart : (Packet → Bool) → (Packet → Bool) → ℕ → Option ℕ → List Packet → Bool
finds_apart covered counts limit began [] = false
finds_apart covered counts limit began (p ∷ ps) =
    if covered p then finds_apart covered counts limit None ps else
    (if counts p then is_far_from limit began p.time
    || finds_apart covered counts limit (Some (earliest began p.time)) ps else
    finds_apart covered counts limit began ps)
