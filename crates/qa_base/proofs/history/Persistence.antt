-- Persistent congestion is two packets that lie apart.
use Rattle.qa_base.proofs.history.LostNow.{declared_from, declared_has, lost_now_uncovered}
use Rattle.qa_base.specs.history.Declared.{is_lost_now}
use Rattle.std.proofs.Common.{◌≡◌, ◌<◌, ◌-◌, ℕ, List, [], ◌∷◌, Bool, true, false, ◌&&◌, not, sym, arith, subst, Contains, inl, inr}
use Rattle.std.proofs.lemmas.Bool.{and_parts, and_from, or_left, or_right, both_ways, false_from_ne_true, not-true, not_from_false, lt-ltb, ltb-true}
use Rattle.std.specs.List.{list_any}
use Rattle.std.specs.Prelude.{nat_lt}
use Rattle.qa_base.specs.declared.event.Event.{Event}
use Rattle.qa_base.specs.history.Among.{counts_as_end}
use Rattle.qa_base.specs.machine.Estimates.{sampled}
use Rattle.qa_base.specs.machine.Detection.{is_end, are_ends, is_acknowledged_between}
use Rattle.qa_base.specs.machine.Loss.{is_persistent, declared}
use Rattle.qa_base.specs.machine.Packets.{Packet, packets, is_acknowledged}
use Rattle.qa_base.specs.machine.Rtt.{persistent_after}
use Rattle.qa_base.specs.values.Settings.{Settings, granularity}
use Rattle.qa_base.proofs.history.Pairs.{first_or_rest, some_one}

-- ---- what some packet passes

some_from : (test : Packet → Bool) (ps : List Packet) (p : Packet) → Contains ps p → test p ≡ true → list_any test ps ≡ true
some_from test [] p (k, inside, is) passes = absurd (omega arith)
some_from test (q ∷ ps) p has passes = elim (first_or_rest q p ps has) [
  | inl here ↦ or_left (test q) (list_any test ps) (subst (λ (x : Packet). test x ≡ true) (sym here) passes)
  | inr behind ↦ or_right (test q) (list_any test ps) (some_from test ps p behind passes)
]

none_at : (test : Packet → Bool) (ps : List Packet) (p : Packet) → list_any test ps ≡ false → Contains ps p → test p ≡ false
none_at test ps p none has = false_from_ne_true (test p) (λ passes. both_ways (list_any test ps) none (some_from test ps p has passes))

none_from : (test : Packet → Bool) (ps : List Packet) → ((p : Packet) → Contains ps p → test p ≡ false) → list_any test ps ≡ false
none_from test ps each = false_from_ne_true (list_any test ps) (λ some. let one = some_one test ps some in both_ways (test one.0) (each one.0 one.1) one.2)

-- ---- two that lie apart

-- two packets that count, the second sent so much later, and no covered packet between them
pub record AreApart (covered counts : Packet → Bool) (limit : ℕ) (ps : List Packet) (p q : Packet) : Type 0 where
  pub has_p : Contains ps p
  pub has_q : Contains ps q
  pub counts_p : counts p ≡ true
  pub counts_q : counts q ≡ true
  pub far : limit < q.time - p.time
  pub clear : (m : Packet) → Contains ps m → p.place < m.place → m.place < q.place → covered m ≡ false

-- ---- the last event's two packets

pub apart_of : (c : Settings) (h : List Event) → is_persistent c h ≡ true
    → (p : Packet) × (q : Packet) × AreApart (is_acknowledged h) (counts_as_end c h) (persistent_after (granularity c) (sampled c h) c.max_ack_delay) (packets h) p q
apart_of c h is =
    let limit = persistent_after (granularity c) (sampled c h) c.max_ack_delay in
    let one = some_one (λ p. list_any (are_ends c (sampled c h) h p) (declared c h)) (declared c h) is in
    let p = one.0 in
    let two = some_one (are_ends c (sampled c h) h p) (declared c h) one.2 in
    let q = two.0 in
    let of_p = declared_from c h p one.1 in
    let of_q = declared_from c h q two.1 in
    let parts = and_parts (is_end (sampled c h) p && is_end (sampled c h) q && nat_lt limit (q.time - p.time)) (not (is_acknowledged_between h p q)) two.2 in
    let more = and_parts (is_end (sampled c h) p && is_end (sampled c h) q) (nat_lt limit (q.time - p.time)) parts.0 in
    let ends = and_parts (is_end (sampled c h) p) (is_end (sampled c h) q) more.0 in
    let none = not-true (is_acknowledged_between h p q) parts.1 in (
      p,
      q,
      record {
        has_p = of_p.0;
        has_q = of_q.0;
        counts_p = and_from (is_lost_now c h p) (is_end (sampled c h) p) of_p.1 ends.0;
        counts_q = and_from (is_lost_now c h q) (is_end (sampled c h) q) of_q.1 ends.1;
        far = ltb-true limit (q.time - p.time) more.1;
        clear = λ m inside after before. false_from_ne_true (is_acknowledged h m) (λ covered.
            both_ways (nat_lt p.place m.place && nat_lt m.place q.place && is_acknowledged h m)
            (none_at (λ k. nat_lt p.place k.place && nat_lt k.place q.place && is_acknowledged h k) (packets h) m none inside)
            (and_from (nat_lt p.place m.place && nat_lt m.place q.place) (is_acknowledged h m)
            (and_from (nat_lt p.place m.place) (nat_lt m.place q.place) (lt-ltb p.place m.place after) (lt-ltb m.place q.place before)) covered));
      },
    )

pub of_apart : (c : Settings) (h : List Event) (p q : Packet) → AreApart (is_acknowledged h) (counts_as_end c h) (persistent_after (granularity c) (sampled c h) c.max_ack_delay) (packets h) p q
    → is_persistent c h ≡ true
of_apart c h p q apart =
    let limit = persistent_after (granularity c) (sampled c h) c.max_ack_delay in
    let of_p = and_parts (is_lost_now c h p) (is_end (sampled c h) p) apart.counts_p in
    let of_q = and_parts (is_lost_now c h q) (is_end (sampled c h) q) apart.counts_q in
    let none : is_acknowledged_between h p q ≡ false = none_from (λ k. nat_lt p.place k.place && nat_lt k.place q.place && is_acknowledged h k) (packets h) (λ m inside.
    false_from_ne_true (nat_lt p.place m.place && nat_lt m.place q.place && is_acknowledged h m) (λ is.
    let parts = and_parts (nat_lt p.place m.place && nat_lt m.place q.place) (is_acknowledged h m) is in
    let places = and_parts (nat_lt p.place m.place) (nat_lt m.place q.place) parts.0 in
    both_ways (is_acknowledged h m) (apart.clear m inside (ltb-true p.place m.place places.0) (ltb-true m.place q.place places.1)) parts.1)) in
    some_from (λ p. list_any (are_ends c (sampled c h) h p) (declared c h)) (declared c h) p (declared_has c h p apart.has_p of_p.0)
    (some_from (are_ends c (sampled c h) h p) (declared c h) q (declared_has c h q apart.has_q of_q.0)
    (and_from (is_end (sampled c h) p && is_end (sampled c h) q && nat_lt limit (q.time - p.time)) (not (is_acknowledged_between h p q))
    (and_from (is_end (sampled c h) p && is_end (sampled c h) q) (nat_lt limit (q.time - p.time))
    (and_from (is_end (sampled c h) p) (is_end (sampled c h) q) of_p.1 of_q.1) (lt-ltb limit (q.time - p.time) apart.far))
    (not_from_false (is_acknowledged_between h p q) none)))

-- a packet that is lost by the last event is not covered
pub owed_not_covered : (c : Settings) (h : List Event) (p : Packet) → counts_as_end c h p ≡ true → is_acknowledged h p ≡ false
owed_not_covered c h p is = lost_now_uncovered c h p (and_parts (is_lost_now c h p) (is_end (sampled c h) p) is).0
