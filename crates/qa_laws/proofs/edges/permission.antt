-- Edges of probes: what is due after a probe timeout, and what it allows (RFC 9002, section 6.2.4).
--
-- Before any sample a probe timeout is 999000, and the second comes 1998000 after the last ack-eliciting packet.
use Rattle.std.specs.Prelude.{◌≡◌, true, List, [], ◌∷◌, Some, None, refl}
use Rattle.qa_base.specs.declared.event.Event.{Event}
use Rattle.qa_base.specs.declared.event.Event.TheVariants.{Discard, Confirmed, Keys}
use Rattle.qa_base.specs.declared.rule.Rule.TheVariants as rule
use Rattle.qa_base.specs.declared.space.Space.TheVariants.{Initial, Handshake, App}
use Rattle.qa_base.specs.machine.Permission.{is_probe_due}
use Rattle.qa_base.specs.machine.Rules.{first_broken, IsRun}
use Rattle.qa_base.specs.values.Settings.{Settings}
use Rattle.qa_base.specs.machine.Timer.{deadline}
use Rattle.qa_laws.proofs.Shorthand.{client, server, sent, padded, padded_probe, bare, probe, bare_probe, ack, lost, pto_fires, metrics}
use Rattle.qa_laws.proofs.edges.Deadlines.{pto_at}

abbrev c : Settings
c = client 1200 12000

abbrev s : Settings
s = server 1200 12000

-- ---- what meets a probe that is due

abbrev due : List Event
due =
    pto_fires Initial 999000 ∷
    sent Initial 0 0 1200 ∷ []

-- An ack-eliciting packet of the space meets it, with any mark: the next timeout is at 1000000 + 1998000.
pub ack_eliciting_packet_of_the_space_meets_the_probe :
    (is_probe_due due ≡ true)
    × (deadline c (sent Initial 1 1000000 1200 ∷ due) ≡ pto_at Initial 2998000)
    × IsRun c (pto_fires Initial 2998000 ∷ sent Initial 1 1000000 1200 ∷ due)
    × IsRun c (pto_fires Initial 2998000 ∷ probe Initial 1 1000000 1200 ∷ due)
unfolding first_broken
ack_eliciting_packet_of_the_space_meets_the_probe = (refl, refl, ((((tt, refl), refl), refl), refl), ((((tt, refl), refl), refl), refl))

-- One of another space does not; Initial stays due at 0 + 1998000.
pub packet_of_another_space_does_not_meet_the_probe :
    IsRun c (sent Handshake 0 1000000 1200 ∷ due)
    × (deadline c (sent Handshake 0 1000000 1200 ∷ due) ≡ pto_at Initial 1998000)
    × (first_broken c (sent Handshake 0 1000000 1200 ∷ due) (pto_fires Initial 1998000) ≡ Some rule.ProbeOwed)
unfolding first_broken
packet_of_another_space_does_not_meet_the_probe = ((((tt, refl), refl), refl), refl, refl)

-- Nor does a padded packet, also one marked as a probe, nor one that is not in flight.
pub padded_packet_does_not_meet_the_probe :
    IsRun c (padded Initial 1 1000000 1200 ∷ due)
    × (first_broken c (padded Initial 1 1000000 1200 ∷ due) (pto_fires Initial 1998000) ≡ Some rule.ProbeOwed)
    × (first_broken c (padded_probe Initial 1 1000000 1200 ∷ due) (pto_fires Initial 1998000) ≡ Some rule.ProbeOwed)
    × (first_broken c (bare_probe Initial 1 1000000 100 ∷ due) (pto_fires Initial 1998000) ≡ Some rule.ProbeOwed)
unfolding first_broken
padded_packet_does_not_meet_the_probe = ((((tt, refl), refl), refl), refl, refl, refl)

-- A packet from before the timeout does not count.
pub packet_before_the_timeout_does_not_meet_the_probe :
    IsRun c (pto_fires Initial 999001 ∷ sent Initial 1 1 1200 ∷ sent Initial 0 0 1200 ∷ [])
    × (first_broken c (pto_fires Initial 999001 ∷ sent Initial 1 1 1200 ∷ sent Initial 0 0 1200 ∷ []) (pto_fires Initial 1998001)
    ≡ Some rule.ProbeOwed)
unfolding first_broken
packet_before_the_timeout_does_not_meet_the_probe = ((((tt, refl), refl), refl), refl)

-- The wrong time and the wrong space are named before the probe that is due.
pub early_timer_is_named_before_the_probe :
    (first_broken c due (pto_fires Initial 1997999) ≡ Some rule.TimerEarly)
    × (first_broken c due (pto_fires Handshake 1998000) ≡ Some rule.TimerOther)
unfolding first_broken
early_timer_is_named_before_the_probe = (refl, refl)

-- ---- what makes it needless

abbrev due_with_a_bare_packet : List Event
due_with_a_bare_packet =
    pto_fires Initial 999000 ∷
    sent Initial 1 0 1200 ∷
    bare Initial 0 0 100 ∷ []

-- An acknowledgment of something new makes it needless, here of a packet that was not in flight: no sample, and the count of a
-- client that is not validated stays 1.
pub acknowledgment_makes_the_probe_needless :
    (first_broken c due_with_a_bare_packet (pto_fires Initial 1998000) ≡ Some rule.ProbeOwed)
    × IsRun c (pto_fires Initial 1998000 ∷ ack Initial ((0, 0) ∷ []) 1000000 ∷ due_with_a_bare_packet)
unfolding first_broken
acknowledgment_makes_the_probe_needless = (refl, (((((tt, refl), refl), refl), refl), refl))

abbrev due_after_a_sample : List Event
due_after_a_sample =
    pto_fires Initial 400000 ∷
    sent Initial 1 100000 1200 ∷
    ack Initial ((0, 0) ∷ []) 100000 ∷
    sent Initial 0 0 1200 ∷ []

-- After a sample of 100000 the timeouts are 100000 + 300000 and 100000 + 600000. An acknowledgment of nothing new changes nothing.
pub acknowledgment_of_nothing_new_does_not :
    IsRun c (ack Initial ((0, 0) ∷ []) 400000 ∷ due_after_a_sample)
    × (first_broken c (ack Initial ((0, 0) ∷ []) 400000 ∷ due_after_a_sample) (pto_fires Initial 700000) ≡ Some rule.ProbeOwed)
unfolding first_broken
acknowledgment_of_nothing_new_does_not = ((((((tt, refl), refl), refl), refl), refl), refl)

abbrev due_of_handshake : List Event
due_of_handshake =
    pto_fires Handshake 999000 ∷
    padded Initial 0 0 1200 ∷
    sent Handshake 0 0 1200 ∷ []

-- A discard of any space makes it needless: that of Initial sets the count to 0, and Handshake fires again from 999000 on.
pub discard_makes_the_probe_needless :
    (first_broken s due_of_handshake (pto_fires Handshake 1998000) ≡ Some rule.ProbeOwed)
    × IsRun s (pto_fires Handshake 1000000 ∷ Discard 1000000 Initial ∷ due_of_handshake)
unfolding first_broken
discard_makes_the_probe_needless = (refl, (((((tt, refl), refl), refl), refl), refl))

-- Keys and Confirmed do not.
pub keys_and_confirmed_do_not :
    (first_broken s (Keys 1000000 ∷ due_of_handshake) (pto_fires Handshake 1998000) ≡ Some rule.ProbeOwed)
    × (first_broken s (Confirmed 1000000 ∷ due_of_handshake) (pto_fires Handshake 1998000) ≡ Some rule.ProbeOwed)
unfolding first_broken
keys_and_confirmed_do_not = (refl, refl)

-- Nor does a report.
pub report_does_not :
    IsRun s (metrics 1000000 (Some 12000) None None None None None None ∷ due_of_handshake)
    × (first_broken s (metrics 1000000 (Some 12000) None None None None None None ∷ due_of_handshake) (pto_fires Handshake 1998000)
    ≡ Some rule.ProbeOwed)
unfolding first_broken
report_does_not = (((((tt, refl), refl), refl), refl), refl)

-- ---- what a timeout allows

-- Before any timeout nothing in flight may be marked as a probe, be it ack-eliciting or padded; one that is not in flight may.
pub probe_needs_a_timeout :
    (first_broken s [] (probe App 0 0 1200) ≡ Some rule.PastProbe)
    × (first_broken s [] (padded_probe App 0 0 1200) ≡ Some rule.PastProbe)
    × (first_broken s [] (padded_probe App 0 0 1) ≡ Some rule.PastProbe)
    × (first_broken s [] (bare_probe App 0 0 1200) ≡ None)
    × (first_broken c due (padded_probe Initial 1 999000 2400) ≡ None)
    × (first_broken c due (padded_probe Initial 1 999000 2401) ≡ Some rule.PastProbe)
unfolding first_broken
probe_needs_a_timeout = (refl, refl, refl, refl, refl, refl)

abbrev half_spent : List Event
half_spent =
    probe App 1 1024000 1200 ∷
    pto_fires App 1024000 ∷
    sent App 0 0 1200 ∷
    Confirmed 0 ∷ []

-- Two datagrams of bytes, in any number of packets: 1200 and 1199 leave one byte.
pub allowance_is_in_bytes :
    IsRun s (probe App 3 1024000 1 ∷ probe App 2 1024000 1199 ∷ half_spent)
    × (first_broken s (probe App 2 1024000 1199 ∷ half_spent) (probe App 3 1024000 2) ≡ Some rule.PastProbe)
    × (first_broken s half_spent (probe App 2 1024000 1201) ≡ Some rule.PastProbe)
unfolding first_broken
allowance_is_in_bytes = (((((((tt, refl), refl), refl), refl), refl), refl), refl, refl)

-- It is for all spaces together, and padded packets use it.
pub allowance_is_of_all_spaces :
    (first_broken s half_spent (probe Handshake 0 1024000 1201) ≡ Some rule.PastProbe)
    × IsRun s (probe Handshake 0 1024000 1200 ∷ half_spent)
    × (first_broken s (padded_probe App 2 1024000 1200 ∷ half_spent) (probe App 3 1024000 1) ≡ Some rule.PastProbe)
    × (first_broken s (sent App 2 1024000 1200 ∷ half_spent) (probe App 3 1024000 1200) ≡ None)
unfolding first_broken
allowance_is_of_all_spaces = (refl, (((((tt, refl), refl), refl), refl), refl), refl, refl)

-- It lasts past an acknowledgment that resets the count, and no longer than its bytes; the next timeout renews it. Packet 1
-- is acknowledged after 100000, and 0 is lost then.
pub allowance_lasts_until_the_next_timeout :
    IsRun s (probe App 2 1124000 1200 ∷ lost App ((0, 0) ∷ []) 1124000 ∷ ack App ((1, 1) ∷ []) 1124000 ∷ half_spent)
    × (first_broken s (probe App 2 1124000 1200 ∷ lost App ((0, 0) ∷ []) 1124000 ∷ ack App ((1, 1) ∷ []) 1124000 ∷ half_spent)
    (probe App 3 1124000 1) ≡ Some rule.PastProbe)
    × IsRun s (probe App 3 3072000 1200 ∷ probe App 2 3072000 1200 ∷ pto_fires App 3072000 ∷ half_spent)
unfolding first_broken
allowance_lasts_until_the_next_timeout = ((((((((tt, refl), refl), refl), refl), refl), refl), refl), refl, (((((((tt, refl), refl), refl), refl), refl), refl), refl))

abbrev full : List Event
full =
    pto_fires Initial 999000 ∷
    sent Initial 1 0 1200 ∷
    sent Initial 0 0 1200 ∷ []

-- A probe may pass the window of 2400, which is full; a packet marked for the window may not, and one that is not in flight may.
pub probe_passes_the_window :
    IsRun (server 1200 2400) (probe Initial 2 999000 1200 ∷ full)
    × (first_broken (server 1200 2400) full (sent Initial 2 999000 1) ≡ Some rule.PastWindow)
    × (first_broken (server 1200 2400) full (padded Initial 2 999000 1) ≡ Some rule.PastWindow)
    × IsRun (server 1200 2400) (bare Initial 2 999000 1 ∷ full)
unfolding first_broken
probe_passes_the_window = (((((tt, refl), refl), refl), refl), refl, refl, ((((tt, refl), refl), refl), refl))

-- ---- two timeouts of different spaces

abbrev due_of_the_last : List Event
due_of_the_last =
    pto_fires Handshake 2498000 ∷
    sent Initial 1 999000 1200 ∷
    pto_fires Initial 999000 ∷
    sent Handshake 0 500000 1200 ∷
    sent Initial 0 0 1200 ∷ []

-- Initial was probed at 999000; Handshake fires at 500000 + 1998000, and its probe is due. Without one it is refused at
-- 500000 + 3996000, also after a packet of Initial; with one Initial fires at 999000 + 3996000.
pub probe_is_due_in_the_space_of_the_last_timeout :
    IsRun s (sent Initial 2 2498000 1200 ∷ due_of_the_last)
    × (first_broken s (sent Initial 2 2498000 1200 ∷ due_of_the_last) (pto_fires Handshake 4496000) ≡ Some rule.ProbeOwed)
    × IsRun s (pto_fires Initial 4995000 ∷ sent Handshake 1 2498000 1200 ∷ due_of_the_last)
unfolding first_broken
probe_is_due_in_the_space_of_the_last_timeout = (((((((tt, refl), refl), refl), refl), refl), refl), refl, (((((((tt, refl), refl), refl), refl), refl), refl), refl))

-- A packet that is not in flight spends nothing of it, also where it is marked as a probe: 1200 are left after 1200 of them.
pub packet_not_in_flight_spends_no_allowance :
    IsRun s (probe App 3 1024000 1200 ∷ bare_probe App 2 1024000 1200 ∷ half_spent)
    × (first_broken s (bare_probe App 2 1024000 1200 ∷ half_spent) (probe App 3 1024000 1201) ≡ Some rule.PastProbe)
unfolding first_broken
packet_not_in_flight_spends_no_allowance = (((((((tt, refl), refl), refl), refl), refl), refl), refl)
