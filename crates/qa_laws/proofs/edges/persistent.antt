-- Edges of persistent congestion (RFC 9002, section 7.6).
--
-- In each history packet 0 gives a sample of 100000 and grows the window from 12000 to 13200. With rttvar 50000 the duration is
-- 3 * (100000 + 200000 + 25000) = 975000. Losses halve the window to 6600; a collapse sets it to 2400, and the packet that
-- was acknowledged grows it by 1200 to 3600. Without a collapse that packet is in recovery, and the window stays 6600.
use Rattle.std.specs.Prelude.{◌≡◌, ℕ, List, [], ◌∷◌, Some, None, refl}
use Rattle.qa_base.specs.declared.event.Event.{Event}
use Rattle.qa_base.specs.declared.space.Space.TheVariants.{App}
use Rattle.qa_base.specs.machine.Reno.{reno}
use Rattle.qa_base.specs.machine.Rules.{first_broken, IsRun}
use Rattle.qa_base.specs.values.Settings.{Settings}
use Rattle.qa_laws.proofs.Shorthand.{server, sent, padded, ack, lost, loss_fires}

abbrev s : Settings
s = server 1200 12000

abbrev sampled : List Event
sampled =
    ack App ((0, 0) ∷ []) 100000 ∷
    sent App 0 0 1200 ∷ []

-- ---- ends, and the first sample

abbrev end_before_the_sample : List Event
end_before_the_sample =
    lost App ((1, 2) ∷ []) 1125002 ∷
    ack App ((5, 5) ∷ []) 1125002 ∷
    padded App 5 1025002 1200 ∷
    sent App 2 1025002 1200 ∷
    ack App ((0, 0) ∷ []) 100000 ∷
    sent App 1 50000 1200 ∷
    sent App 0 0 1200 ∷ []

-- Packet 1 was sent at 50000, before the first sample at 100000; the two lie 975002 apart.
pub end_before_the_first_sample_does_not_count :
    IsRun s end_before_the_sample × ((reno s end_before_the_sample).window ≡ 6600)
unfolding first_broken
end_before_the_first_sample_does_not_count = ((((((((tt, refl), refl), refl), refl), refl), refl), refl), refl)

abbrev end_at_the_sample : List Event
end_at_the_sample =
    lost App ((1, 2) ∷ []) 1175001 ∷
    ack App ((5, 5) ∷ []) 1175001 ∷
    padded App 5 1075001 1200 ∷
    sent App 2 1075001 1200 ∷
    sent App 1 100000 1200 ∷
    sampled

-- Packet 1 was sent at 100000, the time of the first sample and not after it; the two lie 975001 apart.
pub end_at_the_first_sample_does_not_count :
    IsRun s end_at_the_sample × ((reno s end_at_the_sample).window ≡ 6600)
unfolding first_broken
end_at_the_first_sample_does_not_count = ((((((((tt, refl), refl), refl), refl), refl), refl), refl), refl)

abbrev end_after_the_sample : List Event
end_after_the_sample =
    lost App ((1, 2) ∷ []) 1175002 ∷
    ack App ((5, 5) ∷ []) 1175002 ∷
    padded App 5 1075002 1200 ∷
    sent App 2 1075002 1200 ∷
    sent App 1 100001 1200 ∷
    sampled

-- Packet 1 was sent at 100001, one microsecond after the first sample; the two lie 975001 apart.
pub end_after_the_first_sample_counts :
    IsRun s end_after_the_sample × ((reno s end_after_the_sample).window ≡ 3600)
    × ((reno s end_after_the_sample).ssthresh ≡ Some 6600) × ((reno s end_after_the_sample).recovery_start_time ≡ None)
unfolding first_broken
end_after_the_first_sample_counts = ((((((((tt, refl), refl), refl), refl), refl), refl), refl), refl, refl, refl)

abbrev no_sample : List Event
no_sample =
    lost App ((1, 2) ∷ []) 6000000 ∷
    ack App ((5, 5) ∷ []) 6000000 ∷
    padded App 5 5000000 1200 ∷
    sent App 2 5000000 1200 ∷
    sent App 1 100 1200 ∷ []

-- No sample was ever taken: 3 * (333000 + 666000 + 25000) = 3072000, and the two lie 4999900 apart. The window is halved.
pub without_a_sample_nothing_is_persistent :
    IsRun s no_sample × ((reno s no_sample).window ≡ 6000)
unfolding first_broken
without_a_sample_nothing_is_persistent = ((((((tt, refl), refl), refl), refl), refl), refl)

-- ---- padded packets as ends

abbrev padded_first_end : List Event
padded_first_end =
    lost App ((1, 2) ∷ []) 1275002 ∷
    ack App ((5, 5) ∷ []) 1275002 ∷
    padded App 5 1175002 1200 ∷
    sent App 2 1175001 1200 ∷
    padded App 1 200000 1200 ∷
    sampled

abbrev padded_second_end : List Event
padded_second_end =
    lost App ((1, 2) ∷ []) 1275002 ∷
    ack App ((5, 5) ∷ []) 1275002 ∷
    padded App 5 1175002 1200 ∷
    padded App 2 1175001 1200 ∷
    sent App 1 200000 1200 ∷
    sampled

-- The two lost packets lie 975001 apart, but one of them is not ack-eliciting.
pub padded_packet_is_no_end :
    IsRun s padded_first_end × ((reno s padded_first_end).window ≡ 6600)
    × IsRun s padded_second_end × ((reno s padded_second_end).window ≡ 6600)
unfolding first_broken
padded_packet_is_no_end = ((((((((tt, refl), refl), refl), refl), refl), refl), refl), refl, (((((((tt, refl), refl), refl), refl), refl), refl), refl), refl)

-- ---- the duration, by the RTT after the event's own sample

abbrev sampling_at : List Event
sampling_at =
    lost App ((1, 2) ∷ []) 1125000 ∷
    ack App ((5, 5) ∷ []) 1125000 ∷
    sent App 5 1025000 1200 ∷
    sent App 2 1025000 1200 ∷
    sent App 1 200000 1200 ∷
    sampled

abbrev sampling_past : List Event
sampling_past =
    lost App ((1, 2) ∷ []) 1125001 ∷
    ack App ((5, 5) ∷ []) 1125001 ∷
    sent App 5 1025001 1200 ∷
    sent App 2 1025001 1200 ∷
    sent App 1 200000 1200 ∷
    sampled

-- The acknowledgment samples 100000 again: rttvar 37500, duration 3 * (100000 + 150000 + 25000) = 825000. Packets 825000 apart
-- do not collapse the window, 825001 apart they do.
pub duration_is_by_the_sample_of_the_acknowledgment :
    IsRun s sampling_at × ((reno s sampling_at).window ≡ 6600)
    × IsRun s sampling_past × ((reno s sampling_past).window ≡ 3600)
unfolding first_broken
duration_is_by_the_sample_of_the_acknowledgment = ((((((((tt, refl), refl), refl), refl), refl), refl), refl), refl, (((((((tt, refl), refl), refl), refl), refl), refl), refl), refl)

-- ---- which two packets

abbrev outer_ends_padded : List Event
outer_ends_padded =
    lost App ((1, 4) ∷ []) 1275003 ∷
    ack App ((7, 7) ∷ []) 1275003 ∷
    padded App 7 1175003 1200 ∷
    padded App 4 1175003 1200 ∷
    sent App 3 1175002 1200 ∷
    sent App 2 200001 1200 ∷
    padded App 1 200000 1200 ∷
    sampled

-- The outermost packets, 1 and 4, are padded; 2 and 3 between them lie 975001 apart.
pub inner_pair_where_the_outer_is_padded :
    IsRun s outer_ends_padded × ((reno s outer_ends_padded).window ≡ 3600)
unfolding first_broken
inner_pair_where_the_outer_is_padded = ((((((((((tt, refl), refl), refl), refl), refl), refl), refl), refl), refl), refl)

abbrev acknowledged_inside_at : List Event
acknowledged_inside_at =
    ack App ((2, 2) ∷ (7, 7) ∷ []) 1125002 ∷
    sent App 7 1025002 1200 ∷
    sent App 4 1025002 1200 ∷
    sent App 3 200002 1200 ∷
    sent App 2 200001 1200 ∷
    sent App 1 200000 1200 ∷
    sampled

abbrev acknowledged_inside_past : List Event
acknowledged_inside_past =
    ack App ((2, 2) ∷ (7, 7) ∷ []) 1125003 ∷
    sent App 7 1025003 1200 ∷
    sent App 4 1025003 1200 ∷
    sent App 3 200002 1200 ∷
    sent App 2 200001 1200 ∷
    sent App 1 200000 1200 ∷
    sampled

-- Packets 1, 3 and 4 are lost while 2, between 1 and 3, is acknowledged. The sample of 100000 makes the duration 825000. With 4
-- sent 825000 after 3, and 825002 after 1, nothing collapses; with 825001 after 3 the window falls to 2400, and 2 and 7 grow it.
pub inner_pair_where_the_outer_has_an_acknowledged_packet_between :
    IsRun s (lost App ((1, 1) ∷ (3, 4) ∷ []) 1125002 ∷ acknowledged_inside_at) × ((reno s acknowledged_inside_at).window ≡ 6600)
    × IsRun s (lost App ((1, 1) ∷ (3, 4) ∷ []) 1125003 ∷ acknowledged_inside_past)
    × ((reno s acknowledged_inside_past).window ≡ 4800)
unfolding first_broken
inner_pair_where_the_outer_has_an_acknowledged_packet_between =
    ((((((((((tt, refl), refl), refl), refl), refl), refl), refl), refl), refl), refl, (((((((((tt, refl), refl), refl), refl), refl), refl), refl), refl), refl), refl)

abbrev lost_inside : List Event
lost_inside =
    lost App ((1, 3) ∷ []) 1275002 ∷
    ack App ((6, 6) ∷ []) 1275002 ∷
    padded App 6 1175002 1200 ∷
    sent App 3 1175001 1200 ∷
    sent App 2 700000 1200 ∷
    sent App 1 200000 1200 ∷
    sampled

-- Packets 1 and 3 lie 975001 apart; packet 2 between them was lost with them.
pub outer_pair_with_a_lost_packet_between :
    IsRun s lost_inside × ((reno s lost_inside).window ≡ 3600)
unfolding first_broken
outer_pair_with_a_lost_packet_between = (((((((((tt, refl), refl), refl), refl), refl), refl), refl), refl), refl)

abbrev found_one_by_one : List Event
found_one_by_one =
    lost App ((4, 4) ∷ []) 1287502 ∷
    loss_fires App 1287502 ∷
    lost App ((1, 1) ∷ []) 1275002 ∷
    ack App ((5, 5) ∷ []) 1275002 ∷
    padded App 5 1175002 1200 ∷
    sent App 4 1175001 1200 ∷
    sent App 1 200000 1200 ∷
    sampled

-- Packet 1 is four below packet 5 and lost at once; packet 4 is one below, 100001 old, and found by the timer from
-- 1175001 + 112500 on. They lie 975001 apart, but no detection found both.
pub packets_found_by_two_detections_are_no_pair :
    IsRun s found_one_by_one × ((reno s found_one_by_one).window ≡ 6600)
unfolding first_broken
packets_found_by_two_detections_are_no_pair = ((((((((((tt, refl), refl), refl), refl), refl), refl), refl), refl), refl), refl)

-- ---- the granularity in the duration

abbrev steady_until : ℕ → List Event
steady_until second =
    lost App ((1, 2) ∷ []) 178600 ∷
    ack App ((5, 5) ∷ []) 178600 ∷
    padded App 5 78501 1200 ∷
    sent App 2 second 1200 ∷
    sent App 1 200 1200 ∷
    ack App ((0, 0) ∷ []) 100 ∷
    sent App 0 0 1200 ∷ []

-- After a sample of 100, four times the variation of 50 is less than 1000: the duration is 3 * (100 + 1000 + 25000) = 78300, where
-- 200 would make it 75900. Packets 78300 apart do not collapse the window, 78301 apart they do.
pub granularity_in_the_duration :
    IsRun s (steady_until 78500) × ((reno s (steady_until 78500)).window ≡ 6600)
    × IsRun s (steady_until 78501) × ((reno s (steady_until 78501)).window ≡ 3600)
unfolding first_broken
granularity_in_the_duration = ((((((((tt, refl), refl), refl), refl), refl), refl), refl), refl, (((((((tt, refl), refl), refl), refl), refl), refl), refl), refl)
