-- Edges of the one packet that goes out on entering recovery (RFC 9002, section 7.3.2).
use Rattle.std.specs.Prelude.{◌≡◌, true, false, List, [], ◌∷◌, Some, None, refl}
use Rattle.qa_base.specs.declared.event.Event.{Event}
use Rattle.qa_base.specs.declared.rule.Rule.TheVariants as rule
use Rattle.qa_base.specs.declared.space.Permission.TheVariants.{Recovery}
use Rattle.qa_base.specs.declared.space.Space.TheVariants.{Handshake, App}
use Rattle.qa_base.specs.machine.Reno.{reno}
use Rattle.qa_base.specs.machine.Rules.{first_broken, IsRun}
use Rattle.qa_base.specs.values.Settings.{Settings}
use Rattle.qa_laws.proofs.Shorthand.{server, sent, padded, recovery, ack, lost, packet_sent}

abbrev s : Settings
s = server 1200 12000

-- Recovery is entered at 100000 by the loss of packet 0, and packet 4 goes out by its leave.
abbrev spent : Event → List Event
spent four =
    four ∷
    lost App ((0, 0) ∷ []) 100000 ∷
    ack App ((3, 3) ∷ []) 100000 ∷
    sent App 3 0 1200 ∷
    sent App 2 0 1200 ∷
    sent App 1 0 1200 ∷
    sent App 0 0 1200 ∷ []

-- ---- a second entry

-- Packets 1, 2 and 4 are found lost, of which 4 was sent last.
abbrev lost_again : Event → List Event
lost_again four =
    lost App ((1, 2) ∷ (4, 4) ∷ []) 200001 ∷
    ack App ((7, 7) ∷ []) 200001 ∷
    sent App 7 100001 1200 ∷
    spent four

-- Packet 4 was sent at 100001, after recovery began: a second entry, which renews the leave for one packet and no more.
pub second_entry_renews_the_mark :
    (first_broken s (spent (recovery App 4 100001 1200)) (recovery App 5 100001 1200) ≡ Some rule.PastRecovery)
    × IsRun s (recovery App 8 200001 1200 ∷ lost_again (recovery App 4 100001 1200))
    × (first_broken s (recovery App 8 200001 1200 ∷ lost_again (recovery App 4 100001 1200)) (recovery App 9 200001 1200)
    ≡ Some rule.PastRecovery)
unfolding first_broken
second_entry_renews_the_mark = (refl, (((((((((((tt, refl), refl), refl), refl), refl), refl), refl), refl), refl), refl), refl), refl)

-- Packet 4 was sent at 100000, as recovery began: its loss is no entry, and the leave stays spent.
pub loss_in_recovery_renews_nothing :
    IsRun s (lost_again (recovery App 4 100000 1200))
    × (first_broken s (lost_again (recovery App 4 100000 1200)) (recovery App 8 200001 1200) ≡ Some rule.PastRecovery)
unfolding first_broken
loss_in_recovery_renews_nothing = (((((((((((tt, refl), refl), refl), refl), refl), refl), refl), refl), refl), refl), refl)

-- A padded packet spends the leave; one that is not in flight does not, and needs none.
pub what_spends_the_mark :
    (first_broken s (spent (packet_sent false true Recovery App 4 100000 100)) (recovery App 5 100001 1200) ≡ Some rule.PastRecovery)
    × (first_broken s (spent (packet_sent false false Recovery App 4 100000 100)) (recovery App 5 100001 1200) ≡ None)
    × (first_broken s [] (packet_sent false false Recovery App 4 100000 100) ≡ None)
    × (first_broken s [] (packet_sent false true Recovery App 4 100000 100) ≡ Some rule.PastRecovery)
unfolding first_broken
what_spends_the_mark = (refl, refl, refl, refl)

-- ---- a collapse

abbrev collapsed : List Event
collapsed =
    lost App ((1, 2) ∷ []) 1275002 ∷
    ack App ((5, 5) ∷ []) 1275002 ∷
    padded App 5 1175002 1200 ∷
    sent App 2 1175001 1200 ∷
    sent App 1 200000 1200 ∷
    ack App ((0, 0) ∷ []) 100000 ∷
    sent App 0 0 1200 ∷ []

-- One detection enters recovery and collapses the window, which ends recovery: the leave of that entry is kept, for one packet.
pub mark_is_kept_past_a_collapse :
    ((reno s collapsed).recovery_start_time ≡ None)
    × IsRun s (recovery App 6 1275002 1200 ∷ collapsed)
    × (first_broken s (recovery App 6 1275002 1200 ∷ collapsed) (recovery App 7 1275002 1200) ≡ Some rule.PastRecovery)
unfolding first_broken
mark_is_kept_past_a_collapse = (refl, ((((((((tt, refl), refl), refl), refl), refl), refl), refl), refl), refl)

-- Handshake packet 0 is found lost at 1275001, which enters recovery, and its leave is spent by Handshake packet 4; then packets
-- 1 and 2 of App, sent before, are found lost: no entry, but a collapse (825000 by the sample of Handshake packet 3).
abbrev collapsed_later : List Event
collapsed_later =
    lost App ((1, 2) ∷ []) 1275002 ∷
    ack App ((5, 5) ∷ []) 1275002 ∷
    recovery Handshake 4 1275001 1200 ∷
    lost Handshake ((0, 0) ∷ []) 1275001 ∷
    ack Handshake ((3, 3) ∷ []) 1275001 ∷
    padded App 5 1175001 1200 ∷
    sent Handshake 3 1175001 1200 ∷
    sent App 2 1175001 1200 ∷
    sent Handshake 0 300000 1200 ∷
    sent App 1 200000 1200 ∷
    ack App ((0, 0) ∷ []) 100000 ∷
    sent App 0 0 1200 ∷ []

-- A collapse alone gives no leave.
pub collapse_renews_nothing :
    IsRun s collapsed_later × ((reno s collapsed_later).window ≡ 3600)
    × (first_broken s collapsed_later (recovery App 6 1275002 1200) ≡ Some rule.PastRecovery)
unfolding first_broken
collapse_renews_nothing = (((((((((((((tt, refl), refl), refl), refl), refl), refl), refl), refl), refl), refl), refl), refl), refl, refl)

abbrev lost_after_the_collapse : List Event
lost_after_the_collapse =
    ack App ((9, 9) ∷ []) 1375002 ∷
    sent App 9 1275002 1200 ∷
    sent App 6 1275002 1200 ∷
    collapsed

-- After the collapse recovery is over: the loss of packet 6, sent at the time of the last entry, is an entry again. The window
-- of 3600 has room for 6 and 9; its half is 1800, so it is 2400, and 9 was sent before.
pub entry_after_a_collapse :
    IsRun s (recovery App 10 1375002 1200 ∷ lost App ((6, 6) ∷ []) 1375002 ∷ lost_after_the_collapse)
    × (reno s lost_after_the_collapse ≡ record { window = 2400; ssthresh = Some 1800; recovery_start_time = Some 1375002 })
unfolding first_broken
entry_after_a_collapse = (((((((((((((tt, refl), refl), refl), refl), refl), refl), refl), refl), refl), refl), refl), refl), refl)
