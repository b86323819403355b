-- The answers about the packets and the connection that are kept are those about the history.
use Rattle.std.proofs.Common.{◌≡◌, ◌∙◌, ℕ, List, Bool, true, Option, refl, sym, ap, find, sum_by, count_by}
use Rattle.std.specs.List.{list_any}
use Rattle.qa_base.specs.declared.event.Event.{Event}
use Rattle.qa_base.specs.declared.space.Space.{Space}
use Rattle.qa_base.specs.declared.space.Space.TheVariants.{Initial, Handshake, App}
use Rattle.qa_base.specs.machine.Estimates.{rtt}
use Rattle.qa_base.specs.machine.Packets.{largest_acknowledged}
use Rattle.qa_base.specs.machine.Violations.{IsToleratedRun}
use Rattle.qa_base.specs.machine.State.{totals}
use Rattle.qa_base.specs.machine.Window.{ssthresh, ssthresh_by, window, window_by}
use Rattle.qa_base.specs.values.Settings.{Settings}
use Rattle.qa_sender.specs.connection.Deadlines.{AreOpen, IsOpenIn, loss_due}
use Rattle.qa_sender.specs.connection.Known.{HasParts, IsOf, IsProperToleratedRun}
use Rattle.qa_sender.specs.connection.Deadlines as deadlines
use Rattle.qa_sender.proofs.connection_lemmas.Due.{by_app, packet_deadline_is}
use Rattle.qa_base.specs.machine.Timer.{packet_deadline}
use Rattle.qa_sent_packets.specs.declared.packet.SentPacket.{SentPacket}
use Rattle.qa_sender.specs.declared.connection.connection.Connection.{Connection}
use Rattle.qa_sender.specs.declared.connection.deadline.OpenInSpace.{OpenInSpace}
use Rattle.qa_sender.specs.declared.connection.timer.TimerState.{TimerState}
use Rattle.qa_base.specs.values.PerSpace.{of_space}
use Rattle.qa_base.specs.declared.per_space.PerSpace.{PerSpace}
use Rattle.qa_ledger.proofs.Totals.{totals_are}
use Rattle.qa_ledger.specs.Tests.{totals_of}
use Rattle.qa_sender.proofs.Losses.{owed_are_counted}
use Rattle.qa_sender.proofs.Queries.{awaiting_are_held, bytes_are_held, loss_due_is_held}
use Rattle.qa_sender.specs.Running.{IsAfter, State}
use Rattle.qa_sender.specs.Standing.{StandsFor}
use Rattle.qa_sent_packets.specs.Fates.{flight_bytes, is_awaiting, is_flying, is_owed}
use Rattle.qa_sent_packets.specs.Held.{Held}

-- ---- what the timer asks

-- in a tolerated run the packets held tell it of a space
pub open_in_is : (told : OpenInSpace) (c : Settings) (h : List Event) (s : Space) (held : Held) → told.awaits ≡ list_any (is_awaiting s) held.packets → told.oldest ≡ find (is_flying s) held.packets
    → IsToleratedRun c h → StandsFor held c h → IsOpenIn told c h s
open_in_is told c h s held awaits oldest run stands = record {
  awaits = awaits ∙ sym (awaiting_are_held c h s held stands);
  oldest = ap (loss_due c (rtt c h) (largest_acknowledged h s) s) oldest ∙ sym (loss_due_is_held c h run s held stands);
}

each_open : (told : PerSpace OpenInSpace) (c : Settings) (h : List Event) → IsOpenIn told.initial c h Initial → IsOpenIn told.handshake c h Handshake → IsOpenIn told.app c h App
    → (s : Space) → IsOpenIn (of_space s told) c h s
each_open told c h initial handshake app Initial = initial
each_open told c h initial handshake app Handshake = handshake
each_open told c h initial handshake app App = app

-- and of all of them
pub are_open : (told : PerSpace OpenInSpace) (c : Settings) (h : List Event) → IsOpenIn told.initial c h Initial → IsOpenIn told.handshake c h Handshake → IsOpenIn told.app c h App → AreOpen told c h
are_open told c h initial handshake app = record { each = each_open told c h initial handshake app }

-- ---- what it is set for by application data alone

abbrev opened : Space → List SentPacket → OpenInSpace
opened s ps = record { awaits = list_any (is_awaiting s) ps; oldest = find (is_flying s) ps }

abbrev all_opened : List SentPacket → PerSpace OpenInSpace
all_opened ps = record { initial = opened Initial ps; handshake = opened Handshake ps; app = opened App ps }

-- where the other spaces are idle, by its packets
pub by_app_held : (k : Connection) (c : Settings) (h : List Event) (held : Held) → IsOf k c h → IsProperToleratedRun c h → StandsFor held c h
    → deadlines.is_idle (opened Initial held.packets) ≡ true → deadlines.is_idle (opened Handshake held.packets) ≡ true
    → (awaits : Bool) (oldest : Option SentPacket) → awaits ≡ list_any (is_awaiting App) held.packets → oldest ≡ find (is_flying App) held.packets
    → deadlines.app_deadline k (record { awaits = awaits; oldest = oldest }) ≡ packet_deadline c h
by_app_held k c h held of run stands initial handshake awaits oldest is_awaits is_oldest =
    let told = all_opened held.packets in
    let open_packets = are_open told c h (open_in_is told.initial c h Initial held refl refl run.run stands) (open_in_is told.handshake c h Handshake held refl refl run.run stands)
    (open_in_is told.app c h App held refl refl run.run stands) in
    rw (is_awaits, is_oldest) (by_app k told initial handshake ∙ packet_deadline_is k told c h of run open_packets)

-- ---- the window

-- the window and ssthresh are NewReno's or the reported ones
pub window_kept : (k : Connection) (c : Settings) (h : List Event) → HasParts k c h → window_by k.header.options.controller k.reno.window k.reported.window ≡ window c h
window_kept k c h parts = rw (parts.header, parts.reno, parts.reported) refl

pub ssthresh_kept : (k : Connection) (c : Settings) (h : List Event) → HasParts k c h → ssthresh_by k.header.options.controller k.reno.ssthresh ≡ ssthresh c h
ssthresh_kept k c h parts = rw (parts.header, parts.reno) refl

-- ---- the totals

-- they are those of the history, by what is kept
pub totals_kept : (state : State) (c : Settings) (h : List Event) (bytes owed : ℕ) → bytes ≡ sum_by flight_bytes state.packets.packets → owed ≡ count_by (λ p. is_owed p.fate) state.packets.packets
    → (w : ℕ) → w ≡ window_by state.connection.header.options.controller state.connection.reno.window state.connection.reported.window
    → (t : Option ℕ) → t ≡ ssthresh_by state.connection.header.options.controller state.connection.reno.ssthresh
    → IsAfter state c h → totals_of state.connection.events w t state.connection.rtt bytes state.connection.timer.pto_count owed ≡ totals c h
totals_kept state c h bytes owed is_bytes is_owed w is_w t is_t after =
    let known = after.connection.parts in
    totals_are c h _ w t _ bytes _ owed after.connection.events (is_w ∙ window_kept state.connection c h known) (is_t ∙ ssthresh_kept state.connection c h known) known.rtt
    (is_bytes ∙ sym (bytes_are_held c h state.packets after.packets)) (ap (λ (t : TimerState). t.pto_count) known.timer)
    (is_owed ∙ sym (owed_are_counted c h after.run.run state.packets after.packets))
