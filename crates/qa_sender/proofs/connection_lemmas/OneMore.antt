-- What one event more makes of a connection, once the event's steps are made: each part is that of the history with the event.
use Rattle.std.proofs.Common.{◌≡◌, ◌∙◌, ◌≤◌, ◌+◌, ℕ, suc, List, [], ◌∷◌, ◌++◌, length, Bool, true, false, ◌&&◌, Option, Some, refl, sym, ap, arith, fold, map, reverse}
use Rattle.std.specs.List.{list_any}
use Rattle.std.specs.Prelude.{if◌then◌else◌}
use Rattle.qa_base.specs.declared.event.Event.{Event}
use Rattle.qa_base.specs.declared.event.Ack.{Ack as Acknowledgment}
use Rattle.qa_base.specs.declared.event.Event.TheVariants.{Sent, Ack, Lost, Timer, Discard, Confirmed, Keys, Metrics}
use Rattle.qa_base.specs.declared.event.MetricValues.{MetricValues}
use Rattle.qa_base.specs.declared.space.TimerKind.TheVariants.{Loss, Pto}
use Rattle.qa_base.specs.declared.space.Permission.{Permission}
use Rattle.qa_base.specs.declared.space.Space.{Space}
use Rattle.qa_base.specs.machine.Detection.{are_ends}
use Rattle.qa_base.specs.machine.Estimates.{sampled}
use Rattle.qa_base.specs.machine.Handshake.{is_validated}
use Rattle.qa_base.specs.machine.Permission.{answers_pto, is_recovery_packet, probe_size}
use Rattle.qa_base.specs.machine.Loss.{declared, is_persistent, owed}
use Rattle.qa_base.specs.machine.Moments.{before_last, detection_of}
use Rattle.qa_base.specs.machine.Packets.{Packet, acknowledges_new, greatest, is_some_packet, newly_acknowledged, packets}
use Rattle.qa_base.specs.machine.Reno.{Control, persistent_congestions, grows, congestion_events, event_mark, is_app_limited, moved, reno}
use Rattle.qa_base.specs.machine.Timer.{sets_timer}
use Rattle.qa_base.specs.machine.Window.{acknowledged_bytes}
use Rattle.qa_base.specs.values.Events.{is_quiet, time_of}
use Rattle.qa_base.specs.values.Settings.{AreInRange, Settings}
use Rattle.qa_base.proofs.machine.Quiet.{is_pto-quiet, newly-quiet, none_passes, resets_count-quiet, rtt-quiet, rtt_stays}
use Rattle.qa_base.proofs.machine.Steps.{reno_after}
use Rattle.qa_sender.specs.Following.{as_sent}
use Rattle.qa_sender.specs.connection.Changes.{acknowledged, completed, counted, discarded, grown, probing, reported, restarted, sent, with_persistent_congestion, with_congestion_event, with_sample}
use Rattle.qa_sender.specs.connection.Handshaking.{acknowledged_in, discarded_in, handshake_after, sent_in}
use Rattle.qa_sender.specs.connection.Known.{HasParts, IsMeasured, IsOf, IsProperToleratedRun, acknowledged_by}
use Rattle.qa_sender.specs.connection.Detecting.{search_after, search_by}
use Rattle.qa_sender.specs.connection.Reporting.{acknowledging, collapsed_with, reported_after, reporting}
use Rattle.qa_sender.specs.connection.Spaces.{space_after}
use Rattle.qa_sender.specs.connection.Spending.{on_congestion_event, spent}
use Rattle.qa_sender.specs.connection.Steps.{capped, last_sent}
use Rattle.qa_sender.specs.connection.Timing.{answered_in, timer_after}
use Rattle.qa_sender.specs.connection.Timing as timers
use Rattle.qa_sender.specs.declared.connection.allowances.Allowances.{Allowances}
use Rattle.qa_sender.specs.declared.connection.connection.Connection.{Connection}
use Rattle.qa_sender.specs.declared.connection.detection.Detection.{Detection}
use Rattle.qa_sender.specs.declared.connection.handshake.HandshakeState.{HandshakeState}
use Rattle.qa_sender.specs.declared.connection.reported.ReportedWindow.{ReportedWindow}
use Rattle.qa_sender.specs.declared.connection.timer.TimerState.{TimerState}
use Rattle.qa_sender.proofs.connection_lemmas.Ended.{rtt_of, sampled_of, validated_is}
use Rattle.qa_sender.proofs.connection_lemmas.Entries.{entry_of}
use Rattle.qa_sender.proofs.connection_lemmas.Grown.{reno_of}
use Rattle.qa_sender.proofs.connection_lemmas.Reports.{no_bytes, reported_acked, reported_found, reported_is, reported_stays}
use Rattle.qa_sender.proofs.connection_lemmas.Spent.{allowances_sent, allowances_stay, allowances_unhit}
use Rattle.qa_sender.proofs.connection_lemmas.States.{spaces_acked, spaces_discarded, spaces_sent}
use Rattle.qa_sender.proofs.connection_lemmas.Timers.{timer_fired, timer_probing, timer_restarted, timer_sent, timer_stays}
use Rattle.qa_sent_packets.specs.Told.{sent_of}
use Rattle.qa_sent_packets.specs.declared.packet.SentPacket.{SentPacket}
use Rattle.qa_base.specs.values.PerSpace.{of_space}

-- ---- the count of events

one_more : (n long : ℕ) → n ≡ long → long ≤ 4294967294 → capped (n + 1) ≡ suc long
one_more n long is few = omega (arith, is, few)

-- what is kept of the last detection is no part of it
pub parts_with : (c : Settings) (h : List Event) (k : Connection) (d : Option Detection) → HasParts k c h → HasParts (record k { detection = d }) c h
parts_with c h k d parts = record {
  header = parts.header;
  handshake = parts.handshake;
  rtt = parts.rtt;
  reno = parts.reno;
  reported = parts.reported;
  timer = parts.timer;
  allowances = parts.allowances;
  spaces = parts.spaces;
}

-- nor of what losses are looked for by
pub measured_with : (c : Settings) (h : List Event) (k : Connection) (d : Option Detection) → IsMeasured k c h → IsMeasured (record k { detection = d }) c h
measured_with c h k d measured = record { header = measured.header; rtt = measured.rtt; spaces = measured.spaces }

-- once the event is counted, it is kept of the history with the event
pub counted_is : (c : Settings) (e : Event) (h : List Event) (k : Connection) (d : Option Space) → search_by d k.detection ≡ search_after c (e ∷ h) → k.events ≡ length h → IsProperToleratedRun c (e ∷ h)
    → HasParts k c (e ∷ h) → IsOf (counted (time_of e) d k) c (e ∷ h)
counted_is c e h k d is events run parts =
    let long = run.few in
    record {
      events = one_more k.events (length h) events (omega (arith, long));
      last_time = refl;
      search = is;
      parts = record {
        header = parts.header;
        handshake = parts.handshake;
        rtt = parts.rtt;
        reno = parts.reno;
        reported = parts.reported;
        timer = parts.timer;
        allowances = parts.allowances;
        spaces = parts.spaces;
      };
    }

-- ---- the window and the estimate, where nothing is lost nor newly acknowledged by the event

no_move : (d : ℕ) (app_limited : Bool) (r : Control) → fold (moved d) r (if app_limited then [] else []) ≡ r
no_move d true r = refl
no_move d false r = refl

not_persistent : (c : Settings) (h : List Event) → declared c h ≡ [] → is_persistent c h ≡ false
not_persistent c h free = ap (λ ps. list_any (λ p. list_any (are_ends c (sampled c h) h p) ps) ps) free

reno_stays : (c : Settings) (e : Event) (h : List Event) → declared c (e ∷ h) ≡ [] → newly_acknowledged (e ∷ h) ≡ [] → reno c (e ∷ h) ≡ reno c h
reno_stays c e h free none =
    let d = c.max_datagram_size in
    reno_after c e h
    ∙ (ap (λ ps. fold (moved d) (reno c h) ((congestion_events c (event_mark c (detection_of (e ∷ h))) ps ++ persistent_congestions (is_persistent c (e ∷ h))) ++ (if is_app_limited e then [] else grows c (newly_acknowledged (e ∷ h))))) free
    ∙ (ap (λ b. fold (moved d) (reno c h) (([] ++ persistent_congestions b) ++ (if is_app_limited e then [] else grows c (newly_acknowledged (e ∷ h))))) (not_persistent c (e ∷ h) free)
    ∙ (ap (λ ps. fold (moved d) (reno c h) (if is_app_limited e then [] else grows c ps)) none ∙ no_move d (is_app_limited e) (reno c h))))

none_of : (ps : List Packet) → is_some_packet ps ≡ false → ps ≡ []
none_of [] none = refl
none_of (p ∷ ps) none = cc

-- ---- an acknowledgment

-- once it raised the largest acknowledged number, and its sample was taken, losses can be looked for
pub acked_measured : (c : Settings) (h : List Event) (ack : Acknowledgment) (old covers samples : Connection) → HasParts old c h
    → (largest : ℕ) → largest ≡ greatest ack.ranges → covers ≡ acknowledged ack.space largest old
    → (ps : List SentPacket) → ps ≡ acknowledged_by c (Ack ack) h → samples ≡ with_sample ack.time ack.delay largest ps covers
    → IsMeasured samples c (Ack ack ∷ h)
acked_measured c h ack old covers samples of largest is_largest is_acknowledged ps are is_sampled =
    rw (is_sampled, is_acknowledged, is_largest) (record {
      header = of.header;
      rtt = sampled_of c h ack old.header old.handshake.confirmed ps old.rtt of.header (ap (λ (x : HandshakeState). x.confirmed) of.handshake) are of.rtt;
      spaces = spaces_acked h ack old.spaces of.spaces;
    })

-- an acknowledgment of something new, as its steps are made one after the other
pub acked_is : (c : Settings) (h : List Event) (ack : Acknowledgment) (old covers samples loses grows new : Connection)
    → HasParts old c h → IsProperToleratedRun c (Ack ack ∷ h) → AreInRange c
    → (largest : ℕ) → largest ≡ greatest ack.ranges → covers ≡ acknowledged ack.space largest old
    → (ps : List SentPacket) → ps ≡ acknowledged_by c (Ack ack) h → acknowledges_new (Ack ack ∷ h) ≡ true
    → samples ≡ with_sample ack.time ack.delay largest ps covers
    → (mark : ℕ) → mark ≡ event_mark c (Ack ack ∷ h)
    → loses ≡ with_persistent_congestion (is_persistent c (Ack ack ∷ h)) (with_congestion_event mark (last_sent c (owed c (Ack ack ∷ h))) samples)
    → grows ≡ grown ack.app_limited ps loses → new ≡ restarted ack.time grows → HasParts new c (Ack ack ∷ h)
acked_is c h ack old covers samples loses grows new of run range largest is_largest is_acknowledged ps are some is_sampled mark is_mark is_declared_lost is_grown is_new =
    let e = Ack ack in
    let measured = acked_measured c h ack old covers samples of largest is_largest is_acknowledged ps are is_sampled in
    let long = run.few in
    let shakes : acknowledged_in ack.space old.handshake ≡ handshake_after (e ∷ h) = ap (acknowledged_in ack.space) of.handshake in
    let valid = validated_is old.header c (acknowledged_in ack.space old.handshake) (e ∷ h) of.header shakes in
    let resets = valid ∙ sym (ap (λ b. b && is_validated c (e ∷ h)) some) in
    let entered = entry_of c e h old.reno (last_sent c (owed c (e ∷ h))) of.reno refl in
    let samples_rtt : samples.rtt ≡ sampled c (e ∷ h) = measured.rtt in
    rw (is_new, is_grown, is_declared_lost) (record {
      header = measured.header;
      handshake = rw (is_sampled, is_acknowledged) shakes;
      rtt = rtt_of c e h samples.header (is_persistent c (e ∷ h)) samples.rtt measured.header refl measured.rtt;
      reno = rw (is_sampled, is_acknowledged) (reno_of c e h old.header old.reno mark ps (last_sent c (owed c (e ∷ h))) (is_persistent c (e ∷ h)) of.header of.reno is_mark are refl refl range run.fit.1 (omega (arith, long)));
      reported = rw (is_sampled, is_acknowledged) (ap (λ (r : ReportedWindow). acknowledging ps (collapsed_with 0 (is_persistent c (e ∷ h)) r)) of.reported ∙ reported_acked c h ack ps are run.fit.1 (omega (arith, long)));
      timer = rw (is_sampled, is_acknowledged) (ap (timers.restarted ack.time _) of.timer ∙ timer_restarted c e h _ refl resets some (λ s. some));
      allowances = rw (is_sampled, is_acknowledged) (ap (λ b. on_congestion_event b old.allowances) entered ∙ (ap (on_congestion_event _) of.allowances ∙ sym (allowances_stay c e h refl refl)));
      spaces = measured.spaces;
    })

-- an acknowledgment of nothing new: it raises the largest acknowledged number, and may be one of the Handshake space
pub acked_old : (c : Settings) (h : List Event) (ack : Acknowledgment) (old covers : Connection) → HasParts old c h
    → (largest : ℕ) → largest ≡ greatest ack.ranges → covers ≡ acknowledged ack.space largest old
    → [] ≡ acknowledged_by c (Ack ack) h → acknowledges_new (Ack ack ∷ h) ≡ false
    → owed c (Ack ack ∷ h) ≡ [] → HasParts covers c (Ack ack ∷ h)
acked_old c h ack old covers of largest is_largest is_acknowledged are none free =
    let e = Ack ack in
    let measured = acked_measured c h ack old covers (with_sample ack.time ack.delay largest [] covers) of largest is_largest is_acknowledged [] are refl in
    rw (is_acknowledged, is_largest) (record {
      header = of.header;
      handshake = ap (acknowledged_in ack.space) of.handshake;
      rtt = rw is_acknowledged at measured.rtt ∙ sym (rtt_stays c e h free);
      reno = of.reno ∙ sym (reno_stays c e h free (none_of (newly_acknowledged (e ∷ h)) none));
      reported = of.reported ∙ sym (reported_stays c e h refl (none_of (newly_acknowledged (e ∷ h)) none) (not_persistent c (e ∷ h) free));
      timer = of.timer ∙ sym (timer_stays c e h refl (ap (λ b. b && is_validated c (e ∷ h)) none) none (λ s. none));
      allowances = of.allowances ∙ sym (allowances_unhit c e h _ refl refl refl free);
      spaces = spaces_acked h ack old.spaces of.spaces;
    })

-- ---- a packet

-- a packet is sent
pub sent_is : (c : Settings) (h : List Event) (p : SentPacket) (permission : Permission) (k : Connection) → HasParts k c h → IsProperToleratedRun c (Sent (as_sent p permission) ∷ h)
    → HasParts (sent p permission k) c (Sent (as_sent p permission) ∷ h)
sent_is c h p permission k of run =
    let e = Sent (as_sent p permission) in
    let long = run.few in
    record {
      header = of.header;
      handshake = ap (sent_in p.space) of.handshake;
      rtt = of.rtt ∙ sym (rtt_stays c e h refl);
      reno = of.reno ∙ sym (reno_stays c e h refl (none_passes (packets h)));
      reported = of.reported ∙ sym (reported_stays c e h refl (none_passes (packets h)) refl);
      timer = ap (λ (t : TimerState). record {
        pto_count = t.pto_count;
        last_set = if p.in_flight then Some p.time else t.last_set;
        probe_due = if p.eliciting then answered_in p.space t.probe_due else t.probe_due;
      }) of.timer ∙ timer_sent c h (as_sent p permission);
      allowances = ap (λ (a : Allowances). if p.in_flight then spent permission p.size a else a) of.allowances
          ∙ allowances_sent c h (as_sent p permission) run.fit (omega (arith, long));
      spaces = spaces_sent h (as_sent p permission) k.spaces of.spaces;
    }

-- ---- timers

-- a probe timeout
pub probing_is : (c : Settings) (h : List Event) (time : ℕ) (space : Space) (k : Connection) → HasParts k c h → IsProperToleratedRun c (Timer time Pto space ∷ h)
    → HasParts (probing space time k) c (Timer time Pto space ∷ h)
probing_is c h time space k of run =
    let e = Timer time Pto space in
    record {
      header = of.header;
      handshake = of.handshake;
      rtt = of.rtt ∙ sym (rtt_stays c e h refl);
      reno = of.reno ∙ sym (reno_stays c e h refl (none_passes (packets h)));
      reported = of.reported ∙ sym (reported_stays c e h refl (none_passes (packets h)) refl);
      timer = ap (timers.probing space time) of.timer ∙ timer_probing c h time space run.run.0 run.timely.1;
      allowances = ap (λ (a : Allowances). record a { probe_spent = Some 0 }) of.allowances ∙ sym (allowances_unhit c e h _ refl refl refl refl);
      spaces = of.spaces;
    }

-- before a loss timer looks for losses
pub timed_measured : (c : Settings) (h : List Event) (time : ℕ) (space : Space) (k : Connection) → HasParts k c h
    → IsMeasured (record k { timer = record k.timer { last_set = Some time } }) c (Timer time Loss space ∷ h)
timed_measured c h time space k of = record { header = of.header; rtt = of.rtt; spaces = of.spaces }

-- a loss timer
pub timed_is : (c : Settings) (h : List Event) (time : ℕ) (space : Space) (k : Connection) → HasParts k c h → IsProperToleratedRun c (Timer time Loss space ∷ h) → AreInRange c
    → (mark : ℕ) → mark ≡ event_mark c (Timer time Loss space ∷ h)
    → HasParts (with_persistent_congestion (is_persistent c (Timer time Loss space ∷ h)) (with_congestion_event mark (last_sent c (owed c (Timer time Loss space ∷ h))) (record k { timer = record k.timer { last_set = Some time } }))) c (Timer time Loss space ∷ h)
timed_is c h time space k of run range mark is_mark =
    let e = Timer time Loss space in
    let long = run.few in
    let last = last_sent c (owed c (e ∷ h)) in
    let are : [] ≡ acknowledged_by c e h = sym (ap (λ ps. map (sent_of c h) (reverse ps)) (none_passes (packets h))) in
    record {
      header = of.header;
      handshake = of.handshake;
      rtt = rtt_of c e h k.header (is_persistent c (e ∷ h)) k.rtt of.header refl of.rtt;
      reno = reno_of c e h k.header k.reno mark [] last (is_persistent c (e ∷ h)) of.header of.reno is_mark are refl refl range run.fit.1 (omega (arith, long));
      reported = ap (collapsed_with 0 (is_persistent c (e ∷ h))) of.reported ∙ reported_found c e h 0 (sym (no_bytes e h (none_passes (packets h)))) refl (none_passes (packets h));
      timer = ap (λ (t : TimerState). record t { last_set = Some time }) of.timer ∙ timer_fired c h time space;
      allowances = ap (λ b. on_congestion_event b k.allowances) (entry_of c e h k.reno last of.reno refl) ∙ (ap (on_congestion_event _) of.allowances ∙ sym (allowances_stay c e h refl refl));
      spaces = of.spaces;
    }

-- ---- a discard

pub discarded_is : (c : Settings) (h : List Event) (time : ℕ) (space : Space) (k : Connection) → HasParts k c h → HasParts (discarded space time k) c (Discard time space ∷ h)
discarded_is c h time space k of =
    let e = Discard time space in
    record {
      header = of.header;
      handshake = ap (discarded_in space) of.handshake;
      rtt = of.rtt ∙ sym (rtt_stays c e h refl);
      reno = of.reno ∙ sym (reno_stays c e h refl (none_passes (packets h)));
      reported = of.reported ∙ sym (reported_stays c e h refl (none_passes (packets h)) refl);
      timer = ap (timers.restarted time true) of.timer ∙ timer_restarted c e h true refl refl refl (λ s. refl);
      allowances = of.allowances ∙ sym (allowances_unhit c e h _ refl refl refl refl);
      spaces = spaces_discarded h time space k.spaces of.spaces;
    }

-- ---- events that change the handshake at most

quiet_is : (c : Settings) (e : Event) (h : List Event) → is_quiet e ≡ true → sets_timer (e ∷ h) ≡ acknowledges_new (e ∷ h) → ((s : Space) → answers_pto s (e ∷ h) ≡ acknowledges_new (e ∷ h))
    → probe_size (e ∷ h) ≡ 0 → is_recovery_packet (e ∷ h) ≡ false → declared c (e ∷ h) ≡ []
    → (k : Connection) → HasParts k c h → (shakes : HandshakeState) → shakes ≡ handshake_after (e ∷ h) → (reports : ReportedWindow) → reports ≡ reported_after c (e ∷ h)
    → ((s : Space) → of_space s k.spaces ≡ space_after (e ∷ h) s) → HasParts (record k { handshake = shakes; reported = reports }) c (e ∷ h)
quiet_is c e h quiet sets answers probes recovers free k of shakes handshake reports reported spaces =
    let none : acknowledges_new (e ∷ h) ≡ false = ap is_some_packet (newly-quiet e h quiet) in
    let other = is_pto-quiet e h quiet in
    record {
      header = of.header;
      handshake = handshake;
      rtt = of.rtt ∙ sym (rtt-quiet c e h quiet free);
      reno = of.reno ∙ sym (reno_stays c e h free (newly-quiet e h quiet));
      reported = reported;
      timer = of.timer ∙ sym (timer_stays c e h other (resets_count-quiet c e h quiet) (sets ∙ none) (λ s. answers s ∙ none));
      allowances = of.allowances ∙ sym (allowances_unhit c e h false other probes recovers free);
      spaces = spaces;
    }

-- a Lost line that completes no detection
pub lost_is : (c : Settings) (h : List Event) (time : ℕ) (space : Space) (ranges : List (ℕ × ℕ)) (k : Connection) → declared c (Lost time space ranges ∷ h) ≡ [] → HasParts k c h
    → HasParts k c (Lost time space ranges ∷ h)
lost_is c h time space ranges k free of =
    let e = Lost time space ranges in
    quiet_is c e h refl refl (λ s. refl) refl refl free k of k.handshake of.handshake k.reported (of.reported ∙ sym (reported_stays c e h refl (none_passes (packets h)) (not_persistent c (e ∷ h) free))) of.spaces

-- a Lost line that completes the detection in front of it
pub completed_is : (c : Settings) (h : List Event) (time : ℕ) (space : Space) (ranges : List (ℕ × ℕ)) (k : Connection) (d : Detection) → HasParts k c h → IsProperToleratedRun c (Lost time space ranges ∷ h) → AreInRange c
    → d.mark ≡ event_mark c h → d.before ≡ reno c (before_last h) → d.acknowledged ≡ acknowledged_bytes h
    → HasParts (completed d (last_sent c (declared c (Lost time space ranges ∷ h))) (is_persistent c (Lost time space ranges ∷ h)) k) c (Lost time space ranges ∷ h)
completed_is c h time space ranges k d of run range is_time is_before is_acknowledged =
    let e = Lost time space ranges in
    let long = run.few in
    let last = last_sent c (declared c (e ∷ h)) in
    let are : [] ≡ acknowledged_by c e h = sym (ap (λ ps. map (sent_of c h) (reverse ps)) (none_passes (packets h))) in
    let none : acknowledges_new (e ∷ h) ≡ false = ap is_some_packet (none_passes (packets h)) in
    record {
      header = of.header;
      handshake = of.handshake;
      rtt = rtt_of c e h k.header (is_persistent c (e ∷ h)) k.rtt of.header refl of.rtt;
      reno = reno_of c e h k.header k.reno d.mark [] last (is_persistent c (e ∷ h)) of.header of.reno is_time are refl refl range run.fit.1 (omega (arith, long));
      reported = ap (collapsed_with d.acknowledged (is_persistent c (e ∷ h))) of.reported ∙ reported_found c e h d.acknowledged is_acknowledged refl (none_passes (packets h));
      timer = of.timer ∙ sym (timer_stays c e h refl (resets_count-quiet c e h refl) none (λ s. none));
      allowances = ap (λ b. on_congestion_event b k.allowances) (entry_of c e h d.before last is_before refl) ∙ (ap (on_congestion_event _) of.allowances ∙ sym (allowances_stay c e h refl refl));
      spaces = of.spaces;
    }

-- the handshake is confirmed
pub confirmed_is : (c : Settings) (h : List Event) (time : ℕ) (k : Connection) → HasParts k c h → HasParts (record k { handshake = record k.handshake { confirmed = true } }) c (Confirmed time ∷ h)
confirmed_is c h time k of =
    quiet_is c (Confirmed time) h refl refl (λ s. refl) refl refl refl k of (record k.handshake { confirmed = true }) (ap (λ (x : HandshakeState). record x { confirmed = true }) of.handshake)
    k.reported (of.reported ∙ sym (reported_stays c (Confirmed time) h refl (none_passes (packets h)) refl)) of.spaces

-- keys of the Handshake space are there
pub keys_are : (c : Settings) (h : List Event) (time : ℕ) (k : Connection) → HasParts k c h → HasParts (record k { handshake = record k.handshake { has_keys = true } }) c (Keys time ∷ h)
keys_are c h time k of =
    quiet_is c (Keys time) h refl refl (λ s. refl) refl refl refl k of (record k.handshake { has_keys = true }) (ap (λ (x : HandshakeState). record x { has_keys = true }) of.handshake)
    k.reported (of.reported ∙ sym (reported_stays c (Keys time) h refl (none_passes (packets h)) refl)) of.spaces

-- a report
pub metrics_are : (c : Settings) (h : List Event) (time : ℕ) (values : MetricValues) (k : Connection) → HasParts k c h → HasParts (reported values.window k) c (Metrics time values ∷ h)
metrics_are c h time values k of =
    quiet_is c (Metrics time values) h refl refl (λ s. refl) refl refl refl k of k.handshake of.handshake
    (reporting values.window k.reported) (ap (reporting values.window) of.reported ∙ reported_is c h time values values.window refl) of.spaces
