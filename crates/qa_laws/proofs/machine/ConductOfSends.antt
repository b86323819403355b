-- What a run sends stays within the window, or has its leave.
use Rattle.std.proofs.Common.{◌≡◌, ◌∙◌, ◌+◌, ◌*◌, ◌<◌, ◌≤◌, ℕ, List, [], ◌∷◌, ◌++◌, Bool, true, false, cond, ◌&&◌, ◌||◌, not, Some, None, refl, sym, ap, arith, sum_by, count_by}
use Rattle.std.proofs.lemmas.Bool.{both_ways, leb-false, ltb-false, or_parts}
use Rattle.std.proofs.lemmas.List.Sums.{sum_by-cons}
use Rattle.std.specs.List.{list_any}
use Rattle.std.specs.Prelude.{if◌then◌else◌}
use Rattle.qa_base.specs.declared.event.Event.{Event}
use Rattle.qa_base.specs.declared.event.Event.TheVariants.{Sent, Timer}
use Rattle.qa_base.specs.declared.event.SentPacket.{SentPacket}
use Rattle.qa_base.specs.declared.space.TimerKind.TheVariants.{Loss, Pto}
use Rattle.qa_base.specs.declared.space.Permission.{Permission}
use Rattle.qa_base.specs.declared.space.Permission.TheVariants.{Window, Probe, Recovery}
use Rattle.qa_base.specs.values.Events.{is_in_flight_by}
use Rattle.qa_base.specs.machine.Breaches.{is_over, is_past}
use Rattle.qa_laws.specs.machine.Conduct.{is_pto_event, is_probe, probe_bytes, is_recovery, HasMoment, IsAmong, HasPermission, HasOvershoot}
use Rattle.qa_base.specs.machine.Permission.{probe_size, is_recovery_packet}
use Rattle.qa_base.specs.machine.Loss.{owed, bytes_in_flight}
use Rattle.qa_base.specs.machine.Moments.{moments, since}
use Rattle.qa_base.specs.machine.Packets.{is_discarded}
use Rattle.qa_base.specs.machine.Reno.{is_entry}
use Rattle.qa_base.specs.machine.Rules.{IsRun}
use Rattle.qa_base.specs.machine.Window.{window}
use Rattle.qa_base.specs.values.Settings.{Settings}
use Rattle.qa_base.specs.machine.Timer.{is_pto}
use Rattle.qa_format.proofs.verdicts.Accepted.{no_packet}
use Rattle.qa_base.proofs.machine.Quiet.{bytes_in_flight-sent, moves_of_last-quiet, moves-quiet}
use Rattle.qa_base.proofs.machine.RunLaws.{all_hold}
use Rattle.qa_base.proofs.machine.Steps.{sum_since}

-- ---- the window

fits_window : (flies gone : Bool) (flight size window : ℕ) → flight + size ≤ window → flight + (if flies && not gone then size else 0) ≤ window
fits_window true true flight size window le = omega (arith, le)
fits_window true false flight size window le = le
fits_window false gone flight size window le = omega (arith, le)

-- what is forbidden to packets that are sent so does not hold of one that is
forbidden : (sent_so breaks : Bool) → sent_so ≡ true → (sent_so && breaks) ≡ false → breaks ≡ false
forbidden true breaks so kept = kept
forbidden false breaks so kept = cc

not_past : (window bytes size : ℕ) (overshoot : Bool) → overshoot ≡ false → is_past overshoot window bytes size ≡ false → bytes + size ≤ window
not_past window bytes size true within is = cc
not_past window bytes size false within is = ltb-false window (bytes + size) is

not_full : (window bytes size : ℕ) (overshoot : Bool) → overshoot ≡ true → is_past overshoot window bytes size ≡ false → bytes < window
not_full window bytes size true allowed is = leb-false window bytes is
not_full window bytes size false allowed is = cc

not_past_window : (c : Settings) (h : List Event) (packet : SentPacket) → is_in_flight_by Window packet ≡ true → IsRun c (Sent packet ∷ h)
    → is_past c.options.window_overshoot (window c h) (bytes_in_flight c h) packet.size ≡ false
not_past_window c h packet so run = forbidden (is_in_flight_by Window packet) _ so (all_hold c h (Sent packet) run.1).past_window

-- in a run, before an in-flight packet that is sent by leave of the window, the bytes in flight are below the window
pub below_window : (c : Settings) (h : List Event) (packet : SentPacket) → is_in_flight_by Window packet ≡ true → c.options.window_overshoot ≡ true
    → IsRun c (Sent packet ∷ h) → bytes_in_flight c h < window c h
below_window c h packet so allowed run =
    not_full (window c h) (bytes_in_flight c h) packet.size c.options.window_overshoot allowed (not_past_window c h packet so run)

-- the leave of a packet that the window has no room for
window_permission : (c : Settings) (h : List Event) (size : ℕ) (overshoot : Bool) → c.options.window_overshoot ≡ overshoot → is_past overshoot (window c h) (bytes_in_flight c h) size ≡ false
    → window c h < bytes_in_flight c h + size → HasOvershoot c h
window_permission c h size true is kept past = record { allowed = is; room = leb-false (window c h) (bytes_in_flight c h) kept }
window_permission c h size false is kept past = let le = ltb-false (window c h) (bytes_in_flight c h + size) kept in absurd (omega (arith, le, past))

-- in a run, after an in-flight packet that is sent by leave of the window, the bytes in flight are within the window, unless it may be overshot
pub within_window : (c : Settings) (h : List Event) (packet : SentPacket) → is_in_flight_by Window packet ≡ true → c.options.window_overshoot ≡ false → IsRun c (Sent packet ∷ h)
    → bytes_in_flight c (Sent packet ∷ h) ≤ window c (Sent packet ∷ h)
within_window c h packet so within run =
    let e = Sent packet in
    let holds = all_hold c h e run.1 in
    let none = no_packet (owed c h) holds.loss_owed in
    let le = not_past (window c h) (bytes_in_flight c h) packet.size c.options.window_overshoot within (not_past_window c h packet so run) in
    let bytes = bytes_in_flight-sent c h packet none in
    let same : window c (e ∷ h) ≡ window c h = rw (moves-quiet c e h refl) refl in
    let within = fits_window packet.in_flight (is_discarded h packet.space) (bytes_in_flight c h) packet.size (window c h) le in
    rw (bytes, same) within

-- ---- since the last moment that passes a test

-- none of these events, which come after a history, is the last of a moment that passes the test
abbrev NonePasses : (List Event → Bool) → List Event → List Event → Type 0
NonePasses test [] h = Unit {0}
NonePasses test (e ∷ events) h = (test (e ∷ events ++ h) ≡ false) × NonePasses test events h

-- the events since the last moment that passes the test, and a sum over them
abbrev SinceLast : (List Event → Bool) → (Event → ℕ) → List Event → ℕ → Type 0
SinceLast test own h n =
    (later : List Event) × (event : Event) × (before : List Event)
    × (h ≡ later ++ event ∷ before) × (test (event ∷ before) ≡ true) × NonePasses test later (event ∷ before) × (n ≡ sum_by own later)

since_if : (test : List Event → Bool) (weight : List Event → ℕ) (own : Event → ℕ) (e : Event) (h : List Event) (here : Bool) → ((e : Event) (h : List Event) → weight (e ∷ h) ≡ own e)
    → test (e ∷ h) ≡ here → (here || list_any test (moments h)) ≡ true → (list_any test (moments h) ≡ true → SinceLast test own h (sum_by weight (since test h)))
    → SinceLast test own (e ∷ h) (sum_by weight (since test (e ∷ h)))
since_if test weight own e h true same is some rest = ([], e, h, refl, is, tt, sum_since test weight e h ∙ rw is refl)
since_if test weight own e h false same is some rest =
    let found = rest some in (
      e ∷ found.0,
      found.1,
      found.2,
      ap (λ k. e ∷ k) found.3,
      found.4,
      (rw (← found.3) is, found.5),
      sum_since test weight e h ∙ (rw is (rw (same e h, found.6) refl) ∙ sym (sum_by-cons own e found.0)),
    )

since_last : (test : List Event → Bool) (weight : List Event → ℕ) (own : Event → ℕ) → ((e : Event) (h : List Event) → weight (e ∷ h) ≡ own e)
    → (h : List Event) → list_any test (moments h) ≡ true → SinceLast test own h (sum_by weight (since test h))
since_last test weight own same [] some = cc
since_last test weight own same (e ∷ h) some =
    since_if test weight own e h (test (e ∷ h)) same refl some (since_last test weight own same h)

over_not : (allowance more : ℕ) (ever : Bool) (spent : ℕ) → is_over allowance more (if ever then Some spent else None) ≡ false → (ever ≡ true) × (spent + more ≤ allowance)
over_not allowance more true spent is = (refl, ltb-false allowance (spent + more) is)
over_not allowance more false spent is = cc

-- ---- probes

pto_is : (e : Event) (h : List Event) → is_pto (e ∷ h) ≡ is_pto_event e
pto_is (Timer time Pto space) h = refl
pto_is (Timer time Loss space) h = refl
pto_is _ h = refl

probe_is : (e : Event) (h : List Event) → probe_size (e ∷ h) ≡ probe_bytes e
probe_is (Sent packet) h = refl
probe_is _ h = refl

no_pto : (events h : List Event) → NonePasses is_pto events h → list_any is_pto_event events ≡ false
no_pto [] h none = refl
no_pto (e ∷ events) h none = rw (sym (pto_is e (events ++ h)) ∙ none.0) (no_pto events h none.1)

-- before a probe that a run sends there was a probe timeout, and the probes since leave room for its bytes
probe_spent_before : (c : Settings) (h : List Event) (packet : SentPacket) → is_in_flight_by Probe packet ≡ true → IsRun c (Sent packet ∷ h)
    → (list_any is_pto (moments h) ≡ true) × (sum_by probe_size (since is_pto h) + packet.size ≤ 2 * c.max_datagram_size)
probe_spent_before c h packet so run =
    over_not (2 * c.max_datagram_size) packet.size (list_any is_pto (moments h)) (sum_by probe_size (since is_pto h))
    (forbidden (is_in_flight_by Probe packet) _ so (all_hold c h (Sent packet) run.1).past_probe)

-- the leave of a probe
probe_permission : (c : Settings) (h : List Event) (packet : SentPacket) → is_in_flight_by Probe packet ≡ true → IsRun c (Sent packet ∷ h) → HasPermission c h packet.size Probe
probe_permission c h packet so run =
    let spent = probe_spent_before c h packet so run in
    let found = since_last is_pto probe_size probe_bytes probe_is h spent.0 in
    record {
      since = found.0;
      timeout = found.1;
      before = found.2;
      stands = found.3;
      times_out = sym (pto_is found.1 found.2) ∙ found.4;
      last = no_pto found.0 (found.1 ∷ found.2) found.5;
      within = rw (← found.6) spent.1;
    }

-- ---- recovery

recovery_is : (e : Event) (h : List Event) → is_recovery_packet (e ∷ h) ≡ is_recovery e
recovery_is (Sent packet) h = refl
recovery_is _ h = refl

counted_is : (e : Event) (h : List Event) → ◌≡◌ {A = ℕ} (cond (is_recovery_packet (e ∷ h)) 1 0) (cond (is_recovery e) 1 0)
counted_is e h = ap {B = ℕ} (λ b. cond b 1 0) (recovery_is e h)

none_counted : (events : List Event) → sum_by (λ e. cond (is_recovery e) 1 0) events ≡ 0 → list_any is_recovery events ≡ false
none_counted [] none = refl
none_counted (e ∷ events) none = none_if e events (is_recovery e) refl (sym (sum_by-cons (λ e. cond (is_recovery e) 1 0) e events) ∙ none) (none_counted events)
  where
    none_if : (e : Event) (events : List Event) (here : Bool) → is_recovery e ≡ here → cond (is_recovery e) 1 0 + sum_by (λ e. cond (is_recovery e) 1 0) events ≡ 0
        → (sum_by (λ e. cond (is_recovery e) 1 0) events ≡ 0 → list_any is_recovery events ≡ false) → (is_recovery e || list_any is_recovery events) ≡ false
    none_if e events true is none rest = let some : 1 + sum_by (λ e. cond (is_recovery e) 1 0) events ≡ 0 = rw is at none in absurd (omega (arith, some))
    none_if e events false is none rest = let more : 0 + sum_by (λ e. cond (is_recovery e) 1 0) events ≡ 0 = rw is at none in rw is (rest (omega (arith, more)))

-- before a packet for recovery that a run sends there was an entry, and no such packet since
recovery_spent_before : (c : Settings) (h : List Event) (packet : SentPacket) → is_in_flight_by Recovery packet ≡ true → IsRun c (Sent packet ∷ h)
    → (list_any (is_entry c) (moments h) ≡ true) × (count_by is_recovery_packet (since (is_entry c) h) + 1 ≤ 1)
recovery_spent_before c h packet so run =
    over_not 1 1 (list_any (is_entry c) (moments h)) (count_by is_recovery_packet (since (is_entry c) h))
    (forbidden (is_in_flight_by Recovery packet) _ so (all_hold c h (Sent packet) run.1).past_recovery)

recovery_permission : (c : Settings) (h : List Event) (packet : SentPacket) → is_in_flight_by Recovery packet ≡ true → IsRun c (Sent packet ∷ h) → HasPermission c h packet.size Recovery
recovery_permission c h packet so run =
    let spent = recovery_spent_before c h packet so run in
    let found = since_last (is_entry c) (λ m. cond (is_recovery_packet m) 1 0) (λ e. cond (is_recovery e) 1 0) counted_is h spent.0 in
    record {
      since = found.0;
      entry = found.1;
      before = found.2;
      stands = found.3;
      enters = found.4;
      unused = none_counted found.0 (omega (arith, spent.1, found.6));
    }

permission_for : (c : Settings) (h : List Event) (packet : SentPacket) (permission : Permission) → packet.permission ≡ permission → packet.in_flight ≡ true
    → IsRun c (Sent packet ∷ h) → window c h < bytes_in_flight c h + packet.size → HasPermission c h packet.size permission
permission_for c h packet Window is flies run past =
    window_permission c h packet.size c.options.window_overshoot refl (not_past_window c h packet (rw (is, flies) refl) run) past
permission_for c h packet Probe is flies run past = probe_permission c h packet (rw (is, flies) refl) run
permission_for c h packet Recovery is flies run past = recovery_permission c h packet (rw (is, flies) refl) run

-- in a run an in-flight packet that takes the bytes in flight past the window has its leave
pub past_window_by_permission : (c : Settings) (h : List Event) (packet : SentPacket) → packet.in_flight ≡ true
    → IsRun c (Sent packet ∷ h) → window c h < bytes_in_flight c h + packet.size → HasPermission c h packet.size packet.permission
past_window_by_permission c h packet flies run past = permission_for c h packet packet.permission refl flies run past

-- ---- between two probe timeouts, and before the first

sent_step : (c : Settings) (packet : SentPacket) (h : List Event) (here : Bool) → is_in_flight_by Probe packet ≡ here → IsRun c (Sent packet ∷ h)
    → sum_by probe_size (since is_pto h) ≤ 2 * c.max_datagram_size → (if here then packet.size else 0) + sum_by probe_size (since is_pto h) ≤ 2 * c.max_datagram_size
sent_step c packet h true so run before = let spent = probe_spent_before c h packet so run in omega (arith, spent.1)
sent_step c packet h false so run before = omega (arith, before)

probe_step : (c : Settings) (e : Event) (h : List Event) → IsRun c (e ∷ h) → sum_by probe_size (since is_pto h) ≤ 2 * c.max_datagram_size
    → probe_size (e ∷ h) + sum_by probe_size (since is_pto h) ≤ 2 * c.max_datagram_size
probe_step c (Sent packet) h run before = sent_step c packet h (is_in_flight_by Probe packet) refl run before
probe_step c _ h run before = omega (arith, before)

unless_pto : (here : Bool) (n limit : ℕ) → n ≤ limit → (if here then 0 else n) ≤ limit
unless_pto true n limit le = omega arith
unless_pto false n limit le = le

probes_spent : (c : Settings) (h : List Event) → IsRun c h → sum_by probe_size (since is_pto h) ≤ 2 * c.max_datagram_size
probes_spent c [] run = omega arith
probes_spent c (e ∷ h) run =
    rw (sum_since is_pto probe_size e h)
    (unless_pto (is_pto (e ∷ h)) (probe_size (e ∷ h) + sum_by probe_size (since is_pto h)) (2 * c.max_datagram_size) (probe_step c e h run (probes_spent c h run.0)))

part_of_spent : (events h : List Event) → list_any is_pto_event events ≡ false → sum_by probe_bytes events ≤ sum_by probe_size (since is_pto (events ++ h))
part_of_spent [] h none = omega arith
part_of_spent (e ∷ events) h none =
    let both = or_parts (is_pto_event e) (list_any is_pto_event events) none in
    let rest = part_of_spent events h both.1 in
    let no : is_pto (e ∷ events ++ h) ≡ false = pto_is e (events ++ h) ∙ both.0 in
    let sum : sum_by probe_size (since is_pto (e ∷ events ++ h)) ≡ probe_size (e ∷ events ++ h) + sum_by probe_size (since is_pto (events ++ h)) =
    sum_since is_pto probe_size e (events ++ h) ∙ rw no refl in
    let own : sum_by probe_bytes (e ∷ events) ≡ probe_bytes e + sum_by probe_bytes events = sum_by-cons probe_bytes e events in
    let same : probe_size (e ∷ events ++ h) ≡ probe_bytes e = probe_is e (events ++ h) in
    omega (arith, rest, sum, own, same)

-- in a run the probes between two probe timeouts have two datagrams' bytes at most
pub probes_between : (c : Settings) (between h : List Event) → IsRun c (between ++ h) → list_any is_pto_event between ≡ false → sum_by probe_bytes between ≤ 2 * c.max_datagram_size
probes_between c between h run none =
    let part = part_of_spent between h none in
    let all = probes_spent c (between ++ h) run in
    omega (arith, part, all)

never_pto : (h : List Event) → list_any is_pto_event h ≡ false → list_any is_pto (moments h) ≡ false
never_pto [] none = refl
never_pto (e ∷ h) none =
    let both = or_parts (is_pto_event e) (list_any is_pto_event h) none in
    rw (pto_is e h ∙ both.0) (never_pto h both.1)

not_sent_so : (c : Settings) (packet : SentPacket) (h : List Event) (here : Bool) → is_in_flight_by Probe packet ≡ here → IsRun c (Sent packet ∷ h)
    → list_any is_pto (moments h) ≡ false → here ≡ false
not_sent_so c packet h true so run none = absurd (both_ways (list_any is_pto (moments h)) none (probe_spent_before c h packet so run).0)
not_sent_so c packet h false so run none = refl

not_a_probe : (c : Settings) (e : Event) (h : List Event) → IsRun c (e ∷ h) → list_any is_pto (moments h) ≡ false → is_probe e ≡ false
not_a_probe c (Sent packet) h run none = not_sent_so c packet h (is_in_flight_by Probe packet) refl run none
not_a_probe c _ h run none = refl

-- in a run no in-flight packet is marked as a probe before the first probe timeout
pub no_probe_before : (c : Settings) (h : List Event) → IsRun c h → list_any is_pto_event h ≡ false → list_any is_probe h ≡ false
no_probe_before c [] run none = refl
no_probe_before c (e ∷ h) run none =
    let both = or_parts (is_pto_event e) (list_any is_pto_event h) none in
    rw (not_a_probe c e h run (never_pto h both.1)) (no_probe_before c h run.0 both.1)

-- ---- between two entries into recovery, and before the first

recovery_spent_none : (c : Settings) (e : Event) (h : List Event) → IsRun c (e ∷ h) → is_recovery e ≡ true
    → (list_any (is_entry c) (moments h) ≡ true) × (count_by is_recovery_packet (since (is_entry c) h) ≡ 0)
recovery_spent_none c (Sent packet) h run is = let spent = recovery_spent_before c h packet is run in (spent.0, (omega (arith, spent.1)))
recovery_spent_none c _ h run is = cc

-- in a run each in-flight packet that is marked for recovery has an entry before it
pub entry_before : (c : Settings) (e : Event) (h : List Event) → IsRun c (e ∷ h) → is_recovery e ≡ true → HasMoment (is_entry c) h
entry_before c e h run is =
    let found = since_last (is_entry c) (λ m. cond (is_recovery_packet m) 1 0) (λ e. cond (is_recovery e) 1 0) counted_is h (recovery_spent_none c e h run is).0 in
    record { later = found.0; event = found.1; before = found.2; stands = found.3; passes = found.4 }

no_entry : (c : Settings) (f : Event) (h : List Event) → is_recovery f ≡ true → is_entry c (f ∷ h) ≡ false
no_entry c (Sent packet) h is = rw (moves_of_last-quiet c (Sent packet) h refl) refl
no_entry c _ h is = cc

push : (d : Event) (events others : List Event) → events ≡ others → d ∷ events ≡ d ∷ others
push d events others same = ap (λ k. d ∷ k) same

among_if : (test : List Event → Bool) (weight : List Event → ℕ) (d : Event) (events h : List Event) (here : Bool) → test (d ∷ events ++ h) ≡ here
    → sum_by weight (since test (d ∷ events ++ h)) ≡ 0 → (sum_by weight (since test (events ++ h)) ≡ 0 → IsAmong test events h) → IsAmong test (d ∷ events) h
among_if test weight d events h true is none rest = record { later = []; event = d; earlier = events; stands = refl; passes = is }
among_if test weight d events h false is none rest =
    let sum : sum_by weight (since test (d ∷ events ++ h)) ≡ weight (d ∷ events ++ h) + sum_by weight (since test (events ++ h)) =
    sum_since test weight d (events ++ h) ∙ rw is refl in
    let found = rest (omega (arith, sum, none)) in
    record { later = d ∷ found.later; event = found.event; earlier = found.earlier; stands = push d events (found.later ++ found.event ∷ found.earlier) found.stands; passes = found.passes }

among : (test : List Event → Bool) (weight : List Event → ℕ) (events : List Event) (f : Event) (h : List Event) → test (f ∷ h) ≡ false → 0 < weight (f ∷ h)
    → sum_by weight (since test (events ++ f ∷ h)) ≡ 0 → IsAmong test events (f ∷ h)
among test weight [] f h not some none =
    let sum : sum_by weight (since test (f ∷ h)) ≡ weight (f ∷ h) + sum_by weight (since test h) = sum_since test weight f h ∙ rw not refl in
    absurd (omega (arith, sum, some, none))
among test weight (d ∷ events) f h not some none =
    among_if test weight d events (f ∷ h) (test (d ∷ events ++ f ∷ h)) refl none (λ rest. among test weight events f h not some rest)

counts_one : (e : Event) (h : List Event) → is_recovery e ≡ true → 0 < cond (is_recovery_packet (e ∷ h)) 1 0
counts_one e h is = rw (recovery_is e h ∙ is) (omega arith)

-- in a run, of two in-flight packets that are marked for recovery, an entry stands between
pub entry_between : (c : Settings) (e f : Event) (between h : List Event) → IsRun c (e ∷ between ++ f ∷ h) → is_recovery e ≡ true → is_recovery f ≡ true
    → IsAmong (is_entry c) between (f ∷ h)
entry_between c e f between h run is_e is_f =
    among (is_entry c) (λ m. cond (is_recovery_packet m) 1 0) between f h (no_entry c f h is_f) (counts_one f h is_f)
    (recovery_spent_none c e (between ++ f ∷ h) run is_e).1
