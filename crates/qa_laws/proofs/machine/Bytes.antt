-- What each kind of event makes of the bytes in flight.
use Rattle.qa_base.proofs.machine.Declared.{same_filter}
use Rattle.std.proofs.lemmas.Bool.{and_right}
use Rattle.qa_base.specs.history.Declared.{named_free, is_named_free}
use Rattle.std.proofs.Common.{◌≡◌, ◌+◌, ℕ, List, [], ◌∷◌, length, true, false, ap, arith, sum_by, filter, ◌∙◌, refl}
use Rattle.qa_base.specs.declared.event.Event.{Event}
use Rattle.qa_base.specs.declared.event.Ack.{Ack as Acknowledgment}
use Rattle.qa_base.specs.declared.event.Event.TheVariants.{Ack, Timer, Discard}
use Rattle.qa_base.specs.declared.space.TimerKind.{TimerKind}
use Rattle.qa_base.specs.declared.space.Space.{Space}
use Rattle.qa_base.specs.values.Events.{is_quiet, declares_lost}
use Rattle.qa_base.specs.machine.Loss.{owed, bytes_in_flight, is_free}
use Rattle.qa_base.specs.machine.Packets.{Packet, packets, packet_of, newly_acknowledged}
use Rattle.qa_base.specs.machine.Rules.{IsRun}
use Rattle.qa_base.specs.values.Settings.{Settings}
use Rattle.qa_base.specs.history.Sums.{discarded, bytes}
use Rattle.qa_base.proofs.history.Closing.{bytes_in_flight_is, open_sum_after}
use Rattle.qa_base.proofs.machine.Quiet.{none_passes, newly-quiet, owed-quiet}
use Rattle.qa_base.proofs.machine.RunLaws.{tolerated_run_of}

pub none_weigh : (weight : Packet → ℕ) (ps : List Packet) → sum_by weight (filter (λ p. false) ps) ≡ 0
none_weigh weight ps = ap (sum_by weight) (none_passes ps)

-- only a Lost line names what is free
pub names_nothing : (c : Settings) (e : Event) (h : List Event) → ((p : Packet) → declares_lost p.space p.number e ≡ false) → named_free c e h ≡ []
names_nothing c e h none =
    same_filter (is_named_free c e h) (λ p. false) (packets h) (λ p. and_right (is_free c h p) (declares_lost p.space p.number e) (none p)) ∙ none_passes (packets h)

-- an acknowledgment takes off what it newly acknowledges and what it finds lost
pub bytes-ack : (c : Settings) (h : List Event) (ack : Acknowledgment) → IsRun c (Ack ack ∷ h)
    → bytes_in_flight c (Ack ack ∷ h)
    + (sum_by bytes (newly_acknowledged (Ack ack ∷ h)) + sum_by bytes (owed c (Ack ack ∷ h))) ≡ bytes_in_flight c h
bytes-ack c h ack run =
    let e = Ack ack in
    let all = open_sum_after bytes c e h (tolerated_run_of c (e ∷ h) run) in
    let none : sum_by bytes (discarded c e h) ≡ 0 = none_weigh bytes (packets h) in
    let unnamed : sum_by bytes (named_free c e h) ≡ 0 = ap (sum_by bytes) (names_nothing c e h (λ p. refl)) in
    let before = bytes_in_flight_is c h in
    let after = bytes_in_flight_is c (e ∷ h) in
    omega (arith, all, none, unnamed, before, after)

-- a timer what it finds lost
pub bytes-timer : (c : Settings) (h : List Event) (time : ℕ) (kind : TimerKind) (space : Space) → IsRun c (Timer time kind space ∷ h)
    → bytes_in_flight c (Timer time kind space ∷ h) + sum_by bytes (owed c (Timer time kind space ∷ h)) ≡ bytes_in_flight c h
bytes-timer c h time kind space run =
    let e = Timer time kind space in
    let all = open_sum_after bytes c e h (tolerated_run_of c (e ∷ h) run) in
    let none : sum_by bytes (discarded c e h) ≡ 0 = none_weigh bytes (packets h) in
    let nothing : sum_by bytes (newly_acknowledged (e ∷ h)) ≡ 0 = none_weigh bytes (packets h) in
    let unnamed : sum_by bytes (named_free c e h) ≡ 0 = ap (sum_by bytes) (names_nothing c e h (λ p. refl)) in
    let before = bytes_in_flight_is c h in
    let after = bytes_in_flight_is c (e ∷ h) in
    omega (arith, all, none, nothing, unnamed, before, after)

-- a discard what was open in its space
pub bytes-discard : (c : Settings) (h : List Event) (time : ℕ) (space : Space) → IsRun c (Discard time space ∷ h)
    → bytes_in_flight c (Discard time space ∷ h) + sum_by bytes (discarded c (Discard time space) h) ≡ bytes_in_flight c h
bytes-discard c h time space run =
    let e = Discard time space in
    let all = open_sum_after bytes c e h (tolerated_run_of c (e ∷ h) run) in
    let nothing : sum_by bytes (newly_acknowledged (e ∷ h)) ≡ 0 = none_weigh bytes (packets h) in
    let unnamed : sum_by bytes (named_free c e h) ≡ 0 = ap (sum_by bytes) (names_nothing c e h (λ p. refl)) in
    let before = bytes_in_flight_is c h in
    let after = bytes_in_flight_is c (e ∷ h) in
    omega (arith, all, nothing, unnamed, before, after)

discarded-quiet : (c : Settings) (e : Event) (h : List Event) → is_quiet e ≡ true → discarded c e h ≡ []
discarded-quiet c (Ack ack) h quiet = cc
discarded-quiet c (Timer time kind space) h quiet = cc
discarded-quiet c (Discard time space) h quiet = cc
discarded-quiet c _ h quiet = none_passes (packets h)

-- a quiet event adds the packet that it sends, where it sends one, and takes off what it names of the free
pub bytes-quiet : (c : Settings) (e : Event) (h : List Event) → IsRun c (e ∷ h) → is_quiet e ≡ true
    → bytes_in_flight c (e ∷ h) + sum_by bytes (named_free c e h) ≡ bytes_in_flight c h + sum_by bytes (packet_of (length h) e)
bytes-quiet c e h run quiet =
    let all = open_sum_after bytes c e h (tolerated_run_of c (e ∷ h) run) in
    let nothing : sum_by bytes (newly_acknowledged (e ∷ h)) ≡ 0 = ap (sum_by bytes) (newly-quiet e h quiet) in
    let none : sum_by bytes (owed c (e ∷ h)) ≡ 0 = ap (sum_by bytes) (owed-quiet c e h quiet) in
    let there : sum_by bytes (discarded c e h) ≡ 0 = ap (sum_by bytes) (discarded-quiet c e h quiet) in
    let before = bytes_in_flight_is c h in
    let after = bytes_in_flight_is c (e ∷ h) in
    omega (arith, all, nothing, none, there, before, after)
