-- What an event makes of the allowances. What is spent of them stays small, so that 64 bits hold it.
use Rattle.std.proofs.Common.{◌≡◌, ◌≤◌, ◌+◌, ◌*◌, ℕ, List, [], ◌∷◌, length, Bool, true, false, Option, Some, None, option_map, refl, sym, ap, ap₂, arith, ◌∙◌}
use Rattle.std.proofs.lemmas.Bool.{and_parts, leb-true}
use Rattle.std.specs.List.{AllByRecursion}
use Rattle.std.specs.Prelude.{◌&&◌, ◌||◌, not, if◌then◌else◌, nat_le}
use Rattle.qa_base.specs.declared.event.Event.{Event}
use Rattle.qa_base.specs.declared.event.SentPacket.{SentPacket as PacketOfEvent}
use Rattle.qa_base.specs.declared.event.Event.TheVariants.{Sent}
use Rattle.qa_base.specs.declared.space.Permission.{Permission}
use Rattle.qa_base.specs.declared.space.Permission.TheVariants.{Window, Probe, Recovery}
use Rattle.qa_base.specs.machine.Permission.{is_recovery_packet, probe_size, probe_spent, recovery_spent}
use Rattle.qa_base.specs.machine.Loss.{declared}
use Rattle.qa_base.specs.machine.Reno.{is_entry}
use Rattle.qa_base.specs.machine.Timer.{is_pto}
use Rattle.qa_base.specs.values.Events.{is_in_flight_by}
use Rattle.qa_base.specs.machine.Widths.{Fits}
use Rattle.qa_base.specs.values.Settings.{Settings}
use Rattle.qa_base.proofs.machine.Steps.{probe_spent_after, recovery_spent_after}
use Rattle.qa_sender.specs.connection.Spending.{allowances_after, on_congestion_event, spent}
use Rattle.qa_sender.specs.connection.Steps.{capped}
use Rattle.qa_sender.specs.declared.connection.allowances.Allowances.{Allowances}
use Rattle.qa_sender.proofs.connection_lemmas.Entries.{no_entry}

-- what was spent is at most a packet of the greatest size for each event
abbrev IsSmall : List Event → Option ℕ → Type 0
IsSmall h None = Unit {0}
IsSmall h (Some n) = n ≤ 65527 * length h

small_if : (more : ℕ) (e : Event) (h : List Event) (spent : Option ℕ) (reset : Bool) → more ≤ 65527 → IsSmall h spent
    → IsSmall (e ∷ h) (if reset then Some 0 else option_map (λ n. more + n) spent)
small_if more e h spent true few is = omega arith
small_if more e h None false few is = tt
small_if more e h (Some n) false few is = omega (arith, few, is)

size_if : (in_flight : Bool) (size : ℕ) → size ≤ 65527 → (if in_flight then size else 0) ≤ 65527
size_if true size small = small
size_if false size small = omega arith

probe_size_small : (e : Event) (h : List Event) → Fits e → probe_size (e ∷ h) ≤ 65527
probe_size_small (Sent packet) h fit =
    let parts = and_parts (nat_le 1 packet.size && nat_le packet.size 65527) (not packet.eliciting || packet.in_flight) fit in
    size_if (is_in_flight_by Probe packet) packet.size (leb-true packet.size 65527 (and_parts (nat_le 1 packet.size) (nat_le packet.size 65527) parts.0).1)
probe_size_small _ h fit = omega arith

probe_small : (h : List Event) → AllByRecursion Fits h → IsSmall h (probe_spent h)
probe_small [] fit = tt
probe_small (e ∷ h) fit =
    rw (probe_spent_after e h) (small_if (probe_size (e ∷ h)) e h (probe_spent h) (is_pto (e ∷ h)) (probe_size_small e h fit.0) (probe_small h fit.1))

one_small : (b : Bool) → (if b then 1 else 0) ≤ 65527
one_small true = omega arith
one_small false = omega arith

recovery_small : (c : Settings) (h : List Event) → IsSmall h (recovery_spent c h)
recovery_small c [] = tt
recovery_small c (e ∷ h) =
    rw (recovery_spent_after c e h) (small_if _ e h (recovery_spent c h) (is_entry c (e ∷ h)) (one_small (is_recovery_packet (e ∷ h))) (recovery_small c h))

-- nothing is cut off
whole_sum : (more : ℕ) (h : List Event) (spent : Option ℕ) → more ≤ 65527 → length h ≤ 4294967295 → IsSmall h spent
    → option_map (λ n. capped (more + n)) spent ≡ option_map (λ n. more + n) spent
whole_sum more h None few long is = refl
whole_sum more h (Some n) few long is = let whole : capped (more + n) ≡ more + n = omega (arith, few, long, is) in ap Some whole

-- ---- events that send nothing

nothing_more : (spent : Option ℕ) → option_map (λ n. 0 + n) spent ≡ spent
nothing_more None = refl
nothing_more (Some n) = ap Some (omega arith)

probes_stay : (e : Event) (h : List Event) → probe_size (e ∷ h) ≡ 0 → probe_spent (e ∷ h) ≡ (if is_pto (e ∷ h) then Some 0 else probe_spent h)
probes_stay e h none =
    probe_spent_after e h
    ∙ (ap (λ m. if is_pto (e ∷ h) then Some 0 else option_map (λ n. m + n) (probe_spent h)) none
    ∙ ap (λ (o : Option ℕ). if is_pto (e ∷ h) then Some 0 else o) (nothing_more (probe_spent h)))

recovery_stays : (c : Settings) (e : Event) (h : List Event) → is_recovery_packet (e ∷ h) ≡ false
    → recovery_spent c (e ∷ h) ≡ (if is_entry c (e ∷ h) then Some 0 else recovery_spent c h)
recovery_stays c e h none =
    recovery_spent_after c e h
    ∙ (ap (λ b. if is_entry c (e ∷ h) then Some 0 else option_map (λ n. (if b then 1 else 0) + n) (recovery_spent c h)) none
    ∙ ap (λ (o : Option ℕ). if is_entry c (e ∷ h) then Some 0 else o) (nothing_more (recovery_spent c h)))

abbrev allowances_of : Option ℕ → Option ℕ → Allowances
allowances_of probes recovery = record { probe_spent = probes; recovery_spent = recovery }

-- they are those before it, but for a probe timeout and an entry into recovery
pub allowances_stay : (c : Settings) (e : Event) (h : List Event) → probe_size (e ∷ h) ≡ 0 → is_recovery_packet (e ∷ h) ≡ false
    → allowances_after c (e ∷ h) ≡ on_congestion_event (is_entry c (e ∷ h)) (allowances_of (if is_pto (e ∷ h) then Some 0 else probe_spent h) (recovery_spent c h))
allowances_stay c e h no_probe no_recovery = ap₂ allowances_of (probes_stay e h no_probe) (recovery_stays c e h no_recovery)

-- .. and where nothing is lost by it, but for a probe timeout
pub allowances_unhit : (c : Settings) (e : Event) (h : List Event) (pto : Bool) → is_pto (e ∷ h) ≡ pto → probe_size (e ∷ h) ≡ 0 → is_recovery_packet (e ∷ h) ≡ false → declared c (e ∷ h) ≡ []
    → allowances_after c (e ∷ h) ≡ allowances_of (if pto then Some 0 else probe_spent h) (recovery_spent c h)
allowances_unhit c e h pto is no_probe no_recovery free =
    allowances_stay c e h no_probe no_recovery ∙ ap₂ (λ entered b. on_congestion_event entered (allowances_of (if b then Some 0 else probe_spent h) (recovery_spent c h))) (no_entry c e h free) is

-- ---- a packet

same_if : (b : Bool) (a : Allowances) → (if b then a else a) ≡ a
same_if true a = refl
same_if false a = refl

-- a packet that is in flight or not, by this leave
abbrev sent_so : PacketOfEvent → Bool → Permission → Event
sent_so packet in_flight permission = Sent (record packet { in_flight = in_flight; permission = permission })

allowances_by : (c : Settings) (h : List Event) (packet : PacketOfEvent) (in_flight : Bool) (permission : Permission)
    → AllByRecursion Fits (sent_so packet in_flight permission ∷ h) → length h ≤ 4294967295
    → (if in_flight then spent permission packet.size (allowances_after c h) else allowances_after c h) ≡ allowances_after c (sent_so packet in_flight permission ∷ h)
allowances_by c h packet true Probe fit few =
    let e = sent_so packet true Probe in
    ap₂ allowances_of (whole_sum packet.size h (probe_spent h) (probe_size_small e h fit.0) few (probe_small h fit.1) ∙ sym (probe_spent_after e h))
    (sym (recovery_stays c e h refl ∙ ap (λ b. if b then Some 0 else recovery_spent c h) (no_entry c e h refl)))
allowances_by c h packet true Recovery fit few =
    let e = sent_so packet true Recovery in
    ap₂ allowances_of (sym (probes_stay e h refl))
    (whole_sum 1 h (recovery_spent c h) (omega arith) few (recovery_small c h)
    ∙ sym (recovery_spent_after c e h ∙ ap (λ b. if b then Some 0 else option_map (λ n. 1 + n) (recovery_spent c h)) (no_entry c e h refl)))
allowances_by c h packet false Probe fit few = sym (allowances_unhit c (sent_so packet false Probe) h false refl refl refl refl)
allowances_by c h packet false Recovery fit few = sym (allowances_unhit c (sent_so packet false Recovery) h false refl refl refl refl)
allowances_by c h packet in_flight Window fit few =
    same_if in_flight (allowances_after c h) ∙ sym (allowances_unhit c (sent_so packet in_flight Window) h false refl refl refl refl)

pub allowances_sent : (c : Settings) (h : List Event) (packet : PacketOfEvent) → AllByRecursion Fits (Sent packet ∷ h) → length h ≤ 4294967295
    → (if packet.in_flight then spent packet.permission packet.size (allowances_after c h) else allowances_after c h) ≡ allowances_after c (Sent packet ∷ h)
allowances_sent c h packet = allowances_by c h packet packet.in_flight packet.permission
