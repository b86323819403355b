-- How many packets are still of use after one more event.
use Rattle.qa_laws.proofs.machine.Bytes.{names_nothing}
use Rattle.qa_base.specs.history.Declared.{is_named_free, named_free}
use Rattle.std.proofs.Common.{◌≡◌, ◌∙◌, ◌≤◌, ◌+◌, List, [], ◌∷◌, ◌++◌, length, Bool, true, false, ◌||◌, refl, sym, ap, arith, subst, reverse, Contains, append_assoc}
use Rattle.std.proofs.lemmas.Bool.{and_parts, or_left, or_from, or_parts, both_ways, false_from_ne_true}
use Rattle.std.proofs.lemmas.List.{length-append}
use Rattle.std.proofs.lemmas.List.Elements.{Contains-append_left, Contains-append_right}
use Rattle.std.specs.List.{AllByRecursion}
use Rattle.std.specs.Prelude.{if◌then◌else◌}
use Rattle.qa_base.specs.declared.event.Event.{Event}
use Rattle.qa_base.specs.declared.event.SentPacket.{SentPacket}
use Rattle.qa_base.specs.declared.event.Event.TheVariants.{Sent, Ack, Timer, Discard}
use Rattle.qa_base.specs.machine.Kept.{is_kept, kept_count}
use Rattle.qa_base.specs.machine.Loss.{is_open, is_owed, owed}
use Rattle.qa_base.specs.machine.Packets.{Packet, packets, packet_of, is_some_packet, is_newly_acknowledged, packet_at}
use Rattle.qa_base.specs.machine.Rules.{IsRun}
use Rattle.qa_base.specs.values.Events.{is_quiet}
use Rattle.qa_base.specs.values.Settings.{Settings}
use Rattle.qa_base.proofs.machine.RunLaws.{all_hold, tolerated_run_of}
use Rattle.qa_base.proofs.machine.WindowBound.{each_append}
use Rattle.qa_base.specs.history.Parts.{AreDropped, BeginsKept}
use Rattle.qa_base.specs.history.Sums.{is_discarded_by}
use Rattle.qa_laws.specs.machine.Useful.{from_first}
use Rattle.qa_base.proofs.history.Changes.{not_owed_now, owed_was_flying}
use Rattle.qa_base.proofs.history.Closing.{sent_is_open}
use Rattle.qa_base.proofs.history.KeptCount.{kept_count_is}
use Rattle.qa_base.proofs.history.Pairs.{at_one, of_each, turned, has_first, part_has}
use Rattle.qa_laws.proofs.machine.Passing.{stays_open}
use Rattle.qa_base.proofs.history.Settled.{closed_stays, has_some}
use Rattle.qa_base.proofs.history.Walks.{turned_has}

-- ---- the walk

-- a front of packets that do not pass, and the rest
abbrev IsBehind : (Packet → Bool) → List Packet → List Packet → Type 0
IsBehind test ps rest = (front : List Packet) × (ps ≡ front ++ rest) × AllByRecursion (λ p. test p ≡ false) front

behind_step : (test : Packet → Bool) (p : Packet) (ps : List Packet) (b : Bool) → test p ≡ b → IsBehind test ps (from_first test ps)
    → IsBehind test (p ∷ ps) (if b then p ∷ ps else from_first test ps)
behind_step test p ps true is rest = ([], refl, tt)
behind_step test p ps false is rest = (p ∷ rest.0, ap (λ (qs : List Packet). p ∷ qs) rest.1, (is, rest.2))

behind : (test : Packet → Bool) (ps : List Packet) → IsBehind test ps (from_first test ps)
behind test [] = ([], refl, tt)
behind test (p ∷ ps) = behind_step test p ps (test p) refl (behind test ps)

begins_step : (c : Settings) (h : List Event) (p : Packet) (ps rest : List Packet) (b : Bool) → is_kept c h p ≡ b → BeginsKept c h rest → BeginsKept c h (if b then p ∷ ps else rest)
begins_step c h p ps rest true is begins = is
begins_step c h p ps rest false is begins = begins

begins : (c : Settings) (h : List Event) (ps : List Packet) → BeginsKept c h (from_first (is_kept c h) ps)
begins c h [] = tt
begins c h (p ∷ ps) = begins_step c h p ps (from_first (is_kept c h) ps) (is_kept c h p) refl (begins c h ps)

fewer_step : (p : Packet) (ps rest : List Packet) (b : Bool) → length rest ≤ length ps → length (if b then p ∷ ps else rest) ≤ length (p ∷ ps)
fewer_step p ps rest true le = omega arith
fewer_step p ps rest false le = omega arith

fewer : (test : Packet → Bool) (ps : List Packet) → length (from_first test ps) ≤ length ps
fewer test [] = omega arith
fewer test (p ∷ ps) = fewer_step p ps (from_first test ps) (test p) (fewer test ps)

-- behind a front of which nothing is of use, the walk finds what is
pub kept_behind : (c : Settings) (h : List Event) (gone kept : List Packet) → reverse (packets h) ≡ gone ++ kept → AreDropped c h gone
    → kept_count c h ≡ length (from_first (is_kept c h) kept)
kept_behind c h gone kept parts dropped =
    let more = behind (is_kept c h) kept in
    let rest = from_first (is_kept c h) kept in
    let split : reverse (packets h) ≡ (gone ++ more.0) ++ rest = parts ∙ (ap (λ (ps : List Packet). gone ++ ps) more.1 ∙ sym (append_assoc gone more.0 rest)) in
    kept_count_is c h (gone ++ more.0) rest split (each_append (λ p. is_kept c h p ≡ false) gone more.0 dropped more.2) (begins c h kept)

-- as many packets of a history are of use as were sent since the first that is open or owed, that one counted
pub kept_is : (c : Settings) (h : List Event) → kept_count c h ≡ length (from_first (is_kept c h) (reverse (packets h)))
kept_is c h = kept_behind c h [] (reverse (packets h)) refl tt

-- ---- one more event

-- in a run what is of no use is of none after one more event
pub dropped_stays : (c : Settings) (e : Event) (h : List Event) → IsRun c (e ∷ h) → (p : Packet) → Contains (packets h) p → is_kept c h p ≡ false → is_kept c (e ∷ h) p ≡ false
dropped_stays c e h run p has is =
    let parts = or_parts (is_open c h p) (is_owed c h p) is in
    or_from (is_open c (e ∷ h) p) (is_owed c (e ∷ h) p) (closed_stays c e h (tolerated_run_of c (e ∷ h) run) p has parts.0)
    (false_from_ne_true (is_owed c (e ∷ h) p) (λ found. both_ways (is_open c h p) parts.0 (and_parts p.in_flight (is_open c h p) (owed_was_flying c e h (tolerated_run_of c (e ∷ h) run) p has found)).1))

front_has : (h : List Event) (gone kept : List Packet) → reverse (packets h) ≡ gone ++ kept → (p : Packet) → Contains gone p → Contains (packets h) p
front_has h gone kept parts p has = turned_has (packets h) p (subst (λ (ps : List Packet). Contains ps p) (sym parts) (Contains-append_left gone kept p has))

rest_has : (h : List Event) (gone kept : List Packet) → reverse (packets h) ≡ gone ++ kept → (p : Packet) → Contains kept p → Contains (packets h) p
rest_has h gone kept parts p has = turned_has (packets h) p (subst (λ (ps : List Packet). Contains ps p) (sym parts) (Contains-append_right gone kept p has))

front_stays : (c : Settings) (e : Event) (h : List Event) → IsRun c (e ∷ h) → (gone kept : List Packet) → reverse (packets h) ≡ gone ++ kept → AreDropped c h gone → AreDropped c (e ∷ h) gone
front_stays c e h run gone kept parts dropped = of_each (λ p. is_kept c (e ∷ h) p ≡ false) gone (λ p has.
    dropped_stays c e h run p (front_has h gone kept parts p has) (at_one (λ q. is_kept c h q ≡ false) gone p dropped has))

-- in a run, after an event that sends nothing, what is of use is found among what was
pub kept_after : (c : Settings) (e : Event) (h : List Event) → IsRun c (e ∷ h) → packet_of (length h) e ≡ []
    → (gone kept : List Packet) → reverse (packets h) ≡ gone ++ kept → AreDropped c h gone → kept_count c (e ∷ h) ≡ length (from_first (is_kept c (e ∷ h)) kept)
kept_after c e h run none gone kept parts dropped =
    let same : packets (e ∷ h) ≡ packets h = ap (λ (ps : List Packet). ps ++ packets h) none in
    kept_behind c (e ∷ h) gone kept (ap reverse same ∙ parts) (front_stays c e h run gone kept parts dropped)

-- so it is no more than there was
pub kept_falls : (c : Settings) (e : Event) (h : List Event) → IsRun c (e ∷ h) → packet_of (length h) e ≡ [] → kept_count c (e ∷ h) ≤ kept_count c h
kept_falls c e h run none =
    let all = behind (is_kept c h) (reverse (packets h)) in
    let kept = from_first (is_kept c h) (reverse (packets h)) in
    let before = kept_is c h in
    let after = kept_after c e h run none all.0 kept all.1 all.2 in
    let less = fewer (is_kept c (e ∷ h)) kept in
    omega (arith, before, after, less)

-- ---- an event that changes nothing

-- two tests that agree at each packet find the same rest
same_rest : (f g : Packet → Bool) (ps : List Packet) → AllByRecursion (λ p. f p ≡ g p) ps → from_first f ps ≡ from_first g ps
same_rest f g [] same = refl
same_rest f g (p ∷ ps) same = rw (same.0, same_rest f g ps same.1) refl

-- an event neither newly acknowledges the packet, nor finds it lost, nor discards it
abbrev LeavesIt : Settings → Event → List Event → Packet → Type 0
LeavesIt c e h p = (is_newly_acknowledged e h p ≡ false) × (is_owed c (e ∷ h) p ≡ false) × (is_discarded_by c e h p ≡ false)

none_named : (c : Settings) (e : Event) (h : List Event) (p : Packet) → Contains (packets h) p → is_some_packet (named_free c e h) ≡ false → is_named_free c e h p ≡ false
none_named c e h p has none =
    false_from_ne_true (is_named_free c e h p) (λ is. both_ways (is_some_packet (named_free c e h)) none (has_some (named_free c e h) p (part_has (is_named_free c e h) (packets h) p has is)))

quiet_leaves : (c : Settings) (e : Event) (h : List Event) (p : Packet) → is_quiet e ≡ true → LeavesIt c e h p
quiet_leaves c (Ack ack) h p quiet = cc
quiet_leaves c (Timer time kind space) h p quiet = cc
quiet_leaves c (Discard time space) h p quiet = cc
quiet_leaves c _ h p quiet = (refl, refl, refl)

same_with : (is was owed_now owed_then : Bool) → is ≡ was → owed_now ≡ false → owed_then ≡ false → (is || owed_now) ≡ (was || owed_then)
same_with is was owed_now owed_then same free freed = rw (same, free, freed) refl

-- in a run a quiet event, before which nothing is owed, and which names nothing that is free, leaves of use what was
quiet_use : (c : Settings) (e : Event) (h : List Event) → IsRun c (e ∷ h) → is_quiet e ≡ true → is_some_packet (owed c h) ≡ false → is_some_packet (named_free c e h) ≡ false
    → (p : Packet) → Contains (packets h) p → is_kept c (e ∷ h) p ≡ is_kept c h p
quiet_use c e h run quiet none unnamed p has =
    let closes = quiet_leaves c e h p quiet in
    same_with (is_open c (e ∷ h) p) (is_open c h p) (is_owed c (e ∷ h) p) (is_owed c h p)
    (stays_open c e h run p has closes.0 closes.1 closes.2 (none_named c e h p has unnamed)) closes.1 (not_owed_now c e h p has none)

-- so where it sends nothing as much is of use as before
pub kept_stays : (c : Settings) (e : Event) (h : List Event) → IsRun c (e ∷ h) → is_quiet e ≡ true → packet_of (length h) e ≡ [] → is_some_packet (owed c h) ≡ false
    → is_some_packet (named_free c e h) ≡ false → kept_count c (e ∷ h) ≡ kept_count c h
kept_stays c e h run quiet none free unnamed =
    let ps = reverse (packets h) in
    let same : packets (e ∷ h) ≡ packets h = ap (λ (qs : List Packet). qs ++ packets h) none in
    let tests : AllByRecursion (λ p. is_kept c (e ∷ h) p ≡ is_kept c h p) ps =
    of_each (λ p. is_kept c (e ∷ h) p ≡ is_kept c h p) ps (λ p has. quiet_use c e h run quiet free unnamed p (turned_has (packets h) p has)) in
    kept_is c (e ∷ h) ∙ (ap (λ (qs : List Packet). length (from_first (is_kept c (e ∷ h)) (reverse qs))) same
    ∙ (ap length (same_rest (is_kept c (e ∷ h)) (is_kept c h) ps tests) ∙ sym (kept_is c h)))

-- ---- a packet that is sent

begins_sent : (c : Settings) (g h : List Event) (p : Packet) (kept : List Packet) → is_kept c g p ≡ true → ((q : Packet) → Contains kept q → is_kept c g q ≡ is_kept c h q) → BeginsKept c h kept
    → BeginsKept c g (kept ++ p ∷ [])
begins_sent c g h p [] is same begins = is
begins_sent c g h p (q ∷ qs) is same begins = same q (has_first q qs) ∙ begins

-- in a run a packet that is sent is of use, and no other is more or less so
pub kept_sent : (c : Settings) (h : List Event) (packet : SentPacket) → IsRun c (Sent packet ∷ h)
    → kept_count c (Sent packet ∷ h) ≡ kept_count c h + 1
kept_sent c h packet run =
    let e = Sent packet in
    let p = packet_at (length h) packet in
    let all = behind (is_kept c h) (reverse (packets h)) in
    let kept = from_first (is_kept c h) (reverse (packets h)) in
    let split : reverse (packets (e ∷ h)) ≡ all.0 ++ (kept ++ p ∷ []) =
    turned p (packets h) ∙ (ap (λ (ps : List Packet). ps ++ p ∷ []) all.1 ∙ append_assoc all.0 kept (p ∷ [])) in
    let opens = sent_is_open c h packet p refl refl (all_hold c h e run.1).space_gone in
    let is : is_kept c (e ∷ h) p ≡ true = or_left (is_open c (e ∷ h) p) (is_owed c (e ∷ h) p) opens in
    kept_count_is c (e ∷ h) all.0 (kept ++ p ∷ []) split (front_stays c e h run all.0 kept all.1 all.2)
    (begins_sent c (e ∷ h) h p kept is (λ q has. quiet_use c e h run refl (all_hold c h e run.1).loss_owed (ap is_some_packet (names_nothing c e h (λ p. refl))) q (rest_has h all.0 kept all.1 q has)) (begins c h (reverse (packets h))))
    ∙ (length-append kept (p ∷ []) ∙ ap (λ n. n + 1) (sym (kept_is c h)))
