-- What a cause asks of what is kept is what its definitions ask of the history.
use Rattle.std.proofs.Common.{◌≡◌, ◌∙◌, List, [], ◌∷◌, ◌++◌, map, Bool, true, false, ◌&&◌, Option, Some, None, option_map, refl, sym, ap, filter, find, reverse, Result, Ok, Err, IfOk}
use Rattle.std.proofs.lemmas.Bool.{and_right}
use Rattle.std.specs.List.{AllByRecursion}
use Rattle.std.specs.Prelude.{if◌then◌else◌}
use Rattle.qa_base.specs.declared.event.Event.{Event}
use Rattle.qa_base.specs.declared.space.Space.{Space}
use Rattle.qa_base.specs.machine.Loss.{owed}
use Rattle.qa_base.specs.machine.Packets.{Packet, packets, packets_of, is_of}
use Rattle.qa_base.specs.machine.Violations.{IsToleratedRun}
use Rattle.qa_base.specs.values.Settings.{Settings}
use Rattle.qa_ledger.specs.causes.Causes.{first_space, oldest, owed_space}
use Rattle.qa_ledger.specs.declared.causes.cause.Oldest.{Oldest}
use Rattle.qa_base.proofs.history.Pairs.{each_weaker, part_turned}
use Rattle.qa_base.specs.history.Oldest.{is_flying as flies}
use Rattle.qa_sender.proofs.Carrying.{shed_grounded}
use Rattle.qa_sender.proofs.Fates.{is_open_told}
use Rattle.qa_sender.proofs.connection_lemmas.Lists.{each_value, find_of_map}
use Rattle.qa_sender.proofs.Losses.{owed_stand}
use Rattle.qa_sender.specs.Standing.{StandsFor}
use Rattle.qa_sent_packets.specs.Fates.{is_flying}
use Rattle.qa_sent_packets.specs.Held.{Held}
use Rattle.qa_sent_packets.specs.Owing.{first_space as first_kept_space}
use Rattle.qa_sent_packets.specs.Told.{sent_of}
use Rattle.qa_sent_packets.specs.Walks.{owed_of}
use Rattle.qa_sent_packets.specs.declared.packet.SentPacket.{SentPacket}

-- what holds of a result holds of it in other words
pub on_each_ok : {A E : Type 0} (r : Result A E) (P Q : A → Type 0) → IfOk r P → ((x : A) → P x → Q x) → IfOk r Q
on_each_ok (Ok x) P Q holds more = more x holds
on_each_ok (Err e) P Q holds more = tt

-- ---- what is owed

first_told : (c : Settings) (h : List Event) (ps : List Packet) → first_kept_space (map (sent_of c h) ps) ≡ first_space ps
first_told c h [] = refl
first_told c h (p ∷ ps) = refl

-- in a tolerated run the space of the packets held that are owed is that of those which the last event found lost
pub owed_space_is_held : (c : Settings) (h : List Event) → IsToleratedRun c h → (held : Held) → StandsFor held c h → first_kept_space (owed_of held.packets) ≡ owed_space c h
owed_space_is_held c h run held stands = ap first_kept_space (owed_stand c h run held stands) ∙ first_told c h (reverse (owed c h))

-- ---- the oldest open packet

find_if : (f g : Packet → Bool) (p : Packet) (ps : List Packet) (b : Bool) → f p ≡ b → find g (if b then p ∷ filter f ps else filter f ps) ≡ (if b && g p then Some p else find g (filter f ps))
find_if f g p ps true is = refl
find_if f g p ps false is = refl

find_in_part : (f g : Packet → Bool) (ps : List Packet) → find g (filter f ps) ≡ find (λ p. f p && g p) ps
find_in_part f g [] = refl
find_in_part f g (p ∷ ps) = find_if f g p ps (f p) refl ∙ ap (λ o. if f p && g p then Some p else o) (find_in_part f g ps)

find_past : (test : Packet → Bool) (gone kept : List Packet) → AllByRecursion (λ p. test p ≡ false) gone → find test (gone ++ kept) ≡ find test kept
find_past test [] kept none = refl
find_past test (p ∷ gone) kept none = ap (λ b. if b then Some p else find test (gone ++ kept)) none.0 ∙ find_past test gone kept none.1

-- a packet that is kept, as a cause tells it
abbrev pub told : SentPacket → Oldest
told p = record { number = p.number; sent = p.time }

told_of : (c : Settings) (h : List Event) (o : Option Packet) → option_map told (option_map (sent_of c h) o) ≡ option_map (λ p. record { number = p.number; sent = p.time }) o
told_of c h None = refl
told_of c h (Some p) = refl

-- the first packet held that is of the space, open and in flight is the oldest of the history
pub oldest_is_held : (c : Settings) (h : List Event) (s : Space) (held : Held) → StandsFor held c h → option_map told (find (is_flying s) held.packets) ≡ oldest c h s
oldest_is_held c h s held stands =
    let test : Packet → Bool = λ p. is_of s p && flies c h p in
    let none : AllByRecursion (λ p. test p ≡ false) stands.gone =
    each_weaker (λ p. flies c h p ≡ false) (λ p. test p ≡ false) (λ p out. and_right (is_of s p) (flies c h p) out)
    stands.gone (shed_grounded c h stands.gone stands.shed) in
    let here : find (is_flying s) held.packets ≡ option_map (sent_of c h) (find test stands.kept) =
    ap (find (is_flying s)) stands.packets_are
    ∙ find_of_map (is_flying s) (sent_of c h) test stands.kept
    (each_value (λ p. is_flying s (sent_of c h p) ≡ test p) (λ p. ap (λ b. is_of s p && (p.in_flight && b)) (is_open_told c h p)) stands.kept) in
    let there : find (flies c h) (reverse (packets_of h s)) ≡ find test stands.kept =
    ap (find (flies c h)) (sym (part_turned (is_of s) (packets h)))
    ∙ (find_in_part (is_of s) (flies c h) (reverse (packets h))
    ∙ (ap (find test) stands.parts ∙ find_past test stands.gone stands.kept none)) in
    ap (option_map told) here ∙ (told_of c h (find test stands.kept) ∙ ap (option_map (λ (p : Packet). record { number = p.number; sent = p.time })) (sym there))
