-- Caveats of one line more.
use Rattle.std.proofs.Common.{◌≡◌, ◌∙◌, ℕ, ◌+◌, List, [], ◌∷◌, ◌++◌, Option, Some, None, Result, Ok, Err, OnOk, IfOk, append_assoc, find, is_some, length, reverse, refl, sym, ap, subst}
use Rattle.std.proofs.lemmas.List.{append-nil, reverse-append}
use Rattle.std.specs.Prelude.{filter_map, if◌then◌else◌}
use Rattle.qa_base.specs.declared.event.Event.{Event}
use Rattle.qa_base.specs.declared.event.Event.TheVariants.{Sent, Ack, Lost, Timer, Discard, Confirmed, Keys, Metrics}
use Rattle.qa_base.specs.declared.event.SentPacket.{SentPacket}
use Rattle.qa_base.specs.declared.per_space.PerSpace.{PerSpace}
use Rattle.qa_base.specs.declared.space.Space.{Space}
use Rattle.qa_base.specs.declared.space.Space.TheVariants.{Initial, Handshake, App}
use Rattle.qa_base.specs.machine.Packets.{history_of}
use Rattle.qa_base.specs.values.Events.{is_space}
use Rattle.qa_base.specs.values.PerSpace.{of_space, with_space}
use Rattle.qa_base.specs.values.Settings.{Settings}
use Rattle.qa_format.specs.declared.fault.Fault.{Fault}
use Rattle.qa_format.specs.declared.line.Line.{Line}
use Rattle.qa_format.specs.declared.line.Line.TheVariants as line
use Rattle.qa_format.specs.format.Reading.{reading}
use Rattle.qa_format.specs.verdicts.Verdict.{event_said, events_in, header_said}
use Rattle.qa_format.proofs.verdicts.RunsAccepted.{events_in-snoc}
use Rattle.qa_base.specs.declared.rule.Rule.{Rule}
use Rattle.qa_why.specs.caveats.Caveats.{header_behind, header_line, history_in, lost_by, lost_lines, may_lack_lines, missing_behind, with_packet}
use Rattle.qa_why.specs.caveats.Guesses.{AreNoted, guess_on, guesses}
use Rattle.qa_why.specs.declared.caveats.guesses.Guesses.{Guesses}
use Rattle.qa_why.proofs.caveats_lemmas.Guesses.{guesses_snoc}
use Rattle.qa_why.specs.caveats.Missing.{missing, missing_texts, with_number}
use Rattle.qa_why.specs.declared.caveats.missing.Missing.{Missing}
use Rattle.qa_why.proofs.caveats_lemmas.Missing.{missing_more}

-- ---- the history

-- the event of a line, where it says one
abbrev with_said : Option Event → List Event → List Event
with_said None h = h
with_said (Some e) h = e ∷ h

history_by : (events : List Event) (said : Option Event) → history_of (events ++ filter_map (λ (e : Option Event). e) (said ∷ [])) ≡ with_said said (history_of events)
history_by events None = ap history_of (append-nil events)
history_by events (Some e) = reverse-append events (e ∷ [])

said_alone : (r : Result Line Fault) → filter_map event_said (r ∷ []) ≡ filter_map (λ (e : Option Event). e) (event_said r ∷ [])
said_alone r = refl

pub history_more : (ls : List (List ℕ)) (l : List ℕ) → history_in (ls ++ l ∷ []) ≡ with_said (event_said (reading l)) (history_in ls)
history_more ls l =
    ap history_of (events_in-snoc reading ls l) ∙ history_by (events_in reading ls) (event_said (reading l))

-- ---- what is missing

is_other : (s t : Space) (m : PerSpace Missing) (x : Missing) → (if is_space s t then x else of_space t m) ≡ of_space t (with_space s m x)
is_other Initial Initial m x = refl
is_other Initial Handshake m x = refl
is_other Initial App m x = refl
is_other Handshake Initial m x = refl
is_other Handshake Handshake m x = refl
is_other Handshake App m x = refl
is_other App Initial m x = refl
is_other App Handshake m x = refl
is_other App App m x = refl

-- each space is as before, or the one of the packet
same_space : (s t : Space) (m : PerSpace Missing) (n : ℕ) → (if is_space s t then with_number (of_space s m) n else of_space t m) ≡ (if is_space s t then with_number (of_space t m) n else of_space t m)
same_space Initial Initial m n = refl
same_space Initial Handshake m n = refl
same_space Initial App m n = refl
same_space Handshake Initial m n = refl
same_space Handshake Handshake m n = refl
same_space Handshake App m n = refl
same_space App Initial m n = refl
same_space App Handshake m n = refl
same_space App App m n = refl

pub packet_noted : (m : PerSpace Missing) (packet : SentPacket) (h : List Event) → ((s : Space) → of_space s m ≡ missing h s)
    → (s : Space) → of_space s (with_packet m packet) ≡ missing (Sent packet ∷ h) s
packet_noted m packet h held s =
    sym (is_other packet.space s m (with_number (of_space packet.space m) packet.number))
    ∙ (same_space packet.space s m packet.number
    ∙ (ap (λ x. if is_space packet.space s then with_number x packet.number else x) (held s)
    ∙ missing_more h packet s (is_space packet.space s) refl))

-- before any packet
pub none_noted : (a b d : Missing) → a ≡ missing [] Initial → b ≡ missing [] Handshake → d ≡ missing [] App
    → (s : Space) → (let m : PerSpace Missing = record { initial = a; handshake = b; app = d } in of_space s m ≡ missing [] s)
none_noted a b d first second third Initial = first
none_noted a b d first second third Handshake = second
none_noted a b d first second third App = third

-- the text of what was noted
pub texts_held : (m : PerSpace Missing) (h : List Event) → ((s : Space) → of_space s m ≡ missing h s) → (r : Rule) → lost_by r m ≡ lost_lines r h
texts_held m h held r =
    ap (λ x. if may_lack_lines r then x else []) (
    ap (λ x. missing_texts (record m { initial = x })) (held Initial)
    ∙ ap (λ x. missing_texts (record { initial = missing h Initial; handshake = x; app = m.app })) (held Handshake)
    ∙ ap (λ x. missing_texts (record { initial = missing h Initial; handshake = missing h Handshake; app = x })) (held App))

-- ---- the header

header_by : (l : List ℕ) (said : Option Settings) → header_said (reading l) ≡ said → (ls : List (List ℕ)) → find (λ m. is_some (header_said (reading m))) (l ∷ reverse ls) ≡ (if is_some said then Some l else header_line ls)
header_by l None is ls = rw is refl
header_by l (Some c) is ls = rw is refl

pub header_more : (ls : List (List ℕ)) (l : List ℕ) → header_line (ls ++ l ∷ []) ≡ (if is_some (header_said (reading l)) then Some l else header_line ls)
header_more ls l =
    ap (find (λ m. is_some (header_said (reading m)))) (reverse-append ls (l ∷ []))
    ∙ header_by l (header_said (reading l)) refl ls

-- ---- a line more

-- what it says of packets
behind_by : (m : PerSpace Missing) (said : Line) (h : List Event) → ((s : Space) → of_space s m ≡ missing h s) → (s : Space) → of_space s (missing_behind m said) ≡ missing (with_said (event_said (Ok said)) h) s
behind_by m line.Blank h held s = held s
behind_by m (line.Header c) h held s = held s
behind_by m (line.Event (Sent packet)) h held s = packet_noted m packet h held s
behind_by m (line.Event (Ack ack)) h held s = held s
behind_by m (line.Event (Lost t space ranges)) h held s = held s
behind_by m (line.Event (Timer t kind space)) h held s = held s
behind_by m (line.Event (Discard t space)) h held s = held s
behind_by m (line.Event (Confirmed t)) h held s = held s
behind_by m (line.Event (Keys t)) h held s = held s
behind_by m (line.Event (Metrics t values)) h held s = held s

pub missing_said : (ls : List (List ℕ)) (l : List ℕ) (said : Line) (m : PerSpace Missing) → reading l ≡ Ok said → ((s : Space) → of_space s m ≡ missing (history_in ls) s)
    → (s : Space) → of_space s (missing_behind m said) ≡ missing (history_in (ls ++ l ∷ [])) s
missing_said ls l said m says held s =
    behind_by m said (history_in ls) held s
    ∙ ap (λ h. missing h s) (ap (λ (r : Result Line Fault). with_said (event_said r) (history_in ls)) (sym says) ∙ sym (history_more ls l))

-- and of the header
header_as : (l : List ℕ) (said : Line) (header : Option (List ℕ)) → header_behind header l said ≡ (if is_some (header_said (Ok said)) then Some l else header)
header_as l line.Blank header = refl
header_as l (line.Header c) header = refl
header_as l (line.Event e) header = refl

pub header_noted : (ls : List (List ℕ)) (l : List ℕ) (said : Line) → reading l ≡ Ok said → header_behind (header_line ls) l said ≡ header_line (ls ++ l ∷ [])
header_noted ls l said says =
    header_as l said (header_line ls)
    ∙ (ap (λ (r : Result Line Fault). if is_some (header_said r) then Some l else header_line ls) (sym says) ∙ sym (header_more ls l))

-- and what was guessed
pub guesses_noted : (g : Guesses) (ls : List (List ℕ)) (l : List ℕ) (n : ℕ) → n ≡ length ls + 1 → AreNoted g (guesses ls ++ guess_on n l) → AreNoted g (guesses (ls ++ l ∷ []))
guesses_noted g ls l n is noted =
    subst (AreNoted g) (ap (λ k. guesses ls ++ guess_on k l) is ∙ sym (guesses_snoc ls l)) noted

-- ---- results

pub on_ok : {T E : Type 0} (r : Result T E) (P Q : Type 0) → OnOk r P → (P → Q) → OnOk r Q
on_ok (Ok x) P Q p more = more p
on_ok (Err e) P Q p more = tt

pub if_ok : {T E : Type 0} (r : Result T E) (P Q : T → Type 0) → IfOk r P → ((x : T) → P x → Q x) → IfOk r Q
if_ok (Ok x) P Q p more = more x p
if_ok (Err e) P Q p more = tt

-- three texts that were pushed, one behind another
pub three_pushed : (o g l n a b c : List ℕ) → a ≡ o ++ g → b ≡ a ++ l → c ≡ b ++ n → c ≡ o ++ (g ++ l ++ n)
three_pushed o g l n a b c first second third =
    third ∙ (ap (λ x. x ++ n) (second ∙ ap (λ x. x ++ l) first)
    ∙ (ap (λ x. x ++ n) (append_assoc o g l) ∙ append_assoc o (g ++ l) n))
