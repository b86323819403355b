-- The first packets may leave the queue, and as many are held then at most as the definitions count.
use Rattle.std.proofs.Common.{◌≡◌, ◌∙◌, ◌+◌, ◌≤◌, ℕ, suc, List, [], ◌∷◌, ◌++◌, length, map, filter, Bool, true, false, cond, ◌&&◌, ◌||◌, not, refl, sym, ap, ap₂, subst, arith, reverse, drop, take, append_assoc, length-append}
use Rattle.std.proofs.lemmas.Bool.{not-true, not-false}
use Rattle.std.proofs.lemmas.List.{drop-map, length-map, length-reverse, map-append, take-append-drop, take-map}
use Rattle.std.proofs.lemmas.List.Elements.{filter-append}
use Rattle.std.specs.List.{AllByRecursion, prefix_len}
use Rattle.qa_base.specs.declared.event.Event.{Event}
use Rattle.qa_base.specs.declared.space.Space.{Space}
use Rattle.qa_base.specs.declared.space.Space.TheVariants.{Initial, Handshake, App}
use Rattle.qa_base.specs.machine.Kept.{is_kept, kept_count}
use Rattle.qa_base.specs.machine.Loss.{is_open as opens, is_owed as owes}
use Rattle.qa_base.specs.machine.Packets.{Packet, is_of, packets}
use Rattle.qa_base.specs.machine.Violations.{IsToleratedRun}
use Rattle.qa_base.specs.values.PerSpace.{of_space}
use Rattle.qa_base.specs.values.Settings.{Settings}
use Rattle.qa_base.proofs.machine.WindowBound.{each_append}
use Rattle.qa_sender.proofs.connection_lemmas.Grown.{packets_few}
use Rattle.qa_base.proofs.history.KeptCount.{kept_count_is}
use Rattle.qa_base.proofs.history.Pairs.{each_weaker, none_left}
use Rattle.qa_base.specs.history.Parts.{AreDropped, BeginsKept}
use Rattle.qa_sender.proofs.Fates.{is_open_told, is_owed_told}
use Rattle.qa_sender.proofs.connection_lemmas.Lists.{each_value, filter_of_map, front_passes}
use Rattle.qa_sender.specs.Standing.{IsShed, StandsFor, is_open_of}
use Rattle.qa_sender.specs.Trimmed.{IsTrimmed}
use Rattle.qa_sent_packets.specs.Dropping.{Sheds, is_first_closed, is_shed}
use Rattle.qa_sent_packets.specs.Fates.{is_closed, is_open, is_open_in, is_owed}
use Rattle.qa_sent_packets.specs.Held.{Held, aside_count}
use Rattle.qa_sent_packets.specs.Told.{sent_of}
use Rattle.qa_sent_packets.specs.declared.fate.Fate.{Fate}
use Rattle.qa_sent_packets.specs.declared.fate.Fate.TheVariants.{Open, Owed, DeclaredLost, Acknowledged, Discarded}
use Rattle.qa_sent_packets.specs.declared.packet.SentPacket.{SentPacket}

-- ---- closed is neither open nor owed

closed_by : (opened due is_opened is_due : Bool) → opened ≡ is_opened → due ≡ is_due → (not opened && not due) ≡ not (is_opened || is_due)
closed_by true due is_opened is_due open_is due_is = rw (← open_is) refl
closed_by false due is_opened is_due open_is due_is = rw (← open_is, ← due_is) refl

-- in a tolerated run a packet is held as closed where it is neither open nor owed
pub is_closed_told : (c : Settings) (h : List Event) → IsToleratedRun c h → (p : Packet) → is_closed (sent_of c h p) ≡ not (is_kept c h p)
is_closed_told c h run p =
    closed_by (is_open (sent_of c h p).fate) (is_owed (sent_of c h p).fate) (opens c h p) (owes c h p) (is_open_told c h p) (is_owed_told c h run p)

-- ---- the first packets leave the queue

not_both : (f : Fate) → is_open f ≡ true → is_owed f ≡ false
not_both Open is = refl
not_both Owed is = cc
not_both DeclaredLost is = refl
not_both Acknowledged is = refl
not_both Discarded is = refl

owed_by : (opened due bare : Bool) → (opened ≡ true → due ≡ false) → ((not opened && not due) || (opened && not bare)) ≡ true → due ≡ false
owed_by true due bare not_so shed = not_so refl
owed_by false true bare not_so shed = cc
owed_by false false bare not_so shed = refl

bare_by : (opened due asks : Bool) → ((not opened && not due) || (opened && not asks)) ≡ true → opened ≡ true → asks ≡ false
bare_by true due true shed opened = cc
bare_by true due false shed opened = refl
bare_by false due asks shed opened = cc

shed_told : (c : Settings) (h : List Event) → IsToleratedRun c h → (p : Packet) → is_shed (sent_of c h p) ≡ true → IsShed c h p
shed_told c h run p shed =
    let q = sent_of c h p in
    record {
      owed = sym (is_owed_told c h run p) ∙ owed_by (is_open q.fate) (is_owed q.fate) (p.eliciting || p.in_flight) (not_both q.fate) shed;
      bare = λ opened. bare_by (is_open q.fate) (is_owed q.fate) (p.eliciting || p.in_flight) shed (is_open_told c h p ∙ opened);
    }

each_told : (c : Settings) (h : List Event) → IsToleratedRun c h → (ps : List Packet) → AllByRecursion (λ q. is_shed q ≡ true) (map (sent_of c h) ps) → AllByRecursion (IsShed c h) ps
each_told c h run [] all = tt
each_told c h run (p ∷ ps) all = (shed_told c h run p all.0, each_told c h run ps all.1)

first_of : (xs ys : List SentPacket) → take (length xs) (xs ++ ys) ≡ xs
first_of [] ys = refl
first_of (x ∷ xs) ys = ap (λ zs. x ∷ zs) (first_of xs ys)

rest_of : (xs ys : List SentPacket) → drop (length xs) (xs ++ ys) ≡ ys
rest_of [] ys = refl
rest_of (x ∷ xs) ys = rest_of xs ys

-- in a tolerated run the packets held stand for the history also where the first left the queue
pub stands_trimmed : (c : Settings) (h : List Event) → IsToleratedRun c h → (old new : Held) → StandsFor old c h → Sheds old new → StandsFor new c h
stands_trimmed c h run old new stands sheds =
    let n = length sheds.front in
    let front = take n stands.kept in
    let rest = drop n stands.kept in
    let parts : map (sent_of c h) stands.kept ≡ sheds.front ++ new.packets = sym stands.packets_are ∙ sheds.parts in
    let fronts : map (sent_of c h) front ≡ sheds.front = sym (take-map (sent_of c h) n stands.kept) ∙ (ap (take n) parts ∙ first_of sheds.front new.packets) in
    let rests : map (sent_of c h) rest ≡ new.packets = sym (drop-map (sent_of c h) n stands.kept) ∙ (ap (drop n) parts ∙ rest_of sheds.front new.packets) in
    let more : length (stands.gone ++ front) ≡ length stands.gone + length front = length-append stands.gone front in
    let many : length front ≡ n = sym (length-map front (sent_of c h)) ∙ ap length fronts in
    let before : old.dropped ≡ length stands.gone = stands.place in
    let after = sheds.place in
    record {
      gone = stands.gone ++ front;
      kept = rest;
      parts = stands.parts ∙ (ap (λ ps. stands.gone ++ ps) (sym (take-append-drop n stands.kept)) ∙ sym (append_assoc stands.gone front rest));
      place = omega (arith, more, many, before, after);
      packets_are = sym rests;
      shed = each_append (IsShed c h) stands.gone front stands.shed
          (each_told c h run front (subst (λ (qs : List SentPacket). AllByRecursion (λ q. is_shed q ≡ true) qs) (sym fronts) sheds.settled));
      strays_are = λ s. sheds.aside s
          ∙ (ap₂ (λ xs ys. xs ++ ys) (stands.strays_are s) (ap (filter (is_open_in s)) (sym fronts)
          ∙ filter_of_map (is_open_in s) (sent_of c h) (is_open_of c h s) front
          (each_value (λ p. is_open_in s (sent_of c h p) ≡ is_open_of c h s p) (λ p. ap (λ b. is_of s p && b) (is_open_told c h p)) front))
          ∙ (sym (map-append (sent_of c h) (filter (is_open_of c h s) stands.gone) (filter (is_open_of c h s) front))
          ∙ ap (map (sent_of c h)) (sym (filter-append (is_open_of c h s) stands.gone front))));
    }

-- the first that is left is open or owed
pub first_stays : (ps : List SentPacket) → is_first_closed ps ≡ false → IsTrimmed ps
first_stays [] is = tt
first_stays (p ∷ ps) is = is

-- ---- how many are held

begins_of : (c : Settings) (h : List Event) → IsToleratedRun c h → (kept : List Packet) → IsTrimmed (map (sent_of c h) kept) → BeginsKept c h kept
begins_of c h run [] first = tt
begins_of c h run (p ∷ ps) first = not-false (is_kept c h p) (sym (is_closed_told c h run p) ∙ first)

first_if : (c : Settings) (h : List Event) (p : Packet) (ps kept : List Packet) (n : ℕ) (b : Bool) → not (is_kept c h p) ≡ b → BeginsKept c h (drop n ps ++ kept)
    → BeginsKept c h (drop (cond b (1 + n) 0) (p ∷ ps) ++ kept)
first_if c h p ps kept n true is rest = let one : suc n ≡ 1 + n = omega arith in subst (λ k. BeginsKept c h (drop k (p ∷ ps) ++ kept)) one rest
first_if c h p ps kept n false is rest = not-false (is_kept c h p) is

-- behind a front of which none is of use, the rest begins with one that is
front_left : (c : Settings) (h : List Event) (ps kept : List Packet) → BeginsKept c h kept → BeginsKept c h (drop (prefix_len (λ p. not (is_kept c h p)) ps) ps ++ kept)
front_left c h [] kept begins = begins
front_left c h (p ∷ ps) kept begins =
    first_if c h p ps kept (prefix_len (λ q. not (is_kept c h q)) ps) (not (is_kept c h p)) refl (front_left c h ps kept begins)

fewer_if : (p : Packet) (ps qs : List Packet) (b : Bool) → length qs ≤ length ps → length (cond b (p ∷ qs) qs) ≤ length (p ∷ ps)
fewer_if p ps qs true few = omega (arith, few)
fewer_if p ps qs false few = omega (arith, few)

fewer_pass : (test : Packet → Bool) (ps : List Packet) → length (filter test ps) ≤ length ps
fewer_pass test [] = omega arith
fewer_pass test (p ∷ ps) = fewer_if p ps (filter test ps) (test p) (fewer_pass test ps)

not_opened : (opened due : Bool) → (opened || due) ≡ false → opened ≡ false
not_opened true due none = cc
not_opened false due none = refl

-- of the packets of use there are at least as many as are open among the first and stand behind them
kept_at_least : (c : Settings) (h : List Event) (gone kept : List Packet) → reverse (packets h) ≡ gone ++ kept → BeginsKept c h kept
    → length (filter (opens c h) gone) + length kept ≤ kept_count c h
kept_at_least c h gone kept parts begins =
    let test : Packet → Bool = λ p. not (is_kept c h p) in
    let n = prefix_len test gone in
    let front = take n gone in
    let rest = drop n gone in
    let whole : front ++ rest ≡ gone = take-append-drop n gone in
    let dropped : AreDropped c h front = each_weaker (λ p. test p ≡ true) (λ p. is_kept c h p ≡ false) (λ p passes. not-true (is_kept c h p) passes) front (front_passes test gone) in
    let count : kept_count c h ≡ length (rest ++ kept) =
    kept_count_is c h front (rest ++ kept) (parts ∙ (ap (λ ps. ps ++ kept) (sym whole) ∙ append_assoc front rest kept)) dropped (front_left c h gone kept begins) in
    let long : length (rest ++ kept) ≡ length rest + length kept = length-append rest kept in
    let none : filter (opens c h) front ≡ [] =
    none_left (opens c h) front (each_weaker (λ p. is_kept c h p ≡ false) (λ p. opens c h p ≡ false) (λ p out. not_opened (opens c h p) (owes c h p) out) front dropped) in
    let opened : filter (opens c h) gone ≡ filter (opens c h) rest =
    ap (filter (opens c h)) (sym whole) ∙ (filter-append (opens c h) front rest ∙ ap (λ ps. ps ++ filter (opens c h) rest) none) in
    let same : length (filter (opens c h) gone) ≡ length (filter (opens c h) rest) = ap length opened in
    let few = fewer_pass (opens c h) rest in
    omega (arith, count, long, same, few)

of_space_by : (s : Space) (opened : Bool) (p : Packet) (i h a o : List Packet) → length i + (length h + length a) ≡ length o → p.space ≡ s
    → length (cond (is_of Initial p && opened) (p ∷ i) i) + (length (cond (is_of Handshake p && opened) (p ∷ h) h) + length (cond (is_of App p && opened) (p ∷ a) a)) ≡ length (cond opened (p ∷ o) o)
of_space_by Initial true p i h a o is here = rw here (omega (arith, is))
of_space_by Handshake true p i h a o is here = rw here (omega (arith, is))
of_space_by App true p i h a o is here = rw here (omega (arith, is))
of_space_by Initial false p i h a o is here = rw here is
of_space_by Handshake false p i h a o is here = rw here is
of_space_by App false p i h a o is here = rw here is

-- those of the spaces are all
all_spaces : (c : Settings) (h : List Event) (ps : List Packet)
    → length (filter (is_open_of c h Initial) ps) + (length (filter (is_open_of c h Handshake) ps) + length (filter (is_open_of c h App) ps)) ≡ length (filter (opens c h) ps)
all_spaces c h [] = refl
all_spaces c h (p ∷ ps) =
    of_space_by p.space (opens c h p) p (filter (is_open_of c h Initial) ps) (filter (is_open_of c h Handshake) ps) (filter (is_open_of c h App) ps) (filter (opens c h) ps) (all_spaces c h ps) refl

aside_are : (c : Settings) (h : List Event) (held : Held) (stands : StandsFor held c h) → aside_count held.strays ≡ length (filter (opens c h) stands.gone)
aside_are c h held stands =
    let one : (s : Space) → length (of_space s held.strays) ≡ length (filter (is_open_of c h s) stands.gone) =
    λ s. ap length (stands.strays_are s) ∙ length-map (filter (is_open_of c h s) stands.gone) (sent_of c h) in
    ap₂ (λ m n. m + n) (one Initial) (ap₂ (λ m n. m + n) (one Handshake) (one App)) ∙ all_spaces c h stands.gone

-- in a tolerated run, where the first in the queue is open or owed, no more are held or set aside than packets of the history are of use
pub kept_is_held : (c : Settings) (h : List Event) → IsToleratedRun c h → (held : Held) → StandsFor held c h → IsTrimmed held.packets → aside_count held.strays + length held.packets ≤ kept_count c h
kept_is_held c h run held stands first =
    let begins = begins_of c h run stands.kept (subst (λ (ps : List SentPacket). IsTrimmed ps) stands.packets_are first) in
    let least = kept_at_least c h stands.gone stands.kept stands.parts begins in
    let aside = aside_are c h held stands in
    let many : length held.packets ≡ length stands.kept = ap length stands.packets_are ∙ length-map stands.kept (sent_of c h) in
    omega (arith, least, aside, many)

-- ---- room

-- no more packets left the queue and are held than there are events
pub held_are_few : (held : Held) (c : Settings) (h : List Event) → StandsFor held c h → held.dropped + length held.packets ≤ length h
held_are_few held c h stands =
    let few = packets_few h in
    let turned = length-reverse (packets h) in
    let both : length (reverse (packets h)) ≡ length (stands.gone ++ stands.kept) = ap length stands.parts in
    let parts = length-append stands.gone stands.kept in
    let kept : length held.packets ≡ length stands.kept = ap length stands.packets_are ∙ length-map stands.kept (sent_of c h) in
    let place = stands.place in
    omega (arith, few, turned, both, parts, kept, place)
