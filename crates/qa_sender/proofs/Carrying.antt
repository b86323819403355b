-- How the packets that are held go on standing for a history: what holds of all of them, and what one more event owes for each.
use Rattle.std.proofs.Common.{◌≡◌, ◌∙◌, Bool, true, false, ◌&&◌, ◌||◌, List, [], ◌∷◌, filter, map, refl, sym, ap, subst, reverse, Contains}
use Rattle.std.proofs.lemmas.Bool.{and_parts, both_ways, false_from_ne_true, true_from_ne_false}
use Rattle.std.proofs.lemmas.List.Elements.{Contains-append_left, Contains-append_right}
use Rattle.std.specs.List.{AllByRecursion}
use Rattle.qa_base.specs.declared.event.Event.{Event}
use Rattle.qa_base.specs.declared.space.Space.{Space}
use Rattle.qa_base.specs.declared.space.Space.TheVariants.{Initial, Handshake, App}
use Rattle.qa_base.specs.machine.Loss.{is_open as opens, is_owed as owes, owed}
use Rattle.qa_base.specs.machine.Packets.{Packet, is_of, packets, is_some_packet}
use Rattle.qa_base.specs.machine.Violations.{IsToleratedRun}
use Rattle.qa_base.specs.values.PerSpace.{of_space}
use Rattle.qa_base.specs.values.Settings.{Settings}
use Rattle.qa_base.proofs.history.Changes.{owed_was_flying}
use Rattle.qa_base.proofs.history.Pairs.{at_one, each_weaker, of_each, part_is, part_of_part, same_part}
use Rattle.qa_base.proofs.history.Settled.{closed_stays, has_some, owed_has}
use Rattle.qa_base.proofs.history.ToleratedRuns.{is_space_is}
use Rattle.qa_base.proofs.history.Walks.{turned_has}
use Rattle.qa_sender.proofs.Fates.{is_open_told, is_owed_told}
use Rattle.qa_sender.proofs.connection_lemmas.Lists.{each_of_map, each_value, filter_of_map, map_fused}
use Rattle.qa_sender.specs.Standing.{IsShed, StandsFor, is_open_of}
use Rattle.qa_sent_packets.specs.Fates.{is_open, is_owed}
use Rattle.qa_sent_packets.specs.Held.{Held, no_strays}
use Rattle.qa_sent_packets.specs.Told.{sent_of}
use Rattle.qa_sent_packets.specs.declared.packet.SentPacket.{SentPacket}

-- ---- the packets that are held, and those that left the queue

-- each packet that is held is one of the history
pub kept_has : (held : Held) (c : Settings) (h : List Event) (stands : StandsFor held c h) (p : Packet) → Contains stands.kept p → Contains (packets h) p
kept_has held c h stands p has =
    turned_has (packets h) p (subst (λ (ps : List Packet). Contains ps p) (sym stands.parts) (Contains-append_right stands.gone stands.kept p has))

-- and so is each that left the queue
pub gone_has : (held : Held) (c : Settings) (h : List Event) (stands : StandsFor held c h) (p : Packet) → Contains stands.gone p → Contains (packets h) p
gone_has held c h stands p has =
    turned_has (packets h) p (subst (λ (ps : List Packet). Contains ps p) (sym stands.parts) (Contains-append_left stands.gone stands.kept p has))

-- what holds of each packet of the history holds of each that is held
pub each_kept : (P : Packet → Type 0) (held : Held) (c : Settings) (h : List Event) (stands : StandsFor held c h) → ((p : Packet) → Contains (packets h) p → P p)
    → AllByRecursion P stands.kept
each_kept P held c h stands holds = of_each P stands.kept (λ p has. holds p (kept_has held c h stands p has))

asks_none : (asks other opened : Bool) → (opened ≡ true → (asks || other) ≡ false) → (asks && opened) ≡ false
asks_none true other true bare = let not_so : true ≡ false = bare refl in cc
asks_none true other false bare = refl
asks_none false other opened bare = refl

asks_not : (asks other opened : Bool) → (opened ≡ true → (other || asks) ≡ false) → (asks && opened) ≡ false
asks_not true true true bare = let not_so : true ≡ false = bare refl in cc
asks_not true false true bare = let not_so : true ≡ false = bare refl in cc
asks_not true other false bare = refl
asks_not false other opened bare = refl

-- none of those that left the queue is open and in flight
pub shed_grounded : (c : Settings) (h : List Event) (gone : List Packet) → AllByRecursion (IsShed c h) gone → AllByRecursion (λ p. (p.in_flight && opens c h p) ≡ false) gone
shed_grounded c h gone shed =
    each_weaker (IsShed c h) (λ p. (p.in_flight && opens c h p) ≡ false) (λ p is. asks_not p.in_flight p.eliciting (opens c h p) is.bare) gone shed

-- none is open and ack-eliciting
pub shed_unasked : (c : Settings) (h : List Event) (gone : List Packet) → AllByRecursion (IsShed c h) gone → AllByRecursion (λ p. (p.eliciting && opens c h p) ≡ false) gone
shed_unasked c h gone shed =
    each_weaker (IsShed c h) (λ p. (p.eliciting && opens c h p) ≡ false) (λ p is. asks_none p.eliciting p.in_flight (opens c h p) is.bare) gone shed

-- none is owed
pub shed_free : (c : Settings) (h : List Event) (gone : List Packet) → AllByRecursion (IsShed c h) gone → AllByRecursion (λ p. owes c h p ≡ false) gone
shed_free c h gone shed = each_weaker (IsShed c h) (λ p. owes c h p ≡ false) (λ p is. is.owed) gone shed

-- in a tolerated run one that was open after an event was open before it
pub opened_before : (c : Settings) (e : Event) (h : List Event) → IsToleratedRun c (e ∷ h) → (p : Packet) → Contains (packets h) p → opens c (e ∷ h) p ≡ true → opens c h p ≡ true
opened_before c e h run p has opened = true_from_ne_false (opens c h p) (λ shut. both_ways (opens c (e ∷ h) p) (closed_stays c e h run p has shut) opened)

still_shed : (c : Settings) (e : Event) (h : List Event) → IsToleratedRun c (e ∷ h) → (p : Packet) → Contains (packets h) p → IsShed c h p → IsShed c (e ∷ h) p
still_shed c e h run p has shed = record {
  owed = false_from_ne_true (owes c (e ∷ h) p) (λ found. both_ways (p.in_flight && opens c h p) (asks_not p.in_flight p.eliciting (opens c h p) shed.bare) (owed_was_flying c e h run p has found));
  bare = λ opened. shed.bare (opened_before c e h run p has opened);
}

-- in a tolerated run those that left the queue may be left out also after one more event
pub shed_stay : (c : Settings) (e : Event) (h : List Event) → IsToleratedRun c (e ∷ h) → (held : Held) (stands : StandsFor held c h) → AllByRecursion (IsShed c (e ∷ h)) stands.gone
shed_stay c e h run held stands = of_each (IsShed c (e ∷ h)) stands.gone (λ p has.
    still_shed c e h run p (gone_has held c h stands p has) (at_one (IsShed c h) stands.gone p stands.shed has))

-- ---- those that were set aside

-- as they are held: of the space, open and not in flight
pub record IsStray (s : Space) (q : SentPacket) : Type 0 where
  pub here : q.space ≡ s
  pub opened : is_open q.fate ≡ true
  pub grounded : q.in_flight ≡ false

bare_parts : (eliciting in_flight : Bool) → (eliciting || in_flight) ≡ false → in_flight ≡ false
bare_parts true in_flight bare = cc
bare_parts false in_flight bare = bare

pub are_strays : (held : Held) (c : Settings) (h : List Event) (stands : StandsFor held c h) (s : Space) → AllByRecursion (IsStray s) (of_space s held.strays)
are_strays held c h stands s =
    subst (λ (qs : List SentPacket). AllByRecursion (IsStray s) qs) (sym (stands.strays_are s))
    (each_of_map (IsStray s) (sent_of c h) (filter (is_open_of c h s) stands.gone) (of_each (λ p. IsStray s (sent_of c h p)) (filter (is_open_of c h s) stands.gone) (λ p has.
    let part = part_is (is_open_of c h s) stands.gone p has in
    let tests = and_parts (is_of s p) (opens c h p) part.1 in
    let shed : IsShed c h p = at_one (IsShed c h) stands.gone p stands.shed part.0 in
    record {
      here = sym (is_space_is s p.space tests.0);
      opened = is_open_told c h p ∙ tests.1;
      grounded = bare_parts p.eliciting p.in_flight (shed.bare tests.1);
    })))

still_by : (of before after : Bool) → (after ≡ true → before ≡ true) → ((of && before) && after) ≡ (of && after)
still_by true true true goes = refl
still_by true false true goes = let not_so : false ≡ true = goes refl in cc
still_by true true false goes = refl
still_by true false false goes = refl
still_by false before after goes = refl

-- what a step makes of them, of which those that are open stay
pub strays_after : (c : Settings) (e : Event) (h : List Event) → IsToleratedRun c (e ∷ h) → (step : SentPacket → SentPacket) → ((p : Packet) → Contains (packets h) p → step (sent_of c h p) ≡ sent_of c (e ∷ h) p)
    → (held : Held) (stands : StandsFor held c h) (s : Space) (after : List SentPacket) → after ≡ filter (λ q. is_open q.fate) (map step (of_space s held.strays))
    → after ≡ map (sent_of c (e ∷ h)) (filter (is_open_of c (e ∷ h) s) stands.gone)
strays_after c e h run step steps held stands s after is =
    let part = filter (is_open_of c h s) stands.gone in
    is
    ∙ (ap (λ qs. filter (λ q. is_open q.fate) (map step qs)) (stands.strays_are s)
    ∙ (ap (filter (λ q. is_open q.fate)) (map_fused step (sent_of c h) (sent_of c (e ∷ h)) part
    (of_each (λ p. step (sent_of c h p) ≡ sent_of c (e ∷ h) p) part (λ p has. steps p (gone_has held c h stands p (part_is (is_open_of c h s) stands.gone p has).0))))
    ∙ (filter_of_map (λ q. is_open q.fate) (sent_of c (e ∷ h)) (opens c (e ∷ h)) part (each_value (λ p. is_open (sent_of c (e ∷ h) p).fate ≡ opens c (e ∷ h) p) (is_open_told c (e ∷ h)) part)
    ∙ ap (map (sent_of c (e ∷ h))) (sym (part_of_part (is_open_of c h s) (opens c (e ∷ h)) stands.gone)
    ∙ same_part (λ p. is_open_of c h s p && opens c (e ∷ h) p) (is_open_of c (e ∷ h) s) stands.gone
    (of_each (λ p. (is_open_of c h s p && opens c (e ∷ h) p) ≡ is_open_of c (e ∷ h) s p) stands.gone
    (λ p has. still_by (is_of s p) (opens c h p) (opens c (e ∷ h) p) (opened_before c e h run p (gone_has held c h stands p has))))))))

-- ---- one more event

-- in a tolerated run, after an event that sends no packet, the packets held stand for the history, where each that stands for a packet of it
-- was replaced by the one that does so after the event
pub stands_after : (c : Settings) (e : Event) (h : List Event) → IsToleratedRun c (e ∷ h) → packets (e ∷ h) ≡ packets h → (step : SentPacket → SentPacket)
    → ((p : Packet) → Contains (packets h) p → step (sent_of c h p) ≡ sent_of c (e ∷ h) p)
    → (old new : Held) → StandsFor old c h → new.dropped ≡ old.dropped → new.packets ≡ map step old.packets
    → ((s : Space) → of_space s new.strays ≡ filter (λ q. is_open q.fate) (map step (of_space s old.strays))) → StandsFor new c (e ∷ h)
stands_after c e h run same step steps old new stands dropped_is packets_is strays_are = record {
  gone = stands.gone;
  kept = stands.kept;
  parts = ap reverse same ∙ stands.parts;
  place = dropped_is ∙ stands.place;
  packets_are = packets_is ∙ (ap (map step) stands.packets_are
      ∙ map_fused step (sent_of c h) (sent_of c (e ∷ h)) stands.kept (each_kept (λ p. step (sent_of c h p) ≡ sent_of c (e ∷ h) p) old c h stands steps));
  shed = shed_stay c e h run old stands;
  strays_are = λ s. strays_after c e h run step steps old stands s (of_space s new.strays) (strays_are s);
}

-- ---- before any event

none_at : (s : Space) → of_space s no_strays ≡ []
none_at Initial = refl
none_at Handshake = refl
none_at App = refl

-- no packets stand for no events
pub stands_start : (c : Settings) (held : Held) → held ≡ record { dropped = 0; packets = []; strays = no_strays } → StandsFor held c []
stands_start c held is = record {
  gone = [];
  kept = [];
  parts = refl;
  place = ap (λ (k : Held). k.dropped) is;
  packets_are = ap (λ (k : Held). k.packets) is;
  shed = tt;
  strays_are = λ s. ap (λ (k : Held). of_space s k.strays) is ∙ none_at s;
}

-- ---- nothing is owed

-- a packet of the history is not owed where none is
pub none_owes : (c : Settings) (h : List Event) → is_some_packet (owed c h) ≡ false → (p : Packet) → Contains (packets h) p → owes c h p ≡ false
none_owes c h none p has = false_from_ne_true (owes c h p) (λ is. both_ways (is_some_packet (owed c h)) none (has_some (owed c h) p (owed_has c h p has is)))

-- in a tolerated run, where nothing is owed, no packet is held as owed
pub none_held_owed : (c : Settings) (h : List Event) → IsToleratedRun c h → (held : Held) → StandsFor held c h → is_some_packet (owed c h) ≡ false
    → AllByRecursion (λ p. is_owed p.fate ≡ false) held.packets
none_held_owed c h run held stands none =
    subst (λ (ps : List SentPacket). AllByRecursion (λ p. is_owed p.fate ≡ false) ps) (sym stands.packets_are)
    (each_of_map (λ q. is_owed q.fate ≡ false) (sent_of c h) stands.kept
    (each_kept (λ p. is_owed (sent_of c h p).fate ≡ false) held c h stands (λ p has. is_owed_told c h run p ∙ none_owes c h none p has)))
