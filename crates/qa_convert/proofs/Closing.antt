-- What is left of a group in which a packet closes the connection.
use Rattle.std.proofs.Common.{◌≡◌, ◌∙◌, inl, inr, Global, List, [], ◌∷◌, ◌++◌, Bool, true, false, cond, Option, Some, None, Vec, append_assoc, append-nil, refl, sym, ap, map}
use Rattle.std.specs.List.{list_all, list_any}
use Rattle.std.specs.Prelude.{◌&&◌, ◌||◌}
use Rattle.std.proofs.lemmas.List.{map-append}
use Rattle.qa_convert.specs.Gathering.{HasEnded, IsCut, IsLeft, IsOfKept, IsOfPackets, IsSingle, begins_with_close, is_single}
use Rattle.qa_convert.specs.Groups.{EndWithClose, IsGroup, UpToClose, begin_closing, closes, events_about, events_of, has_some, is_beside, is_by_peer, is_by_sender, is_of_sent, is_report, lost, received, sends_close, sent}
use Rattle.qa_convert.specs.declared.event.LoggedEvent.{LoggedEvent}
use Rattle.qa_convert.specs.declared.groups.About.{About}
use Rattle.qa_convert.specs.declared.groups.About.TheVariants as about
use Rattle.qa_convert.specs.declared.groups.Group.{Group}
use Rattle.qa_convert.specs.declared.groups.PacketAt.{PacketAt}

abbrev any_closes : List PacketAt → Bool
any_closes ps = list_any (λ (p : PacketAt). p.packet.content.closes) ps

-- ---- packets that were sent

begin_sent : (first : Bool) (p : PacketAt) (es : List LoggedEvent) → p.packet.content.closes ≡ true → begin_closing first (sent p ∷ es) ≡ true
begin_sent first p [] is = is
begin_sent first p (e ∷ es) is = rw is refl

or_both : (a b c : Bool) → b ≡ true → c ≡ true → (a || (b && c)) ≡ true
or_both true b c is_b is_c = refl
or_both false b c is_b is_c = rw (is_b, is_c) refl

begin_reported : (r : LoggedEvent) (p : PacketAt) → is_report r.said ≡ true → p.packet.content.closes ≡ true → begin_closing true (r ∷ sent p ∷ []) ≡ true
begin_reported r p report closes = or_both (sends_close r.said) (is_report r.said) p.packet.content.closes report closes

front_cut : (ps beside front back : List LoggedEvent) → ps ≡ front ++ back → ps ++ beside ≡ front ++ (back ++ beside)
front_cut ps beside front back are = ap (λ xs. xs ++ beside) are ∙ append_assoc front back beside

-- the report is in front of the packet: nothing is left
single_up : (kept rest : List PacketAt) (beside : List LoggedEvent) → any_closes kept ≡ false → begins_with_close rest ≡ true → any_closes (kept ++ rest) ≡ true
    → is_single (kept ++ rest) beside ≡ true → UpToClose true (beside ++ map sent (kept ++ rest)) (map sent kept)
single_up [] [] beside none begins any single = absurd (let no : false ≡ true = any in cc)
single_up [] (p ∷ []) [] none begins any single = record { gone = sent p ∷ []; are = refl; close = inl (begin_sent true p [] begins) }
single_up [] (p ∷ []) (r ∷ []) none begins any single = record { gone = r ∷ sent p ∷ []; are = refl; close = inl (begin_reported r p single begins) }
single_up [] (p ∷ []) (r ∷ s ∷ es) none begins any single = absurd (let no : false ≡ true = single in cc)
single_up [] (p ∷ q ∷ rest) beside none begins any single = absurd (let no : false ≡ true = single in cc)
single_up (k ∷ []) [] beside none begins any single = absurd (let no : false ≡ true = sym none ∙ any in cc)
single_up (k ∷ []) (p ∷ rest) beside none begins any single = absurd (let no : false ≡ true = single in cc)
single_up (k ∷ l ∷ kept) rest beside none begins any single = absurd (let no : false ≡ true = single in cc)

sent_up : (kept rest : List PacketAt) (beside : List LoggedEvent) → any_closes kept ≡ false → begins_with_close rest ≡ true → any_closes (kept ++ rest) ≡ true
    → UpToClose false (map sent (kept ++ rest) ++ beside) (map sent kept)
sent_up kept [] beside none begins any = absurd (let no : false ≡ true = sym none ∙ rw append-nil at any in cc)
sent_up kept (p ∷ rest) beside none begins any = record {
  gone = map sent (p ∷ rest) ++ beside;
  are = front_cut (map sent (kept ++ p ∷ rest)) beside (map sent kept) (map sent (p ∷ rest)) (map-append sent kept (p ∷ rest));
  close = inl (begin_sent false p (map sent rest ++ beside) begins);
}

abbrev told_sent : Bool → List PacketAt → List LoggedEvent → List LoggedEvent
told_sent first ps beside = cond (first && true) (beside ++ map sent ps) (map sent ps ++ beside)

cut_up : (first : Bool) (kept rest : List PacketAt) (beside : List LoggedEvent) → any_closes kept ≡ false → begins_with_close rest ≡ true → any_closes (kept ++ rest) ≡ true
    → (first ≡ true → is_single (kept ++ rest) beside ≡ true) → UpToClose first (told_sent first (kept ++ rest) beside) (map sent kept)
cut_up true kept rest beside none begins any single = single_up kept rest beside none begins any (single refl)
cut_up false kept rest beside none begins any single = sent_up kept rest beside none begins any

-- what a group of packets tells
packets_tell : (first : Bool) (a : About) (beside : List LoggedEvent) (packets : List PacketAt) → IsOfPackets packets a → beside ≡ []
    → cond (first && is_of_sent a) (beside ++ events_about a) (events_about a ++ beside) ≡ map sent packets
packets_tell true (about.Sent ps) beside packets is none = rw (none, is) refl
packets_tell false (about.Sent ps) beside packets is none = rw (none, is) (append-nil (map sent packets))
packets_tell first (about.Received p ls) beside packets is none = absurd is
packets_tell first (about.Lost ls) beside packets is none = absurd is
packets_tell first (about.Expired at timer) beside packets is none = absurd is
packets_tell first (about.Other e) beside packets is none = absurd is

packets_ended : (a : About) (beside : List LoggedEvent) (packets : List PacketAt) → IsOfPackets packets a → beside ≡ [] → has_some packets ≡ true → any_closes packets ≡ false
    → HasEnded true a beside
packets_ended (about.Sent ps) beside packets is none some unclosed = record {
  place = record { about = rw is some; beside = rw none refl };
  unsent = rw is unclosed;
  unclosed = λ no. refl;
}
packets_ended (about.Received p ls) beside packets is none some unclosed = absurd is
packets_ended (about.Lost ls) beside packets is none some unclosed = absurd is
packets_ended (about.Expired at timer) beside packets is none some unclosed = absurd is
packets_ended (about.Other e) beside packets is none some unclosed = absurd is

kept_left : (first : Bool) (es : List LoggedEvent) (packets : List PacketAt) (left : Option Group) → IsOfKept packets left → any_closes packets ≡ false
    → UpToClose first es (map sent packets) → IsLeft first es left
kept_left first es packets None is unclosed up = record { last = tt; kept = rw is at up }
kept_left first es packets (Some g) is unclosed up = record {
  last = packets_ended g.about g.beside.items packets is.0 is.1 is.2 unclosed;
  kept = rw (packets_tell first g.about g.beside.items packets is.0 is.1) up;
}

pub sent_left : (first : Bool) (ps : List PacketAt) (beside : List LoggedEvent) (left : Option Group) → any_closes ps ≡ true → (first ≡ true → is_single ps beside ≡ true)
    → IsCut ps left → IsLeft first (told_sent first ps beside) left
sent_left first ps beside left any single is =
    let cut = is.cut in
    let up = cut_up first is.kept cut.rest beside cut.unclosed cut.close (rw cut.are at any) (λ first_is. rw (sym cut.are) (single first_is)) in
    kept_left first (told_sent first ps beside) is.kept left is.group cut.unclosed (rw cut.are up)

-- ---- a packet that came

up_to_all : (first : Bool) (es : List LoggedEvent) → EndWithClose es → UpToClose first es es
up_to_all first es end = record { gone = []; are = sym (append-nil es); close = inr end }

not_first : (first : Bool) (a b : List LoggedEvent) → cond (first && false) a b ≡ b
not_first true a b = refl
not_first false a b = refl

come_end : (first : Bool) (a : About) (beside : List LoggedEvent) → is_of_sent a ≡ false → (is_by_sender a || is_by_peer a) ≡ true
    → list_all (λ (e : LoggedEvent). is_beside e.said) beside ≡ true
    → EndWithClose (cond (first && is_of_sent a) (beside ++ events_about a) (events_about a ++ beside))
come_end first (about.Sent ps) beside not closes fit = absurd (let no : false ≡ true = sym not in cc)
come_end first (about.Received p ls) beside not closes fit =
    rw (not_first first (beside ++ (map lost ls.items ++ received p ∷ [])) ((map lost ls.items ++ received p ∷ []) ++ beside)) (record {
      front = map lost ls.items;
      packet = received p;
      beside = beside;
      are = append_assoc (map lost ls.items) (received p ∷ []) beside;
      brings = closes;
      fit = fit;
    })
come_end first (about.Lost ls) beside not closes fit = absurd (let no : false ≡ true = closes in cc)
come_end first (about.Expired at timer) beside not closes fit = absurd (let no : false ≡ true = closes in cc)
come_end first (about.Other e) beside not closes fit = absurd (let no : false ≡ true = closes in cc)

unsent_by : (a : About) → is_of_sent a ≡ false → is_by_sender a ≡ false
unsent_by (about.Sent ps) not = cc
unsent_by (about.Received p ls) not = refl
unsent_by (about.Lost ls) not = refl
unsent_by (about.Expired at timer) not = refl
unsent_by (about.Other e) not = refl

pub come_left : (first : Bool) (g : Group) → is_of_sent g.about ≡ false → closes g ≡ true → IsGroup g → IsLeft first (events_of first g) (Some g)
come_left first g not closes group = record {
  last = record { place = group; unsent = unsent_by g.about not; unclosed = λ no. cc };
  kept = up_to_all first (events_of first g) (come_end first g.about g.beside.items not closes group.beside);
}

pub not_sent : (a : About) → ((ps : Vec PacketAt Global) → a ≡ about.Sent ps → ⊥) → is_of_sent a ≡ false
not_sent (about.Sent ps) is = absurd (is ps refl)
not_sent (about.Received p ls) is = refl
not_sent (about.Lost ls) is = refl
not_sent (about.Expired at timer) is = refl
not_sent (about.Other e) is = refl

pub single_first : (first : Bool) (ps : Vec PacketAt Global) (beside : List LoggedEvent) → IsSingle first (about.Sent ps) beside → first ≡ true → is_single ps.items beside ≡ true
single_first true ps beside single is = single
single_first false ps beside single is = absurd (let no : false ≡ true = is in cc)
