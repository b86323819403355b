-- What the lines of groups tell, one group behind another.
use Rattle.std.proofs.Common.{◌≡◌, ◌∙◌, ◌++◌, Bool, List, [], ◌∷◌, append-nil, append_assoc, ap, arith, inl, inr, refl, sym, take}
use Rattle.std.proofs.lemmas.Grind.{flat_map-append}
use Rattle.qa_base.specs.declared.per_space.PerSpace.{PerSpace}
use Rattle.qa_convert.proofs.Losses.{leaves_more, leaves_then, names_only, only_none}
use Rattle.qa_convert.proofs.Keyed.{both_keys, tells_no_keys}
use Rattle.qa_convert.proofs.Sent.{lines_then, sized_and}
use Rattle.qa_convert.specs.AckDelays.{AddsAllOrNone, Answers}
use Rattle.qa_convert.specs.GroupLines.{AreAcked, AreOfGroup, AreOfPacket, TellsAcks, TellsOf, TellsSent, lost_by, lost_in_front, lost_of}
use Rattle.qa_convert.specs.Losing.{Declares, NamesOnly, lost_in, packets_of}
use Rattle.qa_convert.specs.KeyLines.{TellsKeys, keys_in}
use Rattle.qa_convert.specs.Rules.{Rules, rules_after}
use Rattle.qa_convert.specs.States.{decoding_after, stated, stated_in}
use Rattle.qa_convert.specs.Telling.{AckLine, AreLinesOf, Retired, SentLine, TimerLine, Told, Writes, sent_in, sent_of, sized}
use Rattle.qa_convert.specs.Timers.{AddsTimers, AreExpired, Expires, expired_in, expired_of}
use Rattle.qa_convert.specs.declared.bare.Bare.{Bare}
use Rattle.qa_convert.specs.declared.decoding.Decoding.{Decoding}
use Rattle.qa_convert.specs.declared.event.Expiry.{Expiry}
use Rattle.qa_convert.specs.declared.event.LoggedEvent.{LoggedEvent}
use Rattle.qa_convert.specs.declared.event.LostPacket.{LostPacket}
use Rattle.qa_convert.specs.declared.groups.About.{About}
use Rattle.qa_convert.specs.declared.groups.About.TheVariants as about
use Rattle.qa_convert.specs.declared.groups.Group.{Group}
use Rattle.qa_convert.specs.declared.packet.LoggedPacket.{LoggedPacket}

-- ---- no group

pub tells_none : (r : Rules) (before after : Told) → after ≡ before → TellsOf r [] before after
tells_none r before after same = rw same (record {
  sent = ([], sym (append-nil before.sent), refl);
  acks = ([], sym (append-nil before.acks), refl);
  lost = only_none [] [] before before (λ s n. omega arith) refl;
  timers = ([], sym (append-nil before.timers), refl);
  keys = tells_no_keys r.keys before before refl;
})

-- ---- one group

abbrev SentOf : Bool → Bool → About → Told → Told → Type 0
SentOf s g what before after = (lines : List SentLine) × (after.sent ≡ before.sent ++ lines) × AreLinesOf s g (sized (sent_in what ++ [])) lines

no_sent : (before after : Told) → after.sent ≡ before.sent → after.sent ≡ before.sent ++ []
no_sent before after same = same ∙ sym (append-nil before.sent)

sent_one : (s g : Bool) (retired : Retired) (what : About) (before after : Told) → Writes s g retired what before after → SentOf s g what before after
sent_one s g retired (about.Sent ps) before after writes = (writes.lines, ap (λ (t : Told). t.sent) writes.told, rw (append-nil ps.items) writes.are)
sent_one s g retired (about.Received p ls) before after same = ([], no_sent before after same, refl)
sent_one s g retired (about.Lost ls) before after same = ([], no_sent before after same, refl)
sent_one s g retired (about.Expired at timer) before after same = ([], no_sent before after same, refl)
sent_one s g retired (about.Other e) before after same = ([], no_sent before after same, refl)

abbrev AcksOf : Decoding → About → List LoggedEvent → Told → Told → Type 0
AcksOf d what beside before after = (lines : List AckLine) × (after.acks ≡ before.acks ++ lines) × AreOfGroup d what beside lines

no_acks : (before after : Told) → after.acks ≡ before.acks → after.acks ≡ before.acks ++ []
no_acks before after same = same ∙ sym (append-nil before.acks)

come_one : (d : Decoding) (p : LoggedPacket) (before after : Told) → AddsAllOrNone d p before after
    → (lines : List AckLine) × (after.acks ≡ before.acks ++ lines) × AreOfPacket d p lines
come_one d p before after (inl all) = (all.lines, all.told, inr all.are)
come_one d p before after (inr none) = ([], no_acks before after none, inl refl)

acks_one : (d : Decoding) (what : About) (beside : List LoggedEvent) (before after : Told) → Answers d what beside before after → AcksOf d what beside before after
acks_one d (about.Sent ps) beside before after same = ([], no_acks before after same, refl)
acks_one d (about.Received p ls) beside before after all =
    let one = come_one (stated (take all.0 beside) d) p.packet before after all.1 in (one.0, one.1, (all.0, one.2))
acks_one d (about.Lost ls) beside before after same = ([], no_acks before after same, refl)
acks_one d (about.Expired at timer) beside before after same = ([], no_acks before after same, refl)
acks_one d (about.Other e) beside before after same = ([], no_acks before after same, refl)

lost_one : (bare : PerSpace Bare) (what : About) (es : List LoggedEvent) (before after : Told) → Declares bare what es before after
    → NamesOnly (lost_in_front what ++ lost_in es) before after
lost_one bare (about.Sent ps) es before after same = only_none (lost_in es) [] before after (λ s n. omega arith) same
lost_one bare (about.Received p ls) es before after only = only
lost_one bare (about.Lost ls) es before after all = names_only bare (packets_of ls.items ++ lost_in es) before after all
lost_one bare (about.Expired at timer) es before after all = names_only bare (lost_in es) before after all
lost_one bare (about.Other e) es before after same = only_none (lost_in es) [] before after (λ s n. omega arith) same

no_timers : (before after : Told) → after.timers ≡ before.timers → AddsTimers [] before after
no_timers before after same = ([], same ∙ sym (append-nil before.timers), refl)

timers_one : (what : About) (before after : Told) → Expires what before after → AddsTimers (expired_in what ++ []) before after
timers_one (about.Sent ps) before after same = no_timers before after same
timers_one (about.Received p ls) before after same = no_timers before after same
timers_one (about.Lost ls) before after same = no_timers before after same
timers_one (about.Expired at e) before after adds = adds
timers_one (about.Other e) before after same = no_timers before after same

pub tells_one : (r : Rules) (bare : PerSpace Bare) (g : Group) (before after : Told) → Writes r.settles r.by_growth r.keys.retired g.about before after
    → Answers r.decoding g.about g.beside.items before after → Declares bare g.about g.beside.items before after → Expires g.about before after
    → TellsKeys (keys_in g.about r.keys) before after → TellsOf r (g ∷ []) before after
tells_one r bare g before after writes acks lost timers keys = record {
  sent = sent_one r.settles r.by_growth r.keys.retired g.about before after writes;
  acks = let one = acks_one r.decoding g.about g.beside.items before after acks in (one.0, one.1, (one.0, [], sym (append-nil one.0), one.2, refl));
  lost = rw (append-nil (lost_by g)) (lost_one bare g.about g.beside.items before after lost);
  timers = timers_one g.about before after timers;
  keys = keys;
}

-- ---- groups behind others

both_sent : (r : Rules) (gs hs : List Group) (a b c : Told) → TellsSent r gs a b → TellsSent r hs b c → TellsSent r (gs ++ hs) a c
both_sent r gs hs a b c one two =
    let ks = one.0 in
    let ls = two.0 in (
      ks ++ ls,
      two.1 ∙ ap (λ xs. xs ++ ls) one.1 ∙ append_assoc a.sent ks ls,
      rw (flat_map-append (λ (g : Group). sent_in g.about) gs hs, sized_and (sent_of gs) (sent_of hs))
          (lines_then r.settles r.by_growth (sized (sent_of gs)) (sized (sent_of hs)) ks ls one.2 two.2),
    )

acked_then : (d : Decoding) (gs hs : List Group) (ks ls : List AckLine) → AreAcked d gs ks → AreAcked (decoding_after gs d) hs ls → AreAcked d (gs ++ hs) (ks ++ ls)
acked_then d [] hs ks ls none are = rw none are
acked_then d (g ∷ gs) hs ks ls all are =
    let first = all.0 in
    let more = all.1 in (
      first,
      more ++ ls,
      ap (λ xs. xs ++ ls) all.2 ∙ append_assoc first more ls,
      all.3,
      acked_then (stated_in g.about g.beside.items d) gs hs more ls all.4 are,
    )

both_acked : (d : Decoding) (gs hs : List Group) (a b c : Told) → TellsAcks d gs a b → TellsAcks (decoding_after gs d) hs b c → TellsAcks d (gs ++ hs) a c
both_acked d gs hs a b c one two =
    let ks = one.0 in
    let ls = two.0 in (
      ks ++ ls,
      two.1 ∙ ap (λ xs. xs ++ ls) one.1 ∙ append_assoc a.acks ks ls,
      acked_then d gs hs ks ls one.2 two.2,
    )

both_lost : (ps qs : List LostPacket) (a b c : Told) → NamesOnly ps a b → NamesOnly qs b c → NamesOnly (ps ++ qs) a c
both_lost ps qs a b c one two = leaves_then (ps ++ qs) qs [] a b c (leaves_more ps [] qs a b one) two

expired_then : (es fs : List Expiry) (ks ls : List TimerLine) → AreExpired es ks → AreExpired fs ls → AreExpired (es ++ fs) (ks ++ ls)
expired_then [] fs ks ls none are = rw none are
expired_then (e ∷ es) fs ks ls (inl left) are = inl (expired_then es fs ks ls left are)
expired_then (e ∷ es) fs ks ls (inr one) are =
    let more = one.1 in inr (one.0, more ++ ls, ap (λ xs. xs ++ ls) one.2, one.3, expired_then es fs more ls one.4 are)

both_timers : (gs hs : List Group) (a b c : Told) → AddsTimers (expired_of gs) a b → AddsTimers (expired_of hs) b c → AddsTimers (expired_of (gs ++ hs)) a c
both_timers gs hs a b c one two =
    let ks = one.0 in
    let ls = two.0 in (
      ks ++ ls,
      two.1 ∙ ap (λ xs. xs ++ ls) one.1 ∙ append_assoc a.timers ks ls,
      rw (flat_map-append (λ (g : Group). expired_in g.about) gs hs) (expired_then (expired_of gs) (expired_of hs) ks ls one.2 two.2),
    )

pub both_tell : (r : Rules) (gs hs : List Group) (a b c : Told) → TellsOf r gs a b → TellsOf (rules_after gs r) hs b c → TellsOf r (gs ++ hs) a c
both_tell r gs hs a b c one two = record {
  sent = both_sent r gs hs a b c one.sent two.sent;
  acks = both_acked r.decoding gs hs a b c one.acks two.acks;
  lost = rw (flat_map-append lost_by gs hs) (both_lost (lost_of gs) (lost_of hs) a b c one.lost two.lost);
  timers = both_timers gs hs a b c one.timers two.timers;
  keys = both_keys gs hs r.keys a b c one.keys two.keys;
}
