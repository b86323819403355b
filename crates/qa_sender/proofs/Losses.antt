-- What is asked of the packets held that are owed is what the definitions ask of those that are lost by the last event.
use Rattle.std.proofs.Common.{◌≡◌, ◌∙◌, ◌≤◌, ℕ, List, [], ◌∷◌, ◌++◌, length, map, Bool, true, false, ◌&&◌, ◌||◌, Option, Some, None, refl, sym, ap, subst, arith, count_by, filter, reverse}
use Rattle.std.proofs.lemmas.Bool.{and_left, and_parts, and_right, both_ways, or_parts, or_right, true_from_ne_false}
use Rattle.std.proofs.lemmas.List.{length-map, length-reverse, map_push}
use Rattle.std.proofs.lemmas.List.Elements.{filter-append}
use Rattle.std.proofs.lemmas.List.Sums.{length-filter}
use Rattle.std.specs.List.{AllByRecursion, list_any}
use Rattle.std.specs.Prelude.{if◌then◌else◌, nat_lt, not}
use Rattle.qa_base.specs.declared.event.Event.{Event}
use Rattle.qa_base.specs.declared.event.Event.TheVariants.{Lost}
use Rattle.qa_base.specs.declared.space.Space.{Space}
use Rattle.qa_base.specs.machine.Breaches.{numbers}
use Rattle.qa_base.specs.machine.Detection.{all_at, is_after, is_at, is_end as ends, is_far_below, is_found, is_left, is_old, is_unsettled, may_be_spared}
use Rattle.qa_base.specs.machine.Estimates.{sampled}
use Rattle.qa_base.specs.machine.Loss.{declared, detection, is_free, is_nameable, is_owed as owes, is_persistent, owed}
use Rattle.qa_base.specs.machine.Packets.{Packet, packets, is_acknowledged as covers, is_of, is_some_packet, largest_acknowledged}
use Rattle.qa_base.specs.machine.Reno.{latest_sent, sent_mark}
use Rattle.qa_base.specs.machine.Rtt.{Estimate, persistent_after}
use Rattle.qa_base.specs.machine.Violations.{IsToleratedRun}
use Rattle.qa_base.specs.values.Events.{declares_lost, is_named, is_space}
use Rattle.qa_base.specs.values.Settings.{Settings, granularity, is_may}
use Rattle.qa_base.proofs.machine.Declared.{declared_is}
use Rattle.qa_sender.proofs.connection_lemmas.Lists.{any_of_map, any_turned, each_value, filter_of_map, map_fused, map_turned}
use Rattle.qa_sender.specs.connection.Steps.{last_sent}
use Rattle.qa_base.proofs.history.ToleratedRuns.{in_order}
use Rattle.qa_base.proofs.history.Forward.{persistent_is_forward}
use Rattle.qa_base.proofs.history.LostNow.{lost_now_part}
use Rattle.qa_base.proofs.history.Pairs.{each_weaker, none_left, of_each, part_of_part, part_turned, turned, two_of_part, two_weaker}
use Rattle.qa_base.proofs.history.Settled.{nameable_space}
use Rattle.qa_base.specs.history.Among.{counts_as_end, finds_apart}
use Rattle.qa_base.specs.history.Declared.{is_lost_now, is_named_free}
use Rattle.qa_base.specs.history.Sequence.{EachTwo, WasSentBefore}
use Rattle.qa_sender.proofs.Carrying.{shed_free}
use Rattle.qa_sender.proofs.Events.{some_by_length}
use Rattle.qa_sender.proofs.Fates.{free_opened, is_acknowledged_told, is_owed_told, same_as_line}
use Rattle.qa_sender.proofs.Nameable.{both_weaker, dropped_unnamed, part_of_kept}
use Rattle.qa_sender.specs.Losing.{HoldsLosses, LosesWhatIsOwed, told}
use Rattle.qa_sender.specs.Standing.{StandsFor, replaced}
use Rattle.qa_sent_packets.specs.Fates.{is_acknowledged, is_owed}
use Rattle.qa_sent_packets.specs.Free.{is_free_by, taken_by}
use Rattle.qa_sent_packets.specs.Held.{Held}
use Rattle.qa_sent_packets.specs.Steps.{with_fate}
use Rattle.qa_sent_packets.specs.Told.{fate, sent_of}
use Rattle.qa_sent_packets.specs.Walks.{are_apart, earliest, is_end, is_far_from, last_owed, mark_of, owed_numbers, owed_of}
use Rattle.qa_sent_packets.specs.declared.fate.Fate.{Fate}
use Rattle.qa_sent_packets.specs.declared.fate.Fate.TheVariants.{Open, Owed}
use Rattle.qa_sent_packets.specs.declared.free.FreePackets.{FreePackets}
use Rattle.qa_sent_packets.specs.declared.packet.SentPacket.{SentPacket}

-- ---- the packets that are owed

found_part : (c : Settings) (h : List Event) (d : Option (Space × ℕ)) → filter (λ p. is_at (is_found c (sampled c h) h) p d) (packets h) ≡ all_at (is_found c (sampled c h) h) h d
found_part c h None = none_left (λ p. false) (packets h) (of_each (λ p. false ≡ false) (packets h) (λ p has. refl))
found_part c h (Some (s, now)) = part_of_part (is_of s) (is_found c (sampled c h) h now s) (packets h)

-- they stand among the packets that are held, in the order of sending
pub owed_of_kept : (held : Held) (c : Settings) (h : List Event) (stands : StandsFor held c h) → reverse (owed c h) ≡ filter (owes c h) stands.kept
owed_of_kept held c h stands =
    ap reverse (sym (found_part c h (detection c h)))
    ∙ (sym (part_turned (owes c h) (packets h))
    ∙ (ap (filter (owes c h)) stands.parts
    ∙ (filter-append (owes c h) stands.gone stands.kept
    ∙ ap (λ ps. ps ++ filter (owes c h) stands.kept) (none_left (owes c h) stands.gone (shed_free c h stands.gone stands.shed)))))

-- in a tolerated run the packets held that are owed are those that the last event found lost, in the order of sending
pub owed_stand : (c : Settings) (h : List Event) → IsToleratedRun c h → (held : Held) → StandsFor held c h → owed_of held.packets ≡ map (sent_of c h) (reverse (owed c h))
owed_stand c h run held stands =
    ap owed_of stands.packets_are
    ∙ (filter_of_map (λ p. is_owed p.fate) (sent_of c h) (owes c h) stands.kept
    (each_value (λ p. is_owed (sent_of c h p).fate ≡ owes c h p) (is_owed_told c h run) stands.kept)
    ∙ ap (map (sent_of c h)) (sym (owed_of_kept held c h stands)))

-- they are as many
pub owed_are_counted : (c : Settings) (h : List Event) → IsToleratedRun c h → (held : Held) → StandsFor held c h → length (owed c h) ≡ count_by (λ p. is_owed p.fate) held.packets
owed_are_counted c h run held stands =
    sym (length-reverse (owed c h))
    ∙ (sym (length-map (reverse (owed c h)) (sent_of c h))
    ∙ (ap length (sym (owed_stand c h run held stands)) ∙ length-filter (λ p. is_owed p.fate) held.packets))

-- something is owed exactly where there are such
pub some_owed_is_counted : (c : Settings) (h : List Event) → IsToleratedRun c h → (held : Held) → StandsFor held c h
    → is_some_packet (owed c h) ≡ nat_lt 0 (count_by (λ p. is_owed p.fate) held.packets)
some_owed_is_counted c h run held stands = some_by_length (owed c h) ∙ ap (nat_lt 0) (owed_are_counted c h run held stands)

-- ---- the numbers that are owed

-- in a tolerated run the numbers of the packets held that are owed are those that the last event found lost, in the order of sending
pub owed_numbers_stand : (c : Settings) (h : List Event) → IsToleratedRun c h → (held : Held) → StandsFor held c h → owed_numbers held.packets ≡ reverse (numbers (owed c h))
owed_numbers_stand c h run held stands =
    ap (map (λ (p : SentPacket). p.number)) (owed_stand c h run held stands)
    ∙ (map_fused (λ (p : SentPacket). p.number) (sent_of c h) (λ (p : Packet). p.number) (reverse (owed c h))
    (each_value (λ (p : Packet). p.number ≡ p.number) (λ p. refl) (reverse (owed c h)))
    ∙ map_turned (λ (p : Packet). p.number) (owed c h))

-- ---- what is lost by the last event

-- the packets held as owed are those, in the order of sending
lost_stand : (c : Settings) (h : List Event) (held : Held) (holds : HoldsLosses held c h) → owed_of held.packets ≡ map (λ p. told (holds.fates p) p) (reverse (declared c h))
lost_stand c h held holds =
    let show : Packet → SentPacket = λ p. told (holds.fates p) p in
    ap owed_of holds.packets_are
    ∙ (filter_of_map (λ p. is_owed p.fate) show (is_lost_now c h) holds.kept (each_value (λ p. is_owed (holds.fates p) ≡ is_lost_now c h p) holds.owed holds.kept)
    ∙ ap (map show) (sym (ap reverse (lost_now_part c h) ∙ part_of_kept (is_lost_now c h) h holds.gone holds.kept holds.parts holds.none)))

-- ---- when the last of them was sent

-- the mark of the last, or this one
abbrev last_of : Bool → Option ℕ → List SentPacket → Option ℕ
last_of o at [] = at
last_of o at (p ∷ ps) = last_of o (Some (mark_of o p)) ps

last_if : (o : Bool) (p : SentPacket) (ps : List SentPacket) (at : Option ℕ) (b : Bool) → last_of o (if b then Some (mark_of o p) else at) ps ≡ last_of o at (if b then p ∷ ps else ps)
last_if o p ps at true = refl
last_if o p ps at false = refl

last_is : (o : Bool) (at : Option ℕ) (ps : List SentPacket) → last_owed o at ps ≡ last_of o at (owed_of ps)
last_is o at [] = refl
last_is o at (p ∷ ps) = last_is o (if is_owed p.fate then Some (mark_of o p) else at) ps ∙ last_if o p (owed_of ps) at (is_owed p.fate)

last_pushed : (o : Bool) (at : Option ℕ) (ps : List SentPacket) (p : SentPacket) → last_of o at (ps ++ p ∷ []) ≡ Some (mark_of o p)
last_pushed o at [] p = refl
last_pushed o at (q ∷ ps) p = last_pushed o (Some (mark_of o q)) ps p

-- when the first was sent, by which recovery is told
abbrev mark_of_first : Settings → List Packet → ℕ
mark_of_first c [] = 0
mark_of_first c (p ∷ ps) = sent_mark c p

last_turned : (c : Settings) (fates : Packet → Fate) (ps : List Packet) → latest_sent c ps ≡ mark_of_first c ps
    → last_of c.options.recovery_by_order None (map (λ p. told (fates p) p) (reverse ps)) ≡ last_sent c ps
last_turned c fates [] latest = refl
last_turned c fates (p ∷ ps) latest =
    let o = c.options.recovery_by_order in
    let show : Packet → SentPacket = λ q. told (fates q) q in
    ap (λ qs. last_of o None (map show qs)) (turned p ps)
    ∙ (ap (last_of o None) (map_push show (reverse ps) p)
    ∙ (last_pushed o None (map show (reverse ps)) (show p) ∙ ap Some (sym latest)))

abbrev IsNoLater : Settings → Packet → Packet → Type 0
IsNoLater c p q = sent_mark c q ≤ sent_mark c p

-- what was sent before was sent no later, by times and by places
no_later_by : (by_order : Bool) (p q : Packet) → WasSentBefore p q → (if by_order then q.place else q.time) ≤ (if by_order then p.place else p.time)
no_later_by true p q before = let sooner = before.place in omega (arith, sooner)
no_later_by false p q before = before.time

sent_by : (c : Settings) (t : ℕ) (ps : List Packet) → AllByRecursion (λ q. sent_mark c q ≤ t) ps → latest_sent c ps ≤ t
sent_by c t [] all = omega arith
sent_by c t (p ∷ ps) all = let rest = sent_by c t ps all.1 in let here = all.0 in omega (arith, rest, here)

latest_first : (c : Settings) (ps : List Packet) → EachTwo (IsNoLater c) ps → latest_sent c ps ≡ mark_of_first c ps
latest_first c [] two = refl
latest_first c (p ∷ ps) two = let rest = sent_by c (sent_mark c p) ps two.0 in omega (arith, rest)

-- in a tolerated run the last that is lost by the last event is the first of them
latest_lost : (c : Settings) (h : List Event) → IsToleratedRun c h → latest_sent c (declared c h) ≡ mark_of_first c (declared c h)
latest_lost c h run =
    let two : EachTwo (IsNoLater c) (filter (is_lost_now c h) (packets h)) =
    two_of_part (IsNoLater c) (is_lost_now c h) (packets h) (two_weaker WasSentBefore (IsNoLater c) (no_later_by c.options.recovery_by_order) (packets h) (in_order c h run)) in
    subst (λ ps. latest_sent c ps ≡ mark_of_first c ps) (sym (lost_now_part c h)) (latest_first c (filter (is_lost_now c h) (packets h)) two)

-- in a tolerated run the last packet that is lost by the last event was sent when the last was that is held as owed
pub last_owed_is_held : (c : Settings) (h : List Event) → IsToleratedRun c h → (held : Held) → HoldsLosses held c h
    → last_owed c.options.recovery_by_order None held.packets ≡ last_sent c (declared c h)
last_owed_is_held c h run held holds =
    let o = c.options.recovery_by_order in
    last_is o None held.packets ∙ (ap (last_of o None) (lost_stand c h held holds) ∙ last_turned c holds.fates (declared c h) (latest_lost c h run))

-- ---- persistent congestion

front_step : (covered counts : Packet → Bool) (limit : ℕ) (p : Packet) (ps : List Packet) (shut : Bool) → covered p ≡ shut → counts p ≡ false
    → finds_apart covered counts limit None (p ∷ ps) ≡ finds_apart covered counts limit None ps
front_step covered counts limit p ps true is other = rw is refl
front_step covered counts limit p ps false is other = rw (is, other) refl

-- a front of packets that do not count needs no walk
front_dropped : (covered counts : Packet → Bool) (limit : ℕ) (gone kept : List Packet) → AllByRecursion (λ p. counts p ≡ false) gone
    → finds_apart covered counts limit None (gone ++ kept) ≡ finds_apart covered counts limit None kept
front_dropped covered counts limit [] kept none = refl
front_dropped covered counts limit (p ∷ gone) kept none =
    front_step covered counts limit p (gone ++ kept) (covered p) refl none.0 ∙ front_dropped covered counts limit gone kept none.1

none_found : (covered counts : Packet → Bool) (limit : ℕ) (ps : List Packet) → AllByRecursion (λ p. counts p ≡ false) ps → finds_apart covered counts limit None ps ≡ false
none_found covered counts limit [] none = refl
none_found covered counts limit (p ∷ ps) none = front_step covered counts limit p ps (covered p) refl none.0 ∙ none_found covered counts limit ps none.1

end_told : (c : Settings) (h : List Event) (held : Held) (holds : HoldsLosses held c h) → (first : ℕ) → (sampled c h).first_rtt_sample ≡ Some first → (p : Packet)
    → is_end first (told (holds.fates p) p) ≡ counts_as_end c h p
end_told c h held holds first taken p =
    ap (λ b. b && (p.eliciting && nat_lt first p.time)) (holds.owed p)
    ∙ ap (λ o. is_lost_now c h p && (p.eliciting && is_after o p)) (sym taken)

apart_told : (c : Settings) (h : List Event) (held : Held) (holds : HoldsLosses held c h) → (first : ℕ) → (sampled c h).first_rtt_sample ≡ Some first → (limit : ℕ) (began : Option ℕ) (ps : List Packet)
    → are_apart limit first began (map (λ p. told (holds.fates p) p) ps) ≡ finds_apart (covers h) (counts_as_end c h) limit began ps
apart_told c h held holds first taken limit began [] = refl
apart_told c h held holds first taken limit began (p ∷ ps) =
    let show : Packet → SentPacket = λ q. told (holds.fates q) q in
    let rest : Option ℕ → Bool = λ at. are_apart limit first at (map show ps) in
    let found : Option ℕ → Bool = λ at. finds_apart (covers h) (counts_as_end c h) limit at ps in
    let far = is_far_from limit began p.time in
    let nearest = Some (earliest began p.time) in
    ap (λ b. if b then rest None else (if is_end first (show p) then far || rest nearest else rest began)) (holds.covered p)
    ∙ (ap (λ b. if covers h p then rest None else (if b then far || rest nearest else rest began)) (end_told c h held holds first taken p)
    ∙ (ap (λ b. if covers h p then b else (if counts_as_end c h p then far || rest nearest else rest began)) (apart_told c h held holds first taken limit None ps)
    ∙ (ap (λ b. if covers h p then found None else (if counts_as_end c h p then far || b else rest began)) (apart_told c h held holds first taken limit nearest ps)
    ∙ ap (λ b. if covers h p then found None else (if counts_as_end c h p then far || found nearest else b)) (apart_told c h held holds first taken limit began ps))))

-- in a tolerated run the last event establishes persistent congestion exactly where a walk over the packets held finds it, where there is a sample
pub persistent_is_held : (c : Settings) (h : List Event) → IsToleratedRun c h → (first : ℕ) → (sampled c h).first_rtt_sample ≡ Some first → (held : Held) → HoldsLosses held c h
    → is_persistent c h ≡ are_apart (persistent_after (granularity c) (sampled c h) c.max_ack_delay) first None held.packets
persistent_is_held c h run first taken held holds =
    let limit = persistent_after (granularity c) (sampled c h) c.max_ack_delay in
    persistent_is_forward c h run
    ∙ (ap (finds_apart (covers h) (counts_as_end c h) limit None) holds.parts
    ∙ (front_dropped (covers h) (counts_as_end c h) limit holds.gone holds.kept
    (each_weaker (λ p. is_lost_now c h p ≡ false) (λ p. counts_as_end c h p ≡ false) (λ p free. and_left (is_lost_now c h p) (ends (sampled c h) p) free) holds.gone holds.none)
    ∙ sym (ap (are_apart limit first None) holds.packets_are ∙ apart_told c h held holds first taken limit None holds.kept)))

counts_not : (c : Settings) (h : List Event) → (sampled c h).first_rtt_sample ≡ None → (p : Packet) → counts_as_end c h p ≡ false
counts_not c h unsampled p =
    ap (λ o. is_lost_now c h p && (p.eliciting && is_after o p)) unsampled ∙ and_right (is_lost_now c h p) (p.eliciting && false) (and_right p.eliciting false refl)

-- and does not where there is none
pub not_persistent_unsampled : (c : Settings) (h : List Event) → IsToleratedRun c h → (sampled c h).first_rtt_sample ≡ None → is_persistent c h ≡ false
not_persistent_unsampled c h run unsampled =
    persistent_is_forward c h run
    ∙ none_found (covers h) (counts_as_end c h) (persistent_after (granularity c) (sampled c h) c.max_ack_delay) (reverse (packets h))
    (each_value (λ p. counts_as_end c h p ≡ false) (counts_not c h unsampled) (reverse (packets h)))

-- ---- the packets held behind a detection, and behind a Lost line

-- a detection loses what is held as owed
pub stands_losses : (c : Settings) (h : List Event) → IsToleratedRun c h → LosesWhatIsOwed c h → (held : Held) → StandsFor held c h → HoldsLosses held c h
stands_losses c h run loses held stands = record {
  gone = stands.gone;
  kept = stands.kept;
  fates = fate c h;
  parts = stands.parts;
  packets_are = stands.packets_are;
  owed = λ p. is_owed_told c h run p ∙ sym (loses p);
  covered = is_acknowledged_told c h;
  none = each_weaker (λ p. owes c h p ≡ false) (λ p. is_lost_now c h p ≡ false) (λ p free. loses p ∙ free) stands.gone (shed_free c h stands.gone stands.shed);
}

told_if : (f : Fate) (p : Packet) (b : Bool) → (if b then with_fate Owed (told f p) else told f p) ≡ told (if b then Owed else f) p
told_if f p true = refl
told_if f p false = refl

owed_if : (f : Fate) (b own : Bool) → is_owed f ≡ own → is_owed (if b then Owed else f) ≡ (own || b)
owed_if f true true is = refl
owed_if f true false is = refl
owed_if f false true is = is
owed_if f false false is = is

covered_if : (f : Fate) (b cov : Bool) → is_acknowledged f ≡ cov → (b ≡ true → f ≡ Open) → is_acknowledged (if b then Owed else f) ≡ cov
covered_if f true cov is opened = ap is_acknowledged (sym (opened refl)) ∙ is
covered_if f false cov is opened = is

named_if : (fr sp nm : Bool) → (fr ≡ true → sp ≡ true) → (fr && nm) ≡ (fr && (sp && nm))
named_if true sp nm here = let same = here refl in rw same refl
named_if false sp nm here = refl

-- a free packet that is named is named by the Lost line, whose space it has
pub named_told : (c : Settings) (h : List Event) (time : ℕ) (space : Space) (ranges : List (ℕ × ℕ)) → IsToleratedRun c (Lost time space ranges ∷ h)
    → (free : FreePackets) → ((q : Packet) → is_free_by free (sent_of c h q) ≡ is_free c h q) → (p : Packet)
    → (is_free_by free (sent_of c h p) && is_named ranges p.number) ≡ is_named_free c (Lost time space ranges) h p
named_told c h time space ranges run free are p =
    ap (λ b. b && is_named ranges p.number) (are p)
    ∙ named_if (is_free c h p) (is_space p.space space) (is_named ranges p.number)
    (λ left. same_as_line p space (nameable_space c h time space ranges run p (or_right (owes c h p) (is_free c h p) left)))

unnamed_of : (fr nm : Bool) → fr ≡ false → (fr && nm) ≡ false
unnamed_of fr nm none = rw none refl

-- none of those that left the queue is
dropped_not_named : (c : Settings) (h : List Event) → IsToleratedRun c h → (held : Held) (stands : StandsFor held c h) → (e : Event) → AllByRecursion (λ p. is_named_free c e h p ≡ false) stands.gone
dropped_not_named c h run held stands e =
    each_weaker (λ p. is_nameable c h p ≡ false) (λ p. is_named_free c e h p ≡ false)
    (λ p none. unnamed_of (is_free c h p) (declares_lost p.space p.number e) (or_parts (owes c h p) (is_free c h p) none).1) stands.gone (dropped_unnamed c h run held stands)

any_past : (test : Packet → Bool) (gone kept : List Packet) → AllByRecursion (λ p. test p ≡ false) gone → list_any test (gone ++ kept) ≡ list_any test kept
any_past test [] kept none = refl
any_past test (p ∷ gone) kept none = ap (λ b. b || list_any test (gone ++ kept)) none.0 ∙ any_past test gone kept none.1

-- in a tolerated run a Lost line completes the detection in front of it where it names one that is held as free
pub completed_is_held : (c : Settings) (h : List Event) (time : ℕ) (space : Space) (ranges : List (ℕ × ℕ)) → IsToleratedRun c (Lost time space ranges ∷ h)
    → (free : FreePackets) → ((q : Packet) → is_free_by free (sent_of c h q) ≡ is_free c h q) → (held : Held) → StandsFor held c h
    → list_any (λ p. is_free_by free p && is_named ranges p.number) held.packets ≡ list_any (is_named_free c (Lost time space ranges) h) (packets h)
completed_is_held c h time space ranges run free are held stands =
    let e = Lost time space ranges in
    let test : SentPacket → Bool = λ p. is_free_by free p && is_named ranges p.number in
    ap (list_any test) stands.packets_are
    ∙ (any_of_map test (sent_of c h) (is_named_free c e h) stands.kept
    (each_value (λ p. test (sent_of c h p) ≡ is_named_free c e h p) (named_told c h time space ranges run free are) stands.kept)
    ∙ (sym (any_past (is_named_free c e h) stands.gone stands.kept (dropped_not_named c h run.0 held stands e))
    ∙ (ap (list_any (is_named_free c e h)) (sym stands.parts) ∙ any_turned (is_named_free c e h) (packets h))))

-- where it does not, nothing is lost by it
pub nothing_completed : (c : Settings) (h : List Event) (time : ℕ) (space : Space) (ranges : List (ℕ × ℕ)) → list_any (is_named_free c (Lost time space ranges) h) (packets h) ≡ false
    → declared c (Lost time space ranges ∷ h) ≡ []
nothing_completed c h time space ranges none =
    declared_is c time space ranges h ∙ ap (λ b. if b then filter (λ p. owes c h p || is_named_free c (Lost time space ranges) h p) (packets h) else []) none

lost_if : (all own nm : Bool) → all ≡ true → (own || nm) ≡ (all && (own || nm))
lost_if all own nm is = rw is refl

unlost_if : (all own nm : Bool) → own ≡ false → nm ≡ false → (all && (own || nm)) ≡ false
unlost_if all own nm none also = rw (none, also) (and_right all false refl)

-- where it does, what is free and named is held as owed beside what is owed
pub taken_losses : (c : Settings) (h : List Event) (time : ℕ) (space : Space) (ranges : List (ℕ × ℕ)) → IsToleratedRun c (Lost time space ranges ∷ h)
    → (free : FreePackets) → ((q : Packet) → is_free_by free (sent_of c h q) ≡ is_free c h q) → list_any (is_named_free c (Lost time space ranges) h) (packets h) ≡ true
    → (old new : Held) → StandsFor old c h → new ≡ replaced (taken_by free ranges) old → HoldsLosses new c (Lost time space ranges ∷ h)
taken_losses c h time space ranges run free are some old new stands is =
    let e = Lost time space ranges in
    let taken : Packet → Bool = λ p. is_free_by free (sent_of c h p) && is_named ranges p.number in
    let fates : Packet → Fate = λ p. if taken p then Owed else fate c h p in
    let show : Packet → SentPacket = λ p. told (fates p) p in
    record {
      gone = stands.gone;
      kept = stands.kept;
      fates = fates;
      parts = stands.parts;
      packets_are = ap (λ (k : Held). k.packets) is ∙ (ap (map (taken_by free ranges)) stands.packets_are
          ∙ map_fused (taken_by free ranges) (sent_of c h) show stands.kept
          (each_value (λ p. taken_by free ranges (sent_of c h p) ≡ show p) (λ p. told_if (fate c h p) p (taken p)) stands.kept));
      owed = λ p. owed_if (fate c h p) (taken p) (owes c h p) (is_owed_told c h run.0 p)
          ∙ (ap (λ b. owes c h p || b) (named_told c h time space ranges run free are p)
          ∙ lost_if (list_any (is_named_free c e h) (packets h)) (owes c h p) (is_named_free c e h p) some);
      covered = λ p. covered_if (fate c h p) (taken p) (covers h p) (is_acknowledged_told c h p)
          (λ was. free_opened c h run.0 p (sym (are p) ∙ (and_parts (is_free_by free (sent_of c h p)) (is_named ranges p.number) was).0));
      none = both_weaker (λ p. owes c h p ≡ false) (λ p. is_named_free c e h p ≡ false) (λ p. is_lost_now c (e ∷ h) p ≡ false)
          (λ p none also. unlost_if (list_any (is_named_free c e h) (packets h)) (owes c h p) (is_named_free c e h p) none also)
          stands.gone (shed_free c h stands.gone stands.shed) (dropped_not_named c h run.0 old stands e);
    }

none_left_at : (c : Settings) (h : List Event) (e : Event) → detection c h ≡ None → (ps : List Packet) → list_any (is_named_free c e h) ps ≡ false
none_left_at c h e none [] = refl
none_left_at c h e none (p ∷ ps) =
    let out : is_free c h p ≡ false = ap (is_at (is_left c (sampled c h) h) p) none in
    rw out (none_left_at c h e none ps)

-- and there was one
pub completed_detects : (c : Settings) (h : List Event) (e : Event) (d : Option (Space × ℕ)) → detection c h ≡ d → list_any (is_named_free c e h) (packets h) ≡ true → (at : Space × ℕ) × (d ≡ Some at)
completed_detects c h e None none some = absurd (both_ways (list_any (is_named_free c e h) (packets h)) (none_left_at c h e none (packets h)) some)
completed_detects c h e (Some at) is some = (at, refl)

never_spared : (below old : Bool) → (below && false && not old) ≡ false
never_spared true old = refl
never_spared false old = refl

-- where the header lets no packet be spared, no detection leaves one to the sender
none_spared : (c : Settings) (r : Estimate) (h : List Event) (now : ℕ) (largest : Option ℕ) (p : Packet) → is_may c.options.loss_by_number ≡ false
    → may_be_spared c r h now largest p ≡ false
none_spared c r h now None p must = refl
none_spared c r h now (Some m) p must =
    ap (λ b. nat_lt p.number m && (b && is_far_below c h m p) && not (is_old c r now p)) must ∙ never_spared (nat_lt p.number m) (is_old c r now p)

none_left_by : (c : Settings) (h : List Event) → is_may c.options.loss_by_number ≡ false → (p : Packet) (d : Option (Space × ℕ)) → is_at (is_left c (sampled c h) h) p d ≡ false
none_left_by c h must p None = refl
none_left_by c h must p (Some (s, now)) =
    let spared = may_be_spared c (sampled c h) h now (largest_acknowledged h s) p in
    let none = none_spared c (sampled c h) h now (largest_acknowledged h s) p must in
    and_right (is_of s p) (p.in_flight && is_unsettled h p && spared) (and_right (p.in_flight && is_unsettled h p) spared none)

none_named_free : (c : Settings) (h : List Event) (e : Event) → is_may c.options.loss_by_number ≡ false → (ps : List Packet) → list_any (is_named_free c e h) ps ≡ false
none_named_free c h e must [] = refl
none_named_free c h e must (p ∷ ps) =
    let out : is_free c h p ≡ false = none_left_by c h must p (detection c h) in
    rw out (none_named_free c h e must ps)

-- so a Lost line completes a detection only where packets may be spared
pub completed_spares : (c : Settings) (h : List Event) (e : Event) → list_any (is_named_free c e h) (packets h) ≡ true → is_may c.options.loss_by_number ≡ true
completed_spares c h e some =
    true_from_ne_false (is_may c.options.loss_by_number) (λ must. both_ways (list_any (is_named_free c e h) (packets h)) (none_named_free c h e must (packets h)) some)
