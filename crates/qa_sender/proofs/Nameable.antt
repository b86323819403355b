-- What is free by what is kept is what is free after the history, and so is what may be named.
use Rattle.std.proofs.Common.{◌≡◌, ◌∙◌, ℕ, ◌+◌, List, [], ◌∷◌, ◌++◌, map, Bool, true, false, ◌&&◌, ◌||◌, not, Option, Some, None, option_map, refl, sym, ap, ap₂, subst, arith, filter, reverse}
use Rattle.std.proofs.lemmas.Bool.{and_right, both_ways, false_from_ne_true, or_right}
use Rattle.std.proofs.lemmas.Bool.Decides.{nat_tests}
use Rattle.std.proofs.lemmas.List.Elements.{filter-append}
use Rattle.std.specs.List.{AllByRecursion, list_all, list_any}
use Rattle.std.specs.Prelude.{if◌then◌else◌, nat_le, nat_lt, ◌==◌}
use Rattle.qa_base.specs.declared.event.Event.{Event}
use Rattle.qa_base.specs.declared.event.Event.TheVariants.{Discard}
use Rattle.qa_base.specs.declared.space.Space.{Space}
use Rattle.qa_base.specs.declared.space.Space.TheVariants.{Initial}
use Rattle.qa_base.specs.machine.Breaches.{numbers}
use Rattle.qa_base.specs.machine.Detection.{is_at, is_far_below, is_found, is_left, is_old, is_past_threshold, is_unsettled, may_be_spared}
use Rattle.qa_base.specs.machine.Estimates.{sampled}
use Rattle.qa_base.specs.machine.Loss.{detection, is_free, is_nameable, is_open as opens, is_owed as owes, nameable, owed}
use Rattle.qa_base.specs.machine.Numbers.{has_all, has_next, has_range, is_in, names_between}
use Rattle.qa_base.specs.machine.Packets.{Packet, is_discarded, is_of, largest_acknowledged, packets}
use Rattle.qa_base.specs.machine.Rtt.{Estimate}
use Rattle.qa_base.specs.machine.Violations.{IsToleratedRun}
use Rattle.qa_base.specs.values.Events.{discards, is_named, is_space}
use Rattle.qa_base.specs.values.Settings.{Settings, is_may}
use Rattle.qa_base.proofs.machine.Declared.{any_of_part}
use Rattle.qa_sender.proofs.connection_lemmas.Lists.{all_same, all_turned, any_of_map, any_turned, each_value, filter_of_map, map_fused, map_turned}
use Rattle.qa_sender.specs.connection.Detecting.{Search, detected_in, search_of}
use Rattle.qa_sender.specs.connection.Known.{IsOf}
use Rattle.qa_sender.specs.declared.connection.connection.Connection.{Connection}
use Rattle.qa_sender.specs.declared.connection.detection.Detection.{Detection}
use Rattle.qa_base.proofs.history.Changes.{free_is_flying}
use Rattle.qa_base.proofs.history.ToleratedRuns.{is_space_is}
use Rattle.qa_base.proofs.history.Detection.{space_of_detection}
use Rattle.qa_base.proofs.history.Pairs.{none_left, part_turned}
use Rattle.qa_sender.proofs.Carrying.{shed_free, shed_grounded}
use Rattle.qa_sender.proofs.Fates.{is_open_told, is_owed_told}
use Rattle.qa_sender.specs.Freeing.{end_of, free_of, freed}
use Rattle.qa_sender.specs.Thresholds.{far_end, far_end_below}
use Rattle.qa_sender.proofs.FarEnds.{is_far_packet}
use Rattle.qa_sender.specs.Standing.{StandsFor}
use Rattle.qa_sent_packets.specs.Fates.{is_flying, is_open, is_owed_in}
use Rattle.qa_sent_packets.specs.Free.{AreOwedIn, is_free_by, is_nameable_by, nameable_numbers}
use Rattle.qa_sent_packets.specs.Held.{Held}
use Rattle.qa_sent_packets.specs.Told.{fate, sent_of}
use Rattle.qa_sent_packets.specs.Walks.{owed_numbers}
use Rattle.qa_sent_packets.specs.declared.packet.SentPacket.{SentPacket}

-- ---- the end of the numbers

spared_if : (may below far old : Bool) → (below && (may && far) && not old) ≡ ((may && (below && far)) && not (below && ((not may && far) || old)))
spared_if true true far old = refl
spared_if true false far old = refl
spared_if false true far old = refl
spared_if false false far old = refl

end_if : (n far : ℕ) (may is_far : Bool) → nat_lt n far ≡ is_far → nat_lt n (if may then far else 0) ≡ (may && is_far)
end_if n far true is_far is = is
end_if n far false is_far is = grind (arith, nat_tests)

-- above the numbers of what may be spared
abbrev spared_end : Settings → ℕ → ℕ
spared_end c far = if is_may c.options.loss_by_number then far else 0

-- it is kept with the detection
kept_end : (may : Bool) (d : Detection) → end_of (if may then Some d else None) ≡ (if may then d.far_end else 0)
kept_end true d = refl
kept_end false d = refl

-- what may be spared lies below the end and is past no threshold
spared_is : (c : Settings) (r : Estimate) (h : List Event) (s : Space) (now : ℕ) (largest : Option ℕ) (p : Packet) → s ≡ p.space
    → may_be_spared c r h now largest p ≡ (nat_lt p.number (spared_end c (far_end_below c h s largest)) && not (is_past_threshold c r h now largest p))
spared_is c r h s now None p same =
    let may = is_may c.options.loss_by_number in
    let never : nat_lt p.number 0 ≡ false = grind (arith, nat_tests) in
    let none : nat_lt p.number (if may then 0 else 0) ≡ false = end_if p.number 0 may false never ∙ and_right may false refl in
    sym (ap (λ b. b && true) none)
spared_is c r h s now (Some m) p same =
    let may = is_may c.options.loss_by_number in
    let below = nat_lt p.number m in
    let far = is_far_below c h m p in
    let old = is_old c r now p in
    spared_if may below far old
    ∙ ap (λ b. b && not (below && ((not may && far) || old))) (sym (end_if p.number (far_end_below c h s (Some m)) may (below && far) (is_far_packet c h s m p same)))

-- ---- one packet

left_if : (of flies uns gone low past : Bool) → (of ≡ true → gone ≡ false)
    → ((of && (flies && (uns && not (of && (flies && uns && past)) && not gone))) && low) ≡ (of && (flies && uns && (low && not past)))
left_if false flies uns gone low past there = refl
left_if true flies uns true low past there = let not_so = there refl in cc
left_if true false uns false low past there = refl
left_if true true false false low past there = refl
left_if true true true false true true there = refl
left_if true true true false true false there = refl
left_if true true true false false true there = refl
left_if true true true false false false there = refl

no_discard : (c : Settings) (e : Event) (h : List Event) (s : Space) (now : ℕ) → detection c (e ∷ h) ≡ Some (s, now) → discards s e ≡ false
no_discard c (Discard time space) h s now at = cc
no_discard c _ h s now at = refl

there_if : (was same : Bool) → was ≡ false → same ≡ false → (same || was) ≡ false
there_if was same none other = rw (none, other) refl

gone_of : (c : Settings) (h : List Event) → IsToleratedRun c h → (s : Space) (now : ℕ) → detection c h ≡ Some (s, now) → is_discarded h s ≡ false
gone_of c [] run s now at = cc
gone_of c (e ∷ h) run s now at = there_if (is_discarded h s) (discards s e) (space_of_detection c e h run s now at) (no_discard c e h s now at)

spared_there : (of flies a b : Bool) → (of ≡ true → a ≡ b) → (of && (flies && a)) ≡ (of && (flies && b))
spared_there true flies a b same = ap (λ x. flies && x) (same refl)
spared_there false flies a b same = refl

told_by : (c : Settings) (h : List Event) (d : Option (Space × ℕ)) → IsToleratedRun c h → detection c h ≡ d → (p : Packet)
    → is_free_by (freed (option_map (search_of c) (option_map (detected_in c h) d))) (sent_of c h p) ≡ is_at (is_left c (sampled c h) h) p d
told_by c h None run at p = let none : nat_lt p.number 0 ≡ false = grind (arith, nat_tests) in and_right (is_flying Initial (sent_of c h p)) (nat_lt p.number 0) none
told_by c h (Some (s, now)) run at p =
    let end = spared_end c (far_end c h s) in
    let late = is_past_threshold c (sampled c h) h now (largest_acknowledged h s) p in
    let end_is : end_of (if is_may c.options.loss_by_number then Some (detected_in c h (s, now)) else None) ≡ end = kept_end (is_may c.options.loss_by_number) (detected_in c h (s, now)) in
    let owes_is : owes c h p ≡ (is_of s p && is_found c (sampled c h) h now s p) = ap (is_at (is_found c (sampled c h) h) p) at in
    let opened : is_open (fate c h p) ≡ (is_unsettled h p && not (is_of s p && is_found c (sampled c h) h now s p) && not (is_discarded h p.space)) =
    is_open_told c h p ∙ ap (λ b. is_unsettled h p && not b && not (is_discarded h p.space)) owes_is in
    ap (λ n. is_flying s (sent_of c h p) && nat_lt p.number n) end_is
    ∙ (ap (λ b. (is_space s p.space && (p.in_flight && b)) && nat_lt p.number end) opened
    ∙ (left_if (is_of s p) p.in_flight (is_unsettled h p) (is_discarded h p.space) (nat_lt p.number end) late
    (λ same. subst (λ (t : Space). is_discarded h t ≡ false) (is_space_is s p.space same) (gone_of c h run s now at))
    ∙ spared_there (is_of s p) (p.in_flight && is_unsettled h p) (nat_lt p.number end && not late) (may_be_spared c (sampled c h) h now (largest_acknowledged h s) p)
    (λ same. sym (spared_is c (sampled c h) h s now (largest_acknowledged h s) p (is_space_is s p.space same)))))

-- in a tolerated run a packet is free by what is kept where it is free after the history
pub free_told : (k : Connection) (c : Settings) (h : List Event) → IsToleratedRun c h → IsOf k c h → (p : Packet) → is_free_by (free_of k) (sent_of c h p) ≡ is_free c h p
free_told k c h run of p =
    ap (λ (d : Option Search). is_free_by (freed d) (sent_of c h p)) of.search ∙ told_by c h (detection c h) run refl p

of_either : (of a b : Bool) → ((of && a) || (of && b)) ≡ true → of ≡ true
of_either true a b is = refl
of_either false a b is = cc

space_by : (c : Settings) (h : List Event) (d : Option (Space × ℕ)) → detection c h ≡ d → (p : Packet) → (is_at (is_found c (sampled c h) h) p d || is_at (is_left c (sampled c h) h) p d) ≡ true
    → is_space (freed (option_map (search_of c) (option_map (detected_in c h) d))).space p.space ≡ true
space_by c h None at p is = cc
space_by c h (Some (s, now)) at p is = of_either (is_of s p) (is_found c (sampled c h) h now s p) (is_left c (sampled c h) h now s p) is

-- what may be named is of the space of what is free
pub nameable_there : (k : Connection) (c : Settings) (h : List Event) → IsOf k c h → (p : Packet) → is_nameable c h p ≡ true → is_space (free_of k).space p.space ≡ true
nameable_there k c h of p is =
    ap (λ (d : Option Search). is_space (freed d).space p.space) of.search ∙ space_by c h (detection c h) refl p is

pub owed_there_by : (k : Connection) (c : Settings) (h : List Event) → IsOf k c h → (p : Packet) → owes c h p ≡ true → is_space (free_of k).space p.space ≡ true
owed_there_by k c h of p is = nameable_there k c h of p (ap (λ b. b || is_free c h p) is)

each_owed_in : (k : Connection) (c : Settings) (h : List Event) → IsToleratedRun c h → IsOf k c h → (ps : List Packet) → AreOwedIn (free_of k).space (map (sent_of c h) ps)
each_owed_in k c h run of [] = tt
each_owed_in k c h run of (p ∷ ps) = ((λ is. owed_there_by k c h of p (sym (is_owed_told c h run p) ∙ is)), each_owed_in k c h run of ps)

-- so the packets that are held as owed are
pub owed_in_free : (k : Connection) (c : Settings) (h : List Event) → IsToleratedRun c h → IsOf k c h → (held : Held) → StandsFor held c h → AreOwedIn (free_of k).space held.packets
owed_in_free k c h run of held stands =
    subst (AreOwedIn (free_of k).space) (sym stands.packets_are) (each_owed_in k c h run of stands.kept)

-- ---- all that may be named

pub nameable_told : (k : Connection) (c : Settings) (h : List Event) → IsToleratedRun c h → IsOf k c h → (p : Packet) → is_nameable_by (free_of k) (sent_of c h p) ≡ is_nameable c h p
nameable_told k c h run of p = ap₂ (λ a b. a || b) (is_owed_told c h run p) (free_told k c h run of p)

neither_of : (a b : Bool) → a ≡ false → b ≡ false → (a || b) ≡ false
neither_of a b none also = rw (none, also) refl

pub both_weaker : (P Q R : Packet → Type 0) → ((p : Packet) → P p → Q p → R p) → (ps : List Packet) → AllByRecursion P ps → AllByRecursion Q ps → AllByRecursion R ps
both_weaker P Q R goes [] a b = tt
both_weaker P Q R goes (p ∷ ps) a b = (goes p a.0 b.0, both_weaker P Q R goes ps a.1 b.1)

-- none of those that left the queue may be named
pub dropped_unnamed : (c : Settings) (h : List Event) → IsToleratedRun c h → (held : Held) (stands : StandsFor held c h) → AllByRecursion (λ p. is_nameable c h p ≡ false) stands.gone
dropped_unnamed c h run held stands =
    both_weaker (λ p. (p.in_flight && opens c h p) ≡ false) (λ p. owes c h p ≡ false) (λ p. is_nameable c h p ≡ false)
    (λ p out none. neither_of (owes c h p) (is_free c h p) none
    (false_from_ne_true (is_free c h p) (λ left. both_ways (p.in_flight && opens c h p) out (free_is_flying c h run p left))))
    stands.gone (shed_grounded c h stands.gone stands.shed) (shed_free c h stands.gone stands.shed)

-- a test that none of those passes is asked of the rest, in the order of sending
pub part_of_kept : (test : Packet → Bool) (h : List Event) (gone kept : List Packet) → reverse (packets h) ≡ gone ++ kept → AllByRecursion (λ p. test p ≡ false) gone
    → reverse (filter test (packets h)) ≡ filter test kept
part_of_kept test h gone kept parts none =
    sym (part_turned test (packets h))
    ∙ (ap (filter test) parts ∙ (filter-append test gone kept ∙ ap (λ ps. ps ++ filter test kept) (none_left test gone none)))

-- their numbers are those of the packets held
pub nameable_numbers_stand : (k : Connection) (c : Settings) (h : List Event) → IsToleratedRun c h → IsOf k c h → (held : Held) → StandsFor held c h
    → nameable_numbers (free_of k) held.packets ≡ reverse (numbers (nameable c h))
nameable_numbers_stand k c h run of held stands =
    ap (nameable_numbers (free_of k)) stands.packets_are
    ∙ (ap (map (λ (p : SentPacket). p.number)) (filter_of_map (is_nameable_by (free_of k)) (sent_of c h) (is_nameable c h) stands.kept
    (each_value (λ p. is_nameable_by (free_of k) (sent_of c h p) ≡ is_nameable c h p) (nameable_told k c h run of) stands.kept))
    ∙ (map_fused (λ (p : SentPacket). p.number) (sent_of c h) (λ (p : Packet). p.number) (filter (is_nameable c h) stands.kept)
    (each_value (λ (p : Packet). p.number ≡ p.number) (λ p. refl) (filter (is_nameable c h) stands.kept))
    ∙ (ap (map (λ (p : Packet). p.number)) (sym (part_of_kept (is_nameable c h) h stands.gone stands.kept stands.parts (dropped_unnamed c h run held stands)))
    ∙ map_turned (λ (p : Packet). p.number) (nameable c h))))

-- ---- whether any is of a space

or_mixed : (f g b fs gs : Bool) → ((f || (b && g)) || (fs || (b && gs))) ≡ ((f || fs) || (b && (g || gs)))
or_mixed true g b fs gs = refl
or_mixed false true true true gs = refl
or_mixed false true true false gs = refl
or_mixed false false true fs gs = refl
or_mixed false g false fs gs = refl

any_both : (f g : SentPacket → Bool) (b : Bool) (ps : List SentPacket) → list_any (λ p. f p || (b && g p)) ps ≡ (list_any f ps || (b && list_any g ps))
any_both f g true [] = refl
any_both f g false [] = refl
any_both f g b (p ∷ ps) = ap (λ x. (f p || (b && g p)) || x) (any_both f g b ps) ∙ or_mixed (f p) (g p) b (list_any f ps) (list_any g ps)

in_if : (of owed left here : Bool) → (left ≡ true → here ≡ of) → ((of && owed) || (here && left)) ≡ ((owed || left) && of)
in_if true true true true same = refl
in_if true true true false same = refl
in_if true true false true same = refl
in_if true true false false same = refl
in_if true false true here same = let is = same refl in rw is refl
in_if true false false true same = refl
in_if true false false false same = refl
in_if false true true here same = let is = same refl in rw is refl
in_if false true false true same = refl
in_if false true false false same = refl
in_if false false true here same = let is = same refl in rw is refl
in_if false false false true same = refl
in_if false false false false same = refl

-- in a tolerated run the next Lost line may name a packet of the space where one is held as owed or free there
pub nameable_in_is_held : (k : Connection) (c : Settings) (h : List Event) → IsToleratedRun c h → IsOf k c h → (s : Space) → (held : Held) → StandsFor held c h
    → list_any (is_of s) (nameable c h) ≡ (list_any (is_owed_in s) held.packets || (is_space s (free_of k).space && list_any (is_free_by (free_of k)) held.packets))
nameable_in_is_held k c h run of s held stands =
    let here = is_space s (free_of k).space in
    let told_test : SentPacket → Bool = λ p. is_owed_in s p || (here && is_free_by (free_of k) p) in
    let test : Packet → Bool = λ p. is_nameable c h p && is_of s p in
    sym (any_turned (is_of s) (nameable c h))
    ∙ (ap (list_any (is_of s)) (part_of_kept (is_nameable c h) h stands.gone stands.kept stands.parts (dropped_unnamed c h run held stands))
    ∙ (any_of_part (is_of s) (is_nameable c h) stands.kept
    ∙ (sym (any_of_map told_test (sent_of c h) test stands.kept (each_value (λ p. told_test (sent_of c h p) ≡ test p) (λ p.
    ap₂ (λ a b. (is_space s p.space && a) || (here && b)) (is_owed_told c h run p) (free_told k c h run of p)
    ∙ in_if (is_of s p) (owes c h p) (is_free c h p) here (λ left.
    ap (is_space s) (is_space_is (free_of k).space p.space (nameable_there k c h of p (or_right (owes c h p) (is_free c h p) left))))) stands.kept))
    ∙ (ap (list_any told_test) (sym stands.packets_are)
    ∙ any_both (is_owed_in s) (is_free_by (free_of k)) here held.packets))))

-- ---- whether ranges name them

all_names_turned : (ranges : List (ℕ × ℕ)) (ns : List ℕ) → has_all (reverse ns) ranges ≡ has_all ns ranges
all_names_turned ranges ns =
    let here : (n : ℕ) → is_in (reverse ns) n ≡ is_in ns n = λ n. any_turned (λ m. m == n) ns in
    let next : (lo hi m : ℕ) → has_next (reverse ns) lo hi m ≡ has_next ns lo hi m = λ lo hi m. ap (λ b. not (nat_le lo m && nat_lt m hi) || b) (here (m + 1)) in
    let one : (range : ℕ × ℕ) → has_range (reverse ns) range ≡ has_range ns range = λ range.
    ap (λ b. b && list_all (has_next (reverse ns) range.0 range.1) (reverse ns)) (here range.0)
    ∙ ap (λ b. is_in ns range.0 && b) (all_turned (has_next (reverse ns) range.0 range.1) ns
    ∙ all_same (has_next (reverse ns) range.0 range.1) (has_next ns range.0 range.1) ns
    (each_value (λ m. has_next (reverse ns) range.0 range.1 m ≡ has_next ns range.0 range.1 m) (next range.0 range.1) ns)) in
    all_same (has_range (reverse ns)) (has_range ns) ranges (each_value (λ range. has_range (reverse ns) range ≡ has_range ns range) one ranges)

-- their order does not matter to whether ranges name all of the least and none but the most
pub names_turned : (ranges : List (ℕ × ℕ)) (least most : List ℕ) → names_between ranges (reverse least) (reverse most) ≡ names_between ranges least most
names_turned ranges least most = ap₂ (λ a b. a && b) (all_names_turned ranges most) (all_turned (is_named ranges) least)

-- ranges name what they may where they name the numbers of the packets held
pub losses_are_named : (k : Connection) (c : Settings) (h : List Event) → IsToleratedRun c h → IsOf k c h → (ranges : List (ℕ × ℕ)) → (held : Held) → StandsFor held c h
    → owed_numbers held.packets ≡ reverse (numbers (owed c h))
    → names_between ranges (owed_numbers held.packets) (nameable_numbers (free_of k) held.packets) ≡ names_between ranges (numbers (owed c h)) (numbers (nameable c h))
losses_are_named k c h run of ranges held stands owed_are =
    ap₂ (names_between ranges) owed_are (nameable_numbers_stand k c h run of held stands) ∙ names_turned ranges (numbers (owed c h)) (numbers (nameable c h))
