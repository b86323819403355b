-- How many packets are kept, where those before the oldest that is open or owed are dropped.
use Rattle.std.proofs.Common.{◌≡◌, ◌∙◌, ◌<◌, ◌+◌, ℕ, min, List, [], ◌∷◌, ◌++◌, length, map, Bool, true, false, Option, Some, None, option_map, refl, sym, ap, arith, subst, filter, find, reverse, sum_by, count_by, cond, zero-add}
use Rattle.std.proofs.lemmas.Bool.{le-leb, lt-leb}
use Rattle.std.proofs.lemmas.List.Folds.{find-append}
use Rattle.std.proofs.lemmas.List.Sums.{sum_by-cons, sum_by-append}
use Rattle.std.specs.List.{AllByRecursion}
use Rattle.std.specs.Option.{option_or}
use Rattle.std.specs.Prelude.{nat_le, if◌then◌else◌}
use Rattle.qa_base.specs.declared.event.Event.{Event}
use Rattle.qa_base.specs.declared.event.Event.TheVariants.{Sent}
use Rattle.qa_base.specs.history.Sequence.{EachTwo}
use Rattle.qa_base.specs.machine.Packets.{Packet, packets, least_of}
use Rattle.qa_base.specs.values.Settings.{Settings}
use Rattle.qa_base.specs.machine.Kept.{is_kept, oldest_kept, count_from, kept_count}
use Rattle.qa_base.proofs.machine.WindowBound.{placed}
use Rattle.qa_base.proofs.history.Deadline.{first_sent_is, first_passes, find_none}
use Rattle.qa_base.proofs.history.Forgotten.{all_behind}
use Rattle.qa_base.proofs.history.Pairs.{at_one, of_each, each_weaker, two_turned, has_first}
use Rattle.qa_base.proofs.history.Sending.{sum_turned}
use Rattle.qa_base.proofs.history.Pairs.{two_of_rest}
use Rattle.qa_base.specs.history.Parts.{AreDropped, BeginsKept}
use Rattle.qa_base.proofs.history.Deadline.{first_sent}

-- ---- places

abbrev StandsBefore : Packet → Packet → Type 0
StandsBefore p q = q.place < p.place

places_more : (h : List Event) (e : Event) → EachTwo StandsBefore (packets h) → EachTwo StandsBefore (packets (e ∷ h))
places_more h (Sent packet) two = (placed h, two)
places_more h _ two = two

-- of each two packets of a history the one that stands behind stands at a lower place
pub places_fall : (h : List Event) → EachTwo StandsBefore (packets h)
places_fall [] = tt
places_fall (e ∷ h) = places_more h e (places_fall h)

-- ---- the least place

least_step : (place : ℕ) (p : Packet) (behind : Option Packet) (keep : Bool) (places : List ℕ) → place ≡ p.place
    → ((q : Packet) → behind ≡ Some q → q.place < p.place)
    → least_of places ≡ option_map (λ (q : Packet). q.place) behind
    → least_of (if keep then place ∷ places else places) ≡ option_map (λ (q : Packet). q.place) (option_or behind (if keep then Some p else None))
least_step place p (Some q) true places is before rest =
    let less = before q refl in
    let least : min place q.place ≡ q.place = omega (arith, less, is) in
    rw rest (ap Some least)
least_step place p None true places is before rest = rw rest (ap Some (let same : min place place ≡ p.place = omega (arith, is) in same))
least_step place p (Some q) false places is before rest = rest
least_step place p None false places is before rest = rest

places_if : (p : Packet) (ps : List Packet) (keep : Bool) → map (λ (q : Packet). q.place) (if keep then p ∷ ps else ps) ≡ (if keep then p.place ∷ map (λ (q : Packet). q.place) ps else map (λ (q : Packet). q.place) ps)
places_if p ps true = refl
places_if p ps false = refl

least_place : (test : Packet → Bool) (ps : List Packet) → EachTwo StandsBefore ps → least_of (map (λ p. p.place) (filter test ps)) ≡ option_map (λ p. p.place) (first_sent test ps)
least_place test [] two = refl
least_place test (p ∷ ps) two =
    ap least_of (places_if p (filter test ps) (test p))
    ∙ least_step p.place p (first_sent test ps) (test p) (map (λ q. q.place) (filter test ps)) refl
    (λ q first. at_one (StandsBefore p) ps q two.0 (first_passes test ps q first).0) (least_place test ps two.1)

-- ---- the count

one_each : (test : Packet → Bool) (ps : List Packet) → AllByRecursion (λ p. test p ≡ true) ps → count_by test ps ≡ length ps
one_each test [] all = refl
one_each test (p ∷ ps) all =
    let here : ◌≡◌ {A = ℕ} (cond (test p) 1 0) 1 = ap (λ b. cond {A = ℕ} b 1 0) all.0 in
    let rest = one_each test ps all.1 in
    let sum = sum_by-cons (λ q. cond (test q) 1 0) p ps in
    omega (arith, here, rest, sum)

none_each : (test : Packet → Bool) (ps : List Packet) → AllByRecursion (λ p. test p ≡ false) ps → count_by test ps ≡ 0
none_each test [] none = refl
none_each test (p ∷ ps) none =
    let here : ◌≡◌ {A = ℕ} (cond (test p) 1 0) 0 = ap (λ b. cond {A = ℕ} b 1 0) none.0 in
    let rest = none_each test ps none.1 in
    let sum = sum_by-cons (λ q. cond (test q) 1 0) p ps in
    omega (arith, here, rest, sum)

oldest_is : (c : Settings) (h : List Event) (gone kept : List Packet) → reverse (packets h) ≡ gone ++ kept → AreDropped c h gone
    → oldest_kept c h ≡ option_map (λ p. p.place) (find (is_kept c h) kept)
oldest_is c h gone kept parts dropped =
    least_place (is_kept c h) (packets h) (places_fall h)
    ∙ ap (option_map (λ (p : Packet). p.place)) (first_sent_is (is_kept c h) (packets h)
    ∙ (ap (find (is_kept c h)) parts
    ∙ (find-append (is_kept c h) gone kept ∙ ap (λ o. option_or o (find (is_kept c h) kept)) (find_none (is_kept c h) gone dropped))))

count_turned : (test : Packet → Bool) (ps gone kept : List Packet) → reverse ps ≡ gone ++ kept → count_by test ps ≡ count_by test gone + count_by test kept
count_turned test ps gone kept parts =
    let weight : Packet → ℕ = λ p. cond (test p) 1 0 in
    sym (sum_turned weight ps) ∙ (ap (sum_by weight) parts ∙ sum_by-append weight gone kept)

kept_if : (c : Settings) (h : List Event) (gone kept : List Packet) → reverse (packets h) ≡ gone ++ kept
    → AreDropped c h gone → BeginsKept c h kept → EachTwo (λ p q. StandsBefore q p) (gone ++ kept)
    → oldest_kept c h ≡ option_map (λ p. p.place) (find (is_kept c h) kept) → kept_count c h ≡ length kept
kept_if c h gone [] parts dropped begins two oldest = ap (λ o. count_from o (packets h)) oldest
kept_if c h gone (k ∷ ks) parts dropped begins two oldest =
    let R : Packet → Packet → Type 0 = λ p q. StandsBefore q p in
    let here : find (is_kept c h) (k ∷ ks) ≡ Some k = rw begins refl in
    let behind : AllByRecursion (λ p. nat_le k.place p.place ≡ false) gone = of_each (λ p. nat_le k.place p.place ≡ false) gone (λ p has.
    lt-leb k.place p.place (at_one (R p) (k ∷ ks) k (all_behind R gone (k ∷ ks) two p has) (has_first k ks))) in
    let from : AllByRecursion (λ p. nat_le k.place p.place ≡ true) (k ∷ ks) =
    (le-leb k.place k.place (omega arith), each_weaker (R k) (λ p. nat_le k.place p.place ≡ true) (λ p less. le-leb k.place p.place (omega (arith, less))) ks (two_of_rest R gone (k ∷ ks) two).0) in
    let counted = count_turned (λ p. nat_le k.place p.place) (packets h) gone (k ∷ ks) parts in
    let none = none_each (λ p. nat_le k.place p.place) gone behind in
    let all = one_each (λ p. nat_le k.place p.place) (k ∷ ks) from in
    ap (λ o. count_from o (packets h)) (oldest ∙ ap (option_map (λ (p : Packet). p.place)) here)
    ∙ (counted ∙ (ap (λ n. n + count_by (λ (p : Packet). nat_le k.place p.place) (k ∷ ks)) none ∙ (zero-add _ ∙ all)))

-- the packets that are of use are those behind a front of which none is open or owed, where they begin with one that is
pub kept_count_is : (c : Settings) (h : List Event) (gone kept : List Packet) → reverse (packets h) ≡ gone ++ kept
    → AreDropped c h gone → BeginsKept c h kept → kept_count c h ≡ length kept
kept_count_is c h gone kept parts dropped begins =
    let two : EachTwo (λ p q. StandsBefore q p) (gone ++ kept) = subst (λ (ps : List Packet). EachTwo (λ p q. StandsBefore q p) ps) parts (two_turned StandsBefore (packets h) (places_fall h)) in
    kept_if c h gone kept parts dropped begins two (oldest_is c h gone kept parts dropped)
