-- What is left once the first packet was dropped or set aside.
use Rattle.std.proofs.Common.{◌≡◌, ◌∙◌, ℕ, zero, suc, ◌+◌, ◌-◌, ◌<◌, Bool, true, false, ◌&&◌, ◌||◌, not, max, List, [], ◌∷◌, ◌++◌, length, get_or, take, drop, cond, filter, refl, sym, ap, subst, arith, inl, inr, append_assoc, length-append}
use Rattle.std.specs.Prelude.{if◌then◌else◌}
use Rattle.std.specs.List.{AllByRecursion}
use Rattle.std.proofs.lemmas.Bool.{and_parts, both_ways}
use Rattle.std.proofs.lemmas.List.{append-nil}
use Rattle.std.proofs.lemmas.List.Elements.{filter-append}
use Rattle.qa_base.specs.declared.space.Space.{Space}
use Rattle.qa_base.specs.declared.space.Space.TheVariants.{Initial, Handshake, App}
use Rattle.qa_base.specs.values.Events.{is_space}
use Rattle.qa_base.specs.values.PerSpace.{of_space}
use Rattle.qa_sent_packets.specs.Dropping.{Sheds, is_first_shed, is_shed}
use Rattle.qa_sent_packets.specs.Fates.{flight_bytes, flight_bytes_in, is_awaiting, is_flying, is_open, is_open_in, is_owed}
use Rattle.qa_sent_packets.specs.Held.{AreAbove, AreLosses, FirstFlies, Held, IsBefore, IsSpacePackets, IsSound, NoneFlies, unacknowledged_in}
use Rattle.qa_sent_packets.specs.Owing.{NoneOwed}
use Rattle.qa_sent_packets.specs.declared.fate.Fate.{Fate}
use Rattle.qa_sent_packets.specs.declared.fate.Fate.TheVariants.{Open, Owed, DeclaredLost, Acknowledged, Discarded}
use Rattle.qa_sent_packets.specs.declared.space_packets.SpacePackets.{SpacePackets}
use Rattle.qa_base.specs.declared.per_space.PerSpace.{PerSpace}
use Rattle.qa_sent_packets.specs.declared.packet.SentPacket.{SentPacket}
use Rattle.qa_sent_packets.specs.declared.packets.Losses.{Losses}
use Rattle.qa_sent_packets.proofs.Sums.{sum_front}

-- ---- a packet that is dropped or set aside

not_both : (f : Fate) → is_open f ≡ true → is_owed f ≡ false
not_both Open is = refl
not_both Owed is = cc
not_both DeclaredLost is = refl
not_both Acknowledged is = refl
not_both Discarded is = refl

owed_by : (opened owed bare : Bool) → (opened ≡ true → owed ≡ false) → ((not opened && not owed) || (opened && bare)) ≡ true → owed ≡ false
owed_by true owed bare not_so shed = not_so refl
owed_by false true bare not_so shed = cc
owed_by false false bare not_so shed = refl

pub shed_owed : (p : SentPacket) → is_shed p ≡ true → is_owed p.fate ≡ false
shed_owed p shed = owed_by (is_open p.fate) (is_owed p.fate) (not (p.eliciting || p.in_flight)) (not_both p.fate) shed

flying_by : (opened owed eliciting in_flight : Bool) → ((not opened && not owed) || (opened && not (eliciting || in_flight))) ≡ true → (in_flight && opened) ≡ false
flying_by true owed true in_flight shed = cc
flying_by true owed false true shed = cc
flying_by true owed false false shed = refl
flying_by false owed eliciting true shed = refl
flying_by false owed eliciting false shed = refl

awaiting_by : (opened owed eliciting in_flight : Bool) → ((not opened && not owed) || (opened && not (eliciting || in_flight))) ≡ true → (eliciting && opened) ≡ false
awaiting_by true owed true in_flight shed = cc
awaiting_by true owed false in_flight shed = refl
awaiting_by false owed true in_flight shed = refl
awaiting_by false owed false in_flight shed = refl

not_flying : (p : SentPacket) → is_shed p ≡ true → (p.in_flight && is_open p.fate) ≡ false
not_flying p shed = flying_by (is_open p.fate) (is_owed p.fate) p.eliciting p.in_flight shed

not_awaiting : (p : SentPacket) → is_shed p ≡ true → (p.eliciting && is_open p.fate) ≡ false
not_awaiting p shed = awaiting_by (is_open p.fate) (is_owed p.fate) p.eliciting p.in_flight shed

off : (a b : Bool) → b ≡ false → (a && b) ≡ false
off true b out = out
off false b out = refl

zero_if : (b : Bool) (n : ℕ) → n ≡ 0 → (if b then n else 0) ≡ 0
zero_if true n is = is
zero_if false n is = refl

shed_grounded : (s : Space) (p : SentPacket) → is_shed p ≡ true → is_flying s p ≡ false
shed_grounded s p shed = off (is_space s p.space) (p.in_flight && is_open p.fate) (not_flying p shed)

shed_bytes : (s : Space) (p : SentPacket) → is_shed p ≡ true → flight_bytes_in s p ≡ 0
shed_bytes s p shed = zero_if (is_space s p.space) (flight_bytes p) (ap (λ b. if b then p.size else 0) (not_flying p shed))

shed_awaiting : (s : Space) (p : SentPacket) → is_shed p ≡ true → ◌≡◌ {A = ℕ} (cond (is_awaiting s p) 1 0) 0
shed_awaiting s p shed = ap (λ b. cond {A = ℕ} b 1 0) (off (is_space s p.space) (p.eliciting && is_open p.fate) (not_awaiting p shed))

-- ---- what is kept for a space

first_of_none : (s : Space) (ps : List SentPacket) → NoneFlies s ps → FirstFlies s ps
first_of_none s [] none = tt
first_of_none s (p ∷ ps) none = inr none

-- where the first does not fly, the rest begins with one that does, or has none
first_rest : (s : Space) (p : SentPacket) (ps : List SentPacket) → is_flying s p ≡ false → FirstFlies s (p ∷ ps) → FirstFlies s ps
first_rest s p ps out first = elim first [
  | inl flies ↦ absurd (both_ways (is_flying s p) out flies)
  | inr none ↦ first_of_none s ps none.1
]

-- by how far the next place lies behind the first
none_behind : (s : Space) (p : SentPacket) (ps : List SentPacket) (far : ℕ) → NoneFlies s (take far (p ∷ ps)) → NoneFlies s (take (far - 1) ps)
none_behind s p ps zero none = tt
none_behind s p ps (suc far) none = let e : suc far - 1 ≡ far = omega arith in subst (λ (n : ℕ). NoneFlies s (take n ps)) (sym e) none.1

first_behind : (s : Space) (p : SentPacket) (ps : List SentPacket) (far : ℕ) → is_flying s p ≡ false → FirstFlies s (drop far (p ∷ ps)) → FirstFlies s (drop (far - 1) ps)
first_behind s p ps zero out first = first_rest s p ps out first
first_behind s p ps (suc far) out first = let e : suc far - 1 ≡ far = omega arith in subst (λ (n : ℕ). FirstFlies s (drop n ps)) (sym e) first

pub space_packets_dropped : (s : Space) (d dropped : ℕ) (p : SentPacket) (ps : List SentPacket) (before after : SpacePackets) → is_shed p ≡ true → dropped ≡ suc d
    → IsSpacePackets s d (p ∷ ps) before → after.unacknowledged.entries ≡ unacknowledged_in s (suc d) ps → after.in_flight ≡ before.in_flight → after.awaiting ≡ before.awaiting → after.next ≡ max before.next dropped
    → IsSpacePackets s dropped ps after
space_packets_dropped s d dropped p ps before after shed place space_packets entries in_flight awaiting next =
    let far : after.next - dropped ≡ (before.next - d) - 1 = omega (arith, place, next) in
    let low = space_packets.behind.low in
    let high = space_packets.behind.high in
    let more : length (p ∷ ps) ≡ suc (length ps) = refl in
    record {
      indexed = record {
        entries = entries ∙ ap (λ n. unacknowledged_in s n ps) (sym place);
        in_flight = in_flight ∙ (space_packets.indexed.in_flight ∙ sum_front (flight_bytes_in s) p ps (shed_bytes s p shed));
        awaiting = awaiting ∙ (space_packets.indexed.awaiting ∙ sum_front (λ q. cond (is_awaiting s q) 1 0) p ps (shed_awaiting s p shed));
      };
      behind = record {
        low = omega (arith, next);
        high = omega (arith, next, high, more, place);
        none = subst (λ (n : ℕ). NoneFlies s (take n ps)) (sym far) (none_behind s p ps (before.next - d) space_packets.behind.none);
      };
      first = subst (λ (n : ℕ). FirstFlies s (drop n ps)) (sym far) (first_behind s p ps (before.next - d) (shed_grounded s p shed) space_packets.first);
    }

-- ---- what is owed

owed_before : (p : SentPacket) (ps : List SentPacket) (far : ℕ) → NoneOwed (take far (p ∷ ps)) → NoneOwed (take (far - 1) ps)
owed_before p ps zero none = tt
owed_before p ps (suc far) none = let e : suc far - 1 ≡ far = omega arith in subst (λ (n : ℕ). NoneOwed (take n ps)) (sym e) none.1

owed_behind : (p : SentPacket) (ps : List SentPacket) (far : ℕ) → NoneOwed (drop far (p ∷ ps)) → NoneOwed (drop (far - 1) ps)
owed_behind p ps zero none = none.1
owed_behind p ps (suc far) none = let e : suc far - 1 ≡ far = omega arith in subst (λ (n : ℕ). NoneOwed (drop n ps)) (sym e) none

losses_dropped : (d dropped : ℕ) (p : SentPacket) (ps : List SentPacket) (losses : Losses) → is_shed p ≡ true → dropped ≡ suc d → AreLosses d (p ∷ ps) losses → AreLosses dropped ps losses
losses_dropped d dropped p ps losses shed place l =
    let from : losses.from - dropped ≡ (losses.from - d) - 1 = omega (arith, place) in
    let to : losses.to - dropped ≡ (losses.to - d) - 1 = omega (arith, place) in
    record {
      count = l.count ∙ sum_front (λ q. cond (is_owed q.fate) 1 0) p ps (ap (λ b. cond b 1 0) (shed_owed p shed));
      of_space = l.of_space.1;
      before = subst (λ (n : ℕ). NoneOwed (take n ps)) (sym from) (owed_before p ps (losses.from - d) l.before);
      behind = subst (λ (n : ℕ). NoneOwed (drop n ps)) (sym to) (owed_behind p ps (losses.to - d) l.behind);
    }

-- ---- all of it

pub some_first : (ps : List SentPacket) → is_first_shed ps ≡ true → 0 < length ps
some_first [] shed = cc
some_first (p ∷ ps) shed = omega arith

pub whole_first : (ps : List SentPacket) (p : SentPacket) → 0 < length ps → p ≡ get_or ps 0 p → ps ≡ p ∷ drop 1 ps
whole_first [] p some is = absurd (omega (arith, some))
whole_first (x ∷ ps) p some is = ap (λ y. y ∷ ps) (sym is)

-- those behind it have higher numbers than those that were set aside, and than it where it was
one_above : (here : Bool) (p q : SentPacket) → (here ≡ true → p.number < q.number) → AllByRecursion (λ x. x.number < q.number) (cond here (p ∷ []) [])
one_above true p q less = (less refl, tt)
one_above false p q less = tt

above_by : (here : Bool) (p q : SentPacket) (strays : List SentPacket) → (here ≡ true → p.number < q.number) → AllByRecursion (λ x. x.number < q.number) strays
    → AllByRecursion (λ x. x.number < q.number) (strays ++ cond here (p ∷ []) [])
above_by here p q [] less all = one_above here p q less
above_by here p q (x ∷ strays) less all = (all.0, above_by here p q strays less all.1)

above_behind : (p : SentPacket) (ps : List SentPacket) (before after : PerSpace (List SentPacket)) → AllByRecursion (λ q. IsBefore q p) ps
    → ((s : Space) → of_space s after ≡ of_space s before ++ filter (is_open_in s) (p ∷ [])) → AreAbove before ps → AreAbove after ps
above_behind p [] before after ordered aside above = tt
above_behind p (q ∷ ps) before after ordered aside above = (
  subst (λ (xs : List SentPacket). AllByRecursion (λ x. x.number < q.number) xs) (sym (aside q.space))
      (above_by (is_open_in q.space p) p q (of_space q.space before) (λ here. ordered.0.number (and_parts (is_space q.space p.space) (is_open p.fate) here).0) above.0),
  above_behind p ps before after ordered.1 aside above.1,
)

pub sound_dropped : (d dropped : ℕ) (p : SentPacket) (ps : List SentPacket) (losses : Losses) (by_space after : PerSpace SpacePackets) (strays aside : PerSpace (List SentPacket)) → is_shed p ≡ true → dropped ≡ suc d
    → IsSound d (p ∷ ps) losses by_space strays → ((s : Space) → of_space s aside ≡ of_space s strays ++ filter (is_open_in s) (p ∷ []))
    → IsSpacePackets Initial dropped ps after.initial → IsSpacePackets Handshake dropped ps after.handshake → IsSpacePackets App dropped ps after.app → IsSound dropped ps losses after aside
sound_dropped d dropped p ps losses by_space after strays aside shed place sound set initial handshake app =
    let few = sound.few in
    let more : length (p ∷ ps) ≡ suc (length ps) = refl in
    record {
      initial = initial;
      handshake = handshake;
      app = app;
      owed = losses_dropped d dropped p ps losses shed place sound.owed;
      ordered = sound.ordered.1;
      sizes = sound.sizes.1;
      few = omega (arith, few, more, place);
      above = above_behind p ps strays aside sound.ordered.0 set sound.above.1;
    }

-- ---- one after another

joined : (s : Space) (first second : List SentPacket) (a b c : List SentPacket) → b ≡ a ++ filter (is_open_in s) first → c ≡ b ++ filter (is_open_in s) second → c ≡ a ++ filter (is_open_in s) (first ++ second)
joined s first second a b c one two =
    two
    ∙ (ap (λ xs. xs ++ filter (is_open_in s) second) one
    ∙ (append_assoc a (filter (is_open_in s) first) (filter (is_open_in s) second)
    ∙ ap (λ xs. a ++ xs) (sym (filter-append (is_open_in s) first second))))

each_of_both : (P : SentPacket → Type 0) (xs ys : List SentPacket) → AllByRecursion P xs → AllByRecursion P ys → AllByRecursion P (xs ++ ys)
each_of_both P [] ys all more = more
each_of_both P (x ∷ xs) ys all more = (all.0, each_of_both P xs ys all.1 more)

pub sheds_more : (a b c : Held) → Sheds a b → Sheds b c → Sheds a c
sheds_more a b c one two =
    let long : length (one.front ++ two.front) ≡ length one.front + length two.front = length-append one.front two.front in
    let first = one.place in
    let second = two.place in
    record {
      front = one.front ++ two.front;
      parts = one.parts ∙ (ap (λ ps. one.front ++ ps) two.parts ∙ sym (append_assoc one.front two.front c.packets));
      place = omega (arith, long, first, second);
      settled = each_of_both (λ p. is_shed p ≡ true) one.front two.front one.settled two.settled;
      aside = λ s. joined s one.front two.front (of_space s a.strays) (of_space s b.strays) (of_space s c.strays) (one.aside s) (two.aside s);
    }

pub sheds_none : (a : Held) → Sheds a a
sheds_none a = record {
  front = [];
  parts = refl;
  place = omega arith;
  settled = tt;
  aside = λ s. sym (append-nil (of_space s a.strays));
}

pub sheds_first : (old new : Held) (p : SentPacket) (ps : List SentPacket) → old.packets ≡ p ∷ ps → new.packets ≡ ps → new.dropped ≡ old.dropped + 1 → is_shed p ≡ true
    → ((s : Space) → of_space s new.strays ≡ of_space s old.strays ++ filter (is_open_in s) (p ∷ [])) → Sheds old new
sheds_first old new p ps is rest place shed aside = record {
  front = p ∷ [];
  parts = is ∙ ap (λ qs. p ∷ qs) (sym rest);
  place = place;
  settled = (shed, tt);
  aside = aside;
}
