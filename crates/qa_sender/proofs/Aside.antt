-- What each kind of event makes of the packets that were set aside: those that stay open are left.
use Rattle.std.proofs.Common.{◌≡◌, ◌∙◌, ℕ, List, [], ◌∷◌, map, Bool, true, false, cond, ◌&&◌, not, ◌++◌, filter, inl, inr, refl, sym, ap, ap₂}
use Rattle.std.proofs.lemmas.Bool.{both_ways, cases_Bool}
use Rattle.std.proofs.lemmas.List.Elements.{filter_agree}
use Rattle.std.specs.List.{AllByRecursion}
use Rattle.std.specs.Prelude.{if◌then◌else◌}
use Rattle.qa_base.specs.declared.per_space.PerSpace.{PerSpace}
use Rattle.qa_base.specs.declared.space.Space.{Space}
use Rattle.qa_base.specs.declared.space.Space.TheVariants.{Initial, Handshake, App}
use Rattle.qa_base.specs.values.Events.{is_named, is_space}
use Rattle.qa_base.specs.values.PerSpace.{of_space, with_space}
use Rattle.qa_base.proofs.history.ToleratedRuns.{is_space_is}
use Rattle.qa_sender.proofs.Carrying.{IsStray}
use Rattle.qa_sender.proofs.connection_lemmas.Lists.{each_value, map_same}
use Rattle.qa_sent_packets.specs.Fates.{is_flying, is_new, is_open, is_owed, is_unacknowledged, is_waiting}
use Rattle.qa_sent_packets.specs.Free.{is_free_by, taken_by}
use Rattle.qa_sent_packets.specs.Held.{Held}
use Rattle.qa_sent_packets.specs.Steps.{Thresholds, acknowledged, covered_by, declared, discarded_in, found_by, is_past_threshold_by, newly_found, unnamed, with_fate}
use Rattle.qa_sent_packets.specs.declared.fate.Fate.{Fate}
use Rattle.qa_sent_packets.specs.declared.fate.Fate.TheVariants.{Open, Owed, DeclaredLost, Acknowledged, Discarded}
use Rattle.qa_sent_packets.specs.declared.free.FreePackets.{FreePackets}
use Rattle.qa_sent_packets.specs.declared.packet.SentPacket.{SentPacket}

-- ---- one packet

left_if : (f : Fate) (q : SentPacket) (b : Bool) → b ≡ false → (if b then with_fate f q else q) ≡ q
left_if f q true out = cc
left_if f q false out = refl

off : (a b : Bool) → a ≡ false → (a && b) ≡ false
off true b out = cc
off false b out = refl

off_last : (a b : Bool) → b ≡ false → (a && b) ≡ false
off_last true b out = out
off_last false b out = refl

grounded : (s : Space) (q : SentPacket) → q.in_flight ≡ false → is_flying s q ≡ false
grounded s q out = off_last (is_space s q.space) (q.in_flight && is_open q.fate) (off q.in_flight (is_open q.fate) out)

-- a detection does not find it, nor does a Lost line take it
pub found_not : (s : Space) (l : Thresholds) (q : SentPacket) → q.in_flight ≡ false → found_by s l q ≡ q
found_not s l q out = left_if Owed q (is_flying s q && is_past_threshold_by l q) (off (is_flying s q) (is_past_threshold_by l q) (grounded s q out))

taken_not : (free : FreePackets) (ranges : List (ℕ × ℕ)) (q : SentPacket) → q.in_flight ≡ false → taken_by free ranges q ≡ q
taken_not free ranges q out =
    left_if Owed q (is_free_by free q && is_named ranges q.number) (off (is_free_by free q) (is_named ranges q.number) (off (is_flying free.space q) _ (grounded free.space q out)))

opened_not_owed : (f : Fate) → is_open f ≡ true → is_owed f ≡ false
opened_not_owed Open is = refl
opened_not_owed Owed is = cc
opened_not_owed DeclaredLost is = refl
opened_not_owed Acknowledged is = refl
opened_not_owed Discarded is = refl

declared_not : (q : SentPacket) → is_open q.fate ≡ true → declared q ≡ q
declared_not q opened = left_if DeclaredLost q (is_owed q.fate) (opened_not_owed q.fate opened)

pub lost_not : (free : FreePackets) (ranges : List (ℕ × ℕ)) (s : Space) (q : SentPacket) → IsStray s q → declared (taken_by free ranges q) ≡ q
lost_not free ranges s q stray = ap declared (taken_not free ranges q stray.grounded) ∙ declared_not q stray.opened

-- ---- all of them

kept_if : (q : SentPacket) (qs rest : List SentPacket) (b : Bool) → b ≡ true → rest ≡ qs → cond b (q ∷ rest) rest ≡ q ∷ qs
kept_if q qs rest true opened is = ap (λ xs. q ∷ xs) is
kept_if q qs rest false opened is = cc

-- a step that leaves each leaves all
pub all_stay : (step : SentPacket → SentPacket) (s : Space) (qs : List SentPacket) → ((q : SentPacket) → IsStray s q → step q ≡ q) → AllByRecursion (IsStray s) qs
    → qs ≡ filter (λ q. is_open q.fate) (map step qs)
all_stay step s [] stays strays = refl
all_stay step s (q ∷ qs) stays strays =
    sym (ap (λ (x : SentPacket). cond (is_open x.fate) (x ∷ filter (λ y. is_open y.fate) (map step qs)) (filter (λ y. is_open y.fate) (map step qs))) (stays q strays.0)
    ∙ kept_if q qs (filter (λ y. is_open y.fate) (map step qs)) (is_open q.fate) strays.0.opened (sym (all_stay step s qs stays strays.1)))

-- a step behind which each is as behind another
pub same_open : (f g : SentPacket → SentPacket) (s : Space) (qs : List SentPacket) → ((q : SentPacket) → IsStray s q → f q ≡ g q) → AllByRecursion (IsStray s) qs
    → filter (λ q. is_open q.fate) (map f qs) ≡ filter (λ q. is_open q.fate) (map g qs)
same_open f g s [] same strays = refl
same_open f g s (q ∷ qs) same strays =
    ap (λ (x : SentPacket). cond (is_open x.fate) (x ∷ filter (λ y. is_open y.fate) (map f qs)) (filter (λ y. is_open y.fate) (map f qs))) (same q strays.0)
    ∙ ap (λ xs. cond (is_open (g q).fate) (g q ∷ xs) xs) (same_open f g s qs same strays.1)

-- ---- an acknowledgment

opened_waits : (f : Fate) → is_open f ≡ true → is_unacknowledged f ≡ true
opened_waits Open is = refl
opened_waits _ is = cc

on : (a b : Bool) → a ≡ true → b ≡ true → (a && b) ≡ true
on true b holds also = also
on false b holds also = holds

waits : (a s : Space) (q : SentPacket) → IsStray s q → is_space a s ≡ true → is_waiting a q ≡ true
waits a s q stray here = on (is_space a q.space) (is_unacknowledged q.fate) (ap (is_space a) stray.here ∙ here) (opened_waits q.fate stray.opened)

not_here : (a s : Space) (q : SentPacket) → IsStray s q → is_space a s ≡ false → is_waiting a q ≡ false
not_here a s q stray out = off (is_space a q.space) (is_unacknowledged q.fate) (ap (is_space a) stray.here ∙ out)

covered_if : (q : SentPacket) (rest qs : List SentPacket) (waiting named : Bool) → waiting ≡ true → is_open q.fate ≡ true → qs ≡ rest
    → cond (not named) (q ∷ qs) qs ≡ cond (is_open (if waiting && named then with_fate Acknowledged q else q).fate) ((if waiting && named then with_fate Acknowledged q else q) ∷ rest) rest
covered_if q rest qs false named holds opened is = absurd (both_ways false refl holds)
covered_if q rest qs true true holds opened is = is
covered_if q rest qs true false holds opened is = ap (λ xs. q ∷ xs) is ∙ ap (λ b. cond b (q ∷ rest) rest) (sym opened)

unnamed_here : (a : Space) (ranges : List (ℕ × ℕ)) (s : Space) (qs : List SentPacket) → is_space a s ≡ true → AllByRecursion (IsStray s) qs
    → filter (λ q. not (is_named ranges q.number)) qs ≡ filter (λ q. is_open q.fate) (map (covered_by a ranges) qs)
unnamed_here a ranges s [] here strays = refl
unnamed_here a ranges s (q ∷ qs) here strays =
    covered_if q (filter (λ x. is_open x.fate) (map (covered_by a ranges) qs)) (filter (λ x. not (is_named ranges x.number)) qs) (is_waiting a q) (is_named ranges q.number)
    (waits a s q strays.0 here) strays.0.opened (unnamed_here a ranges s qs here strays.1)

covered_elsewhere : (a : Space) (ranges : List (ℕ × ℕ)) (s : Space) → is_space a s ≡ false → (q : SentPacket) → IsStray s q → covered_by a ranges q ≡ q
covered_elsewhere a ranges s out q stray =
    left_if Acknowledged q (is_waiting a q && is_named ranges q.number) (off (is_waiting a q) (is_named ranges q.number) (not_here a s q stray out))

-- ---- of one space

of_with : {T : Type 0} (a s : Space) (values : PerSpace T) (t : T) → is_space a s ≡ true → of_space s (with_space a values t) ≡ t
of_with Initial Initial values t here = refl
of_with Initial Handshake values t here = cc
of_with Initial App values t here = cc
of_with Handshake Initial values t here = cc
of_with Handshake Handshake values t here = refl
of_with Handshake App values t here = cc
of_with App Initial values t here = cc
of_with App Handshake values t here = cc
of_with App App values t here = refl

of_others : {T : Type 0} (a s : Space) (values : PerSpace T) (t : T) → is_space a s ≡ false → of_space s (with_space a values t) ≡ of_space s values
of_others Initial Initial values t out = cc
of_others Initial Handshake values t out = refl
of_others Initial App values t out = refl
of_others Handshake Initial values t out = refl
of_others Handshake Handshake values t out = cc
of_others Handshake App values t out = refl
of_others App Initial values t out = refl
of_others App Handshake values t out = refl
of_others App App values t out = cc

-- an acknowledgment leaves those that it does not name
pub strays_covered : (a : Space) (ranges : List (ℕ × ℕ)) (strays : PerSpace (List SentPacket)) → ((s : Space) → AllByRecursion (IsStray s) (of_space s strays))
    → (s : Space) → of_space s (unnamed a ranges strays) ≡ filter (λ q. is_open q.fate) (map (covered_by a ranges) (of_space s strays))
strays_covered a ranges strays are s =
    let left : List SentPacket → List SentPacket = filter (λ q. not (is_named ranges q.number)) in
    elim (cases_Bool (is_space a s)) [
      | inl here ↦ of_with a s strays (left (of_space a strays)) here ∙ (ap (λ t. left (of_space t strays)) (is_space_is a s here) ∙ unnamed_here a ranges s (of_space s strays) here (are s))
      | inr out ↦ of_others a s strays (left (of_space a strays)) out ∙ all_stay (covered_by a ranges) s (of_space s strays) (covered_elsewhere a ranges s out) (are s)
    ]

covered_grounded : (q : SentPacket) (b : Bool) → q.in_flight ≡ false → (if b then with_fate Acknowledged q else q).in_flight ≡ false
covered_grounded q true out = out
covered_grounded q false out = out

-- of which a detection finds none
pub covered_unfound : (a : Space) (ranges : List (ℕ × ℕ)) (l : Thresholds) (s : Space) (q : SentPacket) → IsStray s q → found_by a l (covered_by a ranges q) ≡ covered_by a ranges q
covered_unfound a ranges l s q stray = found_not a l (covered_by a ranges q) (covered_grounded q (is_waiting a q && is_named ranges q.number) stray.grounded)

-- ---- a discard

discarded_if : (q : SentPacket) (rest : List SentPacket) (b : Bool) → b ≡ true → cond (is_open (if b then with_fate Discarded q else q).fate) ((if b then with_fate Discarded q else q) ∷ rest) rest ≡ rest
discarded_if q rest true holds = refl
discarded_if q rest false holds = absurd (both_ways false refl holds)

none_here : (a s : Space) (qs : List SentPacket) → is_space a s ≡ true → AllByRecursion (IsStray s) qs → filter (λ q. is_open q.fate) (map (discarded_in a) qs) ≡ []
none_here a s [] here strays = refl
none_here a s (q ∷ qs) here strays =
    discarded_if q (filter (λ x. is_open x.fate) (map (discarded_in a) qs)) (is_waiting a q) (waits a s q strays.0 here) ∙ none_here a s qs here strays.1

discarded_elsewhere : (a s : Space) → is_space a s ≡ false → (q : SentPacket) → IsStray s q → discarded_in a q ≡ q
discarded_elsewhere a s out q stray = left_if Discarded q (is_waiting a q) (not_here a s q stray out)

-- a discard leaves none of its space
pub strays_discarded : (a : Space) (strays : PerSpace (List SentPacket)) → ((s : Space) → AllByRecursion (IsStray s) (of_space s strays))
    → (s : Space) → of_space s (with_space a strays []) ≡ filter (λ q. is_open q.fate) (map (discarded_in a) (of_space s strays))
strays_discarded a strays are s = elim (cases_Bool (is_space a s)) [
  | inl here ↦ of_with a s strays [] here ∙ sym (none_here a s (of_space s strays) here (are s))
  | inr out ↦ of_others a s strays [] out ∙ all_stay (discarded_in a) s (of_space s strays) (discarded_elsewhere a s out) (are s)
]

-- ---- ranges that name the same numbers

pub acknowledged_alike : (s : Space) (ranges others : List (ℕ × ℕ)) (h : Held) → ((n : ℕ) → is_named ranges n ≡ is_named others n) → acknowledged s ranges h ≡ acknowledged s others h
acknowledged_alike s ranges others h same =
    ap₂ (λ ps qs. record { dropped = h.dropped; packets = ps; strays = with_space s h.strays qs })
    (map_same (covered_by s ranges) (covered_by s others) h.packets (each_value (λ p. covered_by s ranges p ≡ covered_by s others p) (λ p. ap (λ b. if is_waiting s p && b then with_fate Acknowledged p else p) (same p.number)) h.packets))
    (filter_agree (λ p. not (is_named ranges p.number)) (λ p. not (is_named others p.number)) (λ p. ap not (same p.number)) (of_space s h.strays))

pub newly_alike : (s : Space) (ranges others : List (ℕ × ℕ)) (h : Held) → ((n : ℕ) → is_named ranges n ≡ is_named others n) → newly_found s ranges h ≡ newly_found s others h
newly_alike s ranges others h same =
    ap₂ (λ ps qs. ps ++ qs)
    (filter_agree (λ p. is_named ranges p.number) (λ p. is_named others p.number) (λ p. same p.number) (of_space s h.strays))
    (filter_agree (is_new s ranges) (is_new s others) (λ p. ap (λ b. is_space s p.space && is_open p.fate && b) (same p.number)) h.packets)
