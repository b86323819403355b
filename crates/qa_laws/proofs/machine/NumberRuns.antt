-- How many runs of numbers were sent after one more event.
use Rattle.std.proofs.Common.{◌≡◌, ◌∙◌, ◌<◌, ◌+◌, ℕ, List, [], ◌∷◌, ◌++◌, length, Bool, true, false, ◌||◌, not, cond, refl, sym, ap, arith, filter, count_by, zero-add}
use Rattle.std.proofs.lemmas.Bool.{eqb-true, ne_eqb, or_from}
use Rattle.std.proofs.lemmas.List.Sums.{sum_by-cons}
use Rattle.std.specs.List.{AllByRecursion, list_any}
use Rattle.std.specs.Prelude.{◌==◌, if◌then◌else◌}
use Rattle.qa_base.specs.declared.event.Event.{Event}
use Rattle.qa_base.specs.declared.event.SentPacket.{SentPacket}
use Rattle.qa_base.specs.declared.event.Event.TheVariants.{Sent}
use Rattle.qa_base.specs.declared.space.Space.{Space}
use Rattle.qa_base.specs.declared.space.Space.TheVariants.{Initial, Handshake, App}
use Rattle.qa_base.specs.machine.Breaches.{numbers}
use Rattle.qa_base.specs.machine.Kept.{numbers_of, runs}
use Rattle.qa_base.specs.machine.Numbers.{is_in}
use Rattle.qa_base.specs.machine.Packets.{Packet, packets, packet_of, packets_of, is_of, packet_at}
use Rattle.qa_base.specs.machine.Rules.{IsRun}
use Rattle.qa_base.specs.values.Settings.{Settings}
use Rattle.qa_base.proofs.machine.RunLaws.{tolerated_run_of}
use Rattle.qa_base.specs.history.Sequence.{EachTwo}
use Rattle.qa_laws.specs.machine.Useful.{runs_begun}
use Rattle.qa_base.proofs.history.ToleratedRuns.{IsEarlier, in_order_of}
use Rattle.qa_base.proofs.history.Pairs.{each_weaker}

-- ---- counts

-- the number is not followed by the next one
abbrev ends_run : List ℕ → ℕ → Bool
ends_run ns m = not (is_in ns (m + 1))

one_apart : (x y : Bool) → (x ≡ true → y ≡ false) → cond (not (x || y)) 1 0 + cond x 1 0 ≡ cond (not y) 1 0
one_apart true true apart = let no = apart refl in cc
one_apart true false apart = refl
one_apart false true apart = refl
one_apart false false apart = refl

-- with one more number, no run ends where that number is the next
ends_after : (n : ℕ) (ns : List ℕ) → is_in ns n ≡ false → (ps : List Packet)
    → count_by (ends_run (n ∷ ns)) (numbers ps) + count_by (λ m. n == m + 1) (numbers ps) ≡ count_by (ends_run ns) (numbers ps)
ends_after n ns out [] = refl
ends_after n ns out (p ∷ ps) =
    let m = p.number in
    let here = one_apart (n == m + 1) (is_in ns (m + 1)) (λ next. let same = eqb-true n (m + 1) next in rw (← same) out) in
    let rest = ends_after n ns out ps in
    let more = sum_by-cons (λ k. cond (ends_run (n ∷ ns) k) 1 0) m (numbers ps) in
    let follows = sum_by-cons (λ k. cond (n == k + 1) 1 0) m (numbers ps) in
    let ends = sum_by-cons (λ k. cond (ends_run ns k) 1 0) m (numbers ps) in
    omega (arith, here, rest, more, follows, ends)

-- ---- numbers that fall

out_above : (n : ℕ) (ps : List Packet) → AllByRecursion (λ p. p.number < n) ps → is_in (numbers ps) n ≡ false
out_above n [] below = refl
out_above n (p ∷ ps) below = or_from (p.number == n) (is_in (numbers ps) n) (ne_eqb p.number n (λ same. omega (arith, same, below.0))) (out_above n ps below.1)

none_next : (n m : ℕ) → n ≡ m + 1 → (ps : List Packet) → AllByRecursion (λ p. p.number < m) ps → count_by (λ k. n == k + 1) (numbers ps) ≡ 0
none_next n m is [] below = refl
none_next n m is (p ∷ ps) below =
    let here : ◌≡◌ {A = ℕ} (cond (n == p.number + 1) 1 0) 0 = ap (λ b. cond {A = ℕ} b 1 0) (ne_eqb n (p.number + 1) (λ same. omega (arith, same, is, below.0))) in
    let rest = none_next n m is ps below.1 in
    let sum = sum_by-cons (λ k. cond (n == k + 1) 1 0) p.number (numbers ps) in
    omega (arith, here, rest, sum)

each_lower : (p : Packet) (ps : List Packet) → AllByRecursion (IsEarlier p) ps → AllByRecursion (λ q. q.number < p.number) ps
each_lower p ps earlier = each_weaker (IsEarlier p) (λ q. q.number < p.number) (λ q before. before.number) ps earlier

one_step : (n : ℕ) (p : Packet) (ps : List Packet) (b : Bool) → (n == p.number + 1) ≡ b → AllByRecursion (IsEarlier p) ps
    → count_by (λ m. n == m + 1) (numbers ps) ≡ (if list_any (λ m. n == m + 1) (numbers ps) then 1 else 0)
    → cond b 1 0 + count_by (λ m. n == m + 1) (numbers ps) ≡ (if b || list_any (λ m. n == m + 1) (numbers ps) then 1 else 0)
one_step n p ps true is earlier rest = let none = none_next n p.number (eqb-true n (p.number + 1) is) ps (each_lower p ps earlier) in omega (arith, none)
one_step n p ps false is earlier rest = zero-add _ ∙ rest

-- of numbers that fall one at most is the one before another
one_next : (n : ℕ) (ps : List Packet) → EachTwo IsEarlier ps → count_by (λ m. n == m + 1) (numbers ps) ≡ (if list_any (λ m. n == m + 1) (numbers ps) then 1 else 0)
one_next n [] two = refl
one_next n (p ∷ ps) two =
    sum_by-cons (λ k. cond (n == k + 1) 1 0) p.number (numbers ps)
    ∙ one_step n p ps (n == p.number + 1) refl two.0 (one_next n ps two.1)

begun_if : (next : Bool) (more ends : ℕ) → more + (if next then 1 else 0) ≡ ends → 1 + more ≡ ends + (if next then 0 else 1)
begun_if true more ends sum = omega (arith, sum)
begun_if false more ends sum = omega (arith, sum)

-- a number above all others ends a run, and the one before it ends none any more
begun : (p : Packet) (ps : List Packet) → AllByRecursion (IsEarlier p) ps → EachTwo IsEarlier ps
    → count_by (ends_run (p.number ∷ numbers ps)) (p.number ∷ numbers ps) ≡ count_by (ends_run (numbers ps)) (numbers ps) + runs_begun (numbers ps) p.number
begun p ps earlier two =
    let n = p.number in
    let ns = numbers ps in
    let lower = each_lower p ps earlier in
    let last : is_in (n ∷ ns) (n + 1) ≡ false =
    or_from (n == n + 1) (is_in ns (n + 1)) (ne_eqb n (n + 1) (λ same. omega (arith, same)))
    (out_above (n + 1) ps (each_weaker (λ q. q.number < n) (λ q. q.number < n + 1) (λ q less. omega (arith, less)) ps lower)) in
    let first : ◌≡◌ {A = ℕ} (cond (ends_run (n ∷ ns) n) 1 0) 1 = ap (λ b. cond {A = ℕ} (not b) 1 0) last in
    let more = ends_after n ns (out_above n ps lower) ps in
    let one = one_next n ps two in
    let sum = begun_if (list_any (λ m. n == m + 1) ns) (count_by (ends_run (n ∷ ns)) ns) (count_by (ends_run ns) ns) (ap (λ k. count_by (ends_run (n ∷ ns)) ns + k) (sym one) ∙ more) in
    sum_by-cons (λ k. cond (ends_run (n ∷ ns) k) 1 0) n ns ∙ (ap (λ k. k + count_by (ends_run (n ∷ ns)) ns) first ∙ sum)

-- ---- one more event

sent_begins : (c : Settings) (h : List Event) (packet : SentPacket) (s : Space) → IsRun c (Sent (record packet { space = s }) ∷ h)
    → runs (Sent (record packet { space = s }) ∷ h) ≡ runs h + runs_begun (numbers_of h s) packet.number
sent_begins c h packet Initial run =
    let e = Sent (record packet { space = Initial }) in
    let two = in_order_of c (e ∷ h) Initial (tolerated_run_of c (e ∷ h) run) in
    let more = begun (packet_at (length h) (record packet { space = Initial })) (packets_of h Initial) two.0 two.1 in
    omega (arith, more)
sent_begins c h packet Handshake run =
    let e = Sent (record packet { space = Handshake }) in
    let two = in_order_of c (e ∷ h) Handshake (tolerated_run_of c (e ∷ h) run) in
    let more = begun (packet_at (length h) (record packet { space = Handshake })) (packets_of h Handshake) two.0 two.1 in
    omega (arith, more)
sent_begins c h packet App run =
    let e = Sent (record packet { space = App }) in
    let two = in_order_of c (e ∷ h) App (tolerated_run_of c (e ∷ h) run) in
    let more = begun (packet_at (length h) (record packet { space = App })) (packets_of h App) two.0 two.1 in
    omega (arith, more)

-- in a run a packet that is sent begins a run of numbers, unless the number before its own was sent in its space
pub runs_sent : (c : Settings) (h : List Event) (packet : SentPacket) → IsRun c (Sent packet ∷ h)
    → runs (Sent packet ∷ h) ≡ runs h + runs_begun (numbers_of h packet.space) packet.number
runs_sent c h packet = sent_begins c h packet packet.space

abbrev runs_in : List Packet → Space → ℕ
runs_in ps s = count_by (ends_run (numbers (filter (is_of s) ps))) (numbers (filter (is_of s) ps))

-- no other event begins or ends one
pub runs_stay : (e : Event) (h : List Event) → packet_of (length h) e ≡ [] → runs (e ∷ h) ≡ runs h
runs_stay e h none =
    let same : packets (e ∷ h) ≡ packets h = ap (λ (ps : List Packet). ps ++ packets h) none in
    ap (λ (ps : List Packet). runs_in ps Initial + runs_in ps Handshake + runs_in ps App) same
