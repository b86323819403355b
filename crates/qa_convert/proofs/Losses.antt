-- Lines of losses, one list of them behind another.
use Rattle.std.proofs.Common.{◌≡◌, ◌<◌, ◌≤◌, ◌+◌, ◌-◌, ◌⊎◌, ◌∙◌, ◌||◌, ◌&&◌, ◌++◌, ℕ, Bool, true, false, cond, List, [], ◌∷◌, append-nil, append_assoc, get_or, length, ap, ap₂, filter, inl, inr, not, refl, subst, sym, ⊎_elim, arith, take, drop}
use Rattle.std.proofs.Math.Seq.{take-add, take-length}
use Rattle.std.proofs.lemmas.Grind.{flat_map-append}
use Rattle.std.proofs.lemmas.List.Elements.{filter-append}
use Rattle.std.proofs.lemmas.List.Sums.{sum_by-append, sum_by-cons}
use Rattle.std.proofs.lemmas.List.Folds.{list_any-append, list_any_more}
use Rattle.std.specs.List.{list_any}
use Rattle.std.specs.Prelude.{nat_eq}
use Rattle.qa_base.specs.declared.event.Event.TheVariants as event
use Rattle.qa_base.specs.declared.per_space.PerSpace.{PerSpace}
use Rattle.qa_base.specs.declared.space.Space.{Space}
use Rattle.qa_base.specs.declared.space.Space.TheVariants.{Initial, Handshake, App}
use Rattle.qa_base.specs.values.Events.{has_ranges, is_named, is_space}
use Rattle.qa_base.specs.values.PerSpace.{of_space, with_space}
use Rattle.qa_convert.specs.Marks.{Marks}
use Rattle.qa_convert.specs.Losing.{Leaves, Names, NamesOnly, in_flight, in_space, is_among, is_bare, is_of, is_told, lost_in, lost_said, names, packets_of, times_lost, times_told, with_fit}
use Rattle.qa_convert.specs.Telling.{LostLine, Told, with_event}
use Rattle.qa_convert.specs.declared.bare.Bare.{Bare}
use Rattle.qa_convert.specs.declared.event.LoggedEvent.{LoggedEvent}
use Rattle.qa_convert.specs.declared.event.LostPacket.{LostPacket}
use Rattle.qa_convert.specs.declared.groups.LostAt.{LostAt}

-- ---- what is among losses

pub among_and : (s : Space) (n : ℕ) (ps qs : List LostPacket) → is_among s n (ps ++ qs) ≡ (is_among s n ps || is_among s n qs)
among_and s n ps qs = list_any-append (is_of s n) ps qs

either : (a b : Bool) → (a || b) ≡ true → (a ≡ true) ⊎ (b ≡ true)
either true b is = inl refl
either false b is = inr is

first_true : (a b : Bool) → a ≡ true → (a || b) ≡ true
first_true true b is = refl
first_true false b is = cc

second_true : (a b : Bool) → b ≡ true → (a || b) ≡ true
second_true true b is = refl
second_true false b is = is

-- ---- how often a number is among losses

lost_cons : (s : Space) (n : ℕ) (p : LostPacket) (ps : List LostPacket) → times_lost s n (p ∷ ps) ≡ cond (is_of s n p) 1 0 + times_lost s n ps
lost_cons s n p ps = sum_by-cons (λ (q : LostPacket). cond (is_of s n q) 1 0) p ps

pub lost_sum : (s : Space) (n : ℕ) (ps qs : List LostPacket) → times_lost s n (ps ++ qs) ≡ times_lost s n ps + times_lost s n qs
lost_sum s n ps qs = sum_by-append (λ (q : LostPacket). cond (is_of s n q) 1 0) ps qs

pub told_sum : (s : Space) (n : ℕ) (ls ms : List LostLine) → times_told s n (ls ++ ms) ≡ times_told s n ls + times_told s n ms
told_sum s n ls ms = sum_by-append (λ (l : LostLine). cond (names s n l) 1 0) ls ms

few_if : (b : Bool) (s : Space) (n : ℕ) (p : LostPacket) (ps kept : List LostPacket) → times_lost s n kept ≤ times_lost s n ps → times_lost s n (cond b (p ∷ kept) kept) ≤ times_lost s n (p ∷ ps)
few_if true s n p ps kept later = let all = lost_cons s n p ps in let some = lost_cons s n p kept in omega (arith, all, some, later)
few_if false s n p ps kept later = let all = lost_cons s n p ps in omega (arith, all, later)

-- what passes a test is not more
pub few_filtered : (test : LostPacket → Bool) (s : Space) (n : ℕ) (ps : List LostPacket) → times_lost s n (filter test ps) ≤ times_lost s n ps
few_filtered test s n [] = omega arith
few_filtered test s n (p ∷ ps) = few_if (test p) s n p ps (filter test ps) (few_filtered test s n ps)

one_is : (b : Bool) → b ≡ true → 1 ≤ cond b 1 0
one_is true is = omega arith
one_is false is = cc

some_if : (b : Bool) (s : Space) (n : ℕ) (p : LostPacket) (ps : List LostPacket) → is_of s n p ≡ b → (is_among s n ps ≡ true → 1 ≤ times_lost s n ps) → (b || is_among s n ps) ≡ true
    → 1 ≤ times_lost s n (p ∷ ps)
some_if true s n p ps here later is = let all = lost_cons s n p ps in let one = one_is (is_of s n p) here in omega (arith, all, one)
some_if false s n p ps here later is = let all = lost_cons s n p ps in let more = later is in omega (arith, all, more)

-- what is among losses is so once at least
pub some_among : (s : Space) (n : ℕ) (ps : List LostPacket) → is_among s n ps ≡ true → 1 ≤ times_lost s n ps
some_among s n [] is = cc
some_among s n (p ∷ ps) is = some_if (is_of s n p) s n p ps refl (some_among s n ps) is

-- ---- lines after lines

pub told_and : (s : Space) (n : ℕ) (ls ms : List LostLine) → is_told s n (ls ++ ms) ≡ (is_told s n ls || is_told s n ms)
told_and s n ls ms = list_any-append (names s n) ls ms

-- the lines of some losses, and then those of others
pub names_then : (ps qs : List LostPacket) (a b d : Told) → Names ps a b → Names qs b d → Names (ps ++ qs) a d
names_then ps qs a b d first second = record {
  lines = first.lines ++ second.lines;
  told = second.told ∙ ap (λ ls. ls ++ second.lines) first.told ∙ append_assoc a.lost first.lines second.lines;
  same = λ s n. told_and s n first.lines second.lines ∙ ap₂ (λ x y. x || y) (first.same s n) (second.same s n) ∙ sym (among_and s n ps qs);
  few = λ s n.
      let told = told_sum s n first.lines second.lines in
      let lost = lost_sum s n ps qs in
      let some = first.few s n in let more = second.few s n in omega (arith, told, lost, some, more);
}

-- losses of which none but those of packets in flight are named
pub names_only : (bare : PerSpace Bare) (ps : List LostPacket) (a b : Told) → Names (in_flight bare ps) a b → NamesOnly ps a b
names_only bare ps a b all = record {
  lines = all.lines;
  told = all.told;
  few = λ s n. let some = all.few s n in let more = few_filtered (λ p. not (is_bare bare p.space p.number)) s n ps in omega (arith, some, more);
}

-- no lines, and fewer losses are left
pub only_none : (ps qs : List LostPacket) (a b : Told) → ((s : Space) (n : ℕ) → times_lost s n qs ≤ times_lost s n ps) → b.lost ≡ a.lost → Leaves ps qs a b
only_none ps qs a b fewer same = record { lines = []; told = same ∙ sym (append-nil a.lost); few = λ s n. let some = fewer s n in omega (arith, some) }

-- what is left is not named
pub leaves_none : (ps qs : List LostPacket) (a b : Told) → Leaves ps qs a b → NamesOnly ps a b
leaves_none ps qs a b some = record { lines = some.lines; told = some.told; few = λ s n. let few = some.few s n in omega (arith, few) }

-- the lines of some losses, and then those of what was left
pub leaves_then : (ps qs rs : List LostPacket) (a b d : Told) → Leaves ps qs a b → Leaves qs rs b d → Leaves ps rs a d
leaves_then ps qs rs a b d first second = record {
  lines = first.lines ++ second.lines;
  told = second.told ∙ ap (λ ls. ls ++ second.lines) first.told ∙ append_assoc a.lost first.lines second.lines;
  few = λ s n. let told = told_sum s n first.lines second.lines in let some = first.few s n in let more = second.few s n in omega (arith, told, some, more);
}

-- others are left as well
pub leaves_more : (ps qs more : List LostPacket) (a b : Told) → Leaves ps qs a b → Leaves (ps ++ more) (qs ++ more) a b
leaves_more ps qs more a b some = record {
  lines = some.lines;
  told = some.told;
  few = λ s n. let all = lost_sum s n ps more in let left = lost_sum s n qs more in let few = some.few s n in omega (arith, all, left, few);
}

-- nothing is told of losses before
pub only_from : (ps qs : List LostPacket) (a b d : Told) → b.lost ≡ a.lost → Leaves ps qs b d → Leaves ps qs a d
only_from ps qs a b d same only = record { lines = only.lines; told = only.told ∙ ap (λ ls. ls ++ only.lines) same; few = only.few }

-- ---- the losses of events, some after others

in_flight_and : (bare : PerSpace Bare) (xs ys : List LoggedEvent) → in_flight bare (lost_in (xs ++ ys)) ≡ in_flight bare (lost_in xs) ++ in_flight bare (lost_in ys)
in_flight_and bare xs ys =
    ap (in_flight bare) (flat_map-append (λ (e : LoggedEvent). lost_said e.said) xs ys)
    ∙ filter-append (λ (p : LostPacket). not (is_bare bare p.space p.number)) (lost_in xs) (lost_in ys)

pub events_then : (bare : PerSpace Bare) (xs ys : List LoggedEvent) (a b d : Told) → Names (in_flight bare (lost_in xs)) a b → Names (in_flight bare (lost_in ys)) b d
    → Names (in_flight bare (lost_in (xs ++ ys))) a d
events_then bare xs ys a b d first second =
    rw (in_flight_and bare xs ys) (names_then (in_flight bare (lost_in xs)) (in_flight bare (lost_in ys)) a b d first second)

pub front_is : {X : Type 0} (i j : ℕ) (xs : List X) → i ≤ j → take i xs ++ take (j - i) (drop i xs) ≡ take j xs
front_is i j xs order = let j_is : i + (j - i) ≡ j = omega arith in sym (take-add i (j - i) xs) ∙ ap (λ n. take n xs) j_is

-- the losses up to a place, and then those up to a later one
pub detected_more : (bare : PerSpace Bare) (i j : ℕ) (es : List LoggedEvent) (a b d : Told) → i ≤ j → Names (in_flight bare (lost_in (take i es))) a b
    → Names (in_flight bare (lost_in (take (j - i) (drop i es)))) b d → Names (in_flight bare (lost_in (take j es))) a d
detected_more bare i j es a b d order first second =
    rw (← front_is i j es order) (events_then bare (take i es) (take (j - i) (drop i es)) a b d first second)

-- the losses up to a place, and then all others
pub detected_all : (bare : PerSpace Bare) (i : ℕ) (es : List LoggedEvent) (a b d : Told) → i ≤ length es → Names (in_flight bare (lost_in (take i es))) a b
    → Names (in_flight bare (lost_in (take (length es - i) (drop i es)))) b d → Names (in_flight bare (lost_in es)) a d
detected_all bare i es a b d order first second =
    subst (λ (xs : List LoggedEvent). Names (in_flight bare (lost_in xs)) a d) (take-length es) (detected_more bare i (length es) es a b d order first second)

lost_and : (xs ys all : List LoggedEvent) → xs ++ ys ≡ all → lost_in all ≡ lost_in xs ++ lost_in ys
lost_and xs ys all are = ap lost_in (sym are) ∙ flat_map-append (λ (e : LoggedEvent). lost_said e.said) xs ys

none_or_some : (ls : List LostAt) → (length ls ≡ 0) ⊎ (0 < length ls)
none_or_some [] = inl refl
none_or_some (l ∷ ls) = inr (omega arith)

-- the losses that a packet shows are in front of it, or among what is said beside it
few_shown : (s : Space) (n : ℕ) (left lost : List LostAt) (shown : List LoggedEvent) → (0 < length left → lost ≡ left) → (length left ≡ 0 → packets_of lost ≡ lost_in shown)
    → times_lost s n (packets_of lost) ≤ times_lost s n (packets_of left ++ lost_in shown)
few_shown s n left lost shown some none =
    let all = lost_sum s n (packets_of left) (lost_in shown) in
    ⊎_elim (λ no. let same = ap (times_lost s n) (none no) in omega (arith, all, same))
    (λ any. let same = ap (λ (ls : List LostAt). times_lost s n (packets_of ls)) (some any) in omega (arith, all, same))
    (none_or_some left)

-- a packet came: the losses in front of it, those that it shows, and those later beside it
pub received_only : (before left lost : List LostAt) (shown later all : List LoggedEvent) (a b d e f : Told) → shown ++ later ≡ all
    → (0 < length left → lost ≡ left) → (length left ≡ 0 → packets_of lost ≡ lost_in shown)
    → Leaves (packets_of before) (packets_of left) a b → d.lost ≡ b.lost → NamesOnly (packets_of lost) d e → NamesOnly (lost_in later) e f
    → NamesOnly (packets_of before ++ lost_in all) a f
received_only before left lost shown later all a b d e f are some none first same second third =
    let ps = packets_of before in
    let rest = lost_in shown ++ lost_in later in
    let begun : Leaves (ps ++ rest) (packets_of left ++ rest) a b = leaves_more ps (packets_of left) rest a b first in
    let taken : Leaves (packets_of left ++ rest) (packets_of lost ++ lost_in later) b d =
    only_none (packets_of left ++ rest) (packets_of lost ++ lost_in later) b d
    (λ s n.
    let few = few_shown s n left lost shown some none in
    let one = lost_sum s n (packets_of left) rest in
    let two = lost_sum s n (lost_in shown) (lost_in later) in
    let three = lost_sum s n (packets_of lost) (lost_in later) in
    let four = lost_sum s n (packets_of left) (lost_in shown) in omega (arith, few, one, two, three, four)) same in
    let told : Leaves (packets_of lost ++ lost_in later) (lost_in later) d e = leaves_more (packets_of lost) [] (lost_in later) d e second in
    let each : NamesOnly (ps ++ rest) a f =
    leaves_then (ps ++ rest) (packets_of left ++ rest) [] a b f begun
    (leaves_then (packets_of left ++ rest) (packets_of lost ++ lost_in later) [] b d f taken (leaves_then (packets_of lost ++ lost_in later) (lost_in later) [] d e f told third)) in
    subst (λ (qs : List LostPacket). NamesOnly (ps ++ qs) a f) (sym (lost_and shown later all are)) each

-- ---- the lines of one space after another

or_true : (b : Bool) → (b || true) ≡ true
or_true true = refl
or_true false = refl

or_none : (b : Bool) → (b || false) ≡ b
or_none true = refl
or_none false = refl

same_spaces : (s t : Space) → is_space s t ≡ true → s ≡ t
same_spaces Initial Initial is = refl
same_spaces Handshake Handshake is = refl
same_spaces App App is = refl
same_spaces Initial Handshake is = cc
same_spaces Initial App is = cc
same_spaces Handshake Initial is = cc
same_spaces Handshake App is = cc
same_spaces App Initial is = cc
same_spaces App Handshake is = cc

space_comm : (s t : Space) → is_space s t ≡ is_space t s
space_comm Initial Initial = refl
space_comm Initial Handshake = refl
space_comm Initial App = refl
space_comm Handshake Initial = refl
space_comm Handshake Handshake = refl
space_comm Handshake App = refl
space_comm App Initial = refl
space_comm App Handshake = refl
space_comm App App = refl

-- a space is marked
marked : (s space : Space) (w : PerSpace Bool) → of_space s (with_space space w true) ≡ (of_space s w || is_space space s)
marked Initial Initial w = sym (or_true w.initial)
marked Initial Handshake w = sym (or_none w.initial)
marked Initial App w = sym (or_none w.initial)
marked Handshake Initial w = sym (or_none w.handshake)
marked Handshake Handshake w = sym (or_true w.handshake)
marked Handshake App w = sym (or_none w.handshake)
marked App Initial w = sym (or_none w.app)
marked App Handshake w = sym (or_none w.app)
marked App App w = sym (or_true w.app)

none_of : (b : Bool) → false ≡ (b && false)
none_of true = refl
none_of false = refl

no_space : (s : Space) (x : Bool) → (of_space s (record { initial = false; handshake = false; app = false }) && x) ≡ false
no_space Initial x = refl
no_space Handshake x = refl
no_space App x = refl

among_here : (b c e x k : Bool) → b ≡ e → k ≡ (e && x) → (cond b (c || k) k) ≡ (e && (c || x))
among_here true c true x k same later = ap (λ b. c || b) later
among_here false c false x k same later = later
among_here true c false x k same later = cc
among_here false c true x k same later = cc

among_there : (b e x k : Bool) → k ≡ (e && x) → cond b k k ≡ (e && x)
among_there true e x k later = later
among_there false e x k later = later

among_if : (b : Bool) (s : Space) (n : ℕ) (p : LostPacket) (kept : List LostPacket) → is_among s n (cond b (p ∷ kept) kept) ≡ cond b (is_of s n p || is_among s n kept) (is_among s n kept)
among_if true s n p kept = refl
among_if false s n p kept = refl

of_spaces_step : (same : Bool) (t : Space → Bool) (s : Space) (n : ℕ) (p : LostPacket) (ps kept : List LostPacket) → is_space s p.space ≡ same → is_among s n kept ≡ (t s && is_among s n ps)
    → cond (t p.space) (is_of s n p || is_among s n kept) (is_among s n kept) ≡ (t s && (is_of s n p || is_among s n ps))
of_spaces_step true t s n p ps kept is later =
    among_here (t p.space) (is_of s n p) (t s) (is_among s n ps) (is_among s n kept) (ap t (sym (same_spaces s p.space is))) later
of_spaces_step false t s n p ps kept is later =
    let other : is_of s n p ≡ false = ap (λ b. b && nat_eq n p.number) is in
    rw other (among_there (t p.space) (t s) (is_among s n ps) (is_among s n kept) later)

-- the losses of some spaces
pub of_spaces : (t : Space → Bool) (s : Space) (n : ℕ) (ps : List LostPacket) → is_among s n (filter (λ p. t p.space) ps) ≡ (t s && is_among s n ps)
of_spaces t s n [] = none_of (t s)
of_spaces t s n (p ∷ ps) =
    among_if (t p.space) s n p (filter (λ (q : LostPacket). t q.space) ps)
    ∙ of_spaces_step (is_space s p.space) t s n p ps (filter (λ (q : LostPacket). t q.space) ps) refl (of_spaces t s n ps)

times_if : (b : Bool) (s : Space) (n : ℕ) (p : LostPacket) (kept : List LostPacket) → times_lost s n (cond b (p ∷ kept) kept) ≡ cond b (cond (is_of s n p) 1 0 + times_lost s n kept) (times_lost s n kept)
times_if true s n p kept = lost_cons s n p kept
times_if false s n p kept = refl

times_here : (b e : Bool) (one kept all : ℕ) → b ≡ e → kept ≡ cond e all 0 → cond b (one + kept) kept ≡ cond e (one + all) 0
times_here true true one kept all same later = ap (λ m. one + m) later
times_here false false one kept all same later = later
times_here true false one kept all same later = cc
times_here false true one kept all same later = cc

and_none : (m : ℕ) → m ≡ 0 + m
and_none m = omega arith

times_there : (b e : Bool) (kept all : ℕ) → kept ≡ cond e all 0 → cond b (0 + kept) kept ≡ cond e (0 + all) 0
times_there true e kept all later = sym (and_none kept) ∙ later ∙ ap (λ (m : ℕ). cond e m 0) (and_none all)
times_there false e kept all later = later ∙ ap (λ (m : ℕ). cond e m 0) (and_none all)

times_step : (same : Bool) (t : Space → Bool) (s : Space) (n : ℕ) (p : LostPacket) (ps kept : List LostPacket) → is_space s p.space ≡ same → times_lost s n kept ≡ cond (t s) (times_lost s n ps) 0
    → cond (t p.space) (cond (is_of s n p) 1 0 + times_lost s n kept) (times_lost s n kept) ≡ cond (t s) (cond (is_of s n p) 1 0 + times_lost s n ps) 0
times_step true t s n p ps kept is later =
    times_here (t p.space) (t s) (cond (is_of s n p) 1 0) (times_lost s n kept) (times_lost s n ps) (ap t (sym (same_spaces s p.space is))) later
times_step false t s n p ps kept is later =
    let other : is_of s n p ≡ false = ap (λ b. b && nat_eq n p.number) is in
    rw other (times_there (t p.space) (t s) (times_lost s n kept) (times_lost s n ps) later)

none_times : (b : Bool) (m : ℕ) → m ≡ cond b m m
none_times true m = refl
none_times false m = refl

-- how often a number is among the losses of some spaces
times_of : (t : Space → Bool) (s : Space) (n : ℕ) (ps : List LostPacket) → times_lost s n (filter (λ p. t p.space) ps) ≡ cond (t s) (times_lost s n ps) 0
times_of t s n [] = none_times (t s) 0
times_of t s n (p ∷ ps) =
    times_if (t p.space) s n p (filter (λ (q : LostPacket). t q.space) ps)
    ∙ times_step (is_space s p.space) t s n p ps (filter (λ (q : LostPacket). t q.space) ps) refl (times_of t s n ps)
    ∙ ap (λ m. cond (t s) m 0) (sym (lost_cons s n p ps))

space_once : (here : Bool) (w : PerSpace Bool) (s space : Space) (m : ℕ) → is_space space s ≡ here → of_space space w ≡ false → cond (of_space s w) m 0 + cond here m 0 ≤ cond (of_space s w || here) m 0
space_once true w s space m is new =
    let none : of_space s w ≡ false = ap (λ t. of_space t w) (sym (same_spaces space s is)) ∙ new in
    rw none (omega arith)
space_once false w s space m is new = rw (or_none (of_space s w)) (omega arith)

both_ways : (a b x : Bool) → ((a && x) || (b && x)) ≡ ((a || b) && x)
both_ways true true true = refl
both_ways true true false = refl
both_ways true false true = refl
both_ways true false false = refl
both_ways false b x = refl

-- the line of one space more
pub space_more : (space : Space) (w : PerSpace Bool) (ps : List LostPacket) (a b d : Told) → of_space space w ≡ false → Names (filter (λ p. of_space p.space w) ps) a b → Names (in_space space ps) b d
    → Names (filter (λ p. of_space p.space (with_space space w true)) ps) a d
space_more space w ps a b d new first second = record {
  lines = first.lines ++ second.lines;
  told = second.told ∙ ap (λ ls. ls ++ second.lines) first.told ∙ append_assoc a.lost first.lines second.lines;
  same = λ s n.
      told_and s n first.lines second.lines
      ∙ ap₂ (λ x y. x || y) (first.same s n ∙ of_spaces (λ t. of_space t w) s n ps) (second.same s n ∙ of_spaces (is_space space) s n ps)
      ∙ both_ways (of_space s w) (is_space space s) (is_among s n ps)
      ∙ ap (λ b. b && is_among s n ps) (sym (marked s space w))
      ∙ sym (of_spaces (λ t. of_space t (with_space space w true)) s n ps);
  few = λ s n.
      let told = told_sum s n first.lines second.lines in
      let one = first.few s n in
      let two = second.few s n in
      let old = times_of (λ t. of_space t w) s n ps in
      let here = times_of (is_space space) s n ps in
      let all : times_lost s n (filter (λ (p : LostPacket). of_space p.space (with_space space w true)) ps) ≡ cond (of_space s w || is_space space s) (times_lost s n ps) 0 =
      times_of (λ t. of_space t (with_space space w true)) s n ps ∙ ap (λ b. cond b (times_lost s n ps) 0) (marked s space w) in
      let sum = space_once (is_space space s) w s space (times_lost s n ps) refl new in omega (arith, told, one, two, old, here, all, sum);
}

and_first : (a b : Bool) → (a && b) ≡ true → a ≡ true
and_first true b is = refl
and_first false b is = cc

-- a number among losses is of a space among them
pub space_among : (s : Space) (n : ℕ) (ls : List LostAt) → is_among s n (packets_of ls) ≡ true → list_any (λ l. is_space s l.lost.space) ls ≡ true
space_among s n [] is = is
space_among s n (l ∷ ls) is =
    ⊎_elim (λ here. first_true (is_space s l.lost.space) (list_any (λ (m : LostAt). is_space s m.lost.space) ls) (and_first (is_space s l.lost.space) (nat_eq n l.lost.number) here))
    (λ there. second_true (is_space s l.lost.space) (list_any (λ (m : LostAt). is_space s m.lost.space) ls) (space_among s n ls there))
    (either (is_of s n l.lost) (is_among s n (packets_of ls)) is)

and_all : (e x : Bool) → (x ≡ true → e ≡ true) → (e && x) ≡ x
and_all true x all = refl
and_all false true all = cc (all refl)
and_all false false all = refl

-- the lines of all spaces
pub all_spaces : (w : PerSpace Bool) (ls : List LostAt) (a b : Told) → ((s : Space) → list_any (λ l. is_space s l.lost.space) ls ≡ true → of_space s w ≡ true)
    → Names (filter (λ p. of_space p.space w) (packets_of ls)) a b → Names (packets_of ls) a b
all_spaces w ls a b all some = record {
  lines = some.lines;
  told = some.told;
  same = λ s n.
      some.same s n
      ∙ of_spaces (λ t. of_space t w) s n (packets_of ls)
      ∙ and_all (of_space s w) (is_among s n (packets_of ls)) (λ is. all s (space_among s n ls is));
  few = λ s n. let one = some.few s n in let more = few_filtered (λ p. of_space p.space w) s n (packets_of ls) in omega (arith, one, more);
}

-- one loss more, whose space is marked
pub spaces_more : (ls : List LostAt) (i : ℕ) (x : LostAt) (w v : PerSpace Bool) → i < length ls → x ≡ get_or ls i x → ((s : Space) → of_space s w ≡ true → of_space s v ≡ true)
    → of_space x.lost.space v ≡ true → ((s : Space) → list_any (λ l. is_space s l.lost.space) (take i ls) ≡ true → of_space s w ≡ true)
    → (s : Space) → list_any (λ l. is_space s l.lost.space) (take (i + 1) ls) ≡ true → of_space s v ≡ true
spaces_more ls i x w v less at more here before s is =
    let test : LostAt → Bool = λ l. is_space s l.lost.space in
    let found : (list_any test (take i ls) || test x) ≡ true =
    ap (λ (y : LostAt). list_any test (take i ls) || test y) at ∙ sym (list_any_more test ls i x less) ∙ is in
    ⊎_elim (λ old. more s (before s old)) (λ new. ap (λ t. of_space t v) (same_spaces s x.lost.space new) ∙ here) (either (list_any test (take i ls)) (test x) found)

-- a mark stays
pub marks_stay : (space : Space) (w : PerSpace Bool) (s : Space) → of_space s w ≡ true → of_space s (with_space space w true) ≡ true
marks_stay space w s is = marked s space w ∙ first_true (of_space s w) (is_space space s) is

pub marks : (space : Space) (w : PerSpace Bool) → of_space space (with_space space w true) ≡ true
marks Initial w = refl
marks Handshake w = refl
marks App w = refl

none_written : (s : Space) (n : ℕ) (ps : List LostPacket) → is_among s n (filter (λ p. of_space p.space (record { initial = false; handshake = false; app = false })) ps) ≡ false
none_written s n ps = of_spaces (λ t. of_space t (record { initial = false; handshake = false; app = false })) s n ps ∙ no_space s (is_among s n ps)

-- no line of any space yet
pub no_spaces : (ps : List LostPacket) (a : Told) → Names (filter (λ p. of_space p.space (record { initial = false; handshake = false; app = false })) ps) a a
no_spaces ps a = record {
  lines = [];
  told = sym (append-nil a.lost);
  same = λ s n. sym (none_written s n ps);
  few = λ s n. omega arith;
}

-- ---- the line of one space

not_true : (b : Bool) → (b ≡ true → false ≡ true) → b ≡ false
not_true true no_more = sym (no_more refl)
not_true false no_more = refl

apart_or : (e x : Bool) → (e ≡ true → x ≡ false) → (e && x) ≡ false
apart_or true x none = none refl
apart_or false x none = refl

-- no line, since no number of the space is among losses
pub space_none : (space : Space) (ps : List LostPacket) (a b : Told) → ((n : ℕ) → is_among space n ps ≡ false) → b.lost ≡ a.lost → Names (in_space space ps) a b
space_none space ps a b none same = record {
  lines = [];
  told = same ∙ sym (append-nil a.lost);
  same = λ s n.
      sym
      (of_spaces (is_space space) s n ps
      ∙ apart_or (is_space space s) (is_among s n ps) (λ is. ap (λ t. is_among t n ps) (sym (same_spaces space s is)) ∙ none n));
  few = λ s n. omega arith;
}

-- no number of a space that no loss is of
pub none_of_space : (space : Space) (n : ℕ) (ls : List LostAt) → list_any (λ l. is_space space l.lost.space) ls ≡ false → is_among space n (packets_of ls) ≡ false
none_of_space space n ls none = not_true (is_among space n (packets_of ls)) (λ is. sym none ∙ space_among space n ls is)

with_space_of : (e y x : Bool) → (e ≡ true → y ≡ x) → ((e && y) || false) ≡ (e && x)
with_space_of true y x same = or_none y ∙ same refl
with_space_of false y x same = refl

named_none : (ranges : List (ℕ × ℕ)) (n : ℕ) → has_ranges ranges ≡ false → is_named ranges n ≡ false
named_none [] n none = refl
named_none (range ∷ ranges) n none = cc

one_few : (b : Bool) (m : ℕ) → (b ≡ true → 1 ≤ m) → cond b 1 0 ≤ m
one_few true m some = some refl
one_few false m some = omega arith

told_once : (s : Space) (n : ℕ) (l : LostLine) (ps : List LostPacket) → is_told s n (l ∷ []) ≡ is_among s n ps → times_told s n (l ∷ []) ≤ times_lost s n ps
told_once s n l ps same =
    let one : times_told s n (l ∷ []) ≡ cond (names s n l) 1 0 + 0 = sum_by-cons (λ (m : LostLine). cond (names s n m) 1 0) l [] in
    let few = one_few (names s n l) (times_lost s n ps) (λ is. some_among s n ps (sym same ∙ ap (λ b. b || false) is)) in omega (arith, one, few)

line_if : (b : Bool) (guessed : Marks) (time : ℕ) (space : Space) (ranges : List (ℕ × ℕ)) (ps : List LostPacket) (a b' : Told) → has_ranges ranges ≡ b → ((n : ℕ) → is_named ranges n ≡ is_among space n ps)
    → b' ≡ cond b (with_event a guessed (event.Lost time space ranges)) a → Names (in_space space ps) a b'
line_if true guessed time space ranges ps a b' has named told =
    let line : LostLine = record { space = space; ranges = ranges } in
    let same : (s : Space) (n : ℕ) → is_told s n (line ∷ []) ≡ is_among s n (in_space space ps) = λ s n.
    with_space_of (is_space s space) (is_named ranges n) (is_among s n ps) (λ is. named n ∙ ap (λ t. is_among t n ps) (sym (same_spaces s space is)))
    ∙ ap (λ b. b && is_among s n ps) (space_comm s space)
    ∙ sym (of_spaces (is_space space) s n ps) in
    record {
      lines = line ∷ [];
      told = ap (λ (t : Told). t.lost) told;
      same = same;
      few = λ s n. told_once s n line (in_space space ps) (same s n);
    }
line_if false guessed time space ranges ps a b' has named told = space_none space ps a b' (λ n. sym (named n) ∙ named_none ranges n has) (ap (λ (t : Told). t.lost) told)

-- the line of a space, if there are ranges
pub space_line : (guessed : Marks) (time : ℕ) (space : Space) (ranges : List (ℕ × ℕ)) (ps : List LostPacket) (a b : Told) → ((n : ℕ) → is_named ranges n ≡ is_among space n ps)
    → b ≡ with_fit a guessed (event.Lost time space ranges) → Names (in_space space ps) a b
space_line guessed time space ranges ps a b named told = line_if (has_ranges ranges) guessed time space ranges ps a b refl named told
