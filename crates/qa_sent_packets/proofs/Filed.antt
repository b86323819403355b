-- Packets that were set aside: how a map has them, and which of them ranges name.
use Rattle.std.proofs.Common.{◌≡◌, ◌∙◌, ℕ, ◌+◌, ◌<◌, ◌≤◌, ◌==◌, Bool, true, false, cond, ◌&&◌, ◌||◌, not, List, [], ◌∷◌, ◌++◌, length, get_or, map, filter, take, refl, sym, ap, subst, arith, inl, inr}
use Rattle.std.specs.List.{AllByRecursion}
use Rattle.std.specs.Map.{remove_entry}
use Rattle.std.specs.BTreeMap.{insert_entry, is_at}
use Rattle.std.specs.BTreeMap.Range.{entries_between, range_contains}
use Rattle.std.specs.Ordering.{nat_cmp}
use Rattle.std.specs.declared.ops.Bound.TheVariants.{Included, Unbounded}
use Rattle.std.proofs.lemmas.Bool.{and_parts, cases_Bool, not-true}
use Rattle.std.proofs.lemmas.Bool.Decides.{nat_tests}
use Rattle.std.proofs.lemmas.List.{append-nil}
use Rattle.qa_base.specs.declared.space.Space.{Space}
use Rattle.qa_base.specs.declared.space.Space.TheVariants.{Initial, Handshake, App}
use Rattle.qa_base.specs.declared.per_space.PerSpace.{PerSpace}
use Rattle.qa_base.specs.values.Events.{is_named, is_space}
use Rattle.qa_base.specs.values.PerSpace.{of_space, with_space}
use Rattle.qa_base.specs.machine.Numbers.{AreRanges}
use Rattle.qa_sent_packets.specs.Covering.{AreApart, AreApartFrom, is_between}
use Rattle.qa_sent_packets.specs.Fates.{is_bare, is_closed, is_open, is_open_in, is_owed}
use Rattle.qa_sent_packets.specs.Held.{Held}
use Rattle.qa_sent_packets.specs.Steps.{acknowledged, covered_by}
use Rattle.qa_sent_packets.specs.Strays.{AreFiled, NumbersRise, filed, without, without_number}
use Rattle.qa_sent_packets.specs.declared.packet.SentPacket.{SentPacket}
use Rattle.qa_sent_packets.proofs.Acknowledged.{named_more}
use Rattle.qa_sent_packets.proofs.Entries.{enters_last}
use Rattle.qa_sent_packets.proofs.Opened.{at_begin, both_step, named_below, rests_apart}
use Rattle.qa_sent_packets.proofs.Rising.{below_out}

-- ---- what holds of each

each_more : {X : Type 0} (P : X → Type 0) (xs : List X) (x : X) → AllByRecursion P xs → P x → AllByRecursion P (xs ++ x ∷ [])
each_more P [] x all one = (one, tt)
each_more P (y ∷ xs) x all one = (all.0, each_more P xs x all.1 one)

part_if : (P : SentPacket → Type 0) (b : Bool) (p : SentPacket) (ps : List SentPacket) → P p → AllByRecursion P ps → AllByRecursion P (cond b (p ∷ ps) ps)
part_if P true p ps here all = (here, all)
part_if P false p ps here all = all

pub each_of_part : (P : SentPacket → Type 0) (test : SentPacket → Bool) (ps : List SentPacket) → AllByRecursion P ps → AllByRecursion P (filter test ps)
each_of_part P test [] all = tt
each_of_part P test (p ∷ ps) all = part_if P (test p) p (filter test ps) all.0 (each_of_part P test ps all.1)

each_higher : (m n : ℕ) (ps : List SentPacket) → m ≤ n → AllByRecursion (λ q. n < q.number) ps → AllByRecursion (λ q. m < q.number) ps
each_higher m n [] low all = tt
each_higher m n (p ∷ ps) low all = (let above = all.0 in omega (arith, low, above), each_higher m n ps low all.1)

-- ---- numbers that rise

rising_if : (b : Bool) (p : SentPacket) (ps : List SentPacket) → AllByRecursion (λ q. p.number < q.number) ps → NumbersRise ps → NumbersRise (cond b (p ∷ ps) ps)
rising_if true p ps above rising = (above, rising)
rising_if false p ps above rising = rising

pub rising_part : (test : SentPacket → Bool) (ps : List SentPacket) → NumbersRise ps → NumbersRise (filter test ps)
rising_part test [] rising = tt
rising_part test (p ∷ ps) rising = rising_if (test p) p (filter test ps) (each_of_part (λ q. p.number < q.number) test ps rising.0) (rising_part test ps rising.1)

rising_more : (ps : List SentPacket) (p : SentPacket) → NumbersRise ps → AllByRecursion (λ q. q.number < p.number) ps → NumbersRise (ps ++ p ∷ [])
rising_more [] p rising below = (tt, tt)
rising_more (q ∷ ps) p rising below = (each_more (λ (x : SentPacket). q.number < x.number) ps p rising.0 below.0, rising_more ps p rising.1 below.1)

-- ---- one more

filed_more : (es : List (ℕ × SentPacket)) (e : ℕ × SentPacket) → filed (es ++ e ∷ []) ≡ filed es ++ e.1 ∷ []
filed_more [] e = refl
filed_more (x ∷ es) e = ap (λ ps. x.1 ∷ ps) (filed_more es e)

pub keys_below : (n : ℕ) (es : List (ℕ × SentPacket)) → AllByRecursion (λ e. e.0 ≡ e.1.number) es → AllByRecursion (λ q. q.number < n) (filed es) → AllByRecursion (λ e. e.0 < n) es
keys_below n [] keyed below = tt
keys_below n (e ∷ es) keyed below = (let same = keyed.0 in let less = below.0 in omega (arith, same, less), keys_below n es keyed.1 below.1)

-- the entries with one behind them
pub are_filed_more : (es after : List (ℕ × SentPacket)) (p : SentPacket) → after ≡ es ++ (p.number, p) ∷ [] → AreFiled es → AllByRecursion (λ q. q.number < p.number) (filed es)
    → AreFiled after × (filed after ≡ filed es ++ p ∷ [])
are_filed_more es after p is are below =
    let packets : filed after ≡ filed es ++ p ∷ [] = ap filed is ∙ filed_more es (p.number, p) in (
      record {
        keyed = subst (λ (xs : List (ℕ × SentPacket)). AllByRecursion (λ e. e.0 ≡ e.1.number) xs) (sym is) (each_more (λ (e : ℕ × SentPacket). e.0 ≡ e.1.number) es (p.number, p) are.keyed refl);
        rising = subst NumbersRise (sym packets) (rising_more (filed es) p are.rising below);
      },
      packets,
    )

pub are_filed_added : (es after : List (ℕ × SentPacket)) (n : ℕ) (p : SentPacket) → n ≡ p.number → after ≡ insert_entry nat_cmp es n p → AreFiled es → AllByRecursion (λ q. q.number < p.number) (filed es)
    → AreFiled after × (filed after ≡ filed es ++ p ∷ [])
are_filed_added es after n p same is are below =
    are_filed_more es after p (is ∙ (ap (λ m. insert_entry nat_cmp es m p) same ∙ enters_last p.number p es (keys_below p.number es are.keyed below))) are below

-- ---- those of a range

range_is : (lo hi n : ℕ) → range_contains nat_cmp (Included lo) (Included hi) n ≡ is_between lo hi n
range_is lo hi n = grind (arith, nat_tests)

between_if : (e : ℕ × SentPacket) (es : List (ℕ × SentPacket)) (ps : List SentPacket) (b : Bool) → filed es ≡ ps → filed (cond b (e ∷ es) es) ≡ cond b (e.1 ∷ ps) ps
between_if e es ps true is = ap (λ qs. e.1 ∷ qs) is
between_if e es ps false is = is

pub filed_between : (lo hi : ℕ) (es : List (ℕ × SentPacket)) → AllByRecursion (λ e. e.0 ≡ e.1.number) es
    → filed (entries_between nat_cmp (Included lo) (Included hi) es) ≡ filter (λ p. is_between lo hi p.number) (filed es)
filed_between lo hi [] keyed = refl
filed_between lo hi (e ∷ es) keyed =
    between_if e (entries_between nat_cmp (Included lo) (Included hi) es) (filter (λ p. is_between lo hi p.number) (filed es)) (range_contains nat_cmp (Included lo) (Included hi) e.0) (filed_between lo hi es keyed.1)
    ∙ ap (λ b. cond b (e.1 ∷ filter (λ p. is_between lo hi p.number) (filed es)) (filter (λ p. is_between lo hi p.number) (filed es)))
    (range_is lo hi e.0 ∙ ap (is_between lo hi) keyed.0)

-- ---- ranges one after another

none_passes : (ps : List SentPacket) → filter (λ p. is_named [] p.number) ps ≡ []
none_passes [] = refl
none_passes (p ∷ ps) = none_passes ps

-- no range names any
pub named_none : (found ps : List SentPacket) → found ≡ found ++ filter (λ p. is_named [] p.number) ps
named_none found ps = sym (ap (λ qs. found ++ qs) (none_passes ps) ∙ append-nil found)

none_named : (lo : ℕ) (front : List (ℕ × ℕ)) (ps : List SentPacket) → AllByRecursion (λ (r : ℕ × ℕ). r.1 < lo) front → AllByRecursion (λ q. lo < q.number) ps
    → filter (λ (p : SentPacket). is_named front p.number) ps ≡ []
none_named lo front [] below above = refl
none_named lo front (p ∷ ps) below above = elim (cases_Bool (is_named front p.number)) [
  | inl named ↦ (let low = named_below lo p.number front below named in let high = above.0 in absurd (omega (arith, low, high)))
  | inr out ↦ ap (λ b. cond b (p ∷ filter (λ (q : SentPacket). is_named front q.number) ps) (filter (λ (q : SentPacket). is_named front q.number) ps)) out ∙ none_named lo front ps below above.1
]

-- those that a range names above others, behind those that the others name
pub named_next : (front : List (ℕ × ℕ)) (range : ℕ × ℕ) (ps : List SentPacket) → AllByRecursion (λ (r : ℕ × ℕ). r.1 < range.0) front → NumbersRise ps
    → filter (λ p. is_named front p.number) ps ++ filter (λ p. is_between range.0 range.1 p.number) ps ≡ filter (λ p. is_named (front ++ range ∷ []) p.number) ps
named_next front range [] below rising = refl
named_next front range (x ∷ ps) below rising =
    both_step x true (is_named front x.number) (is_between range.0 range.1 x.number) (is_named (front ++ range ∷ []) x.number)
    (filter (λ p. is_named front p.number) ps) (filter (λ p. is_between range.0 range.1 p.number) ps) (filter (λ p. is_named (front ++ range ∷ []) p.number) ps)
    (named_more x.number front range)
    (λ named within. let low = named_below range.0 x.number front below named in let high = at_begin range.0 range.1 x.number within in omega (arith, low, high))
    (λ mine within. none_named range.0 front ps below (each_higher range.0 x.number ps (at_begin range.0 range.1 x.number within) rising.0))
    (named_next front range ps below rising.1)

-- ---- those below all ranges

below_if : (e : ℕ × SentPacket) (es : List (ℕ × SentPacket)) (b : Bool) → cond b (e ∷ es) es ≡ [] → (b ≡ false) × (es ≡ [])
below_if e es true none = cc
below_if e es false none = (refl, none)

less_than : (lo n : ℕ) → range_contains nat_cmp (Included lo) Unbounded n ≡ false → n < lo
less_than lo n out = grind (arith, nat_tests)

-- where a map has none from a number on, all are below it
pub end_below : (lo : ℕ) (es : List (ℕ × SentPacket)) → AllByRecursion (λ e. e.0 ≡ e.1.number) es → entries_between nat_cmp (Included lo) Unbounded es ≡ [] → AllByRecursion (λ p. p.number < lo) (filed es)
end_below lo [] keyed none = tt
end_below lo (e ∷ es) keyed none =
    let parts = below_if e (entries_between nat_cmp (Included lo) Unbounded es) (range_contains nat_cmp (Included lo) Unbounded e.0) none in
    let less = less_than lo e.0 parts.0 in
    let same = keyed.0 in
    (omega (arith, less, same), end_below lo es keyed.1 parts.1)

apart_first : (ranges : List (ℕ × ℕ)) (range : ℕ × ℕ) → 0 < length ranges → range ≡ get_or ranges 0 range → AreApart ranges → AreApartFrom range.0 ranges
apart_first [] range some is apart = absurd (omega (arith, some))
apart_first (r ∷ rs) range some is apart = (let same = ap (λ (x : ℕ × ℕ). x.0) is in omega (arith, same), rests_apart r.1 rs apart.0 apart.1)

unnamed_below : (low n : ℕ) (ranges : List (ℕ × ℕ)) → AreApartFrom low ranges → AreRanges ranges → n < low → is_named ranges n ≡ false
unnamed_below low n [] apart ordered less = refl
unnamed_below low n (r ∷ rs) apart ordered less =
    let above = apart.0 in
    let order = ordered.0 in
    rw (below_out r.0 r.1 n (omega (arith, above, less))) (unnamed_below (r.1 + 1) n rs apart.1 ordered.1 (omega (arith, above, less, order)))

-- packets below all of them are not named
pub none_named_below : (ranges : List (ℕ × ℕ)) (range : ℕ × ℕ) (ps : List SentPacket) → 0 < length ranges → range ≡ get_or ranges 0 range → AreApart ranges → AreRanges ranges
    → AllByRecursion (λ p. p.number < range.0) ps → filter (λ p. is_named ranges p.number) ps ≡ []
none_named_below ranges range [] some is apart ordered below = refl
none_named_below ranges range (p ∷ ps) some is apart ordered below =
    ap (λ b. cond b (p ∷ filter (λ (q : SentPacket). is_named ranges q.number) ps) (filter (λ (q : SentPacket). is_named ranges q.number) ps))
    (unnamed_below range.0 p.number ranges (apart_first ranges range some is apart) ordered below.0)
    ∙ none_named_below ranges range ps some is apart ordered below.1

-- ---- those that leave

same_number : (n : ℕ) → (n == n) ≡ true
same_number n = grind (arith, nat_tests)

other_number : (m n : ℕ) → n < m → (m == n) ≡ false
other_number m n less = grind (arith, nat_tests)

below_number : (m n : ℕ) → m < n → (m == n) ≡ false
below_number m n less = grind (arith, nat_tests)

none_leave : (n : ℕ) (ps : List SentPacket) → AllByRecursion (λ q. n < q.number) ps → without_number n ps ≡ ps
none_leave n [] above = refl
none_leave n (p ∷ ps) above =
    ap (λ b. cond (not b) (p ∷ without_number n ps) (without_number n ps)) (other_number p.number n above.0) ∙ ap (λ qs. p ∷ qs) (none_leave n ps above.1)

key_is : (n q : ℕ) → is_at (nat_cmp n) q ≡ (q == n)
key_is n q = grind (arith, nat_tests)

leaves_if : (b : Bool) (n : ℕ) (e : ℕ × SentPacket) (es rest : List (ℕ × SentPacket)) → (b ≡ true → without_number n (filed es) ≡ filed es) → filed rest ≡ without_number n (filed es)
    → filed (cond b es (e ∷ rest)) ≡ cond (not b) (e.1 ∷ without_number n (filed es)) (without_number n (filed es))
leaves_if true n e es rest none is = sym (none refl)
leaves_if false n e es rest none is = ap (λ ps. e.1 ∷ ps) is

at_number : (m n : ℕ) → (m == n) ≡ true → m ≡ n
at_number m n is = grind (arith, nat_tests)

-- the entries without the one that has a number
pub filed_without : (n : ℕ) (es : List (ℕ × SentPacket)) → AllByRecursion (λ e. e.0 ≡ e.1.number) es → NumbersRise (filed es) → filed (remove_entry (is_at (nat_cmp n)) es) ≡ without_number n (filed es)
filed_without n [] keyed rising = refl
filed_without n (e ∷ es) keyed rising =
    let test : is_at (nat_cmp n) e.0 ≡ (e.1.number == n) = key_is n e.0 ∙ ap (λ m. m == n) keyed.0 in
    ap (λ b. filed (cond b es (e ∷ remove_entry (is_at (nat_cmp n)) es))) test
    ∙ leaves_if (e.1.number == n) n e es (remove_entry (is_at (nat_cmp n)) es)
    (λ here. none_leave n (filed es) (each_higher n e.1.number (filed es) (let same = at_number e.1.number n here in omega (arith, same)) rising.0))
    (filed_without n es keyed.1 rising.1)

keyed_if : (b : Bool) (e : ℕ × SentPacket) (es rest : List (ℕ × SentPacket)) → e.0 ≡ e.1.number → AllByRecursion (λ x. x.0 ≡ x.1.number) es → AllByRecursion (λ x. x.0 ≡ x.1.number) rest
    → AllByRecursion (λ x. x.0 ≡ x.1.number) (cond b es (e ∷ rest))
keyed_if true e es rest here all less = all
keyed_if false e es rest here all less = (here, less)

keyed_left : (test : ℕ → Bool) (es : List (ℕ × SentPacket)) → AllByRecursion (λ e. e.0 ≡ e.1.number) es → AllByRecursion (λ e. e.0 ≡ e.1.number) (remove_entry test es)
keyed_left test [] all = tt
keyed_left test (e ∷ es) all = keyed_if (test e.0) e es (remove_entry test es) all.0 all.1 (keyed_left test es all.1)

pub are_filed_without : (n : ℕ) (es after : List (ℕ × SentPacket)) → after ≡ remove_entry (is_at (nat_cmp n)) es → AreFiled es → AreFiled after × (filed after ≡ without_number n (filed es))
are_filed_without n es after is are =
    let packets : filed after ≡ without_number n (filed es) = ap filed is ∙ filed_without n es are.keyed are.rising in (
      record {
        keyed = subst (λ (xs : List (ℕ × SentPacket)). AllByRecursion (λ e. e.0 ≡ e.1.number) xs) (sym is) (keyed_left (is_at (nat_cmp n)) es are.keyed);
        rising = subst NumbersRise (sym packets) (rising_part (λ p. not (p.number == n)) (filed es) are.rising);
      },
      packets,
    )

-- a packet stays where all that leave have higher numbers
stays_first : (x : SentPacket) (gs ps : List SentPacket) → AllByRecursion (λ g. x.number < g.number) gs → without gs (x ∷ ps) ≡ x ∷ without gs ps
stays_first x [] ps above = refl
stays_first x (g ∷ gs) ps above =
    ap (λ b. without gs (cond (not b) (x ∷ without_number g.number ps) (without_number g.number ps))) (below_number x.number g.number above.0)
    ∙ stays_first x gs (without_number g.number ps) above.1

unnamed_if : (b : Bool) (x : SentPacket) (gs ps rest : List SentPacket) → (x.number == x.number) ≡ true → without_number x.number ps ≡ ps → AllByRecursion (λ g. x.number < g.number) gs → without gs ps ≡ rest
    → without (cond b (x ∷ gs) gs) (x ∷ ps) ≡ cond (not b) (x ∷ rest) rest
unnamed_if true x gs ps rest same none above is =
    ap (λ b. without gs (cond (not b) (x ∷ without_number x.number ps) (without_number x.number ps))) same ∙ (ap (without gs) none ∙ is)
unnamed_if false x gs ps rest same none above is = stays_first x gs ps above ∙ ap (λ qs. x ∷ qs) is

-- those that pass a test leave those that do not
pub without_part : (test : SentPacket → Bool) (ps : List SentPacket) → NumbersRise ps → without (filter test ps) ps ≡ filter (λ p. not (test p)) ps
without_part test [] rising = refl
without_part test (x ∷ ps) rising =
    unnamed_if (test x) x (filter test ps) ps (filter (λ p. not (test p)) ps) (same_number x.number) (none_leave x.number ps rising.0)
    (each_of_part (λ g. x.number < g.number) test ps rising.0) (without_part test ps rising.1)

-- ---- of the spaces

-- what is written back as it was
pub with_same : {T : Type 0} (s : Space) (values : PerSpace T) (t : T) → t ≡ of_space s values → with_space s values t ≡ values
with_same Initial values t is = ap (λ x. record values { initial = x }) is
with_same Handshake values t is = ap (λ x. record values { handshake = x }) is
with_same App values t is = ap (λ x. record values { app = x }) is

-- where those of one space are fewer, those of each are
pub fewer_with : (s : Space) (before : PerSpace (List SentPacket)) (ps : List SentPacket) → ((P : SentPacket → Type 0) → AllByRecursion P (of_space s before) → AllByRecursion P ps)
    → (P : SentPacket → Type 0) (t : Space) → AllByRecursion P (of_space t before) → AllByRecursion P (of_space t (with_space s before ps))
fewer_with Initial before ps fewer P Initial all = fewer P all
fewer_with Initial before ps fewer P Handshake all = all
fewer_with Initial before ps fewer P App all = all
fewer_with Handshake before ps fewer P Initial all = all
fewer_with Handshake before ps fewer P Handshake all = fewer P all
fewer_with Handshake before ps fewer P App all = all
fewer_with App before ps fewer P Initial all = all
fewer_with App before ps fewer P Handshake all = all
fewer_with App before ps fewer P App all = fewer P all

pub each_without : (P : SentPacket → Type 0) (gs ps : List SentPacket) → AllByRecursion P ps → AllByRecursion P (without gs ps)
each_without P [] ps all = all
each_without P (g ∷ gs) ps all = each_without P gs (without_number g.number ps) (each_of_part P (λ p. not (p.number == g.number)) ps all)

-- a packet that is set aside stands behind those of its space, and no packet behind those of another
pub aside_with : (opened : Bool) (p : SentPacket) (t : Space) (before : PerSpace (List SentPacket)) → opened ≡ true → (s : Space)
    → of_space s (with_space t before (of_space t before ++ p ∷ [])) ≡ of_space s before ++ cond (is_space s t && opened) (p ∷ []) []
aside_with opened p Initial before is Initial = ap (λ b. before.initial ++ cond b (p ∷ []) []) (sym is)
aside_with opened p Initial before is Handshake = sym (append-nil before.handshake)
aside_with opened p Initial before is App = sym (append-nil before.app)
aside_with opened p Handshake before is Initial = sym (append-nil before.initial)
aside_with opened p Handshake before is Handshake = ap (λ b. before.handshake ++ cond b (p ∷ []) []) (sym is)
aside_with opened p Handshake before is App = sym (append-nil before.app)
aside_with opened p App before is Initial = sym (append-nil before.initial)
aside_with opened p App before is Handshake = sym (append-nil before.handshake)
aside_with opened p App before is App = ap (λ b. before.app ++ cond b (p ∷ []) []) (sym is)

off : (a b : Bool) → b ≡ false → (a && b) ≡ false
off true b out = out
off false b out = refl

pub closed_shut : (p : SentPacket) → is_closed p ≡ true → is_open p.fate ≡ false
closed_shut p closed = not-true (is_open p.fate) (and_parts (not (is_open p.fate)) (not (is_owed p.fate)) closed).0

pub bare_open : (p : SentPacket) → is_bare p ≡ true → is_open p.fate ≡ true
bare_open p bare = (and_parts (is_open p.fate) (not (p.eliciting || p.in_flight)) bare).0

-- no packet that is not open is set aside
pub aside_none : (s : Space) (p : SentPacket) (ps : List SentPacket) → is_open p.fate ≡ false → ps ≡ ps ++ filter (is_open_in s) (p ∷ [])
aside_none s p ps shut = sym (ap (λ b. ps ++ cond b (p ∷ []) []) (off (is_space s p.space) (is_open p.fate) shut) ∙ append-nil ps)

-- ---- what an acknowledgment finds

first_of : (xs ys : List SentPacket) → take (length xs) (xs ++ ys) ≡ xs
first_of [] ys = refl
first_of (x ∷ xs) ys = ap (λ zs. x ∷ zs) (first_of xs ys)

first_part : (xs ys : List SentPacket) (n : ℕ) → n ≡ length xs → take n (xs ++ ys) ≡ xs
first_part xs ys n is = ap (λ m. take m (xs ++ ys)) is ∙ first_of xs ys

-- of those found, the first are those that were set aside, and these leave
pub left_unnamed : (ranges : List (ℕ × ℕ)) (strays found new : List SentPacket) (count : ℕ) → NumbersRise strays
    → found ≡ filter (λ p. is_named ranges p.number) strays ++ new → count ≡ length (filter (λ p. is_named ranges p.number) strays)
    → without (take count found) strays ≡ filter (λ p. not (is_named ranges p.number)) strays
left_unnamed ranges strays found new count rising is many =
    let named = filter (λ (p : SentPacket). is_named ranges p.number) strays in
    ap (λ gs. without gs strays) (ap (take count) is ∙ first_part named new count many) ∙ without_part (λ p. is_named ranges p.number) strays rising

-- and what is kept is what it leaves
pub acknowledged_by : (s : Space) (ranges : List (ℕ × ℕ)) (old middle new : Held) (gone : List SentPacket)
    → middle ≡ record { dropped = old.dropped; packets = map (covered_by s ranges) old.packets; strays = old.strays }
    → new ≡ record middle { strays = with_space s middle.strays (without gone (of_space s middle.strays)) }
    → without gone (of_space s old.strays) ≡ filter (λ p. not (is_named ranges p.number)) (of_space s old.strays) → new ≡ acknowledged s ranges old
acknowledged_by s ranges old middle new gone covering forgetting left =
    forgetting
    ∙ (ap (λ (h : Held). record h { strays = with_space s h.strays (without gone (of_space s h.strays)) }) covering
    ∙ ap (λ qs. record { dropped = old.dropped; packets = map (covered_by s ranges) old.packets; strays = with_space s old.strays qs }) left)
