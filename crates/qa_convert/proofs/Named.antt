-- Numbers of packets, in sets, in lists and in spans.
use Rattle.std.proofs.Common.{◌≡◌, ◌≤◌, ◌<◌, ◌+◌, ◌∙◌, ◌||◌, ◌&&◌, ◌++◌, ℕ, Bool, true, false, List, [], ◌∷◌, Ordering, Less, Equal, Greater, length, get_or, take, refl, sym, ap, arith}
use Rattle.std.proofs.lemmas.Bool.Decides.{nat_tests}
use Rattle.std.proofs.lemmas.List.{take_more}
use Rattle.std.specs.BTreeSet.{insert_key}
use Rattle.std.specs.Ordering.{nat_cmp, match_ordering}
use Rattle.std.specs.Prelude.{nat_eq, Some, ◌-◌}
use Rattle.qa_base.specs.declared.space.Space.{Space}
use denote.Enum.Bare.{sameb}
use Rattle.qa_base.specs.contracts.space.Space.{the_type}
use Rattle.qa_base.specs.declared.space.Space.TheVariants.{Initial, Handshake, App}
use Rattle.qa_base.specs.values.Events.{is_named, is_space}
use Rattle.qa_base.specs.values.Limits.{max_packet_number}
use Rattle.qa_convert.specs.Losing.{ArePacketNumbers, is_in, is_among, is_last, is_of, packets_of, pushed}
use Rattle.qa_convert.specs.declared.groups.LostAt.{LostAt}

small_by : (o : Ordering) (n k : ℕ) (ks more : List ℕ) → n ≤ max_packet_number → ArePacketNumbers (k ∷ ks) → ArePacketNumbers more
    → ArePacketNumbers (match_ordering o (n ∷ k ∷ ks) (k ∷ ks) (k ∷ more))
small_by Less n k ks more small all later = (small, all)
small_by Equal n k ks more small all later = all
small_by Greater n k ks more small all later = (all.0, later)

pub small_with : (n : ℕ) (ks : List ℕ) → n ≤ max_packet_number → ArePacketNumbers ks → ArePacketNumbers (insert_key nat_cmp ks n)
small_with n [] small all = (small, tt)
small_with n (k ∷ ks) small all = small_by (nat_cmp n k) n k ks (insert_key nat_cmp ks n) small all (small_with n ks small all.1)

or_none : (b : Bool) → (b || false) ≡ b
or_none true = refl
or_none false = refl

or_twice : (a b : Bool) → (a || b) ≡ ((a || b) || a)
or_twice true b = refl
or_twice false true = refl
or_twice false false = refl

or_swap : (a b c : Bool) → (a || (b || c)) ≡ ((b || c) || a)
or_swap true true c = refl
or_swap true false true = refl
or_swap true false false = refl
or_swap false true c = refl
or_swap false false true = refl
or_swap false false false = refl

or_assoc : (a b c : Bool) → (a || (b || c)) ≡ ((a || b) || c)
or_assoc true b c = refl
or_assoc false b c = refl

equal_is : (n k : ℕ) → nat_cmp n k ≡ Equal → n ≡ k
equal_is n k is = grind (arith, nat_tests)

in_by : (o : Ordering) (q n k : ℕ) (ks more : List ℕ) → nat_cmp n k ≡ o → is_in q more ≡ (is_in q ks || nat_eq q n)
    → is_in q (match_ordering o (n ∷ k ∷ ks) (k ∷ ks) (k ∷ more)) ≡ (is_in q (k ∷ ks) || nat_eq q n)
in_by Less q n k ks more at later = or_swap (nat_eq q n) (nat_eq q k) (is_in q ks)
in_by Equal q n k ks more at later =
    or_twice (nat_eq q k) (is_in q ks) ∙ ap (λ m. is_in q (k ∷ ks) || nat_eq q m) (sym (equal_is n k at))
in_by Greater q n k ks more at later = ap (λ b. nat_eq q k || b) later ∙ or_assoc (nat_eq q k) (is_in q ks) (nat_eq q n)

-- a set has one number more
pub in_with : (q n : ℕ) (ks : List ℕ) → is_in q (insert_key nat_cmp ks n) ≡ (is_in q ks || nat_eq q n)
in_with q n [] = or_none (nat_eq q n)
in_with q n (k ∷ ks) = in_by (nat_cmp n k) q n k ks (insert_key nat_cmp ks n) refl (in_with q n ks)

among_more : (s : Space) (n : ℕ) (l : LostAt) (ls : List LostAt) → is_among s n (packets_of (ls ++ l ∷ [])) ≡ (is_among s n (packets_of ls) || is_of s n l.lost)
among_more s n l [] = or_none (is_of s n l.lost)
among_more s n l (m ∷ ls) = ap (λ b. is_of s n m.lost || b) (among_more s n l ls) ∙ or_assoc (is_of s n m.lost) (is_among s n (packets_of ls)) (is_of s n l.lost)

-- one loss more
pub among_taken : (s : Space) (n : ℕ) (ls : List LostAt) (i : ℕ) (d : LostAt) → i < length ls
    → is_among s n (packets_of (take (i + 1) ls)) ≡ (is_among s n (packets_of (take i ls)) || is_of s n (get_or ls i d).lost)
among_taken s n ls i d less = ap (λ ms. is_among s n (packets_of ms)) (take_more ls i d less) ∙ among_more s n (get_or ls i d) (take i ls)

-- ---- spans

-- a span goes on with the next number
pub goes_on : (lo hi m n : ℕ) → hi < m → m - hi ≡ 1 → lo ≤ hi → is_last (Some (lo, m)) n ≡ (is_last (Some (lo, hi)) n || nat_eq n m)
goes_on lo hi m n less next order = grind (arith, nat_tests)

-- a span of one number
pub begins : (m n : ℕ) → is_last (Some (m, m)) n ≡ nat_eq n m
begins m n = grind (arith, nat_tests)

named_more : (spans : List (ℕ × ℕ)) (lo hi n : ℕ) → is_named (spans ++ (lo, hi) ∷ []) n ≡ (is_named spans n || is_last (Some (lo, hi)) n)
named_more [] lo hi n = or_none (is_last (Some (lo, hi)) n)
named_more (span ∷ spans) lo hi n =
    ap (λ b. is_last (Some span) n || b) (named_more spans lo hi n) ∙ or_assoc (is_last (Some span) n) (is_named spans n) (is_last (Some (lo, hi)) n)

pushed_is : (spans : List (ℕ × ℕ)) (lo hi : ℕ) → lo ≤ hi → hi ≤ max_packet_number → pushed lo hi spans ≡ spans ++ (lo, hi) ∷ []
pushed_is spans lo hi order small = grind (arith, nat_tests)

-- a span of packet numbers is put behind spans
pub named_pushed : (spans : List (ℕ × ℕ)) (lo hi n : ℕ) → lo ≤ hi → hi ≤ max_packet_number → is_named (pushed lo hi spans) n ≡ (is_named spans n || is_last (Some (lo, hi)) n)
named_pushed spans lo hi n order small = ap (λ (more : List (ℕ × ℕ)). is_named more n) (pushed_is spans lo hi order small) ∙ named_more spans lo hi n

-- ---- losses of a space

pub same_space : (a b : Space) → sameb the_type a b ≡ is_space b a
same_space Initial Initial = refl
same_space Initial Handshake = refl
same_space Initial App = refl
same_space Handshake Initial = refl
same_space Handshake Handshake = refl
same_space Handshake App = refl
same_space App Initial = refl
same_space App Handshake = refl
same_space App App = refl

-- a loss of the space is taken into the set
pub taken_in : (s : Space) (n : ℕ) (ls : List LostAt) (i : ℕ) (l : LostAt) (ks : List ℕ) → i < length ls → l ≡ get_or ls i l → is_space s l.lost.space ≡ true
    → is_in n ks ≡ is_among s n (packets_of (take i ls)) → is_in n (insert_key nat_cmp ks l.lost.number) ≡ is_among s n (packets_of (take (i + 1) ls))
taken_in s n ls i l ks less at of_space before =
    in_with n l.lost.number ks
    ∙ ap (λ b. b || nat_eq n l.lost.number) before
    ∙ ap (λ b. is_among s n (packets_of (take i ls)) || (b && nat_eq n l.lost.number)) (sym of_space)
    ∙ ap (λ (m : LostAt). is_among s n (packets_of (take i ls)) || is_of s n m.lost) at
    ∙ sym (among_taken s n ls i l less)

-- one of another space is not
pub passed_over : (s : Space) (n : ℕ) (ls : List LostAt) (i : ℕ) (l : LostAt) (ks : List ℕ) → i < length ls → l ≡ get_or ls i l → is_space s l.lost.space ≡ false
    → is_in n ks ≡ is_among s n (packets_of (take i ls)) → is_in n ks ≡ is_among s n (packets_of (take (i + 1) ls))
passed_over s n ls i l ks less at apart before =
    before
    ∙ sym (or_none (is_among s n (packets_of (take i ls))))
    ∙ ap (λ b. is_among s n (packets_of (take i ls)) || (b && nat_eq n l.lost.number)) (sym apart)
    ∙ ap (λ (m : LostAt). is_among s n (packets_of (take i ls)) || is_of s n m.lost) at
    ∙ sym (among_taken s n ls i l less)
