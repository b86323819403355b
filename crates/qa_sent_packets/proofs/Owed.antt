-- What is asked of all packets is asked of those that are owed, and of the part in which they stand.
use Rattle.std.proofs.Common.{◌≡◌, ◌∙◌, ℕ, ◌+◌, Bool, true, false, ◌&&◌, ◌||◌, List, [], ◌∷◌, ◌++◌, map, take, drop, cond, count_by, Option, Some, None, refl, sym, ap, arith}
use Rattle.std.specs.Prelude.{if◌then◌else◌, nat_lt, slice_range}
use Rattle.std.specs.List.{AllByRecursion, list_any}
use Rattle.std.proofs.lemmas.Bool.{lt-ltb, and_right}
use Rattle.std.proofs.lemmas.List.Edits.{split_between}
use Rattle.std.proofs.lemmas.List.Elements.{filter-append}
use Rattle.std.proofs.lemmas.List.{append-nil}
use Rattle.std.proofs.lemmas.List.Sums.{sum_by-cons}
use Rattle.qa_base.specs.declared.space.Space.{Space}
use Rattle.qa_base.specs.values.Events.{is_space}
use Rattle.qa_sent_packets.specs.Fates.{is_acknowledged, is_owed, is_owed_in}
use Rattle.qa_sent_packets.specs.Owing.{IsOwedPart, NoneOwed, first_space}
use Rattle.qa_sent_packets.specs.Walks.{are_apart, earliest, is_end, is_far_from, last_owed, mark_of, owed_numbers, owed_of}
use Rattle.qa_sent_packets.specs.declared.packet.SentPacket.{SentPacket}
use Rattle.qa_sent_packets.proofs.Alike.{space_is}

-- ---- the part

pub parts : (ps : List SentPacket) (from to : ℕ) → IsOwedPart from to ps → ps ≡ take from ps ++ (slice_range ps from to ++ drop to ps)
parts ps from to part = split_between ps from to part.order

-- ---- the last of them

last_front : (o : Bool) (at : Option ℕ) (xs ys : List SentPacket) → NoneOwed xs → last_owed o at (xs ++ ys) ≡ last_owed o at ys
last_front o at [] ys none = refl
last_front o at (x ∷ xs) ys none = ap (λ b. last_owed o (if b then Some (mark_of o x) else at) (xs ++ ys)) none.0 ∙ last_front o at xs ys none.1

last_none : (o : Bool) (at : Option ℕ) (xs : List SentPacket) → NoneOwed xs → last_owed o at xs ≡ at
last_none o at [] none = refl
last_none o at (x ∷ xs) none = ap (λ b. last_owed o (if b then Some (mark_of o x) else at) xs) none.0 ∙ last_none o at xs none.1

last_rest : (o : Bool) (at : Option ℕ) (xs ys : List SentPacket) → NoneOwed ys → last_owed o at (xs ++ ys) ≡ last_owed o at xs
last_rest o at [] ys none = last_none o at ys none
last_rest o at (x ∷ xs) ys none = last_rest o (if is_owed x.fate then Some (mark_of o x) else at) xs ys none

pub last_of_part : (o : Bool) (ps : List SentPacket) (from to : ℕ) → IsOwedPart from to ps → last_owed o None ps ≡ last_owed o None (slice_range ps from to)
last_of_part o ps from to part =
    ap (last_owed o None) (parts ps from to part)
    ∙ (last_front o None (take from ps) (slice_range ps from to ++ drop to ps) part.before
    ∙ last_rest o None (slice_range ps from to) (drop to ps) part.behind)

-- ---- one packet after another

-- behind an acknowledged packet no end was met
pub apart_covered : (limit first : ℕ) (p : SentPacket) (began : Option ℕ) (ps : List SentPacket) → is_acknowledged p.fate ≡ true
    → are_apart limit first began (p ∷ ps) ≡ are_apart limit first None ps
apart_covered limit first p began ps covered =
    ap (λ b. if b then are_apart limit first None ps else (if is_end first p then is_far_from limit began p.time || are_apart limit first (Some (earliest began p.time)) ps else are_apart limit first began ps)) covered

-- one that is neither acknowledged nor an end changes nothing
pub apart_other : (limit first : ℕ) (p : SentPacket) (began : Option ℕ) (ps : List SentPacket) → is_acknowledged p.fate ≡ false → is_end first p ≡ false
    → are_apart limit first began (p ∷ ps) ≡ are_apart limit first began ps
apart_other limit first p began ps covered other =
    ap (λ b. if b then are_apart limit first None ps else (if is_end first p then is_far_from limit began p.time || are_apart limit first (Some (earliest began p.time)) ps else are_apart limit first began ps)) covered
    ∙ ap (λ b. if b then is_far_from limit began p.time || are_apart limit first (Some (earliest began p.time)) ps else are_apart limit first began ps) other

-- an end
pub apart_end : (limit first : ℕ) (p : SentPacket) (began : Option ℕ) (ps : List SentPacket) → is_acknowledged p.fate ≡ false → is_end first p ≡ true
    → are_apart limit first began (p ∷ ps) ≡ (is_far_from limit began p.time || are_apart limit first (Some (earliest began p.time)) ps)
apart_end limit first p began ps covered end =
    ap (λ b. if b then are_apart limit first None ps else (if is_end first p then is_far_from limit began p.time || are_apart limit first (Some (earliest began p.time)) ps else are_apart limit first began ps)) covered
    ∙ ap (λ b. if b then is_far_from limit began p.time || are_apart limit first (Some (earliest began p.time)) ps else are_apart limit first began ps) end

-- ---- two of them that lie apart

not_end : (first : ℕ) (p : SentPacket) → is_owed p.fate ≡ false → is_end first p ≡ false
not_end first p none = ap (λ b. b && (p.eliciting && nat_lt first p.time)) none

apart_if : (limit first : ℕ) (p : SentPacket) (rest : List SentPacket) (b : Bool) → is_end first p ≡ false
    → are_apart limit first None rest ≡ false → (began : Option ℕ) → are_apart limit first began rest ≡ false → is_acknowledged p.fate ≡ b
    → are_apart limit first began (p ∷ rest) ≡ false
apart_if limit first p rest true out none began some is = ap (λ b. if b then are_apart limit first None rest else (if is_end first p then is_far_from limit began p.time || are_apart limit first (Some (earliest began p.time)) rest else are_apart limit first began rest)) is ∙ none
apart_if limit first p rest false out none began some is =
    ap (λ b. if b then are_apart limit first None rest else (if is_end first p then is_far_from limit began p.time || are_apart limit first (Some (earliest began p.time)) rest else are_apart limit first began rest)) is
    ∙ (ap (λ b. if b then is_far_from limit began p.time || are_apart limit first (Some (earliest began p.time)) rest else are_apart limit first began rest) out ∙ some)

apart_none : (limit first : ℕ) (began : Option ℕ) (xs : List SentPacket) → NoneOwed xs → are_apart limit first began xs ≡ false
apart_none limit first began [] none = refl
apart_none limit first began (x ∷ xs) none =
    apart_if limit first x xs (is_acknowledged x.fate) (not_end first x none.0) (apart_none limit first None xs none.1) began (apart_none limit first began xs none.1) refl

same_if : (b : Bool) (x y : Bool) → x ≡ y → (if b then x else x) ≡ y
same_if true x y is = is
same_if false x y is = is

apart_front : (limit first : ℕ) (xs ys : List SentPacket) → NoneOwed xs → are_apart limit first None (xs ++ ys) ≡ are_apart limit first None ys
apart_front limit first [] ys none = refl
apart_front limit first (x ∷ xs) ys none =
    let rest = are_apart limit first None (xs ++ ys) in
    ap (λ b. if is_acknowledged x.fate then rest else (if b then false || are_apart limit first (Some x.time) (xs ++ ys) else rest)) (not_end first x none.0)
    ∙ same_if (is_acknowledged x.fate) rest (are_apart limit first None ys) (apart_front limit first xs ys none.1)

apart_rest : (limit first : ℕ) (began : Option ℕ) (xs ys : List SentPacket) → NoneOwed ys → are_apart limit first began (xs ++ ys) ≡ are_apart limit first began xs
apart_rest limit first began [] ys none = apart_none limit first began ys none
apart_rest limit first began (x ∷ xs) ys none =
    ap (λ b. if is_acknowledged x.fate then b else (if is_end first x then is_far_from limit began x.time || are_apart limit first (Some (earliest began x.time)) (xs ++ ys) else are_apart limit first began (xs ++ ys)))
    (apart_rest limit first None xs ys none)
    ∙ (ap (λ b. if is_acknowledged x.fate then are_apart limit first None xs else (if is_end first x then is_far_from limit began x.time || b else are_apart limit first began (xs ++ ys)))
    (apart_rest limit first (Some (earliest began x.time)) xs ys none)
    ∙ ap (λ b. if is_acknowledged x.fate then are_apart limit first None xs else (if is_end first x then is_far_from limit began x.time || are_apart limit first (Some (earliest began x.time)) xs else b))
    (apart_rest limit first began xs ys none))

pub apart_of_part : (limit first : ℕ) (ps : List SentPacket) (from to : ℕ) → IsOwedPart from to ps
    → are_apart limit first None ps ≡ are_apart limit first None (slice_range ps from to)
apart_of_part limit first ps from to part =
    ap (are_apart limit first None) (parts ps from to part)
    ∙ (apart_front limit first (take from ps) (slice_range ps from to ++ drop to ps) part.before
    ∙ apart_rest limit first None (slice_range ps from to) (drop to ps) part.behind)

-- ---- none of them

both_zero : (m n : ℕ) → m + n ≡ 0 → (m ≡ 0) × (n ≡ 0)
both_zero m n none = ((omega (arith, none)), (omega (arith, none)))

off_by : (b : Bool) → ◌≡◌ {A = ℕ} (cond b 1 0) 0 → b ≡ false
off_by true none = absurd (omega (arith, none))
off_by false none = refl

-- where their count is 0 there are none
pub counted_none : (ps : List SentPacket) → count_by (λ p. is_owed p.fate) ps ≡ 0 → NoneOwed ps
counted_none [] none = tt
counted_none (p ∷ ps) none =
    let sum : count_by (λ q. is_owed q.fate) (p ∷ ps) ≡ cond (is_owed p.fate) 1 0 + count_by (λ q. is_owed q.fate) ps = sum_by-cons (λ q. cond (is_owed q.fate) 1 0) p ps in
    let parts = both_zero (cond (is_owed p.fate) 1 0) (count_by (λ q. is_owed q.fate) ps) (sym sum ∙ none) in
    (off_by (is_owed p.fate) parts.0, counted_none ps parts.1)

pub last_of_none : (o : Bool) (ps : List SentPacket) → count_by (λ p. is_owed p.fate) ps ≡ 0 → None ≡ last_owed o None ps
last_of_none o ps none = sym (last_none o None ps (counted_none ps none))

pub apart_of_none : (limit first : ℕ) (ps : List SentPacket) → count_by (λ p. is_owed p.fate) ps ≡ 0 → false ≡ are_apart limit first None ps
apart_of_none limit first ps none = sym (apart_none limit first None ps (counted_none ps none))

-- ---- their numbers

owed_none : (xs : List SentPacket) → NoneOwed xs → owed_of xs ≡ []
owed_none [] none = refl
owed_none (x ∷ xs) none = ap (λ b. if b then x ∷ owed_of xs else owed_of xs) none.0 ∙ owed_none xs none.1

owed_of_part : (ps : List SentPacket) (from to : ℕ) → IsOwedPart from to ps → owed_of ps ≡ owed_of (slice_range ps from to)
owed_of_part ps from to part =
    let middle = slice_range ps from to in
    let test : SentPacket → Bool = λ p. is_owed p.fate in
    ap owed_of (parts ps from to part)
    ∙ (filter-append test (take from ps) (middle ++ drop to ps)
    ∙ (ap (λ xs. xs ++ owed_of (middle ++ drop to ps)) (owed_none (take from ps) part.before)
    ∙ (filter-append test middle (drop to ps)
    ∙ (ap (λ xs. owed_of middle ++ xs) (owed_none (drop to ps) part.behind)
    ∙ append-nil (owed_of middle)))))

pub numbers_of_part : (ps : List SentPacket) (from to : ℕ) → IsOwedPart from to ps → owed_numbers ps ≡ owed_numbers (slice_range ps from to)
numbers_of_part ps from to part = ap (map (λ (p : SentPacket). p.number)) (owed_of_part ps from to part)

-- ---- how many, and of which space

and_or : (a b : Bool) → ((a && true) || (b && a)) ≡ a
and_or true true = refl
and_or true false = refl
and_or false true = refl
and_or false false = refl

any_if : (s t : Space) (p : SentPacket) (n : ℕ) (rest owed : Bool) → is_owed p.fate ≡ owed → (owed ≡ true → is_space t p.space ≡ true)
    → rest ≡ (nat_lt 0 n && is_space s t) → (is_owed_in s p || rest) ≡ (nat_lt 0 (cond owed 1 0 + n) && is_space s t)
any_if s t p n rest true is of_space more =
    let here : is_space s p.space ≡ is_space s t = ap (λ (x : Space). is_space s x) (sym (space_is t p.space (of_space refl))) in
    let some : nat_lt 0 (1 + n) ≡ true = lt-ltb 0 (1 + n) (omega arith) in
    ap (λ b. (is_space s p.space && b) || rest) is
    ∙ (ap (λ b. (b && true) || rest) here
    ∙ (ap (λ b. (is_space s t && true) || b) more
    ∙ (and_or (is_space s t) (nat_lt 0 n) ∙ ap (λ b. b && is_space s t) (sym some))))
any_if s t p n rest false is of_space more =
    let none : (is_space s p.space && false) ≡ false = and_right (is_space s p.space) false refl in
    let same : 0 + n ≡ n = omega arith in
    ap (λ b. (is_space s p.space && b) || rest) is
    ∙ (ap (λ b. b || rest) none
    ∙ (more ∙ ap (λ m. nat_lt 0 m && is_space s t) (sym same)))

pub any_owed : (s t : Space) (ps : List SentPacket) → AllByRecursion (λ p. is_owed p.fate ≡ true → is_space t p.space ≡ true) ps
    → list_any (is_owed_in s) ps ≡ (nat_lt 0 (count_by (λ p. is_owed p.fate) ps) && is_space s t)
any_owed s t [] all = refl
any_owed s t (p ∷ ps) all =
    let count : count_by (λ q. is_owed q.fate) (p ∷ ps) ≡ cond (is_owed p.fate) 1 0 + count_by (λ q. is_owed q.fate) ps = sum_by-cons (λ q. cond (is_owed q.fate) 1 0) p ps in
    any_if s t p (count_by (λ q. is_owed q.fate) ps) (list_any (is_owed_in s) ps) (is_owed p.fate) refl all.0 (any_owed s t ps all.1)
    ∙ ap (λ n. nat_lt 0 n && is_space s t) (sym count)

-- ---- the space of the first

first_if : (t : Space) (p : SentPacket) (rest : List SentPacket) (n : ℕ) (owed : Bool) → (owed ≡ true → is_space t p.space ≡ true)
    → first_space rest ≡ (if nat_lt 0 n then Some t else None)
    → first_space (if owed then p ∷ rest else rest) ≡ (if nat_lt 0 (cond owed 1 0 + n) then Some t else None)
first_if t p rest n true of_space more =
    let some : nat_lt 0 (1 + n) ≡ true = lt-ltb 0 (1 + n) (omega arith) in
    ap Some (sym (space_is t p.space (of_space refl))) ∙ ap (λ b. if b then Some t else None) (sym some)
first_if t p rest n false of_space more =
    let same : 0 + n ≡ n = omega arith in
    more ∙ ap (λ m. if nat_lt 0 m then Some t else None) (sym same)

-- it is the space of all that are owed, where any is
pub first_owed : (t : Space) (ps : List SentPacket) → AllByRecursion (λ p. is_owed p.fate ≡ true → is_space t p.space ≡ true) ps
    → first_space (owed_of ps) ≡ (if nat_lt 0 (count_by (λ p. is_owed p.fate) ps) then Some t else None)
first_owed t [] all = refl
first_owed t (p ∷ ps) all =
    let count : count_by (λ q. is_owed q.fate) (p ∷ ps) ≡ cond (is_owed p.fate) 1 0 + count_by (λ q. is_owed q.fate) ps = sum_by-cons (λ q. cond (is_owed q.fate) 1 0) p ps in
    first_if t p (owed_of ps) (count_by (λ q. is_owed q.fate) ps) (is_owed p.fate) all.0 (first_owed t ps all.1)
    ∙ ap (λ n. if nat_lt 0 n then Some t else None) (sym count)
