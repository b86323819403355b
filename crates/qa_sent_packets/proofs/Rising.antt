-- Entries whose numbers rise, in two parts.
use Rattle.std.proofs.Common.{◌≡◌, ◌∙◌, ℕ, suc, ◌+◌, ◌<◌, ◌≤◌, Bool, true, false, cond, List, [], ◌∷◌, ◌++◌, length, get_or, take, drop, refl, sym, ap, subst, arith, append_assoc, add-one, inl, inr, Option, Some, None}
use Rattle.std.specs.Prelude.{if◌then◌else◌, nat_eq, nat_le, nat_lt, IfSome}
use Rattle.std.specs.List.{AllByRecursion}
use Rattle.std.specs.Map.{remove_entry, lookup}
use Rattle.std.specs.BTreeMap.{is_at}
use Rattle.std.specs.Ordering.{nat_cmp}
use Rattle.std.proofs.lemmas.Bool.{cases_Bool, leb-false, leb-true, lt-leb}
use Rattle.std.proofs.lemmas.Bool.Decides.{nat_tests}
use Rattle.std.proofs.lemmas.List.{drop_more}
use Rattle.qa_sent_packets.specs.Covering.{AreClear, first_between, first_from, is_between}
use Rattle.qa_sent_packets.specs.Unacknowledged.{BeginsBelow, BeginsWith, EntriesRise}
use Rattle.qa_sent_packets.proofs.Entries.{alone, at_key, high_of, in_range, low_of}

-- ---- what holds of each

all_at : (P : ℕ × ℕ → Type 0) (es : List (ℕ × ℕ)) (x : ℕ × ℕ) (fs : List (ℕ × ℕ)) → AllByRecursion P (es ++ x ∷ fs) → P x
all_at P [] x fs all = all.0
all_at P (e ∷ es) x fs all = all_at P es x fs all.1

pub all_more : (P : ℕ × ℕ → Type 0) (es : List (ℕ × ℕ)) (x : ℕ × ℕ) → AllByRecursion P es → P x → AllByRecursion P (es ++ x ∷ [])
all_more P [] x all one = (one, tt)
all_more P (e ∷ es) x all one = (all.0, all_more P es x all.1 one)

all_if : (P : ℕ × ℕ → Type 0) (b : Bool) (e : ℕ × ℕ) (es fs : List (ℕ × ℕ)) → P e → AllByRecursion P es → AllByRecursion P fs → AllByRecursion P (cond b es (e ∷ fs))
all_if P true e es fs here all rest = all
all_if P false e es fs here all rest = (here, rest)

pub all_left : (P : ℕ × ℕ → Type 0) (t : ℕ → Bool) (es : List (ℕ × ℕ)) → AllByRecursion P es → AllByRecursion P (remove_entry t es)
all_left P t [] all = tt
all_left P t (e ∷ es) all = all_if P (t e.0) e es (remove_entry t es) all.0 all.1 (all_left P t es all.1)

-- ---- that they rise

-- those before one are below it
pub rising_front : (es : List (ℕ × ℕ)) (x : ℕ × ℕ) (fs : List (ℕ × ℕ)) → EntriesRise (es ++ x ∷ fs) → AllByRecursion (λ e. e.0 < x.0) es
rising_front [] x fs rising = tt
rising_front (e ∷ es) x fs rising = (all_at (λ f. e.0 < f.0) es x fs rising.0, rising_front es x fs rising.1)

-- one more behind them
rising_end : (es : List (ℕ × ℕ)) (x : ℕ × ℕ) → EntriesRise es → AllByRecursion (λ e. e.0 < x.0) es → EntriesRise (es ++ x ∷ [])
rising_end [] x rising below = (tt, tt)
rising_end (e ∷ es) x rising below = (all_more (λ f. e.0 < f.0) es x rising.0 below.0, rising_end es x rising.1 below.1)

rising_if : (b : Bool) (e : ℕ × ℕ) (es fs : List (ℕ × ℕ)) → EntriesRise es → AllByRecursion (λ f. e.0 < f.0) fs → EntriesRise fs → EntriesRise (cond b es (e ∷ fs))
rising_if true e es fs rising all rest = rising
rising_if false e es fs rising all rest = (all, rest)

-- without one of them
pub rising_left : (t : ℕ → Bool) (es : List (ℕ × ℕ)) → EntriesRise es → EntriesRise (remove_entry t es)
rising_left t [] rising = tt
rising_left t (e ∷ es) rising = rising_if (t e.0) e es (remove_entry t es) rising.1 (all_left (λ f. e.0 < f.0) t es rising.0) (rising_left t es rising.1)

-- one more in the second part, or none
pub pushed_rising : (b : Bool) (es fs gs : List (ℕ × ℕ)) (x : ℕ × ℕ) → gs ≡ (if b then fs ++ x ∷ [] else fs) → EntriesRise (es ++ fs) → AllByRecursion (λ e. e.0 < x.0) (es ++ fs) → EntriesRise (es ++ gs)
pushed_rising true es fs gs x is rising below = subst EntriesRise (append_assoc es fs (x ∷ []) ∙ ap (λ g. es ++ g) (sym is)) (rising_end (es ++ fs) x rising below)
pushed_rising false es fs gs x is rising below = subst EntriesRise (ap (λ g. es ++ g) (sym is)) rising

-- ---- the first of the second part

-- it moves behind those of the first
pub moved : (es fs gs hs : List (ℕ × ℕ)) (x : ℕ × ℕ) → 1 ≤ length fs → x ≡ get_or fs 0 x → gs ≡ es ++ x ∷ [] → hs ≡ drop 1 fs → gs ++ hs ≡ es ++ fs
moved es fs gs hs x some first is_gs is_hs =
    let whole : fs ≡ x ∷ drop 1 fs = drop_more fs 0 x some ∙ ap (λ y. y ∷ drop 1 fs) (sym first) in
    ap (λ g. g ++ hs) is_gs ∙ (ap (λ h. (es ++ x ∷ []) ++ h) is_hs ∙ (append_assoc es (x ∷ []) (drop 1 fs) ∙ ap (λ f. es ++ f) (sym whole)))

pub whole_queue : (fs : List (ℕ × ℕ)) (x : ℕ × ℕ) → 1 ≤ length fs → x ≡ get_or fs 0 x → fs ≡ x ∷ drop 1 fs
whole_queue fs x some first = drop_more fs 0 x some ∙ ap (λ y. y ∷ drop 1 fs) (sym first)

equal : (m n : ℕ) → nat_eq m n ≡ true → m ≡ n
equal m n same = grind (arith, nat_tests)

pub begins_with : (n : ℕ) (fs : List (ℕ × ℕ)) (x : ℕ × ℕ) → 0 < length fs → x ≡ get_or fs 0 x → nat_eq x.0 n ≡ true → BeginsWith n fs
begins_with n [] x some first same = absurd (omega arith)
begins_with n (e ∷ es) x some first same = ap (λ (y : ℕ × ℕ). y.0) (sym first) ∙ equal x.0 n same

less : (m n : ℕ) → nat_lt m n ≡ true → m < n
less m n is = grind (arith, nat_tests)

pub begins_below : (n : ℕ) (fs : List (ℕ × ℕ)) (x : ℕ × ℕ) → 0 < length fs → x ≡ get_or fs 0 x → nat_lt x.0 n ≡ true → BeginsBelow n fs
begins_below n [] x some first is = absurd (omega arith)
begins_below n (e ∷ es) x some first is = let same = ap (λ (y : ℕ × ℕ). y.0) first in let under = less x.0 n is in omega (arith, same, under)

pub some_below : (n : ℕ) (fs : List (ℕ × ℕ)) → BeginsBelow n fs → 0 < length fs
some_below n [] begins = absurd begins
some_below n (e ∷ es) begins = omega arith

pub first_below : (n : ℕ) (fs : List (ℕ × ℕ)) (x : ℕ × ℕ) → BeginsBelow n fs → x ≡ get_or fs 0 x → x.0 < n
first_below n [] x begins first = absurd begins
first_below n (e ∷ es) x begins first = let same = ap (λ (y : ℕ × ℕ). y.0) first in omega (arith, same, begins)

pub all_higher : (n m : ℕ) (es : List (ℕ × ℕ)) → n ≤ m → AllByRecursion (λ e. e.0 < n) es → AllByRecursion (λ e. e.0 < m) es
all_higher n m [] more all = tt
all_higher n m (e ∷ es) more all = (let under = all.0 in omega (arith, under, more), all_higher n m es more all.1)

no_congestion_event : (n q : ℕ) → q < n → is_at (nat_cmp n) q ≡ false
no_congestion_event n q less = grind (arith, nat_tests)

congestion_events : (n : ℕ) (e : ℕ × ℕ) → e.0 ≡ n → is_at (nat_cmp n) e.0 ≡ true
congestion_events n e same = at_key n e.0 ∙ (ap (is_between n n) same ∙ alone n)

leaves_behind : (n : ℕ) (es fs : List (ℕ × ℕ)) (x : ℕ × ℕ) → x.0 ≡ n → AllByRecursion (λ e. e.0 < x.0) es → remove_entry (is_at (nat_cmp n)) (es ++ x ∷ fs) ≡ es ++ fs
leaves_behind n [] fs x same below = ap (λ b. cond b fs (x ∷ remove_entry (is_at (nat_cmp n)) fs)) (congestion_events n x same)
leaves_behind n (e ∷ es) fs x same below =
    let less : e.0 < n = (let under = below.0 in omega (arith, under, same)) in
    ap (λ b. cond b (es ++ x ∷ fs) (e ∷ remove_entry (is_at (nat_cmp n)) (es ++ x ∷ fs))) (no_congestion_event n e.0 less)
    ∙ ap (λ l. e ∷ l) (leaves_behind n es fs x same below.1)

-- it leaves
pub first_leaves : (n : ℕ) (es fs gs : List (ℕ × ℕ)) → EntriesRise (es ++ fs) → BeginsWith n fs → gs ≡ drop 1 fs → remove_entry (is_at (nat_cmp n)) (es ++ fs) ≡ es ++ gs
first_leaves n es [] gs rising begins is = absurd begins
first_leaves n es (x ∷ fs) gs rising begins is = leaves_behind n es fs x begins (rising_front es x fs rising) ∙ ap (λ g. es ++ g) (sym is)

-- ---- the first from a number on

first_if : (b : Bool) (e : ℕ × ℕ) (o : Option (ℕ × ℕ)) → (if b then Some e else o) ≡ None → (b ≡ false) × (o ≡ None)
first_if true e o is = cc
first_if false e o is = (refl, is)

first_some : (b : Bool) (e x : ℕ × ℕ) (o p : Option (ℕ × ℕ)) → (o ≡ Some x → p ≡ Some x) → (if b then Some e else o) ≡ Some x → (if b then Some e else p) ≡ Some x
first_some true e x o p more is = is
first_some false e x o p more is = more is

-- where the first part has one
pub first_left : (lo : ℕ) (es fs : List (ℕ × ℕ)) (x : ℕ × ℕ) → first_from lo es ≡ Some x → first_from lo (es ++ fs) ≡ Some x
first_left lo [] fs x is = cc
first_left lo (e ∷ es) fs x is = first_some (nat_le lo e.0) e x (first_from lo es) (first_from lo (es ++ fs)) (first_left lo es fs x) is

-- where it has none
pub first_right : (lo : ℕ) (es fs : List (ℕ × ℕ)) → first_from lo es ≡ None → first_from lo (es ++ fs) ≡ first_from lo fs
first_right lo [] fs none = refl
first_right lo (e ∷ es) fs none =
    let parts = first_if (nat_le lo e.0) e (first_from lo es) none in
    rw parts.0 (first_right lo es fs parts.1)

-- where all are below an end, none is at or above it
pub first_beyond : (end lo : ℕ) (es : List (ℕ × ℕ)) → AllByRecursion (λ e. e.0 < end) es → end ≤ lo → first_from lo es ≡ None
first_beyond end lo [] below more = refl
first_beyond end lo (e ∷ es) below more = let under = below.0 in rw (lt-leb lo e.0 (omega (arith, under, more))) (first_beyond end lo es below.1 more)

pub first_of_none : (lo : ℕ) (es : List (ℕ × ℕ)) → length es ≡ 0 → first_from lo es ≡ None
first_of_none lo [] none = refl
first_of_none lo (e ∷ es) none = absurd (omega (arith, none))

-- ---- none from one number on is below another

above_each : (lo m : ℕ) (es : List (ℕ × ℕ)) → AllByRecursion (λ f. m < f.0) es → AreClear lo m es
above_each lo m [] all = tt
above_each lo m (e ∷ es) all = (λ low. let more = all.0 in omega (arith, more), above_each lo m es all.1)

-- below the first of them
pub clear_first : (lo : ℕ) (es : List (ℕ × ℕ)) (x : ℕ × ℕ) → EntriesRise es → first_from lo es ≡ Some x → AreClear lo x.0 es
clear_first lo [] x rising is = cc
clear_first lo (e ∷ es) x rising is = elim (cases_Bool (nat_le lo e.0)) [
  | inl y ↦ (
      let got : Some e ≡ Some x = rw y at is in
      let key : e.0 ≡ x.0 = ap (λ (o : Option (ℕ × ℕ)). elim o [ None ↦ 0 | Some z ↦ z.0 ]) got in
      (λ low. omega (arith, key), subst (λ (n : ℕ). AreClear lo n es) key (above_each lo e.0 es rising.0)))
  | inr out ↦ (
      let rest : first_from lo es ≡ Some x = rw out at is in
      (λ low. let less = leb-false lo e.0 out in absurd (omega (arith, low, less)), clear_first lo es x rising.1 rest))
]

pub clear_found : (lo : ℕ) (es : List (ℕ × ℕ)) (o : Option (ℕ × ℕ)) → EntriesRise es → first_from lo es ≡ o → IfSome o (λ x. AreClear lo x.0 es)
clear_found lo es None rising is = tt
clear_found lo es (Some x) rising is = clear_first lo es x rising is

-- where there are none
pub clear_none : (lo m : ℕ) (es : List (ℕ × ℕ)) → first_from lo es ≡ None → AreClear lo m es
clear_none lo m [] none = tt
clear_none lo m (e ∷ es) none =
    let parts = first_if (nat_le lo e.0) e (first_from lo es) none in
    (λ low. let less = leb-false lo e.0 parts.0 in absurd (omega (arith, low, less)), clear_none lo m es parts.1)

pub clear_from : (lo n least : ℕ) (es : List (ℕ × ℕ)) → lo ≤ n → AreClear lo least es → AreClear n least es
clear_from lo n least [] more clear = tt
clear_from lo n least (e ∷ es) more clear = (λ low. clear.0 (omega (arith, low, more)), clear_from lo n least es more clear.1)

pub clear_all : (n : ℕ) (es : List (ℕ × ℕ)) → AreClear n 0 es
clear_all n [] = tt
clear_all n (e ∷ es) = (λ low. omega arith, clear_all n es)

-- ---- those of a range

pub below_out : (lo hi n : ℕ) → n < lo → is_between lo hi n ≡ false
below_out lo hi n below = grind (arith, nat_tests)

-- none, where a range ends below the least
pub none_in : (lo hi least : ℕ) (es : List (ℕ × ℕ)) → AreClear lo least es → hi < least → first_between lo hi es ≡ None
none_in lo hi least [] clear less = refl
none_in lo hi least (e ∷ es) clear less = elim (cases_Bool (is_between lo hi e.0)) [
  | inl y ↦ (let more = clear.0 (low_of lo hi e.0 y) in let high = high_of lo hi e.0 y in absurd (omega (arith, more, less, high)))
  | inr out ↦ rw out (none_in lo hi least es clear.1 less)
]

-- the first from its begin on, where that is in it
pub first_in : (lo hi : ℕ) (es : List (ℕ × ℕ)) (x : ℕ × ℕ) → first_from lo es ≡ Some x → x.0 ≤ hi → first_between lo hi es ≡ Some x
first_in lo hi [] x is high = cc
first_in lo hi (e ∷ es) x is high = elim (cases_Bool (nat_le lo e.0)) [
  | inl y ↦ (
      let got : Some e ≡ Some x = rw y at is in
      let key : e.0 ≡ x.0 = ap (λ (o : Option (ℕ × ℕ)). elim o [ None ↦ 0 | Some z ↦ z.0 ]) got in
      let low = leb-true lo e.0 y in
      rw (in_range lo hi e.0 low (omega (arith, key, high))) got)
  | inr out ↦ (
      let less = leb-false lo e.0 out in
      rw (below_out lo hi e.0 less) (first_in lo hi es x (rw out at is) high))
]

-- none, where there is none from its begin on
pub none_from : (lo hi : ℕ) (es : List (ℕ × ℕ)) → first_from lo es ≡ None → first_between lo hi es ≡ None
none_from lo hi es none = none_in lo hi (hi + 1) es (clear_none lo (hi + 1) es none) (omega arith)

-- ---- the entry with a number

pub entry_is : (n : ℕ) (es : List (ℕ × ℕ)) (x : ℕ × ℕ) → first_from n es ≡ Some x → x.0 ≡ n → first_between n n es ≡ Some x
entry_is n es x is same = first_in n n es x is (omega (arith, same))

low_first : (lo : ℕ) (es : List (ℕ × ℕ)) (x : ℕ × ℕ) → first_from lo es ≡ Some x → lo ≤ x.0
low_first lo [] x is = cc
low_first lo (e ∷ es) x is = elim (cases_Bool (nat_le lo e.0)) [
  | inl y ↦ (
      let got : Some e ≡ Some x = rw y at is in
      let key : e.0 ≡ x.0 = ap (λ (o : Option (ℕ × ℕ)). elim o [ None ↦ 0 | Some z ↦ z.0 ]) got in
      let low = leb-true lo e.0 y in
      omega (arith, key, low))
  | inr out ↦ low_first lo es x (rw out at is)
]

pub entry_is_none : (n : ℕ) (es : List (ℕ × ℕ)) (x : ℕ × ℕ) → first_from n es ≡ Some x → AreClear n x.0 es → (x.0 ≡ n → ⊥) → first_between n n es ≡ None
entry_is_none n es x is clear other =
    let low = low_first n es x is in
    none_in n n x.0 es clear (omega (arith, low, other))

-- ---- one that leaves, wherever it stands

left_if : (b : Bool) (e : ℕ × ℕ) (n : ℕ) (es fs : List (ℕ × ℕ)) (o : Option ℕ) (rs ws : List (ℕ × ℕ)) → (o ≡ Some n → ws ≡ rs ++ fs) → cond b (Some e.1) o ≡ Some n
    → cond b (es ++ fs) (e ∷ ws) ≡ cond b es (e ∷ rs) ++ fs
left_if true e n es fs o rs ws more is = refl
left_if false e n es fs o rs ws more is = ap (λ l. e ∷ l) (more is)

right_if : (b : Bool) (e : ℕ × ℕ) (es fs : List (ℕ × ℕ)) (o : Option ℕ) (rs ws : List (ℕ × ℕ)) → (o ≡ None → ws ≡ es ++ rs) → cond b (Some e.1) o ≡ None
    → cond b (es ++ fs) (e ∷ ws) ≡ e ∷ (es ++ rs)
right_if true e es fs o rs ws more is = cc
right_if false e es fs o rs ws more is = ap (λ l. e ∷ l) (more is)

pub remove_left : (t : ℕ → Bool) (es fs : List (ℕ × ℕ)) (n : ℕ) → lookup t es ≡ Some n → remove_entry t (es ++ fs) ≡ remove_entry t es ++ fs
remove_left t [] fs n is = cc
remove_left t (e ∷ es) fs n is = left_if (t e.0) e n es fs (lookup t es) (remove_entry t es) (remove_entry t (es ++ fs)) (remove_left t es fs n) is

pub remove_right : (t : ℕ → Bool) (es fs : List (ℕ × ℕ)) → lookup t es ≡ None → remove_entry t (es ++ fs) ≡ es ++ remove_entry t fs
remove_right t [] fs is = refl
remove_right t (e ∷ es) fs is = right_if (t e.0) e es fs (lookup t es) (remove_entry t fs) (remove_entry t (es ++ fs)) (remove_right t es fs) is

pub remove_step : (t : ℕ → Bool) (i : ℕ) (fs : List (ℕ × ℕ)) (e : ℕ × ℕ) → i < length fs → e ≡ get_or fs i e
    → remove_entry t (drop i fs) ≡ cond (t e.0) (drop (i + 1) fs) (e ∷ remove_entry t (drop (i + 1) fs))
remove_step t i fs e within is =
    let whole : drop i fs ≡ e ∷ drop (i + 1) fs = drop_more fs i e within ∙ ap (λ y. y ∷ drop (i + 1) fs) (sym is) in
    ap (remove_entry t) whole

-- the entry at this place leaves
pub leaves_at : (n i : ℕ) (fs : List (ℕ × ℕ)) (e : ℕ × ℕ) (all : List (ℕ × ℕ)) → i < length fs → e ≡ get_or fs i e → e.0 ≡ n
    → take i fs ++ remove_entry (is_at (nat_cmp n)) (drop i fs) ≡ all → take i fs ++ drop (suc i) fs ≡ all
leaves_at n i fs e all within is same before =
    let t : ℕ → Bool = is_at (nat_cmp n) in
    let step : remove_entry t (drop i fs) ≡ drop (i + 1) fs = remove_step t i fs e within is ∙ ap (λ b. cond b (drop (i + 1) fs) (e ∷ remove_entry t (drop (i + 1) fs))) (congestion_events n e same) in
    ap (λ k. take i fs ++ drop k fs) (sym (add-one i)) ∙ (ap (λ r. take i fs ++ r) (sym step) ∙ before)
