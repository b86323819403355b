-- Persistent congestion is found in one walk in the order of sending, over what is kept.
use Rattle.std.proofs.Common.{◌≡◌, ◌∙◌, ◌<◌, ◌≤◌, ◌-◌, ℕ, List, [], ◌∷◌, Bool, true, false, ◌||◌, Option, Some, None, refl, sym, ap, arith, subst, Contains, inl, inr, ◌⊎◌, reverse}
use Rattle.std.proofs.lemmas.Bool.{or_cases, or_left, or_right, cases_Bool, lt-ltb, ltb-true}
use Rattle.std.proofs.lemmas.List.{reverse-reverse}
use Rattle.std.specs.List.{AllByRecursion}
use Rattle.std.specs.Prelude.{nat_lt}
use Rattle.qa_base.specs.declared.event.Event.{Event}
use Rattle.qa_base.specs.history.Among.{finds_apart, is_far_from, earliest, counts_as_end}
use Rattle.qa_base.specs.machine.Estimates.{sampled}
use Rattle.qa_base.specs.machine.Loss.{is_persistent}
use Rattle.qa_base.specs.history.Sequence.{EachTwo, WasSentBefore}
use Rattle.qa_base.specs.machine.Packets.{Packet, packets, is_acknowledged}
use Rattle.qa_base.specs.machine.Rtt.{persistent_after}
use Rattle.qa_base.specs.machine.Violations.{IsToleratedRun}
use Rattle.qa_base.specs.values.Settings.{Settings, granularity}
use Rattle.qa_base.proofs.history.Changes.{same_tests}
use Rattle.qa_base.proofs.history.ToleratedRuns.{in_order}
use Rattle.qa_base.proofs.history.Pairs.{at_one, first_or_rest, has_first, has_later, two_turned, of_each}
use Rattle.qa_base.proofs.history.Persistence.{AreApart, apart_of, of_apart, owed_not_covered}
use Rattle.qa_base.proofs.history.Walks.{turned_has}

-- p was sent before q
abbrev Before : Packet → Packet → Type 0
Before p q = WasSentBefore q p

-- ---- one step

at_covered : (covered counts : Packet → Bool) (limit : ℕ) (began : Option ℕ) (p : Packet) (ps : List Packet) → covered p ≡ true
    → finds_apart covered counts limit began (p ∷ ps) ≡ finds_apart covered counts limit None ps
at_covered covered counts limit began p ps is = rw is refl

at_counted : (covered counts : Packet → Bool) (limit : ℕ) (began : Option ℕ) (p : Packet) (ps : List Packet) → covered p ≡ false → counts p ≡ true
    → finds_apart covered counts limit began (p ∷ ps) ≡ (is_far_from limit began p.time || finds_apart covered counts limit (Some (earliest began p.time)) ps)
at_counted covered counts limit began p ps is so = rw (is, so) refl

at_other : (covered counts : Packet → Bool) (limit : ℕ) (began : Option ℕ) (p : Packet) (ps : List Packet) → covered p ≡ false → counts p ≡ false
    → finds_apart covered counts limit began (p ∷ ps) ≡ finds_apart covered counts limit began ps
at_other covered counts limit began p ps is so = rw (is, so) refl

-- ---- what it finds

-- q counts, was sent so much later than a time, and no packet before it is covered
pub record LiesOn (covered counts : Packet → Bool) (limit began : ℕ) (ps : List Packet) (q : Packet) : Type 0 where
  pub has : Contains ps q
  pub counts_it : counts q ≡ true
  pub far : limit < q.time - began
  pub clear : (m : Packet) → Contains ps m → m.place < q.place → covered m ≡ false

finds_on : (covered counts : Packet → Bool) (limit began : ℕ) (ps : List Packet) (q : Packet) → EachTwo Before ps → covered q ≡ false
    → LiesOn covered counts limit began ps q → finds_apart covered counts limit (Some began) ps ≡ true
finds_on covered counts limit began [] q two shut on = let k = on.has in absurd (omega (arith, k.1))
finds_on covered counts limit began (x ∷ ps) q two shut on = elim (first_or_rest x q ps on.has) [
  | inl here ↦ at_counted covered counts limit (Some began) x ps (subst (λ (y : Packet). covered y ≡ false) (sym here) shut) (subst (λ (y : Packet). counts y ≡ true) (sym here) on.counts_it)
      ∙ or_left (nat_lt limit (x.time - began)) (finds_apart covered counts limit (Some began) ps)
      (subst (λ (y : Packet). nat_lt limit (y.time - began) ≡ true) (sym here) (lt-ltb limit (q.time - began) on.far))
  | inr behind ↦ (let before = at_one (Before x) ps q two.0 behind in
      let open_x = on.clear x (has_first x ps) before.place in
      let rest = finds_on covered counts limit began ps q two.1 shut (record { has = behind; counts_it = on.counts_it; far = on.far; clear = λ m inside earlier. on.clear m (has_later x m ps inside) earlier }) in
      elim (cases_Bool (counts x)) [
        | inl counted ↦ at_counted covered counts limit (Some began) x ps open_x counted ∙ or_right (nat_lt limit (x.time - began)) (finds_apart covered counts limit (Some began) ps) rest
        | inr other ↦ at_other covered counts limit (Some began) x ps open_x other ∙ rest
      ])
]

-- what is at hand was sent before all these
abbrev IsBefore : Option ℕ → List Packet → Type 0
IsBefore None ps = Unit {0}
IsBefore (Some began) ps = AllByRecursion (λ p. began ≤ p.time) ps

earliest_before : (began : Option ℕ) (x : Packet) (ps : List Packet) → IsBefore began (x ∷ ps) → AllByRecursion (Before x) ps → AllByRecursion (λ p. earliest began x.time ≤ p.time) ps
earliest_before None x ps bound before = of_each (λ p. x.time ≤ p.time) ps (λ p has. (at_one (Before x) ps p before has).time)
earliest_before (Some began) x ps bound before = bound.1

bound_rest : (began : Option ℕ) (x : Packet) (ps : List Packet) → IsBefore began (x ∷ ps) → IsBefore began ps
bound_rest None x ps bound = tt
bound_rest (Some began) x ps bound = bound.1

earliest_least : (began : Option ℕ) (x : Packet) (ps : List Packet) → IsBefore began (x ∷ ps) → earliest began x.time ≤ x.time
earliest_least None x ps bound = omega arith
earliest_least (Some began) x ps bound = bound.0

finds_from : (covered counts : Packet → Bool) (limit : ℕ) (began : Option ℕ) (ps : List Packet) (p q : Packet) → EachTwo Before ps → IsBefore began ps
    → covered p ≡ false → covered q ≡ false → AreApart covered counts limit ps p q → finds_apart covered counts limit began ps ≡ true
finds_from covered counts limit began [] p q two bound shut_p shut_q apart = let k = apart.has_p in absurd (omega (arith, k.1))
finds_from covered counts limit began (x ∷ ps) p q two bound shut_p shut_q apart = elim (first_or_rest x q ps apart.has_q) [
  | inl last ↦ (let time : x.time ≡ q.time = ap (λ (y : Packet). y.time) last in elim (first_or_rest x p ps apart.has_p) [
    | inl also ↦ (let same : x.time ≡ p.time = ap (λ (y : Packet). y.time) also in absurd (omega (arith, apart.far, time, same)))
    | inr behind ↦ (let before = at_one (Before x) ps p two.0 behind in absurd (omega (arith, apart.far, time, before.time)))
  ])
  | inr later ↦ elim (first_or_rest x p ps apart.has_p) [
    | inl first ↦ (let time : x.time ≡ p.time = ap (λ (y : Packet). y.time) first in
        let place : x.place ≡ p.place = ap (λ (y : Packet). y.place) first in
        let least = earliest_least began x ps bound in
        at_counted covered counts limit began x ps (subst (λ (y : Packet). covered y ≡ false) (sym first) shut_p) (subst (λ (y : Packet). counts y ≡ true) (sym first) apart.counts_p)
        ∙ or_right (is_far_from limit began x.time) (finds_apart covered counts limit (Some (earliest began x.time)) ps)
        (finds_on covered counts limit (earliest began x.time) ps q two.1 shut_q (record {
          has = later;
          counts_it = apart.counts_q;
          far = omega (arith, apart.far, time, least);
          clear = λ m inside earlier. (let before = at_one (Before x) ps m two.0 inside in apart.clear m (has_later x m ps inside) (omega (arith, before.place, place)) earlier);
        })))
    | inr behind ↦ (let rest : AreApart covered counts limit ps p q = record {
      has_p = behind;
      has_q = later;
      counts_p = apart.counts_p;
      counts_q = apart.counts_q;
      far = apart.far;
      clear = λ m inside after before. apart.clear m (has_later x m ps inside) after before;
    } in elim (cases_Bool (covered x)) [
      | inl is ↦ at_covered covered counts limit began x ps is ∙ finds_from covered counts limit None ps p q two.1 tt shut_p shut_q rest
      | inr not_covered ↦ elim (cases_Bool (counts x)) [
        | inl counted ↦ at_counted covered counts limit began x ps not_covered counted
            ∙ or_right (is_far_from limit began x.time) (finds_apart covered counts limit (Some (earliest began x.time)) ps)
            (finds_from covered counts limit (Some (earliest began x.time)) ps p q two.1 (earliest_before began x ps bound two.0) shut_p shut_q rest)
        | inr other ↦ at_other covered counts limit began x ps not_covered other ∙ finds_from covered counts limit began ps p q two.1 (bound_rest began x ps bound) shut_p shut_q rest
      ]
    ])
  ]
]

-- ---- and nothing else

abbrev Found : (Packet → Bool) → (Packet → Bool) → ℕ → Option ℕ → List Packet → Type 0
Found covered counts limit began ps =
    ((p : Packet) × (q : Packet) × AreApart covered counts limit ps p q)
    ⊎ ((s : ℕ) × (q : Packet) × (began ≡ Some s) × LiesOn covered counts limit s ps q)

apart_later : (covered counts : Packet → Bool) (limit : ℕ) (x : Packet) (ps : List Packet) → AllByRecursion (Before x) ps → (p q : Packet)
    → AreApart covered counts limit ps p q → AreApart covered counts limit (x ∷ ps) p q
apart_later covered counts limit x ps before p q apart = record {
  has_p = has_later x p ps apart.has_p;
  has_q = has_later x q ps apart.has_q;
  counts_p = apart.counts_p;
  counts_q = apart.counts_q;
  far = apart.far;
  clear = λ m inside after earlier. elim (first_or_rest x m ps inside) [
    | inl same ↦ (let place : x.place ≡ m.place = ap (λ (y : Packet). y.place) same in
        let below = at_one (Before x) ps p before apart.has_p in absurd (omega (arith, after, place, below.place)))
    | inr behind ↦ apart.clear m behind after earlier
  ];
}

on_later : (covered counts : Packet → Bool) (limit began : ℕ) (x : Packet) (ps : List Packet) (q : Packet) → covered x ≡ false
    → LiesOn covered counts limit began ps q → LiesOn covered counts limit began (x ∷ ps) q
on_later covered counts limit began x ps q shut on = record {
  has = has_later x q ps on.has;
  counts_it = on.counts_it;
  far = on.far;
  clear = λ m inside earlier. elim (first_or_rest x m ps inside) [
    | inl same ↦ subst (λ (y : Packet). covered y ≡ false) same shut
    | inr behind ↦ on.clear m behind earlier
  ];
}

found_later : (covered counts : Packet → Bool) (limit : ℕ) (began : Option ℕ) (x : Packet) (ps : List Packet) → AllByRecursion (Before x) ps → covered x ≡ false
    → Found covered counts limit began ps → Found covered counts limit began (x ∷ ps)
found_later covered counts limit began x ps before shut (inl (p, q, apart)) = inl (p, q, apart_later covered counts limit x ps before p q apart)
found_later covered counts limit began x ps before shut (inr (s, q, is, on)) = inr (s, q, is, on_later covered counts limit s x ps q shut on)

found_none : (covered counts : Packet → Bool) (limit : ℕ) (began : Option ℕ) (x : Packet) (ps : List Packet) → AllByRecursion (Before x) ps
    → Found covered counts limit None ps → Found covered counts limit began (x ∷ ps)
found_none covered counts limit began x ps before (inl (p, q, apart)) = inl (p, q, apart_later covered counts limit x ps before p q apart)
found_none covered counts limit began x ps before (inr (s, q, is, on)) = cc

found_here : (covered counts : Packet → Bool) (limit : ℕ) (began : Option ℕ) (x : Packet) (ps : List Packet) → AllByRecursion (Before x) ps → counts x ≡ true
    → is_far_from limit began x.time ≡ true → Found covered counts limit began (x ∷ ps)
found_here covered counts limit None x ps before counted far = cc
found_here covered counts limit (Some s) x ps before counted far = inr (
  s,
  x,
  refl,
  record {
    has = has_first x ps;
    counts_it = counted;
    far = ltb-true limit (x.time - s) far;
    clear = λ m inside earlier. elim (first_or_rest x m ps inside) [
      | inl same ↦ (let place : x.place ≡ m.place = ap (λ (y : Packet). y.place) same in absurd (omega (arith, earlier, place)))
      | inr behind ↦ (let after = at_one (Before x) ps m before behind in absurd (omega (arith, earlier, after.place)))
    ];
  },
)

on_from_here : (covered counts : Packet → Bool) (limit : ℕ) (began : Option ℕ) (x : Packet) (ps : List Packet) → AllByRecursion (Before x) ps → covered x ≡ false → counts x ≡ true
    → (s : ℕ) (q : Packet) → earliest began x.time ≡ s → LiesOn covered counts limit s ps q → Found covered counts limit began (x ∷ ps)
on_from_here covered counts limit None x ps before shut counted s q is on = inl (
  x,
  q,
  record {
    has_p = has_first x ps;
    has_q = has_later x q ps on.has;
    counts_p = counted;
    counts_q = on.counts_it;
    far = omega (arith, on.far, is);
    clear = λ m inside after earlier. elim (first_or_rest x m ps inside) [
      | inl same ↦ subst (λ (y : Packet). covered y ≡ false) same shut
      | inr behind ↦ on.clear m behind earlier
    ];
  },
)
on_from_here covered counts limit (Some began) x ps before shut counted s q is on = inr (s, q, ap Some is, on_later covered counts limit s x ps q shut on)

found_counted : (covered counts : Packet → Bool) (limit : ℕ) (began : Option ℕ) (x : Packet) (ps : List Packet) → AllByRecursion (Before x) ps → covered x ≡ false → counts x ≡ true
    → Found covered counts limit (Some (earliest began x.time)) ps → Found covered counts limit began (x ∷ ps)
found_counted covered counts limit began x ps before shut counted (inl (p, q, apart)) = inl (p, q, apart_later covered counts limit x ps before p q apart)
found_counted covered counts limit began x ps before shut counted (inr (s, q, is, on)) =
    let same : earliest began x.time ≡ s = cc in on_from_here covered counts limit began x ps before shut counted s q same on

finds_gives : (covered counts : Packet → Bool) (limit : ℕ) (began : Option ℕ) (ps : List Packet) → EachTwo Before ps → finds_apart covered counts limit began ps ≡ true → Found covered counts limit began ps
finds_gives covered counts limit began [] two is = cc
finds_gives covered counts limit began (x ∷ ps) two is = elim (cases_Bool (covered x)) [
  | inl shut ↦ found_none covered counts limit began x ps two.0 (finds_gives covered counts limit None ps two.1 (sym (at_covered covered counts limit began x ps shut) ∙ is))
  | inr not_covered ↦ elim (cases_Bool (counts x)) [
    | inl counted ↦ elim (or_cases (is_far_from limit began x.time) (finds_apart covered counts limit (Some (earliest began x.time)) ps) (sym (at_counted covered counts limit began x ps not_covered counted) ∙ is)) [
      | inl far ↦ found_here covered counts limit began x ps two.0 counted far
      | inr rest ↦ found_counted covered counts limit began x ps two.0 not_covered counted (finds_gives covered counts limit (Some (earliest began x.time)) ps two.1 rest)
    ]
    | inr other ↦ found_later covered counts limit began x ps two.0 not_covered (finds_gives covered counts limit began ps two.1 (sym (at_other covered counts limit began x ps not_covered other) ∙ is))
  ]
]

-- ---- the walk

has_turned : (ps : List Packet) (p : Packet) → Contains ps p → Contains (reverse ps) p
has_turned ps p has = turned_has (reverse ps) p (subst (λ (qs : List Packet). Contains qs p) (sym (reverse-reverse ps)) has)

apart_turned : (covered counts : Packet → Bool) (limit : ℕ) (ps : List Packet) (p q : Packet) → AreApart covered counts limit ps p q → AreApart covered counts limit (reverse ps) p q
apart_turned covered counts limit ps p q apart = record {
  has_p = has_turned ps p apart.has_p;
  has_q = has_turned ps q apart.has_q;
  counts_p = apart.counts_p;
  counts_q = apart.counts_q;
  far = apart.far;
  clear = λ m inside after before. apart.clear m (turned_has ps m inside) after before;
}

apart_back : (covered counts : Packet → Bool) (limit : ℕ) (ps : List Packet) (p q : Packet) → AreApart covered counts limit (reverse ps) p q → AreApart covered counts limit ps p q
apart_back covered counts limit ps p q apart = record {
  has_p = turned_has ps p apart.has_p;
  has_q = turned_has ps q apart.has_q;
  counts_p = apart.counts_p;
  counts_q = apart.counts_q;
  far = apart.far;
  clear = λ m inside after before. apart.clear m (has_turned ps m inside) after before;
}

walk_gives : (c : Settings) (h : List Event)
    → Found (is_acknowledged h) (counts_as_end c h) (persistent_after (granularity c) (sampled c h) c.max_ack_delay) None (reverse (packets h)) → is_persistent c h ≡ true
walk_gives c h (inl (p, q, apart)) = of_apart c h p q (apart_back (is_acknowledged h) (counts_as_end c h) (persistent_after (granularity c) (sampled c h) c.max_ack_delay) (packets h) p q apart)
walk_gives c h (inr (s, q, is, on)) = cc

-- in a tolerated run the last event establishes persistent congestion exactly where a walk in the order of sending finds it
pub persistent_is_forward : (c : Settings) (h : List Event) → IsToleratedRun c h
    → is_persistent c h ≡ finds_apart (is_acknowledged h) (counts_as_end c h) (persistent_after (granularity c) (sampled c h) c.max_ack_delay) None (reverse (packets h))
persistent_is_forward c h run =
    let limit = persistent_after (granularity c) (sampled c h) c.max_ack_delay in
    let two : EachTwo Before (reverse (packets h)) = two_turned WasSentBefore (packets h) (in_order c h run) in
    same_tests (is_persistent c h) (finds_apart (is_acknowledged h) (counts_as_end c h) limit None (reverse (packets h)))
    (λ is. let a = apart_of c h is in
    finds_from (is_acknowledged h) (counts_as_end c h) limit None (reverse (packets h)) a.0 a.1 two tt (owed_not_covered c h a.0 a.2.counts_p) (owed_not_covered c h a.1 a.2.counts_q)
    (apart_turned (is_acknowledged h) (counts_as_end c h) limit (packets h) a.0 a.1 a.2))
    (λ is. walk_gives c h (finds_gives (is_acknowledged h) (counts_as_end c h) limit None (reverse (packets h)) two is))
