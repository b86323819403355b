-- A detection of which a Lost line names all that is free: behind it all is as if that had been found lost at once.
use Rattle.std.proofs.Common.{◌≡◌, ◌∙◌, ◌+◌, ℕ, List, [], ◌∷◌, length, Bool, true, false, ◌&&◌, ◌||◌, Option, Some, None, option_map, refl, sym, ap, ap₂, subst, arith, Contains, filter, sum_by, inl, inr}
use Rattle.std.proofs.lemmas.Bool.{and_from, or_left, or_right}
use Rattle.std.specs.List.{list_any}
use Rattle.std.specs.Prelude.{if◌then◌else◌}
use Rattle.qa_base.specs.declared.event.Event.{Event}
use Rattle.qa_base.specs.declared.event.Event.TheVariants.{Lost}
use Rattle.qa_base.specs.declared.space.Space.{Space}
use Rattle.qa_base.specs.machine.Detection.{are_ends}
use Rattle.qa_base.specs.machine.Estimates.{rtt, sampled, with_sample_of}
use Rattle.qa_base.specs.machine.Permission.{is_recovery_packet, recovery_spent}
use Rattle.qa_base.specs.machine.Loss.{declared, free, is_free, is_nameable, is_owed, is_persistent, nameable, owed}
use Rattle.qa_base.specs.machine.Moments.{detection_of}
use Rattle.qa_base.specs.machine.Packets.{Packet, packets}
use Rattle.qa_base.specs.machine.Reno.{event_mark, is_entry, reno}
use Rattle.qa_base.specs.machine.Rtt.{Estimate, after_congestion, refreshed, reset}
use Rattle.qa_base.specs.machine.Window.{acknowledged_bytes, acknowledged_since_collapse, changes_window}
use Rattle.qa_base.specs.values.Events.{declares_lost}
use Rattle.qa_base.specs.values.Settings.{Settings}
use Rattle.qa_base.proofs.machine.Collapses.{since_collapse_after}
use Rattle.qa_base.proofs.machine.Declared.{declared_is, is_completed, is_taken, owed_is}
use Rattle.qa_base.proofs.machine.Quiet.{newly-quiet, not_persistent, rtt-quiet}
use Rattle.qa_base.proofs.machine.Steps.{recovery_spent_after}
use Rattle.qa_laws.specs.machine.Alike.{where_they_must}
use Rattle.qa_laws.specs.machine.Conduct.{is_entered_by}
use Rattle.qa_laws.proofs.machine.ConductOfWindows.{entry_by_losses}
use Rattle.qa_base.proofs.history.Pairs.{first_or_rest, of_each, part_has, part_is, same_part, some_one}
use Rattle.qa_laws.proofs.losses_lemmas.Owing.{SomeFree, may_lose, must_lose, owed_by_samples}
use Rattle.qa_laws.proofs.losses_lemmas.Recovering.{begun, begun_twice, entered_more, recovery_is}
use Rattle.qa_laws.proofs.losses_lemmas.Same.{Same, same_samples}

-- the event names all that may be named
abbrev pub NamesAll : Settings → Event → List Event → Type 0
NamesAll c e h = (p : Packet) → Contains (packets h) p → is_nameable c h p ≡ true → declares_lost p.space p.number e ≡ true

-- ---- what the Lost line takes

some_from : (test : Packet → Bool) (ps : List Packet) (p : Packet) → Contains ps p → test p ≡ true → list_any test ps ≡ true
some_from test [] p (k, inside, is) passes = absurd (omega arith)
some_from test (q ∷ ps) p has passes = elim (first_or_rest q p ps has) [
  | inl here ↦ or_left (test q) (list_any test ps) (subst (λ (x : Packet). test x ≡ true) (sym here) passes)
  | inr behind ↦ or_right (test q) (list_any test ps) (some_from test ps p behind passes)
]

taken_if : (o f n : Bool) → ((o || f) ≡ true → n ≡ true) → (o || (f && n)) ≡ (o || f)
taken_if true f n names = refl
taken_if false true n names = names refl
taken_if false false n names = refl

-- all that may be named, where something is free
pub takes_all : (c : Settings) (time : ℕ) (space : Space) (ranges : List (ℕ × ℕ)) (h : List Event) → NamesAll c (Lost time space ranges) h → SomeFree c h
    → declared c (Lost time space ranges ∷ h) ≡ nameable c h
takes_all c time space ranges h names some =
    let e = Lost time space ranges in
    let q = some.packet in
    let named = names q some.sent (or_right (is_owed c h q) (is_free c h q) some.is) in
    let completed : is_completed c h e ≡ true =
    some_from (λ p. is_free c h p && declares_lost p.space p.number e) (packets h) q some.sent (and_from (is_free c h q) (declares_lost q.space q.number e) some.is named) in
    declared_is c time space ranges h
    ∙ (ap (λ (b : Bool). if b then filter (is_taken c h e) (packets h) else []) completed
    ∙ same_part (is_taken c h e) (is_nameable c h) (packets h)
    (of_each (λ p. is_taken c h e p ≡ is_nameable c h p) (packets h) (λ p has. taken_if (is_owed c h p) (is_free c h p) (declares_lost p.space p.number e) (names p has))))

-- ---- persistent congestion

-- two of these packets make it
abbrev make_collapse : Settings → List Event → Estimate → List Packet → Bool
make_collapse c h r ps = list_any (λ p. list_any (are_ends c r h p) ps) ps

two_more : (c : Settings) (h : List Event) (r : Estimate) (f g : Packet → Bool) (ps : List Packet) → ((p : Packet) → f p ≡ true → g p ≡ true)
    → make_collapse c h r (filter f ps) ≡ true → make_collapse c h r (filter g ps) ≡ true
two_more c h r f g ps keeps is =
    let p = some_one (λ p. list_any (are_ends c r h p) (filter f ps)) (filter f ps) is in
    let q = some_one (are_ends c r h p.0) (filter f ps) p.2 in
    let in_p = part_is f ps p.0 p.1 in
    let in_q = part_is f ps q.0 q.1 in
    some_from (λ p. list_any (are_ends c r h p) (filter g ps)) (filter g ps) p.0 (part_has g ps p.0 in_p.0 (keeps p.0 in_p.1))
    (some_from (are_ends c r h p.0) (filter g ps) q.0 (part_has g ps q.0 in_q.0 (keeps q.0 in_q.1)) q.2)

-- a Lost line leaves what lies between two packets
past_lost : (c : Settings) (time : ℕ) (space : Space) (ranges : List (ℕ × ℕ)) (h : List Event) (r : Estimate) (ps : List Packet)
    → make_collapse c (Lost time space ranges ∷ h) r ps ≡ make_collapse c h r ps
past_lost c time space ranges h r ps = refl

-- ---- the estimate

-- what persistent congestion does to the estimate it does once
once : (initial_rtt : ℕ) (resets refreshes : Bool) (r : Estimate)
    → (let on = λ (x : Estimate). if resets then reset initial_rtt x else (if refreshes then refreshed x else x) in on (on r) ≡ on r)
once initial_rtt true refreshes r = refl
once initial_rtt false true r = refl
once initial_rtt false false r = refl

congested_twice : (c : Settings) (few all : Bool) (r : Estimate) → (few ≡ true → all ≡ true) → after_congestion c all (after_congestion c few r) ≡ after_congestion c all r
congested_twice c true true r more = once c.initial_rtt c.options.reset_rtt c.options.refresh_min_rtt r
congested_twice c true false r more = let never = more refl in cc
congested_twice c false all r more = refl

-- ---- sums

spent_twice : (few all : Bool) (spent : Option ℕ) → (few ≡ true → all ≡ true)
    → option_map (λ n. 0 + n) (if all then Some 0 else spent) ≡ (if all then Some 0 else option_map (λ n. 0 + n) (if few then Some 0 else spent))
spent_twice few true spent more = refl
spent_twice true false spent more = let never = more refl in cc
spent_twice false false spent more = refl

bytes_twice : (few all : Bool) (bytes none : ℕ) (before : Option ℕ) → none ≡ 0 → (few ≡ true → all ≡ true)
    → option_map (λ n. none + n) (if all then Some bytes else before) ≡ (if all then Some bytes else option_map (λ n. none + n) (if few then Some bytes else before))
bytes_twice few true bytes none before is more = let same : none + bytes ≡ bytes = omega (arith, is) in ap Some same
bytes_twice true false bytes none before is more = let never = more refl in cc
bytes_twice false false bytes none before is more = refl

-- ---- a detection and its Lost line

-- a detection is no Lost line
pub detects_itself : (c : Settings) (d : Event) (h : List Event) → SomeFree c (d ∷ h) → detection_of (d ∷ h) ≡ d ∷ h
detects_itself c (Lost time space ranges) h some = let never = some.is in cc
detects_itself c d h some = refl

-- what the detection finds under either header, and what is lost by it and its Lost line
record Losses (c : Settings) (time : ℕ) (space : Space) (ranges : List (ℕ × ℕ)) (h : List Event) : Type 0 where
  samples : sampled (where_they_must c) h ≡ sampled c h
  own : detection_of h ≡ h
  must : declared (where_they_must c) h ≡ nameable c h
  may : declared c h ≡ owed c h
  must_later : declared (where_they_must c) (Lost time space ranges ∷ h) ≡ []
  may_later : declared c (Lost time space ranges ∷ h) ≡ nameable c h

losses : (c : Settings) (time : ℕ) (space : Space) (ranges : List (ℕ × ℕ)) (d : Event) (h : List Event) → Same c h → free c h ≡ [] → NamesAll c (Lost time space ranges) (d ∷ h)
    → SomeFree c (d ∷ h) → Losses c time space ranges (d ∷ h)
losses c time space ranges d h same none names some =
    let samples = same_samples c d h same in
    record {
      samples = samples;
      own = detects_itself c d h some;
      must = must_lose c d h ∙ owed_by_samples c (d ∷ h) samples;
      may = may_lose c d h none;
      must_later = must_lose c (Lost time space ranges) (d ∷ h);
      may_later = takes_all c time space ranges (d ∷ h) names some;
    }

-- whether the owed alone make persistent congestion, and whether all that may be named do
abbrev few_collapse : Settings → List Event → Bool
few_collapse c h = make_collapse c h (sampled c h) (owed c h)

abbrev all_collapse : Settings → List Event → Bool
all_collapse c h = make_collapse c h (sampled c h) (nameable c h)

owed_may_be_named : (c : Settings) (h : List Event) (p : Packet) → is_owed c h p ≡ true → is_nameable c h p ≡ true
owed_may_be_named c h p is = or_left (is_owed c h p) (is_free c h p) is

all_if_few : (c : Settings) (h : List Event) → few_collapse c h ≡ true → all_collapse c h ≡ true
all_if_few c h is =
    two_more c h (sampled c h) (is_owed c h) (is_nameable c h) (packets h) (owed_may_be_named c h)
    (subst (λ (ps : List Packet). make_collapse c h (sampled c h) ps ≡ true) (owed_is c h) is)

-- persistent congestion at the detection, and at the Lost line
record Persistent (c : Settings) (time : ℕ) (space : Space) (ranges : List (ℕ × ℕ)) (h : List Event) : Type 0 where
  must : is_persistent (where_they_must c) h ≡ all_collapse c h
  may : is_persistent c h ≡ few_collapse c h
  must_later : is_persistent (where_they_must c) (Lost time space ranges ∷ h) ≡ false
  may_later : is_persistent c (Lost time space ranges ∷ h) ≡ all_collapse c h

persistent : (c : Settings) (time : ℕ) (space : Space) (ranges : List (ℕ × ℕ)) (d : Event) (h : List Event) → Losses c time space ranges (d ∷ h) → Persistent c time space ranges (d ∷ h)
persistent c time space ranges d h l =
    let g = d ∷ h in
    let e = Lost time space ranges in
    record {
      must = ap₂ (make_collapse c g) l.samples l.must;
      may = ap (make_collapse c g (sampled c g)) l.may;
      must_later = not_persistent (sampled (where_they_must c) (e ∷ g)) (where_they_must c) (e ∷ g) l.must_later;
      may_later = ap (make_collapse c (e ∷ g) (sampled c g)) l.may_later;
    }

same_estimate : (c : Settings) (time : ℕ) (space : Space) (ranges : List (ℕ × ℕ)) (d : Event) (h : List Event) → Same c h → Losses c time space ranges (d ∷ h) → Persistent c time space ranges (d ∷ h)
    → rtt (where_they_must c) (Lost time space ranges ∷ d ∷ h) ≡ rtt c (Lost time space ranges ∷ d ∷ h)
same_estimate c time space ranges d h same l p =
    let g = d ∷ h in
    let e = Lost time space ranges in
    let m = where_they_must c in
    let few = few_collapse c g in
    let all = all_collapse c g in
    let own = with_sample_of c g (rtt c h) in
    let must = rtt-quiet m e g refl l.must_later ∙ ap₂ (after_congestion c) p.must (ap (with_sample_of c g) same.estimate) in
    let first : rtt c g ≡ after_congestion c few own = ap (λ b. after_congestion c b own) p.may in
    let may = ap₂ (after_congestion c) p.may_later first in
    must ∙ (sym (congested_twice c few all own (all_if_few c g)) ∙ sym may)

-- ---- recovery

more_enter : (c : Settings) (h : List Event) (recovery : Option ℕ) → is_entered_by c recovery (owed c h) ≡ true → is_entered_by c recovery (nameable c h) ≡ true
more_enter c h recovery is =
    entered_more c recovery (is_owed c h) (is_nameable c h) (packets h) (owed_may_be_named c h)
    (subst (λ (ps : List Packet). is_entered_by c recovery ps ≡ true) (owed_is c h) is)

-- what the last event makes of recovery, by whether it collapses the window and what is lost by it
begins : (c : Settings) (e : Event) (h : List Event) (b : Bool) (before : Option ℕ) (ps : List Packet) → is_persistent c (e ∷ h) ≡ b → (reno c h).recovery_start_time ≡ before → declared c (e ∷ h) ≡ ps
    → (reno c (e ∷ h)).recovery_start_time ≡ (if b then None else begun c before (event_mark c (detection_of (e ∷ h))) ps)
begins c e h b before ps persistent_congestions recovery lost =
    recovery_is c e h ∙ ap₂ (λ (x : Bool) (o : Option ℕ). if x then None else o) persistent_congestions (ap₂ (λ o qs. begun c o (event_mark c (detection_of (e ∷ h))) qs) recovery lost)

same_recovery : (c : Settings) (time : ℕ) (space : Space) (ranges : List (ℕ × ℕ)) (d : Event) (h : List Event) → Same c h → Losses c time space ranges (d ∷ h) → Persistent c time space ranges (d ∷ h)
    → (reno (where_they_must c) (Lost time space ranges ∷ d ∷ h)).recovery_start_time ≡ (reno c (Lost time space ranges ∷ d ∷ h)).recovery_start_time
same_recovery c time space ranges d h same l p =
    let g = d ∷ h in
    let e = Lost time space ranges in
    let m = where_they_must c in
    let before = (reno c h).recovery_start_time in
    let few = few_collapse c g in
    let all = all_collapse c g in
    let now = event_mark c g in
    let at : event_mark c (detection_of g) ≡ now = ap (event_mark c) l.own in
    let must = begins m e g false (reno m g).recovery_start_time [] p.must_later refl l.must_later ∙ (begins m d h all before (nameable c g) p.must same.recovery l.must
    ∙ ap (λ t. if all then None else begun c before t (nameable c g)) at) in
    let first = begins c d h few before (owed c g) p.may refl l.may ∙ ap (λ t. if few then None else begun c before t (owed c g)) at in
    let may = begins c e g all (if few then None else begun c before now (owed c g)) (nameable c g) p.may_later first l.may_later in
    must ∙ (sym (begun_twice c now before (owed c g) (nameable c g) few all (all_if_few c g) (more_enter c g before)) ∙ sym may)

not_itself : (e : Event) (h : List Event) → h ≡ e ∷ h → ⊥
not_itself e h is = let same : length h ≡ length (e ∷ h) = ap length is in omega (arith, same)

enters : (c : Settings) (e : Event) (h : List Event) (recovery : Option ℕ) (ps : List Packet) → detection_of (e ∷ h) ≡ e ∷ h → (reno c h).recovery_start_time ≡ recovery → declared c (e ∷ h) ≡ ps
    → is_entry c (e ∷ h) ≡ is_entered_by c recovery ps
enters c (Lost time space ranges) h recovery ps own is lost = absurd (not_itself (Lost time space ranges) h own)
enters c e h recovery ps own is lost = entry_by_losses c (e ∷ h) ∙ ap₂ (is_entered_by c) is lost

spends : (c : Settings) (e : Event) (h : List Event) (b : Bool) → is_entry c (e ∷ h) ≡ b
    → recovery_spent c (e ∷ h) ≡ (if b then Some 0 else option_map (λ n. (if is_recovery_packet (e ∷ h) then 1 else 0) + n) (recovery_spent c h))
spends c e h b is =
    recovery_spent_after c e h ∙ ap (λ (x : Bool). if x then Some 0 else option_map (λ n. (if is_recovery_packet (e ∷ h) then 1 else 0) + n) (recovery_spent c h)) is

same_spent : (c : Settings) (time : ℕ) (space : Space) (ranges : List (ℕ × ℕ)) (d : Event) (h : List Event) → Same c h → Losses c time space ranges (d ∷ h)
    → recovery_spent (where_they_must c) (Lost time space ranges ∷ d ∷ h) ≡ recovery_spent c (Lost time space ranges ∷ d ∷ h)
same_spent c time space ranges d h same l =
    let g = d ∷ h in
    let e = Lost time space ranges in
    let m = where_they_must c in
    let before = (reno c h).recovery_start_time in
    let few = is_entered_by c before (owed c g) in
    let all = is_entered_by c before (nameable c g) in
    let first : Option ℕ = option_map (λ n. (if is_recovery_packet g then 1 else 0) + n) (recovery_spent c h) in
    let never : is_entry m (e ∷ g) ≡ false = entry_by_losses m (e ∷ g) ∙ ap (is_entered_by m (reno m h).recovery_start_time) l.must_later in
    let must = spends m e g false never ∙ ap (option_map (λ n. 0 + n)) (spends m d h all (enters m d h before (nameable c g) l.own same.recovery l.must)
    ∙ ap (λ (o : Option ℕ). if all then Some 0 else option_map (λ n. (if is_recovery_packet g then 1 else 0) + n) o) same.spent) in
    let may = spends c e g all (entry_by_losses c (e ∷ g) ∙ ap (is_entered_by c before) l.may_later)
    ∙ ap (λ (o : Option ℕ). if all then Some 0 else option_map (λ n. 0 + n) o) (spends c d h few (enters c d h before (owed c g) l.own refl l.may)) in
    must ∙ (spent_twice few all first (more_enter c g before) ∙ sym may)

-- ---- bytes since a collapse

sums : (c : Settings) (e : Event) (h : List Event) (b : Bool) → is_persistent c (e ∷ h) ≡ b
    → acknowledged_since_collapse c (e ∷ h) ≡ (if b then Some (acknowledged_bytes (detection_of (e ∷ h)))
    else (if changes_window c (e ∷ h) then None else option_map (λ n. acknowledged_bytes (e ∷ h) + n) (acknowledged_since_collapse c h)))
sums c e h b is =
    since_collapse_after c e h ∙ ap (λ (x : Bool). if x then Some (acknowledged_bytes (detection_of (e ∷ h)))
    else (if changes_window c (e ∷ h) then None else option_map (λ n. acknowledged_bytes (e ∷ h) + n) (acknowledged_since_collapse c h))) is

same_collapse : (c : Settings) (time : ℕ) (space : Space) (ranges : List (ℕ × ℕ)) (d : Event) (h : List Event) → Same c h → Losses c time space ranges (d ∷ h) → Persistent c time space ranges (d ∷ h)
    → acknowledged_since_collapse (where_they_must c) (Lost time space ranges ∷ d ∷ h) ≡ acknowledged_since_collapse c (Lost time space ranges ∷ d ∷ h)
same_collapse c time space ranges d h same l p =
    let g = d ∷ h in
    let e = Lost time space ranges in
    let m = where_they_must c in
    let few = few_collapse c g in
    let all = all_collapse c g in
    let bytes = acknowledged_bytes g in
    let none = acknowledged_bytes (e ∷ g) in
    let before : Option ℕ = if changes_window c g then None else option_map (λ n. bytes + n) (acknowledged_since_collapse c h) in
    let nothing : none ≡ 0 = ap (sum_by (λ (p : Packet). if p.in_flight then p.size else 0)) (newly-quiet e g refl) in
    let at : acknowledged_bytes (detection_of g) ≡ bytes = ap acknowledged_bytes l.own in
    let must = sums m e g false p.must_later ∙ ap (option_map (λ n. none + n)) (sums m d h all p.must
    ∙ ap₂ (λ k (o : Option ℕ). if all then Some k else (if changes_window c g then None else option_map (λ n. bytes + n) o)) at same.on_persistent_congestion) in
    let may = sums c e g all p.may_later ∙ ap (λ (o : Option ℕ). if all then Some bytes else option_map (λ n. none + n) o) (sums c d h few p.may
    ∙ ap (λ k. if few then Some k else before) at) in
    must ∙ (bytes_twice few all bytes none before nothing (all_if_few c g) ∙ sym may)

-- behind the Lost line all is the same
pub same_past : (c : Settings) (time : ℕ) (space : Space) (ranges : List (ℕ × ℕ)) (d : Event) (h : List Event) → Same c h → free c h ≡ [] → NamesAll c (Lost time space ranges) (d ∷ h)
    → SomeFree c (d ∷ h) → Same c (Lost time space ranges ∷ d ∷ h)
same_past c time space ranges d h same none names some =
    let l = losses c time space ranges d h same none names some in
    let p = persistent c time space ranges d h l in
    record {
      estimate = same_estimate c time space ranges d h same l p;
      samples = l.samples;
      recovery = same_recovery c time space ranges d h same l p;
      spent = same_spent c time space ranges d h same l;
      on_persistent_congestion = same_collapse c time space ranges d h same l p;
    }
