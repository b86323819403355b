-- Laws of every run, and of every tolerated run.
use Rattle.std.proofs.Common.{ℕ, ◌-◌, ◌*◌, ◌/◌, max, ◌↔◌, ◌+◌, ◌≤◌, ◌<◌, arith, ◌≡◌, ◌∙◌, List, [], ◌∷◌, ◌++◌, length, Bool, true, false, ◌||◌, Option, Some, None, refl, sym}
use Rattle.std.proofs.lemmas.Bool.{leb-false, leb-true, le-leb, ltb-true}
use Rattle.std.specs.List.{filter, list_any, AllByRecursion}
use Rattle.std.specs.Prelude.{nat_le, nat_lt, map, not, ◌&&◌, if◌then◌else◌}
use Rattle.qa_base.specs.declared.event.Event.{Event}
use Rattle.qa_base.specs.declared.event.Event.TheVariants.{Sent}
use Rattle.qa_base.specs.declared.rule.Rule.{Rule}
use Rattle.qa_base.specs.machine.Violations.{is_untolerated, first_untolerated, IsToleratedRun}
use Rattle.qa_base.specs.machine.Order.{IsLower, NumbersFall}
use Rattle.qa_base.specs.machine.Packets.{Packet, packets, is_of, newly_acknowledged, is_newly_acknowledged, packet_at}
use Rattle.qa_base.specs.machine.Rules.{broken, first_of, first_broken, IsRun}
use Rattle.qa_base.specs.machine.Breaches.{is_time_back, is_loss_owed, is_loss_not_owed, is_other_loss_set, is_space_gone, is_number_not_higher, is_past_window, is_past_probe, is_past_recovery, is_ack_unsent, is_timer_not_set, is_timer_other, is_timer_early, is_probe_owed, is_not_confirmed}
use Rattle.qa_base.specs.machine.Detection.{is_old}
use Rattle.qa_base.specs.machine.Rtt.{Estimate, loss_delay}
use Rattle.qa_base.specs.machine.Timer.{pto_count}
use Rattle.qa_base.specs.values.Settings.{Settings, granularity}

-- a prefix of a run is a run
pub prefix_of_run : (c : Settings) (more h : List Event) → IsRun c (more ++ h) → IsRun c h
prefix_of_run c [] h run = run
prefix_of_run c (e ∷ more) h run = prefix_of_run c more h run.0

-- and of a tolerated run a tolerated run
pub prefix_of_tolerated_run : (c : Settings) (more h : List Event) → IsToleratedRun c (more ++ h) → IsToleratedRun c h
prefix_of_tolerated_run c [] h tolerated_run = tolerated_run
prefix_of_tolerated_run c (e ∷ more) h tolerated_run = prefix_of_tolerated_run c more h tolerated_run.0

-- ---- the rules that hold

rule_holds : (broken_here : Bool) (r : Rule) (rest : Option Rule) → (if broken_here then Some r else rest) ≡ None → (broken_here ≡ false) × (rest ≡ None)
rule_holds true r rest h = cc
rule_holds false r rest h = (refl, h)

pub rules_hold : (tests : List (Bool × Rule)) → first_of tests ≡ None → AllByRecursion (λ test. test.0 ≡ false) tests
rules_hold [] h = tt
rules_hold (test ∷ tests) h =
    let both = rule_holds test.0 test.1 (first_of tests) h in (both.0, rules_hold tests both.1)

-- an event breaks no rule after a history: each field is named for its rule, and says that what it forbids is not so
pub record KeepsRules (c : Settings) (h : List Event) (e : Event) : Type 0 where
  pub time_back : is_time_back h e ≡ false
  pub loss_owed : is_loss_owed c h e ≡ false
  pub loss_not_owed : is_loss_not_owed c h e ≡ false
  pub loss_set : is_other_loss_set c h e ≡ false
  pub space_gone : is_space_gone h e ≡ false
  pub number_not_higher : is_number_not_higher h e ≡ false
  pub past_window : is_past_window c h e ≡ false
  pub past_probe : is_past_probe c h e ≡ false
  pub past_recovery : is_past_recovery c h e ≡ false
  pub ack_unsent : is_ack_unsent h e ≡ false
  pub timer_not_set : is_timer_not_set c h e ≡ false
  pub timer_other : is_timer_other c h e ≡ false
  pub timer_early : is_timer_early c h e ≡ false
  pub probe_owed : is_probe_owed h e ≡ false
  pub not_confirmed : is_not_confirmed h e ≡ false

-- each rule holds of an event that is allowed
pub all_hold : (c : Settings) (h : List Event) (e : Event) → first_broken c h e ≡ None → KeepsRules c h e
unfolding first_broken
all_hold c h e allowed =
    let holds = rules_hold (broken c h e) allowed in
    record {
      time_back = holds.0;
      loss_owed = holds.1.0;
      loss_not_owed = holds.1.1.0;
      loss_set = holds.1.1.1.0;
      space_gone = holds.1.1.1.1.0;
      number_not_higher = holds.1.1.1.1.1.0;
      past_window = holds.1.1.1.1.1.1.0;
      past_probe = holds.1.1.1.1.1.1.1.0;
      past_recovery = holds.1.1.1.1.1.1.1.1.0;
      ack_unsent = holds.1.1.1.1.1.1.1.1.1.0;
      timer_not_set = holds.1.1.1.1.1.1.1.1.1.1.0;
      timer_other = holds.1.1.1.1.1.1.1.1.1.1.1.0;
      timer_early = holds.1.1.1.1.1.1.1.1.1.1.1.1.0;
      probe_owed = holds.1.1.1.1.1.1.1.1.1.1.1.1.1.0;
      not_confirmed = holds.1.1.1.1.1.1.1.1.1.1.1.1.1.1.0;
    }

-- ---- the rules that hold in a tolerated run

-- an event leaves a history well formed: each rule that is no sender rule holds, as its field says, and an early timer comes while its
-- timeout may still be doubled
pub record KeepsForm (c : Settings) (h : List Event) (e : Event) : Type 0 where
  pub time_back : is_time_back h e ≡ false
  pub loss_owed : is_loss_owed c h e ≡ false
  pub loss_not_owed : is_loss_not_owed c h e ≡ false
  pub loss_set : is_other_loss_set c h e ≡ false
  pub space_gone : is_space_gone h e ≡ false
  pub number_not_higher : is_number_not_higher h e ≡ false
  pub ack_unsent : is_ack_unsent h e ≡ false
  pub timer_not_set : is_timer_not_set c h e ≡ false
  pub timer_other : is_timer_other c h e ≡ false
  pub timer_early : is_timer_early c h e ≡ true → pto_count c h < 40
  pub not_confirmed : is_not_confirmed h e ≡ false

-- a test that is not tolerated, and fails
untolerated_fails : (b : Bool) → (b && true) ≡ false → b ≡ false
untolerated_fails true h = cc
untolerated_fails false h = refl

-- a test that is tolerated while there are few doublings
tolerated_if_few : (b few : Bool) → (b && not few) ≡ false → b ≡ true → few ≡ true
tolerated_if_few true true h is = refl
tolerated_if_few true false h is = cc
tolerated_if_few false few h is = cc

-- the rules of form hold of an event past which the machine goes on
pub form_holds : (c : Settings) (h : List Event) (e : Event) → first_untolerated c h e ≡ None → KeepsForm c h e
unfolding first_untolerated
form_holds c h e allowed =
    let holds = rules_hold (map (λ test. (is_untolerated c h test, test.1)) (broken c h e)) allowed in
    record {
      time_back = untolerated_fails (is_time_back h e) holds.0;
      loss_owed = untolerated_fails (is_loss_owed c h e) holds.1.0;
      loss_not_owed = untolerated_fails (is_loss_not_owed c h e) holds.1.1.0;
      loss_set = untolerated_fails (is_other_loss_set c h e) holds.1.1.1.0;
      space_gone = untolerated_fails (is_space_gone h e) holds.1.1.1.1.0;
      number_not_higher = untolerated_fails (is_number_not_higher h e) holds.1.1.1.1.1.0;
      ack_unsent = untolerated_fails (is_ack_unsent h e) holds.1.1.1.1.1.1.1.1.1.0;
      timer_not_set = untolerated_fails (is_timer_not_set c h e) holds.1.1.1.1.1.1.1.1.1.1.0;
      timer_other = untolerated_fails (is_timer_other c h e) holds.1.1.1.1.1.1.1.1.1.1.1.0;
      timer_early = λ is. ltb-true (pto_count c h) 40 (tolerated_if_few (is_timer_early c h e) (nat_lt (pto_count c h) 40) holds.1.1.1.1.1.1.1.1.1.1.1.1.0 is);
      not_confirmed = untolerated_fails (is_not_confirmed h e) holds.1.1.1.1.1.1.1.1.1.1.1.1.1.1.0;
    }

-- ---- a run is a tolerated run

untolerated_no_more : (here there : Bool) (r : Rule) (rest others : Option Rule) → (if here then Some r else rest) ≡ None → (rest ≡ None → others ≡ None)
    → (if here && there then Some r else others) ≡ None
untolerated_no_more true there r rest others none more = cc
untolerated_no_more false there r rest others none more = more none

none_untolerated : (c : Settings) (h : List Event) (tests : List (Bool × Rule)) → first_of tests ≡ None → first_of (map (λ test. (is_untolerated c h test, test.1)) tests) ≡ None
none_untolerated c h [] none = refl
none_untolerated c h (test ∷ tests) none =
    untolerated_no_more test.0 _ test.1 (first_of tests) (first_of (map (λ test. (is_untolerated c h test, test.1)) tests)) none (none_untolerated c h tests)

-- the machine goes on past an event that breaks no rule
pub unbroken_is_tolerated : (c : Settings) (h : List Event) (e : Event) → first_broken c h e ≡ None → first_untolerated c h e ≡ None
unfolding first_broken first_untolerated
unbroken_is_tolerated c h e none = none_untolerated c h (broken c h e) none

-- a run is a tolerated run
pub tolerated_run_of : (c : Settings) (h : List Event) → IsRun c h → IsToleratedRun c h
tolerated_run_of c [] run = tt
tolerated_run_of c (e ∷ h) run = (tolerated_run_of c h run.0, unbroken_is_tolerated c h e run.1)

-- ---- numbers rise as packets are sent

either_false : (a b : Bool) → (a || b) ≡ false → (a ≡ false) × (b ≡ false)
either_false true b h = cc
either_false false b h = (refl, h)

false_true : false ≡ true → ⊥
false_true h = cc

lower_more : (p q : Packet) (rest : List Packet) (of_space : Bool) → is_of p.space q ≡ of_space
    → list_any (λ r. nat_le p.number r.number) (if of_space then q ∷ rest else rest) ≡ false
    → IsLower p q × (list_any (λ r. nat_le p.number r.number) rest ≡ false)
lower_more p q rest true is none =
    let both = either_false (nat_le p.number q.number) (list_any (λ r. nat_le p.number r.number) rest) none in
    ((λ same. leb-false p.number q.number both.0), both.1)
lower_more p q rest false is none = ((λ same. absurd (false_true (sym is ∙ same))), none)

all_lower : (p : Packet) (ps : List Packet) → list_any (λ r. nat_le p.number r.number) (filter (is_of p.space) ps) ≡ false → AllByRecursion (IsLower p) ps
all_lower p [] none = tt
all_lower p (q ∷ ps) none =
    let more = lower_more p q (filter (is_of p.space) ps) (is_of p.space q) refl none in (more.0, all_lower p ps more.1)

event_falls : (c : Settings) (e : Event) (h : List Event) → first_untolerated c h e ≡ None → NumbersFall (packets h) → NumbersFall (packets (e ∷ h))
event_falls c (Sent packet) h allowed falls =
    let holds = form_holds c h (Sent packet) allowed in
    let p = packet_at (length h) packet in
    (all_lower p (packets h) holds.number_not_higher, falls)
event_falls c _ h allowed falls = falls

-- in a tolerated run each packet has a higher number than those sent before it in its space
pub numbers_fall : (c : Settings) (h : List Event) → IsToleratedRun c h → NumbersFall (packets h)
numbers_fall c [] tolerated_run = tt
numbers_fall c (e ∷ h) tolerated_run = event_falls c e h tolerated_run.1 (numbers_fall c h tolerated_run.0)

-- ---- and so do those of a part of them

kept_or_not : (p q : Packet) (rest : List Packet) (keep : Bool) → IsLower p q → AllByRecursion (IsLower p) rest → AllByRecursion (IsLower p) (if keep then q ∷ rest else rest)
kept_or_not p q rest true lower all = (lower, all)
kept_or_not p q rest false lower all = all

all_of_part : (p : Packet) (kept : Packet → Bool) (ps : List Packet) → AllByRecursion (IsLower p) ps → AllByRecursion (IsLower p) (filter kept ps)
all_of_part p kept [] lower = tt
all_of_part p kept (q ∷ ps) lower = kept_or_not p q (filter kept ps) (kept q) lower.0 (all_of_part p kept ps lower.1)

first_or_not : (kept : Packet → Bool) (p : Packet) (ps : List Packet) (keep : Bool) → NumbersFall (p ∷ ps) → NumbersFall (filter kept ps)
    → NumbersFall (if keep then p ∷ filter kept ps else filter kept ps)
first_or_not kept p ps true falls rest = (all_of_part p kept ps falls.0, rest)
first_or_not kept p ps false falls rest = rest

pub falls_in_part : (kept : Packet → Bool) (ps : List Packet) → NumbersFall ps → NumbersFall (filter kept ps)
falls_in_part kept [] falls = tt
falls_in_part kept (p ∷ ps) falls = first_or_not kept p ps (kept p) falls (falls_in_part kept ps falls.1)

-- the packets that an acknowledgment newly acknowledges have rising numbers in the order of sending
pub newly_acknowledged_fall : (c : Settings) (e : Event) (h : List Event) → IsToleratedRun c h → NumbersFall (newly_acknowledged (e ∷ h))
newly_acknowledged_fall c e h tolerated_run = falls_in_part (is_newly_acknowledged e h) (packets h) (numbers_fall c h tolerated_run)

-- ---- when a packet is old

after_delay : (least parts age : ℕ) → max ((parts + 7) / 8) least ≤ age → (parts ≤ 8 * age) × (least ≤ age)
after_delay least parts age waited = (omega arith, omega arith)

delay_after : (least parts age : ℕ) → (parts ≤ 8 * age) × (least ≤ age) → max ((parts + 7) / 8) least ≤ age
delay_after least parts age (fraction, grain) = omega (arith, fraction, grain)

-- a packet is old exactly when the loss delay has passed since it was sent
pub old_is_after_loss_delay : (c : Settings) (r : Estimate) (now : ℕ) (p : Packet) → (is_old c r now p ≡ true) ↔ (loss_delay c r ≤ now - p.time)
old_is_after_loss_delay c r now p = (leb-true (loss_delay c r) (now - p.time), le-leb (loss_delay c r) (now - p.time))

-- rounding up changes nothing: so many parts of the RTT have passed, and the granularity
pub old_is_exact : (c : Settings) (r : Estimate) (now : ℕ) (p : Packet)
    → (is_old c r now p ≡ true) ↔ ((c.options.time_threshold_eighths * max r.latest_rtt r.smoothed_rtt ≤ 8 * (now - p.time)) × (granularity c ≤ now - p.time))
old_is_exact c r now p =
    let delay = old_is_after_loss_delay c r now p in
    let parts = c.options.time_threshold_eighths * max r.latest_rtt r.smoothed_rtt in
    (λ old. after_delay (granularity c) parts (now - p.time) (delay.0 old), λ exact. delay.1 (delay_after (granularity c) parts (now - p.time) exact))
