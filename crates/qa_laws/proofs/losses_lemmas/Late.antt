-- A Lost line that has the time of its detection is not late.
use Rattle.std.proofs.Common.{◌≡◌, ◌∙◌, ◌+◌, ◌&&◌, not, max, ℕ, List, [], ◌∷◌, ◌++◌, Bool, true, false, Option, Some, None, is_some, filter, map, option_map, refl, sym, ap, ap₂, arith, Contains, inl, inr}
use Rattle.std.proofs.lemmas.Bool.{and_from, and_parts, cases_Bool, le-ltb}
use Rattle.std.specs.List.{AllByRecursion}
use Rattle.std.specs.Option.{option_or}
use Rattle.std.specs.Prelude.{if◌then◌else◌, nat_le, nat_lt}
use Rattle.qa_base.specs.declared.event.Event.{Event}
use Rattle.qa_base.specs.declared.event.Event.TheVariants.{Lost}
use Rattle.qa_base.specs.declared.rule.Rule.{Rule}
use Rattle.qa_base.specs.declared.space.Space.{Space}
use Rattle.qa_base.specs.declared.space.Space.TheVariants.{Initial, Handshake, App}
use Rattle.qa_base.specs.declared.space.TimerKind.TheVariants.{Loss}
use Rattle.qa_base.specs.machine.Breaches.{is_late_by, is_past_due, is_timer_late}
use Rattle.qa_base.specs.machine.Detection.{is_far_below, is_old, may_be_spared}
use Rattle.qa_base.specs.machine.Estimates.{rtt, sampled}
use Rattle.qa_base.specs.machine.Loss.{is_open}
use Rattle.qa_base.specs.machine.Metrics.{metric_tests}
use Rattle.qa_base.specs.machine.Packets.{Packet, packets, packets_of, is_below_largest, is_of, largest_acknowledged, least_of}
use Rattle.qa_base.specs.machine.Rtt.{Estimate, loss_delay}
use Rattle.qa_base.specs.machine.Rules.{IsRun, broken, first_broken}
use Rattle.qa_base.specs.machine.Timer.{Due, anti_deadlock, awaits_loss, deadline, earlier, earliest_loss, earliest_pto, is_kind, is_same_due, loss_due, packet_deadline, set_since}
use Rattle.qa_base.specs.values.Events.{time_of}
use Rattle.qa_base.specs.values.Settings.{Settings, in_unit, is_may}
use Rattle.qa_base.proofs.machine.RunLaws.{rules_hold, tolerated_run_of}
use Rattle.qa_base.proofs.history.Changes.{free_is_flying, free_is_left}
use Rattle.qa_base.proofs.history.ToleratedRuns.{is_space_same}
use Rattle.qa_base.proofs.history.Detection.{loss_of, probes}
use Rattle.qa_base.proofs.history.Pairs.{part_has}
use Rattle.qa_laws.specs.losses.Sparing.{IsAtOnce}
use Rattle.qa_laws.proofs.losses_lemmas.Completed.{NamesAll}
use Rattle.qa_laws.proofs.losses_lemmas.Owing.{SomeFree}
use Rattle.qa_laws.proofs.losses_lemmas.Settling.{names_free}
use Rattle.qa_laws.proofs.losses_lemmas.Since.{same_due_is}

-- ---- the timer is set for a loss where a packet is free

-- what it is set for, if anything, is a loss
abbrev IsLoss : Option Due → Type 0
IsLoss None = Unit {0}
IsLoss (Some due) = is_kind Loss due.kind ≡ true

loss_map : (c : Settings) (r : Estimate) (s : Space) (sent : Option ℕ) → IsLoss (option_map (λ n. record { kind = Loss; space = s; time = n + loss_delay c r }) sent)
loss_map c r s None = tt
loss_map c r s (Some n) = refl

loss_if : (b : Bool) (o p : Option Due) → IsLoss o → IsLoss p → IsLoss (if b then o else p)
loss_if true o p is_o is_p = is_o
loss_if false o p is_o is_p = is_p

loss_earlier : (o p : Option Due) → IsLoss o → IsLoss p → IsLoss (earlier o p)
loss_earlier None p is_o is_p = is_p
loss_earlier (Some d) None is_o is_p = is_o
loss_earlier (Some d) (Some e) is_o is_p = loss_if (nat_le d.time e.time) (Some d) (Some e) is_o is_p

loss_of_space : (c : Settings) (h : List Event) (s : Space) → IsLoss (loss_due c h s)
loss_of_space c h s = loss_map c (rtt c h) s (least_of (map (λ p. p.time) (filter (awaits_loss c h) (packets_of h s))))

earliest_is_loss : (c : Settings) (h : List Event) → IsLoss (earliest_loss c h)
earliest_is_loss c h =
    loss_earlier (loss_due c h Initial) (earlier (loss_due c h Handshake) (loss_due c h App)) (loss_of_space c h Initial)
    (loss_earlier (loss_due c h Handshake) (loss_due c h App) (loss_of_space c h Handshake) (loss_of_space c h App))

some_if : (b : Bool) (d e : Due) → is_some (if b then Some d else Some e) ≡ true
some_if true d e = refl
some_if false d e = refl

some_first : (o p : Option Due) → is_some o ≡ true → is_some (earlier o p) ≡ true
some_first None p is = cc
some_first (Some d) None is = refl
some_first (Some d) (Some e) is = some_if (nat_le d.time e.time) d e

some_second : (o p : Option Due) → is_some p ≡ true → is_some (earlier o p) ≡ true
some_second None p is = is
some_second (Some d) None is = refl
some_second (Some d) (Some e) is = some_if (nat_le d.time e.time) d e

some_of : (c : Settings) (h : List Event) (s : Space) → is_some (loss_due c h s) ≡ true → is_some (earliest_loss c h) ≡ true
some_of c h Initial is = some_first (loss_due c h Initial) (earlier (loss_due c h Handshake) (loss_due c h App)) is
some_of c h Handshake is = some_second (loss_due c h Initial) (earlier (loss_due c h Handshake) (loss_due c h App)) (some_first (loss_due c h Handshake) (loss_due c h App) is)
some_of c h App is = some_second (loss_due c h Initial) (earlier (loss_due c h Handshake) (loss_due c h App)) (some_second (loss_due c h Handshake) (loss_due c h App) is)

least_there : (due : ℕ → Due) (ps : List Packet) (p : Packet) → Contains ps p → is_some (option_map due (least_of (map (λ q. q.time) ps))) ≡ true
least_there due [] p (k, within, is) = absurd (omega (arith, within))
least_there due (q ∷ ps) p has = refl

below_of : (c : Settings) (r : Estimate) (h : List Event) (now : ℕ) (most : Option ℕ) (p : Packet) → may_be_spared c r h now most p ≡ true → is_below_largest p.number most ≡ true
below_of c r h now None p is = cc
below_of c r h now (Some m) p is =
    let far = is_may c.options.loss_by_number && is_far_below c h m p in
    (and_parts (nat_lt p.number m) far (and_parts (nat_lt p.number m && far) (not (is_old c r now p)) is).0).0

-- a packet that is free sets it
free_awaits : (c : Settings) (h : List Event) → IsRun c h → (some : SomeFree c h) → awaits_loss c h some.packet ≡ true
free_awaits c h run some =
    let p = some.packet in
    let left = free_is_left c h p some.is in
    and_from (p.in_flight && is_open c h p) (is_below_largest p.number (largest_acknowledged h p.space)) (free_is_flying c h (tolerated_run_of c h run) p some.is)
    (below_of c (sampled c h) h left.now (largest_acknowledged h p.space) p left.spared)

loss_there : (c : Settings) (h : List Event) → IsRun c h → (some : SomeFree c h) → is_some (earliest_loss c h) ≡ true
loss_there c h run some =
    let p = some.packet in
    some_of c h p.space
    (least_there (λ n. record { kind = Loss; space = p.space; time = n + loss_delay c (rtt c h) }) (filter (awaits_loss c h) (packets_of h p.space)) p
    (part_has (awaits_loss c h) (packets_of h p.space) p (part_has (is_of p.space) (packets h) p some.sent (is_space_same p.space)) (free_awaits c h run some)))

-- for a loss at some time
record SetForLoss (o : Option Due) : Type 0 where
  due : Due
  is : o ≡ Some due
  loss : is_kind Loss due.kind ≡ true

set_for_loss : (o : Option Due) → is_some o ≡ true → IsLoss o → SetForLoss o
set_for_loss None is loss = cc
set_for_loss (Some due) is loss = record { due = due; is = refl; loss = loss }

-- ---- the event before was not late

all_behind : (some more : List (Bool × Rule)) → AllByRecursion (λ test. test.0 ≡ false) (some ++ more) → AllByRecursion (λ test. test.0 ≡ false) more
all_behind [] more all = all
all_behind (test ∷ some) more all = all_behind some more all.1

pub in_time : (c : Settings) (h : List Event) (e : Event) → first_broken c h e ≡ None → is_timer_late c h e ≡ false
unfolding first_broken
in_time c h e allowed = (all_behind (metric_tests c h e) _ (rules_hold (broken c h e) allowed).1.1.1.1.1.1.1.1.1.1.1.1.1.1.1).0

-- ---- a Lost line at the time of its detection

anew : (limit now : ℕ) (due : Option Due) → is_past_due limit now now due ≡ false
anew limit now None = refl
anew limit now (Some due) = le-ltb (max due.time now + limit) now (omega arith)

as_before : (c : Settings) (d : Event) (h : List Event) (limit : ℕ) → is_same_due (deadline c h) (deadline c (d ∷ h)) ≡ true → SetForLoss (earliest_loss c (d ∷ h))
    → is_past_due limit (set_since c h) (time_of d) (packet_deadline c h) ≡ false → is_past_due limit (set_since c (d ∷ h)) (time_of d) (packet_deadline c (d ∷ h)) ≡ false
as_before c d h limit same set before =
    let now = time_of d in
    let stands : set_since c (d ∷ h) ≡ set_since c h = ap (λ (b : Bool). if b then set_since c h else now) same in
    let due_then : deadline c h ≡ Some set.due =
    same_due_is (deadline c h) (deadline c (d ∷ h)) same ∙ ap (λ o. option_or o (option_or (earliest_pto c (d ∷ h)) (anti_deadlock c (d ∷ h)))) set.is in
    let loss_then : earliest_loss c h ≡ Some set.due = loss_of (earliest_loss c h) (option_or (earliest_pto c h) (anti_deadlock c h)) set.due (probes c h) due_then set.loss in
    let packets_then : packet_deadline c h ≡ Some set.due = ap (λ o. option_or o (earliest_pto c h)) loss_then in
    let packets_now : packet_deadline c (d ∷ h) ≡ Some set.due = ap (λ o. option_or o (earliest_pto c (d ∷ h))) set.is in
    ap₂ (λ since due. is_past_due limit since now due) stands (packets_now ∙ sym packets_then) ∙ before

since_then : (c : Settings) (d : Event) (h : List Event) (limit : Option ℕ) → IsRun c (d ∷ h) → SomeFree c (d ∷ h) → is_late_by c h (time_of d) limit ≡ false → is_late_by c (d ∷ h) (time_of d) limit ≡ false
since_then c d h None run some before = refl
since_then c d h (Some limit) run some before = elim (cases_Bool (is_same_due (deadline c h) (deadline c (d ∷ h)))) [
  | inl same ↦ as_before c d h (in_unit c.unit limit) same (set_for_loss (earliest_loss c (d ∷ h)) (loss_there c (d ∷ h) run some) (earliest_is_loss c (d ∷ h))) before
  | inr other ↦
      ap (λ (b : Bool). is_past_due (in_unit c.unit limit) (if b then set_since c h else time_of d) (time_of d) (packet_deadline c (d ∷ h))) other
      ∙ anew (in_unit c.unit limit) (time_of d) (packet_deadline c (d ∷ h))
]

pub lost_in_time : (c : Settings) (e : Event) (h : List Event) → NamesAll c e h → SomeFree c h → IsAtOnce e h → IsRun c h → is_timer_late c h e ≡ false
lost_in_time c (Lost time space ranges) [] names some at run = let never = some.is in cc
lost_in_time c (Lost time space ranges) (d ∷ h) names some at run =
    ap (λ t. is_late_by c (d ∷ h) t c.options.timer_late) at ∙ since_then c d h c.options.timer_late run some (in_time c h d run.1)
lost_in_time c e h names some at run = let never = names_free c e h names some in cc
