-- Which events are allowed under either header.
use Rattle.std.proofs.Common.{◌≡◌, ◌∙◌, ◌+◌, ◌&&◌, not, ℕ, List, [], ◌∷◌, ◌++◌, Bool, true, false, None, is_none, refl, sym, ap, ap₂, Contains, subst}
use Rattle.std.proofs.lemmas.Bool.{and_from, and_parts, not-false, or_left}
use Rattle.std.specs.List.{AllByRecursion, list_all, list_any}
use Rattle.qa_base.specs.declared.event.Event.{Event}
use Rattle.qa_base.specs.declared.event.Event.TheVariants.{Sent, Lost, Timer, Metrics}
use Rattle.qa_base.specs.declared.rule.Rule.{Rule}
use Rattle.qa_base.specs.declared.rule.Rule.TheVariants.{CollapseMissing, TimerLate}
use Rattle.qa_base.specs.declared.space.Permission.TheVariants.{Window, Recovery}
use Rattle.qa_base.specs.declared.space.Space.{Space}
use Rattle.qa_base.specs.machine.Breaches.{is_above_collapse, is_before, is_collapse_missing, is_loss_not_owed, is_loss_owed, is_other, is_other_loss_set, is_over, is_past, is_past_recovery, is_past_window, is_timer_early, is_timer_late, is_timer_not_set, is_timer_other, numbers}
use Rattle.qa_base.specs.machine.Loss.{free, is_free, is_nameable, is_owed, nameable, owed}
use Rattle.qa_base.specs.machine.Metrics.{metric_tests, tests}
use Rattle.qa_base.specs.machine.Numbers.{has_all, names_between}
use Rattle.qa_base.specs.machine.Packets.{Packet, packets, is_of, is_some_packet}
use Rattle.qa_base.specs.machine.Rules.{broken, first_broken, first_of}
use Rattle.qa_base.specs.machine.Window.{other_window}
use Rattle.qa_base.specs.values.Constants.{minimum_window}
use Rattle.qa_base.specs.values.Events.{is_named, is_space, is_in_flight_by}
use Rattle.qa_base.specs.values.Settings.{Settings, early, is_reported}
use Rattle.qa_base.proofs.machine.Declared.{must_nameable}
use Rattle.qa_base.proofs.machine.RunLaws.{all_hold, rules_hold}
use Rattle.qa_laws.specs.machine.Alike.{where_they_must}
use Rattle.qa_base.proofs.history.Pairs.{has_first, has_later, part_has}
use Rattle.qa_base.proofs.history.Settled.{nameable_is}
use Rattle.qa_base.proofs.history.Settled as settled
use Rattle.qa_laws.proofs.losses_lemmas.Completed.{NamesAll}
use Rattle.qa_laws.proofs.losses_lemmas.Deadlines.{same_bytes, same_deadline, same_totals, same_window}
use Rattle.qa_laws.proofs.losses_lemmas.Owing.{SomeFree, nameable_alone}
use Rattle.qa_laws.proofs.losses_lemmas.Settling.{Formed, names_free, owed_may_be_named, same}

-- ---- rules that both headers break alike

-- for an event
pub record BreaksAlike (c : Settings) (h : List Event) (e : Event) : Type 0 where
  pub loss_owed : is_loss_owed (where_they_must c) h e ≡ is_loss_owed c h e
  pub past_window : is_past_window (where_they_must c) h e ≡ is_past_window c h e
  pub past_recovery : is_past_recovery (where_they_must c) h e ≡ is_past_recovery c h e
  pub not_set : is_timer_not_set (where_they_must c) h e ≡ is_timer_not_set c h e
  pub other : is_timer_other (where_they_must c) h e ≡ is_timer_other c h e
  pub too_early : is_timer_early (where_they_must c) h e ≡ is_timer_early c h e
  pub metrics : metric_tests (where_they_must c) h e ≡ metric_tests c h e
  pub missing : is_collapse_missing (where_they_must c) h e ≡ is_collapse_missing c h e

same_loss_owed : (c : Settings) (h : List Event) (e : Event) → Formed c h → free c h ≡ [] → is_loss_owed (where_they_must c) h e ≡ is_loss_owed c h e
same_loss_owed c h (Lost time space ranges) formed none = refl
same_loss_owed c h _ formed none = ap is_some_packet (owed_may_be_named c h formed ∙ nameable_alone c h none)

same_past_window : (c : Settings) (h : List Event) (e : Event) → is_reported c.options.controller ≡ true → Formed c h → free c h ≡ [] → is_past_window (where_they_must c) h e ≡ is_past_window c h e
same_past_window c h (Sent packet) reported formed none =
    ap₂ (λ limit n. is_in_flight_by Window packet && is_past c.options.window_overshoot limit n packet.size) (same_window c h reported) (same_bytes c h formed none)
same_past_window c h _ reported formed none = refl

same_past_recovery : (c : Settings) (h : List Event) (e : Event) → Formed c h → free c h ≡ [] → is_past_recovery (where_they_must c) h e ≡ is_past_recovery c h e
same_past_recovery c h (Sent packet) formed none = ap (λ spent. is_in_flight_by Recovery packet && is_over 1 1 spent) (same c h formed none).spent
same_past_recovery c h _ formed none = refl

same_not_set : (c : Settings) (h : List Event) (e : Event) → Formed c h → free c h ≡ [] → is_timer_not_set (where_they_must c) h e ≡ is_timer_not_set c h e
same_not_set c h (Timer time kind space) formed none = ap is_none (same_deadline c h formed none)
same_not_set c h _ formed none = refl

same_other : (c : Settings) (h : List Event) (e : Event) → Formed c h → free c h ≡ [] → is_timer_other (where_they_must c) h e ≡ is_timer_other c h e
same_other c h (Timer time kind space) formed none = ap (is_other kind space) (same_deadline c h formed none)
same_other c h _ formed none = refl

same_early : (c : Settings) (h : List Event) (e : Event) → Formed c h → free c h ≡ [] → is_timer_early (where_they_must c) h e ≡ is_timer_early c h e
same_early c h (Timer time kind space) formed none = ap (is_before (time + early c)) (same_deadline c h formed none)
same_early c h _ formed none = refl

same_metrics : (c : Settings) (h : List Event) (e : Event) → is_reported c.options.controller ≡ true → Formed c h → free c h ≡ [] → metric_tests (where_they_must c) h e ≡ metric_tests c h e
same_metrics c h (Metrics time values) reported formed none = ap (tests c values) (same_totals c h reported formed none)
same_metrics c h _ reported formed none = refl

same_missing : (c : Settings) (h : List Event) (e : Event) → Formed c h → free c h ≡ [] → is_collapse_missing (where_they_must c) h e ≡ is_collapse_missing c h e
same_missing c h e formed none =
    ap (λ acknowledged. is_reported c.options.controller && is_above_collapse (minimum_window c.max_datagram_size + c.options.report_slack_bytes) (other_window c h e) acknowledged)
    (same c h formed none).on_persistent_congestion

-- where nothing is free
pub alike_settled : (c : Settings) (h : List Event) (e : Event) → is_reported c.options.controller ≡ true → Formed c h → free c h ≡ [] → BreaksAlike c h e
alike_settled c h e reported formed none = record {
  loss_owed = same_loss_owed c h e formed none;
  past_window = same_past_window c h e reported formed none;
  past_recovery = same_past_recovery c h e formed none;
  not_set = same_not_set c h e formed none;
  other = same_other c h e formed none;
  too_early = same_early c h e formed none;
  metrics = same_metrics c h e reported formed none;
  missing = same_missing c h e formed none;
}

-- and for the Lost line behind a detection that leaves something free
pub alike_lost : (c : Settings) (h : List Event) (e : Event) → NamesAll c e h → SomeFree c h → BreaksAlike c h e
alike_lost c h (Lost time space ranges) names some =
    record { loss_owed = refl; past_window = refl; past_recovery = refl; not_set = refl; other = refl; too_early = refl; metrics = refl; missing = refl }
alike_lost c h e names some = let never = names_free c e h names some in cc

-- ---- what a Lost line may and has to name

same_nameable : (c : Settings) (h : List Event) → Formed c h → nameable (where_they_must c) h ≡ nameable c h
same_nameable c h formed = must_nameable (where_they_must c) h refl ∙ owed_may_be_named c h formed

pub same_not_owed : (c : Settings) (h : List Event) (e : Event) → Formed c h → is_loss_not_owed (where_they_must c) h e ≡ is_loss_not_owed c h e
same_not_owed c h (Lost time space ranges) formed = ap (λ ps. not (list_any (is_of space) ps)) (same_nameable c h formed)
same_not_owed c h _ formed = refl

all_named : (ranges : List (ℕ × ℕ)) (ps : List Packet) → ((p : Packet) → Contains ps p → is_named ranges p.number ≡ true) → list_all (is_named ranges) (numbers ps) ≡ true
all_named ranges [] named = refl
all_named ranges (p ∷ ps) named =
    and_from (is_named ranges p.number) (list_all (is_named ranges) (numbers ps)) (named p (has_first p ps)) (all_named ranges ps (λ q has. named q (has_later p q ps has)))

names_number : (time : ℕ) (space : Space) (ranges : List (ℕ × ℕ)) (h : List Event) (c : Settings) → NamesAll c (Lost time space ranges) h → (p : Packet) → Contains (nameable c h) p → is_named ranges p.number ≡ true
names_number time space ranges h c names p has =
    let is = nameable_is c h p has in
    (and_parts (is_space p.space space) (is_named ranges p.number) (names p is.0 is.1)).1

-- what is to be named at least is among what may be
set_by : (c : Settings) (time : ℕ) (space : Space) (ranges : List (ℕ × ℕ)) (h : List Event) (least some : List Packet) → NamesAll c (Lost time space ranges) h
    → ((p : Packet) → Contains least p → Contains (nameable c h) p) → not (names_between ranges (numbers some) (numbers (nameable c h))) ≡ false
    → not (names_between ranges (numbers least) (numbers (nameable c h))) ≡ false
set_by c time space ranges h least some names among is =
    let between = not-false (names_between ranges (numbers some) (numbers (nameable c h))) is in
    let most = (and_parts (has_all (numbers (nameable c h)) ranges) (list_all (is_named ranges) (numbers some)) between).0 in
    let all = all_named ranges least (λ p has. names_number time space ranges h c names p (among p has)) in
    rw (most, all) refl

owed_among : (c : Settings) (h : List Event) (p : Packet) → Contains (owed c h) p → Contains (nameable c h) p
owed_among c h p has =
    let is = settled.owed_is c h p has in
    part_has (is_nameable c h) (packets h) p is.0 (or_left (is_owed c h p) (is_free c h p) is.1)

set_there : (c : Settings) (h : List Event) (e : Event) → Formed c h → NamesAll c e h → is_other_loss_set (where_they_must c) h e ≡ false → is_other_loss_set c h e ≡ false
set_there c h (Lost time space ranges) formed names is =
    set_by c time space ranges h (owed c h) (owed (where_they_must c) h) names (owed_among c h)
    (subst (λ (ps : List Packet). not (names_between ranges (numbers (owed (where_they_must c) h)) (numbers ps)) ≡ false) (same_nameable c h formed) is)
set_there c h _ formed names is = refl

set_back : (c : Settings) (h : List Event) (e : Event) → Formed c h → NamesAll c e h → is_other_loss_set c h e ≡ false → is_other_loss_set (where_they_must c) h e ≡ false
set_back c h (Lost time space ranges) formed names is =
    subst (λ (ps : List Packet). not (names_between ranges (numbers (owed (where_they_must c) h)) (numbers ps)) ≡ false) (sym (same_nameable c h formed))
    (set_by c time space ranges h (owed (where_they_must c) h) (owed c h) names (λ p has. subst (λ (ps : List Packet). Contains ps p) (owed_may_be_named c h formed) has) is)
set_back c h _ formed names is = refl

-- ---- all rules

none_if : (here : Bool) (r : Rule) (rest : List (Bool × Rule)) → here ≡ false → first_of rest ≡ None → first_of ((here, r) ∷ rest) ≡ None
none_if true r rest none more = cc
none_if false r rest none more = more

none_broken : (rules : List (Bool × Rule)) → AllByRecursion (λ test. test.0 ≡ false) rules → first_of rules ≡ None
none_broken [] all = refl
none_broken (test ∷ rules) all = none_if test.0 test.1 rules all.0 (none_broken rules all.1)

-- each test of a list fails
abbrev Fail : List (Bool × Rule) → Type 0
Fail rules = AllByRecursion (λ test. test.0 ≡ false) rules

fail_front : (some more : List (Bool × Rule)) → Fail (some ++ more) → Fail some
fail_front [] more all = tt
fail_front (test ∷ some) more all = (all.0, fail_front some more all.1)

fail_behind : (some more : List (Bool × Rule)) → Fail (some ++ more) → Fail more
fail_behind [] more all = all
fail_behind (test ∷ some) more all = fail_behind some more all.1

fail_both : (some more : List (Bool × Rule)) → Fail some → Fail more → Fail (some ++ more)
fail_both [] more first rest = rest
fail_both (test ∷ some) more first rest = (first.0, fail_both some more first.1 rest)

-- the rules behind those of which `KeepsRules` tells
abbrev ends : Settings → List Event → Event → List (Bool × Rule)
ends c h e = (is_timer_late c h e, TimerLate) ∷ (is_collapse_missing c h e, CollapseMissing) ∷ []

last_fail : (c : Settings) (h : List Event) (e : Event) → first_broken c h e ≡ None → Fail (metric_tests c h e ++ ends c h e)
unfolding first_broken
last_fail c h e allowed = (rules_hold (broken c h e) allowed).1.1.1.1.1.1.1.1.1.1.1.1.1.1.1

-- an event that is not late is allowed where losses may be declared, if it is where they must
pub allowed_there : (c : Settings) (h : List Event) (e : Event) → BreaksAlike c h e → Formed c h → NamesAll c e h → is_timer_late c h e ≡ false → first_broken (where_they_must c) h e ≡ None → first_broken c h e ≡ None
unfolding first_broken
allowed_there c h e alike formed names late allowed =
    let m = where_they_must c in
    let k = all_hold m h e allowed in
    let last = last_fail m h e allowed in
    let metrics = subst Fail alike.metrics (fail_front (metric_tests m h e) (ends m h e) last) in
    let missing = sym alike.missing ∙ (fail_behind (metric_tests m h e) (ends m h e) last).1.0 in
    none_broken (broken c h e) (
      k.time_back,
      (
        sym alike.loss_owed ∙ k.loss_owed,
        (
          sym (same_not_owed c h e formed) ∙ k.loss_not_owed,
          (
            set_there c h e formed names k.loss_set,
            (
              k.space_gone,
              (
                k.number_not_higher,
                (
                  sym alike.past_window ∙ k.past_window,
                  (
                    k.past_probe,
                    (
                      sym alike.past_recovery ∙ k.past_recovery,
                      (
                        k.ack_unsent,
                        (
                          sym alike.not_set ∙ k.timer_not_set,
                          (
                            sym alike.other ∙ k.timer_other,
                            (
                              sym alike.too_early ∙ k.timer_early,
                              (
                                k.probe_owed,
                                (k.not_confirmed, fail_both (metric_tests c h e) (ends c h e) metrics (late, (missing, tt))),
                              ),
                            ),
                          ),
                        ),
                      ),
                    ),
                  ),
                ),
              ),
            ),
          ),
        ),
      ),
    )

-- and the other way round
pub allowed_back : (c : Settings) (h : List Event) (e : Event) → BreaksAlike c h e → Formed c h → NamesAll c e h → is_timer_late (where_they_must c) h e ≡ false → first_broken c h e ≡ None
    → first_broken (where_they_must c) h e ≡ None
unfolding first_broken
allowed_back c h e alike formed names late allowed =
    let m = where_they_must c in
    let k = all_hold c h e allowed in
    let last = last_fail c h e allowed in
    let metrics = subst Fail (sym alike.metrics) (fail_front (metric_tests c h e) (ends c h e) last) in
    let missing = alike.missing ∙ (fail_behind (metric_tests c h e) (ends c h e) last).1.0 in
    none_broken (broken m h e) (
      k.time_back,
      (
        alike.loss_owed ∙ k.loss_owed,
        (
          same_not_owed c h e formed ∙ k.loss_not_owed,
          (
            set_back c h e formed names k.loss_set,
            (
              k.space_gone,
              (
                k.number_not_higher,
                (
                  alike.past_window ∙ k.past_window,
                  (
                    k.past_probe,
                    (
                      alike.past_recovery ∙ k.past_recovery,
                      (
                        k.ack_unsent,
                        (
                          alike.not_set ∙ k.timer_not_set,
                          (
                            alike.other ∙ k.timer_other,
                            (
                              alike.too_early ∙ k.timer_early,
                              (
                                k.probe_owed,
                                (k.not_confirmed, fail_both (metric_tests m h e) (ends m h e) metrics (late, (missing, tt))),
                              ),
                            ),
                          ),
                        ),
                      ),
                    ),
                  ),
                ),
              ),
            ),
          ),
        ),
      ),
    )
