-- Histories in which all that may be named is named by the next event: what is the same in them under either header.
use Rattle.std.proofs.Common.{◌≡◌, ◌∙◌, List, [], ◌∷◌, true, ◌&&◌, not, refl, ap, Contains, inl, inr}
use Rattle.std.proofs.lemmas.Bool.{both_ways, or_cases, or_right}
use Rattle.qa_base.specs.declared.event.Event.{Event}
use Rattle.qa_base.specs.declared.event.Event.TheVariants.{Lost}
use Rattle.qa_base.specs.machine.Detection.{is_unsettled}
use Rattle.qa_base.specs.machine.Loss.{free, is_free, is_nameable, is_open, is_owed, nameable, owed}
use Rattle.qa_base.specs.machine.Packets.{Packet, packets, is_discarded, is_some_packet}
use Rattle.qa_base.specs.machine.Rules.{IsRun}
use Rattle.qa_base.specs.values.Events.{declares_lost}
use Rattle.qa_base.specs.values.Settings.{Settings}
use Rattle.qa_base.proofs.machine.Declared.{same_filter}
use Rattle.qa_base.proofs.machine.Declared as parts
use Rattle.qa_base.proofs.machine.RunLaws.{all_hold, tolerated_run_of}
use Rattle.qa_laws.specs.machine.Alike.{where_they_must}
use Rattle.qa_base.proofs.history.Pairs.{at_one, of_each}
use Rattle.qa_base.proofs.history.Settled.{has_some, owed_has, owed_is_named}
use Rattle.qa_laws.specs.losses.Sparing.{NoneSpared}
use Rattle.qa_laws.proofs.losses_lemmas.Completed.{NamesAll, same_past}
use Rattle.qa_laws.proofs.losses_lemmas.Owing.{SomeFree, decide, free_has, free_part, owed_alone, owes_by_samples}
use Rattle.qa_laws.proofs.losses_lemmas.Same.{Same, same_at_start, same_next, same_samples}

-- each event names all that may be named before it
abbrev pub Formed : Settings → List Event → Type 0
Formed c [] = Unit {0}
Formed c (e ∷ h) = Formed c h × NamesAll c e h

-- ---- by what comes behind a detection

-- it names what is free
pub names_free : (c : Settings) (e : Event) (h : List Event) → NamesAll c e h → (some : SomeFree c h) → declares_lost some.packet.space some.packet.number e ≡ true
names_free c e h names some = names some.packet some.sent (or_right (is_owed c h some.packet) (is_free c h some.packet) some.is)

past_if : (c : Settings) (e d : Event) (h : List Event) → NamesAll c e (d ∷ h) → SomeFree c (d ∷ h) → Same c h → free c h ≡ [] → Same c (e ∷ d ∷ h)
past_if c (Lost time space ranges) d h names some same none = same_past c time space ranges d h same none names some
past_if c e d h names some same none = let never = names_free c e (d ∷ h) names some in cc

never_twice : (c : Settings) (d : Event) (h : List Event) → NamesAll c d h → SomeFree c (d ∷ h) → SomeFree c h → ⊥
never_twice c (Lost time space ranges) h names some before = let never = some.is in cc
never_twice c d h names some before = let never = names_free c d h names before in cc

-- nothing is free before a detection that leaves something free
pub none_before : (c : Settings) (d : Event) (h : List Event) → NamesAll c d h → SomeFree c (d ∷ h) → free c h ≡ []
none_before c d h names some = elim (decide c h) [
  | inl none ↦ none
  | inr before ↦ absurd (never_twice c d h names some before)
]

-- where nothing is free, all is the same
pub same : (c : Settings) (h : List Event) → Formed c h → free c h ≡ [] → Same c h
same c [] formed none = same_at_start c
same c (e ∷ []) formed none = same_next c e [] (same_at_start c) refl none
same c (e ∷ d ∷ h) formed none = elim (decide c (d ∷ h)) [
  | inl before ↦ same_next c e (d ∷ h) (same c (d ∷ h) formed.0 before) before none
  | inr some ↦ (let early = none_before c d h formed.0.1 some in past_if c e d h formed.1 some (same c h formed.0.0 early) early)
]

-- ---- what must be declared is what may be

owes_past : (c : Settings) (e : Event) (h : List Event) → NamesAll c e h → SomeFree c h → (p : Packet) → is_owed (where_they_must c) (e ∷ h) p ≡ is_nameable c (e ∷ h) p
owes_past c (Lost time space ranges) h names some p = refl
owes_past c e h names some p = let never = names_free c e h names some in cc

pub owes : (c : Settings) (h : List Event) → Formed c h → (p : Packet) → is_owed (where_they_must c) h p ≡ is_nameable c h p
owes c [] formed p = refl
owes c (e ∷ h) formed p = elim (decide c h) [
  | inl none ↦ owes_by_samples c (e ∷ h) (same_samples c e h (same c h formed.0 none)) p
  | inr some ↦ owes_past c e h formed.1 some p
]

pub owed_may_be_named : (c : Settings) (h : List Event) → Formed c h → owed (where_they_must c) h ≡ nameable c h
owed_may_be_named c h formed =
    parts.owed_is (where_they_must c) h ∙ same_filter (is_owed (where_they_must c) h) (is_nameable c h) (packets h) (owes c h formed)

-- where nothing is free, the same packets are open
pub opens : (c : Settings) (h : List Event) → Formed c h → free c h ≡ [] → (p : Packet) → Contains (packets h) p → is_open (where_they_must c) h p ≡ is_open c h p
opens c h formed none p has = ap (λ b. is_unsettled h p && not b && not (is_discarded h p.space)) (owes c h formed p ∙ owed_alone c h none p has)

-- ---- runs are such histories

named_next : (c : Settings) (e : Event) (h : List Event) → IsRun c (e ∷ h) → (p : Packet) → Contains (packets h) p → is_owed c h p ≡ true → declares_lost p.space p.number e ≡ true
named_next c (Lost time space ranges) h run p has is = owed_is_named c h time space ranges (tolerated_run_of c (Lost time space ranges ∷ h) run) p has is
named_next c e h run p has is = absurd (both_ways (is_some_packet (owed c h)) (all_hold c h e run.1).loss_owed (has_some (owed c h) p (owed_has c h p has is)))

-- one in which losses by number must be declared
pub formed_of_run : (c : Settings) (h : List Event) → IsRun (where_they_must c) h → Formed c h
formed_of_run c [] run = tt
formed_of_run c (e ∷ h) run =
    let before = formed_of_run c h run.0 in
    (before, λ p has is. named_next (where_they_must c) e h run p has (owes c h before p ∙ is))

-- one that spares none
pub formed_of_named : (c : Settings) (h : List Event) → NoneSpared c h → IsRun c h → Formed c h
formed_of_named c [] spared run = tt
formed_of_named c (e ∷ h) spared run = (
  formed_of_named c h spared.0 run.0,
  λ p has is. elim (or_cases (is_owed c h p) (is_free c h p) is) [
    | inl owed_then ↦ named_next c e h run p has owed_then
    | inr free_then ↦ at_one (λ q. declares_lost q.space q.number e ≡ true) (free c h) p spared.1 (free_has c h p has free_then)
  ],
)

-- and such a history spares none
pub none_spared : (c : Settings) (h : List Event) → Formed c h → NoneSpared c h
none_spared c [] formed = tt
none_spared c (e ∷ h) formed = (
  none_spared c h formed.0,
  of_each (λ p. declares_lost p.space p.number e ≡ true) (free c h)
      (λ p has. let is = free_part c h p has in formed.1 p is.0 (or_right (is_owed c h p) (is_free c h p) is.1)),
)
