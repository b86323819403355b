-- What is kept behind a header, and behind other lines.
use Rattle.std.proofs.Common.{◌≡◌, ◌∙◌, ◌++◌, ◌∷◌, ℕ, Bool, true, false, List, [], Option, Some, None, length, refl, sym, ap, subst, arith}
use Rattle.std.proofs.lemmas.Bool.{ne_eqb}
use Rattle.std.specs.Prelude.{nat_eq}
use Rattle.std.proofs.lemmas.List.{append-nil}
use Rattle.std.specs.Option.{is_some, option_or}
use Rattle.qa_base.specs.declared.event.Event.{Event}
use Rattle.qa_base.specs.machine.Timer.{Due, anti_deadlock, deadline, earliest_loss, earliest_pto, packet_deadline, time_of_moment}
use Rattle.qa_base.specs.values.Settings.{Settings}
use Rattle.qa_check.specs.Standing.{history_after}
use Rattle.qa_format.specs.declared.line.Line.{Line}
use Rattle.qa_format.specs.declared.line.Line.TheVariants as line
use Rattle.qa_violations.specs.allowed.Allowed.{before}
use Rattle.qa_violations.specs.allowed.Keeping.{IsAt, Tallies}
use Rattle.qa_violations.specs.allowed.Lines.{allowed_if, allowed_said, findings_if, late_findings_if, lates_if, lates_said}
use Rattle.qa_violations.specs.declared.allowed.allowances.Allowances.{Allowances}
use Rattle.qa_violations.specs.declared.allowed.before.Before.{Before}
use Rattle.qa_violations.specs.declared.allowed.late.Late.{Late}
use Rattle.qa_violations.specs.declared.allowed.tally.Tally.{Tally}
use Rattle.qa_violations.specs.declared.table.finding.Finding.{Finding}
use Rattle.qa_violations.specs.table.Table.{is_nil}

-- the first
pub begun_at : (a : Allowances) (b : Before) (s : Settings) (old : Option Settings) (c : Settings) (h : List Event) (stands : Settings → List Event → Type 0) → is_some a.header ≡ false
    → ((d : Settings) → stands d [] → b ≡ before d []) → IsAt a old h → option_or old (Some s) ≡ Some c → stands c h → IsAt (record a { header = Some s; before = b }) (Some c) h
begun_at a b s None c h stands none first at is stood =
    let empty : h ≡ [] = at.2 in
    (is, first c (subst (λ (g : List Event). stands c g) empty stood) ∙ ap (before c) (sym empty), at.1 ∙ ap time_of_moment (sym empty))
begun_at a b s (Some d) c h stands none first at is stood = let has = ap is_some at.0 in cc

-- and another
pub stays_at : (a : Allowances) (s : Settings) (old : Option Settings) (c : Settings) (h : List Event) → is_some a.header ≡ true → IsAt a old h → option_or old (Some s) ≡ Some c → IsAt a (Some c) h
stays_at a s None c h some at is = let has = ap is_some at.0 in cc
stays_at a s (Some d) c h some at is = subst (λ (header : Option Settings). IsAt a header h) is at

-- ---- an event

same_header : (c d : Settings) → ◌≡◌ {A = Option Settings} (Some c) (Some d) → c ≡ d
same_header c d is = cc

-- by the header and what was held before it
pub tallied_by : (t : Tally) (fs : List Finding) (lates : List Late) (counts : Bool) (n : ℕ) (s c : Settings) (b : Before) (h : List Event) (e : Event) → ◌≡◌ {A = Option Settings} (Some s) (Some c) → b ≡ before c h
    → Tallies t (fs ++ findings_if counts n s b e) (lates ++ late_findings_if counts n b e) → Tallies t (fs ++ allowed_if counts n c (e ∷ h)) (lates ++ lates_if counts n c (e ∷ h))
tallied_by t fs lates true n s c b h e same is tallies =
    subst (λ (b : Before). Tallies t (fs ++ findings_if true n c b e) (lates ++ late_findings_if true n b e)) is
    (subst (λ (d : Settings). Tallies t (fs ++ findings_if true n d b e) (lates ++ late_findings_if true n b e)) (same_header s c same) tallies)
tallied_by t fs lates false n s c b h e same is tallies = tallies

-- ---- a header

pub said_no_event : (a : Allowances) (t : Tally) (said : Line) (s : Settings) (counts : Bool) (n : ℕ) (c : Settings) (h : List Event) (fs : List Finding) (lates : List Late) → said ≡ line.Header s → IsAt a (Some c) h → a.tally ≡ t → Tallies t fs lates
    → IsAt a (Some c) (history_after h said) × Tallies a.tally (fs ++ allowed_said counts n said c (history_after h said)) (lates ++ lates_said counts n said c (history_after h said))
said_no_event a t (line.Header d) s counts n c h fs lates is at same tallies =
    (at, subst (λ (found : List Late). Tallies a.tally (fs ++ []) found) (sym (append-nil lates)) (subst (λ (found : List Finding). Tallies a.tally found lates) (sym (append-nil fs)) (subst (λ (u : Tally). Tallies u fs lates) (sym same) tallies)))
said_no_event a t line.Blank s counts n c h fs lates is at same tallies = cc
said_no_event a t (line.Event e) s counts n c h fs lates is at same tallies = cc

-- ---- nothing in a list

pub nil_is : {A : Type 0} (xs : List A) → nat_eq (length xs) 0 ≡ is_nil xs
nil_is [] = refl
nil_is (x ∷ xs) = ne_eqb (length (x ∷ xs)) 0 (λ is. omega arith)

-- ---- what the timer is set for

beside : (loss pto anti : Option Due) (due : Due) → Some due ≡ option_or loss pto → Some due ≡ option_or loss (option_or pto anti)
beside None None anti due is = cc
beside None (Some d) anti due is = is
beside (Some d) pto anti due is = is

-- by packets, where they set it
pub due_by_packets : (c : Settings) (h : List Event) (due : Due) → Some due ≡ packet_deadline c h → Some due ≡ deadline c h
due_by_packets c h due is = beside (earliest_loss c h) (earliest_pto c h) (anti_deadlock c h) due is

nothing_beside : (loss pto anti : Option Due) → None ≡ option_or loss pto → anti ≡ option_or loss (option_or pto anti)
nothing_beside None None anti is = refl
nothing_beside None (Some d) anti is = cc
nothing_beside (Some d) pto anti is = cc

-- by a client that is not validated, where they do not
pub due_by_client : (c : Settings) (h : List Event) → None ≡ packet_deadline c h → anti_deadlock c h ≡ deadline c h
due_by_client c h is = nothing_beside (earliest_loss c h) (earliest_pto c h) (anti_deadlock c h) is
