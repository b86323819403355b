-- Since when the deadline stands: where losses by number may be declared since no earlier than where they must.
use Rattle.std.proofs.Common.{◌≡◌, ◌∙◌, ◌≤◌, ◌&&◌, ◌==◌, ℕ, List, [], ◌∷◌, Bool, true, false, Option, Some, None, refl, sym, ap, ap₂, subst, arith, inl, inr}
use Rattle.std.proofs.lemmas.Bool.{and_parts, eqb-true, ltb-false}
use Rattle.std.specs.Prelude.{if◌then◌else◌}
use Rattle.qa_base.specs.declared.event.Event.{Event}
use Rattle.qa_base.specs.declared.event.Event.TheVariants.{Lost}
use Rattle.qa_base.specs.declared.space.Space.{Space}
use Rattle.qa_base.specs.declared.space.TimerKind.{TimerKind}
use Rattle.qa_base.specs.declared.space.TimerKind.TheVariants.{Loss, Pto}
use Rattle.qa_base.specs.machine.Loss.{free}
use Rattle.qa_base.specs.machine.Moments.{last_time}
use Rattle.qa_base.specs.machine.Rules.{IsRun}
use Rattle.qa_base.specs.machine.Timer.{Due, deadline, is_kind, is_same_due, set_since}
use Rattle.qa_base.specs.values.Events.{is_space, time_of}
use Rattle.qa_base.specs.values.Settings.{Settings}
use Rattle.qa_base.proofs.machine.RunLaws.{all_hold}
use Rattle.qa_laws.specs.machine.Alike.{where_they_must}
use Rattle.qa_base.proofs.history.ToleratedRuns.{is_space_is}
use Rattle.qa_laws.specs.losses.Sparing.{AreAtOnce, IsAtOnce}
use Rattle.qa_laws.proofs.losses_lemmas.Deadlines.{lost_leaves_deadline, same_deadline}
use Rattle.qa_laws.proofs.losses_lemmas.Owing.{SomeFree, decide}
use Rattle.qa_laws.proofs.losses_lemmas.Settling.{Formed, names_free, none_before}

-- ---- the same deadline

kind_is : (a b : TimerKind) → is_kind a b ≡ true → a ≡ b
kind_is Loss Loss is = refl
kind_is Pto Pto is = refl
kind_is Loss Pto is = cc
kind_is Pto Loss is = cc

due_is : (a b : Due) → a.kind ≡ b.kind → a.space ≡ b.space → a.time ≡ b.time → a ≡ b
due_is a b kind space time =
    ap (λ (k : TimerKind). record { kind = k; space = a.space; time = a.time }) kind
    ∙ (ap (λ (s : Space). record { kind = b.kind; space = s; time = a.time }) space
    ∙ ap (λ (t : ℕ). record { kind = b.kind; space = b.space; time = t }) time)

pub same_due_is : (a b : Option Due) → is_same_due a b ≡ true → a ≡ b
same_due_is None b is = cc
same_due_is (Some a) None is = cc
same_due_is (Some a) (Some b) is =
    let parts = and_parts (is_kind a.kind b.kind && is_space a.space b.space) (a.time == b.time) is in
    let first = and_parts (is_kind a.kind b.kind) (is_space a.space b.space) parts.0 in
    ap Some (due_is a b (kind_is a.kind b.kind first.0) (is_space_is a.space b.space first.1) (eqb-true a.time b.time parts.1))

-- ---- it stands since the last event at the latest

not_before : (c : Settings) (e : Event) (h : List Event) → IsRun c (e ∷ h) → last_time h ≤ time_of e
not_before c e [] run = omega arith
not_before c e (d ∷ h) run = ltb-false (time_of e) (time_of d) (all_hold c (d ∷ h) e run.1).time_back

since_if : (b : Bool) (since last time : ℕ) → since ≤ last → last ≤ time → (if b then since else time) ≤ time
since_if true since last time before le = omega (arith, before, le)
since_if false since last time before le = omega arith

pub since_past : (c : Settings) (h : List Event) → IsRun c h → set_since c h ≤ last_time h
since_past c [] run = omega arith
since_past c (e ∷ h) run = since_if (is_same_due (deadline c h) (deadline c (e ∷ h))) (set_since c h) (last_time h) (time_of e) (since_past c h run.0) (not_before c e h run)

-- ---- where losses may be declared it stands since no earlier

later_if : (b : Bool) (since later time : ℕ) → since ≤ later → (if b then since else time) ≤ (if b then later else time)
later_if true since later time le = le
later_if false since later time le = omega arith

-- one more event
later_next : (c : Settings) (e : Event) (h : List Event) → Formed c (e ∷ h) → free c h ≡ [] → free c (e ∷ h) ≡ [] → set_since (where_they_must c) h ≤ set_since c h
    → set_since (where_they_must c) (e ∷ h) ≤ set_since c (e ∷ h)
later_next c e h formed before none le =
    let m = where_they_must c in
    let is : set_since m (e ∷ h) ≡ (if is_same_due (deadline c h) (deadline c (e ∷ h)) then set_since m h else time_of e) =
    ap₂ (λ a b. if is_same_due a b then set_since m h else time_of e) (same_deadline c h formed.0 before) (same_deadline c (e ∷ h) formed none) in
    let more = later_if (is_same_due (deadline c h) (deadline c (e ∷ h))) (set_since m h) (set_since c h) (time_of e) le in
    omega (arith, is, more)

at_most : (a b : Bool) (since time : ℕ) → since ≤ time → (if a then (if b then since else time) else time) ≤ time
at_most true true since time most = most
at_most true false since time most = omega arith
at_most false b since time most = omega arith

-- the deadline before a detection, between it and its Lost line, which has its time, and behind both
between : (was is behind : Option Due) (since later time : ℕ) (a b : Bool) → is_same_due is behind ≡ a → is_same_due was is ≡ b → since ≤ later → since ≤ time
    → (if is_same_due behind behind then (if is_same_due was behind then since else time) else time) ≤ (if a then (if b then later else time) else time)
between was is behind since later time true true at before le most =
    let same : is ≡ behind = same_due_is is behind at in
    let whole : is_same_due behind behind ≡ true = subst (λ (d : Option Due). is_same_due d behind ≡ true) same at in
    let early : is_same_due was behind ≡ true = subst (λ (d : Option Due). is_same_due was d ≡ true) same before in
    rw (whole, early) le
between was is behind since later time true false at before le most = at_most (is_same_due behind behind) (is_same_due was behind) since time most
between was is behind since later time false b at before le most = at_most (is_same_due behind behind) (is_same_due was behind) since time most

later_past : (c : Settings) (e d : Event) (h : List Event) → Formed c (e ∷ d ∷ h) → SomeFree c (d ∷ h) → free c (e ∷ d ∷ h) ≡ [] → IsAtOnce e (d ∷ h) → IsRun (where_they_must c) (e ∷ d ∷ h)
    → set_since (where_they_must c) h ≤ set_since c h → set_since (where_they_must c) (e ∷ d ∷ h) ≤ set_since c (e ∷ d ∷ h)
later_past c (Lost time space ranges) d h formed some none at run le =
    let m = where_they_must c in
    let e = Lost time space ranges in
    let g = d ∷ h in
    let before = none_before c d h formed.0.1 some in
    let was = deadline c h in
    let is = deadline c g in
    let behind = deadline m g in
    let ends : deadline m (e ∷ g) ≡ behind = lost_leaves_deadline c time space ranges g run in
    let same : deadline c (e ∷ g) ≡ behind = sym (same_deadline c (e ∷ g) formed none) ∙ ends in
    let began : deadline m h ≡ was = same_deadline c h formed.0.0 before in
    let now = time_of d in
    let most : set_since m h ≤ now = (let past = since_past m h run.0.0 in let rise = not_before m d h run.0 in omega (arith, past, rise)) in
    let must : set_since m (e ∷ g) ≡ (if is_same_due behind behind then (if is_same_due was behind then set_since m h else now) else now) =
    ap₂ (λ x y. if is_same_due behind x then (if is_same_due y behind then set_since m h else now) else time) ends began
    ∙ ap (λ t. if is_same_due behind behind then (if is_same_due was behind then set_since m h else now) else t) at in
    let may : set_since c (e ∷ g) ≡ (if is_same_due is behind then (if is_same_due was is then set_since c h else now) else now) =
    ap₂ (λ x t. if is_same_due is x then (if is_same_due was is then set_since c h else now) else t) same at in
    let more = between was is behind (set_since m h) (set_since c h) now (is_same_due is behind) (is_same_due was is) refl refl le most in
    omega (arith, must, may, more)
later_past c e d h formed some none at run le = let never = names_free c e (d ∷ h) formed.1 some in cc

pub later : (c : Settings) (h : List Event) → Formed c h → AreAtOnce h → IsRun (where_they_must c) h → free c h ≡ [] → set_since (where_they_must c) h ≤ set_since c h
later c [] formed at run none = omega arith
later c (e ∷ []) formed at run none = later_next c e [] formed refl none (omega arith)
later c (e ∷ d ∷ h) formed at run none = elim (decide c (d ∷ h)) [
  | inl before ↦ later_next c e (d ∷ h) formed before none (later c (d ∷ h) formed.0 at.0 run.0 before)
  | inr some ↦ (let early = none_before c d h formed.0.1 some in
      later_past c e d h formed some none at.1 run (later c h formed.0.0 at.0.0 run.0.0 early))
]
