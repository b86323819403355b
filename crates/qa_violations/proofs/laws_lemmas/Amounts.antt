-- Each of the rules by which a header allows more is broken exactly if an amount is above its limit.
use Rattle.std.proofs.Common.{◌≡◌, ◌∙◌, ◌+◌, ◌-◌, ◌<◌, ◌≤◌, ◌⊎◌, ◌&&◌, not, ℕ, max, Bool, true, false, List, [], ◌∷◌, Option, Some, None, refl, sym, ap, arith, inl, inr, IsSome}
use Rattle.std.proofs.lemmas.Bool.{ltb-false, lt-ltb, le-ltb}
use Rattle.std.proofs.lemmas.Bool.Decides.{leb_tells}
use Rattle.std.specs.Prelude.{nat_lt, unwrap_or, if◌then◌else◌}
use Rattle.qa_base.proofs.machine.RunLaws.{rules_hold}
use Rattle.qa_base.specs.declared.event.Event.{Event}
use Rattle.qa_base.specs.declared.event.Event.TheVariants.{Sent, Timer, Metrics}
use Rattle.qa_base.specs.declared.event.MetricValues.{MetricValues}
use Rattle.qa_base.specs.declared.rule.Field.{Field}
use Rattle.qa_base.specs.declared.rule.Field.TheVariants as field
use Rattle.qa_base.specs.declared.rule.Rule.{Rule}
use Rattle.qa_base.specs.declared.rule.Rule.TheVariants as rule
use Rattle.qa_base.specs.declared.space.Controller.{Controller}
use Rattle.qa_base.specs.declared.space.Controller.TheVariants.{NewReno, Reported}
use Rattle.qa_base.specs.declared.space.Permission.TheVariants.{Window}
use Rattle.qa_base.specs.declared.totals.Totals.{Totals}
use Rattle.qa_base.specs.machine.Breaches.{is_above_collapse, is_before, is_collapse_missing, is_late_by, is_past, is_past_due, is_past_window, is_timer_early, is_timer_late}
use Rattle.qa_base.specs.machine.Loss.{bytes_in_flight}
use Rattle.qa_base.specs.machine.Metrics.{differs}
use Rattle.qa_base.specs.machine.Reno.{reno}
use Rattle.qa_base.specs.machine.Rules.{broken, first_broken}
use Rattle.qa_base.specs.machine.Timer.{Due, deadline, packet_deadline, set_since}
use Rattle.qa_base.specs.machine.Violations.{violations}
use Rattle.qa_base.specs.machine.Window.{acknowledged_since_collapse, reported_window, unless_same, window, window_by, window_in}
use Rattle.qa_base.specs.values.Constants.{minimum_window}
use Rattle.qa_base.specs.values.Events.{is_in_flight_by, time_of}
use Rattle.qa_base.specs.values.Settings.{Settings, early, in_unit, is_reported}
use Rattle.qa_explain.specs.text.Deadlines.{due_time}
use Rattle.qa_format.specs.declared.line.Line.TheVariants as line
use Rattle.qa_violations.specs.all.Tolerating.{explained, unviolated}
use Rattle.qa_violations.specs.allowed.Allowed.{before, beyond, early_by, late_by, metric_off, past_collapse_by, past_due, past_window}
use Rattle.qa_violations.specs.allowed.Lines.{allowed_on, allowed_said}
use Rattle.qa_violations.specs.laws.Strict.{differs_at, slack_in}
use Rattle.qa_explain.specs.text.Values.{held_of}
use Rattle.qa_violations.specs.table.Amounts.{gap, past_collapse}
use Rattle.qa_violations.specs.table.Table.{is_nil}

-- ---- numbers

pub less_or_not : (a b : ℕ) → ((nat_lt a b ≡ true) × (a < b)) ⊎ ((nat_lt a b ≡ false) × (b ≤ a))
less_or_not a b = elim (leb_tells b a) [
  | inl at_most ↦ inr (le-ltb a b at_most.1, at_most.1)
  | inr less ↦ inl (lt-ltb a b less.1, less.1)
]

-- two tests are the same that hold of the same
same_test : (a b x y : ℕ) → (a < b → x < y) → (x < y → a < b) → nat_lt a b ≡ nat_lt x y
same_test a b x y there back = elim (less_or_not a b) [
  | inl lower ↦ lower.0 ∙ sym (lt-ltb x y (there lower.1))
  | inr other ↦ (elim (less_or_not x y) [
    | inl lower ↦ absurd (let less = back lower.1 in omega (arith, less, other.1))
    | inr more ↦ other.0 ∙ sym more.0
  ])
]

-- above a limit past a sum, and a difference above it
above_sum : (limit a b : ℕ) → nat_lt (a + limit) b ≡ nat_lt limit (b - a)
above_sum limit a b = same_test (a + limit) b limit (b - a) (λ lower. omega (arith, lower)) (λ lower. omega (arith, lower))

never_above : (limit : ℕ) → nat_lt limit 0 ≡ false
never_above limit = le-ltb limit 0 (omega arith)

no_more : (limit n : ℕ) → n ≡ 0 → nat_lt limit n ≡ false
no_more limit n is = ap (nat_lt limit) is ∙ never_above limit

-- ---- V7

of_mark : (mark : Bool) (window bytes size : ℕ) → (mark && nat_lt window (bytes + size)) ≡ nat_lt 0 (if mark then bytes + size - window else 0)
of_mark true window bytes size = same_test window (bytes + size) 0 (bytes + size - window) (λ lower. omega (arith, lower)) (λ lower. omega (arith, lower))
of_mark false window bytes size = refl

pub window_is : (c : Settings) (h : List Event) (e : Event) → c.options.window_overshoot ≡ false → is_past_window c h e ≡ nat_lt 0 (past_window (before c h) e)
window_is c h (Sent packet) none =
    ap (λ overshoot. is_in_flight_by Window packet && is_past overshoot (window c h) (bytes_in_flight c h) packet.size) none
    ∙ of_mark (is_in_flight_by Window packet) (window c h) (bytes_in_flight c h) packet.size
window_is c h _ none = refl

-- ---- V13

early_at : (time limit : ℕ) (due : Option Due) → is_before (time + limit) due ≡ nat_lt limit (due_time due - time)
early_at time limit None = sym (no_more limit (0 - time) (omega arith))
early_at time limit (Some due) = above_sum limit time due.time

pub early_is : (c : Settings) (h : List Event) (e : Event) → is_timer_early c h e ≡ nat_lt (early c) (early_by (before c h) e)
early_is c h (Timer time kind space) = early_at time (early c) (deadline c h)
early_is c h _ = sym (never_above (early c))

-- ---- V16

off_is : (slack : ℕ) (value held : Option ℕ) → IsSome held → differs slack value held ≡ nat_lt slack (unwrap_or (gap value held) 0)
off_is slack None None some = sym (never_above slack)
off_is slack None (Some m) some = sym (never_above slack)
off_is slack (Some n) None some = cc
off_is slack (Some n) (Some m) some = refl

of_compared : (is : Bool) (slack : ℕ) (value held : Option ℕ) → IsSome held → (not is && differs slack value held) ≡ nat_lt slack (if not is then unwrap_or (gap value held) 0 else 0)
of_compared true slack value held some = sym (never_above slack)
of_compared false slack value held some = off_is slack value held some

pub metric_is : (c : Settings) (values : MetricValues) (held : Totals) (f : Field) → IsSome (held_of f held) → differs_at c values held f ≡ nat_lt (slack_in c f) (metric_off c values held f)
metric_is c values held field.Window some = of_compared (is_reported c.options.controller) c.options.report_slack_bytes values.window (Some held.window) some
metric_is c values held field.Ssthresh some = of_compared (is_reported c.options.controller) c.options.report_slack_bytes values.ssthresh held.ssthresh some
metric_is c values held field.BytesInFlight some = off_is c.options.report_slack_bytes values.bytes_in_flight (Some held.bytes_in_flight) some
metric_is c values held field.LatestRtt some = off_is (in_unit c.unit c.options.report_slack_us) values.latest_rtt (Some held.latest_rtt) some
metric_is c values held field.MinRtt some = off_is (in_unit c.unit c.options.report_slack_us) values.min_rtt (Some held.min_rtt) some
metric_is c values held field.SmoothedRtt some = off_is (in_unit c.unit c.options.report_slack_us) values.smoothed_rtt (Some held.smoothed_rtt) some
metric_is c values held field.Rttvar some = off_is (in_unit c.unit c.options.report_slack_us) values.rttvar (Some held.rttvar) some

-- ---- V18

late_at : (limit since time : ℕ) (due : Option Due) → is_past_due limit since time due ≡ nat_lt limit (past_due due since time)
late_at limit since time None = sym (never_above limit)
late_at limit since time (Some due) = above_sum limit (max due.time since) time

pub late_is : (c : Settings) (h : List Event) (e : Event) (limit : ℕ) → c.options.timer_late ≡ Some limit → is_timer_late c h e ≡ nat_lt (in_unit c.unit limit) (late_by (before c h) e)
late_is c h e limit is = ap (is_late_by c h (time_of e)) is ∙ late_at (in_unit c.unit limit) (set_since c h) (time_of e) (packet_deadline c h)

-- ---- V19

above_is : (least slack : ℕ) (reported acknowledged : Option ℕ) → is_above_collapse (least + slack) reported acknowledged ≡ nat_lt slack (unwrap_or (past_collapse least acknowledged reported) 0)
above_is least slack None None = sym (never_above slack)
above_is least slack None (Some m) = sym (never_above slack)
above_is least slack (Some n) None = sym (never_above slack)
above_is least slack (Some n) (Some m) = ap (λ sum. nat_lt sum n) (sums least slack m) ∙ above_sum slack (least + m) n
  where
    sums : (a b k : ℕ) → (a + b) + k ≡ (a + k) + b
    sums a b k = omega arith

by_controller : (k : Controller) (own reported least slack : ℕ) (seen acknowledged : Option ℕ)
    → (is_reported k && is_above_collapse (least + slack) (unless_same reported seen) acknowledged)
    ≡ nat_lt slack (if is_reported k then unwrap_or (past_collapse least acknowledged (unless_same (window_by k own reported) seen)) 0 else 0)
by_controller NewReno own reported least slack seen acknowledged = sym (never_above slack)
by_controller Reported own reported least slack seen acknowledged = above_is least slack (unless_same reported seen) acknowledged

pub collapse_is : (c : Settings) (h : List Event) (e : Event) → is_collapse_missing c h e ≡ nat_lt c.options.report_slack_bytes (past_collapse_by c (before c h) e)
collapse_is c h e =
    by_controller c.options.controller (reno c h).window (reported_window c h) (minimum_window c.max_datagram_size) c.options.report_slack_bytes (window_in e) (acknowledged_since_collapse c h)

-- ---- what is broken

pub uncounted : (n : ℕ) (c : Settings) (h : List Event) (e : Event) (r : Rule) (rs : List Rule) → violations c h e ≡ r ∷ rs → allowed_on unviolated n (line.Event e) c (e ∷ h) ≡ []
uncounted n c h e r rs is = ap (λ (rules : List Rule). allowed_said (is_nil (explained c h e rules)) n (line.Event e) c (e ∷ h)) is

-- ---- late timers

-- the test of V18 fails of an event that breaks no rule
pub not_late : (c : Settings) (h : List Event) (e : Event) → first_broken c h e ≡ None → is_timer_late c h e ≡ false
unfolding first_broken
not_late c h (Metrics time values) none = (rules_hold (broken c h (Metrics time values)) none).1.1.1.1.1.1.1.1.1.1.1.1.1.1.1.1.1.1.1.1.1.1.0
not_late c h e none = (rules_hold (broken c h e) none).1.1.1.1.1.1.1.1.1.1.1.1.1.1.1.0

pub late_within : (c : Settings) (h : List Event) (e : Event) (limit : ℕ) → first_broken c h e ≡ None → c.options.timer_late ≡ Some limit → late_by (before c h) e ≤ in_unit c.unit limit
late_within c h e limit none is = ltb-false (in_unit c.unit limit) (late_by (before c h) e) (sym (late_is c h e limit is) ∙ not_late c h e none)

not_beyond : (r : Rule) (amount : ℕ) → amount ≤ 0 → beyond r amount ≡ []
not_beyond r amount le = ap (λ b. if b then (r, amount) ∷ [] else []) (le-ltb 0 amount le)

pub none_late : (c : Settings) (h : List Event) (e : Event) → first_broken c h e ≡ None → c.options.timer_late ≡ Some 0 → beyond rule.TimerLate (late_by (before c h) e) ≡ []
none_late c h e none is = not_beyond rule.TimerLate (late_by (before c h) e) (let le = late_within c h e 0 none is in omega (arith, le))
