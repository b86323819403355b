use Rattle.std.proofs.Common.{◌≡◌, ◌∙◌, ◌+◌, ◌*◌, ◌^◌, ◌≤◌, ℕ, List, Bool, false, Some, None, min, sym, ap}
use Rattle.std.specs.Prelude.{if◌then◌else◌, option_map}
use Rattle.qa_base.specs.declared.event.Event.{Event}
use Rattle.qa_base.specs.declared.space.Space.{Space}
use Rattle.qa_base.specs.declared.space.Space.TheVariants.{Initial, Handshake}
use Rattle.qa_base.specs.declared.space.TimerKind.TheVariants.{Pto}
use Rattle.qa_base.specs.machine.Estimates.{rtt}
use Rattle.qa_base.specs.machine.Handshake.{is_validated, has_keys}
use Rattle.qa_base.specs.machine.Packets.{history_of}
use Rattle.qa_base.specs.machine.Rtt.{pto_base}
use Rattle.qa_base.specs.machine.Timer.{Due, pto_count, last_set, anti_deadlock}
use Rattle.qa_base.specs.values.Settings.{Settings, granularity}
use Rattle.qa_reference.proofs.Powers.{few_doublings}
use Rattle.qa_reference.proofs.deadlines.anti_deadlock.Goals.{then-has_keys, else-has_keys}
use Rattle.qa_reference.proofs.deadlines.anti_deadlock.Goals as goal

abbrev due_by : Space → ℕ → ℕ → ℕ → Due
due_by space base doublings set = record { kind = Pto; space = space; time = set + base * 2 ^ doublings }

set_for : (c : Settings) (h : List Event) (set : ℕ) (space : Space) (base count : ℕ)
    → is_validated c h ≡ false → last_set h ≡ Some set → space ≡ (if has_keys h then Handshake else Initial) → base ≡ pto_base (granularity c) (rtt c h) → count ≡ pto_count c h → count ≤ 40
    → Some (due_by space base (min count 40) set) ≡ anti_deadlock c h
set_for c h set space base count unvalidated last is_space is_base counted few =
    let there = if has_keys h then Handshake else Initial in
    let due = due_by there (pto_base (granularity c) (rtt c h)) (pto_count c h) in
    ap (λ (p : Space). Some (due_by p base (min count 40) set)) is_space
    ∙ (ap (λ (b : ℕ). Some (due_by there b (min count 40) set)) is_base
    ∙ (ap (λ (n : ℕ). Some (due_by there (pto_base (granularity c) (rtt c h)) n set)) (few_doublings count few ∙ counted)
    ∙ sym (ap (λ (done : Bool). if done then None else option_map due (last_set h)) unvalidated ∙ ap (option_map due) last)))

-- Written out, so that a wrong body is refused at this line.
pub returns : goal.returns
returns c =
    let s = c.args.header.now in
    let h = history_of c.args.events.now in
    let by = λ (b : Bool). if b then Handshake else Initial in
    let space : c.if-has_keys.space ≡ (if has_keys h then Handshake else Initial) =
    elim c.if-has_keys.branch [
      | then-has_keys w ↦ w.space-is ∙ ap by (sym w.if-has_keys.true ∙ c.has_keys.ensures)
      | else-has_keys w ↦ w.space-is ∙ ap by (sym w.if-has_keys.false ∙ c.has_keys.ensures)
    ] in
    let base = c.pto_base.ensures.value ∙ (ap (λ (g : ℕ). pto_base g c.args.rtt) c.granularity.ensures ∙ ap (pto_base (granularity s)) c.requires.known) in
    let last = sym c.last_set.ensures ∙ c.in_ok-set.was in
    ap Some c.probe_timeout.ensures
    ∙ set_for s h c.in_ok-set.set c.if-has_keys.space c.pto_base.result c.args.count (sym c.is_validated.ensures ∙ c.if-is_validated.false) last space base c.requires.counted c.requires.few
