use Rattle.std.proofs.Common.{◌∙◌, ◌++◌, Option, None, ℕ, ap₂, subst, sym}
use Rattle.qa_base.specs.declared.rule.Rule.TheVariants as rule
use Rattle.qa_violations.proofs.allowed_lemmas.Notes.{holds_both, latest_of_both}
use Rattle.qa_violations.specs.allowed.Allowed.{allowed_by, beyond, report_beyond}
use Rattle.qa_violations.specs.allowed.Lines.{findings_of, late_if, latest_from, lates_by}
use Rattle.qa_violations.specs.declared.allowed.late.Late.{Late}
use Rattle.qa_violations.specs.declared.table.table.Table.{Table}
use Rattle.qa_violations.specs.table.Table.{Holds}
use Rattle.qa_violations.proofs.allowed.tally.Tally.note.Goals as goal

pub returns : goal.returns
returns c = λ fs lates tallies.
    let n = c.args.line in
    let header = c.args.header.now in
    let before = c.args.before.now in
    let event = c.args.event.now in
    let window = beyond rule.PastWindow c.past_window.result in
    let early = beyond rule.TimerEarly c.early_by.result in
    let report = report_beyond header before event in
    let late = beyond rule.TimerLate c.late_by-late.result in
    let collapse = beyond rule.CollapseMissing c.past_collapse_by-above.result in
    let one = c.note_beyond.ensures fs tallies.0 in
    let two = holds_both c.note_beyond-2.new.table fs n window early (c.note_beyond-2.ensures (fs ++ findings_of n window) one) in
    let three = holds_both c.note_report.new.table fs n (window ++ early) report (c.note_report.ensures (fs ++ findings_of n (window ++ early)) two) in
    let four = holds_both c.note_beyond-3.new.table fs n (window ++ early ++ report) late (c.note_beyond-3.ensures (fs ++ findings_of n (window ++ early ++ report)) three) in
    let five = holds_both c.note_beyond-4.new.table fs n (window ++ early ++ report ++ late) collapse (c.note_beyond-4.ensures (fs ++ findings_of n (window ++ early ++ report ++ late)) four) in
    let all : Holds c.note_beyond-4.new.table (fs ++ findings_of n (allowed_by header before event)) =
    rw (c.past_window.ensures, c.early_by.ensures, c.late_by-late.ensures, c.past_collapse_by-above.ensures) at five in (
      subst (λ (t : Table). Holds t (fs ++ findings_of n (allowed_by header before event))) (sym c.note_late.ensures.table) all,
      c.note_late.ensures.latest
          ∙ (ap₂ (λ (found : Option Late) (amount : ℕ). latest_from found (late_if n before.packet_due amount)) tallies.1 c.late_by-late.ensures
          ∙ sym (latest_of_both None lates (lates_by n before event))),
    )
