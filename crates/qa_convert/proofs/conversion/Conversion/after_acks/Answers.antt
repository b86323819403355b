use Rattle.std.proofs.Common.{◌≡◌, ◌∙◌, [], ap}
use Rattle.std.proofs.lemmas.Result.{on_ok_weaker}
use Rattle.qa_convert.proofs.Losses.{names_only, only_from}
use Rattle.qa_convert.specs.Losing.{lost_in}
use Rattle.qa_convert.specs.Telling.{Told, told_in}
use Rattle.qa_convert.specs.declared.conversion.Conversion.{Conversion}
use Rattle.qa_convert.proofs.conversion.Conversion.after_acks.Goals as goal
use Rattle.qa_convert.proofs.conversion.Conversion.after_acks.Goals.{then-before+then-bytes-before, else-before, then-packet+in_ok-on_done, else-packet, then-before-2+in_ok-report, else-before-2+then-ne+in_ok-report-2, else-before-2+else-ne}

pub returns-clause-lost : goal.returns-clause-lost
returns-clause-lost c =
    let zeroed : told_in c.if-before.self.writing ≡ told_in c.args.self.now.writing =
    elim c.if-before.branch [
      | then-before+then-bytes-before w ↦ ap (λ (x : Conversion). told_in x.writing) w.self-is ∙ ap told_in w.take_zero.ensures.writing
      | else-before w ↦ ap (λ (x : Conversion). told_in x.writing) w.self-is
    ] in
    let confirmed : told_in c.if-packet.self.writing ≡ told_in c.args.self.now.writing =
    elim c.if-packet.branch [
      | then-packet+in_ok-on_done w ↦ ap (λ (x : Conversion). told_in x.writing) w.self-is ∙ w.in_ok-on_done.ensures.told ∙ zeroed
      | else-packet w ↦ ap (λ (x : Conversion). told_in x.writing) w.self-is ∙ zeroed
    ] in
    let told : told_in c.if-before-2.self.writing ≡ told_in c.args.self.now.writing =
    elim c.if-before-2.branch [
      | then-before-2+in_ok-report w ↦ ap (λ (x : Conversion). told_in x.writing) w.self-is ∙ w.in_ok-report.ensures.told ∙ confirmed
      | else-before-2+then-ne+in_ok-report-2 w ↦ ap (λ (x : Conversion). told_in x.writing) w.self-is ∙ w.in_ok-report-2.ensures.told ∙ confirmed
      | else-before-2+else-ne w ↦ ap (λ (x : Conversion). told_in x.writing) w.self-is ∙ confirmed
    ] in
    on_ok_weaker c.detections.result
    (λ all.
    only_from (lost_in c.args.later.now) [] (told_in c.args.self.now.writing) (told_in c.if-before-2.self.writing) (told_in c.detections.new.self.writing)
    (ap (λ (t : Told). t.lost) told)
    (names_only c.if-before-2.self.writing.bare (lost_in c.args.later.now) (told_in c.if-before-2.self.writing) (told_in c.detections.new.self.writing) all))
    c.detections.ensures.lost
