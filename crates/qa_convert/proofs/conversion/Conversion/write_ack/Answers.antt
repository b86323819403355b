use Rattle.std.proofs.Common.{◌≡◌, ◌∙◌, ◌++◌, [], false, true, ap, refl}
use Rattle.std.specs.Prelude.{◌&&◌}
use Rattle.std.proofs.lemmas.Result.{on_ok_weaker}
use Rattle.qa_base.specs.declared.event.Ack.{Ack}
use Rattle.qa_convert.proofs.Delayed.{limit_said, one_added}
use Rattle.qa_convert.proofs.Losses.{names_only, only_from}
use Rattle.qa_convert.specs.AckDelays.{is_by_state, lines_of}
use Rattle.qa_convert.specs.Losing.{packets_of}
use Rattle.qa_convert.specs.Outputs.{in_unit}
use Rattle.qa_convert.specs.Telling.{Told, next_marks, says_limited, told_in}
use Rattle.qa_convert.proofs.conversion.Conversion.write_ack.Goals as goal
use Rattle.qa_convert.proofs.conversion.Conversion.write_ack.Goals.{then-is_limited, else-is_limited}

pub returns-clause-acks : goal.returns-clause-acks
returns-clause-acks c =
    let d = c.args.before.decoding in
    let s = c.args.packet.now.packet.space in
    let answer : Ack = record {
      time = c.in_ok-time.time;
      space = s;
      ranges = c.in_ok-duplicate.field-0;
      delay = c.in_unit.result;
      app_limited = c.if-is_limited.app_limited;
    } in
    let told : told_in c.next_time.new.self ≡ told_in c.args.self.now.writing = c.in_ok-time.ensures.told ∙ c.in_ok-is_limited.ensures.told ∙ c.in_ok-nanoseconds.ensures.told in
    let marks = next_marks c.next_time.new.self in
    let limited : (is_by_state d.limited && d.is_limited) ≡ false → says_limited c.if-is_limited.app_limited marks ≡ true = λ by_window.
    elim c.if-is_limited.branch [
      | then-is_limited w ↦
          rw w.app_limited-is
          (limit_said true w.is_empty-app_limited.result c.is_limited.new.self.writing c.next_time.new.self c.in_ok-time.ensures.says_more
          (rw w.if-is_limited.true at (c.in_ok-is_limited.ensures.says by_window)))
      | else-is_limited w ↦ rw (w.app_limited-is, w.if-is_limited.false) refl
    ] in
    on_ok_weaker c.write_lost.result
    (λ same.
    one_added d s c.args.ack.now marks answer (told_in c.args.self.now.writing) (told_in c.write_lost.new.self.writing) refl c.in_ok-duplicate.ensures
    (λ uncut. c.in_unit.ensures ∙ ap (in_unit d.unit) (c.in_ok-nanoseconds.ensures.delay uncut))
    limited
    (same ∙ c.in_ok-put_ack.ensures.acks ∙ ap (λ (t : Told). t.acks ++ lines_of marks answer) told))
    c.write_lost.ensures.acks

pub returns-clause-lost : goal.returns-clause-lost
returns-clause-lost c =
    let told : told_in c.next_time.new.self ≡ told_in c.args.self.now.writing = c.in_ok-time.ensures.told ∙ c.in_ok-is_limited.ensures.told ∙ c.in_ok-nanoseconds.ensures.told in
    let ps = packets_of c.args.lost.now in
    on_ok_weaker c.write_lost.result
    (λ all.
    only_from ps [] (told_in c.args.self.now.writing) (told_in c.put_ack.new.self.writing) (told_in c.write_lost.new.self.writing)
    (c.in_ok-put_ack.ensures.lost ∙ ap (λ (t : Told). t.lost) told)
    (names_only c.put_ack.new.self.writing.bare ps (told_in c.put_ack.new.self.writing) (told_in c.write_lost.new.self.writing) all))
    c.write_lost.ensures.lost
