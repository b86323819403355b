use Rattle.std.proofs.lemmas.Result.{on_ok_weaker}
use Rattle.qa_convert.proofs.Keyed.{sends_tell, tells_no_keys}
use Rattle.qa_convert.specs.KeyLines.{known_by}
use Rattle.qa_convert.specs.Telling.{told_in}
use Rattle.qa_convert.proofs.conversion.Conversion.write.Goals as goal

pub returns-in-Sent-clause-keys : goal.returns-in-Sent-clause-keys
returns-in-Sent-clause-keys c =
    let w = c.args.self.now in
    rw c.in-Sent.is
    (on_ok_weaker c.on_sent.result
    (λ sends.
    sends_tell w.known.settles_sizes w.terms.dialect.sizes_by_growth (known_by w.keys) c.in-Sent.packets.items (told_in w.writing) (told_in c.on_sent.new.self.writing) sends)
    c.on_sent.ensures.sends)

pub returns-in-Lost-clause-keys : goal.returns-in-Lost-clause-keys
returns-in-Lost-clause-keys c =
    let w = c.args.self.now in
    rw c.in-Lost.is
    (on_ok_weaker c.on_lost.result (λ same. tells_no_keys (known_by w.keys) (told_in w.writing) (told_in c.on_lost.new.self.writing) same) c.on_lost.ensures.keys)

pub returns-in-Expired-clause-keys : goal.returns-in-Expired-clause-keys
returns-in-Expired-clause-keys c =
    let w = c.args.self.now in
    rw c.in-Expired.is
    (on_ok_weaker c.on_timer.result (λ same. tells_no_keys (known_by w.keys) (told_in w.writing) (told_in c.on_timer.new.self.writing) same) c.on_timer.ensures.keys)
