use Rattle.std.proofs.Common.{ap, refl}
use Rattle.qa_base.specs.declared.space.Space.TheVariants.{Initial, Handshake}
use Rattle.qa_convert.proofs.Keyed.{nothing_gone, retires_by, retires_none, retires_same}
use Rattle.qa_convert.specs.KeyLines.{Retires}
use Rattle.qa_convert.specs.Telling.{told_in}
use Rattle.qa_convert.proofs.handshake.Keys.before_sent.Goals as goal
use Rattle.qa_convert.proofs.handshake.Keys.before_sent.Goals.{then-is_handshake+then-self+then-not-self+then-not-is_late+then-self-2+in_ok-discard_initial, then-is_handshake+then-self+then-not-self+else-not-is_late, else-is_handshake}

pub returns-in_ok-discard_handshake-clause-told : goal.returns-in_ok-discard_handshake-clause-told
returns-in_ok-discard_handshake-clause-told c =
    let retired = c.args.self.now.retired in
    let a = told_in c.args.writing.now in
    let first : Retires retired a (told_in c.if-is_handshake.writing) =
    elim c.if-is_handshake.branch [
      | then-is_handshake+then-self+then-not-self+then-not-is_late+then-self-2+in_ok-discard_initial w ↦
          rw w.writing-is (retires_by retired Initial retired.initial a (told_in w.discard_initial.new.writing) refl w.in_ok-discard_initial.ensures.told)
      | then-is_handshake+then-self+then-not-self+else-not-is_late w ↦ retires_none retired a _ (ap told_in w.writing-is)
      | else-is_handshake w ↦ retires_none retired a _ (ap told_in w.writing-is)
    ] in
    retires_same retired a _ _ first (nothing_gone _ Handshake _ _ refl c.in_ok-discard_handshake.ensures.told)

pub returns-else-packet-clause-told : goal.returns-else-packet-clause-told
returns-else-packet-clause-told c =
    let retired = c.args.self.now.retired in
    let a = told_in c.args.writing.now in
    elim c.if-is_handshake.branch [
      | then-is_handshake+then-self+then-not-self+then-not-is_late+then-self-2+in_ok-discard_initial w ↦
          rw w.writing-is (retires_by retired Initial retired.initial a (told_in w.discard_initial.new.writing) refl w.in_ok-discard_initial.ensures.told)
      | then-is_handshake+then-self+then-not-self+else-not-is_late w ↦ retires_none retired a _ (ap told_in w.writing-is)
      | else-is_handshake w ↦ retires_none retired a _ (ap told_in w.writing-is)
    ]
