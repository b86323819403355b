use Rattle.std.proofs.Common.{◌≡◌, ◌∙◌, ap, sym, arith}
use Rattle.qa_qlog.specs.Cuts.{Uncut}
use Rattle.qa_qlog.specs.Outer.{scanned}
use Rattle.qa_qlog.specs.declared.cutter.CutFault.TheVariants.{RecordTooLong}
use Rattle.qa_qlog.proofs.Steps.{inside_of, reads_found, reads_going, reads_long}
use Rattle.qa_qlog.proofs.cutter.DocumentCutter.read_record.Goals as goal

pub returns-then-is_nested : goal.returns-then-is_nested
returns-then-is_nested c =
    let bytes = c.unread.ensures in
    let is : c.scan-extent.result ≡ scanned c.args.self.now.state.position c.args.self.now.bytes =
    c.scan-extent.ensures.extent ∙ ap (scanned c.self.inside.position) bytes ∙ ap (λ (u : Uncut). scanned u.state.position c.args.self.now.bytes) c.self.view_is in
    reads_going c.args.self.now c.read_to.new.self c.scan-extent.result (inside_of c.args.self.now.state c.requires.inside) c.requires.some is
    (omega arith) (sym c.is_nested.ensures ∙ c.if-is_nested.true) c.read_to.ensures

pub returns : goal.returns
returns c =
    let bytes = c.unread.ensures in
    let is : c.scan-extent.result ≡ scanned c.args.self.now.state.position c.args.self.now.bytes =
    c.scan-extent.ensures.extent ∙ ap (scanned c.self.inside.position) bytes ∙ ap (λ (u : Uncut). scanned u.state.position c.args.self.now.bytes) c.self.view_is in
    reads_found c.args.self.now c.read_to.new.self c.scan-extent.result (inside_of c.args.self.now.state c.requires.inside) c.requires.some is
    (omega arith) (sym c.is_nested.ensures ∙ c.if-is_nested.false) c.read_to.ensures

pub returns-then-record_length-gt-MAX_RECORD_LENGTH : goal.returns-then-record_length-gt-MAX_RECORD_LENGTH
returns-then-record_length-gt-MAX_RECORD_LENGTH c =
    let bytes = c.unread.ensures in
    let is : c.scan-extent.result ≡ scanned c.args.self.now.state.position c.args.self.now.bytes =
    c.scan-extent.ensures.extent ∙ ap (scanned c.self.inside.position) bytes ∙ ap (λ (u : Uncut). scanned u.state.position c.args.self.now.bytes) c.self.view_is in
    let fault : c.refuse-then-record_length-gt-MAX_RECORD_LENGTH.result ≡ RecordTooLong c.args.self.now.state.begin =
    c.refuse-then-record_length-gt-MAX_RECORD_LENGTH.ensures.fault ∙ ap (λ (u : Uncut). RecordTooLong u.state.begin) c.refuse.view_is in
    reads_long c.args.self.now c.refuse-then-record_length-gt-MAX_RECORD_LENGTH.new.self c.refuse-then-record_length-gt-MAX_RECORD_LENGTH.result
    c.scan-extent.result (inside_of c.args.self.now.state c.requires.inside) c.requires.some is (omega arith) fault (cc)
