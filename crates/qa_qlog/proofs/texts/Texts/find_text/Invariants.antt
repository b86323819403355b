use Rattle.std.proofs.Common.{◌≡◌, length}
use Rattle.std.specs.Prelude.{IfSome}
use Rattle.qa_qlog.specs.Taking.{Keeps}
use Rattle.qa_qlog.proofs.texts.Texts.find_text.Given as goal

abbrev pub invariant-pieces : goal.invariant-pieces
invariant-pieces l = record {
  keeps : Keeps l.fn.self l.self;
  stays : IfSome l.fn.self.uncut.refused (λ it. l.self ≡ l.fn.self);
}

abbrev pub decreases-pieces : goal.decreases-pieces
decreases-pieces l = length l.self.uncut.bytes
