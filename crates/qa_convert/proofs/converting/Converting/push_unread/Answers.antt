use Rattle.std.proofs.Common.{refl}
use Rattle.qa_convert.proofs.Goes.{goes_none}
use Rattle.qa_convert.specs.Taking.{progress_of, told_of}
use Rattle.qa_convert.proofs.converting.Converting.push_unread.Goals as goal

pub returns-then-not-is_report : goal.returns-then-not-is_report
returns-then-not-is_report c =
    let old = c.args.self.now in
    record {
      index = c.pass-at.ensures.index;
      clock = c.pass-at.ensures.clock;
      connections = c.pass-at.ensures.connections;
      goes = rw c.if-not-is_report.true (goes_none (progress_of old) (progress_of (record old { cursor = c.pass-at.new.self })) (told_of old) (told_of old) refl refl refl refl refl refl refl);
    }
