use Rattle.std.proofs.Common.{refl}
use Rattle.qa_sender.proofs.connection.connection.Connection.start.Goals as goal

pub returns : goal.returns
returns c = record {
  events = refl;
  last_time = refl;
  search = refl;
  parts = record {
    header = refl;
    handshake = c.start.ensures;
    rtt = c.start-2.ensures;
    reno = c.start-3.ensures;
    reported = c.start-4.ensures;
    timer = c.start-5.ensures;
    allowances = c.start-6.ensures;
    spaces = c.start-7.ensures;
  };
}
