use Rattle.std.proofs.Common.{sym, ◌∙◌}
use Rattle.qa_base.specs.declared.event.SentPacket.{SentPacket}
use Rattle.qa_fast_reader.proofs.Saying.{says_sent}
use Rattle.qa_fast_reader.proofs.found.Found.sent.Goals as goal

pub returns : goal.returns
returns c =
    let packet : SentPacket = record {
      time = c.in_ok-time.time;
      space = c.in_ok-space.space;
      number = c.in_ok-number.number;
      size = c.in_ok-size.size;
      eliciting = c.in_ok-eliciting.eliciting;
      in_flight = c.in_ok-in_flight.in_flight;
      permission = c.unwrap_or-permission.result;
    } in
    says_sent c.args.self.now packet c.in_ok-self.field-0
    c.requires c.in_ok-time.ensures c.in_ok-space.was
    c.in_ok-self.was (sym c.new.ensures ∙ c.in_ok-number.was) c.in_ok-size.was c.in_ok-eliciting.was c.in_ok-in_flight.was
    c.unwrap_or-permission.ensures (sym c.packet_fits.ensures ∙ c.if-not-packet_fits.false)
