use Rattle.std.proofs.Common.{◌∙◌, option_copied, sym, ap, subst}
use Rattle.std.specs.Prelude.{nat_lt}
use Rattle.qa_sent_packets.specs.Held.{AreOrdered, Held}
use Rattle.qa_sent_packets.specs.declared.free.FreePackets.{FreePackets}
use Rattle.qa_sent_packets.proofs.Numbers.{first_tells, none_free}
use Rattle.qa_sent_packets.proofs.packets.SentPackets.flies_below.Goals as goal

pub returns-in-None : goal.returns-in-None
returns-in-None c =
    let free : FreePackets = record { space = c.args.space; end = c.args.end } in
    none_free free c.args.self.now.packets (sym c.first_flying_ref.ensures ∙ ap option_copied c.in-None.is)

pub returns-in-Some : goal.returns-in-Some
returns-in-Some c =
    let free : FreePackets = record { space = c.args.space; end = c.args.end } in
    ap (λ n. nat_lt n c.args.end) c.get.ensures.value
    ∙ first_tells free c.args.self.now.packets c.in-Some.packet.now (subst (λ (h : Held). AreOrdered h.packets) c.self.view_is c.self.invariant.ordered) (sym c.first_flying_ref.ensures ∙ ap option_copied c.in-Some.is)
