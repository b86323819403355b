use Rattle.std.proofs.Common.{◌≡◌, ◌∙◌, ◌&&◌, false, refl, sym, ap}
use Rattle.std.specs.List.{list_any}
use Rattle.std.specs.Prelude.{nat_lt, unwrap_or}
use Rattle.qa_base.specs.values.PerSpace.{of_space}
use Rattle.qa_sender.specs.Thresholds.{far_end}
use Rattle.qa_sender.specs.declared.connection.spaces.SpaceState.{SpaceState}
use Rattle.qa_sent_packets.specs.Fates.{is_flying}
use Rattle.qa_sent_packets.specs.Steps.{Thresholds}
use Rattle.qa_sender.proofs.Unfound.{unfound}
use Rattle.qa_sender.proofs.machine.Machine.detect.Goals as goal

pub returns-then-not-flies_below-clause-packets : goal.returns-then-not-flies_below-clause-packets
returns-then-not-flies_below-clause-packets c = λ k h run measured sent once.
    let old = c.args.self.now in
    let s = c.args.space in
    let largest = (of_space s old.connection.spaces).largest in
    let l : Thresholds = record { header = old.connection.header; rtt = old.connection.rtt; now = c.args.looked; largest = largest; far_end = far_end k h s } in
    let end : c.end_below_largest-end.result ≡ unwrap_or largest 0 = c.end_below_largest-end.ensures ∙ ap (λ (x : SpaceState). unwrap_or x.largest 0) c.of.ensures in
    let none : list_any (λ p. is_flying s p && nat_lt p.number (unwrap_or largest 0)) old.packets.packets ≡ false =
    ap (λ n. list_any (λ p. is_flying s p && nat_lt p.number n) old.packets.packets) (sym end) ∙ (sym c.flies_below.ensures ∙ c.if-not-flies_below.true) in
    once old.packets l
    (record { header_is = measured.header; rtt_is = measured.rtt; now_is = refl; largest_is = ap (λ (x : SpaceState). x.largest) (measured.spaces s); far_end_is = refl })
    (unfound s l old.packets none)
