use Rattle.std.proofs.Common.{◌∙◌, refl, ap}
use Rattle.qa_sender.specs.declared.connection.spaces.SpaceState.{SpaceState}
use Rattle.qa_sender.proofs.machine.thresholds.Goals as goal

pub returns : goal.returns
returns c = λ k h measured far. record {
  header_is = measured.header;
  rtt_is = measured.rtt;
  now_is = refl;
  largest_is = ap (λ (x : SpaceState). x.largest) (c.of.ensures ∙ measured.spaces c.args.space);
  far_end_is = far;
}
