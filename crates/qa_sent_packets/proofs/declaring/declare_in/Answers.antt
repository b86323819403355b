use Rattle.std.proofs.Common.{◌≡◌, ◌∙◌, ◌++◌, drop, map, take, ap, arith}
use Rattle.qa_sent_packets.specs.Steps.{declared}
use Rattle.qa_sent_packets.proofs.Declared.{declared_all, declared_start}
use Rattle.qa_sent_packets.proofs.Parts.{mapped_length, mapped_more}
use Rattle.qa_sent_packets.proofs.declaring.declare_in.Goals as goal

pub loop-at-init : goal.loop-at-init
loop-at-init c = declared_start c.args.packets.now.items c.args.part.start c.args.part.end c.requires

pub declare_at-requires : goal.declare_at-requires
declare_at-requires c =
    let long = mapped_length declared c.args.packets.now.items c.loop-at.packets.items c.loop-at.at c.loop-at.invariant in
    omega (arith, long)

pub loop-at-preserved : goal.loop-at-preserved
loop-at-preserved c =
    mapped_more declared c.args.packets.now.items c.loop-at.packets.items c.declare_at.new.packets.items c.loop-at.at (omega arith) c.loop-at.invariant c.declare_at.ensures

pub returns : goal.returns
returns c =
    let at : c.loop-at.at ≡ c.args.part.end = omega arith in
    let xs = c.args.packets.now.items in
    c.loop-at.invariant ∙ (ap (λ n. map declared (take n xs) ++ drop n xs) at ∙ declared_all xs c.args.part.start c.args.part.end c.requires)
