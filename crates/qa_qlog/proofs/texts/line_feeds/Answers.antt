use Rattle.std.proofs.Common.{◌≡◌, ◌∙◌, ◌+◌, [], length, ap, arith, sym}
use Rattle.memchr.specs.Find.{is_byte}
use Rattle.qa_qlog.proofs.Counted.{counted}
use Rattle.qa_qlog.proofs.texts.line_feeds.Goals as goal

pub returns : goal.returns
returns c =
    let none : c.loop-places.places ≡ [] = grind arith in
    let all : c.loop-places.feeds ≡ c.loop-places.feeds + length c.loop-places.places = omega (arith, ap length none) in
    all ∙ c.loop-places.invariant.total ∙ counted (is_byte 10) c.args.bytes.now
