use Rattle.std.proofs.Common.{sym, ◌∙◌, rules}
use Rattle.qa_fast_reader.proofs.Listing.{put_is}
use Rattle.qa_fast_reader.proofs.ranges.put.Goals as goal

pub returns : goal.returns
returns c =
    put_is c.args.spans.now _ c.args.lo c.args.hi c.in_ok-new.field-0 c.in_ok-new-2.field-0 c.in_ok-span.span
    (sym c.new.ensures ∙ c.in_ok-new.was) (sym c.new-2.ensures ∙ c.in_ok-new-2.was) (sym c.new-3.ensures ∙ c.in_ok-span.was) (search rules)
