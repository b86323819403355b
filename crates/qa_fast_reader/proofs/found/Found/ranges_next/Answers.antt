use Rattle.std.proofs.Common.{codes, refl}
use Rattle.qa_fast_reader.specs.Ranges.{ranges_data}
use Rattle.qa_fast_reader.proofs.Finding.{put_ranges}
use Rattle.qa_fast_reader.proofs.Listing.{ranges_value}
use Rattle.qa_fast_reader.proofs.Taking.{next_if}
use Rattle.qa_fast_reader.proofs.found.Found.ranges_next.Goals as goal

pub returns : goal.returns
returns c whole =
    let found = c.in_ok-rest.ensures in
    let behind = c.in_ok-after.field-0.now in
    let rest = c.in_ok-rest.rest.now in
    next_if (codes "ranges") c.args.self.now _ whole c.args.bytes.now behind rest refl c.in_ok-after.ensures
    (λ _. record {
      value = ranges_data c.exact_ranges.new.spans;
      is = ranges_value c.exact_ranges.new.spans behind rest found;
      keeps = put_ranges c.args.self.now c.exact_ranges.new.spans found.some found.are;
    })
