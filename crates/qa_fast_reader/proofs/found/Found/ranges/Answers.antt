use Rattle.qa_fast_reader.specs.Ranges.{ranges_data}
use Rattle.qa_fast_reader.proofs.Finding.{put_ranges}
use Rattle.qa_fast_reader.proofs.Listing.{ranges_value}
use Rattle.qa_fast_reader.proofs.found.Found.ranges.Goals as goal

pub returns-clause-found : goal.returns-clause-found
returns-clause-found c =
    let found = c.in_ok-rest.ensures in record {
      value = ranges_data c.ranges-2.new.spans;
      is = ranges_value c.ranges-2.new.spans c.args.bytes.now c.in_ok-rest.rest.now found;
      keeps = put_ranges c.args.self.now c.ranges-2.new.spans found.some found.are;
    }
