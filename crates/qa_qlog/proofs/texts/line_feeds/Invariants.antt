use Rattle.std.proofs.Common.{◌≡◌, ◌+◌, ◌≤◌, length}
use Rattle.memchr.specs.Find.{is_byte, places}
use Rattle.qa_qlog.proofs.texts.line_feeds.Given as goal

abbrev pub invariant-loop-places : goal.invariant-loop-places
invariant-loop-places l =
    record {
      total : l.feeds + length l.places ≡ length (places (is_byte 10) l.bytes);
      within : length (places (is_byte 10) l.bytes) ≤ length l.bytes;
    }

abbrev pub decreases-loop-places : goal.decreases-loop-places
decreases-loop-places l = length l.places
