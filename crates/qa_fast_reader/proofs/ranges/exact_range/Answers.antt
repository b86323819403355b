use Rattle.std.proofs.Common.{sym, ap, ◌∙◌, rules}
use Rattle.json.specs.Word.{ends_word}
use Rattle.qa_scan.proofs.Lexing.{lexes_begin_array, lexes_comma, lexes_end_array}
use Rattle.qa_fast_reader.proofs.Listing.{takes_range}
use Rattle.qa_fast_reader.proofs.ranges.exact_range.Goals as goal

pub returns : goal.returns
returns c =
    takes_range c.args.spans.now _ c.in_ok-lo.lo c.in_ok-hi.hi c.in_ok-new.field-0 c.in_ok-new-2.field-0 c.in_ok-span.span
    c.args.bytes.now c.in_ok-after_byte.field-0.now c.in_ok-lo.rest.now c.in_ok-after_byte-2.field-0.now c.in_ok-hi.rest.now c.in_ok-rest.rest.now
    (lexes_begin_array _ _ c.in_ok-after_byte.ensures) (c.in_ok-lo.ensures.1 (ap ends_word c.in_ok-after_byte-2.ensures)) (lexes_comma _ _ c.in_ok-after_byte-2.ensures)
    (c.in_ok-hi.ensures.1 (ap ends_word c.in_ok-rest.ensures)) (lexes_end_array _ _ c.in_ok-rest.ensures)
    (sym c.new.ensures ∙ c.in_ok-new.was) (sym c.new-2.ensures ∙ c.in_ok-new-2.was) (sym c.new-3.ensures ∙ c.in_ok-span.was) (search rules)
