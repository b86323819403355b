use Rattle.std.proofs.Common.{ap}
use Rattle.std.proofs.lemmas.Option.{IfSome_then}
use Rattle.json.specs.Word.{ends_word}
use Rattle.qa_scan.proofs.Lexing.{then, lexes_comma}
use Rattle.qa_fast_reader.proofs.in_order.next_value.Goals as goal

pub returns : goal.returns
returns c =
    IfSome_then c.value_at.result c.value_at.ensures
    (λ rest is key named. record {
      ended = ap ends_word c.in_ok-behind.ensures;
      member = c.skip_space.result.now;
      at_comma = then (lexes_comma _ _ c.in_ok-behind.ensures) c.skip_space.ensures;
      is_key = is key named;
    })
