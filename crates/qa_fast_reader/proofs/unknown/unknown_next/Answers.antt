use Rattle.std.proofs.lemmas.Option.{IfSome_then}
use Rattle.qa_fast_reader.proofs.Taking.{next_shorter, passes_next}
use Rattle.qa_fast_reader.proofs.unknown.unknown_next.Goals as goal

pub returns-clause-passes : goal.returns-clause-passes
returns-clause-passes c =
    IfSome_then c.unknown_member.result c.unknown_member.ensures
    (λ rest takes_none f whole. passes_next f whole c.args.bytes.now c.in_ok-more.more.now rest.now (c.ends_word.ensures c.if-not-ends_word.false) c.in_ok-more.ensures takes_none)

pub returns-clause-shorter : goal.returns-clause-shorter
returns-clause-shorter c =
    IfSome_then c.unknown_member.result c.unknown_member.ensures
    (λ rest takes_none. next_shorter c.args.bytes.now c.in_ok-more.more.now rest.now c.in_ok-more.ensures takes_none)
