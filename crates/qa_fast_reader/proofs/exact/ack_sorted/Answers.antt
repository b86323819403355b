use Rattle.qa_fast_reader.proofs.exact.ack_sorted.Goals as goal

pub returns : goal.returns
returns c =
    let whole = c.args.bytes.now in
    let s1 = c.in_ok-rest.ensures in
    let s2 = c.in_ok-rest-2.ensures whole s1 in
    let s3 = c.in_ok-rest-3.ensures whole s2 in
    let s4 = c.in_ok-rest-4.ensures whole s3 in
    let s5 = c.in_ok-rest-5.ensures whole s4 in
    c.ended.ensures whole s5
