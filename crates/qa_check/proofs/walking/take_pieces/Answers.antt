use Rattle.std.proofs.Common.{◌∙◌, inl, inr, refl, arith}
use Rattle.std.proofs.KnownBytes.{Consumes-kept, Consumes-trans}
use Rattle.qa_format.specs.format.Lines.{lines}
use Rattle.qa_check.proofs.Ends.{covers_ended, walks_halted, walks_halted_within}
use Rattle.qa_check.proofs.Following.{follow_few, follow_open}
use Rattle.qa_check.proofs.Reading.{read_piece, more_bytes, open_read, reads_failed, reads_piece, reads_nothing}
use Rattle.qa_check.specs.Standing.{by}
use Rattle.qa_check.specs.Walking.{Covered}
use Rattle.qa_check.proofs.walking.take_pieces.Goals as goal

pub returns-in_default-clause-walks : goal.returns-in_default-clause-walks
returns-in_default-clause-walks g c =
    let i = c.pieces.invariant in
    let r = i.read in
    let open_yet = follow_open (by g.J.Judge.judges) (Covered g.J.Judge.judges (g.V.Visitor.covers c.args.visitor.now) c.pieces.checker c.pieces.visitor) _ r.0 r.2 i.more.empty.0 in
    (r.0, Consumes-kept _ _ _ r.0 r.1 c.in_default.ensures.bytes, open_yet, covers_ended g.J.Judge.judges (g.V.Visitor.covers c.args.visitor.now) c.pieces.checker c.pieces.visitor _ r.0 i.more.empty.0 r.2)

pub returns-in_default-clause-reads : goal.returns-in_default-clause-reads
returns-in_default-clause-reads g c =
    let i = c.pieces.invariant in
    let r = i.read in
    let open_yet = follow_open (by g.J.Judge.judges) (Covered g.J.Judge.judges (g.V.Visitor.covers c.args.visitor.now) c.pieces.checker c.pieces.visitor) _ r.0 r.2 i.more.empty.0 in
    reads_failed (by g.J.Judge.judges) _ _ _ _ r.0 r.1 c.in_default.ensures.bytes c.in_default.ensures.last open_yet

pub returns-in-Ok-take_rest-clause-walks : goal.returns-in-Ok-take_rest-clause-walks
returns-in-Ok-take_rest-clause-walks g c =
    let i = c.pieces.invariant in
    let r = i.read in
    let open_yet = follow_open (by g.J.Judge.judges) (Covered g.J.Judge.judges (g.V.Visitor.covers c.args.visitor.now) c.pieces.checker c.pieces.visitor) _ r.0 r.2 i.more.empty.0 in
    let end = c.in-Ok.ensures.bytes.1 c.if-n-eq0.true (omega arith) in
    let read = reads_nothing _ _ _ r.0 _ _ r.1 c.in-Ok.ensures.bytes.0 c.if-n-eq0.true in
    let further = open_read (by g.J.Judge.judges) _ r.0 (c.in-Ok.ensures.last ∙ c.if-n-eq0.true) open_yet in
    (r.0, (read, inl end, further), c.in-Ok-take_rest.ensures.ends c.args.visitor.now r.0 r.2)

pub returns-in-Ok-take_rest-clause-reads : goal.returns-in-Ok-take_rest-clause-reads
returns-in-Ok-take_rest-clause-reads g c =
    let i = c.pieces.invariant in
    let r = i.read in
    let open_yet = follow_open (by g.J.Judge.judges) (Covered g.J.Judge.judges (g.V.Visitor.covers c.args.visitor.now) c.pieces.checker c.pieces.visitor) _ r.0 r.2 i.more.empty.0 in
    let read = reads_nothing _ _ _ r.0 _ _ r.1 c.in-Ok.ensures.bytes.0 c.if-n-eq0.true in
    (r.0, read, open_read (by g.J.Judge.judges) _ r.0 (c.in-Ok.ensures.last ∙ c.if-n-eq0.true) open_yet)

pub returns-in-Err-clause-walks : goal.returns-in-Err-clause-walks
returns-in-Err-clause-walks g c =
    let i = c.pieces.invariant in
    let r = i.read in
    let open_yet = follow_open (by g.J.Judge.judges) (Covered g.J.Judge.judges (g.V.Visitor.covers c.args.visitor.now) c.pieces.checker c.pieces.visitor) _ r.0 r.2 i.more.empty.0 in
    let end = c.in-Ok.ensures.bytes.1 c.if-n-eq0.true (omega arith) in
    let read = reads_nothing _ _ _ r.0 _ _ r.1 c.in-Ok.ensures.bytes.0 c.if-n-eq0.true in
    let further = open_read (by g.J.Judge.judges) _ r.0 (c.in-Ok.ensures.last ∙ c.if-n-eq0.true) open_yet in
    rw c.fault_of.ensures
    (walks_halted (by g.J.Judge.judges) (g.V.Visitor.covers c.args.visitor.now) (g.V.Visitor.fails c.args.visitor.now) _ _ c.take_rest.new.visitor c.in-Err.halt r.0 (lines r.0) read further
    (c.in-Err.ensures.halted c.args.visitor.now r.0 r.2) (inr (inl end, refl)))

pub returns-in-Err-clause-reads : goal.returns-in-Err-clause-reads
returns-in-Err-clause-reads g c =
    let i = c.pieces.invariant in
    let r = i.read in
    let open_yet = follow_open (by g.J.Judge.judges) (Covered g.J.Judge.judges (g.V.Visitor.covers c.args.visitor.now) c.pieces.checker c.pieces.visitor) _ r.0 r.2 i.more.empty.0 in
    let read = reads_nothing _ _ _ r.0 _ _ r.1 c.in-Ok.ensures.bytes.0 c.if-n-eq0.true in
    (r.0, read, open_read (by g.J.Judge.judges) _ r.0 (c.in-Ok.ensures.last ∙ c.if-n-eq0.true) open_yet)

pub returns-in-Ok-Bad-clause-walks : goal.returns-in-Ok-Bad-clause-walks
returns-in-Ok-Bad-clause-walks g c =
    let i = c.pieces.invariant in
    let r = i.read in
    let open_yet = follow_open (by g.J.Judge.judges) (Covered g.J.Judge.judges (g.V.Visitor.covers c.args.visitor.now) c.pieces.checker c.pieces.visitor) _ r.0 r.2 i.more.empty.0 in
    let short = read_piece _ c.in-Ok.n c.read_piece.new.piece c.in-Ok.ensures.last c.in-Ok.ensures.bound (omega arith) in
    let is = rw c.in-Ok-Bad.field-0-is at c.in-Ok-Bad.is in
    let d = c.take_and_flush.ensures.bad _ is c.args.visitor.now r.0 r.2 in
    (_, (Consumes-trans _ _ _ r.0 _ r.1 c.in-Ok.ensures.bytes.0, inr d.0, (r.0, _, refl, short.0, short.1, open_yet)), d.1)

pub returns-in-Ok-Bad-clause-reads : goal.returns-in-Ok-Bad-clause-reads
returns-in-Ok-Bad-clause-reads g c =
    let i = c.pieces.invariant in
    let r = i.read in
    let open_yet = follow_open (by g.J.Judge.judges) (Covered g.J.Judge.judges (g.V.Visitor.covers c.args.visitor.now) c.pieces.checker c.pieces.visitor) _ r.0 r.2 i.more.empty.0 in
    let short = read_piece _ c.in-Ok.n c.read_piece.new.piece c.in-Ok.ensures.last c.in-Ok.ensures.bound (omega arith) in
    reads_piece (by g.J.Judge.judges) _ _ _ _ r.0 _ r.1 c.in-Ok.ensures.bytes.0 short open_yet

pub returns-in-Err-take_and_flush-clause-walks : goal.returns-in-Err-take_and_flush-clause-walks
returns-in-Err-take_and_flush-clause-walks g c =
    let i = c.pieces.invariant in
    let r = i.read in
    let open_yet = follow_open (by g.J.Judge.judges) (Covered g.J.Judge.judges (g.V.Visitor.covers c.args.visitor.now) c.pieces.checker c.pieces.visitor) _ r.0 r.2 i.more.empty.0 in
    let short = read_piece _ c.in-Ok.n c.read_piece.new.piece c.in-Ok.ensures.last c.in-Ok.ensures.bound (omega arith) in
    rw c.fault_of-in-Err-take_and_flush.ensures
    (walks_halted_within (by g.J.Judge.judges) (g.V.Visitor.covers c.args.visitor.now) (g.V.Visitor.fails c.args.visitor.now) _ _ c.take_and_flush.new.visitor c.in-Err-take_and_flush.halt _
    (Consumes-trans _ _ _ r.0 _ r.1 c.in-Ok.ensures.bytes.0) (r.0, _, refl, short.0, short.1, open_yet) (c.in-Err-take_and_flush.ensures.halted c.args.visitor.now r.0 r.2))

pub returns-in-Err-take_and_flush-clause-reads : goal.returns-in-Err-take_and_flush-clause-reads
returns-in-Err-take_and_flush-clause-reads g c =
    let i = c.pieces.invariant in
    let r = i.read in
    let open_yet = follow_open (by g.J.Judge.judges) (Covered g.J.Judge.judges (g.V.Visitor.covers c.args.visitor.now) c.pieces.checker c.pieces.visitor) _ r.0 r.2 i.more.empty.0 in
    let short = read_piece _ c.in-Ok.n c.read_piece.new.piece c.in-Ok.ensures.last c.in-Ok.ensures.bound (omega arith) in
    reads_piece (by g.J.Judge.judges) _ _ _ _ r.0 _ r.1 c.in-Ok.ensures.bytes.0 short open_yet

pub pieces-preserved : goal.pieces-preserved
pieces-preserved g c =
    let i = c.pieces.invariant in
    let r = i.read in
    let is = rw c.in-Ok-Good.field-0-is at c.in-Ok-Good.is in
    record {
      more = c.take_and_flush.ensures.more is;
      flushed = c.in-Ok-Good.ensures.flushed;
      unfailed_read = c.in-Ok.ensures.failures ∙ i.unfailed_read;
      read = (
        _,
        Consumes-trans _ _ _ r.0 _ r.1 c.in-Ok.ensures.bytes.0,
        c.take_and_flush.ensures.good is c.args.visitor.now r.0 r.2,
        more_bytes _ r.0 _ _ r.3 c.in-Ok.ensures.bound c.if-n-eq0.false,
      );
    }

pub unreachable-requires : goal.unreachable-requires
unreachable-requires g c =
    let i = c.pieces.invariant in
    let r = i.read in
    let few = follow_few (by g.J.Judge.judges) (Covered g.J.Judge.judges (g.V.Visitor.covers c.args.visitor.now) c.pieces.checker c.pieces.visitor) _ r.0 r.2 i.more.empty.0.1 in
    omega (arith, few, r.3)
