use Rattle.std.proofs.Common.{◌≡◌, ◌∙◌, None}
use Rattle.qa_check.specs.Standing.{by}
use Rattle.qa_check.specs.Walking.{Covered}
use Rattle.qa_check.proofs.Ends.{ends_line, ends_too_long, halts_line, halts_open}
use Rattle.qa_check.proofs.Following.{follow_line}
use Rattle.qa_check.proofs.taking.take_lines.Goals as goal

pub lines-preserved : goal.lines-preserved
lines-preserved g c =
    let t = rw (c.in-Ok-Some.is, c.in-Ok-Some.field-0-is) at c.next_line.follows.holds-at-none.line in
    let is = rw c.in-Ok-Good.field-0-is at c.in-Ok-Good.is in
    record {
      ready = (t.closed ∙ c.lines.invariant.ready.0, t.whole);
      whole = c.in-Ok-Good.ensures.whole;
      none = c.take_line.ensures.none is;
      walked = λ begun bytes f.
          follow_line (by g.J.Judge.judges) (Covered g.J.Judge.judges (g.V.Visitor.covers begun) c.lines.checker c.lines.visitor)
          (Covered g.J.Judge.judges (g.V.Visitor.covers begun) c.take_line.new.checker c.take_line.new.visitor) _ _ _ _ t.is_line t.taken c.lines.invariant.ready.0 (c.take_line.ensures.good is begun) bytes
          (c.lines.invariant.walked begun bytes f);
    }

pub returns-in-Ok-Bad : goal.returns-in-Ok-Bad
returns-in-Ok-Bad g c =
    let t = rw (c.in-Ok-Some.is, c.in-Ok-Some.field-0-is) at c.next_line.follows.holds-at-none.line in
    let is = rw c.in-Ok-Bad.field-0-is at c.in-Ok-Bad.is in
    record {
      more = λ good. cc;
      good = λ good. cc;
      whole = c.in-Ok-Bad.ensures.whole;
      bad = λ last same begun bytes f.
          let bad = c.take_line.ensures.bad is in
          let kept : c.take_line.new.last ≡ last = cc in
          rw (← kept, bad.1)
          (ends_line g.J.Judge.judges (g.V.Visitor.covers begun) c.args.keeps c.lines.checker c.take_line.new.checker c.lines.visitor c.take_line.new.last _ _ _ _ t.is_line t.taken c.lines.invariant.ready.0 bad.0 bytes
          (c.lines.invariant.walked begun bytes f));
      halted = tt;
    }

pub returns-in-Err : goal.returns-in-Err
returns-in-Err g c =
    let t = rw (c.in-Ok-Some.is, c.in-Ok-Some.field-0-is) at c.next_line.follows.holds-at-none.line in
    record {
      more = λ good. cc;
      good = λ good. cc;
      whole = tt;
      bad = λ last same. cc;
      halted = λ begun bytes f.
          halts_line g.J.Judge.judges (g.V.Visitor.covers begun) (g.V.Visitor.fails begun) c.lines.checker c.lines.visitor c.take_line.new.visitor _ _ _ _ _ t.is_line t.taken c.lines.invariant.ready.0
          (c.in-Err.ensures.halted begun) bytes (c.lines.invariant.walked begun bytes f);
    }

pub returns-in-Ok-None : goal.returns-in-Ok-None
returns-in-Ok-None g c =
    let n = rw (c.in-Ok-None.is, c.in-Ok-None.field-0-is) at c.next_line.follows.holds-at-none.none in
    record {
      more = λ is. record { ready = rw n.1 c.lines.invariant.ready; empty = rw n.1 n.0; whole = c.lines.invariant.whole };
      good = λ is begun bytes f. rw n.1 (c.lines.invariant.walked begun bytes f);
      whole = c.lines.invariant.whole;
      bad = λ last same. cc;
      halted = tt;
    }

pub returns-in-Decided : goal.returns-in-Decided
returns-in-Decided g c =
    let long = c.next_line.ensures.too_long c.lines.invariant.ready.1 (rw c.in-Err-TooLong.field-0-is at c.in-Err-TooLong.is) in
    let bad = c.too_long.ensures.decided c.in-Decided.is in
    record {
      more = λ good. cc;
      good = λ good. cc;
      whole = (bad _ long.3).0;
      bad = λ last same begun bytes f.
          let none : None ≡ last = cc in
          rw (← none) (ends_too_long g.J.Judge.judges (g.V.Visitor.covers begun) c.args.keeps c.lines.checker c.too_long.new.self c.lines.visitor _ long bad (c.too_long.ensures.kept c.in-Decided.is) bytes
          (c.lines.invariant.walked begun bytes f));
      halted = tt;
    }

pub returns-in-OutOfMemory : goal.returns-in-OutOfMemory
returns-in-OutOfMemory g c = record {
  more = λ good. cc;
  good = λ good. cc;
  whole = tt;
  bad = λ last same. cc;
  halted = λ begun bytes f. halts_open g.J.Judge.judges (g.V.Visitor.covers begun) (g.V.Visitor.fails begun) c.lines.checker c.lines.visitor _ bytes (c.lines.invariant.walked begun bytes f);
}

pub returns-in-Err-OutOfMemory : goal.returns-in-Err-OutOfMemory
returns-in-Err-OutOfMemory g c = record {
  more = λ good. cc;
  good = λ good. cc;
  whole = tt;
  bad = λ last same. cc;
  halted = λ begun bytes f. halts_open g.J.Judge.judges (g.V.Visitor.covers begun) (g.V.Visitor.fails begun) c.lines.checker c.lines.visitor _ bytes (c.lines.invariant.walked begun bytes f);
}
