use Rattle.std.proofs.Common.{refl}
use Rattle.qa_check.proofs.Ends.{ends_last_bad, ends_last_good, ends_none, halts_at_end, halts_last}
use Rattle.qa_check.proofs.taking.take_last.Goals as goal

pub returns-in-Ok-Good : goal.returns-in-Ok-Good
returns-in-Ok-Good g c =
    let t = rw (c.in-Ok-Some.is, c.in-Ok-Some.field-0-is) at c.next_line.follows.holds-at-none.line in
    let taken = rw c.close.ensures at t.taken in
    let is = rw c.in-Ok-Good.field-0-is at c.in-Ok-Good.is in
    record {
      whole = c.in-Ok-Good.ensures.whole;
      ends = λ begun bytes f.
          ends_last_good g.J.Judge.judges (g.V.Visitor.covers begun) c.args.keeps c.args.checker.now c.take_line.new.checker c.args.visitor.now c.take_line.new.visitor _ _ _ _ t.is_line taken c.requires.empty.0.0
          c.in-Ok-Good.ensures.whole (c.take_line.ensures.good is begun) bytes f;
      halted = tt;
    }

pub returns-in-Ok-Bad : goal.returns-in-Ok-Bad
returns-in-Ok-Bad g c =
    let t = rw (c.in-Ok-Some.is, c.in-Ok-Some.field-0-is) at c.next_line.follows.holds-at-none.line in
    let taken = rw c.close.ensures at t.taken in
    let is = rw c.in-Ok-Bad.field-0-is at c.in-Ok-Bad.is in
    let bad = c.take_line.ensures.bad is in
    record {
      whole = c.in-Ok-Bad.ensures.whole;
      ends = λ begun bytes f.
          rw bad.1
          (ends_last_bad g.J.Judge.judges (g.V.Visitor.covers begun) c.args.keeps c.args.checker.now c.take_line.new.checker c.args.visitor.now _ _ _ _ _ t.is_line taken c.requires.empty.0.0 bad.0 bytes f);
      halted = tt;
    }

pub returns-in-Err-take_line : goal.returns-in-Err-take_line
returns-in-Err-take_line g c =
    let t = rw (c.in-Ok-Some.is, c.in-Ok-Some.field-0-is) at c.next_line.follows.holds-at-none.line in
    let taken = rw c.close.ensures at t.taken in
    record {
      whole = tt;
      ends = tt;
      halted = λ begun bytes f.
          halts_last g.J.Judge.judges (g.V.Visitor.covers begun) (g.V.Visitor.fails begun) c.args.checker.now c.args.visitor.now c.take_line.new.visitor _ _ _ _ _ t.is_line taken c.requires.empty.0.0
          (c.in-Err-take_line.ensures.halted begun) bytes f;
    }

pub returns-in-Ok-None : goal.returns-in-Ok-None
returns-in-Ok-None g c =
    let n = rw (c.in-Ok-None.is, c.in-Ok-None.field-0-is) at c.next_line.follows.holds-at-none.none in
    let none = rw c.close.ensures at n.0.1 in
    record {
      whole = c.requires.whole;
      ends = λ begun bytes f. ends_none g.J.Judge.judges (g.V.Visitor.covers begun) c.args.keeps c.args.checker.now c.args.visitor.now _ (none refl) c.requires.whole bytes f;
      halted = tt;
    }

pub returns-in-Err : goal.returns-in-Err
returns-in-Err g c = record {
  whole = tt;
  ends = tt;
  halted = λ begun bytes f. halts_at_end g.J.Judge.judges (g.V.Visitor.covers begun) (g.V.Visitor.fails begun) c.args.checker.now c.args.visitor.now _ bytes f;
}
