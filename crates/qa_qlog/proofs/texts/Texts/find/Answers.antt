use Rattle.std.proofs.Common.{refl}
use Rattle.qa_qlog.proofs.Finding.{found_at, finds_some, finds_none, finds_err, was_whole}
use Rattle.qa_qlog.proofs.texts.Texts.find.Goals.{in-Ok-Some, in-Ok-None, in-Err}
use Rattle.qa_qlog.proofs.texts.Texts.find.Goals as goal

pub returns : goal.returns
returns c = elim c.match-find.branch [
  | in-Ok-Some w ↦
      let at = rw w.in-Ok-Some.field-0-is at w.in-Ok-Some.ensures.place in
      let is = found_at c.self.inside.cutter c.find.new.self c.self.inside.line _ (record { place = w.in-Ok-Some.place; is_blank = w.is_blank.result; after = w.line_after.result }) w.piece_at-bytes.result.now
      c.self.invariant.0 c.self.invariant.1 at.0 at.1 w.piece_at-bytes.ensures w.is_blank.ensures w.line_after.ensures in
      rw (← c.self.view_is, w.result-is) (finds_some _ _ _ _ is at.1 at.0.2.whole)
  | in-Ok-None w ↦
      let none = rw w.in-Ok-None.field-0-is at w.in-Ok-None.ensures.none in
      let whole = was_whole c.self.inside.cutter.refused w.in-Ok-None.field-0 _ w.in-Ok-None.ensures.refused in
      rw (← c.self.view_is, w.result-is) (finds_none _ _ _ none.0 none.1 whole)
  | in-Err w ↦
      rw (← c.self.view_is, w.result-is, w.fault_at.ensures)
      (finds_err _ _ _ w.in-Err.fault _ c.self.invariant.0 refl w.in-Err.ensures.err w.in-Err.ensures.refused w.in-Err.ensures.too_long w.in-Err.ensures.memory)
]
