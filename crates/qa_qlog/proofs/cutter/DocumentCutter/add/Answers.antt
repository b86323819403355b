use Rattle.std.proofs.Common.{◌≡◌, ◌∙◌, ◌<◌, ◌+◌, length, drop, refl, sym, ap, arith}
use Rattle.std.proofs.lemmas.List.{length-take-le}
use Rattle.qa_qlog.specs.Cuts.{Uncut, added, record_limit}
use Rattle.qa_qlog.proofs.Bounds.{drop_next, take_next}
use Rattle.qa_qlog.proofs.Steps.{added_view, adds, ends, next_view}
use Rattle.qa_qlog.proofs.cutter.DocumentCutter.add.Goals as goal

pub returns-then-is_within : goal.returns-then-is_within
returns-then-is_within c =
    let short : length c.args.self.now.state.text < record_limit =
    let same : length c.args.self.now.state.text ≡ c.self.inside.used = ap (λ (u : Uncut). length u.state.text) (sym c.self.view_is) ∙ length-take-le c.self.inside.used (drop c.self.inside.start c.self.inside.bytes.items) c.self.invariant.1 in
    omega arith in
    let next = next_view _ _ _ (c.self-2.view_is ∙ c.note.ensures) c.requires in (
      added c.args.self.now.state c.args.position c.args.byte,
      adds c.args.self.now.state c.args.position c.args.byte short (sym c.is_within.ensures ∙ c.if-is_within.true),
      added_view _ _ _ _ _ (c.self-2.view_is ∙ c.note.ensures)
          (take_next c.self-2.inside.used (c.self-2.inside.used + 1) (drop c.self-2.inside.start c.self-2.inside.bytes.items) _ _ (omega arith) next)
          (drop_next c.self-2.inside.used (c.self-2.inside.used + 1) (drop c.self-2.inside.start c.self-2.inside.bytes.items) refl),
    )

pub returns : goal.returns
returns c =
    let short : length c.args.self.now.state.text < record_limit =
    let same : length c.args.self.now.state.text ≡ c.self.inside.used = ap (λ (u : Uncut). length u.state.text) (sym c.self.view_is) ∙ length-take-le c.self.inside.used (drop c.self.inside.start c.self.inside.bytes.items) c.self.invariant.1 in
    omega arith in
    let next = next_view _ _ _ (c.self-2.view_is ∙ c.note.ensures) c.requires in (
      added c.args.self.now.state c.args.position c.args.byte,
      ends c.args.self.now.state c.args.position c.args.byte short (sym c.is_within.ensures ∙ c.if-is_within.false),
      added_view _ _ _ _ _ (c.self-2.view_is ∙ c.note.ensures)
          (take_next c.self-2.inside.used (c.self-2.inside.used + 1) (drop c.self-2.inside.start c.self-2.inside.bytes.items) _ _ (omega arith) next)
          (drop_next c.self-2.inside.used (c.self-2.inside.used + 1) (drop c.self-2.inside.start c.self-2.inside.bytes.items) refl),
    )
