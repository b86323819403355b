use Rattle.std.proofs.Common.{◌≡◌, ◌∙◌, ◌+◌, ◌<◌, ℕ, length, ap, sym, arith}
use Rattle.std.specs.Prelude.{if◌then◌else◌}
use Rattle.qa_qlog.specs.Cuts.{Uncut, kept, skeleton_limit}
use Rattle.qa_qlog.specs.Outer.{is_open, is_whole}
use Rattle.qa_qlog.proofs.Steps.{kept_view, keeps_byte}
use Rattle.qa_qlog.proofs.cutter.DocumentCutter.keep.Goals as goal

pub returns : goal.returns
returns c =
    let long = c.skeleton_length-len.ensures in
    let short : length c.args.self.now.state.skeleton < skeleton_limit = omega arith in
    let len : c.skeleton_length-len.result ≡ length c.self.inside.skeleton.items = long ∙ ap (λ (u : Uncut). length u.state.skeleton) (sym c.self.view_is) in
    let whole = c.whole_after-self-inside.ensures ∙ ap (λ (n : ℕ). if is_whole c.args.position.part then n + 1 else c.self.inside.whole) len in
    let key = c.key_after-self-inside.ensures ∙ ap (λ (n : ℕ). if is_open c.self.inside.position.part then n else c.self.inside.key) len in (
      kept c.args.self.now.state c.args.position c.args.byte,
      keeps_byte c.args.self.now.state c.args.position c.args.byte short,
      c.pass.ensures ∙ kept_view _ c.args.self.now c.args.position c.args.byte _ _ _ c.self.view_is (c.pushed.ensures.pushed c.if-not-pushed.false) whole key,
    )
