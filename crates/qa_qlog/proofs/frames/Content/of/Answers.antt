use Rattle.std.proofs.Common.{◌∙◌, ◌∷◌, [], map, sym, ap}
use Rattle.qa_qlog.specs.Frames.{content, joined, listed, type_of}
use Rattle.qa_qlog.proofs.Gathered.{joined_none, joined_step, kinds_step, kinds_end}
use Rattle.qa_qlog.proofs.frames.Content.of.Goals as goal

pub loop-frame-init : goal.loop-frame-init
loop-frame-init c js inside = (js, inside, ap (λ a. joined a (content (map type_of (listed js)))) c.none-content.ensures)

pub loop-frame-preserved : goal.loop-frame-preserved
loop-frame-preserved c js inside =
    let now = c.loop-frame.invariant js inside in
    let f = c.in-Some.ensures.value now.0 now.1 in
    let had = c.loop-frame.content in
    let kinds = map type_of (listed f.1) in
    let more = c.with-content.ensures ∙ ap (λ k. joined had (content (k ∷ []))) (c.frame_type.ensures f.0 f.3) in (
      f.1,
      f.4,
      ap (λ a. joined a (content kinds)) more ∙ joined_step had (type_of f.0) kinds
          ∙ ap (λ ks. joined had (content ks)) (sym (kinds_step now.0 f.1 f.0 f.2)) ∙ now.2,
    )

pub returns : goal.returns
returns c js inside =
    let now = c.loop-frame.invariant js inside in
    let done = c.in_default.ensures.value now.0 now.1 in
    let had = c.loop-frame.content in
    sym (joined_none had) ∙ ap (λ ks. joined had (content ks)) (sym (kinds_end now.0 done)) ∙ now.2
