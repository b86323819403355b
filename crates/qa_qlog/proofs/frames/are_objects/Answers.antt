use Rattle.std.proofs.Common.{◌≡◌, ◌∙◌, true, false, sym, ap, refl}
use Rattle.std.specs.List.{list_all}
use Rattle.qa_qlog.specs.Frames.{listed}
use Rattle.qa_qlog.specs.Says.{is_object}
use Rattle.qa_qlog.proofs.Gathered.{passes, fails}
use Rattle.qa_qlog.proofs.frames.are_objects.Goals as goal

pub loop-item-init : goal.loop-item-init
loop-item-init c js inside = (js, inside, refl)

pub loop-item-preserved : goal.loop-item-preserved
loop-item-preserved c js inside =
    let now = c.loop-item.invariant js inside in
    let f = c.in-Some.ensures.value now.0 now.1 in
    let is : is_object f.0 ≡ true = sym (c.is_object.ensures f.0 f.3) ∙ c.if-not-is_object.false in
    (f.1, f.4, sym (passes is_object now.0 f.1 f.0 f.2 is) ∙ now.2)

pub returns-then-not-is_object : goal.returns-then-not-is_object
returns-then-not-is_object c js inside =
    let now = c.loop-item.invariant js inside in
    let f = c.in-Some.ensures.value now.0 now.1 in
    let is : is_object f.0 ≡ false = sym (c.is_object.ensures f.0 f.3) ∙ c.if-not-is_object.true in
    sym (fails is_object now.0 f.1 f.0 f.2 is) ∙ now.2

pub returns : goal.returns
returns c js inside =
    let now = c.loop-item.invariant js inside in
    let done = c.in_default.ensures.value now.0 now.1 in
    sym (ap (λ l. list_all is_object (listed l)) done) ∙ now.2
