use Rattle.std.proofs.Common.{◌≡◌, ◌∙◌, [], ◌∷◌, ◌++◌, append_assoc, refl, ap}
use Rattle.serde_json.proofs.Views.{view-Object}
use Rattle.serde_json.specs.Data.{Data, object}
use Rattle.serde_json.specs.View.{members_view}
use Rattle.qa_base.specs.declared.key.Key.{Key}
use Rattle.qa_base.specs.declared.key.Key.TheVariants.{Event, Time}
use Rattle.qa_base.specs.declared.rule.Field.TheVariants.{Window, Ssthresh, BytesInFlight, LatestRtt, MinRtt, SmoothedRtt, Rttvar}
use Rattle.qa_format.specs.format.Written.{Pairs, members}
use Rattle.qa_write.proofs.InOrder.{Holds, holds_none, holds_put, holds_reported}
use Rattle.qa_write.proofs.writer.metrics_object.Goals as goal

-- pairs that were added one after the other
one_by_one : (b l m r s t w : Pairs) (e u : Key × Data) → b ++ e ∷ [] ++ l ++ m ++ r ++ s ++ t ++ u ∷ [] ++ w ≡ b ++ e ∷ l ++ m ++ r ++ s ++ t ++ u ∷ w
one_by_one b l m r s t w e u =
    append_assoc (b ++ e ∷ [] ++ l ++ m ++ r ++ s ++ t) (u ∷ []) w
    ∙ ap (λ ps. ps ++ m ++ r ++ s ++ t ++ u ∷ w) (append_assoc b (e ∷ []) l)

pub returns-clause-object : goal.returns-clause-object
returns-clause-object c =
    let none : Holds [] [] (members_view c.new-map.result.entries) = rw c.new-map.ensures.empty holds_none in
    let bytes = holds_reported _ BytesInFlight _ none refl c.in_ok-report.ensures.put in
    let event = holds_put _ Event _ bytes refl (rw (c.name-2.ensures, c.in_ok-name.ensures, c.name.ensures) at c.in_ok-put.ensures.ok) in
    let latest = holds_reported _ LatestRtt _ event refl c.in_ok-report-2.ensures.put in
    let least = holds_reported _ MinRtt _ latest refl c.in_ok-report-3.ensures.put in
    let varied = holds_reported _ Rttvar _ least refl c.in_ok-report-4.ensures.put in
    let smoothed = holds_reported _ SmoothedRtt _ varied refl c.in_ok-report-5.ensures.put in
    let threshold = holds_reported _ Ssthresh _ smoothed refl c.in_ok-report-6.ensures.put in
    let timed = holds_put _ Time _ threshold refl (rw (c.name-3.ensures, c.from.ensures, c.get.ensures.value) at c.in_ok-put-2.ensures.ok) in
    let window = holds_reported _ Window _ timed refl c.in_ok-report-7.ensures.put in
    rw view-Object (ap object (window.same ∙ ap members (one_by_one _ _ _ _ _ _ _ _ _)))
