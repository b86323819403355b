use Rattle.std.proofs.Common.{◌≡◌, ◌∙◌, [], ◌∷◌, ◌++◌, append_assoc, ap}
use Rattle.serde_json.specs.Data.{Data}
use Rattle.qa_base.specs.declared.key.Key.{Key}
use Rattle.qa_base.specs.declared.key.Key.TheVariants as key
use Rattle.qa_base.specs.declared.line_kind.LineKind.TheVariants as kinds
use Rattle.qa_base.specs.declared.rule.Field.TheVariants.{Window, Ssthresh, BytesInFlight, LatestRtt, MinRtt, SmoothedRtt, Rttvar}
use Rattle.qa_base.specs.values.Names.{line_kind_name}
use Rattle.qa_format.specs.format.Written.{Pairs, integer, reported, string}
use Rattle.qa_fast_writer.specs.Members.{all_led}
use Rattle.qa_fast_writer.proofs.Added.{last, none, one, some}
use Rattle.qa_fast_writer.proofs.events.put_metrics.Goals as goal

-- pairs that were added one after the other
one_by_one : (b l m r s t w : Pairs) (e u : Key × Data) → b ++ e ∷ [] ++ l ++ m ++ r ++ s ++ t ++ u ∷ [] ++ w ≡ b ++ e ∷ l ++ m ++ r ++ s ++ t ++ u ∷ w
one_by_one b l m r s t w e u =
    append_assoc (b ++ e ∷ [] ++ l ++ m ++ r ++ s ++ t) (u ∷ []) w
    ∙ ap (λ ps. ps ++ m ++ r ++ s ++ t ++ u ∷ w) (append_assoc b (e ∷ []) l)

pub returns-clause-text : goal.returns-clause-text
returns-clause-text c =
    let s0 = none c.args.out.now.items in
    let s1 = some c.report.new.out.items (reported BytesInFlight c.args.values.now.bytes_in_flight) s0 c.in_ok-report.ensures.put in
    let s2 = one c.put_kind.new.out.items (key.Event, string (line_kind_name kinds.Metrics)) s1 c.in_ok-put_kind.ensures in
    let s3 = some c.report-2.new.out.items (reported LatestRtt c.args.values.now.latest_rtt) s2 c.in_ok-report-2.ensures.put in
    let s4 = some c.report-3.new.out.items (reported MinRtt c.args.values.now.min_rtt) s3 c.in_ok-report-3.ensures.put in
    let s5 = some c.report-4.new.out.items (reported Rttvar c.args.values.now.rttvar) s4 c.in_ok-report-4.ensures.put in
    let s6 = some c.report-5.new.out.items (reported SmoothedRtt c.args.values.now.smoothed_rtt) s5 c.in_ok-report-5.ensures.put in
    let s7 = some c.report-6.new.out.items (reported Ssthresh c.args.values.now.ssthresh) s6 c.in_ok-report-6.ensures.put in
    let s8 = one c.put_time.new.out.items (key.Time, integer c.args.time) s7 c.in_ok-put_time.ensures.put in
    last c.report-7.result (λ h. (some c.report-7.new.out.items (reported Window c.args.values.now.window) s8 h).is ∙ ap (λ ps. c.args.out.now.items ++ all_led ps) (one_by_one _ _ _ _ _ _ _ _ _)) c.report-7.ensures.put
