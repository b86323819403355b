use Rattle.std.proofs.Common.{◌≡◌, ◌∙◌, ◌-◌, ◌||◌, ◌∷◌, true, false, Some, None, sym, ap, rules}
use Rattle.std.specs.Prelude.{nat_lt}
use Rattle.qa_sent_packets.specs.Fates.{is_acknowledged}
use Rattle.qa_sent_packets.specs.Walks.{are_apart, earliest, is_far_from}
use Rattle.qa_sent_packets.proofs.Owed.{apart_covered, apart_end, apart_other}
use Rattle.qa_sent_packets.proofs.owing.is_far.Goals as goal

pub returns-then-eq : goal.returns-then-eq
returns-then-eq c = λ ps.
    let covered : is_acknowledged c.args.packet.now.fate ≡ true = search rules in
    apart_covered c.args.limit c.args.first c.args.packet.now c.args.began.now ps covered

pub returns-then-not-is_end : goal.returns-then-not-is_end
returns-then-not-is_end c = λ ps.
    let covered : is_acknowledged c.args.packet.now.fate ≡ false = search rules in
    apart_other c.args.limit c.args.first c.args.packet.now c.args.began.now ps covered (sym c.is_end.ensures ∙ c.if-not-is_end.true)

pub returns-in-None : goal.returns-in-None
returns-in-None c = λ ps.
    let p = c.args.packet.now in
    let covered : is_acknowledged p.fate ≡ false = search rules in
    ap (λ began. are_apart c.args.limit c.args.first began (p ∷ ps)) c.in-None.is
    ∙ apart_end c.args.limit c.args.first p None ps covered (sym c.is_end.ensures ∙ c.if-not-is_end.false)

pub returns-in-Some : goal.returns-in-Some
returns-in-Some c = λ ps.
    let limit = c.args.limit in
    let first = c.args.first in
    let p = c.args.packet.now in
    let covered : is_acknowledged p.fate ≡ false = search rules in
    let later : c.saturating_sub.result ≡ p.time - c.in-Some.time =
    c.saturating_sub.ensures ∙ (ap (λ t. t - c.get-in-Some.result) c.get.ensures.value ∙ ap (λ t. p.time - t) c.get-in-Some.ensures.value) in
    apart_end limit first p c.args.began.now ps covered (sym c.is_end.ensures ∙ c.if-not-is_end.false)
    ∙ (ap (λ began. is_far_from limit began p.time || are_apart limit first (Some (earliest began p.time)) ps) c.in-Some.is
    ∙ (ap (λ n. nat_lt limit n || are_apart limit first (Some c.in-Some.time) ps) (sym later)
    ∙ ap (λ began. nat_lt limit c.saturating_sub.result || are_apart limit first began ps) (sym c.in-Some.is)))
