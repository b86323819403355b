use Rattle.std.proofs.Common.{◌≡◌, ◌∙◌, ◌∷◌, [], ap, sym}
use Rattle.qa_convert.proofs.Keyed.{ok_retires, only_none, other_keys}
use Rattle.qa_convert.specs.KeyLines.{keys_by, known_by}
use Rattle.qa_convert.specs.Rules.{rules_of, rules_stated}
use Rattle.qa_convert.specs.Telling.{KnownKeys, told_in}
use Rattle.qa_convert.specs.declared.event.Said.TheVariants as said
use Rattle.qa_convert.proofs.conversion.Conversion.on_other.Goals as goal

pub returns-in-KeysGone-clause-keys : goal.returns-in-KeysGone-clause-keys
returns-in-KeysGone-clause-keys c =
    let known = known_by c.args.self.now.keys in
    rw c.in-KeysGone.is
    (ok_retires c.on_keys_gone.result (keys_by c.args.event.now.at.place (said.KeysGone c.in-KeysGone.space) known) _ _ _ c.on_keys_gone.ensures.told c.on_keys_gone.ensures.retired)

pub returns-in_ok-report-in_default : goal.returns-in_ok-report-in_default
returns-in_ok-report-in_default c =
    let place = c.args.event.now.at.place in
    let same = other_keys c.args.event.now.said c.in_default.not-KeysCame c.in_default.not-KeysGone place in
    let told : told_in c.report.new.self.writing ≡ told_in c.args.self.now.writing =
    c.in_ok-report-in_default.ensures.told ∙ ap told_in (c.see_window.ensures.writing ∙ c.take-is_report.ensures.writing) in
    let stated = rules_stated (c.args.event.now ∷ []) (rules_of c.args.self.now) in
    let rules : rules_of c.report.new.self ≡ stated =
    c.in_ok-report-in_default.ensures.rules ∙ c.see_window.ensures.rules ∙ c.take-is_report.ensures.rules in
    record {
      keys = only_none _ _ _ told;
      rules = rules ∙ ap (λ (known : KnownKeys). record stated { keys = known }) (sym (same (known_by c.args.self.now.keys)));
    }

pub returns-else-is_report : goal.returns-else-is_report
returns-else-is_report c =
    let same = other_keys c.args.event.now.said c.in_default.not-KeysCame c.in_default.not-KeysGone c.args.event.now.at.place in
    record {
      keys = only_none _ _ _ (ap told_in (c.see_window.ensures.writing ∙ c.take-is_report.ensures.writing));
      rules = c.see_window.ensures.rules ∙ c.take-is_report.ensures.rules
          ∙ ap (λ (known : KnownKeys). record (rules_stated (c.args.event.now ∷ []) (rules_of c.args.self.now)) { keys = known }) (sym (same (known_by c.args.self.now.keys)));
    }
