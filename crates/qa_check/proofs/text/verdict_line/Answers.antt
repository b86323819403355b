use Rattle.std.proofs.Common.{append_assoc}
use Rattle.std.proofs.lemmas.Result.{IfOk-weaker}
use Rattle.qa_format.specs.verdicts.Report.{place_text, verdict_text}
use Rattle.qa_check.proofs.text.verdict_line.Goals as goal

pub returns-in-Refused : goal.returns-in-Refused
unfolding verdict_text place_text
returns-in-Refused c = IfOk-weaker c.format-in-Refused.result _ _ (λ line is. rw c.in-Refused.is (simp append_assoc is)) c.format-in-Refused.ensures.ok

pub returns-in-Unreadable : goal.returns-in-Unreadable
unfolding verdict_text place_text
returns-in-Unreadable c = IfOk-weaker c.format-in-Unreadable.result _ _ (λ line is. rw c.in-Unreadable.is (simp append_assoc is)) c.format-in-Unreadable.ensures.ok
