use Rattle.qa_reference.proofs.permission.before_detection.Goals as goal

pub returns-in-Lost : goal.returns-in-Lost
returns-in-Lost c = λ s h known was. rw c.in-Lost.is was
