use Rattle.qa_laws.proofs.machine.Looser as lemmas
use Rattle.qa_laws.proofs.definitions.slack_admits_more.Goals as goal

pub returns : goal.returns
returns c = lemmas.run_with_more_slack
