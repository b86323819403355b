use Rattle.qa_violations.proofs.laws_lemmas.Sets as lemmas
use Rattle.qa_violations.proofs.laws.differences.runs_are_differences.Goals as goal
use Rattle.qa_packet_numbers.proofs.Removed as removed
use Rattle.qa_packet_numbers.specs.Missing as missing

pub returns-clause-unnamed : goal.returns-clause-unnamed
returns-clause-unnamed c = removed.names_unnamed

pub returns-clause-unnamed_apart : goal.returns-clause-unnamed_apart
returns-clause-unnamed_apart c = λ ranges numbers. lemmas.apart_runs (missing.unnamed ranges numbers)

pub returns-clause-others : goal.returns-clause-others
returns-clause-others c = lemmas.named_others

pub returns-clause-others_apart : goal.returns-clause-others_apart
returns-clause-others_apart c = lemmas.apart_others
