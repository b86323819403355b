use Rattle.std.proofs.Common.{◌∙◌, sym, ap}
use Rattle.std.specs.Str.{chars}
use Rattle.qa_commands.specs.Ending.{message_of}
use Rattle.qa_commands.specs.declared.ending.Failure.TheVariants.{Read}
use Rattle.qa_commands.proofs.ending.Failure.message.Goals as goal

-- no name is shown

pub returns-in-Arguments : goal.returns-in-Arguments
unfolding chars
returns-in-Arguments c = sym (ap message_of c.in-Arguments.is)

pub returns-in-StandardInput : goal.returns-in-StandardInput
unfolding chars
returns-in-StandardInput c = sym (ap message_of c.in-Read.is ∙ ap (λ origin. message_of (Read origin)) c.in-StandardInput.is)

pub returns-in-Write : goal.returns-in-Write
unfolding chars
returns-in-Write c = sym (ap message_of c.in-Write.is)

pub returns-in-OutOfMemory : goal.returns-in-OutOfMemory
unfolding chars
returns-in-OutOfMemory c = sym (ap message_of c.in-OutOfMemory.is)
