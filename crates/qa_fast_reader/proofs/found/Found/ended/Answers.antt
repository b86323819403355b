use Rattle.qa_fast_reader.proofs.found.Found.ended.Goals as goal

pub returns : goal.returns
returns c whole before = c.closes.ensures c.if-not-closes.false c.args.self.now whole c.line_of.result before c.line_of.ensures
