use Rattle.qa_qlog.proofs.Categories.{category_cut, no_category}
use Rattle.qa_qlog.proofs.names.without_category.Goals as goal

pub returns-in-Some : goal.returns-in-Some
returns-in-Some c = category_cut c.args.name.now c.in-Some.place c.in-Some.ensures

pub returns-in-None : goal.returns-in-None
returns-in-None c = no_category c.args.name.now c.in-None.ensures
