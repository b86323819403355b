use Rattle.std.proofs.Common.{map}
use Rattle.serde_json.proofs.Views.{view-Array}
use Rattle.serde_json.specs.View.{view}
use Rattle.qa_convert.proofs.Texts.{texts_are_kept}
use Rattle.qa_convert.proofs.own.list_of.Goals as goal

pub returns : goal.returns
returns c = rw view-Array (texts_are_kept (map view c.loop-text.list.items) c.loop-text.invariant)
