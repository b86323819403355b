use Rattle.std.proofs.Common.{◌≡◌, List, Option}
use Rattle.std.specs.Vec.Iter.{into_iter_items}
use Rattle.json.specs.Find.{Finds}
use Rattle.json.specs.Json.{Json}
use Rattle.qa_convert.specs.Reading.{AreLosses, events_at}
use Rattle.qa_convert.specs.Sources.{sources_after, sources_in}
use Rattle.qa_qlog.specs.Lengths.{destination}
use Rattle.qa_convert.proofs.surveying.Surveying.see_all.Given as goal

abbrev pub invariant-loop-said : goal.invariant-loop-said
invariant-loop-said l = record {
  next : (goal.iterator-loop-said).can_next l.said-iterator;
  finite : (goal.iterator-loop-said).is_finite l.said-iterator;
  sources : (h d : Option Json) → Finds l.fn.packet.header h → Finds l.fn.packet.object d
      → sources_after (destination h d) (events_at l.fn.at (into_iter_items l.said-iterator)) (sources_in l.self.survey)
      ≡ sources_after (destination h d) (events_at l.fn.at l.fn.all.items) (sources_in l.initial.self.survey);
  losses : (hs : List Json) → AreLosses hs l.fn.all.items → (rest : List Json) × AreLosses rest (into_iter_items l.said-iterator);
  head : l.self.head ≡ l.initial.self.head;
  cursor : l.self.cursor ≡ l.initial.self.cursor;
}
