-- How far the first reading is.
use Rattle.std.proofs.Common.{◌≡◌, ℕ, refl}
use Rattle.qa_qlog.specs.declared.heads.Head.{Head}
use Rattle.qa_convert.specs.Connections.{Numbering, numbering_of}
use Rattle.qa_convert.specs.Sources.{Sources, sources_in}
use Rattle.qa_convert.specs.Surveying.{Surveyed, surveyed_by}
use Rattle.qa_convert.specs.declared.clock.Clock.{Clock}
use Rattle.qa_convert.specs.declared.surveying.Surveying.{Surveying}

abbrev pub surveyed : Head → Clock → Numbering → ℕ → Sources → Surveyed
surveyed head clock connections index sources = record { head = head; clock = clock; connections = connections; index = index; sources = sources }

pub same_survey : (s : Surveying) (head : Head) (clock : Clock) (connections : Numbering) (index : ℕ) (sources : Sources) → s.head ≡ head → s.cursor.clock ≡ clock
    → numbering_of s.cursor.connections ≡ connections → s.cursor.index ≡ index → sources_in s.survey ≡ sources → surveyed_by s ≡ surveyed head clock connections index sources
same_survey s head clock connections index sources is_head is_clock are_connections is_index are_sources = rw (is_head, is_clock, are_connections, is_index, are_sources) refl
