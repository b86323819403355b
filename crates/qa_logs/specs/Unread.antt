-- Texts that are not JSON: what is done with a log then (RFC 7464, section 2.3).
use Rattle.std.specs.Prelude.{◌≡◌, ◌⊎◌, ℕ, List, Option, Some, true, false, codes, Decides}
use Rattle.std.specs.Prelude.{IsUtf8, None, ⊤}
use Rattle.json.specs.Json.{document}
use Rattle.qa_convert.specs.declared.place.Place.{Place}
use Rattle.qa_convert.specs.declared.place.Place.TheVariants as place
use Rattle.qa_logs.specs.Cutting.{Given}
use Rattle.qa_logs.specs.Files.{Has}
use Rattle.qa_logs.specs.declared.unread.Instead.{Instead}
use Rattle.qa_logs.specs.declared.unread.Instead.TheVariants.{Ends, Passes}
use Rattle.qa_logs.specs.declared.unread.TornAt.{TornAt}

-- a text is not JSON, which is UTF-8 (RFC 8259, section 8.1)
abbrev pub IsNotJson : List ℕ → Type 0
IsNotJson text = (IsUtf8 text → ⊥) ⊎ (document text ≡ None)

-- it names what decides what follows it
abbrev pub IsDecisive : List ℕ → Type 0
IsDecisive text = Has text (codes "packet") ⊎ Has text (codes "timer") ⊎ Has text (codes "key_")
    ⊎ Has text (codes "parameters_set")

-- it names a report
abbrev pub IsReport : List ℕ → Type 0
IsReport text = Has text (codes "metrics")

-- a log of many texts tells the line of a text, and one that is one object the byte
abbrev pub HasLine : Place → Type 0
HasLine (place.Line n) = ⊤
HasLine (place.Byte n) = ⊥

-- the log ends in front of a text that is torn off or decisive, and goes on behind any other
abbrev pub Does : Given → Option TornAt → Instead → Option TornAt → Type 0
Does t old Ends new = ((t.is_whole ≡ false) ⊎ IsDecisive t.bytes)
    × (new ≡ Some (record { place = t.place; is_broken = t.is_whole }))
Does t old (Passes is_report) new = (t.is_whole ≡ true) × (IsDecisive t.bytes → ⊥)
    × Decides is_report (IsReport t.bytes) × (new ≡ old)

-- what is done with such a text, and where the log ends before its file does, before and after it;
-- a log that is one object has none
abbrev pub DoneWith : Given → Option TornAt → Instead → Option TornAt → Type 0
DoneWith t old instead new = HasLine t.place × Does t old instead new
