-- By what lines are written. But for what the log tells of keys and of the state of congestion
-- control, it stays the same for a whole log.
use Rattle.std.specs.Prelude.{Bool, List, [], ◌∷◌}
use Rattle.qa_base.specs.declared.space.Space.{Space}
use Rattle.qa_base.specs.declared.space.Space.TheVariants.{Handshake}
use Rattle.qa_base.specs.values.Events.{is_space}
use Rattle.qa_convert.specs.AckDelays.{decoding_of}
use Rattle.qa_convert.specs.KeyLines.{keys_after, keys_by, keys_in, known_by, with_come}
use Rattle.qa_convert.specs.States.{decoding_after, stated, stated_in}
use Rattle.qa_convert.specs.Telling.{KnownKeys}
use Rattle.qa_convert.specs.declared.conversion.Conversion.{Conversion}
use Rattle.qa_convert.specs.declared.decoding.Decoding.{Decoding}
use Rattle.qa_convert.specs.declared.event.LoggedEvent.{LoggedEvent}
use Rattle.qa_convert.specs.declared.groups.About.{About}
use Rattle.qa_convert.specs.declared.groups.Group.{Group}

-- how the delays of acknowledgments are decoded; whether the growth of the bytes in flight may show
-- other sizes than the log's; whether it may of all packets, or only of those whose sizes are
-- guessed; and what the log told of keys
pub record Rules : Type 0 where
  pub decoding : Decoding
  pub settles : Bool
  pub by_growth : Bool
  pub keys : KnownKeys

abbrev pub rules_of : Conversion → Rules
rules_of c = record {
  decoding = decoding_of c;
  settles = c.known.settles_sizes;
  by_growth = c.terms.dialect.sizes_by_growth;
  keys = known_by c.keys;
}

-- behind what is said beside a packet
abbrev pub rules_stated : List LoggedEvent → Rules → Rules
rules_stated es r = record r { decoding = stated es r.decoding }

-- behind a packet that comes
abbrev pub rules_with : Space → Rules → Rules
rules_with space r = record r { keys = with_come (is_space Handshake space) r.keys }

-- behind an event that is of no group
abbrev pub rules_by : LoggedEvent → Rules → Rules
rules_by e r = record r {
  decoding = stated (e ∷ []) r.decoding;
  keys = keys_by e.at.place e.said r.keys;
}

-- behind a group
abbrev pub rules_behind : About → List LoggedEvent → Rules → Rules
rules_behind what beside r = record r {
  decoding = stated_in what beside r.decoding;
  keys = keys_in what r.keys;
}

-- behind groups
abbrev pub rules_after : List Group → Rules → Rules
rules_after gs r = record r {
  decoding = decoding_after gs r.decoding;
  keys = keys_after gs r.keys;
}
