-- The text of a warning.
use Rattle.std.specs.Prelude.{ℕ, codes, map, List, ◌++◌, Option, Some, None, if◌then◌else◌}
use Rattle.qa_base.specs.declared.event.Event.{Event}
use Rattle.qa_base.specs.declared.header.Version.{Version}
use Rattle.qa_base.specs.declared.header.Version.TheVariants.{Three}
use Rattle.qa_base.specs.declared.key.Key.{Key}
use Rattle.qa_base.specs.declared.line_kind.LineKind.{LineKind}
use Rattle.qa_base.specs.declared.line_kind.LineKind.TheVariants as kinds
use Rattle.qa_base.specs.values.Names.{key_name, version_number}
use Rattle.qa_check.specs.names.Names.{shown_name}
use Rattle.qa_why.specs.suggest.KeyTables.{is_key}
use Rattle.qa_why.specs.suggest.Near.{near}
use Rattle.qa_why_command.specs.warnings.Found.{Concern, Found, HeaderKey, LargePacket, MetricsKey}
use Rattle.qa_explain.specs.text.Pieces.{named, numbered}
use Rattle.qa_explain.specs.text.Subjects.{subject}
use Rattle.qa_why.specs.Lines.{first_bytes, printable}

-- the name of the file, and the line
unfoldable pub head_tail : ℕ → List ℕ
head_tail n = numbered (codes ":") n ++ codes ": warning: "

unfoldable pub head : List ℕ → ℕ → List ℕ
head name n = shown_name name ++ head_tail n

-- ---- of a key

-- the most bytes of a key that are shown
abbrev pub shown_of_key : ℕ
shown_of_key = 40

-- some words and then a key
unfoldable pub shown_key : List ℕ → List ℕ → List ℕ
shown_key words k = words ++ map printable (first_bytes shown_of_key k)

-- the key that is meant, if one is near
unfoldable pub question : Option Key → List ℕ
question None = codes "\n"
question (Some k) = named (codes "; is it ") (key_name k) ++ codes "?\n"

-- that the key does nothing in this version, which a later one has
unfoldable pub not_yet : Version → List ℕ
not_yet v = numbered (codes ", which does nothing in version ") (version_number v) ++ codes "\n"

-- that the key does nothing
unfoldable pub nothing : Version → LineKind → List ℕ → List ℕ
nothing v kind k = codes ", which does nothing" ++ question (near v kind k)

-- what the key of a line does: version 3 has each key that any version has
unfoldable pub effect : Version → LineKind → List ℕ → List ℕ
effect v kind k = if is_key Three kind k then not_yet v else nothing v kind k

-- ---- of a packet

unfoldable pub packet_text : Event → ℕ → ℕ → List ℕ
packet_text e size most =
    subject e ++ numbered (codes " has ") size
    ++ numbered (codes " bytes, more than max_datagram_size ") most ++ codes "\n"

-- ---- a warning

abbrev pub sentence : Concern → List ℕ
sentence (HeaderKey v k) = shown_key (codes "the header has a key ") k ++ effect v kinds.Header k
sentence (MetricsKey v k) =
    shown_key (codes "a metrics line has a key ") k ++ effect v kinds.Metrics k
sentence (LargePacket e size most) = packet_text e size most

-- the line of text that warns of this
unfoldable pub warning_text : List ℕ → Found → List ℕ
warning_text name f = head name f.line ++ sentence f.concern
