-- What a refusal may rest on besides the sender: guesses, lines that the log lost, and what the
-- converter of a log says of it.
use Rattle.std.specs.Prelude.{◌≡◌, ℕ, Bool, true, false, codes, find, is_some, reverse, List, []}
use Rattle.std.specs.Prelude.{◌++◌, Option, Some, None, option_map, if◌then◌else◌}
use Rattle.qa_base.specs.declared.event.Event.{Event}
use Rattle.qa_base.specs.declared.rule.Field.TheVariants as field
use Rattle.qa_base.specs.declared.rule.Rule.{Rule}
use Rattle.qa_base.specs.declared.rule.Rule.TheVariants as rule
use Rattle.qa_base.specs.declared.space.Space.{Space}
use Rattle.qa_base.specs.machine.Packets.{history_of}
use Rattle.qa_base.specs.declared.event.Event.TheVariants.{Sent}
use Rattle.qa_base.specs.declared.event.SentPacket.{SentPacket}
use Rattle.qa_base.specs.declared.per_space.PerSpace.{PerSpace}
use Rattle.qa_base.specs.values.PerSpace.{of_space, with_space}
use Rattle.qa_format.specs.declared.line.Line.{Line}
use Rattle.qa_format.specs.declared.line.Line.TheVariants as line
use Rattle.qa_format.specs.format.Reading.{reading}
use Rattle.qa_format.specs.verdicts.Verdict.{events_in, header_said}
use Rattle.qa_why.specs.caveats.Guesses.{AreNoted, guessed_of, guesses, guesses_before}
use Rattle.qa_why.specs.declared.caveats.guesses.Guessed.{Guessed}
use Rattle.qa_why.specs.caveats.Missing.{all_missing, missing, missing_texts, with_number}
use Rattle.qa_why.specs.declared.caveats.missing.Missing.{Missing}
use Rattle.qa_why.specs.caveats.Remarks.{remarks_at}
use Rattle.qa_why.specs.declared.caveats.caveats.Caveats.{Caveats}

-- the history of the lines
abbrev pub history_in : List (List ℕ) → List Event
history_in ls = history_of (events_in reading ls)

-- the line of the header
abbrev pub header_line : List (List ℕ) → Option (List ℕ)
header_line ls = find (λ l. is_some (header_said (reading l))) (reverse ls)

-- ---- in a text

-- a lost line may be why this rule is broken: packets are not known, or their bytes are
abbrev pub may_lack_lines : Rule → Bool
may_lack_lines rule.LossOwed = true
may_lack_lines rule.LossSet = true
may_lack_lines rule.AckUnsent = true
may_lack_lines (rule.Metric field.BytesInFlight) = true
may_lack_lines _ = false

abbrev pub lost_lines : Rule → List Event → List ℕ
lost_lines r h = if may_lack_lines r then all_missing h else []

-- the same by what was noted of each space
abbrev pub lost_by : Rule → PerSpace Missing → List ℕ
lost_by r m = if may_lack_lines r then missing_texts m else []

-- what the converter says of the whole log, at the key `x_note` of the header
abbrev pub note_text : Option (List ℕ) → List ℕ
note_text None = []
note_text (Some l) = remarks_at (codes "  the converter says: ") (codes "x_note") l

-- of line n, which breaks the rule behind these lines
unfoldable pub caveats : List (List ℕ) → ℕ → Rule → List ℕ → List ℕ
caveats ls n r l =
    guesses_before n l (guesses ls) ++ lost_lines r (history_in ls) ++ note_text (header_line ls)

-- how many lines were guessed
abbrev pub guessed_in : List (List ℕ) → Guessed
guessed_in ls = guessed_of (guesses ls)

-- ---- what is kept of them while a trace is judged

-- with a packet more
abbrev pub with_packet : PerSpace Missing → SentPacket → PerSpace Missing
with_packet missing packet =
    with_space packet.space missing
    (with_number (of_space packet.space missing) packet.number)

-- behind a line that says this
abbrev pub missing_behind : PerSpace Missing → Line → PerSpace Missing
missing_behind missing (line.Event (Sent packet)) = with_packet missing packet
missing_behind missing said = missing

abbrev pub header_behind : Option (List ℕ) → List ℕ → Line → Option (List ℕ)
header_behind header l (line.Header c) = Some l
header_behind header l said = header

-- what these lines have was noted
abbrev pub AreCaveats : Caveats → List (List ℕ) → Type 0
AreCaveats noted ls =
    AreNoted noted.guesses (guesses ls)
    × ((s : Space) → of_space s noted.missing ≡ missing (history_in ls) s)
    × (option_map (λ bytes. bytes.items) noted.header ≡ header_line ls)
