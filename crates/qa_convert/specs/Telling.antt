-- What lines tell of packets, timers and keys: a reader of traces reads the text that was written.
use Rattle.std.specs.Prelude.{◌≡◌, ◌||◌, ◌&&◌, ℕ, Bool, false, List, [], ◌∷◌, ◌++◌, flat_map, map}
use Rattle.std.specs.Prelude.{Result, Ok, Option, Some, None, if◌then◌else◌, true}
use Rattle.std.specs.List.{AllByRecursion, fold}
use Rattle.std.specs.Option.{is_some}
use Rattle.qa_base.specs.declared.event.Ack.{Ack}
use Rattle.qa_base.specs.declared.event.Event.{Event}
use Rattle.qa_base.specs.declared.event.Event.TheVariants as event
use Rattle.qa_base.specs.declared.event.SentPacket.{SentPacket}
use Rattle.qa_base.specs.declared.per_space.PerSpace.{PerSpace}
use Rattle.qa_base.specs.declared.space.Permission.{Permission}
use Rattle.qa_base.specs.declared.space.Permission.TheVariants.{Window, Probe, Recovery}
use Rattle.qa_base.specs.declared.space.Space.{Space}
use Rattle.qa_base.specs.declared.space.Space.TheVariants.{Handshake}
use Rattle.qa_base.specs.declared.space.TimerKind.{TimerKind}
use Rattle.qa_base.specs.values.PerSpace.{of_space}
use Rattle.qa_format.specs.declared.fault.Fault.{Fault}
use Rattle.qa_format.specs.declared.line.Line.{Line}
use Rattle.qa_format.specs.declared.line.Line.TheVariants as line
use Rattle.qa_format.specs.format.Lines.{lines}
use Rattle.qa_format.specs.format.Reading.{reading}
use Rattle.qa_qlog.specs.Frames.{is_in_flight}
use Rattle.qa_convert.specs.Marks.{Marks, marks_in}
use Rattle.qa_convert.specs.Outputs.{has_guess, marks_of}
use Rattle.qa_convert.specs.declared.groups.About.{About}
use Rattle.qa_convert.specs.declared.groups.About.TheVariants as about
use Rattle.qa_convert.specs.declared.groups.Group.{Group}
use Rattle.qa_convert.specs.declared.groups.PacketAt.{PacketAt}
use Rattle.qa_convert.specs.declared.guess.Guess.{Guess}
use Rattle.qa_convert.specs.declared.packet.LoggedPacket.{LoggedPacket}
use Rattle.qa_convert.specs.declared.place.Place.{Place}
use Rattle.qa_convert.specs.declared.writing.Writing.{Writing}

-- of a packet that was sent; the line may say that it has a guess for the size, and that the leave
-- by which it was sent is one, if that is not the window
pub record SentLine : Type 0 where
  pub space : Space
  pub number : ℕ
  pub size : ℕ
  pub eliciting : Bool
  pub in_flight : Bool
  pub is_size_guessed : Bool
  pub says_leave : Bool

-- of an acknowledgment that came; the line may say that it is a guess that the window was not used
pub record AckLine : Type 0 where
  pub space : Space
  pub ranges : List (ℕ × ℕ)
  pub delay : ℕ
  pub says_limited : Bool

-- of packets that were declared lost
pub record LostLine : Type 0 where
  pub space : Space
  pub ranges : List (ℕ × ℕ)

-- of a timer that expired
pub record TimerLine : Type 0 where
  pub kind : TimerKind
  pub space : Space

-- the spaces whose keys lines say to have come, and to be gone: that the handshake is confirmed
-- says it of the Handshake keys, too (RFC 9001, section 4.9.2)
pub record KeysTold : Type 0 where
  pub came : List Space
  pub gone : List Space

-- of each kind, in the order of the lines
pub record Told : Type 0 where
  pub sent : List SentLine
  pub acks : List AckLine
  pub lost : List LostLine
  pub timers : List TimerLine
  pub keys : KeysTold

abbrev pub nothing : Told
nothing = record {
  sent = [];
  acks = [];
  lost = [];
  timers = [];
  keys = record { came = []; gone = [] };
}

-- a leave by a probe or by the entry into recovery is said to be a guess
abbrev pub says_leave : Permission → Marks → Bool
says_leave Window m = true
says_leave Probe m = m.probe
says_leave Recovery m = m.recovery

abbrev pub sent_line : Marks → SentPacket → SentLine
sent_line m p = record {
  space = p.space;
  number = p.number;
  size = p.size;
  eliciting = p.eliciting;
  in_flight = p.in_flight;
  is_size_guessed = m.size;
  says_leave = says_leave p.permission m;
}

-- that the window was not used is said to be a guess
abbrev pub says_limited : Bool → Marks → Bool
says_limited is_limited m = if is_limited then m.limited else true

abbrev pub ack_line : Marks → Ack → AckLine
ack_line m a = record {
  space = a.space;
  ranges = a.ranges;
  delay = a.delay;
  says_limited = says_limited a.app_limited m;
}

-- a line of a timer tells nothing if it says that this is a guess
abbrev pub timer_told : Marks → TimerKind → Space → List TimerLine
timer_told m kind space = if m.timer then [] else record { kind = kind; space = space } ∷ []

abbrev pub with_timer : Told → Marks → TimerKind → Space → Told
with_timer t m kind space = record t { timers = t.timers ++ timer_told m kind space }

-- nor does one of keys that are gone
abbrev pub gone_told : Bool → Space → List Space
gone_told is_guess space = if is_guess then [] else space ∷ []

abbrev pub and_gone : KeysTold → List Space → KeysTold
and_gone k spaces = record k { gone = k.gone ++ spaces }

abbrev pub with_gone : Told → List Space → Told
with_gone t spaces = record t { keys = and_gone t.keys spaces }

abbrev pub and_came : KeysTold → List Space → KeysTold
and_came k spaces = record k { came = k.came ++ spaces }

abbrev pub with_came : Told → List Space → Told
with_came t spaces = record t { keys = and_came t.keys spaces }

-- what is told once an event is, too, whose line says which guesses it has: other events tell
-- nothing of packets, timers and keys
abbrev pub with_event : Told → Marks → Event → Told
with_event t m (event.Sent p) = record t { sent = t.sent ++ sent_line m p ∷ [] }
with_event t m (event.Ack a) = record t { acks = t.acks ++ ack_line m a ∷ [] }
with_event t m (event.Lost time space ranges) =
    record t { lost = t.lost ++ record { space = space; ranges = ranges } ∷ [] }
with_event t m (event.Timer time kind space) = with_timer t m kind space
with_event t m (event.Keys time) = with_came t (Handshake ∷ [])
with_event t m (event.Discard time space) = with_gone t (gone_told m.discard space)
with_event t m (event.Confirmed time) = with_gone t (gone_told m.confirmed Handshake)
with_event t m _ = t

-- what the text of a line says, and which guesses it says that it has
abbrev pub heard : List ℕ → Result Line Fault × Marks
heard text = (reading text, marks_in text)

abbrev pub with_line : Told → Result Line Fault × Marks → Told
with_line t (Ok (line.Event e), m) = with_event t m e
with_line t _ = t

-- what a reader of traces reads in a text, line after line
unfoldable pub told : List ℕ → Told
told text = fold with_line nothing (map heard (lines text))

-- what was written tells
abbrev pub told_in : Writing → Told
told_in w = told w.output.text

-- the next line says that this was guessed
abbrev pub will_say : Writing → Guess → Bool
will_say w g = has_guess g w.output.guesses.items

-- what the next line says
abbrev pub next_marks : Writing → Marks
next_marks w = marks_of w.output.guesses.items

-- ---- keys

-- where the log told that the keys of each space are gone, if it did
abbrev pub Retired : Type 0
Retired = PerSpace (Option Place)

-- what a log told of keys: whether those of the Handshake space came, and which are gone
pub record KnownKeys : Type 0 where
  pub came : Bool
  pub retired : Retired

-- lines may say that keys came
abbrev pub HaveCome : KnownKeys → List Space → Type 0
HaveCome known spaces = AllByRecursion (λ s. known.came ≡ true) spaces

-- lines may say that the keys of these spaces are gone
abbrev pub AreRetired : Retired → List Space → Type 0
AreRetired retired spaces = AllByRecursion (λ s. is_some (of_space s retired) ≡ true) spaces

-- ---- packets that were sent

-- the same, and these packets
abbrev pub with_sent : Told → List SentLine → Told
with_sent t ls = record t { sent = t.sent ++ ls }

-- the packets that have a size: the first reading refuses a log that has others
abbrev pub with_size : PacketAt → Option ℕ → List LoggedPacket
with_size p None = []
with_size p (Some size) = p.packet ∷ []

abbrev pub sized : List PacketAt → List LoggedPacket
sized [] = []
sized (p ∷ ps) = with_size p p.packet.size ++ sized ps

-- the growth of the bytes in flight may show another size than the log's
abbrev pub may_settle : Bool → Bool → LoggedPacket → Bool
may_settle settles by_growth p = settles && (by_growth || p.is_size_guessed)

-- a line says of a packet what the log says; where the growth of the bytes in flight may show
-- another size, the size and whether the packet is in flight may be others; a line with a size that
-- is a guess says so, unless all sizes are taken by that growth; each leave but that of the window
-- is said to be a guess, since no log tells of leaves
pub record IsLineOf (settles by_growth : Bool) (p : LoggedPacket) (l : SentLine) : Type 0 where
  pub space : l.space ≡ p.space
  pub number : l.number ≡ p.number
  pub eliciting : l.eliciting ≡ p.content.is_eliciting
  pub size : may_settle settles by_growth p ≡ false → Some l.size ≡ p.size
  pub in_flight : may_settle settles by_growth p ≡ false → l.in_flight ≡ is_in_flight p.content
  pub guess : by_growth ≡ false → p.is_size_guessed ≡ true → Some l.size ≡ p.size
      → l.is_size_guessed ≡ true
  pub leave : l.says_leave ≡ true

-- the lines are those of the packets, one for one and in their order
abbrev pub AreLinesOf : Bool → Bool → List LoggedPacket → List SentLine → Type 0
AreLinesOf settles by_growth [] ls = ls ≡ []
AreLinesOf settles by_growth (p ∷ ps) [] = ⊥
AreLinesOf settles by_growth (p ∷ ps) (l ∷ ls) =
    IsLineOf settles by_growth p l × AreLinesOf settles by_growth ps ls

-- packets were sent, and the lines of them were written, and perhaps that keys are gone, of which
-- the log told; and none of acknowledgments, losses and timers
pub record Sends (settles by_growth : Bool) (retired : Retired) (ps : List PacketAt)
    (before after : Told) : Type 0 where
  pub lines : List SentLine
  pub are : AreLinesOf settles by_growth (sized ps) lines
  pub spaces : List Space
  pub gone : AreRetired retired spaces
  pub told : after ≡ with_gone (with_sent before lines) spaces

-- ---- groups

-- what the lines of a group say
abbrev pub Writes : Bool → Bool → Retired → About → Told → Told → Type 0
Writes settles by_growth retired (about.Sent ps) before after =
    Sends settles by_growth retired ps.items before after
Writes settles by_growth retired _ before after = after.sent ≡ before.sent

-- the packets that were sent, in groups
abbrev pub sent_in : About → List PacketAt
sent_in (about.Sent ps) = ps.items
sent_in _ = []

abbrev pub sent_of : List Group → List PacketAt
sent_of gs = flat_map (λ g. sent_in g.about) gs
