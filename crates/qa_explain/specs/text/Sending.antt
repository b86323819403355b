-- What was sent, and leave to send.
use Rattle.std.specs.Prelude.{ℕ, ◌+◌, Bool, true, false, codes, List, [], ◌++◌, Option, Some, None}
use Rattle.qa_base.specs.declared.event.Event.{Event}
use Rattle.qa_base.specs.declared.event.Event.TheVariants.{Sent, Ack}
use Rattle.qa_base.specs.declared.space.Space.{Space}
use Rattle.qa_base.specs.values.Names.{space_name}
use Rattle.qa_explain.specs.text.Pieces.{named, numbered}

-- the bytes of the packet that the event sends
abbrev pub size_of : Event → ℕ
size_of (Sent packet) = packet.size
size_of _ = 0

-- the space of a packet or an acknowledgment
abbrev pub space_of : Event → List ℕ
space_of (Sent packet) = space_name packet.space
space_of (Ack ack) = space_name ack.space
space_of _ = []

-- V6
abbrev pub greatest_text : Event → Option ℕ → List ℕ
greatest_text e None = []
greatest_text e (Some n) =
    named (codes "  greatest sent: ") (space_of e) ++ numbered (codes " ") n ++ codes "\n"

-- V10
abbrev pub unsent_text : Event → Option ℕ → List ℕ
unsent_text e None = []
unsent_text e (Some n) =
    named (codes "  ") (space_of e) ++ numbered (codes " ") n ++ codes " was never sent\n"

-- V7
abbrev pub overshoot_text : Bool → List ℕ
overshoot_text true = codes ", which the last packet may overshoot\n"
overshoot_text false = codes "\n"

unfoldable pub window_line : ℕ → ℕ → ℕ → ℕ → Bool → List ℕ
window_line in_flight size sum window overshoot =
    numbered (codes "  in flight ") in_flight ++ numbered (codes " + ") size
    ++ numbered (codes " = ") sum ++ numbered (codes ", window ") window
    ++ overshoot_text overshoot

abbrev pub window_text : Event → ℕ → ℕ → Bool → List ℕ
window_text e in_flight window overshoot =
    window_line in_flight (size_of e) (in_flight + size_of e) window overshoot

-- V8
unfoldable pub allowance_line : ℕ → ℕ → ℕ → List ℕ
allowance_line allowance spent size =
    numbered (codes "  allowed ") allowance
    ++ numbered (codes " since the last probe timeout, spent ") spent
    ++ numbered (codes ", this packet ") size ++ codes "\n"

abbrev pub probe_text : Event → ℕ → Option ℕ → List ℕ
probe_text e allowance None = codes "  no probe timeout yet\n"
probe_text e allowance (Some spent) = allowance_line allowance spent (size_of e)

-- V9
unfoldable pub recovery_line : ℕ → List ℕ
recovery_line n =
    numbered (codes "  packets by leave of recovery since the last entry: ") n ++ codes "\n"

abbrev pub recovery_text : Option ℕ → List ℕ
recovery_text None = codes "  no entry into recovery yet\n"
recovery_text (Some n) = recovery_line n

-- V14
unfoldable pub due_probe_line : List ℕ → List ℕ
due_probe_line space =
    named (codes "  no ack-eliciting packet followed the probe timeout of ") space ++ codes "\n"

abbrev pub due_probe_text : Option Space → List ℕ
due_probe_text None = []
due_probe_text (Some s) = due_probe_line (space_name s)
