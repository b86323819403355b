-- Events in groups: what the groups say, one after another, is what the events said, in their
-- order, up to the packet that closes the connection.
use Rattle.std.specs.Prelude.{◌≡◌, ◌⊎◌, ◌++◌, ◌&&◌, ◌||◌, Bool, true, false, List, [], ◌∷◌}
use Rattle.std.specs.Prelude.{if◌then◌else◌, flat_map, map, ⊤}
use Rattle.std.specs.List.{AllByRecursion, list_all, list_any}
use Rattle.qa_convert.specs.declared.event.LoggedEvent.{LoggedEvent}
use Rattle.qa_convert.specs.declared.event.Said.{Said}
use Rattle.qa_convert.specs.declared.event.Said.TheVariants as said
use Rattle.qa_convert.specs.declared.groups.About.{About}
use Rattle.qa_convert.specs.declared.groups.About.TheVariants as about
use Rattle.qa_convert.specs.declared.groups.Group.{Group}
use Rattle.qa_convert.specs.declared.groups.LostAt.{LostAt}
use Rattle.qa_convert.specs.declared.groups.PacketAt.{PacketAt}

-- ---- the events of groups

abbrev pub sent : PacketAt → LoggedEvent
sent p = record { at = p.at; said = said.Sent p.packet }

abbrev pub received : PacketAt → LoggedEvent
received p = record { at = p.at; said = said.Received p.packet }

abbrev pub lost : LostAt → LoggedEvent
lost l = record { at = l.at; said = said.Lost l.lost }

-- what a group is about: losses are in front of the packet that came
abbrev pub events_about : About → List LoggedEvent
events_about (about.Sent ps) = map sent ps.items
events_about (about.Received p ls) = map lost ls.items ++ received p ∷ []
events_about (about.Lost ls) = map lost ls.items
events_about (about.Expired at timer) = record { at = at; said = said.Expired timer } ∷ []
events_about (about.Other e) = e ∷ []

abbrev pub is_of_sent : About → Bool
is_of_sent (about.Sent ps) = true
is_of_sent _ = false

-- the events of a group, in their order: in some dialects a report is in front of its packet
abbrev pub events_of : Bool → Group → List LoggedEvent
events_of reports_first g =
    if reports_first && is_of_sent g.about then g.beside.items ++ events_about g.about
    else events_about g.about ++ g.beside.items

abbrev pub events : Bool → List Group → List LoggedEvent
events reports_first gs = flat_map (events_of reports_first) gs

-- ---- each event is in its place in a group

abbrev pub is_report : Said → Bool
is_report (said.Report r) = true
is_report _ = false

-- what may be beside a packet or a timer
abbrev pub is_beside : Said → Bool
is_beside (said.Report r) = true
is_beside said.UnreadReport = true
is_beside (said.State limited) = true
is_beside said.TimerSet = true
is_beside (said.Lost l) = true
is_beside said.OtherLost = true
is_beside _ = false

-- no packet of a space, no loss of one, and no timer that expired
abbrev pub is_other : Said → Bool
is_other (said.Sent p) = false
is_other (said.Received p) = false
is_other (said.Lost l) = false
is_other (said.Expired timer) = false
is_other _ = true

-- whether a list has an element
abbrev pub has_some : {A : Type 0} → List A → Bool
has_some [] = false
has_some (x ∷ xs) = true

-- a group is about one event at least
abbrev pub is_in_place : About → Bool
is_in_place (about.Sent ps) = has_some ps.items
is_in_place (about.Lost ls) = has_some ls.items
is_in_place (about.Other e) = is_other e.said
is_in_place _ = true

pub record InPlace (what : About) (more : List LoggedEvent) : Type 0 where
  pub about : is_in_place what ≡ true
  pub beside : list_all (λ (e : LoggedEvent). is_beside e.said) more ≡ true

abbrev pub IsGroup : Group → Type 0
IsGroup g = InPlace g.about g.beside.items

-- ---- the packet that closes the connection

abbrev pub sends_close : Said → Bool
sends_close (said.Sent p) = p.content.closes
sends_close _ = false

abbrev pub brings_close : Said → Bool
brings_close (said.Received p) = p.content.closes
brings_close _ = false

abbrev pub is_by_sender : About → Bool
is_by_sender (about.Sent ps) = list_any (λ (p : PacketAt). p.packet.content.closes) ps.items
is_by_sender _ = false

abbrev pub is_by_peer : About → Bool
is_by_peer (about.Received p ls) = p.packet.content.closes
is_by_peer _ = false

abbrev pub closes : Group → Bool
closes g = is_by_sender g.about || is_by_peer g.about

-- events from the packet on by which the sender closes, or from the report in front of it on
abbrev pub begin_closing : Bool → List LoggedEvent → Bool
begin_closing reports_first [] = false
begin_closing reports_first (e ∷ []) = sends_close e.said
begin_closing reports_first (e ∷ f ∷ es) =
    sends_close e.said || (reports_first && is_report e.said && sends_close f.said)

-- events up to a packet by which the peer closes, with what is beside it
pub record EndWithClose (es : List LoggedEvent) : Type 0 where
  pub front : List LoggedEvent
  pub packet : LoggedEvent
  pub beside : List LoggedEvent
  pub are : es ≡ front ++ packet ∷ beside
  pub brings : brings_close packet.said ≡ true
  pub fit : list_all (λ (e : LoggedEvent). is_beside e.said) beside ≡ true

-- of events only these are kept, since then the connection closes
pub record UpToClose (reports_first : Bool) (es kept : List LoggedEvent) : Type 0 where
  pub gone : List LoggedEvent
  pub are : es ≡ kept ++ gone
  pub close : (begin_closing reports_first gone ≡ true) ⊎ EndWithClose kept

-- ---- what is handed out and what is held

-- the events that are held, and whether the connection has closed: then no more are kept
pub record Held : Type 0 where
  pub events : List LoggedEvent
  pub is_closed : Bool
  pub reports_first : Bool

abbrev pub at_start : Bool → Held
at_start reports_first = record { events = []; is_closed = false; reports_first = reports_first }

-- what is kept of events and more of them
abbrev pub Keeps : Bool → Bool → Bool → List LoggedEvent → List LoggedEvent → List LoggedEvent
    → Type 0
Keeps reports_first false false es more kept = kept ≡ es ++ more
Keeps reports_first false true es more kept = UpToClose reports_first (es ++ more) kept
Keeps reports_first true closed es more kept = (closed ≡ true) × (kept ≡ es)

-- more events come, and groups are handed out: none that closes, since more may be said beside it
pub record Gathers (old : Held) (more : List LoggedEvent) (new : Held) (out out' : List Group)
    : Type 0 where
  pub ended : List Group
  pub handed : out' ≡ out ++ ended
  pub groups : AllByRecursion IsGroup ended
  pub unclosed : AllByRecursion (λ (g : Group). closes g ≡ false) ended
  pub order : new.reports_first ≡ old.reports_first
  pub kept : Keeps old.reports_first old.is_closed new.is_closed old.events more
      (events old.reports_first ended ++ new.events)

-- ---- the end of a log

-- what is sure of the last group of a log that is torn off: packets that were sent
abbrev pub sure : Group → List LoggedEvent
sure g = if is_of_sent g.about then events_about g.about else []

-- a torn log leaves out what is not sure of the last group, which has an event at least
pub record LeaveEnd (reports_first : Bool) (es kept : List LoggedEvent) : Type 0 where
  pub front : List LoggedEvent
  pub last : Group
  pub is : IsGroup last
  pub are : es ≡ front ++ events_of reports_first last
  pub left : kept ≡ front ++ sure last

-- what is kept of the events that are held when the log ends
abbrev pub KeepsAtEnd : Bool → Bool → Bool → List LoggedEvent → List LoggedEvent → Type 0
KeepsAtEnd reports_first true is_torn es kept = kept ≡ es
KeepsAtEnd reports_first false false es kept = (kept ≡ es) ⊎ UpToClose reports_first es kept
KeepsAtEnd reports_first false true es kept =
    ((es ≡ []) × (kept ≡ [])) ⊎ (LeaveEnd reports_first es kept ⊎ UpToClose reports_first es kept)

-- no group closes but the last, and that one by a packet of the peer
abbrev pub CloseLast : List Group → Type 0
CloseLast [] = ⊤
CloseLast (g ∷ []) = is_by_sender g.about ≡ false
CloseLast (g ∷ h ∷ gs) = (closes g ≡ false) × CloseLast (h ∷ gs)

-- all that is held is handed out, up to the packet that closes the connection
pub record Ends (is_torn : Bool) (old : Held) (out out' : List Group) : Type 0 where
  pub ended : List Group
  pub handed : out' ≡ out ++ ended
  pub groups : AllByRecursion IsGroup ended
  pub closing : CloseLast ended
  pub kept : KeepsAtEnd old.reports_first old.is_closed is_torn old.events
      (events old.reports_first ended)
