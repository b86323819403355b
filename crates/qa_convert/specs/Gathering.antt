-- The group that goes on, and what is held beside it.
use Rattle.std.specs.Prelude.{◌≡◌, ◌++◌, ◌&&◌, ◌||◌, Bool, true, false, List, [], ◌∷◌}
use Rattle.std.specs.Prelude.{Option, Some, None, IfSome, option_to_list}
use Rattle.std.specs.List.{list_any}
use Rattle.qa_convert.specs.Groups.{Gathers, Held, InPlace, IsGroup, UpToClose, events_about}
use Rattle.qa_convert.specs.Groups.{events_of, has_some, is_by_peer, is_by_sender, is_in_place}
use Rattle.qa_convert.specs.Groups.{is_of_sent, is_report}
use Rattle.qa_convert.specs.Orders.{is_lost, is_sent}
use Rattle.qa_convert.specs.declared.dialects.Dialect.{Dialect}
use Rattle.qa_convert.specs.declared.event.LoggedEvent.{LoggedEvent}
use Rattle.qa_convert.specs.declared.groups.About.{About}
use Rattle.qa_convert.specs.declared.groups.About.TheVariants as about
use Rattle.qa_convert.specs.declared.groups.Gathering.{Gathering}
use Rattle.qa_convert.specs.declared.groups.Group.{Group}
use Rattle.qa_convert.specs.declared.groups.Open.{Open}
use Rattle.qa_convert.specs.declared.groups.PacketAt.{PacketAt}
use Rattle.qa_convert.specs.declared.groups.Takes.{Takes}
use Rattle.qa_convert.specs.declared.groups.Takes.TheVariants as takes

abbrev pub is_of_lost : About → Bool
is_of_lost (about.Lost ls) = true
is_of_lost _ = false

-- a packet, perhaps with its report
abbrev pub is_single : List PacketAt → List LoggedEvent → Bool
is_single (p ∷ []) [] = true
is_single (p ∷ []) (r ∷ []) = is_report r.said
is_single _ _ = false

abbrev pub IsSingle : Bool → About → List LoggedEvent → Type 0
IsSingle true (about.Sent ps) beside = is_single ps.items beside ≡ true
IsSingle _ _ beside = Unit {0}

-- in the dialects that log a report in front of its packet, and losses in front of the packet that
-- came, a group of those takes nothing beside it
pub record Fits (reports_first losses_first : Bool) (about : About) (beside : List LoggedEvent)
    (taking : Takes) : Type 0 where
  pub single : IsSingle reports_first about beside
  pub nothing : ((reports_first && is_of_sent about) || (losses_first && is_of_lost about)) ≡ true
      → taking ≡ takes.Nothing
  pub none : (losses_first && is_of_lost about) ≡ true → beside ≡ []

abbrev pub IsOpen : Dialect → Open → Type 0
IsOpen d o =
    IsGroup o.group
    × Fits d.metrics_stand_before d.losses_stand_before o.group.about o.group.beside.items o.takes

-- an open group goes on with an event, or stays as it was and gives the event back
abbrev pub GoesOn : Dialect → Open → LoggedEvent → Open → Option LoggedEvent → Type 0
GoesOn d o e more None =
    IsOpen d more × (events_of d.metrics_stand_before more.group
    ≡ events_of d.metrics_stand_before o.group ++ e ∷ [])
GoesOn d o e same (Some event) = (same ≡ o) × (event ≡ e)

-- what a group is about that begins with an event
pub record BeginsWith (e : LoggedEvent) (about : About) : Type 0 where
  pub in_place : is_in_place about ≡ true
  pub events : events_about about ≡ e ∷ []
  pub sent : is_of_sent about ≡ is_sent e.said
  pub lost : is_of_lost about ≡ is_lost e.said
  pub single : IsSingle true about []

-- ---- all that is held

abbrev pub told_by : Bool → Option Group → List LoggedEvent
told_by reports_first None = []
told_by reports_first (Some g) = events_of reports_first g

abbrev pub told_open : Bool → Option Open → List LoggedEvent
told_open reports_first None = []
told_open reports_first (Some o) = events_of reports_first o.group

-- once the connection has closed, only the last group is kept
abbrev pub kept_events : Bool → Bool → Option Group → Option Open → Option LoggedEvent
    → List LoggedEvent
kept_events reports_first true last begun report = told_by reports_first last
kept_events reports_first false last begun report =
    (told_by reports_first last ++ told_open reports_first begun) ++ option_to_list report

abbrev pub held : Gathering → Held
held w = record {
  events = kept_events w.dialect.metrics_stand_before w.is_closed w.last w.open w.report;
  is_closed = w.is_closed;
  reports_first = w.dialect.metrics_stand_before;
}

-- the last group that ended: it closes only if the connection has closed, and by the peer
pub record HasEnded (is_closed : Bool) (what : About) (beside : List LoggedEvent) : Type 0 where
  pub place : InPlace what beside
  pub unsent : is_by_sender what ≡ false
  pub unclosed : is_closed ≡ false → is_by_peer what ≡ false

abbrev pub IsLast : Bool → Group → Type 0
IsLast is_closed g = HasEnded is_closed g.about g.beside.items

-- a report is held only in the dialects in which it may be of the packet after it
abbrev pub IsHeld : Dialect → LoggedEvent → Type 0
IsHeld d r = (d.metrics_stand_before ≡ true) × (is_report r.said ≡ true)

pub record Fit (d : Dialect) (is_closed : Bool) (last : Option Group) (begun : Option Open)
    (report : Option LoggedEvent) : Type 0 where
  pub last_is : IfSome last (IsLast is_closed)
  pub open_is : IfSome begun (IsOpen d)
  pub report_is : IfSome report (IsHeld d)
  pub closed : is_closed ≡ true → begun ≡ None

abbrev pub AreFit : Gathering → Type 0
AreFit w = Fit w.dialect w.is_closed w.last w.open w.report

-- more events came, and what is held then: no group is handed out but for one that comes after it
pub record Goes (w : Gathering) (more : List LoggedEvent) (v : Gathering) (out out' : List Group)
    : Type 0 where
  pub fit : AreFit v
  pub same : v.dialect ≡ w.dialect
  pub none : v.last ≡ None → (w.last ≡ None) × (out' ≡ out)
  pub gathers : Gathers (held w) more (held v) out out'

-- ---- a group in which a packet closes the connection

abbrev pub begins_with_close : List PacketAt → Bool
begins_with_close [] = true
begins_with_close (p ∷ ps) = p.packet.content.closes

-- packets up to the first that closes
pub record Cut (ps kept : List PacketAt) : Type 0 where
  pub rest : List PacketAt
  pub are : ps ≡ kept ++ rest
  pub unclosed : list_any (λ (p : PacketAt). p.packet.content.closes) kept ≡ false
  pub close : begins_with_close rest ≡ true

abbrev pub IsOfPackets : List PacketAt → About → Type 0
IsOfPackets packets (about.Sent ps) = ps.items ≡ packets
IsOfPackets packets _ = ⊥

-- a group of packets that were sent, and of nothing beside them, if there are packets
abbrev pub IsOfKept : List PacketAt → Option Group → Type 0
IsOfKept packets None = packets ≡ []
IsOfKept packets (Some g) =
    IsOfPackets packets g.about × (g.beside.items ≡ []) × (has_some packets ≡ true)

pub record IsCut (ps : List PacketAt) (left : Option Group) : Type 0 where
  pub kept : List PacketAt
  pub cut : Cut ps kept
  pub group : IsOfKept kept left

-- what is left of a group that closes
pub record IsLeft (reports_first : Bool) (es : List LoggedEvent) (left : Option Group)
    : Type 0 where
  pub last : IfSome left (IsLast true)
  pub kept : UpToClose reports_first es (told_by reports_first left)

-- ---- the last group

abbrev pub IsSure : Group → Option Group → Type 0
IsSure g None = is_of_sent g.about ≡ false
IsSure g (Some k) = (is_of_sent g.about ≡ true) × (k.about ≡ g.about) × (k.beside.items ≡ [])

-- what a torn log leaves of the last group
abbrev pub Leaves : Bool → Bool → Option Group → Option Group → Type 0
Leaves false is_closed last left = left ≡ last
Leaves true true last left = left ≡ last
Leaves true false None left = left ≡ None
Leaves true false (Some g) left = IsSure g left

pub record HandsLast (is_torn is_closed : Bool) (last : Option Group) (out out' : List Group)
    : Type 0 where
  pub left : Option Group
  pub is : Leaves is_torn is_closed last left
  pub handed : out' ≡ out ++ option_to_list left
