-- Faults of records, from those of their parts.
use Rattle.std.proofs.Common.{◌≡◌, List, [], ◌∷◌, Option, Some, None, Result, Ok, Err, Bool, true, false, inl, inr, refl, sym, subst}
use Rattle.std.specs.Prelude.{IfErr, IsErrAnd, ℕ, if◌then◌else◌}
use Rattle.json.specs.Json.{Json, document}
use Rattle.qa_qlog.specs.Acks as acks
use Rattle.qa_qlog.specs.Losses as losses
use Rattle.qa_qlog.specs.Ranges.{GivesRanges}
use Rattle.qa_qlog.specs.Records.{data_of, event_of}
use Rattle.qa_qlog.specs.Secrets.{key_space}
use Rattle.qa_qlog.specs.Timers as timers
use Rattle.qa_qlog.specs.declared.acks.NoRanges.{NoRanges}
use Rattle.qa_qlog.specs.declared.acks.NoRanges.TheVariants as no_ranges
use Rattle.qa_qlog.specs.declared.heads.Head.{Head}
use Rattle.qa_qlog.specs.declared.keys.NoValue.{NoValue}
use Rattle.qa_qlog.specs.declared.names.EventName.{EventName}
use Rattle.qa_qlog.specs.declared.names.EventName.TheVariants as name
use Rattle.qa_qlog.specs.declared.records.EventHead.{EventHead}
use Rattle.qa_qlog.specs.declared.times.Unit.{Unit}
use Rattle.qa_convert.specs.Connections.{Numbering}
use Rattle.qa_convert.specs.Faults.{HasNoSize, IsAckFault, IsFault, IsFaultOf, IsOneFault, IsRecordFault, IsTextFault, IsTimeFault, IsUnsized, OfEvent, OfRecord, OfValue, OrMemory, of_event, of_ranges}
use Rattle.qa_convert.specs.Reading.{AreLosses, SaysLoss, chosen_only, name_of}
use Rattle.qa_convert.specs.Said.{Says, SaysLost}
use Rattle.qa_convert.specs.declared.converting.NoMore.{NoMore}
use Rattle.qa_convert.specs.declared.converting.NoMore.TheVariants as more
use Rattle.qa_convert.specs.declared.event.Expiry.{Expiry}
use Rattle.qa_convert.specs.declared.packet.LoggedPacket.{LoggedPacket}
use Rattle.qa_convert.specs.declared.event.Said.{Said}
use Rattle.qa_convert.specs.declared.event.Said.TheVariants as said
use Rattle.qa_convert.specs.declared.packet.NoEvent.{NoEvent}
use Rattle.qa_convert.specs.declared.packet.NoEvent.TheVariants as event
use Rattle.qa_convert.specs.declared.surveying.NoRecord.{NoRecord}
use Rattle.qa_convert.specs.declared.surveying.NoRecord.TheVariants as no_record

-- what a `?` returns
pub if_err : {A E : Type 0} (P : E → Type 0) (r : Result A E) (e : E) → IsErrAnd r (λ x. x ≡ e) → P e → IfErr r P
if_err P (Ok a) e is p = absurd is
if_err P (Err x) e is p = rw is p

-- ---- by kinds

pub of_value_weaker : (P Q : NoValue → Type 0) (e : NoEvent) → ((v : NoValue) → P v → Q v) → OfValue P e → OfValue Q e
of_value_weaker P Q (event.Unread v) f is = f v is
of_value_weaker P Q event.NoPacketType f is = absurd is
of_value_weaker P Q event.OutOfMemory f is = tt

pub or_memory : (P : NoEvent → Type 0) (e : NoEvent) → P e → OrMemory P e
or_memory P (event.Unread v) is = is
or_memory P event.NoPacketType is = is
or_memory P event.OutOfMemory is = tt

pub or_memory_weaker : (P Q : NoEvent → Type 0) (e : NoEvent) → ((e : NoEvent) → P e → Q e) → OrMemory P e → OrMemory Q e
or_memory_weaker P Q (event.Unread v) f is = f (event.Unread v) is
or_memory_weaker P Q event.NoPacketType f is = f event.NoPacketType is
or_memory_weaker P Q event.OutOfMemory f is = tt

-- a fault of an event is that of its record
pub of_event_fault : (P Q : NoEvent → Type 0) (e : NoEvent) → ((e : NoEvent) → P e → Q e) → OrMemory P e → OfEvent Q (of_event e)
of_event_fault P Q (event.Unread v) f is = f (event.Unread v) is
of_event_fault P Q event.NoPacketType f is = f event.NoPacketType is
of_event_fault P Q event.OutOfMemory f is = tt

pub of_event_weaker : (P Q : NoEvent → Type 0) (e : NoRecord) → ((e : NoEvent) → P e → Q e) → OfEvent P e → OfEvent Q e
of_event_weaker P Q (no_record.Event e) f is = f e is
of_event_weaker P Q no_record.OutOfMemory f is = tt
of_event_weaker P Q no_record.NotJson f is = absurd is
of_event_weaker P Q (no_record.Time t) f is = absurd is

pub of_event_any : (P : Type 0) (e : NoEvent) → P → OfEvent (λ _. P) (of_event e)
of_event_any P (event.Unread v) is = is
of_event_any P event.NoPacketType is = is
of_event_any P event.OutOfMemory is = tt

pub of_record_weaker : (P Q : NoRecord → Type 0) (e : NoMore) → ((e : NoRecord) → P e → Q e) → OfRecord P e → OfRecord Q e
of_record_weaker P Q (more.Record e) f is = f e is
of_record_weaker P Q (more.Line e) f is = tt

-- ---- packets

pub ranges_fault : (unit : Unit) (j : Json) (e : NoRanges) → GivesRanges (Err e) (acks.ranges j) → OfValue (IsAckFault unit j) (of_ranges e)
ranges_fault unit j (no_ranges.Unread v) is = inl is
ranges_fault unit j no_ranges.OutOfMemory is = tt

-- what was lost is no packet that was sent
pub lost_is_sized : (h d : Option Json) (b : Bool) (s : Said) → SaysLost h d b s → IsUnsized s → ⊥
lost_is_sized h d b (said.Sent p) is unsized = absurd is
lost_is_sized h d b said.OtherSent is unsized = unsized
lost_is_sized h d b (said.Received p) is unsized = unsized
lost_is_sized h d b (said.OtherReceived r) is unsized = unsized
lost_is_sized h d b (said.Lost p) is unsized = unsized
lost_is_sized h d b said.OtherLost is unsized = unsized
lost_is_sized h d b (said.Report r) is unsized = unsized
lost_is_sized h d b said.UnreadReport is unsized = unsized
lost_is_sized h d b (said.State l) is unsized = unsized
lost_is_sized h d b said.TimerSet is unsized = unsized
lost_is_sized h d b (said.Expired e) is unsized = unsized
lost_is_sized h d b (said.KeysCame k) is unsized = unsized
lost_is_sized h d b (said.KeysGone k) is unsized = unsized
lost_is_sized h d b (said.OfPeer p) is unsized = unsized
lost_is_sized h d b said.OwnParameters is unsized = unsized
lost_is_sized h d b (said.Recovery p) is unsized = unsized

pub first_loss : (hs : List Json) (s : Said) (ss : List Said) → AreLosses hs (s ∷ ss) → (h : Json) × SaysLoss h s
first_loss [] s ss are = absurd (let no : (s ∷ ss) ≡ [] = are in cc)
first_loss (h ∷ hs) s ss are = (h, are.0)

pub other_losses : (hs : List Json) (s : Said) (ss : List Said) → AreLosses hs (s ∷ ss) → (rest : List Json) × AreLosses rest ss
other_losses [] s ss are = absurd (let no : (s ∷ ss) ≡ [] = are in cc)
other_losses (h ∷ hs) s ss are = (hs, are.1)

-- ---- events

pub one_fault : (unit : Unit) (n : EventName) (d : Option Json) (e : NoEvent) → (n ≡ name.PacketsLost → ⊥) → IsOneFault unit n d e → IsFault unit n d e
one_fault unit name.PacketSent d e other is = is
one_fault unit name.PacketReceived d e other is = is
one_fault unit name.PacketLost d e other is = is
one_fault unit name.PacketsLost d e other is = absurd (other refl)
one_fault unit name.MetricsUpdated d e other is = is
one_fault unit name.RecoveryParametersSet d e other is = is
one_fault unit name.CongestionStateUpdated d e other is = is
one_fault unit name.LossTimerUpdated d e other is = is
one_fault unit name.KeyUpdated d e other is = is
one_fault unit name.KeyRetired d e other is = is
one_fault unit name.KeyDiscarded d e other is = is
one_fault unit name.ParametersSet d e other is = is

-- a timer is no packet
is_timer : (b : Bool) (x : Expiry) (p : LoggedPacket) → said.Sent p ≡ (if b then said.Expired x else said.TimerSet) → ⊥
is_timer true x p is = let no : said.Sent p ≡ said.Expired x = is in cc
is_timer false x p is = let no : said.Sent p ≡ said.TimerSet = is in cc

-- a record of which a packet without a size is kept has none
pub no_size : (unit : Unit) (n : EventName) (d : Option Json) (p : LoggedPacket) → Says unit n d (said.Sent p) → p.size ≡ None → HasNoSize n d
no_size unit name.PacketSent d p says none = rw none at says.size
no_size unit name.PacketReceived d p says none = says
no_size unit name.PacketLost d p says none = says
no_size unit name.PacketsLost d p says none = let no : said.Sent p ≡ said.OtherLost = says in cc
no_size unit name.MetricsUpdated d p says none = says
no_size unit name.RecoveryParametersSet d p says none = says
no_size unit name.CongestionStateUpdated d p says none = let no : said.Sent p ≡ said.State (losses.is_application_limited d) = says in cc
no_size unit name.LossTimerUpdated d p says none = is_timer (timers.has_expired d) (record { kind = timers.kind d; space = timers.space d }) p says
no_size unit name.KeyUpdated d p says none = let no : said.Sent p ≡ said.KeysCame (key_space d) = says in cc
no_size unit name.KeyRetired d p says none = let no : said.Sent p ≡ said.KeysGone (key_space d) = says in cc
no_size unit name.KeyDiscarded d p says none = let no : said.Sent p ≡ said.KeysGone (key_space d) = says in cc
no_size unit name.ParametersSet d p says none = says

-- ---- records

pub time_fault : (head : Head) (c : Numbering) (j : Json) (e : NoRecord) → IsTimeFault head j e → IsRecordFault head c j e
time_fault head c j (no_record.Event e) is = absurd is
time_fault head c j (no_record.Time t) is = is
time_fault head c j no_record.NotJson is = is
time_fault head c j no_record.OutOfMemory is = is

pub event_fault : (head : Head) (c : Numbering) (j : Json) (found : Option EventHead) (n : EventName) (e : NoRecord) → event_of head.fields head.unit j ≡ Ok found
    → chosen_only head j c (name_of found) ≡ Some n → OfEvent (IsFault head.unit n (data_of head.fields j)) e → IsRecordFault head c j e
event_fault head c j found n (no_record.Event e) reads chosen is = (found, reads, subst (λ (n : Option EventName). IsFaultOf head j n e) (sym chosen) is)
event_fault head c j found n (no_record.Time t) reads chosen is = absurd is
event_fault head c j found n no_record.NotJson reads chosen is = absurd is
event_fault head c j found n no_record.OutOfMemory reads chosen is = tt

pub text_fault : (head : Head) (c : Numbering) (text : List ℕ) (j : Json) (e : NoRecord) → document text ≡ Some j → IsRecordFault head c j e → IsTextFault head c text e
text_fault head c text j (no_record.Event e) reads is = (j, reads, is)
text_fault head c text j (no_record.Time t) reads is = (j, reads, is)
text_fault head c text j no_record.NotJson reads is = absurd is
text_fault head c text j no_record.OutOfMemory reads is = tt

pub is_json : {A : Type 0} (head : Head) (c : Numbering) (j : Json) (r : Result A NoRecord) → IfErr r (IsRecordFault head c j) → r ≡ Err no_record.NotJson → ⊥
is_json head c j (Ok a) is not = let no : Ok a ≡ Err no_record.NotJson = not in cc
is_json head c j (Err (no_record.Event e)) is not = let no : Err (no_record.Event e) ≡ Err no_record.NotJson = not in cc
is_json head c j (Err (no_record.Time t)) is not = let no : Err (no_record.Time t) ≡ Err no_record.NotJson = not in cc
is_json head c j (Err no_record.NotJson) is not = is
is_json head c j (Err no_record.OutOfMemory) is not = let no : Err no_record.OutOfMemory ≡ Err no_record.NotJson = not in cc

pub is_json_of : {A : Type 0} (head : Head) (c : Numbering) (j : Json) (r : Result A NoMore) → IfErr r (OfRecord (IsRecordFault head c j)) → r ≡ Err (more.Record no_record.NotJson) → ⊥
is_json_of head c j (Ok a) is not = let no : Ok a ≡ Err (more.Record no_record.NotJson) = not in cc
is_json_of head c j (Err (more.Line l)) is not = let no : Err (more.Line l) ≡ Err (more.Record no_record.NotJson) = not in cc
is_json_of head c j (Err (more.Record (no_record.Event e))) is not = let no : Err (more.Record (no_record.Event e)) ≡ Err (more.Record no_record.NotJson) = not in cc
is_json_of head c j (Err (more.Record (no_record.Time t))) is not = let no : Err (more.Record (no_record.Time t)) ≡ Err (more.Record no_record.NotJson) = not in cc
is_json_of head c j (Err (more.Record no_record.NotJson)) is not = is
is_json_of head c j (Err (more.Record no_record.OutOfMemory)) is not = let no : Err (more.Record no_record.OutOfMemory) ≡ Err (more.Record no_record.NotJson) = not in cc
