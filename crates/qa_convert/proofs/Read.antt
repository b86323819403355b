-- What is kept of records that are read.
use Rattle.std.proofs.Common.{◌≡◌, inl, inr, List, [], ◌∷◌, Option, Some, None, Result, Ok, Err, true, false, is_some, refl}
use Rattle.std.specs.Prelude.{IfOk}
use Rattle.json.specs.Json.{Json}
use Rattle.qa_qlog.specs.Records.{data_of}
use Rattle.qa_qlog.specs.declared.heads.Head.{Head}
use Rattle.qa_qlog.specs.declared.names.EventName.{EventName}
use Rattle.qa_qlog.specs.declared.names.EventName.TheVariants as name
use Rattle.qa_qlog.specs.declared.times.Unit.{Unit}
use Rattle.qa_convert.specs.Reading.{FindsEvent, GivesSize, SaysAll, SaysOf, SaysSized}
use Rattle.qa_convert.specs.Said.{Says}
use Rattle.qa_convert.specs.declared.event.At.{At}
use Rattle.qa_convert.specs.declared.event.Said.{Said}
use Rattle.qa_convert.specs.declared.event.Said.TheVariants as said
use Rattle.qa_convert.specs.declared.packet.LoggedPacket.{LoggedPacket}

pub value_of : {A : Type 0} (o : Option A) → is_some o ≡ true → (x : A) × (o ≡ Some x)
value_of (Some x) is = (x, refl)
value_of None is = absurd (let no : false ≡ true = is in cc)

pub if_ok_then : {A E : Type 0} (P Q : A → Type 0) (r : Result A E) → ((x : A) → P x → Q x) → IfOk r P → IfOk r Q
if_ok_then P Q (Ok x) f is = f x is
if_ok_then P Q (Err e) f is = tt

-- a record of which nothing is kept
pub says_none : (head : Head) (j : Json) (at : At) (n : Option EventName) → FindsEvent head j at n None → SaysOf head j n []
says_none head j at None finds = refl
says_none head j at (Some n) is = absurd (let no : Some n ≡ None = is in cc)

-- a record of which an event is kept
pub says_some : (head : Head) (j : Json) (n : Option EventName) (name : EventName) (all : List Said) → n ≡ Some name → SaysAll head.unit name (data_of head.fields j) all → SaysOf head j n all
says_some head j n name all is says = rw is says

-- an event that is no list of losses
pub says_one : (unit : Unit) (n : EventName) (d : Option Json) (s : Said) → (n ≡ name.PacketsLost → ⊥) → SaysSized unit n d s → SaysAll unit n d (s ∷ [])
says_one unit name.PacketSent d s other says = (s, refl, says)
says_one unit name.PacketReceived d s other says = (s, refl, says)
says_one unit name.PacketLost d s other says = (s, refl, says)
says_one unit name.PacketsLost d s other says = absurd (other refl)
says_one unit name.MetricsUpdated d s other says = (s, refl, says)
says_one unit name.RecoveryParametersSet d s other says = (s, refl, says)
says_one unit name.CongestionStateUpdated d s other says = (s, refl, says)
says_one unit name.LossTimerUpdated d s other says = (s, refl, says)
says_one unit name.KeyUpdated d s other says = (s, refl, says)
says_one unit name.KeyRetired d s other says = (s, refl, says)
says_one unit name.KeyDiscarded d s other says = (s, refl, says)
says_one unit name.ParametersSet d s other says = (s, refl, says)

-- a packet that was sent, once its size is given
pub says_sized : (unit : Unit) (n : EventName) (d : Option Json) (s t : Said) (p q : LoggedPacket) → s ≡ said.Sent p → GivesSize p q → t ≡ said.Sent q → Says unit n d s
    → SaysSized unit n d t
says_sized unit n d s t p q is (inl same) to says = inl (rw (to, same) (rw is at says))
says_sized unit n d s t p q is (inr guessed) to says = inr (record { read = p; says = rw is at says; given = q; guessed = guessed; is = to })
