-- Where a packet stands that is taken of an event.
use Rattle.std.proofs.Common.{◌≡◌, ◌∙◌, ℕ, Bool, Option, Some, refl, sym, ap, subst, filter}
use Rattle.std.specs.List.{AllByRecursion}
use Rattle.qa_base.specs.declared.event.Event.{Event}
use Rattle.qa_base.specs.declared.event.Event.TheVariants.{Sent, Ack, Lost, Timer, Discard, Confirmed, Keys, Metrics}
use Rattle.qa_base.specs.machine.Packets.{Packet, packet_of}
use Rattle.qa_base.proofs.machine.WindowBound.{each_of_part}
use Rattle.qa_reference.specs.Listed.{listed}

each_stands : (n : ℕ) (e : Event) → AllByRecursion (λ (p : Packet). p.place ≡ n) (packet_of n e)
each_stands n (Sent packet) = (refl, tt)
each_stands n (Ack ack) = tt
each_stands n (Lost time space ranges) = tt
each_stands n (Timer time kind space) = tt
each_stands n (Discard time space) = tt
each_stands n (Confirmed time) = tt
each_stands n (Keys time) = tt
each_stands n (Metrics time values) = tt

-- it stands where the event does
pub place_of : (n : ℕ) (e : Event) (here : Option Packet) (p : Packet) → here ≡ Some p → listed here ≡ packet_of n e → p.place ≡ n
place_of n e here p is sent =
    let one : listed (Some p) ≡ packet_of n e = sym (ap (λ (r : Option Packet). listed r) is) ∙ sent in
    (subst (AllByRecursion (λ (q : Packet). q.place ≡ n)) (sym one) (each_stands n e)).0

-- also where it passes a test
pub place_of_passing : (n : ℕ) (e : Event) (test : Packet → Bool) (here : Option Packet) (p : Packet) → here ≡ Some p → listed here ≡ filter test (packet_of n e) → p.place ≡ n
place_of_passing n e test here p is passes =
    let one : listed (Some p) ≡ filter test (packet_of n e) = sym (ap (λ (r : Option Packet). listed r) is) ∙ passes in
    (subst (AllByRecursion (λ (q : Packet). q.place ≡ n)) (sym one) (each_of_part (λ (q : Packet). q.place ≡ n) test (packet_of n e) (each_stands n e))).0
