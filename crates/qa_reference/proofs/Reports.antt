-- The bytes in flight that an event newly acknowledges, packet by packet.
use Rattle.std.proofs.Common.{◌≡◌, ◌+◌, ◌&&◌, List, [], ◌∷◌, Bool, true, false, ℕ, refl, arith, filter, sum_by}
use Rattle.std.proofs.lemmas.List.Sums.{sum_by-cons}
use Rattle.std.specs.Prelude.{if◌then◌else◌}
use Rattle.qa_base.specs.machine.Packets.{Packet}
use Rattle.qa_base.proofs.machine.Collapses.{in_flight_size}

-- the size of a packet that passes and is in flight
abbrev pub passing_size : (Packet → Bool) → Packet → ℕ
passing_size test p = if test p && p.in_flight then p.size else 0

one_more : (p : Packet) (ps : List Packet) (passes : Bool) → sum_by in_flight_size (if passes then p ∷ ps else ps) ≡ (if passes && p.in_flight then p.size else 0) + sum_by in_flight_size ps
one_more p ps true = sum_by-cons in_flight_size p ps
one_more p ps false = omega arith

pub sum_of_new : (test : Packet → Bool) (ps : List Packet) → sum_by (passing_size test) ps ≡ sum_by in_flight_size (filter test ps)
sum_of_new test [] = refl
sum_of_new test (p ∷ ps) =
    let all : sum_by (passing_size test) (p ∷ ps) ≡ passing_size test p + sum_by (passing_size test) ps = sum_by-cons (passing_size test) p ps in
    let here = one_more p (filter test ps) (test p) in
    let rest = sum_of_new test ps in
    omega (arith, all, here, rest)
