use Rattle.std.proofs.Common.{◌≡◌, ◌∙◌, ◌&&◌, ◌++◌, ◌∷◌, ◌+◌, Bool, ℕ, List, Option, cond, count_by, nat_le, nat_lt, sym, ap, arith, take, true, false}
use Rattle.std.proofs.lemmas.List.Sums.{sum_by-cons}
use Rattle.qa_base.specs.machine.Packets.{Packet, history_of, is_of, packets_of}
use Rattle.qa_reference.specs.Listed.{listed}
use Rattle.qa_reference.proofs.Turns.{passing_next, at_end}
use Rattle.qa_reference.proofs.distance.count_between.Goals as goal
use Rattle.qa_reference.proofs.distance.count_between.Goals.{in-Some+then-is_between, in-Some+else-is_between, in_default}

pub loop-place-preserved : goal.loop-place-preserved
loop-place-preserved c =
    let test : Packet → Bool = λ p. nat_lt c.args.number p.number && nat_le p.number c.args.largest in
    let rest = packets_of (history_of (take c.loop-place.place c.args.events.now)) c.args.space in
    let counted : List Packet → ℕ = λ ps. count_by test ps in
    let next = passing_next counted (is_of c.args.space) c.args.events.now c.loop-place.place c.index-events-place.result c.packet_in.result c.loop-place-test.true c.index-events-place.is c.packet_in.ensures in
    let with = λ (r : Option Packet). counted (listed r ++ rest) in
    let was = c.loop-place.invariant.count in
    let more : (p : Packet) (b : Bool) → test p ≡ b → counted (p ∷ rest) ≡ cond b 1 0 + counted rest = λ p b is. sum_by-cons (λ (q : Packet). cond (test q) 1 0) p rest ∙ ap (λ (x : Bool). cond x 1 0 + counted rest) is in
    elim c.match-packet_in.branch [
      | in-Some+then-is_between w ↦ (let now = next ∙ (ap with w.in-Some.is ∙ more w.in-Some.packet true (sym w.is_between.ensures ∙ w.if-is_between.true)) in record { count = omega (arith, now, was); bound = omega arith })
      | in-Some+else-is_between w ↦ (let now = next ∙ (ap with w.in-Some.is ∙ more w.in-Some.packet false (sym w.is_between.ensures ∙ w.if-is_between.false)) in record { count = omega (arith, now, was); bound = omega arith })
      | in_default w ↦ (let now = next ∙ ap with w.in_default.is in record { count = omega (arith, now, was); bound = omega arith })
    ]

pub returns : goal.returns
returns c =
    let test : Packet → Bool = λ p. nat_lt c.args.number p.number && nat_le p.number c.args.largest in
    c.loop-place.invariant.count ∙ at_end (λ part. count_by test (packets_of part c.args.space)) c.args.events.now c.loop-place.place c.loop-place-test.false
