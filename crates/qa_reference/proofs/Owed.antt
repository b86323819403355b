-- What is owed, as one filter.
use Rattle.std.proofs.Common.{◌≡◌, ◌∙◌, List, [], ◌∷◌, Bool, true, false, ◌&&◌, ℕ, Option, Some, None, length, refl, sym, ap, filter, arith}
use Rattle.std.proofs.lemmas.Bool.{lt-ltb}
use Rattle.std.specs.Prelude.{nat_lt}
use Rattle.qa_base.specs.declared.event.Event.{Event}
use Rattle.qa_base.specs.declared.space.Space.{Space}
use Rattle.qa_base.specs.machine.Estimates.{sampled}
use Rattle.qa_base.specs.machine.Detection.{is_at, is_found}
use Rattle.qa_base.specs.machine.Loss.{detection, is_owed, owed}
use Rattle.qa_base.specs.machine.Packets.{Packet, packets, is_some_packet}
use Rattle.qa_base.specs.machine.Rtt.{Estimate}
use Rattle.qa_base.specs.values.Settings.{Settings}
use Rattle.qa_base.proofs.machine.Declared.{owed_is}
use Rattle.qa_reference.specs.Looks.{Seen, IsLook, largest_there, is_found_where, is_found_by, found_in}

-- ---- by what is seen

found_where : (c : Settings) (h : List Event) (p : Packet) (d : Option (Space × ℕ)) → is_found_where c h (sampled c h) (largest_there h d) p d ≡ is_at (is_found c (sampled c h) h) p d
found_where c h p None = refl
found_where c h p (Some d) = refl

pub found_by_is : (c : Settings) (h : List Event) (look : Seen) (p : Packet) → IsLook c h look → is_found_by h look p ≡ is_owed c h p
found_by_is c h look p is =
    ap (λ (header : Settings). is_found_where header h look.rtt look.largest p look.detection) is.3
    ∙ (ap (λ (r : Estimate). is_found_where c h r look.largest p look.detection) is.0
    ∙ (ap (λ (largest : Option ℕ). is_found_where c h (sampled c h) largest p look.detection) is.2
    ∙ (ap (λ (d : Option (Space × ℕ)). is_found_where c h (sampled c h) (largest_there h (detection c h)) p d) is.1
    ∙ found_where c h p (detection c h))))

each_found : (c : Settings) (h : List Event) (look : Seen) (ps : List Packet) → IsLook c h look → filter (is_owed c h) ps ≡ filter (is_found_by h look) ps
each_found c h look [] is = refl
each_found c h look (p ∷ ps) is = rw (found_by_is c h look p is, each_found c h look ps is) refl

pub owed_by : (c : Settings) (h : List Event) (look : Seen) → IsLook c h look → owed c h ≡ found_in h look h
owed_by c h look is = owed_is c h ∙ each_found c h look (packets h) is

pub some_counted : (ps : List Packet) → is_some_packet ps ≡ nat_lt 0 (length ps)
some_counted [] = refl
some_counted (p ∷ ps) = sym (lt-ltb 0 (length (p ∷ ps)) (omega arith))

-- ---- tests in another order

pub and_turned : (a b : Bool) → (a && b) ≡ (b && a)
and_turned true true = refl
and_turned true false = refl
and_turned false true = refl
and_turned false false = refl
