-- What one more packet makes of those that pass a test.
use Rattle.std.proofs.Common.{◌≡◌, List, ◌∷◌, Bool, true, false, ◌&&◌, Some, find, filter, refl}
use Rattle.std.specs.List.{list_any}
use Rattle.std.specs.Prelude.{if◌then◌else◌}
use Rattle.qa_base.specs.machine.Packets.{Packet}
use Rattle.qa_base.specs.machine.Reno.{grows}
use Rattle.qa_base.specs.values.Settings.{Settings}
use Rattle.qa_reference.proofs.Moved.{grows_bare}

-- it passes, and is the one that is asked for
pub any_here : (asked test : Packet → Bool) (p : Packet) (ps : List Packet) → test p ≡ true → asked p ≡ true → list_any asked (filter test (p ∷ ps)) ≡ true
any_here asked test p ps passes is = rw (passes, is) refl

pub found_here : (asked test : Packet → Bool) (p : Packet) (ps : List Packet) → test p ≡ true → asked p ≡ true → find asked (filter test (p ∷ ps)) ≡ Some p
found_here asked test p ps passes is = rw (passes, is) refl

pub grows_passing : (c : Settings) (test : Packet → Bool) (p : Packet) (ps : List Packet) → test p ≡ true → grows c (filter test (p ∷ ps)) ≡ grows c (p ∷ filter test ps)
grows_passing c test p ps passes = rw passes refl

-- it does not pass, or is not
any_if : (asked : Packet → Bool) (p : Packet) (ps : List Packet) (b a : Bool) → asked p ≡ a → (b && a) ≡ false → list_any asked (if b then p ∷ ps else ps) ≡ list_any asked ps
any_if asked p ps true true is none = cc
any_if asked p ps true false is none = rw is refl
any_if asked p ps false a is none = refl

pub any_later : (asked test : Packet → Bool) (p : Packet) (ps : List Packet) → (test p && asked p) ≡ false → list_any asked (filter test (p ∷ ps)) ≡ list_any asked (filter test ps)
any_later asked test p ps none = any_if asked p (filter test ps) (test p) (asked p) refl none

found_if : (asked : Packet → Bool) (p : Packet) (ps : List Packet) (b a : Bool) → asked p ≡ a → (b && a) ≡ false → find asked (if b then p ∷ ps else ps) ≡ find asked ps
found_if asked p ps true true is none = cc
found_if asked p ps true false is none = rw is refl
found_if asked p ps false a is none = refl

pub found_later : (asked test : Packet → Bool) (p : Packet) (ps : List Packet) → (test p && asked p) ≡ false → find asked (filter test (p ∷ ps)) ≡ find asked (filter test ps)
found_later asked test p ps none = found_if asked p (filter test ps) (test p) (asked p) refl none

grows_if : (c : Settings) (p : Packet) (ps : List Packet) (b a : Bool) → p.in_flight ≡ a → (b && a) ≡ false → grows c (if b then p ∷ ps else ps) ≡ grows c ps
grows_if c p ps true true is none = cc
grows_if c p ps true false is none = grows_bare c p ps is
grows_if c p ps false a is none = refl

-- it does not pass, or is not in flight
pub grows_later : (c : Settings) (test : Packet → Bool) (p : Packet) (ps : List Packet) → (test p && p.in_flight) ≡ false → grows c (filter test (p ∷ ps)) ≡ grows c (filter test ps)
grows_later c test p ps none = grows_if c p (filter test ps) (test p) p.in_flight refl none
