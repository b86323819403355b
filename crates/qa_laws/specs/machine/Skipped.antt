-- Histories in which the sender skips no packet number up to an acknowledged one.
--
-- `h` is the history.
use Rattle.std.specs.Prelude.{◌≡◌, ◌≤◌, ◌<◌, ℕ, true, List, Some}
use Rattle.qa_base.specs.declared.event.Event.{Event}
use Rattle.qa_base.specs.declared.space.Space.{Space}
use Rattle.qa_base.specs.machine.Kept.{numbers_of}
use Rattle.qa_base.specs.machine.Numbers.{is_in}
use Rattle.qa_base.specs.machine.Packets.{largest_acknowledged}

-- each number of a space that lies above one that was sent, and is not above the largest that was
-- acknowledged, was sent
abbrev pub SkipsNone : List Event → Type 0
SkipsNone h =
    (s : Space) (sent largest n : ℕ) → is_in (numbers_of h s) sent ≡ true
    → largest_acknowledged h s ≡ Some largest
    → sent < n → n ≤ largest → is_in (numbers_of h s) n ≡ true
