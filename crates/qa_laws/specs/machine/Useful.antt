-- What of a history is still of use, as a walk over its packets finds it.
use Rattle.std.specs.Prelude.{ℕ, ◌+◌, ◌==◌, Bool, List, [], ◌∷◌, if◌then◌else◌}
use Rattle.std.specs.List.{list_any}
use Rattle.qa_base.specs.machine.Packets.{Packet}

-- the packets from the first on that passes the test
abbrev pub from_first : (Packet → Bool) → List Packet → List Packet
from_first test [] = []
from_first test (p ∷ ps) = if test p then p ∷ ps else from_first test ps

-- how many runs of numbers one more number begins: none where it is the next after one of the
-- others
abbrev pub runs_begun : List ℕ → ℕ → ℕ
runs_begun numbers n = if list_any (λ m. n == m + 1) numbers then 0 else 1
