-- Packets in flight, by their numbers.
use Rattle.std.specs.Prelude.{◌≤◌, ◌&&◌, ℕ, nat_le, Bool, List, Option, sum_by}
use Rattle.std.specs.BTreeMap.{is_at}
use Rattle.std.specs.List.{AllByRecursion}
use Rattle.std.specs.Map.{lookup, remove_entry}
use Rattle.std.specs.Ordering.{nat_cmp}
use Rattle.qa_base.specs.values.Limits.{max_packet_size}
use Rattle.qa_convert.specs.declared.flight.Flying.{Flying}

-- the sum of their sizes
abbrev pub flying_bytes : List (ℕ × Flying) → ℕ
flying_bytes es = sum_by (λ e. e.1.size) es

-- each has the size of a packet
abbrev pub AreSized : List (ℕ × Flying) → Type 0
AreSized es = AllByRecursion (λ e. e.1.size ≤ max_packet_size) es

-- the packet of this number, if there is one
abbrev pub flying_at : ℕ → List (ℕ × Flying) → Option Flying
flying_at n es = lookup (is_at (nat_cmp n)) es

-- without it
abbrev pub without_number : ℕ → List (ℕ × Flying) → List (ℕ × Flying)
without_number n es = remove_entry (is_at (nat_cmp n)) es

-- the span names the number
abbrev pub is_within : ℕ × ℕ → ℕ → Bool
is_within span n = nat_le span.0 n && nat_le n span.1
