-- How much of a history is still of use: the packets since the oldest that is open or owed, and the
-- runs of numbers.
--
-- `c` are the settings of the header, `h` is the history.
use Rattle.std.specs.Prelude.{ℕ, ◌+◌, ◌||◌, not, nat_le, count_by, filter, map, Bool, List, Option}
use Rattle.std.specs.Prelude.{Some, None}
use Rattle.qa_base.specs.declared.event.Event.{Event}
use Rattle.qa_base.specs.declared.space.Space.{Space}
use Rattle.qa_base.specs.declared.space.Space.TheVariants.{Initial, Handshake, App}
use Rattle.qa_base.specs.machine.Loss.{is_open, is_owed}
use Rattle.qa_base.specs.machine.Numbers.{is_in}
use Rattle.qa_base.specs.machine.Packets.{Packet, packets, packets_of, least_of}
use Rattle.qa_base.specs.values.Settings.{Settings}

-- open, or owed as lost, so that its Lost line is still to come
abbrev pub is_kept : Settings → List Event → Packet → Bool
is_kept c h p = is_open c h p || is_owed c h p

-- where the oldest such packet was sent
abbrev pub oldest_kept : Settings → List Event → Option ℕ
oldest_kept c h = least_of (map (λ p. p.place) (filter (is_kept c h) (packets h)))

abbrev pub count_from : Option ℕ → List Packet → ℕ
count_from None ps = 0
count_from (Some place) ps = count_by (λ p. nat_le place p.place) ps

-- how many packets of all spaces were sent since then, that one counted
abbrev pub kept_count : Settings → List Event → ℕ
kept_count c h = count_from (oldest_kept c h) (packets h)

abbrev pub numbers_of : List Event → Space → List ℕ
numbers_of h s = map (λ p. p.number) (packets_of h s)

-- how many runs of consecutive numbers were sent in the space: the numbers behind which the next
-- was not sent
abbrev pub runs_of : List Event → Space → ℕ
runs_of h s = count_by (λ n. not (is_in (numbers_of h s) (n + 1))) (numbers_of h s)

-- in all spaces
abbrev pub runs : List Event → ℕ
runs h = runs_of h Initial + runs_of h Handshake + runs_of h App
