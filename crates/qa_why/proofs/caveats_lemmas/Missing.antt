-- What is missing behind one packet more.
use Rattle.std.proofs.Common.{◌≡◌, ◌∙◌, ℕ, suc, ◌+◌, ◌-◌, ◌<◌, Bool, true, false, List, [], ◌∷◌, ◌++◌, length, reverse, refl, ap, arith}
use Rattle.std.proofs.lemmas.Bool.{ltb-true, ne_eqb}
use Rattle.std.proofs.lemmas.List.{length-reverse, reverse-append}
use Rattle.std.specs.Prelude.{◌==◌, nat_lt, if◌then◌else◌}
use Rattle.qa_base.specs.declared.event.Event.{Event}
use Rattle.qa_base.specs.declared.event.Event.TheVariants.{Sent}
use Rattle.qa_base.specs.declared.event.SentPacket.{SentPacket}
use Rattle.qa_base.specs.declared.space.Space.{Space}
use Rattle.qa_base.specs.values.Events.{is_space}
use Rattle.qa_why.specs.caveats.Guesses.{counted}
use Rattle.qa_why.specs.caveats.Missing.{greatest, least, missing, next_number, run_below, size_of_all, skipped, with_number, with_run}
use Rattle.qa_why.specs.declared.caveats.missing.Missing.{Missing}

-- of a next number and these runs, in sum
abbrev in_sum : ℕ → List (ℕ × ℕ) → Missing
in_sum next runs =
    record {
      next = next;
      runs = counted (length runs);
      count = counted (size_of_all runs);
      least = least (reverse runs);
      greatest = greatest runs;
    }

not_none : (n : ℕ) → (counted (suc n) == 0) ≡ false
not_none n = ne_eqb (counted (suc n)) 0 (λ is. omega arith)

least_append : (runs more : List (ℕ × ℕ)) → 0 < length runs → least (runs ++ more) ≡ least runs
least_append [] more some = absurd (omega (arith, some))
least_append (run ∷ runs) more some = refl

behind_some : (run other : ℕ × ℕ) (runs : List (ℕ × ℕ)) → least (reverse (run ∷ other ∷ runs)) ≡ least (reverse (other ∷ runs))
behind_some run other runs =
    let len = length-reverse (other ∷ runs) in
    ap least (reverse-append (run ∷ []) (other ∷ runs)) ∙ least_append (reverse (other ∷ runs)) (run ∷ []) (omega (arith, len))

least_more : (run : ℕ × ℕ) (runs : List (ℕ × ℕ)) → least (reverse (run ∷ runs)) ≡ (if counted (length runs) == 0 then run.0 else least (reverse runs))
least_more run [] = refl
least_more run (other ∷ runs) = rw (not_none (length runs)) (behind_some run other runs)

counted_length : (n : ℕ) → counted (counted n + 1) ≡ counted (suc n)
counted_length n = omega arith

counted_size : (next number size : ℕ) → next < number → counted (counted size + (number - next)) ≡ counted ((number - 1 - next + 1) + size)
counted_size next number size above = omega (arith, above)

-- a run more
run_more : (next number : ℕ) (runs : List (ℕ × ℕ)) → next < number → record (with_run (in_sum next runs) number) { next = number + 1 } ≡ in_sum (number + 1) ((next, number - 1) ∷ runs)
run_more next number runs above =
    rw (least_more (next, number - 1) runs, ← counted_size next number (size_of_all runs) above, counted_length (length runs)) refl

number_by : (next number : ℕ) (runs : List (ℕ × ℕ)) (b : Bool) → nat_lt next number ≡ b
    → record (if b then with_run (in_sum next runs) number else in_sum next runs) { next = number + 1 } ≡ in_sum (number + 1) ((if b then (next, number - 1) ∷ [] else []) ++ runs)
number_by next number runs true is = run_more next number runs (ltb-true next number is)
number_by next number runs false is = refl

-- behind a packet of the space
of_its_space : (next number : ℕ) (runs : List (ℕ × ℕ)) → with_number (in_sum next runs) number ≡ in_sum (number + 1) (run_below next number ++ runs)
of_its_space next number runs = number_by next number runs (nat_lt next number) refl

-- each space behind a packet
pub missing_more : (h : List Event) (packet : SentPacket) (s : Space) (b : Bool) → is_space packet.space s ≡ b
    → (if b then with_number (missing h s) packet.number else missing h s) ≡ missing (Sent packet ∷ h) s
missing_more h packet s true is = rw is (of_its_space (next_number h s) packet.number (skipped h s))
missing_more h packet s false is = rw is refl
