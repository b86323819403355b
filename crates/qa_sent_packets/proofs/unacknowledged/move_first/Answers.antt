use Rattle.std.proofs.Common.{◌∙◌, ◌≤◌, ◌<◌, ◌∷◌, ◌++◌, List, ℕ, length, drop, ap, sym, subst, arith}
use Rattle.std.specs.List.{AllByRecursion}
use Rattle.qa_sent_packets.specs.Unacknowledged.{EntriesRise}
use Rattle.qa_sent_packets.proofs.Entries.{enters_last}
use Rattle.qa_sent_packets.proofs.Rising.{all_more, first_below, moved, rising_front, some_below, whole_queue}
use Rattle.qa_sent_packets.proofs.unacknowledged.move_first.Goals as goal

pub index-requires : goal.index-requires
index-requires c = let some = some_below c.args.number c.args.recent.now.items c.requires.begins in let long = c.args.recent.now.ok.0 in omega (arith, some, long)

pub returns-clause-entries : goal.returns-clause-entries
returns-clause-entries c =
    let es = c.args.gaps.now.entries in
    let fs = c.args.recent.now.items in
    let x = c.index.result.now in
    let some : 1 ≤ length fs = some_below c.args.number fs c.requires.begins in
    let rising : EntriesRise (es ++ x ∷ drop 1 fs) = subst EntriesRise (ap (λ f. es ++ f) (whole_queue fs x some c.index.ensures)) c.requires.rising in
    moved es fs c.insert.new.self.entries c.pop_front.new.self.items x some c.index.ensures (c.in_ok-insert.ensures.entries ∙ enters_last x.0 x.1 es (rising_front es x (drop 1 fs) rising)) c.pop_front.ensures.rest

pub returns-clause-below : goal.returns-clause-below
returns-clause-below c = λ end more below.
    let es = c.args.gaps.now.entries in
    let fs = c.args.recent.now.items in
    let x = c.index.result.now in
    let some : 1 ≤ length fs = some_below c.args.number fs c.requires.begins in
    let rising : EntriesRise (es ++ x ∷ drop 1 fs) = subst EntriesRise (ap (λ f. es ++ f) (whole_queue fs x some c.index.ensures)) c.requires.rising in
    let under : x.0 < end = (let first = first_below c.args.number fs x c.requires.begins c.index.ensures in omega (arith, first, more)) in
    subst (λ (gs : List (ℕ × ℕ)). AllByRecursion (λ e. e.0 < end) gs) (sym (c.in_ok-insert.ensures.entries ∙ enters_last x.0 x.1 es (rising_front es x (drop 1 fs) rising)))
    (all_more (λ e. e.0 < end) es x below under)

pub returns-clause-fewer : goal.returns-clause-fewer
returns-clause-fewer c =
    let fs = c.args.recent.now.items in
    let whole = ap length (whole_queue fs c.index.result.now (some_below c.args.number fs c.requires.begins) c.index.ensures) in
    let rest = ap length c.pop_front.ensures.rest in
    omega (arith, whole, rest)
