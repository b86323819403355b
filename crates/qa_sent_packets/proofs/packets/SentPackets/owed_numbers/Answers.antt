use Rattle.std.proofs.Common.{◌≡◌, ◌∙◌, ℕ, List, sym, ap, subst, IfOk}
use Rattle.std.specs.Prelude.{slice_range}
use Rattle.qa_sent_packets.specs.Held.{Held}
use Rattle.qa_sent_packets.specs.Walks.{owed_numbers}
use Rattle.qa_sent_packets.proofs.Owed.{numbers_of_part}
use Rattle.qa_sent_packets.proofs.packets.SentPackets.owed_numbers.Goals as goal

pub returns : goal.returns
returns c =
    let part = c.owed_part.result in
    subst (λ (ns : List ℕ). IfOk c.owed_numbers_in.result (λ found. found.items ≡ ns))
    (ap (λ (h : Held). owed_numbers (slice_range h.packets part.start part.end)) c.self.view_is
    ∙ sym (numbers_of_part c.args.self.now.packets part.start part.end c.owed_part.ensures)) c.owed_numbers_in.ensures
