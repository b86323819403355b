use Rattle.std.proofs.Common.{◌<◌, List, ℕ, ap, sym, subst}
use Rattle.std.specs.List.{AllByRecursion}
use Rattle.qa_sent_packets.specs.Unacknowledged.{Entries}
use Rattle.qa_sent_packets.proofs.Rising.{pushed_rising}
use Rattle.qa_sent_packets.proofs.unacknowledged.Unacknowledged.enter.Goals as goal

pub invariant_of-self-2 : goal.invariant_of-self-2
invariant_of-self-2 c =
    let below = subst (λ (es : List (ℕ × ℕ)). AllByRecursion (λ e. e.0 < c.args.number) es) (sym (ap (λ (u : Entries). u.entries) c.self.view_is)) c.requires in
    record {
      rising = pushed_rising _ c.self.inside.gaps.entries c.self.inside.recent.items c.push_back.new.self.items (c.args.number, c.args.place) c.push_back.ensures.items c.self.invariant.rising below;
      below = c.self.invariant.below;
    }
