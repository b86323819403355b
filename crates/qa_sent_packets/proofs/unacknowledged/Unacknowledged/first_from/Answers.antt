use Rattle.std.proofs.Common.{◌∙◌, ap, sym, subst}
use Rattle.qa_sent_packets.specs.Covering.{first_from}
use Rattle.qa_sent_packets.specs.Unacknowledged.{Entries, EntriesRise}
use Rattle.qa_sent_packets.proofs.Rising.{clear_found, first_left, first_right}
use Rattle.qa_sent_packets.proofs.unacknowledged.Unacknowledged.first_from.Goals as goal

pub returns-in-Some : goal.returns-in-Some
returns-in-Some c =
    let is = sym (first_left c.args.lo c.self.inside.gaps.entries c.self.inside.recent.items c.in-Some.found (sym c.first_gap.ensures ∙ c.in-Some.is))
    ∙ ap (λ (u : Entries). first_from c.args.lo u.entries) c.self.view_is in
    record {
      first = is;
      clear = clear_found c.args.lo c.args.self.now.entries _ (subst EntriesRise (ap (λ (u : Entries). u.entries) c.self.view_is) c.self.invariant.rising) (sym is);
    }

pub returns : goal.returns
returns c =
    let is = c.first_recent.ensures
    ∙ (sym (first_right c.args.lo c.self.inside.gaps.entries c.self.inside.recent.items (sym c.first_gap.ensures ∙ c.in_default.is))
    ∙ ap (λ (u : Entries). first_from c.args.lo u.entries) c.self.view_is) in
    record {
      first = is;
      clear = clear_found c.args.lo c.args.self.now.entries c.first_recent.result (subst EntriesRise (ap (λ (u : Entries). u.entries) c.self.view_is) c.self.invariant.rising) (sym is);
    }
