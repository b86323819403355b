use Rattle.std.proofs.Common.{◌≡◌, ◌∙◌, Bool, sym, rules, tests}
use Rattle.std.proofs.lemmas.Iterator.{YieldsList-from_slice}
use Rattle.std.proofs.lemmas.Iterator.Search.{any_from_yields_List}
use Rattle.std.specs.List.{list_any}
use Rattle.qa_convert.proofs.Gathered.{or_none}
use Rattle.qa_convert.specs.declared.groups.PacketAt.{PacketAt}
use Rattle.qa_convert.proofs.groups.Group.closes.Goals as goal

pub returns-in-Sent : goal.returns-in-Sent
returns-in-Sent c =
    let ps = c.in-Sent.packets.items in
    let test : PacketAt → Bool = λ p. p.packet.content.closes in
    let any : c.any.result ≡ list_any test ps =
    any_from_yields_List test _ _ c.any.result c.any.ensures.ran (YieldsList-from_slice ps cc) (λ x b q k. search (rules, tests)) in
    rw c.in-Sent.is (any ∙ sym (or_none (list_any test ps)))
