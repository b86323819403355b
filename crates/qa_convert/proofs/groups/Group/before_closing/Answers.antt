use Rattle.std.proofs.Common.{◌≡◌, ◌∙◌, Bool, Option, true, sym}
use Rattle.std.proofs.lemmas.Result.{IfOk-weaker}
use Rattle.std.specs.List.{list_any}
use Rattle.qa_convert.proofs.Closing.{come_left, not_sent, sent_left, single_first}
use Rattle.qa_convert.proofs.Gathered.{or_none}
use Rattle.qa_convert.specs.Gathering.{IsCut, IsLeft, IsSingle}
use Rattle.qa_convert.specs.Groups.{events_of}
use Rattle.qa_convert.specs.declared.groups.Group.{Group}
use Rattle.qa_convert.specs.declared.groups.PacketAt.{PacketAt}
use Rattle.qa_convert.proofs.groups.Group.before_closing.Goals as goal

pub returns-in-Sent : goal.returns-in-Sent
returns-in-Sent c =
    let g = c.args.self in
    let ps = c.in-Sent.packets in
    let test : PacketAt → Bool = λ p. p.packet.content.closes in
    let any : list_any test ps.items ≡ true = sym (or_none (list_any test ps.items)) ∙ (rw c.in-Sent.is at c.requires.closes) in
    IfOk-weaker c.sent_before.result (IsCut ps.items) (λ (left : Option Group). (first : Bool) → IsSingle first g.about g.beside.items → IsLeft first (events_of first g) left)
    (λ left cut first single. rw c.in-Sent.is
    (sent_left first ps.items g.beside.items left any (single_first first ps g.beside.items (rw c.in-Sent.is at single)) cut))
    c.sent_before.ensures

pub returns-in_default : goal.returns-in_default
returns-in_default c first single =
    come_left first c.args.self (not_sent c.args.self.about c.in_default.not-Sent) c.requires.closes c.requires.group
