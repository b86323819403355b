-- The first reading of a log, as it is asked for.
use Rattle.std.proofs.Common.{List, Option, subst, sym}
use Rattle.qa_base.specs.declared.space.Role.{Role}
use Rattle.qa_convert.specs.Surveying.{unread}
use Rattle.qa_convert.specs.declared.trace.Asked.{Asked}
use Rattle.qa_qlog.specs.declared.heads.Head.{Head}
use Rattle.qa_logs.specs.Choosing.{AreRoles, IsChosen}
use Rattle.qa_logs.specs.Heads.{IsHead}
use Rattle.qa_logs.specs.Surveying.{Asks, Begun, IsAsked, Starts}
use Rattle.qa_logs.specs.declared.choosing.Chosen.{Chosen}
use Rattle.qa_logs.specs.declared.choosing.Request.{Request}
use Rattle.qa_logs.specs.declared.log.Log.{Log}

pub asked_so : (log : Log) (request : Request) (it : Chosen) (roles : List (Option Role)) (asked : Asked) (head : Head) (s : Begun) → AreRoles log roles → IsChosen roles request it → Asks log request it asked → IsHead log it.trace head → Starts log it (asked, unread head asked.connection asked.role) s → IsAsked log request s
asked_so log request it roles asked head s are is asks of starts =
    let same = sym starts.chosen in
    record {
      roles = roles;
      are_roles = are;
      is_chosen = subst (IsChosen roles request) same is;
      asked = asked;
      asks = subst (λ it. Asks log request it asked) same asks;
      head = head;
      is_head = subst (λ it. IsHead log it.trace head) same of;
      starts = subst (λ it. Starts log it (asked, unread head asked.connection asked.role) s) same starts;
    }
