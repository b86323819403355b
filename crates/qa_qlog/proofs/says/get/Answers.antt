-- The last member of one name, found in a walk.
use Rattle.std.proofs.Common.{◌≡◌, ◌∙◌, true, false, option_map, None, refl, sym, ap, subst, arith}
use Rattle.std.specs.Str.{bytes_eq}
use Rattle.json.specs.Json.{no_members}
use Rattle.json.specs.Find.{NextMember, Finds, get}
use Rattle.qa_qlog.proofs.Latest.{or_none, named, other, ended}
use Rattle.qa_qlog.proofs.Named.{get_nothing}
use Rattle.qa_qlog.proofs.says.get.Goals as goal

pub returns-in_err-members : goal.returns-in_err-members
returns-in_err-members c j begins =
    let gone : c.from_residual.result ≡ None = grind arith in
    subst (λ r. Finds r (get c.args.name.now j)) (sym gone) (get_nothing c.args.name.now j (c.in_err-members.ensures j begins))

pub loop-key-init : goal.loop-key-init
loop-key-init c j begins =
    let shape = c.in_ok-members.ensures j begins in
    (shape.0, shape.2, (None, refl, ap (get c.args.name.now) shape.1 ∙ or_none _))

pub loop-key-preserved-then-is_same : goal.loop-key-preserved-then-is_same
loop-key-preserved-then-is_same c j begins =
    let name = c.args.name.now in
    let now = c.loop-key.invariant j begins in
    let f = c.in-Some.ensures.value now.0 now.1 in
    let same : bytes_eq c.in-Some.key.now name ≡ true = grind arith in
    (f.1, f.4, named name c.in-Some.key.now (get name j) now.0 f.1 f.0 c.loop-key.found c.in-Some.member now.2 f.2 f.3 same)

pub loop-key-preserved : goal.loop-key-preserved
loop-key-preserved c j begins =
    let name = c.args.name.now in
    let now = c.loop-key.invariant j begins in
    let f = c.in-Some.ensures.value now.0 now.1 in
    let differs : bytes_eq c.in-Some.key.now name ≡ false = grind arith in
    (f.1, f.4, other name c.in-Some.key.now (get name j) now.0 f.1 f.0 c.loop-key.found now.2 f.2 differs)

pub returns : goal.returns
returns c j begins =
    let now = c.loop-key.invariant j begins in
    let done : now.0 ≡ no_members = subst (λ r. NextMember c.loop-key.members (option_map (λ m. (m.0.now, m.1)) r) c.next.new.self) c.in_default.is c.next.ensures.value now.0 now.1 in
    ended c.args.name.now (get c.args.name.now j) now.0 c.loop-key.found now.2 done
