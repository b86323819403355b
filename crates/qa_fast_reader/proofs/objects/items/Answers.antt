use Rattle.std.proofs.Common.{List, map, sym, subst, rules}
use Rattle.std.proofs.lemmas.Option.{IfSome_then}
use Rattle.serde_json.specs.View.{view}
use Rattle.serde_json.specs.declared.value.Value.{Value}
use Rattle.qa_scan.specs.Lexes.{deepest}
use Rattle.qa_fast_reader.specs.Items.{FollowsItems}
use Rattle.qa_fast_reader.proofs.Making.{made_go_on, made_end}
use Rattle.qa_fast_reader.proofs.objects.items.Goals as goal

pub loop-i-init : goal.loop-i-init
loop-i-init c whole before = let P : List Value → Type 0 = λ vs. FollowsItems deepest (map view vs) whole c.args.bytes.now in subst P (sym c.requires) before

pub loop-i-preserved : goal.loop-i-preserved
loop-i-preserved c whole before =
    made_go_on c.simple_value.new.into c.loop-i.into.items c.push.new.self.items whole c.loop-i.rest.now c.in_ok-behind.behind.now c.in-Some.more.now
    (c.loop-i.invariant whole before) c.in_ok-behind.ensures (search rules) c.in-Some.ensures

pub returns-in_default : goal.returns-in_default
returns-in_default c whole before =
    IfSome_then c.end_array.result c.end_array.ensures
    (λ rest closed. made_end c.simple_value.new.into c.loop-i.into.items c.push.new.self.items whole c.loop-i.rest.now c.in_ok-behind.behind.now rest.now
    (c.loop-i.invariant whole before) c.in_ok-behind.ensures (search rules) closed)
