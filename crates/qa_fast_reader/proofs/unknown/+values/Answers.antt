use Rattle.std.proofs.Common.{◌++◌, ◌∷◌, [], arith}
use Rattle.std.proofs.lemmas.Option.{IfSome_then}
use Rattle.serde_json.specs.Data as json
use Rattle.serde_json.specs.Data.{put}
use Rattle.qa_fast_reader.specs.Items.{items_after}
use Rattle.qa_fast_reader.proofs.Items.{simple_is_value, empty_is_value, items_begin, items_go_on, items_end, empty_object_is_value, inner_begins, inner_goes_on, inner_ends, some_member}
use Rattle.qa_fast_reader.proofs.unknown.+values.Goals as goal

pub value-returns-in_default-first : goal.value-returns-in_default-first
value-returns-in_default-first t c =
    IfSome_then c.simple_value.result c.simple_value.ensures (λ rest one. (one.0, simple_is_value c.args.depth one.0 c.args.bytes.now rest.now one.1))

pub list-returns-in-Some : goal.list-returns-in-Some
list-returns-in-Some t c =
    (json.array json.no_items, empty_is_value c.args.depth c.args.bytes.now c.in_ok-inside.inside.now c.in-Some.rest.now (omega arith) c.in_ok-inside.ensures c.in-Some.ensures)

pub list-returns : goal.list-returns
list-returns t c = c.list_end.ensures c.args.depth c.args.bytes.now [] (omega arith) (items_begin c.args.depth c.args.bytes.now c.in_ok-inside.inside.now c.in_ok-inside.ensures)

pub list_end-loop-i-init : goal.list_end-loop-i-init
list_end-loop-i-init t c d whole seen below before = (seen, before)

pub list_end-loop-i-preserved : goal.list_end-loop-i-preserved
list_end-loop-i-preserved t c d whole seen below before =
    let now = c.loop-i.invariant d whole seen below before in
    let one = c.in_ok-behind.ensures in
    (now.0 ++ one.0 ∷ [], items_go_on d c.args.depth one.0 now.0 whole c.loop-i.rest.now c.in_ok-behind.behind.now c.in-Some.more.now below now.1 one.1 c.in-Some.ensures)

pub list_end-returns-in_default : goal.list_end-returns-in_default
list_end-returns-in_default t c d whole seen below before =
    let now = c.loop-i.invariant d whole seen below before in
    let one = c.in_ok-behind.ensures in
    IfSome_then c.end_array.result c.end_array.ensures
    (λ rest closed. (
      json.array (items_after (now.0 ++ one.0 ∷ []) json.no_items),
      items_end d c.args.depth one.0 now.0 whole c.loop-i.rest.now c.in_ok-behind.behind.now rest.now below now.1 one.1 closed,
    ))

pub object-returns-in-Some : goal.object-returns-in-Some
object-returns-in-Some t c =
    (json.object json.no_members, empty_object_is_value c.args.depth c.args.bytes.now c.in_ok-inside.inside.now c.in-Some.rest.now (omega arith) c.in_ok-inside.ensures c.in-Some.ensures)

pub object-returns : goal.object-returns
object-returns t c = c.object_end.ensures c.args.depth c.args.bytes.now json.no_members (omega arith) (inner_begins c.args.depth c.args.bytes.now c.in_ok-inside.inside.now c.in_ok-inside.ensures)

pub object_end-loop-i-init : goal.object_end-loop-i-init
object_end-loop-i-init t c d whole seen below before = (seen, before)

pub object_end-loop-i-preserved : goal.object_end-loop-i-preserved
object_end-loop-i-preserved t c d whole seen below before =
    let now = c.loop-i.invariant d whole seen below before in
    let one = c.in_ok-behind.ensures in (
      put one.0 one.1 now.0,
      inner_goes_on d c.args.depth one.0 one.1 now.0 whole c.loop-i.rest.now c.in_ok-behind.behind.now c.in-Some.more.now below now.1 one.2 c.in-Some.ensures,
    )

pub object_end-returns-in_default : goal.object_end-returns-in_default
object_end-returns-in_default t c d whole seen below before =
    let now = c.loop-i.invariant d whole seen below before in
    let one = c.in_ok-behind.ensures in
    IfSome_then c.end_object.result c.end_object.ensures
    (λ rest closed. (
      json.object (put one.0 one.1 now.0),
      inner_ends d c.args.depth one.0 one.1 now.0 whole c.loop-i.rest.now c.in_ok-behind.behind.now rest.now below now.1 one.2 closed,
    ))

pub member-returns : goal.member-returns
member-returns t c =
    IfSome_then c.value.result c.value.ensures
    (λ rest one. some_member c.args.depth c.args.bytes.now c.in_ok-behind.behind.now c.in_ok-colon.field-0.now rest.now c.in_ok-behind.ensures c.in_ok-colon.ensures one)
