use Rattle.serde_json.specs.Data.{array}
use Rattle.qa_base.specs.declared.key.Key.TheVariants as key
use Rattle.qa_base.specs.declared.line_kind.LineKind.TheVariants as kinds
use Rattle.qa_base.specs.values.Names.{line_kind_name, space_name}
use Rattle.qa_format.specs.format.Written.{boolean, integer, integer_pairs, string}
use Rattle.qa_fast_writer.proofs.Added.{last, none, one}
use Rattle.qa_fast_writer.proofs.events.put_ack.Goals as goal

pub returns-clause-text : goal.returns-clause-text
returns-clause-text c =
    let s0 = none c.args.out.now.items in
    let s1 = one c.put_integer.new.out.items (key.Delay, integer c.args.ack.now.delay) s0 c.in_ok-put_integer.ensures in
    let s2 = one c.put_kind.new.out.items (key.Event, string (line_kind_name kinds.Ack)) s1 c.in_ok-put_kind.ensures in
    let s3 = one c.put_flag.new.out.items (key.Limited, boolean c.args.ack.now.app_limited) s2 c.in_ok-put_flag.ensures in
    let s4 = one c.put_ranges.new.out.items (key.Ranges, array (integer_pairs c.args.ack.now.ranges)) s3 c.in_ok-put_ranges.ensures.put in
    let s5 = one c.put_space.new.out.items (key.Space, string (space_name c.args.ack.now.space)) s4 c.in_ok-put_space.ensures in
    last c.put_time.result (λ h. (one c.put_time.new.out.items (key.Time, integer c.args.ack.now.time) s5 h).is) c.put_time.ensures.put
