use Rattle.serde_json.specs.Data.{array}
use Rattle.qa_base.specs.declared.key.Key.TheVariants as key
use Rattle.qa_base.specs.declared.line_kind.LineKind.TheVariants as kinds
use Rattle.qa_base.specs.values.Names.{line_kind_name, space_name}
use Rattle.qa_format.specs.format.Written.{integer, integer_pairs, string}
use Rattle.qa_fast_writer.proofs.Added.{last, none, one}
use Rattle.qa_fast_writer.proofs.events.put_lost.Goals as goal

pub returns-clause-text : goal.returns-clause-text
returns-clause-text c =
    let s0 = none c.args.out.now.items in
    let s1 = one c.put_kind.new.out.items (key.Event, string (line_kind_name kinds.Lost)) s0 c.in_ok-put_kind.ensures in
    let s2 = one c.put_ranges.new.out.items (key.Ranges, array (integer_pairs c.args.ranges.now)) s1 c.in_ok-put_ranges.ensures.put in
    let s3 = one c.put_space.new.out.items (key.Space, string (space_name c.args.space)) s2 c.in_ok-put_space.ensures in
    last c.put_time.result (λ h. (one c.put_time.new.out.items (key.Time, integer c.args.time) s3 h).is) c.put_time.ensures.put
