use Rattle.qa_base.specs.declared.key.Key.TheVariants as key
use Rattle.qa_base.specs.declared.line_kind.LineKind.TheVariants as kinds
use Rattle.qa_base.specs.values.Names.{line_kind_name, permission_name, space_name}
use Rattle.qa_format.specs.format.Written.{boolean, integer, string}
use Rattle.qa_fast_writer.proofs.Added.{last, none, one}
use Rattle.qa_fast_writer.proofs.events.put_sent.Goals as goal

pub returns-clause-text : goal.returns-clause-text
returns-clause-text c =
    let s0 = none c.args.out.now.items in
    let s1 = one c.put_flag.new.out.items (key.Eliciting, boolean c.args.packet.now.eliciting) s0 c.in_ok-put_flag.ensures in
    let s2 = one c.put_kind.new.out.items (key.Event, string (line_kind_name kinds.Sent)) s1 c.in_ok-put_kind.ensures in
    let s3 = one c.put_flag-2.new.out.items (key.InFlight, boolean c.args.packet.now.in_flight) s2 c.in_ok-put_flag-2.ensures in
    let s4 = one c.put_permission.new.out.items (key.Leave, string (permission_name c.args.packet.now.permission)) s3 c.in_ok-put_permission.ensures in
    let s5 = one c.put_number.new.out.items (key.Number, integer c.args.packet.now.number) s4 c.in_ok-put_number.ensures.put in
    let s6 = one c.put_integer.new.out.items (key.Size, integer c.args.packet.now.size) s5 c.in_ok-put_integer.ensures in
    let s7 = one c.put_space.new.out.items (key.Space, string (space_name c.args.packet.now.space)) s6 c.in_ok-put_space.ensures in
    last c.put_time.result (λ h. (one c.put_time.new.out.items (key.Time, integer c.args.packet.now.time) s7 h).is) c.put_time.ensures.put
