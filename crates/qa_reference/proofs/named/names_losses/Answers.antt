use Rattle.std.proofs.Common.{◌∙◌, ◌&&◌, sym, ap, ap₂, Bool, List}
use Rattle.std.specs.List.{list_all}
use Rattle.qa_base.specs.machine.Breaches.{numbers}
use Rattle.qa_base.specs.machine.Numbers.{names_between}
use Rattle.qa_base.specs.values.Events.{is_named}
use Rattle.qa_base.specs.machine.Packets.{Packet, history_of}
use Rattle.qa_reference.specs.Looks.{numbers_found}
use Rattle.qa_reference.proofs.Owed.{owed_by}
use Rattle.qa_reference.proofs.Taken.{nameable_seen}
use Rattle.qa_reference.proofs.named.names_losses.Goals as goal

pub returns-then-has_all : goal.returns-then-has_all
returns-then-has_all c =
    let h = history_of c.args.events.now in
    let numbers_are = numbers_found h c.args.look h in
    let both = λ (all : Bool). all && list_all (is_named c.args.ranges.now) numbers_are in
    c.all_named.ensures ∙ ap both (sym c.if-has_all.true ∙ c.has_all.ensures)
    ∙ sym (ap₂ (λ (ps qs : List Packet). names_between c.args.ranges.now (numbers ps) (numbers qs)) (owed_by c.args.header.now h c.args.look c.requires.seen) (nameable_seen c.args.header.now h c.args.look c.requires.seen))

pub returns-else-has_all : goal.returns-else-has_all
returns-else-has_all c =
    let h = history_of c.args.events.now in
    let numbers_are = numbers_found h c.args.look h in
    let both = λ (all : Bool). all && list_all (is_named c.args.ranges.now) numbers_are in
    c.if-has_all.false ∙ ap both (sym c.if-has_all.false ∙ c.has_all.ensures)
    ∙ sym (ap₂ (λ (ps qs : List Packet). names_between c.args.ranges.now (numbers ps) (numbers qs)) (owed_by c.args.header.now h c.args.look c.requires.seen) (nameable_seen c.args.header.now h c.args.look c.requires.seen))
