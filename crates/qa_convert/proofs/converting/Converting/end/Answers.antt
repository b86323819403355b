use Rattle.qa_convert.proofs.converting.Converting.end.Goals as goal

pub returns : goal.returns
returns c =
    let let_go = c.in_ok-let_go.ensures in
    let grouped = c.in_ok-group.ensures in
    let wrote = c.in_ok-write_groups.ensures in
    record {
      ordered = c.let_go.new.self.events.items;
      let_go = let_go.order;
      held = c.group.new.self.groups;
      gathered = c.group.new.self.ready.items;
      gathers = rw (let_go.groups, let_go.ready) at grouped.groups;
      written = c.end.new.out.items;
      ends = c.in_ok-end.ensures;
      told = rw (c.in_ok-warn.ensures.told, c.in_ok-end-2.ensures.told) (rw (grouped.conversion, let_go.conversion) at wrote.told);
    }
