use Rattle.std.proofs.Common.{◌≡◌, ◌∙◌, sym, ap, rules}
use Rattle.std.specs.BTreeMap.Range.{entries_between}
use Rattle.std.specs.Ordering.{nat_cmp}
use Rattle.std.specs.Prelude.{slice_get}
use Rattle.std.specs.declared.ops.Bound.TheVariants.{Included}
use Rattle.qa_convert.proofs.Flown.{first_of_part}
use Rattle.qa_convert.proofs.flight.Flight.first_named.Goals as goal

pub returns-in-None : goal.returns-in-None
returns-in-None c =
    let s = c.args.span in
    let between : c.range.result ≡ entries_between nat_cmp (Included s.0) (Included s.1) c.self.inside.packets.entries = search rules in
    rw (← c.self.view_is) (sym (first_of_part s.0 s.1 c.self.inside.packets.entries ∙ ap (λ es. slice_get es 0) (sym between ∙ c.in-None.ensures.steps.0)))

pub returns-in-Some : goal.returns-in-Some
returns-in-Some c =
    let s = c.args.span in
    let between : c.range.result ≡ entries_between nat_cmp (Included s.0) (Included s.1) c.self.inside.packets.entries = search rules in
    rw (← c.self.view_is) (sym (first_of_part s.0 s.1 c.self.inside.packets.entries ∙ ap (λ es. slice_get es 0) (sym between ∙ c.in-Some.ensures.steps)))
