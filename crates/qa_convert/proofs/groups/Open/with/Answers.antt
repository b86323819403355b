use Rattle.std.proofs.Common.{◌≡◌, refl}
use Rattle.qa_convert.proofs.Opened.{beside_more, fits_more, told_more}
use Rattle.qa_convert.specs.declared.groups.Takes.TheVariants as takes
use Rattle.qa_convert.proofs.groups.Open.with.Goals as goal

pub returns-then-has : goal.returns-then-has
returns-then-has c =
    let o = c.args.self.now in
    let d = c.args.dialect.now in
    let some : o.takes ≡ takes.Nothing → ⊥ = λ is. let no = c.if-has.ensures.nothing is in cc in
    let fits = c.requires.1 in
    rw c.in_ok-push.ensures.items (
      (
        record { about = c.requires.0.about; beside = beside_more o.group.beside.items c.args.event c.requires.0.beside (c.if-has.ensures.beside refl) },
        fits_more d.metrics_stand_before d.losses_stand_before o.group.about o.group.beside.items o.takes c.args.event fits some,
      ),
      told_more d.metrics_stand_before d.losses_stand_before o.group.about o.group.beside.items o.takes c.args.event fits some,
    )
