use Rattle.std.proofs.Common.{◌≡◌, Result, refl, subst, sym}
use Rattle.std.specs.Prelude.{IfOk}
use Rattle.qa_base.specs.declared.header.Version.TheVariants as versions
use Rattle.qa_base.specs.declared.key.RangeFault.{RangeFault}
use Rattle.qa_base.specs.declared.space.TimeUnit.TheVariants.{Microseconds}
use Rattle.qa_base.specs.values.Settings.{Settings, version_with}
use Rattle.qa_convert.proofs.Units.{kept_bare, kept_with, made_in, second_version, unless_three}
use Rattle.qa_convert.specs.Headers.{Keeps}
use Rattle.qa_convert.specs.declared.header.Format.{Format}
use Rattle.qa_convert.specs.declared.header.Format.TheVariants.{One, Two, Three}
use Rattle.qa_convert.proofs.header.Choices.made.Goals as goal

pub returns-in-One : goal.returns-in-One
returns-in-One c =
    let unit = c.args.unit in
    let values = c.args.values in
    let made = c.in_ok-header.header in
    let micro : unit ≡ Microseconds = unless_three c.args.self.now.format unit One c.in-One.is (λ e. cc) c.requires.unit in
    subst (λ (f : Format). Keeps f unit values c.args.options made) (sym c.in-One.is)
    (kept_bare unit values c.args.options made (made_in unit values made c.in_ok-header.ensures) micro)

pub returns-in-Two : goal.returns-in-Two
returns-in-Two c =
    let unit = c.args.unit in
    let values = c.args.values in
    let options = c.args.options in
    let made = c.in_ok-header.header in
    let is_made = made_in unit values made c.in_ok-header.ensures in
    let micro : unit ≡ Microseconds = unless_three c.args.self.now.format unit Two c.in-Two.is (λ e. cc) c.requires.unit in
    let second : version_with made.version options ≡ versions.Two = second_version unit made.version options is_made.version micro (c.requires.fits c.in-Two.is) in
    subst (λ (f : Format). IfOk c.with.result (Keeps f unit values options)) (sym c.in-Two.is)
    (subst (λ (r : Result Settings RangeFault). IfOk r (Keeps Two unit values options)) (sym c.with.ensures)
    (kept_with Two unit values (version_with made.version options) options made is_made second refl))

pub returns-in-Three : goal.returns-in-Three
returns-in-Three c =
    let unit = c.args.unit in
    let values = c.args.values in
    let options = c.args.options in
    let made = c.in_ok-header.header in
    subst (λ (f : Format). IfOk c.choosing.result (Keeps f unit values options)) (sym c.in-Three.is)
    (subst (λ (r : Result Settings RangeFault). IfOk r (Keeps Three unit values options)) (sym c.choosing.ensures)
    (kept_with Three unit values versions.Three options made (made_in unit values made c.in_ok-header.ensures) refl refl))
