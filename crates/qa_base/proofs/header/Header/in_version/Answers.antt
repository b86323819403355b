use Rattle.std.proofs.Common.{rules, ◌≡◌, sym, refl, Bool, true, false, List, [], ◌∷◌}
use Rattle.std.specs.Prelude.{Option, Some, Err, if◌then◌else◌}
use Rattle.qa_base.specs.declared.key.Key.{Key}
use Rattle.qa_base.specs.values.Settings.{Settings, first_outside, options_outside, unless_outside}
use Rattle.qa_base.proofs.header.Header.in_version.Goals as goal

outside_by : (is_outside : Bool) (name : Key) (tests : List (Bool × Key)) (s : Settings) (k : Key)
    → (if is_outside then Some name else first_outside tests) ≡ Some k
    → (first_outside tests ≡ Some k → unless_outside tests s ≡ Err (record { 0 = k }))
    → (if is_outside then Err (record { 0 = name }) else unless_outside tests s) ≡ Err (record { 0 = k })
outside_by true name tests s k is others = let same : name ≡ k = cc in rw same refl
outside_by false name tests s k is others = others is

-- the fault has the key of the first option that is out of its range
outside_at : (tests : List (Bool × Key)) (s : Settings) (k : Key) → first_outside tests ≡ Some k → unless_outside tests s ≡ Err (record { 0 = k })
outside_at [] s k is = cc
outside_at (test ∷ tests) s k is = outside_by test.0 test.1 tests s k is (outside_at tests s k)

-- Written out, so that a wrong body is refused at this line.
pub returns-in-Some : goal.returns-in-Some
returns-in-Some c =
    let options = c.args.options in
    let set : Settings = record c.args.self { version = c.args.version; options = options } in
    let is : first_outside (options_outside options) ≡ Some c.in-Some.key = search rules in
    sym (outside_at (options_outside options) set c.in-Some.key is)
