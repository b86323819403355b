use Rattle.std.proofs.Common.{◌≡◌, ◌∙◌, Bool, true, false, List, ℕ, Some, None, Result, Ok, Err, refl, sym, ap}
use Rattle.std.specs.Prelude.{bytes_eq, if◌then◌else◌}
use Rattle.serde_json.specs.Data.{Data}
use Rattle.serde_json.specs.View.{view}
use Rattle.qa_format.specs.declared.fault.Fault.{Fault}
use Rattle.qa_format.specs.declared.fault.Fault.TheVariants.{OutOfRange}
use Rattle.qa_base.specs.declared.key.Key.TheVariants as key
use Rattle.qa_base.specs.declared.space.Space.{Space}
use Rattle.qa_base.specs.declared.space.Space.TheVariants.{Initial, Handshake, App}
use Rattle.qa_format.specs.format.Keys.{◌>>=◌, ranged, required, required_value, string, string_among}
use Rattle.qa_format.specs.format.Tables as tables
use Rattle.qa_base.specs.values.Names.{discarded_named, space_name, space_named}
use Rattle.qa_read.proofs.Ranged.{handed_on}
use Rattle.qa_read.proofs.fields.discarded_space.Goals as goal

-- a space whose keys are discarded
abbrev discarded : Space → Result Space Fault
discarded App = Err (OutOfRange key.Space)
discarded space = Ok space

not_app : (space : Space) → (space ≡ App → ⊥) → Ok space ≡ discarded space
not_app Initial other = refl
not_app Handshake other = refl
not_app App other = absurd (other refl)

of_names : (initial handshake app : Bool)
    → (ranged key.Space (if initial then Some Initial else (if handshake then Some Handshake else (if app then Some App else None))) >>= discarded)
    ≡ ranged key.Space (if initial then Some Initial else (if handshake then Some Handshake else None))
of_names true handshake app = refl
of_names false true app = refl
of_names false false true = refl
of_names false false false = refl

of_string : (r : Result (List ℕ) Fault) → ((r >>= λ t. ranged key.Space (space_named t)) >>= discarded) ≡ (r >>= λ t. ranged key.Space (discarded_named t))
of_string (Ok t) = of_names (bytes_eq t (space_name Initial)) (bytes_eq t (space_name Handshake)) (bytes_eq t (space_name App))
of_string (Err e) = refl

of_value : (r : Result Data Fault) → ((r >>= string_among space_named key.Space) >>= discarded) ≡ (r >>= string_among discarded_named key.Space)
of_value (Ok v) = of_string (string key.Space v)
of_value (Err e) = refl

-- the key, by what it is where every space may stand
of_space : (d : Data) (r : Result Space Fault) → r ≡ tables.space d → (r >>= discarded) ≡ required (string_among discarded_named) key.Space d
of_space d r is = ap (λ s. s >>= discarded) is ∙ of_value (required_value key.Space d)

pub returns-in-App : goal.returns-in-App
returns-in-App c = of_space (view c.args.object.now) (Ok App) (ap Ok (sym c.in-App.is) ∙ c.in_ok-discarded.ensures)

pub returns-in_default : goal.returns-in_default
returns-in_default c = not_app _ c.in_default.not-App ∙ of_space (view c.args.object.now) (Ok _) c.in_ok-discarded.ensures

pub returns-in_err-discarded : goal.returns-in_err-discarded
returns-in_err-discarded c =
    handed_on c.from_residual.result c.in_err-discarded.field-0.0 c.from_residual.ensures.1
    ∙ of_space (view c.args.object.now) (Err _) c.in_err-discarded.ensures
