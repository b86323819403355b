-- The values of a header: each that it is made of stays.
use Rattle.std.proofs.Common.{◌≡◌, ◌∙◌, ◌⊎◌, inl, inr, Bool, true, false, List, [], ◌∷◌, Ok, Err, Result, ap, refl, subst, sym}
use Rattle.std.specs.Prelude.{IfOk, if◌then◌else◌, unwrap_or}
use Rattle.qa_base.specs.declared.header.ConnectionValues.{ConnectionValues}
use Rattle.qa_base.specs.declared.header.Options.{Options}
use Rattle.qa_base.specs.declared.header.Version.{Version}
use Rattle.qa_base.specs.declared.header.Version.TheVariants as versions
use Rattle.qa_base.specs.declared.key.Key.{Key}
use Rattle.qa_base.specs.declared.key.RangeFault.{RangeFault}
use Rattle.qa_base.specs.declared.space.TimeUnit.{TimeUnit}
use Rattle.qa_base.specs.declared.space.TimeUnit.TheVariants.{Microseconds}
use Rattle.qa_base.specs.values.Constants.{default_initial_rtt, default_max_ack_delay}
use Rattle.qa_base.specs.values.Settings.{Settings, default_window, fit_version_two, in_unit, in_version, no_options, options_outside, settings_in, unless_outside, values_outside, version_in, version_with}
use Rattle.qa_convert.specs.Asking.{options_in, version_of}
use Rattle.qa_convert.specs.Headers.{Keeps}
use Rattle.qa_convert.specs.declared.header.Format.{Format}
use Rattle.qa_convert.specs.declared.header.Format.TheVariants.{One, Three}

unless_this : (P : Settings → Type 0) (is_outside : Bool) (k : Key) (others : Result Settings RangeFault)
    → IfOk others P → IfOk (if is_outside then Err (record { 0 = k }) else others) P
unless_this P true k others holds = tt
unless_this P false k others holds = holds

if_inside : (P : Settings → Type 0) (tests : List (Bool × Key)) (s : Settings) → P s → IfOk (unless_outside tests s) P
if_inside P [] s holds = holds
if_inside P (test ∷ tests) s holds = unless_this P test.0 test.1 (unless_outside tests s) (if_inside P tests s holds)

-- the first header of these values, in the first version that says the unit
pub record IsMade (u : TimeUnit) (v : ConnectionValues) (s : Settings) : Type 0 where
  pub role : s.role ≡ v.role
  pub unit : s.unit ≡ u
  pub version : s.version ≡ version_in u
  pub size : s.max_datagram_size ≡ v.max_datagram_size
  pub delay : s.max_ack_delay ≡ unwrap_or v.max_ack_delay (in_unit u default_max_ack_delay)
  pub rtt : s.initial_rtt ≡ unwrap_or v.initial_rtt (in_unit u default_initial_rtt)
  pub window : s.initial_window ≡ unwrap_or v.initial_window (default_window v.max_datagram_size)
  pub options : s.options ≡ no_options

pub made_in : (unit : TimeUnit) (v : ConnectionValues) (made : Settings)
    → Ok made ≡ settings_in unit v.role v.max_datagram_size v.max_ack_delay v.initial_rtt v.initial_window → IsMade unit v made
made_in unit v made is =
    let s : Settings = record {
      role = v.role;
      unit = unit;
      max_datagram_size = v.max_datagram_size;
      max_ack_delay = unwrap_or v.max_ack_delay (in_unit unit default_max_ack_delay);
      initial_rtt = unwrap_or v.initial_rtt (in_unit unit default_initial_rtt);
      initial_window = unwrap_or v.initial_window (default_window v.max_datagram_size);
      version = version_in unit;
      options = no_options;
    } in
    subst (λ (r : Result Settings RangeFault). IfOk r (IsMade unit v)) (sym is)
    (if_inside (IsMade unit v) (values_outside s) s (record { role = refl; unit = refl; version = refl; size = refl; delay = refl; rtt = refl; window = refl; options = refl }))

-- with options that this version of the format says
pub kept_with : (f : Format) (unit : TimeUnit) (v : ConnectionValues) (version : Version) (options : Options) (s : Settings)
    → IsMade unit v s → version ≡ version_of f → options ≡ options_in f options
    → IfOk (in_version version s options) (Keeps f unit v options)
kept_with f unit v version options s made is said =
    if_inside (Keeps f unit v options) (options_outside options) (record s { version = version; options = options })
    (record { role = made.role; unit = made.unit; version = is; size = made.size; delay = made.delay; rtt = made.rtt; window = made.window; options = said })

-- without options
pub kept_bare : (unit : TimeUnit) (v : ConnectionValues) (options : Options) (s : Settings) → IsMade unit v s → unit ≡ Microseconds → Keeps One unit v options s
kept_bare unit v options s made is = record {
  role = made.role;
  unit = made.unit;
  version = made.version ∙ ap version_in is;
  size = made.size;
  delay = made.delay;
  rtt = made.rtt;
  window = made.window;
  options = made.options;
}

-- version 2 says what fits it
pub second_version : (unit : TimeUnit) (version : Version) (options : Options) → version ≡ version_in unit → unit ≡ Microseconds → fit_version_two options ≡ true
    → version_with version options ≡ versions.Two
second_version unit version options is micro fits =
    ap (λ v. version_with v options) (is ∙ ap version_in micro) ∙ ap (λ (b : Bool). if b then versions.Two else versions.Three) fits

-- another version than the third has microseconds
pub unless_three : (f : Format) (unit : TimeUnit) (other : Format) → f ≡ other → (other ≡ Three → ⊥) → f ≡ Three ⊎ unit ≡ Microseconds → unit ≡ Microseconds
unless_three f unit other is differs (inl three) = absurd (differs (sym is ∙ three))
unless_three f unit other is differs (inr micro) = micro
