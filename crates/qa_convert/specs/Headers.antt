-- What the header of a trace says of its connection: what the log says, or what stands in the table
-- of its dialect, or a guess that the line says it is.
use Rattle.std.specs.Prelude.{◌≡◌, ◌*◌, ◌==◌, ◌&&◌, ◌||◌, ℕ, Bool, true, false, List, Option}
use Rattle.std.specs.Prelude.{None, Some, if◌then◌else◌, nat_lt, unwrap_or}
use Rattle.std.specs.Option.{option_or}
use Rattle.serde_json.specs.Data.{Members}
use Rattle.serde_json.specs.Find.{get_member}
use Rattle.qa_base.specs.declared.header.ConnectionValues.{ConnectionValues}
use Rattle.qa_base.specs.declared.header.Options.{Options}
use Rattle.qa_base.specs.declared.space.TimeUnit.{TimeUnit}
use Rattle.qa_base.specs.values.Constants.{default_initial_rtt, default_max_ack_delay}
use Rattle.qa_base.specs.values.Constants.{minimum_window}
use Rattle.qa_base.specs.values.Limits.{in_range, max_initial_rtt_ns, max_initial_window}
use Rattle.qa_base.specs.values.Limits.{max_packet_size, min_datagram_size}
use Rattle.qa_base.specs.values.Settings as settings
use Rattle.qa_base.specs.values.Settings.{Settings, default_window, is_reported}
use Rattle.qa_format.specs.declared.line.Line.TheVariants as line
use Rattle.qa_format.specs.format.Lines.{with_lf}
use Rattle.qa_convert.specs.Asking.{Asks, options_in, said_in, unit_of, version_of}
use Rattle.qa_convert.specs.Dialects.{IsLike}
use Rattle.qa_convert.specs.Guesses.{guess_text}
use Rattle.qa_convert.specs.Marks.{lists}
use Rattle.qa_convert.specs.Outputs.{in_unit}
use Rattle.qa_convert.specs.OwnKeys.{noted, own_key_name}
use Rattle.qa_convert.specs.Sources.{Sources, not_zero, rtt_said}
use Rattle.qa_convert.specs.declared.dialects.Dialect.{Dialect}
use Rattle.qa_convert.specs.declared.guess.Guess.{Guess}
use Rattle.qa_convert.specs.declared.guess.Guess.TheVariants as guess
use Rattle.qa_convert.specs.declared.header.Choices.{Choices}
use Rattle.qa_convert.specs.declared.header.Format.{Format}
use Rattle.qa_convert.specs.declared.header.Format.TheVariants.{Three}
use Rattle.qa_convert.specs.declared.own.OwnKey.TheVariants as keys
use Rattle.qa_convert.specs.declared.trace.Asked.{Asked}

-- the peer's delay; where the log does not say it, 25 ms, which is a guess (RFC 9000, section 18.2)
abbrev pub IsDelay : TimeUnit → Option ℕ → (Guess → Bool) → ℕ → Type 0
IsDelay unit (Some ns) says delay = delay ≡ in_unit unit ns
IsDelay unit None says delay =
    (delay ≡ settings.in_unit unit default_max_ack_delay) × (says guess.NoMaxAckDelay ≡ true)

-- an RTT in the unit of the trace, if a header can say it
abbrev pub rtt_in : TimeUnit → ℕ → Option ℕ
rtt_in unit ns =
    if in_unit unit ns == 0 || nat_lt max_initial_rtt_ns ns then None else Some (in_unit unit ns)

-- that RTT, or 333 ms (RFC 9002, section 6.2.2)
abbrev pub rtt_or_default : TimeUnit → Option ℕ → ℕ
rtt_or_default unit rtt = unwrap_or rtt (settings.in_unit unit default_initial_rtt)

-- the RTT before a sample: what the log says of it; else what stands in the table of the dialect,
-- which is a guess; else what the first report says
abbrev pub IsInitialRtt : TimeUnit → Option ℕ → Option ℕ → Option ℕ → (Guess → Bool) → ℕ → Type 0
IsInitialRtt unit (Some ns) table first says rtt = rtt ≡ rtt_or_default unit (rtt_in unit ns)
IsInitialRtt unit None (Some us) first says rtt =
    (rtt ≡ rtt_or_default unit (rtt_in unit (us * 1000))) × (says guess.InitialRtt ≡ true)
IsInitialRtt unit None None (Some ns) says rtt = rtt ≡ rtt_or_default unit (rtt_in unit ns)
IsInitialRtt unit None None None says rtt = rtt ≡ rtt_or_default unit None

-- the size is said to be a guess
abbrev pub says_size : (Guess → Bool) → Bool
says_size says =
    says guess.DatagramByWindow || says guess.DatagramByPacket || says guess.DatagramLeast

-- the size of datagrams that the log says, if a header can say it
abbrev pub size_said : Option ℕ → Option ℕ
size_said = said_in min_datagram_size max_packet_size

-- that size, or a guess
abbrev pub IsSize : Option ℕ → (Guess → Bool) → ℕ → Type 0
IsSize (Some n) says size = size ≡ n
IsSize None says size = says_size says ≡ true

-- the first window that the parameters of recovery or reports say
abbrev pub window_said : Sources → Option ℕ
window_said log = option_or log.recovery.initial_window log.first_window

-- it, if a header can say it, or the first window of RFC 9002, section 7.2
abbrev pub window_of : ℕ → Option ℕ → ℕ
window_of size None = default_window size
window_of size (Some n) =
    unwrap_or (in_range (minimum_window size) max_initial_window n) (default_window size)

-- the first window: where the stack hides its own, the greatest, which is a guess
abbrev pub IsWindow : Bool → ℕ → Option ℕ → (Guess → Bool) → ℕ → Type 0
IsWindow true size said says window =
    (window ≡ window_of size (Some max_initial_window)) × (says guess.HiddenWindow ≡ true)
IsWindow false size said says window = window ≡ window_of size said

-- a header that says these guesses, by what a user says, by the dialect that was found, and by what
-- the log says
pub record HeaderSays (c : Choices) (d : Dialect) (log : Sources) (says : Guess → Bool)
    (s : Settings) : Type 0 where
  pub version : s.version ≡ version_of c.format
  pub unit : s.unit ≡ unit_of c d log
  pub delay : IsDelay s.unit log.of_peer.max_ack_delay says s.max_ack_delay
  pub rtt : IsInitialRtt s.unit (not_zero (rtt_said log)) d.initial_rtt log.first_smoothed says
      s.initial_rtt
  pub size : IsSize (size_said log.recovery.max_datagram_size) says s.max_datagram_size
  pub window : IsWindow (d.hides_window && is_reported s.options.controller)
      s.max_datagram_size (window_said log) says s.initial_window
  pub controller : c.format ≡ Three → is_reported s.options.controller ≡ false
      → log.has_window ≡ false → says guess.NoWindow ≡ true
  pub options : Asks c.format c d log s.options

-- a header has these values, in this unit, and of these options what the version of the format says
pub record Keeps (f : Format) (u : TimeUnit) (values : ConnectionValues) (o : Options)
    (s : Settings) : Type 0 where
  pub role : s.role ≡ values.role
  pub unit : s.unit ≡ u
  pub version : s.version ≡ version_of f
  pub size : s.max_datagram_size ≡ values.max_datagram_size
  pub delay : s.max_ack_delay
      ≡ unwrap_or values.max_ack_delay (settings.in_unit u default_max_ack_delay)
  pub rtt : s.initial_rtt ≡ rtt_or_default u values.initial_rtt
  pub window : s.initial_window
      ≡ unwrap_or values.initial_window (default_window values.max_datagram_size)
  pub options : s.options ≡ options_in f o

-- own keys say that this was guessed
abbrev pub own_say : Members → Guess → Bool
own_say own g = lists (guess_text g) (get_member (own_key_name keys.Guess) own)

-- bytes are the line of such a header, in this unit of time, by a dialect that was found
pub record IsHeaderOf (asked : Asked) (log : Sources) (u : TimeUnit) (bytes : List ℕ) : Type 0 where
  pub settings : Settings
  pub own : Members
  pub text : bytes ≡ with_lf (noted (line.Header settings) own)
  pub role : settings.role ≡ asked.role
  pub unit : settings.unit ≡ u
  pub found : Dialect
  pub like : IsLike asked.dialect found
  pub says : HeaderSays asked.choices found log (own_say own) settings
