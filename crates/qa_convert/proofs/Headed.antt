-- What a header says of its connection.
use Rattle.std.proofs.Common.{◌≡◌, ◌∙◌, ◌||◌, ◌⊎◌, inl, inr, ℕ, Bool, true, false, List, Option, Some, None, codes, refl, sym, ap}
use Rattle.std.specs.Prelude.{◌&&◌, unwrap_or}
use Rattle.serde_json.specs.Data.{Data, Members, array, put}
use Rattle.qa_base.specs.declared.header.ConnectionValues.{ConnectionValues}
use Rattle.qa_base.specs.declared.header.Options.{Options}
use Rattle.qa_base.specs.declared.space.TimeUnit.{TimeUnit}
use Rattle.qa_base.specs.declared.space.TimeUnit.TheVariants.{Microseconds}
use Rattle.qa_base.specs.values.Constants.{default_max_ack_delay}
use Rattle.qa_base.specs.values.Settings as settings
use Rattle.qa_base.specs.values.Settings.{Settings, default_window, fit_version_two, is_reported}
use Rattle.qa_format.proofs.format.AnyOrder.{get_put, get_put_other}
use Rattle.qa_qlog.specs.declared.heads.Head.{Head}
use Rattle.qa_convert.proofs.Marked.{texts_have}
use Rattle.qa_convert.specs.Asking.{Asks, options_in, unit_in, unit_of}
use Rattle.qa_convert.specs.Dialects.{IsLike}
use Rattle.qa_convert.specs.Groups.{at_start}
use Rattle.qa_convert.specs.Guesses.{guess_text, texts_of}
use Rattle.qa_convert.specs.Headers.{HeaderSays, IsDelay, IsInitialRtt, IsSize, IsWindow, Keeps, own_say, rtt_or_default, says_size, size_said, window_said}
use Rattle.qa_convert.specs.Marks.{lists}
use Rattle.qa_convert.specs.Outputs.{has_guess}
use Rattle.qa_convert.specs.Sources.{Sources, not_zero, rtt_said}
use Rattle.qa_convert.specs.Taking.{Begins, Progress}
use Rattle.qa_convert.specs.declared.dialects.Dialect.{Dialect}
use Rattle.qa_convert.specs.declared.guess.Guess.{Guess}
use Rattle.qa_convert.specs.declared.guess.Guess.TheVariants as guess
use Rattle.qa_convert.specs.declared.header.Choices.{Choices}
use Rattle.qa_convert.specs.declared.header.Format.{Format}
use Rattle.qa_convert.specs.declared.header.Format.TheVariants.{One, Two, Three}

-- ---- more guesses

abbrev pub SaysMore : (Guess → Bool) → (Guess → Bool) → Type 0
SaysMore p q = (g : Guess) → p g ≡ true → q g ≡ true

pub delay_more : (unit : TimeUnit) (said : Option ℕ) (p q : Guess → Bool) (delay : ℕ) → SaysMore p q → IsDelay unit said p delay → IsDelay unit said q delay
delay_more unit (Some ns) p q delay more is = is
delay_more unit None p q delay more is = (is.0, more guess.NoMaxAckDelay is.1)

pub rtt_more : (unit : TimeUnit) (said table first : Option ℕ) (p q : Guess → Bool) (rtt : ℕ) → SaysMore p q
    → IsInitialRtt unit said table first p rtt → IsInitialRtt unit said table first q rtt
rtt_more unit (Some ns) table first p q rtt more is = is
rtt_more unit None (Some us) first p q rtt more is = (is.0, more guess.InitialRtt is.1)
rtt_more unit None None (Some ns) p q rtt more is = is
rtt_more unit None None None p q rtt more is = is

left_or : (c d : Bool) → c ≡ true → (c || d) ≡ true
left_or true d is = refl
left_or false d is = cc

right_or : (c d : Bool) → d ≡ true → (c || d) ≡ true
right_or true d is = refl
right_or false d is = is

or_more : (a b c d : Bool) → (a ≡ true → c ≡ true) → (b ≡ true → d ≡ true) → (a || b) ≡ true → (c || d) ≡ true
or_more true b c d first second is = left_or c d (first refl)
or_more false true c d first second is = right_or c d (second refl)
or_more false false c d first second is = cc

size_says : (p q : Guess → Bool) → SaysMore p q → says_size p ≡ true → says_size q ≡ true
size_says p q more is =
    or_more (p guess.DatagramByWindow || p guess.DatagramByPacket) (p guess.DatagramLeast) (q guess.DatagramByWindow || q guess.DatagramByPacket) (q guess.DatagramLeast)
    (or_more (p guess.DatagramByWindow) (p guess.DatagramByPacket) (q guess.DatagramByWindow) (q guess.DatagramByPacket) (more guess.DatagramByWindow) (more guess.DatagramByPacket))
    (more guess.DatagramLeast)
    is

pub size_more : (said : Option ℕ) (p q : Guess → Bool) (size : ℕ) → SaysMore p q → IsSize said p size → IsSize said q size
size_more (Some n) p q size more is = is
size_more None p q size more is = size_says p q more is

pub window_more : (is_hidden : Bool) (size : ℕ) (said : Option ℕ) (p q : Guess → Bool) (window : ℕ) → SaysMore p q
    → IsWindow is_hidden size said p window → IsWindow is_hidden size said q window
window_more true size said p q window more is = (is.0, more guess.HiddenWindow is.1)
window_more false size said p q window more is = is

pub header_more : (c : Choices) (d : Dialect) (log : Sources) (p q : Guess → Bool) (s : Settings) → SaysMore p q → HeaderSays c d log p s → HeaderSays c d log q s
header_more c d log p q s more is = record {
  version = is.version;
  unit = is.unit;
  delay = delay_more s.unit log.of_peer.max_ack_delay p q s.max_ack_delay more is.delay;
  rtt = rtt_more s.unit _ d.initial_rtt log.first_smoothed p q s.initial_rtt more is.rtt;
  size = size_more _ p q s.max_datagram_size more is.size;
  window = window_more _ s.max_datagram_size _ p q s.initial_window more is.window;
  controller = λ version reported none. more guess.NoWindow (is.controller version reported none);
  options = is.options;
}

-- ---- what a header is made of

-- version 1 asks for no reported window
pub asked_as_said : (f : Format) (o : Options) → (f ≡ One → is_reported o.controller ≡ false) → is_reported (options_in f o).controller ≡ is_reported o.controller
asked_as_said One o first = sym (first refl)
asked_as_said Two o first = refl
asked_as_said Three o first = refl

-- another version than the third has microseconds, and the second has what fits it
pub is_third_or : (f : Format) (c : Choices) (d : Dialect) (log : Sources) (unit : TimeUnit) → unit ≡ unit_in f c d log → f ≡ Three ⊎ unit ≡ Microseconds
is_third_or One c d log unit is = inr is
is_third_or Two c d log unit is = inr is
is_third_or Three c d log unit is = inl refl

pub fits_second : (f : Format) (c : Choices) (d : Dialect) (log : Sources) (o : Options) → Asks f c d log (options_in f o) → f ≡ Two → fit_version_two o ≡ true
fits_second One c d log o asks is = cc
fits_second Two c d log o asks is = asks.1
fits_second Three c d log o asks is = cc

pub header_kept : (c : Choices) (d : Dialect) (log : Sources) (says : Guess → Bool) (unit : TimeUnit) (v : ConnectionValues) (o : Options) (s : Settings)
    → Keeps c.format unit v o s
    → unit ≡ unit_of c d log
    → IsDelay unit log.of_peer.max_ack_delay says (unwrap_or v.max_ack_delay (settings.in_unit unit default_max_ack_delay))
    → IsInitialRtt unit (not_zero (rtt_said log)) d.initial_rtt log.first_smoothed says (rtt_or_default unit v.initial_rtt)
    → IsSize (size_said log.recovery.max_datagram_size) says v.max_datagram_size
    → IsWindow (d.hides_window && is_reported o.controller) v.max_datagram_size (window_said log) says (unwrap_or v.initial_window (default_window v.max_datagram_size))
    → (c.format ≡ Three → is_reported o.controller ≡ false → log.has_window ≡ false → says guess.NoWindow ≡ true)
    → (c.format ≡ One → is_reported o.controller ≡ false)
    → Asks c.format c d log (options_in c.format o)
    → HeaderSays c d log says s
header_kept c d log says unit v o s kept is_unit delay rtt size window none first asks =
    let same : is_reported s.options.controller ≡ is_reported o.controller =
    ap (λ (p : Options). is_reported p.controller) kept.options ∙ asked_as_said c.format o first in
    record {
      version = kept.version;
      unit = kept.unit ∙ is_unit;
      delay = rw (kept.unit, kept.delay) delay;
      rtt = rw (kept.unit, kept.rtt) rtt;
      size = rw kept.size size;
      window = rw (same, kept.size, kept.window) window;
      controller = λ version reported unsaid. none version (sym same ∙ reported) unsaid;
      options = rw kept.options asks;
    }

-- ---- another dialect

-- another time threshold, and what a log may show, change nothing of how a trace begins
pub begins_like : (h : Head) (chosen : ℕ) (asked found : Dialect) (eighths : ℕ) (log : Sources) (p : Progress) → IsLike asked found
    → Begins h chosen (record found { time_threshold_eighths = eighths }) log p → Begins h chosen asked log p
begins_like h chosen asked found eighths log p like begins = record {
  head = begins.head;
  retry = begins.retry;
  clock = begins.clock;
  connections = begins.connections;
  index = begins.index;
  waits = begins.waits;
  held = begins.held ∙ ap (λ (d : Dialect). at_start d.metrics_stand_before) like.is;
  ready = begins.ready;
  subtracts = begins.subtracts ∙ ap (λ (d : Dialect). d.subtracts_delay) like.is;
  is_encoded = begins.is_encoded ∙ ap (λ (d : Dialect). d.delay_is_encoded) like.is;
  exponent = begins.exponent;
  limited = begins.limited ∙ ap (λ (d : Dialect). d.limited) like.is;
  state = begins.state;
  by_growth = begins.by_growth ∙ ap (λ (d : Dialect). d.sizes_by_growth) like.is;
  keys = begins.keys;
}

-- ---- own keys

pub listed_own : (g : Guess) (gs : List Guess) (own : Members) → has_guess g gs ≡ true → own_say (put (codes "x_guess") (array (texts_of gs)) own) g ≡ true
listed_own g gs own is = ap (lists (guess_text g)) (get_put (codes "x_guess") (array (texts_of gs)) own) ∙ texts_have g gs ∙ is

pub beside_note : (g : Guess) (note : Data) (own : Members) → own_say (put (codes "x_note") note own) g ≡ own_say own g
beside_note g note own = ap (lists (guess_text g)) (get_put_other (codes "x_guess") (codes "x_note") note own (λ e. cc))
