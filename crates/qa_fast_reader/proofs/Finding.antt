-- A value that is put at a key of an event is found of this key, and nothing else changes.
use Rattle.std.proofs.Common.{◌≡◌, ◌∙◌, ◌<◌, ◌^◌, ℕ, List, Bool, true, false, Option, Some, None, codes, option_map, option_and_then, Ordering, Less, Equal, Greater, nat_cmp, refl, sym, ap}
use Rattle.std.specs.Cmp.Lexicographic.{slice_cmp}
use Rattle.std.specs.List.{AllByRecursion}
use Rattle.std.specs.Prelude.{IfSome}
use Rattle.serde_json.specs.Data as json
use Rattle.serde_json.specs.Data.{Data, Members, put}
use Rattle.qa_base.specs.declared.line_kind.LineKind.{LineKind}
use Rattle.qa_base.specs.declared.space.TimerKind.{TimerKind}
use Rattle.qa_base.specs.declared.space.Permission.{Permission}
use Rattle.qa_base.specs.declared.space.Space.{Space}
use Rattle.qa_base.specs.values.Events.{has_ranges}
use Rattle.qa_format.specs.format.Proper.{IsRange, IsWord}
use Rattle.qa_format.specs.format.Written.{integer, boolean}
use Rattle.qa_format.proofs.format.AnyOrder.{get_put, get_put_other}
use Rattle.qa_fast_reader.specs.declared.found.Found.{Found}
use Rattle.qa_fast_reader.specs.Found.{Keeps, given, unless_null, line_kind_data, space_data, permission_data, kind_data}
use Rattle.qa_fast_reader.specs.Ranges.{Spans, ranges_data}

abbrev are_apart : Ordering → Bool
are_apart Less = true
are_apart Equal = false
are_apart Greater = true

false_true : false ≡ true → ⊥
false_true h = cc

not_equal : (o : Ordering) → are_apart o ≡ true → (o ≡ Equal → ⊥)
not_equal o apart e = false_true (sym (ap are_apart e) ∙ apart)

-- what a key gives stays, where a value is put at another key
pub stays_apart : (j k : List ℕ) (d : Data) (ms : Members) → (slice_cmp nat_cmp j k ≡ Equal → ⊥) → given j (put k d ms) ≡ given j ms
stays_apart j k d ms apart = ap (option_and_then unless_null) (get_put_other j k d ms apart)

-- the same, where it is computed that the keys are two
stays : (j k : List ℕ) (d : Data) (ms : Members) → are_apart (slice_cmp nat_cmp j k) ≡ true → given j (put k d ms) ≡ given j ms
stays j k d ms apart = stays_apart j k d ms (not_equal (slice_cmp nat_cmp j k) apart)

-- the key gives the value, unless it is null
gives : (k : List ℕ) (d : Data) (ms : Members) → given k (put k d ms) ≡ unless_null d
gives k d ms = ap (option_and_then unless_null) (get_put k d ms)

set_event : (f : Found) (o : Option LineKind) (d : Data) → unless_null d ≡ option_map line_kind_data o → Keeps (codes "event") d f (record f { event = o })
set_event f o d is ms h = record {
  event = gives (codes "event") d ms ∙ is;
  time = stays (codes "time") (codes "event") d ms refl ∙ h.time;
  space = stays (codes "space") (codes "event") d ms refl ∙ h.space;
  number = stays (codes "number") (codes "event") d ms refl ∙ h.number;
  size = stays (codes "size") (codes "event") d ms refl ∙ h.size;
  eliciting = stays (codes "eliciting") (codes "event") d ms refl ∙ h.eliciting;
  in_flight = stays (codes "in_flight") (codes "event") d ms refl ∙ h.in_flight;
  permission = stays (codes "leave") (codes "event") d ms refl ∙ h.permission;
  ranges = stays (codes "ranges") (codes "event") d ms refl ∙ h.ranges;
  delay = stays (codes "delay") (codes "event") d ms refl ∙ h.delay;
  app_limited = stays (codes "limited") (codes "event") d ms refl ∙ h.app_limited;
  kind = stays (codes "kind") (codes "event") d ms refl ∙ h.kind;
  window = stays (codes "window") (codes "event") d ms refl ∙ h.window;
  ssthresh = stays (codes "ssthresh") (codes "event") d ms refl ∙ h.ssthresh;
  bytes_in_flight = stays (codes "bytes_in_flight") (codes "event") d ms refl ∙ h.bytes_in_flight;
  latest_rtt = stays (codes "latest_rtt") (codes "event") d ms refl ∙ h.latest_rtt;
  min_rtt = stays (codes "min_rtt") (codes "event") d ms refl ∙ h.min_rtt;
  smoothed_rtt = stays (codes "smoothed_rtt") (codes "event") d ms refl ∙ h.smoothed_rtt;
  rttvar = stays (codes "rttvar") (codes "event") d ms refl ∙ h.rttvar;
  are_words = h.are_words;
  are_ranges = h.are_ranges;
}

pub put_event : (f : Found) (x : LineKind) → Keeps (codes "event") (line_kind_data x) f (record f { event = Some x })
put_event f x = set_event f (Some x) (line_kind_data x) refl

pub no_event : (f : Found) → Keeps (codes "event") json.null f (record f { event = None })
no_event f = set_event f None json.null refl

set_time : (f : Found) (o : Option ℕ) (d : Data) → unless_null d ≡ option_map integer o → Keeps (codes "time") d f (record f { time = o })
set_time f o d is ms h = record {
  event = stays (codes "event") (codes "time") d ms refl ∙ h.event;
  time = gives (codes "time") d ms ∙ is;
  space = stays (codes "space") (codes "time") d ms refl ∙ h.space;
  number = stays (codes "number") (codes "time") d ms refl ∙ h.number;
  size = stays (codes "size") (codes "time") d ms refl ∙ h.size;
  eliciting = stays (codes "eliciting") (codes "time") d ms refl ∙ h.eliciting;
  in_flight = stays (codes "in_flight") (codes "time") d ms refl ∙ h.in_flight;
  permission = stays (codes "leave") (codes "time") d ms refl ∙ h.permission;
  ranges = stays (codes "ranges") (codes "time") d ms refl ∙ h.ranges;
  delay = stays (codes "delay") (codes "time") d ms refl ∙ h.delay;
  app_limited = stays (codes "limited") (codes "time") d ms refl ∙ h.app_limited;
  kind = stays (codes "kind") (codes "time") d ms refl ∙ h.kind;
  window = stays (codes "window") (codes "time") d ms refl ∙ h.window;
  ssthresh = stays (codes "ssthresh") (codes "time") d ms refl ∙ h.ssthresh;
  bytes_in_flight = stays (codes "bytes_in_flight") (codes "time") d ms refl ∙ h.bytes_in_flight;
  latest_rtt = stays (codes "latest_rtt") (codes "time") d ms refl ∙ h.latest_rtt;
  min_rtt = stays (codes "min_rtt") (codes "time") d ms refl ∙ h.min_rtt;
  smoothed_rtt = stays (codes "smoothed_rtt") (codes "time") d ms refl ∙ h.smoothed_rtt;
  rttvar = stays (codes "rttvar") (codes "time") d ms refl ∙ h.rttvar;
  are_words = h.are_words;
  are_ranges = h.are_ranges;
}

pub put_time : (f : Found) (x : ℕ) → Keeps (codes "time") (integer x) f (record f { time = Some x })
put_time f x = set_time f (Some x) (integer x) refl

pub no_time : (f : Found) → Keeps (codes "time") json.null f (record f { time = None })
no_time f = set_time f None json.null refl

set_space : (f : Found) (o : Option Space) (d : Data) → unless_null d ≡ option_map space_data o → Keeps (codes "space") d f (record f { space = o })
set_space f o d is ms h = record {
  event = stays (codes "event") (codes "space") d ms refl ∙ h.event;
  time = stays (codes "time") (codes "space") d ms refl ∙ h.time;
  space = gives (codes "space") d ms ∙ is;
  number = stays (codes "number") (codes "space") d ms refl ∙ h.number;
  size = stays (codes "size") (codes "space") d ms refl ∙ h.size;
  eliciting = stays (codes "eliciting") (codes "space") d ms refl ∙ h.eliciting;
  in_flight = stays (codes "in_flight") (codes "space") d ms refl ∙ h.in_flight;
  permission = stays (codes "leave") (codes "space") d ms refl ∙ h.permission;
  ranges = stays (codes "ranges") (codes "space") d ms refl ∙ h.ranges;
  delay = stays (codes "delay") (codes "space") d ms refl ∙ h.delay;
  app_limited = stays (codes "limited") (codes "space") d ms refl ∙ h.app_limited;
  kind = stays (codes "kind") (codes "space") d ms refl ∙ h.kind;
  window = stays (codes "window") (codes "space") d ms refl ∙ h.window;
  ssthresh = stays (codes "ssthresh") (codes "space") d ms refl ∙ h.ssthresh;
  bytes_in_flight = stays (codes "bytes_in_flight") (codes "space") d ms refl ∙ h.bytes_in_flight;
  latest_rtt = stays (codes "latest_rtt") (codes "space") d ms refl ∙ h.latest_rtt;
  min_rtt = stays (codes "min_rtt") (codes "space") d ms refl ∙ h.min_rtt;
  smoothed_rtt = stays (codes "smoothed_rtt") (codes "space") d ms refl ∙ h.smoothed_rtt;
  rttvar = stays (codes "rttvar") (codes "space") d ms refl ∙ h.rttvar;
  are_words = h.are_words;
  are_ranges = h.are_ranges;
}

pub put_space : (f : Found) (x : Space) → Keeps (codes "space") (space_data x) f (record f { space = Some x })
put_space f x = set_space f (Some x) (space_data x) refl

pub no_space : (f : Found) → Keeps (codes "space") json.null f (record f { space = None })
no_space f = set_space f None json.null refl

set_number : (f : Found) (o : Option ℕ) (d : Data) → unless_null d ≡ option_map integer o → Keeps (codes "number") d f (record f { number = o })
set_number f o d is ms h = record {
  event = stays (codes "event") (codes "number") d ms refl ∙ h.event;
  time = stays (codes "time") (codes "number") d ms refl ∙ h.time;
  space = stays (codes "space") (codes "number") d ms refl ∙ h.space;
  number = gives (codes "number") d ms ∙ is;
  size = stays (codes "size") (codes "number") d ms refl ∙ h.size;
  eliciting = stays (codes "eliciting") (codes "number") d ms refl ∙ h.eliciting;
  in_flight = stays (codes "in_flight") (codes "number") d ms refl ∙ h.in_flight;
  permission = stays (codes "leave") (codes "number") d ms refl ∙ h.permission;
  ranges = stays (codes "ranges") (codes "number") d ms refl ∙ h.ranges;
  delay = stays (codes "delay") (codes "number") d ms refl ∙ h.delay;
  app_limited = stays (codes "limited") (codes "number") d ms refl ∙ h.app_limited;
  kind = stays (codes "kind") (codes "number") d ms refl ∙ h.kind;
  window = stays (codes "window") (codes "number") d ms refl ∙ h.window;
  ssthresh = stays (codes "ssthresh") (codes "number") d ms refl ∙ h.ssthresh;
  bytes_in_flight = stays (codes "bytes_in_flight") (codes "number") d ms refl ∙ h.bytes_in_flight;
  latest_rtt = stays (codes "latest_rtt") (codes "number") d ms refl ∙ h.latest_rtt;
  min_rtt = stays (codes "min_rtt") (codes "number") d ms refl ∙ h.min_rtt;
  smoothed_rtt = stays (codes "smoothed_rtt") (codes "number") d ms refl ∙ h.smoothed_rtt;
  rttvar = stays (codes "rttvar") (codes "number") d ms refl ∙ h.rttvar;
  are_words = h.are_words;
  are_ranges = h.are_ranges;
}

pub put_number : (f : Found) (x : ℕ) → Keeps (codes "number") (integer x) f (record f { number = Some x })
put_number f x = set_number f (Some x) (integer x) refl

pub no_number : (f : Found) → Keeps (codes "number") json.null f (record f { number = None })
no_number f = set_number f None json.null refl

set_size : (f : Found) (o : Option ℕ) (d : Data) → unless_null d ≡ option_map integer o → Keeps (codes "size") d f (record f { size = o })
set_size f o d is ms h = record {
  event = stays (codes "event") (codes "size") d ms refl ∙ h.event;
  time = stays (codes "time") (codes "size") d ms refl ∙ h.time;
  space = stays (codes "space") (codes "size") d ms refl ∙ h.space;
  number = stays (codes "number") (codes "size") d ms refl ∙ h.number;
  size = gives (codes "size") d ms ∙ is;
  eliciting = stays (codes "eliciting") (codes "size") d ms refl ∙ h.eliciting;
  in_flight = stays (codes "in_flight") (codes "size") d ms refl ∙ h.in_flight;
  permission = stays (codes "leave") (codes "size") d ms refl ∙ h.permission;
  ranges = stays (codes "ranges") (codes "size") d ms refl ∙ h.ranges;
  delay = stays (codes "delay") (codes "size") d ms refl ∙ h.delay;
  app_limited = stays (codes "limited") (codes "size") d ms refl ∙ h.app_limited;
  kind = stays (codes "kind") (codes "size") d ms refl ∙ h.kind;
  window = stays (codes "window") (codes "size") d ms refl ∙ h.window;
  ssthresh = stays (codes "ssthresh") (codes "size") d ms refl ∙ h.ssthresh;
  bytes_in_flight = stays (codes "bytes_in_flight") (codes "size") d ms refl ∙ h.bytes_in_flight;
  latest_rtt = stays (codes "latest_rtt") (codes "size") d ms refl ∙ h.latest_rtt;
  min_rtt = stays (codes "min_rtt") (codes "size") d ms refl ∙ h.min_rtt;
  smoothed_rtt = stays (codes "smoothed_rtt") (codes "size") d ms refl ∙ h.smoothed_rtt;
  rttvar = stays (codes "rttvar") (codes "size") d ms refl ∙ h.rttvar;
  are_words = h.are_words;
  are_ranges = h.are_ranges;
}

pub put_size : (f : Found) (x : ℕ) → Keeps (codes "size") (integer x) f (record f { size = Some x })
put_size f x = set_size f (Some x) (integer x) refl

pub no_size : (f : Found) → Keeps (codes "size") json.null f (record f { size = None })
no_size f = set_size f None json.null refl

set_eliciting : (f : Found) (o : Option Bool) (d : Data) → unless_null d ≡ option_map boolean o → Keeps (codes "eliciting") d f (record f { eliciting = o })
set_eliciting f o d is ms h = record {
  event = stays (codes "event") (codes "eliciting") d ms refl ∙ h.event;
  time = stays (codes "time") (codes "eliciting") d ms refl ∙ h.time;
  space = stays (codes "space") (codes "eliciting") d ms refl ∙ h.space;
  number = stays (codes "number") (codes "eliciting") d ms refl ∙ h.number;
  size = stays (codes "size") (codes "eliciting") d ms refl ∙ h.size;
  eliciting = gives (codes "eliciting") d ms ∙ is;
  in_flight = stays (codes "in_flight") (codes "eliciting") d ms refl ∙ h.in_flight;
  permission = stays (codes "leave") (codes "eliciting") d ms refl ∙ h.permission;
  ranges = stays (codes "ranges") (codes "eliciting") d ms refl ∙ h.ranges;
  delay = stays (codes "delay") (codes "eliciting") d ms refl ∙ h.delay;
  app_limited = stays (codes "limited") (codes "eliciting") d ms refl ∙ h.app_limited;
  kind = stays (codes "kind") (codes "eliciting") d ms refl ∙ h.kind;
  window = stays (codes "window") (codes "eliciting") d ms refl ∙ h.window;
  ssthresh = stays (codes "ssthresh") (codes "eliciting") d ms refl ∙ h.ssthresh;
  bytes_in_flight = stays (codes "bytes_in_flight") (codes "eliciting") d ms refl ∙ h.bytes_in_flight;
  latest_rtt = stays (codes "latest_rtt") (codes "eliciting") d ms refl ∙ h.latest_rtt;
  min_rtt = stays (codes "min_rtt") (codes "eliciting") d ms refl ∙ h.min_rtt;
  smoothed_rtt = stays (codes "smoothed_rtt") (codes "eliciting") d ms refl ∙ h.smoothed_rtt;
  rttvar = stays (codes "rttvar") (codes "eliciting") d ms refl ∙ h.rttvar;
  are_words = h.are_words;
  are_ranges = h.are_ranges;
}

pub put_eliciting : (f : Found) (x : Bool) → Keeps (codes "eliciting") (boolean x) f (record f { eliciting = Some x })
put_eliciting f x = set_eliciting f (Some x) (boolean x) refl

pub no_eliciting : (f : Found) → Keeps (codes "eliciting") json.null f (record f { eliciting = None })
no_eliciting f = set_eliciting f None json.null refl

set_in_flight : (f : Found) (o : Option Bool) (d : Data) → unless_null d ≡ option_map boolean o → Keeps (codes "in_flight") d f (record f { in_flight = o })
set_in_flight f o d is ms h = record {
  event = stays (codes "event") (codes "in_flight") d ms refl ∙ h.event;
  time = stays (codes "time") (codes "in_flight") d ms refl ∙ h.time;
  space = stays (codes "space") (codes "in_flight") d ms refl ∙ h.space;
  number = stays (codes "number") (codes "in_flight") d ms refl ∙ h.number;
  size = stays (codes "size") (codes "in_flight") d ms refl ∙ h.size;
  eliciting = stays (codes "eliciting") (codes "in_flight") d ms refl ∙ h.eliciting;
  in_flight = gives (codes "in_flight") d ms ∙ is;
  permission = stays (codes "leave") (codes "in_flight") d ms refl ∙ h.permission;
  ranges = stays (codes "ranges") (codes "in_flight") d ms refl ∙ h.ranges;
  delay = stays (codes "delay") (codes "in_flight") d ms refl ∙ h.delay;
  app_limited = stays (codes "limited") (codes "in_flight") d ms refl ∙ h.app_limited;
  kind = stays (codes "kind") (codes "in_flight") d ms refl ∙ h.kind;
  window = stays (codes "window") (codes "in_flight") d ms refl ∙ h.window;
  ssthresh = stays (codes "ssthresh") (codes "in_flight") d ms refl ∙ h.ssthresh;
  bytes_in_flight = stays (codes "bytes_in_flight") (codes "in_flight") d ms refl ∙ h.bytes_in_flight;
  latest_rtt = stays (codes "latest_rtt") (codes "in_flight") d ms refl ∙ h.latest_rtt;
  min_rtt = stays (codes "min_rtt") (codes "in_flight") d ms refl ∙ h.min_rtt;
  smoothed_rtt = stays (codes "smoothed_rtt") (codes "in_flight") d ms refl ∙ h.smoothed_rtt;
  rttvar = stays (codes "rttvar") (codes "in_flight") d ms refl ∙ h.rttvar;
  are_words = h.are_words;
  are_ranges = h.are_ranges;
}

pub put_in_flight : (f : Found) (x : Bool) → Keeps (codes "in_flight") (boolean x) f (record f { in_flight = Some x })
put_in_flight f x = set_in_flight f (Some x) (boolean x) refl

pub no_in_flight : (f : Found) → Keeps (codes "in_flight") json.null f (record f { in_flight = None })
no_in_flight f = set_in_flight f None json.null refl

set_permission : (f : Found) (o : Option Permission) (d : Data) → unless_null d ≡ option_map permission_data o → Keeps (codes "leave") d f (record f { permission = o })
set_permission f o d is ms h = record {
  event = stays (codes "event") (codes "leave") d ms refl ∙ h.event;
  time = stays (codes "time") (codes "leave") d ms refl ∙ h.time;
  space = stays (codes "space") (codes "leave") d ms refl ∙ h.space;
  number = stays (codes "number") (codes "leave") d ms refl ∙ h.number;
  size = stays (codes "size") (codes "leave") d ms refl ∙ h.size;
  eliciting = stays (codes "eliciting") (codes "leave") d ms refl ∙ h.eliciting;
  in_flight = stays (codes "in_flight") (codes "leave") d ms refl ∙ h.in_flight;
  permission = gives (codes "leave") d ms ∙ is;
  ranges = stays (codes "ranges") (codes "leave") d ms refl ∙ h.ranges;
  delay = stays (codes "delay") (codes "leave") d ms refl ∙ h.delay;
  app_limited = stays (codes "limited") (codes "leave") d ms refl ∙ h.app_limited;
  kind = stays (codes "kind") (codes "leave") d ms refl ∙ h.kind;
  window = stays (codes "window") (codes "leave") d ms refl ∙ h.window;
  ssthresh = stays (codes "ssthresh") (codes "leave") d ms refl ∙ h.ssthresh;
  bytes_in_flight = stays (codes "bytes_in_flight") (codes "leave") d ms refl ∙ h.bytes_in_flight;
  latest_rtt = stays (codes "latest_rtt") (codes "leave") d ms refl ∙ h.latest_rtt;
  min_rtt = stays (codes "min_rtt") (codes "leave") d ms refl ∙ h.min_rtt;
  smoothed_rtt = stays (codes "smoothed_rtt") (codes "leave") d ms refl ∙ h.smoothed_rtt;
  rttvar = stays (codes "rttvar") (codes "leave") d ms refl ∙ h.rttvar;
  are_words = h.are_words;
  are_ranges = h.are_ranges;
}

pub put_permission : (f : Found) (x : Permission) → Keeps (codes "leave") (permission_data x) f (record f { permission = Some x })
put_permission f x = set_permission f (Some x) (permission_data x) refl

pub no_permission : (f : Found) → Keeps (codes "leave") json.null f (record f { permission = None })
no_permission f = set_permission f None json.null refl

set_ranges : (f : Found) (o : Option Spans) (d : Data) → unless_null d ≡ option_map ranges_data o → IfSome o (λ ranges. (has_ranges ranges ≡ true) × AllByRecursion IsRange ranges) → Keeps (codes "ranges") d f (record f { ranges = o })
set_ranges f o d is are ms h = record {
  event = stays (codes "event") (codes "ranges") d ms refl ∙ h.event;
  time = stays (codes "time") (codes "ranges") d ms refl ∙ h.time;
  space = stays (codes "space") (codes "ranges") d ms refl ∙ h.space;
  number = stays (codes "number") (codes "ranges") d ms refl ∙ h.number;
  size = stays (codes "size") (codes "ranges") d ms refl ∙ h.size;
  eliciting = stays (codes "eliciting") (codes "ranges") d ms refl ∙ h.eliciting;
  in_flight = stays (codes "in_flight") (codes "ranges") d ms refl ∙ h.in_flight;
  permission = stays (codes "leave") (codes "ranges") d ms refl ∙ h.permission;
  ranges = gives (codes "ranges") d ms ∙ is;
  delay = stays (codes "delay") (codes "ranges") d ms refl ∙ h.delay;
  app_limited = stays (codes "limited") (codes "ranges") d ms refl ∙ h.app_limited;
  kind = stays (codes "kind") (codes "ranges") d ms refl ∙ h.kind;
  window = stays (codes "window") (codes "ranges") d ms refl ∙ h.window;
  ssthresh = stays (codes "ssthresh") (codes "ranges") d ms refl ∙ h.ssthresh;
  bytes_in_flight = stays (codes "bytes_in_flight") (codes "ranges") d ms refl ∙ h.bytes_in_flight;
  latest_rtt = stays (codes "latest_rtt") (codes "ranges") d ms refl ∙ h.latest_rtt;
  min_rtt = stays (codes "min_rtt") (codes "ranges") d ms refl ∙ h.min_rtt;
  smoothed_rtt = stays (codes "smoothed_rtt") (codes "ranges") d ms refl ∙ h.smoothed_rtt;
  rttvar = stays (codes "rttvar") (codes "ranges") d ms refl ∙ h.rttvar;
  are_words = h.are_words;
  are_ranges = are;
}

pub put_ranges : (f : Found) (x : Spans) → has_ranges x ≡ true → AllByRecursion IsRange x → Keeps (codes "ranges") (ranges_data x) f (record f { ranges = Some x })
put_ranges f x some are = set_ranges f (Some x) (ranges_data x) refl (some, are)

pub no_ranges : (f : Found) → Keeps (codes "ranges") json.null f (record f { ranges = None })
no_ranges f = set_ranges f None json.null refl tt

set_delay : (f : Found) (o : Option ℕ) (d : Data) → unless_null d ≡ option_map integer o → Keeps (codes "delay") d f (record f { delay = o })
set_delay f o d is ms h = record {
  event = stays (codes "event") (codes "delay") d ms refl ∙ h.event;
  time = stays (codes "time") (codes "delay") d ms refl ∙ h.time;
  space = stays (codes "space") (codes "delay") d ms refl ∙ h.space;
  number = stays (codes "number") (codes "delay") d ms refl ∙ h.number;
  size = stays (codes "size") (codes "delay") d ms refl ∙ h.size;
  eliciting = stays (codes "eliciting") (codes "delay") d ms refl ∙ h.eliciting;
  in_flight = stays (codes "in_flight") (codes "delay") d ms refl ∙ h.in_flight;
  permission = stays (codes "leave") (codes "delay") d ms refl ∙ h.permission;
  ranges = stays (codes "ranges") (codes "delay") d ms refl ∙ h.ranges;
  delay = gives (codes "delay") d ms ∙ is;
  app_limited = stays (codes "limited") (codes "delay") d ms refl ∙ h.app_limited;
  kind = stays (codes "kind") (codes "delay") d ms refl ∙ h.kind;
  window = stays (codes "window") (codes "delay") d ms refl ∙ h.window;
  ssthresh = stays (codes "ssthresh") (codes "delay") d ms refl ∙ h.ssthresh;
  bytes_in_flight = stays (codes "bytes_in_flight") (codes "delay") d ms refl ∙ h.bytes_in_flight;
  latest_rtt = stays (codes "latest_rtt") (codes "delay") d ms refl ∙ h.latest_rtt;
  min_rtt = stays (codes "min_rtt") (codes "delay") d ms refl ∙ h.min_rtt;
  smoothed_rtt = stays (codes "smoothed_rtt") (codes "delay") d ms refl ∙ h.smoothed_rtt;
  rttvar = stays (codes "rttvar") (codes "delay") d ms refl ∙ h.rttvar;
  are_words = h.are_words;
  are_ranges = h.are_ranges;
}

pub put_delay : (f : Found) (x : ℕ) → Keeps (codes "delay") (integer x) f (record f { delay = Some x })
put_delay f x = set_delay f (Some x) (integer x) refl

pub no_delay : (f : Found) → Keeps (codes "delay") json.null f (record f { delay = None })
no_delay f = set_delay f None json.null refl

set_limited : (f : Found) (o : Option Bool) (d : Data) → unless_null d ≡ option_map boolean o → Keeps (codes "limited") d f (record f { app_limited = o })
set_limited f o d is ms h = record {
  event = stays (codes "event") (codes "limited") d ms refl ∙ h.event;
  time = stays (codes "time") (codes "limited") d ms refl ∙ h.time;
  space = stays (codes "space") (codes "limited") d ms refl ∙ h.space;
  number = stays (codes "number") (codes "limited") d ms refl ∙ h.number;
  size = stays (codes "size") (codes "limited") d ms refl ∙ h.size;
  eliciting = stays (codes "eliciting") (codes "limited") d ms refl ∙ h.eliciting;
  in_flight = stays (codes "in_flight") (codes "limited") d ms refl ∙ h.in_flight;
  permission = stays (codes "leave") (codes "limited") d ms refl ∙ h.permission;
  ranges = stays (codes "ranges") (codes "limited") d ms refl ∙ h.ranges;
  delay = stays (codes "delay") (codes "limited") d ms refl ∙ h.delay;
  app_limited = gives (codes "limited") d ms ∙ is;
  kind = stays (codes "kind") (codes "limited") d ms refl ∙ h.kind;
  window = stays (codes "window") (codes "limited") d ms refl ∙ h.window;
  ssthresh = stays (codes "ssthresh") (codes "limited") d ms refl ∙ h.ssthresh;
  bytes_in_flight = stays (codes "bytes_in_flight") (codes "limited") d ms refl ∙ h.bytes_in_flight;
  latest_rtt = stays (codes "latest_rtt") (codes "limited") d ms refl ∙ h.latest_rtt;
  min_rtt = stays (codes "min_rtt") (codes "limited") d ms refl ∙ h.min_rtt;
  smoothed_rtt = stays (codes "smoothed_rtt") (codes "limited") d ms refl ∙ h.smoothed_rtt;
  rttvar = stays (codes "rttvar") (codes "limited") d ms refl ∙ h.rttvar;
  are_words = h.are_words;
  are_ranges = h.are_ranges;
}

pub put_limited : (f : Found) (x : Bool) → Keeps (codes "limited") (boolean x) f (record f { app_limited = Some x })
put_limited f x = set_limited f (Some x) (boolean x) refl

pub no_limited : (f : Found) → Keeps (codes "limited") json.null f (record f { app_limited = None })
no_limited f = set_limited f None json.null refl

set_kind : (f : Found) (o : Option TimerKind) (d : Data) → unless_null d ≡ option_map kind_data o → Keeps (codes "kind") d f (record f { kind = o })
set_kind f o d is ms h = record {
  event = stays (codes "event") (codes "kind") d ms refl ∙ h.event;
  time = stays (codes "time") (codes "kind") d ms refl ∙ h.time;
  space = stays (codes "space") (codes "kind") d ms refl ∙ h.space;
  number = stays (codes "number") (codes "kind") d ms refl ∙ h.number;
  size = stays (codes "size") (codes "kind") d ms refl ∙ h.size;
  eliciting = stays (codes "eliciting") (codes "kind") d ms refl ∙ h.eliciting;
  in_flight = stays (codes "in_flight") (codes "kind") d ms refl ∙ h.in_flight;
  permission = stays (codes "leave") (codes "kind") d ms refl ∙ h.permission;
  ranges = stays (codes "ranges") (codes "kind") d ms refl ∙ h.ranges;
  delay = stays (codes "delay") (codes "kind") d ms refl ∙ h.delay;
  app_limited = stays (codes "limited") (codes "kind") d ms refl ∙ h.app_limited;
  kind = gives (codes "kind") d ms ∙ is;
  window = stays (codes "window") (codes "kind") d ms refl ∙ h.window;
  ssthresh = stays (codes "ssthresh") (codes "kind") d ms refl ∙ h.ssthresh;
  bytes_in_flight = stays (codes "bytes_in_flight") (codes "kind") d ms refl ∙ h.bytes_in_flight;
  latest_rtt = stays (codes "latest_rtt") (codes "kind") d ms refl ∙ h.latest_rtt;
  min_rtt = stays (codes "min_rtt") (codes "kind") d ms refl ∙ h.min_rtt;
  smoothed_rtt = stays (codes "smoothed_rtt") (codes "kind") d ms refl ∙ h.smoothed_rtt;
  rttvar = stays (codes "rttvar") (codes "kind") d ms refl ∙ h.rttvar;
  are_words = h.are_words;
  are_ranges = h.are_ranges;
}

-- a value of 64 bits

pub put_kind : (f : Found) (x : TimerKind) → Keeps (codes "kind") (kind_data x) f (record f { kind = Some x })
put_kind f x = set_kind f (Some x) (kind_data x) refl

pub no_kind : (f : Found) → Keeps (codes "kind") json.null f (record f { kind = None })
no_kind f = set_kind f None json.null refl

no_word : IsWord None
no_word n e = cc

is_word : (x : ℕ) → x < 2 ^ 64 → IsWord (Some x)
is_word x small n is = let same : x ≡ n = cc in rw (← same) small

set_window : (f : Found) (o : Option ℕ) (d : Data) → unless_null d ≡ option_map integer o → IsWord o → Keeps (codes "window") d f (record f { values = record f.values { window = o } })
set_window f o d is small ms h = record {
  event = stays (codes "event") (codes "window") d ms refl ∙ h.event;
  time = stays (codes "time") (codes "window") d ms refl ∙ h.time;
  space = stays (codes "space") (codes "window") d ms refl ∙ h.space;
  number = stays (codes "number") (codes "window") d ms refl ∙ h.number;
  size = stays (codes "size") (codes "window") d ms refl ∙ h.size;
  eliciting = stays (codes "eliciting") (codes "window") d ms refl ∙ h.eliciting;
  in_flight = stays (codes "in_flight") (codes "window") d ms refl ∙ h.in_flight;
  permission = stays (codes "leave") (codes "window") d ms refl ∙ h.permission;
  ranges = stays (codes "ranges") (codes "window") d ms refl ∙ h.ranges;
  delay = stays (codes "delay") (codes "window") d ms refl ∙ h.delay;
  app_limited = stays (codes "limited") (codes "window") d ms refl ∙ h.app_limited;
  kind = stays (codes "kind") (codes "window") d ms refl ∙ h.kind;
  window = gives (codes "window") d ms ∙ is;
  ssthresh = stays (codes "ssthresh") (codes "window") d ms refl ∙ h.ssthresh;
  bytes_in_flight = stays (codes "bytes_in_flight") (codes "window") d ms refl ∙ h.bytes_in_flight;
  latest_rtt = stays (codes "latest_rtt") (codes "window") d ms refl ∙ h.latest_rtt;
  min_rtt = stays (codes "min_rtt") (codes "window") d ms refl ∙ h.min_rtt;
  smoothed_rtt = stays (codes "smoothed_rtt") (codes "window") d ms refl ∙ h.smoothed_rtt;
  rttvar = stays (codes "rttvar") (codes "window") d ms refl ∙ h.rttvar;
  are_words = (small, h.are_words.1, h.are_words.2, h.are_words.3, h.are_words.4, h.are_words.5, h.are_words.6);
  are_ranges = h.are_ranges;
}

pub put_window : (f : Found) (x : ℕ) → x < 2 ^ 64 → Keeps (codes "window") (integer x) f (record f { values = record f.values { window = Some x } })
put_window f x small = set_window f (Some x) (integer x) refl (is_word x small)

pub no_window : (f : Found) → Keeps (codes "window") json.null f (record f { values = record f.values { window = None } })
no_window f = set_window f None json.null refl no_word

set_ssthresh : (f : Found) (o : Option ℕ) (d : Data) → unless_null d ≡ option_map integer o → IsWord o → Keeps (codes "ssthresh") d f (record f { values = record f.values { ssthresh = o } })
set_ssthresh f o d is small ms h = record {
  event = stays (codes "event") (codes "ssthresh") d ms refl ∙ h.event;
  time = stays (codes "time") (codes "ssthresh") d ms refl ∙ h.time;
  space = stays (codes "space") (codes "ssthresh") d ms refl ∙ h.space;
  number = stays (codes "number") (codes "ssthresh") d ms refl ∙ h.number;
  size = stays (codes "size") (codes "ssthresh") d ms refl ∙ h.size;
  eliciting = stays (codes "eliciting") (codes "ssthresh") d ms refl ∙ h.eliciting;
  in_flight = stays (codes "in_flight") (codes "ssthresh") d ms refl ∙ h.in_flight;
  permission = stays (codes "leave") (codes "ssthresh") d ms refl ∙ h.permission;
  ranges = stays (codes "ranges") (codes "ssthresh") d ms refl ∙ h.ranges;
  delay = stays (codes "delay") (codes "ssthresh") d ms refl ∙ h.delay;
  app_limited = stays (codes "limited") (codes "ssthresh") d ms refl ∙ h.app_limited;
  kind = stays (codes "kind") (codes "ssthresh") d ms refl ∙ h.kind;
  window = stays (codes "window") (codes "ssthresh") d ms refl ∙ h.window;
  ssthresh = gives (codes "ssthresh") d ms ∙ is;
  bytes_in_flight = stays (codes "bytes_in_flight") (codes "ssthresh") d ms refl ∙ h.bytes_in_flight;
  latest_rtt = stays (codes "latest_rtt") (codes "ssthresh") d ms refl ∙ h.latest_rtt;
  min_rtt = stays (codes "min_rtt") (codes "ssthresh") d ms refl ∙ h.min_rtt;
  smoothed_rtt = stays (codes "smoothed_rtt") (codes "ssthresh") d ms refl ∙ h.smoothed_rtt;
  rttvar = stays (codes "rttvar") (codes "ssthresh") d ms refl ∙ h.rttvar;
  are_words = (h.are_words.0, small, h.are_words.2, h.are_words.3, h.are_words.4, h.are_words.5, h.are_words.6);
  are_ranges = h.are_ranges;
}

pub put_ssthresh : (f : Found) (x : ℕ) → x < 2 ^ 64 → Keeps (codes "ssthresh") (integer x) f (record f { values = record f.values { ssthresh = Some x } })
put_ssthresh f x small = set_ssthresh f (Some x) (integer x) refl (is_word x small)

pub no_ssthresh : (f : Found) → Keeps (codes "ssthresh") json.null f (record f { values = record f.values { ssthresh = None } })
no_ssthresh f = set_ssthresh f None json.null refl no_word

set_bytes_in_flight : (f : Found) (o : Option ℕ) (d : Data) → unless_null d ≡ option_map integer o → IsWord o → Keeps (codes "bytes_in_flight") d f (record f { values = record f.values { bytes_in_flight = o } })
set_bytes_in_flight f o d is small ms h = record {
  event = stays (codes "event") (codes "bytes_in_flight") d ms refl ∙ h.event;
  time = stays (codes "time") (codes "bytes_in_flight") d ms refl ∙ h.time;
  space = stays (codes "space") (codes "bytes_in_flight") d ms refl ∙ h.space;
  number = stays (codes "number") (codes "bytes_in_flight") d ms refl ∙ h.number;
  size = stays (codes "size") (codes "bytes_in_flight") d ms refl ∙ h.size;
  eliciting = stays (codes "eliciting") (codes "bytes_in_flight") d ms refl ∙ h.eliciting;
  in_flight = stays (codes "in_flight") (codes "bytes_in_flight") d ms refl ∙ h.in_flight;
  permission = stays (codes "leave") (codes "bytes_in_flight") d ms refl ∙ h.permission;
  ranges = stays (codes "ranges") (codes "bytes_in_flight") d ms refl ∙ h.ranges;
  delay = stays (codes "delay") (codes "bytes_in_flight") d ms refl ∙ h.delay;
  app_limited = stays (codes "limited") (codes "bytes_in_flight") d ms refl ∙ h.app_limited;
  kind = stays (codes "kind") (codes "bytes_in_flight") d ms refl ∙ h.kind;
  window = stays (codes "window") (codes "bytes_in_flight") d ms refl ∙ h.window;
  ssthresh = stays (codes "ssthresh") (codes "bytes_in_flight") d ms refl ∙ h.ssthresh;
  bytes_in_flight = gives (codes "bytes_in_flight") d ms ∙ is;
  latest_rtt = stays (codes "latest_rtt") (codes "bytes_in_flight") d ms refl ∙ h.latest_rtt;
  min_rtt = stays (codes "min_rtt") (codes "bytes_in_flight") d ms refl ∙ h.min_rtt;
  smoothed_rtt = stays (codes "smoothed_rtt") (codes "bytes_in_flight") d ms refl ∙ h.smoothed_rtt;
  rttvar = stays (codes "rttvar") (codes "bytes_in_flight") d ms refl ∙ h.rttvar;
  are_words = (h.are_words.0, h.are_words.1, small, h.are_words.3, h.are_words.4, h.are_words.5, h.are_words.6);
  are_ranges = h.are_ranges;
}

pub put_bytes_in_flight : (f : Found) (x : ℕ) → x < 2 ^ 64 → Keeps (codes "bytes_in_flight") (integer x) f (record f { values = record f.values { bytes_in_flight = Some x } })
put_bytes_in_flight f x small = set_bytes_in_flight f (Some x) (integer x) refl (is_word x small)

pub no_bytes_in_flight : (f : Found) → Keeps (codes "bytes_in_flight") json.null f (record f { values = record f.values { bytes_in_flight = None } })
no_bytes_in_flight f = set_bytes_in_flight f None json.null refl no_word

set_latest_rtt : (f : Found) (o : Option ℕ) (d : Data) → unless_null d ≡ option_map integer o → IsWord o → Keeps (codes "latest_rtt") d f (record f { values = record f.values { latest_rtt = o } })
set_latest_rtt f o d is small ms h = record {
  event = stays (codes "event") (codes "latest_rtt") d ms refl ∙ h.event;
  time = stays (codes "time") (codes "latest_rtt") d ms refl ∙ h.time;
  space = stays (codes "space") (codes "latest_rtt") d ms refl ∙ h.space;
  number = stays (codes "number") (codes "latest_rtt") d ms refl ∙ h.number;
  size = stays (codes "size") (codes "latest_rtt") d ms refl ∙ h.size;
  eliciting = stays (codes "eliciting") (codes "latest_rtt") d ms refl ∙ h.eliciting;
  in_flight = stays (codes "in_flight") (codes "latest_rtt") d ms refl ∙ h.in_flight;
  permission = stays (codes "leave") (codes "latest_rtt") d ms refl ∙ h.permission;
  ranges = stays (codes "ranges") (codes "latest_rtt") d ms refl ∙ h.ranges;
  delay = stays (codes "delay") (codes "latest_rtt") d ms refl ∙ h.delay;
  app_limited = stays (codes "limited") (codes "latest_rtt") d ms refl ∙ h.app_limited;
  kind = stays (codes "kind") (codes "latest_rtt") d ms refl ∙ h.kind;
  window = stays (codes "window") (codes "latest_rtt") d ms refl ∙ h.window;
  ssthresh = stays (codes "ssthresh") (codes "latest_rtt") d ms refl ∙ h.ssthresh;
  bytes_in_flight = stays (codes "bytes_in_flight") (codes "latest_rtt") d ms refl ∙ h.bytes_in_flight;
  latest_rtt = gives (codes "latest_rtt") d ms ∙ is;
  min_rtt = stays (codes "min_rtt") (codes "latest_rtt") d ms refl ∙ h.min_rtt;
  smoothed_rtt = stays (codes "smoothed_rtt") (codes "latest_rtt") d ms refl ∙ h.smoothed_rtt;
  rttvar = stays (codes "rttvar") (codes "latest_rtt") d ms refl ∙ h.rttvar;
  are_words = (h.are_words.0, h.are_words.1, h.are_words.2, small, h.are_words.4, h.are_words.5, h.are_words.6);
  are_ranges = h.are_ranges;
}

pub put_latest_rtt : (f : Found) (x : ℕ) → x < 2 ^ 64 → Keeps (codes "latest_rtt") (integer x) f (record f { values = record f.values { latest_rtt = Some x } })
put_latest_rtt f x small = set_latest_rtt f (Some x) (integer x) refl (is_word x small)

pub no_latest_rtt : (f : Found) → Keeps (codes "latest_rtt") json.null f (record f { values = record f.values { latest_rtt = None } })
no_latest_rtt f = set_latest_rtt f None json.null refl no_word

set_min_rtt : (f : Found) (o : Option ℕ) (d : Data) → unless_null d ≡ option_map integer o → IsWord o → Keeps (codes "min_rtt") d f (record f { values = record f.values { min_rtt = o } })
set_min_rtt f o d is small ms h = record {
  event = stays (codes "event") (codes "min_rtt") d ms refl ∙ h.event;
  time = stays (codes "time") (codes "min_rtt") d ms refl ∙ h.time;
  space = stays (codes "space") (codes "min_rtt") d ms refl ∙ h.space;
  number = stays (codes "number") (codes "min_rtt") d ms refl ∙ h.number;
  size = stays (codes "size") (codes "min_rtt") d ms refl ∙ h.size;
  eliciting = stays (codes "eliciting") (codes "min_rtt") d ms refl ∙ h.eliciting;
  in_flight = stays (codes "in_flight") (codes "min_rtt") d ms refl ∙ h.in_flight;
  permission = stays (codes "leave") (codes "min_rtt") d ms refl ∙ h.permission;
  ranges = stays (codes "ranges") (codes "min_rtt") d ms refl ∙ h.ranges;
  delay = stays (codes "delay") (codes "min_rtt") d ms refl ∙ h.delay;
  app_limited = stays (codes "limited") (codes "min_rtt") d ms refl ∙ h.app_limited;
  kind = stays (codes "kind") (codes "min_rtt") d ms refl ∙ h.kind;
  window = stays (codes "window") (codes "min_rtt") d ms refl ∙ h.window;
  ssthresh = stays (codes "ssthresh") (codes "min_rtt") d ms refl ∙ h.ssthresh;
  bytes_in_flight = stays (codes "bytes_in_flight") (codes "min_rtt") d ms refl ∙ h.bytes_in_flight;
  latest_rtt = stays (codes "latest_rtt") (codes "min_rtt") d ms refl ∙ h.latest_rtt;
  min_rtt = gives (codes "min_rtt") d ms ∙ is;
  smoothed_rtt = stays (codes "smoothed_rtt") (codes "min_rtt") d ms refl ∙ h.smoothed_rtt;
  rttvar = stays (codes "rttvar") (codes "min_rtt") d ms refl ∙ h.rttvar;
  are_words = (h.are_words.0, h.are_words.1, h.are_words.2, h.are_words.3, small, h.are_words.5, h.are_words.6);
  are_ranges = h.are_ranges;
}

pub put_min_rtt : (f : Found) (x : ℕ) → x < 2 ^ 64 → Keeps (codes "min_rtt") (integer x) f (record f { values = record f.values { min_rtt = Some x } })
put_min_rtt f x small = set_min_rtt f (Some x) (integer x) refl (is_word x small)

pub no_min_rtt : (f : Found) → Keeps (codes "min_rtt") json.null f (record f { values = record f.values { min_rtt = None } })
no_min_rtt f = set_min_rtt f None json.null refl no_word

set_smoothed_rtt : (f : Found) (o : Option ℕ) (d : Data) → unless_null d ≡ option_map integer o → IsWord o → Keeps (codes "smoothed_rtt") d f (record f { values = record f.values { smoothed_rtt = o } })
set_smoothed_rtt f o d is small ms h = record {
  event = stays (codes "event") (codes "smoothed_rtt") d ms refl ∙ h.event;
  time = stays (codes "time") (codes "smoothed_rtt") d ms refl ∙ h.time;
  space = stays (codes "space") (codes "smoothed_rtt") d ms refl ∙ h.space;
  number = stays (codes "number") (codes "smoothed_rtt") d ms refl ∙ h.number;
  size = stays (codes "size") (codes "smoothed_rtt") d ms refl ∙ h.size;
  eliciting = stays (codes "eliciting") (codes "smoothed_rtt") d ms refl ∙ h.eliciting;
  in_flight = stays (codes "in_flight") (codes "smoothed_rtt") d ms refl ∙ h.in_flight;
  permission = stays (codes "leave") (codes "smoothed_rtt") d ms refl ∙ h.permission;
  ranges = stays (codes "ranges") (codes "smoothed_rtt") d ms refl ∙ h.ranges;
  delay = stays (codes "delay") (codes "smoothed_rtt") d ms refl ∙ h.delay;
  app_limited = stays (codes "limited") (codes "smoothed_rtt") d ms refl ∙ h.app_limited;
  kind = stays (codes "kind") (codes "smoothed_rtt") d ms refl ∙ h.kind;
  window = stays (codes "window") (codes "smoothed_rtt") d ms refl ∙ h.window;
  ssthresh = stays (codes "ssthresh") (codes "smoothed_rtt") d ms refl ∙ h.ssthresh;
  bytes_in_flight = stays (codes "bytes_in_flight") (codes "smoothed_rtt") d ms refl ∙ h.bytes_in_flight;
  latest_rtt = stays (codes "latest_rtt") (codes "smoothed_rtt") d ms refl ∙ h.latest_rtt;
  min_rtt = stays (codes "min_rtt") (codes "smoothed_rtt") d ms refl ∙ h.min_rtt;
  smoothed_rtt = gives (codes "smoothed_rtt") d ms ∙ is;
  rttvar = stays (codes "rttvar") (codes "smoothed_rtt") d ms refl ∙ h.rttvar;
  are_words = (h.are_words.0, h.are_words.1, h.are_words.2, h.are_words.3, h.are_words.4, small, h.are_words.6);
  are_ranges = h.are_ranges;
}

pub put_smoothed_rtt : (f : Found) (x : ℕ) → x < 2 ^ 64 → Keeps (codes "smoothed_rtt") (integer x) f (record f { values = record f.values { smoothed_rtt = Some x } })
put_smoothed_rtt f x small = set_smoothed_rtt f (Some x) (integer x) refl (is_word x small)

pub no_smoothed_rtt : (f : Found) → Keeps (codes "smoothed_rtt") json.null f (record f { values = record f.values { smoothed_rtt = None } })
no_smoothed_rtt f = set_smoothed_rtt f None json.null refl no_word

set_rttvar : (f : Found) (o : Option ℕ) (d : Data) → unless_null d ≡ option_map integer o → IsWord o → Keeps (codes "rttvar") d f (record f { values = record f.values { rttvar = o } })
set_rttvar f o d is small ms h = record {
  event = stays (codes "event") (codes "rttvar") d ms refl ∙ h.event;
  time = stays (codes "time") (codes "rttvar") d ms refl ∙ h.time;
  space = stays (codes "space") (codes "rttvar") d ms refl ∙ h.space;
  number = stays (codes "number") (codes "rttvar") d ms refl ∙ h.number;
  size = stays (codes "size") (codes "rttvar") d ms refl ∙ h.size;
  eliciting = stays (codes "eliciting") (codes "rttvar") d ms refl ∙ h.eliciting;
  in_flight = stays (codes "in_flight") (codes "rttvar") d ms refl ∙ h.in_flight;
  permission = stays (codes "leave") (codes "rttvar") d ms refl ∙ h.permission;
  ranges = stays (codes "ranges") (codes "rttvar") d ms refl ∙ h.ranges;
  delay = stays (codes "delay") (codes "rttvar") d ms refl ∙ h.delay;
  app_limited = stays (codes "limited") (codes "rttvar") d ms refl ∙ h.app_limited;
  kind = stays (codes "kind") (codes "rttvar") d ms refl ∙ h.kind;
  window = stays (codes "window") (codes "rttvar") d ms refl ∙ h.window;
  ssthresh = stays (codes "ssthresh") (codes "rttvar") d ms refl ∙ h.ssthresh;
  bytes_in_flight = stays (codes "bytes_in_flight") (codes "rttvar") d ms refl ∙ h.bytes_in_flight;
  latest_rtt = stays (codes "latest_rtt") (codes "rttvar") d ms refl ∙ h.latest_rtt;
  min_rtt = stays (codes "min_rtt") (codes "rttvar") d ms refl ∙ h.min_rtt;
  smoothed_rtt = stays (codes "smoothed_rtt") (codes "rttvar") d ms refl ∙ h.smoothed_rtt;
  rttvar = gives (codes "rttvar") d ms ∙ is;
  are_words = (h.are_words.0, h.are_words.1, h.are_words.2, h.are_words.3, h.are_words.4, h.are_words.5, small);
  are_ranges = h.are_ranges;
}

pub put_rttvar : (f : Found) (x : ℕ) → x < 2 ^ 64 → Keeps (codes "rttvar") (integer x) f (record f { values = record f.values { rttvar = Some x } })
put_rttvar f x small = set_rttvar f (Some x) (integer x) refl (is_word x small)

pub no_rttvar : (f : Found) → Keeps (codes "rttvar") json.null f (record f { values = record f.values { rttvar = None } })
no_rttvar f = set_rttvar f None json.null refl no_word
