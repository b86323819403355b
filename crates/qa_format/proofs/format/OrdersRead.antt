-- A line is read as what it says in whatever order its keys stand, and with or without those that have their default.
use Rattle.std.proofs.Common.{◌≡◌, ◌∙◌, ◌⊎◌, inl, inr, ℕ, ◌≤◌, List, [], ◌∷◌, Bool, false, Option, Some, None, Ok, codes, Ordering, Less, Equal, Greater, refl, sym, ap, ap₂, subst, arith}
use Rattle.std.proofs.lemmas.Cmp.{nat_list_cmp_total, tied_itself}
use Rattle.std.proofs.lemmas.Map.Text.{is_eq-slice_cmp}
use Rattle.std.proofs.lemmas.Slice.Eq.{bytes_eq-Decides}
use Rattle.std.specs.Cmp.Lexicographic.{slice_cmp}
use Rattle.std.specs.List.{AllByRecursion}
use Rattle.std.specs.Ordering.{nat_cmp, match_ordering, is_eq, ordering_reverse}
use Rattle.std.specs.Prelude.{⊤, option_map, unwrap_or}
use Rattle.serde_json.specs.Data.{Data, object, Members, no_members, member, put, members_depth}
use Rattle.serde_json.specs.Find.{get_member}
use Rattle.qa_base.specs.declared.event.Event.{Event}
use Rattle.qa_base.specs.declared.event.Event.TheVariants.{Sent, Ack, Lost, Timer, Discard, Confirmed, Keys, Metrics}
use Rattle.qa_base.specs.declared.key.Key.{Key}
use Rattle.qa_base.specs.declared.key.Key.TheVariants as key
use Rattle.qa_base.specs.declared.header.Options.{Options}
use Rattle.qa_format.specs.declared.line.Line.{Line}
use Rattle.qa_format.specs.declared.line.Line.TheVariants as line
use Rattle.qa_base.specs.declared.space.Permission.{Permission}
use Rattle.qa_base.specs.declared.space.Permission.TheVariants.{Window}
use Rattle.qa_base.specs.values.Constants.{default_initial_rtt, default_max_ack_delay}
use Rattle.qa_base.specs.values.Names.{key_name, role_name, unit_name, controller_name, loss_by_number_name, unit_named, controller_named, loss_by_number_named, threshold_counts_name, threshold_counts_named, permission_name, permission_named}
use Rattle.qa_format.specs.format.Proper.{IsProperEvent}
use Rattle.qa_base.specs.declared.space.LossByNumber.{LossByNumber}
use Rattle.qa_base.specs.declared.space.LossByNumber.TheVariants.{Must}
use Rattle.qa_base.specs.declared.space.ThresholdCounts.{ThresholdCounts}
use Rattle.qa_base.specs.declared.space.ThresholdCounts.TheVariants.{Numbers}
use Rattle.qa_base.specs.declared.space.Controller.{Controller}
use Rattle.qa_base.specs.declared.space.Controller.TheVariants.{NewReno}
use Rattle.qa_base.specs.declared.space.TimeUnit.{TimeUnit}
use Rattle.qa_base.specs.declared.space.TimeUnit.TheVariants.{Microseconds}
use Rattle.qa_base.specs.values.Settings.{Settings, AreInRange, in_unit, default_window, no_options}
use Rattle.qa_format.specs.format.AnyOrder.{IsAmong, AreOfLine, event_defaults, AreOf, header_defaults, AreOfHeader, text_of}
use Rattle.qa_format.specs.format.Keys.{◌>>=◌, string_among, string_naming}
use Rattle.qa_format.specs.format.Reading.{reader_named, object_says, reading_by, reading}
use Rattle.qa_format.specs.format.Simple.{IsBefore, HaveSimple, IsKept, AreKept, put_all}
use Rattle.qa_format.specs.format.Tables.{unit_and_window, options, nothing_behind, settings, of_version, with_losses, with_counts, with_eighths}
use Rattle.qa_format.specs.format.Written as written
use Rattle.qa_format.specs.format.Written.{Pairs, header_pairs, event_pairs, members}
use Rattle.qa_format.proofs.format.AnyOrder.{json_of-members, get_put, get_put_other}
use Rattle.qa_format.proofs.format.KeysFound.{header_found, first_unit_found, second_unit_found, third_unit_found, first_options_found, version_two_options_found, version_three_options_found, sent_found, ack_found, lost_found, timer_found, discard_found, confirmed_found, keys_found, metrics_found}
use Rattle.qa_format.proofs.format.KeysWritten.{unit_reads, controller_reads, losses_read, counts_read, permission_reads, Follow}
use Rattle.qa_format.proofs.format.LinesWritten.{started, first, second, third, of_each, settings_read, options_pass, version_three_options_pass, limit_at, version_at, third_limit_at, third_unit_at, third_window_at, third_version_at, third_overshoot_at, first_follows, second_follows, third_follows, event_follows, metrics_pairs_are, event_found, time_found, window_found, ssthresh_found, bytes_in_flight_found, latest_rtt_found, min_rtt_found, smoothed_rtt_found, rttvar_found}
use Rattle.qa_format.proofs.format.PlainTexts.{key_is_ascii}

-- ---- texts

same_text : (k l : List ℕ) → slice_cmp nat_cmp k l ≡ Equal → k ≡ l
same_text k l e = (bytes_eq-Decides k l).0 (sym (is_eq-slice_cmp k l) ∙ ap is_eq e)

-- ---- what a key gives among pairs

gives_among_by : (o : Ordering) (k : List ℕ) (v : Data) (q : Key × Data) (ps : Pairs) → slice_cmp nat_cmp k (key_name q.0) ≡ o
    → (get_member k (members ps) ≡ Some v → (p : Key × Data) × IsAmong p ps × (key_name p.0 ≡ k) × (p.1 ≡ v))
    → match_ordering o (get_member k (members ps)) (Some q.1) (get_member k (members ps)) ≡ Some v
    → (p : Key × Data) × IsAmong p (q ∷ ps) × (key_name p.0 ≡ k) × (p.1 ≡ v)
gives_among_by Less k v q ps is later at = let found = later at in (found.0, inr found.1, found.2, found.3)
gives_among_by Equal k v q ps is later at = (q, inl refl, sym (same_text k (key_name q.0) is), cc)
gives_among_by Greater k v q ps is later at = let found = later at in (found.0, inr found.1, found.2, found.3)

-- what a key gives stands at it
gives_among : (k : List ℕ) (v : Data) (ps : Pairs) → get_member k (members ps) ≡ Some v → (p : Key × Data) × IsAmong p ps × (key_name p.0 ≡ k) × (p.1 ≡ v)
gives_among k v [] at = cc
gives_among k v (q ∷ ps) at = gives_among_by (slice_cmp nat_cmp k (key_name q.0)) k v q ps refl (gives_among k v ps) at

before_among : (k : List ℕ) (ps : Pairs) (p : Key × Data) → IsBefore k (members ps) → IsAmong p ps → slice_cmp nat_cmp k (key_name p.0) ≡ Less
before_among k [] p before among = absurd among
before_among k (q ∷ ps) p before among =
    elim among [ inl e ↦ ap (λ r. slice_cmp nat_cmp k (key_name r.0)) e ∙ before.0 | inr later ↦ before_among k ps p before.1 later ]

-- each key comes before those behind it
abbrev Rise : Members → Type 0
Rise no_members = ⊤
Rise (member k d ms) = IsBefore k ms × Rise ms

simple_rise : (ms : Members) → HaveSimple ms → Rise ms
simple_rise no_members simple = tt
simple_rise (member k d ms) simple = (simple.1, simple_rise ms simple.3)

-- where keys rise, each gives what stands at it
among_gives : (ps : Pairs) (p : Key × Data) → Rise (members ps) → IsAmong p ps → get_member (key_name p.0) (members ps) ≡ Some p.1
among_gives [] p rise among = absurd among
among_gives (q ∷ ps) p rise among =
    elim among [
      | inl e ↦ (let here : get_member (key_name q.0) (members (q ∷ ps)) ≡ Some q.1 = rw (tied_itself nat_list_cmp_total (key_name q.0)) refl in
          let P : Key × Data → Type 0 = λ r. get_member (key_name r.0) (members (q ∷ ps)) ≡ Some r.1 in subst P (sym e) here)
      | inr later ↦ (let above : slice_cmp nat_cmp (key_name p.0) (key_name q.0) ≡ Greater =
          nat_list_cmp_total.antisymm (key_name p.0) (key_name q.0) ∙ ap ordering_reverse (before_among (key_name q.0) ps p rise.0 later) in
          rw above (among_gives ps p rise.1 later))
    ]

-- ---- what a key gives once the pairs were put one after another

put_same : (k : List ℕ) (q : Key × Data) (found : Members) → key_name q.0 ≡ k → get_member k (put (key_name q.0) q.1 found) ≡ Some q.1
put_same k q found is = let P : List ℕ → Type 0 = λ l. get_member l (put (key_name q.0) q.1 found) ≡ Some q.1 in subst P is (get_put (key_name q.0) q.1 found)

kept_by : (o : Ordering) (k : List ℕ) (v : Data) (q : Key × Data) (found : Members) (r : Option Data) → slice_cmp nat_cmp k (key_name q.0) ≡ o
    → (key_name q.0 ≡ k → q.1 ≡ v) → (r ≡ Some v) ⊎ (r ≡ get_member k (put (key_name q.0) q.1 found)) → (r ≡ Some v) ⊎ (r ≡ get_member k found)
kept_by o k v q found r is same (inl e) = inl e
kept_by Less k v q found r is same (inr e) = inr (e ∙ get_put_other k (key_name q.0) q.1 found (λ w. cc))
kept_by Equal k v q found r is same (inr e) =
    let names : key_name q.0 ≡ k = sym (same_text k (key_name q.0) is) in inl (e ∙ put_same k q found names ∙ ap Some (same names))
kept_by Greater k v q found r is same (inr e) = inr (e ∙ get_put_other k (key_name q.0) q.1 found (λ w. cc))

-- where each pair with this key has this value, the key gives it, or what it gave
value_or_before : (k : List ℕ) (v : Data) (ps : Pairs) (found : Members) → ((p : Key × Data) → IsAmong p ps → key_name p.0 ≡ k → p.1 ≡ v)
    → (get_member k (put_all found (members ps)) ≡ Some v) ⊎ (get_member k (put_all found (members ps)) ≡ get_member k found)
value_or_before k v [] found same = inr refl
value_or_before k v (q ∷ ps) found same =
    kept_by (slice_cmp nat_cmp k (key_name q.0)) k v q found (get_member k (put_all (put (key_name q.0) q.1 found) (members ps))) refl (same q (inl refl))
    (value_or_before k v ps (put (key_name q.0) q.1 found) (λ p among. same p (inr among)))

-- and where there is such a pair, the key gives it
value_of : (k : List ℕ) (v : Data) (ps : Pairs) (found : Members) (p : Key × Data) → ((p : Key × Data) → IsAmong p ps → key_name p.0 ≡ k → p.1 ≡ v)
    → IsAmong p ps → key_name p.0 ≡ k → get_member k (put_all found (members ps)) ≡ Some v
value_of k v [] found p same among names = absurd among
value_of k v (q ∷ ps) found p same among names =
    elim among [
      | inl e ↦ (let name : key_name q.0 ≡ k = ap (λ r. key_name r.0) (sym e) ∙ names in
          elim (value_or_before k v ps (put (key_name q.0) q.1 found) (λ r at. same r (inr at)))
          [ inl is ↦ is | inr is ↦ is ∙ put_same k q found name ∙ ap Some (same q (inl refl) name) ])
      | inr later ↦ value_of k v ps (put (key_name q.0) q.1 found) p (λ r at. same r (inr at)) later names
    ]

absent_by : (o : Ordering) (k : List ℕ) (q : Key × Data) (found : Members) → slice_cmp nat_cmp k (key_name q.0) ≡ o → (key_name q.0 ≡ k → ⊥)
    → get_member k (put (key_name q.0) q.1 found) ≡ get_member k found
absent_by Less k q found is none = get_put_other k (key_name q.0) q.1 found (λ w. cc)
absent_by Equal k q found is none = absurd (none (sym (same_text k (key_name q.0) is)))
absent_by Greater k q found is none = get_put_other k (key_name q.0) q.1 found (λ w. cc)

-- where no pair has this key, it gives what it gave
before_of : (k : List ℕ) (ps : Pairs) (found : Members) → ((p : Key × Data) → IsAmong p ps → key_name p.0 ≡ k → ⊥)
    → get_member k (put_all found (members ps)) ≡ get_member k found
before_of k [] found none = refl
before_of k (q ∷ ps) found none =
    before_of k ps (put (key_name q.0) q.1 found) (λ p among. none p (inr among))
    ∙ absent_by (slice_cmp nat_cmp k (key_name q.0)) k q found refl (none q (inl refl))

-- ---- each pair can be written and read

kept_among_by : (o : Ordering) (e v : Data) (r : Option Data) → match_ordering o r (Some e) r ≡ Some v → IsKept e → (r ≡ Some v → IsKept v) → IsKept v
kept_among_by Less e v r at here later = later at
kept_among_by Equal e v r at here later = let is : e ≡ v = cc in subst IsKept is here
kept_among_by Greater e v r at here later = later at

kept_at : (k : List ℕ) (v : Data) (ms : Members) → HaveSimple ms → members_depth ms ≤ 2 → get_member k ms ≡ Some v → IsKept v
kept_at k v no_members simple shallow at = cc
kept_at k v (member l e ms) simple shallow at =
    kept_among_by (slice_cmp nat_cmp k l) e v (get_member k ms) at (record { simple = simple.2; shallow = omega (arith, shallow) }) (kept_at k v ms simple.3 (omega (arith, shallow)))

all_at : (P : Key × Data → Type 0) (ps : Pairs) (p : Key × Data) → AllByRecursion P ps → IsAmong p ps → P p
all_at P [] p all among = absurd among
all_at P (q ∷ ps) p all among = elim among [ inl e ↦ subst P (sym e) all.0 | inr later ↦ all_at P ps p all.1 later ]

are_kept : (own ps : Pairs) → HaveSimple (members own) → members_depth (members own) ≤ 2 → AllByRecursion (λ p. IsAmong p own) ps → AreKept (members ps)
are_kept own [] simple shallow each = tt
are_kept own (p ∷ ps) simple shallow each =
    (key_is_ascii p.0, kept_at (key_name p.0) p.1 (members own) simple shallow (among_gives own p (simple_rise (members own) simple) each.0), are_kept own ps simple shallow each.1)

-- ---- the keys of a line

-- the line's own pairs, whose keys rise, as those of the defaults do, and the pairs of a text
module _ (own defaults ps : Pairs) (follows : Follow [] own) (rise : Rise (members defaults)) (are : AreOfLine own defaults ps) where
  -- a pair of the text gives what the line's own pairs give
  own_gives : (p : Key × Data) → IsAmong p ps → get_member (key_name p.0) (members own) ≡ Some p.1
  own_gives p among = among_gives own p (simple_rise (members own) follows.simple) (all_at (λ q. IsAmong q own) ps p are.each among)

  gives_same : (k : List ℕ) (v : Data) → get_member k (members own) ≡ Some v → (p : Key × Data) → IsAmong p ps → key_name p.0 ≡ k → p.1 ≡ v
  gives_same k v at p among names =
      let both : Some p.1 ≡ Some v = sym (own_gives p among) ∙ ap (λ l. get_member l (members own)) names ∙ at in cc

  -- a key of the line gives its value, or nothing where that is the default
  given : (k : List ℕ) (v : Data) → get_member k (members own) ≡ Some v
      → (get_member k (put_all no_members (members ps)) ≡ Some v)
      ⊎ ((get_member k (put_all no_members (members ps)) ≡ None) × (get_member k (members defaults) ≡ Some v))
  given k v at =
      let found = gives_among k v own at in
      elim (all_at (λ q. IsAmong q ps ⊎ IsAmong q defaults) own found.0 are.complete found.1) [
        | inl among ↦ inl (value_of k v ps no_members found.0 (gives_same k v at) among found.2)
        | inr default ↦ (let absent = ap (λ l. get_member l (members defaults)) (sym found.2) ∙ among_gives defaults found.0 rise default ∙ ap Some found.3 in
            elim (value_or_before k v ps no_members (gives_same k v at)) [ inl is ↦ inl is | inr is ↦ inr (is, absent) ])
      ]

  -- a key that the line has not gives nothing
  not_given : (k : List ℕ) → get_member k (members own) ≡ None → get_member k (put_all no_members (members ps)) ≡ None
  not_given k at = before_of k ps no_members (λ p among names.
      let both : Some p.1 ≡ None = sym (own_gives p among) ∙ ap (λ l. get_member l (members own)) names ∙ at in cc)

  -- a key that has no default gives its value
  required_given : (k : List ℕ) (v : Data) → get_member k (members own) ≡ Some v → get_member k (members defaults) ≡ None
      → get_member k (put_all no_members (members ps)) ≡ Some v
  required_given k v at none = elim (given k v at) [ inl is ↦ is | inr absent ↦ absurd (let both : None ≡ Some v = sym none ∙ absent.1 in cc) ]

  reported_given : (k : List ℕ) (o : Option ℕ) → get_member k (members own) ≡ option_map written.integer o → get_member k (members defaults) ≡ None
      → get_member k (put_all no_members (members ps)) ≡ option_map written.integer o
  reported_given k None at none = not_given k at
  reported_given k (Some n) at none = required_given k (written.integer n) at none

  -- a key that has a default gives its value, or nothing and the value is the default
  optional_given : {A : Type 0} → (as_data : A → Data) (absent : A) (k : List ℕ) (a : A) → ((b c : A) → as_data b ≡ as_data c → b ≡ c)
      → get_member k (members own) ≡ Some (as_data a) → get_member k (members defaults) ≡ Some (as_data absent)
      → (o : Option A) × (get_member k (put_all no_members (members ps)) ≡ option_map as_data o) × (unwrap_or o absent ≡ a)
  optional_given as_data absent k a same at default = elim (given k (as_data a) at) [
    | inl is ↦ (Some a, is, refl)
    | inr left ↦ (None, left.0, same absent a (let both : Some (as_data absent) ≡ Some (as_data a) = sym default ∙ left.1 in cc))
  ]

  -- what the text reads as
  text_reads : (x : Line) → object_says reader_named (object (put_all no_members (members ps))) ≡ Ok x → reading (text_of ps) ≡ Ok x
  unfolding reading_by
  text_reads x says = ap (λ r. r >>= object_says reader_named) (json_of-members (members ps) (are_kept own ps follows.simple follows.shallow are.each)) ∙ says

-- ---- values with a default

same_integer : (n m : ℕ) → written.integer n ≡ written.integer m → n ≡ m
same_integer n m e = cc

same_boolean : (b c : Bool) → written.boolean b ≡ written.boolean c → b ≡ c
same_boolean b c e = cc

abbrev permission_data : Permission → Data
permission_data l = written.string (permission_name l)

same_permission : (l m : Permission) → permission_data l ≡ permission_data m → l ≡ m
same_permission l m e =
    let both : Ok l ≡ Ok m = sym (permission_reads key.Leave l) ∙ ap (string_among permission_named key.Leave) e ∙ permission_reads key.Leave m in cc

abbrev unit_data : TimeUnit → Data
unit_data u = written.string (unit_name u)

same_unit : (u v : TimeUnit) → unit_data u ≡ unit_data v → u ≡ v
same_unit u v e =
    let both : Ok u ≡ Ok v = sym (unit_reads key.Unit u) ∙ ap (string_among unit_named key.Unit) e ∙ unit_reads key.Unit v in cc

abbrev controller_data : Controller → Data
controller_data w = written.string (controller_name w)

same_controller : (v w : Controller) → controller_data v ≡ controller_data w → v ≡ w
same_controller v w e =
    let both : Ok v ≡ Ok w = sym (controller_reads key.Window v) ∙ ap (string_among controller_named key.Window) e ∙ controller_reads key.Window w in cc

abbrev losses_data : LossByNumber → Data
losses_data l = written.string (loss_by_number_name l)

same_losses : (l m : LossByNumber) → losses_data l ≡ losses_data m → l ≡ m
same_losses l m e =
    let both : Ok (Some l) ≡ Ok (Some m) = sym (losses_read key.LossByNumber l) ∙ ap (string_naming loss_by_number_named key.LossByNumber) e ∙ losses_read key.LossByNumber m in cc

abbrev counts_data : ThresholdCounts → Data
counts_data t = written.string (threshold_counts_name t)

same_counts : (t u : ThresholdCounts) → counts_data t ≡ counts_data u → t ≡ u
same_counts t u e =
    let both : Ok (Some t) ≡ Ok (Some u) = sym (counts_read key.ThresholdCounts t) ∙ ap (string_naming threshold_counts_named key.ThresholdCounts) e ∙ counts_read key.ThresholdCounts u in cc

events_rise : Rise (members event_defaults)
events_rise = ((refl, (refl, tt)), ((refl, tt), (tt, tt)))

header_rises : (unit : TimeUnit) (size : ℕ) → Rise (members (header_defaults unit size))
header_rises unit size = ((refl, (refl, (refl, (refl, (refl, (refl, (refl, (refl, (refl, (refl, (refl, (refl, (refl, (refl, (refl, (refl, (refl, tt))))))))))))))))), ((refl, (refl, (refl, (refl, (refl, (refl, (refl, (refl, (refl, (refl, (refl, (refl, (refl, (refl, (refl, (refl, tt)))))))))))))))), ((refl, (refl, (refl, (refl, (refl, (refl, (refl, (refl, (refl, (refl, (refl, (refl, (refl, (refl, (refl, tt))))))))))))))), ((refl, (refl, (refl, (refl, (refl, (refl, (refl, (refl, (refl, (refl, (refl, (refl, (refl, (refl, tt)))))))))))))), ((refl, (refl, (refl, (refl, (refl, (refl, (refl, (refl, (refl, (refl, (refl, (refl, (refl, tt))))))))))))), ((refl, (refl, (refl, (refl, (refl, (refl, (refl, (refl, (refl, (refl, (refl, (refl, tt)))))))))))), ((refl, (refl, (refl, (refl, (refl, (refl, (refl, (refl, (refl, (refl, (refl, tt))))))))))), ((refl, (refl, (refl, (refl, (refl, (refl, (refl, (refl, (refl, (refl, tt)))))))))), ((refl, (refl, (refl, (refl, (refl, (refl, (refl, (refl, (refl, tt))))))))), ((refl, (refl, (refl, (refl, (refl, (refl, (refl, (refl, tt)))))))), ((refl, (refl, (refl, (refl, (refl, (refl, (refl, tt))))))), ((refl, (refl, (refl, (refl, (refl, (refl, tt)))))), ((refl, (refl, (refl, (refl, (refl, tt))))), ((refl, (refl, (refl, (refl, tt)))), ((refl, (refl, (refl, tt))), ((refl, (refl, tt)), ((refl, tt), (tt, tt))))))))))))))))))

-- ---- headers

settings_given : (s : Settings) (delay rtt window : Option ℕ) → AreInRange s
    → unwrap_or delay (in_unit s.unit default_max_ack_delay) ≡ s.max_ack_delay
    → unwrap_or rtt (in_unit s.unit default_initial_rtt) ≡ s.initial_rtt
    → unwrap_or window (default_window s.max_datagram_size) ≡ s.initial_window
    → settings s.unit s.role s.max_datagram_size delay rtt window ≡ Ok (started s)
settings_given s delay rtt window are delays rtts windows = rw (delays, rtts, windows) (settings_read s are)

-- the line's own pairs are those of a header in the version of this number
header_given : (t : Settings) (n : ℕ) (own ps : Pairs) → AreInRange t → Follow [] own → AreOfLine own (header_defaults t.unit t.max_datagram_size) ps
    → get_member (codes "event") (members own) ≡ Some (written.string (codes "header"))
    → get_member (codes "version") (members own) ≡ Some (written.integer n)
    → get_member (codes "role") (members own) ≡ Some (written.string (role_name t.role))
    → get_member (codes "max_datagram_size") (members own) ≡ Some (written.integer t.max_datagram_size)
    → get_member (codes "max_ack_delay") (members own) ≡ Some (written.integer t.max_ack_delay)
    → get_member (codes "initial_rtt") (members own) ≡ Some (written.integer t.initial_rtt)
    → get_member (codes "initial_window") (members own) ≡ Some (written.integer t.initial_window)
    → unit_and_window (object (put_all no_members (members ps))) ≡ Ok (t.unit, t.options.controller)
    → options (object (put_all no_members (members ps)))
    ≡ Ok (record t.options { controller = NewReno; loss_by_number = Must; threshold_counts = Numbers; time_threshold_eighths = 9 }, ((Some t.options.loss_by_number, Some t.options.threshold_counts), t.options.time_threshold_eighths))
    → (of_version n (record t.options { loss_by_number = Must; threshold_counts = Numbers; time_threshold_eighths = 9 }) (started t) >>= with_losses (Some t.options.loss_by_number) >>= with_counts (Some t.options.threshold_counts) >>= with_eighths t.options.time_threshold_eighths) ≡ Ok t
    → reading (text_of ps) ≡ Ok (line.Header t)
header_given t n own ps in_range follows are named at_version at_role at_size at_delay at_rtt at_window times asks of =
    let defaults = header_defaults t.unit t.max_datagram_size in
    let rise = header_rises t.unit t.max_datagram_size in
    let at = required_given own defaults ps follows rise are in
    let integer_at = optional_given own defaults ps follows rise are written.integer in
    let delay = integer_at (in_unit t.unit default_max_ack_delay) (codes "max_ack_delay") t.max_ack_delay same_integer at_delay refl in
    let rtt = integer_at (in_unit t.unit default_initial_rtt) (codes "initial_rtt") t.initial_rtt same_integer at_rtt refl in
    let window = integer_at (default_window t.max_datagram_size) (codes "initial_window") t.initial_window same_integer at_window refl in
    text_reads own defaults ps follows rise are (line.Header t)
    (header_found (put_all no_members (members ps)) n (record t.options { controller = NewReno; loss_by_number = Must; threshold_counts = Numbers; time_threshold_eighths = 9 }) t.options.loss_by_number t.options.threshold_counts t.options.time_threshold_eighths t.role t.unit t.options.controller t.max_datagram_size delay.0 rtt.0 window.0 (started t) t
    (at (codes "event") _ named refl)
    (at (codes "version") _ at_version refl)
    (at (codes "role") _ at_role refl)
    times
    (at (codes "max_datagram_size") _ at_size refl)
    delay.1 rtt.1 window.1 asks (settings_given t delay.0 rtt.0 window.0 in_range delay.2 rtt.2 window.2) of)

first_order_reads : (s : Settings) (ps : Pairs) → AreInRange (first s) → AreOfHeader (first s) ps → reading (text_of ps) ≡ Ok (line.Header (first s))
first_order_reads s ps in_range are =
    let own = header_pairs (first s) in
    let d = object (put_all no_members (members ps)) in
    let follows = first_follows s in_range in
    let rise = header_rises Microseconds s.max_datagram_size in
    let at_version = required_given own (header_defaults Microseconds s.max_datagram_size) ps follows rise are (codes "version") (written.integer 1) refl refl in
    header_given (first s) 1 own ps in_range follows are refl refl refl refl refl refl refl (first_unit_found d at_version) (first_options_found d at_version) refl

options_given : (limit : Option ℕ) (refresh : Option Bool) (slack_us slack_bytes : Option ℕ) (o : Options)
    → limit ≡ o.timer_late
    → unwrap_or refresh no_options.refresh_min_rtt ≡ o.refresh_min_rtt
    → unwrap_or slack_us no_options.report_slack_us ≡ o.report_slack_us
    → unwrap_or slack_bytes no_options.report_slack_bytes ≡ o.report_slack_bytes
    → record no_options { timer_late = limit; refresh_min_rtt = unwrap_or refresh false; report_slack_us = unwrap_or slack_us 0; report_slack_bytes = unwrap_or slack_bytes 0 }
    ≡ record no_options { timer_late = o.timer_late; refresh_min_rtt = o.refresh_min_rtt; report_slack_us = o.report_slack_us; report_slack_bytes = o.report_slack_bytes }
options_given limit refresh slack_us slack_bytes o limits refreshes times bytes = rw (limits, refreshes, times, bytes) refl

second_order_reads : (s : Settings) (ps : Pairs) (limit : Option ℕ) (refresh : Bool) (slack_us slack_bytes : ℕ) → AreInRange (second s limit refresh slack_us slack_bytes)
    → AreOfHeader (second s limit refresh slack_us slack_bytes) ps
    → reading (text_of ps) ≡ Ok (line.Header (second s limit refresh slack_us slack_bytes))
second_order_reads s ps limit refresh slack_us slack_bytes in_range are =
    let t = second s limit refresh slack_us slack_bytes in
    let own = header_pairs t in
    let d = object (put_all no_members (members ps)) in
    let defaults = header_defaults Microseconds s.max_datagram_size in
    let follows = second_follows s limit refresh slack_us slack_bytes in_range in
    let rise = header_rises Microseconds s.max_datagram_size in
    let own_version = version_at s limit refresh slack_us slack_bytes in
    let at_version = required_given own defaults ps follows rise are (codes "version") (written.integer 2) own_version refl in
    let at_limit = reported_given own defaults ps follows rise are (codes "timer_late_us") limit (limit_at s limit refresh slack_us slack_bytes) refl in
    let refreshes = optional_given own defaults ps follows rise are written.boolean no_options.refresh_min_rtt (codes "refresh_min_rtt") refresh same_boolean refl refl in
    let times = optional_given own defaults ps follows rise are written.integer no_options.report_slack_us (codes "report_slack_us") slack_us same_integer refl refl in
    let bytes = optional_given own defaults ps follows rise are written.integer no_options.report_slack_bytes (codes "report_slack_bytes") slack_bytes same_integer refl refl in
    let asks : options d ≡ Ok (t.options, nothing_behind) =
    version_two_options_found d limit refreshes.0 times.0 bytes.0 at_version at_limit refreshes.1 times.1 bytes.1
    ∙ ap (λ o. Ok (o, nothing_behind)) (options_given limit refreshes.0 times.0 bytes.0 t.options refl refreshes.2 times.2 bytes.2) in
    header_given t 2 own ps in_range follows are refl own_version refl refl refl refl refl (second_unit_found d at_version) asks (options_pass s limit refresh slack_us slack_bytes in_range)

version_three_options_given : (limit : Option ℕ) (refresh : Option Bool) (slack_us slack_bytes : Option ℕ) (overshoot eliciting : Option Bool) (threshold early : Option ℕ) (reset less order : Option Bool) (o : Options)
    → limit ≡ o.timer_late
    → unwrap_or refresh no_options.refresh_min_rtt ≡ o.refresh_min_rtt
    → unwrap_or slack_us no_options.report_slack_us ≡ o.report_slack_us
    → unwrap_or slack_bytes no_options.report_slack_bytes ≡ o.report_slack_bytes
    → unwrap_or overshoot no_options.window_overshoot ≡ o.window_overshoot
    → unwrap_or eliciting no_options.sample_eliciting_only ≡ o.sample_eliciting_only
    → unwrap_or threshold no_options.packet_threshold ≡ o.packet_threshold
    → unwrap_or early no_options.timer_early_us ≡ o.timer_early_us
    → unwrap_or reset no_options.reset_rtt ≡ o.reset_rtt
    → unwrap_or less no_options.latest_rtt_less_delay ≡ o.latest_rtt_less_delay
    → unwrap_or order no_options.recovery_by_order ≡ o.recovery_by_order
    → record no_options {
      timer_late = limit;
      refresh_min_rtt = unwrap_or refresh false;
      report_slack_us = unwrap_or slack_us 0;
      report_slack_bytes = unwrap_or slack_bytes 0;
      window_overshoot = unwrap_or overshoot false;
      sample_eliciting_only = unwrap_or eliciting false;
      packet_threshold = unwrap_or threshold 3;
      timer_early_us = unwrap_or early 0;
      reset_rtt = unwrap_or reset false;
      latest_rtt_less_delay = unwrap_or less false;
      recovery_by_order = unwrap_or order false;
    } ≡ record o { controller = NewReno; loss_by_number = Must; threshold_counts = Numbers; time_threshold_eighths = 9 }
version_three_options_given limit refresh slack_us slack_bytes overshoot eliciting threshold early reset less order o limits refreshes times bytes overshoots samples thresholds earlies resets lesses orders =
    rw (limits, refreshes, times, bytes, overshoots, samples, thresholds, earlies, resets, lesses, orders) refl

third_order_reads : (s : Settings) (ps : Pairs) (limit : Option ℕ) → AreInRange (third s limit) → AreOfHeader (third s limit) ps
    → reading (text_of ps) ≡ Ok (line.Header (third s limit))
third_order_reads s ps limit in_range are =
    let t = third s limit in
    let o = s.options in
    let own = header_pairs t in
    let d = object (put_all no_members (members ps)) in
    let defaults = header_defaults s.unit s.max_datagram_size in
    let follows = third_follows s limit in_range in
    let rise = header_rises s.unit s.max_datagram_size in
    let own_version = third_version_at s limit in
    let at_version = required_given own defaults ps follows rise are (codes "version") (written.integer 3) own_version refl in
    let at_limit = reported_given own defaults ps follows rise are (codes "timer_late_us") limit (third_limit_at s limit) refl in
    let integer_at = optional_given own defaults ps follows rise are written.integer in
    let boolean_at = optional_given own defaults ps follows rise are written.boolean in
    let units = optional_given own defaults ps follows rise are unit_data Microseconds (codes "unit") s.unit same_unit (third_unit_at s limit) refl in
    let windows = optional_given own defaults ps follows rise are controller_data NewReno (codes "window") o.controller same_controller (third_window_at s limit) refl in
    let refreshes = boolean_at no_options.refresh_min_rtt (codes "refresh_min_rtt") o.refresh_min_rtt same_boolean refl refl in
    let times = integer_at no_options.report_slack_us (codes "report_slack_us") o.report_slack_us same_integer refl refl in
    let bytes = integer_at no_options.report_slack_bytes (codes "report_slack_bytes") o.report_slack_bytes same_integer refl refl in
    let overshoots = boolean_at no_options.window_overshoot (codes "window_overshoot") o.window_overshoot same_boolean (third_overshoot_at s limit) refl in
    let samples = boolean_at no_options.sample_eliciting_only (codes "sample_eliciting_only") o.sample_eliciting_only same_boolean refl refl in
    let thresholds = integer_at no_options.packet_threshold (codes "packet_threshold") o.packet_threshold same_integer refl refl in
    let earlies = integer_at no_options.timer_early_us (codes "timer_early_us") o.timer_early_us same_integer refl refl in
    let resets = boolean_at no_options.reset_rtt (codes "reset_rtt") o.reset_rtt same_boolean refl refl in
    let lesses = boolean_at no_options.latest_rtt_less_delay (codes "latest_rtt_less_delay") o.latest_rtt_less_delay same_boolean refl refl in
    let orders = boolean_at no_options.recovery_by_order (codes "recovery_by_order") o.recovery_by_order same_boolean refl refl in
    let parts = integer_at no_options.time_threshold_eighths (codes "time_threshold_eighths") o.time_threshold_eighths same_integer refl refl in
    let losses = optional_given own defaults ps follows rise are losses_data Must (codes "loss_by_number") o.loss_by_number same_losses refl refl in
    let counted = optional_given own defaults ps follows rise are counts_data Numbers (codes "threshold_counts") o.threshold_counts same_counts refl refl in
    let clocks : unit_and_window d ≡ Ok (s.unit, o.controller) = third_unit_found d units.0 windows.0 at_version units.1 windows.1 ∙ ap₂ (λ u w. Ok (u, w)) units.2 windows.2 in
    let asks : options d ≡ Ok (record t.options { controller = NewReno; loss_by_number = Must; threshold_counts = Numbers; time_threshold_eighths = 9 }, ((Some o.loss_by_number, Some o.threshold_counts), o.time_threshold_eighths)) =
    version_three_options_found d limit refreshes.0 times.0 bytes.0 overshoots.0 samples.0 thresholds.0 earlies.0 losses.0 counted.0 resets.0 lesses.0 parts.0 orders.0
    at_version at_limit refreshes.1 times.1 bytes.1 overshoots.1 samples.1 thresholds.1 earlies.1 losses.1 counted.1 resets.1 lesses.1 parts.1 orders.1
    ∙ ap₂ (λ p b. Ok (p, b)) (version_three_options_given limit refreshes.0 times.0 bytes.0 overshoots.0 samples.0 thresholds.0 earlies.0 resets.0 lesses.0 orders.0 t.options
    refl refreshes.2 times.2 bytes.2 overshoots.2 samples.2 thresholds.2 earlies.2 resets.2 lesses.2 orders.2) (ap₂ (λ w n. (w, n)) (ap₂ (λ l t. (Some l, Some t)) losses.2 counted.2) parts.2) in
    header_given t 3 own ps in_range follows are refl own_version refl refl refl refl refl clocks asks (version_three_options_pass s limit in_range)

-- a header is read from its keys and values in any order, and with or without its defaults
pub header_order_reads : (s : Settings) (ps : Pairs) → AreInRange s → AreOfHeader s ps → reading (text_of ps) ≡ Ok (line.Header s)
header_order_reads s ps in_range =
    of_each (λ t. AreOfHeader t ps → reading (text_of ps) ≡ Ok (line.Header t)) s s.version refl in_range (first_order_reads s ps) (second_order_reads s ps)
    (third_order_reads s ps)

-- ---- events

module _ (e : Event) (ps : Pairs) (proper : IsProperEvent e) (are : AreOf e ps) where
  event_at : (k : List ℕ) (v : Data) → get_member k (members (event_pairs e)) ≡ Some v → get_member k (members event_defaults) ≡ None
      → get_member k (put_all no_members (members ps)) ≡ Some v
  event_at = required_given (event_pairs e) event_defaults ps (event_follows e proper) events_rise are

  metric_at : (k : List ℕ) (o : Option ℕ) → get_member k (members (event_pairs e)) ≡ option_map written.integer o → get_member k (members event_defaults) ≡ None
      → get_member k (put_all no_members (members ps)) ≡ option_map written.integer o
  metric_at = reported_given (event_pairs e) event_defaults ps (event_follows e proper) events_rise are

  event_optional : {A : Type 0} → (as_data : A → Data) (absent : A) (k : List ℕ) (a : A) → ((b c : A) → as_data b ≡ as_data c → b ≡ c)
      → get_member k (members (event_pairs e)) ≡ Some (as_data a) → get_member k (members event_defaults) ≡ Some (as_data absent)
      → (o : Option A) × (get_member k (put_all no_members (members ps)) ≡ option_map as_data o) × (unwrap_or o absent ≡ a)
  event_optional = optional_given (event_pairs e) event_defaults ps (event_follows e proper) events_rise are

  -- what the object of the text says is what the text reads as; the object may say the event with its defaults filled in
  event_reads : (f : Event) → f ≡ e → (IsProperEvent f → object_says reader_named (object (put_all no_members (members ps))) ≡ Ok (line.Event f))
      → reading (text_of ps) ≡ Ok (line.Event e)
  event_reads f is says =
      text_reads (event_pairs e) event_defaults ps (event_follows e proper) events_rise are (line.Event e)
      (says (subst IsProperEvent (sym is) proper) ∙ ap (λ g. Ok (line.Event g)) is)

-- an event is read from its keys and values in any order, and with or without its defaults
pub order_reads : (e : Event) (ps : Pairs) → IsProperEvent e → AreOf e ps → reading (text_of ps) ≡ Ok (line.Event e)
order_reads (Sent packet) ps proper are =
    let e = Sent packet in
    let at = event_at e ps proper are in
    let left = event_optional e ps proper are permission_data Window (codes "leave") packet.permission same_permission refl refl in
    event_reads e ps proper are (Sent (record packet { permission = unwrap_or left.0 Window })) (ap (λ l. Sent (record packet { permission = l })) left.2)
    (sent_found _ packet left.0
    (at (codes "event") _ refl refl)
    (at (codes "time") _ refl refl)
    (at (codes "space") _ refl refl)
    (at (codes "number") _ refl refl)
    (at (codes "size") _ refl refl)
    (at (codes "eliciting") _ refl refl)
    (at (codes "in_flight") _ refl refl)
    left.1)
order_reads (Ack ack) ps proper are =
    let e = Ack ack in
    let at = event_at e ps proper are in
    let delayed = event_optional e ps proper are written.integer 0 (codes "delay") ack.delay same_integer refl refl in
    let bounded = event_optional e ps proper are written.boolean false (codes "limited") ack.app_limited same_boolean refl refl in
    event_reads e ps proper are (Ack (record ack { delay = unwrap_or delayed.0 0; app_limited = unwrap_or bounded.0 false })) (ap₂ (λ delay app_limited. Ack (record ack { delay = delay; app_limited = app_limited })) delayed.2 bounded.2)
    (ack_found _ ack delayed.0 bounded.0
    (at (codes "event") _ refl refl)
    (at (codes "time") _ refl refl)
    (at (codes "space") _ refl refl)
    (at (codes "ranges") _ refl refl)
    delayed.1 bounded.1)
order_reads (Lost t s rs) ps proper are =
    let at = event_at (Lost t s rs) ps proper are in
    event_reads (Lost t s rs) ps proper are (Lost t s rs) refl (lost_found _ t s rs
    (at (codes "event") _ refl refl)
    (at (codes "time") _ refl refl)
    (at (codes "space") _ refl refl)
    (at (codes "ranges") _ refl refl))
order_reads (Timer t k s) ps proper are =
    let at = event_at (Timer t k s) ps proper are in
    event_reads (Timer t k s) ps proper are (Timer t k s) refl (timer_found _ t k s
    (at (codes "event") _ refl refl)
    (at (codes "time") _ refl refl)
    (at (codes "kind") _ refl refl)
    (at (codes "space") _ refl refl))
order_reads (Discard t s) ps proper are =
    let at = event_at (Discard t s) ps proper are in
    event_reads (Discard t s) ps proper are (Discard t s) refl (discard_found _ t s
    (at (codes "event") _ refl refl)
    (at (codes "time") _ refl refl)
    (at (codes "space") _ refl refl))
order_reads (Confirmed t) ps proper are =
    let at = event_at (Confirmed t) ps proper are in
    event_reads (Confirmed t) ps proper are (Confirmed t) refl (confirmed_found _ t
    (at (codes "event") _ refl refl)
    (at (codes "time") _ refl refl))
order_reads (Keys t) ps proper are =
    let at = event_at (Keys t) ps proper are in
    event_reads (Keys t) ps proper are (Keys t) refl (keys_found _ t
    (at (codes "event") _ refl refl)
    (at (codes "time") _ refl refl))
order_reads (Metrics t v) ps proper are =
    let at = event_at (Metrics t v) ps proper are in
    let metric = metric_at (Metrics t v) ps proper are in
    let same = λ (k : List ℕ). ap (λ qs. get_member k (members qs)) (metrics_pairs_are t v) in
    event_reads (Metrics t v) ps proper are (Metrics t v) refl (metrics_found _ t v
    (at (codes "event") _ (same (codes "event") ∙ event_found t v) refl)
    (at (codes "time") _ (same (codes "time") ∙ time_found t v) refl)
    (metric (codes "window") v.window (same (codes "window") ∙ window_found t v) refl)
    (metric (codes "ssthresh") v.ssthresh (same (codes "ssthresh") ∙ ssthresh_found t v) refl)
    (metric (codes "bytes_in_flight") v.bytes_in_flight (same (codes "bytes_in_flight") ∙ bytes_in_flight_found t v) refl)
    (metric (codes "latest_rtt") v.latest_rtt (same (codes "latest_rtt") ∙ latest_rtt_found t v) refl)
    (metric (codes "min_rtt") v.min_rtt (same (codes "min_rtt") ∙ min_rtt_found t v) refl)
    (metric (codes "smoothed_rtt") v.smoothed_rtt (same (codes "smoothed_rtt") ∙ smoothed_rtt_found t v) refl)
    (metric (codes "rttvar") v.rttvar (same (codes "rttvar") ∙ rttvar_found t v) refl))
