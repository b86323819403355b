-- A line with keys behind its own that begin with `x_` is read as the line.
use Rattle.std.proofs.Common.{◌≡◌, ◌∙◌, ℕ, ◌≤◌, ◌==◌, List, [], ◌∷◌, Bool, true, false, Option, Some, None, Result, Ok, Err, codes, Ordering, Less, Equal, Greater, refl, String, Global, sym, ap, ap₂, subst, arith}
use Rattle.std.proofs.lemmas.Cmp.{nat_list_cmp_total, tied_itself}
use Rattle.std.proofs.lemmas.Map.Text.{is_eq-slice_cmp}
use Rattle.std.proofs.lemmas.Slice.Eq.{bytes_eq-Decides}
use Rattle.std.specs.Cmp.Lexicographic.{slice_cmp}
use Rattle.std.specs.Ordering.{nat_cmp, is_eq, match_ordering}
use Rattle.std.specs.Prelude.{OnErr, OnOk, if◌then◌else◌, ok_or, option_map, take}
use Rattle.serde_json.specs.Data.{Data, object, Members, no_members, member, members_depth, put}
use Rattle.serde_json.specs.View.{members_view}
use Rattle.serde_json.specs.declared.value.Value.{Value}
use Rattle.serde_json.specs.Find.{get_member}
use Rattle.serde_json.specs.Written.{compact_text}
use Rattle.qa_base.specs.declared.key.Key.{Key}
use Rattle.qa_base.specs.declared.key.Key.TheVariants as key
use Rattle.qa_base.specs.declared.rule.Field.TheVariants as field
use Rattle.qa_base.specs.declared.line_kind.LineKind.{LineKind}
use Rattle.qa_base.specs.declared.line_kind.LineKind.TheVariants as kinds
use Rattle.qa_base.specs.declared.header.Version.TheVariants.{Two, Three}
use Rattle.qa_base.specs.declared.space.Controller.{Controller}
use Rattle.qa_base.specs.declared.space.Controller.TheVariants.{NewReno}
use Rattle.qa_base.specs.declared.space.TimeUnit.{TimeUnit}
use Rattle.qa_base.specs.declared.space.TimeUnit.TheVariants.{Microseconds}
use Rattle.qa_base.specs.values.Names.{controller_named, key_name, line_kind_named, unit_named, version_number}
use Rattle.qa_base.specs.values.Settings.{Settings, AreInRange, no_options}
use Rattle.qa_format.specs.declared.line.Line.{Line}
use Rattle.qa_format.specs.declared.line.Line.TheVariants as line
use Rattle.qa_format.specs.declared.fault.Fault.{Fault}
use Rattle.qa_format.specs.declared.fault.Fault.TheVariants.{UnknownEvent}
use Rattle.qa_format.specs.format.Keys.{◌>>=◌, both, optional, string, string_among, required}
use Rattle.qa_format.specs.format.Proper.{IsProperLine}
use Rattle.qa_format.specs.format.Reading.{reader_named, reader_of, object_says, reading_by, reading}
use Rattle.qa_format.specs.format.Simple.{AreKept, HaveSimple, IsKept, put_all}
use Rattle.qa_format.specs.format.Tables.{header_of, sent_of, ack_of, lost_of, timer_of, discard_of}
use Rattle.qa_format.specs.format.Tables.{confirmed_of, keys_of, metrics_of}
use Rattle.qa_format.specs.format.Tables.{version, unit_and_window_for, unit_and_window, option_fields, choice_fields, version_two_options, version_three_options, options_for, options, header_fields, nothing_behind}
use Rattle.qa_format.specs.format.Written.{Pairs, event_pairs, header_pairs, members}
use Rattle.qa_format.proofs.format.AnyOrder.{json_of-members, get_put_other}
use Rattle.qa_format.proofs.format.KeysWritten.{Follow}
use Rattle.qa_format.proofs.format.LinesWritten.{of_each, first_follows, second_follows, third_follows, event_follows, written_reads}
use Rattle.qa_convert.specs.OwnKeys.{AreOwn, IsOwn, own_key_name, followed, noted}
use Rattle.qa_convert.specs.declared.own.OwnKey.{OwnKey}
use Rattle.qa_convert.specs.declared.own.OwnKey.TheVariants as own

-- ---- no key of the format is one of the converter's own

-- the text begins with an `x`
abbrev begins_with_x : List ℕ → Bool
begins_with_x [] = false
begins_with_x (c ∷ cs) = c == 120

no_key_does : (k : Key) → begins_with_x (key_name k) ≡ false
no_key_does key.Event = refl
no_key_does key.Version = refl
no_key_does key.Role = refl
no_key_does key.Unit = refl
no_key_does key.Window = refl
no_key_does key.MaxDatagramSize = refl
no_key_does key.MaxAckDelay = refl
no_key_does key.InitialRtt = refl
no_key_does key.InitialWindow = refl
no_key_does key.TimerLateUs = refl
no_key_does key.RefreshMinRtt = refl
no_key_does key.ReportSlackUs = refl
no_key_does key.ReportSlackBytes = refl
no_key_does key.WindowOvershoot = refl
no_key_does key.SampleElicitingOnly = refl
no_key_does key.PacketThreshold = refl
no_key_does key.TimerEarlyUs = refl
no_key_does key.LossByNumber = refl
no_key_does key.ThresholdCounts = refl
no_key_does key.ResetRtt = refl
no_key_does key.LatestRttLessDelay = refl
no_key_does key.TimeThresholdEighths = refl
no_key_does key.RecoveryByOrder = refl
no_key_does key.Time = refl
no_key_does key.Space = refl
no_key_does key.Number = refl
no_key_does key.Size = refl
no_key_does key.Eliciting = refl
no_key_does key.InFlight = refl
no_key_does key.Leave = refl
no_key_does key.Ranges = refl
no_key_does key.Delay = refl
no_key_does key.Limited = refl
no_key_does key.Kind = refl
no_key_does (key.Metric field.Window) = refl
no_key_does (key.Metric field.Ssthresh) = refl
no_key_does (key.Metric field.BytesInFlight) = refl
no_key_does (key.Metric field.LatestRtt) = refl
no_key_does (key.Metric field.MinRtt) = refl
no_key_does (key.Metric field.SmoothedRtt) = refl
no_key_does (key.Metric field.Rttvar) = refl

own_does : (j : List ℕ) → take 2 j ≡ codes "x_" → begins_with_x j ≡ true
own_does [] is = cc
own_does (c ∷ []) is = cc
own_does (c ∷ b ∷ cs) is = let first : c ≡ 120 = cc in ap (λ n. n == 120) first

pub same_text : (k l : List ℕ) → slice_cmp nat_cmp k l ≡ Equal → k ≡ l
same_text k l e = (bytes_eq-Decides k l).0 (sym (is_eq-slice_cmp k l) ∙ ap is_eq e)

apart : (k : Key) (j : List ℕ) → IsOwn j → slice_cmp nat_cmp (key_name k) j ≡ Equal → ⊥
apart k j own e =
    let with_x : begins_with_x (key_name k) ≡ true = ap begins_with_x (same_text (key_name k) j e) ∙ own_does j own.0 in
    let without : begins_with_x (key_name k) ≡ false = no_key_does k in cc

pub apart_from : (k : Key) (j : List ℕ) → IsOwn j → slice_cmp nat_cmp j (key_name k) ≡ Equal → ⊥
apart_from k j own e = apart k j own (rw (same_text j (key_name k) e) (tied_itself nat_list_cmp_total (key_name k)))

-- ---- what a key gives

-- the keys of the format give the same in both
abbrev Alike : Members → Members → Type 0
Alike ms es = (k : Key) → get_member (key_name k) ms ≡ get_member (key_name k) es

alike_with_own : (ms own : Members) → AreOwn own → Alike (put_all ms own) ms
alike_with_own ms no_members are k = refl
alike_with_own ms (member j d own) are k =
    alike_with_own (put j d ms) own are.2 k ∙ get_put_other (key_name k) j d ms (apart k j are.0)

pub put_all-followed : (found ms own : Members) → put_all found (followed ms own) ≡ put_all (put_all found ms) own
put_all-followed found no_members own = refl
put_all-followed found (member k d ms) own = put_all-followed (put k d found) ms own

pub kept-followed : (ms own : Members) → AreKept ms → AreOwn own → AreKept (followed ms own)
kept-followed no_members no_members kept are = tt
kept-followed no_members (member k d own) kept are = (are.0.1, are.1, kept-followed no_members own tt are.2)
kept-followed (member k d ms) own kept are = (kept.0, kept.1, kept-followed ms own kept.2 are)

-- ---- what is said

-- the unit and the controller that a header of version 3 says
abbrev both_of : Data → Result (TimeUnit × Controller) Fault
both_of d = both (optional (string_among unit_named) Microseconds key.Unit d) (optional (string_among controller_named) NewReno key.Window d)

sent_alike : (ms es : Members) → Alike ms es → sent_of (object ms) ≡ sent_of (object es)
unfolding sent_of
sent_alike ms es same = rw (same key.Time, same key.Space, same key.Number, same key.Size, same key.Eliciting, same key.InFlight, same key.Leave) refl

ack_alike : (ms es : Members) → Alike ms es → ack_of (object ms) ≡ ack_of (object es)
unfolding ack_of
ack_alike ms es same = rw (same key.Time, same key.Space, same key.Ranges, same key.Delay, same key.Limited) refl

lost_alike : (ms es : Members) → Alike ms es → lost_of (object ms) ≡ lost_of (object es)
unfolding lost_of
lost_alike ms es same = rw (same key.Time, same key.Space, same key.Ranges) refl

timer_alike : (ms es : Members) → Alike ms es → timer_of (object ms) ≡ timer_of (object es)
unfolding timer_of
timer_alike ms es same = rw (same key.Time, same key.Kind, same key.Space) refl

discard_alike : (ms es : Members) → Alike ms es → discard_of (object ms) ≡ discard_of (object es)
unfolding discard_of
discard_alike ms es same = rw (same key.Time, same key.Space) refl

confirmed_alike : (ms es : Members) → Alike ms es → confirmed_of (object ms) ≡ confirmed_of (object es)
unfolding confirmed_of
confirmed_alike ms es same = rw (same key.Time) refl

keys_alike : (ms es : Members) → Alike ms es → keys_of (object ms) ≡ keys_of (object es)
unfolding keys_of
keys_alike ms es same = rw (same key.Time) refl

metrics_alike : (ms es : Members) → Alike ms es → metrics_of (object ms) ≡ metrics_of (object es)
unfolding metrics_of
metrics_alike ms es same = rw (same key.Time, same (key.Metric field.Window), same (key.Metric field.Ssthresh), same (key.Metric field.BytesInFlight), same (key.Metric field.LatestRtt), same (key.Metric field.MinRtt), same (key.Metric field.SmoothedRtt), same (key.Metric field.Rttvar)) refl

-- ---- what a header says

module _ (ms es : Members) (same : Alike ms es) where
  version_alike : version (object ms) ≡ version (object es)
  version_alike = rw (same key.Version) refl

  unit_for_alike : (n : Result ℕ Fault) → unit_and_window_for n (object ms) ≡ unit_and_window_for n (object es)
  unit_for_alike (Ok n) =
      let both_alike : both_of (object ms) ≡ both_of (object es) = rw (same key.Unit, same key.Window) refl in
      ap (λ r. if n == version_number Three then r else Ok (Microseconds, NewReno)) both_alike
  unit_for_alike (Err e) = refl

  unit_alike : unit_and_window (object ms) ≡ unit_and_window (object es)
  unit_alike = rw version_alike (unit_for_alike (version (object es)))

  options_alike : option_fields (object ms) ≡ option_fields (object es)
  options_alike = rw (same key.TimerLateUs, same key.RefreshMinRtt, same key.ReportSlackUs, same key.ReportSlackBytes) refl

  choices_alike : choice_fields (object ms) ≡ choice_fields (object es)
  choices_alike =
      rw (
        same key.WindowOvershoot,
        same key.SampleElicitingOnly,
        same key.PacketThreshold,
        same key.TimerEarlyUs,
        same key.LossByNumber,
        same key.ThresholdCounts,
        same key.ResetRtt,
        same key.LatestRttLessDelay,
        same key.TimeThresholdEighths,
        same key.RecoveryByOrder,
      ) refl

  two_alike : version_two_options (object ms) ≡ version_two_options (object es)
  two_alike = rw options_alike refl

  three_alike : version_three_options (object ms) ≡ version_three_options (object es)
  three_alike = rw (options_alike, choices_alike) refl

  options_for_alike : (n : Result ℕ Fault) → options_for n (object ms) ≡ options_for n (object es)
  options_for_alike (Ok n) =
      ap₂ (λ two three. if n == version_number Two then two else (if n == version_number Three then three else Ok (no_options, nothing_behind))) two_alike three_alike
  options_for_alike (Err e) = refl

  asked_alike : options (object ms) ≡ options (object es)
  asked_alike = rw version_alike (options_for_alike (version (object es)))

  fields_alike : header_fields (object ms) ≡ header_fields (object es)
  fields_alike =
      rw (unit_alike, same key.Version, same key.Role, same key.MaxDatagramSize, same key.MaxAckDelay, same key.InitialRtt, same key.InitialWindow) refl

  header_alike : header_of (object ms) ≡ header_of (object es)
  unfolding header_of
  header_alike = rw (fields_alike, asked_alike) refl

reader_alike : (kind : LineKind) (ms es : Members) → Alike ms es → reader_of kind (object ms) ≡ reader_of kind (object es)
reader_alike kinds.Header ms es same = rw (header_alike ms es same) refl
reader_alike kinds.Sent ms es same = rw (sent_alike ms es same) refl
reader_alike kinds.Ack ms es same = rw (ack_alike ms es same) refl
reader_alike kinds.Lost ms es same = rw (lost_alike ms es same) refl
reader_alike kinds.Timer ms es same = rw (timer_alike ms es same) refl
reader_alike kinds.Discard ms es same = rw (discard_alike ms es same) refl
reader_alike kinds.Confirmed ms es same = rw (confirmed_alike ms es same) refl
reader_alike kinds.Keys ms es same = rw (keys_alike ms es same) refl
reader_alike kinds.Metrics ms es same = rw (metrics_alike ms es same) refl

module _ (ms es : Members) (same : Alike ms es) where
  by_kind : (found : Option LineKind)
      → (ok_or (option_map reader_of found) UnknownEvent >>= λ reader. reader (object ms)) ≡ (ok_or (option_map reader_of found) UnknownEvent >>= λ reader. reader (object es))
  by_kind None = refl
  by_kind (Some kind) = reader_alike kind ms es same

  by_name : (said : Result (List ℕ) Fault)
      → (said >>= λ t. ok_or (reader_named t) UnknownEvent >>= λ reader. reader (object ms)) ≡ (said >>= λ t. ok_or (reader_named t) UnknownEvent >>= λ reader. reader (object es))
  by_name (Ok t) = by_kind (line_kind_named t)
  by_name (Err e) = refl

  says_alike : object_says reader_named (object ms) ≡ object_says reader_named (object es)
  unfolding object_says
  says_alike = rw (same key.Event) (by_name (required string key.Event (object es)))

-- ---- the line

module _ (x : Line) (ms own : Members) (kept : AreKept ms) (are : AreOwn own) where
  says_it : reading (compact_text (object ms)) ≡ Ok x → object_says reader_named (object (put_all no_members ms)) ≡ Ok x
  unfolding reading_by
  says_it read = sym (ap (λ r. r >>= object_says reader_named) (json_of-members ms kept)) ∙ read

  reads_it : reading (compact_text (object ms)) ≡ Ok x → reading (compact_text (object (followed ms own))) ≡ Ok x
  unfolding reading_by
  reads_it read =
      ap (λ r. r >>= object_says reader_named) (json_of-members (followed ms own) (kept-followed ms own kept are))
      ∙ ap (λ ps. object_says reader_named (object ps)) (put_all-followed no_members ms own)
      ∙ says_alike (put_all (put_all no_members ms) own) (put_all no_members ms) (alike_with_own (put_all no_members ms) own are)
      ∙ says_it read

kept_of : (ms : Members) → HaveSimple ms → members_depth ms ≤ 2 → AreKept ms
kept_of no_members simple shallow = tt
kept_of (member k d ms) simple shallow =
    (simple.0, record { simple = simple.2; shallow = omega (arith, shallow) }, kept_of ms simple.3 (omega (arith, shallow)))

pub follow_kept : (ps : Pairs) → Follow [] ps → AreKept (members ps)
follow_kept ps follows = kept_of (members ps) follows.simple follows.shallow

pub header_kept : (s : Settings) → AreInRange s → AreKept (members (header_pairs s))
header_kept s are =
    of_each (λ t. AreKept (members (header_pairs t))) s s.version refl are (λ one. follow_kept _ (first_follows s one))
    (λ limit refresh slack_us slack_bytes two. follow_kept _ (second_follows s limit refresh slack_us slack_bytes two))
    (λ limit three. follow_kept _ (third_follows s limit three))

pub noted_reads : (x : Line) (own : Members) → IsProperLine x → AreOwn own → reading (noted x own) ≡ Ok x
noted_reads line.Blank own proper are = written_reads line.Blank proper
noted_reads (line.Header s) own proper are =
    reads_it (line.Header s) (members (header_pairs s)) own (header_kept s proper) are (written_reads (line.Header s) proper)
noted_reads (line.Event e) own proper are =
    reads_it (line.Event e) (members (event_pairs e)) own (follow_kept (event_pairs e) (event_follows e proper)) are (written_reads (line.Event e) proper)

-- ---- an own key more

name_is_own : (k : OwnKey) → IsOwn (own_key_name k)
name_is_own own.Dialect = (refl, refl)
name_is_own own.Forgot = (refl, refl)
name_is_own own.Guess = (refl, refl)
name_is_own own.Note = (refl, refl)
name_is_own own.Place = (refl, refl)
name_is_own own.Space = (refl, refl)

own_put_by : (o : Ordering) (k l : List ℕ) (d e : Data) (ms : Members) → IsOwn k → IsKept d → AreOwn (member l e ms) → AreOwn (put k d ms)
    → AreOwn (match_ordering o (member k d (member l e ms)) (member l d ms) (member l e (put k d ms)))
own_put_by Less k l d e ms is kept are later = (is, kept, are)
own_put_by Equal k l d e ms is kept are later = (are.0, kept, are.2)
own_put_by Greater k l d e ms is kept are later = (are.0, are.1, later)

own_put : (k : List ℕ) (d : Data) (ms : Members) → IsOwn k → IsKept d → AreOwn ms → AreOwn (put k d ms)
own_put k d no_members is kept are = (is, kept, tt)
own_put k d (member l e ms) is kept are = own_put_by (slice_cmp nat_cmp k l) k l d e ms is kept are (own_put k d ms is kept are.2)

-- a value that was put at an own key, or was not
pub own_after : {A E : Type 0} (r : Result A E) (k : OwnKey) (d : Data) (old new : List (String Global × Value)) → IsKept d → AreOwn (members_view old)
    → OnOk r (members_view new ≡ put (own_key_name k) d (members_view old)) → OnErr r (new ≡ old) → AreOwn (members_view new)
own_after (Ok a) k d old new kept are ok err = subst AreOwn (sym ok) (own_put (own_key_name k) d (members_view old) (name_is_own k) kept are)
own_after (Err e) k d old new kept are ok err = subst AreOwn (sym (ap members_view err)) are
