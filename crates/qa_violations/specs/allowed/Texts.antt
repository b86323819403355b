-- What an accepted verdict rests on, as text behind it: what the header allowed, what the sender
-- chose, what was guessed, and how the trace ends.
--
-- `c` are the settings of the header, `h` is the history.
use Rattle.std.specs.Prelude.{ℕ, ◌==◌, ◌||◌, nat_lt, is_some, is_none, Bool, false, codes, List, []}
use Rattle.std.specs.Prelude.{◌∷◌, ◌++◌, Option, Some, None, if◌then◌else◌}
use Rattle.qa_base.specs.declared.header.Options.{Options}
use Rattle.qa_base.specs.declared.key.Key.{Key}
use Rattle.qa_base.specs.declared.key.Key.TheVariants as key
use Rattle.qa_base.specs.declared.rule.Rule.{Rule}
use Rattle.qa_base.specs.declared.rule.Rule.TheVariants as rule
use Rattle.qa_base.specs.declared.space.Space.{Space}
use Rattle.qa_base.specs.declared.space.TimeUnit.{TimeUnit}
use Rattle.qa_base.specs.declared.space.TimerKind.{TimerKind}
use Rattle.qa_base.specs.declared.space.TimerKind.TheVariants.{Loss, Pto}
use Rattle.qa_base.specs.machine.Timer.{Due}
use Rattle.qa_base.specs.values.Names.{key_name, kind_name, rule_text, space_name}
use Rattle.qa_base.specs.values.Settings.{Settings}
use Rattle.qa_explain.specs.text.Pieces.{named, numbered}
use Rattle.qa_explain.specs.text.Times.{time_text}
use Rattle.qa_explain.specs.text.Values.{amount_text}
use Rattle.qa_violations.specs.allowed.Choices.{choices, key_of, limit_of}
use Rattle.qa_violations.specs.declared.allowed.late.Late.{Late}
use Rattle.qa_violations.specs.declared.table.row.Row.{Row}
use Rattle.qa_violations.specs.table.Texts.{by_words}
use Rattle.qa_why.specs.declared.caveats.guesses.Guessed.{Guessed}

-- ---- what was allowed

unfoldable pub once_text : ℕ → List ℕ
once_text line = numbered (codes " once, line ") line

unfoldable pub often_text : ℕ → ℕ → ℕ → List ℕ
often_text count first last =
    numbered (codes " ") count ++ numbered (codes " times, lines ") first
    ++ numbered (codes " to ") last

abbrev pub where_text : Row → List ℕ
where_text row =
    if row.count == 1 then once_text row.first else often_text row.count row.first row.last

unfoldable pub by_text : TimeUnit → Rule → ℕ → ℕ → List ℕ
by_text u r count n = by_words count ++ amount_text u r n

-- by how much
abbrev pub some_by_text : TimeUnit → Row → Option ℕ → List ℕ
some_by_text u row None = []
some_by_text u row (Some n) = by_text u row.rule row.count n

-- the key, and what it is set to
abbrev pub limit_text : Option ℕ → List ℕ
limit_text None = []
limit_text (Some n) = numbered (codes " ") n

unfoldable pub key_words : Key → Option ℕ → List ℕ
key_words k limit = named (codes " (") (key_name k) ++ limit_text limit ++ codes ")"

abbrev pub key_text : Option Key → Option ℕ → List ℕ
key_text None limit = []
key_text (Some k) limit = key_words k limit

unfoldable pub allowed_text : TimeUnit → Options → Row → List ℕ
allowed_text u o row =
    named (codes "  allowed by the header: ") (rule_text row.rule) ++ where_text row
    ++ some_by_text u row row.greatest ++ key_text (key_of row.rule) (limit_of o row.rule)
    ++ codes "\n"

-- ---- late timers without a limit

-- what is called the timer
abbrev pub due_words : TimerKind → List ℕ
due_words Pto = codes "pto"
due_words Loss = codes "loss timer"

unfoldable pub past_text : TimerKind → Space → ℕ → List ℕ
past_text kind space line =
    named (codes " past the ") (due_words kind) ++ named (codes " of ") (space_name space)
    ++ numbered (codes ", at line ") line

unfoldable pub late_text : TimeUnit → Late → List ℕ
late_text u late =
    codes "  late timers: no limit in the header; at most " ++ time_text u late.amount
    ++ past_text late.kind late.space late.line ++ codes "\n"

abbrev pub some_late_text : TimeUnit → Option Late → List ℕ
some_late_text u None = []
some_late_text u (Some late) = late_text u late

-- ---- rows

-- it is of late timers, for which the header sets no limit
abbrev pub is_unlimited : Options → Rule → Bool
is_unlimited o rule.TimerLate = is_none o.timer_late
is_unlimited o r = false

abbrev pub row_text : TimeUnit → Options → Option Late → Row → List ℕ
row_text u o latest row =
    if is_unlimited o row.rule then some_late_text u latest else allowed_text u o row

abbrev pub rows_text : TimeUnit → Options → Option Late → List Row → List ℕ
rows_text u o latest [] = []
rows_text u o latest (row ∷ rows) = row_text u o latest row ++ rows_text u o latest rows

-- ---- choices

unfoldable pub threshold_text : ℕ → List ℕ
threshold_text n =
    numbered (codes "  by choice: a packet threshold of ") n
    ++ codes " (packet_threshold)\n"

unfoldable pub eighths_text : ℕ → List ℕ
eighths_text n =
    numbered (codes "  by choice: a time threshold of ") n
    ++ codes "/8 (time_threshold_eighths)\n"

abbrev pub choice_text : Options → Key → List ℕ
choice_text o key.RefreshMinRtt =
    codes "  by choice: persistent congestion refreshes min_rtt (refresh_min_rtt)\n"
choice_text o key.Window = codes "  not compared: the window and ssthresh (window \"reported\")\n"
choice_text o key.SampleElicitingOnly = codes
    "  by choice: RTT samples of ack-eliciting packets only (sample_eliciting_only)\n"
choice_text o key.PacketThreshold = threshold_text o.packet_threshold
choice_text o key.LossByNumber =
    codes "  by choice: packets past the threshold may be spared (loss_by_number \"may\")\n"
choice_text o key.ThresholdCounts =
    codes "  by choice: the packet threshold counts packets (threshold_counts \"packets\")\n"
choice_text o key.ResetRtt =
    codes "  by choice: persistent congestion resets the RTT (reset_rtt)\n"
choice_text o key.LatestRttLessDelay = codes
    "  by choice: the latest RTT is kept less the peer's delay (latest_rtt_less_delay)\n"
choice_text o key.TimeThresholdEighths = eighths_text o.time_threshold_eighths
choice_text o key.RecoveryByOrder =
    codes "  by choice: recovery goes by the order of the lines (recovery_by_order)\n"
choice_text o k = []

abbrev pub choices_text : Options → List Key → List ℕ
choices_text o [] = []
choices_text o (k ∷ ks) = choice_text o k ++ choices_text o ks

-- ---- guesses

unfoldable pub one_guessed : ℕ → List ℕ
one_guessed line = numbered (codes "  guessed by the converter: line ") line ++ codes "\n"

unfoldable pub many_guessed : ℕ → ℕ → List ℕ
many_guessed count first =
    numbered (codes "  guessed by the converter: ") count
    ++ numbered (codes " lines, the first is line ") first ++ codes "\n"

-- how many lines were guessed; nothing where none was
abbrev pub guessed_text : Guessed → List ℕ
guessed_text g =
    if g.count == 0 then [] else
    (if g.count == 1 then one_guessed g.first else many_guessed g.count g.first)

-- ---- the end

unfoldable pub due_text : TimeUnit → Due → List ℕ
due_text u due =
    named (codes ", the ") (kind_name due.kind) ++ named (codes " timer of ") (space_name due.space)
    ++ codes " due at " ++ time_text u due.time

abbrev pub timer_text : TimeUnit → Option Due → List ℕ
timer_text u None = codes ", no timer is set"
timer_text u (Some due) = due_text u due

unfoldable pub end_text : TimeUnit → ℕ → Option Due → List ℕ
end_text u bytes due =
    numbered (codes "  at the end: ") bytes ++ codes " bytes in flight" ++ timer_text u due
    ++ codes "\n"

-- nothing where nothing is in flight and no timer is set
abbrev pub some_end_text : TimeUnit → ℕ → Option Due → List ℕ
some_end_text u bytes due =
    if nat_lt 0 bytes || is_some due then end_text u bytes due else []

-- ---- the whole

-- what an accepted verdict rests on: these rows of what was allowed, with the timer that was the
-- most late; so many guesses; and so many bytes in flight and this timer at the end
unfoldable pub rest_text : Settings → List Row → Option Late → Guessed → ℕ → Option Due → List ℕ
rest_text c rows latest guessed bytes due =
    rows_text c.unit c.options latest rows ++ choices_text c.options (choices c.options)
    ++ guessed_text guessed ++ some_end_text c.unit bytes due
