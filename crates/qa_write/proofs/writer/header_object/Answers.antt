use Rattle.std.proofs.Common.{◌≡◌, ◌∷◌, ◌++◌, ℕ, [], Option, Some, None, MatchOption, refl, ap}
use Rattle.serde_json.proofs.Views.{view-Object}
use Rattle.serde_json.specs.Data.{Members, no_members, object}
use Rattle.serde_json.specs.View.{members_view}
use Rattle.qa_base.specs.declared.key.Key.TheVariants as key
use Rattle.qa_base.specs.declared.header.Version.{Version}
use Rattle.qa_base.specs.declared.header.Version.TheVariants.{One, Two, Three}
use Rattle.qa_base.specs.declared.line_kind.LineKind.TheVariants as kinds
use Rattle.qa_base.specs.values.Names.{line_kind_name, role_name, unit_name, controller_name, loss_by_number_name, threshold_counts_name, version_number}
use Rattle.qa_base.specs.values.Settings.{Settings}
use Rattle.qa_format.specs.format.Written.{Pairs, members, string, integer, boolean, option_pairs, in_three, limit_pairs}
use Rattle.qa_write.specs.Members.{with, with_settings, with_options, with_unit_and_choices}
use Rattle.qa_write.proofs.writer.header_object.Goals as goal

-- what stands in a header of this version, up to its limit
abbrev up_to_role : Settings → Version → Members
up_to_role s version =
    with_unit_and_choices version s
    (with key.Role (string (role_name s.role)) (with_options version s.options (with_settings s (with key.Event (string (line_kind_name kinds.Header)) no_members))))

-- what stands in a header of this version with this limit
abbrev pairs_of : Settings → Version → Option ℕ → Pairs
pairs_of s version limit =
    (key.Event, string (line_kind_name kinds.Header))
    ∷ (key.InitialRtt, integer s.initial_rtt)
    ∷ (key.InitialWindow, integer s.initial_window)
    ∷ in_three version ((key.LatestRttLessDelay, boolean s.options.latest_rtt_less_delay) ∷ (key.LossByNumber, string (loss_by_number_name s.options.loss_by_number)) ∷ [])
    ++ (key.MaxAckDelay, integer s.max_ack_delay)
    ∷ (key.MaxDatagramSize, integer s.max_datagram_size)
    ∷ in_three version ((key.PacketThreshold, integer s.options.packet_threshold) ∷ (key.RecoveryByOrder, boolean s.options.recovery_by_order) ∷ [])
    ++ option_pairs version s.options
    ++ in_three version ((key.ResetRtt, boolean s.options.reset_rtt) ∷ [])
    ++ (key.Role, string (role_name s.role))
    ∷ in_three version ((key.SampleElicitingOnly, boolean s.options.sample_eliciting_only) ∷ (key.ThresholdCounts, string (threshold_counts_name s.options.threshold_counts)) ∷ (key.TimeThresholdEighths, integer s.options.time_threshold_eighths) ∷ (key.TimerEarlyUs, integer s.options.timer_early_us) ∷ [])
    ++ limit_pairs limit
    ++ in_three version ((key.Unit, string (unit_name s.unit)) ∷ [])
    ++ (key.Version, integer (version_number version))
    ∷ in_three version ((key.Window, string (controller_name s.options.controller)) ∷ (key.WindowOvershoot, boolean s.options.window_overshoot) ∷ [])

-- they stand in order, in whatever order they were put in
in_order : (s : Settings) (version : Version) (limit : Option ℕ) (ms : Members)
    → MatchOption limit (ms ≡ up_to_role s version) (λ n. ms ≡ with key.TimerLateUs (integer n) (up_to_role s version))
    → with key.Version (integer (version_number version)) ms ≡ members (pairs_of s version limit)
in_order s One None ms is = rw is refl
in_order s One (Some n) ms is = rw is refl
in_order s Two None ms is = rw is refl
in_order s Two (Some n) ms is = rw is refl
in_order s Three None ms is = rw is refl
in_order s Three (Some n) ms is = rw is refl

pub returns-clause-object : goal.returns-clause-object
returns-clause-object c =
    let s = c.args.header.now in
    let role : members_view c.put_unit_and_choices.new.map.entries ≡ up_to_role s s.version =
    rw (c.in_ok-put_text-2.ensures, c.in_ok-put_options.ensures, c.in_ok-put_settings.ensures, c.in_ok-put_text.ensures, c.new-map.ensures.empty, c.name.ensures, c.name-2.ensures, c.role.ensures) at c.in_ok-put_unit_and_choices.ensures in
    let limit = rw (c.options.ensures.value, role) at c.in_ok-report.ensures.put in
    rw (view-Object, c.in_ok-put_integer.ensures, c.number.ensures, c.version.ensures) (ap object (in_order s s.version s.options.timer_late _ limit))
