use Rattle.std.proofs.Common.{◌≡◌, ◌∙◌, true, false, ap, subst, sym}
use Rattle.std.specs.Prelude.{unwrap_or}
use Rattle.qa_base.specs.declared.space.TimeUnit.{TimeUnit}
use Rattle.qa_base.specs.values.Constants.{default_max_ack_delay}
use Rattle.qa_base.specs.values.Settings as settings
use Rattle.qa_convert.proofs.Headed.{SaysMore, delay_more, fits_second, header_kept, is_third_or, rtt_more, size_more, window_more}
use Rattle.qa_convert.specs.Headers.{IsDelay, IsInitialRtt, rtt_or_default, size_said, window_said}
use Rattle.qa_convert.specs.Sources.{not_zero, rtt_said, sources_in}
use Rattle.qa_convert.specs.Telling.{will_say}
use Rattle.qa_convert.specs.declared.guess.Guess.TheVariants as guess
use Rattle.qa_convert.proofs.header.Choices.header.Goals.{else-le, else-le-via-else-le, else-le-via-then-le+else-not-survey, else-le-via-then-le+then-not-survey+else-not-is_reported, then-le+then-not-survey+then-not-is_reported+in_ok-guess}
use Rattle.qa_convert.proofs.header.Choices.header.Goals as goal

pub made-requires-clause-unit : goal.made-requires-clause-unit
made-requires-clause-unit c = is_third_or c.args.self.now.format c.args.self.now c.args.dialect.now (sources_in c.args.survey.now) c.args.writing.now.output.unit c.requires

pub made-requires-clause-fits : goal.made-requires-clause-fits
made-requires-clause-fits c =
    fits_second c.args.self.now.format c.args.self.now c.args.dialect.now (sources_in c.args.survey.now) c.in_ok-options.options c.in_ok-options.ensures.asks

pub returns-clause-says : goal.returns-clause-says
returns-clause-says c =
    let unit = c.args.writing.now.output.unit in
    let d = c.args.dialect.now in
    let log = sources_in c.args.survey.now in
    let said = not_zero (rtt_said log) in
    let says = will_say c.if-le.writing in
    let by_window : SaysMore (will_say c.window_of.new.writing) says = λ g is.
    elim c.if-le.branch [
      | then-le+then-not-survey+then-not-is_reported+in_ok-guess w ↦ ap (λ x. will_say x g) w.writing-is ∙ w.in_ok-guess.ensures.says_more g is
      | else-le w ↦ ap (λ x. will_say x g) w.writing-is ∙ is
    ] in
    let by_rtt : SaysMore (will_say c.initial_rtt_of.new.writing) says = λ g is. by_window g (c.in_ok-window_of.ensures.says_more g is) in
    let by_delay : SaysMore (will_say c.max_ack_delay_of.new.writing) says = λ g is. by_rtt g (c.in_ok-initial_rtt_of.ensures.says_more g is) in
    let by_size : SaysMore (will_say c.datagram_size_of.new.writing) says = λ g is. by_delay g (c.in_ok-max_ack_delay_of.ensures.says_more g is) in
    let sized : c.datagram_size_of.new.writing.output.unit ≡ unit = c.in_ok-size.ensures.unit ∙ c.in_ok-options.ensures.unit in
    let delayed : c.max_ack_delay_of.new.writing.output.unit ≡ unit = c.in_ok-max_ack_delay_of.ensures.unit ∙ sized in
    let delay = c.in_ok-max_ack_delay_of.field-0 in
    let rtt = c.in_ok-initial_rtt_of.field-0 in
    header_kept c.args.self.now d log says unit _ c.in_ok-options.options c.in_ok-made.field-0
    c.in_ok-made.ensures
    c.requires
    (subst (λ (u : TimeUnit). IsDelay u log.of_peer.max_ack_delay says (unwrap_or delay (settings.in_unit u default_max_ack_delay))) sized
    (delay_more _ log.of_peer.max_ack_delay _ says _ by_delay c.in_ok-max_ack_delay_of.ensures.delay))
    (subst (λ (u : TimeUnit). IsInitialRtt u said d.initial_rtt log.first_smoothed says (rtt_or_default u rtt)) delayed
    (rtt_more _ said d.initial_rtt log.first_smoothed _ says _ by_rtt c.in_ok-initial_rtt_of.ensures.rtt))
    (size_more (size_said log.recovery.max_datagram_size) _ says c.in_ok-size.size by_size c.in_ok-size.ensures.size)
    (window_more _ c.in_ok-size.size (window_said log) _ says _ by_window c.in_ok-window_of.ensures.window)
    (λ version reported unsaid.
    elim c.if-le.branch [
      | then-le+then-not-survey+then-not-is_reported+in_ok-guess w ↦ ap (λ x. will_say x guess.NoWindow) w.writing-is ∙ w.in_ok-guess.ensures.says
      | else-le w ↦
          elim w.else-le.branch [
            | else-le-via-then-le+then-not-survey+else-not-is_reported w ↦ absurd (let same : true ≡ false = w.if-not-is_reported.ensures ∙ reported in cc)
            | else-le-via-then-le+else-not-survey w ↦ absurd (let same : true ≡ false = sym w.if-not-survey.false ∙ unsaid in cc)
            | else-le-via-else-le w ↦ absurd (let same : false ≡ true = rw version at w.if-le.ensures in cc)
          ]
    ])
    c.in_ok-options.ensures.first
    c.in_ok-options.ensures.asks
