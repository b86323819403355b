use Rattle.std.proofs.Common.{◌≡◌, ◌∙◌, ◌||◌, ℕ, Bool, [], ◌∷◌, true, false, ap, ap₂, refl}
use Rattle.qa_convert.proofs.Sent.{more_said, wrote_one}
use Rattle.qa_qlog.specs.Frames.{is_in_flight}
use Rattle.qa_convert.specs.Sending.{line_of}
use Rattle.qa_convert.specs.Telling.{SentLine, next_marks, says_leave, told_in, will_say, with_sent}
use Rattle.qa_convert.specs.declared.conversion.Conversion.{Conversion}
use Rattle.qa_convert.specs.declared.guess.Guess.TheVariants as guess
use Rattle.qa_convert.proofs.conversion.Conversion.write_sent.Goals as goal
use Rattle.qa_convert.proofs.conversion.Conversion.write_sent.Goals.{then-packet+in_ok-guess, else-packet}
use Rattle.qa_convert.proofs.conversion.Conversion.write_sent.Goals.{then-in_flight+in_ok-permission, else-in_flight}

pub returns-clause-wrote : goal.returns-clause-wrote
returns-clause-wrote c =
    let o = c.args.packet.now in
    let before = told_in c.args.self.now.writing in
    let guessed : told_in c.if-packet.self.writing ≡ before =
    elim c.if-packet.branch [
      | then-packet+in_ok-guess w ↦ ap (λ (x : Conversion). told_in x.writing) w.self-is ∙ w.in_ok-guess.ensures.told
      | else-packet w ↦ ap (λ (x : Conversion). told_in x.writing) w.self-is
    ] in
    let allowed : told_in c.if-in_flight.self.writing ≡ before =
    elim c.if-in_flight.branch [
      | then-in_flight+in_ok-permission w ↦ ap (λ (x : Conversion). told_in x.writing) w.self-is ∙ w.in_ok-permission.ensures.told ∙ guessed
      | else-in_flight w ↦ ap (λ (x : Conversion). told_in x.writing) w.self-is ∙ guessed
    ] in
    let timed : told_in c.next_time.new.self ≡ before = c.in_ok-time.ensures.told ∙ allowed in
    let says = will_say c.next_time.new.self guess.Size in
    let left : says_leave c.if-in_flight.permission (next_marks c.next_time.new.self) ≡ true =
    elim c.if-in_flight.branch [
      | then-in_flight+in_ok-permission w ↦
          more_said c.if-in_flight.permission c.if-in_flight.self.writing c.next_time.new.self c.in_ok-time.ensures.says_more
          (rw (w.permission-is, w.self-is) w.in_ok-permission.ensures.says)
      | else-in_flight w ↦ rw w.permission-is refl
    ] in
    let line : ℕ → Bool → Bool → SentLine = λ size in_flight leave. record {
      space = o.packet.space;
      number = o.packet.number;
      size = size;
      eliciting = o.packet.content.is_eliciting;
      in_flight = in_flight;
      is_size_guessed = says;
      says_leave = leave;
    } in
    let told : told_in c.keep_sent.new.self.writing ≡ with_sent before (line_of o says ∷ []) =
    c.in_ok-keep_sent.ensures.told
    ∙ c.in_ok-write.ensures.told
    ∙ ap₂ (λ size in_flight. with_sent (told_in c.next_time.new.self) (line size in_flight (says_leave c.if-in_flight.permission (next_marks c.next_time.new.self)) ∷ []))
    c.get-2.ensures.value c.is_in_flight-in_flight.ensures.value
    ∙ ap (λ leave. with_sent (told_in c.next_time.new.self) (line o.size (is_in_flight o.packet.content || o.is_padded) leave ∷ [])) left
    ∙ ap (λ t. with_sent t (line_of o says ∷ [])) timed in
    wrote_one c.args.self.now.keys.retired o says before (told_in c.keep_sent.new.self.writing) told
    (λ known.
    let first : will_say c.if-packet.self.writing guess.Size ≡ true =
    elim c.if-packet.branch [
      | then-packet+in_ok-guess w ↦ ap (λ (x : Conversion). will_say x.writing guess.Size) w.self-is ∙ w.in_ok-guess.ensures.says
      | else-packet w ↦ let without : o.is_size_guessed ≡ false = w.if-packet.false in cc
    ] in
    let second : will_say c.if-in_flight.self.writing guess.Size ≡ true =
    elim c.if-in_flight.branch [
      | then-in_flight+in_ok-permission w ↦
          ap (λ (x : Conversion). will_say x.writing guess.Size) w.self-is ∙ w.in_ok-permission.ensures.says_more guess.Size first
      | else-in_flight w ↦ ap (λ (x : Conversion). will_say x.writing guess.Size) w.self-is ∙ first
    ] in
    c.in_ok-time.ensures.says_more guess.Size second)
